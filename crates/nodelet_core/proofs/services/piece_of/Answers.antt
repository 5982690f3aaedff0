use Rattle.std.proofs.Common.{◌≡◌, suc, ◌<◌, [], ap, sym, ◌∙◌, ◌++◌, length, refl, Some, None, Bool, true, false, List, ℤ}
use Rattle.std.specs.Prelude.{slice_get, slice_index_or, option_and_then}
use Rattle.std.proofs.lemmas.Option.{get_or_from_slice_get}
use Rattle.std.proofs.lemmas.Option.{same_Some}
use Rattle.std.proofs.lemmas.Result.{IfOk-weaker}
use Rattle.word_ops.specs.Formats.{printed}
use Rattle.world_model.specs.Action as act
use Rattle.threadlet_code.specs.declared.instr.Instr.TheVariants as by
use Rattle.threadlet_code.specs.Naming.{format_named, function_named}
use Rattle.threadlet_code.specs.Machine.{place_in}
use Rattle.threadlet_code.proofs.Kept.{keeps_rules}
use Rattle.threadlet_state.specs.Activations.{activation}
use Rattle.threadlet_state.proofs.Here.{deepest, function_there, place_there, step_is, enough, laid, under}
use Rattle.nodelet_core.proofs.Asking.{due_in, plain_asks}
use Rattle.nodelet_core.proofs.Printing.{prints, others_quiet, never_prints}
use Rattle.core_model.specs.Runs.{action_in}
use Rattle.nodelet_core.proofs.services.piece_of.Goals as goal

pub at-f-requires : goal.at-f-requires
at-f-requires c =
    let d = deepest c.args.code.now c.requires.sound c.args.frames.now c.requires.fits c.len.result c.len.ensures c.at-frame.result.now c.at-frame.ensures in
    function_there d

pub at-instr-requires : goal.at-instr-requires
at-instr-requires c =
    let d = deepest c.args.code.now c.requires.sound c.args.frames.now c.requires.fits c.len.result c.len.ensures c.at-frame.result.now c.at-frame.ensures in
    place_there d c.at-f.result.now c.at-f.ensures

pub returns-in_default : goal.returns-in_default
returns-in_default c = λ action comes is.
    let d = deepest c.args.code.now c.requires.sound c.args.frames.now c.requires.fits c.len.result c.len.ensures c.at-frame.result.now c.at-frame.ensures in
    let code = c.args.code.now in
    let f = c.at-f.result.now in
    let instr = c.at-instr.result.now in
    let next = step_is d f c.at-f.ensures instr c.at-instr.ensures in
    absurd (let wrong : false ≡ true =
    never_prints _ (ap (λ n. prints (due_in n)) next ∙ others_quiet code (place_in f c.at-frame.result.now.at) (activation f.slots c.at-frame.result.now) (under d) instr c.in_default.not-Print)
    action comes is in cc)

pub operand_count-requires : goal.operand_count-requires
operand_count-requires c =
    let d = deepest c.args.code.now c.requires.sound c.args.frames.now c.requires.fits c.len.result c.len.ensures c.at-frame.result.now c.at-frame.ensures in
    let frame = c.at-frame.result.now in
    let keeps = keeps_rules c.args.code.now c.requires.sound frame.function c.at-f.result.now c.at-f.ensures in
    let at_instr = c.at-instr.ensures ∙ ap Some c.in-Print.is in
    record {
      function = λ g named. keeps.functions frame.at g (ap (option_and_then function_named) at_instr ∙ named);
      format = λ i named. keeps.formats frame.at i (ap (option_and_then format_named) at_instr ∙ named);
    }

pub top_words-requires : goal.top_words-requires
top_words-requires c =
    let d = deepest c.args.code.now c.requires.sound c.args.frames.now c.requires.fits c.len.result c.len.ensures c.at-frame.result.now c.at-frame.ensures in
    let f = c.at-f.result.now in
    record {
      laid = laid d f c.at-f.ensures;
      enough = enough d f c.at-f.ensures (by.Print c.in-Print.number) (c.at-instr.ensures ∙ ap Some c.in-Print.is) c.operand_count.result c.operand_count.ensures;
    }

pub at-requires : goal.at-requires
at-requires c =
    let frame = c.at-frame.result.now in
    let keeps = keeps_rules c.args.code.now c.requires.sound frame.function c.at-f.result.now c.at-f.ensures in
    keeps.formats frame.at c.in-Print.number (ap (option_and_then format_named) (c.at-instr.ensures ∙ ap Some c.in-Print.is))

pub returns : goal.returns
returns c =
    let d = deepest c.args.code.now c.requires.sound c.args.frames.now c.requires.fits c.len.result c.len.ensures c.at-frame.result.now c.at-frame.ensures in
    let code = c.args.code.now in
    let frame = c.at-frame.result.now in
    let f = c.at-f.result.now in
    let n = c.in-Print.number in
    let words = c.top_words.result.now in
    let next = step_is d f c.at-f.ensures (by.Print n) (c.at-instr.ensures ∙ ap Some c.in-Print.is) in
    let asks_it = plain_asks code (place_in f frame.at) (activation f.slots frame) (under d) (by.Print n) (λ op e. absurd cc) (λ g e. absurd cc) (λ e. absurd cc)
    c.operand_count.result words _ c.operand_count.ensures c.top_words.ensures.took in
    let layout : slice_index_or code.formats n [] ≡ c.at.result.now = get_or_from_slice_get code.formats n c.at.result.now [] c.at.ensures in
    let same_words : c.extend_from_slice.new.self ≡ words = c.in_ok-extend_from_slice.ensures.ok ∙ ap (λ l. l ++ words) c.new-words.ensures in
    IfOk-weaker c.format.result _ _
    (λ piece wrote action comes is.
    same_Some action (act.Print _) (sym comes ∙ ap action_in next ∙ asks_it ∙ ap (λ layout. Some (act.Print (printed layout words))) layout)
    ∙ ap act.Print (ap (printed c.at.result.now) (sym same_words) ∙ sym wrote))
    c.format.ensures
