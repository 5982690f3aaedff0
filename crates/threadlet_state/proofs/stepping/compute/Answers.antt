use Rattle.std.proofs.Common.{◌<◌, ap, sym, ◌∙◌, subst, arith, rules, SFits, w64}
use Rattle.std.specs.Prelude.{slice_set}
use Rattle.std.proofs.lemmas.Int.{to_z-of_z}
use Rattle.threadlet_code.specs.Machine.{onward, push}
use Rattle.threadlet_code.specs.Naming.{slot_named}
use Rattle.threadlet_state.specs.declared.frame.Frame.{Frame}
use Rattle.threadlet_state.specs.Activations.{activation}
use Rattle.threadlet_state.specs.Silent.{Leads}
use Rattle.threadlet_state.proofs.Instructions.{slot_read, slot_written, get_leads, set_leads}
use Rattle.threadlet_state.proofs.stepping.compute.Goals as goal

pub at-word-requires : goal.at-word-requires
at-word-requires c =
    let inside : c.in-Get.slot < c.args.f.now.slots = c.requires.room.slot c.in-Get.slot (ap slot_named c.in-Get.is) in
    omega (arith, inside, c.requires.room.laid.words)

pub set-requires : goal.set-requires
set-requires c =
    let inside : c.in-Set.slot < c.args.f.now.slots = c.requires.room.slot c.in-Set.slot (ap slot_named c.in-Set.is) in
    omega (arith, inside, c.pop-word.ensures.laid.words)

pub returns-in-Get-clause-leads : goal.returns-in-Get-clause-leads
returns-in-Get-clause-leads c =
    let frame : Frame = c.args.frame.now in
    let next : Frame = c.push-in-Get.new.frame in
    let slots = c.args.f.now.slots in
    let inside : c.in-Get.slot < slots = c.requires.room.slot c.in-Get.slot (ap slot_named c.in-Get.is) in
    let word = c.at-word.result.now in
    let fits : SFits w64 word = search rules in
    subst (λ i. Leads i (activation slots frame) (onward (activation slots next))) (sym c.in-Get.is)
    (get_leads c.in-Get.slot word (activation slots frame) (activation slots next)
    (slot_read slots frame c.in-Get.slot word inside c.at-word.ensures)
    (c.push-in-Get.ensures.pushed ∙ ap (λ w. push w (activation slots frame)) (to_z-of_z w64 word fits)))

pub returns-in-Set-clause-leads : goal.returns-in-Set-clause-leads
returns-in-Set-clause-leads c =
    let frame : Frame = c.args.frame.now in
    let rest : Frame = c.pop-word.new.frame in
    let slots = c.args.f.now.slots in
    let word = c.pop-word.result in
    let next : Frame = record rest { words = c.set.new.self } in
    let fits : SFits w64 word = search rules in
    let inside : c.in-Set.slot < slots = c.requires.room.slot c.in-Set.slot (ap slot_named c.in-Set.is) in
    subst (λ i. Leads i (activation slots frame) (onward (activation slots next))) (sym c.in-Set.is)
    (set_leads c.in-Set.slot word (activation slots frame) (activation slots rest) (activation slots next) c.pop-word.ensures.popped
    (ap (λ words. activation slots (record rest { words = words })) c.set.ensures.new
    ∙ ap (λ w. activation slots (record rest { words = slice_set rest.words c.in-Set.slot w })) (to_z-of_z w64 word fits)
    ∙ slot_written slots rest c.in-Set.slot word inside))
