use Rattle.std.proofs.Common.{◌≡◌, ◌+◌, map, refl, ap, ◌∙◌, arith}
use Rattle.std.specs.List.{list_any}
use Rattle.nodelet_mem.specs.Words.{word_of, is_granted}
use Rattle.spawn_tree.specs.Joining.{result_of}
use Rattle.ack_fence.specs.Counting.{count_of}
use Rattle.data_layout.specs.Cursor.{first_cursor}
use Rattle.data_layout.specs.CursorTable.{cursor_of}
use Rattle.world_model.specs.World.{lies_in}
use Rattle.world_model.specs.Run.{first_grants}
use Rattle.threadlet_code.specs.declared.code.Code.{Code}
use Rattle.nodelet_core.specs.Carried.{context_in}
use Rattle.core_model.specs.Nodes.{Setup}
use Rattle.nodelet_core.specs.Kept.{first_number}
use Rattle.nodelet_core.specs.code.Tallied.{tallies_of}
use Rattle.nodelet_core.proofs.Starts.{start_is, blank_is}
use Rattle.nodelet_core.proofs.nodelet.Nodelet.new.Goals as goal

pub returns-clause-node : goal.returns-clause-node
returns-clause-node c =
    let code : Code = c.args.code.now.code in
    let n = c.args.n in
    let here = c.args.number in
    let m : Setup = record { code = code; nodelets = n; turns = c.args.turns; rules = c.args.rules } in
    let words = c.in_ok-first_words.field-0 in
    let tally = c.in_ok-new.field-0 in
    let next : first_number here + 0 ≡ first_number here = omega arith in
    start_is m here (word_of words) (is_granted words)
    (map (context_in code) c.in_ok-first_contexts.field-0.contexts.items)
    (result_of c.new.result) (count_of c.new-2.result) (cursor_of c.new-3.result.cursors) c.new-3.result.pieces (first_number here + 0)
    (tallies_of tally (record { turns = 0; applied = 0; sent_contexts = 0 }))
    c.in_ok-first_words.ensures.words
    (λ a. c.in_ok-first_words.ensures.grants a ∙ ap (λ (x : Code). list_any (lies_in a) (first_grants x.globals x.replicated here)) c.code-text.ensures.code)
    (c.in_ok-first_contexts.ensures.node m refl)
    c.new.ensures c.new-2.ensures
    (λ v. c.new-3.ensures.cursors v ∙ ap (λ (x : Code). first_cursor n x.globals x.replicated v) c.code-text.ensures.code)
    c.new-3.ensures.pieces next (blank_is n tally c.in_ok-new.ensures)
