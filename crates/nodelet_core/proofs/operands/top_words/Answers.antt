use Rattle.std.proofs.Common.{◌≡◌, ◌+◌, ◌-◌, ◌≤◌, List, ℤ, Some, ap, sym, ◌∙◌, arith, length, take, drop, reverse}
use Rattle.std.specs.List.{slice_range}
use Rattle.std.proofs.lemmas.List.{length-take-le, length-drop}
use Rattle.threadlet_state.proofs.Stacks.{arguments_taken}
use Rattle.nodelet_core.proofs.operands.top_words.Goals as goal

pub returns : goal.returns
returns c =
    let slots = c.args.f.now.slots in
    let frame = c.args.frame.now in
    let count = c.args.count in
    let words = c.as_slice.result.now in
    let same : words ≡ frame.words = c.as_slice.ensures in
    let inside : slots + frame.top ≤ length frame.words = omega (arith, c.requires.laid.words, c.requires.laid.top) in
    let many : slots + frame.top - (slots + frame.top - count) ≡ count = omega (arith, c.requires.enough) in
    record {
      size = length-take-le _ (drop (slots + frame.top - count) words) (omega (arith, length-drop (slots + frame.top - count) words, inside, ap length same)) ∙ many;
      took = arguments_taken slots frame.top count frame.words c.requires.enough inside
          ∙ ap (λ (l : List ℤ). Some (slice_range l (slots + frame.top - count) (slots + frame.top), reverse (take (frame.top - count) (drop slots frame.words)))) (sym same);
    }
