use Rattle.std.proofs.Common.{◌≡◌, ◌++◌, ◌∷◌, ◌-◌, [], List, length, Option, Some, refl, sym, ap, ◌∙◌, arith}
use Rattle.std.specs.Prelude.{slice_get, option_and_then, ◌≤◌}
use native.Mathlib.Numerals.{unary_clauses}
use Rattle.std.proofs.lemmas.List.{length-append}
use Rattle.word_ops.specs.declared.step.Step.{Step}
use Rattle.word_ops.specs.declared.step.Entry.{Entry}
use Rattle.sim_core.specs.Advanced.{entries_in}
use Rattle.serial_sim.proofs.playing.last_step.Goals as goal

-- the last of a list
last : (before : List Entry) (x : Entry) → slice_get (before ++ x ∷ []) (length (before ++ x ∷ []) - 1) ≡ Some x
last [] x = refl
last (y ∷ before) x = shift (before ++ x ∷ []) (last before x) some
  where
    some : 1 ≤ length (before ++ x ∷ [])
    some = omega (arith, length-append before (x ∷ []))

    shift : (l : List Entry) → slice_get l (length l - 1) ≡ Some x → 1 ≤ length l → slice_get (y ∷ l) (length (y ∷ l) - 1) ≡ Some x
    shift [] e h = absurd (omega arith)
    shift (z ∷ l) e h = simp unary_clauses (simp unary_clauses at e)

pub returns : goal.returns
returns c = λ before entry is.
    let same : c.entries-entries.result.now ≡ before ++ entry ∷ [] = c.entries-entries.ensures ∙ ap entries_in (sym c.node.ensures) ∙ is in
    let here : Some c.at.result.now ≡ Some entry =
    sym c.at.ensures ∙ ap (λ n. slice_get c.entries-entries.result.now (n - 1)) c.len.ensures ∙ ap (λ (l : List Entry). slice_get l (length l - 1)) same ∙ last before entry in
    let P : Option Entry → Option Step = λ o. option_and_then (λ (e : Entry). e.step) o in
    ap P here
