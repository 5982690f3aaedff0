use Rattle.std.proofs.Common.{◌≡◌, ℤ, ℕ, Bool, w64, SFits, rules, true, false, Option, Some, None, refl, sym, ap, ◌∙◌}
use Rattle.std.specs.Prelude.{not, is_some, option_map, option_and_then, if◌then◌else◌}
use Rattle.std.proofs.lemmas.Int.{to_z-of_z}
use Rattle.word_ops.specs.declared.place.Pos.{Pos}
use Rattle.world_model.specs.Action.{pos_of}
use Rattle.world_model.specs.Step.{used_at_once}
use Rattle.nodelet_core.specs.code.Dues.{asked}
use Rattle.core_model.specs.Nodes as nodes
use Rattle.nodelet_core.specs.Kept.{node_of, setup_of}
use Rattle.nodelet_core.proofs.nodelet.Nodelet.is_outside.Goals as goal

refused : (granted : Bool) (at : Pos) → not granted ≡ is_some (if granted then None else Some at)
refused true at = refl
refused false at = refl

-- Whether the word that is used is granted decides it.
used : (granted : ℤ → Bool) (at : Pos) (o : Option (ℕ × ℤ)) (a : ℤ) → Some a ≡ option_map (λ (u : ℕ × ℤ). u.1) o →
    not (granted a) ≡ is_some (option_and_then (λ (u : ℕ × ℤ). if granted u.1 then None else Some at) o)
used granted at None a e = absurd (let wrong : Some a ≡ None = e in cc)
used granted at (Some u) a e = let same : a ≡ u.1 = cc in ap (λ b. not (granted b)) same ∙ refused (granted u.1) at

pub returns-in-Some : goal.returns-in-Some
returns-in-Some c = λ code.
    let v = c.args.self.now in
    let action = asked c.args.due in
    let a = c.in-Some.address in
    let fits : SFits w64 a = search rules in
    ap not (c.is_granted.ensures code)
    ∙ ap (λ k. not (nodes.is_granted v.rules (node_of code v) k)) (to_z-of_z w64 a fits)
    ∙ used (λ k. nodes.is_granted v.rules (node_of code v) k) (pos_of action) (used_at_once v.nodelets v.number action) a c.in-Some.ensures
