-- The End of a strand that stands at a nodelet is not held up there: its result is nowhere yet.
use Rattle.std.proofs.Common.{◌≡◌, ℕ, Option, Some, None, refl, sym, ap, ◌∙◌, subst, Bool, true, false, not, ◌||◌, is_some, ℤ}
use Rattle.std.specs.Prelude.{◌==◌}
use Rattle.std.proofs.lemmas.Bool.{eqb-true}
use Rattle.word_ops.specs.declared.name.Name.{Name}
use Rattle.word_ops.specs.declared.ticket.Ticket.{Ticket}
use Rattle.world_model.specs.Action.{Action, Turn, Load, Issue, Fetch, Init, Fence, Move, Where, Print, Alloc, Spawn, Sync, End, Trap}
use Rattle.world_model.specs.World.{World, strand_of, value_in}
use Rattle.core_model.specs.Contexts.{Context, context_of}
use Rattle.core_model.specs.Nodes.{Setup, Node}
use Rattle.core_model.specs.Runs.{is_free, has_no_result}
use Rattle.core_model.specs.Core.{Core}
use Rattle.core_model.proofs.Invariant.Views.{view}
use Rattle.core_model.proofs.Invariant.Statement.{relative, relative_of, result_by, promise, IsGiven, relatives_in, results_in, returns_in, Invariant}
use Rattle.core_model.proofs.Invariant.StandingStrand.{Present, present}

module _ (u : Setup) (c : Core) (w : World) (inv : Invariant u c w) (q : Name) (k : ℕ) (x : Context) (found : context_of q (c.nodes k).contexts ≡ Some x) where
  abbrev v : Node
  v = c.nodes k

  abbrev p : Present u inv.tickets (view c q) q (strand_of w q) k x
  p = present u inv.tickets (view c q) q (strand_of w q) k x (inv.each q) found

  -- the result of a strand that lives is nowhere
  no_result : (t : Ticket) → inv.tickets q ≡ Some t → (t.home == k) ≡ true → is_some (v.results t.parent t.depth t.order) ≡ false
  no_result t has home =
      let known : relatives_in w q ≡ Some (relative_of p.s) = ap relative p.known in
      let parent = inv.kin.ticket q (relative_of p.s) t known p.here.live has in
      let given : IsGiven (results_in c (parent.0).home t.parent t.depth t.order) (λ a. returns_in c a (parent.0).home t.parent t.depth t.order) (result_by (relatives_in w q)) =
      subst (λ (o : Option Name). IsGiven (results_in c (parent.0).home t.parent t.depth t.order) (λ a. returns_in c a (parent.0).home t.parent t.depth t.order) (promise (relatives_in w) o)) parent.3 (inv.kin.given t.parent parent.0 parent.1 t.depth t.order) in
      let none : result_by (relatives_in w q) ≡ None = ap result_by known ∙ ap value_in p.here.live in
      let nothing : IsGiven (results_in c (parent.0).home t.parent t.depth t.order) (λ a. returns_in c a (parent.0).home t.parent t.depth t.order) None =
      subst (λ (o : Option ℤ). IsGiven (results_in c (parent.0).home t.parent t.depth t.order) (λ a. returns_in c a (parent.0).home t.parent t.depth t.order) o) none given in
      ap (λ h. is_some ((c.nodes h).results t.parent t.depth t.order)) (sym (eqb-true _ _ home) ∙ parent.2) ∙ ap is_some nothing.0

  free_by : (ticket : Option Ticket) → x.ticket ≡ ticket → (action : Action) → is_free k v ticket action ≡ true
  free_by None has action = refl
  free_by (Some t) has (End value) = go (t.home == k) refl
    where
      go : (b : Bool) → (t.home == k) ≡ b → (not b || has_no_result v (Some t)) ≡ true
      go false e = refl
      go true e = ap not (no_result t (sym p.here.ticket ∙ has) e)
  free_by (Some t) has Turn = refl
  free_by (Some t) has (Load at a) = refl
  free_by (Some t) has (Issue at op a word) = refl
  free_by (Some t) has (Fetch at f a) = refl
  free_by (Some t) has (Init at a word) = refl
  free_by (Some t) has Fence = refl
  free_by (Some t) has (Move at a) = refl
  free_by (Some t) has Where = refl
  free_by (Some t) has (Print bytes) = refl
  free_by (Some t) has (Alloc request) = refl
  free_by (Some t) has (Spawn d f args hint) = refl
  free_by (Some t) has (Sync d) = refl
  free_by (Some t) has (Trap at kind) = refl

  pub live_free : (action : Action) → is_free k v x.ticket action ≡ true
  live_free action = free_by x.ticket refl action
