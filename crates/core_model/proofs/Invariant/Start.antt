-- The invariant holds before any event.
use Rattle.std.proofs.Common.{◌≡◌, ℕ, ◌≤◌, inl, List, [], ◌∷◌, length, Option, Some, None, refl, sym, ap, ◌∙◌, subst, arith, Bool, true, false, ⊎_elim, ℤ}
use Rattle.std.specs.Prelude.{if◌then◌else◌, ◌==◌, slice_get}
use Rattle.std.proofs.lemmas.Bool.{eqb-true}
use Rattle.word_ops.specs.declared.name.Name.{Name}
use Rattle.word_ops.specs.declared.ticket.Ticket.{Ticket}
use Rattle.word_ops.specs.declared.rules.Rules.{Rules}
use Rattle.word_ops.specs.declared.rules.Rules.TheVariants.{Loose, Checked}
use Rattle.word_ops.specs.Naming.{same_name}
use Rattle.world_model.specs.World.{Strand, World, strand_of, main_name, children_at}
use Rattle.world_model.specs.World as world
use Rattle.world_model.specs.Effect.{newborn}
use Rattle.world_model.specs.Run.{start}
use Rattle.world_model.proofs.Bounds.{always_within}
use Rattle.world_model.proofs.Names.{name_cases, same_name_is}
use Rattle.threadlet_code.specs.declared.code.FuncCode.{FuncCode}
use Rattle.threadlet_code.specs.Breaches.{is_sound}
use Rattle.threadlet_code.specs.Rules.{can_start}
use Rattle.threadlet_code.specs.Running.{started}
use Rattle.threadlet_code.proofs.Leads.{rules_are_kept}
use Rattle.core_model.specs.Contexts.{context_of}
use Rattle.core_model.specs.Nodes.{Setup, Node}
use Rattle.core_model.specs.Nodes as node
use Rattle.core_model.specs.Start.{main_context, start_node}
use Rattle.core_model.specs.Core.{Core, start_core, setting_of}
use Rattle.core_model.proofs.Invariant.Sums.{total-zero}
use Rattle.core_model.proofs.Invariant.LatePositions.{all_lates-none}
use Rattle.core_model.proofs.Invariant.Views.{view}
use Rattle.core_model.proofs.Invariant.StrandStates.{IsStateOf, begun_is}
use Rattle.core_model.proofs.Invariant.Statement.{Known, Relative, relative, relative_of, promise, IsGiven, relatives_in, Invariant}
use Rattle.core_model.proofs.Invariant.StandingStrand.{stands-known}

module _ (u : Setup) (sound : is_sound u.code ≡ true) (some : 1 ≤ u.nodelets) where
  abbrev c : Core
  c = start_core u

  abbrev w : World
  w = start (setting_of u)

  abbrev main : Strand
  main = newborn u.code.main [] 0

  abbrev none : Name → Option Ticket
  none q = None

  granted : (r : Rules) (k : ℕ) (a : ℤ) → node.is_granted r (start_node u k) a ≡ world.is_granted r w k a
  granted Loose k a = refl
  granted Checked k a = refl

  main_state : IsStateOf u.code main (started u.code.main (slice_get u.code.functions u.code.main) [])
  main_state = by (slice_get u.code.functions u.code.main) refl (rules_are_kept u.code sound).0
    where
      by : (o : Option FuncCode) → slice_get u.code.functions u.code.main ≡ o → can_start o ≡ true → IsStateOf u.code main (started u.code.main (slice_get u.code.functions u.code.main) [])
      by None e f = absurd cc
      by (Some f) e g = begun_is u.code sound main f e (let z : f.params ≡ 0 = eqb-true _ _ g in let y : length main.args ≡ 0 = refl in y ∙ sym z) refl refl

  main_known : Known u none (view c main_name) main_name (Some main)
  main_known = stands-known u none (view c main_name) main_name main 0 (main_context u) (record {
    live = refl;
    parcels = record {
      items = λ a b. empty (a == 0);
      acks = λ a b f. refl;
      counted = sym (total-zero u.nodelets _ (λ b. let z : length (main.pending b) ≡ 0 = refl in omega arith));
      uncounted = λ a f. refl;
      beyond = λ b le. (refl, refl);
    };
    stands = λ j. stands j (j == 0);
    travels = λ a b. refl;
    name = refl;
    home = refl;
    place = refl;
    ticket = refl;
    state = main_state;
    late = sym (all_lates-none u.nodelets _ None (λ b. refl));
    bound = inl refl;
  })
    where
      empty : (t : Bool) → [] ≡ (if t then (let l : List world.Item = [] in l) else [])
      empty true = refl
      empty false = refl

      stands : (j : ℕ) (t : Bool) → context_of main_name (if t then main_context u ∷ [] else []) ≡ (if t then Some (main_context u) else None)
      stands j true = refl
      stands j false = refl

  other_known : (q : Name) → same_name q main_name ≡ false → Known u none (view c q) q (strand_of w q)
  other_known q ne = subst (λ (o : Option Strand). Known u none (view c q) q o) (sym (ap (λ t. if t then Some main else None) ne)) (record {
    gone = record { stands = λ j. nowhere (j == 0); travels = λ a b. refl };
    items = λ a b. refl;
    acks = λ a b. refl;
    under_way = λ a. refl;
  })
    where
      nowhere : (t : Bool) → context_of q (if t then main_context u ∷ [] else []) ≡ None
      nowhere true = ap (λ y. if y then Some (main_context u) else None) ne
      nowhere false = refl

  no_child : (p : Name) (r : Relative) → relatives_in w p ≡ Some r → r.children ≡ []
  no_child p r e = go (same_name p main_name) e
    where
      go : (t : Bool) → relative (if t then Some main else None) ≡ Some r → r.children ≡ []
      go true f = let z : relative_of main ≡ r = cc in ap (λ (y : Relative). y.children) (sym z)
      go false f = absurd cc

  no_slot : {A : Type 0} (p : Name) (r : Relative) → relatives_in w p ≡ Some r → (d o : ℕ) (x : Name) → slice_get (children_at d r.children) o ≡ Some x → A
  no_slot p r e d o x f = absurd (let z : None ≡ Some x = sym (ap (λ l. slice_get (children_at d l) o) (no_child p r e)) ∙ f in cc)

  pub starts : Invariant u c w
  starts = record {
    shares = record { cells = λ k a less. refl; granted = λ k a less. granted u.rules k a; cursors = λ view. refl; pieces = refl; turns = λ k less. refl };
    within = always_within (setting_of u) [] w some refl;
    tickets = none;
    each = λ q. ⊎_elim (λ e. subst (λ (r : Name). Known u none (view c r) r (strand_of w r)) (sym e) main_known) (λ ne. other_known q ne.0) (name_cases q main_name);
    kin = record {
      given = λ p r e d o. subst (λ (y : Option ℤ). IsGiven None (λ a. []) y) (sym (ap (λ l. promise (relatives_in w) (slice_get (children_at d l) o)) (no_child p r e))) (refl, λ a. refl);
      elsewhere = λ p r e k ne d o. (refl, λ a. refl);
      stranger = λ p e k d o. (refl, λ a. refl);
      child = λ p r e d o x f. no_slot p r e d o x f;
      exists = λ p r e d o x f. no_slot p r e d o x f;
      ticket = λ x t k e live f. absurd (let z : None ≡ Some k = f in cc);
    };
    fresh = record {
      free = λ q above. free q above (same_name q main_name) refl;
      begun = let z : (start_node u 0).next_number ≡ 1 = refl in omega arith;
    };
    orphans = λ q s e f. only q s (same_name q main_name) refl e;
    main_ticket = refl;
    main_value = (λ k y e. absurd cc, λ y e. absurd (let z : None ≡ Some y = e in cc));
  }
    where
      free : (q : Name) → (c.nodes q.nodelet).next_number ≤ q.number → (t : Bool) → same_name q main_name ≡ t → (if t then Some main else None) ≡ None
      free q above false e = refl
      free q above true e = absurd (
          let is : q ≡ main_name = same_name_is q main_name e in
          let z : (start_node u 0).next_number ≤ 0 = subst (λ (r : Name). (c.nodes r.nodelet).next_number ≤ r.number) is above in
          let y : (start_node u 0).next_number ≡ 1 = refl in omega arith)

      only : (q : Name) (s : Strand) (t : Bool) → same_name q main_name ≡ t → (if t then Some main else None) ≡ Some s → q ≡ main_name
      only q s true e f = same_name_is q main_name e
      only q s false e f = absurd cc
