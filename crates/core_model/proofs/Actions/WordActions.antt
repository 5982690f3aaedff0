-- An action that is done at a nodelet, whose effect is on words, on what is counted and on what its strand has pending.
use Rattle.std.proofs.Common.{◌≡◌, ℕ, ◌+◌, ◌≤◌, List, [], ◌∷◌, ◌++◌, length, map, Option, Some, None, refl, sym, ap, ◌∙◌, subst, arith, Bool, true, false, filter_map, ℤ, option_map, ◌&&◌, not}
use Rattle.std.specs.Prelude.{if◌then◌else◌, ◌==◌, nat_lt}
use Rattle.std.proofs.lemmas.Bool.Decides.{nat_tests}
use Rattle.word_ops.specs.declared.name.Name.{Name}
use Rattle.word_ops.specs.declared.rules.Rules.{Rules}
use Rattle.word_ops.specs.declared.rules.Rules.TheVariants.{Loose, Checked}
use Rattle.word_ops.specs.declared.step.Step.TheVariants.{Act}
use Rattle.word_ops.specs.declared.step.NodeEvent.{NodeEvent}
use Rattle.word_ops.specs.declared.ending.TrapKind.TheVariants.{OutOfBounds}
use Rattle.word_ops.specs.Naming.{same_name}
use Rattle.merge_law.specs.Machine.{Raw, stamped, is_linked}
use Rattle.world_model.specs.Action.{Action}
use Rattle.world_model.specs.Meaning.{children_after}
use Rattle.world_model.specs.World.{Item, Strand, World, lookup, with_strand, strand_of, children_at}
use Rattle.world_model.specs.World as world
use Rattle.world_model.specs.Effect as world_effect
use Rattle.world_model.specs.Step.{done_by, step}
use Rattle.world_model.proofs.Names.{same_name_refl, lookup-same, lookup-other}
use Rattle.threadlet_code.specs.Breaches.{is_sound}
use Rattle.threadlet_code.specs.Machine.{State, asks}
use Rattle.threadlet_code.specs.Machine as code
use Rattle.threadlet_code.specs.Running.{due}
use Rattle.core_model.specs.Contexts.{Context, Body, Issued, context_of}
use Rattle.core_model.specs.Nodes.{Setup, Node, Tallies, is_granted, one_more, with_tallies, moved_from}
use Rattle.core_model.specs.Effects.{Effect}
use Rattle.core_model.specs.Runs.{outside, went_on}
use Rattle.core_model.specs.Machine.{machine_of}
use Rattle.core_model.specs.Core.{Core, setting_of}
use Rattle.core_model.specs.Agreement.{SharesAll, cursor_home}
use Rattle.core_model.proofs.Invariant.ContextsByName.{context_of-with, context_of-with_other}
use Rattle.core_model.proofs.Invariant.Links.{with_first, sent, sent-none}
use Rattle.core_model.proofs.Invariant.Sums.{total}
use Rattle.core_model.proofs.Invariant.Views.{View, view, arrival_of, item_of, ack_of, result_of, after_run, view-after_run, sending}
use Rattle.core_model.proofs.Invariant.StrandStates.{answered_is}
use Rattle.core_model.proofs.Invariant.Statement.{Known, Invariant}
use Rattle.core_model.proofs.Invariant.OtherStrands.{Kept, LeavesStrands, QuietFor, leaves-run, framed, within-after}
use Rattle.core_model.proofs.Actions.StrandAfter.{none_of, same-sending, goes_on}
use Rattle.core_model.proofs.Actions.DueContext.{Before, seen_here}
use Rattle.core_model.proofs.Actions.Ways.{IsDone}
use Rattle.core_model.proofs.Actions.DoneOrRefused.{InWorld, in_world, refusal_at, acts_here}
use Rattle.core_model.proofs.Actions.StayOrLeave.{KeepsShared, granted-as, changed_at}

-- ---- what is shared, behind changes that keep it

abbrev pub Shares : Setup → Core → ℕ → Node → World → Type 0
Shares u c k v w = SharesAll u (record { nodes = changed_at c k v; links = λ a b. [] }) w

-- the same part of one of two nodes
either-at : {A : Type 0} (f : Node → A) (c : Core) (k : ℕ) (v v' : Node) → f v' ≡ f v → (j : ℕ) → f (changed_at c k v' j) ≡ f (changed_at c k v j)
either-at f c k v v' e j = go (j == k)
  where
    go : (t : Bool) → f (if t then v' else c.nodes j) ≡ f (if t then v else c.nodes j)
    go true = e
    go false = refl

granted-strand : (r : Rules) (w : World) (q : Name) (s : Strand) (j : ℕ) (a : ℤ) → world.is_granted r w j a ≡ world.is_granted r (with_strand w q s) j a
granted-strand Loose w q s j a = refl
granted-strand Checked w q s j a = refl

pub shares-as : (u : Setup) (c after : Core) (base : World) (q : Name) (s : Strand) (k : ℕ) (v v' : Node) → after.nodes ≡ changed_at c k v' → KeepsShared v v' → Shares u c k v base →
    SharesAll u after (with_strand base q s)
shares-as u c after base q s k v v' nodes keeps shares =
    let at : (j : ℕ) → after.nodes j ≡ changed_at c k v' j = λ j. ap (λ (f : ℕ → Node). f j) nodes in
    record {
      cells = λ j a less. ap (λ (y : Node). y.cells a) (at j) ∙ either-at (λ (y : Node). y.cells a) c k v v' (ap (λ f. f a) keeps.cells) j ∙ shares.cells j a less;
      granted = λ j a less. ap (λ (y : Node). is_granted u.rules y a) (at j)
          ∙ either-at (λ (y : Node). is_granted u.rules y a) c k v v' (granted-as u v v' a keeps.granted) j ∙ shares.granted j a less ∙ granted-strand u.rules base q s j a;
      cursors = λ view. ap (λ (y : Node). y.cursors view) (at (cursor_home view)) ∙ either-at (λ (y : Node). y.cursors view) c k v v' (ap (λ f. f view) keeps.cursors) (cursor_home view) ∙ shares.cursors view;
      pieces = ap (λ (y : Node). y.pieces) (at 0) ∙ either-at (λ (y : Node). y.pieces) c k v v' keeps.pieces 0 ∙ shares.pieces;
      turns = λ j less. ap (λ (y : Node). y.served) (at j) ∙ either-at (λ (y : Node). y.served) c k v v' keeps.served j ∙ shares.turns j less;
    }

-- a part of a node that a move does not count
pub moved-part : {A : Type 0} (f : Node → A) (here k : ℕ) (v : Node) → ((t : Tallies) → f (with_tallies v t) ≡ f v) → f (moved_from here k v) ≡ f v
moved-part f here k v same = go (k == here)
  where
    go : (t : Bool) → f (if t then v else with_tallies v (record v.tallies { moves = one_more v.tallies.moves k })) ≡ f v
    go true = refl
    go false = same _

-- ---- items of one strand

-- what stands on the links from nodelet k of what is sent
abbrev pub issued_to : ℕ → ℕ → (ℕ → List Item) → ℕ → List Item
issued_to n k out b = if is_linked n k b then out b else []

pub issued_beyond : (n k : ℕ) (out : ℕ → List Item) (b : ℕ) → n ≤ b → issued_to n k out b ≡ []
issued_beyond n k out b le = by (nat_lt k n) (nat_lt b n) (grind (arith, nat_tests))
  where
    by : (s t : Bool) → t ≡ false → (if s && t && not (k == b) then out b else []) ≡ []
    by true t e = ap (λ y. if y && not (k == b) then out b else []) e
    by false t e = refl

module _ (name : Name) where
  pub issued-items : (q : Name) → same_name q name ≡ true → (l : List Item) → filter_map (item_of q) (map (Issued name) l) ≡ l
  issued-items q own [] = refl
  issued-items q own (item ∷ l) = ap (λ t. with_first (if t then Some item else None) (filter_map (item_of q) (map (Issued name) l))) own ∙ ap (λ y. item ∷ y) (issued-items q own l)

  pub issued-other_items : (r : Name) → same_name r name ≡ false → (l : List Item) → filter_map (item_of r) (map (Issued name) l) ≡ []
  issued-other_items r ne [] = refl
  issued-other_items r ne (item ∷ l) = ap (λ t. with_first (if t then Some item else None) (filter_map (item_of r) (map (Issued name) l))) ne ∙ issued-other_items r ne l

  pub issued-none : {A : Type 0} (f : Body → Option A) → ((item : Item) → f (Issued name item) ≡ None) → (l : List Item) → filter_map f (map (Issued name) l) ≡ []
  issued-none f none [] = refl
  issued-none f none (item ∷ l) = ap (λ y. with_first y (filter_map f (map (Issued name) l))) (none item) ∙ issued-none f none l

-- ---- plain effects

module _ (u : Setup) (sound : is_sound u.code ≡ true) (c : Core) (w : World) (inv : Invariant u c w) (k : ℕ) (q : Name) (x : Context) (state : State) (action : Action) (b : Before u c w inv k q x state action) where
  abbrev v : Node
  v = c.nodes k

  -- the strand that went on
  abbrev pub gone_on : (ℕ → List Item) → List ℤ → Strand
  gone_on pending answer = record b.s { place = k; answers = b.s.answers ++ answer ∷ []; pending = pending }

  -- an effect at the nodelet, and in the world
  pub record IsPlain (e : Effect) : Type 0 where
    pub out : ℕ → List Item
    pub contexts : e.node.contexts ≡ v.contexts
    pub results : e.node.results ≡ v.results
    pub next_number : e.node.next_number ≡ v.next_number
    pub main_value : e.node.main_value ≡ v.main_value
    pub counts : (r : Name) → same_name r x.name ≡ false → e.node.under_way r ≡ v.under_way r
    pub raised : e.node.under_way x.name ≡ v.under_way x.name + total u.nodelets (λ d. length (issued_to u.nodelets k out d))
    pub sends : (d : ℕ) → e.sends d ≡ map (Issued x.name) (out d)
    pub child : e.child ≡ None
    pub base : World
    pub pending : ℕ → List Item
    pub strands : base.strands ≡ w.strands
    pub adds : (d : ℕ) → pending d ≡ b.s.pending d ++ issued_to u.nodelets k out d
    pub is : world_effect.effect (setting_of u) w q b.s None action ≡ Some (with_strand base q (gone_on pending e.answer))
    pub shares : Shares u c k e.node base
    pub children : (d : ℕ) → children_after action (λ f. length (children_at f b.s.children)) d ≡ length (children_at d b.s.children)

  pub plain_kept : (stamp : ℕ) (event : ℕ → NodeEvent) (count : ℕ) (resume : List ℤ → State) → 1 ≤ u.nodelets → due u.code state ≡ asks action resume → code.step u.code state ≡ asks action resume →
      (free : Bool) → IsDone u.nodelets u.turns (seen_here u sound c w inv k q x state action b) action free → outside u k v action ≡ None → (e : Effect) → IsPlain e →
      Kept u w (after_run u c k stamp event (went_on k x count resume e)) (went_on k x count resume e).step
  plain_kept stamp event count resume some is_due is_next free done granted e p = record {
    world = world';
    leads = leads;
    holds = framed u c after w world' q b.s s' inv (leaves-run u c k stamp event raw q rest) strands (within-after u w world' raw.step some inv.within leads)
        (shares-as u c after p.base q s' k e.node (stamped (machine_of u) k stamp event raw).node refl keeps p.shares) mine;
  }
    where
      raw : Raw Node Body
      raw = went_on k x count resume e

      x' : Context
      x' = record x { place = k; state = resume e.answer }

      s' : Strand
      s' = gone_on p.pending e.answer

      world' : World
      world' = with_strand p.base q s'

      after : Core
      after = after_run u c k stamp event raw

      i : InWorld u sound c w inv k q x state action b
      i = in_world u sound c w inv k q x state action b free done

      leads : step (setting_of u) w (Act x.name e.child) ≡ Some world'
      leads =
          ap (λ (y : Option Name). step (setting_of u) w (Act x.name y)) p.child
          ∙ ap (λ (r : Name). step (setting_of u) w (Act r None)) b.here.name
          ∙ acts_here u sound c w inv k q x state action b None free done
          ∙ ap (λ o. done_by (setting_of u) w q b.s None action (option_map (refusal_at k OutOfBounds) o)) granted
          ∙ p.is

      keeps : KeepsShared e.node (stamped (machine_of u) k stamp event raw).node
      keeps = record {
        cells = moved-part (λ (y : Node). y.cells) k x.place e.node (λ t. refl);
        granted = moved-part (λ (y : Node). y.granted) k x.place e.node (λ t. refl);
        cursors = moved-part (λ (y : Node). y.cursors) k x.place e.node (λ t. refl);
        pieces = moved-part (λ (y : Node). y.pieces) k x.place e.node (λ t. refl);
        served = moved-part (λ (y : Node). y.served) k x.place e.node (λ t. refl);
      }

      other : (r : Name) → same_name r q ≡ false → same_name r x.name ≡ false
      other r ne = ap (same_name r) b.here.name ∙ ne

      own : same_name q x.name ≡ true
      own = ap (same_name q) b.here.name ∙ same_name_refl q

      counts : (moved_from k x.place e.node).under_way ≡ e.node.under_way
      counts = moved-part (λ (y : Node). y.under_way) k x.place e.node (λ t. refl)

      rest : QuietFor v q raw
      rest = record {
        contexts = λ r ne. context_of-with_other r x' (moved_from k x.place e.node).contexts (other r ne)
            ∙ ap (context_of r) (moved-part (λ (y : Node). y.contexts) k x.place e.node (λ t. refl) ∙ p.contexts);
        counts = λ r ne. ap (λ f. f r) counts ∙ p.counts r (other r ne);
        results = moved-part (λ (y : Node). y.results) k x.place e.node (λ t. refl) ∙ p.results;
        next_number = moved-part (λ (y : Node). y.next_number) k x.place e.node (λ t. refl) ∙ p.next_number;
        main_value = moved-part (λ (y : Node). y.main_value) k x.place e.node (λ t. refl) ∙ p.main_value;
        arrivals = λ r ne d. ap (filter_map (arrival_of r)) (p.sends d) ∙ issued-none x.name (arrival_of r) (λ item. refl) (p.out d);
        items = λ r ne d. ap (filter_map (item_of r)) (p.sends d) ∙ issued-other_items x.name r (other r ne) (p.out d);
        acks = λ r ne d. ap (filter_map (ack_of r)) (p.sends d) ∙ issued-none x.name (ack_of r) (λ item. refl) (p.out d);
        returns = λ r d o a. ap (filter_map (result_of r d o)) (p.sends a) ∙ issued-none x.name (result_of r d o) (λ item. refl) (p.out a);
      }

      strands : LeavesStrands w world' q b.s s'
      strands = record {
        known = b.known;
        now = lookup-same q s' p.base.strands;
        others = λ r ne. lookup-other r q s' p.base.strands ne ∙ ap (lookup r) p.strands;
        home = refl;
        children = refl;
        status = refl;
      }

      sent_items : (d : ℕ) → sent (item_of q) u.nodelets k raw.bodies d ≡ issued_to u.nodelets k p.out d
      sent_items d = ap (λ l. if is_linked u.nodelets k d then l else []) (ap (filter_map (item_of q)) (p.sends d) ∙ issued-items x.name q own (p.out d))

      found : context_of q raw.node.contexts ≡ Some x'
      found = subst (λ (r : Name). context_of r raw.node.contexts ≡ Some x') b.here.name (context_of-with x' (moved_from k x.place e.node).contexts)

      raised : raw.node.under_way q ≡ v.under_way q + total u.nodelets (λ d. length (issued_to u.nodelets k p.out d))
      raised = ap (λ f. f q) counts ∙ subst (λ (r : Name). e.node.under_way r ≡ v.under_way r + total u.nodelets (λ d. length (issued_to u.nodelets k p.out d))) b.here.name p.raised

      view_is : view after q ≡ sending (view c q) k (Some x') ((view c q).under_way k + total u.nodelets (λ d. length (issued_to u.nodelets k p.out d))) none_of (issued_to u.nodelets k p.out) none_of
      view_is =
          view-after_run u c k stamp event raw q
          ∙ same-sending (view c q) k _ _ _ _ _ _ _ _ _ _ found raised
          (λ d. sent-none (arrival_of q) u.nodelets k raw.bodies d (ap (filter_map (arrival_of q)) (p.sends d) ∙ issued-none x.name (arrival_of q) (λ item. refl) (p.out d)))
          sent_items
          (λ d. sent-none (ack_of q) u.nodelets k raw.bodies d (ap (filter_map (ack_of q)) (p.sends d) ∙ issued-none x.name (ack_of q) (λ item. refl) (p.out d)))

      mine : Known u inv.tickets (view after q) q (Some s')
      mine = subst (λ (y : View). Known u inv.tickets y q (Some s')) (sym view_is)
          (goes_on u inv.tickets (view c q) q b.s k x b.here i.how (issued_to u.nodelets k p.out) (λ d le. issued_beyond u.nodelets k p.out d le) s' x' refl refl refl refl refl (record {
            status = refl;
            home = refl;
            place = refl;
            pending = p.adds;
            late = refl;
            state = answered_is u.code sound b.s s' state action resume e.answer is_due is_next b.is refl refl refl p.children;
          }))
