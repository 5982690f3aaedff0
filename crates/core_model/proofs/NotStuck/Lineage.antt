-- What every step of a run keeps of the world's strands: the order of births, and that main is one of them.
use Rattle.std.proofs.Common.{◌≡◌, ℕ, List, [], ◌∷◌, Option, Some, None, refl, sym, ap, ◌∙◌, subst, Bool, true, false, ⊎_elim, ℤ, pos, not, is_some, option_and_then, map, unwrap_or}
use Rattle.std.specs.Prelude.{if◌then◌else◌, ◌==◌}
use Rattle.word_ops.specs.declared.name.Name.{Name}
use Rattle.word_ops.specs.declared.step.Step.{Step}
use Rattle.word_ops.specs.declared.step.Step.TheVariants.{Act, Apply}
use Rattle.word_ops.specs.declared.place.Pos.{Pos}
use Rattle.mem_atomics.specs.declared.op.Op.{Op}
use Rattle.mem_atomics.specs.declared.op.Op.TheVariants.{Store}
use Rattle.mem_atomics.specs.NewWord.{applied, fetched}
use Rattle.data_layout.specs.Address.{owner_of}
use Rattle.data_layout.specs.Cursor.{allocated_at, cursors_after}
use Rattle.merge_law.proofs.Somes.{some_is}
use Rattle.merge_law.proofs.Pairs.{each_filter}
use Rattle.world_model.specs.Action.{Action, Turn, Load, Issue, Fetch, Init, Fence, Move, Where, Print, Alloc, Spawn, Sync, End, Trap, Request, Striped, Blocked, Local, Replicated, Hint}
use Rattle.world_model.specs.Allocation.{server_of, taken_from}
use Rattle.world_model.specs.Sight.{place_after}
use Rattle.world_model.specs.World.{Setting, Extent, Item, Operation, Grant, Strand, World, main_name, lookup, strand_of, is_granted, value_of, children_at, with_at, with_entry, with_strand, with_word, with_pending, with_pending_but, with_answer, Ended, with_turn, with_piece, with_trap}
use Rattle.world_model.specs.Effect.{sight_of, effect, newborn, birthplace, goes_on, with_child, without_children, spawned, issued, served_with, grant_of, announces, with_fresh}
use Rattle.world_model.specs.Step.{late_after, applied_at, step}
use Rattle.world_model.specs.Run.{start, run_from, run_of}
use Rattle.world_model.proofs.Names.{same_name_refl}
use Rattle.world_model.proofs.Steps.{Acted, acted_by}
use Rattle.core_model.proofs.NotStuck.BirthOrder.{Entries, Has, InBirthOrder, still_there, same_children, Writes, writes, order-born}

-- ---- what actions write

as_world : (w : World) (name : Name) (s : Strand) (x v : World) → Some x ≡ Some v → Writes w name s x → Writes w name s v
as_world w name s x v e h = subst (λ (y : World). Writes w name s y) (some_is x v e) h

-- a strand that keeps its children is written into a world with these strands
alone : (w : World) (name : Name) (s : Strand) (base : World) (after : Strand) → base.strands ≡ w.strands → after.children ≡ s.children → Writes w name s (with_strand base name after)
alone w name s base after strands same = writes w name s (with_strand base name after) after (ap (λ (es : Entries). with_entry name after es) strands) (same_children s after same)

issue_writes : (u : Setting) (w : World) (name : Name) (s : Strand) (at : Pos) (op : Op) (a word : ℤ) → Writes w name s (issued u w name s at op a word)
issue_writes u w name s at op a word = go (owner_of a s.place u.nodelets == s.place)
  where
    go : (t : Bool) → Writes w name s
        (if t then goes_on (with_word w (owner_of a s.place u.nodelets) a (applied op (w.cells (owner_of a s.place u.nodelets) a) word)) name s (owner_of a s.place u.nodelets) []
        else goes_on w name (with_pending s (owner_of a s.place u.nodelets) (Operation op a word at)) s.place [])
    go true = alone w name s (with_word w (owner_of a s.place u.nodelets) a (applied op (w.cells (owner_of a s.place u.nodelets) a) word)) (with_answer s (owner_of a s.place u.nodelets) []) refl refl
    go false = alone w name s w (with_answer (with_pending s (owner_of a s.place u.nodelets) (Operation op a word at)) s.place []) refl refl

pub fresh_strands : (w : World) (k : ℕ) (fresh : Option Extent) → (with_fresh w k fresh).strands ≡ w.strands
fresh_strands w k None = refl
fresh_strands w k (Some extent) = refl

pub announces_children : (n : ℕ) (s : Strand) (k : ℕ) (request : Request) (fresh : Option Extent) → (announces n s k request fresh).children ≡ s.children
announces_children n s k request None = refl
announces_children n s k (Local at c a) (Some extent) = refl
announces_children n s k (Striped c) (Some extent) = refl
announces_children n s k (Blocked b c) (Some extent) = refl
announces_children n s k (Replicated c) (Some extent) = refl

pub announces_status : (n : ℕ) (s : Strand) (k : ℕ) (request : Request) (fresh : Option Extent) → (announces n s k request fresh).status ≡ s.status
announces_status n s k request None = refl
announces_status n s k (Local at c a) (Some extent) = refl
announces_status n s k (Striped c) (Some extent) = refl
announces_status n s k (Blocked b c) (Some extent) = refl
announces_status n s k (Replicated c) (Some extent) = refl

alloc_writes : (u : Setting) (w : World) (name : Name) (s : Strand) (request : Request) (taken : Option (ℕ × ℤ)) → Writes w name s (served_with u w name s request taken)
alloc_writes u w name s request None = alone w name s w (with_answer s (server_of u.nodelets s.place request) (pos 0 ∷ [])) refl refl
alloc_writes u w name s request (Some (view, count)) =
    let k = server_of u.nodelets s.place request in
    let address = allocated_at w.cursors view count in
    let fresh = grant_of u.rules address count in
    let moved : World = record w { cursors = cursors_after u.nodelets w.cursors view count } in
    alone w name s (with_fresh moved k fresh) (with_answer (announces u.nodelets s k request fresh) k (address ∷ [])) (fresh_strands moved k fresh) (announces_children u.nodelets s k request fresh)

spawn_writes : (u : Setting) (w : World) (name : Name) (s : Strand) (child : Name) (d function : ℕ) (args : List ℤ) (hint : Option Hint) (v : World) → spawned u w name s child d function args hint ≡ Some v → Writes w name s v
spawn_writes u w name s child d function args hint v e = go (strand_of w child) refl e
  where
    go : (o : Option Strand) → strand_of w child ≡ o →
        (if is_some o then None else Some (goes_on (with_strand w child (newborn function args (birthplace u.nodelets s.place hint))) name (with_child s d child) s.place [])) ≡ Some v → Writes w name s v
    go (Some x) f g = absurd cc
    go None f g = as_world w name s _ v g (record {
      base = with_entry child (newborn function args (birthplace u.nodelets s.place hint)) w.strands;
      after = with_answer (with_child s d child) s.place [];
      is = refl;
      order = λ order found. order-born name child d s (with_answer (with_child s d child) s.place []) (newborn function args (birthplace u.nodelets s.place hint)) w.strands found f refl refl order;
      kept = λ r h. still_there r child (newborn function args (birthplace u.nodelets s.place hint)) w.strands h;
    })

effect_writes : (u : Setting) (w : World) (name : Name) (s : Strand) (child : Option Name) (action : Action) (v : World) → effect u w name s child action ≡ Some v → Writes w name s v
effect_writes u w name s (Some child) (Spawn d function args hint) v e = spawn_writes u w name s child d function args hint v e
effect_writes u w name s None (Spawn d function args hint) v e = absurd cc
effect_writes u w name s (Some child) action v e = absurd cc
effect_writes u w name s None Turn v e = as_world w name s _ v e (alone w name s (with_turn w s.place) (with_answer s s.place []) refl refl)
effect_writes u w name s None (Load at a) v e =
    as_world w name s _ v e (alone w name s w (with_answer s (owner_of a s.place u.nodelets) (w.cells (owner_of a s.place u.nodelets) a ∷ [])) refl refl)
effect_writes u w name s None (Issue at op a word) v e = as_world w name s _ v e (issue_writes u w name s at op a word)
effect_writes u w name s None (Fetch at f a) v e =
    let k = owner_of a s.place u.nodelets in
    as_world w name s _ v e (alone w name s (with_word w k a (fetched f (w.cells k a))) (with_answer s k (w.cells k a ∷ [])) refl refl)
effect_writes u w name s None (Init at a word) v e =
    as_world w name s _ v e (alone w name s (with_word w s.place a word) (with_answer (with_pending_but u.nodelets s s.place (Operation Store a word at)) s.place []) refl refl)
effect_writes u w name s None Fence v e = as_world w name s _ v e (alone w name s w (with_answer s s.place []) refl refl)
effect_writes u w name s None (Move at a) v e = as_world w name s _ v e (alone w name s w (with_answer s (owner_of a s.place u.nodelets) []) refl refl)
effect_writes u w name s None Where v e = as_world w name s _ v e (alone w name s w (with_answer s s.place (pos s.place ∷ [])) refl refl)
effect_writes u w name s None (Print bytes) v e = as_world w name s _ v e (alone w name s (with_piece w bytes) (with_answer s 0 []) refl refl)
effect_writes u w name s None (Alloc request) v e = as_world w name s _ v e (alloc_writes u w name s request (taken_from u.nodelets s.place request))
effect_writes u w name s None (Sync d) v e =
    let after = with_answer (without_children s d) (place_after u.nodelets (sight_of u w s) (Sync d)) (map (λ child. unwrap_or (value_of w child) (pos 0)) (children_at d s.children)) in
    as_world w name s _ v e (writes w name s (with_strand w name after) after refl (λ es all. each_filter (Has es) (λ child. not (child.0 == d)) s.children all))
effect_writes u w name s None (End value) v e = as_world w name s _ v e (alone w name s w (record s { status = Ended value }) refl refl)
effect_writes u w name s None (Trap at kind) v e = as_world w name s _ v e (alone w name s w (with_trap s s.place kind at) refl refl)

-- an item that is applied leaves its strand as it was, but for what is pending and late
pub record Keeps (w : World) (name : Name) (s : Strand) (v : World) : Type 0 where
  pub after : Strand
  pub is : v.strands ≡ with_entry name after w.strands
  pub children : after.children ≡ s.children
  pub status : after.status ≡ s.status

pub item_keeps : (u : Setting) (w : World) (name : Name) (s : Strand) (k : ℕ) (items : List Item) (v : World) → applied_at u w name s k items ≡ Some v → Keeps w name s v
item_keeps u w name s k [] v e = absurd cc
item_keeps u w name s k (Grant extent ∷ items) v e =
    subst (λ (y : World). Keeps w name s y) (some_is _ v e) (record { after = record s { pending = with_at s.pending k items }; is = refl; children = refl; status = refl })
item_keeps u w name s k (Operation op a word at ∷ items) v e = go (is_granted u.rules w k a) e
  where
    go : (t : Bool) → Some (if t then with_strand (with_word w k a (applied op (w.cells k a) word)) name (record s { pending = with_at s.pending k items })
        else with_strand w name (record s { pending = with_at s.pending k items; late = Some (late_after s.late at) })) ≡ Some v → Keeps w name s v
    go true f = subst (λ (y : World). Keeps w name s y) (some_is _ v f) (record { after = record s { pending = with_at s.pending k items }; is = refl; children = refl; status = refl })
    go false f = subst (λ (y : World). Keeps w name s y) (some_is _ v f)
        (record { after = record s { pending = with_at s.pending k items; late = Some (late_after s.late at) }; is = refl; children = refl; status = refl })

-- ---- steps and runs

pub record Lineage (w : World) : Type 0 where
  pub order : InBirthOrder w.strands
  pub main : is_some (strand_of w main_name) ≡ true

written : (w : World) (name : Name) (s : Strand) (v : World) → lookup name w.strands ≡ Some s → Writes w name s v → Lineage w → Lineage v
written w name s v found h l = record {
  order = subst (λ (es : Entries). InBirthOrder es) (sym h.is) (h.order l.order found);
  main = ap (λ (es : Entries). is_some (lookup main_name es)) h.is ∙ still_there main_name name h.after h.base (h.kept main_name l.main);
}

step_lineage : (u : Setting) (w v : World) (t : Step) → step u w t ≡ Some v → Lineage w → Lineage v
step_lineage u w v (Act name child) e l = of_act (acted_by u w name child v e)
  where
    of_act : Acted u w name child v → Lineage v
    of_act a = ⊎_elim
        (λ r. written w name a.strand v a.found (subst (λ (y : World). Writes w name a.strand y) (sym r.is) (alone w name a.strand w (with_trap a.strand r.refusal.place r.refusal.kind r.refusal.pos) refl refl)) l)
        (λ d. written w name a.strand v a.found (effect_writes u w name a.strand child a.action v d.has) l)
        a.outcome
step_lineage u w v (Apply name k) e l = go (strand_of w name) refl e
  where
    go : (o : Option Strand) → strand_of w name ≡ o → option_and_then (λ s. applied_at u w name s k (s.pending k)) o ≡ Some v → Lineage v
    go None f g = absurd cc
    go (Some s) f g =
        let h = item_keeps u w name s k (s.pending k) v g in
        written w name s v f (writes w name s v h.after h.is (same_children s h.after h.children)) l

pub run_lineage : (u : Setting) (told : List Step) (w v : World) → Lineage w → run_from u w told ≡ Some v → Lineage v
run_lineage u [] w v l e = subst (λ (y : World). Lineage y) (some_is w v e) l
run_lineage u (t ∷ told) w v l e = go (λ x f g. run_lineage u told x v f g) (step u w t) refl e
  where
    go : ((x : World) → Lineage x → run_from u x told ≡ Some v → Lineage v) → (o : Option World) → step u w t ≡ o → option_and_then (λ x. run_from u x told) o ≡ Some v → Lineage v
    go ih None is f = absurd cc
    go ih (Some x) is f = ih x (step_lineage u w x t is l) f

-- in every run
pub lineage : (u : Setting) (told : List Step) (w : World) → run_of u told ≡ Some w → Lineage w
lineage u told w run = run_lineage u told (start u) w (record { order = (tt, tt); main = ap (λ t. is_some (if t then Some (newborn u.meaning.main [] 0) else None)) (same_name_refl main_name) }) run
