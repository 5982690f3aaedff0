-- What every action that has its effect leaves: one strand is another, and little else changes.
use Rattle.std.proofs.Common.{◌≡◌, ℕ, ◌⊎◌, inl, inr, List, [], ◌∷◌, ◌++◌, Option, Some, None, refl, sym, ap, subst, ◌∙◌, Bool, true, false, ⊎_elim, ℤ, pos}
use Rattle.std.specs.Prelude.{if◌then◌else◌, ◌==◌, ◌&&◌, not, nat_lt, is_some, IfSome, map, unwrap_or}
use Rattle.std.proofs.lemmas.Bool.{eqb-true}
use Rattle.std.proofs.lemmas.List.{append-nil}
use Rattle.std.proofs.Math.Bool.{and-true}
use Rattle.word_ops.specs.declared.name.Name.{Name}
use Rattle.word_ops.specs.declared.place.Pos.{Pos}
use Rattle.mem_atomics.specs.declared.op.Op.{Op}
use Rattle.mem_atomics.specs.NewWord.{applied, fetched}
use Rattle.word_ops.specs.Operators.{same_word}
use Rattle.mem_atomics.specs.declared.op.Op.TheVariants.{Store}
use Rattle.data_layout.specs.Address.{owner_of}
use Rattle.data_layout.specs.Cursor.{allocated_at, cursors_after}
use Rattle.world_model.specs.Allocation.{server_of, taken_from}
use Rattle.world_model.specs.Action.{Action, Turn, Load, Issue, Fetch, Init, Fence, Move, Where, Print, Alloc, Spawn, Sync, End, Trap, Request, Striped, Blocked, Local, Replicated, Hint}
use Rattle.world_model.specs.Sight.{place_after}
use Rattle.world_model.specs.World.{Setting, Extent, Item, Operation, Grant, Strand, World, lookup, strand_of, with_strand, with_word, with_at, with_answer, with_pending, with_pending_but, with_turn, with_piece, with_trap, value_of, children_at, Ended}
use Rattle.world_model.specs.Effect.{sight_of, effect, newborn, birthplace, issued, initialized, goes_on, with_child, without_children, spawned, served_with, grant_of, with_fresh, announces}
use Rattle.world_model.specs.Laws.{OnlyAt, left_by, announced, granted_by, NamesDiffer}
use Rattle.world_model.proofs.Names.{name_cases, lookup-same, lookup-other, differ-with_entry}

-- a strand that the action gave birth to
pub record Born (u : Setting) (w : World) (s : Strand) (action : Action) (base : World) (q : Name) : Type 0 where
  pub depth : ℕ
  pub function : ℕ
  pub args : List ℤ
  pub hint : Option Hint
  pub spawn : action ≡ Spawn depth function args hint
  pub before : strand_of w q ≡ None
  pub after : strand_of base q ≡ Some (newborn function args (birthplace u.nodelets s.place hint))

-- the nodelet whose cells an action may change
abbrev pub touched : Setting → Strand → Action → ℕ
touched u s (Fetch _ _ a) = owner_of a s.place u.nodelets
touched u s (Issue _ _ a _) = owner_of a s.place u.nodelets
touched u s _ = s.place

-- the world after the effect: the strand is written into a world with other cells at one nodelet at most
pub record Shape (u : Setting) (w : World) (name : Name) (s : Strand) (action : Action) (v : World) : Type 0 where
  pub base : World
  pub after : Strand
  pub is : v ≡ with_strand base name after
  pub cells : OnlyAt (touched u s action) w base
  pub others : (q : Name) → (strand_of base q ≡ strand_of w q) ⊎ Born u w s action base q
  pub names : NamesDiffer w.strands → NamesDiffer base.strands
  pub pending : (k : ℕ) → after.pending k ≡ s.pending k ++ left_by u w s action k
  pub home : after.home ≡ s.home
  pub place : after.place ≡ place_after u.nodelets (sight_of u w s) action

pub only_word : (w : World) (k : ℕ) (a x : ℤ) → OnlyAt k w (with_word w k a x)
only_word w k a x j b ne = go (j == k) refl
  where
    go : (t : Bool) → (j == k) ≡ t → (if t && same_word b a then x else w.cells j b) ≡ w.cells j b
    go true e = absurd (ne (eqb-true _ _ e))
    go false e = refl

-- nothing is pending that was not
nothing_more : (s after : Strand) (more : List Item) (k : ℕ) → after.pending k ≡ s.pending k → more ≡ [] → after.pending k ≡ s.pending k ++ more
nothing_more s after more k e none = e ∙ sym (append-nil (s.pending k)) ∙ ap (λ i. s.pending k ++ i) (sym none)

-- an action that leaves nothing pending, and changes no cell and no other strand
plain : (u : Setting) (w : World) (name : Name) (s : Strand) (action : Action) (base : World) (after : Strand) →
    base.strands ≡ w.strands → base.cells ≡ w.cells → after.pending ≡ s.pending → ((k : ℕ) → left_by u w s action k ≡ []) →
    after.home ≡ s.home → after.place ≡ place_after u.nodelets (sight_of u w s) action → Shape u w name s action (with_strand base name after)
plain u w name s action base after strands cells pending none home place = record {
  base = base;
  after = after;
  is = refl;
  cells = λ j a ne. ap (λ (f : ℕ → ℤ → ℤ). f j a) cells;
  others = λ q. inl (ap (lookup q) strands);
  names = λ apart. subst (λ es. NamesDiffer es) (sym strands) apart;
  pending = λ k. nothing_more s after _ k (ap (λ (f : ℕ → List Item). f k) pending) (none k);
  home = home;
  place = place;
}

-- an action that stores a word, and leaves nothing pending
storing : (u : Setting) (w : World) (name : Name) (s : Strand) (action : Action) (k : ℕ) (a x : ℤ) (answer : List ℤ) →
    touched u s action ≡ k → ((j : ℕ) → left_by u w s action j ≡ []) → k ≡ place_after u.nodelets (sight_of u w s) action →
    Shape u w name s action (with_strand (with_word w k a x) name (with_answer s k answer))
storing u w name s action k a x answer here none place = record {
  base = with_word w k a x;
  after = with_answer s k answer;
  is = refl;
  cells = λ j b ne. only_word w k a x j b (λ e. ne (e ∙ sym here));
  others = λ q. inl refl;
  names = λ apart. apart;
  pending = λ j. nothing_more s (with_answer s k answer) _ j refl (none j);
  home = refl;
  place = place;
}

-- ---- items that an action leaves pending

item_at : (f : ℕ → List Item) (k : ℕ) (item : Item) (j : ℕ) → with_at f k (f k ++ item ∷ []) j ≡ f j ++ (if j == k then item ∷ [] else [])
item_at f k item j = go (j == k) refl
  where
    go : (t : Bool) → (j == k) ≡ t → (if t then f k ++ item ∷ [] else f j) ≡ f j ++ (if t then item ∷ [] else [])
    go true e = ap (λ i. f i ++ item ∷ []) (sym (eqb-true _ _ e))
    go false e = sym (append-nil (f j))

item_where : (t : Bool) (items : List Item) (item : Item) → (if t then items ++ item ∷ [] else items) ≡ items ++ (if t then item ∷ [] else [])
item_where true items item = refl
item_where false items item = sym (append-nil items)

no_items : (t : Bool) (items : List Item) → (if t && false then items else []) ≡ []
no_items true items = refl
no_items false items = refl

nothing_where : (t : Bool) (items : List Item) → items ≡ [] → (if t then items else []) ≡ []
nothing_where true items e = e
nothing_where false items e = refl

-- ---- issuing

issue_shape : (u : Setting) (w : World) (name : Name) (s : Strand) (at : Pos) (op : Op) (a v : ℤ) →
    Shape u w name s (Issue at op a v) (issued u w name s at op a v)
issue_shape u w name s at op a v = go (owner_of a s.place u.nodelets == s.place) refl
  where
    go : (t : Bool) → (owner_of a s.place u.nodelets == s.place) ≡ t → Shape u w name s (Issue at op a v)
        (if t then goes_on (with_word w (owner_of a s.place u.nodelets) a (applied op (w.cells (owner_of a s.place u.nodelets) a) v)) name s (owner_of a s.place u.nodelets) []
        else goes_on w name (with_pending s (owner_of a s.place u.nodelets) (Operation op a v at)) s.place [])
    go true e = storing u w name s (Issue at op a v) (owner_of a s.place u.nodelets) a (applied op (w.cells (owner_of a s.place u.nodelets) a) v) [] refl
        (λ j. rw e (no_items (j == owner_of a s.place u.nodelets) (Operation op a v at ∷ []))) (eqb-true _ _ e)
    go false e = record {
      base = w;
      after = with_answer (with_pending s (owner_of a s.place u.nodelets) (Operation op a v at)) s.place [];
      is = refl;
      cells = λ j b ne. refl;
      others = λ q. inl refl;
      names = λ apart. apart;
      pending = λ j. item_at s.pending (owner_of a s.place u.nodelets) (Operation op a v at) j ∙ ap (λ (t : Bool). s.pending j ++ (if t then Operation op a v at ∷ [] else [])) (both j);
      home = refl;
      place = refl;
    }
      where
        both : (j : ℕ) → (j == owner_of a s.place u.nodelets) ≡ (j == owner_of a s.place u.nodelets && not (owner_of a s.place u.nodelets == s.place))
        both j = rw e (sym (and-true (j == owner_of a s.place u.nodelets)))

init_shape : (u : Setting) (w : World) (name : Name) (s : Strand) (at : Pos) (a v : ℤ) →
    Shape u w name s (Init at a v) (initialized u w name s at a v)
init_shape u w name s at a v = record {
  base = with_word w s.place a v;
  after = with_answer (with_pending_but u.nodelets s s.place (Operation Store a v at)) s.place [];
  is = refl;
  cells = only_word w s.place a v;
  others = λ q. inl refl;
  names = λ apart. apart;
  pending = λ j. item_where (nat_lt j u.nodelets && not (j == s.place)) (s.pending j) (Operation Store a v at);
  home = refl;
  place = refl;
}

-- ---- allocating

announced_is : (n : ℕ) (s : Strand) (k : ℕ) (request : Request) (fresh : Option Extent) (j : ℕ) →
    (announces n s k request fresh).pending j ≡ s.pending j ++ (if nat_lt j n && not (j == k) then announced request fresh else [])
announced_is n s k request None j = nothing_more s s _ j refl (nothing_where (nat_lt j n && not (j == k)) [] refl)
announced_is n s k (Local at c a) (Some extent) j = nothing_more s s _ j refl (nothing_where (nat_lt j n && not (j == k)) [] refl)
announced_is n s k (Striped c) (Some extent) j = item_where (nat_lt j n && not (j == k)) (s.pending j) (Grant extent)
announced_is n s k (Blocked b c) (Some extent) j = item_where (nat_lt j n && not (j == k)) (s.pending j) (Grant extent)
announced_is n s k (Replicated c) (Some extent) j = item_where (nat_lt j n && not (j == k)) (s.pending j) (Grant extent)

announces_home : (n : ℕ) (s : Strand) (k : ℕ) (request : Request) (fresh : Option Extent) → (announces n s k request fresh).home ≡ s.home
announces_home n s k request None = refl
announces_home n s k (Local at c a) (Some extent) = refl
announces_home n s k (Striped c) (Some extent) = refl
announces_home n s k (Blocked b c) (Some extent) = refl
announces_home n s k (Replicated c) (Some extent) = refl

fresh_cells : (w : World) (k : ℕ) (fresh : Option Extent) → (with_fresh w k fresh).cells ≡ w.cells
fresh_cells w k None = refl
fresh_cells w k (Some extent) = refl

fresh_strands : (w : World) (k : ℕ) (fresh : Option Extent) → (with_fresh w k fresh).strands ≡ w.strands
fresh_strands w k None = refl
fresh_strands w k (Some extent) = refl

abbrev Announces : (u : Setting) → World → Strand → Request → Option (ℕ × ℤ) → Type 0
Announces u w s request taken = (k : ℕ) →
    left_by u w s (Alloc request) k ≡ (if nat_lt k u.nodelets && not (k == server_of u.nodelets s.place request) then announced request (granted_by u w taken) else [])

alloc_shape : (u : Setting) (w : World) (name : Name) (s : Strand) (request : Request) (taken : Option (ℕ × ℤ)) → Announces u w s request taken →
    Shape u w name s (Alloc request) (served_with u w name s request taken)
alloc_shape u w name s request None says =
    plain u w name s (Alloc request) w (with_answer s (server_of u.nodelets s.place request) (pos 0 ∷ [])) refl refl refl
    (λ k. says k ∙ nothing_where _ _ refl) refl refl
alloc_shape u w name s request (Some (view, count)) says = record {
  base = with_fresh moved (server_of u.nodelets s.place request) fresh;
  after = with_answer (announces u.nodelets s (server_of u.nodelets s.place request) request fresh) (server_of u.nodelets s.place request) (allocated_at w.cursors view count ∷ []);
  is = refl;
  cells = λ j a ne. ap (λ (f : ℕ → ℤ → ℤ). f j a) (fresh_cells moved (server_of u.nodelets s.place request) fresh);
  names = λ apart. subst (λ es. NamesDiffer es) (sym (fresh_strands moved (server_of u.nodelets s.place request) fresh)) apart;
  others = λ q. inl (ap (lookup q) (fresh_strands moved (server_of u.nodelets s.place request) fresh));
  pending = λ k. announced_is u.nodelets s (server_of u.nodelets s.place request) request fresh k ∙ ap (λ items. s.pending k ++ items) (sym (says k));
  home = announces_home u.nodelets s (server_of u.nodelets s.place request) request fresh;
  place = refl;
}
  where
    fresh : Option Extent
    fresh = grant_of u.rules (allocated_at w.cursors view count) count

    moved : World
    moved = record w { cursors = cursors_after u.nodelets w.cursors view count }

-- ---- parents and children

spawn_shape : (u : Setting) (w : World) (name : Name) (s : Strand) (child : Name) (d function : ℕ) (args : List ℤ) (hint : Option Hint) →
    IfSome (spawned u w name s child d function args hint) (Shape u w name s (Spawn d function args hint))
spawn_shape u w name s child d function args hint = go (strand_of w child) refl
  where
    born : World
    born = with_strand w child (newborn function args (birthplace u.nodelets s.place hint))

    among : strand_of w child ≡ None → (q : Name) → (strand_of born q ≡ strand_of w q) ⊎ Born u w s (Spawn d function args hint) born q
    among unused q = ⊎_elim
        (λ e. inr (record {
          depth = d;
          function = function;
          args = args;
          hint = hint;
          spawn = refl;
          before = ap (λ x. strand_of w x) e ∙ unused;
          after = ap (λ x. strand_of born x) e ∙ lookup-same child (newborn function args (birthplace u.nodelets s.place hint)) w.strands;
        }))
        (λ ne. inl (lookup-other q child (newborn function args (birthplace u.nodelets s.place hint)) w.strands ne.0))
        (name_cases q child)

    go : (o : Option Strand) → strand_of w child ≡ o →
        IfSome (if is_some o then None else Some (goes_on born name (with_child s d child) s.place [])) (Shape u w name s (Spawn d function args hint))
    go (Some x) e = tt
    go None e = record {
      base = born;
      after = with_answer (with_child s d child) s.place [];
      is = refl;
      cells = λ j a ne. refl;
      others = among e;
      names = λ apart. differ-with_entry child (newborn function args (birthplace u.nodelets s.place hint)) w.strands apart;
      pending = λ k. nothing_more s s _ k refl refl;
      home = refl;
      place = refl;
    }

-- ---- every action

pub shape : (u : Setting) (w : World) (name : Name) (s : Strand) (child : Option Name) (action : Action) →
    IfSome (effect u w name s child action) (Shape u w name s action)
shape u w name s (Some child) (Spawn d function args hint) = spawn_shape u w name s child d function args hint
shape u w name s None (Spawn d function args hint) = tt
shape u w name s (Some child) action = tt
shape u w name s None Turn = plain u w name s Turn (with_turn w s.place) (with_answer s s.place []) refl refl refl (λ k. refl) refl refl
shape u w name s None (Load at a) =
    plain u w name s (Load at a) w (with_answer s (owner_of a s.place u.nodelets) (w.cells (owner_of a s.place u.nodelets) a ∷ [])) refl refl refl (λ k. refl) refl refl
shape u w name s None (Issue at op a v) = issue_shape u w name s at op a v
shape u w name s None (Fetch at f a) =
    storing u w name s (Fetch at f a) (owner_of a s.place u.nodelets) a (fetched f (w.cells (owner_of a s.place u.nodelets) a)) (w.cells (owner_of a s.place u.nodelets) a ∷ []) refl (λ j. refl) refl
shape u w name s None (Init at a v) = init_shape u w name s at a v
shape u w name s None Fence = plain u w name s Fence w (with_answer s s.place []) refl refl refl (λ k. refl) refl refl
shape u w name s None (Move at a) = plain u w name s (Move at a) w (with_answer s (owner_of a s.place u.nodelets) []) refl refl refl (λ k. refl) refl refl
shape u w name s None Where = plain u w name s Where w (with_answer s s.place (pos s.place ∷ [])) refl refl refl (λ k. refl) refl refl
shape u w name s None (Print bytes) = plain u w name s (Print bytes) (with_piece w bytes) (with_answer s 0 []) refl refl refl (λ k. refl) refl refl
shape u w name s None (Alloc request) = alloc_shape u w name s request (taken_from u.nodelets s.place request) (λ k. refl)
shape u w name s None (Sync d) =
    plain u w name s (Sync d) w (with_answer (without_children s d) (place_after u.nodelets (sight_of u w s) (Sync d)) (map (λ child. unwrap_or (value_of w child) (pos 0)) (children_at d s.children)))
    refl refl refl (λ k. refl) refl refl
shape u w name s None (End value) = plain u w name s (End value) w (record s { status = Ended value }) refl refl refl (λ k. refl) refl refl
shape u w name s None (Trap at kind) = plain u w name s (Trap at kind) w (with_trap s s.place kind at) refl refl refl (λ k. refl) refl refl
