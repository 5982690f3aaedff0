-- What an event counts, as lists of numbers count it.
use Rattle.std.proofs.Common.{◌≡◌, ◌≢◌, ℕ, suc, ◌+◌, ◌<◌, ◌≤◌, Bool, true, false, List, [], ◌∷◌, ◌++◌, length, refl, ap, sym, ◌∙◌, subst, arith, add-one, slice_set}
use Rattle.std.specs.Prelude.{◌==◌, slice_index, Option, Some, None}
use Rattle.std.proofs.Math.Path.{fun_ext}
use Rattle.std.proofs.lemmas.Bool.Decides.{nat_tests}
use Rattle.std.proofs.lemmas.List.{get_or-set_same, get_or-set_other}
use Rattle.word_ops.specs.Report.{below}
use Rattle.word_ops.specs.declared.step.Counts3.{Counts3}
use Rattle.nodelet_core.specs.declared.tally.Tally.{Tally}
use Rattle.nodelet_core.specs.declared.counting.Counted.{Counted}
use Rattle.nodelet_core.specs.declared.counting.Posts.{Posts}
use Rattle.nodelet_core.specs.declared.counting.Posts.TheVariants as posts
use Rattle.core_model.specs.Nodes.{Node, Tallies, one_more, with_tallies, with_turn, moved_from, bore_at, posted_to, ended_for, applied_here, sent_away}
use Rattle.core_model.specs.Effects.{for_each}
use Rattle.nodelet_core.specs.code.Tallied.{tallies_of}
use Rattle.nodelet_core.specs.code.Counted.{where_so, at_number, with_posts, with_number, counted, one_more_where, elsewhere, with_one, with_all, with_posted, HasCounted}

-- ---- lists

-- One more is written at a number.
pub counted_one : (counts : List ℕ) (k : ℕ) → k < length counts → slice_index (slice_set counts k (slice_index counts k + 1)) ≡ one_more (slice_index counts) k
counted_one counts k lt = fun_ext (λ i. at i (i == k) refl)
  where
    at : (i : ℕ) (same : Bool) → (i == k) ≡ same → slice_index (slice_set counts k (slice_index counts k + 1)) i ≡ one_more (slice_index counts) k i
    at i true e =
        let is : i ≡ k = grind (arith, nat_tests) in
        let one : slice_index counts k + 1 ≡ suc (slice_index counts k) = omega arith in
        rw e (ap (slice_index (slice_set counts k (slice_index counts k + 1))) is ∙ get_or-set_same counts k (slice_index counts k + 1) 0 lt ∙ one)
    at i false e =
        let other : i ≢ k = grind (arith, nat_tests) in
        rw e (get_or-set_other counts k i (slice_index counts k + 1) 0 other)

-- Nothing grows by more than one.
pub grown_one : (counts : List ℕ) (k i : ℕ) → k < length counts → slice_index (slice_set counts k (slice_index counts k + 1)) i ≤ suc (slice_index counts i)
grown_one counts k i lt = at (i == k) refl
  where
    at : (same : Bool) → (i == k) ≡ same → slice_index (slice_set counts k (slice_index counts k + 1)) i ≤ suc (slice_index counts i)
    at true e =
        let is : i ≡ k = grind (arith, nat_tests) in
        let new = get_or-set_same counts k (slice_index counts k + 1) 0 lt in
        subst (λ j. slice_index (slice_set counts k (slice_index counts k + 1)) j ≤ suc (slice_index counts j)) (sym is) (omega (arith, new))
    at false e =
        let other : i ≢ k = grind (arith, nat_tests) in
        omega (arith, get_or-set_other counts k i (slice_index counts k + 1) 0 other)

pub with_all_last : (ks : List ℕ) (k : ℕ) (counts : ℕ → ℕ) → with_all (ks ++ k ∷ []) counts ≡ one_more (with_all ks counts) k
with_all_last [] k counts = refl
with_all_last (j ∷ ks) k counts = with_all_last ks k (one_more counts j)

-- ---- a loop that counts one more at each number

below_next : (k : ℕ) → below (k + 1) ≡ below k ++ k ∷ []
below_next k = rw add-one refl

pub all_then_one : (first before after : List ℕ) (k : ℕ) → k < length before → slice_index before ≡ with_all (below k) (slice_index first) →
    after ≡ slice_set before k (slice_index before k + 1) → slice_index after ≡ with_all (below (k + 1)) (slice_index first)
all_then_one first before after k lt all e =
    ap slice_index e ∙ counted_one before k lt ∙ ap (λ f. one_more f k) all ∙ sym (with_all_last (below k) k (slice_index first))
    ∙ ap (λ ks. with_all ks (slice_index first)) (sym (below_next k))

pub rest_kept : (first before after : List ℕ) (k : ℕ) → ((i : ℕ) → k ≤ i → slice_index before i ≡ slice_index first i) →
    after ≡ slice_set before k (slice_index before k + 1) → (i : ℕ) → k + 1 ≤ i → slice_index after i ≡ slice_index first i
rest_kept first before after k rest e i le =
    let other : i ≢ k = omega arith in
    ap (λ l. slice_index l i) e ∙ get_or-set_other before k i (slice_index before k + 1) 0 other ∙ rest i (omega arith)

pub bound_kept : (first before after : List ℕ) (k : ℕ) → k < length before → ((i : ℕ) → k ≤ i → slice_index before i ≡ slice_index first i) →
    ((i : ℕ) → slice_index before i ≤ suc (slice_index first i)) → after ≡ slice_set before k (slice_index before k + 1) → (i : ℕ) → slice_index after i ≤ suc (slice_index first i)
bound_kept first before after k lt rest bound e i = at (i == k) refl
  where
    at : (same : Bool) → (i == k) ≡ same → slice_index after i ≤ suc (slice_index first i)
    at true f =
        let is : i ≡ k = grind (arith, nat_tests) in
        let grown = grown_one before k i lt in
        let new : slice_index after i ≡ slice_index (slice_set before k (slice_index before k + 1)) i = ap (λ l. slice_index l i) e in
        omega (arith, rest i (omega arith), grown, new)
    at false f =
        let other : i ≢ k = grind (arith, nat_tests) in
        omega (arith, bound i, get_or-set_other before k i (slice_index before k + 1) 0 other, ap (λ l. slice_index l i) e)

-- ---- nodes

-- One more of what is posted to each of some nodelets.
pub each_posted : (ks : List ℕ) (v : Node) → for_each ks posted_to v ≡ with_tallies v (record v.tallies { posts = with_all ks v.tallies.posts })
each_posted [] v = refl
each_posted (k ∷ ks) v = each_posted ks (posted_to k v)

turns : (so : Bool) (v : Node) → where_so so with_turn v ≡ record v { served = one_more_where so v.served }
turns true v = refl
turns false v = refl

applies : (so : Bool) (v : Node) → where_so so applied_here v ≡ with_tallies v (record v.tallies { applied = one_more_where so v.tallies.applied })
applies true v = refl
applies false v = refl

sends : (so : Bool) (v : Node) → where_so so sent_away v ≡ with_tallies v (record v.tallies { sent_contexts = one_more_where so v.tallies.sent_contexts })
sends true v = refl
sends false v = refl

spawns : (so : Bool) (v : Node) → where_so so with_number v ≡ record v { next_number = one_more_where so v.next_number }
spawns true v = refl
spawns false v = refl

bears : (k : Option ℕ) (v : Node) → at_number k bore_at v ≡ with_tallies v (record v.tallies { births = with_one k v.tallies.births })
bears None v = refl
bears (Some k) v = refl

ends : (k : Option ℕ) (v : Node) → at_number k ended_for v ≡ with_tallies v (record v.tallies { dones = with_one k v.tallies.dones })
ends None v = refl
ends (Some k) v = refl

posts_to : (n : ℕ) (p : Posts) (v : Node) → with_posts n p v ≡ with_tallies v (record v.tallies { posts = with_posted n p v.tallies.posts })
posts_to n posts.Nowhere v = refl
posts_to n (posts.To k) v = refl
posts_to n posts.ToAll v = each_posted (below n) v

moves_from : (here : ℕ) (k : Option ℕ) (v : Node) → at_number k (moved_from here) v ≡ with_tallies v (record v.tallies { moves = with_one (elsewhere here k) v.tallies.moves })
moves_from here None v = refl
moves_from here (Some k) v = by_place (k == here) refl
  where
    by_place : (same : Bool) → (k == here) ≡ same → moved_from here k v ≡ with_tallies v (record v.tallies { moves = with_one (elsewhere here (Some k)) v.tallies.moves })
    by_place true e = rw e refl
    by_place false e = rw e refl

abbrev all_counted : ℕ → ℕ → Counted → Node → Node
all_counted n here c v = record v {
  served = one_more_where c.turn v.served;
  next_number = one_more_where c.spawned v.next_number;
  tallies = record {
    moves = with_one (elsewhere here c.moved_from) v.tallies.moves;
    births = with_one c.bore_at v.tallies.births;
    posts = with_posted n c.posts v.tallies.posts;
    dones = with_one c.ended_for v.tallies.dones;
    applied = one_more_where c.applied v.tallies.applied;
    sent_contexts = one_more_where c.sent_away v.tallies.sent_contexts;
  };
}

-- What is counted, all at once.
counted_is : (n here : ℕ) (c : Counted) (v : Node) → counted n here c v ≡ all_counted n here c v
counted_is n here c v =
    moves_from here c.moved_from _
    ∙ ap (λ (w : Node). with_tallies w (record w.tallies { moves = with_one (elsewhere here c.moved_from) w.tallies.moves }))
    (ends c.ended_for _
    ∙ ap (λ (w : Node). with_tallies w (record w.tallies { dones = with_one c.ended_for w.tallies.dones }))
    (posts_to n c.posts _
    ∙ ap (λ (w : Node). with_tallies w (record w.tallies { posts = with_posted n c.posts w.tallies.posts }))
    (bears c.bore_at _
    ∙ ap (λ (w : Node). with_tallies w (record w.tallies { births = with_one c.bore_at w.tallies.births }))
    (spawns c.spawned _
    ∙ ap (λ (w : Node). record w { next_number = one_more_where c.spawned w.next_number })
    (sends c.sent_away _
    ∙ ap (λ (w : Node). with_tallies w (record w.tallies { sent_contexts = one_more_where c.sent_away w.tallies.sent_contexts }))
    (applies c.applied _
    ∙ ap (λ (w : Node). with_tallies w (record w.tallies { applied = one_more_where c.applied w.tallies.applied }))
    (turns c.turn v)))))))

-- ---- the nodelet

abbrev tallies : (ℕ → ℕ) → (ℕ → ℕ) → (ℕ → ℕ) → (ℕ → ℕ) → ℕ → ℕ → Tallies
tallies moves births posts dones applied sent = record { moves = moves; births = births; posts = posts; dones = dones; applied = applied; sent_contexts = sent }

-- A tally that has counted an event.
tallies_are : (n here : ℕ) (c : Counted) (before after : Tally) (applied sent : ℕ) → HasCounted n here c before after →
    tallies (slice_index after.moves) (slice_index after.births) (slice_index after.posts) (slice_index after.dones) applied sent
    ≡ tallies (with_one (elsewhere here c.moved_from) (slice_index before.moves)) (with_one c.bore_at (slice_index before.births)) (with_posted n c.posts (slice_index before.posts)) (with_one c.ended_for (slice_index before.dones)) applied sent
tallies_are n here c before after applied sent has =
    ap (λ x. tallies x (slice_index after.births) (slice_index after.posts) (slice_index after.dones) applied sent) has.moves
    ∙ ap (λ x. tallies (with_one (elsewhere here c.moved_from) (slice_index before.moves)) x (slice_index after.posts) (slice_index after.dones) applied sent) has.births
    ∙ ap (λ x. tallies (with_one (elsewhere here c.moved_from) (slice_index before.moves)) (with_one c.bore_at (slice_index before.births)) x (slice_index after.dones) applied sent) has.posts
    ∙ ap (λ x. tallies (with_one (elsewhere here c.moved_from) (slice_index before.moves)) (with_one c.bore_at (slice_index before.births)) (with_posted n c.posts (slice_index before.posts)) x applied sent) has.dones

next_is : (first spawned : ℕ) (so : Bool) → first + one_more_where so spawned ≡ one_more_where so (first + spawned)
next_is first spawned true = omega arith
next_is first spawned false = refl

-- A node whose tally, counts and next number are those that an event leaves has counted it.
pub counts_event : (n here first spawned spawned_then : ℕ) (c : Counted) (before after : Tally) (counts counts_then : Counts3) (v : Node) → HasCounted n here c before after →
    spawned_then ≡ one_more_where c.spawned spawned →
    counts_then ≡ record { turns = one_more_where c.turn counts.turns; applied = one_more_where c.applied counts.applied; sent_contexts = one_more_where c.sent_away counts.sent_contexts } →
    record v { next_number = first + spawned_then; served = counts_then.turns; tallies = tallies_of after counts_then }
    ≡ counted n here c (record v { next_number = first + spawned; served = counts.turns; tallies = tallies_of before counts })
counts_event n here first spawned spawned_then c before after counts counts_then v has e f =
    ap (λ x. record v { next_number = x; served = counts_then.turns; tallies = tallies_of after counts_then }) (ap (λ s. first + s) e ∙ next_is first spawned c.spawned)
    ∙ ap (λ (x : Counts3). record v { next_number = one_more_where c.spawned (first + spawned); served = x.turns; tallies = tallies_of after x }) f
    ∙ ap (λ x. record v { next_number = one_more_where c.spawned (first + spawned); served = one_more_where c.turn counts.turns; tallies = x })
    (tallies_are n here c before after (one_more_where c.applied counts.applied) (one_more_where c.sent_away counts.sent_contexts) has)
    ∙ sym (counted_is n here c (record v { next_number = first + spawned; served = counts.turns; tallies = tallies_of before counts }))
