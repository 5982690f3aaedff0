-- The traffic of a run has a count for each pair of nodelets, and for each nodelet.
use Rattle.std.proofs.Common.{◌≡◌, ℕ, zero, suc, ◌+◌, ◌*◌, List, [], ◌∷◌, length, map, refl, sym, ap, ◌∙◌, subst, arith}
use Rattle.std.specs.Prelude.{◌==◌, ◌&&◌, count_by}
use Rattle.std.specs.List.{flat_map}
use Rattle.std.proofs.lemmas.List.{length-append, length-map}
use Rattle.word_ops.specs.Report.{below}
use Rattle.word_ops.specs.declared.traffic.Traffic.{Traffic}
use Rattle.world_model.specs.World.{Setting}
use Rattle.world_model.specs.Run.{transitions, start}
use Rattle.world_model.specs.Traffic.{tally, table, moves_in, by_action, births_of, posts_of, dones_of, turns_of, applied_in, traffic_of}
use Rattle.traffic_report.specs.declared.run.Ran.{Ran}
use Rattle.emu_top.specs.code.Judged.{HasEachCount}

length-below : (n : ℕ) → length (below n) ≡ n
length-below zero = refl
length-below (suc n) = let e = length-append (below n) (n ∷ []) in let h = length-below n in omega arith

-- a count for each number under n
each_count : (n : ℕ) (f : ℕ → ℕ) → length (map f (below n)) ≡ n
each_count n f = length-map (below n) f ∙ length-below n

-- rows of one length
rows : (n : ℕ) (f : ℕ → List ℕ) (ks : List ℕ) → ((k : ℕ) → length (f k) ≡ n) → length (flat_map f ks) ≡ length ks * n
rows n f [] each = omega arith
rows n f (k ∷ ks) each =
    let e = length-append (f k) (flat_map f ks) in
    let h = rows n f ks each in
    let here = each k in
    let more : suc (length ks) * n ≡ n + length ks * n = omega arith in
    omega arith

tally_counts : (n : ℕ) (counted : List ℕ) → length (tally n counted) ≡ n
tally_counts n counted = each_count n (λ k. count_by (λ x. x == k) counted)

table_counts : (n : ℕ) (counted : List (ℕ × ℕ)) → length (table n counted) ≡ n * n
table_counts n counted = rows n (λ i. map (λ j. count_by (λ x. x.0 == i && x.1 == j) counted) (below n)) (below n) (λ i. each_count n (λ j. count_by (λ x. x.0 == i && x.1 == j) counted)) ∙ ap (λ k. k * n) (length-below n)

pub traffic_counts : (u : Setting) (ran : Ran) → ran.traffic ≡ traffic_of u ran.told → HasEachCount ran.traffic
traffic_counts u ran is =
    let n = u.nodelets in
    let ts = transitions u (start u) ran.told in
    let P : Traffic → Type 0 = λ t. HasEachCount t in
    subst P (sym is) (record {
      moves = table_counts n (flat_map (λ t. moves_in t.before t.after t.done) ts);
      births = table_counts n (flat_map (λ t. by_action u t.before (λ _. births_of n) t.done) ts);
      posts = table_counts n (flat_map (λ t. by_action u t.before (λ _. posts_of n) t.done) ts);
      dones = table_counts n (flat_map (λ t. by_action u t.before (dones_of t.before) t.done) ts);
      turns = tally_counts n (flat_map (λ t. by_action u t.before (λ _. turns_of) t.done) ts);
      applied = tally_counts n (flat_map (λ t. applied_in u t.before t.done) ts);
    })
