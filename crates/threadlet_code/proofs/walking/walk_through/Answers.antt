use Rattle.std.proofs.Common.{◌≡◌, ℕ, ◌+◌, ◌<◌, ◌^◌, length, arith, refl, sym, ap, ◌∙◌, Option, Some, None}
use Rattle.std.specs.Prelude.{slice_index, slice_set, replicate, IfSome}
use Rattle.threadlet_code.specs.declared.walk.Span.{Span}
use Rattle.threadlet_code.specs.Ways.{Known, known_at}
use Rattle.threadlet_code.proofs.Walks.{walk_start, walk_same, walk_on, settled_size, settled_low}
use Rattle.threadlet_code.proofs.walking.walk_through.Goals as goal

pub loop-init : goal.loop-init
loop-init c =
    let e = c.in_ok-walk.ensures in
    let size = c.len-places.ensures in
    let point : Span = record { least = 0; most = 0 } in
    walk_same 0 c.args.code.now c.args.function c.args.f.now _ c.in_ok-walk.walk.known _ c.in_ok-walk.walk.ways _ c.in_ok-walk.walk.reached _ c.in_ok-walk.walk.settled
    (walk_start c.args.code.now c.args.function c.args.f.now c.requires.some)
    (e.known ∙ ap (λ n. replicate n None) size) (e.ways ∙ ap (λ n. slice_set (replicate n None) 0 (Some point)) size) e.reached e.settled

pub spread-requires-clause-sizes : goal.spread-requires-clause-sizes
spread-requires-clause-sizes c = ap length c.settle.ensures.ways ∙ c.loop.invariant.sizes

pub spread-requires-clause-body : goal.spread-requires-clause-body
spread-requires-clause-body c = ap length c.settle.ensures.known ∙ settled_size _ _ _ _ _ _ _ _ c.loop.invariant

pub spread-requires-clause-within : goal.spread-requires-clause-within
spread-requires-clause-within c k lt =
    let same : length c.settle.new.self.reached ≡ length c.loop.walk.reached = ap length c.settle.ensures.reached in
    let here : slice_index c.settle.new.self.reached k ≡ slice_index c.loop.walk.reached k = ap (λ l. slice_index l k) c.settle.ensures.reached in
    omega (arith, c.loop.invariant.within k (omega arith))

pub spread-requires-clause-room : goal.spread-requires-clause-room
spread-requires-clause-room c p = by_height (known_at c.settle.new.self.known p) refl
  where
    by_height : (o : Option ℕ) → known_at c.settle.new.self.known p ≡ o → IfSome o (λ height. height + 1 < 2 ^ 32)
    by_height None e = tt
    by_height (Some h) e =
        let low = settled_low _ _ _ _ _ _ _ _ c.loop.invariant p h (ap (λ (k : Known). known_at k p) (sym c.settle.ensures.known) ∙ e) in
        omega (arith, low, c.requires.short, c.len-places.ensures, c.loop-test.true)

pub loop-preserved : goal.loop-preserved
loop-preserved c =
    let e = c.in_ok-spread.ensures in
    walk_on c.loop.counter c.args.code.now c.args.function c.args.f.now c.loop.walk.known c.loop.walk.ways c.loop.walk.reached c.loop.walk.settled c.loop.invariant
    c.settle.new.self.known c.settle.new.self.ways c.settle.new.self.reached c.settle.new.self.settled
    c.settle.ensures.known c.settle.ensures.ways c.settle.ensures.reached c.settle.ensures.settled
    c.spread.new.self.known c.spread.new.self.ways c.spread.new.self.reached c.spread.new.self.settled
    e.known e.settled e.ways e.reached
