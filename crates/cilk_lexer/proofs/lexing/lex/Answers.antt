use Rattle.std.proofs.Common.{sym, subst, arith, drop_of_length-le}
use Rattle.cilk_model.specs.Tokens.{Cut, uncut, first_spot, cut_whole}
use Rattle.cilk_model.specs.declared.lexing.Piece.TheVariants.{Skipped, Found, Bad}
use Rattle.cilk_lexer.proofs.Walks.{fits, slice_fits, to-at, walked_skipped, walked_found, walked_bad}
use Rattle.cilk_lexer.proofs.lexing.lex.Goals as goal

pub loop-spot-init : goal.loop-spot-init
loop-spot-init c = (subst (λ tokens. Cut c.args.text.now tokens first_spot) (sym c.new-tokens.ensures) uncut, omega arith, omega arith, omega arith)

pub slice_bounds-moved-end : goal.slice_bounds-moved-end
slice_bounds-moved-end c =
    let within = fits c.args.text.now c.loop-spot.spot (Skipped c.in-Skipped.n) c.loop-spot-test.true c.in-Skipped.ensures in
    slice_fits c.args.text.now c.loop-spot.spot c.in-Skipped.n within.1

pub loop-spot-smaller-in-Skipped : goal.loop-spot-smaller-in-Skipped
loop-spot-smaller-in-Skipped c =
    let within = fits c.args.text.now c.loop-spot.spot (Skipped c.in-Skipped.n) c.loop-spot-test.true c.in-Skipped.ensures in
    omega (arith, within.0, within.1, c.loop-spot-test.true, to-at c.args.text.now c.loop-spot.spot c.moved-spot.result c.in-Skipped.n c.moved-spot.ensures within.1)

pub loop-spot-preserved-in-Skipped : goal.loop-spot-preserved-in-Skipped
loop-spot-preserved-in-Skipped c =
    let within = fits c.args.text.now c.loop-spot.spot (Skipped c.in-Skipped.n) c.loop-spot-test.true c.in-Skipped.ensures in
    walked_skipped c.args.text.now c.loop-spot.tokens c.loop-spot.spot c.moved-spot.result c.in-Skipped.n c.loop-spot.invariant c.in-Skipped.ensures c.moved-spot.ensures within.1

pub token-requires : goal.token-requires
token-requires c =
    let within = fits c.args.text.now c.loop-spot.spot (Found c.in-Found.kind c.in-Found.n) c.loop-spot-test.true c.in-Found.ensures in
    omega (arith, within.1, c.loop-spot-test.true, c.requires)

pub slice_bounds-moved-end-in-Found : goal.slice_bounds-moved-end-in-Found
slice_bounds-moved-end-in-Found c =
    let within = fits c.args.text.now c.loop-spot.spot (Found c.in-Found.kind c.in-Found.n) c.loop-spot-test.true c.in-Found.ensures in
    slice_fits c.args.text.now c.loop-spot.spot c.in-Found.n within.1

pub loop-spot-smaller : goal.loop-spot-smaller
loop-spot-smaller c =
    let within = fits c.args.text.now c.loop-spot.spot (Found c.in-Found.kind c.in-Found.n) c.loop-spot-test.true c.in-Found.ensures in
    omega (arith, within.0, within.1, c.loop-spot-test.true, to-at c.args.text.now c.loop-spot.spot c.moved-spot-in-Found.result c.in-Found.n c.moved-spot-in-Found.ensures within.1)

pub loop-spot-preserved : goal.loop-spot-preserved
loop-spot-preserved c =
    let within = fits c.args.text.now c.loop-spot.spot (Found c.in-Found.kind c.in-Found.n) c.loop-spot-test.true c.in-Found.ensures in
    rw (c.in_ok-add-in-Found.ensures.ok, c.token.ensures)
    (walked_found c.args.text.now c.loop-spot.tokens c.loop-spot.spot c.moved-spot-in-Found.result c.in-Found.kind c.in-Found.n c.loop-spot.invariant c.in-Found.ensures c.moved-spot-in-Found.ensures within.1)

pub slice_bounds-moved-end-in-Bad : goal.slice_bounds-moved-end-in-Bad
slice_bounds-moved-end-in-Bad c =
    let within = fits c.args.text.now c.loop-spot.spot (Bad c.in-Bad.kind c.in-Bad.n) c.loop-spot-test.true c.in-Bad.ensures in
    slice_fits c.args.text.now c.loop-spot.spot c.in-Bad.n within

pub returns-in-Bad-clause-refused : goal.returns-in-Bad-clause-refused
returns-in-Bad-clause-refused c =
    walked_bad c.args.text.now c.loop-spot.tokens c.loop-spot.spot c.moved.result c.in-Bad.kind c.in-Bad.n c.loop-spot.invariant c.in-Bad.ensures c.moved.ensures

pub returns-clause-tokens : goal.returns-clause-tokens
returns-clause-tokens c =
    rw (c.in_ok-add.ensures.ok, c.token-2.ensures)
    (cut_whole c.loop-spot.spot c.loop-spot.invariant.0 (drop_of_length-le c.args.text.now c.loop-spot-test.false))
