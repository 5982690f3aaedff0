use Rattle.std.proofs.Common.{arith, ◌<◌, ◌+◌, take, length, ◌≡◌, subst, sym}
use Rattle.codegen_stmt.specs.Compiling.{GainsWords}
use Rattle.codegen_stmt.specs.Parts.{words_of}
use Rattle.codegen_stmt.proofs.Grown.{word_room, words_next}
use Rattle.codegen_stmt.proofs.simple.put_plain_words.Goals as goal
use Rattle.codegen_stmt.proofs.simple.put_plain_words.Goals.{in-Some+in_ok-emit, in_default}

pub emit-requires : goal.emit-requires
emit-requires c =
    let ws = words_of c.args.s.now in
    let lt : c.loop-i.i < length ws = omega (arith, c.words-i-end.ensures) in
    word_room c.args.draft.now c.loop-i.draft ws c.loop-i.i c.in-Some.e.now lt c.in-Some.ensures c.requires c.loop-i.invariant

pub loop-i-preserved : goal.loop-i-preserved
loop-i-preserved c =
    let ws = words_of c.args.s.now in
    let lt : c.loop-i.i < length ws = omega (arith, c.words-i-end.ensures) in
    elim c.match-word.branch [
      | in-Some+in_ok-emit w ↦ subst (λ d. GainsWords c.args.draft.now d (take (c.loop-i.i + 1) ws)) (sym w.draft-is)
          (words_next c.args.draft.now c.loop-i.draft w.emit.new.draft ws c.loop-i.i w.in-Some.e.now lt w.in-Some.ensures c.loop-i.invariant w.in_ok-emit.ensures)
      | in_default w ↦ absurd (let e : length ws ≡ 0 = w.in_default.ensures in omega arith)
    ]
