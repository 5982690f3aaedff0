use Rattle.std.proofs.Common.{sym, subst}
use Rattle.std.proofs.lemmas.Result.{on_ok_weaker}
use Rattle.codegen_stmt.specs.Compiled.{spawned_words}
use Rattle.codegen_stmt.specs.Compiling.{GainsWords}
use Rattle.codegen_stmt.specs.Parts.{hint_of, words_of}
use Rattle.codegen_stmt.proofs.Grown.{hint_room, hint_gained}
use Rattle.codegen_stmt.proofs.simple.put_words.Goals as goal

pub put_plain_words-requires-in-Some : goal.put_plain_words-requires-in-Some
put_plain_words-requires-in-Some c =
    hint_room c.args.draft.now c.emit.new.draft (hint_of c.args.s.now) c.in-Some.e.now (words_of c.args.s.now) c.in-Some.ensures c.requires c.in_ok-emit-in-Some.ensures

pub returns-in_ok-emit-in-Some : goal.returns-in_ok-emit-in-Some
returns-in_ok-emit-in-Some c =
    on_ok_weaker c.put_plain_words-in-Some.result
    (λ p. subst (λ o. GainsWords c.args.draft.now c.put_plain_words-in-Some.new.draft (spawned_words o (words_of c.args.s.now))) (sym c.in-Some.ensures)
    (hint_gained c.args.draft.now c.emit.new.draft c.put_plain_words-in-Some.new.draft c.in-Some.e.now (words_of c.args.s.now) c.in_ok-emit-in-Some.ensures p))
    c.put_plain_words-in-Some.ensures
