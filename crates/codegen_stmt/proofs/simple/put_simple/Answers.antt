use Rattle.std.proofs.lemmas.Result.{on_ok_weaker}
use Rattle.codegen_stmt.proofs.Grown.{words_room, simple_gained}
use Rattle.codegen_stmt.proofs.simple.put_simple.Goals as goal

pub put_words-requires : goal.put_words-requires
put_words-requires c = words_room c.args.draft.now c.args.s.now c.requires.room

pub returns : goal.returns
returns c =
    on_ok_weaker c.put_own.result
    (simple_gained c.args.draft.now c.put_words.new.draft c.put_own.new.draft c.args.around c.args.s.now c.requires.simple c.requires.start c.in_ok-put_words.ensures)
    c.put_own.ensures
