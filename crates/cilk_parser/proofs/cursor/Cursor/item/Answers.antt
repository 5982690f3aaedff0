use Rattle.std.proofs.Common.{sym, ◌∙◌}
use Rattle.cilk_parser.proofs.Steps.{onward_list}
use Rattle.cilk_parser.proofs.CodeItems.{replicated_there, replicated_not, void_item, no_void_item, int_item, no_int_item}
use Rattle.cilk_parser.proofs.cursor.Cursor.item.Goals as goal

pub returns-then-is_some-clause-reads : goal.returns-then-is_some-clause-reads
returns-then-is_some-clause-reads c =
    onward_list _ _ _ _ _ _ (replicated_there c.word.result _ _ c.word.ensures.found c.word.ensures.left (sym c.if-is_some.ensures)) c.replicated_globals.ensures.reads

pub returns-in-Some-clause-reads : goal.returns-in-Some-clause-reads
returns-in-Some-clause-reads c =
    onward_list _ _ _ _ _ _ (replicated_not c.word.result _ _ c.word.ensures.found c.word.ensures.left (sym c.if-is_some.ensures) ∙ void_item c.in-Some.pos c.word.new.self c.word-2.new.self c.in-Some.ensures.found c.in-Some.ensures.left) c.named_function.ensures.reads

pub returns-in-Some-word-clause-reads : goal.returns-in-Some-word-clause-reads
returns-in-Some-word-clause-reads c =
    onward_list _ _ _ _ _ _ (replicated_not c.word.result _ _ c.word.ensures.found c.word.ensures.left (sym c.if-is_some.ensures) ∙ no_void_item _ _ c.in_default.ensures.found c.in_default.ensures.left ∙ int_item c.in-Some-word.pos c.word-2.new.self c.word-3.new.self c.in-Some-word.ensures.found c.in-Some-word.ensures.left) c.named_function-in-Some-word.ensures.reads

pub returns-clause-reads : goal.returns-clause-reads
returns-clause-reads c =
    onward_list _ _ _ _ _ _ (replicated_not c.word.result _ _ c.word.ensures.found c.word.ensures.left (sym c.if-is_some.ensures) ∙ no_void_item _ _ c.in_default.ensures.found c.in_default.ensures.left ∙ no_int_item _ _ c.in_default-word.ensures.found c.in_default-word.ensures.left) c.long_item.ensures.reads
