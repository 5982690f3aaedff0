use Rattle.std.proofs.Common.{sym, ◌∙◌, arith}
use Rattle.cilk_parser.proofs.Answered.{stopped, gives_tree, one_is_deep, gives_deep, gives_unexpected}
use Rattle.cilk_parser.proofs.parsing.parse.Goals as goal

pub bounds-all-shallow : goal.bounds-all-shallow
bounds-all-shallow c =
    one_is_deep c.args.text.now c.as_slice-all.result.now c.args.tokens.now c.in_ok-shallow.shallow c.new-cursor.result c.file.new.self
    c.as_slice-all.ensures c.requires c.in_ok-shallow.ensures.within c.in_ok-shallow.ensures.rest c.new-cursor.ensures
    (sym c.len-left.ensures ∙ c.if-left-eq0.true)
    (stopped c.in-Err-Unexpected.field-0 _ _ c.in-Err-Unexpected.field-0-is c.in-Err-Unexpected.ensures.reads)

pub returns-in-Ok-clause-tree : goal.returns-in-Ok-clause-tree
returns-in-Ok-clause-tree c =
    gives_tree c.args.text.now c.as_slice-all.result.now c.args.tokens.now c.in_ok-shallow.shallow c.new-cursor.result c.file.new.self
    c.as_slice-all.ensures c.requires c.in_ok-shallow.ensures.within c.in_ok-shallow.ensures.rest c.new-cursor.ensures
    c.in-Ok.tree c.in-Ok.ensures.reads

pub returns-then-left-eq0-clause-refused : goal.returns-then-left-eq0-clause-refused
returns-then-left-eq0-clause-refused c =
    gives_deep c.args.text.now c.as_slice-all.result.now c.args.tokens.now c.in_ok-shallow.shallow c.new-cursor.result c.file.new.self
    c.as_slice-all.ensures c.requires c.in_ok-shallow.ensures.within c.in_ok-shallow.ensures.rest c.new-cursor.ensures
    _ c.refused.result (sym c.len-left.ensures ∙ c.if-left-eq0.true)
    (stopped c.in-Err-Unexpected.field-0 _ _ c.in-Err-Unexpected.field-0-is c.in-Err-Unexpected.ensures.reads)
    c.refused.ensures

pub returns-else-left-eq0-clause-refused : goal.returns-else-left-eq0-clause-refused
returns-else-left-eq0-clause-refused c =
    gives_unexpected c.args.text.now c.as_slice-all.result.now c.args.tokens.now c.in_ok-shallow.shallow c.new-cursor.result c.file.new.self
    c.as_slice-all.ensures c.requires c.in_ok-shallow.ensures.within c.in_ok-shallow.ensures.rest c.new-cursor.ensures
    _ c.refused-else-left-eq0.result c.len-left.result c.len-left.ensures (omega (arith, c.if-left-eq0.false)) c.in-Err-Unexpected.ensures.shrinks
    (stopped c.in-Err-Unexpected.field-0 _ _ c.in-Err-Unexpected.field-0-is c.in-Err-Unexpected.ensures.reads)
    c.refused-else-left-eq0.ensures
