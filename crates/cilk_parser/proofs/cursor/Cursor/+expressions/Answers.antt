use Rattle.std.proofs.Common.{◌≡◌, ◌-◌, sym, ◌∙◌, ap, Ok, arith, append-nil, ◌∷◌, [], ◌++◌}
use Rattle.cilk_model.specs.GrammarForms as expression_form
use Rattle.cilk_model.specs.GrammarForms.{more_args}
use Rattle.cilk_parser.specs.Parsers.{goes_on}
use Rattle.cilk_parser.specs.Read.{read}
use Rattle.cilk_parser.specs.Gives.{prefixed}
use Rattle.cilk_parser.specs.Meanings.{meant_before, meant_between}
use Rattle.cilk_parser.proofs.Steps.{passes, passes_list, passes_more, made, onward, prefixed_twice}
use Rattle.cilk_parser.proofs.CodeExpressions.{prefix_there, prefix_not, open_there, open_not, first_step, infix_there, infix_not, postfix_step, index_there, index_not, literal_there, literal_not, name_there, name_not, builtin_there, builtin_not, printf_there, printf_not, init_there, init_not, args_none, args_some, arg_there, arg_not}
use Rattle.cilk_parser.proofs.cursor.Cursor.+expressions.Goals as goal

pub args-returns-then-at_mark-clause-reads : goal.args-returns-then-at_mark-clause-reads
args-returns-then-at_mark-clause-reads t c =
    rw c.list-all.ensures (args_none _ (sym c.if-at_mark.ensures))

pub args-returns-in_err-first-clause-reads : goal.args-returns-in_err-first-clause-reads
args-returns-in_err-first-clause-reads t c =
    passes _ _ _ _ _ _ c.from_residual.ensures.1 c.in_err-first.ensures.reads (args_some _ (sym c.if-at_mark.ensures))

pub args-returns-in_err-more_args-clause-reads : goal.args-returns-in_err-more_args-clause-reads
args-returns-in_err-more_args-clause-reads t c =
    passes_list _ _ c.add.new.self c.more_args.new.all (c.in_ok-first.first ∷ []) c.more_args.new.self (read more_args c.expression.new.self) _ c.from_residual-in_err-more_args.ensures.1 c.in_err-more_args.ensures.reads (args_some _ (sym c.if-at_mark.ensures) ∙ ap (goes_on _) c.in_ok-first.ensures.reads)

pub args-returns-clause-reads : goal.args-returns-clause-reads
args-returns-clause-reads t c =
    let e : c.add.new.self ≡ c.in_ok-first.first ∷ [] = c.in_ok-add.ensures.ok ∙ ap (λ z. z ++ c.in_ok-first.first ∷ []) c.list-all.ensures in
    args_some _ (sym c.if-at_mark.ensures) ∙ ap (goes_on _) c.in_ok-first.ensures.reads ∙ ap (λ z. prefixed z (read more_args c.expression.new.self)) (sym e) ∙ c.in_ok-more_args.ensures.reads

pub expression-returns-in_err-left-clause-reads : goal.expression-returns-in_err-left-clause-reads
expression-returns-in_err-left-clause-reads t c =
    passes _ _ _ _ _ _ c.from_residual.ensures.1 c.in_err-left.ensures.reads (first_step c.args.looseness _ (omega (arith, c.if-looseness-eq0.false)))

pub expression-further-init : goal.expression-further-init
expression-further-init t c =
    (first_step c.args.looseness _ (omega (arith, c.if-looseness-eq0.false)) ∙ ap (goes_on _) c.in_ok-left.ensures.reads, c.in_ok-left.ensures.shrinks, omega (arith, c.if-looseness-eq0.false))

pub expression-returns-in_err-right-clause-reads : goal.expression-returns-in_err-right-clause-reads
expression-returns-in_err-right-clause-reads t c =
    passes _ _ _ _ _ _ c.from_residual-in_err-right.ensures.1 c.in_err-right.ensures.reads (c.further.invariant.0 ∙ infix_there _ _ (c.in-Some.pos, meant_between c.in-Some.op) _ _ c.in-Some.ensures.found c.in-Some.ensures.left)

pub expression-further-preserved : goal.expression-further-preserved
expression-further-preserved t c = (
  c.further.invariant.0 ∙ infix_there _ _ (c.in-Some.pos, meant_between c.in-Some.op) _ _ c.in-Some.ensures.found c.in-Some.ensures.left ∙ ap (goes_on _) c.in_ok-right.ensures.reads
      ∙ ap (λ z. read (expression_form.further (c.args.looseness - 1) z) c.expression-in-Some.new.self) (sym c.in_ok-left-2.ensures.ok),
  omega (arith, c.further.invariant.1, c.in_ok-right.ensures.shrinks, c.in-Some.ensures.shrinks),
  c.further.invariant.2,
)

pub expression-returns-clause-reads : goal.expression-returns-clause-reads
expression-returns-clause-reads t c =
    c.further.invariant.0 ∙ infix_not _ _ _ _ c.in_default.ensures.found c.in_default.ensures.left

pub indexes-returns-in_err-place-clause-reads : goal.indexes-returns-in_err-place-clause-reads
indexes-returns-in_err-place-clause-reads t c =
    passes _ _ _ _ _ _ c.from_residual.ensures.1 c.in_err-place.ensures.reads (c.more.invariant.0 ∙ index_there _ c.in-Some.pos _ _ c.in-Some.ensures.found c.in-Some.ensures.left)

pub indexes-returns-in_err-take_mark-clause-reads : goal.indexes-returns-in_err-take_mark-clause-reads
indexes-returns-in_err-take_mark-clause-reads t c =
    passes _ _ _ _ _ _ c.from_residual-in_err-take_mark.ensures.1 c.in_err-take_mark.ensures.reads (c.more.invariant.0 ∙ index_there _ c.in-Some.pos _ _ c.in-Some.ensures.found c.in-Some.ensures.left ∙ ap (goes_on _) c.in_ok-place.ensures.reads)

pub indexes-more-preserved : goal.indexes-more-preserved
indexes-more-preserved t c = (
  rw (c.in_ok-base.ensures.ok, c.in_ok-index.ensures.ok) (c.more.invariant.0 ∙ index_there _ c.in-Some.pos _ _ c.in-Some.ensures.found c.in-Some.ensures.left ∙ ap (goes_on _) c.in_ok-place.ensures.reads ∙ ap (goes_on _) c.in_ok-take_mark.ensures.reads),
  omega (arith, c.more.invariant.1, c.in_ok-place.ensures.shrinks, c.in-Some.ensures.shrinks, c.in_ok-take_mark.ensures.shrinks),
)

pub indexes-returns-clause-reads : goal.indexes-returns-clause-reads
indexes-returns-clause-reads t c =
    c.more.invariant.0 ∙ index_not _ _ _ c.in_default.ensures.found c.in_default.ensures.left

pub postfix-returns-in_err-first-clause-reads : goal.postfix-returns-in_err-first-clause-reads
postfix-returns-in_err-first-clause-reads t c =
    passes _ _ _ _ _ _ c.from_residual.ensures.1 c.in_err-first.ensures.reads (postfix_step _)

pub postfix-returns-clause-reads : goal.postfix-returns-clause-reads
postfix-returns-clause-reads t c =
    onward _ _ _ _ (postfix_step _ ∙ ap (goes_on _) c.in_ok-first.ensures.reads) c.indexes.ensures.reads

pub more_args-returns-in_err-next-clause-reads : goal.more_args-returns-in_err-next-clause-reads
more_args-returns-in_err-next-clause-reads t c =
    passes_more _ _ c.args.all.now c.more.all c.more.all c.expression.new.self _ _ _ c.from_residual.ensures.1 c.in_err-next.ensures.reads (c.more.invariant.0 ∙ ap (prefixed _) (arg_there c.mark.result _ _ c.mark.ensures.found c.mark.ensures.left (sym c.more-test.ensures)))

pub more_args-more-preserved : goal.more_args-more-preserved
more_args-more-preserved t c = (
  c.more.invariant.0 ∙ ap (prefixed _) (arg_there c.mark.result _ _ c.mark.ensures.found c.mark.ensures.left (sym c.more-test.ensures)) ∙ ap (λ z. prefixed c.more.all z) (ap (goes_on _) c.in_ok-next.ensures.reads)
      ∙ prefixed_twice c.more.all (c.in_ok-next.next ∷ []) (read more_args c.expression.new.self) ∙ ap (λ xs. prefixed xs (read more_args c.expression.new.self)) (sym c.in_ok-add.ensures.ok),
  omega (arith, c.more.invariant.1, c.in_ok-next.ensures.shrinks, c.mark.ensures.shrinks),
)

pub more_args-returns-clause-reads : goal.more_args-returns-clause-reads
more_args-returns-clause-reads t c =
    c.more.invariant.0 ∙ ap (prefixed _) (arg_not c.mark.result _ _ c.mark.ensures.found c.mark.ensures.left (sym c.more-test.ensures)) ∙ ap (λ z. Ok (z, c.mark.new.self)) (append-nil c.more.all)

pub primary-returns-in-Some-clause-reads : goal.primary-returns-in-Some-clause-reads
primary-returns-in-Some-clause-reads t c =
    literal_there _ _ _ c.in-Some.ensures.found c.in-Some.ensures.left

pub primary-returns-then-at_name-clause-reads : goal.primary-returns-then-at_name-clause-reads
primary-returns-then-at_name-clause-reads t c =
    onward _ _ _ _ (literal_not _ _ c.in_default.ensures.found c.in_default.ensures.left ∙ name_there _ (sym c.if-at_name.ensures)) c.named.ensures.reads

pub primary-returns-in-Some-builtin-clause-reads : goal.primary-returns-in-Some-builtin-clause-reads
primary-returns-in-Some-builtin-clause-reads t c =
    onward _ _ _ _ (literal_not _ _ c.in_default.ensures.found c.in_default.ensures.left ∙ name_not _ (sym c.if-at_name.ensures) ∙ builtin_there (c.in-Some-builtin.pos, c.in-Some-builtin.which) c.number.new.self c.builtin.new.self c.in-Some-builtin.ensures.found c.in-Some-builtin.ensures.left) c.builtin_call.ensures.reads

pub primary-returns-in-Some-word-clause-reads : goal.primary-returns-in-Some-word-clause-reads
primary-returns-in-Some-word-clause-reads t c =
    onward _ _ _ _ (literal_not _ _ c.in_default.ensures.found c.in_default.ensures.left ∙ name_not _ (sym c.if-at_name.ensures) ∙ builtin_not _ _ c.in_default-builtin.ensures.found c.in_default-builtin.ensures.left ∙ printf_there c.in-Some-word.pos c.builtin.new.self c.word.new.self c.in-Some-word.ensures.found c.in-Some-word.ensures.left) c.print.ensures.reads

pub primary-returns-in-Some-word-2-clause-reads : goal.primary-returns-in-Some-word-2-clause-reads
primary-returns-in-Some-word-2-clause-reads t c =
    onward _ _ _ _ (literal_not _ _ c.in_default.ensures.found c.in_default.ensures.left ∙ name_not _ (sym c.if-at_name.ensures) ∙ builtin_not _ _ c.in_default-builtin.ensures.found c.in_default-builtin.ensures.left ∙ printf_not _ _ c.in_default-word.ensures.found c.in_default-word.ensures.left ∙ init_there c.in-Some-word-2.pos c.word.new.self c.word-2.new.self c.in-Some-word-2.ensures.found c.in-Some-word-2.ensures.left) c.replicated_init.ensures.reads

pub primary-returns-in_err-pos-clause-reads : goal.primary-returns-in_err-pos-clause-reads
primary-returns-in_err-pos-clause-reads t c =
    passes _ _ _ _ _ _ c.from_residual.ensures.1 c.in_err-pos.ensures.reads (literal_not _ _ c.in_default.ensures.found c.in_default.ensures.left ∙ name_not _ (sym c.if-at_name.ensures) ∙ builtin_not _ _ c.in_default-builtin.ensures.found c.in_default-builtin.ensures.left ∙ printf_not _ _ c.in_default-word.ensures.found c.in_default-word.ensures.left ∙ init_not _ _ c.in_default-word-2.ensures.found c.in_default-word-2.ensures.left)

pub primary-returns-in_err-part-clause-reads : goal.primary-returns-in_err-part-clause-reads
primary-returns-in_err-part-clause-reads t c =
    passes _ _ _ _ _ _ c.from_residual-in_err-part.ensures.1 c.in_err-part.ensures.reads (literal_not _ _ c.in_default.ensures.found c.in_default.ensures.left ∙ name_not _ (sym c.if-at_name.ensures) ∙ builtin_not _ _ c.in_default-builtin.ensures.found c.in_default-builtin.ensures.left ∙ printf_not _ _ c.in_default-word.ensures.found c.in_default-word.ensures.left ∙ init_not _ _ c.in_default-word-2.ensures.found c.in_default-word-2.ensures.left ∙ ap (goes_on _) c.in_ok-pos.ensures.reads)

pub primary-returns-in_err-take_mark-clause-reads : goal.primary-returns-in_err-take_mark-clause-reads
primary-returns-in_err-take_mark-clause-reads t c =
    passes _ _ _ _ _ _ c.from_residual-in_err-take_mark.ensures.1 c.in_err-take_mark.ensures.reads (literal_not _ _ c.in_default.ensures.found c.in_default.ensures.left ∙ name_not _ (sym c.if-at_name.ensures) ∙ builtin_not _ _ c.in_default-builtin.ensures.found c.in_default-builtin.ensures.left ∙ printf_not _ _ c.in_default-word.ensures.found c.in_default-word.ensures.left ∙ init_not _ _ c.in_default-word-2.ensures.found c.in_default-word-2.ensures.left ∙ ap (goes_on _) c.in_ok-pos.ensures.reads ∙ ap (goes_on _) c.in_ok-part.ensures.reads)

pub primary-returns-clause-reads : goal.primary-returns-clause-reads
primary-returns-clause-reads t c =
    rw c.in_ok-inner.ensures.ok (literal_not _ _ c.in_default.ensures.found c.in_default.ensures.left ∙ name_not _ (sym c.if-at_name.ensures) ∙ builtin_not _ _ c.in_default-builtin.ensures.found c.in_default-builtin.ensures.left ∙ printf_not _ _ c.in_default-word.ensures.found c.in_default-word.ensures.left ∙ init_not _ _ c.in_default-word-2.ensures.found c.in_default-word-2.ensures.left ∙ ap (goes_on _) c.in_ok-pos.ensures.reads ∙ ap (goes_on _) c.in_ok-part.ensures.reads ∙ ap (goes_on _) c.in_ok-take_mark.ensures.reads)

pub unary-returns-in_err-operand-clause-reads : goal.unary-returns-in_err-operand-clause-reads
unary-returns-in_err-operand-clause-reads t c =
    passes _ _ _ _ _ _ c.from_residual.ensures.1 c.in_err-operand.ensures.reads (prefix_there (c.in-Some.pos, meant_before c.in-Some.op) _ _ c.in-Some.ensures.found c.in-Some.ensures.left)

pub unary-returns-in-Some-clause-reads : goal.unary-returns-in-Some-clause-reads
unary-returns-in-Some-clause-reads t c =
    made _ _ _ _ c.prefixed.ensures.ok c.prefixed.ensures.err (prefix_there (c.in-Some.pos, meant_before c.in-Some.op) _ _ c.in-Some.ensures.found c.in-Some.ensures.left ∙ ap (goes_on _) c.in_ok-operand.ensures.reads)

pub unary-returns-in-Some-mark-clause-reads : goal.unary-returns-in-Some-mark-clause-reads
unary-returns-in-Some-mark-clause-reads t c =
    onward _ _ _ _ (prefix_not _ _ c.in_default.ensures.found c.in_default.ensures.left ∙ open_there c.in-Some-mark.pos c.prefix.new.self c.mark.new.self c.in-Some-mark.ensures.found c.in-Some-mark.ensures.left) c.bracketed.ensures.reads

pub unary-returns-in-None-clause-reads : goal.unary-returns-in-None-clause-reads
unary-returns-in-None-clause-reads t c =
    onward _ _ _ _ (prefix_not _ _ c.in_default.ensures.found c.in_default.ensures.left ∙ open_not _ _ c.in-None.ensures.found c.in-None.ensures.left) c.postfix.ensures.reads
