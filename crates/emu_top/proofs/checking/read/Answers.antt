use Rattle.emu_top.proofs.CheckLemmas.{tokens_refused, syntax_refused, rules_refused}
use Rattle.emu_top.proofs.checking.read.Goals as goal

pub returns-in-Err-clause-refused : goal.returns-in-Err-clause-refused
returns-in-Err-clause-refused c = tokens_refused c.args.text.now c.in-Err.refusal c.in-Err.ensures.refused

pub returns-in-Err-parse-clause-refused : goal.returns-in-Err-parse-clause-refused
returns-in-Err-parse-clause-refused c =
    syntax_refused c.args.text.now c.in-Ok.tokens c.in-Err-parse.refusal c.in-Ok.ensures.tokens c.in-Err-parse.ensures.refused

pub returns-clause-refused : goal.returns-clause-refused
returns-clause-refused c =
    rules_refused c.args.text.now c.in-Ok-parse.tree c.in-Err-check.refusal
    (record { tokens = c.in-Ok.tokens; are_tokens = c.in-Ok.ensures.tokens; spelled = c.in-Ok-parse.ensures.tree })
    c.in-Err-check.ensures.refused
