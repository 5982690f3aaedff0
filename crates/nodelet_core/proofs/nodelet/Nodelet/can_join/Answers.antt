use Rattle.std.proofs.Common.{sym, ◌∙◌}
use Rattle.nodelet_core.proofs.Joining.{is_here, not_given, are_there}
use Rattle.nodelet_core.proofs.nodelet.Nodelet.can_join.Goals as goal

pub returns-then-is_here : goal.returns-then-is_here
returns-then-is_here c = λ code. is_here _ _ _ _ _ (sym (c.is_here.ensures code) ∙ c.if-is_here.true)

pub returns-then-not-has_given : goal.returns-then-not-has_given
returns-then-not-has_given c = λ code.
    not_given _ _ _ _ _ (sym (c.is_here.ensures code) ∙ c.if-is_here.false) (sym (c.has_given.ensures code) ∙ c.if-not-has_given.true)

pub returns : goal.returns
returns c = λ code.
    are_there _ _ _ _ _ _ (sym (c.is_here.ensures code) ∙ c.if-is_here.false) (sym (c.has_given.ensures code) ∙ c.if-not-has_given.false) c.are_there.ensures
