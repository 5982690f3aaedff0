-- What code keeps of arguments.
use Rattle.std.specs.Prelude.{true, false, ◌&&◌, List, map, Option, Some, None}
use Rattle.cilk_ast.specs.declared.kind.Kind.{Kind}
use Rattle.cilk_ast.specs.declared.tree.TExpr.{TExpr}
use Rattle.cilk_model.specs.FirstFault.{earlier, first_fault}
use Rattle.cilk_model.specs.Scopes.{Names}
use Rattle.cilk_model.specs.Sorts.{all_fit, all_words, judged}
use Rattle.cilk_model.specs.ExpressionBreaks.{misfits, word_misfits, list_faults}
use Rattle.cilk_types.specs.declared.judgement.Judgement.{Judgement}
use Rattle.cilk_types.specs.declared.judgement.Want.{Want}
use Rattle.cilk_types.specs.declared.judgement.Arguments.{Arguments}
use Rattle.cilk_types.specs.Judging.{is_good, wrong_with}

-- arguments for which these kinds are wanted
unfoldable pub arguments_of : Names → List Kind → List TExpr → Arguments
arguments_of names wanted args = record {
  fit = all_fit wanted (map (judged names) args);
  misfit = first_fault (misfits wanted (map (judged names) args));
  fault = first_fault (list_faults names args);
}

-- arguments that are to be words
unfoldable pub words_of : Names → List TExpr → Arguments
words_of names args = record {
  fit = all_words (map (judged names) args);
  misfit = first_fault (word_misfits (map (judged names) args));
  fault = first_fault (list_faults names args);
}

-- one argument, of which something is wanted or for which there is no place
abbrev pub argument_of : Option Want → Judgement → Arguments
argument_of None part = record { fit = false; misfit = None; fault = part.fault }
argument_of (Some want) part = record { fit = is_good want part; misfit = wrong_with want part; fault = part.fault }

-- no argument
abbrev pub no_argument : Arguments
no_argument = record { fit = true; misfit = None; fault = None }

-- some arguments, and more
abbrev pub joined : Arguments → Arguments → Arguments
joined a b = record { fit = a.fit && b.fit; misfit = earlier a.misfit b.misfit; fault = earlier a.fault b.fault }
