-- Every reader of a form reads what the grammar spells, as far as its parts may go.
use Rattle.std.proofs.Common.{ℕ, zero, suc}
use Rattle.cilk_model.specs.GrammarForms.{Form, star, expression, further, postfix, indexes, primary, args, more_args, perhaps, origin, spawn, value, initial, local, more_locals, simple, change, init, step, up, statement, block, body, params, param, more_params, function, more_globals, item, items, file}
use Rattle.cilk_model.specs.Grammar.{Spells}
use Rattle.cilk_parser.specs.Reading.{Readers, body_of}
use Rattle.cilk_parser.specs.Read.{read_within}
use Rattle.cilk_parser.proofs.Local.{Local, local_fails}
use Rattle.cilk_parser.proofs.Samples.{sample}
use Rattle.cilk_parser.proofs.LocalExpressions as expressions
use Rattle.cilk_parser.proofs.LocalStatements as statements
use Rattle.cilk_parser.proofs.LocalItems as tops

module _ (p : Readers) (l : (n : Form) → Local (p n) (Spells n)) where
  pub local_body_of : (n : Form) → Local (body_of p n) (Spells n)
  local_body_of star = expressions.local_star p l
  local_body_of (expression zero) = expressions.local_unary p l
  local_body_of (expression (suc n)) = expressions.local_expression p l n
  local_body_of (further n x) = expressions.local_further p l n x
  local_body_of postfix = expressions.local_postfix p l
  local_body_of (indexes x) = expressions.local_indexes p l x
  local_body_of primary = expressions.local_primary p l
  local_body_of args = expressions.local_args p l
  local_body_of more_args = expressions.local_more_args p l
  local_body_of perhaps = expressions.local_perhaps p l
  local_body_of origin = expressions.local_origin p l
  local_body_of spawn = statements.local_spawn p l
  local_body_of (value may) = statements.local_value p l may
  local_body_of initial = statements.local_initial p l
  local_body_of local = statements.local_local p l
  local_body_of more_locals = statements.local_more_locals p l
  local_body_of (simple may) = statements.local_simple p l may
  local_body_of (change may x) = statements.local_change p l may x
  local_body_of init = statements.local_init_part p l
  local_body_of step = statements.local_step p l
  local_body_of up = statements.local_up p l
  local_body_of statement = statements.local_statement p l
  local_body_of block = statements.local_block p l
  local_body_of body = statements.local_body p l
  local_body_of params = tops.local_params p l
  local_body_of param = tops.local_param p l
  local_body_of more_params = tops.local_more_params p l
  local_body_of (function at k at_name f) = tops.local_function p l at k at_name f
  local_body_of (more_globals r) = tops.local_more_globals p l r
  local_body_of item = tops.local_item p l
  local_body_of items = tops.local_items p l
  local_body_of file = tops.local_file p l

pub local_read_within : (depth : ℕ) (n : Form) → Local (read_within depth n) (Spells n)
unfolding read_within
local_read_within zero n = let s = sample n in local_fails (Spells n) s.0 s.1 s.2
local_read_within (suc depth) n = local_body_of (read_within depth) (local_read_within depth) n
