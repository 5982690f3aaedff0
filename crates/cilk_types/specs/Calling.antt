-- What code makes of calls, built-ins, prints and spawns, from their arguments.
use Rattle.std.specs.Prelude.{ℕ, ◌==◌, Bool, false, ◌&&◌, not, List, length, Option, Some, None}
use Rattle.word_ops.specs.declared.place.Pos.{Pos}
use Rattle.cilk_ast.specs.declared.fault.FaultKind.TheVariants as fault
use Rattle.cilk_ast.specs.declared.fault.TextFault.{TextFault}
use Rattle.cilk_ast.specs.declared.kind.Kind.{Kind}
use Rattle.cilk_ast.specs.declared.kind.Kind.TheVariants as sort
use Rattle.cilk_ast.specs.declared.tree.TExpr.{TExpr}
use Rattle.cilk_model.specs.FirstFault.{broken, broken_if, earlier, first_fault}
use Rattle.cilk_model.specs.Scopes.{Entity, local, global, function, Names}
use Rattle.cilk_model.specs.Sorts.{counted, kind_if}
use Rattle.cilk_model.specs.ExpressionBreaks.{list_faults}
use Rattle.cilk_types.specs.declared.judgement.Judgement.{Judgement}
use Rattle.cilk_types.specs.Arguments.{arguments_of, words_of}

-- something that takes arguments of these kinds and gives a kind
abbrev pub of_applied : Names → Pos → List Kind → Kind → List TExpr → Judgement
of_applied names at wanted gives args =
    let found = arguments_of names wanted args in
    record {
      at = at;
      is_literal_0 = false;
      kind = kind_if found.fit gives;
      fault = earlier (earlier (first_fault (broken_if (not (length wanted == length args)) fault.WrongCount at)) found.misfit) found.fault;
    }

-- arguments of what is no function
abbrev pub of_no_call : Names → Pos → Option TextFault → List TExpr → Judgement
of_no_call names at wrong args = record { at = at; is_literal_0 = false; kind = None; fault = earlier wrong (first_fault (list_faults names args)) }

-- a call of what a name stands for
abbrev pub of_call : Names → Pos → Option Entity → List TExpr → Judgement
of_call names at None args = of_no_call names at (first_fault (broken fault.Unknown at)) args
of_call names at (Some (function f)) args = of_applied names at f.params (counted f.«result») args
of_call names at (Some (local l)) args = of_no_call names at (first_fault (broken fault.WrongType at)) args
of_call names at (Some (global g)) args = of_no_call names at (first_fault (broken fault.WrongType at)) args

-- the words of a format, if it is one, are as many as the arguments
abbrev pub is_counted : Option ℕ → ℕ → Bool
is_counted None n = false
is_counted (Some words) n = words == n

abbrev pub miscounted : Pos → Pos → Option ℕ → ℕ → Option TextFault
miscounted at text_at None n = first_fault (broken fault.BadFormat text_at)
miscounted at text_at (Some words) n = first_fault (broken_if (not (words == n)) fault.WrongCount at)

-- a `printf` of a format with so many words
abbrev pub of_print : Names → Pos → Pos → Option ℕ → List TExpr → Judgement
of_print names at text_at words args =
    let found = words_of names args in
    record {
      at = at;
      is_literal_0 = false;
      kind = kind_if (is_counted words (length args) && found.fit) sort.Void;
      fault = earlier (earlier (miscounted at text_at words (length args)) found.misfit) found.fault;
    }
