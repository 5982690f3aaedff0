-- The judgement of forms with arguments, from those of the arguments.
use Rattle.std.proofs.Common.{◌≡◌, ◌∙◌, ap, ℕ, ◌==◌, false, not, ◌&&◌, List, [], ◌∷◌, ◌++◌, length, map, Option, Some, None, refl}
use Rattle.std.specs.Option.{option_map}
use Rattle.std.proofs.lemmas.List.{length-map}
use Rattle.word_ops.specs.declared.place.Pos.{Pos}
use Rattle.word_ops.specs.declared.format.Part.{Part}
use Rattle.word_ops.specs.Formats.{words_in}
use Rattle.cilk_ast.specs.declared.builtin.Builtin.{Builtin}
use Rattle.cilk_ast.specs.declared.fault.FaultKind.TheVariants as fault
use Rattle.cilk_ast.specs.declared.fault.TextFault.{TextFault}
use Rattle.cilk_ast.specs.declared.kind.Kind.{Kind}
use Rattle.cilk_ast.specs.declared.kind.Kind.TheVariants as sort
use Rattle.cilk_ast.specs.declared.tree.TExpr as code
use Rattle.cilk_ast.specs.declared.tree.TExpr.TheBlock.{shape-the_row-TExpr-1, hidden-the_row-TExpr-1}
use Rattle.cilk_ast.specs.declared.tree.TExpr.{TExpr}
use Rattle.cilk_model.specs.FirstFault.{broken, broken_if, earlier, first_fault}
use Rattle.cilk_model.specs.Formats.{format_of}
use Rattle.cilk_model.specs.Scopes.{Entity, local, global, function, Names}
use Rattle.cilk_model.specs.Sorts.{counted, kind_if, counts, wanted, given, all_fit, all_words, Judged, call_kind, judged, judged_row}
use Rattle.cilk_model.specs.ExpressionBreaks.{miscounts, misfits, word_misfits, format_faults, call_faults, list_faults, argument_faults, faults_of}
use Rattle.cilk_types.specs.declared.judgement.Judgement.{Judgement}
use Rattle.cilk_types.specs.Judging.{judgement}
use Rattle.cilk_types.specs.Arguments.{arguments_of, words_of}
use Rattle.cilk_types.specs.Calling.{of_applied, of_no_call, of_call, is_counted, miscounted, of_print}
use Rattle.cilk_types.proofs.FaultOrder.{first_fault_append}
use Rattle.cilk_types.proofs.Judgements.{of_parts}
use denote.Hole.Carrier.{hidden}

-- the arguments of a form, as a list
judged_args : (names : Names) (args : List TExpr) → judged_row names (hidden-the_row-TExpr-1 args) ≡ map (judged names) args
unfolding shape-the_row-TExpr-1 hidden-the_row-TExpr-1 hidden
judged_args names [] = refl
judged_args names (arg ∷ args) = λ i. judged names arg ∷ judged_args names args i

faults_of_args : (names : Names) (args : List TExpr) → argument_faults names (hidden-the_row-TExpr-1 args) ≡ list_faults names args
unfolding shape-the_row-TExpr-1 hidden-the_row-TExpr-1 hidden
faults_of_args names [] = refl
faults_of_args names (arg ∷ args) = λ i. faults_of names arg ++ faults_of_args names args i

-- something that takes arguments, over what is known of them
applied : Pos → List Kind → Kind → List Judged → List TextFault → Judgement
applied at kinds gives parts faults = record {
  at = at;
  is_literal_0 = false;
  kind = kind_if (all_fit kinds parts) gives;
  fault = first_fault (miscounts at kinds parts ++ misfits kinds parts ++ faults);
}

applied_is : (names : Names) (at : Pos) (kinds : List Kind) (gives : Kind) (args : List TExpr) →
    applied at kinds gives (map (judged names) args) (list_faults names args) ≡ of_applied names at kinds gives args
unfolding applied arguments_of
applied_is names at kinds gives args =
    (λ i. record {
      at = at;
      is_literal_0 = false;
      kind = kind_if (all_fit kinds (map (judged names) args)) gives;
      fault = of_parts (miscounts at kinds (map (judged names) args)) (misfits kinds (map (judged names) args)) (list_faults names args) i;
    })
    ∙ (λ i. record {
      at = at;
      is_literal_0 = false;
      kind = kind_if (all_fit kinds (map (judged names) args)) gives;
      fault =
          earlier
          (earlier (first_fault (broken_if (not (length kinds == length-map args (judged names) i)) fault.WrongCount at)) (first_fault (misfits kinds (map (judged names) args))))
          (first_fault (list_faults names args));
    })

pub judgement_builtin : (names : Names) (at : Pos) (which : Builtin) (args : List TExpr) →
    judgement names (code.Builtin at which args) ≡ of_applied names at (wanted which) (given which) args
unfolding judgement applied
judgement_builtin names at which args =
    (λ i. applied at (wanted which) (given which) (judged_args names args i) (faults_of_args names args i))
    ∙ applied_is names at (wanted which) (given which) args

-- a call, over what is known of its arguments
called : Pos → Option Entity → List Judged → List TextFault → Judgement
called at entity parts faults = record { at = at; is_literal_0 = false; kind = call_kind entity parts; fault = first_fault (call_faults at entity parts ++ faults) }

not_called : (names : Names) (at : Pos) (wrong : List TextFault) (args : List TExpr) → Judgement
not_called names at wrong args = record { at = at; is_literal_0 = false; kind = None; fault = first_fault (wrong ++ list_faults names args) }

not_called_is : (names : Names) (at : Pos) (wrong : List TextFault) (args : List TExpr) →
    not_called names at wrong args ≡ of_no_call names at (first_fault wrong) args
unfolding not_called
not_called_is names at wrong args =
    λ i. record { at = at; is_literal_0 = false; kind = None; fault = first_fault_append wrong (list_faults names args) i }

called_is : (names : Names) (at : Pos) (entity : Option Entity) (args : List TExpr) →
    called at entity (map (judged names) args) (list_faults names args) ≡ of_call names at entity args
unfolding called applied not_called
called_is names at None args = not_called_is names at (broken fault.Unknown at) args
called_is names at (Some (function f)) args = applied_is names at f.params (counted f.«result») args
called_is names at (Some (local l)) args = not_called_is names at (broken fault.WrongType at) args
called_is names at (Some (global g)) args = not_called_is names at (broken fault.WrongType at) args

pub judgement_call : (names : Names) (at : Pos) (name : List ℕ) (args : List TExpr) →
    judgement names (code.Call at name args) ≡ of_call names at (names name) args
unfolding judgement called
judgement_call names at name args =
    (λ i. called at (names name) (judged_args names args i) (faults_of_args names args i)) ∙ called_is names at (names name) args

-- a print, over what is known of its arguments
printed : Pos → Pos → Option (List Part) → List Judged → List TextFault → Judgement
printed at text_at format parts faults = record {
  at = at;
  is_literal_0 = false;
  kind = kind_if (counts format (length parts) && all_words parts) sort.Void;
  fault = first_fault (format_faults at text_at format parts ++ word_misfits parts ++ faults);
}

-- the same with the number of the arguments apart
printed_so : (names : Names) (at text_at : Pos) (format : Option (List Part)) (args : List TExpr) (n : ℕ) → Judgement
printed_so names at text_at format args n = record {
  at = at;
  is_literal_0 = false;
  kind = kind_if (is_counted (option_map words_in format) n && all_words (map (judged names) args)) sort.Void;
  fault =
      earlier (earlier (miscounted at text_at (option_map words_in format) n) (first_fault (word_misfits (map (judged names) args))))
      (first_fault (list_faults names args));
}

printed_first : (names : Names) (at text_at : Pos) (format : Option (List Part)) (args : List TExpr) →
    printed at text_at format (map (judged names) args) (list_faults names args)
    ≡ printed_so names at text_at format args (length (map (judged names) args))
unfolding printed printed_so
printed_first names at text_at None args =
    λ i. record {
      at = at;
      is_literal_0 = false;
      kind = None;
      fault = of_parts (broken fault.BadFormat text_at) (word_misfits (map (judged names) args)) (list_faults names args) i;
    }
printed_first names at text_at (Some format) args =
    λ i. record {
      at = at;
      is_literal_0 = false;
      kind = kind_if (words_in format == length (map (judged names) args) && all_words (map (judged names) args)) sort.Void;
      fault =
          of_parts (broken_if (not (words_in format == length (map (judged names) args))) fault.WrongCount at) (word_misfits (map (judged names) args))
          (list_faults names args) i;
    }

printed_is : (names : Names) (at text_at : Pos) (format : Option (List Part)) (args : List TExpr) →
    printed at text_at format (map (judged names) args) (list_faults names args) ≡ of_print names at text_at (option_map words_in format) args
unfolding printed_so words_of
printed_is names at text_at format args =
    printed_first names at text_at format args ∙ ap (printed_so names at text_at format args) (length-map args (judged names))

pub judgement_print : (names : Names) (at text_at : Pos) (format : List ℕ) (args : List TExpr) →
    judgement names (code.Print at text_at format args) ≡ of_print names at text_at (option_map words_in (format_of format)) args
unfolding judgement printed
judgement_print names at text_at format args =
    (λ i. printed at text_at (format_of format) (judged_args names args i) (faults_of_args names args i))
    ∙ printed_is names at text_at (format_of format) args

pub ruleset call_forms = (judgement_builtin, judgement_call, judgement_print)

-- a call's first fault and its kind
pub call_fault_is : (names : Names) (at : Pos) (entity : Option Entity) (args : List TExpr) →
    first_fault (call_faults at entity (map (judged names) args) ++ list_faults names args) ≡ (of_call names at entity args).fault
unfolding called
call_fault_is names at entity args = ap (λ (j : Judgement). j.fault) (called_is names at entity args)

pub call_kind_is : (names : Names) (at : Pos) (entity : Option Entity) (args : List TExpr) →
    call_kind entity (map (judged names) args) ≡ (of_call names at entity args).kind
unfolding called
call_kind_is names at entity args = ap (λ (j : Judgement). j.kind) (called_is names at entity args)
