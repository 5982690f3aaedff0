-- Arguments, one after the other.
use Rattle.std.proofs.Common.{◌≡◌, ◌∙◌, ap, sym, ℕ, zero, suc, ◌<◌, Bool, true, false, ◌&&◌, List, [], ◌∷◌, length, map, drop, Option, Some, None, refl, arith, get_or}
use Rattle.std.specs.Prelude.{nat_le}
use Rattle.std.specs.Option.{option_map}
use Rattle.std.specs.List.{slice_get}
use Rattle.std.proofs.Math.Bool.{and_assoc, and-true}
use Rattle.std.proofs.lemmas.Bool.Decides.{nat_tests}
use Rattle.std.proofs.Math.Seq.{drop-cons}
use Rattle.std.proofs.lemmas.Option.{slice_get_within, get_or_from_slice_get, slice_get-get_or}
use Rattle.cilk_ast.specs.declared.kind.Kind.{Kind}
use Rattle.cilk_ast.specs.declared.tree.TExpr.{TExpr}
use Rattle.cilk_model.specs.FirstFault.{first_fault}
use Rattle.cilk_model.specs.Scopes.{Names}
use Rattle.cilk_model.specs.Sorts.{is_word, all_fit, all_words, judged}
use Rattle.cilk_model.specs.ExpressionBreaks.{misfit, unfit, misfits, word_misfits, list_faults, faults_of}
use Rattle.cilk_types.specs.declared.judgement.Judgement.{Judgement}
use Rattle.cilk_types.specs.declared.judgement.Want.{Want}
use Rattle.cilk_types.specs.declared.judgement.Want.TheVariants as want
use Rattle.cilk_types.specs.declared.judgement.Arguments.{Arguments}
use Rattle.cilk_types.specs.Judging.{judgement}
use Rattle.cilk_types.specs.Arguments.{arguments_of, words_of, argument_of, joined}
use Rattle.cilk_types.proofs.FaultOrder.{earlier_none, earlier_assoc, first_fault_append}

pub joined_assoc : (a b c : Arguments) → joined (joined a b) c ≡ joined a (joined b c)
joined_assoc a b c = λ i. record {
  fit = and_assoc a.fit b.fit c.fit i;
  misfit = earlier_assoc a.misfit b.misfit c.misfit i;
  fault = earlier_assoc a.fault b.fault c.fault i;
}

-- an argument for which a kind is wanted, one for which there is no place, and a word
pub next_fits : (names : Names) (kind : Kind) (kinds : List Kind) (arg : TExpr) (args : List TExpr) →
    arguments_of names (kind ∷ kinds) (arg ∷ args) ≡ joined (argument_of (Some (want.Kind kind)) (judgement names arg)) (arguments_of names kinds args)
unfolding arguments_of judgement
next_fits names kind kinds arg args = λ i. record {
  fit = all_fit (kind ∷ kinds) (map (judged names) (arg ∷ args));
  misfit = first_fault_append (unfit kind (judged names arg)) (misfits kinds (map (judged names) args)) i;
  fault = first_fault_append (faults_of names arg) (list_faults names args) i;
}

pub next_is_over : (names : Names) (arg : TExpr) (args : List TExpr) →
    arguments_of names [] (arg ∷ args) ≡ joined (argument_of None (judgement names arg)) (arguments_of names [] args)
unfolding arguments_of judgement
next_is_over names arg args = λ i. record { fit = false; misfit = None; fault = first_fault_append (faults_of names arg) (list_faults names args) i }

pub next_word : (names : Names) (arg : TExpr) (args : List TExpr) →
    words_of names (arg ∷ args) ≡ joined (argument_of (Some want.Word) (judgement names arg)) (words_of names args)
unfolding words_of judgement
next_word names arg args = λ i. record {
  fit = all_words (map (judged names) (arg ∷ args));
  misfit = first_fault_append (misfit is_word (judged names arg)) (word_misfits (map (judged names) args)) i;
  fault = first_fault_append (faults_of names arg) (list_faults names args) i;
}

-- what is left behind an item, and behind the last
pub drop_item : {X : Type 0} (xs : List X) (i : ℕ) (x : X) → slice_get xs i ≡ Some x → drop i xs ≡ x ∷ drop (suc i) xs
drop_item xs i x h = drop-cons xs i x (slice_get_within xs i x h) ∙ ap (λ y. y ∷ drop (suc i) xs) (get_or_from_slice_get xs i x x h)

drop_none : {X : Type 0} (xs : List X) (i : ℕ) → slice_get xs i ≡ None → drop i xs ≡ []
drop_none [] zero h = refl
drop_none [] (suc i) h = refl
drop_none (x ∷ xs) zero h = cc
drop_none (x ∷ xs) (suc i) h = drop_none xs i h

drop_next : {X : Type 0} (xs : List X) (i : ℕ) → slice_get xs i ≡ None → drop (suc i) xs ≡ []
drop_next [] zero h = refl
drop_next [] (suc i) h = refl
drop_next (x ∷ xs) zero h = cc
drop_next (x ∷ xs) (suc i) h = drop_next xs i h

-- the argument at an index, by what is wanted there
at_index : (names : Names) (kinds : List Kind) (arg : TExpr) (args : List TExpr) (i : ℕ) (k : Option Kind) → slice_get kinds i ≡ k →
    arguments_of names (drop i kinds) (arg ∷ args)
    ≡ joined (argument_of (option_map want.Kind k) (judgement names arg)) (arguments_of names (drop (suc i) kinds) args)
at_index names kinds arg args i (Some kind) h =
    ap (λ ks. arguments_of names ks (arg ∷ args)) (drop_item kinds i kind h) ∙ next_fits names kind (drop (suc i) kinds) arg args
at_index names kinds arg args i None h =
    ap (λ ks. arguments_of names ks (arg ∷ args)) (drop_none kinds i h) ∙ next_is_over names arg args
    ∙ ap (λ ks. joined (argument_of None (judgement names arg)) (arguments_of names ks args)) (sym (drop_next kinds i h))

-- one argument more is judged
pub arguments_step : (names : Names) (kinds : List Kind) (args : List TExpr) (i : ℕ) (arg : TExpr) (found all : Arguments) →
    slice_get args i ≡ Some arg → joined found (arguments_of names (drop i kinds) (drop i args)) ≡ all →
    joined (joined found (argument_of (option_map want.Kind (slice_get kinds i)) (judgement names arg)))
    (arguments_of names (drop (suc i) kinds) (drop (suc i) args)) ≡ all
arguments_step names kinds args i arg found all h before =
    joined_assoc found _ _
    ∙ ap (joined found)
    (sym
    (ap (arguments_of names (drop i kinds)) (drop_item args i arg h) ∙ at_index names kinds arg (drop (suc i) args) i (slice_get kinds i) refl))
    ∙ before

pub words_step : (names : Names) (args : List TExpr) (i : ℕ) (arg : TExpr) (found all : Arguments) →
    slice_get args i ≡ Some arg → joined found (words_of names (drop i args)) ≡ all →
    joined (joined found (argument_of (Some want.Word) (judgement names arg))) (words_of names (drop (suc i) args)) ≡ all
words_step names args i arg found all h before =
    joined_assoc found _ _
    ∙ ap (joined found) (sym (ap (words_of names) (drop_item args i arg h) ∙ next_word names arg (drop (suc i) args))) ∙ before

-- no argument is left
le_suc : (m n : ℕ) → nat_le m n ≡ nat_le (suc m) (suc n)
le_suc m n = grind (arith, nat_tests)

none_le : (n : ℕ) → true ≡ nat_le 0 n
none_le n = grind (arith, nat_tests)

all_fit_none : (kinds : List Kind) (n : ℕ) → all_fit (drop n kinds) [] ≡ nat_le (length kinds) n
all_fit_none [] zero = refl
all_fit_none [] (suc n) = none_le (suc n)
all_fit_none (kind ∷ kinds) zero = grind (arith, nat_tests)
all_fit_none (kind ∷ kinds) (suc n) = all_fit_none kinds n ∙ le_suc (length kinds) n

misfits_none : (kinds : List Kind) → misfits kinds [] ≡ []
misfits_none [] = refl
misfits_none (kind ∷ kinds) = refl

-- of no argument nothing is at fault, and it fits where nothing is wanted
arguments_none : (names : Names) (kinds : List Kind) (n : ℕ) →
    arguments_of names (drop n kinds) [] ≡ record { fit = nat_le (length kinds) n; misfit = None; fault = None }
unfolding arguments_of
arguments_none names kinds n = λ i. record {
  fit = all_fit_none kinds n i;
  misfit = first_fault (misfits_none (drop n kinds) i);
  fault = None;
}

with_none : (found : Arguments) (b : Bool) → joined found (record { fit = b; misfit = None; fault = None }) ≡ record found { fit = found.fit && b }
with_none found b = λ i. record { fit = found.fit && b; misfit = earlier_none found.misfit i; fault = earlier_none found.fault i }

pub arguments_over : (names : Names) (kinds : List Kind) (args : List TExpr) (n : ℕ) (found all : Arguments) →
    drop n args ≡ [] → joined found (arguments_of names (drop n kinds) (drop n args)) ≡ all →
    record found { fit = found.fit && nat_le (length kinds) n } ≡ all
arguments_over names kinds args n found all h before =
    sym
    (ap (λ rest. joined found (arguments_of names (drop n kinds) rest)) h ∙ ap (joined found) (arguments_none names kinds n)
    ∙ with_none found (nat_le (length kinds) n))
    ∙ before

pub words_over : (names : Names) (args : List TExpr) (n : ℕ) (found all : Arguments) →
    drop n args ≡ [] → joined found (words_of names (drop n args)) ≡ all → found ≡ all
unfolding words_of
words_over names args n found all h before =
    sym
    (ap (λ rest. joined found (words_of names rest)) h ∙ with_none found true ∙ (λ i. record found { fit = and-true found.fit i }))
    ∙ before

pub arguments_fault : (names : Names) (kinds : List Kind) (args : List TExpr) → (arguments_of names kinds args).fault ≡ first_fault (list_faults names args)
unfolding arguments_of
arguments_fault names kinds args = refl

-- the item at an index, as code has it
pub at_item : {X : Type 0} (xs : List X) (i : ℕ) (x : X) → i < length xs → x ≡ get_or xs i x → slice_get xs i ≡ Some x
at_item xs i x lt e = slice_get-get_or xs i x lt ∙ ap (λ y. Some y) (sym e)

-- the same with what code has found
pub arguments_next :
    (names : Names) (kinds : List Kind) (args : List TExpr) (i j : ℕ) (arg : TExpr) (part : Judgement) (wish : Option Want) (found new all : Arguments) →
    j ≡ suc i → slice_get args i ≡ Some arg → part ≡ judgement names arg → wish ≡ option_map want.Kind (slice_get kinds i) →
    new ≡ joined found (argument_of wish part) → joined found (arguments_of names (drop i kinds) (drop i args)) ≡ all →
    joined new (arguments_of names (drop j kinds) (drop j args)) ≡ all
arguments_next names kinds args i j arg part wish found new all next h is_part is_wish is_new before =
    ap (λ n. joined new (arguments_of names (drop n kinds) (drop n args))) next
    ∙ ap (λ a. joined a (arguments_of names (drop (suc i) kinds) (drop (suc i) args)))
    (is_new ∙ ap (λ w. joined found (argument_of w part)) is_wish ∙ ap (λ p. joined found (argument_of (option_map want.Kind (slice_get kinds i)) p)) is_part)
    ∙ arguments_step names kinds args i arg found all h before

pub words_next :
    (names : Names) (args : List TExpr) (i j : ℕ) (arg : TExpr) (part : Judgement) (found new all : Arguments) →
    j ≡ suc i → slice_get args i ≡ Some arg → part ≡ judgement names arg → new ≡ joined found (argument_of (Some want.Word) part) →
    joined found (words_of names (drop i args)) ≡ all → joined new (words_of names (drop j args)) ≡ all
words_next names args i j arg part found new all next h is_part is_new before =
    ap (λ n. joined new (words_of names (drop n args))) next
    ∙ ap (λ a. joined a (words_of names (drop (suc i) args))) (is_new ∙ ap (λ p. joined found (argument_of (Some want.Word) p)) is_part)
    ∙ words_step names args i arg found all h before
