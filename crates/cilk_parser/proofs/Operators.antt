-- What operators and built-ins say of a token.
use Rattle.std.proofs.Common.{◌≡◌, ℕ, Bool, true, false, cond, ◌==◌, List, [], ◌∷◌, Option, Some, None, refl, sym, ◌∙◌, ap, eqb-true, eq-eqb}
use Rattle.std.specs.Prelude.{find, option_and_then}
use Rattle.word_ops.specs.declared.place.Pos.{Pos}
use Rattle.word_ops.specs.declared.operators.BinaryOp.TheVariants as op
use Rattle.cilk_ast.specs.declared.builtin.Builtin.{Builtin}
use Rattle.cilk_ast.specs.declared.builtin.Builtin.TheVariants as built
use Rattle.cilk_model.specs.Lexemes.{Lexeme, pos_of}
use Rattle.cilk_model.specs.Signs.{word, mark, Prefix, minus, opposite, complement, contents, prefix_spelling, Infix, either, both, binary, looseness, infix_spelling, builtin_spelling, is_replicated_init}
use Rattle.cilk_model.specs.Tests.{is_mark, is_word, prefix_of, infix_of, builtin_of}
use Rattle.cilk_parser.specs.Kinds.{a_prefix, an_infix, a_builtin}
use Rattle.cilk_parser.proofs.Taking.{Tells}
use Rattle.cilk_parser.proofs.Tokens.{Any, is_mark-true, is_word-true}

pub find_passes : {X : Type 0} (test : X → Bool) (xs : List X) (x : X) → find test xs ≡ Some x → test x ≡ true
find_passes test [] x e = absurd cc
find_passes test (y ∷ xs) x e = at_first (test y) refl e (find_passes test xs x) where
  at_first : (b : Bool) → test y ≡ b → cond b (Some y) (find test xs) ≡ Some x → (find test xs ≡ Some x → test x ≡ true) → test x ≡ true
  at_first true d g h = let same : y ≡ x = cc in sym (ap test same) ∙ d
  at_first false d g h = h g

abbrev pub before_operand : Pos × Prefix → Lexeme
before_operand k = mark (prefix_spelling (k.1)) (k.0)

abbrev pub between : Pos × Infix → Lexeme
between k = mark (infix_spelling (k.1)) (k.0)

abbrev pub built_in : Pos × Builtin → Lexeme
built_in k = word (builtin_spelling (k.1)) (k.0)

pub prefix_same : (o : Prefix) (at : Pos) → prefix_of (mark (prefix_spelling o) at) ≡ Some o
prefix_same minus at = refl
prefix_same opposite at = refl
prefix_same complement at = refl
prefix_same contents at = refl

pub infix_same : (o : Infix) (at : Pos) → infix_of (mark (infix_spelling o) at) ≡ Some o
infix_same either at = refl
infix_same both at = refl
infix_same (binary op.Or) at = refl
infix_same (binary op.Xor) at = refl
infix_same (binary op.And) at = refl
infix_same (binary op.Eq) at = refl
infix_same (binary op.Ne) at = refl
infix_same (binary op.Lt) at = refl
infix_same (binary op.Le) at = refl
infix_same (binary op.Gt) at = refl
infix_same (binary op.Ge) at = refl
infix_same (binary op.Shl) at = refl
infix_same (binary op.Shr) at = refl
infix_same (binary op.Add) at = refl
infix_same (binary op.Sub) at = refl
infix_same (binary op.Mul) at = refl
infix_same (binary op.Div) at = refl
infix_same (binary op.Rem) at = refl

pub builtin_same : (b : Builtin) (at : Pos) → builtin_of (word (builtin_spelling b) at) ≡ Some b
builtin_same built.MwMalloc1dlong at = refl
builtin_same built.MwMalloc2dlong at = refl
builtin_same built.MwLocalmalloc at = refl
builtin_same built.MwMallocrepl at = refl
builtin_same built.MwReplicatedInit at = refl
builtin_same built.RemoteAdd at = refl
builtin_same built.RemoteAnd at = refl
builtin_same built.RemoteOr at = refl
builtin_same built.RemoteXor at = refl
builtin_same built.RemoteMin at = refl
builtin_same built.RemoteMax at = refl
builtin_same built.AtomicAddms at = refl
builtin_same built.AtomicSwap at = refl
builtin_same built.AtomicCas at = refl
builtin_same built.Fence at = refl
builtin_same built.Migrate at = refl
builtin_same built.NodeId at = refl

prefixing : (t : Lexeme) (k : Pos × Prefix) (f : Option Prefix) → prefix_of t ≡ f → option_and_then (λ o. Some (pos_of t, o)) f ≡ Some k → t ≡ before_operand k
prefixing t k None e g = absurd cc
prefixing t k (Some o) e g =
    let d : (pos_of t, o) ≡ k = cc in
    is_mark-true (prefix_spelling o) t (find_passes (λ o. is_mark (prefix_spelling o) t) (minus ∷ opposite ∷ complement ∷ contents ∷ []) o e) ∙ ap before_operand d

pub tells_prefix : Tells a_prefix before_operand Any
tells_prefix = record {
  says = λ t k e. (prefixing t k (prefix_of t) refl e, tt);
  shown = λ k fit. ap (option_and_then (λ o. Some (k.0, o))) (prefix_same (k.1) (k.0));
}

-- An operator of this looseness.
abbrev pub IsLoose : ℕ → Pos × Infix → Type 0
IsLoose n k = looseness (k.1) ≡ n

abbrev all_infix : List Infix
all_infix =
    either ∷ both ∷ binary op.Or ∷ binary op.Xor ∷ binary op.And ∷ binary op.Eq ∷ binary op.Ne
    ∷ binary op.Lt ∷ binary op.Le ∷ binary op.Gt ∷ binary op.Ge ∷ binary op.Shl ∷ binary op.Shr
    ∷ binary op.Add ∷ binary op.Sub ∷ binary op.Mul ∷ binary op.Div ∷ binary op.Rem ∷ []

infixing : (n : ℕ) (t : Lexeme) (k : Pos × Infix) (f : Option Infix) → infix_of t ≡ f →
    option_and_then (λ o. cond (looseness o == n) (Some (pos_of t, o)) None) f ≡ Some k → (t ≡ between k) × IsLoose n k
infixing n t k None e g = absurd cc
infixing n t k (Some o) e g = at_looseness (looseness o == n) refl g where
  at_looseness : (b : Bool) → (looseness o == n) ≡ b → cond b (Some (pos_of t, o)) None ≡ Some k → (t ≡ between k) × IsLoose n k
  at_looseness false d h = absurd cc
  at_looseness true d h =
      let same : (pos_of t, o) ≡ k = cc in (
        is_mark-true (infix_spelling o) t (find_passes (λ o. is_mark (infix_spelling o) t) all_infix o e) ∙ ap between same,
        sym (ap (λ z. looseness (z.1)) same) ∙ eqb-true (looseness o) n d,
      )

pub tells_infix : (n : ℕ) → Tells (an_infix n) between (IsLoose n)
tells_infix n = record {
  says = λ t k d. infixing n t k (infix_of t) refl d;
  shown = λ k fit. ap (option_and_then (λ o. cond (looseness o == n) (Some (k.0, o)) None)) (infix_same (k.1) (k.0))
      ∙ ap (λ b. cond b (Some k) None) (eq-eqb (looseness (k.1)) n fit);
}

-- A built-in whose address has no name.
abbrev pub IsPlain : Pos × Builtin → Type 0
IsPlain k = is_replicated_init (k.1) ≡ false

abbrev all_builtins : List Builtin
all_builtins =
    built.MwMalloc1dlong ∷ built.MwMalloc2dlong ∷ built.MwLocalmalloc ∷ built.MwMallocrepl ∷ built.MwReplicatedInit
    ∷ built.RemoteAdd ∷ built.RemoteAnd ∷ built.RemoteOr ∷ built.RemoteXor ∷ built.RemoteMin ∷ built.RemoteMax
    ∷ built.AtomicAddms ∷ built.AtomicSwap ∷ built.AtomicCas ∷ built.Fence ∷ built.Migrate ∷ built.NodeId ∷ []

building : (t : Lexeme) (k : Pos × Builtin) (f : Option Builtin) → builtin_of t ≡ f →
    option_and_then (λ b. cond (is_replicated_init b) None (Some (pos_of t, b))) f ≡ Some k → (t ≡ built_in k) × IsPlain k
building t k None e g = absurd cc
building t k (Some o) e g = at_word (is_replicated_init o) refl g where
  at_word : (b : Bool) → is_replicated_init o ≡ b → cond b None (Some (pos_of t, o)) ≡ Some k → (t ≡ built_in k) × IsPlain k
  at_word true d h = absurd cc
  at_word false d h =
      let same : (pos_of t, o) ≡ k = cc in (
        is_word-true (builtin_spelling o) t (find_passes (λ b. is_word (builtin_spelling b) t) all_builtins o e) ∙ ap built_in same,
        sym (ap (λ z. is_replicated_init (z.1)) same) ∙ d,
      )

pub tells_builtin : Tells a_builtin built_in IsPlain
tells_builtin = record {
  says = λ t k d. building t k (builtin_of t) refl d;
  shown = λ k fit. ap (option_and_then (λ b. cond (is_replicated_init b) None (Some (k.0, b)))) (builtin_same (k.1) (k.0)) ∙ ap (λ b. cond b None (Some k)) fit;
}
