-- The tables of operators and built-in words mean what the grammar means.
use Rattle.std.proofs.Common.{◌≡◌, ℕ, Bool, true, false, cond, List, Option, Some, None, map, refl, sym, ap, subst, MatchOption, codes}
use Rattle.std.specs.Prelude.{is_some}
use Rattle.word_ops.specs.declared.operators.BinaryOp.TheVariants as op
use Rattle.cilk_ast.specs.declared.token.Token.{Token}
use Rattle.cilk_ast.specs.declared.token.TokenKind.{TokenKind}
use Rattle.cilk_ast.specs.declared.token.TokenKind.TheVariants as kind
use Rattle.cilk_ast.specs.declared.builtin.Builtin.{Builtin}
use Rattle.cilk_ast.specs.declared.builtin.Builtin.TheVariants as built
use Rattle.cilk_model.specs.Lexemes as lexeme
use Rattle.cilk_model.specs.Lexemes.{Lexeme, pos_of, lexeme_of}
use Rattle.cilk_model.specs.Signs.{Infix, either, both, binary, looseness, infix_spelling, builtin_spelling, is_replicated_init}
use Rattle.cilk_parser.specs.declared.signs.Infix as code
use Rattle.cilk_parser.specs.declared.signs.TheConstants.{INFIXES, BUILTINS}
use Rattle.cilk_parser.specs.Kinds.{an_infix, a_builtin}
use Rattle.cilk_parser.specs.Lookup.{meaning_of}
use Rattle.cilk_parser.specs.Meanings.{meant_between}
use Rattle.cilk_parser.specs.Spelled.{mark_bytes, word_bytes}
use Rattle.cilk_parser.proofs.Operators.{between, built_in, IsLoose, IsPlain, tells_infix, tells_builtin}
use Rattle.cilk_parser.proofs.Tables.{Listed, by_table}

abbrev infixes : List (ℕ × List ℕ × code.Infix)
infixes = map (λ entry. (entry.0, entry.1.now, entry.2)) INFIXES

abbrev builtins : List (ℕ × List ℕ × Builtin)
builtins = map (λ entry. (entry.0, entry.1.now, entry.2)) BUILTINS

mark_made : (t : Lexeme) (bytes : List ℕ) → mark_bytes t ≡ Some bytes → t ≡ lexeme.mark (pos_of t) bytes
mark_made (lexeme.mark at b) bytes e = let d : b ≡ bytes = cc in ap (lexeme.mark at) d
mark_made (lexeme.word at b) bytes e = absurd cc
mark_made (lexeme.name at b) bytes e = absurd cc
mark_made (lexeme.literal at v) bytes e = absurd cc
mark_made (lexeme.text at b) bytes e = absurd cc
mark_made (lexeme.finish at) bytes e = absurd cc

word_made : (t : Lexeme) (bytes : List ℕ) → word_bytes t ≡ Some bytes → t ≡ lexeme.word (pos_of t) bytes
word_made (lexeme.word at b) bytes e = let d : b ≡ bytes = cc in ap (lexeme.word at) d
word_made (lexeme.mark at b) bytes e = absurd cc
word_made (lexeme.name at b) bytes e = absurd cc
word_made (lexeme.literal at v) bytes e = absurd cc
word_made (lexeme.text at b) bytes e = absurd cc
word_made (lexeme.finish at) bytes e = absurd cc

-- A token stands where what it says does.
pub place : (text : List ℕ) (t : Token) → pos_of (lexeme_of text t) ≡ t.pos
place text t = at_kind t.kind where
  at_kind : (k : TokenKind) → pos_of (lexeme.lexeme k t.pos (lexeme.spelling_of text t)) ≡ t.pos
  at_kind kind.Name = refl
  at_kind kind.Word = refl
  at_kind kind.Literal = refl
  at_kind kind.Text = refl
  at_kind kind.Mark = refl
  at_kind kind.Finish = refl

infix_shown : (o : Infix) → is_some (meaning_of (looseness o) (codes (infix_spelling o)) infixes) ≡ true
infix_shown either = refl
infix_shown both = refl
infix_shown (binary op.Or) = refl
infix_shown (binary op.Xor) = refl
infix_shown (binary op.And) = refl
infix_shown (binary op.Eq) = refl
infix_shown (binary op.Ne) = refl
infix_shown (binary op.Lt) = refl
infix_shown (binary op.Le) = refl
infix_shown (binary op.Gt) = refl
infix_shown (binary op.Ge) = refl
infix_shown (binary op.Shl) = refl
infix_shown (binary op.Shr) = refl
infix_shown (binary op.Add) = refl
infix_shown (binary op.Sub) = refl
infix_shown (binary op.Mul) = refl
infix_shown (binary op.Div) = refl
infix_shown (binary op.Rem) = refl

-- The built-in that may have a name for its address is in a class of its own.
abbrev named_class : Builtin → ℕ
named_class b = cond (is_replicated_init b) 1 0

not_named : (b : Bool) → ◌≡◌ {A = ℕ} 0 (cond b 1 0) → b ≡ false
not_named true e = absurd cc
not_named false e = refl

builtin_shown : (b : Builtin) → is_replicated_init b ≡ false → is_some (meaning_of (named_class b) (codes (builtin_spelling b)) builtins) ≡ true
builtin_shown built.MwMalloc1dlong e = refl
builtin_shown built.MwMalloc2dlong e = refl
builtin_shown built.MwLocalmalloc e = refl
builtin_shown built.MwMallocrepl e = refl
builtin_shown built.MwReplicatedInit e = absurd cc
builtin_shown built.RemoteAdd e = refl
builtin_shown built.RemoteAnd e = refl
builtin_shown built.RemoteOr e = refl
builtin_shown built.RemoteXor e = refl
builtin_shown built.RemoteMin e = refl
builtin_shown built.RemoteMax e = refl
builtin_shown built.AtomicAddms e = refl
builtin_shown built.AtomicSwap e = refl
builtin_shown built.AtomicCas e = refl
builtin_shown built.Fence e = refl
builtin_shown built.Migrate e = refl
builtin_shown built.NodeId e = refl

infix_listed : (n : ℕ) → Listed (an_infix n) between (IsLoose n) mark_bytes lexeme.mark meant_between (λ o. codes (infix_spelling o)) looseness n infixes
infix_listed n = record {
  tells = tells_infix n;
  made_of = mark_made;
  bytes_of_token = λ k. refl;
  token_made = λ at k. refl;
  says = ((refl, refl), ((refl, refl), ((refl, refl), ((refl, refl), ((refl, refl), ((refl, refl), ((refl, refl), ((refl, refl), ((refl, refl), ((refl, refl), ((refl, refl), ((refl, refl), ((refl, refl), ((refl, refl), ((refl, refl), ((refl, refl), ((refl, refl), ((refl, refl), tt))))))))))))))))));
  fits = λ at x e. sym e;
  class_of = λ k fit. fit;
  shown = λ k fit. infix_shown (k.1);
}

builtin_listed : Listed a_builtin built_in IsPlain word_bytes lexeme.word (λ b. b) (λ b. codes (builtin_spelling b)) named_class 0 builtins
builtin_listed = record {
  tells = tells_builtin;
  made_of = word_made;
  bytes_of_token = λ k. refl;
  token_made = λ at k. refl;
  says = ((refl, refl), ((refl, refl), ((refl, refl), ((refl, refl), ((refl, refl), ((refl, refl), ((refl, refl), ((refl, refl), ((refl, refl), ((refl, refl), ((refl, refl), ((refl, refl), ((refl, refl), ((refl, refl), ((refl, refl), ((refl, refl), tt))))))))))))))));
  fits = λ at x e. not_named (is_replicated_init x) e;
  class_of = λ k fit. ap (λ b. cond b 1 0) fit;
  shown = λ k fit. builtin_shown (k.1) fit;
}

pub infix_at_table : (n : ℕ) (text : List ℕ) (t : Token) (bytes : List ℕ) → mark_bytes (lexeme_of text t) ≡ Some bytes → (o : Option code.Infix) → o ≡ meaning_of n bytes infixes →
    MatchOption o (an_infix n (lexeme_of text t) ≡ None) (λ x. an_infix n (lexeme_of text t) ≡ Some (t.pos, meant_between x))
infix_at_table n text t bytes e o d =
    subst (λ p. MatchOption o (an_infix n (lexeme_of text t) ≡ None) (λ x. an_infix n (lexeme_of text t) ≡ Some (p, meant_between x))) (place text t)
    (by_table (infix_listed n) (lexeme_of text t) bytes e o d)

pub builtin_at_table : (text : List ℕ) (t : Token) (bytes : List ℕ) → word_bytes (lexeme_of text t) ≡ Some bytes → (o : Option Builtin) → o ≡ meaning_of 0 bytes builtins →
    MatchOption o (a_builtin (lexeme_of text t) ≡ None) (λ x. a_builtin (lexeme_of text t) ≡ Some (t.pos, x))
builtin_at_table text t bytes e o d =
    subst (λ p. MatchOption o (a_builtin (lexeme_of text t) ≡ None) (λ x. a_builtin (lexeme_of text t) ≡ Some (p, x))) (place text t)
    (by_table builtin_listed (lexeme_of text t) bytes e o d)
