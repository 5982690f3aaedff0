-- What the tokens of a text say ends with the end of the text, once.
use Rattle.std.proofs.Common.{◌≡◌, ℕ, false, List, [], ◌∷◌, ◌++◌, refl, ◌∙◌, ap}
use Rattle.std.specs.List.{AllByRecursion}
use Rattle.std.proofs.lemmas.List.Elements.{recursion_from_All}
use Rattle.word_ops.specs.declared.place.Pos.{Pos}
use Rattle.cilk_ast.specs.declared.token.Token.{Token}
use Rattle.cilk_ast.specs.declared.token.TokenKind.{TokenKind}
use Rattle.cilk_ast.specs.declared.token.TokenKind.TheVariants as kind
use Rattle.cilk_model.specs.Lexemes.{lexeme, lexeme_of, lexemes_of, spelling_of}
use Rattle.cilk_model.specs.Tests.{is_finish}
use Rattle.cilk_model.specs.Spellings.{is_finish as is_finish_kind}
use Rattle.cilk_model.specs.Tokens.{Tokens}
use Rattle.cilk_model.specs.Syntax.{Unfinished, none, more, EndsOnce}
use Rattle.cilk_model.proofs.TokenSpellings.{finish_is_last}

no_finish : (k : TokenKind) (at : Pos) (spelling : List ℕ) → is_finish_kind k ≡ false → is_finish (lexeme k at spelling) ≡ false
no_finish kind.Name at spelling e = refl
no_finish kind.Word at spelling e = refl
no_finish kind.Literal at spelling e = refl
no_finish kind.Text at spelling e = refl
no_finish kind.Mark at spelling e = refl
no_finish kind.Finish at spelling e = absurd cc

lexemes_append : (text : List ℕ) (a b : List Token) → lexemes_of text (a ++ b) ≡ lexemes_of text a ++ lexemes_of text b
lexemes_append text [] b = refl
lexemes_append text (t ∷ a) b = ap (λ z. lexeme_of text t ∷ z) (lexemes_append text a b)

unfinished : (text : List ℕ) (tokens : List Token) → AllByRecursion (λ token. is_finish_kind token.kind ≡ false) tokens → Unfinished (lexemes_of text tokens)
unfinished text [] h = none
unfinished text (t ∷ tokens) h = more (no_finish t.kind t.pos (spelling_of text t) h.0) (unfinished text tokens h.1)

pub lexemes_end_once : (text : List ℕ) (tokens : List Token) → Tokens text tokens → EndsOnce (lexemes_of text tokens)
lexemes_end_once text tokens h =
    let f = finish_is_last text tokens h in
    record {
      before = lexemes_of text f.front;
      end = f.last.pos;
      split = ap (lexemes_of text) f.parts ∙ lexemes_append text f.front (f.last ∷ [])
          ∙ ap (λ k. lexemes_of text f.front ++ (lexeme k f.last.pos (spelling_of text f.last) ∷ [])) f.finish;
      unfinished = unfinished text f.front (recursion_from_All _ f.front f.others);
    }
