-- What the code's answer says of the tokens of a text.
use Rattle.std.proofs.Common.{◌≡◌, ℕ, suc, ◌-◌, ◌<◌, ◌≤◌, List, [], ◌∷◌, ◌++◌, length, take, drop, get_or, Ok, Err, refl, sym, ◌∙◌, ap, subst, append_assoc, length-append, length-drop, arith}
use Rattle.std.proofs.lemmas.List.{append_cancel_right, length-map, length-take-le, take-map, take-append-drop}
use Rattle.std.proofs.Math.Seq.{drop-append_seam}
use Rattle.cilk_ast.specs.declared.token.Token.{Token}
use Rattle.cilk_ast.specs.declared.tree.Tree.{Tree}
use Rattle.cilk_ast.specs.declared.fault.TextRefusal.{TextRefusal}
use Rattle.cilk_ast.specs.declared.fault.TextRefusal.TheVariants as refusals
use Rattle.cilk_ast.specs.declared.fault.FaultKind.TheVariants.{TooDeep, Unexpected}
use Rattle.cilk_model.specs.Lexemes.{pos_of, lexeme_of, lexemes_of}
use Rattle.cilk_model.specs.Tokens.{Tokens}
use Rattle.cilk_model.specs.Levels.{deep_part, shallow_part}
use Rattle.cilk_model.specs.Syntax.{Spelled, SyntaxFault}
use Rattle.cilk_model.specs.Grammar.{Row}
use Rattle.cilk_model.specs.GrammarForms.{file}
use Rattle.cilk_model.proofs.LexemeEnds.{lexemes_end_once}
use Rattle.cilk_parser.specs.Read.{read}
use Rattle.cilk_parser.specs.Refused.{RefusesTree}
use Rattle.cilk_parser.specs.Parsers.{Answer}
use Rattle.cilk_parser.specs.Gives.{Gives}
use Rattle.cilk_parser.specs.declared.stop.Stop.{Stop}
use Rattle.cilk_parser.specs.declared.stop.Stop.TheVariants as stops
use Rattle.cilk_parser.proofs.Exact.{stop_begins}
use Rattle.cilk_parser.proofs.Parsed.{parts, spelled_by, unexpected_at, too_deep_at, never_at_end}
use Rattle.cilk_parser.proofs.SignTables.{place}
use Rattle.cilk_parser.proofs.Walk.{from_place}

-- The tokens before the deep part are the shallow part.
pub shallow_is : (text : List ℕ) (tokens : List Token) (n : ℕ) → drop n (lexemes_of text tokens) ≡ deep_part (lexemes_of text tokens) →
    lexemes_of text (take n tokens) ≡ shallow_part (lexemes_of text tokens)
shallow_is text tokens n e =
    let ts = lexemes_of text tokens in
    sym (take-map (lexeme_of text) n tokens)
    ∙ append_cancel_right (take n ts) (shallow_part ts) (drop n ts) (take-append-drop n ts ∙ sym (parts ts) ∙ ap (λ z. shallow_part ts ++ z) (sym e))

-- Where reading stops at a token of the shallow part, it is unexpected.
pub unexpected_here : (text : List ℕ) (tokens : List Token) (n : ℕ) (rest : Row) (d : Token) →
    drop n (lexemes_of text tokens) ≡ deep_part (lexemes_of text tokens) → n ≤ length tokens →
    read file (lexemes_of text (take n tokens)) ≡ Err rest → 0 < length rest → length rest ≤ n →
    SyntaxFault (lexemes_of text tokens) (record { pos = (get_or tokens (n - length rest) d).pos; kind = Unexpected })
unexpected_here text tokens n [] d e h g k l = absurd (omega arith)
unexpected_here text tokens n (t ∷ rest) d e h g k l =
    let ts = lexemes_of text tokens in
    let i = n - length (t ∷ rest) in
    let r : read file (shallow_part ts) ≡ Err (t ∷ rest) = ap (read file) (sym (shallow_is text tokens n e)) ∙ g in
    let b = stop_begins (shallow_part ts) (t ∷ rest) r in
    let long : length (shallow_part ts) ≡ n = ap length (sym (shallow_is text tokens n e)) ∙ length-map (take n tokens) (lexeme_of text) ∙ length-take-le n tokens h in
    let front : length (b.0) ≡ i = omega (arith, long, ap length (b.1), length-append (b.0) (t ∷ rest)) in
    let whole : ts ≡ b.0 ++ (t ∷ (rest ++ deep_part ts)) = sym (parts ts) ∙ ap (λ z. z ++ deep_part ts) (b.1) ∙ append_assoc (b.0) (t ∷ rest) (deep_part ts) in
    let here : drop i ts ≡ t ∷ (rest ++ deep_part ts) = ap (λ j. drop j ts) (sym front) ∙ ap (drop (length (b.0))) whole ∙ drop-append_seam (b.0) (t ∷ (rest ++ deep_part ts)) in
    let same : lexeme_of text (get_or tokens i d) ∷ drop (suc i) ts ≡ t ∷ (rest ++ deep_part ts) = sym (from_place text tokens i d (omega arith)) ∙ here in
    let token_is : lexeme_of text (get_or tokens i d) ≡ t = cc in
    subst (λ p. SyntaxFault ts (record { pos = p; kind = Unexpected })) (sym (ap pos_of token_is) ∙ place text (get_or tokens i d)) (unexpected_at ts rest t r)

-- Where it stops behind them, some token is too deep.
pub deep_there : (text : List ℕ) (tokens : List Token) (n : ℕ) → Tokens text tokens →
    drop n (lexemes_of text tokens) ≡ deep_part (lexemes_of text tokens) → n ≤ length tokens →
    read file (lexemes_of text (take n tokens)) ≡ Err [] → n < length tokens
deep_there text tokens n w e h g =
    let ts = lexemes_of text tokens in
    let r : read file (shallow_part ts) ≡ Err [] = ap (read file) (sym (shallow_is text tokens n e)) ∙ g in
    by_depth (deep_part ts) refl r where
      by_depth : (d : Row) → deep_part (lexemes_of text tokens) ≡ d → read file (shallow_part (lexemes_of text tokens)) ≡ Err [] → n < length tokens
      by_depth [] f r = absurd (never_at_end (lexemes_end_once text tokens w) r f)
      by_depth (t ∷ d) f r = omega (arith, ap length (e ∙ f), length-drop n (lexemes_of text tokens), length-map tokens (lexeme_of text))

pub too_deep_here : (text : List ℕ) (tokens : List Token) (n : ℕ) (d : Token) →
    drop n (lexemes_of text tokens) ≡ deep_part (lexemes_of text tokens) → n < length tokens →
    read file (lexemes_of text (take n tokens)) ≡ Err [] →
    SyntaxFault (lexemes_of text tokens) (record { pos = (get_or tokens n d).pos; kind = TooDeep })
too_deep_here text tokens n d e h g =
    let ts = lexemes_of text tokens in
    let r : read file (shallow_part ts) ≡ Err [] = ap (read file) (sym (shallow_is text tokens n e)) ∙ g in
    subst (λ p. SyntaxFault ts (record { pos = p; kind = TooDeep })) (place text (get_or tokens n d))
    (too_deep_at ts (drop (suc n) ts) (lexeme_of text (get_or tokens n d)) r (sym e ∙ from_place text tokens n d h))

pub spelled_here : (text : List ℕ) (tokens : List Token) (n : ℕ) (rest : Row) (tree : Tree) → Tokens text tokens →
    drop n (lexemes_of text tokens) ≡ deep_part (lexemes_of text tokens) →
    read file (lexemes_of text (take n tokens)) ≡ Ok (tree, rest) → Spelled (lexemes_of text tokens) tree
spelled_here text tokens n rest tree w e g =
    spelled_by (lexemes_end_once text tokens w) rest tree (ap (read file) (sym (shallow_is text tokens n e)) ∙ g)

-- ---- What the code answers

no_tokens : (ts : Row) → length ts ≡ 0 → ts ≡ []
no_tokens [] e = refl
no_tokens (t ∷ ts) e = absurd (omega (arith, e))

pub stopped : (stop : Stop) (left : Row) (answer : Answer Tree) → stop ≡ stops.Unexpected → Gives {X = Tree} (Err stop) left answer → answer ≡ Err left
stopped stops.Unexpected left answer e g = g
stopped stops.OutOfMemory left answer e g = absurd (cc)

module _ (text : List ℕ) (all tokens : List Token) (n : ℕ) (whole left : Row) (same : all ≡ tokens) (w : Tokens text tokens) (h : n ≤ length all)
    (e : drop n (lexemes_of text all) ≡ deep_part (lexemes_of text all)) (made : whole ≡ lexemes_of text (take n all)) where
  tokens_too : Tokens text all
  tokens_too = subst (λ z. Tokens text z) (sym same) w

  pub gives_tree : (tree : Tree) → read file whole ≡ Ok (tree, left) → Spelled (lexemes_of text tokens) tree
  gives_tree tree r = subst (λ z. Spelled (lexemes_of text z) tree) same (spelled_here text all n left tree tokens_too e (ap (read file) (sym made) ∙ r))

  at_end : length left ≡ 0 → read file whole ≡ Err left → read file (lexemes_of text (take n all)) ≡ Err []
  at_end l r = ap (read file) (sym made) ∙ r ∙ ap (λ z. Err z) (no_tokens left l)

  pub one_is_deep : length left ≡ 0 → read file whole ≡ Err left → n < length all
  one_is_deep l r = deep_there text all n tokens_too e h (at_end l r)

  pub gives_deep : (d : Token) (refusal : TextRefusal) → length left ≡ 0 → read file whole ≡ Err left →
      refusal ≡ refusals.Fault (record { pos = (get_or all n d).pos; kind = TooDeep }) → RefusesTree (lexemes_of text tokens) refusal
  gives_deep d refusal l r f =
      subst (λ z. RefusesTree (lexemes_of text tokens) z) (sym f)
      (subst (λ z. SyntaxFault (lexemes_of text z) (record { pos = (get_or all n d).pos; kind = TooDeep })) same
      (too_deep_here text all n d e (one_is_deep l r) (at_end l r)))

  pub gives_unexpected : (d : Token) (refusal : TextRefusal) (count : ℕ) → count ≡ length left → 0 < count → length left ≤ length whole → read file whole ≡ Err left →
      refusal ≡ refusals.Fault (record { pos = (get_or all (n - count) d).pos; kind = Unexpected }) → RefusesTree (lexemes_of text tokens) refusal
  gives_unexpected d refusal count l k s r f =
      let long : length whole ≡ n = ap length made ∙ length-map (take n all) (lexeme_of text) ∙ length-take-le n all h in
      let there : SyntaxFault (lexemes_of text all) (record { pos = (get_or all (n - length left) d).pos; kind = Unexpected }) =
      unexpected_here text all n left d e h (ap (read file) (sym made) ∙ r) (omega (arith, l, k)) (omega (arith, s, long)) in
      subst (λ z. RefusesTree (lexemes_of text tokens) z) (sym f)
      (subst (λ z. SyntaxFault (lexemes_of text z) (record { pos = (get_or all (n - count) d).pos; kind = Unexpected })) same
      (subst (λ z. SyntaxFault (lexemes_of text all) (record { pos = (get_or all (n - z) d).pos; kind = Unexpected })) (sym l) there))
