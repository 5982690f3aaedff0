-- A text spells one tree or has one first fault, and not both.
use Rattle.std.proofs.Common.{◌≡◌, ℕ, List, Option, Some, None, ◌⊎◌, inl, inr, refl, sym, ap, ◌∙◌, subst}
use Rattle.std.proofs.lemmas.Option.{none-some}
use Rattle.cilk_ast.specs.declared.fault.TextFault.{TextFault}
use Rattle.cilk_ast.specs.declared.program.Program.{Program}
use Rattle.cilk_ast.specs.declared.token.Token.{Token}
use Rattle.cilk_ast.specs.declared.tree.Tree.{Tree}
use Rattle.cilk_model.specs.Checked.{Checked, CheckFault, parts_of, tree_fault}
use Rattle.cilk_model.specs.Lowering.{lower}
use Rattle.cilk_model.specs.Tokens.{Tokens, LexicalFault}
use Rattle.cilk_model.specs.Lexemes.{lexemes_of}
use Rattle.cilk_model.specs.Syntax.{Spelled, SyntaxFault}
use Rattle.cilk_model.specs.Texts.{SpellsTree, SpellsProgram, FirstFault, of_tokens, of_syntax, of_rules}
use Rattle.cilk_model.specs.TokenLaws.{TokensAreOne, TokensHaveNoFault, LexicalFaultIsOne, TextsLex, LexemesEndOnce}
use Rattle.cilk_parser.specs.Laws.{OneTree, OneFault, NotBoth, OneOfBoth}
use Rattle.cilk_parser.specs.TextLaws.{OneTreeOfAText, OneFaultOfAText, OneProgramOfAText, SpellsUnbroken, TextsSpellOrFail}

-- What a text spells, its tokens spell, whichever they are.
with_tokens : TokensAreOne → (text : List ℕ) (tree : Tree) (tokens : List Token) → (spells : SpellsTree text tree) → spells.tokens ≡ tokens → Spelled (lexemes_of text tokens) tree
with_tokens one text tree tokens spells same = subst (λ ts. Spelled (lexemes_of text ts) tree) same spells.spelled

pub one_tree : TokensAreOne → OneTree → OneTreeOfAText
one_tree tokens_are_one one text x y spells_x spells_y =
    let same = tokens_are_one text spells_x.tokens spells_y.tokens spells_x.are_tokens spells_y.are_tokens in
    one (lexemes_of text spells_y.tokens) x y (with_tokens tokens_are_one text x spells_y.tokens spells_x same) spells_y.spelled

pub no_program : OneTreeOfAText → TokensAreOne → TokensHaveNoFault → NotBoth → (text : List ℕ) (fault : TextFault) (program : Program) → FirstFault text fault → SpellsProgram text program → ⊥
no_program one tokens_are_one no_fault not_both text fault program (of_tokens lexical) spells =
    no_fault text spells.spells.tokens fault spells.spells.are_tokens lexical
no_program one tokens_are_one no_fault not_both text fault program (of_syntax tokens are syntax) spells =
    let same = tokens_are_one text spells.spells.tokens tokens spells.spells.are_tokens are in
    not_both (lexemes_of text tokens) spells.tree fault (with_tokens tokens_are_one text spells.tree tokens spells.spells same) syntax
no_program one tokens_are_one no_fault not_both text fault program (of_rules tree is broken) spells =
    none-some fault (sym spells.checked.unbroken ∙ ap tree_fault (one text spells.tree tree spells.spells is) ∙ broken.first)

-- A text that spells a tree has no fault of syntax.
no_fault_of_tree : TokensAreOne → NotBoth → (text : List ℕ) (tokens : List Token) (fault : TextFault) (tree : Tree) → Tokens text tokens → SyntaxFault (lexemes_of text tokens) fault → SpellsTree text tree → ⊥
no_fault_of_tree tokens_are_one not_both text tokens fault tree are syntax spells =
    let same = tokens_are_one text spells.tokens tokens spells.are_tokens are in
    not_both (lexemes_of text tokens) tree fault (with_tokens tokens_are_one text tree tokens spells same) syntax

same_syntax : TokensAreOne → OneFault → (text : List ℕ) (a b : List Token) (f g : TextFault) → Tokens text a → Tokens text b → SyntaxFault (lexemes_of text a) f → SyntaxFault (lexemes_of text b) g → f ≡ g
same_syntax tokens_are_one one_fault text a b f g are_a are_b of_a of_b =
    let same = tokens_are_one text a b are_a are_b in
    one_fault (lexemes_of text b) f g (subst (λ ts. SyntaxFault (lexemes_of text ts) f) same of_a) of_b

same_rules : OneTreeOfAText → (text : List ℕ) (x y : Tree) (f g : TextFault) → SpellsTree text x → SpellsTree text y → CheckFault x f → CheckFault y g → f ≡ g
same_rules one text x y f g spells_x spells_y of_x of_y =
    let same : Some f ≡ Some g = sym of_x.first ∙ ap tree_fault (one text x y spells_x spells_y) ∙ of_y.first in cc

pub one_fault_of_a_text : OneTreeOfAText → TokensAreOne → LexicalFaultIsOne → TokensHaveNoFault → OneFault → NotBoth → OneFaultOfAText
one_fault_of_a_text one are_one lexical_is_one no_fault one_fault not_both text f g (of_tokens a) (of_tokens b) = lexical_is_one text f g a b
one_fault_of_a_text one are_one lexical_is_one no_fault one_fault not_both text f g (of_tokens a) (of_syntax tokens are b) = absurd (no_fault text tokens f are a)
one_fault_of_a_text one are_one lexical_is_one no_fault one_fault not_both text f g (of_tokens a) (of_rules tree is b) = absurd (no_fault text is.tokens f is.are_tokens a)
one_fault_of_a_text one are_one lexical_is_one no_fault one_fault not_both text f g (of_syntax tokens are a) (of_tokens b) = absurd (no_fault text tokens g are b)
one_fault_of_a_text one are_one lexical_is_one no_fault one_fault not_both text f g (of_syntax tokens are a) (of_syntax others are_too b) =
    same_syntax are_one one_fault text tokens others f g are are_too a b
one_fault_of_a_text one are_one lexical_is_one no_fault one_fault not_both text f g (of_syntax tokens are a) (of_rules tree is b) =
    absurd (no_fault_of_tree are_one not_both text tokens f tree are a is)
one_fault_of_a_text one are_one lexical_is_one no_fault one_fault not_both text f g (of_rules tree is a) (of_tokens b) = absurd (no_fault text is.tokens g is.are_tokens b)
one_fault_of_a_text one are_one lexical_is_one no_fault one_fault not_both text f g (of_rules tree is a) (of_syntax tokens are b) =
    absurd (no_fault_of_tree are_one not_both text tokens g tree are b is)
one_fault_of_a_text one are_one lexical_is_one no_fault one_fault not_both text f g (of_rules tree is a) (of_rules other is_too b) =
    same_rules one text tree other f g is is_too a b

pub one_program_of_a_text : OneTreeOfAText → OneProgramOfAText
one_program_of_a_text one text p q spells_p spells_q =
    spells_p.checked.is_program ∙ ap lower (one text spells_p.tree spells_q.tree spells_p.spells spells_q.spells) ∙ sym spells_q.checked.is_program

-- By whether a tree that the text spells has a fault.
by_rules : (text : List ℕ) (tree : Tree) → SpellsTree text tree → (found : Option TextFault) → tree_fault tree ≡ found → SpellsUnbroken text ⊎ ((fault : TextFault) × FirstFault text fault)
by_rules text tree spells None e = inl (record { tree = tree; spells = spells; unbroken = e })
by_rules text tree spells (Some fault) e = inr (fault, of_rules tree spells (record { first = e }))

-- By whether its tokens spell a tree.
by_syntax : (text : List ℕ) (tokens : List Token) → Tokens text tokens →
    ((tree : Tree) × Spelled (lexemes_of text tokens) tree) ⊎ ((fault : TextFault) × SyntaxFault (lexemes_of text tokens) fault) →
    SpellsUnbroken text ⊎ ((fault : TextFault) × FirstFault text fault)
by_syntax text tokens are (inl spelled) =
    by_rules text spelled.0 (record { tokens = tokens; are_tokens = are; spelled = spelled.1 }) (tree_fault spelled.0) refl
by_syntax text tokens are (inr found) = inr (found.0, of_syntax tokens are found.1)

-- By whether it has tokens.
by_tokens : LexemesEndOnce → OneOfBoth → (text : List ℕ) → ((tokens : List Token) × Tokens text tokens) ⊎ ((fault : TextFault) × LexicalFault text fault) →
    SpellsUnbroken text ⊎ ((fault : TextFault) × FirstFault text fault)
by_tokens end_once one_of_both text (inl has) = by_syntax text has.0 has.1 (one_of_both (lexemes_of text has.0) (end_once text has.0 has.1))
by_tokens end_once one_of_both text (inr found) = inr (found.0, of_tokens found.1)

pub spell_or_fail : TextsLex → LexemesEndOnce → OneOfBoth → TextsSpellOrFail
spell_or_fail lex end_once one_of_both text = by_tokens end_once one_of_both text (lex text)
