-- What a text comes to that is to be a program.
use Rattle.std.proofs.Common.{ℕ, List}
use Rattle.cilk_ast.specs.declared.fault.TextRefusal.{TextRefusal}
use Rattle.cilk_ast.specs.declared.fault.TextRefusal.TheVariants.{Fault, OutOfMemory}
use Rattle.cilk_ast.specs.declared.token.Token.{Token}
use Rattle.cilk_ast.specs.declared.tree.Tree.{Tree}
use Rattle.cilk_model.specs.Lexemes.{lexemes_of}
use Rattle.cilk_model.specs.Tokens.{Tokens, RefusesTokens}
use Rattle.cilk_model.specs.Texts.{SpellsTree, of_tokens, of_syntax, of_rules}
use Rattle.cilk_parser.specs.Refused.{RefusesTree}
use Rattle.cilk_types.specs.Checks.{IsRefused}
use Rattle.emu_top.specs.Causes.{RefusesText}

-- ---- each refusal tells the text's first fault

pub tokens_refused : (text : List ℕ) (refusal : TextRefusal) → RefusesTokens text refusal → RefusesText text refusal
tokens_refused text (Fault fault) first = of_tokens first
tokens_refused text OutOfMemory first = first

pub syntax_refused : (text : List ℕ) (tokens : List Token) (refusal : TextRefusal) → Tokens text tokens → RefusesTree (lexemes_of text tokens) refusal → RefusesText text refusal
syntax_refused text tokens (Fault fault) are first = of_syntax tokens are first
syntax_refused text tokens OutOfMemory are first = first

pub rules_refused : (text : List ℕ) (tree : Tree) (refusal : TextRefusal) → SpellsTree text tree → IsRefused tree refusal → RefusesText text refusal
rules_refused text tree (Fault fault) spells first = of_rules tree spells first
rules_refused text tree OutOfMemory spells first = first
