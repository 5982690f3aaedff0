-- No token of the canonical text of a tree that some text spells is too deep, so it spells the same tree.
use Rattle.std.proofs.Common.{◌≡◌, sym, subst, false, [], ◌∷◌, ◌++◌}
use Rattle.cilk_ast.specs.declared.tree.Tree.{Tree}
use Rattle.cilk_model.specs.declared.layout.Gap.TheVariants.{Margin}
use Rattle.cilk_model.specs.Lexemes.{lexemes_of, finish}
use Rattle.cilk_model.specs.GrammarForms.{file}
use Rattle.cilk_model.specs.Grammar.{Spells}
use Rattle.cilk_model.specs.Levels.{outermost, deep_part}
use Rattle.cilk_model.specs.SameTree.{SameTree}
use Rattle.cilk_model.specs.TreeTokens.{nowhere, tokens_of}
use Rattle.cilk_model.specs.Layout.{blank_page}
use Rattle.cilk_model.specs.Canonical.{canonical_text}
use Rattle.cilk_print.specs.Laws.{CanonicalTextSpellsSame}
use Rattle.cilk_print.proofs.Saying.{Found}
use Rattle.cilk_print.proofs.Lifted.{lifts}
use Rattle.cilk_print.proofs.Clear.{Well}
use Rattle.cilk_print.proofs.Calming.{calm_items}
use Rattle.cilk_print.proofs.WellSpelled.{good}
use Rattle.cilk_print.proofs.WellLexed.{tokens_well}
use Rattle.cilk_print.proofs.Running.{runs_on, put_all_laid}
use Rattle.cilk_print.proofs.Relexed.{Runs, Lexed, relexed}
use Rattle.cilk_print.proofs.ShallowRows.{shallow_runs, runs_shallow, said_runs}
use Rattle.cilk_print.proofs.Levelled.{levelled}

canonical_runs : (tree : Tree) → Well (tokens_of tree) → Runs (canonical_text tree) (tokens_of tree)
canonical_runs tree w =
    subst (λ text. Runs text (tokens_of tree)) (sym (put_all_laid blank_page (tokens_of tree))) (runs_on [] Margin _ (tokens_of tree) (calm_items tree.items) w)

pub canonical_text_spells : CanonicalTextSpellsSame
canonical_text_spells text tree is =
    let w : Well (tokens_of tree) = good is.spelled.spells (tokens_well text is.tokens is.are_tokens) in
    let l : Lexed (canonical_text tree) [] (tokens_of tree) = relexed (canonical_text tree) (tokens_of tree) (canonical_runs tree w) in
    let f : Found (Spells file) (SameTree tree) (lexemes_of (canonical_text tree) l.after) = (lifts is.spelled.spells).reads _ l.says in
    let through = levelled is.spelled.spells (shallow_runs (lexemes_of text is.tokens) outermost is.spelled.shallow) in
    let shallow : deep_part (lexemes_of (canonical_text tree) l.after) ≡ [] =
    runs_shallow (lexemes_of (canonical_text tree) l.after) outermost through.end (said_runs _ _ (tokens_of tree ++ finish nowhere ∷ []) (lexemes_of (canonical_text tree) l.after) false l.says through.runs) in
    record {
      other = f.tree;
      spells = record { tokens = l.after; are_tokens = l.are_tokens; spelled = record { spells = f.spelled; shallow = shallow } };
      same = f.same;
    }
