-- What a text comes to that spells a program.
use Rattle.std.proofs.Common.{◌≡◌, ◌≢◌, ℕ, List, refl, sym, subst, Bool, true, false, ◌&&◌, not}
use Rattle.std.proofs.lemmas.Bool.{false≢true}
use Rattle.cilk_ast.specs.declared.program.Program.{Program}
use Rattle.cilk_ast.specs.declared.tree.Tree.{Tree}
use Rattle.cilk_model.specs.Canonical.{canonical_text}
use Rattle.cilk_model.specs.Checked.{Checked}
use Rattle.cilk_model.specs.Texts.{SpellsTree}
use Rattle.emu_words.specs.declared.asked.Asked.{Asked}
use Rattle.emu_words.specs.declared.asked.Mode.{Mode}
use Rattle.emu_words.specs.declared.asked.Mode.TheVariants.{Check, Emit, Run, Gen, Replay, Audit, Exec, Time, Upgrade}
use Rattle.emu_top.specs.Words.{is_built, is_built_mode}
use Rattle.emu_top.specs.Causes.{PrintsIn, JudgesText}
use Rattle.emu_top.specs.code.Judged.{IsEmitted, HasRunOf}
use Rattle.emu_top.specs.declared.verdict.Verdict.{Verdict}
use Rattle.emu_top.specs.declared.verdict.Verdict.TheVariants.{BadWords, Unread, TooLong, Refused, Printed, Emitted, HasRun}

-- ---- what is built

built_parts : (mode journal watch : Bool) → (mode && not journal && not watch) ≡ true → (mode ≡ true) × (journal ≡ false) × (watch ≡ false)
built_parts true false false e = (refl, refl, refl)
built_parts true false true e = absurd (false≢true e)
built_parts true true false e = absurd (false≢true e)
built_parts true true true e = absurd (false≢true e)
built_parts false false false e = absurd (false≢true e)
built_parts false false true e = absurd (false≢true e)
built_parts false true false e = absurd (false≢true e)
built_parts false true true e = absurd (false≢true e)

pub no_more : (asked : Asked) → is_built asked ≡ true → (asked.journal ≡ false) × (asked.watch ≡ false)
no_more asked built = let parts = built_parts (is_built_mode asked.mode) asked.journal asked.watch built in (parts.1, parts.2)

-- ---- the modes that read a program

module _ (Goal : Mode → Type 0) where
  by_mode : (mode : Mode) → is_built_mode mode ≡ true → mode ≢ Gen → Goal Check → Goal Emit → Goal Run → Goal mode
  by_mode Check built read check emit run = check
  by_mode Emit built read check emit run = emit
  by_mode Run built read check emit run = run
  by_mode Gen built read check emit run = absurd (read refl)
  by_mode Replay built read check emit run = absurd (false≢true built)
  by_mode Audit built read check emit run = absurd (false≢true built)
  by_mode Exec built read check emit run = absurd (false≢true built)
  by_mode Time built read check emit run = absurd (false≢true built)
  by_mode Upgrade built read check emit run = absurd (false≢true built)

is_run : (asked : Asked) → is_built asked ≡ true → asked.mode ≢ Gen → asked.mode ≢ Check → asked.mode ≢ Emit → asked.mode ≡ Run
is_run asked built read no_check no_emit =
    by_mode (λ mode. mode ≢ Check → mode ≢ Emit → mode ≡ Run) asked.mode (built_parts (is_built_mode asked.mode) asked.journal asked.watch built).0 read
    (λ f _. absurd (f refl)) (λ _ f. absurd (f refl)) (λ _ _. refl) no_check no_emit

-- ---- the canonical text of the tree that the text spells, in a check

pub printed_judged : (asked : Asked) (text : List ℕ) (tree : Tree) (program : Program) (verdict : Verdict) → asked.mode ≡ Check → SpellsTree text tree → Checked tree program →
    verdict ≡ Printed (canonical_text tree) → JudgesText asked text verdict
printed_judged asked text tree program verdict check spells checked is =
    subst (JudgesText asked text) (sym is)
    (subst (λ mode. PrintsIn mode text (canonical_text tree)) (sym check) (record { tree = tree; program = program; spells = spells; checked = checked; printed = refl }))

-- ---- the code of the program

pub emitted_judged : (asked : Asked) (text : List ℕ) (tree : Tree) (program : Program) (verdict : Verdict) → asked.mode ≡ Emit → SpellsTree text tree → Checked tree program →
    IsEmitted program verdict → JudgesText asked text verdict
emitted_judged asked text tree program (Emitted code bytes) mode spells checked emitted =
    (mode, record { program = program; spells = record { tree = tree; spells = spells; checked = checked }; compiled = emitted.compiled; written = emitted.written })
emitted_judged asked text tree program BadWords mode spells checked emitted = emitted
emitted_judged asked text tree program Unread mode spells checked emitted = emitted
emitted_judged asked text tree program TooLong mode spells checked emitted = emitted
emitted_judged asked text tree program (Refused fault) mode spells checked emitted = absurd emitted
emitted_judged asked text tree program (Printed bytes) mode spells checked emitted = absurd emitted
emitted_judged asked text tree program (HasRun code ran bytes) mode spells checked emitted = absurd emitted

-- ---- its run

pub run_judged : (asked : Asked) (text : List ℕ) (tree : Tree) (program : Program) (verdict : Verdict) → is_built asked ≡ true → asked.mode ≢ Gen → asked.mode ≢ Check → asked.mode ≢ Emit →
    SpellsTree text tree → Checked tree program → HasRunOf asked program verdict → JudgesText asked text verdict
run_judged asked text tree program (HasRun code ran bytes) built read no_check no_emit spells checked run = (
  is_run asked built read no_check no_emit,
  record { program = program; spells = record { tree = tree; spells = spells; checked = checked }; compiled = run.compiled; run = run.run; scheduled = run.scheduled; written = run.written text },
)
run_judged asked text tree program BadWords built read no_check no_emit spells checked run = run
run_judged asked text tree program Unread built read no_check no_emit spells checked run = run
run_judged asked text tree program TooLong built read no_check no_emit spells checked run = run
run_judged asked text tree program (Refused fault) built read no_check no_emit spells checked run = absurd run
run_judged asked text tree program (Printed bytes) built read no_check no_emit spells checked run = absurd run
run_judged asked text tree program (Emitted code bytes) built read no_check no_emit spells checked run = absurd run
