-- The code of each statement keeps the rules.
use Rattle.std.proofs.Common.{◌≡◌, ◌⊎◌, inl, inr, ⊎_elim, ℕ, ◌+◌, ◌≤◌, List, [], ◌∷◌, length, Option, Some, None, refl, sym, ap, ◌∙◌, subst, arith, Bool, true, false}
use Rattle.std.specs.Prelude.{option_map}
use Rattle.std.specs.List.{list_all}
use borrow.Author.Tests.{ltb-true}
use Rattle.word_ops.specs.declared.place.Pos.{Pos}
use Rattle.mem_atomics.specs.declared.op.Op.TheVariants as atomic
use Rattle.cilk_ast.specs.declared.program.Function.{Function}
use Rattle.cilk_ast.specs.declared.program.Expr.{Expr}
use Rattle.cilk_ast.specs.declared.program.Stmt.{Stmt, Nothing, Block', Eval, Set, Store, AddTo, Spawn, Each, Break, Continue, Return, Sync, Row_of-Stmt as Stmts, end_of-Stmt as no_stmts, more_of-Stmt as more_stmts}
use Rattle.cilk_ast.specs.Statement.{If, Loop}
use Rattle.cilk_ast.specs.Parts.{each, each_of, expressions_of}
use Rattle.cilk_ast.specs.Kept.{takes, is_target, is_no_spawn, keeps_expression}
use Rattle.threadlet_code.specs.declared.instr.Instr.TheVariants as by
use Rattle.threadlet_code.specs.declared.code.Code.{Code}
use Rattle.threadlet_code.specs.Operands.{hint_operands}
use Rattle.codegen_expr.specs.Piece.{line, placeless}
use Rattle.codegen_expr.specs.Emitted.{emitted, emitted_each}
use Rattle.codegen_expr.proofs.Emits.{sized}
use Rattle.codegen_expr.proofs.Bounds.{within, each_within}
use Rattle.codegen_expr.proofs.Taken.{each_sized, each_count}
use Rattle.codegen_expr.proofs.KeptParts.{both_true, three_true, IsKept}
use Rattle.codegen_stmt.specs.Stretch.{using, returning}
use Rattle.codegen_stmt.specs.Compiled.{compiled, compiled_all}
use Rattle.codegen_stmt.proofs.Lengths.{long}
use Rattle.codegen_stmt.proofs.KeptStatements.{IsKeptStatement, AreKeptStatements, part_kept, row_kept, first_kept, rest_kept, first_word, other_words, keeps_words}
use Rattle.codegen_stmt.proofs.LineRules.{Body, IsSlot}
use Rattle.codegen_stmt.proofs.PieceRules.{Leaves, LeavesAll, none_leaves, more_leaves}
use Rattle.codegen_stmt.proofs.ExpressionRules.{HasCallees, leaves}
use Rattle.codegen_stmt.proofs.StretchRules.{Clears, UsesUp, none_clears, sync_clears, leaving_clears, behind_clears, using_clears, use_line, returning_uses}
use Rattle.codegen_stmt.proofs.BranchRules.{adding_clears, choosing_clears, looping_clears}
use Rattle.codegen_stmt.proofs.RoundRules.{spawning_clears}

module _ {code : Code} (b : Body code) (functions : List Function) (callees : HasCallees code functions) (slots kept : ℕ) (room : slots + kept ≤ b.f.slots)
    (spawns : Bool) (says : b.f.spawns ≡ spawns) where
  -- A statement has no spawn, or its function says that it spawns.
  abbrev pub IsTold : Stmt → Type 0
  IsTold s = (each is_no_spawn s ≡ true) ⊎ (spawns ≡ true)

  abbrev AreTold : {n : _} → Stmts n → Type 0
  AreTold row = (each_of is_no_spawn row ≡ true) ⊎ (spawns ≡ true)

  -- A part of which everything holds that holds of the whole.
  part_told : (s part : Stmt) → ((has : Stmt → Bool) → each has s ≡ true → each has part ≡ true) → IsTold s → IsTold part
  part_told s part h told = ⊎_elim (λ e. inl (h is_no_spawn e)) (λ e. inr e) told

  row_told : (s : Stmt) {n : _} (row : Stmts n) → ((has : Stmt → Bool) → each has s ≡ true → each_of has row ≡ true) → IsTold s → AreTold row
  row_told s row h told = ⊎_elim (λ e. inl (h is_no_spawn e)) (λ e. inr e) told

  says_spawns : (s : Stmt) → each is_no_spawn s ≡ false → IsTold s → b.f.spawns ≡ true
  says_spawns s is told = ⊎_elim (λ e. absurd (let wrong : false ≡ true = sym is ∙ e in cc)) (λ e. says ∙ e) told

  -- ---- words

  word_leaves : (e : Expr) → IsKept functions slots e → Leaves b (emitted e)
  word_leaves = leaves b functions callees slots (omega arith)

  words_leave : (es : List Expr) → list_all (keeps_expression functions slots) es ≡ true → LeavesAll b (emitted_each es)
  words_leave [] h = none_leaves b
  words_leave (e ∷ es) h = more_leaves b (emitted e) (emitted_each es) (sized e) (word_leaves e (first_word functions slots kept e es h)) (words_leave es (other_words functions slots kept e es h))

  used : (es : List Expr) → list_all (keeps_expression functions slots) es ≡ true → (own : List _) → UsesUp b own (length es) → Clears b (using (emitted_each es) own)
  used es h own uses =
      using_clears b (emitted_each es) own (each_sized es) (each_within es).rises (words_leave es h)
      (subst (UsesUp b own) (sym (each_count es)) uses)

  -- ---- a spawn

  target_slot : (target : Option ℕ) → is_target slots target ≡ true → IsSlot b target
  target_slot None h = tt
  target_slot (Some slot) h = let lt = ltb-true slot slots h in omega arith

  spawn_clears : (at : Pos) (target : Option ℕ) (g : ℕ) (hint : Option Expr) (args : List Expr) → is_target slots target ≡ true → takes functions g (length args) ≡ true → b.f.spawns ≡ true →
      list_all (keeps_expression functions slots) (expressions_of (Spawn at target g hint args)) ≡ true → Clears b (compiled spawns slots (Spawn at target g hint args))
  spawn_clears at target g None args fits there spawning h =
      used args h (line at (by.Spawn g target false) ∷ [])
      (use_line b (line at (by.Spawn g target false)) (length args) refl (ap (option_map (hint_operands false)) (callees.params g (length args) there)) refl (λ k. refl)
      (λ place. (callees.there g (length args) there, target_slot target fits, spawning)))
  spawn_clears at target g (Some hint) args fits there spawning h =
      used (hint ∷ args) h (line at (by.Spawn g target true) ∷ [])
      (use_line b (line at (by.Spawn g target true)) (length (hint ∷ args)) refl (ap (option_map (hint_operands true)) (callees.params g (length args) there)) refl (λ k. refl)
      (λ place. (callees.there g (length args) there, target_slot target fits, spawning)))

  one_kept : (e : Expr) → list_all (keeps_expression functions slots) (e ∷ []) ≡ true → IsKept functions slots e
  one_kept e h = first_word functions slots kept e [] h

  other_kept : (l e : Expr) → list_all (keeps_expression functions slots) (l ∷ e ∷ []) ≡ true → IsKept functions slots e
  other_kept l e h = one_kept e (other_words functions slots kept l (e ∷ []) h)

  -- ---- all of them

  mutual
    pub clears : (s : Stmt) → IsKeptStatement functions slots kept s → IsTold s → Clears b (compiled spawns slots s)
    clears Nothing k told = none_clears b
    clears (Block' n body) k told =
        let part = λ (has : Stmt → Bool) (h : each has (Block' n body) ≡ true). (both_true (has (Block' n body)) (each_of has body) h).1 in
        all_clear body (row_kept functions slots kept (Block' n body) body part k) (row_told (Block' n body) body part told)
    clears (Eval e) k told = used (e ∷ []) k.words (placeless by.Pop ∷ []) (use_line b (placeless by.Pop) 1 refl refl refl (λ h. refl) (λ place. tt))
    clears (Set slot e) k told =
        let lt = ltb-true slot slots k.writes in
        used (e ∷ []) k.words (placeless (by.Set slot) ∷ []) (use_line b (placeless (by.Set slot)) 1 refl refl refl (λ h. refl) (λ place. omega arith))
    clears (Store at l e) k told =
        used (l ∷ e ∷ []) k.words (line at (by.Post atomic.Store) ∷ []) (use_line b (line at (by.Post atomic.Store)) 2 refl refl refl (λ h. refl) (λ place. tt))
    clears (AddTo at l e) k told =
        adding_clears b at (emitted l) (emitted e) (sized l) (sized e) (within l).rises (within e).rises (word_leaves l (first_word functions slots kept l (e ∷ []) k.words)) (word_leaves e (other_kept l e k.words))
    clears (Spawn at target g hint args) k told =
        spawn_clears at target g hint args k.writes k.spawns (says_spawns (Spawn at target g hint args) refl told) k.words
    clears (If test x y) k told =
        let own = (three_true (keeps_words functions slots (If test x y)) (each (keeps_words functions slots) x) (each (keeps_words functions slots) y) k.words).0 in
        let part = λ (has : Stmt → Bool) (h : each has (If test x y) ≡ true). three_true (has (If test x y)) (each has x) (each has y) h in
        choosing_clears b (emitted test) (compiled spawns slots x) (compiled spawns slots y) (sized test) (long spawns slots x) (long spawns slots y) (within test).rises (word_leaves test (one_kept test own))
        (clears x (part_kept functions slots kept (If test x y) x (λ has h. (part has h).1) k) (part_told (If test x y) x (λ has h. (part has h).1) told))
        (clears y (part_kept functions slots kept (If test x y) y (λ has h. (part has h).2) k) (part_told (If test x y) y (λ has h. (part has h).2) told))
    clears (Loop test x y) k told =
        let own = (three_true (keeps_words functions slots (Loop test x y)) (each (keeps_words functions slots) x) (each (keeps_words functions slots) y) k.words).0 in
        let part = λ (has : Stmt → Bool) (h : each has (Loop test x y) ≡ true). three_true (has (Loop test x y)) (each has x) (each has y) h in
        looping_clears b (emitted test) (compiled spawns slots x) (compiled spawns slots y) (sized test) (long spawns slots x) (long spawns slots y) (within test).rises (word_leaves test (one_kept test own))
        (clears x (part_kept functions slots kept (Loop test x y) x (λ has h. (part has h).1) k) (part_told (Loop test x y) x (λ has h. (part has h).1) told))
        (clears y (part_kept functions slots kept (Loop test x y) y (λ has h. (part has h).2) k) (part_told (Loop test x y) y (λ has h. (part has h).2) told))
    clears (Each at low high g copies) k told =
        let two : kept ≡ 2 = ⊎_elim (λ no_. absurd (let wrong : false ≡ true = no_ in cc)) (λ two. two) k.room in
        spawning_clears b functions callees slots (omega arith) (says_spawns (Each at low high g copies) refl told) at (emitted low) (emitted high) g copies k.writes k.spawns (sized low) (sized high) (within low).rises
        (word_leaves low (first_word functions slots kept low (high ∷ []) k.words)) (word_leaves high (other_kept low high k.words))
    clears Break k told = leaving_clears b (λ exits. exits.broken) (λ exits out x. x.broken)
    clears Continue k told = leaving_clears b (λ exits. exits.continued) (λ exits out x. x.continued)
    clears (Return e) k told = used (e ∷ []) k.words (returning spawns) (returning_uses b spawns says)
    clears Sync k told = sync_clears b

    pub all_clear : {n : _} (row : Stmts n) → AreKeptStatements functions slots kept row → AreTold row → Clears b (compiled_all spawns slots row)
    all_clear no_stmts k told = none_clears b
    all_clear (more_stmts s rest) k told =
        let both = λ (e : each_of is_no_spawn (more_stmts s rest) ≡ true). both_true (each is_no_spawn s) (each_of is_no_spawn rest) e in
        behind_clears b (compiled spawns slots s) (compiled_all spawns slots rest) (long spawns slots s)
        (clears s (first_kept functions slots kept s rest k) (⊎_elim (λ e. inl (both e).0) (λ e. inr e) told))
        (all_clear rest (rest_kept functions slots kept s rest k) (⊎_elim (λ e. inl (both e).1) (λ e. inr e) told))
