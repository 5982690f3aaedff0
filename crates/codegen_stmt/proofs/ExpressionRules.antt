-- The code of each expression keeps the rules.
use Rattle.std.proofs.Common.{◌≡◌, ℕ, ◌<◌, ◌≤◌, List, [], ◌∷◌, length, Some, refl, sym, ap, ◌∙◌, arith, Bool, true}
use Rattle.std.specs.Prelude.{◌==◌}
use Rattle.std.specs.List.{list_all}
use Rattle.std.proofs.lemmas.Bool.{eqb-true}
use borrow.Author.Tests.{ltb-true}
use Rattle.word_ops.specs.Formats.{words_in, is_printable}
use Rattle.cilk_ast.specs.declared.program.Function.{Function}
use Rattle.cilk_ast.specs.declared.program.Expr.{Expr, Word, Slot, Call', Fence, Where, Print', Alloc', Row_of-Expr as Args, end_of-Expr as no_args, more_of-Expr as more_args}
use Rattle.cilk_ast.specs.Expression.{Un, Bin, Both, Either, Load, Post, Add, Swap, Cas, Init, Move, listed}
use Rattle.cilk_ast.specs.Parts.{every, every_arg}
use Rattle.cilk_ast.specs.Kept.{takes, allocates, calls_agree, prints_agree, allocs_agree}
use Rattle.threadlet_code.specs.declared.instr.Instr.TheVariants as by
use Rattle.threadlet_code.specs.declared.code.Code.{Code}
use Rattle.threadlet_code.specs.Operands.{params_of}
use Rattle.codegen_expr.specs.Piece.{Line, line, placeless, zero_line, in_order, operation}
use Rattle.codegen_expr.specs.Emitted.{kind_of, emitted, emitted_all}
use Rattle.codegen_expr.proofs.Emits.{sized, all_sized, one_sized, two_sized, three_sized, count_all, alloc_count}
use Rattle.codegen_expr.proofs.Bounds.{within, all_within}
use Rattle.codegen_expr.proofs.KeptParts.{both_true, three_true, four_true, IsKept, AreKept, kept_part, kept_args, kept_first, kept_rest}
use Rattle.codegen_stmt.proofs.LineRules.{Body}
use Rattle.codegen_stmt.proofs.PieceRules.{Leaves, LeavesAll, Finishes, none_leaves, more_leaves, operation_leaves, word_line, action_line, printing_leaves, both_leaves, either_leaves}

-- What the code has of the functions that are called.
pub record HasCallees (code : Code) (functions : List Function) : Type 0 where
  pub there : (g n : ℕ) → takes functions g n ≡ true → g < length code.functions
  pub params : (g n : ℕ) → takes functions g n ≡ true → params_of code g ≡ Some n

module _ {code : Code} (b : Body code) (functions : List Function) (callees : HasCallees code functions) (slots : ℕ) (room : slots ≤ b.f.slots) where
  one_rises : (a : Expr) → 1 ≤ (in_order (emitted a ∷ [])).rise
  one_rises a = let r = (within a).rises in omega arith

  two_rises : (a c : Expr) → 2 ≤ (in_order (emitted a ∷ emitted c ∷ [])).rise
  two_rises a c = let r = (within c).rises in omega arith

  three_rises : (a c d : Expr) → 3 ≤ (in_order (emitted a ∷ emitted c ∷ emitted d ∷ [])).rise
  three_rises a c d = let r = (within d).rises in omega arith

  none : (own : List Line) → Finishes b own 0 → Leaves b (operation [] own)
  none own finish = operation_leaves b [] own (λ place first. refl) (omega arith) (none_leaves b) finish

  unary : (e : Expr) → Leaves b (emitted e) → (own : List Line) → Finishes b own 1 → Leaves b (operation (emitted e ∷ []) own)
  unary e p own finish =
      operation_leaves b (emitted e ∷ []) own (one_sized (emitted e) (sized e)) (one_rises e) (more_leaves b (emitted e) [] (sized e) p (none_leaves b)) finish

  binary : (l r : Expr) → Leaves b (emitted l) → Leaves b (emitted r) → (own : List Line) → Finishes b own 2 → Leaves b (operation (emitted l ∷ emitted r ∷ []) own)
  binary l r p q own finish =
      operation_leaves b (emitted l ∷ emitted r ∷ []) own (two_sized (emitted l) (emitted r) (sized l) (sized r)) (two_rises l r)
      (more_leaves b (emitted l) (emitted r ∷ []) (sized l) p (more_leaves b (emitted r) [] (sized r) q (none_leaves b))) finish

  mutual
    pub leaves : (e : Expr) → IsKept functions slots e → Leaves b (emitted e)
    leaves (Word word) kept = none (placeless (by.Push word) ∷ []) (word_line b (placeless (by.Push word)) 0 refl refl refl (λ h. refl) (λ place. tt))
    leaves (Slot slot) kept =
        let lt = ltb-true slot slots kept.slots_named in
        none (placeless (by.Get slot) ∷ []) (word_line b (placeless (by.Get slot)) 0 refl refl refl (λ h. refl) (λ place. omega arith))
    leaves (Un at op e) kept =
        let ke = kept_part functions slots (Un at op e) e (λ has h. (both_true (has (Un at op e)) (every has e) h).1) kept in
        unary e (leaves e ke) (line at (by.Un op) ∷ []) (word_line b (line at (by.Un op)) 1 refl refl refl (λ h. refl) (λ place. tt))
    leaves (Bin at op l r) kept =
        let kl = kept_part functions slots (Bin at op l r) l (λ has h. (three_true (has (Bin at op l r)) (every has l) (every has r) h).1) kept in
        let kr = kept_part functions slots (Bin at op l r) r (λ has h. (three_true (has (Bin at op l r)) (every has l) (every has r) h).2) kept in
        binary l r (leaves l kl) (leaves r kr) (line at (by.Bin op) ∷ []) (word_line b (line at (by.Bin op)) 2 refl refl refl (λ h. refl) (λ place. tt))
    leaves (Both at l r) kept =
        let kl = kept_part functions slots (Both at l r) l (λ has h. (three_true (has (Both at l r)) (every has l) (every has r) h).1) kept in
        let kr = kept_part functions slots (Both at l r) r (λ has h. (three_true (has (Both at l r)) (every has l) (every has r) h).2) kept in
        both_leaves b at (emitted l) (emitted r) (sized l) (sized r) (within l).rises (leaves l kl) (leaves r kr)
    leaves (Either at l r) kept =
        let kl = kept_part functions slots (Either at l r) l (λ has h. (three_true (has (Either at l r)) (every has l) (every has r) h).1) kept in
        let kr = kept_part functions slots (Either at l r) r (λ has h. (three_true (has (Either at l r)) (every has l) (every has r) h).2) kept in
        either_leaves b at (emitted l) (emitted r) (sized l) (sized r) (within l).rises (leaves l kl) (leaves r kr)
    leaves (Load at a) kept =
        let ka = kept_part functions slots (Load at a) a (λ has h. (both_true (has (Load at a)) (every has a) h).1) kept in
        unary a (leaves a ka) (line at by.Load ∷ []) (word_line b (line at by.Load) 1 refl refl refl (λ h. refl) (λ place. tt))
    leaves (Call' at g m args) kept =
        let ka = kept_args functions slots (Call' at g m args) args (λ has h. (both_true (has (Call' at g m args)) (every_arg has args) h).1) kept in
        let there = (both_true (takes functions g (length (listed args))) (every_arg (calls_agree functions) args) kept.calls).0 in
        operation_leaves b (emitted_all args) (line at (by.Call g) ∷ []) (all_sized args) (all_within args).rises (all_leave args ka)
        (word_line b (line at (by.Call g)) (length (emitted_all args)) refl (callees.params g (length (listed args)) there ∙ ap Some (sym (count_all args))) refl (λ h. refl)
        (λ place. callees.there g (length (listed args)) there))
    leaves (Post at op a v) kept =
        let ka = kept_part functions slots (Post at op a v) a (λ has h. (three_true (has (Post at op a v)) (every has a) (every has v) h).1) kept in
        let kv = kept_part functions slots (Post at op a v) v (λ has h. (three_true (has (Post at op a v)) (every has a) (every has v) h).2) kept in
        binary a v (leaves a ka) (leaves v kv) (line at (by.Post op) ∷ zero_line ∷ []) (action_line b (line at (by.Post op)) 2 refl refl refl (λ h. refl) (λ place. tt))
    leaves (Add at a v) kept =
        let ka = kept_part functions slots (Add at a v) a (λ has h. (three_true (has (Add at a v)) (every has a) (every has v) h).1) kept in
        let kv = kept_part functions slots (Add at a v) v (λ has h. (three_true (has (Add at a v)) (every has a) (every has v) h).2) kept in
        binary a v (leaves a ka) (leaves v kv) (line at by.FetchAdd ∷ []) (word_line b (line at by.FetchAdd) 2 refl refl refl (λ h. refl) (λ place. tt))
    leaves (Swap at a v) kept =
        let ka = kept_part functions slots (Swap at a v) a (λ has h. (three_true (has (Swap at a v)) (every has a) (every has v) h).1) kept in
        let kv = kept_part functions slots (Swap at a v) v (λ has h. (three_true (has (Swap at a v)) (every has a) (every has v) h).2) kept in
        binary a v (leaves a ka) (leaves v kv) (line at by.FetchSwap ∷ []) (word_line b (line at by.FetchSwap) 2 refl refl refl (λ h. refl) (λ place. tt))
    leaves (Cas at a x v) kept =
        let four = λ (has : Expr → Bool) (h : every has (Cas at a x v) ≡ true). four_true (has (Cas at a x v)) (every has a) (every has x) (every has v) h in
        let ka = kept_part functions slots (Cas at a x v) a (λ has h. (four has h).1) kept in
        let kx = kept_part functions slots (Cas at a x v) x (λ has h. (four has h).2) kept in
        let kv = kept_part functions slots (Cas at a x v) v (λ has h. (four has h).3) kept in
        operation_leaves b (emitted a ∷ emitted x ∷ emitted v ∷ []) (line at by.FetchCas ∷ []) (three_sized (emitted a) (emitted x) (emitted v) (sized a) (sized x) (sized v)) (three_rises a x v)
        (more_leaves b (emitted a) (emitted x ∷ emitted v ∷ []) (sized a) (leaves a ka)
        (more_leaves b (emitted x) (emitted v ∷ []) (sized x) (leaves x kx) (more_leaves b (emitted v) [] (sized v) (leaves v kv) (none_leaves b))))
        (word_line b (line at by.FetchCas) 3 refl refl refl (λ h. refl) (λ place. tt))
    leaves (Init at a v) kept =
        let ka = kept_part functions slots (Init at a v) a (λ has h. (three_true (has (Init at a v)) (every has a) (every has v) h).1) kept in
        let kv = kept_part functions slots (Init at a v) v (λ has h. (three_true (has (Init at a v)) (every has a) (every has v) h).2) kept in
        binary a v (leaves a ka) (leaves v kv) (line at by.Init ∷ zero_line ∷ []) (action_line b (line at by.Init) 2 refl refl refl (λ h. refl) (λ place. tt))
    leaves Fence kept = none (placeless by.Fence ∷ zero_line ∷ []) (action_line b (placeless by.Fence) 0 refl refl refl (λ h. refl) (λ place. tt))
    leaves (Move at a) kept =
        let ka = kept_part functions slots (Move at a) a (λ has h. (both_true (has (Move at a)) (every has a) h).1) kept in
        unary a (leaves a ka) (line at by.Move ∷ zero_line ∷ []) (action_line b (line at by.Move) 1 refl refl refl (λ h. refl) (λ place. tt))
    leaves Where kept = none (placeless by.Where ∷ []) (word_line b (placeless by.Where) 0 refl refl refl (λ h. refl) (λ place. tt))
    leaves (Print' format m args) kept =
        let ka = kept_args functions slots (Print' format m args) args (λ has h. (both_true (has (Print' format m args)) (every_arg has args) h).1) kept in
        let own = (both_true (prints_agree (Print' format m args)) (every_arg prints_agree args) kept.prints).0 in
        let counts = (both_true (words_in format == length (listed args)) (list_all is_printable format) own).0 in
        printing_leaves b format (emitted_all args) (all_sized args) (all_within args).rises (all_leave args ka) (eqb-true (words_in format) (length (listed args)) counts ∙ sym (count_all args))
    leaves (Alloc' at which m args) kept =
        let ka = kept_args functions slots (Alloc' at which m args) args (λ has h. (both_true (has (Alloc' at which m args)) (every_arg has args) h).1) kept in
        let fits = (both_true (allocates which (length (listed args))) (every_arg allocs_agree args) kept.allocs).0 in
        operation_leaves b (emitted_all args) (line at (by.Alloc (kind_of which)) ∷ []) (all_sized args) (all_within args).rises (all_leave args ka)
        (word_line b (line at (by.Alloc (kind_of which))) (length (emitted_all args)) refl (ap Some (alloc_count which (length (emitted_all args)) (ap (allocates which) (count_all args) ∙ fits))) refl (λ h. refl) (λ place. tt))

    pub all_leave : {n : _} (args : Args n) → AreKept functions slots args → LeavesAll b (emitted_all args)
    all_leave no_args kept = none_leaves b
    all_leave (more_args e rest) kept = more_leaves b (emitted e) (emitted_all rest) (sized e) (leaves e (kept_first functions slots e rest kept)) (all_leave rest (kept_rest functions slots e rest kept))
