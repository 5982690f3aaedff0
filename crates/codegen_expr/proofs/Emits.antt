-- The code of an expression makes its actions and leaves its value.
use Rattle.std.proofs.Common.{◌≡◌, ℕ, suc, ◌+◌, ◌≤◌, ◌<◌, List, [], ◌∷◌, ◌++◌, length, Option, Some, None, refl, sym, ap, ◌∙◌, arith, length-append, ℤ, pos, Bool, true, false}
use Rattle.std.specs.Prelude.{option_map, slice_get, ◌==◌}
use Rattle.std.specs.List.{list_all}
use Rattle.std.proofs.lemmas.Bool.{eqb-true}
use Rattle.std.proofs.lemmas.Option.{get_or_from_slice_get}
use borrow.Author.Tests.{ltb-true}
use Rattle.word_ops.specs.declared.place.Pos.{Pos}
use Rattle.word_ops.specs.declared.format.Part.{Part}
use Rattle.word_ops.specs.declared.operators.BinaryOp.{BinaryOp}
use Rattle.word_ops.specs.Operators.{binary_of, unary_of}
use Rattle.word_ops.specs.declared.ending.TrapKind.TheVariants as trap
use Rattle.word_ops.specs.Formats.{words_in, printed, is_printable}
use Rattle.mem_atomics.specs.declared.fetch_op.FetchOp.TheVariants as fetch
use Rattle.world_model.specs.Action as act
use Rattle.world_model.specs.Action.{Action, Answers}
use Rattle.world_model.specs.Meaning.{Acts}
use Rattle.world_model.specs.Activation.{Slots, word_at}
use Rattle.cilk_ast.specs.declared.builtin.Builtin.{Builtin}
use Rattle.cilk_ast.specs.declared.builtin.Builtin.TheVariants as built
use Rattle.cilk_ast.specs.declared.program.Function.{Function}
use Rattle.cilk_ast.specs.declared.program.Expr.{Expr, Word, Slot, Call', Fence, Where, Print', Alloc', Row_of-Expr as Args, end_of-Expr as no_args, more_of-Expr as more_args}
use Rattle.cilk_ast.specs.Expression.{Un, Bin, Both, Either, Load, Post, Add, Swap, Cas, Init, Move, listed}
use Rattle.cilk_ast.specs.Parts.{every, every_arg}
use Rattle.cilk_ast.specs.Kept.{takes, allocates, calls_agree, prints_agree, allocs_agree}
use Rattle.cilk_model.specs.Value.{Calling, value, values, divided, asks as asking, does as doing, request_of}
use Rattle.threadlet_code.specs.declared.instr.Instr.TheVariants as by
use Rattle.threadlet_code.specs.declared.code.Code.{Code}
use Rattle.threadlet_code.specs.Operands.{alloc_operands}
use Rattle.threadlet_code.specs.Machine.{Frame, State, goes, asks, onward, push, answered, acts_or_goes}
use Rattle.threadlet_code.specs.Machine as machine
use Rattle.codegen_expr.specs.Piece.{Line, line, placeless, zero_line, Piece, in_order, operation, printing, both, either}
use Rattle.codegen_expr.specs.Emitted.{kind_of, emitted, emitted_all}
use Rattle.codegen_expr.specs.Stands.{LineAt}
use Rattle.codegen_expr.proofs.Standing.{lines_front, lines_back, formats_front, formats_back}
use Rattle.codegen_expr.proofs.Steps.{Laws, Seat, frame_of, state_of, pushed, silent, stopping}
use Rattle.codegen_expr.proofs.Makes.{Valued, ManyValued, IsSized, After, Makes, MakesAll, Finishes, ends, none_made, more_made, operation_made, word_made, answer_made, action_made}
use Rattle.codegen_expr.proofs.Choices.{both_made, either_made}
use Rattle.codegen_expr.proofs.KeptParts.{both_true, three_true, four_true, IsKept, AreKept, kept_part, kept_args, kept_first, kept_rest}

-- ---- sizes

pub in_order_more : (piece : Piece) (pieces : List Piece) → IsSized piece → IsSized (in_order pieces) → IsSized (in_order (piece ∷ pieces))
in_order_more piece pieces one all place first =
    let rest = in_order pieces in
    let back = rest.lines (place + piece.size) (first + length piece.formats) in
    omega (arith, one place first, all (place + piece.size) (first + length piece.formats), length-append (piece.lines place first) back)

operation_sized : (pieces : List Piece) (own : List Line) → IsSized (in_order pieces) → IsSized (operation pieces own)
operation_sized pieces own all place first =
    let words = in_order pieces in omega (arith, all place first, length-append (words.lines place first) own)

pub one_sized : (a : Piece) → IsSized a → IsSized (in_order (a ∷ []))
one_sized a p = in_order_more a [] p (λ place first. refl)

pub two_sized : (a b : Piece) → IsSized a → IsSized b → IsSized (in_order (a ∷ b ∷ []))
two_sized a b p q = in_order_more a (b ∷ []) p (one_sized b q)

pub three_sized : (a b c : Piece) → IsSized a → IsSized b → IsSized c → IsSized (in_order (a ∷ b ∷ c ∷ []))
three_sized a b c p q r = in_order_more a (b ∷ c ∷ []) p (two_sized b c q r)

both_sized : (at : Pos) (l r : Piece) → IsSized l → IsSized r → IsSized (both at l r)
both_sized at l r p q place first =
    let second = suc (place + l.size) in
    let judge = second + r.size in
    let middle = r.lines second (first + length l.formats) in
    let tail = line at (by.JumpZero (judge + 3)) ∷ line at (by.Push (pos 1)) ∷ line at (by.Jump (judge + 4)) ∷ line at (by.Push (pos 0)) ∷ [] in
    omega (arith, p place first, q second (first + length l.formats), length-append middle tail, length-append (l.lines place first) (line at (by.JumpZero (judge + 3)) ∷ (middle ++ tail)))

either_sized : (at : Pos) (l r : Piece) → IsSized l → IsSized r → IsSized (either at l r)
either_sized at l r p q place first =
    let second = suc (suc (suc (place + l.size))) in
    let judge = second + r.size in
    let middle = r.lines second (first + length l.formats) in
    let tail = line at (by.JumpZero (judge + 3)) ∷ line at (by.Push (pos 1)) ∷ line at (by.Jump (judge + 4)) ∷ line at (by.Push (pos 0)) ∷ [] in
    omega (
      arith,
      p place first,
      q second (first + length l.formats),
      length-append middle tail,
      length-append (l.lines place first) (line at (by.JumpZero second) ∷ line at (by.Push (pos 1)) ∷ line at (by.Jump (judge + 4)) ∷ (middle ++ tail)),
    )

mutual
  pub sized : (e : Expr) → IsSized (emitted e)
  sized (Word word) = λ place first. refl
  sized (Slot slot) = λ place first. refl
  sized (Un at op e) = operation_sized (emitted e ∷ []) (line at (by.Un op) ∷ []) (one_sized (emitted e) (sized e))
  sized (Bin at op l r) = operation_sized (emitted l ∷ emitted r ∷ []) (line at (by.Bin op) ∷ []) (two_sized (emitted l) (emitted r) (sized l) (sized r))
  sized (Both at l r) = both_sized at (emitted l) (emitted r) (sized l) (sized r)
  sized (Either at l r) = either_sized at (emitted l) (emitted r) (sized l) (sized r)
  sized (Load at a) = operation_sized (emitted a ∷ []) (line at by.Load ∷ []) (one_sized (emitted a) (sized a))
  sized (Call' at f n args) = operation_sized (emitted_all args) (line at (by.Call f) ∷ []) (all_sized args)
  sized (Post at op a v) = operation_sized (emitted a ∷ emitted v ∷ []) (line at (by.Post op) ∷ zero_line ∷ []) (two_sized (emitted a) (emitted v) (sized a) (sized v))
  sized (Add at a v) = operation_sized (emitted a ∷ emitted v ∷ []) (line at by.FetchAdd ∷ []) (two_sized (emitted a) (emitted v) (sized a) (sized v))
  sized (Swap at a v) = operation_sized (emitted a ∷ emitted v ∷ []) (line at by.FetchSwap ∷ []) (two_sized (emitted a) (emitted v) (sized a) (sized v))
  sized (Cas at a x v) = operation_sized (emitted a ∷ emitted x ∷ emitted v ∷ []) (line at by.FetchCas ∷ []) (three_sized (emitted a) (emitted x) (emitted v) (sized a) (sized x) (sized v))
  sized (Init at a v) = operation_sized (emitted a ∷ emitted v ∷ []) (line at by.Init ∷ zero_line ∷ []) (two_sized (emitted a) (emitted v) (sized a) (sized v))
  sized Fence = λ place first. refl
  sized (Move at a) = operation_sized (emitted a ∷ []) (line at by.Move ∷ zero_line ∷ []) (one_sized (emitted a) (sized a))
  sized Where = λ place first. refl
  sized (Print' format n args) = λ place first.
      let words = in_order (emitted_all args) in
      omega (arith, all_sized args place first, length-append (words.lines place first) (placeless (by.Print (first + length words.formats)) ∷ zero_line ∷ []))
  sized (Alloc' at which n args) = operation_sized (emitted_all args) (line at (by.Alloc (kind_of which)) ∷ []) (all_sized args)

  pub all_sized : {n : _} (args : Args n) → IsSized (in_order (emitted_all args))
  all_sized no_args = λ place first. refl
  all_sized (more_args e rest) = in_order_more (emitted e) (emitted_all rest) (sized e) (all_sized rest)

pub count_all : {n : _} (args : Args n) → length (emitted_all args) ≡ length (listed args)
count_all no_args = refl
count_all (more_args e rest) = ap suc (count_all rest)

-- ---- allocations

request_same : (at : Pos) (which : Builtin) (xs : List ℤ) → machine.request_of at (kind_of which) xs ≡ request_of at which xs
request_same at built.MwMalloc1dlong xs = refl
request_same at built.MwMalloc2dlong xs = refl
request_same at built.MwLocalmalloc xs = refl
request_same at built.MwMallocrepl xs = refl
request_same at _ xs = refl

pub alloc_count : (which : Builtin) (m : ℕ) → allocates which m ≡ true → alloc_operands (kind_of which) ≡ m
alloc_count built.MwMalloc1dlong m h = sym (eqb-true m 1 h)
alloc_count built.MwMalloc2dlong m h = sym (eqb-true m 2 h)
alloc_count built.MwLocalmalloc m h = sym (eqb-true m 2 h)
alloc_count built.MwMallocrepl m h = sym (eqb-true m 1 h)
alloc_count _ m h = absurd (let wrong : false ≡ true = h in cc)

module _ {code : Code} (seat : Seat code) (laws : Laws code) (n : ℕ) where
  three_made : (a b c : Piece) (x y z : Valued) → IsSized a → IsSized b → IsSized c → Makes seat laws n a x → Makes seat laws n b y → Makes seat laws n c z →
      MakesAll seat laws n (a ∷ b ∷ c ∷ []) (λ k. x (λ v. y (λ w. z (λ u. k (v ∷ w ∷ u ∷ [])))))
  three_made a b c x y z sa sb sc p q r =
      more_made seat laws n a (b ∷ c ∷ []) x (λ k. y (λ w. z (λ u. k (w ∷ u ∷ [])))) sa p
      (more_made seat laws n b (c ∷ []) y (λ k. z (λ v. k (v ∷ []))) sb q (more_made seat laws n c [] z (λ k. k []) sc r (none_made seat laws n)))

  -- ---- a division
  quotient_made : (op : BinaryOp) (at : Pos) (place : ℕ) (stack : List ℤ) (k : ℤ → Acts) → LineAt seat.f place (line at (by.Bin op)) → After seat laws n k (place + 1) stack →
      (xs : List ℤ) → length xs ≡ 2 → (word : Option ℤ) → binary_of op (word_at xs 0) (word_at xs 1) ≡ word → (B : Answers) → length B ≤ n →
      laws.from (state_of seat place (pushed xs stack)) B ≡ divided at word k B
  quotient_made op at place stack k has after xs count None is B le =
      stopping seat laws (line at (by.Bin op)) place stack xs 2 has refl count (act.Trap at trap.Divide)
      (ap (λ o. machine.divided at o (λ word. goes (onward (push word (frame_of seat place stack)) ∷ seat.frames))) is) B
  quotient_made op at place stack k has after xs count (Some word) is B le =
      silent seat laws (line at (by.Bin op)) place stack xs 2 has refl count (state_of seat (suc place) (word ∷ stack))
      (ap (λ o. machine.divided at o (λ word. goes (onward (push word (frame_of seat place stack)) ∷ seat.frames))) is) B
      ∙ ends seat laws n k (suc place) (place + 1) stack (omega arith) after word B le

  divided_made : (op : BinaryOp) (at : Pos) → Finishes seat laws n (line at (by.Bin op) ∷ []) 2 (λ k xs. divided at (binary_of op (word_at xs 0) (word_at xs 1)) k)
  divided_made op at place stack k has after xs count B le =
      quotient_made op at place stack k has.0 after xs count (binary_of op (word_at xs 0) (word_at xs 1)) refl B le

  -- ---- all forms
  module _ (functions : List Function) (slots : ℕ) (source : Slots)
      (agree : (i : ℕ) → i < slots → word_at seat.slots i ≡ word_at source i)
      (call : Calling)
      (calls : (place : ℕ) (stack : List ℤ) (at : Pos) (g : ℕ) (xs : List ℤ) (k : ℤ → Acts) → takes functions g (length xs) ≡ true →
      LineAt seat.f place (line at (by.Call g)) → After seat laws n k (suc place) stack → (A : Answers) → length A ≤ n →
      laws.from (state_of seat place (pushed xs stack)) A ≡ call at g xs k A) where
    abbrev Emits : Expr → Type 0
    Emits e = Makes seat laws n (emitted e) (value call e source)

    call_made : (at : Pos) (g m : ℕ) → takes functions g m ≡ true → Finishes seat laws n (line at (by.Call g) ∷ []) m (λ k xs. call at g xs k)
    call_made at g m there place stack k has after xs count B le =
        calls place stack at g xs k (ap (takes functions g) count ∙ there) has.0 (ends seat laws n k (suc place) (place + 1) stack (omega arith) after) B le

    slot_made : (i : ℕ) → i < slots → Finishes seat laws n (placeless (by.Get i) ∷ []) 0 (λ k xs. k (word_at source i))
    slot_made i lt = word_made seat laws n (placeless (by.Get i)) 0 (λ xs. word_at source i) refl
        (λ place stack xs. ap (λ w. goes (state_of seat (suc place) (w ∷ stack))) (agree i lt))

    print_made : (format : List Part) (pieces : List Piece) (values : ManyValued) → IsSized (in_order pieces) → MakesAll seat laws n pieces values → words_in format ≡ length pieces →
        Makes seat laws n (printing format pieces) (λ k. values (λ xs. doing (act.Print (printed format xs)) k))
    print_made format pieces values sized_all all count place first stack k has formats after A le =
        let words = in_order pieces in
        let front = words.lines place first in
        let i = first + length words.formats in
        let own : List Line = placeless (by.Print i) ∷ zero_line ∷ [] in
        let known : slice_get code.formats i ≡ Some format = (formats_back code.formats first words.formats (format ∷ []) formats).0 in
        let same : place + words.size + 2 ≡ place + (words.size + 2) = omega arith in
        let own_made = action_made seat laws n (placeless (by.Print i)) (length pieces) (λ xs. act.Print (printed format xs))
        (ap (option_map words_in) known ∙ ap Some count)
        (λ xs. ap (λ f. Some (act.Print (printed f xs))) (get_or_from_slice_get code.formats i format [] known))
        (λ r at. refl) in
        all place first stack (λ xs. doing (act.Print (printed format xs)) k) (lines_front seat.f place front own has) (formats_front code.formats first words.formats (format ∷ []) formats)
        (λ xs length_xs B le_b. own_made (place + words.size) stack k (lines_back seat.f place words.size front own (sized_all place first) has)
        (ends seat laws n k (place + words.size + 2) (place + (words.size + 2)) stack same after) xs length_xs B le_b) A le

    alloc_made : (at : Pos) (which : Builtin) (m : ℕ) → allocates which m ≡ true →
        Finishes seat laws n (line at (by.Alloc (kind_of which)) ∷ []) m (λ k xs. asking (act.Alloc (request_of at which xs)) k)
    alloc_made at which m fits = answer_made seat laws n (line at (by.Alloc (kind_of which))) m (λ xs. act.Alloc (request_of at which xs))
        (ap Some (alloc_count which m fits)) (λ xs. ap (λ r. Some (act.Alloc r)) (request_same at which xs)) (λ r frame. refl)

    -- One part, and two.
    unary : (e : Expr) → Emits e → (own : List Line) (last : (ℤ → Acts) → List ℤ → Acts) → Finishes seat laws n own 1 last →
        Makes seat laws n (operation (emitted e ∷ []) own) (λ k. value call e source (λ x. last k (x ∷ [])))
    unary e made own last finish =
        operation_made seat laws n (emitted e ∷ []) (λ k. value call e source (λ x. k (x ∷ []))) own last (one_sized (emitted e) (sized e))
        (more_made seat laws n (emitted e) [] (value call e source) (λ k. k []) (sized e) made (none_made seat laws n)) finish

    binary : (l r : Expr) → Emits l → Emits r → (own : List Line) (last : (ℤ → Acts) → List ℤ → Acts) → Finishes seat laws n own 2 last →
        Makes seat laws n (operation (emitted l ∷ emitted r ∷ []) own) (λ k. value call l source (λ x. value call r source (λ y. last k (x ∷ y ∷ []))))
    binary l r made_l made_r own last finish =
        operation_made seat laws n (emitted l ∷ emitted r ∷ []) (λ k. value call l source (λ x. value call r source (λ y. k (x ∷ y ∷ [])))) own last
        (two_sized (emitted l) (emitted r) (sized l) (sized r))
        (more_made seat laws n (emitted l) (emitted r ∷ []) (value call l source) (λ k. value call r source (λ y. k (y ∷ []))) (sized l) made_l
        (more_made seat laws n (emitted r) [] (value call r source) (λ k. k []) (sized r) made_r (none_made seat laws n))) finish

    mutual
      pub emits : (e : Expr) → IsKept functions slots e → Emits e
      emits (Word word) kept = operation_made seat laws n [] (λ k. k []) (placeless (by.Push word) ∷ []) (λ k xs. k word) (λ place first. refl) (none_made seat laws n)
          (word_made seat laws n (placeless (by.Push word)) 0 (λ xs. word) refl (λ place stack xs. refl))
      emits (Slot slot) kept = operation_made seat laws n [] (λ k. k []) (placeless (by.Get slot) ∷ []) (λ k xs. k (word_at source slot)) (λ place first. refl) (none_made seat laws n)
          (slot_made slot (ltb-true slot slots kept.slots_named))
      emits (Un at op e) kept =
          let ke = kept_part functions slots (Un at op e) e (λ has h. (both_true (has (Un at op e)) (every has e) h).1) kept in
          unary e (emits e ke) (line at (by.Un op) ∷ []) (λ k xs. k (unary_of op (word_at xs 0)))
          (word_made seat laws n (line at (by.Un op)) 1 (λ xs. unary_of op (word_at xs 0)) refl (λ place stack xs. refl))
      emits (Bin at op l r) kept =
          let kl = kept_part functions slots (Bin at op l r) l (λ has h. (three_true (has (Bin at op l r)) (every has l) (every has r) h).1) kept in
          let kr = kept_part functions slots (Bin at op l r) r (λ has h. (three_true (has (Bin at op l r)) (every has l) (every has r) h).2) kept in
          binary l r (emits l kl) (emits r kr) (line at (by.Bin op) ∷ []) (λ k xs. divided at (binary_of op (word_at xs 0) (word_at xs 1)) k) (divided_made op at)
      emits (Both at l r) kept =
          let kl = kept_part functions slots (Both at l r) l (λ has h. (three_true (has (Both at l r)) (every has l) (every has r) h).1) kept in
          let kr = kept_part functions slots (Both at l r) r (λ has h. (three_true (has (Both at l r)) (every has l) (every has r) h).2) kept in
          both_made seat laws n at (emitted l) (emitted r) (value call l source) (value call r source) (sized l) (sized r) (emits l kl) (emits r kr)
      emits (Either at l r) kept =
          let kl = kept_part functions slots (Either at l r) l (λ has h. (three_true (has (Either at l r)) (every has l) (every has r) h).1) kept in
          let kr = kept_part functions slots (Either at l r) r (λ has h. (three_true (has (Either at l r)) (every has l) (every has r) h).2) kept in
          either_made seat laws n at (emitted l) (emitted r) (value call l source) (value call r source) (sized l) (sized r) (emits l kl) (emits r kr)
      emits (Load at a) kept =
          let ka = kept_part functions slots (Load at a) a (λ has h. (both_true (has (Load at a)) (every has a) h).1) kept in
          unary a (emits a ka) (line at by.Load ∷ []) (λ k xs. asking (act.Load at (word_at xs 0)) k)
          (answer_made seat laws n (line at by.Load) 1 (λ xs. act.Load at (word_at xs 0)) refl (λ xs. refl) (λ r frame. refl))
      emits (Call' at g m args) kept =
          let ka = kept_args functions slots (Call' at g m args) args (λ has h. (both_true (has (Call' at g m args)) (every_arg has args) h).1) kept in
          let there = (both_true (takes functions g (length (listed args))) (every_arg (calls_agree functions) args) kept.calls).0 in
          operation_made seat laws n (emitted_all args) (values call args source) (line at (by.Call g) ∷ []) (λ k xs. call at g xs k) (all_sized args) (emits_all args ka)
          (call_made at g (length (emitted_all args)) (ap (takes functions g) (count_all args) ∙ there))
      emits (Post at op a v) kept =
          let ka = kept_part functions slots (Post at op a v) a (λ has h. (three_true (has (Post at op a v)) (every has a) (every has v) h).1) kept in
          let kv = kept_part functions slots (Post at op a v) v (λ has h. (three_true (has (Post at op a v)) (every has a) (every has v) h).2) kept in
          binary a v (emits a ka) (emits v kv) (line at (by.Post op) ∷ zero_line ∷ []) (λ k xs. doing (act.Issue at op (word_at xs 0) (word_at xs 1)) k)
          (action_made seat laws n (line at (by.Post op)) 2 (λ xs. act.Issue at op (word_at xs 0) (word_at xs 1)) refl (λ xs. refl) (λ r frame. refl))
      emits (Add at a v) kept =
          let ka = kept_part functions slots (Add at a v) a (λ has h. (three_true (has (Add at a v)) (every has a) (every has v) h).1) kept in
          let kv = kept_part functions slots (Add at a v) v (λ has h. (three_true (has (Add at a v)) (every has a) (every has v) h).2) kept in
          binary a v (emits a ka) (emits v kv) (line at by.FetchAdd ∷ []) (λ k xs. asking (act.Fetch at (fetch.Add (word_at xs 1)) (word_at xs 0)) k)
          (answer_made seat laws n (line at by.FetchAdd) 2 (λ xs. act.Fetch at (fetch.Add (word_at xs 1)) (word_at xs 0)) refl (λ xs. refl) (λ r frame. refl))
      emits (Swap at a v) kept =
          let ka = kept_part functions slots (Swap at a v) a (λ has h. (three_true (has (Swap at a v)) (every has a) (every has v) h).1) kept in
          let kv = kept_part functions slots (Swap at a v) v (λ has h. (three_true (has (Swap at a v)) (every has a) (every has v) h).2) kept in
          binary a v (emits a ka) (emits v kv) (line at by.FetchSwap ∷ []) (λ k xs. asking (act.Fetch at (fetch.Swap (word_at xs 1)) (word_at xs 0)) k)
          (answer_made seat laws n (line at by.FetchSwap) 2 (λ xs. act.Fetch at (fetch.Swap (word_at xs 1)) (word_at xs 0)) refl (λ xs. refl) (λ r frame. refl))
      emits (Cas at a x v) kept =
          let four = λ (has : Expr → Bool) (h : every has (Cas at a x v) ≡ true). four_true (has (Cas at a x v)) (every has a) (every has x) (every has v) h in
          let ka = kept_part functions slots (Cas at a x v) a (λ has h. (four has h).1) kept in
          let kx = kept_part functions slots (Cas at a x v) x (λ has h. (four has h).2) kept in
          let kv = kept_part functions slots (Cas at a x v) v (λ has h. (four has h).3) kept in
          operation_made seat laws n (emitted a ∷ emitted x ∷ emitted v ∷ []) (λ k. value call a source (λ y. value call x source (λ z. value call v source (λ w. k (y ∷ z ∷ w ∷ [])))))
          (line at by.FetchCas ∷ []) (λ k xs. asking (act.Fetch at (fetch.Cas (word_at xs 1) (word_at xs 2)) (word_at xs 0)) k)
          (three_sized (emitted a) (emitted x) (emitted v) (sized a) (sized x) (sized v))
          (three_made (emitted a) (emitted x) (emitted v) (value call a source) (value call x source) (value call v source) (sized a) (sized x) (sized v) (emits a ka) (emits x kx) (emits v kv))
          (answer_made seat laws n (line at by.FetchCas) 3 (λ xs. act.Fetch at (fetch.Cas (word_at xs 1) (word_at xs 2)) (word_at xs 0)) refl (λ xs. refl) (λ r frame. refl))
      emits (Init at a v) kept =
          let ka = kept_part functions slots (Init at a v) a (λ has h. (three_true (has (Init at a v)) (every has a) (every has v) h).1) kept in
          let kv = kept_part functions slots (Init at a v) v (λ has h. (three_true (has (Init at a v)) (every has a) (every has v) h).2) kept in
          binary a v (emits a ka) (emits v kv) (line at by.Init ∷ zero_line ∷ []) (λ k xs. doing (act.Init at (word_at xs 0) (word_at xs 1)) k)
          (action_made seat laws n (line at by.Init) 2 (λ xs. act.Init at (word_at xs 0) (word_at xs 1)) refl (λ xs. refl) (λ r frame. refl))
      emits Fence kept = operation_made seat laws n [] (λ k. k []) (placeless by.Fence ∷ zero_line ∷ []) (λ k xs. doing act.Fence k) (λ place first. refl) (none_made seat laws n)
          (action_made seat laws n (placeless by.Fence) 0 (λ xs. act.Fence) refl (λ xs. refl) (λ r frame. refl))
      emits (Move at a) kept =
          let ka = kept_part functions slots (Move at a) a (λ has h. (both_true (has (Move at a)) (every has a) h).1) kept in
          unary a (emits a ka) (line at by.Move ∷ zero_line ∷ []) (λ k xs. doing (act.Move at (word_at xs 0)) k)
          (action_made seat laws n (line at by.Move) 1 (λ xs. act.Move at (word_at xs 0)) refl (λ xs. refl) (λ r frame. refl))
      emits Where kept = operation_made seat laws n [] (λ k. k []) (placeless by.Where ∷ []) (λ k xs. asking act.Where k) (λ place first. refl) (none_made seat laws n)
          (answer_made seat laws n (placeless by.Where) 0 (λ xs. act.Where) refl (λ xs. refl) (λ r frame. refl))
      emits (Print' format m args) kept =
          let ka = kept_args functions slots (Print' format m args) args (λ has h. (both_true (has (Print' format m args)) (every_arg has args) h).1) kept in
          let own = (both_true (prints_agree (Print' format m args)) (every_arg prints_agree args) kept.prints).0 in
          let counts = (both_true (words_in format == length (listed args)) (list_all is_printable format) own).0 in
          print_made format (emitted_all args) (values call args source) (all_sized args) (emits_all args ka)
          (eqb-true (words_in format) (length (listed args)) counts ∙ sym (count_all args))
      emits (Alloc' at which m args) kept =
          let ka = kept_args functions slots (Alloc' at which m args) args (λ has h. (both_true (has (Alloc' at which m args)) (every_arg has args) h).1) kept in
          let fits = (both_true (allocates which (length (listed args))) (every_arg allocs_agree args) kept.allocs).0 in
          operation_made seat laws n (emitted_all args) (values call args source) (line at (by.Alloc (kind_of which)) ∷ []) (λ k xs. asking (act.Alloc (request_of at which xs)) k) (all_sized args) (emits_all args ka)
          (alloc_made at which (length (emitted_all args)) (ap (allocates which) (count_all args) ∙ fits))

      pub emits_all : {m : _} (args : Args m) → AreKept functions slots args → MakesAll seat laws n (emitted_all args) (values call args source)
      emits_all no_args kept = none_made seat laws n
      emits_all (more_args e rest) kept =
          more_made seat laws n (emitted e) (emitted_all rest) (value call e source) (values call rest source) (sized e)
          (emits e (kept_first functions slots e rest kept)) (emits_all rest (kept_rest functions slots e rest kept))
