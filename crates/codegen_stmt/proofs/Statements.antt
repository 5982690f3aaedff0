-- The code of each form of statement does what the statement does.
use Rattle.std.proofs.Common.{◌≡◌, ⊎_elim, ℕ, zero, suc, ◌+◌, ◌<◌, ◌≤◌, List, [], ◌∷◌, ◌++◌, length, Option, Some, None, refl, sym, ap, ◌∙◌, arith, length-append, ℤ, pos, Bool, true, false}
use Rattle.std.specs.Prelude.{slice_set, if◌then◌else◌, option_map, map, drop, int_lt, nat_lt}
use Rattle.std.specs.Int.{w64, int_wrapping_add}
use Rattle.std.specs.List.{list_all}
use borrow.Author.Tests.{ltb-true}
use Rattle.word_ops.specs.declared.place.Pos.{Pos}
use Rattle.word_ops.specs.declared.operators.BinaryOp.TheVariants as op
use Rattle.word_ops.specs.declared.operators.BinaryOp.{BinaryOp}
use Rattle.word_ops.specs.Operators.{same_word, binary_of, truth_of}
use Rattle.mem_atomics.specs.declared.op.Op.TheVariants as atomic
use Rattle.world_model.specs.Action as act
use Rattle.world_model.specs.Action.{Action, Answers, Hint}
use Rattle.world_model.specs.Meaning.{Acts, make, word_of}
use Rattle.world_model.specs.Activation.{Slots, Targets, word_at, joined}
use Rattle.cilk_ast.specs.declared.program.Function.{Function}
use Rattle.cilk_ast.specs.declared.program.Expr.{Expr}
use Rattle.cilk_ast.specs.declared.program.Stmt.{Stmt, Nothing, Block', Eval, Set, Store, AddTo, Spawn, Each, Break, Continue, Return, Sync, Row_of-Stmt as Stmts, end_of-Stmt as no_stmts, more_of-Stmt as more_stmts}
use Rattle.cilk_ast.specs.Statement.{If, Loop}
use Rattle.cilk_ast.specs.Parts.{each, each_of, expressions_of}
use Rattle.cilk_ast.specs.Kept.{takes, is_target, keeps_expression}
use Rattle.cilk_model.specs.Value.{Calling, is_true, value, values_of}
use Rattle.cilk_model.specs.Statement.{Flow, syncs, returns, spawns_each, runs, runs_all}
use Rattle.threadlet_code.specs.declared.instr.Instr.TheVariants as by
use Rattle.threadlet_code.specs.declared.code.Code.{Code}
use Rattle.threadlet_code.specs.Operands.{params_of, hint_operands}
use Rattle.threadlet_code.specs.Machine as machine
use Rattle.threadlet_code.specs.Machine.{Frame, State, goes, asks, stops, onward, push, returned, step}
use Rattle.codegen_expr.specs.Piece.{Line, line, placeless, in_order}
use Rattle.codegen_expr.specs.Emitted.{emitted, emitted_each}
use Rattle.codegen_expr.specs.Stands.{LineAt, LinesAt, FormatsAt}
use Rattle.codegen_expr.proofs.Standing.{lines_same, lines_front, lines_back, formats_front, formats_back}
use Rattle.codegen_expr.proofs.Steps.{Laws, frame_of, state_of, pushed, make_same, step_line, silent, acting}
use Rattle.codegen_expr.proofs.Makes.{After, Makes, MakesAll, none_made, more_made}
use Rattle.codegen_expr.proofs.Choices.{tests_zero, tests_other, pushes, jumps}
use Rattle.codegen_expr.proofs.KeptParts.{both_true, three_true, IsKept}
use Rattle.codegen_expr.proofs.Emits.{emits, sized}
use Rattle.codegen_expr.proofs.Taken.{each_sized, each_count}
use Rattle.codegen_stmt.specs.Stretch.{Exits, Stretch, using, bounded, spawning_one, counting, returning}
use Rattle.codegen_stmt.specs.Compiled.{compiled, compiled_all}
use Rattle.codegen_stmt.proofs.KeptSlots.{AreTargets, word_front, set_front, set_length, targets_more, word_kept, bound_kept, keep_word, keep_bound}
use Rattle.codegen_stmt.proofs.Runs.{Activation, seat, state, IsBetween, Follows, follows_less, follows_at, jump_follows, test_follows, sync_follows, head_follows, make_less}
use Rattle.codegen_stmt.proofs.Lengths.{long, map_length}
use Rattle.codegen_stmt.proofs.KeptStatements.{IsKeptStatement, AreKeptStatements, part_kept, row_kept, first_kept, rest_kept, first_word, other_words, keeps_words}

module _ {code : Code} (a : Activation code) (laws : Laws code) (functions : List Function) (call : Calling) (top fuel : ℕ) (room : top < fuel)
    (callees : (g n : ℕ) → takes functions g n ≡ true → params_of code g ≡ Some n)
    (calls : (m : ℕ) → m ≤ top → (s : Slots) (ts : Targets) (place : ℕ) (stack : List ℤ) (at : Pos) (g : ℕ) (xs : List ℤ) (k : ℤ → Acts) → takes functions g (length xs) ≡ true →
    LineAt a.f place (line at (by.Call g)) → After (seat a laws s ts) laws m k (suc place) stack → (A : Answers) → length A ≤ m →
    laws.from (state_of (seat a laws s ts) place (pushed xs stack)) A ≡ call at g xs k A)
    (spawns : Bool) (done : ℤ → Acts)
    (ends : (v : ℤ) (s : State) → step code s ≡ returned v a.frames → (B : Answers) → length B ≤ top → laws.from s B ≡ done v B) where
  abbrev depth : ℕ
  depth = suc (length a.frames)

  abbrev flow_of : Stmt → Flow → Flow → Flow → Flow
  flow_of = runs call depth spawns fuel done

  -- ---- expressions, in an activation between two statements

  value_made : (e : Expr) → IsKept functions a.slots e → (m : ℕ) → m ≤ top → (s x : Slots) (ts : Targets) → IsBetween a laws s x ts →
      Makes (seat a laws (s ++ x) ts) laws m (emitted e) (value call e s)
  value_made e kept m le s x ts w =
      emits (seat a laws (s ++ x) ts) laws m functions a.slots s (λ i lt. let n = w.slots in word_front s x i (omega arith)) call (calls m le (s ++ x) ts) e kept

  values_made : (es : List Expr) → list_all (keeps_expression functions a.slots) es ≡ true → (m : ℕ) → m ≤ top → (s x : Slots) (ts : Targets) → IsBetween a laws s x ts →
      MakesAll (seat a laws (s ++ x) ts) laws m (emitted_each es) (values_of call es s)
  values_made [] kept m le s x ts w = none_made (seat a laws (s ++ x) ts) laws m
  values_made (e ∷ es) kept m le s x ts w =
      more_made (seat a laws (s ++ x) ts) laws m (emitted e) (emitted_each es) (value call e s) (values_of call es s) (sized e)
      (value_made e (first_word functions a.slots 0 e es kept) m le s x ts w) (values_made es (other_words functions a.slots 0 e es kept) m le s x ts w)

  -- Words, and then lines that use them up.
  used : (es : List Expr) → list_all (keeps_expression functions a.slots) es ≡ true → (own : List Line) (m : ℕ) → m ≤ top → (exits : Exits) (place first : ℕ) →
      LinesAt a.f place ((using (emitted_each es) own).lines exits place first) → FormatsAt code.formats first (using (emitted_each es) own).formats →
      (s x : Slots) (ts : Targets) → IsBetween a laws s x ts → (k : List ℤ → Acts) →
      (LinesAt a.f (place + (in_order (emitted_each es)).size) own → (xs : List ℤ) → length xs ≡ length es → (B : Answers) → length B ≤ m →
      laws.from (state a laws (place + (in_order (emitted_each es)).size) (s ++ x) (pushed xs []) ts) B ≡ k xs B) →
      (A : Answers) → length A ≤ m → laws.from (state a laws place (s ++ x) [] ts) A ≡ values_of call es s k A
  used es kept own m le exits place first has formats s x ts w k after A le_a =
      let words = in_order (emitted_each es) in
      let front = words.lines place first in
      values_made es kept m le s x ts w place first [] k (lines_front a.f place front own has) formats
      (λ xs count B le_b. after (lines_back a.f place words.size front own (each_sized es place first) has) xs (count ∙ each_count es) B le_b) A le_a

  -- ---- the end of an activation

  pub return_follows : (m : ℕ) → m ≤ top → (place : ℕ) (b : Bool) → LinesAt a.f place (returning b) → (s x : Slots) (ts : Targets) → IsBetween a laws s x ts → (v : ℤ) (B : Answers) → length B ≤ m →
      laws.from (state a laws place (s ++ x) (v ∷ []) ts) B ≡ returns depth b done v s ts B
  return_follows m le place true has s x ts w v B le_b =
      acting (seat a laws (s ++ x) ts) laws (placeless by.Sync) place (v ∷ []) [] 0 has.0 refl refl (act.Sync depth) (λ rs. state a laws (suc place) (joined (s ++ x) ts rs) (v ∷ []) []) refl B
      ∙ make_same m (act.Sync depth) (λ rs. laws.from (state a laws (suc place) (joined (s ++ x) ts rs) (v ∷ []) [])) (λ rs. done v)
      (λ rs C le_c. ends v (state a laws (suc place) (joined (s ++ x) ts rs) (v ∷ []) [])
      (step_line (seat a laws (joined (s ++ x) ts rs) []) (placeless by.Return) (suc place) [] (v ∷ []) 1 has.1.0 refl refl) C (omega arith)) B le_b
  return_follows m le place false has s x ts w v B le_b =
      ends v (state a laws place (s ++ x) (v ∷ []) ts) (step_line (seat a laws (s ++ x) ts) (placeless by.Return) place [] (v ∷ []) 1 has.0 refl refl) B (omega arith)

  -- ---- statements

  abbrev Does : Stretch → (Flow → Flow → Flow → Flow) → Type 0
  Does stretch flow = (m : ℕ) → m ≤ top → (exits : Exits) (place first : ℕ) (next broken continued : Flow) → LinesAt a.f place (stretch.lines exits place first) →
      FormatsAt code.formats first stretch.formats → Follows a laws m (place + stretch.size) next → Follows a laws m exits.broken broken →
      Follows a laws m exits.continued continued → Follows a laws m place (flow next broken continued)

  abbrev Runs : Stmt → Type 0
  Runs b = Does (compiled spawns a.slots b) (flow_of b)

  -- Words, a line that leaves no word, and on with the next statement.
  eval_does : (e : Expr) → list_all (keeps_expression functions a.slots) (e ∷ []) ≡ true → Runs (Eval e)
  eval_does e kept m le exits place first next broken continued has formats hn hb hc s x ts w A le_a =
      let q = place + (in_order (emitted e ∷ [])).size in
      used (e ∷ []) kept (placeless by.Pop ∷ []) m le exits place first has formats s x ts w (λ xs. next s ts)
      (λ here xs count B le_b. silent (seat a laws (s ++ x) ts) laws (placeless by.Pop) q [] xs 1 here.0 refl count (state a laws (suc q) (s ++ x) [] ts) refl B
      ∙ follows_at a laws m (suc q) (place + ((in_order (emitted e ∷ [])).size + 1)) next (omega arith) hn s x ts w B le_b) A le_a

  set_does : (slot : ℕ) (e : Expr) → slot < a.slots → list_all (keeps_expression functions a.slots) (e ∷ []) ≡ true → Runs (Set slot e)
  set_does slot e lt kept m le exits place first next broken continued has formats hn hb hc s x ts w A le_a =
      let q = place + (in_order (emitted e ∷ [])).size in
      used (e ∷ []) kept (placeless (by.Set slot) ∷ []) m le exits place first has formats s x ts w (λ xs. next (slice_set s slot (word_at xs 0)) ts)
      (λ here xs count B le_b.
      let n = w.slots in
      silent (seat a laws (s ++ x) ts) laws (placeless (by.Set slot)) q [] xs 1 here.0 refl count (state a laws (suc q) (slice_set (s ++ x) slot (word_at xs 0)) [] ts) refl B
      ∙ ap (λ l. laws.from (state a laws (suc q) l [] ts) B) (set_front s x slot (word_at xs 0) (omega arith))
      ∙ follows_at a laws m (suc q) (place + ((in_order (emitted e ∷ [])).size + 1)) next (omega arith) hn (slice_set s slot (word_at xs 0)) x ts
      (record { slots = set_length s slot (word_at xs 0) ∙ w.slots; kept = w.kept; targets = w.targets }) B le_b) A le_a

  store_does : (at : Pos) (l e : Expr) → list_all (keeps_expression functions a.slots) (l ∷ e ∷ []) ≡ true → Runs (Store at l e)
  store_does at l e kept m le exits place first next broken continued has formats hn hb hc s x ts w A le_a =
      let size = (in_order (emitted l ∷ emitted e ∷ [])).size in
      let q = place + size in
      let put = λ (xs : List ℤ). act.Issue at atomic.Store (word_at xs 0) (word_at xs 1) in
      used (l ∷ e ∷ []) kept (line at (by.Post atomic.Store) ∷ []) m le exits place first has formats s x ts w (λ xs. make (put xs) (λ r. next s ts))
      (λ here xs count B le_b. acting (seat a laws (s ++ x) ts) laws (line at (by.Post atomic.Store)) q [] xs 2 here.0 refl count (put xs) (λ r. state a laws (suc q) (s ++ x) [] ts) refl B
      ∙ make_same m (put xs) (λ r. laws.from (state a laws (suc q) (s ++ x) [] ts)) (λ r. next s ts)
      (λ r C le_c. follows_at a laws m (suc q) (place + (size + 1)) next (omega arith) hn s x ts w C le_c) B le_b) A le_a

  return_does : (e : Expr) → list_all (keeps_expression functions a.slots) (e ∷ []) ≡ true → Runs (Return e)
  return_does e kept m le exits place first next broken continued has formats hn hb hc s x ts w A le_a =
      let q = place + (in_order (emitted e ∷ [])).size in
      used (e ∷ []) kept (returning spawns) m le exits place first has formats s x ts w (λ xs. returns depth spawns done (word_at xs 0) s ts)
      (λ here xs count B le_b. one_word xs count q here s x ts w m le B le_b) A le_a
    where
      one_word : (xs : List ℤ) → length xs ≡ 1 → (q : ℕ) → LinesAt a.f q (returning spawns) → (s x : Slots) (ts : Targets) → IsBetween a laws s x ts → (m : ℕ) → m ≤ top → (B : Answers) → length B ≤ m →
          laws.from (state a laws q (s ++ x) (pushed xs []) ts) B ≡ returns depth spawns done (word_at xs 0) s ts B
      one_word [] count q here s x ts w m le B le_b = absurd (omega arith)
      one_word (v ∷ []) count q here s x ts w m le B le_b = return_follows m le q spawns here s x ts w v B le_b
      one_word (v ∷ u ∷ xs) count q here s x ts w m le B le_b = absurd (omega arith)

  add_does : (at : Pos) (l e : Expr) → list_all (keeps_expression functions a.slots) (l ∷ e ∷ []) ≡ true → Runs (AddTo at l e)
  add_does at l e kept m le exits place first next broken continued has formats hn hb hc s x ts w A le_a =
      let pl = emitted l in
      let pe = emitted e in
      let se = seat a laws (s ++ x) ts in
      let front = pl.lines place first in
      let q = place + pl.size in
      let middle = pe.lines (suc (suc q)) (first + length pl.formats) in
      let last : List Line = placeless (by.Bin op.Add) ∷ line at (by.Post atomic.Store) ∷ [] in
      let back : List Line = placeless by.Dup ∷ line at by.Load ∷ (middle ++ last) in
      let rest = lines_back a.f place pl.size front back (sized l place first) has in
      let q2 = suc (suc q) + pe.size in
      let ending = lines_back a.f (suc (suc q)) pe.size middle last (sized e (suc (suc q)) (first + length pl.formats)) rest.1.1 in
      let same : suc (suc q2) ≡ place + (pl.size + suc (suc (pe.size + 2))) = omega arith in
      let kl = first_word functions a.slots 0 l (e ∷ []) kept in
      let ke = first_word functions a.slots 0 e [] (other_words functions a.slots 0 l (e ∷ []) kept) in
      let put = λ (v : ℤ) (u : ℤ). act.Issue at atomic.Store v u in
      value_made l kl m le s x ts w place first [] (λ v. make (act.Load at v) (λ old. value call e s (λ u. make (put v (int_wrapping_add w64 (word_of old) u)) (λ r. next s ts))))
      (lines_front a.f place front back has) (formats_front code.formats first pl.formats pe.formats formats)
      (λ v B le_b.
      silent se laws (placeless by.Dup) q [] (v ∷ []) 1 rest.0 refl refl (state a laws (suc q) (s ++ x) (v ∷ v ∷ []) ts) refl B
      ∙ acting se laws (line at by.Load) (suc q) (v ∷ []) (v ∷ []) 1 rest.1.0 refl refl (act.Load at v) (λ old. state a laws (suc (suc q)) (s ++ x) (word_of old ∷ v ∷ []) ts) refl B
      ∙ make_same m (act.Load at v) (λ old. laws.from (state a laws (suc (suc q)) (s ++ x) (word_of old ∷ v ∷ []) ts)) (λ old. value call e s (λ u. make (put v (int_wrapping_add w64 (word_of old) u)) (λ r. next s ts)))
      (λ old C le_c. value_made e ke m le s x ts w (suc (suc q)) (first + length pl.formats) (word_of old ∷ v ∷ []) (λ u. make (put v (int_wrapping_add w64 (word_of old) u)) (λ r. next s ts))
      (lines_front a.f (suc (suc q)) middle last rest.1.1) (formats_back code.formats first pl.formats pe.formats formats)
      (λ u D le_d.
      let sum = int_wrapping_add w64 (word_of old) u in
      silent se laws (placeless (by.Bin op.Add)) q2 (v ∷ []) (word_of old ∷ u ∷ []) 2 ending.0 refl refl (state a laws (suc q2) (s ++ x) (sum ∷ v ∷ []) ts) refl D
      ∙ acting se laws (line at (by.Post atomic.Store)) (suc q2) [] (v ∷ sum ∷ []) 2 ending.1.0 refl refl (put v sum) (λ r. state a laws (suc (suc q2)) (s ++ x) [] ts) refl D
      ∙ make_same m (put v sum) (λ r. laws.from (state a laws (suc (suc q2)) (s ++ x) [] ts)) (λ r. next s ts)
      (λ r E le_e. follows_at a laws m (suc (suc q2)) (place + (pl.size + suc (suc (pe.size + 2)))) next same hn s x ts w E le_e) D le_d) C le_c) B le_b) A le_a

  -- A spawn: its words, a child, and a target more.
  spawn_does : (at : Pos) (target : Option ℕ) (g : ℕ) (hint : Option Expr) (args : List Expr) → is_target a.slots target ≡ true → takes functions g (length args) ≡ true →
      list_all (keeps_expression functions a.slots) (expressions_of (Spawn at target g hint args)) ≡ true → Runs (Spawn at target g hint args)
  spawn_does at target g None args fits there kept m le exits place first next broken continued has formats hn hb hc s x ts w A le_a =
      let size = (in_order (emitted_each args)).size in
      let q = place + size in
      let l = line at (by.Spawn g target false) in
      let go = λ (xs : List ℤ). act.Spawn depth g xs None in
      used args kept (l ∷ []) m le exits place first has formats s x ts w (λ xs. make (go xs) (λ r. next s (ts ++ target ∷ [])))
      (λ here xs count B le_b. acting (seat a laws (s ++ x) ts) laws l q [] xs (length args) here.0 (ap (option_map (hint_operands false)) (callees g (length args) there)) count (go xs)
      (λ r. state a laws (suc q) (s ++ x) [] (ts ++ target ∷ [])) refl B
      ∙ make_same m (go xs) (λ r. laws.from (state a laws (suc q) (s ++ x) [] (ts ++ target ∷ []))) (λ r. next s (ts ++ target ∷ []))
      (λ r C le_c. follows_at a laws m (suc q) (place + (size + 1)) next (omega arith) hn s x (ts ++ target ∷ [])
      (record { slots = w.slots; kept = w.kept; targets = targets_more a.slots ts target w.targets fits }) C le_c) B le_b) A le_a
  spawn_does at target g (Some hint) args fits there kept m le exits place first next broken continued has formats hn hb hc s x ts w A le_a =
      let size = (in_order (emitted_each (hint ∷ args))).size in
      let q = place + size in
      let l = line at (by.Spawn g target true) in
      let go = λ (xs : List ℤ). act.Spawn depth g (drop 1 xs) (Some (record { pos = at; address = word_at xs 0 })) in
      used (hint ∷ args) kept (l ∷ []) m le exits place first has formats s x ts w (λ xs. make (go xs) (λ r. next s (ts ++ target ∷ [])))
      (λ here xs count B le_b. acting (seat a laws (s ++ x) ts) laws l q [] xs (suc (length args)) here.0 (ap (option_map (hint_operands true)) (callees g (length args) there)) count (go xs)
      (λ r. state a laws (suc q) (s ++ x) [] (ts ++ target ∷ [])) refl B
      ∙ make_same m (go xs) (λ r. laws.from (state a laws (suc q) (s ++ x) [] (ts ++ target ∷ []))) (λ r. next s (ts ++ target ∷ []))
      (λ r C le_c. follows_at a laws m (suc q) (place + (size + 1)) next (omega arith) hn s x (ts ++ target ∷ [])
      (record { slots = w.slots; kept = w.kept; targets = targets_more a.slots ts target w.targets fits }) C le_c) B le_b) A le_a

  if_does : (test : Expr) (b c : Stmt) → IsKept functions a.slots test → Runs b → Runs c → Runs (If test b c)
  if_does test b c kept does_b does_c m le exits place first next broken continued has formats hn hb hc s x ts w A le_a =
      let t = emitted test in
      let yes_ = compiled spawns a.slots b in
      let no_ = compiled spawns a.slots c in
      let q = place + t.size in
      let start = suc q in
      let second = suc (start + yes_.size) in
      let out = second + no_.size in
      let n = first + length t.formats in
      let n2 = n + length yes_.formats in
      let front = t.lines place first in
      let ys = yes_.lines exits start n in
      let zs = no_.lines exits second n2 in
      let r2 : List Line = placeless (by.Jump out) ∷ zs in
      let r1 : List Line = placeless (by.JumpZero second) ∷ (ys ++ r2) in
      let rest = lines_back a.f place t.size front r1 (sized test place first) has in
      let right = lines_back a.f start yes_.size ys r2 (long spawns a.slots b exits start n) rest.1 in
      let others = formats_back code.formats first t.formats (yes_.formats ++ no_.formats) formats in
      let e : out ≡ place + (t.size + suc (yes_.size + suc no_.size)) = omega arith in
      let hn' = follows_at a laws m out (place + (t.size + suc (yes_.size + suc no_.size))) next e hn in
      let b_at : Follows a laws m start (flow_of b next broken continued) =
      does_b m le exits start n next broken continued (lines_front a.f start ys r2 rest.1) (formats_front code.formats n yes_.formats no_.formats others)
      (jump_follows a laws m (start + yes_.size) out next right.0 hn') hb hc in
      let c_at : Follows a laws m second (flow_of c next broken continued) =
      does_c m le exits second n2 next broken continued right.1 (formats_back code.formats n yes_.formats no_.formats others) hn' hb hc in
      value_made test kept m le s x ts w place first [] (λ v. if is_true v then flow_of b next broken continued s ts else flow_of c next broken continued s ts)
      (lines_front a.f place front r1 has) (formats_front code.formats first t.formats (yes_.formats ++ no_.formats) formats)
      (λ v B le_b. test_follows a laws m q second (flow_of c next broken continued) (flow_of b next broken continued) rest.0 c_at b_at s x ts w v (same_word v (pos 0)) refl B le_b) A le_a

  loop_does : (test : Expr) (step_ b : Stmt) → IsKept functions a.slots test → Runs step_ → Runs b → Runs (Loop test step_ b)
  loop_does test step_ b kept does_s does_b m le exits place first next broken continued has formats hn hb hc =
      let t = emitted test in
      let body = compiled spawns a.slots b in
      let again_ = compiled spawns a.slots step_ in
      let q = suc place + t.size in
      let start = suc (suc (place + t.size)) in
      let onto = start + body.size in
      let back = onto + again_.size in
      let out = suc back in
      let n = first + length t.formats in
      let n2 = n + length body.formats in
      let own : Exits = record { broken = out; continued = onto } in
      let front = t.lines (suc place) first in
      let ys = body.lines own start n in
      let zs = again_.lines exits onto n2 in
      let last : List Line = placeless (by.Jump place) ∷ [] in
      let r1 : List Line = placeless (by.JumpZero out) ∷ (ys ++ (zs ++ last)) in
      let rest = lines_back a.f (suc place) t.size front r1 (sized test (suc place) first) has.1 in
      let here : LinesAt a.f start (ys ++ (zs ++ last)) = lines_same a.f (suc q) start (ys ++ (zs ++ last)) (omega arith) rest.1 in
      let stepping = lines_back a.f start body.size ys (zs ++ last) (long spawns a.slots b own start n) here in
      let jump = lines_back a.f onto again_.size zs last (long spawns a.slots step_ exits onto n2) stepping in
      let others = formats_back code.formats first t.formats (body.formats ++ again_.formats) formats in
      let e : out ≡ place + suc (t.size + suc (body.size + (again_.size + 1))) = omega arith in
      let hn' = follows_at a laws m out (place + suc (t.size + suc (body.size + (again_.size + 1)))) next e hn in
      head_follows a laws (value call test) (λ again. flow_of b again next again) (λ again. flow_of step_ again broken continued) next place m has.0
      (λ m' le' again ag s x ts w B le_b.
      let stepped : Follows a laws m' onto (flow_of step_ again broken continued) =
      does_s m' (omega arith) exits onto n2 again broken continued (lines_front a.f onto zs last stepping) (formats_back code.formats n body.formats again_.formats others)
      (jump_follows a laws m' back place again jump.0 ag) (follows_less a laws m m' exits.broken broken le' hb) (follows_less a laws m m' exits.continued continued le' hc) in
      let hn2 = follows_less a laws m m' out next le' hn' in
      let bodied : Follows a laws m' start (flow_of b (flow_of step_ again broken continued) next (flow_of step_ again broken continued)) =
      does_b m' (omega arith) own start n (flow_of step_ again broken continued) next (flow_of step_ again broken continued) (lines_front a.f start ys (zs ++ last) here)
      (formats_front code.formats n body.formats again_.formats others) stepped hn2 stepped in
      let bodied' = follows_at a laws m' (suc q) start (flow_of b (flow_of step_ again broken continued) next (flow_of step_ again broken continued)) (omega arith) bodied in
      value_made test kept m' (omega arith) s x ts w (suc place) first [] (λ v. if is_true v then flow_of b (flow_of step_ again broken continued) next (flow_of step_ again broken continued) s ts else next s ts)
      (lines_front a.f (suc place) front r1 has.1) (formats_front code.formats first t.formats (body.formats ++ again_.formats) formats)
      (λ v C le_c. test_follows a laws m' q out next (flow_of b (flow_of step_ again broken continued) next (flow_of step_ again broken continued)) rest.0 hn2 bodied' s x ts w v (same_word v (pos 0)) refl C le_c) B le_b)
      fuel m (omega arith) (omega arith)

  -- ---- a `cilk_for`

  gets : (place slot : ℕ) (slots : Slots) (stack : List ℤ) (ts : Targets) → LineAt a.f place (placeless (by.Get slot)) → (A : Answers) →
      laws.from (state a laws place slots stack ts) A ≡ laws.from (state a laws (suc place) slots (word_at slots slot ∷ stack) ts) A
  gets place slot slots stack ts has A =
      silent (seat a laws slots ts) laws (placeless (by.Get slot)) place stack [] 0 has refl refl (state a laws (suc place) slots (word_at slots slot ∷ stack) ts) refl A

  sets : (place slot : ℕ) (slots : Slots) (v : ℤ) (ts : Targets) → LineAt a.f place (placeless (by.Set slot)) → (A : Answers) →
      laws.from (state a laws place slots (v ∷ []) ts) A ≡ laws.from (state a laws (suc place) (slice_set slots slot v) [] ts) A
  sets place slot slots v ts has A =
      silent (seat a laws slots ts) laws (placeless (by.Set slot)) place [] (v ∷ []) 1 has refl refl (state a laws (suc place) (slice_set slots slot v) [] ts) refl A

  computes : (o : BinaryOp) (place : ℕ) (slots : Slots) (v u r : ℤ) (ts : Targets) → binary_of o v u ≡ Some r → LineAt a.f place (placeless (by.Bin o)) → (A : Answers) →
      laws.from (state a laws place slots (u ∷ v ∷ []) ts) A ≡ laws.from (state a laws (suc place) slots (r ∷ []) ts) A
  computes o place slots v u r ts is has A =
      let se = seat a laws slots ts in
      silent se laws (placeless (by.Bin o)) place [] (v ∷ u ∷ []) 2 has refl refl (state a laws (suc place) slots (r ∷ []) ts)
      (ap (λ w. machine.divided (record { line = 0; column = 0 }) w (λ word. goes (onward (push word (frame_of se place [])) ∷ a.frames))) is) A

  -- The copies, on the stack in their order.
  copies_pushed : (copies : List ℕ) → list_all (λ slot. nat_lt slot a.slots) copies ≡ true → (place : ℕ) (s x : Slots) (stack : List ℤ) (ts : Targets) → length s ≡ a.slots →
      LinesAt a.f place (map (λ slot. placeless (by.Get slot)) copies) → (A : Answers) →
      laws.from (state a laws place (s ++ x) stack ts) A ≡ laws.from (state a laws (place + length copies) (s ++ x) (pushed (map (word_at s) copies) stack) ts) A
  copies_pushed [] inside place s x stack ts e has A = ap (λ q. laws.from (state a laws q (s ++ x) stack ts) A) (omega arith)
  copies_pushed (slot ∷ copies) inside place s x stack ts e has A =
      let both = both_true (nat_lt slot a.slots) (list_all (λ slot. nat_lt slot a.slots) copies) inside in
      let lt = ltb-true slot a.slots both.0 in
      gets place slot (s ++ x) stack ts has.0 A
      ∙ ap (λ w. laws.from (state a laws (suc place) (s ++ x) (w ∷ stack) ts) A) (word_front s x slot (omega arith))
      ∙ copies_pushed copies both.1 (suc place) s x (word_at s slot ∷ stack) ts e has.1 A
      ∙ ap (λ q. laws.from (state a laws q (s ++ x) (pushed (map (word_at s) copies) (word_at s slot ∷ stack)) ts) A) (omega arith)

  -- From the loop's Turn on.
  module _ (at : Pos) (g : ℕ) (copies : List ℕ) (inside : list_all (λ slot. nat_lt slot a.slots) copies ≡ true) (there : takes functions g (suc (length copies)) ≡ true) (kept : a.kept ≡ 2)
      (head : ℕ) (has : LinesAt a.f head (placeless by.Turn ∷ (bounded a.slots (head + (length copies + 12)) ++ (spawning_one at a.slots g copies ++ (counting a.slots head ++ placeless by.Sync ∷ [])))))
      (next : Flow) (top' : ℕ) (low : top' ≤ top) (hn : Follows a laws top' (suc (head + (length copies + 12))) next) where
    abbrev out : ℕ
    out = head + (length copies + 12)

    abbrev words : Slots → ℤ → ℤ → Slots
    words s v bound = s ++ v ∷ bound ∷ []

    after_test : LinesAt a.f (suc (suc (suc (suc (suc head))))) (spawning_one at a.slots g copies ++ (counting a.slots head ++ placeless by.Sync ∷ []))
    after_test = has.1.1.1.1.1

    abbrev tail : List Line
    tail = counting a.slots head ++ placeless by.Sync ∷ []

    abbrev copying : List Line
    copying = map (λ slot. placeless (by.Get slot)) copies

    abbrev spawn_line : Line
    spawn_line = line at (by.Spawn g None false)

    abbrev first_copy : ℕ
    first_copy = suc (suc (suc (suc (suc (suc head)))))

    abbrev spawn_place : ℕ
    spawn_place = first_copy + length copies

    copies_at : LinesAt a.f first_copy (copying ++ spawn_line ∷ [])
    copies_at = lines_front a.f first_copy (copying ++ spawn_line ∷ []) tail after_test.1

    spawn_at : LinesAt a.f spawn_place (spawn_line ∷ [])
    spawn_at = lines_back a.f first_copy (length copies) copying (spawn_line ∷ []) (map_length (λ slot. placeless (by.Get slot)) copies) copies_at

    tail_at : LinesAt a.f (suc spawn_place) tail
    tail_at =
        let n : length (copying ++ spawn_line ∷ []) ≡ suc (length copies) =
        omega (arith, length-append copying (spawn_line ∷ []), map_length (λ slot. placeless (by.Get slot)) copies) in
        lines_same a.f (first_copy + suc (length copies)) (suc spawn_place) tail (omega arith)
        (lines_back a.f first_copy (suc (length copies)) (copying ++ spawn_line ∷ []) tail n after_test.1)

    sync_at : LineAt a.f out (placeless by.Sync)
    sync_at =
        let e : suc spawn_place + 5 ≡ out = omega arith in
        (lines_same a.f (suc spawn_place + 5) out (placeless by.Sync ∷ []) e (lines_back a.f (suc spawn_place) 5 (counting a.slots head) (placeless by.Sync ∷ []) refl tail_at)).0

    abbrev spawned_each : ℕ → Slots → ℤ → ℤ → Targets → Acts
    spawned_each fuel' s v bound ts = spawns_each depth g (map (word_at s) copies) bound (syncs depth next s) fuel' v ts

    -- One child, or the end.
    one_round : (fuel' m : ℕ) → m ≤ top' → (s : Slots) (v bound : ℤ) (ts : Targets) → length s ≡ a.slots → AreTargets a.slots ts →
        ((ts' : Targets) → AreTargets a.slots ts' → (D : Answers) → suc (length D) ≤ m →
        laws.from (state a laws head (words s (int_wrapping_add w64 v (pos 1)) bound) [] ts') D ≡ spawned_each fuel' s (int_wrapping_add w64 v (pos 1)) bound ts' D) →
        (b : Bool) (C : Answers) → length C ≤ m →
        laws.from (state a laws (suc (suc (suc (suc head)))) (words s v bound) (truth_of b ∷ []) ts) C
        ≡ (if b then make (act.Spawn depth g (v ∷ map (word_at s) copies) None) (λ _. spawned_each fuel' s (int_wrapping_add w64 v (pos 1)) bound (ts ++ None ∷ [])) else syncs depth next s ts) C
    one_round fuel' m le s v bound ts e h again false C le_c =
        tests_zero (seat a laws (words s v bound) ts) laws (record { line = 0; column = 0 }) out (suc (suc (suc (suc head)))) [] (pos 0) has.1.1.1.1.0 refl C
        ∙ sync_follows a laws m out next sync_at (follows_less a laws top' m (suc out) next le hn) s (v ∷ bound ∷ []) ts (record { slots = e; kept = sym kept; targets = h }) C le_c
    one_round fuel' m le s v bound ts e h again true C le_c =
        let more = int_wrapping_add w64 v (pos 1) in
        let args = map (word_at s) copies in
        let go = act.Spawn depth g (v ∷ args) None in
        let ts' = ts ++ None ∷ [] in
        let q = suc spawn_place in
        tests_other (seat a laws (words s v bound) ts) laws (record { line = 0; column = 0 }) out (suc (suc (suc (suc head)))) [] (pos 1) has.1.1.1.1.0 refl C
        ∙ gets (suc (suc (suc (suc (suc head))))) a.slots (words s v bound) [] ts after_test.0 C
        ∙ ap (λ w. laws.from (state a laws first_copy (words s v bound) (w ∷ []) ts) C) (word_kept s v bound a.slots e)
        ∙ copies_pushed copies inside first_copy s (v ∷ bound ∷ []) (v ∷ []) ts e (lines_front a.f first_copy copying (spawn_line ∷ []) copies_at) C
        ∙ acting (seat a laws (words s v bound) ts) laws spawn_line spawn_place [] (v ∷ args) (suc (length copies)) spawn_at.0
        (ap (option_map (hint_operands false)) (callees g (suc (length copies)) there)) (ap suc (map_length (word_at s) copies)) go
        (λ r. state a laws q (words s v bound) [] ts') refl C
        ∙ make_less go (λ r. laws.from (state a laws q (words s v bound) [] ts')) (λ _. spawned_each fuel' s more bound ts') C
        (λ r D lt.
        gets q a.slots (words s v bound) [] ts' tail_at.0 D
        ∙ ap (λ w. laws.from (state a laws (suc q) (words s v bound) (w ∷ []) ts') D) (word_kept s v bound a.slots e)
        ∙ pushes (seat a laws (words s v bound) ts') laws (record { line = 0; column = 0 }) (pos 1) (suc q) (v ∷ []) tail_at.1.0 D
        ∙ computes op.Add (suc (suc q)) (words s v bound) v (pos 1) more ts' refl tail_at.1.1.0 D
        ∙ sets (suc (suc (suc q))) a.slots (words s v bound) more ts' tail_at.1.1.1.0 D
        ∙ ap (λ l. laws.from (state a laws (suc (suc (suc (suc q)))) l [] ts') D) (keep_word s v bound more a.slots e)
        ∙ jumps (seat a laws (words s more bound) ts') laws (record { line = 0; column = 0 }) head (suc (suc (suc (suc q)))) [] tail_at.1.1.1.1.0 D
        ∙ again ts' (targets_more a.slots ts None h refl) D (omega arith))

    spawning_follows : (fuel' m : ℕ) → m ≤ top' → m < fuel' → (s : Slots) (v bound : ℤ) (ts : Targets) → length s ≡ a.slots → AreTargets a.slots ts → (B : Answers) → length B ≤ m →
        laws.from (state a laws head (words s v bound) [] ts) B ≡ spawned_each fuel' s v bound ts B
    spawning_follows zero m le lt s v bound ts e h B le_b = absurd (omega arith)
    spawning_follows (suc fuel') m le lt s v bound ts e h B le_b =
        acting (seat a laws (words s v bound) ts) laws (placeless by.Turn) head [] [] 0 has.0 refl refl act.Turn (λ r. state a laws (suc head) (words s v bound) [] ts) refl B
        ∙ make_less act.Turn (λ r. laws.from (state a laws (suc head) (words s v bound) [] ts))
        (λ r. if int_lt v bound
        then make (act.Spawn depth g (v ∷ map (word_at s) copies) None) (λ _. spawned_each fuel' s (int_wrapping_add w64 v (pos 1)) bound (ts ++ None ∷ []))
        else syncs depth next s ts) B
        (λ r C lt_c.
        gets (suc head) a.slots (words s v bound) [] ts has.1.0 C
        ∙ ap (λ w. laws.from (state a laws (suc (suc head)) (words s v bound) (w ∷ []) ts) C) (word_kept s v bound a.slots e)
        ∙ gets (suc (suc head)) (suc a.slots) (words s v bound) (v ∷ []) ts has.1.1.0 C
        ∙ ap (λ w. laws.from (state a laws (suc (suc (suc head))) (words s v bound) (w ∷ v ∷ []) ts) C) (bound_kept s v bound a.slots e)
        ∙ computes op.Lt (suc (suc (suc head))) (words s v bound) v bound (truth_of (int_lt v bound)) ts refl has.1.1.1.0 C
        ∙ one_round fuel' (length C) (omega arith) s v bound ts e h
        (λ ts' h' D le_d. spawning_follows fuel' (length D) (omega arith) (omega arith) s (int_wrapping_add w64 v (pos 1)) bound ts' e h' D (omega arith))
        (int_lt v bound) C (omega arith))

  -- Both bounds, and then the rounds.
  each_bounds : (at : Pos) (low high : Expr) (g : ℕ) (copies : List ℕ) → list_all (λ slot. nat_lt slot a.slots) copies ≡ true → takes functions g (suc (length copies)) ≡ true → a.kept ≡ 2 →
      list_all (keeps_expression functions a.slots) (low ∷ high ∷ []) ≡ true → (m : ℕ) → m ≤ top → (exits : Exits) (place first : ℕ) (next : Flow) →
      LinesAt a.f place ((compiled spawns a.slots (Each at low high g copies)).lines exits place first) → FormatsAt code.formats first (compiled spawns a.slots (Each at low high g copies)).formats →
      Follows a laws m (place + (compiled spawns a.slots (Each at low high g copies)).size) next → (s : Slots) (v w : ℤ) (ts : Targets) → length s ≡ a.slots → AreTargets a.slots ts →
      (A : Answers) → length A ≤ m → laws.from (state a laws place (s ++ v ∷ w ∷ []) [] ts) A
      ≡ value call low s (λ i. value call high s (λ bound. spawns_each depth g (map (word_at s) copies) bound (syncs depth next s) fuel i ts)) A
  each_bounds at low high g copies inside there kept words m le exits place first next has formats hn s v w ts e h A le_a =
      let pl = emitted low in
      let ph = emitted high in
      let q = place + pl.size in
      let r = suc q + ph.size in
      let head = suc (suc (place + pl.size + ph.size)) in
      let out = head + (length copies + 12) in
      let loop : List Line = placeless by.Turn ∷ (bounded a.slots out ++ (spawning_one at a.slots g copies ++ (counting a.slots head ++ placeless by.Sync ∷ []))) in
      let front = pl.lines place first in
      let middle = ph.lines (suc q) (first + length pl.formats) in
      let back : List Line = placeless (by.Set a.slots) ∷ (middle ++ (placeless (by.Set (suc a.slots)) ∷ loop)) in
      let rest = lines_back a.f place pl.size front back (sized low place first) has in
      let ending = lines_back a.f (suc q) ph.size middle (placeless (by.Set (suc a.slots)) ∷ loop) (sized high (suc q) (first + length pl.formats)) rest.1 in
      let at_head : LinesAt a.f head loop = lines_same a.f (suc r) head loop (omega arith) ending.1 in
      let same : suc out ≡ place + (pl.size + suc (ph.size + suc (length copies + 13))) = omega arith in
      let hn' = follows_at a laws m (suc out) (place + (pl.size + suc (ph.size + suc (length copies + 13)))) next same hn in
      let kl = first_word functions a.slots 0 low (high ∷ []) words in
      let kh = first_word functions a.slots 0 high [] (other_words functions a.slots 0 low (high ∷ []) words) in
      let between = λ (v w : ℤ). let b : IsBetween a laws s (v ∷ w ∷ []) ts = record { slots = e; kept = sym kept; targets = h } in b in
      value_made low kl m le s (v ∷ w ∷ []) ts (between v w) place first []
      (λ i. value call high s (λ bound. spawns_each depth g (map (word_at s) copies) bound (syncs depth next s) fuel i ts))
      (lines_front a.f place front back has) (formats_front code.formats first pl.formats ph.formats formats)
      (λ i B le_b.
      sets q a.slots (s ++ v ∷ w ∷ []) i ts rest.0 B
      ∙ ap (λ l. laws.from (state a laws (suc q) l [] ts) B) (keep_word s v w i a.slots e)
      ∙ value_made high kh m le s (i ∷ w ∷ []) ts (between i w) (suc q) (first + length pl.formats) []
      (λ bound. spawns_each depth g (map (word_at s) copies) bound (syncs depth next s) fuel i ts)
      (lines_front a.f (suc q) middle (placeless (by.Set (suc a.slots)) ∷ loop) rest.1) (formats_back code.formats first pl.formats ph.formats formats)
      (λ bound C le_c.
      sets r (suc a.slots) (s ++ i ∷ w ∷ []) bound ts ending.0 C
      ∙ ap (λ l. laws.from (state a laws (suc r) l [] ts) C) (keep_bound s i w bound a.slots e)
      ∙ ap (λ k. laws.from (state a laws k (s ++ i ∷ bound ∷ []) [] ts) C) (omega arith)
      ∙ spawning_follows at g copies inside there kept head at_head next m le hn' fuel m (omega arith) (omega arith) s i bound ts e h C le_c) B le_b) A le_a

  each_does : (at : Pos) (low high : Expr) (g : ℕ) (copies : List ℕ) → list_all (λ slot. nat_lt slot a.slots) copies ≡ true → takes functions g (suc (length copies)) ≡ true → a.kept ≡ 2 →
      list_all (keeps_expression functions a.slots) (low ∷ high ∷ []) ≡ true → Runs (Each at low high g copies)
  each_does at low high g copies inside there kept words m le exits place first next broken continued has formats hn hb hc s [] ts w A le_a = absurd (let n = w.kept in omega arith)
  each_does at low high g copies inside there kept words m le exits place first next broken continued has formats hn hb hc s (v ∷ []) ts w A le_a = absurd (let n = w.kept in omega arith)
  each_does at low high g copies inside there kept words m le exits place first next broken continued has formats hn hb hc s (v ∷ u ∷ []) ts w A le_a =
      each_bounds at low high g copies inside there kept words m le exits place first next has formats hn s v u ts w.slots w.targets A le_a
  each_does at low high g copies inside there kept words m le exits place first next broken continued has formats hn hb hc s (v ∷ u ∷ t ∷ x) ts w A le_a = absurd (let n = w.kept in omega arith)

  -- ---- all of them

  mutual
    pub statement_runs : (b : Stmt) → IsKeptStatement functions a.slots a.kept b → Runs b
    statement_runs Nothing kept = λ m le exits place first next broken continued has formats hn hb hc. follows_at a laws m place (place + 0) next (omega arith) hn
    statement_runs (Block' n body) kept = all_run body (row_kept functions a.slots a.kept (Block' n body) body (λ has h. (both_true (has (Block' n body)) (each_of has body) h).1) kept)
    statement_runs (Eval e) kept = eval_does e kept.words
    statement_runs (Set slot e) kept = set_does slot e (ltb-true slot a.slots kept.writes) kept.words
    statement_runs (Store at l e) kept = store_does at l e kept.words
    statement_runs (AddTo at l e) kept = add_does at l e kept.words
    statement_runs (Spawn at target g hint args) kept = spawn_does at target g hint args kept.writes kept.spawns kept.words
    statement_runs (If test b c) kept =
        let own = (three_true (keeps_words functions a.slots (If test b c)) (each (keeps_words functions a.slots) b) (each (keeps_words functions a.slots) c) kept.words).0 in
        if_does test b c (first_word functions a.slots 0 test [] own)
        (statement_runs b (part_kept functions a.slots a.kept (If test b c) b (λ has h. (three_true (has (If test b c)) (each has b) (each has c) h).1) kept))
        (statement_runs c (part_kept functions a.slots a.kept (If test b c) c (λ has h. (three_true (has (If test b c)) (each has b) (each has c) h).2) kept))
    statement_runs (Loop test step_ b) kept =
        let own = (three_true (keeps_words functions a.slots (Loop test step_ b)) (each (keeps_words functions a.slots) step_) (each (keeps_words functions a.slots) b) kept.words).0 in
        loop_does test step_ b (first_word functions a.slots 0 test [] own)
        (statement_runs step_ (part_kept functions a.slots a.kept (Loop test step_ b) step_ (λ has h. (three_true (has (Loop test step_ b)) (each has step_) (each has b) h).1) kept))
        (statement_runs b (part_kept functions a.slots a.kept (Loop test step_ b) b (λ has h. (three_true (has (Loop test step_ b)) (each has step_) (each has b) h).2) kept))
    statement_runs (Each at low high g copies) kept =
        each_does at low high g copies kept.writes kept.spawns (⊎_elim (λ no_. absurd (let wrong : false ≡ true = no_ in cc)) (λ two. two) kept.room) kept.words
    statement_runs Break kept = λ m le exits place first next broken continued has formats hn hb hc. jump_follows a laws m place exits.broken broken has.0 hb
    statement_runs Continue kept = λ m le exits place first next broken continued has formats hn hb hc. jump_follows a laws m place exits.continued continued has.0 hc
    statement_runs (Return e) kept = return_does e kept.words
    statement_runs Sync kept = λ m le exits place first next broken continued has formats hn hb hc.
        sync_follows a laws m place next has.0 (follows_at a laws m (suc place) (place + 1) next (omega arith) hn)

    pub all_run : {n : _} (row : Stmts n) → AreKeptStatements functions a.slots a.kept row → Does (compiled_all spawns a.slots row) (runs_all call depth spawns fuel done row)
    all_run no_stmts kept m le exits place first next broken continued has formats hn hb hc = follows_at a laws m place (place + 0) next (omega arith) hn
    all_run (more_stmts b rest) kept m le exits place first next broken continued has formats hn hb hc =
        let one = compiled spawns a.slots b in
        let others = compiled_all spawns a.slots rest in
        let front = one.lines exits place first in
        let back = others.lines exits (place + one.size) (first + length one.formats) in
        statement_runs b (first_kept functions a.slots a.kept b rest kept) m le exits place first (runs_all call depth spawns fuel done rest next broken continued) broken continued
        (lines_front a.f place front back has) (formats_front code.formats first one.formats others.formats formats)
        (all_run rest (rest_kept functions a.slots a.kept b rest kept) m le exits (place + one.size) (first + length one.formats) next broken continued
        (lines_back a.f place one.size front back (long spawns a.slots b exits place first) has) (formats_back code.formats first one.formats others.formats formats)
        (follows_at a laws m (place + one.size + others.size) (place + (one.size + others.size)) next (omega arith) hn) hb hc) hb hc
