-- The code of a program makes the actions of the program.
use Rattle.std.proofs.Common.{◌≡◌, ℕ, zero, suc, ◌+◌, ◌<◌, ◌≤◌, List, [], ◌∷◌, ◌++◌, length, Option, Some, None, refl, sym, ap, ◌∙◌, arith, append_assoc, length-append, ℤ, pos, Bool, true, false}
use Rattle.std.specs.Prelude.{slice_get, if◌then◌else◌, ◌==◌, replicate, ◌-◌, option_map}
use Rattle.std.proofs.lemmas.Bool.{eqb-true}
use Rattle.word_ops.specs.declared.place.Pos.{Pos}
use Rattle.word_ops.specs.declared.ending.TrapKind.TheVariants as trap
use Rattle.world_model.specs.Action as act
use Rattle.world_model.specs.Action.{Action, Answers}
use Rattle.world_model.specs.Meaning.{Acts, make}
use Rattle.world_model.specs.Activation.{Slots, Targets, max_depth, first_slots}
use Rattle.cilk_ast.specs.declared.program.Function.{Function}
use Rattle.cilk_ast.specs.Kept.{takes}
use Rattle.cilk_model.specs.Statement.{Flow, returns}
use Rattle.cilk_model.specs.Acts as source
use Rattle.cilk_model.specs.Acts.{run, calls, body_of}
use Rattle.threadlet_code.specs.declared.instr.Instr.TheVariants as by
use Rattle.threadlet_code.specs.declared.code.FuncCode.{FuncCode}
use Rattle.threadlet_code.specs.declared.code.Code.{Code}
use Rattle.threadlet_code.specs.Operands.{params_of}
use Rattle.threadlet_code.specs.Machine.{State, goes, stops, returned, called, step}
use Rattle.codegen_expr.specs.Piece.{Line, line, placeless, zero_line}
use Rattle.codegen_expr.specs.Stands.{LineAt, LinesAt, FormatsAt}
use Rattle.codegen_expr.proofs.Standing.{lines_front, lines_back}
use Rattle.codegen_expr.proofs.Steps.{Laws, Seat, frame_of, state_of, pushed, step_line, acting}
use Rattle.codegen_expr.proofs.Makes.{After}
use Rattle.codegen_expr.proofs.Choices.{pushes}
use Rattle.codegen_stmt.specs.Stretch.{Exits, returning}
use Rattle.codegen_stmt.specs.Whole.{kept_words, body_code, function_lines}
use Rattle.codegen_stmt.proofs.Runs.{Activation, seat, state, Follows, make_less}
use Rattle.codegen_stmt.proofs.Lengths.{long}
use Rattle.codegen_stmt.proofs.KeptStatements.{IsKeptStatement}
use Rattle.codegen_stmt.proofs.Statements.{statement_runs, return_follows}

-- The code of one function, and what a program keeps of it.
pub record IsCodeOf (code : Code) (functions : List Function) (f : Function) (h : FuncCode) : Type 0 where
  pub first : ℕ
  pub params : h.params ≡ f.params
  pub slots : h.slots ≡ f.slots + kept_words f.body
  pub lines : LinesAt h 0 (function_lines f first)
  pub formats : FormatsAt code.formats first (body_code f).formats
  pub fits : f.params ≤ f.slots
  pub kept : IsKeptStatement functions f.slots (kept_words f.body) f.body

-- Each function of a program has its code.
pub record IsWhole (code : Code) (functions : List Function) : Type 0 where
  pub code_at : ℕ → FuncCode
  pub known : (g : ℕ) (f : Function) → slice_get functions g ≡ Some f → slice_get code.functions g ≡ Some (code_at g)
  pub each : (g : ℕ) (f : Function) → slice_get functions g ≡ Some f → IsCodeOf code functions f (code_at g)

pub takes_params : (functions : List Function) (g n : ℕ) → takes functions g n ≡ true → (f : Function) × (slice_get functions g ≡ Some f) × (f.params ≡ n)
takes_params functions g n h = by_case (slice_get functions g) refl
  where
    by_case : (o : Option Function) → slice_get functions g ≡ o → (f : Function) × (slice_get functions g ≡ Some f) × (f.params ≡ n)
    by_case None e = absurd (let wrong : false ≡ true = rw e at h in cc)
    by_case (Some f) e = let k : (f.params == n) ≡ true = rw e at h in (f, e, eqb-true f.params n k)

replicate_more : (m n : ℕ) → replicate (m + n) (pos 0) ≡ replicate m (pos 0) ++ replicate n (pos 0)
replicate_more zero n = ap (λ k. replicate k (pos 0)) (omega arith)
replicate_more (suc m) n = let e : suc m + n ≡ suc (m + n) = omega arith in ap (λ k. replicate k (pos 0)) e ∙ ap (λ l. pos 0 ∷ l) (replicate_more m n)

replicate_length : (n : ℕ) → length (replicate n (pos 0)) ≡ n
replicate_length zero = refl
replicate_length (suc n) = ap suc (replicate_length n)

first_more : (n k : ℕ) (args : List ℤ) → length args ≤ n → first_slots (n + k) args ≡ first_slots n args ++ replicate k (pos 0)
first_more n k args le =
    let e : n + k - length args ≡ n - length args + k = omega arith in
    ap (λ m. args ++ replicate m (pos 0)) e ∙ ap (λ l. args ++ l) (replicate_more (n - length args) k) ∙ sym (append_assoc args (replicate (n - length args) (pos 0)) (replicate k (pos 0)))

first_length : (n : ℕ) (args : List ℤ) → length args ≤ n → length (first_slots n args) ≡ n
first_length n args le = omega (arith, length-append args (replicate (n - length args) (pos 0)), replicate_length (n - length args))

-- A function that is called has its parameters.
pub callees : (code : Code) (functions : List Function) → IsWhole code functions → (g n : ℕ) → takes functions g n ≡ true → params_of code g ≡ Some n
callees code functions whole g n h =
    let t = takes_params functions g n h in
    ap (option_map (λ (f : FuncCode). f.params)) (whole.known g t.0 t.1) ∙ ap Some ((whole.each g t.0 t.1).params ∙ t.2)

module _ (code : Code) (functions : List Function) (whole : IsWhole code functions) (laws : Laws code) where
  -- A frame of a function, whose slots are those of its start.
  abbrev begun : ℕ → ℕ → List ℤ → State → State
  begun g place args frames = record { function = g; at = place; slots = first_slots (whole.code_at g).slots args; stack = []; targets = [] } ∷ frames

  -- What is done once a function has returned.
  abbrev Returns : ℕ → State → (ℤ → Acts) → Type 0
  Returns m frames k = (v : ℤ) (s : State) → step code s ≡ returned v frames → (B : Answers) → length B ≤ m → laws.from s B ≡ k v B

  -- Functions run with less fuel than this.
  abbrev RunsWithin : ℕ → Type 0
  RunsWithin j = (m : ℕ) → m < j → (g : ℕ) (f : Function) → slice_get functions g ≡ Some f → (args : List ℤ) → length args ≡ f.params → (frames : State) (k : ℤ → Acts) → Returns m frames k →
      (B : Answers) → length B ≤ m → laws.from (begun g 1 args frames) B ≡ run functions j (suc (length frames)) g args k B

  -- A function makes its Turn, and runs.
  enters_ok : (j : ℕ) → RunsWithin j → (g : ℕ) (f : Function) → slice_get functions g ≡ Some f → (args : List ℤ) → length args ≡ f.params → (m : ℕ) → m ≤ j → (frames : State) (k : ℤ → Acts) → Returns m frames k →
      (A : Answers) → length A ≤ m → laws.from (begun g 0 args frames) A ≡ make act.Turn (λ _. run functions j (suc (length frames)) g args k) A
  enters_ok j ok g f is args count m le frames k ends A le_a =
      let h = whole.code_at g in
      let own : Seat code = record { function = g; f = h; known = whole.known g f is; slots = first_slots h.slots args; targets = []; frames = frames } in
      acting own laws (placeless by.Turn) 0 [] [] 0 (whole.each g f is).lines.0 refl refl act.Turn (λ r. begun g 1 args frames) refl A
      ∙ make_less act.Turn (λ r. laws.from (begun g 1 args frames)) (λ _. run functions j (suc (length frames)) g args k) A
      (λ r B lt. ok (length B) (omega arith) g f is args count frames k (λ v s e C le_c. ends v s e C (omega arith)) B (omega arith))

  -- A call.
  call_ok : (j : ℕ) → RunsWithin j → (own : Seat code) (m : ℕ) → m ≤ j → (place : ℕ) (stack : List ℤ) (at : Pos) (g : ℕ) (xs : List ℤ) (k : ℤ → Acts) → takes functions g (length xs) ≡ true →
      LineAt own.f place (line at (by.Call g)) → After own laws m k (suc place) stack → (A : Answers) → length A ≤ m →
      laws.from (state_of own place (pushed xs stack)) A ≡ calls (run functions j) (suc (length own.frames)) at g xs k A
  call_ok j ok own m le place stack at g xs k there has after A le_a =
      let t = takes_params functions g (length xs) there in
      let h = whole.code_at g in
      let inner = state_of own (suc place) stack in
      let d = suc (length own.frames) in
      let here : step code (state_of own place (pushed xs stack)) ≡ (if d == max_depth then stops (act.Trap at trap.Depth) else goes (begun g 0 xs inner)) =
      step_line own (line at (by.Call g)) place stack xs (length xs) has (callees code functions whole g (length xs) there) refl
      ∙ ap (λ o. called at g o xs (frame_of own place stack) own.frames) (whole.known g t.0 t.1) in
      by_depth t.0 t.1 (sym t.2) (d == max_depth) here
    where
      by_depth : (f : Function) → slice_get functions g ≡ Some f → length xs ≡ f.params → (b : Bool) →
          step code (state_of own place (pushed xs stack)) ≡ (if b then stops (act.Trap at trap.Depth) else goes (begun g 0 xs (state_of own (suc place) stack))) →
          laws.from (state_of own place (pushed xs stack)) A ≡ (if b then (λ (B : Answers). act.Trap at trap.Depth ∷ []) else make act.Turn (λ _. run functions j (suc (suc (length own.frames))) g xs k)) A
      by_depth f is count true e = laws.stops_on (state_of own place (pushed xs stack)) (act.Trap at trap.Depth) A e
      by_depth f is count false e =
          laws.goes_on (state_of own place (pushed xs stack)) (begun g 0 xs (state_of own (suc place) stack)) A e
          ∙ enters_ok j ok g f is xs count m le (state_of own (suc place) stack) k
          (λ v s e' B le_b. laws.goes_on s (state_of own (suc place) (v ∷ stack)) B e' ∙ after v B le_b) A le_a

  run_ok : (j : ℕ) → RunsWithin j
  run_ok zero m lt g f is args count frames k ends B le = absurd (omega arith)
  run_ok (suc j) m lt g f is args count frames k ends B le =
      let h = whole.code_at g in
      let fit = whole.each g f is in
      let kept = kept_words f.body in
      let a : Activation code = record { function = g; f = h; known = whole.known g f is; frames = frames; slots = f.slots; kept = kept } in
      let d = suc (length frames) in
      let call = calls (run functions j) d in
      let out = suc (body_code f).size in
      let exits : Exits = record { broken = out; continued = out } in
      let body = (body_code f).lines exits 1 fit.first in
      let last : List Line = zero_line ∷ returning f.spawns in
      let over : Flow = returns d f.spawns k (pos 0) in
      let rest = lines_back h 1 (body_code f).size body last (long f.spawns f.slots f.body exits 1 fit.first) fit.lines.1 in
      let made = λ (m' : ℕ) (le' : m' ≤ m) (s : Slots) (ts : Targets). call_ok j (run_ok j) (seat a laws s ts) m' (omega arith) in
      let at_end : Follows a laws m (1 + (body_code f).size) over =
      λ s x ts w C le_c. pushes (seat a laws (s ++ x) ts) laws (record { line = 0; column = 0 }) (pos 0) (1 + (body_code f).size) [] rest.0 C
      ∙ return_follows a laws functions call m (suc j) (omega arith) (callees code functions whole) made f.spawns k ends m (omega arith) (suc (1 + (body_code f).size)) f.spawns rest.1 s x ts w (pos 0) C le_c in
      let e : out ≡ 1 + (body_code f).size = omega arith in
      let at_out : Follows a laws m out over = λ s x ts w C le_c. ap (λ q. laws.from (state a laws q (s ++ x) [] ts) C) e ∙ at_end s x ts w C le_c in
      let few : length args ≤ f.slots = let p = fit.fits in omega arith in
      let same : first_slots h.slots args ≡ first_slots f.slots args ++ replicate kept (pos 0) = ap (λ n. first_slots n args) fit.slots ∙ first_more f.slots kept args few in
      ap (λ l. laws.from (state a laws 1 l [] []) B) same
      ∙ statement_runs a laws functions call m (suc j) (omega arith) (callees code functions whole) made f.spawns k ends f.body fit.kept m (omega arith) exits 1 fit.first over over over
      (lines_front h 1 body last fit.lines.1) fit.formats at_end at_out at_out (first_slots f.slots args) (replicate kept (pos 0)) []
      (record { slots = first_length f.slots args few; kept = replicate_length kept; targets = tt }) B le
      ∙ sym (ap (λ o. body_of call d (suc j) o args k B) is)

  -- A strand.
  pub strand_ok : (g : ℕ) (f : Function) → slice_get functions g ≡ Some f → (args : List ℤ) → length args ≡ f.params → (A : Answers) →
      laws.from (begun g 0 args []) A ≡ source.acts functions g args A
  strand_ok g f is args count A =
      enters_ok (length A) (run_ok (length A)) g f is args count (length A) (omega arith) [] (λ v B. act.End v ∷ [])
      (λ v s e B le. laws.stops_on s (act.End v) B e) A (omega arith)
