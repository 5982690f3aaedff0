-- Compiled code keeps all rules.
use Rattle.std.proofs.Common.{◌≡◌, ◌⊎◌, inl, inr, ℕ, zero, suc, ◌+◌, ◌<◌, ◌≤◌, List, [], ◌∷◌, ◌++◌, length, Some, None, refl, sym, ap, ◌∙◌, subst, arith, Bool, true, false, map, append_assoc, length-append}
use Rattle.std.specs.Prelude.{slice_get, ◌==◌, not}
use Rattle.std.specs.List.{list_all}
use Rattle.std.proofs.lemmas.Option.{same_Some, slice_get_within}
use Rattle.cilk_ast.specs.declared.program.Function.{Function}
use Rattle.cilk_ast.specs.declared.program.Program.{Program}
use Rattle.cilk_ast.specs.Parts.{each}
use Rattle.cilk_ast.specs.Kept.{takes, keeps_function, is_no_spawn, same_truth, has_spawn}
use Rattle.threadlet_code.specs.declared.instr.Instr.{Instr}
use Rattle.threadlet_code.specs.declared.instr.Instr.TheVariants.{Turn, Return, Sync}
use Rattle.threadlet_code.specs.declared.code.FuncCode.{FuncCode}
use Rattle.threadlet_code.specs.declared.code.Code.{Code}
use Rattle.threadlet_code.specs.Naming.{is_last}
use Rattle.threadlet_code.specs.Rules.{can_start}
use Rattle.threadlet_code.specs.Breaches.{first_breach}
use Rattle.threadlet_code.specs.Sound.{IsWell, AreWell}
use Rattle.threadlet_code.proofs.WellCode.{no_first_breach, well_is_sound}
use Rattle.codegen_expr.specs.Piece.{Line, placeless, zero_line}
use Rattle.codegen_expr.specs.Stands.{LinesAt, FormatsAt}
use Rattle.codegen_expr.proofs.KeptParts.{both_true}
use Rattle.codegen_expr.proofs.Standing.{lines_front, lines_back}
use Rattle.codegen_stmt.specs.Stretch.{Exits, returning}
use Rattle.codegen_stmt.specs.Laws.{CodeOfProgramsKeepsRules}
use Rattle.codegen_stmt.specs.Whole.{kept_words, body_code, function_lines, function_code, formats_code, code_of}
use Rattle.codegen_stmt.proofs.Lengths.{map_length, long}
use Rattle.codegen_stmt.proofs.KeptStatements.{kept_statement}
use Rattle.codegen_stmt.proofs.Implementing.{takes_params, callees}
use Rattle.codegen_stmt.proofs.Placed.{lines_placed}
use Rattle.codegen_stmt.proofs.Wholes.{whole, stands, codes_length, kept_function, FunctionKept, function_kept, kept_room, le_true}
use Rattle.codegen_stmt.proofs.LineRules.{height_in, height_next, Body, KeepsLines, keeps_append, keeps_line, one_passes, entry_at, entry_to}
use Rattle.codegen_stmt.proofs.PieceRules.{zero_passes}
use Rattle.codegen_stmt.proofs.ExpressionRules.{HasCallees}
use Rattle.codegen_stmt.proofs.StretchRules.{IsExit, returning_keeps}
use Rattle.codegen_stmt.proofs.StatementRules.{clears}
use Rattle.codegen_stmt.proofs.BodyRules.{are_heights, slots_there, functions_there, formats_there, targets_there, loops_turn, spawns_told, returns_synced, returns_unjumped}

-- Main is there, and has no parameters.
main_starts : (program : Program) → can_start (slice_get (code_of program).functions (code_of program).main) ≡ true
main_starts program =
    let kept = both_true (takes program.functions program.main 0) (list_all (keeps_function program.functions) program.functions) program.kept in
    let t = takes_params program.functions program.main 0 kept.0 in
    let w = whole program in
    ap can_start (w.known program.main t.0 t.1) ∙ ap (λ n. n == 0) ((w.each program.main t.0 t.1).params ∙ t.2)

-- A function begins with a Turn, has a position for each instruction, and a slot for each parameter.
begins : (f : Function) (first : ℕ) → slice_get (function_code f first).body 0 ≡ Some Turn
begins f first = refl

has_positions : (f : Function) (first : ℕ) → length (function_code f first).places ≡ length (function_code f first).body
has_positions f first =
    map_length (λ (line : Line). line.pos) (function_lines f first) ∙ sym (map_length (λ (line : Line). line.instr) (function_lines f first))

has_params : (all : List Function) (f : Function) (first : ℕ) → FunctionKept all f → (function_code f first).params ≤ (function_code f first).slots
has_params all f first kept = let le = le_true f.params f.slots kept.params in omega arith

-- It ends with a return.
last_at : (f : Line → Instr) (xs : List Line) (y : Line) (place : ℕ) → suc place ≡ length (map f (xs ++ y ∷ [])) → slice_get (map f (xs ++ y ∷ [])) place ≡ Some (f y)
last_at f [] y zero e = refl
last_at f [] y (suc place) e = absurd (omega arith)
last_at f (x ∷ xs) y zero e = absurd (omega (arith, map_length f (xs ++ y ∷ []), length-append xs (y ∷ [])))
last_at f (x ∷ xs) y (suc place) e = last_at f xs y place (omega arith)

instr_of : Line → Instr
instr_of line = line.instr

ends_with : (lines xs : List Line) (b : Bool) → lines ≡ placeless Turn ∷ (xs ++ zero_line ∷ returning b) → (place : ℕ) → suc place ≡ length (map instr_of lines) → slice_get (map instr_of lines) place ≡ Some Return
unfolding instr_of
ends_with lines xs true is place e =
    let front = placeless Turn ∷ (xs ++ zero_line ∷ placeless Sync ∷ []) in
    let shape : lines ≡ front ++ placeless Return ∷ [] = is ∙ ap (λ l. placeless Turn ∷ l) (sym (append_assoc xs (zero_line ∷ placeless Sync ∷ []) (placeless Return ∷ []))) in
    let body = ap (map instr_of) shape in
    ap (λ l. slice_get l place) body ∙ last_at instr_of front (placeless Return) place (e ∙ ap length body)
ends_with lines xs false is place e =
    let front = placeless Turn ∷ (xs ++ zero_line ∷ []) in
    let shape : lines ≡ front ++ placeless Return ∷ [] = is ∙ ap (λ l. placeless Turn ∷ l) (sym (append_assoc xs (zero_line ∷ []) (placeless Return ∷ []))) in
    let body = ap (map instr_of) shape in
    ap (λ l. slice_get l place) body ∙ last_at instr_of front (placeless Return) place (e ∙ ap length body)

ends : (f : Function) (first place : ℕ) → suc place ≡ length (function_code f first).body → slice_get (function_code f first).body place ≡ Some Return
unfolding instr_of
ends f first place e =
    let out = suc (body_code f).size in
    ends_with (function_lines f first) ((body_code f).lines (record { broken = out; continued = out }) 1 first) f.spawns refl place e

-- ---- the lines of a function

told : (f : Function) → same_truth f.spawns (has_spawn f.body) ≡ true → (each is_no_spawn f.body ≡ true) ⊎ (f.spawns ≡ true)
told f h = by_truth f.spawns refl (each is_no_spawn f.body) refl h
  where
    by_truth : (s : Bool) → f.spawns ≡ s → (n : Bool) → each is_no_spawn f.body ≡ n → same_truth s (not n) ≡ true → (each is_no_spawn f.body ≡ true) ⊎ (f.spawns ≡ true)
    by_truth true e n e' h = inr e
    by_truth false e true e' h = inl e'
    by_truth false e false e' h = absurd (let wrong : false ≡ true = h in cc)

module _ (code : Code) (functions : List Function) (callees : HasCallees code functions) (f : Function) (first : ℕ) (formats : FormatsAt code.formats first (body_code f).formats)
    (kept : FunctionKept functions f) where
  abbrev own : FuncCode
  own = function_code f first

  abbrev lines : List Line
  lines = function_lines f first

  body : Body code
  body = record {
    f = own;
    height = λ place. height_in code place own.body 0;
    next = λ place instr is. height_next code place own.body 0 instr is;
  }

  lines_keep : KeepsLines body 0 lines
  unfolding body
  lines_keep =
      let code_body = body_code f in
      let out = suc code_body.size in
      let exits : Exits = record { broken = out; continued = out } in
      let turn = placeless Turn in
      let xs = code_body.lines exits 1 first in
      let last : List Line = zero_line ∷ returning f.spawns in
      let has : LinesAt own 0 lines = lines_placed own [] lines refl refl in
      let rest = lines_back own 1 code_body.size xs last (long f.spawns f.slots f.body exits 1 first) has.1 in
      let ends_at = 1 + code_body.size in
      let same : ends_at ≡ out = omega arith in
      let h0 : body.height 0 ≡ 0 = refl in
      let p0 = one_passes body (Unit {0}) 0 0 0 0 turn has.0 (λ s. refl) refl h0 (omega arith) refl (λ g entry. tt) in
      let p = clears body functions callees f.slots (kept_words f.body) (omega arith) f.spawns refl f.body (kept_statement functions f.slots (kept_words f.body) f.body kept.body (kept_room f.body)) (told f kept.spawns)
      exits 1 first (lines_front own 1 xs last has.1) formats p0.behind (omega arith) in
      let z = zero_passes body ends_at 0 rest.0 p.behind (omega arith) in
      let entry = entry_at body ends_at zero_line rest.0 (λ s. refl) in
      let exit : IsExit body out ends_at = record { after = omega arith; entry = entry_to body ends_at out same entry; height = sym (ap body.height same) ∙ p.behind } in
      let next_entry = z.enters in
      let ending = returning_keeps body f.spawns refl (suc ends_at) rest.1 z.behind (omega arith) in (
        keeps_line body 0 0 0 turn refl h0 (omega arith) tt,
        keeps_append body 1 ends_at xs last (ap (λ n. 1 + n) (long f.spawns f.slots f.body exits 1 first)) (p.keeps (record { broken = exit; continued = exit }) entry)
            (keeps_line body ends_at 0 0 zero_line refl (p.behind ∙ refl) (omega arith) tt, ending),
      )

  function_well : IsWell code own
  unfolding body
  function_well = record {
    keeps = record {
      entry = begins f first;
      positions = has_positions f first;
      params = has_params functions f first kept;
      slots = slots_there body lines refl lines_keep refl;
      functions = functions_there body lines refl lines_keep refl;
      formats = formats_there body lines refl lines_keep refl;
      targets = targets_there body lines refl lines_keep refl;
      loops = loops_turn body lines refl lines_keep refl;
      end = λ place e. ap is_last (ends f first place e);
      spawns = spawns_told body lines refl lines_keep refl;
      synced = returns_synced body lines refl lines_keep refl;
      unjumped = returns_unjumped body lines refl lines_keep refl;
    };
    height = body.height;
    heights = are_heights body lines refl lines_keep refl;
  }

-- ---- a program

has_callees : (program : Program) → HasCallees (code_of program) program.functions
has_callees program = record {
  there = λ g n h. let t = takes_params program.functions g n h in let w = whole program in slice_get_within (code_of program).functions g (w.code_at g) (w.known g t.0 t.1);
  params = callees (code_of program) program.functions (whole program);
}

item : {A : Type 0} (xs : List A) (i : ℕ) → i < length xs → (x : A) × (slice_get xs i ≡ Some x)
item [] i lt = absurd (omega arith)
item (x ∷ xs) zero lt = (x, refl)
item (x ∷ xs) (suc i) lt = item xs i (omega arith)

-- Every program's code keeps all rules.
compiles_well : (program : Program) → AreWell (code_of program)
compiles_well program = record { main = main_starts program; functions = λ g h is. each_well g h is (item program.functions g (omega (arith, slice_get_within (code_of program).functions g h is, codes_length program.functions 0))) }
  where
    each_well : (g : ℕ) (h : FuncCode) → slice_get (code_of program).functions g ≡ Some h → (f : Function) × (slice_get program.functions g ≡ Some f) → IsWell (code_of program) h
    each_well g h is i =
        let f = i.0 in
        let s = stands program.functions [] (formats_code program.functions) refl g f i.1 in
        let all = (both_true (takes program.functions program.main 0) (list_all (keeps_function program.functions) program.functions) program.kept).1 in
        let kept = function_kept program.functions f (kept_function program.functions program.functions all g f i.1) in
        let same : function_code f s.first ≡ h = same_Some (function_code f s.first) h (sym s.here ∙ is) in
        subst (IsWell (code_of program)) same (function_well (code_of program) program.functions (has_callees program) f s.first s.formats kept)

pub keeps_rules : CodeOfProgramsKeepsRules
keeps_rules program = well_is_sound (code_of program) (compiles_well program)

-- So verification finds no rule that is broken.
pub never_bad : (program : Program) → first_breach (code_of program) ≡ None
never_bad program = no_first_breach (code_of program) (compiles_well program)
