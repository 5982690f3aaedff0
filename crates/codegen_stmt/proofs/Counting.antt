-- The functions of a program, one more at a time.
use Rattle.std.proofs.Common.{◌≡◌, ℕ, zero, suc, ◌+◌, ◌*◌, ◌^◌, ◌≤◌, ◌<◌, List, [], ◌∷◌, ◌++◌, length, Some, None, refl, sym, ap, ◌∙◌, subst, arith, append_assoc, length-append, take, Bool, true, false, map}
use Rattle.std.specs.Prelude.{slice_get}
use Rattle.std.specs.List.{list_all}
use Rattle.std.proofs.lemmas.List.{take_more}
use Rattle.std.proofs.lemmas.Option.{get_or_from_slice_get}
use Rattle.cilk_ast.specs.declared.program.Function.{Function}
use Rattle.cilk_ast.specs.declared.program.Program.{Program}
use Rattle.cilk_ast.specs.Nodes.{statement_nodes, node_count}
use Rattle.cilk_ast.specs.Kept.{takes, keeps_function}
use Rattle.word_ops.specs.declared.format.Part.{Part}
use Rattle.threadlet_code.specs.declared.code.FuncCode.{FuncCode}
use Rattle.threadlet_code.specs.declared.code.Code.{Code}
use Rattle.threadlet_code.specs.Verdict.{IsShort}
use Rattle.threadlet_code.specs.Breaches.{is_sound}
use Rattle.codegen_expr.specs.Piece.{Line, zero_line}
use Rattle.codegen_expr.specs.Implements.{Implements}
use Rattle.codegen_expr.proofs.KeptParts.{both_true}
use Rattle.codegen_stmt.specs.declared.around.Around.{Around}
use Rattle.codegen_stmt.specs.Stretch.{Exits, returning}
use Rattle.codegen_stmt.specs.Whole.{body_code, function_lines, function_code, functions_code, formats_code, code_of}
use Rattle.codegen_stmt.proofs.Lengths.{long, map_length}
use Rattle.codegen_stmt.proofs.Small.{small, fold_from, nodes_above}
use Rattle.codegen_stmt.proofs.Wholes.{kept_function, function_kept, le_true, codes_length, implements}

abbrev pub nodes_in : List Function → ℕ
nodes_in [] = 0
nodes_in (f ∷ functions) = statement_nodes f.body + nodes_in functions

pub node_sum : (functions : List Function) → node_count functions ≡ nodes_in functions
node_sum [] = refl
node_sum (f ∷ functions) = omega (arith, fold_from (0 + statement_nodes f.body) (map (λ f. statement_nodes f.body) functions), node_sum functions)

body_small : (f : Function) → (length (body_code f).formats ≤ statement_nodes f.body) × ((body_code f).size ≤ 8 * statement_nodes f.body)
body_small f =
    let around : Around = record { spawns = f.spawns; kept = f.slots; broken = 0; continued = 0 } in
    let s = small around f.body in (s.formats, s.size)

pub formats_small : (functions : List Function) → length (formats_code functions) ≤ nodes_in functions
formats_small [] = omega arith
formats_small (f ∷ functions) = omega (arith, length-append (body_code f).formats (formats_code functions), (body_small f).0, formats_small functions)

nodes_append : (xs ys : List Function) → nodes_in (xs ++ ys) ≡ nodes_in xs + nodes_in ys
nodes_append [] ys = omega arith
nodes_append (x ∷ xs) ys = omega (arith, nodes_append xs ys)

nodes_taken : (i : ℕ) (functions : List Function) → nodes_in (take i functions) ≤ nodes_in functions
nodes_taken zero functions = omega arith
nodes_taken (suc i) [] = omega arith
nodes_taken (suc i) (f ∷ functions) = omega (arith, nodes_taken i functions)

next_function : (functions : List Function) (i : ℕ) (f : Function) → i < length functions → slice_get functions i ≡ Some f → take (i + 1) functions ≡ take i functions ++ f ∷ []
next_function functions i f lt is = take_more functions i f lt ∙ ap (λ x. take i functions ++ x ∷ []) (get_or_from_slice_get functions i f f is)

formats_append : (xs : List Function) (f : Function) → formats_code (xs ++ f ∷ []) ≡ formats_code xs ++ (body_code f).formats
formats_append [] f = append_nil (body_code f).formats
  where
    append_nil : (l : List (List Part)) → l ++ [] ≡ l
    append_nil [] = refl
    append_nil (x ∷ l) = ap (λ m. x ∷ m) (append_nil l)
formats_append (x ∷ xs) f = ap (λ l. (body_code x).formats ++ l) (formats_append xs f) ∙ sym (append_assoc (body_code x).formats (formats_code xs) (body_code f).formats)

codes_append : (xs : List Function) (f : Function) (first : ℕ) → functions_code (xs ++ f ∷ []) first ≡ functions_code xs first ++ function_code f (first + length (formats_code xs)) ∷ []
codes_append [] f first = let e : first ≡ first + 0 = omega arith in ap (λ n. function_code f n ∷ []) e
codes_append (x ∷ xs) f first =
    let own = (body_code x).formats in
    let e : first + length own + length (formats_code xs) ≡ first + length (own ++ formats_code xs) = omega (arith, length-append own (formats_code xs)) in
    ap (λ l. function_code x first ∷ l) (codes_append xs f (first + length own) ∙ ap (λ n. functions_code xs (first + length own) ++ function_code f n ∷ []) e)

pub next_codes : (functions : List Function) (i : ℕ) (f : Function) → i < length functions → slice_get functions i ≡ Some f →
    functions_code (take (i + 1) functions) 0 ≡ functions_code (take i functions) 0 ++ function_code f (length (formats_code (take i functions))) ∷ []
next_codes functions i f lt is = ap (λ l. functions_code l 0) (next_function functions i f lt is) ∙ codes_append (take i functions) f 0
    ∙ ap (λ n. functions_code (take i functions) 0 ++ function_code f n ∷ []) (omega arith)

pub next_formats : (functions : List Function) (i : ℕ) (f : Function) → i < length functions → slice_get functions i ≡ Some f →
    formats_code (take (i + 1) functions) ≡ formats_code (take i functions) ++ (body_code f).formats
next_formats functions i f lt is = ap formats_code (next_function functions i f lt is) ∙ formats_append (take i functions) f

pub next_room : (functions : List Function) (i : ℕ) (f : Function) → i < length functions → slice_get functions i ≡ Some f →
    length (formats_code (take i functions)) + statement_nodes f.body ≤ node_count functions
next_room functions i f lt is =
    let e = ap nodes_in (next_function functions i f lt is) in
    omega (arith, formats_small (take i functions), nodes_append (take i functions) (f ∷ []), nodes_taken (i + 1) functions, node_sum functions)

pub slots_bound : (program : Program) (i : ℕ) (f : Function) → slice_get program.functions i ≡ Some f → f.slots ≤ 2 ^ 28
slots_bound program i f is =
    let all = (both_true (takes program.functions program.main 0) (list_all (keeps_function program.functions) program.functions) program.kept).1 in
    le_true f.slots (2 ^ 28) (function_kept program.functions f (kept_function program.functions program.functions all i f is)).slots

-- ---- sizes

count_small : (functions : List Function) → length functions ≤ nodes_in functions
count_small [] = omega arith
count_small (f ∷ functions) = omega (arith, nodes_above f.body, count_small functions)

pub count_within : (functions : List Function) → length functions ≤ node_count functions
count_within functions = omega (arith, count_small functions, node_sum functions)

returning_short : (b : Bool) → length (returning b) ≤ 2
returning_short true = omega arith
returning_short false = omega arith

lines_short : (f : Function) (first : ℕ) → length (function_lines f first) ≤ 8 * statement_nodes f.body + 4
lines_short f first =
    let out = suc (body_code f).size in
    let exits : Exits = record { broken = out; continued = out } in
    let xs = (body_code f).lines exits 1 first in
    omega (arith, long f.spawns f.slots f.body exits 1 first, length-append xs (zero_line ∷ returning f.spawns), returning_short f.spawns, (body_small f).1)

bodies_short : (functions : List Function) (first g : ℕ) (h : FuncCode) → slice_get (functions_code functions first) g ≡ Some h → length h.body ≤ 8 * nodes_in functions + 4
bodies_short [] first g h is = absurd (let wrong : None ≡ Some h = is in cc)
bodies_short (f ∷ functions) first zero h is =
    let some : Some (function_code f first) ≡ Some h = is in
    let same : function_code f first ≡ h = cc in
    omega (arith, sym (ap (λ (x : FuncCode). length x.body) same), map_length (λ (line : Line). line.instr) (function_lines f first), lines_short f first)
bodies_short (f ∷ functions) first (suc g) h is = omega (arith, bodies_short functions (first + length (body_code f).formats) g h is)

pub short : (program : Program) → node_count program.functions ≤ 2 ^ 28 → IsShort (code_of program)
short program le = record {
  functions = omega (arith, codes_length program.functions 0, count_within program.functions);
  formats = omega (arith, formats_small program.functions, node_sum program.functions);
  bodies = λ g h is. omega (arith, bodies_short program.functions 0 g h is, node_sum program.functions);
}

pub implements_at : (program : Program) (code : Code) → code ≡ code_of program → is_sound code ≡ true → Implements code program
implements_at program code is sound =
    subst (λ c. Implements c program) (sym is) (implements program (ap is_sound (sym is) ∙ sound))
