-- The code of a program has the code of each function, and implements the program.
use Rattle.std.proofs.Common.{◌≡◌, ◌⊎◌, inl, inr, ℕ, zero, suc, ◌+◌, ◌≤◌, List, [], ◌∷◌, ◌++◌, length, Some, None, refl, sym, ap, ◌∙◌, subst, arith, append_assoc, length-append, Bool, true, false}
use Rattle.std.specs.Prelude.{slice_get, slice_index_or, if◌then◌else◌, nat_le, ◌&&◌, ◌^◌}
use Rattle.std.specs.List.{list_all}
use Rattle.std.proofs.lemmas.Option.{get_or_from_slice_get}
use Rattle.std.proofs.lemmas.Bool.Decides.{nat_tests}
use Rattle.word_ops.specs.declared.format.Part.{Part}
use Rattle.cilk_ast.specs.declared.program.Function.{Function}
use Rattle.cilk_ast.specs.declared.program.Program.{Program}
use Rattle.cilk_ast.specs.declared.program.Stmt.{Stmt}
use Rattle.cilk_ast.specs.Parts.{each}
use Rattle.cilk_ast.specs.Kept.{takes, keeps_function, keeps_statement, breaks_agree, same_truth, has_spawn}
use Rattle.threadlet_code.specs.declared.code.FuncCode.{FuncCode}
use Rattle.threadlet_code.specs.declared.code.Code.{Code}
use Rattle.threadlet_code.specs.Breaches.{is_sound}
use Rattle.threadlet_code.specs.Running.{from, started}
use Rattle.threadlet_code.proofs.Kept.{has_turns}
use Rattle.codegen_expr.specs.Stands.{FormatsAt}
use Rattle.codegen_expr.specs.Implements.{Implements}
use Rattle.codegen_expr.proofs.ExpressionLaws.{laws_of_turns}
use Rattle.codegen_expr.proofs.Steps.{Laws}
use Rattle.codegen_expr.proofs.KeptParts.{both_true}
use Rattle.codegen_stmt.specs.Whole.{is_no_each, kept_words, body_code, function_lines, function_code, functions_code, formats_code, code_of}
use Rattle.codegen_stmt.proofs.KeptStatements.{kept_statement}
use Rattle.codegen_stmt.proofs.Implementing.{IsCodeOf, IsWhole, strand_ok}
use Rattle.codegen_stmt.proofs.Placed.{lines_placed, formats_placed}

-- The code of one function of a list stands in that of the list.
pub record Stands (all : List (List Part)) (codes : List FuncCode) (g : ℕ) (f : Function) : Type 0 where
  pub first : ℕ
  pub here : slice_get codes g ≡ Some (function_code f first)
  pub formats : FormatsAt all first (body_code f).formats

pub stands : (functions : List Function) (before all : List (List Part)) → all ≡ before ++ formats_code functions → (g : ℕ) (f : Function) → slice_get functions g ≡ Some f →
    Stands all (functions_code functions (length before)) g f
stands [] before all e g f is = absurd (let wrong : None ≡ Some f = is in cc)
stands (h ∷ functions) before all e zero f is = record {
  first = length before;
  here = ap (λ x. Some (function_code x (length before))) same;
  formats = subst (λ x. FormatsAt all (length before) (body_code x).formats) same
      (subst (λ l. FormatsAt l (length before) (body_code h).formats) (sym e) (formats_placed before (body_code h).formats (formats_code functions)));
}
  where
    same : h ≡ f
    same = let some : Some h ≡ Some f = is in cc
stands (h ∷ functions) before all e (suc g) f is =
    let own = (body_code h).formats in
    let next : length (before ++ own) ≡ length before + length own = length-append before own in
    let s = stands functions (before ++ own) all (e ∙ sym (append_assoc before own (formats_code functions))) g f is in
    record { first = s.first; here = subst (λ n. slice_get (functions_code functions n) g ≡ Some (function_code f s.first)) next s.here; formats = s.formats }

-- What is kept of a program is kept of each function.
pub kept_function : (functions all : List Function) → list_all (keeps_function all) functions ≡ true → (g : ℕ) (f : Function) → slice_get functions g ≡ Some f → keeps_function all f ≡ true
kept_function [] all h g f is = absurd (let wrong : None ≡ Some f = is in cc)
kept_function (x ∷ functions) all h zero f is =
    let some : Some x ≡ Some f = is in
    let same : x ≡ f = cc in
    subst (λ y. keeps_function all y ≡ true) same (both_true (keeps_function all x) (list_all (keeps_function all) functions) h).0
kept_function (x ∷ functions) all h (suc g) f is = kept_function functions all (both_true (keeps_function all x) (list_all (keeps_function all) functions) h).1 g f is

pub record FunctionKept (all : List Function) (f : Function) : Type 0 where
  pub params : nat_le f.params f.slots ≡ true
  pub slots : nat_le f.slots (2 ^ 28) ≡ true
  pub body : keeps_statement all f.slots f.body ≡ true
  pub breaks : breaks_agree f.body false ≡ true
  pub spawns : same_truth f.spawns (has_spawn f.body) ≡ true

pub function_kept : (all : List Function) (f : Function) → keeps_function all f ≡ true → FunctionKept all f
function_kept all f h =
    let a = nat_le f.params f.slots in
    let b = nat_le f.slots (2 ^ 28) in
    let c = keeps_statement all f.slots f.body in
    let d = breaks_agree f.body false in
    let e = same_truth f.spawns (has_spawn f.body) in
    let p = both_true (a && b && c && d) e h in
    let q = both_true (a && b && c) d p.0 in
    let r = both_true (a && b) c q.0 in
    let s = both_true a b r.0 in
    record { params = s.0; slots = s.1; body = r.1; breaks = q.1; spawns = p.1 }

pub le_true : (a b : ℕ) → nat_le a b ≡ true → a ≤ b
le_true a b h = grind (arith, nat_tests)

pub kept_room : (b : Stmt) → (each is_no_each b ≡ true) ⊎ (kept_words b ≡ 2)
kept_room b = by_case (each is_no_each b) refl
  where
    by_case : (t : Bool) → each is_no_each b ≡ t → (each is_no_each b ≡ true) ⊎ (kept_words b ≡ 2)
    by_case true e = inl e
    by_case false e = inr (ap (λ t. if t then 0 else 2) e)

pub whole : (program : Program) → IsWhole (code_of program) program.functions
whole program = record {
  code_at = λ g. slice_index_or (code_of program).functions g nothing;
  known = λ g f is. (at g f is).here ∙ ap Some (sym (get_or_from_slice_get (code_of program).functions g (function_code f (at g f is).first) nothing (at g f is).here));
  each = λ g f is. subst (IsCodeOf (code_of program) program.functions f) (sym (get_or_from_slice_get (code_of program).functions g (function_code f (at g f is).first) nothing (at g f is).here)) (own g f is);
}
  where
    nothing : FuncCode
    nothing = record { params = 0; slots = 0; height = 0; spawns = false; body = []; places = [] }

    at : (g : ℕ) (f : Function) → slice_get program.functions g ≡ Some f → Stands (code_of program).formats (code_of program).functions g f
    at g f is = stands program.functions [] (formats_code program.functions) refl g f is

    own : (g : ℕ) (f : Function) (is : slice_get program.functions g ≡ Some f) → IsCodeOf (code_of program) program.functions f (function_code f (at g f is).first)
    own g f is =
        let h = function_code f (at g f is).first in
        let all = (both_true (takes program.functions program.main 0) (list_all (keeps_function program.functions) program.functions) program.kept).1 in
        let k = function_kept program.functions f (kept_function program.functions program.functions all g f is) in
        record {
          first = (at g f is).first;
          params = refl;
          slots = refl;
          lines = lines_placed h [] (function_lines f (at g f is).first) refl refl;
          formats = (at g f is).formats;
          fits = le_true f.params f.slots k.params;
          kept = kept_statement program.functions f.slots (kept_words f.body) f.body k.body (kept_room f.body);
        }

-- ---- the theorem

laws_of : (code : Code) → is_sound code ≡ true → Laws code
laws_of code sound = laws_of_turns code (has_turns code sound)

pub codes_length : (functions : List Function) (first : ℕ) → length (functions_code functions first) ≡ length functions
codes_length [] first = refl
codes_length (f ∷ functions) first = ap suc (codes_length functions (first + length (body_code f).formats))

pub implements : (program : Program) → is_sound (code_of program) ≡ true → Implements (code_of program) program
unfolding laws_of whole
implements program sound =
    let code = code_of program in
    let w = whole program in
    record {
      globals = refl;
      replicated = refl;
      main = refl;
      functions = codes_length program.functions 0;
      params = λ g f h is there. let e : Some (w.code_at g) ≡ Some h = sym (w.known g f is) ∙ there in let same : w.code_at g ≡ h = cc in sym (ap (λ (x : FuncCode). x.params) same) ∙ (w.each g f is).params;
      acts = λ g f is args count answers.
          ap (λ o. from code (started g o args) answers) (w.known g f is)
          ∙ strand_ok code program.functions w (laws_of code sound) g f is args count answers;
    }
