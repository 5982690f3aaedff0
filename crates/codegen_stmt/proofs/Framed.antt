-- A draft that has gained a whole function.
use Rattle.std.proofs.Common.{◌≡◌, ℕ, suc, ◌+◌, List, [], ◌∷◌, ◌++◌, length, ap, ◌∙◌, subst, arith, Bool, map}
use Rattle.std.specs.Prelude.{max}
use Rattle.word_ops.specs.declared.place.Pos.{Pos}
use Rattle.cilk_ast.specs.declared.program.Function.{Function}
use Rattle.threadlet_code.specs.declared.instr.Instr.{Instr}
use Rattle.threadlet_code.specs.declared.instr.Instr.TheVariants as by
use Rattle.threadlet_code.specs.declared.code.FuncCode.{FuncCode}
use Rattle.codegen_expr.specs.declared.draft.Draft.{Draft}
use Rattle.codegen_expr.specs.Piece.{Line, placeless, zero_line}
use Rattle.codegen_expr.specs.Gains.{Gains}
use Rattle.codegen_expr.proofs.Gained.{gains_then, body_length, formats_length}
use Rattle.codegen_stmt.specs.Stretch.{Exits, returning}
use Rattle.codegen_stmt.specs.Compiling.{GainsStretch}
use Rattle.codegen_stmt.specs.Whole.{kept_words, body_code, function_lines, function_code}
use Rattle.codegen_stmt.proofs.Joined.{at_stretch}

same_code : (params slots slots' height height' : ℕ) (spawns : Bool) (body body' : List Instr) (places places' : List Pos) → slots ≡ slots' → height ≡ height' → body ≡ body' → places ≡ places' →
    ◌≡◌ {A = FuncCode} (record { params = params; slots = slots; height = height; spawns = spawns; body = body; places = places })
    (record { params = params; slots = slots'; height = height'; spawns = spawns; body = body'; places = places' })
same_code params slots slots' height height' spawns body body' places places' p q r s =
    λ i. record { params = params; slots = p i; height = q i; spawns = spawns; body = r i; places = s i }

pub function_framed : (a b c d e : Draft) (f : Function) (exits : Exits) (slots : ℕ) → a.body ≡ [] → a.places ≡ [] → a.height ≡ 0 → exits.broken ≡ suc (body_code f).size → exits.continued ≡ suc (body_code f).size →
    slots ≡ kept_words f.body → Gains a b (placeless by.Turn ∷ []) [] 0 0 → GainsStretch b c (body_code f) exits → Gains c d (zero_line ∷ []) [] 1 1 → Gains d e (returning f.spawns) [] 0 0 →
    ◌≡◌ {A = FuncCode} (record { params = f.params; slots = f.slots + slots; height = e.height; spawns = f.spawns; body = e.body; places = e.places }) (function_code f (length a.formats))
function_framed a b c d e f exits slots no_body no_places no_height brk con kept p q r s =
    let first = length a.formats in
    let x = body_code f in
    let out = suc x.size in
    let none = ap length no_body in
    let n = body_length a b (placeless by.Turn ∷ []) [] 0 0 p in
    let m = formats_length a b (placeless by.Turn ∷ []) [] 0 0 p in
    let own : Exits = record { broken = out; continued = out } in
    let q0 = subst (λ k. GainsStretch b c x (record { broken = exits.broken; continued = k })) con q in
    let q1 = subst (λ k. GainsStretch b c x (record { broken = k; continued = out })) brk q0 in
    let q' = at_stretch b c x own 1 first (omega arith) (omega arith) q1 in
    let xs = x.lines own 1 first in
    let g1 = gains_then c d e (zero_line ∷ []) (returning f.spawns) [] [] 1 0 1 0 r s in
    let g2 = gains_then b c e xs (zero_line ∷ returning f.spawns) x.formats [] 0 0 x.rise (max 1 0) q' g1 in
    let all = gains_then a b e (placeless by.Turn ∷ []) (xs ++ zero_line ∷ returning f.spawns) [] (x.formats ++ []) 0 0 0 (max x.rise (max 1 0)) p g2 in
    let h = all.height in
    same_code f.params (f.slots + slots) (f.slots + kept_words f.body) e.height (max x.rise 1) f.spawns e.body (map (λ line. line.instr) (function_lines f first)) e.places (map (λ line. line.pos) (function_lines f first))
    (ap (λ k. f.slots + k) kept) (omega arith)
    (all.body ∙ ap (λ l. l ++ map (λ (line : Line). line.instr) (function_lines f first)) no_body)
    (all.places ∙ ap (λ l. l ++ map (λ (line : Line). line.pos) (function_lines f first)) no_places)
