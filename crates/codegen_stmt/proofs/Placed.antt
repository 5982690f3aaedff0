-- Where the parts of a list stand in the whole.
use Rattle.std.proofs.Common.{◌≡◌, suc, List, [], ◌∷◌, ◌++◌, length, Some, refl, sym, ap, ◌∙◌, subst, arith, append_assoc, length-append, map}
use Rattle.std.specs.Prelude.{slice_get}
use Rattle.std.proofs.lemmas.Option.{get_or_from_slice_get}
use Rattle.word_ops.specs.declared.format.Part.{Part}
use Rattle.threadlet_code.specs.declared.code.FuncCode.{FuncCode}
use Rattle.codegen_expr.specs.Piece.{Line}
use Rattle.codegen_expr.specs.Stands.{LinesAt, FormatsAt}

pub middle_at : {A : Type 0} (xs ys : List A) (y : A) → slice_get (xs ++ y ∷ ys) (length xs) ≡ Some y
middle_at [] ys y = refl
middle_at (x ∷ xs) ys y = middle_at xs ys y

mapped_at : {A B : Type 0} (f : A → B) (xs ys : List A) (y : A) → slice_get (map f (xs ++ y ∷ ys)) (length xs) ≡ Some (f y)
mapped_at f [] ys y = refl
mapped_at f (x ∷ xs) ys y = mapped_at f xs ys y

pub lines_placed : (h : FuncCode) (xs ys : List Line) → h.body ≡ map (λ line. line.instr) (xs ++ ys) → h.places ≡ map (λ line. line.pos) (xs ++ ys) → LinesAt h (length xs) ys
lines_placed h xs [] body places = tt
lines_placed h xs (y ∷ ys) body places =
    let instr = ap (λ l. slice_get l (length xs)) body ∙ mapped_at (λ (line : Line). line.instr) xs ys y in
    let pos = get_or_from_slice_get h.places (length xs) y.pos (record { line = 0; column = 0 })
    (ap (λ l. slice_get l (length xs)) places ∙ mapped_at (λ (line : Line). line.pos) xs ys y) in
    let more : xs ++ y ∷ ys ≡ (xs ++ y ∷ []) ++ ys = sym (append_assoc xs (y ∷ []) ys) in
    let next : length (xs ++ y ∷ []) ≡ suc (length xs) = omega (arith, length-append xs (y ∷ [])) in (
      record { instr = instr; pos = pos },
      subst (λ n. LinesAt h n ys) next (lines_placed h (xs ++ y ∷ []) ys (body ∙ ap (map (λ (line : Line). line.instr)) more) (places ∙ ap (map (λ (line : Line). line.pos)) more)),
    )

pub formats_placed : (xs ys zs : List (List Part)) → FormatsAt (xs ++ (ys ++ zs)) (length xs) ys
formats_placed xs [] zs = tt
formats_placed xs (y ∷ ys) zs =
    let more : (xs ++ y ∷ []) ++ (ys ++ zs) ≡ xs ++ (y ∷ (ys ++ zs)) = append_assoc xs (y ∷ []) (ys ++ zs) in
    let next : length (xs ++ y ∷ []) ≡ suc (length xs) = omega (arith, length-append xs (y ∷ [])) in
    (middle_at xs (ys ++ zs) y, subst (λ n. FormatsAt (xs ++ (y ∷ (ys ++ zs))) n ys) next (subst (λ all. FormatsAt all (length (xs ++ y ∷ [])) ys) more (formats_placed (xs ++ y ∷ []) ys zs)))
