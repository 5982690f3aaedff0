-- What a draft gains in steps.
use Rattle.std.proofs.Common.{◌≡◌, ℕ, suc, ◌+◌, ◌≤◌, List, [], ◌∷◌, ◌++◌, length, map, refl, sym, ap, ◌∙◌, arith, append_assoc, length-append}
use Rattle.std.specs.Prelude.{max}
use Rattle.word_ops.specs.declared.format.Part.{Part}
use Rattle.codegen_expr.specs.declared.draft.Draft.{Draft}
use Rattle.codegen_expr.specs.Piece.{Line}
use Rattle.codegen_expr.specs.Gains.{Gains, HasRoom}

map_append : {A B : Type 0} (f : A → B) (xs ys : List A) → map f (xs ++ ys) ≡ map f xs ++ map f ys
map_append f [] ys = refl
map_append f (x ∷ xs) ys = ap (λ l. f x ∷ l) (map_append f xs ys)

map_length : {A B : Type 0} (f : A → B) (xs : List A) → length (map f xs) ≡ length xs
map_length f [] = refl
map_length f (x ∷ xs) = ap suc (map_length f xs)

pub append_nil : {A : Type 0} (xs : List A) → xs ++ [] ≡ xs
append_nil [] = refl
append_nil (x ∷ xs) = ap (λ l. x ∷ l) (append_nil xs)

-- The same gain, told otherwise.
pub gains_as : (a b : Draft) (xs ys : List Line) (fs gs : List (List Part)) (w v h g : ℕ) → xs ≡ ys → fs ≡ gs → w ≡ v → h ≡ g → Gains a b xs fs w h → Gains a b ys gs v g
gains_as a b xs ys fs gs w v h g lines formats words highest p = record {
  function = p.function;
  slots = p.slots;
  body = p.body ∙ ap (λ l. a.body ++ map (λ line. line.instr) l) lines;
  places = p.places ∙ ap (λ l. a.places ++ map (λ line. line.pos) l) lines;
  formats = p.formats ∙ ap (λ l. a.formats ++ l) formats;
  depth = p.depth ∙ words;
  height = p.height ∙ ap (max a.height) highest;
}

-- One gain behind another.
pub gains_then : (a b d : Draft) (xs ys : List Line) (fs gs : List (List Part)) (w v h g : ℕ) → Gains a b xs fs w h → Gains b d ys gs v g → Gains a d (xs ++ ys) (fs ++ gs) v (max h g)
gains_then a b d xs ys fs gs w v h g p q =
    let e = p.height in let e' = q.height in
    record {
      function = q.function ∙ p.function;
      slots = q.slots ∙ p.slots;
      body = q.body ∙ ap (λ l. l ++ map (λ line. line.instr) ys) p.body ∙ append_assoc a.body (map (λ line. line.instr) xs) (map (λ line. line.instr) ys)
          ∙ ap (λ l. a.body ++ l) (sym (map_append (λ (line : Line). line.instr) xs ys));
      places = q.places ∙ ap (λ l. l ++ map (λ line. line.pos) ys) p.places ∙ append_assoc a.places (map (λ line. line.pos) xs) (map (λ line. line.pos) ys)
          ∙ ap (λ l. a.places ++ l) (sym (map_append (λ (line : Line). line.pos) xs ys));
      formats = q.formats ∙ ap (λ l. l ++ gs) p.formats ∙ append_assoc a.formats fs gs;
      depth = q.depth;
      height = omega arith;
    }

pub body_length : (a b : Draft) (xs : List Line) (fs : List (List Part)) (w h : ℕ) → Gains a b xs fs w h → length b.body ≡ length a.body + length xs
body_length a b xs fs w h p =
    ap length p.body ∙ length-append a.body (map (λ line. line.instr) xs) ∙ ap (λ n. length a.body + n) (map_length (λ (line : Line). line.instr) xs)

pub formats_length : (a b : Draft) (xs : List Line) (fs : List (List Part)) (w h : ℕ) → Gains a b xs fs w h → length b.formats ≡ length a.formats + length fs
formats_length a b xs fs w h p = ap length p.formats ∙ length-append a.formats fs

-- Room that is left.
pub room_left : (a b : Draft) (xs : List Line) (fs : List (List Part)) (w h m more : ℕ) → Gains a b xs fs w h → HasRoom a more → length xs + m ≤ more → length fs + m ≤ more →
    w + m ≤ a.depth + more → w ≤ max a.height h → HasRoom b m
room_left a b xs fs w h m more p room lines formats words high =
    let e = body_length a b xs fs w h p in
    let f = formats_length a b xs fs w h p in
    let d = p.depth in let t = p.height in
    let r = room.body in let r' = room.formats in let r'' = room.depth in
    record { body = omega arith; formats = omega arith; depth = omega arith; highest = omega arith }

-- A few lines.
pub two_gained : (a b c : Draft) (x y : Line) (w : ℕ) → Gains a b (x ∷ []) [] w w → Gains b c (y ∷ []) [] w w → Gains a c (x ∷ y ∷ []) [] w w
two_gained a b c x y w p q =
    gains_as a c (x ∷ y ∷ []) (x ∷ y ∷ []) [] [] w w (max w w) w refl refl refl (omega arith) (gains_then a b c (x ∷ []) (y ∷ []) [] [] w w w w p q)

pub three_gained : (a b c d : Draft) (x y z : Line) (w v u : ℕ) → Gains a b (x ∷ []) [] w w → Gains b c (y ∷ []) [] v v → Gains c d (z ∷ []) [] u u → w ≡ u → v ≡ u + 1 →
    Gains a d (x ∷ y ∷ z ∷ []) [] u (u + 1)
three_gained a b c d x y z w v u p q r e f =
    let all = gains_then a b d (x ∷ []) (y ∷ z ∷ []) [] [] w u w (max v u) p (gains_then b c d (y ∷ []) (z ∷ []) [] [] v u v u q r) in
    gains_as a d (x ∷ y ∷ z ∷ []) (x ∷ y ∷ z ∷ []) [] [] u u (max w (max v u)) (u + 1) refl refl refl (omega arith) all

pub four_gained : (a b c d e : Draft) (x y z t : Line) (w v : ℕ) → Gains a b (x ∷ []) [] w w → Gains b c (y ∷ []) [] v v → Gains c d (z ∷ []) [] w w → Gains d e (t ∷ []) [] v v → v ≡ w + 1 →
    Gains a e (x ∷ y ∷ z ∷ t ∷ []) [] v v
four_gained a b c d e x y z t w v p q r s is =
    let all = gains_then a d e (x ∷ y ∷ z ∷ []) (t ∷ []) [] [] w v (w + 1) v (three_gained a b c d x y z w v w p q r refl is) s in
    gains_as a e (x ∷ y ∷ z ∷ t ∷ []) (x ∷ y ∷ z ∷ t ∷ []) [] [] v v (max (w + 1) v) v refl refl refl (omega arith) all
