-- What a reader with one token of look-ahead keeps: what it read is spelled, what it stopped at could not go on,
-- and neither depends on what comes behind the next token.
use Rattle.std.proofs.Common.{◌≡◌, Bool, true, false, cond, [], ◌∷◌, ◌++◌, Option, Some, Ok, Err, refl, sym, ◌∙◌, ap, subst, append_assoc}
use Rattle.cilk_model.specs.Lexemes.{Lexeme}
use Rattle.cilk_model.specs.Tests.{starts}
use Rattle.cilk_model.specs.Grammar.{Row}
use Rattle.cilk_parser.specs.Parsers.{Answer, Parser, goes_on, ◌>>=◌, gives, ◌▹◌, when, seen}

abbrev pub first : Row → Option Lexeme
first = seen (λ t. Some t)

pub first-append : (p s r : Row) → first s ≡ first r → first (p ++ s) ≡ first (p ++ r)
first-append [] s r h = h
first-append (t ∷ p) s r h = refl

pub starts_same : (c : Lexeme → Bool) (s r : Row) → first s ≡ first r → starts c s ≡ starts c r
starts_same c [] [] h = refl
starts_same c [] (b ∷ r) h = cc
starts_same c (a ∷ s) [] h = cc
starts_same c (a ∷ s) (b ∷ r) h = let e : a ≡ b = cc in ap c e

pub seen_same : {K : Type 0} (kind : Lexeme → Option K) (s r : Row) → first s ≡ first r → seen kind s ≡ seen kind r
seen_same kind [] [] h = refl
seen_same kind [] (b ∷ r) h = cc
seen_same kind (a ∷ s) [] h = cc
seen_same kind (a ∷ s) (b ∷ r) h = let e : a ≡ b = cc in ap kind e

-- The value is spelled by a front of the tokens, whatever follows the token behind it.
module _ {X : Type 0} (P : Parser X) (R : X → Row → Type 0) where
  pub record Read (ts : Row) (x : X) (rest : Row) : Type 0 where
    pub front : Row
    pub whole : ts ≡ front ++ rest
    pub spelled : R x front
    pub kept : (s : Row) → first s ≡ first rest → P (front ++ s) ≡ Ok (x, s)

  -- A front of the tokens begins what is spelled, and the token behind it never fits.
  pub record Stuck (ts rest : Row) : Type 0 where
    pub front : Row
    pub whole : ts ≡ front ++ rest
    pub value : X
    pub after : Row
    pub begun : R value (front ++ after)
    pub kept : (s : Row) → first s ≡ first rest → P (front ++ s) ≡ Err s

  pub record Local : Type 0 where
    pub reads : (ts : Row) (x : X) (rest : Row) → P ts ≡ Ok (x, rest) → Read ts x rest
    pub stops : (ts rest : Row) → P ts ≡ Err rest → Stuck ts rest
    pub some_value : X
    pub some_front : Row
    pub some : R some_value some_front

pub ok_parts : {X : Type 0} (x y : X) (r s : Row) → ◌≡◌ {A = Answer X} (Ok (x, r)) (Ok (y, s)) → (x ≡ y) × (r ≡ s)
ok_parts {X} x y r s e = let d : ◌≡◌ {A = X × Row} (x, r) (y, s) = cc in (ap (λ a. a.0) d, ap (λ a. a.1) d)

pub local_weaker : {X : Type 0} {P : Parser X} {R T : X → Row → Type 0} → Local P R → ((x : X) (a : Row) → R x a → T x a) → Local P T
local_weaker l h = record {
  reads = λ ts x rest e. let d = l.reads ts x rest e in record { front = d.front; whole = d.whole; spelled = h x d.front d.spelled; kept = d.kept };
  stops = λ ts rest e. let d = l.stops ts rest e in record { front = d.front; whole = d.whole; value = d.value; after = d.after; begun = h d.value (d.front ++ d.after) d.begun; kept = d.kept };
  some_value = l.some_value;
  some_front = l.some_front;
  some = h l.some_value l.some_front l.some;
}

pub local_gives : {X : Type 0} {T : X → Row → Type 0} (x : X) → T x [] → Local (gives x) T
local_gives {X} {T} x t = record {
  reads = λ ts y rest e. let d = ok_parts x y ts rest e in record {
    front = [];
    whole = d.1;
    spelled = subst (λ z. T z []) d.0 t;
    kept = λ s h. ap (λ z. Ok (z, s)) d.0;
  };
  stops = λ ts rest e. absurd (none ts rest e);
  some_value = x;
  some_front = [];
  some = t;
} where
  none : (ts rest : Row) → gives x ts ≡ Err rest → ⊥
  none ts rest e = cc

pub local_fails : {X : Type 0} (T : X → Row → Type 0) (x : X) (a : Row) → T x a → Local (λ ts. Err ts) T
local_fails {X} T x a h = record {
  reads = λ ts y rest e. absurd (none ts y rest e);
  stops = λ ts rest e. let d : ts ≡ rest = cc in record { front = []; whole = d; value = x; after = a; begun = h; kept = λ s g. refl };
  some_value = x;
  some_front = a;
  some = h;
} where
  none : (ts : Row) (y : X) (rest : Row) → ◌≡◌ {A = Answer X} (Err ts) (Ok (y, rest)) → ⊥
  none ts y rest e = cc

module _ {X Y : Type 0} {P : Parser X} (f : X → Y) {R : X → Row → Type 0} {T : Y → Row → Type 0} (l : Local P R) (h : (x : X) (a : Row) → R x a → T (f x) a) where
  map_reads : (ts : Row) (y : Y) (rest : Row) (a : Answer X) → P ts ≡ a → goes_on (λ x r. Ok (f x, r)) a ≡ Ok (y, rest) → Read (P ▹ f) T ts y rest
  map_reads ts y rest (Err r) q e = absurd cc
  map_reads ts y rest (Ok b) q e =
      let d = ok_parts (f b.0) y b.1 rest e in
      let g = l.reads ts b.0 rest (q ∙ ap (λ r. Ok (b.0, r)) d.1) in
      record {
        front = g.front;
        whole = g.whole;
        spelled = subst (λ z. T z g.front) d.0 (h b.0 g.front g.spelled);
        kept = λ s k. ap (goes_on (λ x r. Ok (f x, r))) (g.kept s k) ∙ ap (λ z. Ok (z, s)) d.0;
      }

  map_stops : (ts rest : Row) (a : Answer X) → P ts ≡ a → goes_on (λ x r. Ok (f x, r)) a ≡ Err rest → Stuck (P ▹ f) T ts rest
  map_stops ts rest (Ok b) q e = absurd cc
  map_stops ts rest (Err r) q e =
      let d : r ≡ rest = cc in
      let g = l.stops ts rest (q ∙ ap (λ z. Err z) d) in
      record {
        front = g.front;
        whole = g.whole;
        value = f g.value;
        after = g.after;
        begun = h g.value (g.front ++ g.after) g.begun;
        kept = λ s k. ap (goes_on (λ x r. Ok (f x, r))) (g.kept s k);
      }

  pub local_map : Local (P ▹ f) T
  local_map = record {
    reads = λ ts y rest e. map_reads ts y rest (P ts) refl e;
    stops = λ ts rest e. map_stops ts rest (P ts) refl e;
    some_value = f l.some_value;
    some_front = l.some_front;
    some = h l.some_value l.some_front l.some;
  }

bind_kept : {X Y : Type 0} (P : Parser X) (Q : X → Parser Y) (a b s rest r : Row) (x : X) (z : Answer Y) → ((s : Row) → first s ≡ first r → P (a ++ s) ≡ Ok (x, s)) →
    r ≡ b ++ rest → first s ≡ first rest → Q x (b ++ s) ≡ z → (P >>= Q) ((a ++ b) ++ s) ≡ z
bind_kept P Q a b s rest r x z h w g k =
    ap (λ z. goes_on Q (P z)) (append_assoc a b s) ∙ ap (goes_on Q) (h (b ++ s) (first-append b s rest g ∙ ap first (sym w))) ∙ k

module _ {X Y : Type 0} {P : Parser X} {Q : X → Parser Y} {R : X → Row → Type 0} {T : Y → Row → Type 0}
    (l : Local P R) (m : (x : X) (a : Row) → R x a → Local (Q x) (λ y b. T y (a ++ b))) where
  bind_reads : (ts : Row) (y : Y) (rest : Row) (a : Answer X) → P ts ≡ a → goes_on Q a ≡ Ok (y, rest) → Read (P >>= Q) T ts y rest
  bind_reads ts y rest (Err r) q e = absurd cc
  bind_reads ts y rest (Ok b) q e =
      let h = l.reads ts b.0 b.1 q in
      let k = (m b.0 h.front h.spelled).reads b.1 y rest e in
      record {
        front = h.front ++ k.front;
        whole = h.whole ∙ ap (λ z. h.front ++ z) k.whole ∙ sym (append_assoc h.front k.front rest);
        spelled = k.spelled;
        kept = λ s g. bind_kept P Q h.front k.front s rest b.1 b.0 (Ok (y, s)) h.kept k.whole g (k.kept s g);
      }

  bind_stops : (ts rest : Row) (a : Answer X) → P ts ≡ a → goes_on Q a ≡ Err rest → Stuck (P >>= Q) T ts rest
  bind_stops ts rest (Ok b) q e =
      let h = l.reads ts b.0 b.1 q in
      let k = (m b.0 h.front h.spelled).stops b.1 rest e in
      record {
        front = h.front ++ k.front;
        whole = h.whole ∙ ap (λ z. h.front ++ z) k.whole ∙ sym (append_assoc h.front k.front rest);
        value = k.value;
        after = k.after;
        begun = subst (λ z. T k.value z) (sym (append_assoc h.front k.front k.after)) k.begun;
        kept = λ s g. bind_kept P Q h.front k.front s rest b.1 b.0 (Err s) h.kept k.whole g (k.kept s g);
      }
  bind_stops ts rest (Err r) q e =
      let d : r ≡ rest = cc in
      let h = l.stops ts rest (q ∙ ap (λ z. Err z) d) in
      let k = m h.value (h.front ++ h.after) h.begun in
      record {
        front = h.front;
        whole = h.whole;
        value = k.some_value;
        after = h.after ++ k.some_front;
        begun = subst (λ z. T k.some_value z) (append_assoc h.front h.after k.some_front) k.some;
        kept = λ s g. ap (goes_on Q) (h.kept s g);
      }

  pub local_bind : Local (P >>= Q) T
  local_bind =
      let k = m l.some_value l.some_front l.some in
      record {
        reads = λ ts y rest e. bind_reads ts y rest (P ts) refl e;
        stops = λ ts rest e. bind_stops ts rest (P ts) refl e;
        some_value = k.some_value;
        some_front = l.some_front ++ k.some_front;
        some = k.some;
      }

-- A choice by the next token.
when_kept : {X : Type 0} (c : Lexeme → Bool) (P Q : Parser X) (b : Bool) (a s rest ts : Row) (z : Answer X) → starts c ts ≡ b → ts ≡ a ++ rest → first s ≡ first rest →
    cond b (P (a ++ s)) (Q (a ++ s)) ≡ z → when c P Q (a ++ s) ≡ z
when_kept c P Q b a s rest ts z q w g k =
    ap (λ b. cond b (P (a ++ s)) (Q (a ++ s))) (starts_same c (a ++ s) ts (first-append a s rest g ∙ ap first (sym w)) ∙ q) ∙ k

module _ {X : Type 0} (c : Lexeme → Bool) {P Q : Parser X} {T : X → Row → Type 0} (l : Local P T) (m : Local Q T) where
  when_reads : (b : Bool) (ts : Row) (x : X) (rest : Row) → starts c ts ≡ b → cond b (P ts) (Q ts) ≡ Ok (x, rest) → Read (when c P Q) T ts x rest
  when_reads true ts x rest q e =
      let h = l.reads ts x rest e in
      record { front = h.front; whole = h.whole; spelled = h.spelled; kept = λ s g. when_kept c P Q true h.front s rest ts (Ok (x, s)) q h.whole g (h.kept s g) }
  when_reads false ts x rest q e =
      let h = m.reads ts x rest e in
      record { front = h.front; whole = h.whole; spelled = h.spelled; kept = λ s g. when_kept c P Q false h.front s rest ts (Ok (x, s)) q h.whole g (h.kept s g) }

  when_stops : (b : Bool) (ts rest : Row) → starts c ts ≡ b → cond b (P ts) (Q ts) ≡ Err rest → Stuck (when c P Q) T ts rest
  when_stops true ts rest q e =
      let h = l.stops ts rest e in
      record { front = h.front; whole = h.whole; value = h.value; after = h.after; begun = h.begun; kept = λ s g. when_kept c P Q true h.front s rest ts (Err s) q h.whole g (h.kept s g) }
  when_stops false ts rest q e =
      let h = m.stops ts rest e in
      record { front = h.front; whole = h.whole; value = h.value; after = h.after; begun = h.begun; kept = λ s g. when_kept c P Q false h.front s rest ts (Err s) q h.whole g (h.kept s g) }

  pub local_when : Local (when c P Q) T
  local_when = record {
    reads = λ ts x rest e. when_reads (starts c ts) ts x rest refl e;
    stops = λ ts rest e. when_stops (starts c ts) ts rest refl e;
    some_value = m.some_value;
    some_front = m.some_front;
    some = m.some;
  }

-- A choice that is known.
pub local_cond : {X : Type 0} {P Q : Parser X} {T : X → Row → Type 0} (b : Bool) → (b ≡ true → Local P T) → (b ≡ false → Local Q T) → Local (cond b P Q) T
local_cond true l m = l refl
local_cond false l m = m refl
