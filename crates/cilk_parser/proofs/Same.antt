-- Readers that agree on a row of tokens, if their parts agree on what is left of it.
use Rattle.std.proofs.Common.{◌≡◌, ℕ, suc, ◌<◌, ◌≤◌, Bool, true, false, cond, [], ◌∷◌, length, Option, Some, None, Ok, Err, refl, sym, ◌∙◌, ap}
use Rattle.cilk_model.specs.Lexemes.{Lexeme}
use Rattle.cilk_model.specs.Grammar.{Row}
use Rattle.cilk_model.specs.Tests.{starts}
use Rattle.cilk_model.specs.GrammarForms.{Form, Val, statement, item}
use Rattle.cilk_parser.specs.Parsers.{Answer, Parser, goes_on, ◌>>=◌, ◌▹◌, gives, when, chosen, choose, take}
use Rattle.cilk_parser.specs.Reading.{Readers}
use Rattle.cilk_parser.specs.Read.{cost}
use Rattle.cilk_parser.proofs.Local.{ok_parts}

-- Two readers of all forms: they leave no more than they had, behind a statement and an item less, and agree
-- where the cost is within the number.
pub record Agree (P Q : Readers) (f : ℕ) : Type 0 where
  pub shrinks : (n : Form) (ts : Row) (x : Val n) (r : Row) → P n ts ≡ Ok (x, r) → length r ≤ length ts
  pub shrinks_statement : (ts : Row) (x : Val statement) (r : Row) → P statement ts ≡ Ok (x, r) → length r < length ts
  pub shrinks_item : (ts : Row) (x : Val item) (r : Row) → P item ts ≡ Ok (x, r) → length r < length ts
  pub same : (n : Form) (ts : Row) → cost n ts ≤ f → P n ts ≡ Q n ts

-- Two readers give the same on a row.
pub record Same {X : Type 0} (p q : Parser X) (ts : Row) : Type 0 where
  pub same : p ts ≡ q ts

pub same_itself : {X : Type 0} (p : Parser X) (ts : Row) → Same p p ts
same_itself p ts = record { same = refl }

-- Behind the same answer.
same_behind : {X Y : Type 0} (a b : Answer X) (g h : X → Parser Y) → a ≡ b → ((x : X) (r : Row) → a ≡ Ok (x, r) → g x r ≡ h x r) → goes_on g a ≡ goes_on h b
same_behind (Ok c) b g h e k = k c.0 c.1 refl ∙ ap (goes_on h) e
same_behind (Err r) b g h e k = ap (goes_on h) e

both_cases : {A : Type 0} (b : Bool) {x y z w : A} → x ≡ z → y ≡ w → cond b x y ≡ cond b z w
both_cases true e d = e
both_cases false e d = d

pub both : {X : Type 0} (c : Lexeme → Bool) (p q r s : Parser X) (ts : Row) → Same p q ts → Same r s ts → Same (when c p r) (when c q s) ts
both c p q r s ts h g = record { same = both_cases (starts c ts) h.same g.same }

pub same_cond : {X : Type 0} (b : Bool) (p q r s : Parser X) (ts : Row) → Same p q ts → Same r s ts → Same (cond b p r) (cond b q s) ts
same_cond true p q r s ts h g = h
same_cond false p q r s ts h g = g

-- One token less is left behind a token.
choosing_cases : {K X : Type 0} (kind : Lexeme → Option K) (f g : K → Parser X) (p q : Parser X) (ts : Row) →
    ((k : K) (r : Row) → suc (length r) ≡ length ts → f k r ≡ g k r) → p ts ≡ q ts → choose kind f p ts ≡ choose kind g q ts
choosing_cases kind f g p q [] h e = e
choosing_cases {K} kind f g p q (t ∷ ts) h e = by_kind (kind t) where
  by_kind : (o : Option K) → chosen f p o (t ∷ ts) ≡ chosen g q o (t ∷ ts)
  by_kind (Some k) = h k ts refl
  by_kind None = e

pub choosing : {K X : Type 0} (kind : Lexeme → Option K) (f g : K → Parser X) (p q : Parser X) (ts : Row) →
    ((k : K) (r : Row) → suc (length r) ≡ length ts → Same (f k) (g k) r) → Same p q ts → Same (choose kind f p) (choose kind g q) ts
choosing kind f g p q ts h e = record { same = choosing_cases kind f g p q ts (λ k r l. (h k r l).same) e.same }

take_shrinks : {K : Type 0} (kind : Lexeme → Option K) (ts : Row) (k : K) (r : Row) → take kind ts ≡ Ok (k, r) → suc (length r) ≡ length ts
take_shrinks kind [] k r e = absurd cc
take_shrinks {K} kind (t ∷ ts) k r e = by_kind (kind t) e where
  by_kind : (o : Option K) → chosen gives (λ ts. Err ts) o (t ∷ ts) ≡ Ok (k, r) → suc (length r) ≡ length (t ∷ ts)
  by_kind None d = absurd cc
  by_kind (Some j) d = let p = ok_parts j k ts r d in ap (λ z. suc (length z)) (sym p.1)

pub taking : {K X : Type 0} (kind : Lexeme → Option K) (f g : K → Parser X) (ts : Row) → ((k : K) (r : Row) → suc (length r) ≡ length ts → Same (f k) (g k) r) →
    Same (take kind >>= f) (take kind >>= g) ts
taking kind f g ts h = record { same = same_behind (take kind ts) (take kind ts) f g refl (λ k r e. (h k r (take_shrinks kind ts k r e)).same) }

module _ {P Q : Readers} {f : ℕ} (a : Agree P Q f) where
  pub part : (n : Form) (ts : Row) → cost n ts ≤ f → Same (P n) (Q n) ts
  part n ts e = record { same = a.same n ts e }

  pub parsing : {Y : Type 0} (n : Form) (g h : Val n → Parser Y) (ts : Row) → cost n ts ≤ f → ((x : Val n) (r : Row) → length r ≤ length ts → Same (g x) (h x) r) →
      Same (P n >>= g) (Q n >>= h) ts
  parsing n g h ts e k = record { same = same_behind (P n ts) (Q n ts) g h (a.same n ts e) (λ x r d. (k x r (a.shrinks n ts x r d)).same) }

  pub mapping : {Y : Type 0} (n : Form) (g : Val n → Y) (ts : Row) → cost n ts ≤ f → Same (P n ▹ g) (Q n ▹ g) ts
  mapping n g ts e = record { same = ap (goes_on (λ x r. Ok (g x, r))) (a.same n ts e) }

  pub parsing_statement : {Y : Type 0} (g h : Val statement → Parser Y) (ts : Row) → cost statement ts ≤ f →
      ((x : Val statement) (r : Row) → length r < length ts → Same (g x) (h x) r) → Same (P statement >>= g) (Q statement >>= h) ts
  parsing_statement g h ts e k =
      record { same = same_behind (P statement ts) (Q statement ts) g h (a.same statement ts e) (λ x r d. (k x r (a.shrinks_statement ts x r d)).same) }

  pub parsing_item : {Y : Type 0} (g h : Val item → Parser Y) (ts : Row) → cost item ts ≤ f →
      ((x : Val item) (r : Row) → length r < length ts → Same (g x) (h x) r) → Same (P item >>= g) (Q item >>= h) ts
  parsing_item g h ts e k =
      record { same = same_behind (P item ts) (Q item ts) g h (a.same item ts e) (λ x r d. (k x r (a.shrinks_item ts x r d)).same) }
