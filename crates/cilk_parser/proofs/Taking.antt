-- Taking tokens keeps a reader local.
use Rattle.std.proofs.Common.{◌≡◌, [], ◌∷◌, ◌++◌, Option, Some, None, Ok, Err, refl, sym, ◌∙◌, ap, subst}
use Rattle.cilk_model.specs.Lexemes.{Lexeme}
use Rattle.cilk_model.specs.Grammar.{Row}
use Rattle.cilk_parser.specs.Parsers.{Answer, Parser, ◌>>=◌, ◌▹◌, seen, chosen, choose, take}
use Rattle.cilk_parser.proofs.Local.{Local, Read, Stuck, first, first-append, seen_same, local_fails, local_gives, local_bind, local_map, local_weaker}

-- A kind of tokens: the token for what is said, where that fits.
pub record Tells {K : Type 0} (kind : Lexeme → Option K) (token : K → Lexeme) (Fit : K → Type 0) : Type 0 where
  pub says : (t : Lexeme) (k : K) → kind t ≡ Some k → (t ≡ token k) × Fit k
  pub shown : (k : K) → Fit k → kind (token k) ≡ Some k

-- A kind of which there are tokens.
pub record Takes {K : Type 0} (kind : Lexeme → Option K) (token : K → Lexeme) (Fit : K → Type 0) : Type 0 where
  pub tells : Tells kind token Fit
  pub sample : K
  pub fits : Fit sample

pub choose_no : {K X : Type 0} (kind : Lexeme → Option K) (f : K → Parser X) (q : Parser X) (ts : Row) → seen kind ts ≡ None → choose kind f q ts ≡ q ts
choose_no kind f q ts e = ap (λ o. chosen f q o ts) e

pub choose_yes : {K X : Type 0} (kind : Lexeme → Option K) (f : K → Parser X) (q : Parser X) (t : Lexeme) (ts : Row) (k : K) → kind t ≡ Some k → choose kind f q (t ∷ ts) ≡ f k ts
choose_yes kind f q t ts k e = ap (λ o. chosen f q o (t ∷ ts)) e

no_kept : {K X : Type 0} (kind : Lexeme → Option K) (f : K → Parser X) (q : Parser X) (a s rest ts : Row) (z : Answer X) → seen kind ts ≡ None → ts ≡ a ++ rest → first s ≡ first rest →
    q (a ++ s) ≡ z → choose kind f q (a ++ s) ≡ z
no_kept kind f q a s rest ts z e w g k = choose_no kind f q (a ++ s) (seen_same kind (a ++ s) ts (first-append a s rest g ∙ ap first (sym w)) ∙ e) ∙ k

module _ {K X : Type 0} {kind : Lexeme → Option K} {token : K → Lexeme} {Fit : K → Type 0} {f : K → Parser X} {q : Parser X} {T : X → Row → Type 0}
    (tells : Tells kind token Fit) (l : (k : K) → Fit k → Local (f k) (λ x a. T x (token k ∷ a))) (m : Local q T) where
  choose_reads : (o : Option K) (ts : Row) (x : X) (rest : Row) → seen kind ts ≡ o → choose kind f q ts ≡ Ok (x, rest) → Read (choose kind f q) T ts x rest
  choose_reads None ts x rest d e =
      let h = m.reads ts x rest (sym (choose_no kind f q ts d) ∙ e) in
      record { front = h.front; whole = h.whole; spelled = h.spelled; kept = λ s g. no_kept kind f q h.front s rest ts (Ok (x, s)) d h.whole g (h.kept s g) }
  choose_reads (Some k) [] x rest d e = absurd cc
  choose_reads (Some k) (t ∷ ts) x rest d e =
      let u = tells.says t k d in
      let h = (l k u.1).reads ts x rest (sym (choose_yes kind f q t ts k d) ∙ e) in
      record {
        front = t ∷ h.front;
        whole = ap (λ z. t ∷ z) h.whole;
        spelled = subst (λ z. T x (z ∷ h.front)) (sym u.0) h.spelled;
        kept = λ s g. choose_yes kind f q t (h.front ++ s) k d ∙ h.kept s g;
      }

  choose_stops : (o : Option K) (ts rest : Row) → seen kind ts ≡ o → choose kind f q ts ≡ Err rest → Stuck (choose kind f q) T ts rest
  choose_stops None ts rest d e =
      let h = m.stops ts rest (sym (choose_no kind f q ts d) ∙ e) in
      record { front = h.front; whole = h.whole; value = h.value; after = h.after; begun = h.begun; kept = λ s g. no_kept kind f q h.front s rest ts (Err s) d h.whole g (h.kept s g) }
  choose_stops (Some k) [] rest d e = absurd cc
  choose_stops (Some k) (t ∷ ts) rest d e =
      let u = tells.says t k d in
      let h = (l k u.1).stops ts rest (sym (choose_yes kind f q t ts k d) ∙ e) in
      record {
        front = t ∷ h.front;
        whole = ap (λ z. t ∷ z) h.whole;
        value = h.value;
        after = h.after;
        begun = subst (λ z. T h.value (z ∷ (h.front ++ h.after))) (sym u.0) h.begun;
        kept = λ s g. choose_yes kind f q t (h.front ++ s) k d ∙ h.kept s g;
      }

  pub local_choose : Local (choose kind f q) T
  local_choose = record {
    reads = λ ts x rest e. choose_reads (seen kind ts) ts x rest refl e;
    stops = λ ts rest e. choose_stops (seen kind ts) ts rest refl e;
    some_value = m.some_value;
    some_front = m.some_front;
    some = m.some;
  }

pub data Taken {K : Type 0} (token : K → Lexeme) (Fit : K → Type 0) : K → Row → Type 0 where
  taken : (k : K) → Fit k → Taken token Fit k (token k ∷ [])

pub local_take : {K : Type 0} {kind : Lexeme → Option K} {token : K → Lexeme} {Fit : K → Type 0} → Takes kind token Fit → Local (take kind) (Taken token Fit)
local_take {token = token} {Fit = Fit} it =
    local_choose it.tells (λ k fit. local_gives k (taken k fit)) (local_fails (Taken token Fit) it.sample (token it.sample ∷ []) (taken it.sample it.fits))

-- A token, and what follows it.
pub local_then : {K X : Type 0} {kind : Lexeme → Option K} {token : K → Lexeme} {Fit : K → Type 0} {Q : K → Parser X} {T : X → Row → Type 0} →
    Takes kind token Fit → ((k : K) → Fit k → Local (Q k) (λ x a. T x (token k ∷ a))) → Local (take kind >>= Q) T
local_then {token = token} {Fit = Fit} {Q = Q} {T = T} it l = local_bind (local_take it) (λ k a h. go k a h) where
  go : (k : _) (a : Row) → Taken token Fit k a → Local (Q k) (λ x b. T x (a ++ b))
  go _ _ (taken k fit) = l k fit

-- A token at the end.
pub local_last : {K X : Type 0} {kind : Lexeme → Option K} {token : K → Lexeme} {Fit : K → Type 0} (f : K → X) {T : X → Row → Type 0} →
    Takes kind token Fit → ((k : K) → Fit k → T (f k) (token k ∷ [])) → Local (take kind ▹ f) T
local_last {token = token} {Fit = Fit} f {T = T} it l = local_map f (local_take it) (λ k a h. go k a h) where
  go : (k : _) (a : Row) → Taken token Fit k a → T (f k) a
  go _ _ (taken k fit) = l k fit

pub local_only : {K : Type 0} {kind : Lexeme → Option K} {token : K → Lexeme} {Fit : K → Type 0} {T : K → Row → Type 0} →
    Takes kind token Fit → ((k : K) → Fit k → T k (token k ∷ [])) → Local (take kind) T
local_only {K} {token = token} {Fit = Fit} {T = T} it l = local_weaker (local_take it) go where
  go : (k : K) (a : Row) → Taken token Fit k a → T k a
  go _ _ (taken k fit) = l k fit
