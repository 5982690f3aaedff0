-- The heights of a function are all there are.
use Rattle.std.proofs.Common.{◌≡◌, ℕ, zero, suc, ◌<◌, ◌≤◌, ◌⊎◌, inl, inr, [], ◌∷◌, length, Option, Some, None, refl, sym, ap, ◌∙◌, subst, arith, ⊎_elim}
use Rattle.std.specs.Option.{option_or}
use Rattle.std.proofs.lemmas.Bool.{cases_lt}
use Rattle.std.proofs.lemmas.List.{length-replicate, get_or_past}
use Rattle.std.proofs.lemmas.List.FromFn.{length-map-range_with_len}
use Rattle.threadlet_code.specs.declared.code.FuncCode.{FuncCode}
use Rattle.threadlet_code.specs.declared.code.Code.{Code}
use Rattle.threadlet_code.specs.Ways.{Known, least, arrivals, longer, known_within, heights, ways_to, known_at}
use Rattle.threadlet_code.proofs.Among.{Among}
use Rattle.threadlet_code.proofs.Arrivals.{known_none, known_longer, lengthened, least_among, least_there, Came, arrived, came, began}
use Rattle.threadlet_code.proofs.Bools.{some_none}

-- ---- how many places have heights

abbrev count : Known → ℕ
count [] = 0
count (None ∷ known) = count known
count (Some h ∷ known) = suc (count known)

abbrev Grows : Known → Known → Type 0
Grows a b = (p h : ℕ) → known_at a p ≡ Some h → known_at b p ≡ Some h

tail_grows : (x y : Option ℕ) (a b : Known) → Grows (x ∷ a) (y ∷ b) → Grows a b
tail_grows x y a b g p h e = g (suc p) h e

record Counted (a b : Known) : Type 0 where
  most : count b ≤ length b
  no_less : count a ≤ count b
  same : count a ≡ count b → a ≡ b

counted : (a b : Known) → length a ≡ length b → Grows a b → Counted a b
counted [] [] l g = record { most = omega arith; no_less = omega arith; same = λ e. refl }
counted [] (y ∷ b) l g = absurd (omega arith)
counted (x ∷ a) [] l g = absurd (omega arith)
counted (Some h ∷ a) (None ∷ b) l g = absurd (some_none h None (g 0 h refl) refl)
counted (Some h ∷ a) (Some k ∷ b) l g =
    let r = counted a b (omega arith) (tail_grows (Some h) (Some k) a b g) in
    let same : Some h ≡ Some k = sym (g 0 h refl) in
    record {
      most = omega (arith, r.most);
      no_less = omega (arith, r.no_less);
      same = λ e. ap (λ o. o ∷ a) same ∙ ap (λ l. Some k ∷ l) (r.same (omega arith));
    }
counted (None ∷ a) (None ∷ b) l g =
    let r = counted a b (omega arith) (tail_grows None None a b g) in
    record { most = omega (arith, r.most); no_less = r.no_less; same = λ e. ap (λ l. None ∷ l) (r.same e) }
counted (None ∷ a) (Some k ∷ b) l g =
    let r = counted a b (omega arith) (tail_grows None (Some k) a b g) in
    record { most = omega (arith, r.most); no_less = omega (arith, r.no_less); same = λ e. absurd (omega (arith, r.no_less)) }

-- ---- what is known stays known

module _ (code : Code) (g : ℕ) (f : FuncCode) where
  abbrev within : ℕ → Known
  within n = known_within code g f n

  size : (n : ℕ) → length (within n) ≡ length f.body
  size zero = length-replicate (length f.body) None
  size (suc n) = length-map-range_with_len (λ to. option_or (known_at (within n) to) (least (arrivals code g f to (within n)))) 0 (length f.body)

  grows : (n : ℕ) → Grows (within n) (within (suc n))
  grows n p h e =
      ⊎_elim
      (λ lt. known_longer code g f (within n) p lt ∙ ap (λ o. option_or o (least (arrivals code g f p (within n)))) e)
      (λ le. absurd (some_none h (known_at (within n) p) e (get_or_past (within n) p None (omega (arith, size n)))))
      (cases_lt p (length f.body))

  -- Once an instruction more adds nothing, no more does.
  stable_or_more : (n : ℕ) → (within (suc n) ≡ within n) ⊎ (suc n ≤ count (within (suc n)))
  stable_or_more zero = by_count (counted (within 0) (within 1) (size 0 ∙ sym (size 1)) (grows 0))
    where
      by_count : Counted (within 0) (within 1) → (within 1 ≡ within 0) ⊎ (1 ≤ count (within 1))
      by_count c = ⊎_elim (λ lt. inr (omega arith)) (λ le. inl (sym (c.same (omega (arith, c.no_less))))) (cases_lt (count (within 0)) (count (within 1)))
  stable_or_more (suc n) = ⊎_elim (λ e. inl (ap (longer code g f) e)) (λ le. by_count le (counted (within (suc n)) (within (suc (suc n))) (size (suc n) ∙ sym (size (suc (suc n)))) (grows (suc n)))) (stable_or_more n)
    where
      by_count : suc n ≤ count (within (suc n)) → Counted (within (suc n)) (within (suc (suc n))) → (within (suc (suc n)) ≡ within (suc n)) ⊎ (suc (suc n) ≤ count (within (suc (suc n))))
      by_count le c =
          ⊎_elim (λ lt. inr (omega arith)) (λ ge. inl (sym (c.same (omega (arith, c.no_less))))) (cases_lt (count (within (suc n))) (count (within (suc (suc n)))))

  pub stable : longer code g f (heights code g f) ≡ heights code g f
  stable = ⊎_elim (λ e. e) (λ more. absurd (too_many more (counted (within (length f.body)) (within (suc (length f.body))) (size (length f.body) ∙ sym (size (suc (length f.body)))) (grows (length f.body))))) (stable_or_more (length f.body))
    where
      too_many : suc (length f.body) ≤ count (within (suc (length f.body))) → Counted (within (length f.body)) (within (suc (length f.body))) → ⊥
      too_many more c = omega (arith, c.most, size (suc (length f.body)))

  pub size_of_heights : length (heights code g f) ≡ length f.body
  size_of_heights = size (length f.body)

  -- ---- heights are those of ways

  more_come : (a b : Known) → Grows a b → (p h : ℕ) → Among h (arrivals code g f p a) → Among h (arrivals code g f p b)
  more_come a b grow p h l =
      ⊎_elim
      (λ z. subst (λ k. Among k (arrivals code g f p b)) (sym z.1) (subst (λ q. Among 0 (arrivals code g f q b)) (sym z.0) (began code g f b)))
      (λ (c : Came code g f a p h). came code g f b p h (record { place = c.place; instr = c.instr; height = c.height; here = c.here; before = grow c.place c.height c.before; on = c.on; leads = c.leads; behind = c.behind }))
      (arrived code g f a p h l)

  known_comes : (n p h : ℕ) → known_at (within n) p ≡ Some h → Among h (arrivals code g f p (within n))
  known_comes zero p h e = absurd (some_none h (known_at (within 0) p) e (known_none (length f.body) p))
  known_comes (suc n) p h e =
      let l = lengthened code g f (within n) p h e in
      more_come (within n) (within (suc n)) (grows n) p h
      (⊎_elim (λ old. known_comes n p h old) (λ new. least_among (arrivals code g f p (within n)) h new.1) l.how)

  -- The height of a place is that of a way to it.
  pub height_comes : (p h : ℕ) → known_at (heights code g f) p ≡ Some h → Among h (ways_to code g f p)
  height_comes = known_comes (length f.body)

  -- A place to which a way comes has a height.
  pub way_found : (p h : ℕ) → p < length f.body → Among h (ways_to code g f p) → (k : ℕ) × (known_at (heights code g f) p ≡ Some k)
  way_found p h lt a = by_height (known_at (heights code g f) p) refl
    where
      by_height : (o : Option ℕ) → known_at (heights code g f) p ≡ o → (k : ℕ) × (known_at (heights code g f) p ≡ Some k)
      by_height (Some k) e = (k, e)
      by_height None e =
          let now : known_at (heights code g f) p ≡ option_or (known_at (heights code g f) p) (least (ways_to code g f p)) =
          ap (λ (k : Known). known_at k p) (sym stable) ∙ known_longer code g f (heights code g f) p lt in
          absurd (least_there (ways_to code g f p) h a (sym (ap (λ o. option_or o (least (ways_to code g f p))) e) ∙ sym now ∙ e))
