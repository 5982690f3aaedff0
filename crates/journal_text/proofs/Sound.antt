-- What is found stands there.
use Rattle.std.proofs.Common.{◌≡◌, ◌≤◌, ◌<◌, ◌^◌, ◌-◌, ◌&&◌, ℕ, Bool, true, false, nat_le, List, [], ◌∷◌, ◌++◌, length, take, drop, codes, Option, Some, None, if◌then◌else◌, refl, ap, sym, subst, ◌∙◌, append_assoc, arith}
use Rattle.std.specs.Option.{option_and_then, option_map}
use Rattle.std.specs.Int.{IsInRange}
use Rattle.std.specs.Char.{is_ascii_digit}
use Rattle.std.specs.Fmt.{decimal}
use Rattle.std.specs.List.{prefix_len}
use Rattle.std.specs.Str.{bytes_eq}
use Rattle.std.specs.Str.Parse.{digits_value}
use Rattle.std.proofs.lemmas.Grind.{common_steps}
use Rattle.std.proofs.lemmas.List.{take-append-drop}
use Rattle.std.proofs.lemmas.Option.{option_and_then_some}
use Rattle.std.proofs.lemmas.Slice.Eq.{bytes_eq-Decides}
use Rattle.word_ops.specs.Naming.{name_text}
use Rattle.word_ops.specs.Numbers.{count_in, is_count}
use Rattle.word_ops.specs.declared.name.Name.{Name}
use Rattle.word_ops.specs.Journal.{step_line}
use Rattle.word_ops.specs.declared.step.Step.{Step}
use Rattle.word_ops.specs.declared.step.Step.TheVariants.{Act, Apply}
use Rattle.journal_text.specs.Journals.{IsAmong}
use Rattle.journal_text.specs.Reading.{behind, digits_first, number_in, count_in_line, name_in, name_at_end, child_or, child_in, act_in, apply_in, act_or, step_in}

-- where a choice gives something, its test holds
if_some : {A : Type 0} (b : Bool) (x y : A) → (if b then Some x else None) ≡ Some y → (b ≡ true) × (x ≡ y)
if_some true x y e = (refl, grind (arith, e))
if_some false x y e = absurd (grind (arith, e))

-- where a mapped option gives something, the option does
map_some : {A B P : Type 0} (f : A → B) (o : Option A) (y : B) → option_map f o ≡ Some y → ((x : A) → o ≡ Some x → f x ≡ y → P) → P
map_some f (Some x) y e k = k x refl (grind (arith, e))
map_some f None y e k = absurd (grind (arith, e))

-- what is found behind a word stands behind it
pub behind_sound : (word bytes rest : List ℕ) → behind word bytes ≡ Some rest → bytes ≡ word ++ rest
behind_sound word bytes rest e =
    let found = if_some (bytes_eq (take (length word) bytes) word) (drop (length word) bytes) rest e in
    sym (take-append-drop (length word) bytes) ∙ ap (λ t. t ++ drop (length word) bytes) ((bytes_eq-Decides (take (length word) bytes) word).0 found.0) ∙ ap (λ t. word ++ t) found.1

-- a number that is counted is within the bounds
count_range : (text : List ℕ) (least most n : ℕ) → count_in text least most ≡ Some n → IsInRange least most n
count_range text least most n e =
    let found = if_some (is_count text && nat_le least (digits_value 10 text) && nat_le (digits_value 10 text) most) (digits_value 10 text) n e in
    (grind (arith, common_steps, found.0, found.1), grind (arith, common_steps, found.0, found.1))

-- a number that is found stands there
pub number_sound : (least most : ℕ) (bytes : List ℕ) (x : ℕ × List ℕ) → number_in least most bytes ≡ Some x → (bytes ≡ decimal x.0 ++ x.1) × IsInRange least most x.0
number_sound least most bytes x e =
    option_and_then_some (λ n. if bytes_eq (decimal n) (digits_first bytes) then Some (n, drop (prefix_len is_ascii_digit bytes) bytes) else None) (count_in (digits_first bytes) least most) x e
    (λ n counted chosen.
    let found = if_some (bytes_eq (decimal n) (digits_first bytes)) (n, drop (prefix_len is_ascii_digit bytes) bytes) x chosen in
    let printed : decimal n ≡ digits_first bytes = (bytes_eq-Decides (decimal n) (digits_first bytes)).0 found.0 in
    let whole : bytes ≡ decimal n ++ drop (prefix_len is_ascii_digit bytes) bytes =
    sym (take-append-drop (prefix_len is_ascii_digit bytes) bytes) ∙ ap (λ t. t ++ drop (prefix_len is_ascii_digit bytes) bytes) (sym printed) in
    (whole ∙ ap (λ y. decimal y.0 ++ y.1) found.1, subst (λ y. IsInRange least most y.0) found.1 (count_range (digits_first bytes) least most n counted)))

-- pieces joined from either end
join3 : (a b c r : List ℕ) → a ++ (b ++ (c ++ r)) ≡ a ++ b ++ c ++ r
join3 a b c r = sym (append_assoc (a ++ b) c r ∙ append_assoc a b (c ++ r))

join4 : (a b c d r : List ℕ) → a ++ (b ++ (c ++ (d ++ r))) ≡ a ++ b ++ c ++ d ++ r
join4 a b c d r = join3 a b c (d ++ r) ∙ sym (append_assoc (a ++ b ++ c) d r)

-- a number that is found on a line stands there
pub line_sound : (word : List ℕ) (least most : ℕ) (bytes : List ℕ) (x : ℕ × List ℕ) → count_in_line word least most bytes ≡ Some x
    → (bytes ≡ word ++ (decimal x.0 ++ (10 ∷ x.1))) × IsInRange least most x.0
line_sound word least most bytes x e =
    option_and_then_some (λ rest. option_and_then (λ (x : ℕ × List ℕ). option_map (λ rest. (x.0, rest)) (behind (10 ∷ []) x.1)) (number_in least most rest)) (behind word bytes) x e (λ rest starts e2.
    option_and_then_some (λ (x : ℕ × List ℕ). option_map (λ rest. (x.0, rest)) (behind (10 ∷ []) x.1)) (number_in least most rest) x e2 (λ y numbered e3.
    map_some (λ rest. (y.0, rest)) (behind (10 ∷ []) y.1) x e3 (λ r ends same.
    let num = number_sound least most rest y numbered in (
      behind_sound word bytes rest starts ∙ ap (λ t. word ++ t) num.0 ∙ ap (λ t. word ++ (decimal y.0 ++ t)) (behind_sound (10 ∷ []) y.1 r ends)
          ∙ ap (λ (z : ℕ × List ℕ). word ++ (decimal z.0 ++ (10 ∷ z.1))) same,
      subst (λ (z : ℕ × List ℕ). IsInRange least most z.0) same num.1,
    ))))

-- a name that is found stands there
pub name_sound : (bytes : List ℕ) (x : Name × List ℕ) → name_in bytes ≡ Some x → bytes ≡ name_text x.0 ++ x.1
name_sound bytes x e =
    option_and_then_some (λ (a : ℕ × List ℕ). option_and_then (λ rest. option_map (λ (b : ℕ × List ℕ). (record { nodelet = a.0; number = b.0 }, b.1)) (number_in 0 (2 ^ 64 - 1) rest)) (behind (46 ∷ []) a.1)) (number_in 0 (2 ^ 32 - 1) bytes) x e (λ a first e2.
    option_and_then_some (λ rest. option_map (λ (b : ℕ × List ℕ). (record { nodelet = a.0; number = b.0 }, b.1)) (number_in 0 (2 ^ 64 - 1) rest)) (behind (46 ∷ []) a.1) x e2 (λ rest dotted e3.
    map_some (λ (b : ℕ × List ℕ). (record { nodelet = a.0; number = b.0 }, b.1)) (number_in 0 (2 ^ 64 - 1) rest) x e3 (λ b second same.
    (number_sound 0 (2 ^ 32 - 1) bytes a first).0 ∙ ap (λ t. decimal a.0 ++ t) (behind_sound (46 ∷ []) a.1 rest dotted) ∙ ap (λ t. decimal a.0 ++ (46 ∷ t)) (number_sound 0 (2 ^ 64 - 1) rest b second).0
    ∙ sym (append_assoc (decimal a.0) (46 ∷ decimal b.0) b.1) ∙ ap (λ (z : Name × List ℕ). name_text z.0 ++ z.1) same)))

-- a name at the end of a line stands there
name_end_sound : (bytes : List ℕ) (x : Name × List ℕ) → name_at_end bytes ≡ Some x → bytes ≡ name_text x.0 ++ (10 ∷ x.1)
name_end_sound bytes x e =
    option_and_then_some (λ (x : Name × List ℕ). option_map (λ rest. (x.0, rest)) (behind (10 ∷ []) x.1)) (name_in bytes) x e (λ z name_is e2.
    map_some (λ rest. (z.0, rest)) (behind (10 ∷ []) z.1) x e2 (λ r ends same.
    name_sound bytes z name_is ∙ ap (λ t. name_text z.0 ++ t) (behind_sound (10 ∷ []) z.1 r ends) ∙ ap (λ (w : Name × List ℕ). name_text w.0 ++ (10 ∷ w.1)) same))

-- the end of an action's line stands there
child_sound : (name : Name) (bytes : List ℕ) (o : Option (List ℕ)) (y : Option Name × List ℕ) → behind (10 ∷ []) bytes ≡ o → child_or bytes o ≡ Some y
    → codes "act " ++ (name_text name ++ bytes) ≡ step_line (Act name y.0) ++ y.1
child_sound name bytes (Some rest) y ends e =
    let same : (None, rest) ≡ y = grind (arith, e) in
    ap (λ t. codes "act " ++ (name_text name ++ t)) (behind_sound (10 ∷ []) bytes rest ends) ∙ join3 (codes "act ") (name_text name) (10 ∷ []) rest
    ∙ ap (λ (z : Option Name × List ℕ). step_line (Act name z.0) ++ z.1) same
child_sound name bytes None y ends e =
    map_some (λ (x : Name × List ℕ). (Some x.0, x.1)) (option_and_then name_at_end (behind (codes " spawn ") bytes)) y e (λ x found same.
    option_and_then_some name_at_end (behind (codes " spawn ") bytes) x found (λ rest spawns child_is.
    ap (λ t. codes "act " ++ (name_text name ++ t)) (behind_sound (codes " spawn ") bytes rest spawns ∙ ap (λ t. codes " spawn " ++ t) (name_end_sound rest x child_is))
    ∙ join4 (codes "act ") (name_text name) (codes " spawn ") (name_text x.0) (10 ∷ x.1)
    ∙ sym (append_assoc (codes "act " ++ name_text name ++ codes " spawn " ++ name_text x.0) (10 ∷ []) x.1)
    ∙ ap (λ (z : Option Name × List ℕ). step_line (Act name z.0) ++ z.1) same))

-- an action that is found stands there
act_sound : (bytes : List ℕ) (x : Step × List ℕ) (n : ℕ) → act_in bytes ≡ Some x → (bytes ≡ step_line x.0 ++ x.1) × IsAmong n x.0
act_sound bytes x n e =
    option_and_then_some (λ rest. option_and_then (λ (a : Name × List ℕ). option_map (λ (y : Option Name × List ℕ). (Act a.0 y.0, y.1)) (child_in a.1)) (name_in rest)) (behind (codes "act ") bytes) x e (λ rest starts e2.
    option_and_then_some (λ (a : Name × List ℕ). option_map (λ (y : Option Name × List ℕ). (Act a.0 y.0, y.1)) (child_in a.1)) (name_in rest) x e2 (λ a name_is e3.
    map_some (λ (y : Option Name × List ℕ). (Act a.0 y.0, y.1)) (child_in a.1) x e3 (λ y child_is same. (
      behind_sound (codes "act ") bytes rest starts ∙ ap (λ t. codes "act " ++ t) (name_sound rest a name_is)
          ∙ child_sound a.0 a.1 (behind (10 ∷ []) a.1) y refl child_is ∙ ap (λ (z : Step × List ℕ). step_line z.0 ++ z.1) same,
      subst (λ (z : Step × List ℕ). IsAmong n z.0) same tt,
    ))))

-- an application that is found stands there
apply_sound : (n : ℕ) (bytes : List ℕ) (x : Step × List ℕ) → 1 ≤ n → apply_in n bytes ≡ Some x → (bytes ≡ step_line x.0 ++ x.1) × IsAmong n x.0
apply_sound n bytes x some e =
    option_and_then_some (λ rest. option_and_then (λ (a : Name × List ℕ). option_map (λ (y : ℕ × List ℕ). (Apply a.0 y.0, y.1)) (count_in_line (32 ∷ []) 0 (n - 1) a.1)) (name_in rest)) (behind (codes "apply ") bytes) x e (λ rest starts e2.
    option_and_then_some (λ (a : Name × List ℕ). option_map (λ (y : ℕ × List ℕ). (Apply a.0 y.0, y.1)) (count_in_line (32 ∷ []) 0 (n - 1) a.1)) (name_in rest) x e2 (λ a name_is e3.
    map_some (λ (y : ℕ × List ℕ). (Apply a.0 y.0, y.1)) (count_in_line (32 ∷ []) 0 (n - 1) a.1) x e3 (λ y counted same.
    let at = line_sound (32 ∷ []) 0 (n - 1) a.1 y counted in
    let among : y.0 < n = omega (arith, at.1.1, some) in (
      behind_sound (codes "apply ") bytes rest starts ∙ ap (λ t. codes "apply " ++ t) (name_sound rest a name_is ∙ ap (λ t. name_text a.0 ++ t) at.0)
          ∙ join4 (codes "apply ") (name_text a.0) (32 ∷ []) (decimal y.0) (10 ∷ y.1)
          ∙ sym (append_assoc (codes "apply " ++ name_text a.0 ++ 32 ∷ [] ++ decimal y.0) (10 ∷ []) y.1)
          ∙ ap (λ (z : Step × List ℕ). step_line z.0 ++ z.1) same,
      subst (λ (z : Step × List ℕ). IsAmong n z.0) same among,
    ))))

-- a step that is found stands there
step_or_sound : (n : ℕ) (bytes : List ℕ) (o : Option (Step × List ℕ)) (x : Step × List ℕ) → 1 ≤ n → act_in bytes ≡ o → act_or n bytes o ≡ Some x → (bytes ≡ step_line x.0 ++ x.1) × IsAmong n x.0
step_or_sound n bytes (Some y) x some acts e = act_sound bytes x n (acts ∙ e)
step_or_sound n bytes None x some acts e = apply_sound n bytes x some e

pub step_sound : (n : ℕ) (bytes : List ℕ) (x : Step × List ℕ) → 1 ≤ n → step_in n bytes ≡ Some x → (bytes ≡ step_line x.0 ++ x.1) × IsAmong n x.0
step_sound n bytes x some e = step_or_sound n bytes (act_in bytes) x some refl e
