-- Headers are read from their lines.
use Rattle.std.proofs.Common.{◌≡◌, ◌<◌, ◌^◌, ◌-◌, ℕ, true, false, List, ◌∷◌, ◌++◌, codes, Option, Some, refl, ap, ◌∙◌, append_assoc, arith}
use Rattle.std.specs.Prelude.{Bool}
use Rattle.std.specs.Option.{option_and_then, option_map}
use Rattle.std.specs.Fmt.{decimal}
use Rattle.std.specs.Str.{bytes_eq}
use Rattle.code_text.specs.declared.header.Header.{Header}
use Rattle.code_text.specs.Names.{flag_text}
use Rattle.code_text.specs.Lines.{header_text}
use Rattle.code_text.specs.Reading.{field, header_from, header_like, header_in}
use Rattle.code_text.specs.Codes.{IsSmall}
use Rattle.code_text.proofs.Cuts.{Lacks, lacks_both, cut_finds}
use Rattle.code_text.proofs.Numerals.{lacks_decimal, count_finds, index_finds}
use Rattle.code_text.proofs.LineFinds.{kept_finds, lacks_known}

-- the numbers of a header are of their sizes
pub record IsHeader (h : Header) : Type 0 where
  pub params : IsSmall h.params
  pub slots : IsSmall h.slots
  pub height : IsSmall h.height
  pub size : h.length < 2 ^ 64

-- ten pieces joined from either end
unjoin : (a b c d e f g h i j : List ℕ) → a ++ b ++ c ++ d ++ e ++ f ++ g ++ h ++ i ++ j ≡ a ++ (b ++ (c ++ (d ++ (e ++ (f ++ (g ++ (h ++ (i ++ j))))))))
unjoin a b c d e f g h i j =
    append_assoc (a ++ b ++ c ++ d ++ e ++ f ++ g ++ h) i j ∙ append_assoc (a ++ b ++ c ++ d ++ e ++ f ++ g) h (i ++ j) ∙ append_assoc (a ++ b ++ c ++ d ++ e ++ f) g (h ++ (i ++ j))
    ∙ append_assoc (a ++ b ++ c ++ d ++ e) f (g ++ (h ++ (i ++ j))) ∙ append_assoc (a ++ b ++ c ++ d) e (f ++ (g ++ (h ++ (i ++ j)))) ∙ append_assoc (a ++ b ++ c) d (e ++ (f ++ (g ++ (h ++ (i ++ j)))))
    ∙ append_assoc (a ++ b) c (d ++ (e ++ (f ++ (g ++ (h ++ (i ++ j)))))) ∙ append_assoc a b (c ++ (d ++ (e ++ (f ++ (g ++ (h ++ (i ++ j)))))))

-- a header's text, joined from the end
abbrev spread : Header → List ℕ
spread h =
    codes "function params " ++ (decimal h.params ++ (codes " slots " ++ (decimal h.slots ++ (codes " height " ++ (decimal h.height
    ++ (codes " spawns " ++ (flag_text h.spawns ++ (codes " length " ++ decimal h.length))))))))

spread_is : (h : Header) → header_text h ≡ spread h
spread_is h =
    unjoin (codes "function params ") (decimal h.params) (codes " slots ") (decimal h.slots) (codes " height ") (decimal h.height) (codes " spawns ") (flag_text h.spawns) (codes " length ") (decimal h.length)

-- where something is found, what is done with it is done
pub on_some : {A B : Type 0} (f : A → Option B) (o : Option A) (x : A) → o ≡ Some x → option_and_then f o ≡ f x
on_some f o x e = ap (option_and_then f) e

lacks_flag : (b : ℕ) (flag : Bool) → Lacks b (codes "0") → Lacks b (codes "1") → Lacks b (flag_text flag)
lacks_flag b true zero one = one
lacks_flag b false zero one = zero

flag_finds : (flag : Bool) → bytes_eq (flag_text flag) (codes "1") ≡ flag
flag_finds true = refl
flag_finds false = refl

-- the numbers of a header are read from their texts
from_finds : (h : Header) → IsHeader h → header_from (decimal h.params) (decimal h.slots) (decimal h.height) (flag_text h.spawns) (decimal h.length) ≡ Some h
from_finds h is =
    on_some _ _ h.params (index_finds h.params is.params) ∙ on_some _ _ h.slots (index_finds h.slots is.slots) ∙ on_some _ _ h.height (index_finds h.height is.height)
    ∙ ap (option_map (λ size. record { params = h.params; slots = h.slots; height = h.height; spawns = bytes_eq (flag_text h.spawns) (codes "1"); length = size }))
    (count_finds h.length 0 (2 ^ 64 - 1) (omega arith, omega (arith, is.size)) (omega arith))
    ∙ ap (λ b. Some (record { params = h.params; slots = h.slots; height = h.height; spawns = b; length = h.length })) (flag_finds h.spawns)

like_finds : (h : Header) → IsHeader h → header_like (spread h) ≡ Some h
like_finds h is =
    let t5 = codes "length " ++ decimal h.length in
    let t4 = codes "spawns " ++ (flag_text h.spawns ++ (32 ∷ t5)) in
    let t3 = codes "height " ++ (decimal h.height ++ (32 ∷ t4)) in
    let t2 = codes "slots " ++ (decimal h.slots ++ (32 ∷ t3)) in
    on_some _ (field (codes "params " ++ (decimal h.params ++ (32 ∷ t2)))) (decimal h.params, t2) (cut_finds 32 (decimal h.params) t2 (lacks_decimal 32 h.params refl (omega (arith, is.params))))
    ∙ on_some _ (field t2) (decimal h.slots, t3) (cut_finds 32 (decimal h.slots) t3 (lacks_decimal 32 h.slots refl (omega (arith, is.slots))))
    ∙ on_some _ (field t3) (decimal h.height, t4) (cut_finds 32 (decimal h.height) t4 (lacks_decimal 32 h.height refl (omega (arith, is.height))))
    ∙ on_some _ (field t4) (flag_text h.spawns, t5) (cut_finds 32 (flag_text h.spawns) t5 (lacks_flag 32 h.spawns (refl, tt) (refl, tt)))
    ∙ from_finds h is

-- a header is found
pub header_finds : (h : Header) → IsHeader h → header_in (header_text h) ≡ Some h
header_finds h is = kept_finds header_text h (header_like (header_text h)) (ap header_like (spread_is h) ∙ like_finds h is)

-- its text has no newline
pub lacks_header : (h : Header) → IsHeader h → Lacks 10 (header_text h)
lacks_header h is =
    let k1 = codes "function params " in let k2 = codes " slots " in let k3 = codes " height " in let k4 = codes " spawns " in let k5 = codes " length " in
    let p = decimal h.params in let s = decimal h.slots in let t = decimal h.height in let f = flag_text h.spawns in
    lacks_both 10 (k1 ++ p ++ k2 ++ s ++ k3 ++ t ++ k4 ++ f ++ k5) (decimal h.length)
    (lacks_both 10 (k1 ++ p ++ k2 ++ s ++ k3 ++ t ++ k4 ++ f) k5
    (lacks_both 10 (k1 ++ p ++ k2 ++ s ++ k3 ++ t ++ k4) f
    (lacks_both 10 (k1 ++ p ++ k2 ++ s ++ k3 ++ t) k4
    (lacks_both 10 (k1 ++ p ++ k2 ++ s ++ k3) t
    (lacks_both 10 (k1 ++ p ++ k2 ++ s) k3
    (lacks_both 10 (k1 ++ p ++ k2) s
    (lacks_both 10 (k1 ++ p) k2
    (lacks_both 10 k1 p (lacks_known 10 k1 refl) (lacks_decimal 10 h.params refl (omega (arith, is.params))))
    (lacks_known 10 k2 refl)) (lacks_decimal 10 h.slots refl (omega (arith, is.slots))))
    (lacks_known 10 k3 refl)) (lacks_decimal 10 h.height refl (omega (arith, is.height))))
    (lacks_known 10 k4 refl)) (lacks_flag 10 h.spawns (refl, tt) (refl, tt)))
    (lacks_known 10 k5 refl)) (lacks_decimal 10 h.length refl is.size)
