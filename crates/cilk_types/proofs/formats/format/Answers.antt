use Rattle.std.proofs.Common.{◌≡◌, ◌∙◌, ap, sym, suc, [], ◌++◌, drop, Some, None, append-nil, refl}
use Rattle.std.specs.Prelude.{unwrap_or}
use Rattle.std.proofs.Math.Seq.{drop-cons}
use Rattle.std.proofs.lemmas.List.{drop_all}
use Rattle.cilk_model.specs.Formats.{format_of, parts_from}
use Rattle.cilk_types.specs.declared.formats.Begun.{Begun}
use Rattle.cilk_types.specs.declared.formats.Begun.TheVariants as begun
use Rattle.cilk_types.specs.Reading.{begun_of}
use Rattle.cilk_types.specs.Lowered.{format_in, with_parts, going_on}
use Rattle.cilk_types.proofs.formats.format.Goals as goal

pub returns-in-None : goal.returns-in-None
unfolding format_in
returns-in-None c =
    let text = c.args.text.now in
    let i = c.loop-byte.byte-index in
    let rest = drop (suc i) text in
    let none : format_of text ≡ None =
    sym c.loop-byte.invariant
    ∙ ap (λ bytes. with_parts c.loop-byte.parts (parts_from (begun_of c.loop-byte.begun) bytes)) (drop-cons text i 0 c.loop-byte-test.true)
    ∙ c.in_ok-read_into.ensures rest ∙ ap (λ more. going_on c.read_into.new.parts more rest) c.in-None.is in
    c.new.ensures ∙ sym (ap (λ parts. unwrap_or parts []) none)

pub returns-in-Nothing : goal.returns-in-Nothing
unfolding format_in
returns-in-Nothing c =
    let text = c.args.text.now in
    let parts = c.loop-byte.parts in
    let all : format_of text ≡ Some (parts ++ []) =
    sym c.loop-byte.invariant
    ∙ ap (λ bytes. with_parts parts (parts_from (begun_of c.loop-byte.begun) bytes)) (drop_all c.loop-byte.byte-index text c.loop-byte-test.false)
    ∙ ap (λ b. with_parts parts (parts_from (begun_of b) [])) c.in-Nothing.is in
    sym (append-nil parts) ∙ sym (ap (λ o. unwrap_or o []) all)

-- a part that is begun is not whole
unfinished : (b : Begun) → (b ≡ begun.Nothing → ⊥) → parts_from (begun_of b) [] ≡ None
unfinished begun.Nothing h = absurd (h refl)
unfinished begun.Backslash h = refl
unfinished begun.Percent h = refl
unfinished begun.PercentL h = refl

pub returns-in_default : goal.returns-in_default
unfolding format_in
returns-in_default c =
    let text = c.args.text.now in
    let none : format_of text ≡ None =
    sym c.loop-byte.invariant
    ∙ ap (λ bytes. with_parts c.loop-byte.parts (parts_from (begun_of c.loop-byte.begun) bytes))
    (drop_all c.loop-byte.byte-index text c.loop-byte-test.false)
    ∙ ap (with_parts c.loop-byte.parts) (unfinished c.loop-byte.begun c.in_default.not-Nothing) in
    c.new-in_default.ensures ∙ sym (ap (λ parts. unwrap_or parts []) none)
