use Rattle.std.proofs.Common.{refl}
use Rattle.code_text.proofs.spelling.spell_header.Goals as goal

pub returns : goal.returns
returns c =
    rw c.in_ok-push_number-4.ensures (rw c.in_ok-extend_from_slice-2.ensures.ok (rw c.as_bytes.ensures.value (rw c.name_of_flag.ensures (rw c.in_ok-extend_from_slice.ensures.ok
    (rw c.in_ok-push_number-3.ensures (rw c.in_ok-push_number-2.ensures (rw c.in_ok-push_number.ensures (rw c.new-text.ensures (rw c.from.ensures (rw c.from-2.ensures (rw c.from-3.ensures refl)))))))))))
