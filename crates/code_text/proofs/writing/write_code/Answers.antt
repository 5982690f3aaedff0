use Rattle.std.proofs.Common.{refl}
use Rattle.code_text.proofs.writing.write_code.Goals as goal

pub returns : goal.returns
returns c =
    rw c.in_ok-push_line-2.ensures (rw c.in_ok-push_functions.ensures (rw c.in_ok-push_count-5.ensures (rw c.in_ok-push_count-4.ensures
    (rw c.in_ok-push_formats.ensures (rw c.in_ok-push_count-3.ensures (rw c.in_ok-push_count-2.ensures (rw c.in_ok-push_count.ensures
    (rw c.in_ok-push_line.ensures (rw c.new-out.ensures (rw c.from.ensures (rw c.from-2.ensures (rw c.from-3.ensures (rw c.len.ensures (rw c.len-2.ensures refl))))))))))))))
