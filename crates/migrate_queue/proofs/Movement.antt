-- Packets move: after a look at both ends, a flush and a look again, what is not delivered does not all wait in
-- the outbox, since a ring has a slot.
use Rattle.std.proofs.Common.{◌≡◌, ℕ, ◌+◌, ◌≤◌, ◌⊎◌, List, [], ◌++◌, length, sym, ap, ◌∙◌, ⊎_elim, arith}
use Rattle.std.proofs.lemmas.List.{length-append, append_cancel_left}
use Rattle.std.specs.Prelude.{option_to_list}
use Rattle.migrate_queue.specs.declared.link_out.LinkOut.{LinkOut}
use Rattle.migrate_queue.specs.declared.link_in.LinkIn.{LinkIn}
use Rattle.migrate_queue.specs.Links.{outbox, sent, slots, free_slots, taken, returned, known, ready, undelivered, IsSettled}

-- where none is ready after the second look, none left the outbox, and none was in the ring before
none_moved : {A : Type 0} (ready out ready' out' : List A) → ready' ++ out' ≡ ready ++ out → ready' ≡ [] → length ready + length out ≡ length out'
none_moved ready out ready' out' whole none =
    let counts : length ready' + length out' ≡ length ready + length out = sym (length-append ready' out') ∙ ap length whole ∙ length-append ready out in
    let zero : length ready' ≡ 0 = ap length none in
    omega arith

-- `found` and `before` after the first look, `flushed` after the flush, `brought` and `after` after the second look
pub ready_where_undelivered : (found flushed brought : LinkOut) (before after : LinkIn) (moved : ℕ)
    → IsSettled found before → slots found ≤ free_slots found + length (known before)
    → sent flushed ≡ sent found → moved + length (outbox flushed) ≡ length (outbox found)
    → (outbox flushed ≡ []) ⊎ (free_slots flushed ≡ 0) → free_slots found ≤ free_slots flushed + moved
    → IsSettled brought after → sent brought ≡ sent flushed → outbox brought ≡ outbox flushed → taken after ≡ taken before
    → ready after ≡ [] → undelivered brought after ≡ []
ready_where_undelivered found flushed brought before after moved settled room same_sent count stops free settled' same_sent' same_outbox same_taken none =
    let whole : undelivered brought after ≡ undelivered found before =
    append_cancel_left (taken before) (undelivered brought after) (undelivered found before)
    (ap (λ xs. xs ++ undelivered brought after) (sym same_taken) ∙ sym settled' ∙ same_sent' ∙ same_sent ∙ settled) in
    let still : length (ready before) + length (outbox found) ≡ length (outbox brought) = none_moved (ready before) (outbox found) (ready after) (outbox brought) whole none in
    let kept : length (outbox brought) ≡ length (outbox flushed) = ap length same_outbox in
    let in_ring : length (ready before) ≡ length (option_to_list (returned before)) + length (known before) = length-append (option_to_list (returned before)) (known before) in
    let slot : 1 ≤ slots found = found.has_slots in
    let empty : outbox flushed ≡ [] = ⊎_elim (λ e. e) (λ full. absurd (omega arith)) stops in
    ap (λ xs. xs ++ outbox brought) none ∙ same_outbox ∙ empty
