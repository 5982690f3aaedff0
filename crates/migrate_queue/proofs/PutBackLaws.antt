-- Packets that are put back.
use Rattle.std.proofs.Common.{◌≡◌, List, [], ◌∷◌, ◌++◌, Option, Some, None, sym, ap, ◌∙◌}
use Rattle.std.proofs.lemmas.List.{append-nil}
use Rattle.std.specs.Prelude.{option_to_list}
use Rattle.world_model.specs.Step.{last_of}
use Rattle.migrate_queue.specs.PutBack.{still_taken}
use Rattle.migrate_queue.proofs.LastOf.{last_of-split}

-- where none is put back, all that came in is taken
pub still_taken-all : {A : Type 0} (received : List A) (back : Option A) → still_taken received back ++ option_to_list back ≡ received → back ≡ None → still_taken received back ≡ received
still_taken-all received None whole none = sym (append-nil (still_taken received None)) ∙ whole
still_taken-all received (Some x) whole none = absurd (cc none)

-- where the last one taken is put back, it is the last that came in
pub still_taken-last : {A : Type 0} (received : List A) (back : Option A) (x : A) → still_taken received back ++ option_to_list back ≡ received → back ≡ None → last_of (still_taken received back) ≡ Some x → still_taken received (Some x) ++ x ∷ [] ≡ received
still_taken-last received back x whole none last =
    last_of-split received x (sym (ap last_of (still_taken-all received back whole none)) ∙ last)
