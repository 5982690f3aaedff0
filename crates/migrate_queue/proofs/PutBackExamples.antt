-- What is taken, on small lists.
use Rattle.std.proofs.Common.{◌≡◌, ℕ, [], ◌∷◌, Some, None, refl}
use Rattle.migrate_queue.specs.PutBack.{still_taken}

all_is_taken_where_none_is_put_back : still_taken {A = ℕ} (7 ∷ 9 ∷ []) None ≡ 7 ∷ 9 ∷ []
all_is_taken_where_none_is_put_back = refl

the_last_is_put_back : still_taken {A = ℕ} (7 ∷ 9 ∷ []) (Some 9) ≡ 7 ∷ []
the_last_is_put_back = refl

the_only_one_is_put_back : still_taken {A = ℕ} (7 ∷ []) (Some 7) ≡ []
the_only_one_is_put_back = refl
