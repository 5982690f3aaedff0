-- Worked requests.
use Rattle.std.proofs.Common.{◌≡◌, ℕ, Some, None, [], ◌∷◌, map, ℤ, pos, negsuc, refl, codes}
use Rattle.std.specs.Fmt.{digits}
use Rattle.word_ops.specs.declared.place.Pos.{Pos}
use Rattle.word_ops.specs.declared.format.Part.TheVariants.{Byte, Long}
use Rattle.word_ops.specs.Formats.{printed}
use Rattle.data_layout.specs.Address.{owner_of}
use Rattle.data_layout.specs.Cursor.{first_cursor}
use Rattle.world_model.specs.Action as act
use Rattle.world_model.specs.Allocation.{taken_from}
use Rattle.service.specs.declared.requests.AllocKind.TheVariants.{Striped, Blocked, Local, Replicated}
use Rattle.service.specs.Requests.{taken_by, address_of, cursors_then, words_granted}

-- ---- a strand's request takes what the call takes, at any number of nodelets and any place

striped : (n here : ℕ) (blocks words : ℤ) → taken_by Striped blocks words ≡ taken_from n here (act.Striped words)
striped n here blocks words = refl

blocked : (n here : ℕ) (blocks words : ℤ) → taken_by Blocked blocks words ≡ taken_from n here (act.Blocked blocks words)
blocked n here blocks words = refl

local_words_at_the_owner :
    (n here : ℕ) (at : Pos) (blocks words address : ℤ) →
    taken_by (Local (owner_of address here n)) blocks words ≡ taken_from n here (act.Local at words address)
local_words_at_the_owner n here at blocks words address = refl

replicated_words : (n here : ℕ) (blocks words : ℤ) → taken_by Replicated blocks words ≡ taken_from n here (act.Replicated words)
replicated_words n here blocks words = refl

-- ---- what is taken

words_of_nodelet_3_are_in_view_35 : taken_by (Local 3) (pos 7) (pos 5) ≡ Some (35, pos 5)
words_of_nodelet_3_are_in_view_35 = refl

four_blocks_of_two_words : taken_by Blocked (pos 4) (pos 2) ≡ Some (1, pos 8)
four_blocks_of_two_words = refl

blocks_of_three_words_are_none : taken_by Blocked (pos 1) (pos 3) ≡ None
blocks_of_three_words_are_none = refl

a_product_is_never_cut : taken_by Blocked (pos 1152921504606846977) (pos 16) ≡ Some (4, pos 18446744073709551632)
a_product_is_never_cut = refl

-- ---- what is answered at 4 nodelets, one request after the other

fresh : ℕ → ℕ
fresh = first_cursor 4 0 0

four_blocks_begin_at_offset_8 : address_of fresh (taken_by Blocked (pos 4) (pos 2)) ≡ pos 1099511627784
unfolding fresh
four_blocks_begin_at_offset_8 = refl

and_the_next_block_at_offset_16 :
    address_of (cursors_then 4 fresh (taken_by Blocked (pos 4) (pos 2))) (taken_by Blocked (pos 1) (pos 2)) ≡ pos 1099511627792
unfolding fresh
and_the_next_block_at_offset_16 = refl

no_block_is_refused : address_of fresh (taken_by Blocked (pos 0) (pos 2)) ≡ pos 0
unfolding fresh
no_block_is_refused = refl

a_refused_request_moves_no_cursor :
    map (cursors_then 4 fresh (taken_by Blocked (pos 1) (pos 3))) (0 ∷ 1 ∷ 2 ∷ 31 ∷ 32 ∷ []) ≡ map fresh (0 ∷ 1 ∷ 2 ∷ 31 ∷ 32 ∷ [])
unfolding fresh
a_refused_request_moves_no_cursor = refl

-- ---- how many words are granted

eight_words_are_granted : words_granted (taken_by Blocked (pos 4) (pos 2)) ≡ 8
eight_words_are_granted = refl

so_many_words_that_no_view_has_room_for_them : words_granted (taken_by Striped (pos 0) (pos 4294967297)) ≡ 0
so_many_words_that_no_view_has_room_for_them = refl

fewer_than_none : words_granted (taken_by Replicated (pos 0) (negsuc 0)) ≡ 0
fewer_than_none = refl

-- ---- what is printed

the_least_word_and_a_newline :
    printed (Long ∷ Byte 10 ∷ []) (negsuc 9223372036854775807 ∷ []) ≡ codes "-9223372036854775808\n"
unfolding digits
the_least_word_and_a_newline = refl

words_in_their_order : printed (Byte 120 ∷ Long ∷ Byte 32 ∷ Long ∷ []) (pos 2 ∷ negsuc 6 ∷ []) ≡ codes "x2 -7"
unfolding digits
words_in_their_order = refl
