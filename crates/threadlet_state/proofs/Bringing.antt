-- Results that go to their slots.
use Rattle.std.proofs.Common.{◌≡◌, ℕ, zero, suc, ◌<◌, ◌≤◌, List, [], ◌∷◌, length, get_or, take, drop, Some, None, refl, sym, ap, ◌∙◌, arith, ℤ, min, ⊎_elim}
use Rattle.std.specs.Prelude.{slice_set, reverse}
use Rattle.std.proofs.Math.Seq.{take-set-lt}
use Rattle.std.proofs.lemmas.Bool.{cases_lt}
use Rattle.std.proofs.lemmas.List.{drop_all, drop-set-lt}
use Rattle.threadlet_code.specs.Fitting.{AreSlots}
use Rattle.threadlet_code.specs.declared.instr.Instr.TheVariants as by
use Rattle.threadlet_code.specs.Machine as machine
use Rattle.world_model.specs.Activation.{Slots, Targets, joined}
use Rattle.threadlet_state.specs.declared.frame.Frame.{Frame}
use Rattle.threadlet_state.specs.Activations.{activation}

-- ---- one after the other

-- So many results went to their slots.
pub record AreBrought (first : Slots) (targets : Targets) (results : List ℤ) (n : ℕ) (now : Slots) : Type 0 where
  pub rest : joined now (drop n targets) (drop n results) ≡ joined first targets results
  pub size : length now ≡ length first

joined_no_more : (words : Slots) (targets : Targets) → joined words targets [] ≡ words
joined_no_more words [] = refl
joined_no_more words (target ∷ targets) = refl

-- All of them.
pub all_brought : (first : Slots) (targets : Targets) (results : List ℤ) (n : ℕ) (now : Slots) → n ≡ min (length targets) (length results) →
    AreBrought first targets results n now → now ≡ joined first targets results
all_brought first targets results n now e so_far =
    ⊎_elim
    (λ fewer. ap (λ l. joined now l (drop n results)) (sym (drop_all n targets (omega (arith, e, fewer)))) ∙ so_far.rest)
    (λ more.
    sym (joined_no_more now (drop n targets))
    ∙ ap (joined now (drop n targets)) (sym (drop_all n results (omega (arith, e, more))))
    ∙ so_far.rest)
    (cases_lt (length targets) (length results))

-- A target is a slot.
pub slot_at : (slots : ℕ) (targets : Targets) (n slot : ℕ) → AreSlots slots targets → n < length targets → Some slot ≡ get_or targets n None → slot < slots
slot_at slots [] n slot are lt e = absurd (omega arith)
slot_at slots (None ∷ targets) zero slot are lt e = absurd (let wrong : Some slot ≡ None = e in cc)
slot_at slots (None ∷ targets) (suc n) slot are lt e = slot_at slots targets n slot are (omega arith) e
slot_at slots (Some other ∷ targets) zero slot are lt e = let same : slot ≡ other = cc in omega (arith, are.0, same)
slot_at slots (Some other ∷ targets) (suc n) slot are lt e = slot_at slots targets n slot are.1 (omega arith) e

pub slots_among : (slots more : ℕ) (targets : Targets) → slots ≤ more → AreSlots slots targets → AreSlots more targets
slots_among slots more [] le are = tt
slots_among slots more (None ∷ targets) le are = slots_among slots more targets le are
slots_among slots more (Some slot ∷ targets) le are = (omega (arith, are.0), slots_among slots more targets le are.1)

-- ---- in the words of a frame

module _ (slots : ℕ) where
  joined_front : (targets : Targets) (results words : List ℤ) → AreSlots slots targets → take slots (joined words targets results) ≡ joined (take slots words) targets results
  joined_front [] results words are = refl
  joined_front (target ∷ targets) [] words are = refl
  joined_front (None ∷ targets) (result ∷ results) words are = joined_front targets results words are
  joined_front (Some slot ∷ targets) (result ∷ results) words are =
      joined_front targets results (slice_set words slot result) are.1
      ∙ ap (λ l. joined l targets results) (take-set-lt slots words slot result are.0)

  joined_behind : (targets : Targets) (results words : List ℤ) → AreSlots slots targets → drop slots (joined words targets results) ≡ drop slots words
  joined_behind [] results words are = refl
  joined_behind (target ∷ targets) [] words are = refl
  joined_behind (None ∷ targets) (result ∷ results) words are = joined_behind targets results words are
  joined_behind (Some slot ∷ targets) (result ∷ results) words are =
      joined_behind targets results (slice_set words slot result) are.1 ∙ drop-set-lt slots words slot result are.0

  -- A frame of the machine with other slots, another stack and no children to join.
  abbrev without_children : Frame → List ℤ → List ℤ → machine.Frame
  without_children frame front stack = record { function = frame.function; at = frame.at; slots = front; stack = stack; targets = [] }

  -- All results in their slots, and no child to be joined.
  pub frame_joined : (frame : Frame) (results : List ℤ) → AreSlots slots frame.targets →
      activation slots (record frame { words = joined frame.words frame.targets results; targets = [] }) ≡ machine.answered by.Sync results (activation slots frame)
  frame_joined frame results are =
      ap (λ l. without_children frame l (reverse (take frame.top (drop slots (joined frame.words frame.targets results))))) (joined_front frame.targets results frame.words are)
      ∙ ap (λ l. without_children frame (joined (take slots frame.words) frame.targets results) (reverse (take frame.top l))) (joined_behind frame.targets results frame.words are)
