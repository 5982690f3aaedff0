-- What instructions that name a slot do to a frame.
use Rattle.std.proofs.Common.{◌≡◌, ℕ, ◌<◌, List, take, drop, Some, sym, ap, ◌∙◌, subst, ℤ, pos}
use Rattle.std.specs.Prelude.{slice_get, slice_set, reverse, ◌∷◌}
use Rattle.std.proofs.Math.Seq.{take-set-lt}
use Rattle.std.proofs.lemmas.List.{drop-set-lt, get_or-take}
use Rattle.std.proofs.lemmas.Option.{get_or_from_slice_get}
use Rattle.threadlet_code.specs.declared.instr.Instr.TheVariants as by
use Rattle.world_model.specs.Activation.{word_at}
use Rattle.threadlet_code.specs.Machine as machine
use Rattle.threadlet_code.specs.Machine.{onward, push}
use Rattle.threadlet_state.specs.declared.frame.Frame.{Frame}
use Rattle.threadlet_state.specs.Activations.{activation}
use Rattle.threadlet_state.specs.Silent.{Leads}

-- The word in a slot.
pub slot_read : (slots : ℕ) (frame : Frame) (slot : ℕ) (word : ℤ) → slot < slots → slice_get frame.words slot ≡ Some word →
    word_at (activation slots frame).slots slot ≡ word
slot_read slots frame slot word lt e = get_or-take slots frame.words slot (pos 0) lt ∙ get_or_from_slice_get frame.words slot word (pos 0) e

-- A frame with other slots.
abbrev pub with_slots : machine.Frame → List ℤ → machine.Frame
with_slots frame slots = record frame { slots = slots }

-- A frame of the machine with such slots and such a stack.
abbrev with_words : Frame → List ℤ → List ℤ → machine.Frame
with_words frame slots stack = record { function = frame.function; at = frame.at; slots = slots; stack = stack; targets = frame.targets }

pub slot_written : (slots : ℕ) (frame : Frame) (slot : ℕ) (word : ℤ) → slot < slots →
    activation slots (record frame { words = slice_set frame.words slot word }) ≡ with_slots (activation slots frame) (slice_set (activation slots frame).slots slot word)
slot_written slots frame slot word lt =
    ap (λ l. with_words frame l (reverse (take frame.top (drop slots (slice_set frame.words slot word))))) (take-set-lt slots frame.words slot word lt)
    ∙ ap (λ l. with_words frame (slice_set (take slots frame.words) slot word) (reverse (take frame.top l))) (drop-set-lt slots frame.words slot word lt)

pub get_leads : (slot : ℕ) (word : ℤ) (before after : machine.Frame) → word_at before.slots slot ≡ word → after ≡ push word before → Leads (by.Get slot) before (onward after)
get_leads slot word before after read e code at callers =
    ap (λ w. onward (push w before) ∷ callers) read ∙ ap (λ (x : machine.Frame). onward x ∷ callers) (sym e)

pub set_leads : (slot : ℕ) (word : ℤ) (before rest after : machine.Frame) → before ≡ push word rest → after ≡ with_slots rest (slice_set rest.slots slot word) →
    Leads (by.Set slot) before (onward after)
set_leads slot word before rest after took e =
    subst (λ x. Leads (by.Set slot) x (onward after)) (sym took) (λ code at callers. ap (λ (x : machine.Frame). onward x ∷ callers) (sym e))
