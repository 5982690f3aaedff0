-- From the start on, the nodelets have counted the traffic of the run.
use Rattle.std.proofs.Common.{◌≡◌, ℕ, ◌≤◌, List, map, refl, ap, ◌∙◌, arith, Bool, true, count_by}
use Rattle.std.proofs.Math.Path.{fun_ext}
use Rattle.word_ops.specs.declared.step.Step.{Step}
use Rattle.word_ops.specs.declared.traffic.Traffic.{Traffic}
use Rattle.word_ops.specs.Report.{below}
use Rattle.merge_law.specs.declared.event.Event.{Event}
use Rattle.merge_law.specs.Core.{Played}
use Rattle.merge_law.specs.Merge.{steps_of}
use Rattle.world_model.specs.World.{World}
use Rattle.world_model.specs.Run.{start}
use Rattle.world_model.specs.Traffic.{moves_in}
use Rattle.threadlet_code.specs.Breaches.{is_sound}
use Rattle.core_model.specs.Nodes.{Setup, Node}
use Rattle.core_model.specs.Machine.{Packet}
use Rattle.core_model.specs.Core.{start_core, setting_of}
use Rattle.core_model.specs.Counted.{by_pairs}
use Rattle.core_model.specs.Laws.{IsPlayed, CountsAreTraffic}
use Rattle.core_model.proofs.Invariant.Start.{starts}
use Rattle.core_model.proofs.Traffic.Notes.{is_pair, is_number}
use Rattle.core_model.proofs.Traffic.EventCounts.{births_told, posts_told, dones_told, turns_told, applied_told}
use Rattle.core_model.proofs.Traffic.CountsByPlay.{Adds, all_told, all_added}
use Rattle.core_model.proofs.Traffic.CountsByEvent.{moves_add, births_add, posts_add, dones_add, turns_add, applied_add}

abbrev traffic : ℕ → List ℕ → List ℕ → List ℕ → List ℕ → List ℕ → List ℕ → Traffic
traffic n ms bs ps ds ts rs = record { n = n; moves = ms; births = bs; posts = ps; dones = ds; turns = ts; applied = rs }

same_pairs : (n : ℕ) (f g : ℕ → ℕ → ℕ) → ((i j : ℕ) → f i j ≡ g i j) → by_pairs n f ≡ by_pairs n g
same_pairs n f g e = ap (by_pairs n) (fun_ext (λ i. fun_ext (λ j. e i j)))

same_numbers : (n : ℕ) (f g : ℕ → ℕ) → ((k : ℕ) → f k ≡ g k) → map f (below n) ≡ map g (below n)
same_numbers n f g e = ap (λ h. map h (below n)) (fun_ext e)

same_traffic : (n : ℕ) (ms ms' bs bs' ps ps' ds ds' ts ts' rs rs' : List ℕ) → ms ≡ ms' → bs ≡ bs' → ps ≡ ps' → ds ≡ ds' → ts ≡ ts' → rs ≡ rs' → traffic n ms bs ps ds ts rs ≡ traffic n ms' bs' ps' ds' ts' rs'
same_traffic n ms ms' bs bs' ps ps' ds ds' ts ts' rs rs' e1 e2 e3 e4 e5 e6 =
    ap (λ l. traffic n l bs ps ds ts rs) e1 ∙ ap (λ l. traffic n ms' l ps ds ts rs) e2 ∙ ap (λ l. traffic n ms' bs' l ds ts rs) e3
    ∙ ap (λ l. traffic n ms' bs' ps' l ts rs) e4 ∙ ap (λ l. traffic n ms' bs' ps' ds' l rs) e5 ∙ ap (λ l. traffic n ms' bs' ps' ds' ts' l) e6

module _ (u : Setup) (sound : is_sound u.code ≡ true) (some : 1 ≤ u.nodelets) (events : List Event) (played : Played Node Packet) (legal : IsPlayed u events played) where
  -- what a nodelet has counted that began with nothing
  from_start : {A : Type 0} (f : Node → ℕ) (j : ℕ) (told : World → World → Step → List A) (p : A → Bool) → f ((start_core u).nodes j) ≡ 0 → Adds u sound some f j told p →
      f (played.core.nodes j) ≡ count_by p (all_told u sound some f j told p (start (setting_of u)) (steps_of played.told))
  from_start f j told p none adds =
      let all = all_added u sound some f j told p adds events (start_core u) (start (setting_of u)) played (starts u sound some) (refl, tt) legal in omega arith

pub counts_are_traffic : CountsAreTraffic
counts_are_traffic u sound some events played legal = same_traffic u.nodelets _ _ _ _ _ _ _ _ _ _ _ _
    (same_pairs u.nodelets _ _ (λ i j. from_start u sound some events played legal (λ (v : Node). v.tallies.moves i) j moves_in (is_pair i j) refl (moves_add u sound some i j)))
    (same_pairs u.nodelets _ _ (λ i j. from_start u sound some events played legal (λ (v : Node). v.tallies.births j) i (births_told u) (is_pair i j) refl (births_add u sound some i j)))
    (same_pairs u.nodelets _ _ (λ i j. from_start u sound some events played legal (λ (v : Node). v.tallies.posts j) i (posts_told u) (is_pair i j) refl (posts_add u sound some i j)))
    (same_pairs u.nodelets _ _ (λ i j. from_start u sound some events played legal (λ (v : Node). v.tallies.dones j) i (dones_told u) (is_pair i j) refl (dones_add u sound some i j)))
    (same_numbers u.nodelets _ _ (λ k. from_start u sound some events played legal (λ (v : Node). v.served) k (turns_told u) (is_number k) refl (turns_add u sound some k)))
    (same_numbers u.nodelets _ _ (λ k. from_start u sound some events played legal (λ (v : Node). v.tallies.applied) k (applied_told u) (is_number k) refl (applied_add u sound some k)))
