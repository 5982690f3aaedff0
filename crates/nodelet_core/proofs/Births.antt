-- A child that is born, here or elsewhere.
use Rattle.std.proofs.Common.{◌≡◌, ℕ, suc, ℤ, List, [], ◌∷◌, Bool, true, false, Option, Some, None, refl, sym, ap, ◌∙◌, subst}
use Rattle.std.specs.Prelude.{if◌then◌else◌, ◌==◌, ◌&&◌, option_map}
use Rattle.std.specs.List.{list_all}
use Rattle.world_model.specs.Action as act
use Rattle.world_model.specs.Effect.{birthplace}
use Rattle.threadlet_code.specs.declared.code.Code.{Code}
use Rattle.threadlet_code.specs.Machine.{State}
use Rattle.threadlet_state.specs.declared.context.Context as carried
use Rattle.threadlet_state.specs.Activations.{state_of}
use Rattle.threadlet_state.specs.Fit.{frames_fit}
use Rattle.nodelet_core.specs.declared.nodelet.Nodelet.{Nodelet}
use Rattle.nodelet_core.specs.declared.counting.Counted.{Counted}
use Rattle.nodelet_core.specs.declared.due.Hint.{Hint}
use Rattle.nodelet_core.specs.code.Dues.{hint_of, asked_hint}
use Rattle.core_model.specs.Contexts.{Context, Arrival}
use Rattle.nodelet_core.specs.Carried.{context_in}
use Rattle.nodelet_core.specs.code.Counted.{counted}
use Rattle.core_model.specs.Nodes.{Setup, Node, with_strand, moved_from, sent_away}
use Rattle.core_model.specs.Effects.{Effect, quiet, sending, only_to, nothing, child_of, counted_birth, effect}
use Rattle.core_model.specs.Runs.{went_on}
use Rattle.core_model.specs.Machine.{stamped_node}
use Rattle.nodelet_core.specs.Kept.{node_of, context_fits, all_fit}
use Rattle.nodelet_core.specs.code.Became.{Became}
use Rattle.nodelet_core.specs.Left.{Sent}
use Rattle.nodelet_core.specs.code.Doing.{SentMore, Left, goes_on_at, placed}
use Rattle.nodelet_core.proofs.Becoming.{settings_then, moved_stamped}
use Rattle.nodelet_core.proofs.Doing.{Leaves, nothing_counted}
use Rattle.nodelet_core.proofs.Stamps.{nothing_sent}

-- Where a child is born is decided by its hint as the code carries it.
birthplace_is : (n here : ℕ) (inner : Option act.Hint) → birthplace n here inner ≡ birthplace n here (option_map asked_hint (option_map hint_of inner))
birthplace_is n here None = refl
birthplace_is n here (Some hint) = refl

-- What is counted of a birth: where it was, if it was hinted, and whether the child was sent there.
abbrev pub of_birth : Bool → Option Hint → ℕ → Counted
of_birth sent hint home = record nothing_counted { sent_away = sent; spawned = true; bore_at = option_map (λ (_ : Hint). home) hint }

moved_keeps : (here k : ℕ) (v : Node) → (moved_from here k v).stamp ≡ v.stamp
moved_keeps here k v = by_place (k == here) refl
  where
    by_place : (t : Bool) → (k == here) ≡ t → (moved_from here k v).stamp ≡ v.stamp
    by_place true e = rw e refl
    by_place false e = rw e refl

-- It does not touch the stamp.
pub birth_stamp : (n here from home : ℕ) (sent : Bool) (hint : Option Hint) (w : Node) → (counted n here (record (of_birth sent hint home) { moved_from = Some from }) w).stamp ≡ w.stamp
birth_stamp n here from home sent hint w = moved_keeps here from (counted n here (of_birth sent hint home) w) ∙ rest sent hint
  where
    rest : (b : Bool) (h : Option Hint) → (counted n here (of_birth b h home) w).stamp ≡ w.stamp
    rest true None = refl
    rest true (Some h) = refl
    rest false None = refl
    rest false (Some h) = refl

module _ (m : Setup) (here stamp : ℕ) (v : Node) (x : Context) (state : State) (d function : ℕ) (args : List ℤ) (inner : Option act.Hint) (hint : Option Hint) (home : ℕ)
    (same : option_map hint_of inner ≡ hint) (at_home : home ≡ birthplace m.nodelets here (option_map asked_hint hint)) where
  abbrev child : Context
  child = child_of m here v x state d function args home

  abbrev numbered : Node
  numbered = counted_birth inner home (record v { next_number = suc v.next_number })

  abbrev born_here : Effect
  born_here = record (quiet (with_strand numbered child) []) { child = Some child.name }

  abbrev born_away : Effect
  born_away = record (sending (sent_away numbered) (only_to home (Arrival child))) { child = Some child.name }

  abbrev born_at : ℕ → Effect
  born_at k =
      let y : Context = child_of m here v x state d function args k in
      let w : Node = counted_birth inner k (record v { next_number = suc v.next_number }) in
      if k == here then record (quiet (with_strand w y) []) { child = Some y.name }
      else record (sending (sent_away w) (only_to k (Arrival y))) { child = Some y.name }

  effect_is : (b : Bool) → (home == here) ≡ b → (if b then born_here else born_away) ≡ effect m here v x state (act.Spawn d function args inner)
  effect_is b e =
      let k : home ≡ birthplace m.nodelets here inner = at_home ∙ ap (λ o. birthplace m.nodelets here (option_map asked_hint o)) (sym same) ∙ sym (birthplace_is m.nodelets here inner) in
      ap (λ (t : Bool). if t then born_here else born_away) (sym e) ∙ ap born_at k

  node_here : (y : Context) (o : Option Hint) → option_map hint_of inner ≡ o →
      counted m.nodelets here (of_birth false o home) (stamped_node stamp (with_strand v y)) ≡ stamped_node stamp (with_strand numbered y)
  node_here y o e = subst (λ o. counted m.nodelets here (of_birth false o home) (stamped_node stamp (with_strand v y)) ≡ stamped_node stamp (with_strand numbered y)) e (by inner)
    where
      by : (i : Option act.Hint) → counted m.nodelets here (of_birth false (option_map hint_of i) home) (stamped_node stamp (with_strand v y))
          ≡ stamped_node stamp (with_strand (counted_birth i home (record v { next_number = suc v.next_number })) y)
      by None = refl
      by (Some h) = refl

  node_away : (o : Option Hint) → option_map hint_of inner ≡ o → counted m.nodelets here (of_birth true o home) (stamped_node stamp v) ≡ stamped_node stamp (sent_away numbered)
  node_away o e = subst (λ o. counted m.nodelets here (of_birth true o home) (stamped_node stamp v) ≡ stamped_node stamp (sent_away numbered)) e (by inner)
    where
      by : (i : Option act.Hint) → counted m.nodelets here (of_birth true (option_map hint_of i) home) (stamped_node stamp v)
          ≡ stamped_node stamp (sent_away (counted_birth i home (record v { next_number = suc v.next_number })))
      by None = refl
      by (Some h) = refl

  -- A child that is born elsewhere is sent there.
  pub leaves_away : (home == here) ≡ false → (y : Context) → y ≡ child →
      Leaves m.nodelets here stamp (of_birth true hint home) v [] (only_to home (Arrival y)) (effect m here v x state (act.Spawn d function args inner))
  leaves_away e y is = subst (Leaves m.nodelets here stamp (of_birth true hint home) v [] (only_to home (Arrival y))) (effect_is false e)
      (record { node = node_away hint same; answer = refl; bodies = ap (λ (z : Context). only_to home (Arrival z)) is })

  -- One that is born here stands here.
  pub leaves_here : (home == here) ≡ true → (y : Context) → y ≡ child →
      Leaves m.nodelets here stamp (of_birth false hint home) (with_strand v y) [] nothing (effect m here v x state (act.Spawn d function args inner))
  leaves_here e y is = subst (Leaves m.nodelets here stamp (of_birth false hint home) (with_strand v y) [] nothing) (effect_is true e)
      (record {
        node = node_here y hint same ∙ ap (λ (z : Context). stamped_node stamp (with_strand numbered z)) is;
        answer = refl;
        bodies = refl;
      })

-- ---- a context that goes on where its child came

module _ (code : Code) (before mid after : Nodelet) (x y child : carried.Context) (c e : Counted) (sent : Sent)
    (came : Became (λ k w. with_strand w (context_in k child)) (child ∷ []) before mid)
    (went : Became (goes_on_at mid.nodelets mid.number c y) (placed mid.number y ∷ []) mid after) where
  -- It leaves what it would leave where the child had been among the contexts before.
  pub came_left : c ≡ e → y ≡ record x { frames = y.frames } → frames_fit code y.frames ≡ true → frames_fit code child.frames ≡ true →
      (resume : List ℤ → State) → state_of code y.frames ≡ resume [] → (count : ℕ) (f : Effect) →
      Leaves before.nodelets before.number (suc before.stamp) e (with_strand (node_of code before) (context_in code child)) [] nothing f →
      Left code (suc before.stamp) before after sent sent (went_on before.number (context_in code x) count resume f)
  came_left counts same fits child_fits resume resumes count f leaves =
      let v = node_of code before in
      let n = before.nodelets in
      let k = before.number in
      let s = suc before.stamp in
      let base : Node = with_strand v (context_in code child) in
      let z : Context = context_in code (placed k y) in
      let z_is : z ≡ record (context_in code x) { place = k; state = resume f.answer } =
      ap (λ (w : carried.Context). context_in code (placed k w)) same
      ∙ ap (λ t. let w : Context = record (context_in code x) { place = k; state = t } in w) (resumes ∙ ap resume leaves.answer) in
      record {
        settings = settings_then before mid after came.settings went.settings;
        node = went.node code
            ∙ ap (λ i. goes_on_at i mid.number c y code (node_of code mid)) came.settings.nodelets
            ∙ ap (λ i. goes_on_at n i c y code (node_of code mid)) came.settings.number
            ∙ ap (λ i. goes_on_at n k i y code (node_of code mid)) counts
            ∙ ap (goes_on_at n k e y code) (came.node code)
            ∙ ap (λ i. with_strand (moved_from k i (counted n k (record e { moved_from = None }) (stamped_node s base))) z) (ap (λ (w : carried.Context). w.place) same)
            ∙ ap (λ w. with_strand (moved_from k x.place w) z) leaves.node
            ∙ ap (λ w. with_strand w z) (moved_stamped k x.place s f.node)
            ∙ ap (λ w. stamped_node s (with_strand (moved_from k x.place f.node) w)) z_is;
        entries = went.entries ∙ came.entries;
        fits = λ all. went.keeps (context_fits code) (λ w late p. p) (ap (λ b. b && true) fits) (came.keeps (context_fits code) (λ w late p. p) (ap (λ b. b && true) child_fits) all);
        sends = subst (λ b. SentMore code n k s b sent sent) leaves.bodies (nothing_sent code n k s sent);
      }
