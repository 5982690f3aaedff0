-- An event leaves what an outcome says.
use Rattle.std.proofs.Common.{◌≡◌, ℕ, suc, ℤ, List, [], ◌∷◌, true, false, Option, Some, None, refl, sym, ap, ◌∙◌, subst}
use Rattle.std.specs.Prelude.{◌&&◌}
use Rattle.std.specs.List.{list_all}
use Rattle.word_ops.specs.declared.name.Name.{Name}
use Rattle.word_ops.specs.declared.place.Pos.{Pos}
use Rattle.word_ops.specs.declared.ending.TrapKind.{TrapKind}
use Rattle.world_model.specs.Action.{Action}
use Rattle.threadlet_code.specs.declared.code.Code.{Code}
use Rattle.threadlet_code.specs.Machine.{State, step}
use Rattle.threadlet_state.specs.declared.context.Context as carried
use Rattle.threadlet_state.specs.Activations.{state_of}
use Rattle.threadlet_state.specs.Answered.{IsAnswered}
use Rattle.nodelet_core.specs.declared.nodelet.Nodelet.{Nodelet}
use Rattle.nodelet_core.specs.declared.due.Due.{Due}
use Rattle.nodelet_core.specs.declared.due.Due.TheVariants as due
use Rattle.nodelet_core.specs.declared.counting.Counted.{Counted}
use Rattle.nodelet_core.specs.declared.counting.Posts.TheVariants as posts
use Rattle.core_model.specs.Contexts.{Context}
use Rattle.nodelet_core.specs.Carried.{context_in}
use Rattle.core_model.specs.Nodes.{Node, with_strand, without_strand, with_trap, moved_from, bore_at, ended_for, sent_away}
use Rattle.nodelet_core.specs.code.Counted.{counted, at_number}
use Rattle.core_model.specs.Effects.{Sends, Effect, effect, ended}
use Rattle.core_model.specs.Runs.{went_on, gone, trapped, action_in, last_done, has_effect}
use Rattle.core_model.specs.Machine.{stamped_node}
use Rattle.nodelet_core.specs.code.Dues.{due_of, asked}
use Rattle.nodelet_core.specs.Kept.{node_of, setup_of, context_fits}
use Rattle.nodelet_core.specs.code.Became.{Did, Became}
use Rattle.nodelet_core.specs.Left.{Sent}
use Rattle.nodelet_core.specs.code.Doing.{SentMore, Left, HadEffect, placed, goes_on_at, goes_from, traps_at}
use Rattle.nodelet_core.proofs.Becoming.{settings_then, moved_stamped}
use Rattle.nodelet_core.proofs.Stamps.{nothing_sent, moved_stamp, moves_stamped}
use Rattle.nodelet_core.proofs.Resuming.{is_answered, is_whole, comes_asked, comes_last, action_told}

-- ---- what is counted

-- Nothing is.
abbrev pub nothing_counted : Counted
nothing_counted = record {
  turn = false;
  applied = false;
  sent_away = false;
  spawned = false;
  bore_at = None;
  posts = posts.Nowhere;
  ended_for = None;
  moved_from = None;
}

-- A nodelet that did nothing yet.
pub did_nothing : (v : Nodelet) → Did (λ w. w) v v
did_nothing v = record {
  settings = record { number = refl; nodelets = refl; turns = refl; rules = refl };
  node = λ code. refl;
  contexts = refl;
  entries = refl;
}

-- ---- a context that goes on

-- An event that counts this of a node, answers these words and sends this, leaves an effect.
pub record Leaves (n here stamp : ℕ) (c : Counted) (v : Node) (words : List ℤ) (sends : Sends) (e : Effect) : Type 0 where
  pub node : counted n here (record c { moved_from = None }) (stamped_node stamp v) ≡ stamped_node stamp e.node
  pub answer : words ≡ e.answer
  pub bodies : sends ≡ e.sends

module _ (code : Code) (before mid after : Nodelet) (x y : carried.Context) (base : Node → Node) (c d : Counted) (words : List ℤ) (sends : Sends)
    (sent_before sent_after : Sent) where
  -- The nodelet changed, and the context, answered, went on in an event that counts this.
  pub record GoesOn : Type 0 where
    pub did : Did base before mid
    pub keeps_stamp : (base (node_of code before)).stamp ≡ before.stamp
    pub counts : c ≡ d
    pub became : Became (goes_on_at mid.nodelets mid.number c y) (placed mid.number y ∷ []) mid after
    pub same : y ≡ record x { frames = y.frames }
    pub answered : IsAnswered code x.frames words y.frames
    pub sent : SentMore code before.nodelets before.number (suc before.stamp) sends sent_before sent_after

  module _ (g : GoesOn) (resume : List ℤ → State) (e : Effect)
      (leaves : Leaves before.nodelets before.number (suc before.stamp) d (base (node_of code before)) words sends e)
      (resumes : state_of code y.frames ≡ resume words) (count : ℕ) where
    went_context : context_in code (placed before.number y) ≡ record (context_in code x) { place = before.number; state = resume e.answer }
    went_context =
        ap (λ z. context_in code (placed before.number z)) g.same
        ∙ ap (λ z. let w : Context = record (context_in code x) { place = before.number; state = z } in w) (resumes ∙ ap resume leaves.answer)

    went_node : node_of code after ≡ stamped_node (suc before.stamp) (went_on before.number (context_in code x) count resume e).node
    went_node =
        let v = node_of code before in
        let n = before.nodelets in
        let k = before.number in
        let s = suc before.stamp in
        let z : Context = context_in code (placed k y) in
        g.became.node code
        ∙ ap (λ i. goes_on_at i mid.number c y code (node_of code mid)) g.did.settings.nodelets
        ∙ ap (λ i. goes_on_at n i c y code (node_of code mid)) g.did.settings.number
        ∙ ap (λ i. goes_on_at n k i y code (node_of code mid)) g.counts
        ∙ ap (goes_on_at n k d y code) (g.did.node code)
        ∙ ap (λ i. with_strand (counted n k (record d { moved_from = Some y.place }) (stamped_node (suc i) (base v))) z) g.keeps_stamp
        ∙ ap (λ i. with_strand (moved_from k i (counted n k (record d { moved_from = None }) (stamped_node s (base v)))) z) (ap (λ (w : carried.Context). w.place) g.same)
        ∙ ap (λ w. with_strand (moved_from k x.place w) z) leaves.node
        ∙ ap (λ w. with_strand w z) (moved_stamped k x.place s e.node)
        ∙ ap (λ w. stamped_node s (with_strand (moved_from k x.place e.node) w)) went_context

    pub went_left : Left code (suc before.stamp) before after sent_before sent_after (went_on before.number (context_in code x) count resume e)
    went_left = record {
      settings = settings_then before mid after g.did.settings g.became.settings;
      node = went_node;
      entries = g.became.entries ∙ g.did.entries;
      fits = λ all. g.became.keeps (context_fits code) (λ w late fits. fits) (ap (λ b. b && true) g.answered.fits) (ap (list_all (context_fits code)) g.did.contexts ∙ all);
      sends = subst (λ b. SentMore code before.nodelets before.number (suc before.stamp) b sent_before sent_after) leaves.bodies g.sent;
    }

  -- So the action had its effect that the context was due.
  pub had_gone_on : (due : Due) → is_answered due ≡ true → GoesOn →
      ((action : Action) → action_in (step code (state_of code x.frames)) ≡ Some action → due_of action ≡ due →
      Leaves before.nodelets before.number (suc before.stamp) d (base (node_of code before)) words sends
      (effect (setup_of code before) before.number (node_of code before) (context_in code x) (state_of code x.frames) action)) →
      HadEffect code before after sent_before sent_after x due
  had_gone_on due answered g leaves = λ action count left comes decides had.
      let state : State = state_of code x.frames in
      let m = setup_of code before in
      let v = node_of code before in
      let asked = comes_asked code state action comes (ap is_answered decides ∙ answered) in
      let gives : Some (went_on before.number (context_in code x) count asked.0 (effect m before.number v (context_in code x) state action)) ≡ Some left =
      sym (ap (has_effect m before.number v (context_in code x) state count) asked.1) ∙ had in
      subst (Left code (suc before.stamp) before after sent_before sent_after) (let z = gives in cc)
      (went_left g asked.0 _ (leaves action comes decides) (g.answered.resumes action asked.0 asked.1) count)

  -- The same where what decides of the action is all of it.
  pub had_whole : (due : Due) → is_answered due ≡ true → is_whole due ≡ true → GoesOn →
      Leaves before.nodelets before.number (suc before.stamp) d (base (node_of code before)) words sends
      (effect (setup_of code before) before.number (node_of code before) (context_in code x) (state_of code x.frames) (asked due)) →
      HadEffect code before after sent_before sent_after x due
  had_whole due answered whole g leaves = had_gone_on due answered g (λ action comes decides.
      subst (λ a. Leaves before.nodelets before.number (suc before.stamp) d (base (node_of code before)) words sends
      (effect (setup_of code before) before.number (node_of code before) (context_in code x) (state_of code x.frames) a))
      (sym (action_told action due decides whole)) leaves)

-- ---- a context that is gone

module _ (code : Code) (before mid after : Nodelet) (base : Node → Node) (c d : Counted) (name : Name) (sent_before sent_after : Sent) where
  -- The nodelet changed, and the context of a name is gone in an event that counts this.
  pub record Goes : Type 0 where
    pub did : Did base before mid
    pub keeps_stamp : (base (node_of code before)).stamp ≡ before.stamp
    pub counts : c ≡ d
    pub became : Became (goes_from mid.nodelets mid.number c name) [] mid after

  pub gone_left : Goes → (x : Context) → name ≡ x.name → (count : ℕ) (e : Effect) →
      counted before.nodelets before.number d (stamped_node (suc before.stamp) (base (node_of code before))) ≡ stamped_node (suc before.stamp) e.node →
      SentMore code before.nodelets before.number (suc before.stamp) e.sends sent_before sent_after →
      Left code (suc before.stamp) before after sent_before sent_after (gone x count e)
  gone_left g x same count e node sends =
      let v = node_of code before in
      let n = before.nodelets in
      let k = before.number in
      let s = suc before.stamp in
      record {
        settings = settings_then before mid after g.did.settings g.became.settings;
        node = g.became.node code
            ∙ ap (λ i. goes_from i mid.number c name code (node_of code mid)) g.did.settings.nodelets
            ∙ ap (λ i. goes_from n i c name code (node_of code mid)) g.did.settings.number
            ∙ ap (λ i. goes_from n k i name code (node_of code mid)) g.counts
            ∙ ap (goes_from n k d name code) (g.did.node code)
            ∙ ap (λ i. without_strand (counted n k d (stamped_node (suc i) (base v))) name) g.keeps_stamp
            ∙ ap (λ w. without_strand w name) node
            ∙ ap (λ i. stamped_node s (without_strand e.node i)) same;
        entries = g.became.entries ∙ g.did.entries;
        fits = λ all. g.became.keeps (context_fits code) (λ w late fits. fits) refl (ap (list_all (context_fits code)) g.did.contexts ∙ all);
        sends = sends;
      }

-- ---- a strand that traps

-- It leaves what the machine says, where its step may have changed its place.
pub trap_left : (code : Code) (before after : Nodelet) (name : Name) (kind : TrapKind) (at : Pos) (from : Option ℕ) (sent : Sent) (count : ℕ) →
    Became (traps_at before.number name kind at from) [] before after →
    Left code (suc before.stamp) before after sent sent (trapped (at_number from (moved_from before.number) (node_of code before)) name count kind at)
trap_left code before after name kind at from sent count became =
    let v = node_of code before in
    let k = before.number in
    let s = suc before.stamp in
    let w : Node = at_number from (moved_from k) v in
    record {
      settings = became.settings;
      node = became.node code
          ∙ ap (λ w. with_trap (without_strand w name) (record { stamp = s; kind = kind; pos = at; name = name })) (moves_stamped k from s v)
          ∙ ap (λ i. stamped_node s (with_trap (without_strand w name) (record { stamp = suc i; kind = kind; pos = at; name = name }))) (sym (moved_stamp k from v));
      entries = became.entries;
      fits = became.keeps (context_fits code) (λ w late fits. fits) refl;
      sends = nothing_sent code before.nodelets before.number s sent;
    }

-- ---- the last action of a strand

module _ (code : Code) (before after : Nodelet) (x : carried.Context) (sent_before sent_after : Sent) where
  -- An End or a Trap had its effect where it left what the machine says.
  had_last : (due : Due) → is_answered due ≡ false → is_whole due ≡ true →
      ((count : ℕ) → Left code (suc before.stamp) before after sent_before sent_after
      (last_done (setup_of code before) before.number (node_of code before) (context_in code x) (state_of code x.frames) count (asked due))) →
      HadEffect code before after sent_before sent_after x due
  had_last due answered whole leaves = λ action count left comes decides had.
      let state : State = state_of code x.frames in
      let m = setup_of code before in
      let v = node_of code before in
      let gives : Some (last_done m before.number v (context_in code x) state count (asked due)) ≡ Some left =
      ap (λ a. Some (last_done m before.number v (context_in code x) state count a)) (sym (action_told action due decides whole))
      ∙ sym (ap (has_effect m before.number v (context_in code x) state count) (comes_last code state action comes (ap is_answered decides ∙ answered)))
      ∙ had in
      subst (Left code (suc before.stamp) before after sent_before sent_after) (let z = gives in cc) (leaves count)

  pub had_ended : (value : ℤ) → ((count : ℕ) → Left code (suc before.stamp) before after sent_before sent_after
      (gone (context_in code x) count (ended before.number (node_of code before) x.ticket value))) →
      HadEffect code before after sent_before sent_after x (due.End value)
  had_ended value leaves = had_last (due.End value) refl refl leaves

-- So a Trap had its effect.
pub had_trapped : (code : Code) (before after : Nodelet) (x : carried.Context) (sent : Sent) (at : Pos) (kind : TrapKind) →
    Became (traps_at before.number x.name kind at None) [] before after → HadEffect code before after sent sent x (due.Trap at kind)
had_trapped code before after x sent at kind became =
    had_last code before after x sent sent (due.Trap at kind) refl refl (λ count. trap_left code before after x.name kind at None sent count became)
