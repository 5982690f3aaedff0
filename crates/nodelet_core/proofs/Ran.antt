-- A run, from the context that was found to what it left.
use Rattle.std.proofs.Common.{◌≡◌, ℕ, zero, suc, ◌+◌, ◌<◌, List, [], ◌∷◌, ◌++◌, length, get_or, Bool, true, false, Option, Some, None, Result, Ok, Err, OnOk, OnErr, refl, sym, ap, ◌∙◌, subst, arith, Contains}
use Rattle.std.specs.Prelude.{if◌then◌else◌, nat_lt, is_err, option_map, option_and_then}
use Rattle.std.specs.List.{list_all}
use Rattle.std.proofs.lemmas.Bool.Decides.{nat_tests}
use Rattle.word_ops.specs.declared.name.Name.{Name}
use Rattle.word_ops.specs.declared.place.Pos.{Pos}
use Rattle.word_ops.specs.declared.step.Entry.{Entry}
use Rattle.word_ops.specs.declared.step.NodeEvent.TheVariants.{Run}
use Rattle.world_model.specs.Action.{Action, Turn, Spawn, Trap}
use Rattle.merge_law.specs.Machine as merge
use Rattle.threadlet_code.specs.declared.code.Code.{Code}
use Rattle.threadlet_code.specs.Machine.{State, Next, goes, asks, stops, stuck, step}
use Rattle.threadlet_code.specs.Running.{halt}
use Rattle.threadlet_state.specs.declared.context.Context as carried
use Rattle.threadlet_state.specs.Activations.{state_of}
use Rattle.threadlet_state.specs.Answered.{IsHalted}
use Rattle.nodelet_core.specs.declared.nodelet.Nodelet.{Nodelet}
use Rattle.nodelet_core.specs.declared.next.Next as next
use Rattle.nodelet_core.specs.declared.next.Next.TheVariants.{Goes, Waits as Rests}
use Rattle.core_model.specs.Contexts.{Context, context_of}
use Rattle.nodelet_core.specs.Carried.{context_in}
use Rattle.core_model.specs.Nodes.{Setup, Node}
use Rattle.core_model.specs.Effects.{effect}
use Rattle.core_model.specs.Runs.{Outcome, Way, Refused, DoneHere, SentTo, Waits, way_of, sight_at, is_free, outside, action_in, went_on, gone, done_here, by_way, taken_up, run}
use Rattle.core_model.specs.Machine.{machine_of, stamped_node}
use Rattle.nodelet_core.specs.code.Standing.{names_of}
use Rattle.nodelet_core.specs.Kept.{node_of, setup_of, next_by, names_at, carried_at, all_fit, context_fits, SameSettings, IsUnchanged}
use Rattle.nodelet_core.specs.code.Became.{HasEntered}
use Rattle.nodelet_core.specs.Left.{Sent, HasRun}
use Rattle.nodelet_core.specs.code.Doing.{Left, way_in}
use Rattle.nodelet_core.proofs.Becoming.{settings_then}
use Rattle.nodelet_core.proofs.Found.{name_at, as_many}
use Rattle.nodelet_core.proofs.Stamps.{sent_at}

-- ---- results

pub any_err : {X E : Type 0} (r : Result X E) (P : Type 0) → P → OnErr r P
any_err (Ok x) P p = tt
any_err (Err e) P p = p

pub no_ok : {X E : Type 0} (r : Result X E) (P : Type 0) → is_err r ≡ true → OnOk r P
no_ok (Ok x) P e = absurd (let wrong : false ≡ true = e in cc)
no_ok (Err f) P e = tt

pub any_ok : {X E : Type 0} (r : Result X E) (P : Type 0) → P → OnOk r P
any_ok (Ok x) P p = p
any_ok (Err e) P p = tt

pub of_ok : {X E : Type 0} (r : Result X E) (P : Type 0) → is_err r ≡ false → OnOk r P → P
of_ok (Ok x) P e p = p
of_ok (Err f) P e p = absurd (let wrong : true ≡ false = e in cc)

pub no_err : {X E : Type 0} (r : Result X E) (P : Type 0) → is_err r ≡ false → OnErr r P
no_err (Ok x) P e = tt
no_err (Err f) P e = absurd (let wrong : true ≡ false = e in cc)

pub of_err : {X E : Type 0} (r : Result X E) (P : Type 0) → is_err r ≡ true → OnErr r P → P
of_err (Ok x) P e p = absurd (let wrong : false ≡ true = e in cc)
of_err (Err f) P e p = p

-- ---- the same context further on

module _ (m : Setup) (here : ℕ) (v : Node) (x : Context) (there state : State) where
  abbrev further : Context
  further = record x { state = there }

  effect_further : (action : Action) → effect m here v further state action ≡ effect m here v x state action
  effect_further Turn = refl
  effect_further action = refl

  done_further : (count : ℕ) (next : Next) (o : Option Pos) → done_here m here v further state count next o ≡ done_here m here v x state count next o
  done_further count next (Some at) = refl
  done_further count (asks a resume) None = ap (λ e. Some (went_on here x count resume e)) (effect_further a)
  done_further count (stops (Trap at kind)) None = refl
  done_further count (stops a) None = ap (λ e. Some (gone x count e)) (effect_further a)
  done_further count (goes after) None = refl
  done_further count stuck None = refl

  -- What becomes of its action is the same.
  by_way_further : (silent : ℕ) (next : Next) (action : Action) (w : Way) → by_way m here v further state silent next action w ≡ by_way m here v x state silent next action w
  by_way_further silent next action (Refused kind at) = refl
  by_way_further silent next action DoneHere = done_further (suc silent) next (outside m here v action)
  by_way_further silent next action (SentTo k) = refl
  by_way_further zero next action Waits = refl
  by_way_further (suc silent) next action Waits = refl

-- ---- what a run leaves

module _ (code : Code) (v : Nodelet) (name : Name) (x y : carried.Context) (silent : ℕ)
    (found : context_of name (node_of code v).contexts ≡ Some (context_in code x)) (halted : IsHalted code x.frames silent y.frames) where
  abbrev m : Setup
  m = setup_of code v

  abbrev node : Node
  node = node_of code v

  abbrev there : State
  there = state_of code y.frames

  taken : run m v.number node name ≡ taken_up m v.number node (context_in code x) (record { silent = silent; state = there })
  taken =
      ap (option_and_then (λ (z : Context). taken_up m v.number node z (halt code z.state))) found
      ∙ ap (taken_up m v.number node (context_in code x)) halted

  -- Behind its silent instructions stands an action, where it goes on.
  pub no_action : next_by (run m v.number node name) ≡ Goes → action_in (step code there) ≡ None → {P : Type 0} → P
  no_action goes_on e =
      let stays : run m v.number node name ≡ None =
      taken ∙ ap (option_and_then (λ a. by_way m v.number node (context_in code x) there silent (step code there) a
      (way_of v.nodelets v.turns (sight_at v.number node (context_in code x) there) a (is_free v.number node x.ticket a)))) e in
      absurd (let wrong : Rests ≡ Goes = sym (ap next_by stays) ∙ goes_on in cc)

  -- The copy that was taken so far has the same way, which is what the run leaves.
  pub run_is : y ≡ record x { frames = y.frames } → (action : Action) → action_in (step code there) ≡ Some action →
      run m v.number node name ≡ by_way m v.number node (context_in code y) there silent (step code there) action (way_in code v y action)
  run_is kept action comes =
      taken
      ∙ ap (option_and_then (λ a. by_way m v.number node (context_in code x) there silent (step code there) a
      (way_of v.nodelets v.turns (sight_at v.number node (context_in code x) there) a (is_free v.number node x.ticket a)))) comes
      ∙ sym (by_way_further m v.number node (context_in code x) there there silent (step code there) action
      (way_of v.nodelets v.turns (sight_at v.number node (context_in code x) there) action (is_free v.number node x.ticket action)))
      ∙ ap (λ (z : carried.Context). by_way m v.number node (context_in code z) there silent (step code there) action
      (way_of v.nodelets v.turns (sight_at v.number node (context_in code z) there) action (is_free v.number node z.ticket action))) (sym kept)

pub left_by : (o : Option Outcome) → next_by o ≡ Goes → (left : Outcome) × (o ≡ Some left)
left_by None e = absurd (let wrong : Rests ≡ Goes = e in cc)
left_by (Some left) e = (left, refl)

-- ---- a nodelet with one entry more

pub entered_as : (a b c : Nodelet) (entry : Entry) → HasEntered entry a b → IsUnchanged b c → HasEntered entry a c
entered_as a b c entry ab bc = record {
  settings = settings_then a b c ab.settings bc.settings;
  node = λ code. bc.node code ∙ ab.node code;
  contexts = bc.contexts ∙ ab.contexts;
  entries = bc.entries ∙ ab.entries;
}

module _ (code : Code) (before mid : Nodelet) (entry : Entry) (e : HasEntered entry before mid) where
  pub entered_stamp : mid.stamp ≡ before.stamp
  entered_stamp = ap (λ (w : Node). w.stamp) (e.node code)

  pub entered_names : names_at mid ≡ names_at before
  entered_names = ap names_of e.contexts

  pub entered_fits : all_fit code mid ≡ all_fit code before
  entered_fits = ap (list_all (context_fits code)) e.contexts

  entered_setup : setup_of code mid ≡ setup_of code before
  entered_setup =
      ap (λ n. let m : Setup = record { code = code; nodelets = n; turns = mid.turns; rules = mid.rules } in m) e.settings.nodelets
      ∙ ap (λ t. let m : Setup = record { code = code; nodelets = before.nodelets; turns = t; rules = mid.rules } in m) e.settings.turns
      ∙ ap (λ r. let m : Setup = record { code = code; nodelets = before.nodelets; turns = before.turns; rules = r } in m) e.settings.rules

  pub entered_way : (y : carried.Context) (action : Action) → way_in code mid y action ≡ way_in code before y action
  entered_way y action =
      let x = context_in code y in
      let state : State = state_of code y.frames in
      ap (λ n. way_of n mid.turns (sight_at mid.number (node_of code mid) x state) action (is_free mid.number (node_of code mid) y.ticket action)) e.settings.nodelets
      ∙ ap (λ t. way_of before.nodelets t (sight_at mid.number (node_of code mid) x state) action (is_free mid.number (node_of code mid) y.ticket action)) e.settings.turns
      ∙ ap (λ k. way_of before.nodelets before.turns (sight_at k (node_of code mid) x state) action (is_free k (node_of code mid) y.ticket action)) e.settings.number
      ∙ ap (λ w. way_of before.nodelets before.turns (sight_at before.number w x state) action (is_free before.number w y.ticket action)) (e.node code)

  pub entered_by_way : (x : Context) (state : State) (silent : ℕ) (next : Next) (action : Action) (w : Way) →
      by_way (setup_of code mid) mid.number (node_of code mid) x state silent next action w ≡ by_way (setup_of code before) before.number (node_of code before) x state silent next action w
  entered_by_way x state silent next action w =
      ap (λ m. by_way m mid.number (node_of code mid) x state silent next action w) entered_setup
      ∙ ap (λ k. by_way (setup_of code before) k (node_of code mid) x state silent next action w) e.settings.number
      ∙ ap (λ u. by_way (setup_of code before) before.number u x state silent next action w) (e.node code)

  -- What the event left is what the machine says.
  pub had_run : (after : Nodelet) (sent_before sent_after : Sent) (name : Name) (left : Outcome) → before.stamp < merge.last_stamp →
      run (setup_of code before) before.number (node_of code before) name ≡ Some left → entry ≡ record { stamp = suc before.stamp; event = Run name left.count; step = left.step } →
      Left code (suc mid.stamp) mid after sent_before sent_after left → HasRun code before after sent_before sent_after name
  had_run after sent_before sent_after name left early runs entry_is l =
      let u = setup_of code before in
      let node = node_of code before in
      let early_test : nat_lt before.stamp merge.last_stamp ≡ true = grind (arith, nat_tests) in
      let next : suc mid.stamp ≡ before.stamp + 1 = omega (arith, entered_stamp) in
      let own : suc before.stamp ≡ before.stamp + 1 = omega arith in
      let sends = sent_at code mid.nodelets mid.number (suc mid.stamp) before.nodelets before.number (before.stamp + 1) left.bodies sent_before sent_after
      e.settings.nodelets e.settings.number next l.sends in
      record {
        outcome = merge.stamped (machine_of u) before.number (before.stamp + 1) (λ count. Run name count) left;
        runs = ap (λ b. if b then option_map (merge.stamped (machine_of u) before.number (before.stamp + 1) (λ count. Run name count)) (run u before.number node name) else None) early_test
            ∙ ap (option_map (merge.stamped (machine_of u) before.number (before.stamp + 1) (λ count. Run name count))) runs;
        had = record {
          settings = settings_then before mid after e.settings l.settings;
          node = l.node ∙ ap (λ s. stamped_node s left.node) next;
          entries = l.entries ∙ e.entries
              ∙ ap (λ i. before.entries ++ i ∷ []) (entry_is ∙ ap (λ s. let i : Entry = record { stamp = s; event = Run name left.count; step = left.step } in i) own);
          more = sends.more;
          sent = sends.sent;
          told = sends.told;
          fit = sends.fit;
        };
      }

-- ---- the name of a context that stands

pub name_stands : (contexts : List carried.Context) (x : carried.Context) → Contains contexts x → Contains (names_of contexts) x.name
name_stands contexts x found =
    (found.0, omega (arith, found.1, as_many contexts), name_at contexts found.0 x ∙ ap (λ (z : carried.Context). z.name) found.2)
