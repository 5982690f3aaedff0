-- A replay with one more event at its end.
use Rattle.std.proofs.Common.{◌≡◌, ℕ, List, [], ◌∷◌, ◌++◌, Some, refl, sym, ap, ◌∙◌, true, append_assoc}
use Rattle.std.specs.Prelude.{option_map, option_and_then}
use Rattle.std.proofs.lemmas.List.{append-nil}
use Rattle.word_ops.specs.declared.step.Entry.{Entry}
use Rattle.merge_law.specs.declared.event.Event.{Event}
use Rattle.merge_law.specs.Machine.{Machine, Outcome, is_linked}
use Rattle.merge_law.specs.Events.{nodelet_of, event_at}
use Rattle.merge_law.specs.Core.{Advance, advance}
use Rattle.merge_law.specs.Replay.{Replayed, outcome_first, replay, IsReplay}
use Rattle.merge_law.specs.Laws.{ReplaysGoOn}
use Rattle.merge_law.proofs.Somes.{some_is}
use Rattle.merge_law.proofs.Stamps.{nodelet_of-event_at, advance_tells}
use Rattle.merge_law.proofs.Replays.{First, first_of}
use Rattle.merge_law.proofs.Same.{Same, same}

-- f and then g is f', on each link to nodelet k
record More {P : Type 0} (n k : ℕ) (f g f' : ℕ → List P) : Type 0 where
  on : (o : ℕ) → is_linked n o k ≡ true → f' o ≡ f o ++ g o

record NoneLeft {P : Type 0} (n k : ℕ) (left : ℕ → List P) : Type 0 where
  on : (o : ℕ) → is_linked n o k ≡ true → left o ≡ []

module _ {V B P : Type 0} (m : Machine V B P) where
  record Grown (k : ℕ) (es : List Entry) (v : V) (f' : ℕ → List P) (r : Replayed V P) (d : Advance V P) : Type 0 where
    end : Replayed V P
    replays : replay m k es v f' ≡ Some end
    node : end.node ≡ d.outcome.node
    sent : (j : ℕ) → end.sent j ≡ r.sent j ++ d.outcome.sent j
    left : (o : ℕ) → is_linked m.nodelets o k ≡ true → end.left o ≡ d.left o
    made : end.made ≡ r.made ++ d.outcome.entry ∷ []

  -- the same event where more is to come
  with_more : (k : ℕ) (v : V) (e : Entry) (f g f' : ℕ → List P) (d : Advance V P) → advance m v f (event_at k e.event) ≡ Some d → More m.nodelets k f g f' → Same m k v (event_at k e.event) f' (λ _. []) g d
  with_more k v e f g f' d goes more = same m k v (event_at k e.event) f f' (λ _. []) g d (nodelet_of-event_at k e.event) goes (record { on = λ o l. append-nil (f' o) ∙ more.on o l }) (record { late = λ o p ps l z. absurd (cc) })

  -- one step of a replay
  stepped : (k : ℕ) (e : Entry) (es : List Entry) (v : V) (f : ℕ → List P) (d : Advance V P) → advance m v f (event_at k e.event) ≡ Some d → replay m k (e ∷ es) v f ≡ option_map (outcome_first d.outcome) (replay m k es d.outcome.node d.left)
  stepped k e es v f d goes = ap (option_and_then (λ (y : Advance V P). option_map (outcome_first y.outcome) (replay m k es y.outcome.node y.left))) goes

  grown : (k : ℕ) (es : List Entry) (e : Entry) (v : V) (f g f' : ℕ → List P) (r : Replayed V P) (d : Advance V P) → replay m k es v f ≡ Some r → NoneLeft m.nodelets k r.left → More m.nodelets k f g f' → advance m r.node g (event_at k e.event) ≡ Some d → Grown k (es ++ e ∷ []) v f' r d
  grown k [] e v f g f' r d h none more goes = record {
    end = outcome_first s.to.outcome (record { node = s.to.outcome.node; sent = λ _. []; left = s.to.left; made = [] });
    replays = stepped k e [] v f' s.to s.goes;
    node = ap (λ (y : Outcome V P). y.node) s.outcome;
    sent = λ j. append-nil (s.to.outcome.sent j) ∙ ap (λ (y : Outcome V P). y.sent j) s.outcome ∙ ap (λ l. l ++ d.outcome.sent j) (ap (λ (y : Replayed V P). y.sent j) is);
    left = λ o l. sym (append-nil (s.to.left o)) ∙ s.left.on o l ∙ append-nil (d.left o);
    made = ap (λ (y : Outcome V P). y.entry ∷ []) s.outcome ∙ ap (λ l. l ++ d.outcome.entry ∷ []) (ap (λ (y : Replayed V P). y.made) is);
  }
    where
      first : Replayed V P
      first = record { node = v; sent = λ _. []; left = f; made = [] }

      is : record { node = v; sent = λ (_ : ℕ). []; left = f; made = [] } ≡ r
      is = some_is _ _ h

      more' : More m.nodelets k g (λ _. []) f'
      more' = record { on = λ o l. more.on o l ∙ ap (λ z. z ++ g o) (ap (λ (y : Replayed V P). y.left o) is ∙ none.on o l) ∙ sym (append-nil (g o)) }

      here : advance m v g (event_at k e.event) ≡ Some d
      here = ap (λ (y : Replayed V P). advance m y.node g (event_at k e.event)) is ∙ goes

      s : Same m k v (event_at k e.event) f' (λ _. []) (λ _. []) d
      s = with_more k v e g (λ _. []) f' d here more'
  grown k (e0 ∷ es) e v f g f' r d h none more goes = go (grown k es e s.to.outcome.node a.d.left g s.to.left a.rest d there rest_none s_more rest_goes)
    where
      a : First m k e0 es v f r
      a = first_of m k e0 es v f r h

      s : Same m k v (event_at k e0.event) f' (λ _. []) g a.d
      s = with_more k v e0 f g f' a.d a.goes more

      s_more : More m.nodelets k a.d.left g s.to.left
      s_more = record { on = λ o l. sym (append-nil (s.to.left o)) ∙ s.left.on o l }

      there : replay m k es s.to.outcome.node a.d.left ≡ Some a.rest
      there = ap (λ (y : Outcome V P). replay m k es y.node a.d.left) s.outcome ∙ a.replays

      rest_none : NoneLeft m.nodelets k a.rest.left
      rest_none = record { on = λ o l. ap (λ (y : Replayed V P). y.left o) a.whole ∙ none.on o l }

      rest_goes : advance m a.rest.node g (event_at k e.event) ≡ Some d
      rest_goes = ap (λ (y : Replayed V P). advance m y.node g (event_at k e.event)) a.whole ∙ goes

      go : Grown k (es ++ e ∷ []) s.to.outcome.node s.to.left a.rest d → Grown k (e0 ∷ (es ++ e ∷ [])) v f' r d
      go ih = record {
        end = outcome_first s.to.outcome ih.end;
        replays = stepped k e0 (es ++ e ∷ []) v f' s.to s.goes ∙ ap (option_map (outcome_first s.to.outcome)) ih.replays;
        node = ih.node;
        sent = λ j.
            ap (λ l. s.to.outcome.sent j ++ l) (ih.sent j)
            ∙ ap (λ (y : Outcome V P). y.sent j ++ (a.rest.sent j ++ d.outcome.sent j)) s.outcome
            ∙ sym (append_assoc (a.d.outcome.sent j) (a.rest.sent j) (d.outcome.sent j))
            ∙ ap (λ (y : Replayed V P). y.sent j ++ d.outcome.sent j) a.whole;
        left = ih.left;
        made =
            ap (λ l. s.to.outcome.entry ∷ l) ih.made
            ∙ ap (λ (y : Outcome V P). y.entry ∷ (a.rest.made ++ d.outcome.entry ∷ [])) s.outcome
            ∙ ap (λ (y : Replayed V P). y.made ++ d.outcome.entry ∷ []) a.whole;
      }

  module _ (k : ℕ) (v node : V) (entries : List Entry) (received more sent : ℕ → List P) (event : Event) (d : Advance V P) (w : IsReplay m k v entries received node sent) (at : nodelet_of event ≡ k) (goes : advance m node more event ≡ Some d) (none : (o : ℕ) → is_linked m.nodelets o k ≡ true → d.left o ≡ []) where
    tells : event_at k d.outcome.entry.event ≡ event
    tells = ap (λ z. event_at z d.outcome.entry.event) (sym at) ∙ advance_tells m node more event d goes

    here : advance m w.end.node more (event_at k d.outcome.entry.event) ≡ Some d
    here = ap (λ z. advance m z more (event_at k d.outcome.entry.event)) w.node_is ∙ ap (advance m node more) tells ∙ goes

    one_more : Grown k (entries ++ d.outcome.entry ∷ []) v (λ o. received o ++ more o) w.end d
    one_more = grown k entries d.outcome.entry v received more (λ o. received o ++ more o) w.end d w.goes (record { on = w.none_left }) (record { on = λ o l. refl }) here

    goes_on : IsReplay m k v (entries ++ d.outcome.entry ∷ []) (λ o. received o ++ more o) d.outcome.node (λ j. sent j ++ d.outcome.sent j)
    goes_on = record {
      end = one_more.end;
      goes = one_more.replays;
      made = one_more.made ∙ ap (λ l. l ++ d.outcome.entry ∷ []) w.made;
      node_is = one_more.node;
      sent_are = λ j l. one_more.sent j ∙ ap (λ z. z ++ d.outcome.sent j) (w.sent_are j l);
      none_left = λ o l. one_more.left o l ∙ none o l;
    }

pub replays_go_on : (V B P : Type 0) → ReplaysGoOn V B P
replays_go_on V B P m k v node entries received more sent event d w at goes none = goes_on m k v node entries received more sent event d w at goes none
