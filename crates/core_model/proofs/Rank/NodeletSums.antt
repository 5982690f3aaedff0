-- What a nodelet counts, what it sends included, is less after one of its strands has gone or has gone on.
use Rattle.std.proofs.Common.{◌≡◌, ℕ, suc, ◌+◌, ◌-◌, ◌*◌, ◌<◌, ◌≤◌, List, Some, refl, ap, ◌∙◌, arith, ℤ}
use Rattle.std.specs.Prelude.{sum_by}
use Rattle.std.proofs.Math.Nat.{mul-suc, mul-add, mul-le-mul_left}
use Rattle.word_ops.specs.declared.name.Name.{Name}
use Rattle.threadlet_code.specs.Machine.{State}
use Rattle.core_model.specs.Contexts.{Context, Body, with_context, without_context, context_of}
use Rattle.core_model.specs.Nodes.{Setup, Node, with_strand}
use Rattle.core_model.specs.Effects.{Effect}
use Rattle.core_model.specs.Runs.{went_on}
use Rattle.core_model.specs.Rank.{left_in, longest, weight, context_rank, turn_weight}
use Rattle.core_model.proofs.Invariant.ContextsByName.{context_of-name}
use Rattle.core_model.proofs.Actions.WordActions.{moved-part}
use Rattle.core_model.proofs.Census.ContextOrder.{Ascending}
use Rattle.core_model.proofs.Rank.Sums.{sum-without, sum-in_place}
use Rattle.core_model.proofs.Rank.Balance.{own, carried}
use Rattle.core_model.proofs.Rank.Departures.{rank_most, rank_least, weighed_less}

-- a nodelet counts less, with what is sent
abbrev pub Lowers : Setup → ℕ → Node → Node → (ℕ → List Body) → Type 0
Lowers u k v node bodies = own u k node + carried u bodies < own u k v

module _ (u : Setup) (k : ℕ) (v : Node) (q : Name) (x : Context) (found : context_of q v.contexts ≡ Some x) (up : Ascending v.contexts) where
  abbrev ranked : Context → ℕ
  ranked = context_rank u k

  -- with as many turns served, contexts count
  by_contexts : (node : Node) (bodies : ℕ → List Body) → node.served ≡ v.served → sum_by ranked node.contexts + carried u bodies < sum_by ranked v.contexts → Lowers u k v node bodies
  by_contexts node bodies served less =
      let same : turn_weight u * (u.turns - node.served) ≡ turn_weight u * (u.turns - v.served) = ap (λ s. turn_weight u * (u.turns - s)) served in
      add (turn_weight u * (u.turns - node.served)) (turn_weight u * (u.turns - v.served)) (sum_by ranked node.contexts) (sum_by ranked v.contexts) (carried u bodies) same less
    where
      add : (t t' s s' c : ℕ) → t ≡ t' → s + c < s' → t + s + c < t' + s'
      add t t' s s' c e l = omega arith

  named : x.name ≡ q
  named = context_of-name q v.contexts x found

  pub by_name : context_of x.name v.contexts ≡ Some x
  by_name = ap (λ n. context_of n v.contexts) named ∙ found

  -- it has gone
  pub gone_lowers : (node : Node) (bodies : ℕ → List Body) → node.contexts ≡ without_context x.name v.contexts → node.served ≡ v.served → carried u bodies < ranked x → Lowers u k v node bodies
  gone_lowers node bodies contexts served less =
      let without = sum-without ranked x.name v.contexts x by_name in
      let same : sum_by ranked node.contexts ≡ sum_by ranked (without_context x.name v.contexts) = ap (sum_by ranked) contexts in
      by_contexts node bodies served (omega arith)

  in_place : (x' : Context) → x'.name ≡ x.name → sum_by ranked (with_context x' v.contexts) + ranked x ≡ ranked x' + sum_by ranked v.contexts
  in_place x' same = sum-in_place ranked x' v.contexts x up (ap (λ n. context_of n v.contexts) same ∙ by_name)

  -- it stands here with less
  pub stays_lowers : (x' : Context) → x'.name ≡ x.name → ranked x' < ranked x → (bodies : ℕ → List Body) → carried u bodies ≡ 0 → Lowers u k v (with_strand v x') bodies
  stays_lowers x' same less bodies none = by_contexts (with_strand v x') bodies refl (let e = in_place x' same in omega arith)

  -- ---- an action that has its effect

  -- what it leaves counts little besides the strand, which is put in place of what it was
  pub record IsLight (e : Effect) : Type 0 where
    pub served : e.node.served ≡ v.served
    pub counts : (x' : Context) → x'.name ≡ x.name → sum_by ranked (with_context x' e.node.contexts) + carried u e.sends + ranked x ≤ ranked x' + sum_by ranked v.contexts + (2 * u.nodelets + 5)

  pub light : (e : Effect) → e.node.contexts ≡ v.contexts → e.node.served ≡ v.served → carried u e.sends ≤ 2 * u.nodelets + 5 → IsLight e
  light e contexts served few = record { served = served; counts = counts }
    where
      counts : (x' : Context) → x'.name ≡ x.name → sum_by ranked (with_context x' e.node.contexts) + carried u e.sends + ranked x ≤ ranked x' + sum_by ranked v.contexts + (2 * u.nodelets + 5)
      counts x' same =
          let place = in_place x' same in
          let is : sum_by ranked (with_context x' e.node.contexts) ≡ sum_by ranked (with_context x' v.contexts) = ap (λ l. sum_by ranked (with_context x' l)) contexts in omega arith

  module _ (count : ℕ) (resume : List ℤ → State) (e : Effect) where
    abbrev after : Context
    after = record x { place = k; state = resume e.answer }

    node_is : (went_on k x count resume e).node.contexts ≡ with_context after e.node.contexts
    node_is = ap (with_context after) (moved-part (λ (y : Node). y.contexts) k x.place e.node (λ t. refl))

    -- the strand has less left
    pub light_lowers : left_in u.code (resume e.answer) < left_in u.code x.state → IsLight e → Lowers u k v (went_on k x count resume e).node e.sends
    light_lowers less l =
        let counts = l.counts after refl in
        let is : sum_by ranked (went_on k x count resume e).node.contexts ≡ sum_by ranked (with_context after e.node.contexts) = ap (sum_by ranked) node_is in
        let most : ranked after ≤ weight u * left_in u.code (resume e.answer) + 2 = rank_most u k after in
        let least : weight u * left_in u.code x.state ≤ ranked x = rank_least u k x in
        let step : weight u * left_in u.code (resume e.answer) + weight u ≤ weight u * left_in u.code x.state = weighed_less (weight u) (left_in u.code (resume e.answer)) (left_in u.code x.state) less in
        by_contexts (went_on k x count resume e).node e.sends
        (moved-part (λ (y : Node). y.served) k x.place e.node (λ t. refl) ∙ l.served)
        (ends (sum_by ranked (went_on k x count resume e).node.contexts) (sum_by ranked (with_context after e.node.contexts)) (carried u e.sends) (ranked x) (ranked after) (sum_by ranked v.contexts) u.nodelets
        (weight u * left_in u.code (resume e.answer)) (weight u * left_in u.code x.state) is counts most least step)
      where
        ends : (s s' c r r' t n a b : ℕ) → s ≡ s' → s' + c + r ≤ r' + t + (2 * n + 5) → r' ≤ a + 2 → b ≤ r → a + (3 * n + 8) ≤ b → s + c < t
        ends s s' c r r' t n a b e1 e2 e3 e4 e5 = omega arith

    -- a Turn is served, which counts more than all that the strand may have left then
    pub turn_lowers : e.node.contexts ≡ v.contexts → e.node.served ≡ suc v.served → v.served < u.turns → carried u e.sends ≡ 0 →
        left_in u.code (resume e.answer) ≤ left_in u.code x.state + longest u.code.functions → Lowers u k v (went_on k x count resume e).node e.sends
    turn_lowers contexts served before none le =
        let place = in_place after refl in
        let is : sum_by ranked (went_on k x count resume e).node.contexts ≡ sum_by ranked (with_context after v.contexts) = ap (sum_by ranked) (node_is ∙ ap (with_context after) contexts) in
        let most : ranked after ≤ weight u * left_in u.code (resume e.answer) + 2 = rank_most u k after in
        let least : weight u * left_in u.code x.state ≤ ranked x = rank_least u k x in
        let step : weight u * left_in u.code (resume e.answer) ≤ weight u * (left_in u.code x.state + longest u.code.functions) = mul-le-mul_left (weight u) le in
        let apart : weight u * (left_in u.code x.state + longest u.code.functions) ≡ weight u * left_in u.code x.state + weight u * longest u.code.functions = mul-add (weight u) (left_in u.code x.state) (longest u.code.functions) in
        let turn : turn_weight u ≡ weight u * longest u.code.functions + weight u * 2 = mul-add (weight u) (longest u.code.functions) 2 in
        let serves : (went_on k x count resume e).node.served ≡ suc v.served = moved-part (λ (y : Node). y.served) k x.place e.node (λ t. refl) ∙ served in
        let rest : turn_weight u * (u.turns - (went_on k x count resume e).node.served) ≡ turn_weight u * (u.turns - suc v.served) = ap (λ s. turn_weight u * (u.turns - s)) serves in
        let one_more : turn_weight u * (u.turns - v.served) ≡ turn_weight u * (u.turns - suc v.served) + turn_weight u =
        ap (λ m. turn_weight u * m) (let z : u.turns - v.served ≡ suc (u.turns - suc v.served) = omega arith in z) ∙ mul-suc (turn_weight u) (u.turns - suc v.served) in
        ends (turn_weight u * (u.turns - (went_on k x count resume e).node.served)) (turn_weight u * (u.turns - suc v.served)) (turn_weight u * (u.turns - v.served)) (turn_weight u)
        (sum_by ranked (went_on k x count resume e).node.contexts) (sum_by ranked (with_context after v.contexts)) (sum_by ranked v.contexts) (ranked x) (ranked after)
        (weight u * left_in u.code (resume e.answer)) (weight u * (left_in u.code x.state + longest u.code.functions)) (weight u * left_in u.code x.state) (weight u * longest u.code.functions) u.nodelets (carried u e.sends)
        rest one_more is place most step apart least turn none
      where
        ends : (p p' p'' t s s' s'' r r' a ab b g n c : ℕ) → p ≡ p' → p'' ≡ p' + t → s ≡ s' → s' + r ≡ r' + s'' → r' ≤ a + 2 → a ≤ ab → ab ≡ b + g → b ≤ r → t ≡ g + (3 * n + 8) * 2 → c ≡ 0 →
            p + s + c < p'' + s''
        ends p p' p'' t s s' s'' r r' a ab b g n c e1 e2 e3 e4 e5 e6 e7 e8 e9 e10 = omega arith
