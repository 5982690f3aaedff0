-- What a Spawn hands to its child.
use Rattle.std.proofs.Common.{Result, Ok, Err, IfOk, ◌≡◌, ◌≢◌, ℕ, zero, suc, ◌≤◌, List, [], ◌∷◌, length, drop, Option, Some, None, refl, sym, ap, ◌∙◌, subst, arith, Bool, true, false, ℤ}
use Rattle.std.specs.Prelude.{if◌then◌else◌, ◌==◌, option_map, slice_get}
use Rattle.std.proofs.lemmas.Option.{same_Some}
use Rattle.word_ops.specs.declared.name.Name.{Name}
use Rattle.word_ops.specs.declared.place.Pos.{Pos}
use Rattle.word_ops.specs.declared.ending.TrapKind.TheVariants as trap
use Rattle.word_ops.specs.Operators.{binary_of}
use Rattle.world_model.specs.Action as act
use Rattle.world_model.specs.Action.{Action}
use Rattle.world_model.specs.Activation.{word_at}
use Rattle.threadlet_code.specs.declared.instr.Instr.{Instr}
use Rattle.threadlet_code.specs.declared.instr.Instr.TheVariants as by
use Rattle.threadlet_code.specs.declared.code.FuncCode.{FuncCode}
use Rattle.threadlet_code.specs.declared.code.Code.{Code}
use Rattle.threadlet_code.specs.Operands.{operands, params_of, hint_operands, taken}
use Rattle.threadlet_code.specs.Machine as machine
use Rattle.threadlet_code.specs.Machine.{State, Next, goes, asks, stops, stuck, onward, push, entered, divided, called, returned, action_of, acts_or_goes, does, pops, step}
use Rattle.threadlet_code.specs.Breaches.{is_sound}
use Rattle.threadlet_code.specs.Fitting.{Fits}
use Rattle.threadlet_code.proofs.FitLaws.{children_fit}
use Rattle.threadlet_code.specs.Running.{started, owed}
use Rattle.threadlet_state.specs.declared.context.Context as carried
use Rattle.threadlet_state.specs.Activations.{state_of}
use Rattle.nodelet_core.specs.declared.nodelet.Nodelet.{Nodelet}
use Rattle.core_model.specs.Contexts.{Context}
use Rattle.nodelet_core.specs.Carried.{context_in}
use Rattle.core_model.specs.Effects.{child_of, next_name}
use Rattle.nodelet_core.specs.Kept.{node_of, setup_of}
use Rattle.nodelet_core.specs.declared.due.Due.TheVariants as due
use Rattle.nodelet_core.specs.declared.due.Hint.{Hint}
use Rattle.nodelet_core.specs.code.Dues.{due_of}
use Rattle.core_model.specs.Runs.{action_in}
use Rattle.nodelet_core.proofs.Resuming.{comes_asked}

-- ---- the words on top of a stack

-- One word fewer is taken: the lowest stays.
taken_under : (n : ℕ) (stack words all rest : List ℤ) → taken (suc n) stack words ≡ Some (all, rest) → (word : ℤ) × (taken n stack words ≡ Some (drop 1 all, word ∷ rest))
taken_under n [] words all rest e = absurd (let wrong : None ≡ Some (all, rest) = e in cc)
taken_under zero (word ∷ stack) words all rest e =
    let same : (word ∷ words, stack) ≡ (all, rest) = same_Some _ _ e in
    (word, ap (λ (p : List ℤ × List ℤ). Some (drop 1 p.0, word ∷ p.1)) same)
taken_under (suc n) (word ∷ stack) words all rest e = taken_under n stack (word ∷ words) all rest e

pub hint_more : (hinted : Bool) (n : ℕ) → n ≤ hint_operands hinted n
hint_more false n = omega arith
hint_more true n = omega arith

-- ---- a Spawn

pub is_spawn : (action : Action) (hint : Option Hint) → due_of action ≡ due.Spawn hint →
    (d : ℕ) × (function : ℕ) × (args : List ℤ) × (inner : Option act.Hint) × (action ≡ act.Spawn d function args inner)
is_spawn (act.Spawn d function args inner) hint e = (d, function, args, inner, refl)
is_spawn action hint e = absurd cc

module _ (code : Code) (at : Pos) (frame : machine.Frame) (callers : State) where
  abbrev Hands : ℕ → List ℤ → Action → Type 0
  Hands g words action = (inner : Option act.Hint) × (action ≡ act.Spawn (suc (length callers)) g words inner)

  -- It hands on the top words, as many as its function has parameters.
  pub spawn_hands : (g : ℕ) (target : Option ℕ) (hinted : Bool) (params : ℕ) (words rest : List ℤ) → params_of code g ≡ Some params → taken params frame.stack [] ≡ Some (words, rest) →
      (action : Action) → action_in (pops code at (by.Spawn g target hinted) frame callers (operands code (by.Spawn g target hinted))) ≡ Some action → Hands g words action
  spawn_hands g target false params words rest known took action e =
      let is : Some (act.Spawn (suc (length callers)) g words None) ≡ Some action =
      sym (ap (λ o. action_in (pops code at (by.Spawn g target false) frame callers (option_map (hint_operands false) o))) known
      ∙ ap (λ o. action_in (does code at (by.Spawn g target false) frame callers o)) took) ∙ e in
      (None, sym (same_Some _ _ is))
  spawn_hands g target true params words rest known took action e =
      by_taken (taken (suc params) frame.stack []) refl (sym (ap (λ o. action_in (pops code at (by.Spawn g target true) frame callers (option_map (hint_operands true) o))) known) ∙ e)
    where
      by_taken : (o : Option (List ℤ × List ℤ)) → taken (suc params) frame.stack [] ≡ o → action_in (does code at (by.Spawn g target true) frame callers o) ≡ Some action → Hands g words action
      by_taken None f h = absurd (let wrong : None ≡ Some action = h in cc)
      by_taken (Some p) f h =
          let inner : act.Hint = record { pos = at; address = word_at p.0 0 } in
          let is : act.Spawn (suc (length callers)) g (drop 1 p.0) (Some inner) ≡ action = same_Some _ _ h in
          let fewer = taken_under params frame.stack [] p.0 p.1 f in
          let same : (drop 1 p.0, fewer.0 ∷ p.1) ≡ (words, rest) = same_Some _ _ (sym fewer.1 ∙ took) in
          (Some inner, sym is ∙ ap (λ (l : List ℤ). act.Spawn (suc (length callers)) g l (Some inner)) (ap (λ (q : List ℤ × List ℤ). q.0) same))

  -- ---- no other instruction is one

  abbrev IsNoSpawn : Next → Type 0
  IsNoSpawn next = (d function : ℕ) (args : List ℤ) (hint : Option act.Hint) → action_in next ≡ Some (act.Spawn d function args hint) → ⊥

  divided_none : (o : Option ℤ) (next : ℤ → State) → IsNoSpawn (divided at o (λ word. goes (next word)))
  divided_none None next d function args hint e = absurd cc
  divided_none (Some word) next d function args hint e = absurd cc

  called_none : (g : ℕ) (h : Option FuncCode) (words : List ℤ) (top : machine.Frame) → IsNoSpawn (called at g h words top callers)
  called_none g None words top d function args hint e = absurd cc
  called_none g (Some h) words top d function args hint e = by_depth (suc (length callers) == 256) e
    where
      by_depth : (t : Bool) → action_in (if t then stops (act.Trap at trap.Depth) else goes (entered g h words ∷ onward top ∷ callers)) ≡ Some (act.Spawn d function args hint) → ⊥
      by_depth true h = absurd cc
      by_depth false h = absurd cc

  returned_none : (word : ℤ) (all : State) → IsNoSpawn (returned word all)
  returned_none word [] d function args hint e = absurd cc
  returned_none word (caller ∷ all) d function args hint e = absurd cc

  each_none : (instr : Instr) → ((g : ℕ) (target : Option ℕ) (hinted : Bool) → instr ≢ by.Spawn g target hinted) → (words rest : List ℤ) →
      IsNoSpawn (acts_or_goes code at instr words (record frame { stack = rest }) callers (action_of code at (suc (length callers)) instr words))
  each_none (by.Spawn g target hinted) other words rest d function args hint e = other g target hinted refl
  each_none (by.Bin op) other words rest d function args hint e =
      divided_none (binary_of op (word_at words 0) (word_at words 1)) (λ word. onward (push word (record frame { stack = rest })) ∷ callers) d function args hint e
  each_none (by.Call g) other words rest d function args hint e = called_none g (slice_get code.functions g) words (record frame { stack = rest }) d function args hint e
  each_none by.Return other words rest d function args hint e = returned_none (word_at words 0) callers d function args hint e
  each_none instr other words rest d function args hint e = absurd cc

  pub no_spawn : (instr : Instr) → ((g : ℕ) (target : Option ℕ) (hinted : Bool) → instr ≢ by.Spawn g target hinted) →
      (d function : ℕ) (args : List ℤ) (hint : Option act.Hint) → action_in (pops code at instr frame callers (operands code instr)) ≡ Some (act.Spawn d function args hint) → ⊥
  no_spawn instr other d function args hint e = by_count (operands code instr) e
    where
      by_words : (o : Option (List ℤ × List ℤ)) → action_in (does code at instr frame callers o) ≡ Some (act.Spawn d function args hint) → ⊥
      by_words None f = absurd cc
      by_words (Some p) f = each_none instr other p.0 p.1 d function args hint f

      by_count : (o : Option ℕ) → action_in (pops code at instr frame callers o) ≡ Some (act.Spawn d function args hint) → ⊥
      by_count None f = absurd cc
      by_count (Some n) f = by_words (taken n frame.stack []) f

-- A function gets as many arguments as it takes.
pub takes_args : (code : Code) → is_sound code ≡ true → (state : State) → Fits code state → (d function : ℕ) (args : List ℤ) (hint : Option act.Hint) →
    action_in (step code state) ≡ Some (act.Spawn d function args hint) → params_of code function ≡ Some (length args)
takes_args code sound state fits d function args hint e =
    let asked = comes_asked code state (act.Spawn d function args hint) e refl in
    let well = children_fit code sound state d function args hint asked.0 fits asked.1 in
    ap (option_map (λ (f : FuncCode). f.params)) well.1 ∙ ap Some (sym well.2)

-- ---- the child

pub if_ok : {X E : Type 0} (r : Result X E) (P Q R S : X → Type 0) → ((x : X) → P x → Q x → R x → S x) → IfOk r P → IfOk r Q → IfOk r R → IfOk r S
if_ok (Ok x) P Q R S f p q s = f x p q s
if_ok (Err e) P Q R S f p q s = tt

-- What is started with these is the child.
pub child_is : (code : Code) (v : Nodelet) (x child : carried.Context) (home : ℕ) (name : Name) (depth order function : ℕ) (args : List ℤ) →
    child ≡ record { name = name; home = home; place = home; ticket = Some (record { parent = x.name; home = x.home; depth = depth; order = order }); frames = child.frames; late = None } →
    state_of code child.frames ≡ started function (slice_get code.functions function) args → name ≡ next_name v.number (node_of code v) →
    depth ≡ length x.frames → order ≡ owed (length x.frames) (state_of code x.frames) →
    context_in code child ≡ child_of (setup_of code v) v.number (node_of code v) (context_in code x) (state_of code x.frames) (length x.frames) function args home
child_is code v x child home name depth order function args is state named deep ordered =
    ap (context_in code) is
    ∙ ap (λ s. let y : Context = record { name = name; home = home; place = home; ticket = Some (record { parent = x.name; home = x.home; depth = depth; order = order }); state = s; late = None } in y) state
    ∙ ap (λ i. let y : Context = record { name = i; home = home; place = home; ticket = Some (record { parent = x.name; home = x.home; depth = depth; order = order }); state = started function (slice_get code.functions function) args; late = None } in y) named
    ∙ ap (λ i. let y : Context = record { name = next_name v.number (node_of code v); home = home; place = home; ticket = Some (record { parent = x.name; home = x.home; depth = i; order = order }); state = started function (slice_get code.functions function) args; late = None } in y) deep
    ∙ ap (λ i. let y : Context = record { name = next_name v.number (node_of code v); home = home; place = home; ticket = Some (record { parent = x.name; home = x.home; depth = length x.frames; order = i }); state = started function (slice_get code.functions function) args; late = None } in y) ordered
