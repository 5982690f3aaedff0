-- Tidy frames stay tidy, and what they owe follows the actions.
use Rattle.std.proofs.Common.{◌≡◌, ℕ, zero, suc, ◌<◌, inl, inr, List, [], ◌∷◌, ◌++◌, length, Option, Some, None, refl, sym, ap, ◌∙◌, subst, arith, Bool, true, false, eq-eqb, length-append, ℤ, pos}
use Rattle.std.specs.Prelude.{slice_get, if◌then◌else◌, ◌==◌}
use Rattle.std.proofs.lemmas.Bool.{eqb-true}
use Rattle.std.proofs.lemmas.Option.{same_Some}
use Rattle.word_ops.specs.declared.place.Pos.{Pos}
use Rattle.word_ops.specs.declared.ending.TrapKind.TheVariants as trap
use Rattle.word_ops.specs.Operators.{binary_of, same_word}
use Rattle.world_model.specs.Action as act
use Rattle.world_model.specs.Action.{Action}
use Rattle.world_model.specs.Meaning.{children_after}
use Rattle.threadlet_code.specs.declared.instr.Instr.{Instr}
use Rattle.threadlet_code.specs.declared.instr.Instr.TheVariants as by
use Rattle.threadlet_code.specs.declared.code.FuncCode.{FuncCode}
use Rattle.threadlet_code.specs.declared.code.Code.{Code}
use Rattle.world_model.specs.Activation.{word_at}
use Rattle.threadlet_code.specs.Naming.{jump_of, is_named, is_sync, is_return, is_spawn}
use Rattle.threadlet_code.specs.Rules.{is_jumped_to}
use Rattle.threadlet_code.specs.Machine.{Frame, State, Next, goes, asks, stops, stuck, onward, push, entered, divided, called, returned, place_in, spawn_of, step}
use Rattle.threadlet_code.specs.Running.{owed}
use Rattle.threadlet_code.specs.Breaches.{is_sound}
use Rattle.threadlet_code.specs.Sound.{KeepsRules}
use Rattle.threadlet_code.specs.Fitting.{IsTidy, AllTidy}
use Rattle.threadlet_code.proofs.Among.{Among, among_any}
use Rattle.threadlet_code.proofs.Kept.{keeps_rules}
use Rattle.threadlet_code.proofs.Stepping.{IsAt, effect, by_instruction}

-- What is to hold of what follows a state.
abbrev pub StaysTidy : Code → State → Next → Type 0
StaysTidy code before (goes after) = AllTidy code after × ((d : ℕ) → owed d after ≡ owed d before)
StaysTidy code before (asks action resume) =
    (answer : List ℤ) → AllTidy code (resume answer) × ((d : ℕ) → owed d (resume answer) ≡ children_after action (λ e. owed e before) d)
StaysTidy code before (stops action) = Unit {0}
StaysTidy code before stuck = Unit {0}

-- Deeper than the deepest there is nothing to join.
owed_past : (d : ℕ) (state : State) → length state < d → owed d state ≡ 0
owed_past d [] lt = refl
owed_past d (frame ∷ frames) lt = go (owed_past d frames) (d == suc (length frames)) refl
  where
    go : (length frames < d → owed d frames ≡ 0) → (b : Bool) → (d == suc (length frames)) ≡ b → (if b then length frame.targets else owed d frames) ≡ 0
    go below true e = absurd (let z = eqb-true d (suc (length frames)) e in omega arith)
    go below false e = below (omega arith)

item_among : {X : Type 0} (xs : List X) (i : ℕ) (x : X) → slice_get xs i ≡ Some x → Among x xs
item_among [] i x e = absurd (let wrong : None ≡ Some x = e in cc)
item_among (y ∷ xs) zero x e = inl (sym (same_Some y x e))
item_among (y ∷ xs) (suc i) x e = inr (item_among xs i x e)

module _ (code : Code) (sound : is_sound code ≡ true) (frame : Frame) (frames : State) (tidy : AllTidy code (frame ∷ frames)) where
  abbrev before : State
  before = frame ∷ frames

  module _ (f : FuncCode) (known : slice_get code.functions frame.function ≡ Some f) where
    keeps : KeepsRules code f
    keeps = keeps_rules code sound frame.function f known

    same_code : (next : Frame) → next.function ≡ frame.function → (h : FuncCode) → slice_get code.functions next.function ≡ Some h → h ≡ f
    same_code next same h e = same_Some h f (sym e ∙ ap (slice_get code.functions) same ∙ known)

    returns : (o : Option Instr) → o ≡ Some by.Return → is_return o ≡ true
    returns o e = ap is_return e

    -- At the next place, with the same targets, behind anything but a Sync.
    next_tidy : (instr : Instr) → slice_get f.body frame.at ≡ Some instr → is_sync (Some instr) ≡ false →
        (next : Frame) → next.function ≡ frame.function → next.at ≡ suc frame.at → next.targets ≡ frame.targets → IsTidy code next
    next_tidy instr here no_sync next same at targets = record {
      plain = λ h e spawns. targets ∙ tidy.0.plain f known (ap (λ (k : FuncCode). k.spawns) (sym (same_code next same h e)) ∙ spawns);
      ready = λ h e ret. targets ∙ by_spawns f.spawns refl
          (ap (λ (k : FuncCode). slice_get k.body (suc frame.at)) (sym (same_code next same h e)) ∙ ap (slice_get h.body) (sym at) ∙ ret);
    }
      where
        by_spawns : (b : Bool) → f.spawns ≡ b → slice_get f.body (suc frame.at) ≡ Some by.Return → frame.targets ≡ []
        by_spawns false e ret = tidy.0.plain f known e
        by_spawns true e ret =
            absurd (let behind : is_sync (slice_get f.body frame.at) ≡ true = keeps.synced (suc frame.at) e (returns (slice_get f.body (suc frame.at)) ret) in
            let wrong : false ≡ true = sym no_sync ∙ ap is_sync (sym here) ∙ behind in cc)

    same_owed : (next : Frame) → next.targets ≡ frame.targets → (d : ℕ) → owed d (next ∷ frames) ≡ owed d before
    same_owed next targets d = ap (λ t. if d == suc (length frames) then length t else owed d frames) targets

    goes_next : (instr : Instr) → slice_get f.body frame.at ≡ Some instr → is_sync (Some instr) ≡ false →
        (next : Frame) → next.function ≡ frame.function → next.at ≡ suc frame.at → next.targets ≡ frame.targets →
        AllTidy code (next ∷ frames) × ((d : ℕ) → owed d (next ∷ frames) ≡ owed d before)
    goes_next instr here no_sync next same at targets = ((next_tidy instr here no_sync next same at targets, tidy.1), same_owed next targets)

    jump_tidy : (instr : Instr) → slice_get f.body frame.at ≡ Some instr → (to : ℕ) → jump_of instr ≡ Some to →
        (next : Frame) → next.function ≡ frame.function → next.at ≡ to → next.targets ≡ frame.targets →
        AllTidy code (next ∷ frames) × ((d : ℕ) → owed d (next ∷ frames) ≡ owed d before)
    jump_tidy instr here to leads next same at targets = (
      (
        record {
          plain = λ h e spawns. targets ∙ tidy.0.plain f known (ap (λ (k : FuncCode). k.spawns) (sym (same_code next same h e)) ∙ spawns);
          ready = λ h e ret. targets ∙ by_spawns f.spawns refl
              (ap (λ (k : FuncCode). slice_get k.body to) (sym (same_code next same h e)) ∙ ap (slice_get h.body) (sym at) ∙ ret);
        },
        tidy.1,
      ),
      same_owed next targets,
    )
      where
        by_spawns : (b : Bool) → f.spawns ≡ b → slice_get f.body to ≡ Some by.Return → frame.targets ≡ []
        by_spawns false e ret = tidy.0.plain f known e
        by_spawns true e ret =
            absurd (let jumped : is_jumped_to f to ≡ true =
            among_any (λ instr. is_named to (jump_of instr)) instr f.body (item_among f.body frame.at instr here) (ap (is_named to) leads ∙ eq-eqb to to refl) in
            let wrong : true ≡ false = sym jumped ∙ keeps.unjumped to e (returns (slice_get f.body to) ret) in cc)

    divided_tidy : (p : Pos) (o : Option ℤ) (rest : List ℤ) (op : _) → slice_get f.body frame.at ≡ Some (by.Bin op) →
        StaysTidy code before (divided p o (λ word. goes (onward (push word (record frame { stack = rest })) ∷ frames)))
    divided_tidy p None rest op here = tt
    divided_tidy p (Some word) rest op here = goes_next (by.Bin op) here refl _ refl refl refl

    test_tidy : (to : ℕ) (zero : Bool) (rest : List ℤ) → slice_get f.body frame.at ≡ Some (by.JumpZero to) →
        StaysTidy code before (goes ((if zero then record frame { at = to; stack = rest } else onward (record frame { stack = rest })) ∷ frames))
    test_tidy to true rest here = jump_tidy (by.JumpZero to) here to refl _ refl refl refl
    test_tidy to false rest here = goes_next (by.JumpZero to) here refl _ refl refl refl

    call_tidy : (p : Pos) (g : ℕ) (h : Option FuncCode) (words rest : List ℤ) → slice_get f.body frame.at ≡ Some (by.Call g) → StaysTidy code before (called p g h words (record frame { stack = rest }) frames)
    call_tidy p g None words rest here = tt
    call_tidy p g (Some h) words rest here = by_depth (suc (length frames) == 256)
      where
        deeper : (d : ℕ) (b : Bool) → (d == suc (suc (length frames))) ≡ b → (if b then 0 else owed d before) ≡ owed d before
        deeper d true e = sym (owed_past d before (let z = eqb-true d (suc (suc (length frames))) e in omega arith))
        deeper d false e = refl

        by_depth : (b : Bool) → StaysTidy code before (if b then stops (act.Trap p trap.Depth) else goes (entered g h words ∷ onward (record frame { stack = rest }) ∷ frames))
        by_depth true = tt
        by_depth false = (
          (record { plain = λ k e z. refl; ready = λ k e z. refl }, (next_tidy (by.Call g) here refl (onward (record frame { stack = rest })) refl refl refl, tidy.1)),
          λ d. deeper d (d == suc (suc (length frames))) refl,
        )

    return_tidy : (word : ℤ) (callers : State) → callers ≡ frames → slice_get f.body frame.at ≡ Some by.Return → StaysTidy code before (returned word callers)
    return_tidy word [] e here = tt
    return_tidy word (caller ∷ callers) e here =
        ((record { plain = rest.0.plain; ready = rest.0.ready }, rest.1), λ d. ap (owed d) e ∙ sym (top d (d == suc (length frames)) refl))
      where
        rest : AllTidy code (caller ∷ callers)
        rest = subst (AllTidy code) (sym e) tidy.1

        top : (d : ℕ) (b : Bool) → (d == suc (length frames)) ≡ b → (if b then length frame.targets else owed d frames) ≡ owed d frames
        top d true z = ap length (tidy.0.ready f known here) ∙ sym (owed_past d frames (let y = eqb-true d (suc (length frames)) z in omega arith))
        top d false z = refl

    spawn_tidy : (p : Pos) (g : ℕ) (target : Option ℕ) (hinted : Bool) (words : List ℤ) → slice_get f.body frame.at ≡ Some (by.Spawn g target hinted) →
        (next : Frame) → next.function ≡ frame.function → next.at ≡ suc frame.at → next.targets ≡ frame.targets ++ target ∷ [] →
        AllTidy code (next ∷ frames) × ((d : ℕ) → owed d (next ∷ frames) ≡ children_after (spawn_of p (suc (length frames)) g hinted words) (λ e. owed e before) d)
    spawn_tidy p g target hinted words here next same at targets = (
      (
        record {
          plain = λ h e quiet. absurd (let wrong : true ≡ false = sym spawns ∙ ap (λ (k : FuncCode). k.spawns) (sym (same_code next same h e)) ∙ quiet in cc);
          ready = λ h e ret. absurd (not_ready (ap (λ (k : FuncCode). slice_get k.body (suc frame.at)) (sym (same_code next same h e)) ∙ ap (slice_get h.body) (sym at) ∙ ret));
        },
        tidy.1,
      ),
      λ d. ap (λ t. if d == suc (length frames) then length t else owed d frames) targets ∙ by_hint hinted d,
    )
      where
        spawns : f.spawns ≡ true
        spawns = keeps.spawns frame.at (ap is_spawn here)

        not_ready : slice_get f.body (suc frame.at) ≡ Some by.Return → ⊥
        not_ready ret =
            let behind : is_sync (slice_get f.body frame.at) ≡ true = keeps.synced (suc frame.at) spawns (returns (slice_get f.body (suc frame.at)) ret) in
            let wrong : false ≡ true = ap is_sync (sym here) ∙ behind in cc

        more : (d : ℕ) (b : Bool) → (if b then length (frame.targets ++ target ∷ []) else owed d frames) ≡
            (if b then suc (if b then length frame.targets else owed d frames) else (if b then length frame.targets else owed d frames))
        more d true = omega (arith, length-append frame.targets (target ∷ []))
        more d false = refl

        by_hint : (hinted : Bool) (d : ℕ) → (if d == suc (length frames) then length (frame.targets ++ target ∷ []) else owed d frames) ≡
            children_after (spawn_of p (suc (length frames)) g hinted words) (λ e. owed e before) d
        by_hint false d = more d (d == suc (length frames))
        by_hint true d = more d (d == suc (length frames))

    sync_tidy : (next : Frame) → next.targets ≡ [] → AllTidy code (next ∷ frames) × ((d : ℕ) → owed d (next ∷ frames) ≡ children_after (act.Sync (suc (length frames))) (λ e. owed e before) d)
    sync_tidy next none = (
      (record { plain = λ h e z. none; ready = λ h e z. none }, tidy.1),
      λ d. ap (λ t. if d == suc (length frames) then length t else owed d frames) none ∙ gone d (d == suc (length frames)),
    )
      where
        gone : (d : ℕ) (b : Bool) → (if b then 0 else owed d frames) ≡ (if b then 0 else (if b then length frame.targets else owed d frames))
        gone d true = refl
        gone d false = refl

    each_tidy : (instr : Instr) (words rest : List ℤ) → IsAt code frame f instr words rest → StaysTidy code before (effect code frame frames f instr words rest)
    each_tidy (by.Push w) words rest a = goes_next _ a.here refl _ refl refl refl
    each_tidy (by.Get i) words rest a = goes_next _ a.here refl _ refl refl refl
    each_tidy (by.Set i) words rest a = goes_next _ a.here refl _ refl refl refl
    each_tidy by.Pop words rest a = goes_next _ a.here refl _ refl refl refl
    each_tidy by.Dup words rest a = goes_next _ a.here refl _ refl refl refl
    each_tidy (by.Un op) words rest a = goes_next _ a.here refl _ refl refl refl
    each_tidy (by.Bin op) words rest a = divided_tidy (place_in f frame.at) (binary_of op (word_at words 0) (word_at words 1)) rest op a.here
    each_tidy (by.Jump to) words rest a = jump_tidy _ a.here to refl _ refl refl refl
    each_tidy (by.JumpZero to) words rest a = test_tidy to (same_word (word_at words 0) (pos 0)) rest a.here
    each_tidy (by.Call g) words rest a = call_tidy (place_in f frame.at) g (slice_get code.functions g) words rest a.here
    each_tidy by.Return words rest a = return_tidy (word_at words 0) frames refl a.here
    each_tidy by.Turn words rest a = λ answer. goes_next _ a.here refl _ refl refl refl
    each_tidy by.Load words rest a = λ answer. goes_next _ a.here refl _ refl refl refl
    each_tidy (by.Post op) words rest a = λ answer. goes_next _ a.here refl _ refl refl refl
    each_tidy by.FetchAdd words rest a = λ answer. goes_next _ a.here refl _ refl refl refl
    each_tidy by.FetchSwap words rest a = λ answer. goes_next _ a.here refl _ refl refl refl
    each_tidy by.FetchCas words rest a = λ answer. goes_next _ a.here refl _ refl refl refl
    each_tidy by.Init words rest a = λ answer. goes_next _ a.here refl _ refl refl refl
    each_tidy by.Fence words rest a = λ answer. goes_next _ a.here refl _ refl refl refl
    each_tidy by.Move words rest a = λ answer. goes_next _ a.here refl _ refl refl refl
    each_tidy by.Where words rest a = λ answer. goes_next _ a.here refl _ refl refl refl
    each_tidy (by.Print i) words rest a = λ answer. goes_next _ a.here refl _ refl refl refl
    each_tidy (by.Alloc kind) words rest a = λ answer. goes_next _ a.here refl _ refl refl refl
    each_tidy (by.Spawn g target hinted) words rest a = λ answer. spawn_tidy (place_in f frame.at) g target hinted words a.here _ refl refl refl
    each_tidy by.Sync words rest a = λ answer. sync_tidy _ refl

pub stays_tidy : (code : Code) → is_sound code ≡ true → (state : State) → AllTidy code state → StaysTidy code state (step code state)
stays_tidy code sound [] tidy = tt
stays_tidy code sound (frame ∷ frames) tidy =
    by_instruction code frame frames (StaysTidy code (frame ∷ frames)) tt (λ f instr words rest a. each_tidy code sound frame frames tidy f a.known instr words rest a)
