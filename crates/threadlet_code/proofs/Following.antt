-- The state of a strand that has got some answers.
use Rattle.std.proofs.Common.{◌≡◌, ℕ, zero, suc, ◌+◌, ◌-◌, List, [], ◌∷◌, ◌++◌, length, Option, Some, None, refl, sym, ap, ◌∙◌, subst, arith, ℤ, true}
use Rattle.std.specs.Prelude.{slice_get}
use Rattle.world_model.specs.Action.{Action, Answers}
use Rattle.world_model.specs.Step.{last_of}
use Rattle.threadlet_code.specs.declared.code.Code.{Code}
use Rattle.threadlet_code.specs.Naming.{body_length}
use Rattle.threadlet_code.specs.Machine.{State, Next, goes, asks, stops, stuck, step}
use Rattle.threadlet_code.specs.Breaches.{is_sound}
use Rattle.threadlet_code.specs.Running.{room, settled, due, told, started, Halt, halts, halt}
use Rattle.threadlet_code.specs.Following.{resumed, answered_all, StartFollows, SilentFollows, AnswerFollows, NextIsLast, EndIsLast, SilentHaltsLater, ActionHaltsHere, LastActionHaltsHere}
use Rattle.threadlet_code.proofs.Kept.{has_turns}
use Rattle.threadlet_code.proofs.Nearing.{IsSettled, settled_more, due_settled, due_step}

-- ---- answers, one by one

answered_push : (answers : Answers) (code : Code) (answer : List ℤ) (next : Next) → answered_all (answers ++ answer ∷ []) code next ≡ resumed code answer (answered_all answers code next)
answered_push [] code answer next = refl
answered_push (first ∷ answers) code answer next = answered_push answers code answer (resumed code first next)

stops_stays : (answers : Answers) (code : Code) (action : Action) → answered_all answers code (stops action) ≡ stops action
stops_stays [] code action = refl
stops_stays (answer ∷ answers) code action = stops_stays answers code action

stuck_stays : (answers : Answers) (code : Code) → answered_all answers code stuck ≡ stuck
stuck_stays [] code = refl
stuck_stays (answer ∷ answers) code = stuck_stays answers code

goes_stays : (answers : Answers) (code : Code) (state : State) → answered_all answers code (goes state) ≡ goes state
goes_stays [] code state = refl
goes_stays (answer ∷ answers) code state = goes_stays answers code state

-- The action that comes next, if any.
abbrev action_in : Next → Option Action
action_in (goes state) = None
action_in (asks action resume) = Some action
action_in (stops action) = Some action
action_in stuck = None

last_more : (action : Action) (actions : List Action) (last : Action) → last_of actions ≡ Some last → last_of (action ∷ actions) ≡ Some last
last_more action [] last e = absurd (let wrong : None ≡ Some last = e in cc)
last_more action (next ∷ actions) last e = e

told_last : (answers : Answers) (code : Code) (next : Next) (last : Action) → action_in (answered_all answers code next) ≡ Some last → last_of (told answers code next) ≡ Some last
told_last answers code (goes state) last e = absurd (let wrong : None ≡ Some last = ap action_in (sym (goes_stays answers code state)) ∙ e in cc)
told_last answers code stuck last e = absurd (let wrong : None ≡ Some last = ap action_in (sym (stuck_stays answers code)) ∙ e in cc)
told_last answers code (stops action) last e = ap action_in (sym (stops_stays answers code action)) ∙ e
told_last [] code (asks action resume) last e = e
told_last (answer ∷ answers) code (asks action resume) last e =
    last_more action (told answers code (due code (resume answer))) last (told_last answers code (due code (resume answer)) last e)

told_many : (answers : Answers) (code : Code) (next : Next) (action : Action) (resume : List ℤ → State) → answered_all answers code next ≡ asks action resume →
    length (told answers code next) ≡ suc (length answers)
told_many answers code (goes state) action resume e = absurd (let wrong : goes state ≡ asks action resume = sym (goes_stays answers code state) ∙ e in cc)
told_many answers code stuck action resume e = absurd (let wrong : stuck ≡ asks action resume = sym (stuck_stays answers code) ∙ e in cc)
told_many answers code (stops last) action resume e = absurd (let wrong : stops last ≡ asks action resume = sym (stops_stays answers code last) ∙ e in cc)
told_many [] code (asks first next) action resume e = omega arith
told_many (answer ∷ answers) code (asks first next) action resume e =
    let more = told_many answers code (due code (next answer)) action resume e in omega arith

pub start_follows : StartFollows
start_follows code g args = refl

pub silent_follows : SilentFollows
silent_follows code sound g args answers state after e follows = sym (due_step code (has_turns code sound) state after e) ∙ follows

pub answer_follows : AnswerFollows
answer_follows code g args answers state action resume answer e follows =
    sym (answered_push answers code answer (due code (started g (slice_get code.functions g) args)) ∙ ap (resumed code answer) (sym follows ∙ e))

pub next_is_last : NextIsLast
next_is_last code g args answers state action resume e follows = (
  told_last answers code (due code (started g (slice_get code.functions g) args)) action (ap action_in (sym follows ∙ e)),
  told_many answers code (due code (started g (slice_get code.functions g) args)) action resume (sym follows ∙ e),
)

pub end_is_last : EndIsLast
end_is_last code g args answers state action e follows =
    told_last answers code (due code (started g (slice_get code.functions g) args)) action (ap action_in (sym follows ∙ e))

-- ---- where a strand halts

-- Silent instructions that were done before only count.
counted : (n : ℕ) (code : Code) (k : ℕ) (state : State) (next : Next) →
    ((halts n code (suc k) state next).state ≡ (halts n code k state next).state) × ((halts n code (suc k) state next).silent ≡ suc (halts n code k state next).silent)
counted zero code k state next = (refl, refl)
counted (suc n) code k state (goes after) = counted n code (suc k) after (step code after)
counted (suc n) code k state (asks action resume) = (refl, refl)
counted (suc n) code k state (stops action) = (refl, refl)
counted (suc n) code k state stuck = (refl, refl)

-- It halts at once where nothing silent is next.
halts_here : (n : ℕ) (code : Code) (k : ℕ) (state : State) (next : Next) → IsSettled next → halts n code k state next ≡ record { silent = k; state = state }
halts_here zero code k state next is = refl
halts_here (suc n) code k state (goes after) is = absurd is
halts_here (suc n) code k state (asks action resume) is = refl
halts_here (suc n) code k state (stops action) is = refl
halts_here (suc n) code k state stuck is = refl

-- All room that is enough has it halt in the same place.
halts_same : (n m : ℕ) (code : Code) (k : ℕ) (state : State) (next : Next) → IsSettled (settled n code next) → IsSettled (settled m code next) → halts n code k state next ≡ halts m code k state next
halts_same zero m code k state next a b = sym (halts_here m code k state next a)
halts_same (suc n) zero code k state next a b = halts_here (suc n) code k state next b
halts_same (suc n) (suc m) code k state (goes after) a b = halts_same n m code (suc k) after (step code after) a b
halts_same (suc n) (suc m) code k state (asks action resume) a b = refl
halts_same (suc n) (suc m) code k state (stops action) a b = refl
halts_same (suc n) (suc m) code k state stuck a b = refl

settled_behind : (r : ℕ) (code : Code) (after : State) → IsSettled (settled r code (goes after)) → IsSettled (settled r code (step code after))
settled_behind zero code after is = absurd is
settled_behind (suc r) code after is = subst IsSettled (sym (settled_more code r (suc r) (step code after) is (omega arith))) is

later : (r : ℕ) (code : Code) → is_sound code ≡ true → (state after : State) → step code state ≡ goes after → IsSettled (settled r code (step code state)) →
    ((halts (suc r) code 0 state (step code state)).state ≡ (halt code after).state) × ((halts (suc r) code 0 state (step code state)).silent ≡ suc (halt code after).silent)
later r code sound state after e is =
    let once : halts (suc r) code 0 state (step code state) ≡ halts r code 1 after (step code after) = ap (halts (suc r) code 0 state) e in
    let c = counted r code 0 after (step code after) in
    let same : halts r code 0 after (step code after) ≡ halt code after =
    halts_same r (room code after) code 0 after (step code after) (settled_behind r code after (subst (λ n. IsSettled (settled r code n)) e is))
    (settled_behind (room code after) code after (due_settled code (has_turns code sound) after)) in (
      ap (λ (h : Halt). h.state) once ∙ c.0 ∙ ap (λ (h : Halt). h.state) same,
      ap (λ (h : Halt). h.silent) once ∙ c.1 ∙ ap (λ (h : Halt). suc h.silent) same,
    )

pub silent_halts_later : SilentHaltsLater
silent_halts_later code sound [] after e = absurd (let wrong : stuck ≡ goes after = e in cc)
silent_halts_later code sound (frame ∷ frames) after e =
    later (body_length (slice_get code.functions frame.function) - frame.at + room code frames) code sound (frame ∷ frames) after e
    (due_settled code (has_turns code sound) (frame ∷ frames))

pub action_halts_here : ActionHaltsHere
action_halts_here code state action resume e = halts_here (room code state) code 0 state (step code state) (subst IsSettled (sym e) tt)

pub last_action_halts_here : LastActionHaltsHere
last_action_halts_here code state action e = halts_here (room code state) code 0 state (step code state) (subst IsSettled (sym e) tt)
