-- What the functions that strands run mean.
use Rattle.std.specs.Prelude.{ℕ, suc, ℤ, pos, List, [], ◌∷◌, length, Bool, true, false, ◌==◌, ◌&&◌, if◌then◌else◌, Option, Some, None}
use Rattle.world_model.specs.Action.{Action, Spawn, Sync, Answers, answer_length, Turn, Load, Issue, Fetch, Init, Fence, Move, Where, Print, Alloc, End, Trap}

-- A meaning says which actions the strand that runs a function on arguments has made after these answers:
-- one for each answer, and the one that it is due next, or its last. It names the function of the first
-- strand, and says how many words of globals and of replicated globals there are.
pub record Meaning : Type 0 where
  pub acts : ℕ → List ℤ → Answers → List Action
  pub main : ℕ
  pub globals : ℕ
  pub replicated : ℕ

-- How many children the activation at each depth has to join, after one more action.
abbrev pub children_after : Action → (ℕ → ℕ) → ℕ → ℕ
children_after Turn children e = children e
children_after (Load _ _) children e = children e
children_after (Issue _ _ _ _) children e = children e
children_after (Fetch _ _ _) children e = children e
children_after (Init _ _ _) children e = children e
children_after Fence children e = children e
children_after (Move _ _) children e = children e
children_after Where children e = children e
children_after (Print _) children e = children e
children_after (Alloc _) children e = children e
children_after (Spawn d _ _ _) children e = if e == d then suc (children e) else children e
children_after (Sync d) children e = if e == d then 0 else children e
children_after (End _) children e = children e
children_after (Trap _ _) children e = children e

-- An answer has the length that its action demands.
abbrev pub is_answer : Option ℕ → List ℤ → Bool
is_answer None words = false
is_answer (Some n) words = length words == n

-- Answers fit actions where each answers the action in its place.
abbrev pub answers_fit : (ℕ → ℕ) → List Action → Answers → Bool
answers_fit children actions [] = true
answers_fit children [] (answer ∷ answers) = false
answers_fit children (action ∷ actions) (answer ∷ answers) =
    is_answer (answer_length children action) answer && answers_fit (children_after action children) actions answers

-- Answers fit the strand that runs a function on arguments.
abbrev pub fits : Meaning → ℕ → List ℤ → Answers → Bool
fits meaning function args answers = answers_fit (λ _. 0) (meaning.acts function args answers) answers

-- ---- how a meaning is written

-- What is done from some point on, by the answers to come.
abbrev pub Acts : Type 0
Acts = Answers → List Action

-- An action is made; what follows goes on with its answer.
abbrev pub make : Action → (List ℤ → Acts) → Acts
make action next [] = action ∷ []
make action next (answer ∷ answers) = action ∷ next answer answers

-- The word of an answer, and 0 where it has none.
abbrev pub word_of : List ℤ → ℤ
word_of [] = pos 0
word_of (word ∷ words) = word
