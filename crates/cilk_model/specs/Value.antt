-- What the value of an expression is, and which actions are made on the way. What a strand does is told by
-- continuation: each definition is given what the strand goes on to do with its value.
use Rattle.std.specs.Prelude.{ℕ, Bool, not, if◌then◌else◌, List, [], ◌∷◌, Option, Some, None, ℤ, pos}
use Rattle.word_ops.specs.declared.place.Pos.{Pos}
use Rattle.word_ops.specs.declared.ending.TrapKind.{TrapKind}
use Rattle.word_ops.specs.declared.ending.TrapKind.TheVariants as kind
use Rattle.word_ops.specs.Operators.{binary_of, unary_of, same_word, truth_of}
use Rattle.word_ops.specs.Formats.{printed}
use Rattle.mem_atomics.specs.declared.fetch_op.FetchOp.TheVariants as fetch
use Rattle.cilk_ast.specs.declared.builtin.Builtin.{Builtin}
use Rattle.cilk_ast.specs.declared.builtin.Builtin.TheVariants as built
use Rattle.cilk_ast.specs.declared.program.Expr.{Expr, Word, Slot, Call', Fence, Where, Print', Alloc', Row_of-Expr as Args, end_of-Expr as no_args, more_of-Expr as more_args}
use Rattle.cilk_ast.specs.Expression.{Un, Bin, Both, Either, Load, Post, Add, Swap, Cas, Init, Move}
use Rattle.world_model.specs.Action as act
use Rattle.world_model.specs.Meaning.{Acts, make, word_of}
use Rattle.world_model.specs.Action.{Action, Request, Answers}
use Rattle.world_model.specs.Activation.{Slots, word_at}

-- A trap is the strand's last action.
abbrev pub traps : Pos → TrapKind → Acts
traps at kind answers = act.Trap at kind ∷ []

-- What a call does: it stands at a place, calls a function on arguments, and goes on with what that returns.
abbrev pub Calling : Type 0
Calling = Pos → ℕ → List ℤ → (ℤ → Acts) → Acts

-- A word other than 0 is true.
abbrev pub is_true : ℤ → Bool
is_true word = not (same_word word (pos 0))

-- Goes on with a quotient or remainder, and traps where there is none.
abbrev pub divided : Pos → Option ℤ → (ℤ → Acts) → Acts
divided at None next = traps at kind.Divide
divided at (Some word) next = next word

-- What an allocation asks for. Programs keep that the word is one of these four.
abbrev pub request_of : Pos → Builtin → List ℤ → Request
request_of at built.MwMalloc1dlong args = act.Striped (word_at args 0)
request_of at built.MwMalloc2dlong args = act.Blocked (word_at args 0) (word_at args 1)
request_of at built.MwLocalmalloc args = act.Local at (word_at args 0) (word_at args 1)
request_of at built.MwMallocrepl args = act.Replicated (word_at args 0)
request_of at built.MwReplicatedInit args = act.Striped (word_at args 0)
request_of at built.RemoteAdd args = act.Striped (word_at args 0)
request_of at built.RemoteAnd args = act.Striped (word_at args 0)
request_of at built.RemoteOr args = act.Striped (word_at args 0)
request_of at built.RemoteXor args = act.Striped (word_at args 0)
request_of at built.RemoteMin args = act.Striped (word_at args 0)
request_of at built.RemoteMax args = act.Striped (word_at args 0)
request_of at built.AtomicAddms args = act.Striped (word_at args 0)
request_of at built.AtomicSwap args = act.Striped (word_at args 0)
request_of at built.AtomicCas args = act.Striped (word_at args 0)
request_of at built.Fence args = act.Striped (word_at args 0)
request_of at built.Migrate args = act.Striped (word_at args 0)
request_of at built.NodeId args = act.Striped (word_at args 0)

-- Makes an action and goes on with the word of its answer.
abbrev pub asks : Action → (ℤ → Acts) → Acts
asks action next = make action (λ answer. next (word_of answer))

-- Makes an action that has no answer and goes on with 0.
abbrev pub does : Action → (ℤ → Acts) → Acts
does action next = make action (λ _. next (pos 0))

-- Goes on with 1 for a word that is true, and with 0 for 0.
abbrev pub judged : (ℤ → Acts) → ℤ → Acts
judged next word = next (truth_of (is_true word))

module _ (call : Calling) where
  abbrev mutual
    -- Evaluates an expression over slots, and goes on with its value: a line for each form. What is named
    -- first is evaluated first, and then the form's own action is made.
    pub value : Expr → Slots → (ℤ → Acts) → Acts
    value (Word word) slots next = next word
    value (Slot slot) slots next = next (word_at slots slot)
    value (Un at op inner) slots next = value inner slots (λ x. next (unary_of op x))
    value (Bin at op left right) slots next = value left slots (λ x. value right slots (λ y. divided at (binary_of op x y) next))
    value (Both at left right) slots next = value left slots (λ x. if is_true x then value right slots (judged next) else next (pos 0))
    value (Either at left right) slots next = value left slots (λ x. if is_true x then next (pos 1) else value right slots (judged next))
    value (Load at address) slots next = value address slots (λ a. asks (act.Load at a) next)
    value (Post at op address word) slots next = value address slots (λ a. value word slots (λ v. does (act.Issue at op a v) next))
    value (Add at address word) slots next = value address slots (λ a. value word slots (λ v. asks (act.Fetch at (fetch.Add v) a) next))
    value (Swap at address word) slots next = value address slots (λ a. value word slots (λ v. asks (act.Fetch at (fetch.Swap v) a) next))
    value (Cas at address expected word) slots next =
        value address slots (λ a. value expected slots (λ x. value word slots (λ v. asks (act.Fetch at (fetch.Cas x v) a) next)))
    value (Init at address word) slots next = value address slots (λ a. value word slots (λ v. does (act.Init at a v) next))
    value Fence slots next = does act.Fence next
    value (Move at address) slots next = value address slots (λ a. does (act.Move at a) next)
    value Where slots next = asks act.Where next
    value (Call' at function n args) slots next = values args slots (λ words. call at function words next)
    value (Print' format n args) slots next = values args slots (λ words. does (act.Print (printed format words)) next)
    value (Alloc' at which n args) slots next = values args slots (λ words. asks (act.Alloc (request_of at which words)) next)

    -- Evaluates arguments from left to right, and goes on with their values.
    pub values : {n : _} → Args n → Slots → (List ℤ → Acts) → Acts
    values no_args slots next = next []
    values (more_args arg rest) slots next = value arg slots (λ x. values rest slots (λ words. next (x ∷ words)))

  -- The same for arguments in a list.
  abbrev pub values_of : List Expr → Slots → (List ℤ → Acts) → Acts
  values_of [] slots next = next []
  values_of (arg ∷ rest) slots next = value arg slots (λ x. values_of rest slots (λ words. next (x ∷ words)))
