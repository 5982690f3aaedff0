-- What instructions pop off the stack and push on it.
use Rattle.std.specs.Prelude.{ℕ, zero, suc, Bool, true, false, List, [], ◌∷◌, Option, Some, None, ℤ, slice_get, option_map}
use Rattle.word_ops.specs.Formats.{words_in}
use Rattle.threadlet_code.specs.declared.instr.AllocCode.{AllocCode}
use Rattle.threadlet_code.specs.declared.instr.AllocCode.TheVariants.{Striped, Blocked, Local, Replicated}
use Rattle.threadlet_code.specs.declared.instr.Instr.{Instr}
use Rattle.threadlet_code.specs.declared.instr.Instr.TheVariants.{Push, Get, Set, Pop, Dup, Un, Bin, JumpZero, Call, Return, Load, Post, FetchAdd, FetchSwap, FetchCas, Init, Move, Where, Print, Alloc, Spawn}
use Rattle.threadlet_code.specs.declared.code.FuncCode.{FuncCode}
use Rattle.threadlet_code.specs.declared.code.Code.{Code}

-- How many arguments a function takes, where it is there.
abbrev pub params_of : Code → ℕ → Option ℕ
params_of code function = option_map (λ (f : FuncCode). f.params) (slice_get code.functions function)

-- How many words an allocation takes.
abbrev pub alloc_operands : AllocCode → ℕ
alloc_operands Striped = 1
alloc_operands Blocked = 2
alloc_operands Local = 2
alloc_operands Replicated = 1

-- How many words a spawn pops besides its arguments: a hint's address.
abbrev pub hint_operands : Bool → ℕ → ℕ
hint_operands false n = n
hint_operands true n = suc n

-- How many words an instruction pops by itself.
abbrev pub own_operands : Instr → ℕ
own_operands (Set _) = 1
own_operands Pop = 1
own_operands Dup = 1
own_operands (Un _) = 1
own_operands (Bin _) = 2
own_operands (JumpZero _) = 1
own_operands Return = 1
own_operands Load = 1
own_operands (Post _) = 2
own_operands FetchAdd = 2
own_operands FetchSwap = 2
own_operands FetchCas = 3
own_operands Init = 2
own_operands Move = 1
own_operands (Alloc kind) = alloc_operands kind
own_operands _ = 0

-- How many words an instruction pops: a call and a spawn as many as the function has parameters, and a
-- print as many as the format has words, where these are there.
abbrev pub operands : Code → Instr → Option ℕ
operands code (Call function) = params_of code function
operands code (Spawn function _ hinted) = option_map (hint_operands hinted) (params_of code function)
operands code (Print format) = option_map words_in (slice_get code.formats format)
operands code instr = Some (own_operands instr)

-- How many words stand on the stack in their place once the instruction is done: for a call the value that is
-- returned, for an action the word that answers it.
abbrev pub results : Instr → ℕ
results (Push _) = 1
results (Get _) = 1
results Dup = 2
results (Un _) = 1
results (Bin _) = 1
results (Call _) = 1
results Load = 1
results FetchAdd = 1
results FetchSwap = 1
results FetchCas = 1
results Where = 1
results (Alloc _) = 1
results _ = 0

-- The words that are popped, the lowest first, and the stack under them.
abbrev pub taken : ℕ → List ℤ → List ℤ → Option (List ℤ × List ℤ)
taken zero stack words = Some (words, stack)
taken (suc n) [] words = None
taken (suc n) (word ∷ stack) words = taken n stack (word ∷ words)
