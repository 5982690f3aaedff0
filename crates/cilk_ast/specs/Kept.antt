-- What each program keeps.
use Rattle.std.specs.Prelude.{ℕ, suc, ◌^◌, ◌==◌, nat_lt, nat_le, Bool, true, false, ◌&&◌, not, List, length, Option, Some, None, slice_get}
use Rattle.std.specs.List.{list_all}
use Rattle.word_ops.specs.Formats.{words_in, is_printable}
use Rattle.cilk_ast.specs.declared.builtin.Builtin.{Builtin}
use Rattle.cilk_ast.specs.declared.builtin.Builtin.TheVariants as built
use Rattle.cilk_ast.specs.declared.program.Function.{Function}
use Rattle.cilk_ast.specs.Parts.{every, each, expressions_of}
use Rattle.cilk_ast.specs.declared.program.Expr.{Expr, Slot, Call', Print', Alloc', Add', Bin', Both', Cas', Either', Fence, Init', Load', Move', Post', Swap', Un', Where, Word}
use Rattle.cilk_ast.specs.Expression.{listed}
use Rattle.cilk_ast.specs.declared.program.Stmt.{Stmt, Block', Set, Spawn, Each, Break, Continue, Row_of-Stmt as Stmts, end_of-Stmt as no_stmts, more_of-Stmt as more_stmts, AddTo, Eval, If', Loop', Nothing, Return, Store, Sync}
use Rattle.cilk_ast.specs.Statement.{If, Loop}

-- ---- Functions, targets, allocations

-- The function is there, and has so many parameters.
abbrev pub takes : List Function → ℕ → ℕ → Bool
takes functions function n = has_params (slice_get functions function) n
  where
    has_params : Option Function → ℕ → Bool
    has_params None n = false
    has_params (Some f) n = f.params == n

-- The target of a spawn, if any, is under the number of slots.
abbrev pub is_target : ℕ → Option ℕ → Bool
is_target slots None = true
is_target slots (Some slot) = nat_lt slot slots

-- The word allocates, and takes so many arguments.
abbrev pub allocates : Builtin → ℕ → Bool
allocates built.MwMalloc1dlong n = n == 1
allocates built.MwMalloc2dlong n = n == 2
allocates built.MwLocalmalloc n = n == 2
allocates built.MwMallocrepl n = n == 1
allocates built.MwReplicatedInit n = false
allocates built.RemoteAdd n = false
allocates built.RemoteAnd n = false
allocates built.RemoteOr n = false
allocates built.RemoteXor n = false
allocates built.RemoteMin n = false
allocates built.RemoteMax n = false
allocates built.AtomicAddms n = false
allocates built.AtomicSwap n = false
allocates built.AtomicCas n = false
allocates built.Fence n = false
allocates built.Migrate n = false
allocates built.NodeId n = false

-- ---- Conditions on one expression

-- A slot is under the number of slots.
abbrev pub reads_slots : ℕ → Expr → Bool
reads_slots slots (Word _) = true
reads_slots slots (Slot slot) = nat_lt slot slots
reads_slots slots (Un' _ _ _ _) = true
reads_slots slots (Bin' _ _ _ _ _ _) = true
reads_slots slots (Both' _ _ _ _ _) = true
reads_slots slots (Either' _ _ _ _ _) = true
reads_slots slots (Load' _ _ _) = true
reads_slots slots (Call' _ _ _ _) = true
reads_slots slots (Post' _ _ _ _ _ _) = true
reads_slots slots (Add' _ _ _ _ _) = true
reads_slots slots (Swap' _ _ _ _ _) = true
reads_slots slots (Cas' _ _ _ _ _ _ _) = true
reads_slots slots (Init' _ _ _ _ _) = true
reads_slots slots Fence = true
reads_slots slots (Move' _ _ _) = true
reads_slots slots Where = true
reads_slots slots (Print' _ _ _) = true
reads_slots slots (Alloc' _ _ _ _) = true

-- A called function is there, and gets as many arguments as it has parameters.
abbrev pub calls_agree : List Function → Expr → Bool
calls_agree functions (Word _) = true
calls_agree functions (Slot _) = true
calls_agree functions (Un' _ _ _ _) = true
calls_agree functions (Bin' _ _ _ _ _ _) = true
calls_agree functions (Both' _ _ _ _ _) = true
calls_agree functions (Either' _ _ _ _ _) = true
calls_agree functions (Load' _ _ _) = true
calls_agree functions (Call' at function n args) = takes functions function (length (listed args))
calls_agree functions (Post' _ _ _ _ _ _) = true
calls_agree functions (Add' _ _ _ _ _) = true
calls_agree functions (Swap' _ _ _ _ _) = true
calls_agree functions (Cas' _ _ _ _ _ _ _) = true
calls_agree functions (Init' _ _ _ _ _) = true
calls_agree functions Fence = true
calls_agree functions (Move' _ _ _) = true
calls_agree functions Where = true
calls_agree functions (Print' _ _ _) = true
calls_agree functions (Alloc' _ _ _ _) = true

-- A print has as many arguments as its format has words, and its format's bytes can be printed.
abbrev pub prints_agree : Expr → Bool
prints_agree (Word _) = true
prints_agree (Slot _) = true
prints_agree (Un' _ _ _ _) = true
prints_agree (Bin' _ _ _ _ _ _) = true
prints_agree (Both' _ _ _ _ _) = true
prints_agree (Either' _ _ _ _ _) = true
prints_agree (Load' _ _ _) = true
prints_agree (Call' _ _ _ _) = true
prints_agree (Post' _ _ _ _ _ _) = true
prints_agree (Add' _ _ _ _ _) = true
prints_agree (Swap' _ _ _ _ _) = true
prints_agree (Cas' _ _ _ _ _ _ _) = true
prints_agree (Init' _ _ _ _ _) = true
prints_agree Fence = true
prints_agree (Move' _ _ _) = true
prints_agree Where = true
prints_agree (Print' format n args) = words_in format == length (listed args) && list_all is_printable format
prints_agree (Alloc' _ _ _ _) = true

-- An allocation names one of the four words that allocate, and has that word's number of arguments.
abbrev pub allocs_agree : Expr → Bool
allocs_agree (Word _) = true
allocs_agree (Slot _) = true
allocs_agree (Un' _ _ _ _) = true
allocs_agree (Bin' _ _ _ _ _ _) = true
allocs_agree (Both' _ _ _ _ _) = true
allocs_agree (Either' _ _ _ _ _) = true
allocs_agree (Load' _ _ _) = true
allocs_agree (Call' _ _ _ _) = true
allocs_agree (Post' _ _ _ _ _ _) = true
allocs_agree (Add' _ _ _ _ _) = true
allocs_agree (Swap' _ _ _ _ _) = true
allocs_agree (Cas' _ _ _ _ _ _ _) = true
allocs_agree (Init' _ _ _ _ _) = true
allocs_agree Fence = true
allocs_agree (Move' _ _ _) = true
allocs_agree Where = true
allocs_agree (Print' _ _ _) = true
allocs_agree (Alloc' at which n args) = allocates which (length (listed args))

-- ---- Conditions on one statement

-- The slots that a statement sets, takes as a target or copies are under the number of slots.
abbrev pub writes_slots : ℕ → Stmt → Bool
writes_slots slots Nothing = true
writes_slots slots (Block' _ _) = true
writes_slots slots (Eval _) = true
writes_slots slots (Set slot value) = nat_lt slot slots
writes_slots slots (Store _ _ _) = true
writes_slots slots (AddTo _ _ _) = true
writes_slots slots (Spawn at target function hint args) = is_target slots target
writes_slots slots (If' _ _ _ _ _) = true
writes_slots slots (Loop' _ _ _ _ _) = true
writes_slots slots (Each at low high function copies) = list_all (λ slot. nat_lt slot slots) copies
writes_slots slots Break = true
writes_slots slots Continue = true
writes_slots slots (Return _) = true
writes_slots slots Sync = true

-- A spawned function is there, and gets as many arguments as it has parameters; the body of a `cilk_for`
-- gets the variable and the copies.
abbrev pub spawns_agree : List Function → Stmt → Bool
spawns_agree functions Nothing = true
spawns_agree functions (Block' _ _) = true
spawns_agree functions (Eval _) = true
spawns_agree functions (Set _ _) = true
spawns_agree functions (Store _ _ _) = true
spawns_agree functions (AddTo _ _ _) = true
spawns_agree functions (Spawn at target function hint args) = takes functions function (length args)
spawns_agree functions (If' _ _ _ _ _) = true
spawns_agree functions (Loop' _ _ _ _ _) = true
spawns_agree functions (Each at low high function copies) = takes functions function (suc (length copies))
spawns_agree functions Break = true
spawns_agree functions Continue = true
spawns_agree functions (Return _) = true
spawns_agree functions Sync = true

-- No statement but a spawn or a `cilk_for` spawns.
abbrev pub is_no_spawn : Stmt → Bool
is_no_spawn Nothing = true
is_no_spawn (Block' _ _) = true
is_no_spawn (Eval _) = true
is_no_spawn (Set _ _) = true
is_no_spawn (Store _ _ _) = true
is_no_spawn (AddTo _ _ _) = true
is_no_spawn (Spawn at target function hint args) = false
is_no_spawn (If' _ _ _ _ _) = true
is_no_spawn (Loop' _ _ _ _ _) = true
is_no_spawn (Each at low high function copies) = false
is_no_spawn Break = true
is_no_spawn Continue = true
is_no_spawn (Return _) = true
is_no_spawn Sync = true

-- ---- Whole bodies, functions and programs

-- Each break and continue in a statement stands in the body of a loop; `inside` says that the statement
-- itself does.
abbrev mutual
  pub breaks_agree : Stmt → Bool → Bool
  breaks_agree Nothing inside = true
  breaks_agree (Block' n body) inside = all_breaks_agree body inside
  breaks_agree (Eval _) inside = true
  breaks_agree (Set _ _) inside = true
  breaks_agree (Store _ _ _) inside = true
  breaks_agree (AddTo _ _ _) inside = true
  breaks_agree (Spawn _ _ _ _ _) inside = true
  breaks_agree (If test yes_ no_) inside = breaks_agree yes_ inside && breaks_agree no_ inside
  breaks_agree (Loop test step body) inside = breaks_agree step inside && breaks_agree body true
  breaks_agree (Each _ _ _ _ _) inside = true
  breaks_agree Break inside = inside
  breaks_agree Continue inside = inside
  breaks_agree (Return _) inside = true
  breaks_agree Sync inside = true

  pub all_breaks_agree : {n : _} → Stmts n → Bool → Bool
  all_breaks_agree no_stmts inside = true
  all_breaks_agree (more_stmts first rest) inside = breaks_agree first inside && all_breaks_agree rest inside

-- An expression of a function with so many slots is well formed.
abbrev pub keeps_expression : List Function → ℕ → Expr → Bool
keeps_expression functions slots e =
    every (reads_slots slots) e && every (calls_agree functions) e && every prints_agree e && every allocs_agree e

-- A statement of a function with so many slots is well formed.
abbrev pub keeps_statement : List Function → ℕ → Stmt → Bool
keeps_statement functions slots body =
    each (writes_slots slots) body && each (spawns_agree functions) body && each (λ s. list_all (keeps_expression functions slots) (expressions_of s)) body

-- The body has a spawn or a `cilk_for`.
abbrev pub has_spawn : Stmt → Bool
has_spawn body = not (each is_no_spawn body)

-- Two truths are the same.
abbrev pub same_truth : Bool → Bool → Bool
same_truth true b = b
same_truth false b = not b

-- A function is well formed.
abbrev pub keeps_function : List Function → Function → Bool
keeps_function functions f =
    nat_le f.params f.slots && nat_le f.slots (2 ^ 28) && keeps_statement functions f.slots f.body && breaks_agree f.body false && same_truth f.spawns (has_spawn f.body)

-- A program is well formed: each of its functions is, and main is there and has no parameters.
abbrev pub keeps : List Function → ℕ → Bool
keeps functions main = takes functions main 0 && list_all (keeps_function functions) functions
