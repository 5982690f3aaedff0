-- The code that bytes are, or else the first line that is broken, and how.
use Rattle.std.specs.Prelude.{⊤, ℕ, zero, suc, ◌+◌, ◌-◌, ◌^◌, ◌==◌, List, [], ◌∷◌, ◌++◌, codes, length, take, Option, Some, None, Result, Ok, Err}
use Rattle.std.specs.List.{count_by}
use Rattle.word_ops.specs.declared.place.Pos.{Pos}
use Rattle.word_ops.specs.declared.format.Part.{Part}
use Rattle.threadlet_code.specs.declared.instr.Instr.{Instr}
use Rattle.threadlet_code.specs.declared.code.FuncCode.{FuncCode}
use Rattle.threadlet_code.specs.declared.code.Code.{Code}
use Rattle.code_text.specs.declared.fault.CodeFault.{CodeFault}
use Rattle.code_text.specs.declared.fault.CodeKind.{CodeKind}
use Rattle.code_text.specs.declared.fault.CodeKind.TheVariants as kind
use Rattle.code_text.specs.declared.header.Header.{Header}
use Rattle.code_text.specs.declared.stop.Broken.{Broken}
use Rattle.code_text.specs.declared.stop.Stop.{Stop}
use Rattle.code_text.specs.declared.stop.Stop.TheVariants.{At, OutOfMemory}
use Rattle.code_text.specs.Words.{cut}
use Rattle.code_text.specs.Reading.{said_in, counted_in, format_in, header_in, placed_in}

-- what holds of the broken line at which reading stops
abbrev pub IfAt : Stop → (Broken → Type 0) → Type 0
IfAt (At broken) P = P broken
IfAt OutOfMemory P = ⊤

-- what was read and what stands behind it, or the broken line
abbrev pub Reading : Type 0 → Type 0
Reading A = Result (A × List ℕ) Broken

-- the line that the bytes begin with is broken
abbrev pub broken : {A : Type 0} → CodeKind → List ℕ → Reading A
broken kind bytes = Err (record { kind = kind; left = length bytes })

-- goes on behind what was read
abbrev pub then_on : {A B : Type 0} → Reading A → (A → List ℕ → Reading B) → Reading B
then_on (Err stop) next = Err stop
then_on (Ok x) next = next x.0 x.1

-- what was found on the line before the rest
abbrev pub found : {A : Type 0} → CodeKind → List ℕ → Option A → List ℕ → Reading A
found kind bytes None rest = broken kind bytes
found kind bytes (Some x) rest = Ok (x, rest)

-- the first line, which is to be an item
abbrev pub first_line : {A : Type 0} → CodeKind → (List ℕ → Option A) → List ℕ → Option (List ℕ × List ℕ) → Reading A
first_line kind item bytes None = broken kind bytes
first_line kind item bytes (Some x) = found kind bytes (item x.0) x.1

-- an item that stands alone on the first line
abbrev pub on_line : {A : Type 0} → CodeKind → (List ℕ → Option A) → List ℕ → Reading A
on_line kind item bytes = first_line kind item bytes (cut 10 bytes)

-- as many more items as there are to be, each added to those so far
abbrev pub many_in : {A S : Type 0} → (List ℕ → Reading A) → (S → A → S) → S → ℕ → List ℕ → Reading S
many_in one add so_far zero bytes = Ok (so_far, bytes)
many_in one add so_far (suc more) bytes = then_on (one bytes) (λ x rest. many_in one add (add so_far x) more rest)

-- an item at the end of a list
abbrev pub pushed : {A : Type 0} → List A → A → List A
pushed xs x = xs ++ x ∷ []

-- a line of a format
abbrev pub one_format : List ℕ → Reading (List Part)
one_format bytes = on_line kind.BadText format_in bytes

-- a line of an instruction
abbrev pub one_placed : List ℕ → Reading (Pos × Instr)
one_placed bytes = on_line kind.BadInstr placed_in bytes

-- a function with one instruction more
abbrev pub with_line : FuncCode → Pos × Instr → FuncCode
with_line f x = record f { places = f.places ++ x.0 ∷ []; body = f.body ++ x.1 ∷ [] }

-- a function of its header and instructions
abbrev pub made_of : Header → List Pos → List Instr → FuncCode
made_of h places body = record { params = h.params; slots = h.slots; height = h.height; spawns = h.spawns; body = body; places = places }

-- a function
abbrev pub one_function : List ℕ → Reading FuncCode
one_function bytes = then_on (on_line kind.BadHeader header_in bytes) (λ h rest. many_in one_placed with_line (made_of h [] []) h.length rest)

-- nothing stands there
abbrev pub over_in : List ℕ → Reading ⊤
over_in [] = Ok (tt, [])
over_in (b ∷ bs) = broken kind.BadEnd (b ∷ bs)

-- a line of a word and a number of 32 bits
abbrev pub small_in : List ℕ → List ℕ → Reading ℕ
small_in word bytes = on_line kind.BadCount (counted_in word (2 ^ 32 - 1)) bytes

-- a line of a word and a number of 64 bits
abbrev pub large_in : List ℕ → List ℕ → Reading ℕ
large_in word bytes = on_line kind.BadCount (counted_in word (2 ^ 64 - 1)) bytes

-- how many globals there are of either kind, and the formats
abbrev pub front_in : List ℕ → Reading (ℕ × (ℕ × List (List Part)))
front_in bytes =
    then_on (on_line kind.BadHead (said_in (codes "emu-code 1")) bytes) (λ head rest.
    then_on (small_in (codes "globals") rest) (λ globals rest.
    then_on (small_in (codes "replicated") rest) (λ replicated rest.
    then_on (large_in (codes "formats") rest) (λ size rest.
    then_on (many_in one_format pushed [] size rest) (λ formats rest. Ok ((globals, (replicated, formats)), rest))))))

-- which function is main, and the functions
abbrev pub back_in : List ℕ → Reading (ℕ × List FuncCode)
back_in bytes =
    then_on (large_in (codes "functions") bytes) (λ size rest.
    then_on (small_in (codes "main") rest) (λ main rest.
    then_on (many_in one_function pushed [] size rest) (λ functions rest. Ok ((main, functions), rest))))

-- the whole code, and nothing behind it
abbrev pub all_in : List ℕ → Reading Code
all_in bytes =
    then_on (front_in bytes) (λ front rest.
    then_on (back_in rest) (λ back rest.
    then_on (on_line kind.BadEnd (said_in (codes "end")) rest) (λ end rest.
    then_on (over_in rest) (λ over rest.
    Ok (record { functions = back.1; main = back.0; formats = front.1.1; globals = front.0; replicated = front.1.0 }, rest)))))

-- how many newlines a text has
abbrev pub newlines : List ℕ → ℕ
newlines text = count_by (λ b. b == 10) text

-- the code, or the fault at the line that is broken, counted from 1 by the newlines before it
abbrev pub told : List ℕ → Reading Code → Result Code CodeFault
told bytes (Ok x) = Ok x.0
told bytes (Err stop) = Err (record { line = 1 + newlines (take (length bytes - stop.left) bytes); kind = stop.kind })

-- the code that the bytes are, or their first broken line
abbrev pub code_in : List ℕ → Result Code CodeFault
code_in bytes = told bytes (all_in bytes)
