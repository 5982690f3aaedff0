-- Lines that keep the rules where they stand in a body.
use Rattle.std.proofs.Common.{◌≡◌, ℕ, zero, suc, ◌+◌, ◌-◌, ◌<◌, ◌≤◌, List, [], ◌∷◌, ◌++◌, length, Option, Some, None, ap, ◌∙◌, subst, arith, true, false}
use Rattle.std.specs.Prelude.{slice_get, nat_le}
use Rattle.std.proofs.lemmas.Bool.Decides.{nat_tests}
use Rattle.std.proofs.lemmas.Option.{slice_get_within}
use Rattle.threadlet_code.specs.declared.instr.Instr.{Instr}
use Rattle.threadlet_code.specs.declared.instr.Instr.TheVariants.{Turn, Get, Set, Call, Print, Spawn, Jump, JumpZero, Return}
use Rattle.threadlet_code.specs.declared.code.FuncCode.{FuncCode}
use Rattle.threadlet_code.specs.declared.code.Code.{Code}
use Rattle.threadlet_code.specs.Operands.{operands, results}
use Rattle.threadlet_code.specs.Naming.{is_return}
use Rattle.threadlet_code.specs.Rules.{follows_sync}
use Rattle.threadlet_code.specs.Ways.{has_operands, exchanged}
use Rattle.codegen_expr.specs.Piece.{Line}
use Rattle.codegen_expr.specs.Stands.{LineAt}

-- How many words the stack has before the next line of the text: what an instruction leaves, but for a Jump, which
-- goes past lines that leave one word more.
abbrev pub next_height : Code → ℕ → Instr → ℕ
next_height code height (Jump to) = height - 1
next_height code height instr = exchanged height (operands code instr) (results instr)

-- So many words before each line, counted from the first.
abbrev pub height_in : Code → ℕ → List Instr → ℕ → ℕ
height_in code zero body height = height
height_in code (suc place) [] height = height
height_in code (suc place) (instr ∷ body) height = height_in code place body (next_height code height instr)

pub height_next : (code : Code) (place : ℕ) (body : List Instr) (height : ℕ) (instr : Instr) → slice_get body place ≡ Some instr →
    height_in code (suc place) body height ≡ next_height code (height_in code place body height) instr
height_next code place [] height instr is = absurd (let wrong : None ≡ Some instr = is in cc)
height_next code zero (first ∷ body) height instr is =
    let some : Some first ≡ Some instr = is in
    let same : first ≡ instr = cc in
    ap (next_height code height) same
height_next code (suc place) (first ∷ body) height instr is = height_next code place body (next_height code height first) instr is

-- The body of a function, with so many words before each line.
pub record Body (code : Code) : Type 0 where
  pub f : FuncCode
  pub height : ℕ → ℕ
  pub next : (place : ℕ) (instr : Instr) → slice_get f.body place ≡ Some instr → height (suc place) ≡ next_height code (height place) instr

le_test : (a b : ℕ) → a ≤ b → nat_le a b ≡ true
le_test a b h = grind (arith, nat_tests)

module _ {code : Code} (b : Body code) where
  -- A jump may lead to a place of the body: where the function spawns, to no return.
  pub record IsEntry (to : ℕ) : Type 0 where
    pub inside : to < length b.f.body
    pub synced : b.f.spawns ≡ true → is_return (slice_get b.f.body to) ≡ false

  abbrev pub IsSlot : Option ℕ → Type 0
  IsSlot None = Unit {0}
  IsSlot (Some slot) = slot < b.f.slots

  -- A jump may lead from a place to another, back only to a Turn, and finds so many words there.
  pub record Leads (place to words : ℕ) : Type 0 where
    pub entry : IsEntry to
    pub turn : to ≤ place → slice_get b.f.body to ≡ Some Turn
    pub height : b.height to ≡ words

  -- What an instruction names is there, and where it goes it may go.
  abbrev pub IsNamed : ℕ → Instr → Type 0
  IsNamed place (Get slot) = slot < b.f.slots
  IsNamed place (Set slot) = slot < b.f.slots
  IsNamed place (Call function) = function < length code.functions
  IsNamed place (Print format) = format < length code.formats
  IsNamed place (Spawn function target hinted) = (function < length code.functions) × IsSlot target × (b.f.spawns ≡ true)
  IsNamed place (Jump to) = Leads place to (b.height place)
  IsNamed place (JumpZero to) = Leads place to (b.height place - 1)
  IsNamed place Return = b.f.spawns ≡ true → follows_sync b.f place ≡ true
  IsNamed place _ = Unit {0}

  -- An instruction keeps the rules at a place.
  pub record Keeps (place : ℕ) (instr : Instr) : Type 0 where
    pub named : IsNamed place instr
    pub enough : has_operands (b.height place) (operands code instr) ≡ true
    pub low : b.height place ≤ b.f.height

  abbrev pub KeepsLines : ℕ → List Line → Type 0
  KeepsLines place [] = Unit {0}
  KeepsLines place (line ∷ lines) = Keeps place line.instr × KeepsLines (suc place) lines

  pub keeps_append : (place mid : ℕ) (xs ys : List Line) → place + length xs ≡ mid → KeepsLines place xs → KeepsLines mid ys → KeepsLines place (xs ++ ys)
  keeps_append place mid [] ys e p q = let same : mid ≡ place = omega arith in subst (λ k. KeepsLines k ys) same q
  keeps_append place mid (x ∷ xs) ys e p q = (p.0, keeps_append (suc place) mid xs ys (omega arith) p.1 q)

  -- Lines from a place on, behind which the next place has so many words: they keep the rules where G is so and a jump
  -- may lead to the place behind them; then one may lead to their own.
  pub record Passes (G : Type 0) (place : ℕ) (lines : List Line) (out words : ℕ) : Type 0 where
    pub behind : b.height out ≡ words
    pub enters : IsEntry out → IsEntry place
    pub keeps : G → IsEntry out → KeepsLines place lines

  pub passes_none : (G : Type 0) (place words : ℕ) → b.height place ≡ words → Passes G place [] place words
  passes_none G place words e = record { behind = e; enters = λ entry. entry; keeps = λ g entry. tt }

  pub passes_on : (G : Type 0) (place mid out words more : ℕ) (xs ys : List Line) → place + length xs ≡ mid → Passes G place xs mid words → Passes G mid ys out more → Passes G place (xs ++ ys) out more
  passes_on G place mid out words more xs ys e p q = record {
    behind = q.behind;
    enters = λ entry. p.enters (q.enters entry);
    keeps = λ g entry. keeps_append place mid xs ys e (p.keeps g (q.enters entry)) (q.keeps g entry);
  }

  pub passes_then : (G : Type 0) (place out words more : ℕ) (x : Line) (ys : List Line) → Passes G place (x ∷ []) (suc place) words → Passes G (suc place) ys out more → Passes G place (x ∷ ys) out more
  passes_then G place out words more x ys p q = record {
    behind = q.behind;
    enters = λ entry. p.enters (q.enters entry);
    keeps = λ g entry. ((p.keeps g (q.enters entry)).0, q.keeps g entry);
  }

  -- What the lines need follows from what is so, and from that a jump may lead behind them.
  pub passes_with : (G H : Type 0) (place out words : ℕ) (xs : List Line) → (G → IsEntry out → H) → Passes H place xs out words → Passes G place xs out words
  passes_with G H place out words xs from p = record { behind = p.behind; enters = p.enters; keeps = λ g entry. p.keeps (from g entry) entry }

  pub passes_to : (G : Type 0) (place out out' words words' : ℕ) (xs : List Line) → out ≡ out' → words ≡ words' → Passes G place xs out words → Passes G place xs out' words'
  passes_to G place out out' words words' xs e e' p = subst (λ n. Passes G place xs out' n) e' (subst (λ k. Passes G place xs k words) e p)

  pub passes_from : (G : Type 0) (place place' out words : ℕ) (xs : List Line) → place ≡ place' → Passes G place xs out words → Passes G place' xs out words
  passes_from G place place' out words xs e p = subst (λ k. Passes G k xs out words) e p

  -- ---- one line

  pub entry_at : (place : ℕ) (l : Line) → LineAt b.f place l → (b.f.spawns ≡ true → is_return (Some l.instr) ≡ false) → IsEntry place
  entry_at place l has no_return = record { inside = slice_get_within b.f.body place l.instr has.instr; synced = λ s. ap is_return has.instr ∙ no_return s }

  pub entry_to : (p q : ℕ) → p ≡ q → IsEntry p → IsEntry q
  entry_to p q e h = subst IsEntry e h

  pub height_behind : (place words n : ℕ) (l : Line) → LineAt b.f place l → b.height place ≡ words + n → (to : ℕ) → next_height code (words + n) l.instr ≡ to → b.height (suc place) ≡ to
  height_behind place words n l has e to is = b.next place l.instr has.instr ∙ ap (λ h. next_height code h l.instr) e ∙ is

  -- A line that pops n words.
  pub keeps_line : (place words n : ℕ) (l : Line) → operands code l.instr ≡ Some n → b.height place ≡ words + n → words + n ≤ b.f.height → IsNamed place l.instr → Keeps place l.instr
  keeps_line place words n l counted e low named =
      record { named = named; enough = ap (has_operands (b.height place)) counted ∙ le_test n (b.height place) (omega arith); low = omega arith }

  pub one_passes : (G : Type 0) (place words n to : ℕ) (l : Line) → LineAt b.f place l → (b.f.spawns ≡ true → is_return (Some l.instr) ≡ false) → operands code l.instr ≡ Some n →
      b.height place ≡ words + n → words + n ≤ b.f.height → next_height code (words + n) l.instr ≡ to → (G → IsEntry (suc place) → IsNamed place l.instr) → Passes G place (l ∷ []) (suc place) to
  one_passes G place words n to l has no_return counted e low is named = record {
    behind = height_behind place words n l has e to is;
    enters = λ entry. entry_at place l has no_return;
    keeps = λ g entry. (keeps_line place words n l counted e low (named g entry), tt);
  }
