-- The code of a statement keeps the rules: stretches, and how larger ones are made of them.
use Rattle.std.proofs.Common.{◌≡◌, ℕ, suc, ◌+◌, ◌≤◌, List, [], ◌∷◌, ◌++◌, length, Some, refl, sym, ap, ◌∙◌, arith, Bool, false, true}
use Rattle.threadlet_code.specs.declared.instr.Instr.TheVariants as by
use Rattle.threadlet_code.specs.declared.code.Code.{Code}
use Rattle.threadlet_code.specs.Operands.{operands, results}
use Rattle.threadlet_code.specs.Naming.{is_return, is_sync}
use Rattle.codegen_expr.specs.Piece.{Line, placeless, Piece, in_order}
use Rattle.codegen_expr.specs.Stands.{LinesAt, FormatsAt}
use Rattle.codegen_expr.proofs.Standing.{lines_front, lines_back, formats_front, formats_back}
use Rattle.codegen_expr.proofs.Makes.{IsSized}
use Rattle.codegen_stmt.specs.Stretch.{Exits, Stretch, plain, leaving, behind, using, returning}
use Rattle.codegen_stmt.proofs.Runs.{IsLong}
use Rattle.codegen_stmt.proofs.LineRules.{Body, IsEntry, IsNamed, KeepsLines, Passes, passes_none, passes_on, passes_to, passes_with, keeps_line, one_passes, entry_at, height_behind}
use Rattle.codegen_stmt.proofs.PieceRules.{LeavesAll, GoesOn, leaves_words}

module _ {code : Code} (b : Body code) where
  -- An exit of lines that end at a place: it is not before that, and a jump may lead to it with no word on the stack.
  pub record IsExit (to out : ℕ) : Type 0 where
    pub after : out ≤ to
    pub entry : IsEntry b to
    pub height : b.height to ≡ 0

  pub record AreExits (exits : Exits) (out : ℕ) : Type 0 where
    pub broken : IsExit exits.broken out
    pub continued : IsExit exits.continued out

  exit_sooner : (to out sooner : ℕ) → sooner ≤ out → IsExit to out → IsExit to sooner
  exit_sooner to out sooner le x = record { after = let h = x.after in omega arith; entry = x.entry; height = x.height }

  pub exits_sooner : (exits : Exits) (out sooner : ℕ) → sooner ≤ out → AreExits exits out → AreExits exits sooner
  exits_sooner exits out sooner le x = record { broken = exit_sooner exits.broken out sooner le x.broken; continued = exit_sooner exits.continued out sooner le x.continued }

  -- The lines of a stretch keep the rules wherever it stands, and leave no word.
  abbrev pub Clears : Stretch → Type 0
  Clears stretch = (exits : Exits) (place first : ℕ) → LinesAt b.f place (stretch.lines exits place first) → FormatsAt code.formats first stretch.formats → b.height place ≡ 0 →
      stretch.rise ≤ b.f.height → Passes b (AreExits exits (place + stretch.size)) place (stretch.lines exits place first) (place + stretch.size) 0

  -- Own lines use up so many words.
  abbrev pub UsesUp : List Line → ℕ → Type 0
  UsesUp own n = (place : ℕ) → LinesAt b.f place own → b.height place ≡ n → n ≤ b.f.height → Passes b (Unit {0}) place own (place + length own) 0

  pub none_clears : Clears (plain [])
  none_clears exits place first has formats e low =
      let G = AreExits exits (place + 0) in passes_to b G place place (place + 0) 0 0 [] (omega arith) refl (passes_none b G place 0 e)

  pub sync_clears : Clears (plain (placeless by.Sync ∷ []))
  sync_clears exits place first has formats e low =
      let G = AreExits exits (place + 1) in
      passes_to b G place (suc place) (place + 1) 0 0 (placeless by.Sync ∷ []) (omega arith) refl
      (one_passes b G place 0 0 0 (placeless by.Sync) has.0 (λ s. refl) refl (omega arith) (omega arith) refl (λ g entry. tt))

  -- A jump to an exit.
  pub leaving_clears : (to : Exits → ℕ) → ((exits : Exits) (out : ℕ) → AreExits exits out → IsExit (to exits) out) → Clears (leaving to)
  leaving_clears to exit exits place first has formats e low =
      let G = AreExits exits (place + 1) in
      passes_to b G place (suc place) (place + 1) 0 0 (placeless (by.Jump (to exits)) ∷ []) (omega arith) refl
      (one_passes b G place 0 0 0 (placeless (by.Jump (to exits))) has.0 (λ s. refl) refl (omega arith) (omega arith) refl
      (λ g entry. let x = exit exits (place + 1) g in let le = x.after in record { entry = x.entry; turn = λ back. absurd (omega arith); height = x.height ∙ sym e }))

  pub behind_clears : (a c : Stretch) → IsLong a → Clears a → Clears c → Clears (behind a c)
  behind_clears a c long_a clears_a clears_c exits place first has formats e low =
      let mid = place + a.size in
      let out = place + (a.size + c.size) in
      let same : mid + c.size ≡ out = omega arith in
      let G = AreExits exits out in
      let front = a.lines exits place first in
      let back = c.lines exits mid (first + length a.formats) in
      let p = clears_a exits place first (lines_front b.f place front back has) (formats_front code.formats first a.formats c.formats formats) e (omega arith) in
      let q = clears_c exits mid (first + length a.formats) (lines_back b.f place a.size front back (long_a exits place first) has)
      (formats_back code.formats first a.formats c.formats formats) p.behind (omega arith) in
      passes_on b G place mid out 0 0 front back (ap (λ n. place + n) (long_a exits place first))
      (passes_with b G (AreExits exits mid) place mid 0 front (λ g entry. exits_sooner exits out mid (omega arith) g) p)
      (passes_to b G mid (mid + c.size) out 0 0 back same refl (passes_with b G (AreExits exits (mid + c.size)) mid (mid + c.size) 0 back (λ g entry. exits_sooner exits out (mid + c.size) (omega arith) g) q))

  -- ---- words, and lines that use them up

  pub using_clears : (pieces : List Piece) (own : List Line) → IsSized (in_order pieces) → length pieces ≤ (in_order pieces).rise → LeavesAll b pieces → UsesUp own (length pieces) → Clears (using pieces own)
  using_clears pieces own sized rises all uses exits place first has formats e low =
      let words = in_order pieces in
      let U = Unit {0} in
      let front = words.lines place first in
      let mid = place + words.size in
      let out = place + (words.size + length own) in
      let p = all place first 0 (lines_front b.f place front own has) formats e (omega arith) in
      let h = p.behind in
      let q = uses mid (lines_back b.f place words.size front own (sized place first) has) (omega arith) (omega arith) in
      passes_with b (AreExits exits out) U place out 0 (front ++ own) (λ g entry. tt)
      (passes_to b U place (mid + length own) out 0 0 (front ++ own) (omega arith) refl
      (passes_on b U place mid (mid + length own) (0 + length pieces) 0 front own (ap (λ n. place + n) (sized place first)) p q))

  pub use_line : (l : Line) (n : ℕ) → is_return (Some l.instr) ≡ false → operands code l.instr ≡ Some n → results l.instr ≡ 0 → GoesOn b l → ((place : ℕ) → IsNamed b place l.instr) → UsesUp (l ∷ []) n
  use_line l n no_return counted left on named place has e low =
      passes_to b (Unit {0}) place (suc place) (place + 1) (0 + 0) 0 (l ∷ []) (omega arith) refl
      (one_passes b (Unit {0}) place 0 n (0 + 0) l has.0 (λ s. no_return) counted (omega arith) (omega arith) (leaves_words b l n 0 0 counted left on) (λ g entry. named place))

  -- The end of an activation.
  pub returning_keeps : (spawns : Bool) → b.f.spawns ≡ spawns → (place : ℕ) → LinesAt b.f place (returning spawns) → b.height place ≡ 1 → 1 ≤ b.f.height → KeepsLines b place (returning spawns)
  returning_keeps true is place has e low =
      let sync = placeless by.Sync in
      let h : b.height (suc place) ≡ 1 = height_behind b place 1 0 sync has.0 (omega arith) 1 refl in (
        keeps_line b place 1 0 sync refl (omega arith) (omega arith) tt,
        (keeps_line b (suc place) 0 1 (placeless by.Return) refl (omega arith) (omega arith) (λ s. ap is_sync has.0.instr), tt),
      )
  returning_keeps false is place has e low = (
    keeps_line b place 0 1 (placeless by.Return) refl (omega arith) (omega arith) (λ s. absurd (let wrong : false ≡ true = sym is ∙ s in cc)),
    tt,
  )

  pub returning_uses : (spawns : Bool) → b.f.spawns ≡ spawns → UsesUp (returning spawns) 1
  returning_uses true is place has e low =
      let sync = placeless by.Sync in
      let last = placeless by.Return in
      let h1 : b.height (suc place) ≡ 1 = height_behind b place 1 0 sync has.0 (omega arith) 1 refl in
      let h2 : b.height (suc (suc place)) ≡ 0 = height_behind b (suc place) 0 1 last has.1.0 (omega arith) 0 refl in
      passes_to b (Unit {0}) place (suc (suc place)) (place + 2) 0 0 (sync ∷ last ∷ []) (omega arith) refl
      (record { behind = h2; enters = λ entry. entry_at b place sync has.0 (λ s. refl); keeps = λ g entry. returning_keeps true is place has e low })
  returning_uses false is place has e low =
      let last = placeless by.Return in
      let h : b.height (suc place) ≡ 0 = height_behind b place 0 1 last has.0 (omega arith) 0 refl in
      passes_to b (Unit {0}) place (suc place) (place + 1) 0 0 (last ∷ []) (omega arith) refl
      (record {
        behind = h;
        enters = λ entry. entry_at b place last has.0 (λ s. absurd (let wrong : false ≡ true = sym is ∙ s in cc));
        keeps = λ g entry. returning_keeps false is place has e low;
      })
