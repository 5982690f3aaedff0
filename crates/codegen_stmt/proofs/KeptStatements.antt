-- What is kept of a statement is kept of its parts.
use Rattle.std.proofs.Common.{◌≡◌, ◌⊎◌, inl, inr, ⊎_elim, ℕ, List, ◌∷◌, Bool, true}
use Rattle.std.specs.List.{list_all}
use Rattle.cilk_ast.specs.declared.program.Function.{Function}
use Rattle.cilk_ast.specs.declared.program.Expr.{Expr}
use Rattle.cilk_ast.specs.declared.program.Stmt.{Stmt, Row_of-Stmt as Stmts, more_of-Stmt as more_stmts}
use Rattle.cilk_ast.specs.Parts.{each, each_of, expressions_of}
use Rattle.cilk_ast.specs.Kept.{writes_slots, spawns_agree, keeps_expression, keeps_statement}
use Rattle.codegen_expr.proofs.KeptParts.{both_true, three_true, IsKept, kept_expression}
use Rattle.codegen_stmt.specs.Whole.{is_no_each}

-- The expressions of a statement are well formed.
abbrev pub keeps_words : List Function → ℕ → Stmt → Bool
keeps_words functions slots s = list_all (keeps_expression functions slots) (expressions_of s)

-- What a program keeps of a statement of a function with so many slots, and that the function keeps two words more
-- where the statement has a `cilk_for`.
pub record IsKeptStatement (functions : List Function) (slots kept : ℕ) (b : Stmt) : Type 0 where
  pub writes : each (writes_slots slots) b ≡ true
  pub spawns : each (spawns_agree functions) b ≡ true
  pub words : each (keeps_words functions slots) b ≡ true
  pub room : (each is_no_each b ≡ true) ⊎ (kept ≡ 2)

pub record AreKeptStatements (functions : List Function) (slots kept : ℕ) {n : _} (row : Stmts n) : Type 0 where
  pub writes : each_of (writes_slots slots) row ≡ true
  pub spawns : each_of (spawns_agree functions) row ≡ true
  pub words : each_of (keeps_words functions slots) row ≡ true
  pub room : (each_of is_no_each row ≡ true) ⊎ (kept ≡ 2)

module _ (functions : List Function) (slots kept : ℕ) where
  pub kept_statement : (b : Stmt) → keeps_statement functions slots b ≡ true → (each is_no_each b ≡ true) ⊎ (kept ≡ 2) → IsKeptStatement functions slots kept b
  kept_statement b h room =
      let p = three_true (each (writes_slots slots) b) (each (spawns_agree functions) b) (each (keeps_words functions slots) b) h in
      record { writes = p.0; spawns = p.1; words = p.2; room = room }

  pub part_kept : (b part : Stmt) → ((has : Stmt → Bool) → each has b ≡ true → each has part ≡ true) → IsKeptStatement functions slots kept b → IsKeptStatement functions slots kept part
  part_kept b part h k = record {
    writes = h (writes_slots slots) k.writes;
    spawns = h (spawns_agree functions) k.spawns;
    words = h (keeps_words functions slots) k.words;
    room = ⊎_elim (λ e. inl (h is_no_each e)) (λ e. inr e) k.room;
  }

  pub row_kept : (b : Stmt) {n : _} (row : Stmts n) → ((has : Stmt → Bool) → each has b ≡ true → each_of has row ≡ true) → IsKeptStatement functions slots kept b → AreKeptStatements functions slots kept row
  row_kept b row h k = record {
    writes = h (writes_slots slots) k.writes;
    spawns = h (spawns_agree functions) k.spawns;
    words = h (keeps_words functions slots) k.words;
    room = ⊎_elim (λ e. inl (h is_no_each e)) (λ e. inr e) k.room;
  }

  pub first_kept : (b : Stmt) {n : _} (rest : Stmts n) → AreKeptStatements functions slots kept (more_stmts b rest) → IsKeptStatement functions slots kept b
  first_kept b rest k = record {
    writes = (both_true (each (writes_slots slots) b) (each_of (writes_slots slots) rest) k.writes).0;
    spawns = (both_true (each (spawns_agree functions) b) (each_of (spawns_agree functions) rest) k.spawns).0;
    words = (both_true (each (keeps_words functions slots) b) (each_of (keeps_words functions slots) rest) k.words).0;
    room = ⊎_elim (λ e. inl (both_true (each is_no_each b) (each_of is_no_each rest) e).0) (λ e. inr e) k.room;
  }

  pub rest_kept : (b : Stmt) {n : _} (rest : Stmts n) → AreKeptStatements functions slots kept (more_stmts b rest) → AreKeptStatements functions slots kept rest
  rest_kept b rest k = record {
    writes = (both_true (each (writes_slots slots) b) (each_of (writes_slots slots) rest) k.writes).1;
    spawns = (both_true (each (spawns_agree functions) b) (each_of (spawns_agree functions) rest) k.spawns).1;
    words = (both_true (each (keeps_words functions slots) b) (each_of (keeps_words functions slots) rest) k.words).1;
    room = ⊎_elim (λ e. inl (both_true (each is_no_each b) (each_of is_no_each rest) e).1) (λ e. inr e) k.room;
  }

  -- Of a list of expressions, its first and the others.
  pub first_word : (e : Expr) (es : List Expr) → list_all (keeps_expression functions slots) (e ∷ es) ≡ true → IsKept functions slots e
  first_word e es h = kept_expression functions slots e (both_true (keeps_expression functions slots e) (list_all (keeps_expression functions slots) es) h).0

  pub other_words : (e : Expr) (es : List Expr) → list_all (keeps_expression functions slots) (e ∷ es) ≡ true → list_all (keeps_expression functions slots) es ≡ true
  other_words e es h = (both_true (keeps_expression functions slots e) (list_all (keeps_expression functions slots) es) h).1
