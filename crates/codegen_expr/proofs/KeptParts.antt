-- What is kept of an expression is kept of its parts.
use Rattle.std.proofs.Common.{◌≡◌, ℕ, List, refl, Bool, true, false}
use Rattle.std.specs.Prelude.{◌&&◌}
use Rattle.cilk_ast.specs.declared.program.Function.{Function}
use Rattle.cilk_ast.specs.declared.program.Expr.{Expr, Row_of-Expr as Args, more_of-Expr as more_args}
use Rattle.cilk_ast.specs.Parts.{every, every_arg}
use Rattle.cilk_ast.specs.Kept.{reads_slots, calls_agree, prints_agree, allocs_agree, keeps_expression}

-- Both of two truths hold.
pub both_true : (a b : Bool) → (a && b) ≡ true → (a ≡ true) × (b ≡ true)
both_true true b h = (refl, h)
both_true false b h = (h, let wrong : false ≡ true = h in cc)

-- The same of three, and of four.
pub three_true : (a b c : Bool) → (a && b && c) ≡ true → (a ≡ true) × (b ≡ true) × (c ≡ true)
three_true a b c h =
    let p = both_true (a && b) c h in
    let q = both_true a b p.0 in
    (q.0, q.1, p.1)

pub four_true : (a b c d : Bool) → (a && b && c && d) ≡ true → (a ≡ true) × (b ≡ true) × (c ≡ true) × (d ≡ true)
four_true a b c d h =
    let p = both_true (a && b && c) d h in
    let q = three_true a b c p.0 in
    (q.0, q.1, q.2, p.1)

-- What a program keeps of an expression of a function with so many slots.
pub record IsKept (functions : List Function) (slots : ℕ) (e : Expr) : Type 0 where
  pub slots_named : every (reads_slots slots) e ≡ true
  pub calls : every (calls_agree functions) e ≡ true
  pub prints : every prints_agree e ≡ true
  pub allocs : every allocs_agree e ≡ true

pub record AreKept (functions : List Function) (slots : ℕ) {n : _} (args : Args n) : Type 0 where
  pub slots_named : every_arg (reads_slots slots) args ≡ true
  pub calls : every_arg (calls_agree functions) args ≡ true
  pub prints : every_arg prints_agree args ≡ true
  pub allocs : every_arg allocs_agree args ≡ true

module _ (functions : List Function) (slots : ℕ) where
  pub kept_expression : (e : Expr) → keeps_expression functions slots e ≡ true → IsKept functions slots e
  kept_expression e h =
      let p = four_true (every (reads_slots slots) e) (every (calls_agree functions) e) (every prints_agree e) (every allocs_agree e) h in
      record { slots_named = p.0; calls = p.1; prints = p.2; allocs = p.3 }

  -- A part of which everything holds that holds of the whole.
  pub kept_part : (e part : Expr) → ((has : Expr → Bool) → every has e ≡ true → every has part ≡ true) → IsKept functions slots e → IsKept functions slots part
  kept_part e part h k = record {
    slots_named = h (reads_slots slots) k.slots_named;
    calls = h (calls_agree functions) k.calls;
    prints = h prints_agree k.prints;
    allocs = h allocs_agree k.allocs;
  }

  pub kept_args : (e : Expr) {n : _} (args : Args n) → ((has : Expr → Bool) → every has e ≡ true → every_arg has args ≡ true) → IsKept functions slots e → AreKept functions slots args
  kept_args e args h k = record {
    slots_named = h (reads_slots slots) k.slots_named;
    calls = h (calls_agree functions) k.calls;
    prints = h prints_agree k.prints;
    allocs = h allocs_agree k.allocs;
  }

  pub kept_first : (e : Expr) {n : _} (rest : Args n) → AreKept functions slots (more_args e rest) → IsKept functions slots e
  kept_first e rest k = record {
    slots_named = (both_true (every (reads_slots slots) e) (every_arg (reads_slots slots) rest) k.slots_named).0;
    calls = (both_true (every (calls_agree functions) e) (every_arg (calls_agree functions) rest) k.calls).0;
    prints = (both_true (every prints_agree e) (every_arg prints_agree rest) k.prints).0;
    allocs = (both_true (every allocs_agree e) (every_arg allocs_agree rest) k.allocs).0;
  }

  pub kept_rest : (e : Expr) {n : _} (rest : Args n) → AreKept functions slots (more_args e rest) → AreKept functions slots rest
  kept_rest e rest k = record {
    slots_named = (both_true (every (reads_slots slots) e) (every_arg (reads_slots slots) rest) k.slots_named).1;
    calls = (both_true (every (calls_agree functions) e) (every_arg (calls_agree functions) rest) k.calls).1;
    prints = (both_true (every prints_agree e) (every_arg prints_agree rest) k.prints).1;
    allocs = (both_true (every allocs_agree e) (every_arg allocs_agree rest) k.allocs).1;
  }
