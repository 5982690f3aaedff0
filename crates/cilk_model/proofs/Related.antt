-- Two ways to go on that are related stay related behind every expression. The relation has an index, the
-- number of answers up to which it speaks.
use Rattle.std.proofs.Common.{◌≡◌, ◌≤◌, ℕ, zero, suc, List, [], ◌∷◌, refl, ℤ, pos, Bool, true, false, Option, Some, None, if◌then◌else◌, arith}
use Rattle.word_ops.specs.declared.place.Pos.{Pos}
use Rattle.word_ops.specs.declared.ending.TrapKind.TheVariants as kind
use Rattle.word_ops.specs.Operators.{binary_of, unary_of, truth_of}
use Rattle.cilk_ast.specs.declared.program.Expr.{Expr, Word, Slot, Call', Fence, Where, Print', Alloc', Row_of-Expr as Args, end_of-Expr as no_args, more_of-Expr as more_args}
use Rattle.cilk_ast.specs.Expression.{Un, Bin, Both, Either, Load, Post, Add, Swap, Cas, Init, Move}
use Rattle.world_model.specs.Action.{Action, Trap, Hint}
use Rattle.world_model.specs.Meaning.{Acts, make, word_of}
use Rattle.world_model.specs.Activation.{Slots, word_at}
use Rattle.cilk_model.specs.Value.{Calling, is_true, divided, value, values, values_of}
use Rattle.cilk_model.specs.Statement.{hinted}
use Rattle.cilk_model.specs.Laws.{is_final}

-- A relation that every action keeps.
pub record IsKept (R : ℕ → Acts → Acts → Type 0) : Type 0 where
  pub last : (a : Action) (f g : List ℤ → Acts) → is_final a ≡ false → R zero (make a f) (make a g)
  pub asks : (n : ℕ) (a : Action) (f g : List ℤ → Acts) → is_final a ≡ false → ((r : List ℤ) → R n (f r) (g r)) → R (suc n) (make a f) (make a g)
  pub stops : (n : ℕ) (a : Action) → is_final a ≡ true → R n (λ _. a ∷ []) (λ _. a ∷ [])
  pub lower : (m n : ℕ) (f g : Acts) → m ≤ n → R n f g → R m f g

module _ (R : ℕ → Acts → Acts → Type 0) (kept : IsKept R) where
  -- what goes on with a word
  abbrev pub Then : ℕ → (ℤ → Acts) → (ℤ → Acts) → Type 0
  Then n k l = (x : ℤ) → R n (k x) (l x)

  -- what goes on with words
  abbrev pub Thens : ℕ → (List ℤ → Acts) → (List ℤ → Acts) → Type 0
  Thens n k l = (xs : List ℤ) → R n (k xs) (l xs)

  -- calls
  abbrev pub Calls : ℕ → Calling → Calling → Type 0
  Calls n call call' = (at : Pos) (f : ℕ) (args : List ℤ) (k l : ℤ → Acts) → Then n k l → R n (call at f args k) (call' at f args l)

  pub asked : (n : ℕ) (a : Action) (f g : List ℤ → Acts) → is_final a ≡ false → Thens n f g → R n (make a f) (make a g)
  asked zero a f g e h = kept.last a f g e
  asked (suc n) a f g e h = kept.asks n a f g e (λ r. kept.lower n (suc n) (f r) (g r) (omega arith) (h r))

  pub chosen : (n : ℕ) (b : Bool) (f f' g g' : Acts) → R n f f' → R n g g' → R n (if b then f else g) (if b then f' else g')
  chosen n true f f' g g' h i = h
  chosen n false f f' g g' h i = i

  divides : (n : ℕ) (at : Pos) (o : Option ℤ) (k l : ℤ → Acts) → Then n k l → R n (divided at o k) (divided at o l)
  divides n at None k l h = kept.stops n (Trap at kind.Divide) refl
  divides n at (Some x) k l h = h x

  module _ (n : ℕ) (call call' : Calling) (c : Calls n call call') where
    mutual
      pub value_related : (e : Expr) (s : Slots) (k l : ℤ → Acts) → Then n k l → R n (value call e s k) (value call' e s l)
      value_related (Word w) s k l h = h w
      value_related (Slot i) s k l h = h (word_at s i)
      value_related (Un at op e) s k l h = value_related e s _ _ (λ x. h (unary_of op x))
      value_related (Bin at op e f) s k l h = value_related e s _ _ (λ x. value_related f s _ _ (λ y. divides n at (binary_of op x y) k l h))
      value_related (Both at e f) s k l h = value_related e s _ _ (λ x. chosen n (is_true x) _ _ _ _ (value_related f s _ _ (λ y. h (truth_of (is_true y)))) (h (pos 0)))
      value_related (Either at e f) s k l h = value_related e s _ _ (λ x. chosen n (is_true x) _ _ _ _ (h (pos 1)) (value_related f s _ _ (λ y. h (truth_of (is_true y)))))
      value_related (Load at a) s k l h = value_related a s _ _ (λ x. asked n _ _ _ refl (λ r. h (word_of r)))
      value_related (Call' at f m args) s k l h = values_related args s _ _ (λ xs. c at f xs k l h)
      value_related (Post at op a v) s k l h = value_related a s _ _ (λ x. value_related v s _ _ (λ y. asked n _ _ _ refl (λ r. h (pos 0))))
      value_related (Add at a v) s k l h = value_related a s _ _ (λ x. value_related v s _ _ (λ y. asked n _ _ _ refl (λ r. h (word_of r))))
      value_related (Swap at a v) s k l h = value_related a s _ _ (λ x. value_related v s _ _ (λ y. asked n _ _ _ refl (λ r. h (word_of r))))
      value_related (Cas at a e v) s k l h =
          value_related a s _ _ (λ x. value_related e s _ _ (λ y. value_related v s _ _ (λ z. asked n _ _ _ refl (λ r. h (word_of r)))))
      value_related (Init at a v) s k l h = value_related a s _ _ (λ x. value_related v s _ _ (λ y. asked n _ _ _ refl (λ r. h (pos 0))))
      value_related Fence s k l h = asked n _ _ _ refl (λ r. h (pos 0))
      value_related (Move at a) s k l h = value_related a s _ _ (λ x. asked n _ _ _ refl (λ r. h (pos 0)))
      value_related Where s k l h = asked n _ _ _ refl (λ r. h (word_of r))
      value_related (Print' format m args) s k l h = values_related args s _ _ (λ xs. asked n _ _ _ refl (λ r. h (pos 0)))
      value_related (Alloc' at which m args) s k l h = values_related args s _ _ (λ xs. asked n _ _ _ refl (λ r. h (word_of r)))

      pub values_related : {m : _} (args : Args m) (s : Slots) (k l : List ℤ → Acts) → Thens n k l → R n (values call args s k) (values call' args s l)
      values_related no_args s k l h = h []
      values_related (more_args e rest) s k l h = value_related e s _ _ (λ x. values_related rest s _ _ (λ xs. h (x ∷ xs)))

    pub values_of_related : (args : List Expr) (s : Slots) (k l : List ℤ → Acts) → Thens n k l → R n (values_of call args s k) (values_of call' args s l)
    values_of_related [] s k l h = h []
    values_of_related (e ∷ rest) s k l h = value_related e s _ _ (λ x. values_of_related rest s _ _ (λ xs. h (x ∷ xs)))

    pub hinted_related : (at : Pos) (hint : Option Expr) (s : Slots) (k l : Option Hint → Acts) → ((o : Option Hint) → R n (k o) (l o)) → R n (hinted call at hint s k) (hinted call' at hint s l)
    hinted_related at None s k l h = h None
    hinted_related at (Some e) s k l h = value_related e s _ _ (λ x. h (Some (record { pos = at; address = x })))
