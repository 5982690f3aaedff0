-- A built-in with as many arguments as it takes is well formed.
use Rattle.std.proofs.Common.{◌≡◌, ℕ, true, List, [], ◌∷◌, length, refl, arith}
use Rattle.std.specs.List.{list_all}
use Rattle.std.proofs.lemmas.Bool.{and_parts}
use Rattle.word_ops.specs.declared.place.Pos.{Pos}
use Rattle.mem_atomics.specs.declared.op.Op.TheVariants as op
use Rattle.cilk_ast.specs.declared.builtin.Builtin.{Builtin}
use Rattle.cilk_ast.specs.declared.program.Expr.{Expr}
use Rattle.cilk_ast.specs.declared.program.Function.{Function}
use Rattle.cilk_ast.specs.declared.builtin.Builtin.TheVariants as built
use Rattle.cilk_model.specs.ExpressionLowering.{built_in}
use Rattle.cilk_model.specs.Sorts.{wanted}
use Rattle.cilk_types.proofs.KeptForms.{all_sound, sound_add, sound_alloc, sound_cas, sound_init, sound_move, sound_post, sound_swap}

-- ---- lists of a known length

one_item : (P : List Expr → Type 0) → ((p : Expr) → P (p ∷ [])) → (args : List Expr) → 1 ≡ length args → P args
one_item P h [] e = absurd (omega arith)
one_item P h (p ∷ []) e = h p
one_item P h (p ∷ q ∷ rest) e = absurd (omega arith)

two_items : (P : List Expr → Type 0) → ((p q : Expr) → P (p ∷ q ∷ [])) → (args : List Expr) → 2 ≡ length args → P args
two_items P h [] e = absurd (omega arith)
two_items P h (p ∷ rest) e = one_item (λ tail. P (p ∷ tail)) (h p) rest (omega arith)

three_items : (P : List Expr → Type 0) → ((p q r : Expr) → P (p ∷ q ∷ r ∷ [])) → (args : List Expr) → 3 ≡ length args → P args
three_items P h [] e = absurd (omega arith)
three_items P h (p ∷ rest) e = two_items (λ tail. P (p ∷ tail)) (h p) rest (omega arith)

no_item : (P : List Expr → Type 0) → P [] → (args : List Expr) → 0 ≡ length args → P args
no_item P h [] e = h
no_item P h (p ∷ rest) e = absurd (omega arith)

module _ (functions : List Function) (slots : ℕ) where
  -- a built-in with as many arguments as it takes
  abbrev Sound : Pos → Builtin → List Expr → Type 0
  Sound at which args = list_all (all_sound functions slots) args ≡ true → all_sound functions slots (built_in at which args) ≡ true

  both_sound : (p q : Expr) → list_all (all_sound functions slots) (p ∷ q ∷ []) ≡ true → (all_sound functions slots p ≡ true) × (all_sound functions slots q ≡ true)
  both_sound p q h =
      let parts = and_parts (all_sound functions slots p) (list_all (all_sound functions slots) (q ∷ [])) h in
      (parts.0, (and_parts (all_sound functions slots q) true (parts.1)).0)

  pub sound_built : (at : Pos) (which : Builtin) (args : List Expr) → length (wanted which) ≡ length args → Sound at which args
  sound_built at built.RemoteAdd args e = two_items (Sound at built.RemoteAdd) (λ p q h. let b = both_sound p q h in sound_post functions slots at op.Add p q (b.0) (b.1)) args e
  sound_built at built.RemoteAnd args e = two_items (Sound at built.RemoteAnd) (λ p q h. let b = both_sound p q h in sound_post functions slots at op.And p q (b.0) (b.1)) args e
  sound_built at built.RemoteOr args e = two_items (Sound at built.RemoteOr) (λ p q h. let b = both_sound p q h in sound_post functions slots at op.Or p q (b.0) (b.1)) args e
  sound_built at built.RemoteXor args e = two_items (Sound at built.RemoteXor) (λ p q h. let b = both_sound p q h in sound_post functions slots at op.Xor p q (b.0) (b.1)) args e
  sound_built at built.RemoteMin args e = two_items (Sound at built.RemoteMin) (λ p q h. let b = both_sound p q h in sound_post functions slots at op.Min p q (b.0) (b.1)) args e
  sound_built at built.RemoteMax args e = two_items (Sound at built.RemoteMax) (λ p q h. let b = both_sound p q h in sound_post functions slots at op.Max p q (b.0) (b.1)) args e
  sound_built at built.AtomicAddms args e = two_items (Sound at built.AtomicAddms) (λ p q h. let b = both_sound p q h in sound_add functions slots at p q (b.0) (b.1)) args e
  sound_built at built.AtomicSwap args e = two_items (Sound at built.AtomicSwap) (λ p q h. let b = both_sound p q h in sound_swap functions slots at p q (b.0) (b.1)) args e
  sound_built at built.AtomicCas args e =
      three_items (Sound at built.AtomicCas)
      (λ p q r h.
      let parts = and_parts (all_sound functions slots p) (list_all (all_sound functions slots) (q ∷ r ∷ [])) h in
      let b = both_sound q r (parts.1) in
      sound_cas functions slots at p q r (parts.0) (b.0) (b.1))
      args e
  sound_built at built.MwReplicatedInit args e = two_items (Sound at built.MwReplicatedInit) (λ p q h. let b = both_sound p q h in sound_init functions slots at p q (b.0) (b.1)) args e
  sound_built at built.Fence args e = no_item (Sound at built.Fence) (λ h. refl) args e
  sound_built at built.Migrate args e = one_item (Sound at built.Migrate) (λ p h. sound_move functions slots at p ((and_parts (all_sound functions slots p) true h).0)) args e
  sound_built at built.NodeId args e = no_item (Sound at built.NodeId) (λ h. refl) args e
  sound_built at built.MwMalloc1dlong args e = one_item (Sound at built.MwMalloc1dlong) (λ p h. sound_alloc functions slots at built.MwMalloc1dlong (p ∷ []) refl h) args e
  sound_built at built.MwMalloc2dlong args e = two_items (Sound at built.MwMalloc2dlong) (λ p q h. sound_alloc functions slots at built.MwMalloc2dlong (p ∷ q ∷ []) refl h) args e
  sound_built at built.MwLocalmalloc args e = two_items (Sound at built.MwLocalmalloc) (λ p q h. sound_alloc functions slots at built.MwLocalmalloc (p ∷ q ∷ []) refl h) args e
  sound_built at built.MwMallocrepl args e = one_item (Sound at built.MwMallocrepl) (λ p h. sound_alloc functions slots at built.MwMallocrepl (p ∷ []) refl h) args e
