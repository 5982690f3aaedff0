-- Each form of expression that code builds is well formed where its parts are.
use Rattle.std.proofs.Common.{◌≡◌, ◌∙◌, ap, ℕ, Bool, true, ◌&&◌, ◌==◌, List, [], ◌∷◌, length, refl}
use Rattle.std.specs.List.{list_all}
use Rattle.std.proofs.lemmas.Bool.{and_parts, and_from}
use Rattle.word_ops.specs.Formats.{words_in, is_printable}
use Rattle.word_ops.specs.declared.place.Pos.{Pos}
use Rattle.word_ops.specs.declared.operators.BinaryOp.{BinaryOp}
use Rattle.word_ops.specs.declared.operators.UnaryOp.{UnaryOp}
use Rattle.word_ops.specs.declared.format.Part.{Part}
use Rattle.mem_atomics.specs.declared.op.Op.{Op}
use Rattle.cilk_ast.specs.declared.builtin.Builtin.{Builtin}
use Rattle.cilk_ast.specs.declared.program.Function.{Function}
use Rattle.cilk_ast.specs.declared.program.Expr.TheBlock.{shape-the_row-Expr-0, hidden-the_row-Expr-0, shape-the_row-Expr-1, hidden-the_row-Expr-1}
use Rattle.cilk_ast.specs.declared.program.Expr.{Expr, Word, Slot, Call', Fence, Where, Print', Alloc', Row_of-Expr as Args, end_of-Expr as no_args, more_of-Expr as more_args}
use Rattle.cilk_ast.specs.Expression.{Un, Bin, Both, Either, Load, Post, Add, Swap, Cas, Init, Move, listed}
use Rattle.cilk_ast.specs.Parts.{every, every_arg}
use Rattle.cilk_ast.specs.Kept.{takes, allocates, reads_slots, calls_agree, prints_agree, allocs_agree, keeps_expression}
use Rattle.cilk_ast.specs.declared.program.Expr as code
use Rattle.cilk_ast.proofs.ExpressionForms.{listed_row}
use denote.Hole.Carrier.{hidden}

-- ---- one condition in place of four

pub three_true : (a b c : Bool) → (a && b && c) ≡ true → (a ≡ true) × (b ≡ true) × (c ≡ true)
three_true a b c h = let outer = and_parts (a && b) c h in let inner = and_parts a b (outer.0) in (inner.0, inner.1, outer.1)

-- the conditions on one expression together
abbrev pub is_sound : List Function → ℕ → Expr → Bool
is_sound functions slots e = reads_slots slots e && calls_agree functions e && prints_agree e && allocs_agree e

-- every expression in an expression meets the conditions
abbrev pub all_sound : List Function → ℕ → Expr → Bool
all_sound functions slots e = every (is_sound functions slots) e

module _ (p q : Expr → Bool) (h : (e : Expr) → p e ≡ true → q e ≡ true) where
  one_part : (e : Expr) (x y : Bool) → (x ≡ true → y ≡ true) → (p e && x) ≡ true → (q e && y) ≡ true
  one_part e x y k m = let parts = and_parts (p e) x m in and_from (q e) y (h e (parts.0)) (k (parts.1))

  two_parts : (e : Expr) (x x' y y' : Bool) → (x ≡ true → y ≡ true) → (x' ≡ true → y' ≡ true) → ((p e && x) && x') ≡ true → ((q e && y) && y') ≡ true
  two_parts e x x' y y' k k' m =
      let parts = and_parts (p e && x) x' m in and_from (q e && y) y' (one_part e x y k (parts.0)) (k' (parts.1))

  mutual
    pub every_implies : (e : Expr) → every p e ≡ true → every q e ≡ true
    every_implies (Word word) m = h (Word word) m
    every_implies (Slot slot) m = h (Slot slot) m
    every_implies (Un at op inner) m = one_part (Un at op inner) _ _ (every_implies inner) m
    every_implies (Bin at op left right) m = two_parts (Bin at op left right) _ _ _ _ (every_implies left) (every_implies right) m
    every_implies (Both at left right) m = two_parts (Both at left right) _ _ _ _ (every_implies left) (every_implies right) m
    every_implies (Either at left right) m = two_parts (Either at left right) _ _ _ _ (every_implies left) (every_implies right) m
    every_implies (Load at address) m = one_part (Load at address) _ _ (every_implies address) m
    every_implies (Call' at function n args) m = one_part (Call' at function n args) _ _ (args_imply args) m
    every_implies (Post at op address value) m = two_parts (Post at op address value) _ _ _ _ (every_implies address) (every_implies value) m
    every_implies (Add at address value) m = two_parts (Add at address value) _ _ _ _ (every_implies address) (every_implies value) m
    every_implies (Swap at address value) m = two_parts (Swap at address value) _ _ _ _ (every_implies address) (every_implies value) m
    every_implies (Cas at address expected value) m =
        let parts = and_parts (p (Cas at address expected value) && every p address && every p expected) (every p value) m in
        and_from (q (Cas at address expected value) && every q address && every q expected) (every q value)
        (two_parts (Cas at address expected value) _ _ _ _ (every_implies address) (every_implies expected) (parts.0))
        (every_implies value (parts.1))
    every_implies (Init at address value) m = two_parts (Init at address value) _ _ _ _ (every_implies address) (every_implies value) m
    every_implies Fence m = h Fence m
    every_implies (Move at address) m = one_part (Move at address) _ _ (every_implies address) m
    every_implies Where m = h Where m
    every_implies (Print' format n args) m = one_part (Print' format n args) _ _ (args_imply args) m
    every_implies (Alloc' at which n args) m = one_part (Alloc' at which n args) _ _ (args_imply args) m

    args_imply : {n : _} (args : Args n) → every_arg p args ≡ true → every_arg q args ≡ true
    args_imply no_args m = refl
    args_imply (more_args arg rest) m =
        let parts = and_parts (every p arg) (every_arg p rest) m in
        and_from (every q arg) (every_arg q rest) (every_implies arg (parts.0)) (args_imply rest (parts.1))

-- the four conditions follow from the one
pub keeps_sound : (functions : List Function) (slots : ℕ) (e : Expr) → all_sound functions slots e ≡ true → keeps_expression functions slots e ≡ true
keeps_sound functions slots e m =
    let p = is_sound functions slots in
    let last : (e : Expr) → p e ≡ true → ((reads_slots slots e && calls_agree functions e && prints_agree e) ≡ true) × (allocs_agree e ≡ true) =
    λ e h. and_parts (reads_slots slots e && calls_agree functions e && prints_agree e) (allocs_agree e) h in
    let parts : (e : Expr) → p e ≡ true → (reads_slots slots e ≡ true) × (calls_agree functions e ≡ true) × (prints_agree e ≡ true) =
    λ e h. three_true (reads_slots slots e) (calls_agree functions e) (prints_agree e) ((last e h).0) in
    and_from _ _
    (and_from _ _ (and_from _ _ (every_implies p (reads_slots slots) (λ e h. (parts e h).0) e m) (every_implies p (calls_agree functions) (λ e h. (parts e h).1) e m))
    (every_implies p prints_agree (λ e h. (parts e h).2) e m))
    (every_implies p allocs_agree (λ e h. (last e h).1) e m)

-- ---- the forms that code builds

module _ (functions : List Function) (slots : ℕ) where
  pub sound_un : (at : Pos) (op : UnaryOp) (e : Expr) → all_sound functions slots e ≡ true → all_sound functions slots (code.Un at op e) ≡ true
  unfolding shape-the_row-Expr-0 hidden-the_row-Expr-0 hidden
  sound_un at op e h = h

  pub sound_load : (at : Pos) (e : Expr) → all_sound functions slots e ≡ true → all_sound functions slots (code.Load at e) ≡ true
  unfolding shape-the_row-Expr-0 hidden-the_row-Expr-0 hidden
  sound_load at e h = h

  pub sound_move : (at : Pos) (e : Expr) → all_sound functions slots e ≡ true → all_sound functions slots (code.Move at e) ≡ true
  unfolding shape-the_row-Expr-0 hidden-the_row-Expr-0 hidden
  sound_move at e h = h

  pub sound_bin : (at : Pos) (op : BinaryOp) (e f : Expr) → all_sound functions slots e ≡ true → all_sound functions slots f ≡ true →
      all_sound functions slots (code.Bin at op e f) ≡ true
  unfolding shape-the_row-Expr-0 hidden-the_row-Expr-0 hidden
  sound_bin at op e f h k = and_from _ _ h k

  pub sound_both : (at : Pos) (e f : Expr) → all_sound functions slots e ≡ true → all_sound functions slots f ≡ true →
      all_sound functions slots (code.Both at e f) ≡ true
  unfolding shape-the_row-Expr-0 hidden-the_row-Expr-0 hidden
  sound_both at e f h k = and_from _ _ h k

  pub sound_either : (at : Pos) (e f : Expr) → all_sound functions slots e ≡ true → all_sound functions slots f ≡ true →
      all_sound functions slots (code.Either at e f) ≡ true
  unfolding shape-the_row-Expr-0 hidden-the_row-Expr-0 hidden
  sound_either at e f h k = and_from _ _ h k

  pub sound_post : (at : Pos) (op : Op) (e f : Expr) → all_sound functions slots e ≡ true → all_sound functions slots f ≡ true →
      all_sound functions slots (code.Post at op e f) ≡ true
  unfolding shape-the_row-Expr-0 hidden-the_row-Expr-0 hidden
  sound_post at op e f h k = and_from _ _ h k

  pub sound_add : (at : Pos) (e f : Expr) → all_sound functions slots e ≡ true → all_sound functions slots f ≡ true →
      all_sound functions slots (code.Add at e f) ≡ true
  unfolding shape-the_row-Expr-0 hidden-the_row-Expr-0 hidden
  sound_add at e f h k = and_from _ _ h k

  pub sound_swap : (at : Pos) (e f : Expr) → all_sound functions slots e ≡ true → all_sound functions slots f ≡ true →
      all_sound functions slots (code.Swap at e f) ≡ true
  unfolding shape-the_row-Expr-0 hidden-the_row-Expr-0 hidden
  sound_swap at e f h k = and_from _ _ h k

  pub sound_init : (at : Pos) (e f : Expr) → all_sound functions slots e ≡ true → all_sound functions slots f ≡ true →
      all_sound functions slots (code.Init at e f) ≡ true
  unfolding shape-the_row-Expr-0 hidden-the_row-Expr-0 hidden
  sound_init at e f h k = and_from _ _ h k

  pub sound_cas : (at : Pos) (e f g : Expr) → all_sound functions slots e ≡ true → all_sound functions slots f ≡ true →
      all_sound functions slots g ≡ true → all_sound functions slots (code.Cas at e f g) ≡ true
  unfolding shape-the_row-Expr-0 hidden-the_row-Expr-0 hidden
  sound_cas at e f g h k l = and_from _ _ (and_from _ _ h k) l

  -- the arguments of a list
  sound_row : (args : List Expr) → list_all (all_sound functions slots) args ≡ true →
      every_arg (is_sound functions slots) (hidden-the_row-Expr-1 args) ≡ true
  unfolding shape-the_row-Expr-1 hidden-the_row-Expr-1 hidden
  sound_row [] h = refl
  sound_row (e ∷ args) h =
      let parts = and_parts (all_sound functions slots e) (list_all (all_sound functions slots) args) h in
      and_from _ _ (parts.0) (sound_row args (parts.1))

  pub sound_call : (at : Pos) (function : ℕ) (args : List Expr) → takes functions function (length args) ≡ true →
      list_all (all_sound functions slots) args ≡ true → all_sound functions slots (code.Call at function args) ≡ true
  sound_call at function args h k =
      let named : takes functions function (length (listed (hidden-the_row-Expr-1 args))) ≡ true =
      ap (λ es. takes functions function (length es)) (listed_row args) ∙ h in
      and_from _ _ (and_from _ _ (and_from _ _ named refl) refl) (sound_row args k)

  pub sound_print : (format : List Part) (args : List Expr) → (words_in format == length args) ≡ true → list_all is_printable format ≡ true →
      list_all (all_sound functions slots) args ≡ true → all_sound functions slots (code.Print format args) ≡ true
  sound_print format args h p k =
      let counted : (words_in format == length (listed (hidden-the_row-Expr-1 args))) ≡ true =
      ap (λ es. words_in format == length es) (listed_row args) ∙ h in
      and_from _ _ (and_from _ _ (and_from _ _ counted p) refl) (sound_row args k)

  pub sound_alloc : (at : Pos) (which : Builtin) (args : List Expr) → allocates which (length args) ≡ true →
      list_all (all_sound functions slots) args ≡ true → all_sound functions slots (code.Alloc at which args) ≡ true
  sound_alloc at which args h k =
      let counted : allocates which (length (listed (hidden-the_row-Expr-1 args))) ≡ true =
      ap (λ es. allocates which (length es)) (listed_row args) ∙ h in
      and_from _ _ counted (sound_row args k)
