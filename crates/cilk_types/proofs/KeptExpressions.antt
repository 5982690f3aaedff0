-- An expression in which no rule is broken is well formed in a program.
use Rattle.std.proofs.Common.{◌≡◌, ◌∙◌, ap, sym, ℕ, suc, ◌≤◌, true, not, List, [], ◌∷◌, length, Option, Some, None, refl, eqb-true, eq-eqb, lt-ltb}
use Rattle.std.specs.List.{list_all}
use Rattle.std.specs.Prelude.{nat_lt, unwrap_or}
use Rattle.std.proofs.lemmas.Bool.{and_from}
use Rattle.word_ops.specs.Formats.{words_in}
use Rattle.word_ops.specs.declared.format.Part.{Part}
use Rattle.word_ops.specs.declared.place.Pos.{Pos}
use Rattle.word_ops.specs.declared.operators.BinaryOp.TheVariants as by
use Rattle.cilk_ast.specs.Kept.{takes}
use Rattle.cilk_ast.specs.TreeExpression.{Paren, Un, Deref, Cast, Index, Bin, Both, Either, InitAt}
use Rattle.cilk_ast.specs.declared.program.Expr.{Word}
use Rattle.cilk_ast.specs.declared.program.Function.{Function}
use Rattle.cilk_ast.specs.declared.tree.TExpr.{TExpr, Number, Var, Call', Builtin', Print', Row_of-TExpr as Args, end_of-TExpr as no_args, more_of-TExpr as more_args}
use Rattle.cilk_ast.specs.declared.fault.FaultKind.TheVariants as fault
use Rattle.cilk_ast.specs.declared.kind.Kind.TheVariants as sort
use Rattle.cilk_model.specs.Copies.{Frame, number_of, named_by, named_by_args}
use Rattle.cilk_model.specs.ExpressionBreaks.{misfit, unfit, lack_value, make_nothing, index_misfits, misfits, miscounts, call_faults, word_misfits, format_faults, faults_of, argument_faults}
use Rattle.cilk_model.specs.ExpressionLowering.{slot_in, address_of, index_of, variable, expression, arguments}
use Rattle.cilk_model.specs.FirstFault.{broken_if}
use Rattle.cilk_model.specs.Formats.{format_of}
use Rattle.cilk_model.specs.Scopes.{Entity, local, global, function, Local, Names}
use Rattle.cilk_model.specs.Sorts.{is_word, is_value, is_zero, takes_operand, binary_kind, is_replicated, wanted, counts, kind_of, judged, judged_row, Judged}
use Rattle.cilk_types.proofs.KeptLists.{no_left, no_right, not_broken, three_unbroken}
use Rattle.cilk_types.proofs.KeptNumbers.{Within, in_first, is_in, within_left, within_right}
use Rattle.cilk_types.proofs.KeptForms.{all_sound, sound_bin, sound_both, sound_call, sound_either, sound_init, sound_load, sound_print, sound_un}
use Rattle.cilk_types.proofs.KeptFormats.{format_printable}
use Rattle.cilk_types.proofs.KeptNames.{Agrees, Sees, slot_under, takes_called}
use Rattle.cilk_types.proofs.KeptBuiltins.{sound_built}

-- a format with as many words as there are arguments
words_agree : (at text_at : Pos) (format : Option (List Part)) (parts : List Judged) → format_faults at text_at format parts ≡ [] →
    words_in (unwrap_or format []) ≡ length parts
words_agree at text_at None parts h = cc
words_agree at text_at (Some format) parts h =
    eqb-true (words_in format) (length parts) (not_broken (counts (Some format) (length parts)) fault.WrongCount at h)

-- as many arguments as there are judged
pub as_many : (names : Names) (frame : Frame) {n : _} (args : Args n) → length (judged_row names args) ≡ length (arguments names frame args)
as_many names frame no_args = refl
as_many names frame (more_args arg rest) = ap (λ k. suc k) (as_many names frame rest)

module _ (functions : List Function) (slots : ℕ) (named : List ℕ) (names : Names) (frame : Frame) (agrees : Agrees functions names)
    (sees : Sees named frame names) (under : length frame ≤ slots) where
  -- the slot of a variable
  pub slot_sound : (name : List ℕ) (l : Local) → names name ≡ Some (local l) → Within (l.number ∷ []) named → nat_lt (slot_in frame l.number) slots ≡ true
  slot_sound name l is w =
      let here : is_in l.number frame ≡ true = sees.local name l is (w.each l.number (in_first l.number [])) in
      lt-ltb (slot_in frame l.number) slots (slot_under frame l.number slots here under)

  sound_variable : (at : Pos) (name : List ℕ) (entity : Option Entity) → names name ≡ entity → Within (number_of entity) named →
      all_sound functions slots (variable frame at entity) ≡ true
  sound_variable at name (Some (local l)) is w = and_from _ _ (and_from _ _ (and_from _ _ (slot_sound name l is w) refl) refl) refl
  sound_variable at name (Some (global g)) is w = sound_load functions slots at (Word g.address) refl
  sound_variable at name (Some (function f)) is w = sound_load functions slots at (Word (address_of (Some (function f)))) refl
  sound_variable at name None is w = sound_load functions slots at (Word (address_of None)) refl

  mutual
    pub sound_expression : (e : TExpr) → faults_of names e ≡ [] → Within (named_by names e) named → all_sound functions slots (expression names frame e) ≡ true
    sound_expression (Number at value) h w = refl
    sound_expression (Var at name) h w = sound_variable at name (names name) refl w
    sound_expression (Paren at inner) h w = sound_expression inner h w
    sound_expression (Un at op inner) h w =
        sound_un functions slots at op (expression names frame inner)
        (sound_expression inner (no_left (faults_of names inner) (misfit (takes_operand op) (judged names inner)) h) w)
    sound_expression (Deref at inner) h w =
        sound_load functions slots at (expression names frame inner)
        (sound_expression inner (no_left (faults_of names inner) (unfit sort.Ptr (judged names inner)) h) w)
    sound_expression (Cast at kind inner) h w = sound_expression inner (no_left (faults_of names inner) (misfit is_value (judged names inner)) h) w
    sound_expression (Index at base index) h w =
        let parts = three_unbroken (faults_of names base) (faults_of names index) (index_misfits (judged names base) (judged names index)) h in
        sound_load functions slots at _
        (sound_bin functions slots at by.Add (expression names frame base) (expression names frame index)
        (sound_expression base parts.first (within_left (named_by names base) (named_by names index) named w))
        (sound_expression index parts.second (within_right (named_by names base) (named_by names index) named w)))
    sound_expression (Bin at op left right) h w =
        let wrong = broken_if (make_nothing (binary_kind op (is_zero left) (is_zero right)) (kind_of names left) (kind_of names right)) fault.WrongType at in
        let parts = three_unbroken (faults_of names left) (faults_of names right) wrong h in
        sound_bin functions slots at op (expression names frame left) (expression names frame right)
        (sound_expression left parts.first (within_left (named_by names left) (named_by names right) named w))
        (sound_expression right parts.second (within_right (named_by names left) (named_by names right) named w))
    sound_expression (Both at left right) h w =
        let wrong = broken_if (lack_value (kind_of names left) (kind_of names right)) fault.WrongType at in
        let parts = three_unbroken (faults_of names left) (faults_of names right) wrong h in
        sound_both functions slots at (expression names frame left) (expression names frame right)
        (sound_expression left parts.first (within_left (named_by names left) (named_by names right) named w))
        (sound_expression right parts.second (within_right (named_by names left) (named_by names right) named w))
    sound_expression (Either at left right) h w =
        let wrong = broken_if (lack_value (kind_of names left) (kind_of names right)) fault.WrongType at in
        let parts = three_unbroken (faults_of names left) (faults_of names right) wrong h in
        sound_either functions slots at (expression names frame left) (expression names frame right)
        (sound_expression left parts.first (within_left (named_by names left) (named_by names right) named w))
        (sound_expression right parts.second (within_right (named_by names left) (named_by names right) named w))
    sound_expression (Call' at name n args) h w =
        let called = call_faults at (names name) (judged_row names args) in
        let many = takes_called functions names agrees at name (names name) (judged_row names args) refl (no_left called (argument_faults names args) h) in
        sound_call functions slots at (index_of (names name)) (arguments names frame args)
        (sym (ap (takes functions (index_of (names name))) (as_many names frame args)) ∙ many)
        (sound_arguments args (no_right called (argument_faults names args) h) w)
    sound_expression (Builtin' at which n args) h w =
        let counted = miscounts at (wanted which) (judged_row names args) in
        let parts = three_unbroken counted (misfits (wanted which) (judged_row names args)) (argument_faults names args) h in
        let many = eqb-true (length (wanted which)) (length (judged_row names args)) (not_broken _ fault.WrongCount at parts.first) in
        sound_built functions slots at which (arguments names frame args) (many ∙ as_many names frame args) (sound_arguments args parts.third w)
    sound_expression (Print' at text_at format n args) h w =
        let written = format_faults at text_at (format_of format) (judged_row names args) in
        let parts = three_unbroken written (word_misfits (judged_row names args)) (argument_faults names args) h in
        let many = words_agree at text_at (format_of format) (judged_row names args) parts.first ∙ as_many names frame args in
        sound_print functions slots (unwrap_or (format_of format) []) (arguments names frame args)
        (eq-eqb _ _ many) (format_printable format) (sound_arguments args parts.third w)
    sound_expression (InitAt at name_at name value) h w =
        let unknown = broken_if (not (is_replicated (names name))) fault.Unknown name_at in
        let parts = three_unbroken unknown (faults_of names value) (misfit is_word (judged names value)) h in
        sound_init functions slots at (Word (address_of (names name))) (expression names frame value) refl (sound_expression value parts.second w)

    pub sound_arguments : {n : _} (args : Args n) → argument_faults names args ≡ [] → Within (named_by_args names args) named →
        list_all (all_sound functions slots) (arguments names frame args) ≡ true
    sound_arguments no_args h w = refl
    sound_arguments (more_args arg rest) h w =
        and_from (all_sound functions slots (expression names frame arg)) (list_all (all_sound functions slots) (arguments names frame rest))
        (sound_expression arg (no_left (faults_of names arg) (argument_faults names rest) h) (within_left (named_by names arg) (named_by_args names rest) named w))
        (sound_arguments rest (no_right (faults_of names arg) (argument_faults names rest) h) (within_right (named_by names arg) (named_by_args names rest) named w))
