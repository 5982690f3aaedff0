-- The parts of each form that code builds, and what the form does with their values.
use Rattle.std.proofs.Common.{◌≡◌, true, false, ℕ, ℤ, List, [], ◌∷◌, refl}
use Rattle.word_ops.specs.declared.place.Pos.{Pos}
use Rattle.word_ops.specs.declared.operators.BinaryOp.{BinaryOp}
use Rattle.word_ops.specs.declared.operators.UnaryOp.{UnaryOp}
use Rattle.word_ops.specs.declared.format.Part.{Part}
use Rattle.mem_atomics.specs.declared.op.Op.{Op}
use Rattle.cilk_ast.specs.declared.builtin.Builtin.{Builtin}
use Rattle.cilk_ast.specs.declared.program.Expr as code
use Rattle.cilk_ast.specs.declared.program.Expr.{Expr}
use Rattle.cilk_ast.specs.declared.program.Expr.TheBlock.{shape-the_row-Expr-0, hidden-the_row-Expr-0}
use Rattle.cilk_ast.proofs.ExpressionForms.{listed_row}
use Rattle.threadlet_code.specs.declared.instr.Instr.TheVariants as by
use Rattle.codegen_expr.specs.Piece.{line, placeless, zero_line}
use Rattle.codegen_expr.specs.Emitted.{kind_of}
use Rattle.codegen_expr.specs.Parts.{parts_of, is_choice, own_size, own_formats, own_lines}
use denote.Hole.Carrier.{hidden}

pub parts_word : (w : ℤ) → parts_of (code.Word w) ≡ []
unfolding parts_of shape-the_row-Expr-0 hidden-the_row-Expr-0 hidden
parts_word w = refl

pub size_word : (w : ℤ) → own_size (code.Word w) ≡ 1
unfolding own_size shape-the_row-Expr-0 hidden-the_row-Expr-0 hidden
size_word w = refl

pub lines_word : (number : ℕ) (w : ℤ) → own_lines number (code.Word w) ≡ placeless (by.Push w) ∷ []
unfolding own_lines shape-the_row-Expr-0 hidden-the_row-Expr-0 hidden
lines_word number w = refl

pub choice_word : (w : ℤ) → is_choice (code.Word w) ≡ false
unfolding is_choice shape-the_row-Expr-0 hidden-the_row-Expr-0 hidden
choice_word w = refl

pub formats_word : (w : ℤ) → own_formats (code.Word w) ≡ []
unfolding own_formats shape-the_row-Expr-0 hidden-the_row-Expr-0 hidden
formats_word w = refl

pub parts_slot : (i : ℕ) → parts_of (code.Slot i) ≡ []
unfolding parts_of shape-the_row-Expr-0 hidden-the_row-Expr-0 hidden
parts_slot i = refl

pub size_slot : (i : ℕ) → own_size (code.Slot i) ≡ 1
unfolding own_size shape-the_row-Expr-0 hidden-the_row-Expr-0 hidden
size_slot i = refl

pub lines_slot : (number : ℕ) (i : ℕ) → own_lines number (code.Slot i) ≡ placeless (by.Get i) ∷ []
unfolding own_lines shape-the_row-Expr-0 hidden-the_row-Expr-0 hidden
lines_slot number i = refl

pub choice_slot : (i : ℕ) → is_choice (code.Slot i) ≡ false
unfolding is_choice shape-the_row-Expr-0 hidden-the_row-Expr-0 hidden
choice_slot i = refl

pub formats_slot : (i : ℕ) → own_formats (code.Slot i) ≡ []
unfolding own_formats shape-the_row-Expr-0 hidden-the_row-Expr-0 hidden
formats_slot i = refl

pub parts_un : (at : Pos) (op : UnaryOp) (e : Expr) → parts_of (code.Un at op e) ≡ e ∷ []
unfolding parts_of shape-the_row-Expr-0 hidden-the_row-Expr-0 hidden
parts_un at op e = refl

pub size_un : (at : Pos) (op : UnaryOp) (e : Expr) → own_size (code.Un at op e) ≡ 1
unfolding own_size shape-the_row-Expr-0 hidden-the_row-Expr-0 hidden
size_un at op e = refl

pub lines_un : (number : ℕ) (at : Pos) (op : UnaryOp) (e : Expr) → own_lines number (code.Un at op e) ≡ line at (by.Un op) ∷ []
unfolding own_lines shape-the_row-Expr-0 hidden-the_row-Expr-0 hidden
lines_un number at op e = refl

pub choice_un : (at : Pos) (op : UnaryOp) (e : Expr) → is_choice (code.Un at op e) ≡ false
unfolding is_choice shape-the_row-Expr-0 hidden-the_row-Expr-0 hidden
choice_un at op e = refl

pub formats_un : (at : Pos) (op : UnaryOp) (e : Expr) → own_formats (code.Un at op e) ≡ []
unfolding own_formats shape-the_row-Expr-0 hidden-the_row-Expr-0 hidden
formats_un at op e = refl

pub parts_bin : (at : Pos) (op : BinaryOp) (l r : Expr) → parts_of (code.Bin at op l r) ≡ l ∷ r ∷ []
unfolding parts_of shape-the_row-Expr-0 hidden-the_row-Expr-0 hidden
parts_bin at op l r = refl

pub size_bin : (at : Pos) (op : BinaryOp) (l r : Expr) → own_size (code.Bin at op l r) ≡ 1
unfolding own_size shape-the_row-Expr-0 hidden-the_row-Expr-0 hidden
size_bin at op l r = refl

pub lines_bin : (number : ℕ) (at : Pos) (op : BinaryOp) (l r : Expr) → own_lines number (code.Bin at op l r) ≡ line at (by.Bin op) ∷ []
unfolding own_lines shape-the_row-Expr-0 hidden-the_row-Expr-0 hidden
lines_bin number at op l r = refl

pub choice_bin : (at : Pos) (op : BinaryOp) (l r : Expr) → is_choice (code.Bin at op l r) ≡ false
unfolding is_choice shape-the_row-Expr-0 hidden-the_row-Expr-0 hidden
choice_bin at op l r = refl

pub formats_bin : (at : Pos) (op : BinaryOp) (l r : Expr) → own_formats (code.Bin at op l r) ≡ []
unfolding own_formats shape-the_row-Expr-0 hidden-the_row-Expr-0 hidden
formats_bin at op l r = refl

pub parts_both : (at : Pos) (l r : Expr) → parts_of (code.Both at l r) ≡ l ∷ r ∷ []
unfolding parts_of shape-the_row-Expr-0 hidden-the_row-Expr-0 hidden
parts_both at l r = refl

pub size_both : (at : Pos) (l r : Expr) → own_size (code.Both at l r) ≡ 5
unfolding own_size shape-the_row-Expr-0 hidden-the_row-Expr-0 hidden
size_both at l r = refl

pub lines_both : (number : ℕ) (at : Pos) (l r : Expr) → own_lines number (code.Both at l r) ≡ []
unfolding own_lines shape-the_row-Expr-0 hidden-the_row-Expr-0 hidden
lines_both number at l r = refl

pub choice_both : (at : Pos) (l r : Expr) → is_choice (code.Both at l r) ≡ true
unfolding is_choice shape-the_row-Expr-0 hidden-the_row-Expr-0 hidden
choice_both at l r = refl

pub formats_both : (at : Pos) (l r : Expr) → own_formats (code.Both at l r) ≡ []
unfolding own_formats shape-the_row-Expr-0 hidden-the_row-Expr-0 hidden
formats_both at l r = refl

pub parts_either : (at : Pos) (l r : Expr) → parts_of (code.Either at l r) ≡ l ∷ r ∷ []
unfolding parts_of shape-the_row-Expr-0 hidden-the_row-Expr-0 hidden
parts_either at l r = refl

pub size_either : (at : Pos) (l r : Expr) → own_size (code.Either at l r) ≡ 7
unfolding own_size shape-the_row-Expr-0 hidden-the_row-Expr-0 hidden
size_either at l r = refl

pub lines_either : (number : ℕ) (at : Pos) (l r : Expr) → own_lines number (code.Either at l r) ≡ []
unfolding own_lines shape-the_row-Expr-0 hidden-the_row-Expr-0 hidden
lines_either number at l r = refl

pub choice_either : (at : Pos) (l r : Expr) → is_choice (code.Either at l r) ≡ true
unfolding is_choice shape-the_row-Expr-0 hidden-the_row-Expr-0 hidden
choice_either at l r = refl

pub formats_either : (at : Pos) (l r : Expr) → own_formats (code.Either at l r) ≡ []
unfolding own_formats shape-the_row-Expr-0 hidden-the_row-Expr-0 hidden
formats_either at l r = refl

pub parts_load : (at : Pos) (a : Expr) → parts_of (code.Load at a) ≡ a ∷ []
unfolding parts_of shape-the_row-Expr-0 hidden-the_row-Expr-0 hidden
parts_load at a = refl

pub size_load : (at : Pos) (a : Expr) → own_size (code.Load at a) ≡ 1
unfolding own_size shape-the_row-Expr-0 hidden-the_row-Expr-0 hidden
size_load at a = refl

pub lines_load : (number : ℕ) (at : Pos) (a : Expr) → own_lines number (code.Load at a) ≡ line at by.Load ∷ []
unfolding own_lines shape-the_row-Expr-0 hidden-the_row-Expr-0 hidden
lines_load number at a = refl

pub choice_load : (at : Pos) (a : Expr) → is_choice (code.Load at a) ≡ false
unfolding is_choice shape-the_row-Expr-0 hidden-the_row-Expr-0 hidden
choice_load at a = refl

pub formats_load : (at : Pos) (a : Expr) → own_formats (code.Load at a) ≡ []
unfolding own_formats shape-the_row-Expr-0 hidden-the_row-Expr-0 hidden
formats_load at a = refl

pub parts_post : (at : Pos) (op : Op) (a v : Expr) → parts_of (code.Post at op a v) ≡ a ∷ v ∷ []
unfolding parts_of shape-the_row-Expr-0 hidden-the_row-Expr-0 hidden
parts_post at op a v = refl

pub size_post : (at : Pos) (op : Op) (a v : Expr) → own_size (code.Post at op a v) ≡ 2
unfolding own_size shape-the_row-Expr-0 hidden-the_row-Expr-0 hidden
size_post at op a v = refl

pub lines_post : (number : ℕ) (at : Pos) (op : Op) (a v : Expr) → own_lines number (code.Post at op a v) ≡ line at (by.Post op) ∷ zero_line ∷ []
unfolding own_lines shape-the_row-Expr-0 hidden-the_row-Expr-0 hidden
lines_post number at op a v = refl

pub choice_post : (at : Pos) (op : Op) (a v : Expr) → is_choice (code.Post at op a v) ≡ false
unfolding is_choice shape-the_row-Expr-0 hidden-the_row-Expr-0 hidden
choice_post at op a v = refl

pub formats_post : (at : Pos) (op : Op) (a v : Expr) → own_formats (code.Post at op a v) ≡ []
unfolding own_formats shape-the_row-Expr-0 hidden-the_row-Expr-0 hidden
formats_post at op a v = refl

pub parts_add : (at : Pos) (a v : Expr) → parts_of (code.Add at a v) ≡ a ∷ v ∷ []
unfolding parts_of shape-the_row-Expr-0 hidden-the_row-Expr-0 hidden
parts_add at a v = refl

pub size_add : (at : Pos) (a v : Expr) → own_size (code.Add at a v) ≡ 1
unfolding own_size shape-the_row-Expr-0 hidden-the_row-Expr-0 hidden
size_add at a v = refl

pub lines_add : (number : ℕ) (at : Pos) (a v : Expr) → own_lines number (code.Add at a v) ≡ line at by.FetchAdd ∷ []
unfolding own_lines shape-the_row-Expr-0 hidden-the_row-Expr-0 hidden
lines_add number at a v = refl

pub choice_add : (at : Pos) (a v : Expr) → is_choice (code.Add at a v) ≡ false
unfolding is_choice shape-the_row-Expr-0 hidden-the_row-Expr-0 hidden
choice_add at a v = refl

pub formats_add : (at : Pos) (a v : Expr) → own_formats (code.Add at a v) ≡ []
unfolding own_formats shape-the_row-Expr-0 hidden-the_row-Expr-0 hidden
formats_add at a v = refl

pub parts_swap : (at : Pos) (a v : Expr) → parts_of (code.Swap at a v) ≡ a ∷ v ∷ []
unfolding parts_of shape-the_row-Expr-0 hidden-the_row-Expr-0 hidden
parts_swap at a v = refl

pub size_swap : (at : Pos) (a v : Expr) → own_size (code.Swap at a v) ≡ 1
unfolding own_size shape-the_row-Expr-0 hidden-the_row-Expr-0 hidden
size_swap at a v = refl

pub lines_swap : (number : ℕ) (at : Pos) (a v : Expr) → own_lines number (code.Swap at a v) ≡ line at by.FetchSwap ∷ []
unfolding own_lines shape-the_row-Expr-0 hidden-the_row-Expr-0 hidden
lines_swap number at a v = refl

pub choice_swap : (at : Pos) (a v : Expr) → is_choice (code.Swap at a v) ≡ false
unfolding is_choice shape-the_row-Expr-0 hidden-the_row-Expr-0 hidden
choice_swap at a v = refl

pub formats_swap : (at : Pos) (a v : Expr) → own_formats (code.Swap at a v) ≡ []
unfolding own_formats shape-the_row-Expr-0 hidden-the_row-Expr-0 hidden
formats_swap at a v = refl

pub parts_cas : (at : Pos) (a x v : Expr) → parts_of (code.Cas at a x v) ≡ a ∷ x ∷ v ∷ []
unfolding parts_of shape-the_row-Expr-0 hidden-the_row-Expr-0 hidden
parts_cas at a x v = refl

pub size_cas : (at : Pos) (a x v : Expr) → own_size (code.Cas at a x v) ≡ 1
unfolding own_size shape-the_row-Expr-0 hidden-the_row-Expr-0 hidden
size_cas at a x v = refl

pub lines_cas : (number : ℕ) (at : Pos) (a x v : Expr) → own_lines number (code.Cas at a x v) ≡ line at by.FetchCas ∷ []
unfolding own_lines shape-the_row-Expr-0 hidden-the_row-Expr-0 hidden
lines_cas number at a x v = refl

pub choice_cas : (at : Pos) (a x v : Expr) → is_choice (code.Cas at a x v) ≡ false
unfolding is_choice shape-the_row-Expr-0 hidden-the_row-Expr-0 hidden
choice_cas at a x v = refl

pub formats_cas : (at : Pos) (a x v : Expr) → own_formats (code.Cas at a x v) ≡ []
unfolding own_formats shape-the_row-Expr-0 hidden-the_row-Expr-0 hidden
formats_cas at a x v = refl

pub parts_init : (at : Pos) (a v : Expr) → parts_of (code.Init at a v) ≡ a ∷ v ∷ []
unfolding parts_of shape-the_row-Expr-0 hidden-the_row-Expr-0 hidden
parts_init at a v = refl

pub size_init : (at : Pos) (a v : Expr) → own_size (code.Init at a v) ≡ 2
unfolding own_size shape-the_row-Expr-0 hidden-the_row-Expr-0 hidden
size_init at a v = refl

pub lines_init : (number : ℕ) (at : Pos) (a v : Expr) → own_lines number (code.Init at a v) ≡ line at by.Init ∷ zero_line ∷ []
unfolding own_lines shape-the_row-Expr-0 hidden-the_row-Expr-0 hidden
lines_init number at a v = refl

pub choice_init : (at : Pos) (a v : Expr) → is_choice (code.Init at a v) ≡ false
unfolding is_choice shape-the_row-Expr-0 hidden-the_row-Expr-0 hidden
choice_init at a v = refl

pub formats_init : (at : Pos) (a v : Expr) → own_formats (code.Init at a v) ≡ []
unfolding own_formats shape-the_row-Expr-0 hidden-the_row-Expr-0 hidden
formats_init at a v = refl

pub parts_fence : parts_of code.Fence ≡ []
unfolding parts_of shape-the_row-Expr-0 hidden-the_row-Expr-0 hidden
parts_fence = refl

pub size_fence : own_size code.Fence ≡ 2
unfolding own_size shape-the_row-Expr-0 hidden-the_row-Expr-0 hidden
size_fence = refl

pub lines_fence : (number : ℕ) → own_lines number code.Fence ≡ placeless by.Fence ∷ zero_line ∷ []
unfolding own_lines shape-the_row-Expr-0 hidden-the_row-Expr-0 hidden
lines_fence number = refl

pub choice_fence : is_choice code.Fence ≡ false
unfolding is_choice shape-the_row-Expr-0 hidden-the_row-Expr-0 hidden
choice_fence = refl

pub formats_fence : own_formats code.Fence ≡ []
unfolding own_formats shape-the_row-Expr-0 hidden-the_row-Expr-0 hidden
formats_fence = refl

pub parts_move : (at : Pos) (a : Expr) → parts_of (code.Move at a) ≡ a ∷ []
unfolding parts_of shape-the_row-Expr-0 hidden-the_row-Expr-0 hidden
parts_move at a = refl

pub size_move : (at : Pos) (a : Expr) → own_size (code.Move at a) ≡ 2
unfolding own_size shape-the_row-Expr-0 hidden-the_row-Expr-0 hidden
size_move at a = refl

pub lines_move : (number : ℕ) (at : Pos) (a : Expr) → own_lines number (code.Move at a) ≡ line at by.Move ∷ zero_line ∷ []
unfolding own_lines shape-the_row-Expr-0 hidden-the_row-Expr-0 hidden
lines_move number at a = refl

pub choice_move : (at : Pos) (a : Expr) → is_choice (code.Move at a) ≡ false
unfolding is_choice shape-the_row-Expr-0 hidden-the_row-Expr-0 hidden
choice_move at a = refl

pub formats_move : (at : Pos) (a : Expr) → own_formats (code.Move at a) ≡ []
unfolding own_formats shape-the_row-Expr-0 hidden-the_row-Expr-0 hidden
formats_move at a = refl

pub parts_where_ : parts_of code.Where ≡ []
unfolding parts_of shape-the_row-Expr-0 hidden-the_row-Expr-0 hidden
parts_where_ = refl

pub size_where_ : own_size code.Where ≡ 1
unfolding own_size shape-the_row-Expr-0 hidden-the_row-Expr-0 hidden
size_where_ = refl

pub lines_where_ : (number : ℕ) → own_lines number code.Where ≡ placeless by.Where ∷ []
unfolding own_lines shape-the_row-Expr-0 hidden-the_row-Expr-0 hidden
lines_where_ number = refl

pub choice_where_ : is_choice code.Where ≡ false
unfolding is_choice shape-the_row-Expr-0 hidden-the_row-Expr-0 hidden
choice_where_ = refl

pub formats_where_ : own_formats code.Where ≡ []
unfolding own_formats shape-the_row-Expr-0 hidden-the_row-Expr-0 hidden
formats_where_ = refl

pub parts_call : (at : Pos) (g : ℕ) (args : List Expr) → parts_of (code.Call at g args) ≡ args
unfolding parts_of shape-the_row-Expr-0 hidden-the_row-Expr-0 hidden
parts_call at g args = listed_row args

pub size_call : (at : Pos) (g : ℕ) (args : List Expr) → own_size (code.Call at g args) ≡ 1
unfolding own_size shape-the_row-Expr-0 hidden-the_row-Expr-0 hidden
size_call at g args = refl

pub lines_call : (number : ℕ) (at : Pos) (g : ℕ) (args : List Expr) → own_lines number (code.Call at g args) ≡ line at (by.Call g) ∷ []
unfolding own_lines shape-the_row-Expr-0 hidden-the_row-Expr-0 hidden
lines_call number at g args = refl

pub choice_call : (at : Pos) (g : ℕ) (args : List Expr) → is_choice (code.Call at g args) ≡ false
unfolding is_choice shape-the_row-Expr-0 hidden-the_row-Expr-0 hidden
choice_call at g args = refl

pub formats_call : (at : Pos) (g : ℕ) (args : List Expr) → own_formats (code.Call at g args) ≡ []
unfolding own_formats shape-the_row-Expr-0 hidden-the_row-Expr-0 hidden
formats_call at g args = refl

pub parts_print : (format : List Part) (args : List Expr) → parts_of (code.Print format args) ≡ args
unfolding parts_of shape-the_row-Expr-0 hidden-the_row-Expr-0 hidden
parts_print format args = listed_row args

pub size_print : (format : List Part) (args : List Expr) → own_size (code.Print format args) ≡ 2
unfolding own_size shape-the_row-Expr-0 hidden-the_row-Expr-0 hidden
size_print format args = refl

pub lines_print : (number : ℕ) (format : List Part) (args : List Expr) → own_lines number (code.Print format args) ≡ placeless (by.Print number) ∷ zero_line ∷ []
unfolding own_lines shape-the_row-Expr-0 hidden-the_row-Expr-0 hidden
lines_print number format args = refl

pub choice_print : (format : List Part) (args : List Expr) → is_choice (code.Print format args) ≡ false
unfolding is_choice shape-the_row-Expr-0 hidden-the_row-Expr-0 hidden
choice_print format args = refl

pub formats_print : (format : List Part) (args : List Expr) → own_formats (code.Print format args) ≡ format ∷ []
unfolding own_formats shape-the_row-Expr-0 hidden-the_row-Expr-0 hidden
formats_print format args = refl

pub parts_alloc : (at : Pos) (which : Builtin) (args : List Expr) → parts_of (code.Alloc at which args) ≡ args
unfolding parts_of shape-the_row-Expr-0 hidden-the_row-Expr-0 hidden
parts_alloc at which args = listed_row args

pub size_alloc : (at : Pos) (which : Builtin) (args : List Expr) → own_size (code.Alloc at which args) ≡ 1
unfolding own_size shape-the_row-Expr-0 hidden-the_row-Expr-0 hidden
size_alloc at which args = refl

pub lines_alloc : (number : ℕ) (at : Pos) (which : Builtin) (args : List Expr) → own_lines number (code.Alloc at which args) ≡ line at (by.Alloc (kind_of which)) ∷ []
unfolding own_lines shape-the_row-Expr-0 hidden-the_row-Expr-0 hidden
lines_alloc number at which args = refl

pub choice_alloc : (at : Pos) (which : Builtin) (args : List Expr) → is_choice (code.Alloc at which args) ≡ false
unfolding is_choice shape-the_row-Expr-0 hidden-the_row-Expr-0 hidden
choice_alloc at which args = refl

pub formats_alloc : (at : Pos) (which : Builtin) (args : List Expr) → own_formats (code.Alloc at which args) ≡ []
unfolding own_formats shape-the_row-Expr-0 hidden-the_row-Expr-0 hidden
formats_alloc at which args = refl

pub ruleset parts_by_form = (parts_word, parts_slot, parts_un, parts_bin, parts_both, parts_either, parts_load, parts_post, parts_add, parts_swap, parts_cas, parts_init, parts_fence, parts_move, parts_where_, parts_call, parts_print, parts_alloc)

pub ruleset size_by_form = (size_word, size_slot, size_un, size_bin, size_both, size_either, size_load, size_post, size_add, size_swap, size_cas, size_init, size_fence, size_move, size_where_, size_call, size_print, size_alloc)

pub ruleset lines_by_form = (lines_word, lines_slot, lines_un, lines_bin, lines_both, lines_either, lines_load, lines_post, lines_add, lines_swap, lines_cas, lines_init, lines_fence, lines_move, lines_where_, lines_call, lines_print, lines_alloc)

pub ruleset formats_by_form = (formats_word, formats_slot, formats_un, formats_bin, formats_both, formats_either, formats_load, formats_post, formats_add, formats_swap, formats_cas, formats_init, formats_fence, formats_move, formats_where_, formats_call, formats_print, formats_alloc)

pub ruleset choice_by_form = (choice_word, choice_slot, choice_un, choice_bin, choice_both, choice_either, choice_load, choice_post, choice_add, choice_swap, choice_cas, choice_init, choice_fence, choice_move, choice_where_, choice_call, choice_print, choice_alloc)
