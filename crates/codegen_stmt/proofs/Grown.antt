-- What a draft gains by statements.
use Rattle.std.proofs.Common.{◌≡◌, ℕ, suc, ◌+◌, ◌*◌, ◌≤◌, ◌<◌, List, [], ◌∷◌, ◌++◌, length, Option, Some, refl, sym, ap, ◌∙◌, subst, arith, take, true, false}
use Rattle.std.proofs.lemmas.List.{take_all}
use Rattle.std.specs.Prelude.{max, slice_get}
use Rattle.cilk_ast.specs.declared.program.Expr.{Expr}
use Rattle.cilk_ast.specs.declared.program.Stmt.{Stmt, Nothing, Block', Eval, Set, Store, AddTo, Spawn, Each, Break, Continue, Return, Sync}
use Rattle.cilk_ast.specs.Statement.{If, Loop}
use Rattle.cilk_ast.specs.Nodes.{expression_nodes, statement_nodes}
use Rattle.codegen_expr.specs.declared.draft.Draft.{Draft}
use Rattle.codegen_expr.specs.Piece.{Line, in_order}
use Rattle.codegen_expr.specs.Emitted.{emitted, emitted_each}
use Rattle.codegen_expr.specs.Gains.{Gains, GainsValue, HasRoom}
use Rattle.codegen_expr.proofs.Bounds.{total}
use Rattle.codegen_expr.proofs.Gained.{append_nil, gains_as, gains_then, body_length, formats_length}
use Rattle.codegen_expr.proofs.Emits.{sized}
use Rattle.codegen_expr.proofs.Taken.{take_next, total_taken, total_append}
use Rattle.codegen_expr.proofs.Emitting.{more_gained, room_behind, room_less, room_first}
use Rattle.codegen_stmt.specs.declared.around.Around.{Around}
use Rattle.codegen_stmt.specs.Compiled.{spawned_words}
use Rattle.codegen_stmt.specs.Compiling.{exits_of, GainsStretch, GainsWords, stretch_of, nodes_of}
use Rattle.codegen_stmt.specs.Parts.{hint_of, words_of, is_simple, own_lines}
use Rattle.codegen_stmt.proofs.Small.{all_words, total_sum, nodes_above}

pub sync_gained : (a b c : Draft) (x y : Line) → Gains a b (x ∷ []) [] 0 0 → Gains b c (y ∷ []) [] 0 0 → Gains a c (x ∷ y ∷ []) [] 0 0
sync_gained a b c x y p q = gains_as a c (x ∷ y ∷ []) (x ∷ y ∷ []) [] [] 0 0 (max 0 0) 0 refl refl refl (omega arith) (gains_then a b c (x ∷ []) (y ∷ []) [] [] 0 0 0 0 p q)

-- Words one behind the other.
pub words_next : (a b d : Draft) (es : List Expr) (i : ℕ) (e : Expr) → i < length es → slice_get es i ≡ Some e → GainsWords a b (take i es) → GainsValue b d e → GainsWords a d (take (i + 1) es)
words_next a b d es i e lt is p q = subst (GainsWords a d) (sym (take_next es i e lt is)) (more_gained a b d (take i es) e p q)

pub words_all : (a b : Draft) (es : List Expr) (i : ℕ) → length es ≤ i → GainsWords a b (take i es) → GainsWords a b es
words_all a b es i le p = subst (GainsWords a b) (take_all i es le) p

-- A hint before the others.
pub hint_gained : (a b d : Draft) (e : Expr) (es : List Expr) → GainsValue a b e → GainsWords b d es → GainsWords a d (e ∷ es)
hint_gained a b d e es p q =
    let piece = emitted e in
    let rest = in_order (emitted_each es) in
    let place = length a.body in
    let first = length a.formats in
    let xs = piece.lines place first in
    let n = body_length a b xs piece.formats (a.depth + 1) (a.depth + piece.rise) p in
    let m = formats_length a b xs piece.formats (a.depth + 1) (a.depth + piece.rise) p in
    let s = sized e place first in
    let w = p.depth in
    let here : length b.body ≡ place + piece.size = omega arith in
    let q' = gains_as b d (rest.lines (length b.body) (length b.formats)) (rest.lines (place + piece.size) (first + length piece.formats)) rest.formats rest.formats
    (b.depth + length es) (a.depth + suc (length es)) (b.depth + rest.rise) (a.depth + suc rest.rise)
    (ap (λ k. rest.lines k (length b.formats)) here ∙ ap (rest.lines (place + piece.size)) m) refl (omega arith) (omega arith) q in
    gains_as a d (xs ++ rest.lines (place + piece.size) (first + length piece.formats)) ((in_order (emitted_each (e ∷ es))).lines place first) (piece.formats ++ rest.formats) (piece.formats ++ rest.formats)
    (a.depth + suc (length es)) (a.depth + suc (length es)) (max (a.depth + piece.rise) (a.depth + suc rest.rise)) (a.depth + max piece.rise (suc rest.rise))
    refl refl refl (omega arith)
    (gains_then a b d xs (rest.lines (place + piece.size) (first + length piece.formats)) piece.formats rest.formats (a.depth + 1) (a.depth + suc (length es)) (a.depth + piece.rise) (a.depth + suc rest.rise) p q')

-- ---- a simple statement

record IsUsing (s : Stmt) (around : Around) (es : List Expr) : Type 0 where
  lines : (place first : ℕ) → (stretch_of around s).lines (exits_of around) place first ≡ (in_order (emitted_each es)).lines place first ++ own_lines around s
  formats : (stretch_of around s).formats ≡ (in_order (emitted_each es)).formats
  rise : (stretch_of around s).rise ≡ (in_order (emitted_each es)).rise

is_using : (s : Stmt) (around : Around) → is_simple s ≡ true → IsUsing s around (all_words s)
unfolding hint_of words_of is_simple own_lines
is_using (Eval e) around simple = record { lines = λ place first. refl; formats = refl; rise = refl }
is_using (Set slot e) around simple = record { lines = λ place first. refl; formats = refl; rise = refl }
is_using (Store at l e) around simple = record { lines = λ place first. refl; formats = refl; rise = refl }
is_using (Spawn at target g hint args) around simple = record { lines = λ place first. refl; formats = refl; rise = refl }
is_using Break around simple = record { lines = λ place first. refl; formats = refl; rise = refl }
is_using Continue around simple = record { lines = λ place first. refl; formats = refl; rise = refl }
is_using (Return e) around simple = record { lines = λ place first. refl; formats = refl; rise = refl }
is_using Sync around simple = record { lines = λ place first. refl; formats = refl; rise = refl }
is_using Nothing around simple = absurd (let wrong : false ≡ true = simple in cc)
is_using (Block' n body) around simple = absurd (let wrong : false ≡ true = simple in cc)
is_using (AddTo at l e) around simple = absurd (let wrong : false ≡ true = simple in cc)
is_using (If test a b) around simple = absurd (let wrong : false ≡ true = simple in cc)
is_using (Loop test a b) around simple = absurd (let wrong : false ≡ true = simple in cc)
is_using (Each at low high g copies) around simple = absurd (let wrong : false ≡ true = simple in cc)

pub simple_gained : (a b d : Draft) (around : Around) (s : Stmt) → is_simple s ≡ true → a.depth ≡ 0 → GainsWords a b (all_words s) → Gains b d (own_lines around s) [] 0 0 →
    GainsStretch a d (stretch_of around s) (exits_of around)
simple_gained a b d around s simple start p q =
    let es = all_words s in
    let words = in_order (emitted_each es) in
    let place = length a.body in
    let first = length a.formats in
    let done = is_using s around simple in
    let xs = words.lines place first in
    let r = done.rise in
    gains_as a d (xs ++ own_lines around s) ((stretch_of around s).lines (exits_of around) place first) (words.formats ++ []) (stretch_of around s).formats 0 0 (max (a.depth + words.rise) 0) (stretch_of around s).rise
    (sym (done.lines place first)) (append_nil words.formats ∙ sym done.formats) refl (omega arith)
    (gains_then a b d xs (own_lines around s) words.formats [] (a.depth + length es) 0 (a.depth + words.rise) 0 p q)

-- ---- room

-- Behind words that were taken, for the next.
pub word_room : (a b : Draft) (es : List Expr) (i : ℕ) (e : Expr) → i < length es → slice_get es i ≡ Some e → HasRoom a (8 * nodes_of es) → GainsWords a b (take i es) → HasRoom b (8 * expression_nodes e)
word_room a b es i e lt is room p =
    let next = ap total (take_next es i e lt is) in
    room_behind a b (take i es) (8 * expression_nodes e) (8 * nodes_of es) room
    (omega (arith, next, total_append (take i es) (e ∷ []), total_taken (i + 1) es, total_sum es)) p

pub words_room : (a : Draft) (s : Stmt) → HasRoom a (8 * statement_nodes s) → HasRoom a (8 * nodes_of (all_words s))
words_room a s room = room_less a (8 * nodes_of (all_words s)) (8 * statement_nodes s) room (omega (arith, nodes_above s, total_sum (all_words s)))

pub hint_room : (a b : Draft) (o : Option Expr) (e : Expr) (es : List Expr) → o ≡ Some e → HasRoom a (8 * nodes_of (spawned_words o es)) → GainsValue a b e → HasRoom b (8 * nodes_of es)
hint_room a b o e es is room p =
    let n = ap (λ o. nodes_of (spawned_words o es)) is in
    room_first a b e (8 * nodes_of es) (8 * nodes_of (spawned_words o es)) room (omega (arith, n, total_sum (e ∷ es), total_sum es)) p
