-- What scopes and frames know behind a statement.
use Rattle.std.proofs.Common.{◌≡◌, ◌∙◌, ap, sym, ℕ, Bool, true, false, if◌then◌else◌, List, [], ◌∷◌, ◌++◌, drop, append_assoc, refl, subst}
use Rattle.std.specs.List.{list_all}
use Rattle.std.proofs.lemmas.Bool.{and_parts, and_from}
use Rattle.std.proofs.lemmas.List.Folds.{list_all-append}
use Rattle.cilk_ast.specs.TreeStatement.{If, While, For, CilkFor, Present}
use Rattle.cilk_ast.specs.declared.kind.Kind.{Kind}
use Rattle.cilk_ast.specs.declared.program.Function.{Function}
use Rattle.cilk_ast.specs.declared.tree.TStmt.{TStmt, Empty, Block', Local, Eval, Assign, AddTo, Up, Down, Spawn, Break, Continue, Return, Sync, Held-TStmt-If-2, None', Row_of-TStmt as Stmts, end_of-TStmt as no_stmts, more_of-TStmt as more_stmts}
use Rattle.cilk_ast.specs.declared.kind.Kind.TheVariants as sort
use Rattle.cilk_model.specs.Copies.{Frame, named_in, copies_of}
use Rattle.cilk_model.specs.Locals.{in_body, after, after_part, after_all}
use Rattle.cilk_model.specs.Scopes.{Scope, Scopes, has_name, with_local, declared, opened}
use Rattle.cilk_model.specs.StatementLowering.{framed, framed_part, body_frame}
use Rattle.cilk_model.specs.Scopes as model
use Rattle.cilk_types.proofs.KeptNumbers.{Within, in_filter, in_first, in_rest, in_right, is_in}
use Rattle.cilk_types.proofs.KeptKnown.{Files, Holds, all_known, is_known, known_from, known_longer, known_more}

-- ---- declarations

new_known : (named : List ℕ) (frame : Frame) (name : List ℕ) (l : model.Local) (scope : Scope) (b : Bool) → is_known named frame l ≡ true →
    list_all (λ entry. is_known named frame entry.1) scope ≡ true →
    list_all (λ (entry : List ℕ × model.Local). is_known named frame entry.1) (if b then scope else scope ++ (name, l) ∷ []) ≡ true
new_known named frame name l scope true h k = k
new_known named frame name l scope false h k =
    list_all-append (λ (entry : List ℕ × model.Local). is_known named frame entry.1) scope ((name, l) ∷ []) ∙ and_from _ _ k (and_from _ _ h refl)

with_known : (named : List ℕ) (frame : Frame) (name : List ℕ) (l : model.Local) (scopes : List Scope) → is_known named frame l ≡ true →
    all_known named frame scopes ≡ true → all_known named frame (with_local name l scopes) ≡ true
with_known named frame name l [] h m = m
with_known named frame name l (scope ∷ scopes) h m =
    let parts = and_parts (list_all (λ entry. is_known named frame entry.1) scope) (all_known named frame scopes) m in
    and_from _ _ (new_known named frame name l scope (has_name name scope) h (parts.0)) (parts.1)

-- behind a declaration, with its local in the frame
pub declared_known : (named : List ℕ) (frame frame' : Frame) (name : List ℕ) (kind : Kind) (scopes : Scopes) → is_in scopes.count frame' ≡ true →
    all_known named frame' scopes.around ≡ true → all_known named frame' (declared name kind scopes).around ≡ true
declared_known named frame frame' name kind scopes here m =
    with_known named frame' name _ scopes.around (known_from (is_in scopes.count named) (is_in scopes.count frame') (λ _. here)) m

-- ---- behind statements

-- a declaration changes no scope but the innermost
drop_with : (name : List ℕ) (l : model.Local) (scopes : List Scope) → drop 1 (with_local name l scopes) ≡ drop 1 scopes
drop_with name l [] = refl
drop_with name l (scope ∷ scopes) = refl

mutual
  pub outer_kept : (s : TStmt) (scopes : Scopes) → drop 1 (after s scopes).around ≡ drop 1 scopes.around
  outer_kept (Block' n body) scopes = ap (drop 1) (all_outer_kept body (opened scopes))
  outer_kept (Local at kind name value) scopes = drop_with name _ scopes.around
  outer_kept (If test yes_ no_) scopes = part_outer_kept no_ (after yes_ scopes) ∙ outer_kept yes_ scopes
  outer_kept (While test body) scopes = outer_kept body scopes
  outer_kept (For init test step body) scopes =
      ap (drop 1)
      (outer_kept body (after_part step (after_part init (opened scopes))) ∙ part_outer_kept step (after_part init (opened scopes))
      ∙ part_outer_kept init (opened scopes))
  outer_kept (CilkFor at name low second high third body) scopes = ap (drop 1) (outer_kept body (in_body name scopes))
  outer_kept _ scopes = refl

  part_outer_kept : (part : Held-TStmt-If-2) (scopes : Scopes) → drop 1 (after_part part scopes).around ≡ drop 1 scopes.around
  part_outer_kept None' scopes = refl
  part_outer_kept (Present s) scopes = outer_kept s scopes

  all_outer_kept : {n : _} (body : Stmts n) (scopes : Scopes) → drop 1 (after_all body scopes).around ≡ drop 1 scopes.around
  all_outer_kept no_stmts scopes = refl
  all_outer_kept (more_stmts first rest) scopes = all_outer_kept rest (after first scopes) ∙ outer_kept first scopes

mutual
  pub file_kept : (s : TStmt) (scopes : Scopes) → (after s scopes).file ≡ scopes.file
  file_kept (Block' n body) scopes = all_file_kept body (opened scopes)
  file_kept (Local at kind name value) scopes = refl
  file_kept (If test yes_ no_) scopes = part_file_kept no_ (after yes_ scopes) ∙ file_kept yes_ scopes
  file_kept (While test body) scopes = file_kept body scopes
  file_kept (For init test step body) scopes =
      file_kept body (after_part step (after_part init (opened scopes))) ∙ part_file_kept step (after_part init (opened scopes))
      ∙ part_file_kept init (opened scopes)
  file_kept (CilkFor at name low second high third body) scopes = file_kept body (in_body name scopes)
  file_kept _ scopes = refl

  part_file_kept : (part : Held-TStmt-If-2) (scopes : Scopes) → (after_part part scopes).file ≡ scopes.file
  part_file_kept None' scopes = refl
  part_file_kept (Present s) scopes = file_kept s scopes

  all_file_kept : {n : _} (body : Stmts n) (scopes : Scopes) → (after_all body scopes).file ≡ scopes.file
  all_file_kept no_stmts scopes = refl
  all_file_kept (more_stmts first rest) scopes = all_file_kept rest (after first scopes) ∙ file_kept first scopes

-- what was known around a scope of its own is known behind it, whatever the frame got
closed_known : (named : List ℕ) (frame more : Frame) (before now : List Scope) → now ≡ before → all_known named frame before ≡ true →
    all_known named (frame ++ more) now ≡ true
closed_known named frame more before now e m = ap (all_known named (frame ++ more)) e ∙ known_longer named frame more before m

mutual
  known_after : (named : List ℕ) (frame : Frame) (s : TStmt) (scopes : Scopes) → all_known named frame scopes.around ≡ true →
      all_known named (frame ++ framed s scopes) (after s scopes).around ≡ true
  known_after named frame (Block' n body) scopes m = closed_known named frame _ scopes.around _ (all_outer_kept body (opened scopes)) m
  known_after named frame (Local at kind name value) scopes m =
      declared_known named frame (frame ++ scopes.count ∷ []) name kind scopes (in_right scopes.count frame (scopes.count ∷ []) (in_first scopes.count []))
      (known_longer named frame (scopes.count ∷ []) scopes.around m)
  known_after named frame (If test yes_ no_) scopes m =
      ap (λ f. all_known named f (after_part no_ (after yes_ scopes)).around) (sym (append_assoc frame (framed yes_ scopes) (framed_part no_ (after yes_ scopes))))
      ∙ known_after_part named (frame ++ framed yes_ scopes) no_ (after yes_ scopes) (known_after named frame yes_ scopes m)
  known_after named frame (While test body) scopes m = known_after named frame body scopes m
  known_after named frame (For init test step body) scopes m =
      closed_known named frame _ scopes.around _
      (outer_kept body (after_part step (after_part init (opened scopes))) ∙ part_outer_kept step (after_part init (opened scopes))
      ∙ part_outer_kept init (opened scopes))
      m
  known_after named frame (CilkFor at name low second high third body) scopes m = closed_known named frame [] scopes.around _ (outer_kept body (in_body name scopes)) m
  known_after named frame Empty scopes m = known_longer named frame [] scopes.around m
  known_after named frame (Eval e) scopes m = known_longer named frame [] scopes.around m
  known_after named frame (Assign at left value) scopes m = known_longer named frame [] scopes.around m
  known_after named frame (AddTo at left value) scopes m = known_longer named frame [] scopes.around m
  known_after named frame (Up left) scopes m = known_longer named frame [] scopes.around m
  known_after named frame (Down left) scopes m = known_longer named frame [] scopes.around m
  known_after named frame (Spawn spawn) scopes m = known_longer named frame [] scopes.around m
  known_after named frame (Break at) scopes m = known_longer named frame [] scopes.around m
  known_after named frame (Continue at) scopes m = known_longer named frame [] scopes.around m
  known_after named frame (Return at value) scopes m = known_longer named frame [] scopes.around m
  known_after named frame Sync scopes m = known_longer named frame [] scopes.around m

  known_after_part : (named : List ℕ) (frame : Frame) (part : Held-TStmt-If-2) (scopes : Scopes) → all_known named frame scopes.around ≡ true →
      all_known named (frame ++ framed_part part scopes) (after_part part scopes).around ≡ true
  known_after_part named frame None' scopes m = known_longer named frame [] scopes.around m
  known_after_part named frame (Present s) scopes m = known_after named frame s scopes m

pub holds_after : (functions : List Function) (named : List ℕ) (frame : Frame) (s : TStmt) (scopes : Scopes) → Holds functions named frame scopes →
    Holds functions named (frame ++ framed s scopes) (after s scopes)
holds_after functions named frame s scopes holds = record {
  files = subst (Files functions) (sym (file_kept s scopes)) holds.files;
  known = known_after named frame s scopes holds.known;
}

pub holds_after_part : (functions : List Function) (named : List ℕ) (frame : Frame) (part : Held-TStmt-If-2) (scopes : Scopes) → Holds functions named frame scopes →
    Holds functions named (frame ++ framed_part part scopes) (after_part part scopes)
holds_after_part functions named frame part scopes holds = record {
  files = subst (Files functions) (sym (part_file_kept part scopes)) holds.files;
  known = known_after_part named frame part scopes holds.known;
}

pub holds_opened : (functions : List Function) (named : List ℕ) (frame : Frame) (scopes : Scopes) → Holds functions named frame scopes →
    Holds functions named frame (opened scopes)
holds_opened functions named frame scopes holds = record { files = holds.files; known = holds.known }

-- in a body of `cilk_for`, whose frame has its variable and copies of what the body names
pub holds_in_body : (functions : List Function) (named : List ℕ) (frame : Frame) (name : List ℕ) (body : TStmt) (scopes : Scopes) →
    Within (named_in body (in_body name scopes)) named → Holds functions named frame scopes →
    Holds functions (named_in body (in_body name scopes)) (body_frame name body scopes frame) (in_body name scopes)
holds_in_body functions named frame name body scopes within holds =
    let inner = named_in body (in_body name scopes) in
    let copies = copies_of frame inner in
    record {
      files = holds.files;
      known =
          declared_known inner frame (scopes.count ∷ copies) name sort.Long (opened scopes) (in_first scopes.count copies)
          (known_more named inner frame (scopes.count ∷ copies) (opened scopes).around
          (λ n h e. in_rest n scopes.count copies (in_filter (λ number. is_in number inner) n frame e (h (within.each n e))))
          holds.known);
    }
