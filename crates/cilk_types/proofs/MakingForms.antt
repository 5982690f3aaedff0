-- What each form of statement is in a program, from what its parts are, and how far code has come behind it.
use Rattle.std.proofs.Common.{◌≡◌, ◌∙◌, ap, sym, ℕ, suc, ◌+◌, List, [], ◌∷◌, ◌++◌, drop, append_assoc, append-nil, add_assoc, add-zero, Option, Some, None, refl}
use Rattle.std.specs.List.{slice_get}
use Rattle.cilk_ast.specs.declared.program.Stmt as program
use Rattle.cilk_ast.specs.declared.program.Stmt.{Stmt}
use Rattle.cilk_ast.specs.declared.tree.TExpr.{TExpr}
use Rattle.cilk_ast.specs.declared.tree.TStmt as code
use Rattle.cilk_ast.specs.declared.tree.TStmt.TheBlock.{shape-the_row-TStmt-0, hidden-the_row-TStmt-0}
use Rattle.cilk_ast.specs.declared.tree.TStmt.{TStmt, Held-TStmt-If-2}
use Rattle.cilk_ast.specs.TreeStatement.{part_of}
use Rattle.cilk_ast.proofs.TreeStatementForms.{if_form, while_form}
use Rattle.cilk_model.specs.Locals.{after, after_part, after_all}
use Rattle.cilk_model.specs.StatementLowering.{framed, framed_part, framed_all, bodies_of, bodies_of_part, bodies_of_all, statement, statement_part, statements, outlines, outlines_part, outlines_all}
use Rattle.cilk_types.specs.Making.{Walked, made, past, made_part, past_part, all_made, all_past, made_list, past_list, within, without, word_at}
use Rattle.cilk_types.proofs.ArgumentLemmas.{drop_item}
use denote.Hole.Carrier.{hidden}

-- ---- statements in a row

pub row_made : (body : List TStmt) (w : Walked) → statements (hidden-the_row-TStmt-0 body) w.scopes w.frame w.next ≡ all_made body w
unfolding made past shape-the_row-TStmt-0 hidden-the_row-TStmt-0 hidden
row_made [] w = refl
row_made (s ∷ body) w = ap (λ rest. statement s w.scopes w.frame w.next ∷ rest) (row_made body (past s w))

-- how far code has come behind a row
unfoldable pub behind_row : List TStmt → Walked → Walked
behind_row body w = record {
  name = w.name;
  scopes = after_all (hidden-the_row-TStmt-0 body) w.scopes;
  frame = w.frame ++ framed_all (hidden-the_row-TStmt-0 body) w.scopes;
  next = w.next + bodies_of_all (hidden-the_row-TStmt-0 body);
  bodies = w.bodies ++ outlines_all w.name (hidden-the_row-TStmt-0 body) w.scopes w.frame w.next;
}

pub row_past : (body : List TStmt) (w : Walked) → behind_row body w ≡ all_past body w
unfolding behind_row past shape-the_row-TStmt-0 hidden-the_row-TStmt-0 hidden
row_past [] w = λ i. record {
  name = w.name;
  scopes = w.scopes;
  frame = append-nil w.frame i;
  next = add-zero w.next i;
  bodies = append-nil w.bodies i;
}
row_past (s ∷ body) w =
    let rest = hidden-the_row-TStmt-0 body in
    let scopes = after s w.scopes in
    (λ i. record {
      name = w.name;
      scopes = after_all rest scopes;
      frame = sym (append_assoc w.frame (framed s w.scopes) (framed_all rest scopes)) i;
      next = sym (add_assoc w.next (bodies_of s) (bodies_of_all rest)) i;
      bodies =
          sym
          (append_assoc w.bodies (outlines w.name s w.scopes w.frame w.next)
          (outlines_all w.name rest scopes (w.frame ++ framed s w.scopes) (w.next + bodies_of s)))
          i;
    })
    ∙ row_past body (past s w)

pub made_block : (body : List TStmt) (w : Walked) → made (code.Block body) w ≡ program.Block (made_list body (within w))
unfolding made made_list within
made_block body w = ap program.Block (row_made body (within w))

pub past_block : (body : List TStmt) (w : Walked) → past (code.Block body) w ≡ without (past_list body (within w))
unfolding past past_list within without behind_row
past_block body w = ap without (row_past body (within w))

pub made_next : (s : TStmt) (rest : List TStmt) (w : Walked) → made_list (s ∷ rest) w ≡ made s w ∷ made_list rest (past s w)
unfolding made_list
made_next s rest w = refl

pub past_next : (s : TStmt) (rest : List TStmt) (w : Walked) → past_list (s ∷ rest) w ≡ past_list rest (past s w)
unfolding past_list
past_next s rest w = refl

pub made_none : (w : Walked) → made_list [] w ≡ []
unfolding made_list
made_none w = refl

pub past_none : (w : Walked) → past_list [] w ≡ w
unfolding past_list
past_none w = refl

-- ---- parts that may be missing

pub part_made : (part : Option TStmt) (w : Walked) → statement_part (part_of part) w.scopes w.frame w.next ≡ made_part part w
unfolding made made_part
part_made None w = refl
part_made (Some s) w = refl

unfoldable pub behind_part : Held-TStmt-If-2 → Walked → Walked
behind_part part w = record {
  name = w.name;
  scopes = after_part part w.scopes;
  frame = w.frame ++ framed_part part w.scopes;
  next = w.next + bodies_of_part part;
  bodies = w.bodies ++ outlines_part w.name part w.scopes w.frame w.next;
}

pub part_past : (part : Option TStmt) (w : Walked) → behind_part (part_of part) w ≡ past_part part w
unfolding behind_part past past_part
part_past None w = λ i. record {
  name = w.name;
  scopes = w.scopes;
  frame = append-nil w.frame i;
  next = add-zero w.next i;
  bodies = append-nil w.bodies i;
}
part_past (Some s) w = refl

pub made_if : (test : TExpr) (yes_ : TStmt) (no_ : Option TStmt) (w : Walked) →
    made (code.If test yes_ no_) w ≡ program.If (word_at w test) (made yes_ w) (made_part no_ (past yes_ w))
unfolding made past word_at
made_if test yes_ no_ w =
    ap (λ s. made s w) (if_form test yes_ no_) ∙ ap (program.If (word_at w test) (made yes_ w)) (part_made no_ (past yes_ w))

-- one statement behind another
two_past : (w : Walked) (s : TStmt) (part : Held-TStmt-If-2) →
    let t = past s w in
    let all : Walked = record {
      name = w.name;
      scopes = after_part part t.scopes;
      frame = w.frame ++ (framed s w.scopes ++ framed_part part t.scopes);
      next = w.next + (bodies_of s + bodies_of_part part);
      bodies = w.bodies ++ (outlines w.name s w.scopes w.frame w.next ++ outlines_part w.name part t.scopes t.frame t.next);
    } in
    all ≡ behind_part part t
unfolding past behind_part
two_past w s part =
    let t = past s w in
    λ i. record {
      name = w.name;
      scopes = after_part part t.scopes;
      frame = sym (append_assoc w.frame (framed s w.scopes) (framed_part part t.scopes)) i;
      next = sym (add_assoc w.next (bodies_of s) (bodies_of_part part)) i;
      bodies =
          sym
          (append_assoc w.bodies (outlines w.name s w.scopes w.frame w.next) (outlines_part w.name part t.scopes t.frame t.next)) i;
    }

pub past_if : (test : TExpr) (yes_ : TStmt) (no_ : Option TStmt) (w : Walked) → past (code.If test yes_ no_) w ≡ past_part no_ (past yes_ w)
unfolding past
past_if test yes_ no_ w = ap (λ s. past s w) (if_form test yes_ no_) ∙ two_past w yes_ (part_of no_) ∙ part_past no_ (past yes_ w)

pub made_while : (test : TExpr) (body : TStmt) (w : Walked) →
    made (code.While test body) w ≡ program.Loop (word_at w test) program.Nothing (made body w)
unfolding made word_at
made_while test body w = ap (λ s. made s w) (while_form test body)

pub past_while : (test : TExpr) (body : TStmt) (w : Walked) → past (code.While test body) w ≡ past body w
unfolding past
past_while test body w = ap (λ s. past s w) (while_form test body)

pub no_part_made : (w : Walked) → made_part None w ≡ program.Nothing
unfolding made_part
no_part_made w = refl

pub some_part_made : (s : TStmt) (w : Walked) → made_part (Some s) w ≡ made s w
unfolding made_part
some_part_made s w = refl

pub no_part_past : (w : Walked) → past_part None w ≡ w
unfolding past_part
no_part_past w = refl

pub some_part_past : (s : TStmt) (w : Walked) → past_part (Some s) w ≡ past s w
unfolding past_part
some_part_past s w = refl

pub ruleset part_forms = (no_part_made, some_part_made, no_part_past, some_part_past)

pub ruleset making_control = (made_block, past_block, made_if, past_if, made_while, past_while)

-- ---- statements one after the other

pub made_step :
    (body : List TStmt) (i j : ℕ) (s : TStmt) (one : Stmt) (before now : Walked) (done new all : List Stmt) → j ≡ suc i → slice_get body i ≡ Some s →
    one ≡ made s before → now ≡ past s before → new ≡ done ++ one ∷ [] → done ++ made_list (drop i body) before ≡ all →
    new ++ made_list (drop j body) now ≡ all
made_step body i j s one before now done new all next item is_one is_now is_new h =
    let rest = drop (suc i) body in
    ap (λ n. new ++ made_list (drop n body) now) next ∙ ap (λ w. new ++ made_list rest w) is_now
    ∙ ap (λ l. l ++ made_list rest (past s before)) (is_new ∙ ap (λ o. done ++ o ∷ []) is_one)
    ∙ append_assoc done (made s before ∷ []) (made_list rest (past s before))
    ∙ ap (λ l. done ++ l) (sym (ap (λ r. made_list r before) (drop_item body i s item) ∙ made_next s rest before)) ∙ h

pub past_step : (body : List TStmt) (i j : ℕ) (s : TStmt) (before now all : Walked) → j ≡ suc i → slice_get body i ≡ Some s → now ≡ past s before →
    past_list (drop i body) before ≡ all → past_list (drop j body) now ≡ all
past_step body i j s before now all next item is_now h =
    ap (λ n. past_list (drop n body) now) next ∙ ap (past_list (drop (suc i) body)) is_now
    ∙ sym (ap (λ r. past_list r before) (drop_item body i s item) ∙ past_next s (drop (suc i) body) before) ∙ h

pub made_over : (rest : List TStmt) (w : Walked) (done all : List Stmt) → rest ≡ [] → done ++ made_list rest w ≡ all → done ≡ all
made_over rest w done all none h =
    sym (ap (λ r. done ++ made_list r w) none ∙ ap (λ l. done ++ l) (made_none w) ∙ append-nil done) ∙ h

pub past_over : (rest : List TStmt) (w all : Walked) → rest ≡ [] → past_list rest w ≡ all → w ≡ all
past_over rest w all none h = sym (ap (λ r. past_list r w) none ∙ past_none w) ∙ h
