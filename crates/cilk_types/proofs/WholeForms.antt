-- The outermost block of a function, and the function.
use Rattle.std.proofs.Common.{◌≡◌, ◌∙◌, ap, sym, subst, ℕ, ◌+◌, List, ◌++◌, length, refl}
use Rattle.cilk_ast.specs.declared.program.Function.{Function}
use Rattle.cilk_ast.specs.declared.program.Stmt as program
use Rattle.cilk_ast.specs.declared.program.Stmt.{Stmt}
use Rattle.cilk_ast.specs.declared.tree.Param.{Param}
use Rattle.cilk_ast.specs.declared.tree.TStmt as code
use Rattle.cilk_ast.specs.declared.tree.TStmt.{TStmt, Empty, Block', Local, Eval, Assign, AddTo, Up, Down, Spawn, Break, Continue, Return, Sync}
use Rattle.cilk_ast.specs.declared.tree.TStmt.TheViews.{roll-TStmt, roll-out-TStmt, outs-Block', rolls-Block}
use Rattle.cilk_ast.specs.TreeStatement.{If, While, For, CilkFor}
use Rattle.cilk_model.specs.Scopes.{Names}
use Rattle.cilk_model.specs.Lowering.{lowered, body_framed, body_outlines}
use Rattle.cilk_model.specs.StatementLowering.{bodies_of, function_of}
use Rattle.cilk_types.specs.Functions.{head_of}
use Rattle.cilk_types.specs.Making.{Walked, made, past, made_list, past_list, whole_made, IsPast, function_at}
use Rattle.cilk_types.proofs.MakingForms.{behind_row, row_made, row_past}

-- ---- a block

pub block_made : (body : TStmt) (list again : List TStmt) (w : Walked) (ss : List Stmt) (s : Stmt) → body ≡ code.Block list → again ≡ list →
    ss ≡ made_list again w → s ≡ program.Block ss → s ≡ whole_made body w
unfolding whole_made made_list
block_made body list again w ss s is same is_ss is_s =
    is_s ∙ ap program.Block (is_ss ∙ ap (λ l. made_list l w) same ∙ sym (row_made list w)) ∙ sym (ap (λ b. whole_made b w) is)

block_is : (list : List TStmt) (w : Walked) → IsPast (code.Block list) w (behind_row list w)
unfolding behind_row
block_is list w = record { name = refl; frame = refl; next = refl; bodies = refl }

pub block_past : (body : TStmt) (list again : List TStmt) (w now : Walked) → body ≡ code.Block list → again ≡ list → now ≡ past_list again w →
    IsPast body w now
unfolding past_list
block_past body list again w now is same is_now =
    let row = row_past list w ∙ sym (is_now ∙ ap (λ l. past_list l w) same) in
    subst (λ b. IsPast b w now) (sym is) (subst (IsPast (code.Block list) w) row (block_is list w))

-- ---- any other statement

pub other_made : (body : TStmt) (w : Walked) → ((list : List TStmt) → body ≡ code.Block list → ⊥) → made body w ≡ whole_made body w
unfolding made whole_made
other_made (Block' n row) w h = absurd (h _ (sym (roll-out-TStmt (Block' n row)) ∙ ap roll-TStmt (outs-Block' n row) ∙ rolls-Block _))
other_made Empty w h = refl
other_made (Local a k n v) w h = refl
other_made (Eval e) w h = refl
other_made (Assign a l v) w h = refl
other_made (AddTo a l v) w h = refl
other_made (Up l) w h = refl
other_made (Down l) w h = refl
other_made (Spawn s) w h = refl
other_made (If t y n) w h = refl
other_made (While t b) w h = refl
other_made (For i t s b) w h = refl
other_made (CilkFor a n l s h' t b) w h = refl
other_made (Break a) w h = refl
other_made (Continue a) w h = refl
other_made (Return a v) w h = refl
other_made Sync w h = refl

pub other_past : (body : TStmt) (w : Walked) → ((list : List TStmt) → body ≡ code.Block list → ⊥) → IsPast body w (past body w)
unfolding past
other_past (Block' n row) w h = absurd (h _ (sym (roll-out-TStmt (Block' n row)) ∙ ap roll-TStmt (outs-Block' n row) ∙ rolls-Block _))
other_past Empty w h = record { name = refl; frame = refl; next = refl; bodies = refl }
other_past (Local a k n v) w h = record { name = refl; frame = refl; next = refl; bodies = refl }
other_past (Eval e) w h = record { name = refl; frame = refl; next = refl; bodies = refl }
other_past (Assign a l v) w h = record { name = refl; frame = refl; next = refl; bodies = refl }
other_past (AddTo a l v) w h = record { name = refl; frame = refl; next = refl; bodies = refl }
other_past (Up l) w h = record { name = refl; frame = refl; next = refl; bodies = refl }
other_past (Down l) w h = record { name = refl; frame = refl; next = refl; bodies = refl }
other_past (Spawn s) w h = record { name = refl; frame = refl; next = refl; bodies = refl }
other_past (If t y n) w h = record { name = refl; frame = refl; next = refl; bodies = refl }
other_past (While t b) w h = record { name = refl; frame = refl; next = refl; bodies = refl }
other_past (For i t s b) w h = record { name = refl; frame = refl; next = refl; bodies = refl }
other_past (CilkFor a n l s h' t b) w h = record { name = refl; frame = refl; next = refl; bodies = refl }
other_past (Break a) w h = record { name = refl; frame = refl; next = refl; bodies = refl }
other_past (Continue a) w h = record { name = refl; frame = refl; next = refl; bodies = refl }
other_past (Return a v) w h = record { name = refl; frame = refl; next = refl; bodies = refl }
other_past Sync w h = record { name = refl; frame = refl; next = refl; bodies = refl }

-- ---- functions

module _ (file : Names) (name : List ℕ) (params : List Param) (body : TStmt) (next : ℕ) (bodies : List Function) (w now : Walked)
    (begun : w ≡ head_of file name params bodies next) (over : IsPast body w now) where
  pub function_is : (s : Stmt) (count : ℕ) (f : Function) → s ≡ whole_made body w → count ≡ length params → f ≡ function_at now count s →
      f ≡ (lowered file name params body next).function
  unfolding head_of whole_made function_at
  function_is s count f is_s is_count is_f =
      let named = over.name ∙ ap (λ (x : Walked). x.name) begun in
      let framed = over.frame ∙ ap (λ (x : Walked). x.frame ++ body_framed body x.scopes) begun in
      let made_so = is_s ∙ ap (λ (x : Walked). whole_made body x) begun in
      is_f ∙ (λ i. function_of (named i) (is_count i) (length (framed i)) (made_so i))

  pub bodies_are : now.bodies ≡ bodies ++ (lowered file name params body next).bodies
  unfolding head_of
  bodies_are = over.bodies ∙ ap (λ (x : Walked). x.bodies ++ body_outlines x.name body x.scopes x.frame x.next) begun

  pub next_is : now.next ≡ next + bodies_of body
  unfolding head_of
  next_is = over.next ∙ ap (λ (x : Walked). x.next + bodies_of body) begun
