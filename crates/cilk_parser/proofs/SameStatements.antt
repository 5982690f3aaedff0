-- The readers of statements agree, if their parts do.
use Rattle.std.proofs.Common.{ℕ, suc, ◌+◌, ◌*◌, ◌≤◌, Bool, true, false, [], ◌∷◌, ◌++◌, length, Some, None, arith}
use Rattle.cilk_ast.specs.declared.tree.TExpr.{TExpr}
use Rattle.cilk_ast.specs.declared.tree.TStmt as stmt
use Rattle.cilk_ast.specs.declared.tree.TStmt.{TStmt}
use Rattle.cilk_ast.specs.declared.tree.TSpawn.{TSpawn}
use Rattle.cilk_ast.specs.declared.tree.TValue.TheVariants.{Plain, Spawned}
use Rattle.cilk_model.specs.Tests.{is_mark}
use Rattle.cilk_model.specs.OpenEnds.{ends_open}
use Rattle.cilk_model.specs.Grammar.{Row}
use Rattle.cilk_model.specs.GrammarForms.{star, perhaps, args, origin, spawn, value, initial, local, more_locals, simple, change, init, step, up, statement, block, body, unary, shift, expr}
use Rattle.cilk_parser.specs.Parsers.{gives}
use Rattle.cilk_parser.specs.Kinds.{a_mark, a_word, a_name, is_spawn}
use Rattle.cilk_parser.specs.Reading.{Readers, body_of, closed, read_else, read_if, read_while, read_for, read_cilk_for, read_effect, read_leave, read_no_block}
use Rattle.cilk_parser.specs.Read.{cost}
use Rattle.cilk_parser.proofs.Same.{Agree, Same, same_itself, both, choosing, taking, part, parsing, mapping, parsing_statement, same_cond}

module _ {P Q : Readers} {f : ℕ} (a : Agree P Q f) where
  pub same_spawn : (ts : Row) → cost spawn ts ≤ suc f → Same (body_of P spawn) (body_of Q spawn) ts
  unfolding body_of
  same_spawn ts h =
      parsing a origin _ _ ts (omega arith) (λ from r d. taking a_name _ _ r (λ x s e. taking (a_mark "(") _ _ s (λ _ u g. parsing a args _ _ u (omega arith)
      (λ xs v k. let t : TSpawn = record { pos = from.0; hint = from.1; name_pos = x.0; name = x.1; args = xs } in same_itself (closed ")" t) v))))

  pub same_value : (may : Bool) (ts : Row) → cost (value may) ts ≤ suc f → Same (body_of P (value may)) (body_of Q (value may)) ts
  unfolding body_of
  same_value true ts h = both is_spawn _ _ _ _ ts (mapping a spawn (λ s. Spawned s) ts (omega arith)) (mapping a expr (λ x. Plain x) ts (omega arith))
  same_value false ts h = mapping a expr (λ x. Plain x) ts (omega arith)

  pub same_initial : (ts : Row) → cost initial ts ≤ suc f → Same (body_of P initial) (body_of Q initial) ts
  unfolding body_of
  same_initial ts h = choosing (a_mark "=") _ _ _ _ ts (λ _ r e. mapping a (value true) (λ v. Some v) r (omega arith)) (same_itself (gives None) ts)

  pub same_local : (ts : Row) → cost local ts ≤ suc f → Same (body_of P local) (body_of Q local) ts
  unfolding body_of
  same_local ts h =
      parsing a star _ _ ts (omega arith) (λ k r d. taking a_name _ _ r (λ x s e. mapping a initial (λ v. stmt.Local (x.0) k (x.1) v) s (omega arith)))

  pub same_more_locals : (ts : Row) → cost more_locals ts ≤ suc f → Same (body_of P more_locals) (body_of Q more_locals) ts
  unfolding body_of
  same_more_locals ts h =
      choosing (a_mark ",") _ _ _ _ ts (λ _ r e. parsing a local _ _ r (omega arith) (λ s u d. mapping a more_locals (λ ss. s ∷ ss) u (omega arith)))
      (same_itself (closed ";" []) ts)

  pub same_simple : (may : Bool) (ts : Row) → cost (simple may) ts ≤ suc f → Same (body_of P (simple may)) (body_of Q (simple may)) ts
  unfolding body_of
  same_simple may ts h =
      choosing (a_mark "++") _ _ _ _ ts (λ _ r e. mapping a unary (λ x. stmt.Up x) r (omega arith))
      (choosing (a_mark "--") _ _ _ _ ts (λ _ r e. mapping a unary (λ x. stmt.Down x) r (omega arith))
      (parsing a expr _ _ ts (omega arith) (λ x r d. part a (change may x) r (omega arith))))

  pub same_change : (may : Bool) (x : TExpr) (ts : Row) → cost (change may x) ts ≤ suc f → Same (body_of P (change may x)) (body_of Q (change may x)) ts
  unfolding body_of
  same_change may x ts h =
      choosing (a_mark "=") _ _ _ _ ts (λ at r e. mapping a (value may) (λ v. stmt.Assign at x v) r (omega arith))
      (choosing (a_mark "+=") _ _ _ _ ts (λ at r e. mapping a expr (λ y. stmt.AddTo at x y) r (omega arith))
      (choosing (a_mark "++") _ _ _ _ ts (λ _ r e. same_itself (gives (stmt.Up x)) r)
      (choosing (a_mark "--") _ _ _ _ ts (λ _ r e. same_itself (gives (stmt.Down x)) r) (same_itself (gives (stmt.Eval x)) ts))))

  -- ---- Statements

  same_else : (x : TExpr) (s : TStmt) (ts : Row) → 17 * length ts ≤ f → Same (read_else P x s) (read_else Q x s) ts
  same_else x s ts h =
      same_cond (ends_open s) _ _ _ _ ts (same_itself (gives (stmt.If x s None)) ts)
      (choosing (a_word "else") _ _ _ _ ts (λ _ r e. mapping a statement (λ r. stmt.If x s (Some r)) r (omega arith)) (same_itself (gives (stmt.If x s None)) ts))

  same_if : (ts : Row) → 17 * length ts + 17 ≤ f → Same (read_if P) (read_if Q) ts
  same_if ts h =
      taking (a_mark "(") _ _ ts (λ _ r e. parsing a expr _ _ r (omega arith) (λ x s d. taking (a_mark ")") _ _ s (λ _ u g.
      parsing a statement (read_else P x) (read_else Q x) u (omega arith) (λ y v k. same_else x y v (omega arith)))))

  same_while : (ts : Row) → 17 * length ts + 17 ≤ f → Same (read_while P) (read_while Q) ts
  same_while ts h =
      taking (a_mark "(") _ _ ts (λ _ r e. parsing a expr _ _ r (omega arith) (λ x s d. taking (a_mark ")") _ _ s (λ _ u g.
      mapping a statement (λ y. stmt.While x y) u (omega arith))))

  same_for : (ts : Row) → 17 * length ts + 17 ≤ f → Same (read_for P) (read_for Q) ts
  same_for ts h =
      taking (a_mark "(") _ _ ts (λ _ r e. parsing a init _ _ r (omega arith) (λ i s d. taking (a_mark ";") _ _ s (λ _ u g.
      parsing a perhaps _ _ u (omega arith) (λ t v k. taking (a_mark ";") _ _ v (λ _ w m. parsing a step _ _ w (omega arith) (λ n x o.
      taking (a_mark ")") _ _ x (λ _ y q. mapping a statement (λ s. stmt.For i t n s) y (omega arith))))))))

  same_cilk_for : (ts : Row) → 17 * length ts + 17 ≤ f → Same (read_cilk_for P) (read_cilk_for Q) ts
  same_cilk_for ts h =
      taking (a_mark "(") _ _ ts (λ _ r1 e1. taking (a_word "long") _ _ r1 (λ _ r2 e2. taking a_name _ _ r2 (λ i r3 e3. taking (a_mark "=") _ _ r3 (λ _ r4 e4.
      parsing a expr _ _ r4 (omega arith) (λ l r5 e5. taking (a_mark ";") _ _ r5 (λ _ r6 e6. taking a_name _ _ r6 (λ j r7 e7. taking (a_mark "<") _ _ r7 (λ _ r8 e8.
      parsing a shift _ _ r8 (omega arith) (λ top r9 e9. taking (a_mark ";") _ _ r9 (λ _ r10 e10. parsing a up _ _ r10 (omega arith) (λ n r11 e11.
      taking (a_mark ")") _ _ r11 (λ _ r12 e12. mapping a statement (λ s. stmt.CilkFor (i.0) (i.1) l j top n s) r12 (omega arith)))))))))))))

  same_effect : (ts : Row) → 17 * length ts + 15 ≤ f → Same (read_effect P) (read_effect Q) ts
  same_effect ts h =
      both is_spawn _ _ _ _ ts (parsing a spawn _ _ ts (omega arith) (λ s r d. same_itself (closed ";" (stmt.Spawn s)) r))
      (parsing a (simple true) _ _ ts (omega arith) (λ s r d. same_itself (closed ";" s) r))

  same_leave : (ts : Row) → 17 * length ts + 15 ≤ f → Same (read_leave P) (read_leave Q) ts
  same_leave ts h =
      choosing (a_word "break") _ _ _ _ ts (λ at r e. same_itself (closed ";" (stmt.Break at)) r)
      (choosing (a_word "continue") _ _ _ _ ts (λ at r e. same_itself (closed ";" (stmt.Continue at)) r)
      (choosing (a_word "return") _ _ _ _ ts (λ at r e. parsing a perhaps _ _ r (omega arith) (λ v s d. same_itself (closed ";" (stmt.Return at v)) s))
      (choosing (a_word "cilk_sync") _ _ _ _ ts (λ _ r e. same_itself (closed ";" stmt.Sync) r) (same_effect ts h))))

  pub same_statement : (ts : Row) → cost statement ts ≤ suc f → Same (body_of P statement) (body_of Q statement) ts
  unfolding body_of
  same_statement ts h =
      both (is_mark "{") _ _ (read_no_block P) (read_no_block Q) ts (part a block ts (omega arith))
      (choosing (a_mark ";") _ _ _ _ ts (λ _ r e. same_itself (gives stmt.Empty) r)
      (choosing (a_word "if") (λ _. read_if P) (λ _. read_if Q) _ _ ts (λ _ r e. same_if r (omega arith))
      (choosing (a_word "while") (λ _. read_while P) (λ _. read_while Q) _ _ ts (λ _ r e. same_while r (omega arith))
      (choosing (a_word "for") (λ _. read_for P) (λ _. read_for Q) _ _ ts (λ _ r e. same_for r (omega arith))
      (choosing (a_word "cilk_for") (λ _. read_cilk_for P) (λ _. read_cilk_for Q) (read_leave P) (read_leave Q) ts (λ _ r e. same_cilk_for r (omega arith)) (same_leave ts (omega arith)))))))

  pub same_block : (ts : Row) → cost block ts ≤ suc f → Same (body_of P block) (body_of Q block) ts
  unfolding body_of
  same_block ts h = taking (a_mark "{") _ _ ts (λ _ r e. parsing a body _ _ r (omega arith) (λ ss s d. same_itself (closed "}" (stmt.Block ss)) s))

  pub same_body : (ts : Row) → cost body ts ≤ suc f → Same (body_of P body) (body_of Q body) ts
  unfolding body_of
  same_body ts h =
      both (is_mark "}") _ _ _ _ ts (same_itself (gives []) ts)
      (choosing (a_word "long") _ _ _ _ ts
      (λ _ r e. parsing a local _ _ r (omega arith) (λ s u d. parsing a more_locals _ _ u (omega arith) (λ ss v g. mapping a body (λ rest. s ∷ (ss ++ rest)) v (omega arith))))
      (parsing_statement a _ _ ts (omega arith) (λ s r d. mapping a body (λ ss. s ∷ ss) r (omega arith))))

  -- ---- The heads of loops

  pub same_init_part : (ts : Row) → cost init ts ≤ suc f → Same (body_of P init) (body_of Q init) ts
  unfolding body_of
  same_init_part ts h =
      both (is_mark ";") _ _ _ _ ts (same_itself (gives None) ts)
      (choosing (a_word "long") _ _ _ _ ts
      (λ _ r e. parsing a star _ _ r (omega arith) (λ k s d. taking a_name _ _ s (λ i u g. taking (a_mark "=") _ _ u (λ _ v m.
      mapping a expr (λ x. Some (stmt.Local (i.0) k (i.1) (Some (Plain x)))) v (omega arith)))))
      (mapping a (simple false) (λ s. Some s) ts (omega arith)))

  pub same_step : (ts : Row) → cost step ts ≤ suc f → Same (body_of P step) (body_of Q step) ts
  unfolding body_of
  same_step ts h = both (is_mark ")") _ _ _ _ ts (same_itself (gives None) ts) (mapping a (simple false) (λ s. Some s) ts (omega arith))

  pub same_up : (ts : Row) → Same (body_of P up) (body_of Q up) ts
  unfolding body_of
  same_up ts = same_itself (body_of P up) ts
