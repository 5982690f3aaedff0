-- The readers of statements, one by one: each reads what the grammar spells, if its parts do.
use Rattle.std.proofs.Common.{Bool, true, false, [], ◌∷◌, ◌++◌, None, sym, subst, append-nil}
use Rattle.word_ops.specs.declared.place.Pos.{Pos}
use Rattle.cilk_ast.specs.declared.tree.TExpr.{TExpr}
use Rattle.cilk_ast.specs.declared.tree.TStmt as stmt
use Rattle.cilk_ast.specs.declared.tree.TStmt.{TStmt}
use Rattle.cilk_model.specs.Signs.{mark, word}
use Rattle.cilk_model.specs.Tests.{is_mark}
use Rattle.cilk_model.specs.OpenEnds.{ends_open}
use Rattle.cilk_model.specs.GrammarForms.{Form, star, perhaps, args, origin, spawn, value, initial, local, more_locals, simple, change, init, step, up, statement, block, body, unary, shift, expr}
use Rattle.cilk_model.specs.Grammar.{Row, Spells, child, plain, spawned, no_initial, an_initial, declarator, last_local, next_local, changed, up_before, down_before, unchanged, assigned, added, up_behind, down_behind, nested, nothing, effect, lone_spawn, if_alone, if_else, while_loop, for_loop, cilk_for_loop, broken, continued, returned, synced, braces, no_more, locals, next_statement, no_init, init_simple, init_local, no_step, a_step, name_first, name_last}
use Rattle.cilk_parser.specs.Kinds.{is_spawn}
use Rattle.cilk_parser.specs.Reading.{Readers, body_of, read_else, read_if, read_while, read_for, read_cilk_for, read_effect, read_leave}
use Rattle.cilk_parser.proofs.Local.{Local, local_weaker, local_gives, local_map, local_bind, local_when, local_cond}
use Rattle.cilk_parser.proofs.Taking.{local_choose, local_then, local_last, local_only}
use Rattle.cilk_parser.proofs.Tokens.{tells_mark, tells_word, tells_name, take_mark, take_word, take_name}

module _ (p : Readers) (l : (n : Form) → Local (p n) (Spells n)) where
  pub local_spawn : Local (body_of p spawn) (Spells spawn)
  unfolding body_of
  local_spawn =
      local_bind (l origin) (λ from a h. local_then take_name (λ f _. local_then (take_mark "(") (λ bracket _.
      local_bind (l args) (λ xs b g. local_last _ (take_mark ")") (λ close _. child (f.0) bracket close h g)))))

  pub local_value : (may : Bool) → Local (body_of p (value may)) (Spells (value may))
  unfolding body_of
  local_value true = local_when is_spawn (local_map _ (l spawn) (λ s a h. spawned h)) (local_map _ (l expr) (λ x a h. plain h))
  local_value false = local_map _ (l expr) (λ x a h. plain h)

  pub local_initial : Local (body_of p initial) (Spells initial)
  unfolding body_of
  local_initial = local_choose (tells_mark "=") (λ _ _. local_map _ (l (value true)) (λ v a h. an_initial h)) (local_gives None no_initial)

  pub local_local : Local (body_of p local) (Spells local)
  unfolding body_of
  local_local = local_bind (l star) (λ k a h. local_then take_name (λ x _. local_map _ (l initial) (λ v b g. declarator (x.0) h g)))

  pub local_more_locals : Local (body_of p more_locals) (Spells more_locals)
  unfolding body_of
  local_more_locals =
      local_choose (tells_mark ",") (λ _ _. local_bind (l local) (λ s a h. local_map _ (l more_locals) (λ ss b g. next_local h g)))
      (local_last _ (take_mark ";") (λ _ _. last_local))

  pub local_simple : (may : Bool) → Local (body_of p (simple may)) (Spells (simple may))
  unfolding body_of
  local_simple may =
      local_choose (tells_mark "++") (λ _ _. local_map _ (l unary) (λ x a h. up_before h))
      (local_choose (tells_mark "--") (λ _ _. local_map _ (l unary) (λ x a h. down_before h))
      (local_bind (l expr) (λ x a h. local_weaker (l (change may x)) (λ s b g. changed h g))))

  pub local_change : (may : Bool) (x : TExpr) → Local (body_of p (change may x)) (Spells (change may x))
  unfolding body_of
  local_change may x =
      local_choose (tells_mark "=") (λ _ _. local_map _ (l (value may)) (λ v a h. assigned h))
      (local_choose (tells_mark "+=") (λ _ _. local_map _ (l expr) (λ y a h. added h))
      (local_choose (tells_mark "++") (λ _ _. local_gives _ up_behind)
      (local_choose (tells_mark "--") (λ _ _. local_gives _ down_behind) (local_gives _ unchanged))))

  -- ---- Statements

  local_else : (at bracket close : Pos) (x : TExpr) (s : TStmt) (a b : Row) → Spells expr x a → Spells statement s b →
      Local (read_else p x s) (λ r c. Spells statement r (word "if" at ∷ mark "(" bracket ∷ (a ++ (mark ")" close ∷ (b ++ c)))))
  local_else at bracket close x s a b h g =
      let alone : Spells statement (stmt.If x s None) (word "if" at ∷ mark "(" bracket ∷ (a ++ (mark ")" close ∷ (b ++ [])))) =
      subst (λ z. Spells statement (stmt.If x s None) (word "if" at ∷ mark "(" bracket ∷ (a ++ (mark ")" close ∷ z)))) (sym (append-nil b)) (if_alone close h g) in
      local_cond (ends_open s) (λ _. local_gives _ alone)
      (λ e. local_choose (tells_word "else") (λ at_else _. local_map _ (l statement) (λ r c k. if_else close at_else h g e k)) (local_gives _ alone))

  local_if : (at : Pos) → Local (read_if p) (λ r a. Spells statement r (word "if" at ∷ a))
  local_if at =
      local_then (take_mark "(") (λ bracket _. local_bind (l expr) (λ x a h. local_then (take_mark ")") (λ close _.
      local_bind (l statement) (λ s b g. local_else at bracket close x s a b h g))))

  local_while : (at : Pos) → Local (read_while p) (λ r a. Spells statement r (word "while" at ∷ a))
  local_while at =
      local_then (take_mark "(") (λ _ _. local_bind (l expr) (λ x a h. local_then (take_mark ")") (λ close _.
      local_map _ (l statement) (λ s b g. while_loop close h g))))

  local_for : (at : Pos) → Local (read_for p) (λ r a. Spells statement r (word "for" at ∷ a))
  local_for at =
      local_then (take_mark "(") (λ _ _. local_bind (l init) (λ i a h. local_then (take_mark ";") (λ end_init _.
      local_bind (l perhaps) (λ t b g. local_then (take_mark ";") (λ end_test _. local_bind (l step) (λ n c k. local_then (take_mark ")") (λ close _.
      local_map _ (l statement) (λ s d m. for_loop end_init end_test close h g k m))))))))

  local_cilk_for : (at : Pos) → Local (read_cilk_for p) (λ r a. Spells statement r (word "cilk_for" at ∷ a))
  local_cilk_for at =
      local_then (take_mark "(") (λ _ _. local_then (take_word "long") (λ _ _. local_then take_name (λ i _. local_then (take_mark "=") (λ _ _.
      local_bind (l expr) (λ x a h. local_then (take_mark ";") (λ end_low _. local_then take_name (λ j _. local_then (take_mark "<") (λ less _.
      local_bind (l shift) (λ y b g. local_then (take_mark ";") (λ end_high _. local_bind (l up) (λ n c k. local_then (take_mark ")") (λ close _.
      local_map _ (l statement) (λ s d m. cilk_for_loop end_low (j.0) less end_high close h g k m)))))))))))))

  local_effect : Local (read_effect p) (Spells statement)
  local_effect =
      local_when is_spawn (local_bind (l spawn) (λ s a h. local_last _ (take_mark ";") (λ end _. lone_spawn end h)))
      (local_bind (l (simple true)) (λ s a h. local_last _ (take_mark ";") (λ end _. effect end h)))

  local_leave : Local (read_leave p) (Spells statement)
  local_leave =
      local_choose (tells_word "break") (λ _ _. local_last _ (take_mark ";") (λ _ _. broken))
      (local_choose (tells_word "continue") (λ _ _. local_last _ (take_mark ";") (λ _ _. continued))
      (local_choose (tells_word "return") (λ _ _. local_bind (l perhaps) (λ v a h. local_last _ (take_mark ";") (λ end _. returned end h)))
      (local_choose (tells_word "cilk_sync") (λ _ _. local_last _ (take_mark ";") (λ _ _. synced)) local_effect)))

  pub local_statement : Local (body_of p statement) (Spells statement)
  unfolding body_of
  local_statement =
      local_when (is_mark "{") (local_weaker (l block) (λ s a h. nested h))
      (local_choose (tells_mark ";") (λ _ _. local_gives _ nothing)
      (local_choose (tells_word "if") (λ at _. local_if at)
      (local_choose (tells_word "while") (λ at _. local_while at)
      (local_choose (tells_word "for") (λ at _. local_for at)
      (local_choose (tells_word "cilk_for") (λ at _. local_cilk_for at) local_leave)))))

  pub local_block : Local (body_of p block) (Spells block)
  unfolding body_of
  local_block = local_then (take_mark "{") (λ _ _. local_bind (l body) (λ ss a h. local_last _ (take_mark "}") (λ close _. braces close h)))

  pub local_body : Local (body_of p body) (Spells body)
  unfolding body_of
  local_body =
      local_when (is_mark "}") (local_gives [] no_more)
      (local_choose (tells_word "long")
      (λ _ _. local_bind (l local) (λ s a h. local_bind (l more_locals) (λ ss b g. local_map _ (l body) (λ rest c k. locals h g k))))
      (local_bind (l statement) (λ s a h. local_map _ (l body) (λ ss b g. next_statement h g))))

  -- ---- The heads of loops

  pub local_init_part : Local (body_of p init) (Spells init)
  unfolding body_of
  local_init_part =
      local_when (is_mark ";") (local_gives None no_init)
      (local_choose (tells_word "long")
      (λ _ _. local_bind (l star) (λ k a h. local_then take_name (λ i _. local_then (take_mark "=") (λ equal _. local_map _ (l expr) (λ x b g. init_local (i.0) equal h g)))))
      (local_map _ (l (simple false)) (λ s a h. init_simple h)))

  pub local_step : Local (body_of p step) (Spells step)
  unfolding body_of
  local_step = local_when (is_mark ")") (local_gives None no_step) (local_map _ (l (simple false)) (λ s a h. a_step h))

  pub local_up : Local (body_of p up) (Spells up)
  unfolding body_of
  local_up =
      local_choose tells_name (λ i _. local_last _ (take_mark "++") (λ _ _. name_first))
      (local_then (take_mark "++") (λ _ _. local_only take_name (λ i _. name_last)))
