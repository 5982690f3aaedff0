-- Two ways to go on that are related stay related behind every statement, and functions that can have enough
-- turns are related, however many more they can have.
use Rattle.std.proofs.Common.{◌≤◌, ◌<◌, ℕ, zero, suc, ◌==◌, List, [], ◌∷◌, ◌++◌, refl, ℤ, pos, Bool, Option, Some, None, arith, map, slice_set, slice_get, int_lt, le_refl}
use Rattle.std.specs.Int.{w64, int_wrapping_add}
use Rattle.word_ops.specs.declared.ending.TrapKind.TheVariants as kind
use Rattle.cilk_ast.specs.declared.program.Stmt.{Stmt, Nothing, Block', Eval, Set, Store, AddTo, Spawn, Each, Break, Continue, Return, Sync, Row_of-Stmt as Stmts, end_of-Stmt as no_stmts, more_of-Stmt as more_stmts}
use Rattle.cilk_ast.specs.Statement.{If, Loop}
use Rattle.cilk_ast.specs.declared.program.Function.{Function}
use Rattle.world_model.specs.Action as act
use Rattle.world_model.specs.Action.{Action}
use Rattle.world_model.specs.Meaning.{Acts, make}
use Rattle.world_model.specs.Activation.{Slots, Targets, max_depth, word_at, first_slots, joined}
use Rattle.cilk_model.specs.Value.{Calling, is_true, value}
use Rattle.cilk_model.specs.Statement.{Flow, syncs, returns, repeats, spawns_each, runs, runs_all}
use Rattle.cilk_model.specs.Acts.{Running, calls, body_of, run}
use Rattle.cilk_model.proofs.Related.{IsKept, Then, Calls, asked, chosen, value_related, values_of_related, hinted_related}

module _ (R : ℕ → Acts → Acts → Type 0) (kept : IsKept R) where
  abbrev pub Flows : ℕ → Flow → Flow → Type 0
  Flows n f g = (s : Slots) (t : Targets) → R n (f s t) (g s t)

  pub lower_flow : (m n : ℕ) (f g : Flow) → m ≤ n → Flows n f g → Flows m f g
  lower_flow m n f g le h s t = kept.lower m n (f s t) (g s t) le (h s t)

  pub syncs_related : (n d : ℕ) (f g : Flow) → Flows n f g → Flows n (syncs d f) (syncs d g)
  syncs_related n d f g h s t = asked R kept n _ _ _ refl (λ rs. h (joined s t rs) [])

  pub returns_related : (n d : ℕ) (spawns : Bool) (k l : ℤ → Acts) (x : ℤ) → R n (k x) (l x) → Flows n (returns d spawns k x) (returns d spawns l x)
  returns_related n d spawns k l x h s t = chosen R kept n spawns _ _ _ _ (syncs_related n d (λ _ _. k x) (λ _ _. l x) (λ _ _. h) s t) h

  -- flows keep the relation
  abbrev pub Keeps : ℕ → (Flow → Flow) → (Flow → Flow) → Type 0
  Keeps n f g = (m : ℕ) → m ≤ n → (next next' : Flow) → Flows m next next' → Flows m (f next) (g next')

  module _ (test test' : Slots → (ℤ → Acts) → Acts) (body body' step step' : Flow → Flow) (next next' : Flow) where
    pub repeats_related : (n a b : ℕ) → n < a → n < b →
        ((m : ℕ) → m ≤ n → (s : Slots) (k l : ℤ → Acts) → Then R kept m k l → R m (test s k) (test' s l)) →
        Keeps n body body' → Keeps n step step' → Flows n next next' →
        Flows n (repeats test body step next a) (repeats test' body' step' next' b)
    repeats_related n zero b la lb T B S N s t = absurd (omega arith)
    repeats_related n (suc a) zero la lb T B S N s t = absurd (omega arith)
    repeats_related zero (suc a) (suc b) la lb T B S N s t = kept.last _ _ _ refl
    repeats_related (suc n) (suc a) (suc b) la lb T B S N s t =
        let again : Flows n (repeats test body step next a) (repeats test' body' step' next' b) =
        repeats_related n a b (omega arith) (omega arith) (λ m le. T m (omega arith)) (λ m le. B m (omega arith)) (λ m le. S m (omega arith)) (lower_flow n (suc n) _ _ (omega arith) N) in
        kept.asks n _ _ _ refl (λ r. T n (omega arith) s _ _ (λ x.
        chosen R kept n (is_true x) _ _ _ _
        (B n (omega arith) _ _ (S n (omega arith) _ _ again) s t)
        (kept.lower n (suc n) _ _ (omega arith) (N s t))))

  module _ (d f : ℕ) (copies : List ℤ) (high : ℤ) (next next' : Targets → Acts) where
    pub spawns_related : (n a b : ℕ) → n < a → n < b → (i : ℤ) (t : Targets) → ((t : Targets) → R n (next t) (next' t)) →
        R n (spawns_each d f copies high next a i t) (spawns_each d f copies high next' b i t)
    spawns_related n zero b la lb i t N = absurd (omega arith)
    spawns_related n (suc a) zero la lb i t N = absurd (omega arith)
    spawns_related zero (suc a) (suc b) la lb i t N = kept.last _ _ _ refl
    spawns_related (suc n) (suc a) (suc b) la lb i t N =
        let N' : (t : Targets) → R n (next t) (next' t) = λ t. kept.lower n (suc n) _ _ (omega arith) (N t) in
        kept.asks n _ _ _ refl (λ r. chosen R kept n (int_lt i high) _ _ _ _
        (asked R kept n _ _ _ refl (λ q. spawns_related n a b (omega arith) (omega arith) (int_wrapping_add w64 i (pos 1)) (t ++ None ∷ []) N'))
        (N' t))

  module _ (call call' : Calling) (d : ℕ) (spawns : Bool) (a b : ℕ) (k l : ℤ → Acts) where
    mutual
      pub runs_related : (s : Stmt) (n : ℕ) → ((m : ℕ) → m ≤ n → Calls R kept m call call') → n < a → n < b → Then R kept n k l →
          (next next' broken broken' continued continued' : Flow) → Flows n next next' → Flows n broken broken' → Flows n continued continued' →
          Flows n (runs call d spawns a k s next broken continued) (runs call' d spawns b l s next' broken' continued')
      runs_related Nothing n c la lb D x x' y y' z z' N B C = N
      runs_related (Block' m body) n c la lb D x x' y y' z z' N B C = all_related body n c la lb D x x' y y' z z' N B C
      runs_related (Eval e) n c la lb D x x' y y' z z' N B C = λ s t. value_related R kept n call call' (c n (le_refl n)) e s _ _ (λ v. N s t)
      runs_related (Set i e) n c la lb D x x' y y' z z' N B C = λ s t. value_related R kept n call call' (c n (le_refl n)) e s _ _ (λ v. N (slice_set s i v) t)
      runs_related (Store at p e) n c la lb D x x' y y' z z' N B C = λ s t.
          value_related R kept n call call' (c n (le_refl n)) p s _ _ (λ v. value_related R kept n call call' (c n (le_refl n)) e s _ _ (λ w.
          asked R kept n _ _ _ refl (λ r. N s t)))
      runs_related (AddTo at p e) n c la lb D x x' y y' z z' N B C = λ s t.
          value_related R kept n call call' (c n (le_refl n)) p s _ _ (λ v. asked R kept n _ _ _ refl (λ r.
          value_related R kept n call call' (c n (le_refl n)) e s _ _ (λ w. asked R kept n _ _ _ refl (λ q. N s t))))
      runs_related (Spawn at target f hint args) n c la lb D x x' y y' z z' N B C = λ s t.
          hinted_related R kept n call call' (c n (le_refl n)) at hint s _ _ (λ h. values_of_related R kept n call call' (c n (le_refl n)) args s _ _ (λ xs.
          asked R kept n _ _ _ refl (λ r. N s (t ++ target ∷ []))))
      runs_related (If test p q) n c la lb D x x' y y' z z' N B C = λ s t.
          value_related R kept n call call' (c n (le_refl n)) test s _ _ (λ v. chosen R kept n (is_true v) _ _ _ _
          (runs_related p n c la lb D x x' y y' z z' N B C s t) (runs_related q n c la lb D x x' y y' z z' N B C s t))
      runs_related (Loop test step body) n c la lb D x x' y y' z z' N B C =
          repeats_related (value call test) (value call' test)
          (λ again. runs call d spawns a k body again x again) (λ again. runs call' d spawns b l body again x' again)
          (λ again. runs call d spawns a k step again y z) (λ again. runs call' d spawns b l step again y' z')
          x x' n a b la lb
          (λ m le s p q h. value_related R kept m call call' (c m le) test s p q h)
          (λ m le p q h. runs_related body m (λ j lj. c j (omega arith)) (omega arith) (omega arith) (λ v. kept.lower m n _ _ le (D v)) p q x x' p q h (lower_flow m n _ _ le N) h)
          (λ m le p q h. runs_related step m (λ j lj. c j (omega arith)) (omega arith) (omega arith) (λ v. kept.lower m n _ _ le (D v)) p q y y' z z' h (lower_flow m n _ _ le B) (lower_flow m n _ _ le C))
          N
      runs_related (Each at low high f copies) n c la lb D x x' y y' z z' N B C = λ s t.
          value_related R kept n call call' (c n (le_refl n)) low s _ _ (λ i. value_related R kept n call call' (c n (le_refl n)) high s _ _ (λ h.
          spawns_related d f (map (word_at s) copies) h (syncs d x s) (syncs d x' s) n a b la lb i t (λ u. syncs_related n d x x' N s u)))
      runs_related Break n c la lb D x x' y y' z z' N B C = B
      runs_related Continue n c la lb D x x' y y' z z' N B C = C
      runs_related (Return e) n c la lb D x x' y y' z z' N B C = λ s t.
          value_related R kept n call call' (c n (le_refl n)) e s _ _ (λ v. returns_related n d spawns k l v (D v) s t)
      runs_related Sync n c la lb D x x' y y' z z' N B C = syncs_related n d x x' N

      pub all_related : {m : _} (body : Stmts m) (n : ℕ) → ((m : ℕ) → m ≤ n → Calls R kept m call call') → n < a → n < b → Then R kept n k l →
          (next next' broken broken' continued continued' : Flow) → Flows n next next' → Flows n broken broken' → Flows n continued continued' →
          Flows n (runs_all call d spawns a k body next broken continued) (runs_all call' d spawns b l body next' broken' continued')
      all_related no_stmts n c la lb D x x' y y' z z' N B C = N
      all_related (more_stmts s rest) n c la lb D x x' y y' z z' N B C =
          runs_related s n c la lb D _ _ y y' z z' (all_related rest n c la lb D x x' y y' z z' N B C) B C

  pub body_related : (call call' : Calling) (d n a b : ℕ) (o : Option Function) (args : List ℤ) (k l : ℤ → Acts) →
      ((m : ℕ) → m ≤ n → Calls R kept m call call') → n < a → n < b → Then R kept n k l →
      R n (body_of call d a o args k) (body_of call' d b o args l)
  body_related call call' d n a b None args k l c la lb D = D (pos 0)
  body_related call call' d n a b (Some f) args k l c la lb D =
      let over : Flows n (returns d f.spawns k (pos 0)) (returns d f.spawns l (pos 0)) = returns_related n d f.spawns k l (pos 0) (D (pos 0)) in
      runs_related call call' d f.spawns a b k l f.body n c la lb D _ _ _ _ _ _ over over over (first_slots f.slots args) []

  module _ (run_a run_b : Running) (d n : ℕ) where
    -- calls are related where what they call is, from one answer less on
    pub calls_related : ((m : ℕ) → suc m ≤ n → (f : ℕ) (args : List ℤ) (k l : ℤ → Acts) → Then R kept m k l → R m (run_a (suc d) f args k) (run_b (suc d) f args l)) →
        (m : ℕ) → m ≤ n → Calls R kept m (calls run_a d) (calls run_b d)
    calls_related ran m le at f args k l h = chosen R kept m (d == max_depth) _ _ _ _ (kept.stops m (act.Trap at kind.Depth) refl) (turned m le h)
      where
        turned : (m : ℕ) → m ≤ n → Then R kept m k l → R m (make act.Turn (λ _. run_a (suc d) f args k)) (make act.Turn (λ _. run_b (suc d) f args l))
        turned zero le h = kept.last _ _ _ refl
        turned (suc m) le h = kept.asks m _ _ _ refl (λ r. ran m le f args k l (λ x. kept.lower m (suc m) _ _ (omega arith) (h x)))

  module _ (functions : List Function) where
    -- functions that can have more turns than there are answers are related, however many more
    pub run_related : (a b n d f : ℕ) (args : List ℤ) (k l : ℤ → Acts) → n < a → n < b → Then R kept n k l →
        R n (run functions a d f args k) (run functions b d f args l)
    run_related zero b n d f args k l la lb D = absurd (omega arith)
    run_related (suc a) zero n d f args k l la lb D = absurd (omega arith)
    run_related (suc a) (suc b) n d f args k l la lb D =
        body_related (calls (run functions a) d) (calls (run functions b) d) d n (suc a) (suc b) (slice_get functions f) args k l
        (calls_related (run functions a) (run functions b) d n (λ m le f args k l h. run_related a b m (suc d) f args k l (omega arith) (omega arith) h))
        la lb D
