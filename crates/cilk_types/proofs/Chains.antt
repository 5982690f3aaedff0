-- A chain of indexes, taken off from outside.
use Rattle.std.proofs.Common.{◌≡◌, ◌∙◌, ap, sym, Bool, true, false, ◌&&◌, Option, None, refl}
use Rattle.word_ops.specs.declared.place.Pos.{Pos}
use Rattle.cilk_ast.specs.declared.fault.TextFault.{TextFault}
use Rattle.cilk_ast.specs.declared.kind.Kind.TheVariants as sort
use Rattle.cilk_ast.specs.declared.tree.TExpr as code
use Rattle.cilk_ast.specs.declared.tree.TExpr.TheBlock.{shape-the_row-TExpr-0, hidden-the_row-TExpr-0}
use Rattle.cilk_ast.specs.declared.tree.TExpr.{TExpr, Number, Var, Call', Builtin', Print'}
use Rattle.cilk_ast.specs.TreeExpression.{Paren, Un, Deref, Cast, Index, Bin, Both, Either, InitAt}
use Rattle.cilk_model.specs.FirstFault.{earlier}
use Rattle.cilk_model.specs.Scopes.{Names}
use Rattle.cilk_model.specs.Sorts.{is_word, begins_at, has, suits, kind_if, judged}
use Rattle.cilk_types.specs.declared.judgement.Judgement.{Judgement}
use Rattle.cilk_types.specs.Judging.{judgement, of_index, is_single, is_double, behind}
use Rattle.cilk_types.proofs.FaultOrder.{earlier_none, earlier_assoc}
use Rattle.cilk_types.proofs.Judgements.{judgement_index}
use denote.Hole.Carrier.{hidden}

pub index_is_single : (at : Pos) (base index : TExpr) → is_single (code.Index at base index) ≡ true
unfolding shape-the_row-TExpr-0 hidden-the_row-TExpr-0 hidden
index_is_single at base index = refl

pub index_is_double : (at : Pos) (base index : TExpr) → is_double (code.Index at base index) ≡ is_single base
unfolding shape-the_row-TExpr-0 hidden-the_row-TExpr-0 hidden
index_is_double at base index = refl

pub chain_start : (names : Names) (e : TExpr) → behind false (judgement names e) None ≡ judgement names e
chain_start names e = λ i. record (judgement names e) { fault = earlier_none (judgement names e).fault i }

-- `e[i][j]` begins where its base does, is no literal and has no kind
pub record IsBare (j : Judgement) : Type 0 where
  pub no_literal : j.is_literal_0 ≡ false
  pub no_kind : j.kind ≡ None

-- an index has no kind where its base is a word
no_kind_of : (at : Pos) (x y : Bool) →
    kind_if (suits sort.Ptr (record { at = at; is_literal_0 = false; kind = kind_if x sort.Long }) && y) sort.Long ≡ None
no_kind_of at true y = refl
no_kind_of at false y = refl

single_is_bare : (names : Names) (at : Pos) (base index : TExpr) → is_single base ≡ true → IsBare (judgement names (Index at base index))
unfolding judgement
single_is_bare names at (Index at' b i) index h = record {
  no_literal = refl;
  no_kind = no_kind_of (begins_at (Index at' b i)) (suits sort.Ptr (judged names b) && has is_word (judged names i)) (has is_word (judged names index));
}
single_is_bare names at (Number at' v) index h = absurd (cc h)
single_is_bare names at (Var at' n) index h = absurd (cc h)
single_is_bare names at (Paren at' e) index h = absurd (cc h)
single_is_bare names at (Un at' o e) index h = absurd (cc h)
single_is_bare names at (Deref at' e) index h = absurd (cc h)
single_is_bare names at (Cast at' k e) index h = absurd (cc h)
single_is_bare names at (Bin at' o l r) index h = absurd (cc h)
single_is_bare names at (Both at' l r) index h = absurd (cc h)
single_is_bare names at (Either at' l r) index h = absurd (cc h)
single_is_bare names at (Call' at' m n es) index h = absurd (cc h)
single_is_bare names at (Builtin' at' w n es) index h = absurd (cc h)
single_is_bare names at (Print' at' t f n es) index h = absurd (cc h)
single_is_bare names at (InitAt at' t m e) index h = absurd (cc h)

double_is_bare : (names : Names) (e : TExpr) → is_double e ≡ true → IsBare (judgement names e)
double_is_bare names (Index at b i) h = single_is_bare names at b i h
double_is_bare names (Number at' v) h = absurd (cc h)
double_is_bare names (Var at' n) h = absurd (cc h)
double_is_bare names (Paren at' e) h = absurd (cc h)
double_is_bare names (Un at' o e) h = absurd (cc h)
double_is_bare names (Deref at' e) h = absurd (cc h)
double_is_bare names (Cast at' k e) h = absurd (cc h)
double_is_bare names (Bin at' o l r) h = absurd (cc h)
double_is_bare names (Both at' l r) h = absurd (cc h)
double_is_bare names (Either at' l r) h = absurd (cc h)
double_is_bare names (Call' at' m n es) h = absurd (cc h)
double_is_bare names (Builtin' at' w n es) h = absurd (cc h)
double_is_bare names (Print' at' t f n es) h = absurd (cc h)
double_is_bare names (InitAt at' t m e) h = absurd (cc h)

-- a judgement without literal and kind
bare : Pos → Option TextFault → Judgement
bare at fault = record { at = at; is_literal_0 = false; kind = None; fault = fault }

bare_index : (b i : Judgement) → IsBare b → of_index b i ≡ bare b.at (earlier (earlier b.fault i.fault) None)
unfolding bare
bare_index b i h =
    let as_bare : b ≡ record { at = b.at; is_literal_0 = false; kind = None; fault = b.fault } =
    λ k. record { at = b.at; is_literal_0 = h.no_literal k; kind = h.no_kind k; fault = b.fault } in
    ap (λ j. of_index j i) as_bare

behind_bare : (taken : Bool) (at : Pos) (f g outside : Option TextFault) →
    behind taken (bare at (earlier (earlier f g) None)) outside ≡ bare at (earlier f (earlier g outside))
unfolding bare
behind_bare true at f g outside = ap (bare at) (ap (λ h. earlier h outside) (earlier_none (earlier f g)) ∙ earlier_assoc f g outside)
behind_bare false at f g outside = ap (bare at) (ap (λ h. earlier h outside) (earlier_none (earlier f g)) ∙ earlier_assoc f g outside)

pub chain_step : (names : Names) (at : Pos) (base index rest e : TExpr) (part : Judgement) (taken : Bool) (outside new : Option TextFault) →
    rest ≡ code.Index at base index → is_double base ≡ true → part ≡ judgement names index → new ≡ earlier part.fault outside →
    behind taken (judgement names rest) outside ≡ judgement names e →
    behind true (judgement names base) new ≡ judgement names e
unfolding bare
chain_step names at base index rest e part taken outside new is_rest double is_part is_new before =
    let b = double_is_bare names base double in
    let jb = judgement names base in
    let ji = judgement names index in
    let more : new ≡ earlier ji.fault outside = is_new ∙ ap (λ p. earlier p.fault outside) is_part in
    (λ k. record { at = jb.at; is_literal_0 = b.no_literal k; kind = None; fault = earlier jb.fault (more k) })
    ∙ sym (behind_bare taken jb.at jb.fault ji.fault outside)
    ∙ ap (λ j. behind taken j outside) (sym (ap (judgement names) is_rest ∙ judgement_index names at base index ∙ bare_index jb ji b))
    ∙ before
