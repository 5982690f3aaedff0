-- What the parts of a list lift to, joined.
use Rattle.std.proofs.Common.{◌≡◌, ◌∙◌, ap, sym, subst, ℕ, Bool, true, false, List, [], ◌∷◌, ◌++◌, flat_map, append_assoc, append-nil}
use Rattle.word_ops.specs.declared.place.Pos.{Pos}
use Rattle.cilk_ast.specs.declared.kind.Kind.{Kind}
use Rattle.cilk_ast.specs.declared.kind.Kind.TheVariants as kind
use Rattle.cilk_ast.specs.declared.tree.TStmt.{TStmt}
use Rattle.cilk_ast.specs.declared.tree.Param.{Param}
use Rattle.cilk_ast.specs.declared.tree.Item.{Item}
use Rattle.cilk_ast.specs.declared.tree.Item.TheVariants.{Global, Function}
use Rattle.cilk_model.specs.Lexemes as lexeme
use Rattle.cilk_model.specs.Signs as sign
use Rattle.cilk_model.specs.GrammarForms as form
use Rattle.cilk_model.specs.Grammar as by
use Rattle.cilk_model.specs.Grammar.{Row, Spells}
use Rattle.cilk_model.specs.SameTree as same
use Rattle.cilk_model.specs.SameTree.{Same}
use Rattle.cilk_model.specs.TreeTokens.{word, mark, name, star, statement, item}
use Rattle.cilk_print.proofs.Saying.{Reads, Found, nothing, token, append, mapped, reads_is}
use Rattle.cilk_print.proofs.Lifts.{Declares, AllDeclare, none, more, Keeps, dropped, kept}

-- ---- Locals

abbrev pub Bodies : List TStmt → Type 0
Bodies ss = Reads (flat_map statement ss) (Found (Spells form.body) (Same same.statements ss))

pub local_then : (s : TStmt) (rest : List TStmt) → Declares s → Bodies rest → Bodies (s ∷ rest)
local_then s rest l r =
    reads_is (ap (λ c. c ++ flat_map statement rest) l.tokens ∙ ap (λ c. word "long" ∷ c) (append_assoc l.behind (mark ";" ∷ []) (flat_map statement rest)))
    (token (λ long_there. append l.reads (λ f m. token (λ end_there.
    mapped (λ b q. record { tree = m.tree ∷ q.tree; spelled = by.locals m.spelled by.last_local q.spelled; same = same.more_statements m.same q.same }) r))))

pub all_then : (ss rest : List TStmt) → AllDeclare ss → Bodies rest → Bodies (ss ++ rest)
all_then [] rest none r = r
all_then (s ∷ ss) rest (more l ls) r = local_then s (ss ++ rest) l (all_then ss rest ls r)

-- ---- Parameters

pub same_parameter : (p q : Param) (ps qs : List Param) → Same same.parameters (p ∷ []) (q ∷ []) → Same same.parameters ps qs → Same same.parameters (p ∷ ps) (q ∷ qs)
same_parameter p q ps qs (same.more_parameters none_) t = same.more_parameters t

-- ---- Items

abbrev pub Items : List Item → Type 0
Items is = Reads (flat_map item is) (Found (Spells form.items) (Same same.items is))

pub one_item : (fs : List Item) (a : Row) → Spells form.item fs a → Spells form.items fs a
one_item fs a s =
    subst (Spells form.items fs) (append-nil a) (subst (λ gs. Spells form.items gs (a ++ [])) (append-nil fs) (by.next_item s by.no_items))

pub items_join : (fs gs : List Item) (a b : Row) → Spells form.items fs a → Spells form.items gs b → Spells form.items (fs ++ gs) (a ++ b)
items_join fs gs a b by.no_items t = t
items_join fs gs a b (by.next_item {fs = f} {gs = more_} {a = c} {b = d} s u) t =
    subst (Spells form.items ((f ++ more_) ++ gs)) (sym (append_assoc c d b))
    (subst (λ is. Spells form.items is (c ++ (d ++ b))) (sym (append_assoc f more_ gs)) (by.next_item s (items_join more_ gs d b u t)))

pub same_join : (is js ks ls : List Item) → Same same.items is js → Same same.items ks ls → Same same.items (is ++ ks) (js ++ ls)
same_join is js ks ls same.no_items t = t
same_join is js ks ls (same.global {is = i} {js = j} s) t = same.global (same_join i j ks ls s t)
same_join is js ks ls (same.function {is = i} {js = j} p q s) t = same.function p q (same_join i j ks ls s t)

-- a global, declared by itself
plain_tokens : (k : Kind) (g : List ℕ) (c : Row) →
    (word "long" ∷ (star k ++ name g ∷ []) ++ mark ";" ∷ []) ++ c ≡ word "long" ∷ (star k ++ (name g ∷ mark ";" ∷ c))
plain_tokens k g c = simp append_assoc

pub global_then : (r : Bool) (at : Pos) (g : List ℕ) (k : Kind) (gs : List Item) → Reads (star k) (Spells form.star k) → Items gs → Items (Global at g k r ∷ gs)
global_then false at g k gs s t =
    reads_is (plain_tokens k g (flat_map item gs)) (token (λ long_there. append s (λ f m. token (λ there. token (λ end_there.
    mapped (λ b q. record {
      tree = Global there g k false ∷ q.tree;
      spelled = subst (λ c. Spells form.items (Global there g k false ∷ q.tree) (sign.word "long" long_there ∷ c))
          (append_assoc f (lexeme.name there g ∷ sign.mark ";" end_there ∷ []) b)
          (by.next_item (by.plain_globals there m by.last_global) q.spelled);
      same = same.global q.same;
    }) t)))))
global_then true at g k gs s t =
    reads_is (ap (λ c. word "replicated" ∷ c) (plain_tokens k g (flat_map item gs)))
    (token (λ replicated_there. token (λ long_there. append s (λ f m. token (λ there. token (λ end_there.
    mapped (λ b q. record {
      tree = Global there g k true ∷ q.tree;
      spelled = subst (λ c. Spells form.items (Global there g k true ∷ q.tree) (sign.word "replicated" replicated_there ∷ sign.word "long" long_there ∷ c))
          (append_assoc f (lexeme.name there g ∷ sign.mark ";" end_there ∷ []) b)
          (by.next_item (by.replicated_globals there m by.last_global) q.spelled);
      same = same.global q.same;
    }) t))))))

no_function : Items []
no_function = nothing (record { tree = []; spelled = by.no_items; same = same.no_items })

pub void_item : (f : List ℕ) (fs : List Item) → Keeps kind.Void f fs → Items fs
void_item f fs dropped = no_function
void_item f fs (kept {at} {at_name} {ps} {s} r) =
    reads_is (append-nil (item (Function at kind.Void at_name f ps s))) (token (λ there. token (λ name_there.
    mapped (λ b q. let m = q there name_there in record { tree = m.tree; spelled = one_item m.tree _ (by.void_function m.spelled); same = m.same }) r)))

pub int_item : (f : List ℕ) (fs : List Item) → Keeps kind.Int f fs → Items fs
int_item f fs dropped = no_function
int_item f fs (kept {at} {at_name} {ps} {s} r) =
    reads_is (append-nil (item (Function at kind.Int at_name f ps s))) (token (λ there. token (λ name_there.
    mapped (λ b q. let m = q there name_there in record { tree = m.tree; spelled = one_item m.tree _ (by.int_function m.spelled); same = m.same }) r)))

word_item : (f : List ℕ) (fs : List Item) → Keeps kind.Long f fs → Items fs
word_item f fs dropped = no_function
word_item f fs (kept {at} {at_name} {ps} {s} r) =
    reads_is (append-nil (item (Function at kind.Long at_name f ps s))) (token (λ there. token (λ name_there.
    mapped (λ b q. let m = q there name_there in record { tree = m.tree; spelled = one_item m.tree _ (by.long_function name_there by.no_star m.spelled); same = m.same }) r)))

address_item : (f : List ℕ) (fs : List Item) → Keeps kind.Ptr f fs → Items fs
address_item f fs dropped = no_function
address_item f fs (kept {at} {at_name} {ps} {s} r) =
    reads_is (append-nil (item (Function at kind.Ptr at_name f ps s))) (token (λ there. token (λ star_there. token (λ name_there.
    mapped (λ b q. let m = q there name_there in record { tree = m.tree; spelled = one_item m.tree _ (by.long_function name_there by.a_star m.spelled); same = m.same }) r))))

pub long_item : (k : Kind) (a : Row) (f : List ℕ) (fs : List Item) → Spells form.star k a → Keeps k f fs → Items fs
long_item k a f fs by.no_star r = word_item f fs r
long_item k a f fs by.a_star r = address_item f fs r
