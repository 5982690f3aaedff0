-- Trees that are the same have one canonical text.
use Rattle.std.proofs.Common.{◌≡◌, ◌∙◌, ap, sym, [], ◌∷◌, ◌++◌, map, flat_map, refl}
use Rattle.cilk_ast.specs.declared.tree.TExpr.TheBlock.{shape-the_row-TExpr-0, hidden-the_row-TExpr-0}
use Rattle.cilk_ast.specs.declared.tree.TStmt.TheBlock.{shape-the_row-TStmt-1, hidden-the_row-TStmt-1}
use Rattle.cilk_ast.specs.TreeStatement.{part_of}
use Rattle.cilk_model.specs.Lexemes as lexeme
use Rattle.cilk_model.specs.Signs.{prefix_spelling, binary, infix_spelling, builtin_spelling}
use Rattle.cilk_model.specs.Grammar.{Row}
use Rattle.cilk_model.specs.SameTree as same
use Rattle.cilk_model.specs.SameTree.{Part, Value, Same, SameTree}
use Rattle.cilk_model.specs.TreeTokens.{nowhere, word, mark, name, prefix, star, expression, perhaps, origin, spawn, value, initial, declared, simple, head, statement, parameter, result, replicated_word, item, in_brackets, between_commas, behind_commas, tokens_of}
use Rattle.cilk_model.specs.Layout.{put_all, blank_page}
use Rattle.cilk_model.specs.Canonical.{CanonicalTextIsOne}
use Rattle.cilk_print.proofs.FormTokens.{call_tokens, builtin_tokens, print_tokens, block_tokens, for_tokens, cilk_for_tokens}
use denote.Hole.Carrier.{hidden}

-- what is the same of two parts that are the same
abbrev Alike : (part : Part) → Value part → Value part → Type 0
Alike same.one_expression x y = expression x ≡ expression y
Alike same.expressions xs ys = map expression xs ≡ map expression ys
Alike same.perhaps_expression x y = (perhaps x ≡ perhaps y) × (origin x ≡ origin y)
Alike same.one_spawn s t = spawn s ≡ spawn t
Alike same.one_value v w = value v ≡ value w
Alike same.perhaps_value v w = initial v ≡ initial w
Alike same.one_statement s t = (simple s ≡ simple t) × (statement s ≡ statement t)
Alike same.statements ss ts = flat_map statement ss ≡ flat_map statement ts
Alike same.perhaps_statement p q = head (part_of p) ≡ head (part_of q)
Alike same.parameters ps qs = map parameter ps ≡ map parameter qs
Alike same.items is js = flat_map item is ≡ flat_map item js
Alike same.whole_tree t u = tokens_of t ≡ tokens_of u

-- a statement that ends with a `;`
ends : {a b : Row} → a ≡ b → (a ≡ b) × ((a ++ mark ";" ∷ []) ≡ (b ++ mark ";" ∷ []))
ends e = (e, ap (λ c. c ++ mark ";" ∷ []) e)

alike : {part : Part} {x y : Value part} → Same part x y → Alike part x y
unfolding shape-the_row-TExpr-0 hidden-the_row-TExpr-0 shape-the_row-TStmt-1 hidden-the_row-TStmt-1 hidden
alike same.number = refl
alike same.variable = refl
alike (same.paren s) = ap in_brackets (alike s)
alike (same.single {o} s) = ap (λ a. mark (prefix_spelling (prefix o)) ∷ a) (alike s)
alike (same.deref s) = ap (λ a. mark "*" ∷ a) (alike s)
alike (same.cast {k} s) = ap (λ a. in_brackets (word "long" ∷ star k) ++ a) (alike s)
alike (same.index s t) = let e = alike s in let f = alike t in λ i. e i ++ (mark "[" ∷ (f i ++ mark "]" ∷ []))
alike (same.binary {o} s t) = let e = alike s in let f = alike t in λ i. e i ++ (mark (infix_spelling (binary o)) ∷ f i)
alike (same.both s t) = let e = alike s in let f = alike t in λ i. e i ++ (mark "&&" ∷ f i)
alike (same.either s t) = let e = alike s in let f = alike t in λ i. e i ++ (mark "||" ∷ f i)
alike (same.call {at} {there} {f} {xs} {ys} s) =
    call_tokens at f xs ∙ ap (λ rows. name f ∷ in_brackets (between_commas rows)) (alike s) ∙ sym (call_tokens there f ys)
alike (same.builtin {at} {there} {which} {xs} {ys} s) =
    builtin_tokens at which xs ∙ ap (λ rows. word (builtin_spelling which) ∷ in_brackets (between_commas rows)) (alike s) ∙ sym (builtin_tokens there which ys)
alike (same.print {at} {there} {text_at} {text_there} {format} {xs} {ys} s) =
    print_tokens at text_at format xs ∙ ap (λ rows. word "printf" ∷ in_brackets (lexeme.text nowhere format ∷ behind_commas rows)) (alike s)
    ∙ sym (print_tokens there text_there format ys)
alike (same.init_at {x} s) = ap (λ a. word "mw_replicated_init" ∷ in_brackets (mark "&" ∷ name x ∷ mark "," ∷ a)) (alike s)
alike same.no_expressions = refl
alike (same.more_expressions s t) = let e = alike s in let f = alike t in λ i. e i ∷ f i
alike same.no_expression = (refl, refl)
alike (same.an_expression s) = (alike s, ap (λ a. word "cilk_spawn_at" ∷ in_brackets a) (alike s))
alike (same.spawn {f} s t) =
    let e = (alike s).1 in let g = alike t in λ i. e i ++ (name f ∷ in_brackets (between_commas (g i)))
alike (same.plain s) = alike s
alike (same.spawned s) = alike s
alike same.no_value = refl
alike (same.a_value s) = ap (λ a. mark "=" ∷ a) (alike s)
alike same.empty = (refl, refl)
alike (same.block {ss} {ts} s) = (refl, block_tokens ss ∙ ap (λ a. mark "{" ∷ (a ++ mark "}" ∷ [])) (alike s) ∙ sym (block_tokens ts))
alike (same.local {k} {x} s) = ends (ap (λ a. declared k x ++ a) (alike s))
alike (same.eval s) = ends (alike s)
alike (same.assign s t) = let e = alike s in let f = alike t in ends (λ i. e i ++ (mark "=" ∷ f i))
alike (same.add_to s t) = let e = alike s in let f = alike t in ends (λ i. e i ++ (mark "+=" ∷ f i))
alike (same.up s) = ends (ap (λ a. a ++ mark "++" ∷ []) (alike s))
alike (same.down s) = ends (ap (λ a. a ++ mark "--" ∷ []) (alike s))
alike (same.lone_spawn s) = ends (alike s)
alike (same.choice s t same.no_statement) =
    let e = alike s in let f = (alike t).1 in (refl, λ i. word "if" ∷ (in_brackets (e i) ++ f i))
alike (same.choice s t (same.a_statement u)) =
    let e = alike s in let f = (alike t).1 in let g = (alike u).1 in (refl, λ i. word "if" ∷ (in_brackets (e i) ++ (f i ++ (word "else" ∷ g i))))
alike (same.while_loop s t) = let e = alike s in let f = (alike t).1 in (refl, λ i. word "while" ∷ (in_brackets (e i) ++ f i))
alike (same.for_loop {i = init} {j = init_there} {n = step} {m = step_there} {x = test} {y = test_there} {s = body} {t = body_there} s t u v) =
    let e = alike s in let f = (alike t).0 in let g = alike u in let h = (alike v).1 in (
      refl,
      for_tokens init test step body
          ∙ (λ i. word "for" ∷ mark "(" ∷ (e i ++ (mark ";" ∷ (f i ++ (mark ";" ∷ (g i ++ (mark ")" ∷ h i)))))))
          ∙ sym (for_tokens init_there test_there step_there body_there),
    )
alike (same.cilk_for_loop {at} {there} {at_second} {there_second} {at_third} {there_third} {i = a} {j = b} {k = c} {l} {h} {x} {y} {s = body} {t = body_there} s t u) =
    let e = alike s in let f = alike t in let g = (alike u).1 in (
      refl,
      cilk_for_tokens at at_second a b l h (at_third, c) body
          ∙ (λ i. word "cilk_for" ∷ mark "(" ∷ word "long" ∷ name a ∷ mark "=" ∷ (e i ++ (mark ";" ∷ name b ∷ mark "<" ∷ (f i ++ (mark ";" ∷ name c ∷ mark "++" ∷ mark ")" ∷ g i)))))
          ∙ sym (cilk_for_tokens there there_second a b x y (there_third, c) body_there),
    )
alike same.broken = (refl, refl)
alike same.continued = (refl, refl)
alike (same.returned s) = ends (ap (λ a. word "return" ∷ a) (alike s).0)
alike same.synced = (refl, refl)
alike same.no_statements = refl
alike (same.more_statements s t) = let e = (alike s).1 in let f = alike t in λ i. e i ++ f i
alike same.no_statement = refl
alike (same.a_statement s) = (alike s).0
alike same.no_parameters = refl
alike (same.more_parameters {k} {x} s) = ap (λ rows. declared k x ∷ rows) (alike s)
alike same.no_items = refl
alike (same.global {x} {k} {replicated} s) = ap (λ a. (replicated_word replicated ++ (declared k x ++ mark ";" ∷ [])) ++ a) (alike s)
alike (same.function {k} {f} s t u) =
    let e = alike s in let g = (alike t).1 in let h = alike u in
    λ i. (result k ++ (name f ∷ (in_brackets (between_commas (e i)) ++ g i))) ++ h i
alike (same.whole s) = alike s

pub canonical_text_is_one : CanonicalTextIsOne
canonical_text_is_one one other s = ap (λ row. (put_all blank_page row).text) (alike s)
