-- How the steps of the code are those of a reading.
use Rattle.std.proofs.Common.{◌≡◌, Bool, true, false, cond, List, [], ◌∷◌, ◌++◌, Option, Some, None, MatchOption, Result, Ok, Err, refl, sym, ◌∙◌, ap, subst, append_assoc}
use Rattle.std.specs.Prelude.{is_some, IfOk, IfErr}
use Rattle.std.specs.Result.{IsErrAnd}
use Rattle.std.proofs.lemmas.Result.{err_from_is_err_and}
use Rattle.cilk_model.specs.Lexemes.{Lexeme}
use Rattle.cilk_model.specs.Grammar.{Row}
use Rattle.cilk_model.specs.Tests.{starts}
use Rattle.cilk_parser.specs.declared.stop.Stop.{Stop}
use Rattle.cilk_parser.specs.declared.stop.Stop.TheVariants as stop
use Rattle.cilk_parser.specs.Parsers.{Answer, Parser, goes_on, seen, behind, chosen, choose, take, when}
use Rattle.cilk_parser.specs.Gives.{Gives, Leads, Appends, Passes, prefixed, left_behind}
use Rattle.cilk_parser.proofs.Local.{ok_parts}

-- ---- Choices

-- A token of the kind was next, and was taken.
pub chose : {K X : Type 0} (kind : Lexeme → Option K) (f : K → Parser X) (q : Parser X) (k : K) (ts left : Row) →
    seen kind ts ≡ Some k → left ≡ behind ts → choose kind f q ts ≡ f k left
chose kind f q k ts left e d = ap (λ o. chosen f q o ts) e ∙ ap (f k) (sym d)

-- None was.
pub passed : {K X : Type 0} (kind : Lexeme → Option K) (f : K → Parser X) (q : Parser X) (ts left : Row) →
    seen kind ts ≡ None → left ≡ ts → choose kind f q ts ≡ q left
passed kind f q ts left e d = ap (λ o. chosen f q o ts) e ∙ ap q (sym d)

-- The same, where only whether it was is asked.
abbrev pub Found : {K : Type 0} → (Lexeme → Option K) → Row → Option K → Type 0
Found kind ts o = MatchOption o (seen kind ts ≡ None) (λ k. seen kind ts ≡ Some k)

pub skipped : {K X : Type 0} (kind : Lexeme → Option K) (f : K → Parser X) (q : Parser X) (p : Parser X) (o : Option K) (ts left : Row) →
    Found kind ts o → left ≡ left_behind o ts → is_some o ≡ true → ((k : K) → f k ≡ p) → choose kind f q ts ≡ p left
skipped kind f q p (Some k) ts left e d t g = chose kind f q k ts left e d ∙ ap (λ r. r left) (g k)
skipped kind f q p None ts left e d t g = absurd cc

pub not_skipped : {K X : Type 0} (kind : Lexeme → Option K) (f : K → Parser X) (q : Parser X) (o : Option K) (ts left : Row) →
    Found kind ts o → left ≡ left_behind o ts → is_some o ≡ false → choose kind f q ts ≡ q left
not_skipped kind f q (Some k) ts left e d t = absurd cc
not_skipped kind f q None ts left e d t = passed kind f q ts left e d

-- A token of the kind is next.
pub choose_next : {K X : Type 0} (kind : Lexeme → Option K) (f : K → Parser X) (q : Parser X) (ts : Row) → is_some (seen kind ts) ≡ true → choose kind f q ts ≡ goes_on f (take kind ts)
choose_next kind f q [] e = absurd cc
choose_next kind f q (t ∷ ts) e = by_kind (kind t) refl where
  by_kind : (o : Option _) → kind t ≡ o → choose kind f q (t ∷ ts) ≡ goes_on f (take kind (t ∷ ts))
  by_kind (Some k) d = ap (λ o. chosen f q o (t ∷ ts)) d ∙ sym (ap (λ o. goes_on f (chosen (λ k r. Ok (k, r)) (λ r. Err r) o (t ∷ ts))) d)
  by_kind None d = absurd (let g = sym e ∙ ap is_some d in cc)

pub choose_not_next : {K X : Type 0} (kind : Lexeme → Option K) (f : K → Parser X) (q : Parser X) (ts : Row) → is_some (seen kind ts) ≡ false → choose kind f q ts ≡ q ts
choose_not_next kind f q ts e = by_kind (seen kind ts) refl where
  by_kind : (o : Option _) → seen kind ts ≡ o → choose kind f q ts ≡ q ts
  by_kind (Some k) d = absurd (let g = sym e ∙ ap is_some d in cc)
  by_kind None d = ap (λ o. chosen f q o ts) d

pub when_next : {X : Type 0} (test : Lexeme → Bool) (p q : Parser X) (ts : Row) → starts test ts ≡ true → when test p q ts ≡ p ts
when_next test p q ts e = ap (λ b. cond b (p ts) (q ts)) e

pub when_not : {X : Type 0} (test : Lexeme → Bool) (p q : Parser X) (ts : Row) → starts test ts ≡ false → when test p q ts ≡ q ts
when_not test p q ts e = ap (λ b. cond b (p ts) (q ts)) e

-- ---- Errors

-- An error goes from a part to the whole.
through : {X Y : Type 0} (s : Stop) (left : Row) (a : Answer X) (f : X → Parser Y) (b : Answer Y) →
    Gives {X = X} (Err s) left a → b ≡ goes_on f a → Gives {X = Y} (Err s) left b
through stop.OutOfMemory left a f b h g = tt
through stop.Unexpected left a f b h g = g ∙ ap (goes_on f) h

pub passes : {X Y : Type 0} (s : Stop) (r : Result Y Stop) (left : Row) (a : Answer X) (f : X → Parser Y) (b : Answer Y) →
    IsErrAnd r (λ e. e ≡ s) → Gives {X = X} (Err s) left a → b ≡ goes_on f a → Gives r left b
passes s r left a f b e h g = let p = err_from_is_err_and r e in rw (p.1, p.2) (through s left a f b h g)

-- ---- Lists

pub prefixed_twice : {X : Type 0} (xs ys : List X) (a : Answer (List X)) → prefixed xs (prefixed ys a) ≡ prefixed (xs ++ ys) a
prefixed_twice xs ys (Ok a) = ap (λ z. Ok (z, a.1)) (sym (append_assoc xs ys a.0))
prefixed_twice xs ys (Err r) = refl

pub prefixed_on : {X Y : Type 0} (xs : List X) (f : Y → Parser (List X)) (a : Answer Y) → prefixed xs (goes_on f a) ≡ goes_on (λ y z. prefixed xs (f y z)) a
prefixed_on xs f (Ok a) = refl
prefixed_on xs f (Err r) = refl

-- One item in front.
pub one_before : {X : Type 0} (x : X) (a : Answer (List X)) → goes_on (λ xs z. Ok (x ∷ xs, z)) a ≡ prefixed (x ∷ []) a
one_before x (Ok a) = refl
one_before x (Err r) = refl

pub prefixed_none : {X : Type 0} (a : Answer (List X)) → prefixed [] a ≡ a
prefixed_none (Ok a) = refl
prefixed_none (Err r) = refl

-- ---- Errors in lists

err_alone : {X : Type 0} (xs : List X) (a : Answer (List X)) (r : Row) → prefixed xs a ≡ Err r → a ≡ Err r
err_alone xs (Ok a) r e = absurd cc
err_alone xs (Err q) r e = ap Err (let d : q ≡ r = cc in d)

through_list : {X : Type 0} (s : Stop) (old new xs : List X) (left : Row) (a b : Answer (List X)) →
    Appends {X = X} {U = Unit {0}} (Err s) old new left a → b ≡ prefixed xs a → Gives {X = List X} (Err s) left b
through_list stop.OutOfMemory old new xs left a b h g = tt
through_list stop.Unexpected old new xs left a b h g = g ∙ ap (prefixed xs) h

-- An error behind the first items of a list.
pub passes_list : {X : Type 0} (s : Stop) (r : Result (List X) Stop) (old new xs : List X) (left : Row) (a b : Answer (List X)) →
    IsErrAnd r (λ e. e ≡ s) → Appends {X = X} {U = Unit {0}} (Err s) old new left a → b ≡ prefixed xs a → Gives r left b
passes_list s r old new xs left a b e h g = let p = err_from_is_err_and r e in rw (p.1, p.2) (through_list s old new xs left a b h g)

through_more : {X Y : Type 0} (s : Stop) (old new xs : List X) (left : Row) (b : Answer Y) (f : Y → Parser (List X)) (a : Answer (List X)) →
    Gives {X = Y} (Err s) left b → prefixed old a ≡ prefixed xs (goes_on f b) → Appends {X = X} {U = Unit {0}} (Err s) old new left a
through_more stop.OutOfMemory old new xs left b f a h g = tt
through_more stop.Unexpected old new xs left b f a h g = err_alone old a left (g ∙ ap (λ z. prefixed xs (goes_on f z)) h)

-- An error in a further item of a list.
pub passes_more : {X Y : Type 0} (s : Stop) (r : Result (Unit {0}) Stop) (old new xs : List X) (left : Row) (b : Answer Y) (f : Y → Parser (List X)) (a : Answer (List X)) →
    IsErrAnd r (λ e. e ≡ s) → Gives {X = Y} (Err s) left b → prefixed old a ≡ prefixed xs (goes_on f b) → Appends r old new left a
passes_more s r old new xs left b f a e h g = let p = err_from_is_err_and r e in rw (p.1, p.2) (through_more s old new xs left b f a h g)

-- A last part that is made, unless memory runs out.
pub made : {X : Type 0} (r : Result X Stop) (x : X) (left : Row) (a : Answer X) → IfOk r (λ y. y ≡ x) → IfErr r (λ s. s ≡ stop.OutOfMemory) → a ≡ Ok (x, left) → Gives r left a
made (Ok y) x left a e f g = g ∙ ap (λ z. Ok (z, left)) (sym e)
made (Err stop.OutOfMemory) x left a e f g = tt
made (Err stop.Unexpected) x left a e f g = absurd cc

-- A part is the whole that is left.
pub onward : {X : Type 0} (r : Result X Stop) (left : Row) (a b : Answer X) → b ≡ a → Gives r left a → Gives r left b
onward r left a b e g = subst (λ z. Gives r left z) (sym e) g

-- ---- Blocks

through_body : {X : Type 0} (s : Stop) (left : Row) (a b rest : Answer X) → Passes {X = X} {U = Unit {0}} (Err s) left a rest → b ≡ a → Gives {X = X} (Err s) left b
through_body stop.OutOfMemory left a b rest h g = tt
through_body stop.Unexpected left a b rest h g = g ∙ h

pub passes_body : {X : Type 0} (s : Stop) (r : Result X Stop) (left : Row) (a b rest : Answer X) →
    IsErrAnd r (λ e. e ≡ s) → Passes {X = X} {U = Unit {0}} (Err s) left a rest → b ≡ a → Gives r left b
passes_body s r left a b rest e h g = let p = err_from_is_err_and r e in rw (p.1, p.2) (through_body s left a b rest h g)

through_part : {X Y : Type 0} (s : Stop) (left : Row) (old : List X) (b : Answer Y) (f : Y → Parser (List X)) (a rest : Answer (List X)) →
    Gives {X = Y} (Err s) left b → a ≡ goes_on f b → Passes {X = List X} {U = Unit {0}} (Err s) left (prefixed old a) rest
through_part stop.OutOfMemory left old b f a rest h g = tt
through_part stop.Unexpected left old b f a rest h g = ap (prefixed old) (g ∙ ap (goes_on f) h)

pub passes_part : {X Y : Type 0} (s : Stop) (r : Result (Unit {0}) Stop) (left : Row) (old : List X) (b : Answer Y) (f : Y → Parser (List X)) (a rest : Answer (List X)) →
    IsErrAnd r (λ e. e ≡ s) → Gives {X = Y} (Err s) left b → a ≡ goes_on f b → Passes r left (prefixed old a) rest
passes_part s r left old b f a rest e h g = let p = err_from_is_err_and r e in rw (p.1, p.2) (through_part s left old b f a rest h g)

-- The items of a list that is read to its end, and what stands behind them.
pub last_part : {X : Type 0} (r : Result (Unit {0}) Stop) (old mid new : List X) (x : X) (left : Row) (b : Answer (List X)) (f : Parser (List X)) (a : Answer (List X)) →
    mid ≡ old ++ x ∷ [] → Appends r mid new left b → a ≡ goes_on (λ xs z. prefixed (x ∷ []) (prefixed xs (f z))) b → Passes r left (prefixed old a) (prefixed new (f left))
last_part (Ok u) old mid new x left (Ok b) f a m h g =
    let parts = ok_parts (mid ++ b.0) new (b.1) left h in
    ap (prefixed old) g ∙ prefixed_twice old (x ∷ []) (prefixed (b.0) (f (b.1))) ∙ prefixed_twice (old ++ x ∷ []) (b.0) (f (b.1))
    ∙ ap (λ z. prefixed (z ++ b.0) (f (b.1))) (sym m) ∙ ap (λ z. prefixed z (f (b.1))) (parts.0) ∙ ap (λ z. prefixed new (f z)) (parts.1)
last_part (Ok u) old mid new x left (Err q) f a m h g = absurd cc
last_part (Err stop.OutOfMemory) old mid new x left b f a m h g = tt
last_part (Err stop.Unexpected) old mid new x left b f a m h g = ap (prefixed old) (g ∙ ap (goes_on (λ xs z. prefixed (x ∷ []) (prefixed xs (f z)))) h)

-- ---- Parts with what goes on behind them

through_lead : {X Y : Type 0} (s : Stop) (left : Row) (f : X → Parser Y) (a : Answer Y) → Leads {X = X} (Err s) left f a → Gives {X = Y} (Err s) left a
through_lead stop.OutOfMemory left f a h = tt
through_lead stop.Unexpected left f a h = h

pub passes_lead : {X Y : Type 0} (s : Stop) (r : Result Y Stop) (left : Row) (f : X → Parser Y) (a b : Answer Y) →
    IsErrAnd r (λ e. e ≡ s) → Leads {X = X} (Err s) left f a → b ≡ a → Gives r left b
passes_lead s r left f a b e h g = let p = err_from_is_err_and r e in rw (p.1, p.2, g) (through_lead s left f a h)

-- ---- Items

through_item : {X Y : Type 0} (s : Stop) (old new : List X) (left : Row) (b : Answer Y) (f : Y → Parser (List X)) (a : Answer (List X)) →
    Gives {X = Y} (Err s) left b → a ≡ goes_on f b → Appends {X = X} {U = Unit {0}} (Err s) old new left a
through_item stop.OutOfMemory old new left b f a h g = tt
through_item stop.Unexpected old new left b f a h g = g ∙ ap (goes_on f) h

pub passes_item : {X Y : Type 0} (s : Stop) (r : Result (Unit {0}) Stop) (old new : List X) (left : Row) (b : Answer Y) (f : Y → Parser (List X)) (a : Answer (List X)) →
    IsErrAnd r (λ e. e ≡ s) → Gives {X = Y} (Err s) left b → a ≡ goes_on f b → Appends r old new left a
passes_item s r old new left b f a e h g = let p = err_from_is_err_and r e in rw (p.1, p.2) (through_item s old new left b f a h g)

through_more_lead : {X Y : Type 0} (s : Stop) (old new xs : List X) (left : Row) (f : Y → Parser (List X)) (b a : Answer (List X)) →
    Leads {X = Y} (Err s) left f b → prefixed old a ≡ prefixed xs b → Appends {X = X} {U = Unit {0}} (Err s) old new left a
through_more_lead stop.OutOfMemory old new xs left f b a h g = tt
through_more_lead stop.Unexpected old new xs left f b a h g = err_alone old a left (g ∙ ap (prefixed xs) h)

pub passes_more_lead : {X Y : Type 0} (s : Stop) (r : Result (Unit {0}) Stop) (old new xs : List X) (left : Row) (f : Y → Parser (List X)) (b a : Answer (List X)) →
    IsErrAnd r (λ e. e ≡ s) → Leads {X = Y} (Err s) left f b → prefixed old a ≡ prefixed xs b → Appends r old new left a
passes_more_lead s r old new xs left f b a e h g = let p = err_from_is_err_and r e in rw (p.1, p.2) (through_more_lead s old new xs left f b a h g)

pub onward_list : {X U : Type 0} (r : Result U Stop) (old new : List X) (left : Row) (a b : Answer (List X)) → b ≡ a → Appends r old new left a → Appends r old new left b
onward_list r old new left a b e g = subst (λ z. Appends r old new left z) (sym e) g

-- A list that several are put together to.
pub gathered : {X : Type 0} (old new : List X) (left : Row) (f : Parser (List X)) (a : Answer (List X)) → prefixed old a ≡ Ok (new, left) →
    prefixed old (goes_on (λ xs z. prefixed xs (f z)) a) ≡ prefixed new (f left)
gathered old new left f (Ok a) e =
    let parts = ok_parts (old ++ a.0) new (a.1) left e in
    prefixed_twice old (a.0) (f (a.1)) ∙ ap (λ z. prefixed z (f (a.1))) (parts.0) ∙ ap (λ z. prefixed new (f z)) (parts.1)
gathered old new left f (Err r) e = absurd cc

through_gathered : {X : Type 0} (s : Stop) (old new xs : List X) (left : Row) (f : List X → Parser (List X)) (a b : Answer (List X)) →
    Appends {X = X} {U = Unit {0}} (Err s) old new left a → b ≡ prefixed xs (goes_on f a) → Gives {X = List X} (Err s) left b
through_gathered stop.OutOfMemory old new xs left f a b h g = tt
through_gathered stop.Unexpected old new xs left f a b h g = g ∙ ap (λ z. prefixed xs (goes_on f z)) h

pub passes_gathered : {X : Type 0} (s : Stop) (r : Result (List X) Stop) (old new xs : List X) (left : Row) (f : List X → Parser (List X)) (a b : Answer (List X)) →
    IsErrAnd r (λ e. e ≡ s) → Appends {X = X} {U = Unit {0}} (Err s) old new left a → b ≡ prefixed xs (goes_on f a) → Gives r left b
passes_gathered s r old new xs left f a b e h g = let p = err_from_is_err_and r e in rw (p.1, p.2) (through_gathered s old new xs left f a b h g)
