-- Pages with more on them.
use Rattle.std.proofs.Common.{◌≡◌, List, [], ◌∷◌, ◌++◌, refl}
use Rattle.cilk_model.specs.declared.layout.Page.{Page}
use Rattle.cilk_model.specs.Lexemes.{Lexeme}
use Rattle.cilk_model.specs.Layout.{put, put_all}

pub put_all_append : (page : Page) (a b : List Lexeme) → put_all page (a ++ b) ≡ put_all (put_all page a) b
put_all_append page [] b = refl
put_all_append page (t ∷ a) b = put_all_append (put page t) a b
