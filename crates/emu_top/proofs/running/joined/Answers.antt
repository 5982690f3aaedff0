use Rattle.std.proofs.Common.{◌≡◌, ℕ, ◌+◌, ◌<◌, List, [], ◌∷◌, ◌++◌, length, take, get_or, sym, ap, ◌∙◌, append-nil, add-one}
use Rattle.std.proofs.Math.Seq.{take-suc}
use Rattle.std.proofs.lemmas.List.Folds.{concat-append}
use Rattle.std.specs.List.{concat}
use Rattle.emu_top.proofs.running.joined.Goals as goal

-- one piece more is joined
piece_step : (pieces : List (List ℕ)) (i : ℕ) (piece text longer : List ℕ) → i < length pieces → piece ≡ get_or pieces i piece → text ≡ concat (take i pieces) → longer ≡ text ++ piece →
    longer ≡ concat (take (i + 1) pieces)
piece_step pieces i piece text longer below is so_far grown =
    let split : take (i + 1) pieces ≡ take i pieces ++ (piece ∷ []) = rw add-one (take-suc pieces i piece below ∙ ap (λ x. take i pieces ++ (x ∷ [])) (sym is)) in
    let last : concat (piece ∷ []) ≡ piece = append-nil piece in
    grown ∙ ap (λ x. x ++ piece) so_far ∙ ap (λ x. concat (take i pieces) ++ x) (sym last) ∙ sym (concat-append (take i pieces) (piece ∷ [])) ∙ ap concat (sym split)

pub loop-piece-preserved : goal.loop-piece-preserved
loop-piece-preserved c =
    piece_step c.args.pieces.now c.loop-piece.piece-index c.piece-item.result c.loop-piece.text _ c.loop-piece-test.true c.piece-item.is c.loop-piece.invariant
    (c.in_ok-extend_from_slice.ensures.ok ∙ ap (λ x. c.loop-piece.text ++ x) c.as_slice.ensures)
