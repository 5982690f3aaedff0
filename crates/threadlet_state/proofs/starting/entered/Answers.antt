use Rattle.std.proofs.Common.{◌≡◌, ℕ, ◌+◌, ◌-◌, ◌++◌, length, List, take, ap, ◌∙◌, arith, pos, ℤ, vec_len}
use Rattle.std.specs.Prelude.{replicate}
use Rattle.std.proofs.lemmas.List.{take_all}
use Rattle.threadlet_state.specs.Activations.{activation}
use Rattle.threadlet_state.proofs.Entering.{entered_is}
use Rattle.threadlet_state.proofs.starting.entered.Goals as goal

pub returns-clause-entered : goal.returns-clause-entered
returns-clause-entered c =
    let f = c.args.f.now in
    let args = c.args.args.now in
    let size : ℕ = f.slots + f.height in
    let given : c.extend_from_slice.new.self.items ≡ args = c.in_ok-extend_from_slice.ensures.items ∙ ap (λ l. l ++ args) c.in_ok-words.ensures.items in
    let many : vec_len c.extend_from_slice.new.self ≡ length args = omega (arith, c.in_ok-extend_from_slice.ensures.len, c.in_ok-words.ensures.len) in
    let words : c.from_vec.result ≡ args ++ replicate (size - length args) (pos 0) =
    c.from_vec.ensures ∙ c.in_ok-resize.ensures.items
    ∙ ap (λ l. take size l ++ replicate (size - vec_len c.extend_from_slice.new.self) (pos 0)) given
    ∙ ap (λ k. take size args ++ replicate (size - k) (pos 0)) many
    ∙ ap (λ l. l ++ replicate (size - length args) (pos 0)) (take_all size args (omega (arith, c.requires))) in
    ap (λ (l : List ℤ). activation f.slots (record { function = c.args.function; at = 0; words = l; top = 0; targets = c.new.result })) words
    ∙ ap (λ t. activation f.slots (record { function = c.args.function; at = 0; words = args ++ replicate (size - length args) (pos 0); top = 0; targets = t })) c.new.ensures
    ∙ entered_is c.args.function f args c.requires
