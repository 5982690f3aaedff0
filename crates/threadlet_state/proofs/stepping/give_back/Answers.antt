use Rattle.std.proofs.Common.{◌≡◌, ◌-◌, ◌+◌, ◌<◌, ◌∷◌, ap, sym, ◌∙◌, subst, arith, rules, length, take, refl, SFits, w64}
use Rattle.std.specs.Prelude.{reverse, slice_set}
use Rattle.std.proofs.lemmas.Int.{to_z-of_z}
use Rattle.threadlet_code.specs.Machine.{push}
use Rattle.threadlet_code.specs.declared.instr.Instr.TheVariants as by
use Rattle.threadlet_state.specs.declared.frame.Frame.{Frame}
use Rattle.threadlet_state.specs.Activations.{activation}
use Rattle.threadlet_state.specs.Fit.{IsLaidOut}
use Rattle.threadlet_state.proofs.Stacks.{reverse_more}
use Rattle.threadlet_state.proofs.Here.{IsDeepest, last_is, last_set, same_item, function_there, instr_there, enough, laid, caller_there}
use Rattle.threadlet_state.proofs.Stepped.{some_under, caller_laid, caller_room, stepped_return}
use Rattle.threadlet_state.proofs.stepping.give_back.Goals as goal

pub at-f-requires : goal.at-f-requires
at-f-requires c =
    let under = c.pop.new.self in
    let d : IsDeepest c.args.code.now c.args.frames.now c.in-Some.frame (reverse under) =
    record { sound = c.requires.sound; fit = c.requires.silent.fits; is = ap reverse c.in-Some.ensures ∙ reverse_more under c.in-Some.frame } in
    function_there d

pub pop-word-requires : goal.pop-word-requires
pop-word-requires c =
    let under = c.pop.new.self in
    let d : IsDeepest c.args.code.now c.args.frames.now c.in-Some.frame (reverse under) =
    record { sound = c.requires.sound; fit = c.requires.silent.fits; is = ap reverse c.in-Some.ensures ∙ reverse_more under c.in-Some.frame } in
    let f = c.at-f.result.now in
    record {
      laid = laid d f c.at-f.ensures;
      some = enough d f c.at-f.ensures by.Return (instr_there d f c.at-f.ensures by.Return c.requires.here) 1 refl;
    }

pub at-g-requires : goal.at-g-requires
at-g-requires c =
    let under = c.pop.new.self in
    let d : IsDeepest c.args.code.now c.args.frames.now c.in-Some.frame (reverse under) =
    record { sound = c.requires.sound; fit = c.requires.silent.fits; is = ap reverse c.in-Some.ensures ∙ reverse_more under c.in-Some.frame } in
    let on = c.requires.silent.silent in
    let f = c.at-f.result.now in
    let at_instr = instr_there d f c.at-f.ensures by.Return c.requires.here in
    let word = c.pop-word.result in
    let rest = activation f.slots c.pop-word.new.frame in
    let took = c.pop-word.ensures.popped in
    let n = c.len-caller.result in
    let size : length under ≡ n - 1 + 1 = omega (arith, c.len-caller.ensures, some_under d on f c.at-f.ensures at_instr word rest took under refl) in
    let caller = c.at.result.now in
    let others = reverse (take (n - 1) under) in
    let next_ones : reverse under ≡ caller ∷ others = last_is under (n - 1) caller size c.at.ensures in
    caller_there d caller others next_ones

pub push-requires-clause-laid : goal.push-requires-clause-laid
push-requires-clause-laid c =
    let under = c.pop.new.self in
    let d : IsDeepest c.args.code.now c.args.frames.now c.in-Some.frame (reverse under) =
    record { sound = c.requires.sound; fit = c.requires.silent.fits; is = ap reverse c.in-Some.ensures ∙ reverse_more under c.in-Some.frame } in
    let on = c.requires.silent.silent in
    let f = c.at-f.result.now in
    let at_instr = instr_there d f c.at-f.ensures by.Return c.requires.here in
    let word = c.pop-word.result in
    let rest = activation f.slots c.pop-word.new.frame in
    let took = c.pop-word.ensures.popped in
    let n = c.len-caller.result in
    let size : length under ≡ n - 1 + 1 = omega (arith, c.len-caller.ensures, some_under d on f c.at-f.ensures at_instr word rest took under refl) in
    let caller = c.at.result.now in
    let others = reverse (take (n - 1) under) in
    let next_ones : reverse under ≡ caller ∷ others = last_is under (n - 1) caller size c.at.ensures in
    let g = c.at-g.result.now in
    let again = same_item under (n - 1) caller c.at_mut.result.now c.at.ensures c.at_mut.ensures.item in
    subst (IsLaidOut g) again (caller_laid d on f c.at-f.ensures at_instr word rest took caller others next_ones g c.at-g.ensures)

pub push-requires-clause-room : goal.push-requires-clause-room
push-requires-clause-room c =
    let under = c.pop.new.self in
    let d : IsDeepest c.args.code.now c.args.frames.now c.in-Some.frame (reverse under) =
    record { sound = c.requires.sound; fit = c.requires.silent.fits; is = ap reverse c.in-Some.ensures ∙ reverse_more under c.in-Some.frame } in
    let on = c.requires.silent.silent in
    let f = c.at-f.result.now in
    let at_instr = instr_there d f c.at-f.ensures by.Return c.requires.here in
    let word = c.pop-word.result in
    let rest = activation f.slots c.pop-word.new.frame in
    let took = c.pop-word.ensures.popped in
    let n = c.len-caller.result in
    let size : length under ≡ n - 1 + 1 = omega (arith, c.len-caller.ensures, some_under d on f c.at-f.ensures at_instr word rest took under refl) in
    let caller = c.at.result.now in
    let others = reverse (take (n - 1) under) in
    let next_ones : reverse under ≡ caller ∷ others = last_is under (n - 1) caller size c.at.ensures in
    let g = c.at-g.result.now in
    let again = same_item under (n - 1) caller c.at_mut.result.now c.at.ensures c.at_mut.ensures.item in
    subst (λ (x : Frame). x.top < g.height) again (caller_room d on f c.at-f.ensures at_instr word rest took caller others next_ones g c.at-g.ensures)

pub returns-in-Some : goal.returns-in-Some
returns-in-Some c =
    let under = c.pop.new.self in
    let d : IsDeepest c.args.code.now c.args.frames.now c.in-Some.frame (reverse under) =
    record { sound = c.requires.sound; fit = c.requires.silent.fits; is = ap reverse c.in-Some.ensures ∙ reverse_more under c.in-Some.frame } in
    let on = c.requires.silent.silent in
    let f = c.at-f.result.now in
    let at_instr = instr_there d f c.at-f.ensures by.Return c.requires.here in
    let word = c.pop-word.result in
    let rest = activation f.slots c.pop-word.new.frame in
    let took = c.pop-word.ensures.popped in
    let n = c.len-caller.result in
    let size : length under ≡ n - 1 + 1 = omega (arith, c.len-caller.ensures, some_under d on f c.at-f.ensures at_instr word rest took under refl) in
    let caller = c.at.result.now in
    let others = reverse (take (n - 1) under) in
    let next_ones : reverse under ≡ caller ∷ others = last_is under (n - 1) caller size c.at.ensures in
    let g = c.at-g.result.now in
    let again = same_item under (n - 1) caller c.at_mut.result.now c.at.ensures c.at_mut.ensures.item in
    let next = c.push.new.frame in
    let word_fits : SFits w64 word = search rules in
    stepped_return d on f c.at-f.ensures at_instr word rest took caller others next_ones g c.at-g.ensures
    (slice_set under (n - 1) next) next (last_set under (n - 1) next size)
    (c.push.ensures.function ∙ ap (λ (x : Frame). x.function) (sym again))
    (c.push.ensures.pushed
    ∙ ap (λ w. push w (activation g.slots c.at_mut.result.now)) (to_z-of_z w64 word word_fits)
    ∙ ap (λ (x : Frame). push word (activation g.slots x)) (sym again))
    c.push.ensures.laid
