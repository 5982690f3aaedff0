use Rattle.std.proofs.Common.{◌≡◌, ◌∙◌, ap, sym, subst, inl, inr, [], map, string_bytes, Global}
use Rattle.clap.specs.Words.{App, IsAmong, app_of, fault_of, kind_of, is_simple, is_simple_and_free, matches_of}
use Rattle.emu_words.specs.Line.{emu_app}
use Rattle.emu_words.proofs.CommandLemmas.{its_faults_are_stated, its_matches_are_stated}
use Rattle.emu_words.proofs.reading.matched.Goals as goal

pub returns-in-Ok-try_get_matches_from-clause-ok : goal.returns-in-Ok-try_get_matches_from-clause-ok
returns-in-Ok-try_get_matches_from-clause-ok c =
    let texts = map (string_bytes {Z = Global}) c.args.words.now in
    let app_is : app_of c.in-Ok.command ≡ emu_app = c.in-Ok.ensures in
    let parse = c.in-Ok-try_get_matches_from.ensures in (
      sym (ap (λ (app : App). fault_of app texts) app_is) ∙ parse.kinds (ap is_simple_and_free app_is ∙ its_faults_are_stated),
      (parse.matches (ap is_simple app_is ∙ its_matches_are_stated)).0 ∙ ap (λ (app : App). matches_of app texts) app_is,
    )

pub returns-in-Err-clause-bad : goal.returns-in-Err-clause-bad
returns-in-Err-clause-bad c bad none =
    let texts = map (string_bytes {Z = Global}) c.args.words.now in
    let app_is : app_of c.in-Ok.command ≡ emu_app = c.in-Ok.ensures in
    let kinds = c.in-Err.ensures.kinds (ap is_simple_and_free app_is ∙ its_faults_are_stated) in
    let fault : fault_of (app_of c.in-Ok.command) texts ≡ [] = ap (λ (app : App). fault_of app texts) app_is ∙ none in
    elim kinds [
      | inl memory ↦ c.refusal_of.ensures bad memory
      | inr among ↦ subst (IsAmong (kind_of c.in-Err.error)) fault among
    ]
