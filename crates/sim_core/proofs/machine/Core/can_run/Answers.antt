use Rattle.std.proofs.Common.{◌≡◌, Option, Some, None, refl, sym, ap, ◌∙◌, ◌&&◌, nat_lt, is_some}
use Rattle.std.proofs.lemmas.Bool.{lt-ltb}
use denote.Enum.Bare.{sameb}
use Rattle.merge_law.specs.Machine.{last_stamp}
use Rattle.nodelet_core.specs.contracts.next.Next.{the_type}
use Rattle.nodelet_core.specs.declared.next.Next.TheVariants.{Goes}
use Rattle.nodelet_core.specs.Kept.{node_of, setup_of, next_by}
use Rattle.core_model.specs.Runs.{run}
use Rattle.sim_core.proofs.Legal.{fits_there, run_legal_there}
use Rattle.sim_core.proofs.machine.Core.can_run.Goals as goal

pub next-requires : goal.next-requires
next-requires c = record { fits = fits_there c.args.code.now.code c.args.self.now c.args.k c.node-nodelet.result.now c.node-nodelet.ensures c.requires.fits }

goes_seen : {A : Type 0} (o : Option A) → sameb the_type (next_by o) Goes ≡ is_some o
goes_seen None = refl
goes_seen (Some x) = refl

pub returns-then-stamp-lt18446744073709551615 : goal.returns-then-stamp-lt18446744073709551615
returns-then-stamp-lt18446744073709551615 c =
    let code = c.args.code.now.code in
    let v = c.node-nodelet.result.now in
    let can = run (setup_of code v) v.number (node_of code v) c.args.name in
    c.eq.ensures
    ∙ ap (λ next. sameb the_type next Goes) c.next.ensures
    ∙ goes_seen can
    ∙ sym (ap (λ t. t && is_some can) (ap (λ s. nat_lt s last_stamp) (sym c.stamp.ensures) ∙ lt-ltb c.stamp.result last_stamp c.if-stamp-lt18446744073709551615.true))
    ∙ sym (run_legal_there code c.args.self.now c.args.k v c.node-nodelet.ensures c.args.name c.requires.there)
