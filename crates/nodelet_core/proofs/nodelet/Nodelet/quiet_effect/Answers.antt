use Rattle.std.proofs.Common.{◌≡◌, ◌≢◌, ℤ, pos, [], ◌∷◌, true, false, Result, refl, sym, ap, ◌∙◌, subst, to_z, of_z, w64, rules}
use Rattle.std.specs.Result.{OnOk}
use Rattle.std.proofs.lemmas.Int.{to_z-of_z}
use Rattle.word_ops.specs.declared.place.Pos.{Pos}
use Rattle.word_ops.specs.declared.ending.TrapKind.{TrapKind}
use Rattle.mem_atomics.specs.declared.fetch_op.FetchOp.{FetchOp}
use Rattle.threadlet_code.specs.declared.code.Code.{Code}
use Rattle.threadlet_state.specs.declared.context.Context as carried
use Rattle.nodelet_core.specs.declared.nodelet.Nodelet.{Nodelet}
use Rattle.nodelet_core.specs.declared.due.Due.{Due}
use Rattle.nodelet_core.specs.declared.due.Due.TheVariants as due
use Rattle.nodelet_core.specs.Left.{Sent}
use Rattle.nodelet_core.specs.code.Doing.{IsDueHere, HadEffect, PassesWith, is_quiet}
use Rattle.nodelet_core.proofs.Doing.{had_trapped}
use Rattle.nodelet_core.proofs.nodelet.Nodelet.quiet_effect.Goals as goal

-- What decides of the action goes by another name.
told_so : {T E : Type 0} (r : Result T E) (code : Code) (before after : Nodelet) (x : carried.Context) (d e : Due) → e ≡ d →
    OnOk r ((sent : Sent) → HadEffect code before after sent sent x d) → OnOk r ((sent : Sent) → HadEffect code before after sent sent x e)
told_so r code before after x d e same = subst (λ z. OnOk r ((sent : Sent) → HadEffect code before after sent sent x z)) (sym same)

pub returns-in-Turn-clause-ok : goal.returns-in-Turn-clause-ok
returns-in-Turn-clause-ok c = told_so c.serve_turn.result c.args.code.now.code c.args.self.now c.serve_turn.new.self c.args.context due.Turn c.args.due c.in-Turn.is c.serve_turn.ensures.ok

pub returns-in-Load-clause-ok : goal.returns-in-Load-clause-ok
returns-in-Load-clause-ok c =
    let at : to_z w64 (of_z w64 c.in-Load.address) ≡ c.in-Load.address = search rules in
    told_so c.load.result c.args.code.now.code c.args.self.now c.load.new.self c.args.context (due.Load c.in-Load.pos (to_z w64 (of_z w64 c.in-Load.address))) c.args.due
    (c.in-Load.is ∙ ap (due.Load c.in-Load.pos) (sym at)) c.load.ensures.ok

pub returns-in-Fetch-clause-ok : goal.returns-in-Fetch-clause-ok
returns-in-Fetch-clause-ok c =
    let at : to_z w64 (of_z w64 c.in-Fetch.address) ≡ c.in-Fetch.address = search rules in
    told_so c.exchange.result c.args.code.now.code c.args.self.now c.exchange.new.self c.args.context
    (due.Fetch c.in-Fetch.pos c.in-Fetch.fetch (to_z w64 (of_z w64 c.in-Fetch.address))) c.args.due
    (c.in-Fetch.is ∙ ap (due.Fetch c.in-Fetch.pos c.in-Fetch.fetch) (sym at)) c.exchange.ensures.ok

pub returns-in-Print-clause-ok : goal.returns-in-Print-clause-ok
returns-in-Print-clause-ok c = told_so c.print.result c.args.code.now.code c.args.self.now c.print.new.self c.args.context due.Print c.args.due c.in-Print.is c.print.ensures.ok

pub returns-in-Sync-clause-ok : goal.returns-in-Sync-clause-ok
returns-in-Sync-clause-ok c = told_so c.join.result c.args.code.now.code c.args.self.now c.join.new.self c.args.context due.Sync c.args.due c.in-Sync.is c.join.ensures.ok

pub returns-in-Trap-clause-ok : goal.returns-in-Trap-clause-ok
returns-in-Trap-clause-ok c = λ sent.
    subst (HadEffect c.args.code.now.code c.args.self.now c.trap.new.self sent sent c.args.context) (sym c.in-Trap.is)
    (had_trapped c.args.code.now.code c.args.self.now c.trap.new.self c.args.context sent c.in-Trap.pos c.in-Trap.kind c.trap.ensures)

-- What is left of what sends nothing is a Fence or a Move.
rest_passes : (v : Nodelet) (d : Due) → is_quiet d ≡ true → d ≢ due.Turn → ((at : Pos) (a : ℤ) → d ≢ due.Load at a) → ((at : Pos) (f : FetchOp) (a : ℤ) → d ≢ due.Fetch at f a) →
    d ≢ due.Where → d ≢ due.Print → d ≢ due.Sync → ((at : Pos) (kind : TrapKind) → d ≢ due.Trap at kind) → PassesWith v d []
rest_passes v due.Fence quiet turns loads fetches wheres prints syncs traps = refl
rest_passes v (due.Move at a) quiet turns loads fetches wheres prints syncs traps = refl
rest_passes v due.Turn quiet turns loads fetches wheres prints syncs traps = absurd (turns refl)
rest_passes v (due.Load at a) quiet turns loads fetches wheres prints syncs traps = absurd (loads at a refl)
rest_passes v (due.Fetch at f a) quiet turns loads fetches wheres prints syncs traps = absurd (fetches at f a refl)
rest_passes v due.Where quiet turns loads fetches wheres prints syncs traps = absurd (wheres refl)
rest_passes v due.Print quiet turns loads fetches wheres prints syncs traps = absurd (prints refl)
rest_passes v due.Sync quiet turns loads fetches wheres prints syncs traps = absurd (syncs refl)
rest_passes v (due.Trap at kind) quiet turns loads fetches wheres prints syncs traps = absurd (traps at kind refl)
rest_passes v other quiet turns loads fetches wheres prints syncs traps = absurd (let wrong : false ≡ true = quiet in cc)

pub pass-requires-in_default-clause-passes : goal.pass-requires-in_default-clause-passes
pass-requires-in_default-clause-passes c =
    rest_passes c.args.self.now c.args.due c.requires.quiet c.in_default.not-Turn c.in_default.not-Load c.in_default.not-Fetch c.in_default.not-Where c.in_default.not-Print
    c.in_default.not-Sync c.in_default.not-Trap

pub pass-requires-clause-passes : goal.pass-requires-clause-passes
pass-requires-clause-passes c =
    let told : to_z w64 (of_z w64 c.from-here.result) ≡ pos c.args.self.now.number =
    to_z-of_z w64 c.from-here.result (record { sfits = c.from-here.type_inv }) ∙ c.from-here.ensures in
    subst (λ d. PassesWith c.args.self.now d (to_z w64 (of_z w64 c.from-here.result) ∷ [])) (sym c.in-Where.is) (ap (λ z. z ∷ []) told)

-- A context that is due an action is due it by another name.
due_so : (code : Code) (v : Nodelet) (x : carried.Context) (d e : Due) → d ≡ e → IsDueHere code v x d → IsDueHere code v x e
due_so code v x d e same = subst (IsDueHere code v x) same

pub serve_turn-requires : goal.serve_turn-requires
serve_turn-requires c = record { due = due_so c.args.code.now.code c.args.self.now c.args.context c.args.due due.Turn c.in-Turn.is c.requires.due }

pub load-requires : goal.load-requires
load-requires c =
    let at : to_z w64 (of_z w64 c.in-Load.address) ≡ c.in-Load.address = search rules in
    record {
      due = due_so c.args.code.now.code c.args.self.now c.args.context c.args.due (due.Load c.in-Load.pos (to_z w64 (of_z w64 c.in-Load.address)))
          (c.in-Load.is ∙ ap (due.Load c.in-Load.pos) (sym at)) c.requires.due;
    }

pub exchange-requires : goal.exchange-requires
exchange-requires c =
    let at : to_z w64 (of_z w64 c.in-Fetch.address) ≡ c.in-Fetch.address = search rules in
    record {
      due = due_so c.args.code.now.code c.args.self.now c.args.context c.args.due (due.Fetch c.in-Fetch.pos c.in-Fetch.fetch (to_z w64 (of_z w64 c.in-Fetch.address)))
          (c.in-Fetch.is ∙ ap (due.Fetch c.in-Fetch.pos c.in-Fetch.fetch) (sym at)) c.requires.due;
    }

pub print-requires : goal.print-requires
print-requires c = record { due = due_so c.args.code.now.code c.args.self.now c.args.context c.args.due due.Print c.in-Print.is c.requires.due }

pub join-requires : goal.join-requires
join-requires c = record { due = due_so c.args.code.now.code c.args.self.now c.args.context c.args.due due.Sync c.in-Sync.is c.requires.due }

pub trap-requires-clause-stamp : goal.trap-requires-clause-stamp
trap-requires-clause-stamp c = c.requires.due.stands.stamp

pub trap-requires-clause-from : goal.trap-requires-clause-from
trap-requires-clause-from c = λ i e. absurd cc

pub pass-requires-clause-due : goal.pass-requires-clause-due
pass-requires-clause-due c = c.requires.due

pub pass-requires-in_default-clause-due : goal.pass-requires-in_default-clause-due
pass-requires-in_default-clause-due c = c.requires.due
