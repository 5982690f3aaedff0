use Rattle.std.proofs.Common.{◌≡◌, inl, inr, ◌≢◌, ℕ, suc, ℤ, true, Result, Option, refl, sym, ap, ◌∙◌, subst, to_z, of_z, w64, rules}
use Rattle.std.specs.Result.{OnOk}
use Rattle.std.proofs.lemmas.Result.{on_ok_weaker, on_err_weaker}
use Rattle.word_ops.specs.declared.place.Pos.{Pos}
use Rattle.mem_atomics.specs.declared.op.Op.{Op}
use Rattle.threadlet_code.specs.declared.code.Code.{Code}
use Rattle.threadlet_state.specs.declared.context.Context as carried
use Rattle.nodelet_core.specs.declared.nodelet.Nodelet.{Nodelet}
use Rattle.nodelet_core.specs.declared.due.Due.{Due}
use Rattle.nodelet_core.specs.declared.due.Due.TheVariants as due
use Rattle.nodelet_core.specs.declared.due.Hint.{Hint}
use Rattle.nodelet_core.specs.declared.due.Request.{Request}
use Rattle.nodelet_core.specs.Carried.{context_in}
use Rattle.core_model.specs.Effects.{ended}
use Rattle.core_model.specs.Runs.{gone}
use Rattle.nodelet_core.specs.Kept.{node_of, IsUnchanged}
use Rattle.nodelet_core.specs.Left.{Sent}
use Rattle.nodelet_core.specs.code.Doing.{Left, IsDueHere, HadEffect, is_quiet, is_post}
use Rattle.nodelet_core.proofs.Resuming.{end_free}
use Rattle.nodelet_core.proofs.Doing.{had_ended}
use Rattle.nodelet_core.proofs.nodelet.Nodelet.effect.Goals as goal

-- What decides of the action goes by another name.
told_so : {T E : Type 0} (r : Result T E) (code : Code) (before after : Nodelet) (sent_before sent_after : Sent) (x : carried.Context) (d e : Due) → e ≡ d →
    OnOk r (HadEffect code before after sent_before sent_after x d) → OnOk r (HadEffect code before after sent_before sent_after x e)
told_so r code before after sent_before sent_after x d e same = subst (λ z. OnOk r (HadEffect code before after sent_before sent_after x z)) (sym same)

pub returns-in-Alloc-clause-ok : goal.returns-in-Alloc-clause-ok
returns-in-Alloc-clause-ok g c =
    told_so c.allocate.result c.args.code.now.code c.args.self.now c.allocate.new.self (g.O.Outlet.sent c.args.out.now) (g.O.Outlet.sent c.allocate.new.out) c.args.context
    (due.Alloc c.in-Alloc.request) c.args.due c.in-Alloc.is c.allocate.ensures.ok

pub returns-in-Spawn-clause-ok : goal.returns-in-Spawn-clause-ok
returns-in-Spawn-clause-ok g c =
    told_so c.spawn.result c.args.code.now.code c.args.self.now c.spawn.new.self (g.O.Outlet.sent c.args.out.now) (g.O.Outlet.sent c.spawn.new.out) c.args.context
    (due.Spawn c.in-Spawn.hint) c.args.due c.in-Spawn.is c.spawn.ensures.ok

pub returns-in-End-clause-ok : goal.returns-in-End-clause-ok
returns-in-End-clause-ok g c =
    let code = c.args.code.now.code in
    let v = c.args.self.now in
    let x = c.args.context in
    let value = to_z w64 (of_z w64 c.in-End.value) in
    let same : value ≡ c.in-End.value = search rules in
    told_so c.end.result code v c.end.new.self (g.O.Outlet.sent c.args.out.now) (g.O.Outlet.sent c.end.new.out) x (due.End value) c.args.due
    (c.in-End.is ∙ ap due.End (sym same))
    (on_ok_weaker c.end.result
    (λ (h : (code : Code) (count : ℕ) → Left code (suc v.stamp) v c.end.new.self (g.O.Outlet.sent c.args.out.now) (g.O.Outlet.sent c.end.new.out)
    (gone (context_in code x) count (ended v.number (node_of code v) x.ticket value))).
    had_ended code v c.end.new.self x (g.O.Outlet.sent c.args.out.now) (g.O.Outlet.sent c.end.new.out) value (h code))
    c.end.ensures.ok)

pub returns-in_default : goal.returns-in_default
returns-in_default g c = record {
  ok = on_ok_weaker c.quiet_effect.result
      (λ (h : (sent : Sent) → HadEffect c.args.code.now.code c.args.self.now c.quiet_effect.new.self sent sent c.args.context c.args.due). h (g.O.Outlet.sent c.args.out.now))
      c.quiet_effect.ensures.ok;
  err = c.quiet_effect.ensures.err;
  not_sent = on_err_weaker c.quiet_effect.result (λ (h : IsUnchanged c.args.self.now c.quiet_effect.new.self). λ (k : ℕ). refl) c.quiet_effect.ensures.err;
  reaches = λ k. refl;
  made = λ k. refl;
}

pub end-requires-clause-free : goal.end-requires-clause-free
end-requires-clause-free g c =
    end_free c.args.code.now.code c.args.self.now c.args.context c.in-End.value (subst (IsDueHere c.args.code.now.code c.args.self.now c.args.context) c.in-End.is c.requires.due)

-- What is left sends nothing.
rest_quiet : (d : Due) → ((at : Pos) (op : Op) (a w : ℤ) → d ≢ due.Issue at op a w) → ((at : Pos) (a w : ℤ) → d ≢ due.Init at a w) → ((r : Request) → d ≢ due.Alloc r) →
    ((hint : Option Hint) → d ≢ due.Spawn hint) → ((value : ℤ) → d ≢ due.End value) → is_quiet d ≡ true
rest_quiet (due.Issue at op a w) issues inits allocs spawns ends = absurd (issues at op a w refl)
rest_quiet (due.Init at a w) issues inits allocs spawns ends = absurd (inits at a w refl)
rest_quiet (due.Alloc r) issues inits allocs spawns ends = absurd (allocs r refl)
rest_quiet (due.Spawn hint) issues inits allocs spawns ends = absurd (spawns hint refl)
rest_quiet (due.End value) issues inits allocs spawns ends = absurd (ends value refl)
rest_quiet other issues inits allocs spawns ends = refl

pub quiet_effect-requires-clause-quiet : goal.quiet_effect-requires-clause-quiet
quiet_effect-requires-clause-quiet g c =
    rest_quiet c.args.due c.in_default.not-Issue c.in_default.not-Init c.in_default.not-Alloc c.in_default.not-Spawn c.in_default.not-End

pub post-requires-clause-post : goal.post-requires-clause-post
post-requires-clause-post g c = elim c.in-Issue.is [ inl e ↦ ap is_post e.4 | inr e ↦ ap is_post e.3 ]

pub allocate-requires-clause-due : goal.allocate-requires-clause-due
allocate-requires-clause-due g c = subst (IsDueHere c.args.code.now.code c.args.self.now c.args.context) c.in-Alloc.is c.requires.due

pub spawn-requires-clause-due : goal.spawn-requires-clause-due
spawn-requires-clause-due g c = subst (IsDueHere c.args.code.now.code c.args.self.now c.args.context) c.in-Spawn.is c.requires.due

pub post-requires-clause-due : goal.post-requires-clause-due
post-requires-clause-due g c = c.requires.due

pub quiet_effect-requires-clause-due : goal.quiet_effect-requires-clause-due
quiet_effect-requires-clause-due g c = c.requires.due

pub end-requires-clause-stamp : goal.end-requires-clause-stamp
end-requires-clause-stamp g c = c.requires.due.stands.stamp

pub end-requires-clause-among : goal.end-requires-clause-among
end-requires-clause-among g c = c.requires.due.stands.among
