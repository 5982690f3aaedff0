use Rattle.std.proofs.Common.{codes, ap, sym}
use Rattle.cilk_model.specs.Signs.{builtin_spelling}
use Rattle.cilk_print.proofs.spellings.builtin.Goals as goal

pub returns-in-MwMalloc1dlong : goal.returns-in-MwMalloc1dlong
returns-in-MwMalloc1dlong c = sym (ap (λ o. codes (builtin_spelling o)) c.in-MwMalloc1dlong.is)

pub returns-in-MwMalloc2dlong : goal.returns-in-MwMalloc2dlong
returns-in-MwMalloc2dlong c = sym (ap (λ o. codes (builtin_spelling o)) c.in-MwMalloc2dlong.is)

pub returns-in-MwLocalmalloc : goal.returns-in-MwLocalmalloc
returns-in-MwLocalmalloc c = sym (ap (λ o. codes (builtin_spelling o)) c.in-MwLocalmalloc.is)

pub returns-in-MwMallocrepl : goal.returns-in-MwMallocrepl
returns-in-MwMallocrepl c = sym (ap (λ o. codes (builtin_spelling o)) c.in-MwMallocrepl.is)

pub returns-in-MwReplicatedInit : goal.returns-in-MwReplicatedInit
returns-in-MwReplicatedInit c = sym (ap (λ o. codes (builtin_spelling o)) c.in-MwReplicatedInit.is)

pub returns-in-RemoteAdd : goal.returns-in-RemoteAdd
returns-in-RemoteAdd c = sym (ap (λ o. codes (builtin_spelling o)) c.in-RemoteAdd.is)

pub returns-in-RemoteAnd : goal.returns-in-RemoteAnd
returns-in-RemoteAnd c = sym (ap (λ o. codes (builtin_spelling o)) c.in-RemoteAnd.is)

pub returns-in-RemoteOr : goal.returns-in-RemoteOr
returns-in-RemoteOr c = sym (ap (λ o. codes (builtin_spelling o)) c.in-RemoteOr.is)

pub returns-in-RemoteXor : goal.returns-in-RemoteXor
returns-in-RemoteXor c = sym (ap (λ o. codes (builtin_spelling o)) c.in-RemoteXor.is)

pub returns-in-RemoteMin : goal.returns-in-RemoteMin
returns-in-RemoteMin c = sym (ap (λ o. codes (builtin_spelling o)) c.in-RemoteMin.is)

pub returns-in-RemoteMax : goal.returns-in-RemoteMax
returns-in-RemoteMax c = sym (ap (λ o. codes (builtin_spelling o)) c.in-RemoteMax.is)

pub returns-in-AtomicAddms : goal.returns-in-AtomicAddms
returns-in-AtomicAddms c = sym (ap (λ o. codes (builtin_spelling o)) c.in-AtomicAddms.is)

pub returns-in-AtomicSwap : goal.returns-in-AtomicSwap
returns-in-AtomicSwap c = sym (ap (λ o. codes (builtin_spelling o)) c.in-AtomicSwap.is)

pub returns-in-AtomicCas : goal.returns-in-AtomicCas
returns-in-AtomicCas c = sym (ap (λ o. codes (builtin_spelling o)) c.in-AtomicCas.is)

pub returns-in-Fence : goal.returns-in-Fence
returns-in-Fence c = sym (ap (λ o. codes (builtin_spelling o)) c.in-Fence.is)

pub returns-in-Migrate : goal.returns-in-Migrate
returns-in-Migrate c = sym (ap (λ o. codes (builtin_spelling o)) c.in-Migrate.is)

pub returns-in-NodeId : goal.returns-in-NodeId
returns-in-NodeId c = sym (ap (λ o. codes (builtin_spelling o)) c.in-NodeId.is)
