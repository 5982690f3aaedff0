-- What a legal event was: a run of a context, or a take of the first packet of a link.
use Rattle.std.proofs.Common.{◌≡◌, ℕ, ◌+◌, ◌<◌, List, [], ◌∷◌, Option, Some, refl, ap, ◌∙◌, arith, true, ◌&&◌, nat_lt, max, option_map}
use Rattle.std.proofs.lemmas.Bool.Decides.{nat_tests}
use Rattle.word_ops.specs.declared.name.Name.{Name}
use Rattle.word_ops.specs.declared.step.NodeEvent.TheVariants as node
use Rattle.merge_law.specs.declared.event.Event.{Event}
use Rattle.merge_law.specs.declared.event.Event.TheVariants.{Run, Take}
use Rattle.merge_law.specs.Machine.{Raw, Outcome, last_stamp, is_linked, stamped, run_at, take_at}
use Rattle.merge_law.specs.Core.{After, leaving, but_from, take_first, advance, core_after, after}
use Rattle.merge_law.proofs.Somes.{FromIf, FromMap, from_if, from_map, some_is}
use Rattle.core_model.specs.Contexts.{Body}
use Rattle.core_model.specs.Nodes.{Setup, Node}
use Rattle.core_model.specs.Runs.{run}
use Rattle.core_model.specs.Takes.{take}
use Rattle.core_model.specs.Machine.{Packet, machine_of}
use Rattle.core_model.specs.Core.{Core}

-- ---- runs

-- the stamp of a run at nodelet k
abbrev pub run_stamp : Core → ℕ → ℕ
run_stamp c k = (c.nodes k).stamp + 1

-- the core and the entry after a run of a strand at nodelet k that made this
abbrev pub ran : Setup → Core → ℕ → Name → Raw Node Body → After Node Packet
ran u c k q raw = core_after c k (leaving (λ o. c.links o k) (stamped (machine_of u) k (run_stamp c k) (λ count. node.Run q count) raw))

pub record HasRun (u : Setup) (c : Core) (k : ℕ) (q : Name) (a : After Node Packet) : Type 0 where
  pub inside : k < u.nodelets
  pub in_time : nat_lt (c.nodes k).stamp last_stamp ≡ true
  pub raw : Raw Node Body
  pub made : run u k (c.nodes k) q ≡ Some raw
  pub is : ran u c k q raw ≡ a

-- ---- takes

-- the stamp of a take of a packet at nodelet k
abbrev pub take_stamp : Core → ℕ → Packet → ℕ
take_stamp c k p = max (c.nodes k).stamp p.stamp + 1

abbrev pub taken : Setup → Core → ℕ → ℕ → Packet → Raw Node Body
taken u c from k p = take u k (c.nodes k) from p.body

-- the core and the entry after a take at nodelet k of the first packet from a nodelet
abbrev pub took : Setup → Core → ℕ → ℕ → Packet → List Packet → After Node Packet
took u c from k p rest =
    core_after c k (leaving (but_from from rest (λ o. c.links o k)) (stamped (machine_of u) k (take_stamp c k p) (λ _. node.Take from) (taken u c from k p)))

pub record HasTaken (u : Setup) (c : Core) (from k : ℕ) (a : After Node Packet) : Type 0 where
  pub linked : is_linked u.nodelets from k ≡ true
  pub packet : Packet
  pub rest : List Packet
  pub first : c.links from k ≡ packet ∷ rest
  pub in_time : (nat_lt (c.nodes k).stamp last_stamp && nat_lt packet.stamp last_stamp) ≡ true
  pub is : took u c from k packet rest ≡ a

-- ---- events

abbrev pub Happened : Setup → Core → Event → After Node Packet → Type 0
Happened u c (Run k q) a = HasRun u c k q a
Happened u c (Take from k) a = HasTaken u c from k a

run_happened : (u : Setup) (c : Core) (k : ℕ) (q : Name) (a : After Node Packet) → after (machine_of u) c (Run k q) ≡ Some a → HasRun u c k q a
run_happened u c k q a e = record {
  inside = below inner.test;
  in_time = timed.test;
  raw = made.value;
  made = made.was;
  is = ap (λ o. core_after c k (leaving (λ o. c.links o k) o)) made.is ∙ ap (core_after c k) kept.is ∙ outer.is;
}
  where
    run_made : Option (Outcome Node Packet)
    run_made = option_map (stamped (machine_of u) k (run_stamp c k) (λ count. node.Run q count)) (run u k (c.nodes k) q)

    outer : FromMap (core_after c k) (advance (machine_of u) (c.nodes k) (λ o. c.links o k) (Run k q)) a
    outer = from_map (core_after c k) (advance (machine_of u) (c.nodes k) (λ o. c.links o k) (Run k q)) a e

    inner : FromIf (nat_lt k u.nodelets) (option_map (leaving (λ o. c.links o k)) (run_at (machine_of u) k (c.nodes k) q)) outer.value
    inner = from_if (nat_lt k u.nodelets) (option_map (leaving (λ o. c.links o k)) (run_at (machine_of u) k (c.nodes k) q)) outer.value outer.was

    kept : FromMap (leaving (λ o. c.links o k)) (run_at (machine_of u) k (c.nodes k) q) outer.value
    kept = from_map (leaving (λ o. c.links o k)) (run_at (machine_of u) k (c.nodes k) q) outer.value inner.was

    timed : FromIf (nat_lt (c.nodes k).stamp last_stamp) run_made kept.value
    timed = from_if (nat_lt (c.nodes k).stamp last_stamp) run_made kept.value kept.was

    made : FromMap (stamped (machine_of u) k (run_stamp c k) (λ count. node.Run q count)) (run u k (c.nodes k) q) kept.value
    made = from_map (stamped (machine_of u) k (run_stamp c k) (λ count. node.Run q count)) (run u k (c.nodes k) q) kept.value timed.was

    below : nat_lt k u.nodelets ≡ true → k < u.nodelets
    below f = grind (arith, nat_tests)

take_happened : (u : Setup) (c : Core) (from k : ℕ) (a : After Node Packet) → after (machine_of u) c (Take from k) ≡ Some a → HasTaken u c from k a
take_happened u c from k a e = go (c.links from k) refl inner.was
  where
    outer : FromMap (core_after c k) (advance (machine_of u) (c.nodes k) (λ o. c.links o k) (Take from k)) a
    outer = from_map (core_after c k) (advance (machine_of u) (c.nodes k) (λ o. c.links o k) (Take from k)) a e

    inner : FromIf (is_linked u.nodelets from k) (take_first (machine_of u) k (c.nodes k) from (λ o. c.links o k) (c.links from k)) outer.value
    inner = from_if (is_linked u.nodelets from k) (take_first (machine_of u) k (c.nodes k) from (λ o. c.links o k) (c.links from k)) outer.value outer.was

    go : (l : List Packet) → c.links from k ≡ l → take_first (machine_of u) k (c.nodes k) from (λ o. c.links o k) l ≡ Some outer.value → HasTaken u c from k a
    go [] f g = absurd cc
    go (p ∷ rest) f g =
        let kept = from_map (leaving (but_from from rest (λ o. c.links o k))) (take_at (machine_of u) k (c.nodes k) from p) outer.value g in
        let timed = from_if (nat_lt (c.nodes k).stamp last_stamp && nat_lt p.stamp last_stamp) (option_map (stamped (machine_of u) k (take_stamp c k p) (λ _. node.Take from)) (Some (taken u c from k p))) kept.value kept.was in
        record {
          linked = inner.test;
          packet = p;
          rest = rest;
          first = f;
          in_time = timed.test;
          is = ap (λ o. core_after c k (leaving (but_from from rest (λ o. c.links o k)) o)) (some_is _ _ timed.was) ∙ ap (core_after c k) kept.is ∙ outer.is;
        }

-- every legal event is one of these
pub happened : (u : Setup) (c : Core) (event : Event) (a : After Node Packet) → after (machine_of u) c event ≡ Some a → Happened u c event a
happened u c (Run k q) a e = run_happened u c k q a e
happened u c (Take from k) a e = take_happened u c from k a e
