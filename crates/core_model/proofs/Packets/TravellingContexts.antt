-- A context on a link is that of a live strand.
use Rattle.std.proofs.Common.{◌≡◌, ℕ, zero, suc, List, [], ◌∷◌, Option, Some, None, refl, sym, ap, ◌∙◌, subst, arith, true, length, Contains}
use Rattle.std.specs.Prelude.{if◌then◌else◌}
use Rattle.merge_law.proofs.Somes.{some_is}
use Rattle.threadlet_code.specs.Breaches.{is_sound}
use Rattle.world_model.specs.World.{Live, Strand, World, strand_of}
use Rattle.world_model.specs.Run.{start}
use Rattle.world_model.proofs.Names.{same_name_refl}
use Rattle.core_model.specs.Contexts.{Context, Arrival}
use Rattle.core_model.specs.Nodes.{Setup}
use Rattle.core_model.specs.Machine.{Packet}
use Rattle.core_model.specs.Core.{Core, start_core, setting_of}
use Rattle.core_model.specs.Strands.{TravellersAreOf, ContextsTravel}
use Rattle.core_model.proofs.Invariant.Links.{with_first, parts}
use Rattle.core_model.proofs.Invariant.Views.{view, arrival_of}
use Rattle.core_model.proofs.Invariant.StrandStates.{IsStateOf, due_is}
use Rattle.core_model.proofs.Invariant.Statement.{Invariant}
use Rattle.core_model.proofs.Events.TakeContext.{OnWay, on_way}
use Rattle.core_model.proofs.Invariant.Agreement.{always_due}
use Rattle.core_model.proofs.Census.LiveStrands.{contains-first, contains-later}
use Rattle.core_model.proofs.Events.Play.{KeptBy, play_kept}
use Rattle.core_model.proofs.Invariant.Start.{starts}

-- the one that a list has
only_one : (x y : Context) (more : List Context) → more ≡ [] → Contains (y ∷ more) x → y ≡ x
only_one x y more none (zero, less, e) = e
only_one x y more none (suc k, less, e) = absurd (let z : length more ≡ 0 = ap length none in omega arith)

-- a context in a packet is among those of its name
among_parts : (ps : List Packet) (p : Packet) (x : Context) → Contains ps p → p.body ≡ Arrival x → Contains (parts (arrival_of x.name) ps) x
among_parts [] p x h e = absurd (let z = h.1 in omega arith)
among_parts (y ∷ ps) p x (zero, less, f) e =
    let is : arrival_of x.name y.body ≡ Some x = ap (λ (z : Packet). arrival_of x.name z.body) f ∙ ap (arrival_of x.name) e ∙ ap (λ t. if t then Some x else None) (same_name_refl x.name) in
    subst (λ (o : Option Context). Contains (with_first o (parts (arrival_of x.name) ps)) x) (sym is) (contains-first x x (parts (arrival_of x.name) ps) refl)
among_parts (y ∷ ps) p x (suc k, less, f) e = go (arrival_of x.name y.body) (among_parts ps p x (k, omega arith, f) e)
  where
    go : (o : Option Context) → Contains (parts (arrival_of x.name) ps) x → Contains (with_first o (parts (arrival_of x.name) ps)) x
    go None h = h
    go (Some z) h = contains-later x z (parts (arrival_of x.name) ps) h

-- the strand of a context on a link
pub record Travels (u : Setup) (w : World) (x : Context) : Type 0 where
  pub s : Strand
  pub known : strand_of w x.name ≡ Some s
  pub live : s.status ≡ Live
  pub place : x.place ≡ s.place
  pub state : IsStateOf u.code s x.state

pub travels : (u : Setup) (c : Core) (w : World) → Invariant u c w → (from to : ℕ) (p : Packet) (x : Context) → Contains (c.links from to) p → p.body ≡ Arrival x → Travels u w x
travels u c w inv from to p x has e = by (parts (arrival_of x.name) (c.links from to)) refl (among_parts (c.links from to) p x has e)
  where
    by : (l : List Context) → parts (arrival_of x.name) (c.links from to) ≡ l → Contains l x → Travels u w x
    by [] f h = absurd (let z = h.1 in omega arith)
    by (y ∷ more) f h =
        let way : OnWay u inv.tickets (view c x.name) x.name (strand_of w x.name) from to y more = on_way u inv.tickets (view c x.name) x.name (strand_of w x.name) from to y more (inv.each x.name) f in
        let same : y ≡ x = only_one x y more way.alone h in
        let is : way.lives.x ≡ x = way.is ∙ same in
        record {
          s = way.s;
          known = way.known;
          live = way.live;
          place = subst (λ (z : Context). z.place ≡ way.s.place) is way.lives.place;
          state = subst (λ (z : Context). IsStateOf u.code way.s z.state) is way.lives.state;
        }

pub travellers_are_of : (u : Setup) → is_sound u.code ≡ true → (c : Core) (w : World) → Invariant u c w → TravellersAreOf u (setting_of u) c w
travellers_are_of u sound c w inv from to p x has e =
    let t : Travels u w x = travels u c w inv from to p x has e in
    let a = always_due u sound t.s x.state t.state in
    record { strand = t.s; known = t.known; live = t.live; place = t.place; due_same = a.1 ∙ sym (due_is u sound t.s x.state a.0 t.state t.live a.1) }

pub contexts_travel : ContextsTravel
contexts_travel u sound some events played legal w leads =
    subst (λ (y : World). TravellersAreOf u (setting_of u) played.core y) (some_is kept.world w (sym kept.leads ∙ leads)) (travellers_are_of u sound played.core kept.world kept.holds)
  where
    kept : KeptBy u sound some (start (setting_of u)) played
    kept = play_kept u sound some events (start_core u) (start (setting_of u)) played (starts u sound some) legal
