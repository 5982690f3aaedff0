-- Legal events from the start, and one more.
use Rattle.std.proofs.Common.{◌≡◌, List, [], ◌∷◌, ◌++◌, Some, refl, sym, ap, ◌∙◌, subst}
use Rattle.merge_law.specs.declared.event.Event.{Event}
use Rattle.merge_law.specs.Core.{After, Played, after}
use Rattle.threadlet_code.specs.declared.code.Code.{Code}
use Rattle.core_model.specs.Nodes.{Setup}
use Rattle.sim_core.specs.declared.machine.Core.{Core as Kept}
use Rattle.core_model.specs.Core.{start_core}
use Rattle.sim_core.specs.code.Numbered.{setup_with}
use Rattle.sim_core.specs.Kept.{setup_in, core_in}
use Rattle.core_model.specs.Nodes.{Node}
use Rattle.core_model.specs.Machine.{Packet, machine_of}
use Rattle.core_model.proofs.Events.GoingOn.{event_goes_on}
use Rattle.core_model.specs.Laws.{IsPlayed}
use Rattle.sim_core.specs.Advanced.{SameRun, HasAdvanced, IsUnchanged, IsReached}

-- What events have led to, and one more event.
abbrev pub going_on : Played Node Packet → After Node Packet → Played Node Packet
going_on played left = record { core = left.core; told = played.told ++ left.entry ∷ [] }

-- ---- a core that the code keeps

pub same_setup : (code : Code) (before after : Kept) → SameRun before after → setup_in code after ≡ setup_in code before
same_setup code before after same =
    ap (λ n. setup_with code n after.turns after.rules) same.count
    ∙ ap (λ turns. setup_with code before.count turns after.rules) same.turns
    ∙ ap (setup_with code before.count before.turns) same.rules

-- Before any event nothing has happened.
pub reached_first : (code : Code) (kept : Kept) → core_in code kept ≡ start_core (setup_in code kept) → IsReached code kept
reached_first code kept is = record { events = []; played = record { core = start_core (setup_in code kept); told = [] }; plays = refl; core = is }

module _ (code : Code) (before after_it : Kept) where
  -- An event that has happened leads on from what was reached.
  pub reached_more : (event : Event) → IsReached code before → HasAdvanced code before after_it event → IsReached code after_it
  reached_more event reached has = record {
    events = reached.events ++ event ∷ [];
    played = going_on reached.played has.left;
    plays = subst (λ (u : Setup). IsPlayed u (reached.events ++ event ∷ []) (going_on reached.played has.left)) (sym (same_setup code before after_it has.settings))
        (event_goes_on (setup_in code before) (start_core (setup_in code before)) reached.events reached.played event has.left reached.plays
        (ap (λ c. after (machine_of (setup_in code before)) c event) (sym reached.core) ∙ has.legal));
    core = has.core;
  }

  pub reached_still : IsReached code before → IsUnchanged before after_it → IsReached code after_it
  reached_still reached same = record {
    events = reached.events;
    played = reached.played;
    plays = subst (λ (u : Setup). IsPlayed u reached.events reached.played) (sym (same_setup code before after_it same.settings)) reached.plays;
    core = same.core code ∙ reached.core;
  }
