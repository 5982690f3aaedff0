-- What the events of the core are to the program.
use Rattle.std.proofs.Common.{◌≡◌, ◌↔◌, ◌⊎◌, inl, inr, List, [], ◌∷◌, Option, Some, None, IsSome, refl, sym, ap, ◌∙◌, subst, true, ⊎_elim, Contains}
use Rattle.std.specs.Option.{option_map_or}
use Rattle.word_ops.specs.declared.name.Name.{Name}
use Rattle.word_ops.specs.declared.step.Step.{Step}
use Rattle.merge_law.specs.Events.{Placed}
use Rattle.merge_law.specs.Core.{Played}
use Rattle.merge_law.specs.Merge.{steps_of}
use Rattle.cilk_ast.specs.declared.program.Program.{Program}
use Rattle.threadlet_code.specs.Breaches.{is_sound}
use Rattle.codegen_expr.specs.Implements.{Implements}
use Rattle.world_model.specs.World.{World}
use Rattle.world_model.specs.Run.{start, run_of, Rest, end_of}
use Rattle.core_model.specs.Nodes.{Setup, Node}
use Rattle.core_model.specs.Machine.{Packet}
use Rattle.core_model.specs.Core.{Core, setting_of, census}
use Rattle.core_model.specs.Agreement.{IsOf, ContextsAreOf}
use Rattle.core_model.specs.Reached.{Reached, stepped, reached, first_trapped}
use Rattle.core_model.specs.Laws.{IsRunOfEvents, IsLiveIn, TellsFirstTraps, CountsTraffic, HasEnded, MainHasEnded, TurnsAreSpent, parts_of}
use Rattle.refine.specs.Programs.{program_on}
use Rattle.refine.proofs.Known.{AllTake, start_known, step_known}
use Rattle.refine.proofs.Alike.{due-alike, lacks-alike}
use Rattle.refine.proofs.Runs.{coded, meant, dues, start-same, step-same, runs-same, run-known, trap-same, ends-same}
use Rattle.refine.proofs.Counts.{traffic-same}

module _ (u : Setup) (program : Program) (sound : is_sound u.code ≡ true) (implements : Implements u.code program) where
  -- the world that steps of the code lead to is known
  pub known : (told : List Step) (w : World) → run_of (setting_of u) told ≡ Some w → AllTake u.code w
  known told w e = run-known u program sound implements (start (setting_of u)) w told (start_known u sound) e

  -- ---- runs

  contexts-of : (c : Core) (w : World) → AllTake u.code w → ContextsAreOf u (setting_of u) c w → ContextsAreOf u (program_on u program) c w
  contexts-of c w all are k name x found = (of_program (are k name x found).0, (are k name x found).1)
    where
      of_program : IsOf u (setting_of u) w x → IsOf u (program_on u program) w x
      of_program is = record {
        strand = is.strand;
        known = is.known;
        live = is.live;
        place = is.place;
        due_same = is.due_same
            ∙ due-alike u (coded u program sound implements) (meant u program sound implements) x.name is.strand w (dues u program sound implements w all) is.known;
      }

  pub run_of_program : (played : Played Node Packet) → IsRunOfEvents u (setting_of u) played → IsRunOfEvents u (program_on u program) played
  run_of_program played r = record {
    world = r.world;
    leads_to = sym (runs-same u program sound implements (steps_of played.told)) ∙ r.leads_to;
    shares = r.shares;
    contexts = contexts-of played.core r.world (known (steps_of played.told) r.world r.leads_to) r.contexts;
    pending = r.pending;
    main_value = r.main_value;
  }

  -- ---- first traps

  stepped-same : (w : World) (t : Option Step) → AllTake u.code w → stepped (setting_of u) w t ≡ stepped (program_on u program) w t
  stepped-same w None all = refl
  stepped-same w (Some t) all = step-same u program sound implements w t all

  stepped-known : (w v : World) (t : Option Step) → AllTake u.code w → stepped (setting_of u) w t ≡ Some v → AllTake u.code v
  stepped-known w v None all e = let z : w ≡ v = cc in subst (λ (y : World). AllTake u.code y) z all
  stepped-known w v (Some t) all e = step_known u sound w v t all e

  reached-same : (w : World) (told : List Placed) → AllTake u.code w → reached (setting_of u) w told ≡ reached (program_on u program) w told
  reached-same w [] all = refl
  reached-same w (x ∷ told) all = go (stepped (setting_of u) w x.entry.step) refl (λ v h. reached-same v told h)
      ∙ ap (λ (o : Option World). option_map_or (λ v. record { entry = x; world = v } ∷ reached (program_on u program) v told) o []) (stepped-same w x.entry.step all)
    where
      go : (o : Option World) → stepped (setting_of u) w x.entry.step ≡ o → ((v : World) → AllTake u.code v → reached (setting_of u) v told ≡ reached (program_on u program) v told) →
          option_map_or (λ v. record { entry = x; world = v } ∷ reached (setting_of u) v told) o []
          ≡ option_map_or (λ v. record { entry = x; world = v } ∷ reached (program_on u program) v told) o []
      go None e ih = refl
      go (Some v) e ih = ap (λ (l : List Reached). record { entry = x; world = v } ∷ l) (ih v (stepped-known w v x.entry.step all e))

  pub traps_of_program : (played : Played Node Packet) → TellsFirstTraps (setting_of u) played → TellsFirstTraps (program_on u program) played
  traps_of_program played tells k = tells k ∙ ap (first_trapped k)
      (reached-same (start (setting_of u)) played.told (start_known u sound) ∙ ap (λ (w : World). reached (program_on u program) w played.told) (start-same u program sound implements))

  -- ---- traffic

  pub traffic_of_program : (played : Played Node Packet) → CountsTraffic u (setting_of u) played → CountsTraffic u (program_on u program) played
  traffic_of_program played counts = counts ∙ traffic-same u program sound implements (steps_of played.told)

  -- ---- ends

  pub rest-of : (w : World) → AllTake u.code w → Rest (setting_of u) w → Rest (program_on u program) w
  rest-of w all rest t = sym (step-same u program sound implements w t all) ∙ rest t

  spent-of : (w : World) → AllTake u.code w → TurnsAreSpent (setting_of u) w → TurnsAreSpent (program_on u program) w
  spent-of w all (k, less, lacks) =
      (k, less, sym (lacks-alike u (coded u program sound implements) (meant u program sound implements) w k (dues u program sound implements w all)) ∙ lacks)

  pub ended_of_program : (played : Played Node Packet) → HasEnded u (setting_of u) played → HasEnded u (program_on u program) played
  ended_of_program played ended = ⊎_elim
      (λ trap. inl (subst (λ o. IsSome o) (trap-same u program sound implements (steps_of played.told)) trap))
      (λ h. ⊎_elim (λ stamp. inr (inl stamp)) (λ r. inr (inr (at_rest r))) h)
      ended
    where
      at_rest : (w : World) × (run_of (setting_of u) (steps_of played.told) ≡ Some w) × Rest (setting_of u) w × (MainHasEnded w ⊎ TurnsAreSpent (setting_of u) w) →
          (w : World) × (run_of (program_on u program) (steps_of played.told) ≡ Some w) × Rest (program_on u program) w × (MainHasEnded w ⊎ TurnsAreSpent (program_on u program) w)
      at_rest (w, leads, rest, why) =
          let all = known (steps_of played.told) w leads in
          (w, sym (runs-same u program sound implements (steps_of played.told)) ∙ leads, rest-of w all rest, ⊎_elim inl (λ s. inr (spent-of w all s)) why)

  pub end_of_program : (played : Played Node Packet) → IsSome (end_of (setting_of u) (steps_of played.told) (parts_of u.nodelets played.told)) →
      IsSome (end_of (program_on u program) (steps_of played.told) (parts_of u.nodelets played.told))
  end_of_program played ended = subst (λ o. IsSome o) (ends-same u program sound implements (steps_of played.told) (parts_of u.nodelets played.told)) ended

  -- ---- the census

  pub census_of_program : (played : Played Node Packet) (r : IsRunOfEvents u (setting_of u) played) (w : World) → run_of (setting_of u) (steps_of played.told) ≡ Some w →
      ((name : Name) → Contains (census u played.core) name ↔ IsLiveIn w name) → (name : Name) → Contains (census u played.core) name ↔ IsLiveIn r.world name
  census_of_program played r w leads lives name =
      let same : Some w ≡ Some r.world = sym leads ∙ r.leads_to in
      let z : w ≡ r.world = cc in subst (λ (y : World). Contains (census u played.core) name ↔ IsLiveIn y name) z (lives name)
