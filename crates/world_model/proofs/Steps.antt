-- What is known where a step is possible.
use Rattle.std.proofs.Common.{◌≡◌, ℕ, ◌⊎◌, inl, inr, List, [], ◌∷◌, Option, Some, None, refl, sym, ap, ◌∙◌, subst, Bool, true, false, ⊎_elim, ℤ}
use Rattle.std.specs.Prelude.{if◌then◌else◌, IfSome, option_and_then}
use Rattle.word_ops.specs.declared.name.Name.{Name}
use Rattle.word_ops.specs.declared.place.Pos.{Pos}
use Rattle.word_ops.specs.declared.step.Step.TheVariants.{Act, Apply}
use Rattle.mem_atomics.specs.declared.op.Op.{Op}
use Rattle.mem_atomics.specs.NewWord.{applied}
use Rattle.world_model.specs.Action.{Action}
use Rattle.world_model.specs.Sight.{is_ready}
use Rattle.world_model.specs.World.{Setting, Item, Operation, Grant, Strand, World, strand_of, is_granted, with_at, with_strand, with_word, with_grant, with_trap}
use Rattle.world_model.specs.Effect.{sight_of, effect}
use Rattle.world_model.specs.Step.{due, Refusal, refusal_of, done_by, acted, applied_at, late_after, step}
use Rattle.world_model.specs.Laws.{OnlyAt}
use Rattle.world_model.proofs.Shapes.{Shape, shape, only_word, touched}
use Rattle.world_model.proofs.Names.{lookup-same, lookup-other}
use Rattle.word_ops.specs.Naming.{same_name}
use Rattle.word_ops.specs.declared.step.Step.{Step}

-- the strand trapped in place of its action
pub record Refused (u : Setting) (w : World) (name : Name) (s : Strand) (child : Option Name) (action : Action) (v : World) : Type 0 where
  pub refusal : Refusal
  pub why : refusal_of u w s action ≡ Some refusal
  pub childless : child ≡ None
  pub is : v ≡ with_strand w name (with_trap s refusal.place refusal.kind refusal.pos)

-- the action had its effect
pub record Done (u : Setting) (w : World) (name : Name) (s : Strand) (child : Option Name) (action : Action) (v : World) : Type 0 where
  pub good : refusal_of u w s action ≡ None
  pub has : effect u w name s child action ≡ Some v
  pub shape : Shape u w name s action v

-- a strand acted
pub record Acted (u : Setting) (w : World) (name : Name) (child : Option Name) (v : World) : Type 0 where
  pub strand : Strand
  pub action : Action
  pub found : strand_of w name ≡ Some strand
  pub due_is : due u strand ≡ Some action
  pub ready : is_ready u.nodelets u.turns (sight_of u w strand) action ≡ true
  pub outcome : Refused u w name strand child action v ⊎ Done u w name strand child action v

some_is : {x y : World} → Some x ≡ Some y → x ≡ y
some_is e = cc

outcome_of : (u : Setting) (w : World) (name : Name) (s : Strand) (child : Option Name) (action : Action) (v : World) (r : Option Refusal) →
    refusal_of u w s action ≡ r → done_by u w name s child action r ≡ Some v → Refused u w name s child action v ⊎ Done u w name s child action v
outcome_of u w name s child action v None is e =
    inr (record { good = is; has = e; shape = subst (λ o. IfSome o (Shape u w name s action)) e (shape u w name s child action) })
outcome_of u w name s (Some c) action v (Some r) is e = absurd cc
outcome_of u w name s None action v (Some r) is e =
    inl (record { refusal = r; why = is; childless = refl; is = some_is (sym e) })

pub acted_by : (u : Setting) (w : World) (name : Name) (child : Option Name) (v : World) → step u w (Act name child) ≡ Some v → Acted u w name child v
acted_by u w name child v e = from_strand (strand_of w name) refl e
  where
    ready_or_not : (s : Strand) → strand_of w name ≡ Some s → (action : Action) → due u s ≡ Some action →
        (t : Bool) → is_ready u.nodelets u.turns (sight_of u w s) action ≡ t →
        (if t then done_by u w name s child action (refusal_of u w s action) else None) ≡ Some v → Acted u w name child v
    ready_or_not s is action is_due false not_ready f = absurd cc
    ready_or_not s is action is_due true ready f = record {
      strand = s;
      action = action;
      found = is;
      due_is = is_due;
      ready = ready;
      outcome = outcome_of u w name s child action v (refusal_of u w s action) refl f;
    }

    from_due : (s : Strand) → strand_of w name ≡ Some s → (o : Option Action) → due u s ≡ o → acted u w name s child o ≡ Some v → Acted u w name child v
    from_due s is None is_due f = absurd cc
    from_due s is (Some action) is_due f = ready_or_not s is action is_due (is_ready u.nodelets u.turns (sight_of u w s) action) refl f

    from_strand : (o : Option Strand) → strand_of w name ≡ o → option_and_then (λ s. acted u w name s child (due u s)) o ≡ Some v → Acted u w name child v
    from_strand None is f = absurd cc
    from_strand (Some s) is f = from_due s is (due u s) refl f

-- an item was applied at nodelet k
pub record Applied (u : Setting) (w : World) (name : Name) (k : ℕ) (v : World) : Type 0 where
  pub strand : Strand
  pub item : Item
  pub items : List Item
  pub found : strand_of w name ≡ Some strand
  pub first : strand.pending k ≡ item ∷ items
  pub base : World
  pub after : Strand
  pub is : v ≡ with_strand base name after
  pub cells : OnlyAt k w base
  pub strands : base.strands ≡ w.strands
  pub pending : after.pending ≡ with_at strand.pending k items
  pub home : after.home ≡ strand.home
  pub place : after.place ≡ strand.place

pub applied_by : (u : Setting) (w : World) (name : Name) (k : ℕ) (v : World) → step u w (Apply name k) ≡ Some v → Applied u w name k v
applied_by u w name k v e = from_strand (strand_of w name) refl e
  where
    from_grant : (s : Strand) → strand_of w name ≡ Some s → (op : Op) (a x : ℤ) (at : Pos) (items : List Item) → s.pending k ≡ Operation op a x at ∷ items →
        (t : Bool) → Some (if t then with_strand (with_word w k a (applied op (w.cells k a) x)) name (record s { pending = with_at s.pending k items })
        else with_strand w name (record s { pending = with_at s.pending k items; late = Some (late_after s.late at) })) ≡ Some v → Applied u w name k v
    from_grant s is op a x at items list true f = record {
      strand = s;
      item = Operation op a x at;
      items = items;
      found = is;
      first = list;
      base = with_word w k a (applied op (w.cells k a) x);
      after = record s { pending = with_at s.pending k items };
      is = some_is (sym f);
      cells = only_word w k a _;
      strands = refl;
      pending = refl;
      home = refl;
      place = refl;
    }
    from_grant s is op a x at items list false f = record {
      strand = s;
      item = Operation op a x at;
      items = items;
      found = is;
      first = list;
      base = w;
      after = record s { pending = with_at s.pending k items; late = Some (late_after s.late at) };
      is = some_is (sym f);
      cells = λ j b ne. refl;
      strands = refl;
      pending = refl;
      home = refl;
      place = refl;
    }

    from_list : (s : Strand) → strand_of w name ≡ Some s → (items : List Item) → s.pending k ≡ items → applied_at u w name s k items ≡ Some v → Applied u w name k v
    from_list s is [] list f = absurd cc
    from_list s is (Grant extent ∷ items) list f = record {
      strand = s;
      item = Grant extent;
      items = items;
      found = is;
      first = list;
      base = with_grant w k extent;
      after = record s { pending = with_at s.pending k items };
      is = some_is (sym f);
      cells = λ j b ne. refl;
      strands = refl;
      pending = refl;
      home = refl;
      place = refl;
    }
    from_list s is (Operation op a x at ∷ items) list f = from_grant s is op a x at items list (is_granted u.rules w k a) f

    from_strand : (o : Option Strand) → strand_of w name ≡ o → option_and_then (λ s. applied_at u w name s k (s.pending k)) o ≡ Some v → Applied u w name k v
    from_strand None is f = absurd cc
    from_strand (Some s) is f = from_list s is (s.pending k) refl f

-- ---- the strand written into the world, and the others

pub strand_after : (v base : World) (name : Name) (after : Strand) → v ≡ with_strand base name after → strand_of v name ≡ Some after
strand_after v base name after is = ap (λ x. strand_of x name) is ∙ lookup-same name after base.strands

pub strand_beside : (v base : World) (name : Name) (after : Strand) (q : Name) → v ≡ with_strand base name after → same_name q name ≡ false →
    strand_of v q ≡ strand_of base q
strand_beside v base name after q is ne = ap (λ x. strand_of x q) is ∙ lookup-other q name after base.strands ne

-- ---- cells

pub one_nodelet : (u : Setting) (w v : World) (t : Step) → step u w t ≡ Some v → (k : ℕ) × OnlyAt k w v
one_nodelet u w v (Act name child) e = of_act (acted_by u w name child v e)
  where
    of_act : Acted u w name child v → (k : ℕ) × OnlyAt k w v
    of_act a = ⊎_elim
        (λ r. (0, λ j b ne. ap (λ x. x.cells j b) r.is))
        (λ d. (touched u a.strand a.action, λ j b ne. ap (λ x. x.cells j b) d.shape.is ∙ d.shape.cells j b ne))
        a.outcome
one_nodelet u w v (Apply name k) e =
    let a = applied_by u w name k v e in
    (k, λ j b ne. ap (λ x. x.cells j b) a.is ∙ a.cells j b ne)
