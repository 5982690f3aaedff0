-- Nodelets that become others one after the other.
use Rattle.std.proofs.Common.{◌≡◌, ℕ, List, [], ◌∷◌, ◌++◌, Bool, true, false, refl, sym, ap, ◌∙◌, subst}
use Rattle.std.specs.Prelude.{All, map, if◌then◌else◌, ◌==◌}
use Rattle.std.specs.List.{list_all}
use Rattle.word_ops.specs.declared.name.Name.{Name}
use Rattle.threadlet_code.specs.declared.code.Code.{Code}
use Rattle.threadlet_state.specs.declared.context.Context as carried
use Rattle.nodelet_core.specs.declared.nodelet.Nodelet.{Nodelet}
use Rattle.core_model.specs.Nodes.{Node, moved_from}
use Rattle.core_model.specs.Machine.{stamped_node}
use Rattle.nodelet_core.specs.Kept.{node_of, names_at, carried_at, SameSettings, IsUnchanged}
use Rattle.nodelet_core.specs.code.Became.{Did, IsBlind, Became}

-- ---- settings

pub settings_then : (a b c : Nodelet) → SameSettings a b → SameSettings b c → SameSettings a c
settings_then a b c ab bc = record {
  number = bc.number ∙ ab.number;
  nodelets = bc.nodelets ∙ ab.nodelets;
  turns = bc.turns ∙ ab.turns;
  rules = bc.rules ∙ ab.rules;
}

-- ---- unchanged

pub unchanged_then : (a b c : Nodelet) → IsUnchanged a b → IsUnchanged b c → IsUnchanged a c
unchanged_then a b c ab bc = record {
  settings = settings_then a b c ab.settings bc.settings;
  node = λ code. bc.node code ∙ ab.node code;
  contexts = bc.contexts ∙ ab.contexts;
  entries = bc.entries ∙ ab.entries;
}

-- An unchanged nodelet is one that did nothing.
pub unchanged_did : (a b : Nodelet) → IsUnchanged a b → Did (λ v. v) a b
unchanged_did a b ab = record { settings = ab.settings; node = ab.node; contexts = ab.contexts; entries = ab.entries }

pub did_unchanged : (a b : Nodelet) → Did (λ v. v) a b → IsUnchanged a b
did_unchanged a b ab = record { settings = ab.settings; node = ab.node; contexts = ab.contexts; entries = ab.entries }

-- ---- one after the other

pub did_then : (f g : Node → Node) (a b c : Nodelet) → Did f a b → Did g b c → Did (λ v. g (f v)) a c
did_then f g a b c ab bc = record {
  settings = settings_then a b c ab.settings bc.settings;
  node = λ code. bc.node code ∙ ap g (ab.node code);
  contexts = bc.contexts ∙ ab.contexts;
  entries = bc.entries ∙ ab.entries;
}

pub did_became : (f : Node → Node) (g : Code → Node → Node) (came : List carried.Context) (a b c : Nodelet) → Did f a b → Became g came b c →
    Became (λ code v. g code (f v)) came a c
did_became f g came a b c ab bc = record {
  settings = settings_then a b c ab.settings bc.settings;
  node = λ code. bc.node code ∙ ap (g code) (ab.node code);
  entries = bc.entries ∙ ab.entries;
  keeps = λ p blind all before. bc.keeps p blind all (ap (list_all p) ab.contexts ∙ before);
}

pub became_did : (f : Code → Node → Node) (g : Node → Node) (came : List carried.Context) (a b c : Nodelet) → Became f came a b → Did g b c →
    Became (λ code v. g (f code v)) came a c
became_did f g came a b c ab bc = record {
  settings = settings_then a b c ab.settings bc.settings;
  node = λ code. bc.node code ∙ ap g (ab.node code);
  entries = bc.entries ∙ ab.entries;
  keeps = λ p blind all before. ap (list_all p) bc.contexts ∙ ab.keeps p blind all before;
}

-- Two came, the first one first.
pub became_then : (f g : Code → Node → Node) (x y : List carried.Context) (a b c : Nodelet) → Became f x a b → Became g y b c →
    ((p : carried.Context → Bool) → list_all p (x ++ y) ≡ true → (list_all p x ≡ true) × (list_all p y ≡ true)) →
    Became (λ code v. g code (f code v)) (x ++ y) a c
became_then f g x y a b c ab bc split = record {
  settings = settings_then a b c ab.settings bc.settings;
  node = λ code. bc.node code ∙ ap (g code) (ab.node code);
  entries = bc.entries ∙ ab.entries;
  keeps = λ p blind all before. bc.keeps p blind (split p all).1 (ab.keeps p blind (split p all).0 before);
}

-- ---- names

pub did_names : (f : Node → Node) (a b : Nodelet) → Did f a b → names_at b ≡ names_at a
did_names f a b ab = ap (map (λ (x : carried.Context). x.name)) ab.contexts

pub unchanged_names : (a b : Nodelet) → IsUnchanged a b → names_at b ≡ names_at a
unchanged_names a b ab = ap (map (λ (x : carried.Context). x.name)) ab.contexts

-- ---- stamps

-- A move is counted whatever the stamp.
pub moved_stamped : (here k stamp : ℕ) (v : Node) → moved_from here k (stamped_node stamp v) ≡ stamped_node stamp (moved_from here k v)
moved_stamped here k stamp v = by_place (k == here) refl
  where
    by_place : (same : Bool) → (k == here) ≡ same → moved_from here k (stamped_node stamp v) ≡ stamped_node stamp (moved_from here k v)
    by_place true e = rw e refl
    by_place false e = rw e refl
