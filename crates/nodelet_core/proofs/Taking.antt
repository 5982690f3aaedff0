-- What the taking of a packet leaves.
use Rattle.std.proofs.Common.{◌≡◌, ℕ, ℤ, true, List, [], ◌∷◌, refl, ap, sym, ◌∙◌, subst}
use Rattle.std.specs.Prelude.{Option, Some, None, if◌then◌else◌, ◌&&◌}
use Rattle.std.specs.List.{list_all}
use Rattle.word_ops.specs.declared.name.Name.{Name}
use Rattle.word_ops.specs.declared.place.Pos.{Pos}
use Rattle.word_ops.specs.declared.ticket.Ticket.{Ticket}
use Rattle.mem_atomics.specs.declared.op.Op.{Op}
use Rattle.mem_atomics.specs.NewWord.{applied}
use Rattle.threadlet_code.specs.declared.code.Code.{Code}
use Rattle.threadlet_state.specs.declared.context.Context as carried
use Rattle.threadlet_state.specs.declared.packet.Body as sent_body
use Rattle.threadlet_state.specs.declared.packet.Body.TheVariants as by
use Rattle.world_model.specs.World as world
use Rattle.merge_law.specs.Machine.{is_linked}
use Rattle.nodelet_core.specs.declared.nodelet.Nodelet.{Nodelet}
use Rattle.core_model.specs.Contexts.{Context, Body, Arrival, Issued, Ack, Returned, context_of}
use Rattle.nodelet_core.specs.Carried.{context_in, body_in}
use Rattle.core_model.specs.Nodes.{Setup, Node, is_granted, with_word, with_strand, with_result, applied_here}
use Rattle.core_model.specs.Effects.{only_to, operated}
use Rattle.core_model.specs.Takes.{made_late, acknowledged, with_item, late_of, take}
use Rattle.core_model.specs.Runs.{Outcome}
use Rattle.core_model.specs.Machine.{stamped_node}
use Rattle.nodelet_core.specs.Kept.{node_of, setup_of, context_fits, body_fits, SameSettings}
use Rattle.nodelet_core.specs.Left.{Sent}
use Rattle.nodelet_core.specs.code.Became.{Did, Became}
use Rattle.nodelet_core.specs.code.Doing.{SentMore, Left, LeftTaking, with_withdrawn}
use Rattle.nodelet_core.proofs.Arriving.{some_code}
use Rattle.nodelet_core.proofs.Becoming.{did_then, did_became, became_did}
use Rattle.nodelet_core.proofs.Outgoing.{sent_nothing, sent_as}

-- ---- stamps

-- What keeps the stamp of each node keeps the nodelet's.
pub did_stamp : (f : Node → Node) (a b : Nodelet) → Did f a b → ((v : Node) → (f v).stamp ≡ v.stamp) → b.stamp ≡ a.stamp
did_stamp f a b did keeps = ap (λ (v : Node). v.stamp) (did.node some_code) ∙ keeps (node_of some_code a)

pub became_stamp : (f : Code → Node → Node) (came : List carried.Context) (a b : Nodelet) → Became f came a b → ((code : Code) (v : Node) → (f code v).stamp ≡ v.stamp)
    → b.stamp ≡ a.stamp
became_stamp f came a b became keeps = ap (λ (v : Node). v.stamp) (became.node some_code) ∙ keeps some_code (node_of some_code a)

-- A nodelet that was given a stamp has it.
pub did_stamped : (f : Node → Node) (stamp : ℕ) (a b : Nodelet) → Did (λ v. stamped_node stamp (f v)) a b → b.stamp ≡ stamp
did_stamped f stamp a b did = ap (λ (v : Node). v.stamp) (did.node some_code)

-- ---- changes by other names

-- A change that is the same at this nodelet.
pub did_as : (f g : Node → Node) (a b : Nodelet) → Did f a b → ((code : Code) → f (node_of code a) ≡ g (node_of code a)) → Did g a b
did_as f g a b did same = record {
  settings = did.settings;
  node = λ code. did.node code ∙ same code;
  contexts = did.contexts;
  entries = did.entries;
}

-- Contexts that are untouched became no others.
pub did_is_became : (f : Node → Node) (a b : Nodelet) → Did f a b → Became (λ code. f) [] a b
did_is_became f a b did = record {
  settings = did.settings;
  node = did.node;
  entries = did.entries;
  keeps = λ p blind all before. ap (list_all p) did.contexts ∙ before;
}

-- ---- what is left

-- A nodelet that did what an outcome says has left it.
pub did_left : (code : Code) (stamp : ℕ) (f : Node → Node) (a b : Nodelet) (sent_before sent_after : Sent) (left : Outcome) → Did f a b
    → f (node_of code a) ≡ stamped_node stamp left.node → SentMore code a.nodelets a.number stamp left.bodies sent_before sent_after
    → Left code stamp a b sent_before sent_after left
did_left code stamp f a b sent_before sent_after left did is sends = record {
  settings = did.settings;
  node = did.node code ∙ is;
  entries = did.entries;
  fits = λ all. ap (list_all (context_fits code)) did.contexts ∙ all;
  sends = sends;
}

-- So has one that became what it says, where what came fits the code.
pub became_left : (code : Code) (stamp : ℕ) (f : Code → Node → Node) (came : List carried.Context) (a b : Nodelet) (sent_before sent_after : Sent) (left : Outcome) → Became f came a b
    → f code (node_of code a) ≡ stamped_node stamp left.node → list_all (context_fits code) came ≡ true
    → SentMore code a.nodelets a.number stamp left.bodies sent_before sent_after → Left code stamp a b sent_before sent_after left
became_left code stamp f came a b sent_before sent_after left became is fit sends = record {
  settings = became.settings;
  node = became.node code ∙ is;
  entries = became.entries;
  fits = λ all. became.keeps (context_fits code) (λ x late e. e) fit all;
  sends = sends;
}

-- ---- acknowledgements

pub late_stamp : (v : Node) (at : Pos) (x : Option Context) → (made_late v at x).stamp ≡ v.stamp
late_stamp v at None = refl
late_stamp v at (Some x) = refl

pub acknowledged_stamp : (name : Name) (late : Option Pos) (v : Node) → (acknowledged v name late).stamp ≡ v.stamp
acknowledged_stamp name None v = refl
acknowledged_stamp name (Some at) v = late_stamp _ at (context_of name v.contexts)

-- ---- operations

-- A word that is granted is operated on.
pub operated_is : (m : Setup) (v : Node) (op : Op) (address word new : ℤ) (at : Pos) (stamp : ℕ) → is_granted m.rules v address ≡ true → new ≡ applied op (v.cells address) word
    → stamped_node stamp (applied_here (with_word v address new)) ≡ stamped_node stamp (with_item m v (world.Operation op address word at))
operated_is m v op address word new at stamp granted e =
    ap (λ z. stamped_node stamp (applied_here (with_word v address z))) e
    ∙ ap (λ b. stamped_node stamp (if b then operated v op address word else applied_here v)) (sym granted)

-- ---- word that something is done

pub acknowledged_late : (name : Name) (at : Pos) (late : Option Pos) (stamp : ℕ) (a b d e : Nodelet) → Some at ≡ late → Did (λ v. with_withdrawn v name 1) a b
    → Became (λ code v. made_late v at (context_of name v.contexts)) [] b d → Did (stamped_node stamp) d e
    → Became (λ code v. stamped_node stamp (acknowledged v name late)) [] a e
acknowledged_late name at late stamp a b d e is withdrawn made stamped =
    let whole = became_did _ (stamped_node stamp) [] a d e (did_became (λ v. with_withdrawn v name 1) (λ code v. made_late v at (context_of name v.contexts)) [] a b d withdrawn made) stamped in
    subst (λ l. Became (λ code v. stamped_node stamp (acknowledged v name l)) [] a e) is whole

pub acknowledged_done : (name : Name) (late : Option Pos) (stamp : ℕ) (a b e : Nodelet) → None ≡ late → Did (λ v. with_withdrawn v name 1) a b → Did (stamped_node stamp) b e
    → Became (λ code v. stamped_node stamp (acknowledged v name late)) [] a e
acknowledged_done name late stamp a b e is withdrawn stamped =
    let whole = did_is_became _ a e (did_then (λ v. with_withdrawn v name 1) (stamped_node stamp) a b e withdrawn stamped) in
    subst (λ l. Became (λ code v. stamped_node stamp (acknowledged v name l)) [] a e) is whole

-- ---- packets that are taken

-- The other nodelets are others as before.
pub linked_as : (a b : Nodelet) (k : ℕ) → SameSettings a b → is_linked a.nodelets a.number k ≡ true → is_linked b.nodelets b.number k ≡ true
linked_as a b k same linked =
    ap (λ n. is_linked n b.number k) same.nodelets ∙ ap (λ h. is_linked a.nodelets h k) same.number ∙ linked

module _ (code : Code) (stamp : ℕ) (a b : Nodelet) (origin : ℕ) (body : sent_body.Body) where
  abbrev leaves : Sent → Sent → Body → Type 0
  leaves first after z = Left code stamp a b first after (take (setup_of code a) a.number (node_of code a) origin z)

  -- An item is done, and acknowledged.
  pub took_item : (name : Name) (item : world.Item) (late : Option Pos) (first before after : Sent) → body_in code body ≡ Issued name item
      → Did (λ v. stamped_node stamp (with_item (setup_of code a) v item)) a b → late ≡ late_of (setup_of code a) (node_of code a) item → ((k : ℕ) → before k ≡ first k)
      → SentMore code b.nodelets b.number b.stamp (only_to origin (Ack name late)) before after → LeftTaking code stamp a b first after origin body
  took_item name item late first before after is did e same sends =
      let told = sent_as code b.nodelets a.nodelets b.number a.number b.stamp stamp (only_to origin (Ack name late)) first before after did.settings.nodelets did.settings.number
      (did_stamped (λ v. with_item (setup_of code a) v item) stamp a b did) same sends in
      subst (leaves first after) (sym is)
      (did_left code stamp (λ v. stamped_node stamp (with_item (setup_of code a) v item)) a b first after
      (take (setup_of code a) a.number (node_of code a) origin (Issued name item)) did refl
      (subst (λ l. SentMore code a.nodelets a.number stamp (only_to origin (Ack name l)) first after) e told))

  -- Word that something is done is taken.
  pub took_word : (name : Name) (late : Option Pos) (now : Sent) → body_in code body ≡ Ack name late
      → Became (λ other v. stamped_node stamp (acknowledged v name late)) [] a b → LeftTaking code stamp a b now now origin body
  took_word name late now is became =
      subst (leaves now now) (sym is)
      (became_left code stamp (λ other v. stamped_node stamp (acknowledged v name late)) [] a b now now
      (take (setup_of code a) a.number (node_of code a) origin (Ack name late)) became refl refl (sent_nothing code a.nodelets a.number stamp now))

  -- The result of a child is kept.
  pub took_result : (t : Ticket) (value : ℤ) (d : Nodelet) (now : Sent) → body_in code body ≡ Returned t value
      → Did (λ v. with_result v t value) a d → Did (stamped_node stamp) d b → LeftTaking code stamp a b now now origin body
  took_result t value d now is kept stamped =
      subst (leaves now now) (sym is)
      (did_left code stamp (λ v. stamped_node stamp (with_result v t value)) a b now now
      (take (setup_of code a) a.number (node_of code a) origin (Returned t value))
      (did_then (λ v. with_result v t value) (stamped_node stamp) a d b kept stamped) refl (sent_nothing code a.nodelets a.number stamp now))

  -- A strand stands here.
  pub took_context : (x : carried.Context) (now : Sent) → body ≡ by.Ctx x → body_fits code body ≡ true
      → Became (λ other v. with_strand (stamped_node stamp v) (context_in other x)) (x ∷ []) a b → LeftTaking code stamp a b now now origin body
  took_context x now is fits became =
      subst (leaves now now) (sym (ap (body_in code) is))
      (became_left code stamp (λ other v. with_strand (stamped_node stamp v) (context_in other x)) (x ∷ []) a b now now
      (take (setup_of code a) a.number (node_of code a) origin (Arrival (context_in code x))) became refl
      (ap (λ z. z && true) (sym (ap (body_fits code) is) ∙ fits)) (sent_nothing code a.nodelets a.number stamp now))
