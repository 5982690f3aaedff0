-- A packet that was taken, as the machine says.
use Rattle.std.proofs.Common.{◌≡◌, ℕ, ◌+◌, ◌<◌, true, [], ◌∷◌, ◌++◌, refl, ap, sym, ◌∙◌, subst, arith}
use Rattle.std.specs.Prelude.{◌&&◌, not, is_some, nat_lt, max, Some, None, if◌then◌else◌}
use Rattle.std.proofs.lemmas.Bool.Decides.{nat_tests}
use Rattle.word_ops.specs.declared.step.Entry.{Entry}
use Rattle.word_ops.specs.declared.step.NodeEvent.TheVariants.{Take}
use Rattle.threadlet_code.specs.declared.code.Code.{Code}
use Rattle.threadlet_state.specs.declared.context.Context as carried
use Rattle.threadlet_state.specs.declared.packet.Packet as sent
use Rattle.threadlet_state.specs.declared.packet.Body as sent_body
use Rattle.threadlet_state.specs.declared.packet.Body.TheVariants as by
use Rattle.merge_law.specs.Machine as merge
use Rattle.merge_law.specs.Machine.{last_stamp}
use Rattle.nodelet_core.specs.declared.nodelet.Nodelet.{Nodelet}
use Rattle.core_model.specs.Contexts.{context_of}
use Rattle.nodelet_core.specs.Carried.{body_in}
use Rattle.core_model.specs.Nodes.{Setup, Node}
use Rattle.core_model.specs.Runs.{Outcome}
use Rattle.core_model.specs.Takes.{take, can_come, is_given, has_home}
use Rattle.core_model.specs.Machine.{Packet, machine_of, stamped_node}
use Rattle.nodelet_core.specs.Kept.{node_of, setup_of, packet_in, SameSettings}
use Rattle.nodelet_core.specs.code.Standing.{is_among}
use Rattle.nodelet_core.specs.Left.{Sent, HasTaken}
use Rattle.nodelet_core.specs.code.Became.{HasEntered}
use Rattle.nodelet_core.specs.code.Doing.{SentMore, LeftTaking, step_of_body}
use Rattle.nodelet_core.proofs.Becoming.{settings_then}
use Rattle.nodelet_core.proofs.Coming.{together}
use Rattle.nodelet_core.proofs.Found.{both}
use Rattle.nodelet_core.proofs.Outgoing.{sent_as}

-- ---- what can come

-- A context that comes names nodelets that are there.
pub comes_among : (code : Code) (a : Nodelet) (x : carried.Context) (body : sent_body.Body) → body ≡ by.Ctx x
    → can_come (setup_of code a) a.number (node_of code a) (body_in code body) ≡ true → is_among a.nodelets x ≡ true
comes_among code a x body is comes =
    let here = sym (ap (λ z. can_come (setup_of code a) a.number (node_of code a) (body_in code z)) is) ∙ comes in
    let new = not (is_some (context_of x.name (node_of code a).contexts)) in
    let given = is_given a.number (node_of code a) x.name in
    let placed = nat_lt x.place a.nodelets in
    let born = nat_lt x.home a.nodelets in
    let homed = has_home a.nodelets x.ticket in
    let all = both (new && given && placed && born) homed here in
    let three = both (new && given && placed) born all.0 in
    let two = both (new && given) placed three.0 in
    together (placed && born) homed (together placed born two.1 three.1) all.1

-- ---- the machine

-- The step of a body is that of its taking.
step_is : (code : Code) (m : Setup) (here : ℕ) (v : Node) (origin : ℕ) (body : sent_body.Body) → step_of_body here body ≡ (take m here v origin (body_in code body)).step
step_is code m here v origin (by.Ctx x) = refl
step_is code m here v origin (by.Op name op address word at) = refl
step_is code m here v origin (by.Ack name late) = refl
step_is code m here v origin (by.Done ticket result) = refl
step_is code m here v origin (by.Grant name first count) = refl

setup_is : (code : Code) (a b : Nodelet) → SameSettings a b → setup_of code b ≡ setup_of code a
setup_is code a b same =
    ap (λ n. let it : Setup = record { code = code; nodelets = n; turns = b.turns; rules = b.rules } in it) same.nodelets
    ∙ ap (λ t. let it : Setup = record { code = code; nodelets = a.nodelets; turns = t; rules = b.rules } in it) same.turns
    ∙ ap (λ r. let it : Setup = record { code = code; nodelets = a.nodelets; turns = a.turns; rules = r } in it) same.rules

module _ (code : Code) (a b c : Nodelet) (first after : Sent) (origin stamp : ℕ) (p : sent.Packet) where
  abbrev raw : Setup → ℕ → Node → Outcome
  raw m here v = take m here v origin (body_in code p.body)

  abbrev raw_here : Outcome
  raw_here = raw (setup_of code a) a.number (node_of code a)

  raw_is : SameSettings a b → node_of code b ≡ node_of code a → raw (setup_of code b) b.number (node_of code b) ≡ raw_here
  raw_is same node =
      ap (λ m. raw m b.number (node_of code b)) (setup_is code a b same)
      ∙ ap (λ h. raw (setup_of code a) h (node_of code b)) same.number
      ∙ ap (raw (setup_of code a) a.number) node

  abbrev outcome : merge.Outcome Node Packet
  outcome = merge.stamped (machine_of (setup_of code a)) a.number stamp (λ _. Take origin) raw_here

  takes : a.stamp < last_stamp → p.stamp < last_stamp → stamp ≡ max a.stamp p.stamp + 1
      → merge.take_at (machine_of (setup_of code a)) a.number (node_of code a) origin (packet_in code p) ≡ Some outcome
  takes old came e =
      let low : nat_lt a.stamp last_stamp ≡ true = grind (arith, nat_tests) in
      let early : nat_lt p.stamp last_stamp ≡ true = grind (arith, nat_tests) in
      ap (λ t. if t then Some (merge.stamped (machine_of (setup_of code a)) a.number (max a.stamp p.stamp + 1) (λ _. Take origin) raw_here) else None)
      (together (nat_lt a.stamp last_stamp) (nat_lt p.stamp last_stamp) low early)
      ∙ ap (λ s. Some (merge.stamped (machine_of (setup_of code a)) a.number s (λ _. Take origin) raw_here)) (sym e)

  -- The entry came first, and then all else.
  pub has_taken : a.stamp < last_stamp → p.stamp < last_stamp → stamp ≡ max a.stamp p.stamp + 1
      → HasEntered (record { stamp = stamp; event = Take origin; step = step_of_body a.number p.body }) a b
      → LeftTaking code stamp b c first after origin p.body → HasTaken code a c first after origin p
  has_taken old came e entered left =
      let same = raw_is entered.settings (entered.node code) in
      let here = sent_as code b.nodelets a.nodelets b.number a.number stamp stamp (raw (setup_of code b) b.number (node_of code b)).bodies first first after
      entered.settings.nodelets entered.settings.number refl (λ k. refl) left.sends in
      let sends = subst (λ (r : Outcome). SentMore code a.nodelets a.number stamp r.bodies first after) same here in
      record {
        outcome = outcome;
        takes = takes old came e;
        had = record {
          settings = settings_then a b c entered.settings left.settings;
          node = left.node ∙ ap (λ (r : Outcome). stamped_node stamp r.node) same;
          entries = left.entries ∙ entered.entries
              ∙ ap (λ s. let it : Entry = record { stamp = stamp; event = Take origin; step = s } in a.entries ++ it ∷ []) (step_is code (setup_of code a) a.number (node_of code a) origin p.body);
          more = sends.more;
          sent = sends.sent;
          told = sends.told;
          fit = sends.fit;
        };
      }
