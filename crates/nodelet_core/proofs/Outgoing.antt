-- What a nodelet sends to others.
use Rattle.std.proofs.Common.{◌≡◌, ◌≢◌, ℕ, Bool, true, false, List, [], ◌∷◌, ◌++◌, refl, ap, sym, ◌∙◌, subst, arith, rules}
use Rattle.std.specs.Prelude.{◌==◌, ◌&&◌, nat_lt, if◌then◌else◌, map, All}
use Rattle.std.proofs.lemmas.Bool.Decides.{nat_tests, eqb_tells}
use Rattle.std.proofs.lemmas.List.{append-nil}
use Rattle.word_ops.specs.declared.name.Name.{Name}
use Rattle.threadlet_code.specs.declared.code.Code.{Code}
use Rattle.threadlet_state.specs.declared.packet.Packet as sent
use Rattle.threadlet_state.specs.declared.packet.Body as sent_body
use Rattle.merge_law.specs.Machine.{is_linked}
use Rattle.nodelet_core.specs.declared.sending.Item.{Item}
use Rattle.nodelet_core.specs.declared.sending.Item.TheVariants as item
use Rattle.core_model.specs.Contexts.{Body, Issued}
use Rattle.nodelet_core.specs.Carried.{body_in}
use Rattle.core_model.specs.Effects.{Sends, nothing, only_to, to_all}
use Rattle.core_model.specs.Machine.{packet_of}
use Rattle.nodelet_core.specs.Kept.{packet_in, packet_fits, body_fits}
use Rattle.nodelet_core.specs.Left.{Sent}
use Rattle.nodelet_core.specs.code.Told.{body_for, told_to}
use Rattle.nodelet_core.specs.code.Doing.{SentMore, item_of}

-- ---- links

linked_under : (n here k : ℕ) → is_linked n here k ≡ true → nat_lt k n ≡ true
linked_under n here k e = grind (arith, nat_tests, eqb_tells)

-- ---- one packet

one_fits : (code : Code) (p : sent.Packet) → packet_fits code p ≡ true → All (λ q. packet_fits code q ≡ true) (p ∷ [])
one_fits code p e = search rules

none_fits : (code : Code) → All (λ q. packet_fits code q ≡ true) []
none_fits code = search rules

module _ (code : Code) (n here stamp : ℕ) (body : sent_body.Body) (fits : body_fits code body ≡ true) where
  abbrev packet : sent.Packet
  packet = record { stamp = stamp; body = body }

  abbrev where_sent : Bool → List sent.Packet
  where_sent so = if so then packet ∷ [] else []

  fits_where : (so : Bool) → All (λ q. packet_fits code q ≡ true) (where_sent so)
  fits_where true = one_fits code packet fits
  fits_where false = none_fits code

  -- It is sent to one nodelet.
  pub sent_one : (to : ℕ) (before after : Sent) → is_linked n here to ≡ true → after to ≡ before to ++ packet ∷ [] → ((k : ℕ) → k ≢ to → after k ≡ before k)
      → SentMore code n here stamp (only_to to (body_in code body)) before after
  sent_one to before after linked there elsewhere = record {
    more = λ k. where_sent (k == to);
    sent = λ k. sent_at k (k == to) refl;
    told = λ k. told_at k (k == to) refl (is_linked n here k) refl;
    fit = λ k. fits_where (k == to);
  }
    where
      sent_at : (k : ℕ) (same : Bool) → (k == to) ≡ same → after k ≡ before k ++ where_sent same
      sent_at k true e = let is : k ≡ to = grind (arith, nat_tests, eqb_tells) in subst (λ j. after j ≡ before j ++ packet ∷ []) (sym is) there
      sent_at k false e = let other : k ≢ to = grind (arith, nat_tests, eqb_tells) in elsewhere k other ∙ sym (append-nil (before k))

      told_at : (k : ℕ) (same : Bool) → (k == to) ≡ same → (linked : Bool) → is_linked n here k ≡ linked
          → map (packet_in code) (where_sent same) ≡ (if linked then map (packet_of stamp) (if same then body_in code body ∷ [] else []) else [])
      told_at k true e true f = refl
      told_at k true e false f =
          let is : k ≡ to = grind (arith, nat_tests, eqb_tells) in
          absurd (let wrong : false ≡ true = sym f ∙ ap (is_linked n here) is ∙ linked in cc)
      told_at k false e true f = refl
      told_at k false e false f = refl

  told_where : (under linked : Bool) (b : Body) → body_in code body ≡ b → (linked ≡ true → under ≡ true)
      → map (packet_in code) (where_sent (under && linked)) ≡ (if linked then map (packet_of stamp) (if under then b ∷ [] else []) else [])
  told_where true true b e under = ap (λ z. packet_of stamp z ∷ []) e
  told_where true false b e under = refl
  told_where false true b e under = absurd (let wrong : false ≡ true = under refl in cc)
  told_where false false b e under = refl

  -- It is sent to all that are linked.
  pub sent_to_all : (item : Item) (name : Name) (before after : Sent) → body_in code body ≡ Issued name (item_of item) → ((k : ℕ) → after k ≡ before k ++ told_to n here n packet k)
      → SentMore code n here stamp (to_all n (Issued name (item_of item))) before after
  sent_to_all item name before after is all = record {
    more = told_to n here n packet;
    sent = all;
    told = λ k. told_where (nat_lt k n) (is_linked n here k) (Issued name (item_of item)) is (linked_under n here k);
    fit = λ k. fits_where (nat_lt k n && is_linked n here k);
  }

-- ---- the same by other names

pub sent_nothing : (code : Code) (n here stamp : ℕ) (now : Sent) → SentMore code n here stamp nothing now now
sent_nothing code n here stamp now = record {
  more = λ k. [];
  sent = λ k. sym (append-nil (now k));
  told = λ k. by_link (is_linked n here k);
  fit = λ k. none_fits code;
}
  where
    by_link : (linked : Bool) → map (packet_in code) [] ≡ (if linked then map (packet_of stamp) [] else [])
    by_link true = refl
    by_link false = refl

-- What was sent before is the same at each nodelet, and so are the sender and its stamp.
pub sent_as : (code : Code) (n m here k stamp time : ℕ) (bodies : Sends) (first before after : Sent) → n ≡ m → here ≡ k → stamp ≡ time → ((j : ℕ) → before j ≡ first j)
    → SentMore code n here stamp bodies before after → SentMore code m k time bodies first after
sent_as code n m here k stamp time bodies first before after e f g same it =
    let at_first : SentMore code n here stamp bodies first after = record {
      more = it.more;
      sent = λ j. it.sent j ∙ ap (λ l. l ++ it.more j) (same j);
      told = it.told;
      fit = it.fit;
    } in
    subst (λ s. SentMore code m k s bodies first after) g
    (subst (λ h. SentMore code m h stamp bodies first after) f (subst (λ z. SentMore code z here stamp bodies first after) e at_first))

-- ---- an item

pub item_is : (code : Code) (name : Name) (i : Item) → body_in code (body_for name i) ≡ Issued name (item_of i)
item_is code name (item.Operation op address word at) = refl
item_is code name (item.Grant first count) = refl

pub item_fits : (code : Code) (name : Name) (i : Item) → body_fits code (body_for name i) ≡ true
item_fits code name (item.Operation op address word at) = refl
item_fits code name (item.Grant first count) = refl
