-- Host entries, one after the other, are the public calls, one after the other: what the crate promises says of the
-- calls holds of the host's numbers.
--   Hub, world_of             what a host keeps and lends; the sender and areas it represents
--   enter, enters             the hub after an entry, and after a list of entries, refused ones included
--   entered-is, all-entered   they leave what the public calls leave, so Promises/Always of promises holds of them
--   new_hub, new-started      the hub with a new sender; it is the fresh sender of promises
--   host_always               after any entries from there, it represents the sender of the rules after the same calls
--   host_answers              and the next call answers as the rules do, with every word of its lent list
--   refused-enters            "A refusal changes nothing lent or kept": no number that the host keeps, no word of the
--                             areas or of the store, except by 11
--   refused-lists             and no element of the lent list
use Rattle.std.specs.Prelude.{◌≡◌, Bool, List, [], ◌∷◌, map, ℕ, ◌*◌, ◌≤◌, eqb, length, Option, Some, None, Result, Ok, Err}
use Rattle.std.proofs.Math.Path.{refl, sym}
use Rattle.std.proofs.Common.{ap, ◌∙◌, subst, ne_eqb}
use Rattle.std.proofs.lemmas.Bool.{eqb-false}
use Rattle.laws.specs.Choice.{cond-by}
use Rattle.rules_refusals.specs.Table.{number_of}
use Rattle.rules_refusals.specs.declared.Refusal.{Refusal}
use Rattle.rules_refusals.specs.Verdict.{accepted}
use Rattle.rules_pacing.specs.declared.LiveBandwidthMode.{LiveBandwidthMode}
use Rattle.rules.specs.Settings.{capacity, store_size}
use Rattle.rules.specs.Sender.{fresh}
use Rattle.rules.specs.Refusals.{new_verdict}
use Rattle.rules.specs.Calls as rules
use Rattle.buffer.specs.declared.Settings.{Settings}
use Rattle.buffer.specs.State.{settings_of}
use Rattle.buffer_ack.specs.declared.AckAction.{AckAction}
use Rattle.sender.specs.declared.Sender.{Sender}
use Rattle.sender.specs.Calls as Calls
use Rattle.sender.specs.Calls.{made}
use Rattle.sender.specs.Calls.Stands as Message
use Rattle.sender.specs.Acks as Acks
use Rattle.sender.specs.Acks.Stands as Ack
use Rattle.nak.specs.Naks as Naks
use Rattle.nak.specs.Naks.Stands as Nak
use Rattle.run.specs.Runs as Runs
use Rattle.run.specs.Runs.Stands as Run
use Rattle.host_structs.specs.declared.senders.FlatSender.{FlatSender}
use Rattle.host_structs.specs.Senders.{sender_of, flat_from}
use Rattle.host_structs.proofs.ReadBack.{read_back}
use Rattle.host_structs.specs.Replies.{refused_of, new_of, message_of, ack_left, answer_by, ack_of, nak_of, run_of}
use Rattle.host_structs.proofs.HostAnswers.{message-after, nak-after, run-after}
use Rattle.promises.specs.Promises as calls
use Rattle.promises.specs.Promises.{World, Call, rule_of, Fits, AllFit, after, worlds, Same, started}
use Rattle.promises.proofs.Promises.Always.{Stood, always, answers}
use Rattle.promises.specs.Promises.Refusals.{verdict_in, refused-stays, refused-list}
use Rattle.phelgomrit.specs.Entries.{books_of, message, ack, nak, run}
use Rattle.sender.specs.declared.Answer.{Answer}
use Rattle.rules_numbers.specs.declared.Rtt.{Rtt}

pub record Hub : Type 0 where
  pub kept : FlatSender
  pub ring : List ℕ
  pub lost : List ℕ
  pub store : List ℕ

abbrev pub world_of : Hub → World
world_of h = record { books = books_of h.kept h.ring h.lost; store = h.store }

unfoldable pub enter : Call → Hub → Hub
enter (calls.message time now bytes) h =
    let l = message h.kept time now bytes h.ring h.lost h.store in
    record { kept = l.answer.sender; ring = l.ring; lost = l.lost; store = l.store }
enter (calls.ack n full rtt) h =
    record { kept = (ack h.kept n full rtt h.ring h.lost).sender; ring = h.ring; lost = h.lost; store = h.store }
enter (calls.nak words list) h =
    let l = nak h.kept words h.ring h.lost list in
    record { kept = l.answer.sender; ring = h.ring; lost = l.lost; store = h.store }
enter (calls.run now p draining list) h =
    let l = run h.kept now p draining h.ring h.lost list in
    record { kept = l.answer.sender; ring = l.ring; lost = l.lost; store = h.store }
enter (calls.payload n) h = h

unfoldable pub enters : List Call → Hub → Hub
enters [] h = h
enters (k ∷ ks) h = enters ks (enter k h)

-- ## An ACK's sender

module _ (f : FlatSender) where
  acted : (s : Sender) (a : AckAction) (n : Option ℕ) → sender_of (answer_by s a n).sender ≡ s
  acted s a None = read_back s
  acted s a (Some n) = read_back s

  ack-after : (a : Result (Sender × AckAction) (Sender × Refusal)) → ((s : Sender) (r : Refusal) → a ≡ (Err (s, r)) → (number_of r ≡ 11 → ⊥) → s ≡ sender_of f)
      → sender_of (ack_of f a).sender ≡ Ack.sender_after a
  unfolding ack_of ack_left refused_of
  ack-after (Ok (s, a)) h = acted s a a.send_ack2
  ack-after (Err (s, r)) h =
      cond-by (λ (g : FlatSender). sender_of g ≡ s) (eqb (number_of r) 11) (flat_from s) f (λ e. read_back s) (λ e. sym (h s r refl (eqb-false _ _ e)))

-- what a refused ACK leaves, from what `promises` says
refused-sender : (w : World) (n : ℕ) (full : Option ℕ) (rtt : Option Rtt) (s : Sender) (r : Refusal)
    → Acks.ack w.books n full rtt ≡ (Err (s, r)) → (number_of r ≡ 11 → ⊥) → s ≡ w.books.sender
unfolding verdict_in after
refused-sender w n full rtt s r e o =
    sym (ap Ack.sender_after e) ∙ ap (λ (v : World). v.books.sender) (refused-stays (calls.ack n full rtt) w r (ap Ack.verdict_of e) o)

-- ## The entries are the calls

pub entered-is : (k : Call) (h : Hub) → world_of (enter k h) ≡ after k (world_of h)
unfolding enter after message ack nak run
entered-is (calls.message time now bytes) h =
    let l = Calls.message (books_of h.kept h.ring h.lost) time now bytes h.store in
    ap (λ (s : Sender). record { books = record { sender = s; ring = l.ring; lost = l.lost }; store = l.store }) (message-after h.kept l.answer)
entered-is (calls.ack n full rtt) h =
    ap (λ (s : Sender). record { books = record { sender = s; ring = h.ring; lost = h.lost }; store = h.store })
    (ack-after h.kept (Acks.ack (books_of h.kept h.ring h.lost) n full rtt) (λ s r. refused-sender (world_of h) n full rtt s r))
entered-is (calls.nak words list) h =
    let l = Naks.nak (books_of h.kept h.ring h.lost) words list in
    ap (λ (s : Sender). record { books = record { sender = s; ring = h.ring; lost = l.lost }; store = h.store }) (nak-after h.kept l.answer)
entered-is (calls.run now p draining list) h =
    let l = Runs.run (books_of h.kept h.ring h.lost) now p draining list in
    ap (λ (s : Sender). record { books = record { sender = s; ring = l.ring; lost = l.lost }; store = h.store }) (run-after h.kept l.answer)
entered-is (calls.payload n) h = refl

pub all-entered : (ks : List Call) (h : Hub) → world_of (enters ks h) ≡ worlds ks (world_of h)
unfolding enters worlds
all-entered [] h = refl
all-entered (k ∷ ks) h = all-entered ks (enter k h) ∙ ap (worlds ks) (entered-is k h)

-- ## From a new sender

module _ (c : Settings) (mode : LiveBandwidthMode) (ring lost store : List ℕ) (accepted : new_verdict (settings_of c) mode ≡ accepted) where
  abbrev pub new_hub : Hub
  new_hub = record { kept = (new_of (made c mode)).sender; ring = ring; lost = lost; store = store }

  pub new-started : world_of new_hub ≡ started c mode ring lost store
  unfolding new_of made
  new-started = rw accepted (ap (λ (s : Sender). record { books = record { sender = s; ring = ring; lost = lost }; store = store }) (read_back _))

  module _ (entries : capacity (settings_of c) * 6 ≤ length ring) (losses : capacity (settings_of c) ≤ length lost) (payloads : store_size (settings_of c) ≤ length store) where
    pub host_always : (ks : List Call) → AllFit ks → Stood (settings_of c) (world_of (enters ks new_hub)) (rules.calls (settings_of c) (map rule_of ks) (fresh (settings_of c) mode))
    host_always ks f =
        subst (λ (w : World). Stood (settings_of c) w (rules.calls (settings_of c) (map rule_of ks) (fresh (settings_of c) mode)))
        (sym (all-entered ks new_hub ∙ ap (worlds ks) new-started)) (always c mode ring lost store accepted entries losses payloads ks f)

    -- and the next call, whose answer the entry returns as numbers, answers as the rules do
    pub host_answers : (ks : List Call) → AllFit ks → (k : Call) → Fits k
        → Same (rules.calls (settings_of c) (map rule_of ks) (fresh (settings_of c) mode)) k (world_of (enters ks new_hub))
        (rules.answer (settings_of c) (rule_of k) (rules.calls (settings_of c) (map rule_of ks) (fresh (settings_of c) mode)))
    host_answers ks f k g =
        subst (λ (w : World). Same (rules.calls (settings_of c) (map rule_of ks) (fresh (settings_of c) mode)) k w
        (rules.answer (settings_of c) (rule_of k) (rules.calls (settings_of c) (map rule_of ks) (fresh (settings_of c) mode))))
        (sym (all-entered ks new_hub ∙ ap (worlds ks) new-started)) (answers c mode ring lost store accepted entries losses payloads ks f k g)

-- ## A refused entry

-- what is kept, with the areas of a world
abbrev hub : FlatSender → World → Hub
hub f w = record { kept = f; ring = w.books.ring; lost = w.books.lost; store = w.store }

module _ (r : Refusal) (o : number_of r ≡ 11 → ⊥) (h : Hub) where
  same : (k : Call) (f : FlatSender) → f ≡ h.kept → verdict_in k (world_of h) ≡ Err r → hub f (after k (world_of h)) ≡ h
  same k f e v = ap (λ (g : FlatSender). hub g (after k (world_of h))) e ∙ ap (hub h.kept) (refused-stays k (world_of h) r v o)

  message-given : (a : Result (Sender × Answer) Refusal) → Message.verdict_of a ≡ Err r → (message_of h.kept a).sender ≡ h.kept
  unfolding message_of
  message-given (Ok (s, a)) e = cc
  message-given (Err q) e = refl

  ack-given : (a : Result (Sender × AckAction) (Sender × Refusal)) → Ack.verdict_of a ≡ Err r → (ack_of h.kept a).sender ≡ h.kept
  unfolding ack_of ack_left refused_of
  ack-given (Ok (s, a)) e = cc
  ack-given (Err (s, q)) e =
      let is : number_of q ≡ number_of r = cc in
      rw (ne_eqb (number_of q) 11 (λ p. o (sym is ∙ p)))

  nak-given : (a : Result (Sender × ℕ) Refusal) → Nak.verdict_of a ≡ Err r → (nak_of h.kept a).sender ≡ h.kept
  unfolding nak_of
  nak-given (Ok (s, n)) e = cc
  nak-given (Err q) e = refl

  run-given : (a : Result (Sender × ℕ × ℕ) Refusal) → Run.verdict_of a ≡ Err r → (run_of h.kept a).sender ≡ h.kept
  unfolding run_of
  run-given (Ok (s, n, left)) e = cc
  run-given (Err q) e = refl

  pub refused-enters : (k : Call) → verdict_in k (world_of h) ≡ Err r → enter k h ≡ h
  unfolding enter after message ack nak run verdict_in
  refused-enters (calls.message time now bytes) e = same (calls.message time now bytes) _ (message-given _ e) e
  refused-enters (calls.ack n full rtt) e = same (calls.ack n full rtt) _ (ack-given _ e) e
  refused-enters (calls.nak words list) e = same (calls.nak words list) _ (nak-given _ e) e
  refused-enters (calls.run now p draining list) e = same (calls.run now p draining list) _ (run-given _ e) e
  refused-enters (calls.payload n) e = refl

module _ (r : Refusal) (h : Hub) where
  pub refused-lists :
      ((words list : List ℕ) → verdict_in (calls.nak words list) (world_of h) ≡ Err r → (nak h.kept words h.ring h.lost list).out ≡ list)
      × ((now p : ℕ) (draining : Bool) (list : List ℕ) → verdict_in (calls.run now p draining list) (world_of h) ≡ Err r
      → (run h.kept now p draining h.ring h.lost list).out ≡ list)
  unfolding nak run
  refused-lists = refused-list (world_of h) r
