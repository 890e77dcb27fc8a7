-- After any public calls from a fresh sender, refused ones included: the answers are those of the rules, the books
-- represent the sender of the rules, and what the rules promise holds of it.
--   Stood c w s                        the world w represents the sender s of the rules, which keeps the book rules
--   one_answer, one_world, one_store   a call in such a world answers as the rules do, and leaves such a world
--   sender_of ks                       the sender of the rules after the calls ks
--   always, stores, answers            after any calls: the books, the store, and the next call's answer
--   reports-told                       the reports are those of the sender of the rules
--   books-stay                         the books keep the rules, so no call answers 3
--   demand-three                       demand 3 as a whole, of the sender that the books represent
use Rattle.std.specs.Prelude.{◌≡◌, true, ℕ, ◌*◌, ◌≤◌, Some, None, Ok, Err}
use Rattle.std.proofs.Math.Path.{refl, sym, ap}
use Rattle.std.proofs.Common.{◌∙◌, subst}
use mathlib.Core.List.{List, [], ◌∷◌, map}
use Rattle.std.proofs.Math.ListN.{length}
use Rattle.rules_pacing.specs.declared.LiveBandwidthMode.{LiveBandwidthMode}
use Rattle.rules.specs.Settings.{Settings, capacity, store_size}
use Rattle.rules.specs.Sender.{Sender, fresh}
use Rattle.rules_theorems.specs.Laws.BookRules.{Kept, kept_facts}
use Rattle.rules.specs.Calls as rules
use Rattle.rules.specs.Refusals.{new_verdict}
use Rattle.rules.specs.Reports.{is_flushed, has_packets_to_send, buffered_packets, buffered_bytes, buffered_time}
use Rattle.rules_theorems.specs.Demands.{Given, AllGiven, DemandThree}
use Rattle.rules.specs.Message.{stored}
use Rattle.rules_theorems.proofs.CallsKept.{answer-kept}
use Rattle.rules_theorems.proofs.Store.{written-length}
use Rattle.rules_theorems.proofs.Theorems as theorems
use Rattle.rules_theorems.proofs.Theorems.{books-kept}
use Rattle.rules_packets.specs.Split.{count}
use Rattle.buffer.specs.declared.Settings as code
use Rattle.buffer.specs.State.{settings_of}
use Rattle.sender.specs.SenderAndAreas.{books, rules_of, kept}
use Rattle.sender.specs.SenderAndAreas.Stands.{StandsFor, kept-is}
use Rattle.sender.specs.Calls.Stands as Message
use Rattle.sender.specs.Acks.Stands as Ack
use Rattle.nak.specs.Naks.Stands as Nak
use Rattle.payload.specs.Payload.Stands as Payload
use Rattle.reports.specs.Reports.{reports}
use Rattle.reports.proofs.Refines.{reports_refines}
use Rattle.run.specs.Runs.Stands as Run
use Rattle.promises.specs.Promises.{World, Call, message, ack, nak, run, payload, rule_of, Fits, AllFit, after, worlds, Same, started}
use Rattle.rules_refusals.specs.Verdict.{Verdict, accepted}

pub record Stood (c : Settings) (w : World) (s : Sender) : Type 0 where
  pub settings : rules_of w.books ≡ c
  pub stands : StandsFor w.books s
  pub kept : Kept c s
  pub room : store_size c ≤ length w.store

given : (k : Call) → Fits k → Given (rule_of k)
given (message time now bytes) f = tt
given (ack n None rtt) f = tt
given (ack n (Some m) rtt) f = f
given (nak words list) f = tt
given (run now p draining list) f = tt
given (payload n) f = tt

module _ {c : Settings} {w : World} {s : Sender} (S : Stood c w s) where
  K : Kept (rules_of w.books) s
  K = subst (λ (d : Settings). Kept d s) (sym S.settings) S.kept

  long : store_size (rules_of w.books) ≤ length w.store
  long = subst (λ (d : Settings). store_size d ≤ length w.store) (sym S.settings) S.room

  pub one_answer : (k : Call) → Fits k → Same s k w (rules.answer (rules_of w.books) (rule_of k) s)
  one_answer (message time now bytes) f = Message.message_refines w.books s S.stands K time now bytes w.store long
  one_answer (ack n full rtt) f = Ack.ack_refines w.books s S.stands K n full rtt
  one_answer (nak words list) f = Nak.nak_refines w.books s S.stands K words list f
  one_answer (run now p draining list) f = Run.run_refines w.books s S.stands K now p draining list
  one_answer (payload n) f = Payload.payload_refines w.books s S.stands K n w.store long

-- the store keeps its length
module _ (c : Settings) (s : Sender) (time now : ℕ) (bytes store : List ℕ) (room : store_size c ≤ length store) where
  stored-long : store_size c ≤ length (rules.store_after c (rules.message time now bytes) s store)
  unfolding rules.store_after rules.store_by stored
  stored-long = go (rules.verdict_of c (rules.message time now bytes) s)
    where
      go : (v : Verdict) → store_size c ≤ length (rules.store_by c v (rules.message time now bytes) s store)
      go (Ok _) = rw (written-length c bytes s.pushed 0 (count c.size (length bytes)) store room) room
      go (Err r) = room

module _ {c : Settings} {w : World} {s : Sender} (S : Stood c w s) where
  abbrev d : Settings
  d = rules_of w.books

  keeps : (k : Call) → Fits k → Kept c (rules.answer c (rule_of k) s).after
  keeps k f = answer-kept c (rule_of k) s (given k f) S.kept

  as_rules : (k : Call) → rules.answer d (rule_of k) s ≡ rules.answer c (rule_of k) s
  as_rules k = ap (λ (e : Settings). rules.answer e (rule_of k) s) S.settings

  -- the world after a call, from what its answer says
  stood : (k : Call) → Fits k → rules_of (after k w).books ≡ d → StandsFor (after k w).books (rules.answer d (rule_of k) s).after
      → store_size c ≤ length (after k w).store
      → Stood c (after k w) (rules.answer c (rule_of k) s).after
  stood k f same stands room = record {
    settings = same ∙ S.settings;
    stands = subst (λ (a : rules.Answer). StandsFor (after k w).books a.after) (as_rules k) stands;
    kept = keeps k f;
    room = room;
  }

  -- the world after a call represents the sender after it in the rules
  pub one_world : (k : Call) → Fits k → Stood c (after k w) (rules.answer c (rule_of k) s).after
  unfolding after
  one_world (message time now bytes) f =
      let A = one_answer S (message time now bytes) f in
      stood (message time now bytes) f (ap settings_of A.settings) A.stands (rw (A.store, S.settings) (stored-long c s time now bytes w.store S.room))
  one_world (ack n full rtt) f =
      let A = one_answer S (ack n full rtt) f in
      stood (ack n full rtt) f (ap settings_of A.settings) A.stands S.room
  one_world (nak words list) f =
      let A = one_answer S (nak words list) f in
      stood (nak words list) f (ap settings_of A.settings) A.stands S.room
  one_world (run now p draining list) f =
      let A = one_answer S (run now p draining list) f in
      stood (run now p draining list) f (ap settings_of A.settings) A.stands S.room
  one_world (payload n) f = stood (payload n) f refl (rw (one_answer S (payload n) f).same S.stands) S.room

  -- an accepted call that doesn't write to the store
  unwritten : (k : rules.Call) → rules.store_by c accepted k s w.store ≡ w.store → w.store ≡ rules.store_after c k s w.store
  unfolding rules.store_after rules.store_by
  unwritten k e = go (rules.verdict_of c k s)
    where
      go : (v : Verdict) → w.store ≡ rules.store_by c v k s w.store
      go (Ok _) = sym e
      go (Err r) = refl

  -- only an accepted message writes to the store
  pub one_store : (k : Call) → Fits k → (after k w).store ≡ rules.store_after c (rule_of k) s w.store
  unfolding after rules.store_by
  one_store (message time now bytes) f =
      (one_answer S (message time now bytes) f).store ∙ ap (λ (e : Settings). rules.store_after e (rules.message time now bytes) s w.store) S.settings
  one_store (ack n full rtt) f = unwritten (rule_of (ack n full rtt)) refl
  one_store (nak words list) f = unwritten (rule_of (nak words list)) refl
  one_store (run now p draining list) f = unwritten (rule_of (run now p draining list)) refl
  one_store (payload n) f = unwritten (rule_of (payload n)) refl

-- ## Any calls

module _ (c : Settings) where
  from-here : (ks : List Call) (w : World) (s : Sender) → AllFit ks → Stood c w s → Stood c (worlds ks w) (rules.calls c (map rule_of ks) s)
  unfolding worlds rules.calls
  from-here [] w s f S = S
  from-here (k ∷ ks) w s f S = from-here ks (after k w) (rules.answer c (rule_of k) s).after f.1 (one_world S k f.0)

  stores-here : (ks : List Call) (w : World) (s : Sender) → AllFit ks → Stood c w s → (worlds ks w).store ≡ rules.stores c (map rule_of ks) s w.store
  unfolding worlds rules.stores
  stores-here [] w s f S = refl
  stores-here (k ∷ ks) w s f S =
      stores-here ks (after k w) (rules.answer c (rule_of k) s).after f.1 (one_world S k f.0)
      ∙ ap (rules.stores c (map rule_of ks) (rules.answer c (rule_of k) s).after) (one_store S k f.0)

all-given : (ks : List Call) → AllFit ks → AllGiven (map rule_of ks)
all-given [] f = tt
all-given (k ∷ ks) f = (given k f.0, all-given ks f.1)

-- a fresh sender from `new`, in areas as long as its capacity requires
module _ (b : code.Settings) (mode : LiveBandwidthMode) (ring lost store : List ℕ) (accepted : new_verdict (settings_of b) mode ≡ accepted)
    (entries : capacity (settings_of b) * 6 ≤ length ring) (losses : capacity (settings_of b) ≤ length lost) (payloads : store_size (settings_of b) ≤ length store) where
  abbrev c : Settings
  c = settings_of b

  abbrev start : World
  start = started b mode ring lost store

  new-kept : Kept c (fresh c mode)
  unfolding rules.calls
  new-kept = kept_facts c (fresh c mode) (books-kept c mode [] accepted tt)

  -- the sender of the rules after the same calls
  abbrev pub sender_of : List Call → Sender
  sender_of ks = rules.calls c (map rule_of ks) (fresh c mode)

  start-stood : Stood c start (fresh c mode)
  start-stood = record { settings = refl; stands = Message.new_refines b mode ring lost new-kept.fields.settings entries losses; kept = new-kept; room = payloads }

  pub always : (ks : List Call) → AllFit ks → Stood c (worlds ks start) (sender_of ks)
  always ks f = from-here c ks start (fresh c mode) f start-stood

  -- and the store is, byte for byte, that of the rules
  pub stores : (ks : List Call) → AllFit ks → (worlds ks start).store ≡ rules.stores c (map rule_of ks) (fresh c mode) store
  stores ks f = stores-here c ks start (fresh c mode) f start-stood

  -- the next call's answer, and every word of its lent list, is that of the rules
  pub answers : (ks : List Call) → AllFit ks → (k : Call) → Fits k → Same (sender_of ks) k (worlds ks start) (rules.answer c (rule_of k) (sender_of ks))
  answers ks f k g =
      let S = always ks f in
      subst (λ (d : Settings). Same (sender_of ks) k (worlds ks start) (rules.answer d (rule_of k) (sender_of ks))) S.settings (one_answer S k g)

  -- and so are the reports
  pub reports-told : (ks : List Call) → AllFit ks → reports (worlds ks start).books ≡ Ok (record {
    is_flushed = is_flushed (sender_of ks);
    has_packets_to_send = has_packets_to_send (sender_of ks);
    len = buffered_packets (sender_of ks);
    len_bytes = buffered_bytes (sender_of ks);
    duration = buffered_time (sender_of ks);
  })
  reports-told ks f =
      let S = always ks f in
      reports_refines (worlds ks start).books (sender_of ks) S.stands (subst (λ (d : Settings). Kept d (sender_of ks)) (sym S.settings) S.kept)

  -- the books keep the rules, so the next call does not answer 3
  pub books-stay : (ks : List Call) → AllFit ks → kept (worlds ks start).books ≡ true
  books-stay ks f =
      let S = always ks f in
      kept-is (worlds ks start).books (sender_of ks) S.stands (subst (λ (d : Settings). Kept d (sender_of ks)) (sym S.settings) S.kept)

  -- demand 3, of the sender that the books represent
  pub demand-three : (ks : List Call) → AllFit ks → DemandThree c (sender_of ks)
  demand-three ks f = theorems.demand-three c mode (map rule_of ks) accepted (all-given ks f)
