-- What is promised of a sender, in one place. The proofs are in the modules cited.
--   books-kept                   after any calls from a fresh sender, refused ones included, the book rules hold, so no
--                                call answers 3
--   demand-three                 demand 3 as a whole, after any such calls
--   lost-sent, run-within, run_none, run-quiet, run-left   its parts
--   refused-nothing              a refusal changes nothing, except that 11 keeps a new RTT (Counts)
--   ack-counts, message-counts   the counts in the answers are true (Counts)
--   run_room                     a run's records fit in the room that is required
--   run-drops, run-drops-front   a drop happens at most once in a run, first, and exactly if the front is late (Drops)
--   late_overdue                 it removes only packets that are late, or of the same message as the last late one
--                                before them (Drops)
--   run-once                     no packet is sent twice in a run, except by the flush (Once)
--   run-later                    the rollover: a run with every time and now moved by the same amount (Rollover)
--   report-lost                  the loss list after a report: what was there, and the reported numbers that are
--                                buffered and sent (Reported)
--   report-answer                the answer to a loss report: its numbers, its kinds, maximal runs, at most three per
--                                item
--   payload-lies                 the k-th packet ever pushed lies at (k mod capacity) × packet size
--   payload-readable             and while it is buffered, the store holds there what was pushed
--   written-only                 a message writes the bytes of its payloads and no others (Store)
use mathlib.Core.Path.{◌∙◌, ◌≡◌, ap, refl}
use mathlib.Core.Bool.{Bool, ◌&&◌, not, true}
use mathlib.Core.List.{List, []}
use mathlib.Core.Logic.{◌↔◌}
use Prim.Native.Nat.{◌+◌, ◌-◌, ◌<◌, ◌^◌, ◌≤◌, min, suc, ℕ}
use native.Mathlib.Omega.{arith}
use lib.ListN.{length, length-take}
use borrow.Author.Tests.{not-false}
use Rattle.laws.specs.Bools.{and_l, and_r}
use Rattle.rules_refusals.specs.declared.Refusal.TheVariants.{BadSetting}
use Rattle.rules_refusals.specs.Verdict.{accepted}
use Rattle.refusals.specs.Laws.{when-accepted}
use Rattle.rules_pacing.specs.declared.LiveBandwidthMode.{LiveBandwidthMode}
use Rattle.rules_pacing.specs.Period.{mode_in_range}
use Rattle.rules.specs.BookRules.{kept}
use Rattle.rules.specs.Calls.{Answer, Call, Ran, answer, calls, records, records_of, runs, said_by, stores}
use Rattle.rules.specs.Losses.{Item, items, joined, runs_of, words_of}
use Rattle.rules.specs.Numbers.{wire}
use Rattle.rules_theorems.specs.Demands.{AllGiven, DemandThree, On, Quiet, Within, after_drop}
use Rattle.rules.specs.Records.{sends}
use Rattle.rules.specs.Refusals.{new_verdict}
use Rattle.rules.specs.Reports.{payload_of}
use Rattle.rules.specs.Run.{run}
use Rattle.rules.specs.Sender.{Sender, end, fresh, packet, sent_of}
use Rattle.rules.specs.Settings.{Settings, in_range, place_of, store_size}
use Rattle.rules_theorems.specs.Laws.BookRules.{Good, Kept, facts_kept}
use Rattle.rules_theorems.specs.Laws.Calls.{answer-by, answer-taken}
use Rattle.rules_theorems.specs.Demands.Losses.{AllWords, RunsOf}
use Rattle.rules_theorems.specs.Demands.Store.{Holds, payloads}
use Rattle.rules_theorems.specs.Laws.Run.{sweep}
use Rattle.rules_theorems.proofs.CallsKept.{calls-kept, fresh_kept}
use Rattle.rules_theorems.proofs.Held.{calls_hold, fresh_holds}
use Rattle.rules_theorems.proofs.Lists.{on_above, on_below}
use Rattle.rules_theorems.proofs.Joined.{answer-maximal, answer-room}
use Rattle.rules_theorems.proofs.Losses.{answer-covers, answer-kinds, words-fine}
use Rattle.rules_theorems.proofs.None.{split-quiet}
use Rattle.rules_theorems.proofs.Places.{buffered_few, calls-numbered, fresh-numbered, payload-place}
use Rattle.rules_theorems.proofs.Room.{split-room}
use Rattle.rules_theorems.proofs.RunKept.{old-at}
use Rattle.rules_theorems.proofs.Sends.{split-left, split-none, split-within}
use Rattle.rules_theorems.proofs.Served.{served}
use Rattle.rules_theorems.proofs.Split.{run_is}
use Rattle.std.specs.Prelude.{Ok, Some}

module _ (c : Settings) where
  new-kept : (mode : LiveBandwidthMode) → new_verdict c mode ≡ accepted → Kept c (fresh c mode)
  unfolding new_verdict
  new-kept mode e =
      let r = not-false (in_range c && mode_in_range mode) (when-accepted (not (in_range c && mode_in_range mode)) BadSetting accepted e).0 in
      fresh_kept c mode (and_l _ _ r) (and_r (in_range c) (mode_in_range mode) r)

  pub books-kept : (mode : LiveBandwidthMode) (ks : List Call) → new_verdict c mode ≡ accepted → AllGiven ks
      → kept c (calls c ks (fresh c mode)) ≡ true
  books-kept mode ks e h = facts_kept c _ (calls-kept c ks (fresh c mode) h (new-kept mode e))

  -- "each number on the loss list is a buffered packet already sent"
  pub lost-sent : (s : Sender) → Kept c s → (n : ℕ) → On n s.lost
      → (s.front ≤ n) × (n < end s) × (n < s.next) × (1 ≤ (packet s n).count)
  lost-sent s k n o =
      let lo = on_above n s.front s.next s.lost k.good.lost o in
      let hi = on_below n s.front s.next s.lost k.good.lost o in
      (lo, omega (arith, hi), hi, (old-at c s n k lo hi (omega (arith, lo, hi)) (simp length-take (omega (arith, lo, hi)))).once)

  module _ (now : ℕ) (draining : Bool) where
    -- "sends at most p + 1 packets, the extra one only if its number divides by 16"
    pub run-within : (p : ℕ) (s : Sender) → Within p (run c now draining p s).records
    run-within p s = rw run_is (split-within c now draining p s)

    -- "none for p = 0": not even a record
    pub run_none : (s : Sender) → (run c now draining 0 s).records ≡ []
    run_none s = rw run_is (split-none c now draining s)

    -- "it sends none exactly when, after the late drop, .."
    pub run-quiet : (p : ℕ) (s : Sender) → Good s
        → (sends (run c now draining (suc p) s).records ≡ 0) ↔ Quiet c now draining (after_drop c now s)
    unfolding sweep
    run-quiet p s g = rw run_is (split-quiet c now draining p s g)

    -- the budget left is p less the sends, never below zero, also after a wait
    pub run-left : (p : ℕ) (s : Sender) → (run c now draining p s).left ≡ p - sends (run c now draining p s).records
    run-left p s = rw run_is (split-left c now draining p s)

    -- a run's records fit in the room required, with one to spare
    pub run_room : (p : ℕ) (s : Sender) → Kept c s → length (run c now draining p s).records + 1 ≤ min p (length s.packets) + 3
    run_room p s g = rw run_is (omega (arith, split-room c now draining p s g.good))

  -- what an accepted run answers
  ran : (now p : ℕ) (draining : Bool) (room : ℕ) (s : Sender) → (answer c (runs now p draining room) s).verdict ≡ accepted
      → (answer c (runs now p draining room) s).said ≡ Ran (run c now draining p s).records (run c now draining p s).left
  unfolding said_by
  ran now p draining room s h = ap (λ (a : Answer). a.said) (answer-taken c (runs now p draining room) s h)

  ran-records : (now p : ℕ) (draining : Bool) (room : ℕ) (s : Sender) → (answer c (runs now p draining room) s).verdict ≡ accepted
      → records (answer c (runs now p draining room) s) ≡ (run c now draining p s).records
  unfolding records_of
  ran-records now p draining room s h = ap records_of (ran now p draining room s h)

  none-records : (now : ℕ) (draining : Bool) (room : ℕ) (s : Sender) → records (answer c (runs now 0 draining room) s) ≡ []
  unfolding records_of said_by
  none-records now draining room s =
      answer-by c (runs now 0 draining room) s (λ (a : Answer). records a ≡ []) (λ r e. refl) (λ e. run_none now draining s)

  demand : (s : Sender) → Kept c s → DemandThree c s
  demand s g = record {
    lost = lost-sent s g;
    most = λ now p draining room h. rw (ran-records now p draining room s h) (run-within now draining p s);
    empty = λ now draining room. none-records now draining room s;
    quiet = λ now p draining room h. rw (ran-records now (suc p) draining room s h) (run-quiet now draining p s g.good);
    left = λ now p draining room h.
        ran now p draining room s h
        ∙ rw (ran-records now p draining room s h) (ap (Ran (run c now draining p s).records) (run-left now draining p s));
    served = λ n ks h o sp u. served c n ks s h g o sp (omega arith);
  }

  pub demand-three : (mode : LiveBandwidthMode) (ks : List Call) → new_verdict c mode ≡ accepted → AllGiven ks
      → DemandThree c (calls c ks (fresh c mode))
  demand-three mode ks e h = demand (calls c ks (fresh c mode)) (calls-kept c ks (fresh c mode) h (new-kept mode e))

  -- the answer to a report of u32 words
  pub report-answer : (s : Sender) → Kept c s → (ws : List ℕ) → AllWords ws → (is : List Item) → words_of ws ≡ items is
      → RunsOf s is (joined (runs_of s is))
  report-answer s g ws w is e =
      let few = buffered_few c s g in
      let short : sent_of s < 2 ^ 30 = omega (arith, g.good.high) in
      let fine = words-fine ws w is e in
      record {
        covers = answer-covers s g.good short is fine;
        kinds = answer-kinds s g.good short is fine;
        maximal = answer-maximal (runs_of s is);
        few = answer-room s is;
      }

  -- from a fresh sender, after any calls: the k-th packet ever pushed, while it is buffered, lies at (k mod capacity) ×
  -- packet size
  pub payload-lies : (mode : LiveBandwidthMode) (ks : List Call) → new_verdict c mode ≡ accepted → AllGiven ks
      → (k : ℕ) → (calls c ks (fresh c mode)).front ≤ c.first + k → c.first + k < end (calls c ks (fresh c mode))
      → payload_of c (calls c ks (fresh c mode)) (wire (c.first + k))
      ≡ Some (record { place = place_of c k; len = (packet (calls c ks (fresh c mode)) (c.first + k)).len })
  payload-lies mode ks e h =
      payload-place c (calls c ks (fresh c mode)) (calls-kept c ks (fresh c mode) h (new-kept mode e))
      (calls-numbered c ks (fresh c mode) (fresh-numbered c mode))

  -- and the store, if it is long enough, holds there what was pushed: byte j of the k-th payload is at that place + j
  pub payload-readable : (mode : LiveBandwidthMode) (ks : List Call) (store : List ℕ) → new_verdict c mode ≡ accepted → AllGiven ks
      → store_size c ≤ length store → Holds c (calls c ks (fresh c mode)) (stores c ks (fresh c mode) store) (payloads c ks (fresh c mode))
  payload-readable mode ks store e h big =
      calls_hold c ks (fresh c mode) store [] h (new-kept mode e) (fresh-numbered c mode) (fresh_holds c mode store big)
