-- What the theorems say of a sender, in the words of the demands; the theorems are in proofs/Theorems.antt. This file
-- is demand 3. The others are in Demands/: Drops (the late drop), Once (no packet twice), Times (the rollover), Losses
-- (the answer to a report), Store (the payloads).
--   Given k, AllGiven ks      the arguments of a call fit their types: an ACK's full number is a u32
--   On n xs                   n is on the loss list
--   Within p rs               at most p sends, or p + 1 with the last record a send whose number is divisible by 16
--   Quiet                     nothing to send: the exact case of demand 3
--   SentIn n rs               the records include a resend of number n by loss
--   Spares, Spared n ks s     no report that comes while n is on the list adds a smaller number to it
--   after_drop, DemandThree   the sender after the late drop; demand 3 as a whole
pub mod Drops
pub mod Once
pub mod Times
pub mod Losses
pub mod Store
use Rattle.std.specs.Prelude.{◌≡◌, Bool, true, List, [], ◌++◌, ◌∷◌, ◌↔◌, ◌⊎◌, ◌%◌, ◌+◌, ◌-◌, ◌<◌, ◌^◌, ◌≤◌, suc, ℕ, length, Some, None}
use Rattle.rules.specs.Calls.{Call, Ran, ack, all_records, all_units, answer, calls, message, nak, payload, records, runs}
use Rattle.rules.specs.Numbers.{wire}
use Rattle.rules.specs.Records.{Action, ByLoss, is_send, sends}
use Rattle.rules.specs.Run.{dropped, late}
use Rattle.rules.specs.Sender.{Sender, below, end, packet, sent_of}
use Rattle.rules.specs.Settings.{Settings}
use Rattle.rules_refusals.specs.Verdict.{accepted}

abbrev pub Given : Call → Type 0
Given (message time now bytes) = Unit {0}
Given (ack number None rtt) = Unit {0}
Given (ack number (Some full) rtt) = full < 2 ^ 32
Given (nak words room) = Unit {0}
Given (runs now p draining room) = Unit {0}
Given (payload number) = Unit {0}

abbrev pub AllGiven : List Call → Type 0
AllGiven [] = Unit {0}
AllGiven (k ∷ ks) = Given k × AllGiven ks

abbrev pub On : ℕ → List ℕ → Type 0
On n [] = ⊥
On n (x ∷ xs) = (n ≡ x) ⊎ On n xs

pub data Within (p : ℕ) (rs : List Action) : Type 0 where
  under : sends rs ≤ p → Within p rs
  over : (pre : List Action) (a : Action) → rs ≡ pre ++ (a ∷ []) → sends pre ≡ p → is_send a.kind ≡ 1 → a.number % 16 ≡ 0 → Within p rs

pub record Quiet (c : Settings) (now : ℕ) (draining : Bool) (s : Sender) : Type 0 where
  pub lost : s.lost ≡ []
  pub due : (n : ℕ) → s.front ≤ n → n < s.next → now ≤ (packet s n).resend
  pub unsent : (c.flow < sent_of s) ⊎ ((s.next ≡ end s) × ¬ ((draining ≡ true) × (length s.packets ≡ 1)))

abbrev pub SentIn : ℕ → List Action → Type 0
SentIn n [] = ⊥
SentIn n (a ∷ rs) = ((a.kind ≡ ByLoss) × (a.number ≡ wire n)) ⊎ SentIn n rs

module _ (c : Settings) where
  -- a report that comes while n is on the list adds no smaller number: those on it afterwards were there before
  abbrev pub Spares : ℕ → Call → Sender → Type 0
  Spares n (message time now bytes) s = Unit {0}
  Spares n (ack number full rtt) s = Unit {0}
  Spares n (nak words room) s = On n s.lost → (m : ℕ) → m < n → On m (answer c (nak words room) s).after.lost → On m s.lost
  Spares n (runs now p draining room) s = Unit {0}
  Spares n (payload number) s = Unit {0}

  abbrev pub Spared : ℕ → List Call → Sender → Type 0
  Spared n [] s = Unit {0}
  Spared n (k ∷ ks) s = Spares n k s × Spared n ks (answer c k s).after

-- the sender after rule 1, if it applies
abbrev pub after_drop : Settings → ℕ → Sender → Sender
after_drop c now s = (dropped c now (late c now s.packets) s).after

-- Demand 3 of a sender s. A run is a call like any other; its answer is read from its records
pub record DemandThree (c : Settings) (s : Sender) : Type 0 where
  pub lost : (n : ℕ) → On n s.lost → (s.front ≤ n) × (n < end s) × (n < s.next) × (1 ≤ (packet s n).count)
  pub most : (now p : ℕ) (draining : Bool) (room : ℕ) → (answer c (runs now p draining room) s).verdict ≡ accepted
      → Within p (records (answer c (runs now p draining room) s))
  pub empty : (now : ℕ) (draining : Bool) (room : ℕ) → records (answer c (runs now 0 draining room) s) ≡ []
  pub quiet : (now p : ℕ) (draining : Bool) (room : ℕ) → (answer c (runs now (suc p) draining room) s).verdict ≡ accepted
      → (sends (records (answer c (runs now (suc p) draining room) s)) ≡ 0) ↔ Quiet c now draining (after_drop c now s)
  pub left : (now p : ℕ) (draining : Bool) (room : ℕ) → (answer c (runs now p draining room) s).verdict ≡ accepted
      → (answer c (runs now p draining room) s).said
      ≡ Ran (records (answer c (runs now p draining room) s)) (p - sends (records (answer c (runs now p draining room) s)))
  pub served : (n : ℕ) (ks : List Call) → AllGiven ks → On n s.lost → Spared c n ks s → below n s.lost + 1 ≤ all_units c ks s
      → SentIn n (all_records c ks s) ⊎ (n < (calls c ks s).front)
