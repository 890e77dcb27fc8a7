-- The run with rule 1 taken out of the loop, and what holds if a rule is the first that applies.
--   sweep c now s     the late drop
--   turns             the rest of the run: rules 2 to 7
--   split             the late drop, then the rest; proofs/Split.antt shows that this is the run
--   is_due, Applies   the packet that is due; what holds if a rule is chosen
--   Paid t            what a turn of rules 2 to 7 sends
--   wait-small        the time to a resend is held
use Rattle.std.specs.Prelude.{◌≡◌, Bool, false, true, [], ◌∷◌, ◌%◌, ◌-◌, ◌^◌, ◌<◌, ◌≤◌, suc, zero, ℕ, length, take, Option, Some, None}
use Rattle.std.proofs.Common.{arith}
use Rattle.rules.specs.Records.{Action, is_send, sends}
use Rattle.rules.specs.Run.{Result, Rule, Turn, dropped, due, earliest, flush, input, join, late, loop, loss, others, unsent, wait, window}
use Rattle.rules.specs.Sender.{Sender, end, sent_of}
use Rattle.rules.specs.Settings.{Settings}

pub wait-small : (b n : ℕ) → wait b n ≤ 2 ^ 30 - 1
unfolding wait
wait-small b zero = omega arith
wait-small b (suc n) = omega arith

module _ (c : Settings) (now : ℕ) where
  unfoldable pub sweep : Sender → Turn
  sweep s = dropped c now (late c now s.packets) s

  module _ (draining : Bool) where
    abbrev pub turns : ℕ → ℕ → Sender → Result
    turns f b s = loop (others c now draining) f b s

    unfoldable pub split : ℕ → Sender → Result
    split zero s = record { records = []; after = s; left = 0 }
    split (suc p) s = let w = sweep s in join w (turns (suc p) (suc p) w.after)

    abbrev pub is_due : Sender → Option ℕ
    is_due s = earliest now s.front (take (sent_of s) s.packets)

    abbrev pub Applies : Rule → Sender → Type 0
    Applies (loss x xs) s = s.lost ≡ x ∷ xs
    Applies (due n) s = (s.lost ≡ []) × (is_due s ≡ Some n)
    Applies window s = (s.lost ≡ []) × (is_due s ≡ None) × (c.flow < sent_of s)
    Applies unsent s = (s.lost ≡ []) × (is_due s ≡ None) × (sent_of s ≤ c.flow) × (s.next < end s)
    Applies flush s =
        (s.lost ≡ []) × (is_due s ≡ None) × (sent_of s ≤ c.flow) × (end s ≤ s.next) × (draining ≡ true) × (length s.packets ≡ 1)
    Applies input s =
        (s.lost ≡ [])
        × (is_due s ≡ None)
        × (sent_of s ≤ c.flow)
        × (end s ≤ s.next)
        × ¬ ((draining ≡ true) × (length s.packets ≡ 1))

pub data Paid (t : Turn) : Type 0 where
  stop : t.ends ≡ true → sends t.records ≡ 0 → length t.records ≡ 1 → Paid t
  one : t.ends ≡ false → sends t.records ≡ 1 → length t.records ≡ 1 → Paid t
  two : (a b : Action) → t.ends ≡ false → t.records ≡ a ∷ (b ∷ []) → is_send a.kind ≡ 1 → is_send b.kind ≡ 1 → b.number % 16 ≡ 0
      → Paid t
