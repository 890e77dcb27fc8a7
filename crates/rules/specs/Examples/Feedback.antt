-- Worked examples of ACKs and loss reports, from document 01, "ACK" and "Loss words".
--   taken          "RTT is taken over": C after an accepted ACK, with a full number or without
--   light          an ACK without a full number leaves the expected one
--   off-the-list   a full buffer and a late drop remove from the loss list what they remove
--   across         runs are joined across the wrap, from items or in a range; their exclusive ends wrap
--   same_kind      "maximal runs of one kind": of two adjacent runs those of one kind are joined, others not
--   consecutive    ".. and consecutive numbers": not over a gap, not backwards, not with a repeat
use Rattle.std.specs.Prelude.{◌≡◌, refl, false, List, [], ◌∷◌, map, ◌+◌, ◌-◌, ◌^◌, ℕ, Some, None, Err}
use Rattle.rules_refusals.specs.declared.Refusal.TheVariants.{StaleFullAck}
use Rattle.rules_refusals.specs.Verdict.{accepted}
use Rattle.rules.specs.Calls.{Acked, Reported, ack, answer, calls, message, nak, runs}
use Rattle.rules.specs.Computing.{computes}
use Rattle.rules.specs.Losses.{Added, Dropped, Ignored, LossKind, LossRun, end_of, joined}
use Rattle.rules.specs.Run.{base}
use Rattle.rules.specs.Sender.{Sender}
use Rattle.rules.specs.Settings.{Settings}
use Rattle.rules.specs.Examples.{small, begun, bytes, sent, verdicts}

-- two packets from this number on, both sent
abbrev both : ℕ → Sender
both first = calls (small first 9 9) (message 0 0 (bytes 8) ∷ runs 0 2 false 9 ∷ []) (begun (small first 9 9))

-- C = mean + 4 × variance + 20,000: 1 + 8 + 20,000, the most there is, and 320,000 as at the start without an RTT
pub taken :
    (base (calls (small 9 9 9) (ack 10 None (Some (record { mean = 1; variance = 2 })) ∷ []) (both 9)) ≡ 20_009)
    × (base (calls (small 9 9 9) (ack 10 (Some 1) (Some (record { mean = 100_000_000; variance = 100_000_000 })) ∷ []) (both 9)) ≡ 500_020_000)
    × (base (calls (small 9 9 9) (ack 10 (Some 1) None ∷ []) (both 9)) ≡ 320_000)
unfolding computes
taken = (refl, refl, refl)

-- "expected starts at 1; after n it is n + 1": after 3 it is 4, and an ACK without a full number leaves it so
pub light :
    ((calls (small 9 9 9) (ack 10 None None ∷ []) (both 9)).expected ≡ 1)
    × ((calls (small 9 9 9) (ack 9 (Some 3) None ∷ ack 10 None None ∷ []) (both 9)).expected ≡ 4)
    × ((answer (small 9 9 9) (ack 10 None None) (both 9)).said ≡ Acked 1 0 None)
    × (verdicts (small 9 9 9) (message 0 0 [] ∷ ack 9 (Some 3) None ∷ ack 9 None None ∷ ack 9 (Some 3) None ∷ ack 9 (Some 4) None ∷ [])
    ≡ accepted ∷ accepted ∷ accepted ∷ Err (StaleFullAck 3 4) ∷ accepted ∷ [])
unfolding computes
light = (refl, refl, refl, refl)

-- Three packets from 9 on in a buffer of three, all sent and reported lost: pushing a fourth "removes the front packet,
-- from the loss list too". Where the first two are late, "Loss entries go too": 11 alone is sent by loss, and its
-- resend time set anew.
abbrev lost : ℕ → Sender
lost time = calls (small 9 3 9)
    (message 0 0 (bytes 8) ∷ message time 0 (bytes 4) ∷ runs 0 3 false 9 ∷ nak ((2 ^ 31 + 9) ∷ 11 ∷ []) 3 ∷ []) (begun (small 9 3 9))

pub off-the-list :
    ((lost 0).lost ≡ 9 ∷ 10 ∷ 11 ∷ [])
    × ((calls (small 9 3 9) (message 0 0 (bytes 1) ∷ []) (lost 0)).lost ≡ 10 ∷ 11 ∷ [])
    × ((calls (small 9 3 9) (message 0 0 (bytes 5) ∷ []) (lost 0)).lost ≡ 11 ∷ [])
    × (sent (small 9 3 9) (runs 1_000_001 2 false 9 ∷ []) (lost 999_999) ≡ (4 ∷ 9 ∷ []) ∷ (3 ∷ 11 ∷ []) ∷ (5 ∷ 0 ∷ []) ∷ [])
unfolding computes
off-the-list = (refl, refl, refl, refl)

abbrev run : LossKind → ℕ → ℕ → LossRun
run kind first count = record { kind = kind; first = first; count = count }

-- 2^31 − 1 and 0 are sent; a range from 2^31 − 2 to 1 is a Dropped, two Added and an Ignored number
abbrev edge : Settings
edge = small (2 ^ 31 - 1) 9 9

pub across :
    ((answer edge (nak ((2 ^ 31 - 1) ∷ 0 ∷ []) 6) (both (2 ^ 31 - 1))).said ≡ Reported (run Added (2 ^ 31 - 1) 2 ∷ []))
    × ((answer edge (nak ((2 ^ 31 + (2 ^ 31 - 1)) ∷ 0 ∷ []) 3) (both (2 ^ 31 - 1))).said ≡ Reported (run Added (2 ^ 31 - 1) 2 ∷ []))
    × ((answer edge (nak ((2 ^ 31 + (2 ^ 31 - 2)) ∷ 1 ∷ []) 3) (both (2 ^ 31 - 1))).said
    ≡ Reported (run Dropped (2 ^ 31 - 2) 1 ∷ run Added (2 ^ 31 - 1) 2 ∷ run Ignored 1 1 ∷ []))
    × ((calls edge (nak ((2 ^ 31 + (2 ^ 31 - 2)) ∷ 1 ∷ []) 3 ∷ []) (both (2 ^ 31 - 1))).lost ≡ (2 ^ 31 - 1) ∷ (2 ^ 31) ∷ [])
    × (map end_of (run Dropped (2 ^ 31 - 2) 1 ∷ run Dropped (2 ^ 31 - 1) 1 ∷ run Added (2 ^ 31 - 1) 2 ∷ []) ≡ (2 ^ 31 - 1) ∷ 0 ∷ 1 ∷ [])
unfolding computes
across = (refl, refl, refl, refl, refl)

-- 98 to 100 as one kind, then 101 and 102 as another
abbrev beside : LossKind → LossKind → List LossRun
beside a b = joined (run a 98 3 ∷ run b 101 2 ∷ [])

pub same_kind :
    (beside Added Added ≡ run Added 98 5 ∷ [])
    × (beside Ignored Ignored ≡ run Ignored 98 5 ∷ [])
    × (beside Dropped Dropped ≡ run Dropped 98 5 ∷ [])
    × (beside Added Ignored ≡ run Added 98 3 ∷ run Ignored 101 2 ∷ [])
    × (beside Added Dropped ≡ run Added 98 3 ∷ run Dropped 101 2 ∷ [])
    × (beside Ignored Added ≡ run Ignored 98 3 ∷ run Added 101 2 ∷ [])
    × (beside Ignored Dropped ≡ run Ignored 98 3 ∷ run Dropped 101 2 ∷ [])
    × (beside Dropped Added ≡ run Dropped 98 3 ∷ run Added 101 2 ∷ [])
    × (beside Dropped Ignored ≡ run Dropped 98 3 ∷ run Ignored 101 2 ∷ [])
unfolding computes
same_kind = (refl, refl, refl, refl, refl, refl, refl, refl, refl)

-- 9 and 10 are sent: 6, 7 and 8 are Dropped and joined, 9 and 10 Added, 11 Ignored; then what isn't joined
pub consecutive :
    ((answer (small 9 9 9) (nak (6 ∷ (2 ^ 31 + 7) ∷ 9 ∷ 10 ∷ 11 ∷ []) 12) (both 9)).said
    ≡ Reported (run Dropped 6 3 ∷ run Added 9 2 ∷ run Ignored 11 1 ∷ []))
    × ((answer (small 9 9 9) (nak (5 ∷ 7 ∷ 6 ∷ 10 ∷ 9 ∷ 9 ∷ []) 18) (both 9)).said
    ≡ Reported (run Dropped 5 1 ∷ run Dropped 7 1 ∷ run Dropped 6 1 ∷ run Added 10 1 ∷ run Added 9 1 ∷ run Added 9 1 ∷ []))
unfolding computes
consecutive = (refl, refl)
