-- Worked examples of a run's turns, from document 01, "Run".
--   latest        rule 1: "of the same message as the latest late one" means the last late one on the walk
--   budget-left   "budget left .. equals p less sends", also where the run ends in a wait
--   costs         "Every send costs one unit": a resend by loss and one by time too
--   waiting       "unacknowledged count" is next unsent less the front
--   by-latency    the late window follows the latency: 1,250,000 where that is 1,000,000
--   drains-one    rule 6 takes a draining run "with one packet buffered", not with two
--   whole_run     a run goes on while budget remains: a drop, eleven sends and a wait with budget 12
use Rattle.std.specs.Prelude.{◌≡◌, refl, false, true, [], ◌∷◌, length, None}
use Rattle.rules.specs.Calls.{Ran, ack, all_records, answer, calls, message, nak, runs}
use Rattle.rules.specs.Computing.{computes}
use Rattle.rules.specs.Run.{run}
use Rattle.rules.specs.Sender.{Sender}
use Rattle.rules.specs.Settings.{Settings}
use Rattle.rules.specs.Examples.{small, shows, sent, begun, bytes, packet_at, holding}

-- At 1,000,001 a packet of time 0 is late, one of time 9 is not. Late ones of messages 0 and 1, then two that are not
-- late: the third is of message 1, that of the latest late one, and goes; the fourth is of message 0 and stays.
abbrev walk : Sender
walk = holding (small 0 9 9) (packet_at 0 0 0 0 ∷ packet_at 0 1 0 0 ∷ packet_at 9 1 0 0 ∷ packet_at 9 0 0 0 ∷ []) 0

-- the same, but the third is of message 0: only the two late ones go
abbrev turned : Sender
turned = holding (small 0 9 9) (packet_at 0 0 0 0 ∷ packet_at 0 1 0 0 ∷ packet_at 9 0 0 0 ∷ packet_at 9 1 0 0 ∷ []) 0

pub latest :
    (shows (small 0 9 9) (runs 1_000_001 1 false 9 ∷ []) walk ≡ (4 ∷ 0 ∷ 0 ∷ 0 ∷ 3 ∷ 0 ∷ 0 ∷ []) ∷ (1 ∷ 192 ∷ 1 ∷ 3 ∷ 0 ∷ 9 ∷ 9 ∷ []) ∷ [])
    × (length (calls (small 0 9 9) (runs 1_000_001 1 false 9 ∷ []) walk).packets ≡ 1)
    × (shows (small 0 9 9) (runs 1_000_001 1 false 9 ∷ []) turned
    ≡ (4 ∷ 0 ∷ 0 ∷ 0 ∷ 2 ∷ 0 ∷ 0 ∷ []) ∷ (1 ∷ 192 ∷ 1 ∷ 2 ∷ 0 ∷ 9 ∷ 9 ∷ []) ∷ [])
unfolding computes
latest = (refl, refl, refl)

-- three packets 2, 3 and 4, none sent
abbrev three : Sender
three = holding (small 2 9 9) (packet_at 0 0 0 0 ∷ packet_at 0 1 0 0 ∷ packet_at 0 2 0 0 ∷ []) 0

-- three sends and a wait for input leave 9 − 3; with flow window 1 two sends and a wait for ACK leave 9 − 2; budget 2
-- is used up; with nothing to do all is left; a drop costs nothing
pub budget-left :
    ((answer (small 2 9 9) (runs 0 9 false 9) three).said ≡ Ran (all_records (small 2 9 9) (runs 0 9 false 9 ∷ []) three) 6)
    × ((run (small 2 9 1) 0 false 9 three).left ≡ 7)
    × ((run (small 2 9 9) 0 false 2 three).left ≡ 0)
    × ((run (small 2 9 9) 0 false 5 (begun (small 2 9 9))).left ≡ 5)
    × ((run (small 0 9 9) 1_000_001 false 5 walk).left ≡ 4)
    × ((run (small 2 9 9) 0 false 0 three).left ≡ 0)
unfolding computes
budget-left = (refl, refl, refl, refl, refl, refl)

-- 9 and 10 are sent at 7 and reported lost: a budget of one sends 9 alone and leaves nothing. Sent at 7, both are due
-- at 320,008: again a budget of one sends 9 alone.
abbrev pair : Sender
pair = calls (small 9 4 9) (message 7 0 (bytes 8) ∷ runs 7 2 false 9 ∷ []) (begun (small 9 4 9))

pub costs :
    (sent (small 9 4 9) (nak (9 ∷ 10 ∷ []) 6 ∷ runs 8 1 false 9 ∷ []) pair ≡ (3 ∷ 9 ∷ []) ∷ [])
    × ((run (small 9 4 9) 8 false 3 (calls (small 9 4 9) (nak (9 ∷ 10 ∷ []) 6 ∷ []) pair)).left ≡ 1)
    × (sent (small 9 4 9) (runs 320_007 1 false 9 ∷ []) pair ≡ (5 ∷ 0 ∷ []) ∷ [])
    × (sent (small 9 4 9) (runs 320_008 1 false 9 ∷ []) pair ≡ (2 ∷ 9 ∷ []) ∷ [])
    × ((run (small 9 4 9) 320_008 false 3 pair).left ≡ 1)
unfolding computes
costs = (refl, refl, refl, refl, refl)

-- Flow window 1, first number 2, five packets: 2 and 3 go, then two are unacknowledged. After ACK 3 the packet 4 goes;
-- next unsent is 5, the front 3, and four are buffered: again two. With flow window 0 it is two as well where 15 and 16
-- went together.
pub waiting :
    (shows (small 2 9 1)
    (message 0 0 (bytes 20) ∷ runs 0 9 false 9 ∷ ack 3 None None ∷ runs 0 9 false 9 ∷ []) (begun (small 2 9 1))
    ≡ (1 ∷ 128 ∷ 4 ∷ 2 ∷ 0 ∷ 0 ∷ 0 ∷ [])
    ∷ (1 ∷ 0 ∷ 4 ∷ 3 ∷ 0 ∷ 0 ∷ 0 ∷ [])
    ∷ (6 ∷ 0 ∷ 0 ∷ 0 ∷ 2 ∷ 10_000 ∷ 0 ∷ [])
    ∷ (1 ∷ 0 ∷ 4 ∷ 4 ∷ 0 ∷ 0 ∷ 0 ∷ [])
    ∷ (6 ∷ 0 ∷ 0 ∷ 0 ∷ 2 ∷ 10_000 ∷ 0 ∷ [])
    ∷ [])
    × (shows (small 15 9 0) (message 0 0 (bytes 12) ∷ runs 0 9 false 9 ∷ []) (begun (small 15 9 0))
    ≡ (1 ∷ 128 ∷ 4 ∷ 15 ∷ 0 ∷ 0 ∷ 0 ∷ []) ∷ (1 ∷ 0 ∷ 4 ∷ 16 ∷ 0 ∷ 0 ∷ 0 ∷ []) ∷ (6 ∷ 0 ∷ 0 ∷ 0 ∷ 2 ∷ 10_000 ∷ 0 ∷ []) ∷ [])
unfolding computes
waiting = (refl, refl)

-- latency 1,000,000
abbrev slow : Settings
slow = record { first = 3; size = 4; buffer = 9; flow = 9; latency = 1_000_000; overhead = 28; socket = 7 }

-- a packet of time 5 is not late at 5 + 1,250,000, and is just after
pub by-latency :
    (sent slow (message 5 0 (bytes 1) ∷ runs 1_250_005 1 false 9 ∷ []) (begun slow) ≡ (1 ∷ 3 ∷ []) ∷ [])
    × (sent slow (message 5 0 (bytes 1) ∷ runs 1_250_006 1 false 9 ∷ []) (begun slow) ≡ (4 ∷ 3 ∷ []) ∷ (5 ∷ 0 ∷ []) ∷ [])
unfolding computes
by-latency = (refl, refl)

-- 9 and 10 are sent: the run waits for input; after ACK 10 only 10 is buffered, and is flushed
pub drains-one :
    (sent (small 9 4 9) (runs 8 3 true 9 ∷ []) pair ≡ (5 ∷ 0 ∷ []) ∷ [])
    × (sent (small 9 4 9) (ack 10 None None ∷ runs 8 3 true 9 ∷ []) pair ≡ (1 ∷ 10 ∷ []) ∷ (5 ∷ 0 ∷ []) ∷ [])
    × (sent (small 9 4 9) (ack 10 None None ∷ runs 8 3 false 9 ∷ []) pair ≡ (5 ∷ 0 ∷ []) ∷ [])
unfolding computes
drains-one = (refl, refl, refl)

-- a late packet of message 0, then eleven of a message of 44 bytes
pub whole_run : sent (small 0 12 12)
    (message 0 0 (bytes 1) ∷ message 9 0 (bytes 44) ∷ runs 1_000_001 12 false 15 ∷ []) (begun (small 0 12 12))
    ≡ (4 ∷ 0 ∷ [])
    ∷ (1 ∷ 1 ∷ [])
    ∷ (1 ∷ 2 ∷ [])
    ∷ (1 ∷ 3 ∷ [])
    ∷ (1 ∷ 4 ∷ [])
    ∷ (1 ∷ 5 ∷ [])
    ∷ (1 ∷ 6 ∷ [])
    ∷ (1 ∷ 7 ∷ [])
    ∷ (1 ∷ 8 ∷ [])
    ∷ (1 ∷ 9 ∷ [])
    ∷ (1 ∷ 10 ∷ [])
    ∷ (1 ∷ 11 ∷ [])
    ∷ (5 ∷ 0 ∷ [])
    ∷ []
unfolding computes
whole_run = refl
