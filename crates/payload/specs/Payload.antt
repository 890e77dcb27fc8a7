-- Where a payload lies. Document 01, rows 7 and 14: BadNumber, "a sequence number is 2^31 or more"; NotHeld, "payload
-- asked for isn't held". Held are the payloads of buffered packets, and "A flushed payload is held until the next
-- accepted message."
--   held_at, flushed_at   the flushed payload
--   find_in s n ring      looks among the buffered packets, by the distance from the front, then at the flushed one
--   payload_verdict       refusals 2, 3 and 7
--   payload               the call
pub mod Laws
pub mod Stands
use Rattle.std.specs.Prelude.{cond, List, ℕ, ◌*◌, ◌^◌, ltb, leb, eqb, length, Option, Some, None, Result, Ok, Err}
use Rattle.rules_numbers.specs.declared.SeqNumber.{SeqNumber}
use Rattle.rules_numbers.specs.Modular.{seqs, dist}
use Rattle.rules_refusals.specs.declared.Refusal.TheVariants.{BadNumber, NotHeld}
use Rattle.rules_refusals.specs.Verdict.{Verdict, accepted, when, answer}
use Rattle.ring.specs.Entry.{read_e}
use Rattle.ring.specs.Ring.{slot_of}
use Rattle.sender.specs.declared.Sender.{Sender}
use Rattle.sender.specs.SenderAndAreas.{Books}
use Rattle.sender.specs.Calls.{then, judge_with_store}
use Rattle.rules_refusals.specs.declared.Refusal.{Refusal}
use Rattle.buffer.specs.declared.FlushedPacket.{FlushedPacket}
use Rattle.payload.specs.declared.Lies.{Lies}

abbrev pub held_at : ℕ → ℕ → SeqNumber → ℕ → ℕ → Result Lies Refusal
held_at size number n slot len = cond (eqb n.0 number) (Ok (record { place = slot * size; len = len })) (Err NotHeld)

abbrev pub flushed_at : ℕ → ℕ → Option FlushedPacket → Result Lies Refusal
flushed_at size number None = Err NotHeld
flushed_at size number (Some p) = held_at size number p.number p.slot p.len

unfoldable pub find_in : Sender → ℕ → List ℕ → Result Lies Refusal
find_in s number ring =
    let r = s.buffer.ring in
    let d = dist seqs s.buffer.front.0 number in
    let size = s.settings.size in
    cond (ltb d r.len) (Ok (record { place = slot_of r d * size; len = (read_e ring (slot_of r d)).len })) (flushed_at size number s.buffer.flushed)

unfoldable pub payload_verdict : Books → ℕ → ℕ → Verdict
payload_verdict g n store = then (judge_with_store g store) (when (leb (2 ^ 31) n) BadNumber accepted)

unfoldable pub payload : Books → ℕ → List ℕ → Result Lies Refusal
payload g n store = answer Err (payload_verdict g n (length store)) (find_in g.sender n g.ring)
