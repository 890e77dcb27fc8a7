-- What the code of the reports requires, and that it agrees with its definition.
--   placed_by       the ring can be read if 2 and 3 don't apply
--   reports-known   the five reports of the buffer make up the answer
use Rattle.std.specs.Prelude.{◌≡◌, Bool, ℕ, Result, Ok}
use Rattle.std.proofs.Common.{◌∙◌}
use Rattle.ring.specs.Ring.Laws.{Placed}
use Rattle.rules.specs.Reports.{time_of}
use Rattle.buffer.specs.State.{packets_of}
use Rattle.buffer.specs.State.Reports.{is_flushed, has_packets_to_send}
use Rattle.book_rules.specs.Kept.Stands.{kept-ready}
use Rattle.sender.specs.SenderAndAreas.{Books, rules_of, state_of, judge}
use Rattle.sender.specs.SenderAndAreas.Laws.{judged}
use Rattle.rules_refusals.specs.Verdict.{accepted}
use Rattle.rules_refusals.specs.declared.Refusal.{Refusal}
use Rattle.reports.specs.declared.BufferReports.{BufferReports}
use Rattle.reports.specs.Reports.{reports_of}

pub placed_by : (short : Bool) (g : Books) → judge short g ≡ accepted → Placed g.sender.buffer.ring g.ring
placed_by short g e = (kept-ready (rules_of g) (state_of g) (judged short g e).buffer).stands.placed

-- an answer that is no refusal
abbrev known : BufferReports → Result BufferReports Refusal
known = Ok

pub reports-known : (g : Books) (a b : Bool) (n m t : ℕ) → a ≡ is_flushed g.sender.buffer → b ≡ has_packets_to_send g.sender.buffer
    → n ≡ g.sender.buffer.ring.len
    → m ≡ g.sender.buffer.bytes
    → t ≡ time_of (packets_of g.sender.buffer.ring g.ring)
    → known (record { is_flushed = a; has_packets_to_send = b; len = n; len_bytes = m; duration = t }) ≡ Ok (reports_of g)
reports-known g a b n m t e f h k l = rw (e, f, h, k, l)
