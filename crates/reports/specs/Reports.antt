-- The reports on the sender and its lent areas. Document 01: "the reports flushed, has packets to send, buffered
-- packets, bytes and time (back's time less front's, 0 if negative or nothing is buffered)".
--   reports_of g   what the buffer's books say
--   reports g      the call; refusals 2 and 3
pub mod Laws
use Rattle.rules_refusals.specs.Verdict.{answer}
use Rattle.rules.specs.Reports.{time_of}
use Rattle.buffer.specs.State.{packets_of}
use Rattle.buffer.specs.State.Reports.{is_flushed, has_packets_to_send}
use Rattle.sender.specs.SenderAndAreas.{Books, judge_areas}
use Rattle.reports.specs.declared.BufferReports.{BufferReports}
use Rattle.std.specs.Prelude.{Result, Ok, Err}
use Rattle.rules_refusals.specs.declared.Refusal.{Refusal}

abbrev pub reports_of : Books → BufferReports
reports_of g =
    let b = g.sender.buffer in
    record {
      is_flushed = is_flushed b;
      has_packets_to_send = has_packets_to_send b;
      len = b.ring.len;
      len_bytes = b.bytes;
      duration = time_of (packets_of b.ring g.ring);
    }

unfoldable pub reports : Books → Result BufferReports Refusal
reports g = answer Err (judge_areas g) (Ok (reports_of g))
