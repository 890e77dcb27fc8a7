-- The reports are those of the rules, for every sender that the books represent and that keeps the book rules.
--   reports_refines                 the call answers what the rules say
--   reports-short, reports-broken   if an area is too short; and otherwise, if the books break a rule
use Rattle.std.specs.Prelude.{◌≡◌, true, false, length, Ok, Err}
use Rattle.std.proofs.Common.{sym}
use Rattle.rules_refusals.specs.declared.Refusal.TheVariants.{BadStore, BadState}
use Rattle.rules.specs.Sender as rules
use Rattle.rules_theorems.specs.Laws.BookRules.{Kept}
use Rattle.rules.specs.Reports.{is_flushed, has_packets_to_send, buffered_packets, buffered_bytes, buffered_time}
use Rattle.buffer.specs.State.Reports.{flushed-is, sends-is, packets-is, bytes-is, time-is}
use Rattle.sender.specs.SenderAndAreas.{Books, rules_of, areas_short, kept}
use Rattle.sender.specs.SenderAndAreas.Stands.{StandsFor, areas-long, judge-accepted, judge-short, judge-broken}
use Rattle.reports.specs.Reports.{reports}
use Rattle.reports.specs.Reports.Laws.{reports-known}

pub reports_refines : (g : Books) (s : rules.Sender) → StandsFor g s → Kept (rules_of g) s
    → reports g ≡ Ok (record {
      is_flushed = is_flushed s;
      has_packets_to_send = has_packets_to_send s;
      len = buffered_packets s;
      len_bytes = buffered_bytes s;
      duration = buffered_time s;
    })
unfolding reports
reports_refines g s S K =
    let judged = judge-accepted g s S K (areas_short (rules_of g) (length g.ring) (length g.lost)) (areas-long g s S) in
    rw judged
    (sym (reports-known g (is_flushed s) (has_packets_to_send s) (buffered_packets s) (buffered_bytes s) (buffered_time s) (sym (flushed-is S.buffer))
    (sym (sends-is S.buffer)) (sym (packets-is S.buffer)) (sym (bytes-is S.buffer)) (sym (time-is S.buffer))))

module _ (g : Books) where
  pub reports-short : areas_short (rules_of g) (length g.ring) (length g.lost) ≡ true → reports g ≡ Err BadStore
  unfolding reports
  reports-short e = rw (e, judge-short g)

  pub reports-broken : areas_short (rules_of g) (length g.ring) (length g.lost) ≡ false → kept g ≡ false → reports g ≡ Err BadState
  unfolding reports
  reports-broken e b = rw (e, judge-broken g b)
