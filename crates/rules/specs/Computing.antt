-- The definitions of this crate, and those they use, unfolded all at once for figures and examples proved by computing.
use Rattle.rules_packets.specs.Split as Split
use Rattle.rules_pacing.specs.Rate as Rate
use Rattle.rules_pacing.specs.Period as Period
use Rattle.rules_pacing.specs.Kept as PacingBooks
use Rattle.rules_pacing.specs.Pacing as Pacing
use Rattle.rules.specs.Numbers.{distance}
use Rattle.rules.specs.Settings.{in_range}
use Rattle.rules.specs.Sender as Sender
use Rattle.rules.specs.BookRules as Books
use Rattle.rules.specs.Message as Message
use Rattle.rules.specs.Ack as Ack
use Rattle.rules.specs.Losses as Losses
use Rattle.rules.specs.Records as Records
use Rattle.rules.specs.Run as Run
use Rattle.rules.specs.Reports as Reports
use Rattle.rules.specs.Refusals as Refusals
use Rattle.rules.specs.Calls as Calls

unfoldable pub computes : Unit {0}
unfolding Split.count Split.place_of Rate.new_mean Rate.estimate Period.period PacingBooks.kept Pacing.count_full Pacing.estimated
    Pacing.moved_at Pacing.moved Pacing.added Pacing.after Pacing.snd_period Pacing.input distance in_range Sender.nothing Sender.fresh
    Sender.packet Sender.from Sender.below Sender.insert Sender.wire_sizes Books.every Books.all Books.ascends Books.sent_kept
    Books.unsent_kept Books.held_is_kept Books.kept Message.packet_of Message.packets_from Message.gone Message.make_room Message.append
    Message.push_all Message.gone_by Message.begin Message.push Message.written Message.stored Ack.given Ack.take_rtt Ack.expect
    Ack.acknowledge Losses.before Losses.is_range Losses.parse Losses.words_of Losses.kind_by Losses.kind_of Losses.reach_by Losses.reach
    Losses.stretch Losses.item_runs Losses.runs_of Losses.glue Losses.joined Losses.entered Losses.enter_by Losses.enter_all Losses.report
    Records.code Records.encode Records.sent_before Records.send_record Records.drop_record Records.wait_input Records.wait_ack
    Run.base Run.wait Run.stamped Run.sent Run.or_here Run.earliest Run.first Run.loop Run.late_from Run.late Run.dropped Run.rule Run.send
    Run.extra Run.flushed Run.obey Run.others Run.turn_by Run.turn Run.run Reports.is_flushed Reports.has_packets_to_send Reports.time_of
    Reports.buffered_time Reports.held_of Reports.payload_of Refusals.new_verdict Refusals.count_is_full Refusals.message_verdict Refusals.bad_rtt
    Refusals.full_verdict Refusals.ack_verdict Refusals.words_verdict Refusals.nak_verdict Refusals.run_verdict Refusals.lies_verdict
    Refusals.payload_verdict Calls.with_rtt Calls.left Calls.verdict_of Calls.after Calls.pushed_by Calls.said_by Calls.answer_by
    Calls.answer Calls.calls Calls.answers Calls.store_by Calls.store_after Calls.stores Calls.records_of Calls.units_by Calls.all_records
    Calls.all_units
computes = tt
