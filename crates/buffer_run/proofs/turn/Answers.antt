-- `buffer_run::turn` meets its contract: each rule does what `act` says.
use Rattle.std.proofs.Common.{arith, false, refl, sym, true, ◌∙◌}
use Rattle.buffer.specs.State.{state}
use Rattle.buffer.specs.State.Facts.{stands_facts}
use Rattle.run_choice.specs.declared.Rule.TheVariants as rule
use Rattle.run_effects.specs.Sending.{sent_as, loss_turn, due_turn, window_turn, unsent_turn, flush_turn, input_turn}
use Rattle.buffer_run.specs.Run.{act}
use Rattle.buffer_run.specs.Run.Turns.{done-by, turn_is, loss-some, due-inside, unsent-more, flush_one}
use Rattle.buffer_run.proofs.turn.Goals as goal

pub first_rule-requires : goal.first_rule-requires
first_rule-requires c =
    let k = stands_facts c.requires.ready.stands c.requires.ready.kept in
    record { placed = k.placed; sent = k.sent }

pub send_next_lost_packet-requires-clause-losing : goal.send_next_lost_packet-requires-clause-losing
send_next_lost_packet-requires-clause-losing c =
    let st = state c.args.b c.args.ring.now c.args.lost.now in
    record { settings = _; ready = c.requires.ready; some = loss-some _ _ _ st (sym c.first_rule.ensures ∙ c.in-Loss.is); early = c.requires.early }

pub send_next_rto_packet-requires-clause-i_lt_len : goal.send_next_rto_packet-requires-clause-i_lt_len
send_next_rto_packet-requires-clause-i_lt_len c =
    let inside = due-inside _ _ _ _ _ c.requires.ready c.requires.early (sym c.first_rule.ensures ∙ c.in-Due.is) in
    (inside, c.requires.early, omega (arith, c.requires.room))

pub send_unsent-requires-clause-sent_lt_len : goal.send_unsent-requires-clause-sent_lt_len
send_unsent-requires-clause-sent_lt_len c =
    let st = state c.args.b c.args.ring.now c.args.lost.now in
    (unsent-more _ _ _ st (sym c.first_rule.ensures ∙ c.in-Unsent.is), c.requires.early, c.requires.room)

pub flush_on_close-requires-clause-flushable : goal.flush_on_close-requires-clause-flushable
flush_on_close-requires-clause-flushable c =
    let st = state c.args.b c.args.ring.now c.args.lost.now in
    record { ready = c.requires.ready; one = flush_one _ _ _ st (sym c.first_rule.ensures ∙ c.in-Flush.is) }

pub returns-in-Loss : goal.returns-in-Loss
unfolding act loss_turn sent_as
returns-in-Loss c =
    done-by _ _ _ _ _ _ _ (loss_turn _) false (turn_is _ _ _ _ rule.Loss (sym c.first_rule.ensures ∙ c.in-Loss.is)) refl c.send_next_lost_packet.ensures

pub returns-in-Due : goal.returns-in-Due
unfolding act sent_as
returns-in-Due c =
    done-by _ _ _ _ _ _ _ (due_turn _ _) false (turn_is _ _ _ _ _ (sym c.first_rule.ensures ∙ c.in-Due.is)) refl (c.send_next_rto_packet.ensures.is _)

pub returns-in-Window : goal.returns-in-Window
unfolding act window_turn
returns-in-Window c =
    done-by _ _ _ _ _ _ _ window_turn true (turn_is _ _ _ _ rule.Window (sym c.first_rule.ensures ∙ c.in-Window.is)) refl (c.wait_for_ack.ensures.is _ _)

pub returns-in-Unsent : goal.returns-in-Unsent
unfolding act unsent_turn
returns-in-Unsent c =
    done-by _ _ _ _ _ _ _ (unsent_turn _) false (turn_is _ _ _ _ rule.Unsent (sym c.first_rule.ensures ∙ c.in-Unsent.is)) refl (c.send_unsent.ensures.is _)

pub returns-in-Flush : goal.returns-in-Flush
unfolding act flush_turn
returns-in-Flush c =
    done-by _ _ _ _ _ _ _ (flush_turn _) false (turn_is _ _ _ _ rule.Flush (sym c.first_rule.ensures ∙ c.in-Flush.is)) refl c.flush_on_close.ensures

pub returns-in-Input : goal.returns-in-Input
unfolding act input_turn
returns-in-Input c =
    done-by _ _ _ _ _ _ _ input_turn true (turn_is _ _ _ _ rule.Input (sym c.first_rule.ensures ∙ c.in-Input.is)) refl (c.wait_for_input.ensures.is _ _)
