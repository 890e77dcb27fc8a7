-- `run_effects::resend::send_next_lost_packet` meets its contract: the number nearest the front leaves the list, and
-- its packet is sent.
use Rattle.std.proofs.Common.{◌≤◌, refl, ℕ, List, length, sym, ◌∙◌, length-take-le}
use Rattle.loss_list.specs.LossList.Laws.{nearest-slice}
use Rattle.buffer.specs.declared.SendBuffer.{SendBuffer}
use Rattle.buffer.specs.State.Facts.{stands_facts}
use Rattle.run_effects.specs.Sending.Rules.{Losing, losing_sendable, loss_acts}
use Rattle.run_effects.proofs.resend.send_next_lost_packet.Goals as goal

-- the list lies within its area
inside : {b : SendBuffer} {now : ℕ} {ring lost : List ℕ} → Losing b now ring lost → b.lost ≤ length lost
inside L = (stands_facts L.ready.stands L.ready.kept).inside

pub slice_bounds-nearest-end : goal.slice_bounds-nearest-end
slice_bounds-nearest-end c = sym (length-take-le _ _ (inside c.requires.losing))

pub nearest-nearest-requires : goal.nearest-nearest-requires
nearest-nearest-requires c =
    let r = c.requires.losing in
    rw (length-take-le c.args.b.lost c.args.lost.now (inside r)) r.some

pub send_packet-requires-clause-sendable : goal.send_packet-requires-clause-sendable
send_packet-requires-clause-sendable c =
    let r = c.requires.losing in
    losing_sendable _ _ _ _ _ _ _ (c.nearest-nearest.ensures ∙ nearest-slice _ _ (inside r) r.some) c.distance-i.ensures refl r

pub returns : goal.returns
returns c =
    let r = c.requires.losing in
    loss_acts _ _ _ _ _ _ _ (c.nearest-nearest.ensures ∙ nearest-slice _ _ (inside r) r.some) c.distance-i.ensures refl _ _ _ _ c.send_packet.ensures
