-- `book_rules::kept` meets its contract: once numbers and areas are tested, the entries can be read, and then summed.
use Rattle.std.proofs.Common.{arith, true, ◌≡◌}
use Rattle.buffer.specs.State.{settings_of}
use Rattle.book_rules.specs.Kept.{entries_kept}
use Rattle.book_rules.specs.Kept.Laws.{frame, frame-numbers, frame-areas, weighable}
use Rattle.book_rules.proofs.kept.Goals as goal

pub entries_kept-requires : goal.entries_kept-requires
entries_kept-requires c =
    let s = c.args in
    let e : frame (settings_of s.c) s.b s.ring.now s.lost.now ≡ true = grind arith in
    record { placed = (frame-areas _ s.b s.ring.now s.lost.now e).placed; sent_le_len = (frame-numbers _ s.b s.ring.now s.lost.now e).sent }

pub wire_sizes-requires : goal.wire_sizes-requires
wire_sizes-requires c =
    let s = c.args in
    let e : frame (settings_of s.c) s.b s.ring.now s.lost.now ≡ true = grind arith in
    let f : entries_kept (settings_of s.c) s.b s.ring.now ≡ true = grind arith in
    weighable _ s.b s.ring.now s.lost.now e f
