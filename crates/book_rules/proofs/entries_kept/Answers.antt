-- `book_rules::entries_kept` meets its contract: `all` over the sent packets, then over the unsent ones.
use Rattle.std.proofs.Common.{arith, refl, rules}
use Rattle.std.proofs.lemmas.Iterator.{YieldsList-from_range}
use Rattle.std.proofs.lemmas.Iterator.Search.{all_from_yields_List}
use Rattle.ring.specs.Entry.{read_e}
use Rattle.ring.specs.Ring.{slot_of}
use Rattle.buffer.specs.State.{settings_of}
use Rattle.book_rules.specs.Kept.{sent_entry, unsent_entry}
use Rattle.book_rules.specs.Kept.Entries.{sent-fails, sent-holds}
use Rattle.book_rules.proofs.entries_kept.Goals as goal

pub returns-then-all : goal.returns-then-all
returns-then-all c =
    let a = c.args in
    sent-holds (settings_of a.c) a.b a.ring.now c.requires.sent_le_len _ _ c.if-all.true
    (all_from_yields_List (λ i. sent_entry (settings_of a.c) (read_e a.ring.now (slot_of a.b.ring i))) _ _ _ c.all.ensures.ran (YieldsList-from_range 0 a.b.sent a.b.sent refl (omega arith)) (λ x b q k. search rules))
    (all_from_yields_List (λ i. unsent_entry (settings_of a.c) (read_e a.ring.now (slot_of a.b.ring i))) _ _ _ c.all-then-all.ensures.ran (YieldsList-from_range a.b.sent a.b.ring.len _ refl refl) (λ x b q k. search rules))

pub returns-else-all : goal.returns-else-all
returns-else-all c =
    let a = c.args in
    sent-fails (settings_of a.c) a.b a.ring.now c.requires.sent_le_len _ c.if-all.false
    (all_from_yields_List (λ i. sent_entry (settings_of a.c) (read_e a.ring.now (slot_of a.b.ring i))) _ _ _ c.all.ensures.ran (YieldsList-from_range 0 a.b.sent a.b.sent refl (omega arith)) (λ x b q k. search rules))
