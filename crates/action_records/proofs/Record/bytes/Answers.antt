-- `action_records::Record::bytes` meets its contract: each field's bytes are those of `to_le_bytes`, and the kind and the flags are bytes themselves.
use Rattle.std.proofs.Common.{rules, arith, mod-eq_of_lt, w16, w32, w64, ◌≡◌, ◌∙◌, ◌<◌}
use Rattle.rules_numbers.specs.Bytes.{little}
use Rattle.octets.specs.Laws.{to_le-little}
use Rattle.rules.specs.Records.{encode}
use Rattle.action_records.proofs.Record.bytes.Goals as goal
use Rattle.action_records.proofs.Record.bytes.Goals.{Start}

flags : (c : Start) → c.args.self.flags < 256
flags c = search rules

pub returns : goal.returns
unfolding encode
returns c =
    let r = c.args.self in
    let small : c.number.result < 256 = omega (arith, c.number.ensures.small) in
    let len : c.copy_from_slice.new.self ≡ little 2 r.len = c.copy_from_slice.ensures.after ∙ c.to_le_bytes.ensures ∙ to_le-little w16 r.len in
    let number : c.copy_from_slice-2.new.self ≡ little 4 r.number = c.copy_from_slice-2.ensures.after ∙ c.to_le_bytes-2.ensures ∙ to_le-little w32 r.number in
    let word : c.copy_from_slice-3.new.self ≡ little 4 r.word = c.copy_from_slice-3.ensures.after ∙ c.to_le_bytes-3.ensures ∙ to_le-little w32 r.word in
    let stamp : c.copy_from_slice-4.new.self ≡ little 4 r.stamp = c.copy_from_slice-4.ensures.after ∙ c.to_le_bytes-4.ensures ∙ to_le-little w32 r.stamp in
    let time : c.copy_from_slice-5.new.self ≡ little 8 r.time = c.copy_from_slice-5.ensures.after ∙ c.to_le_bytes-5.ensures ∙ to_le-little w64 r.time in
    rw (len, number, word, stamp, time, ← c.number.ensures.is, mod-eq_of_lt small, mod-eq_of_lt (flags (goal.at.returns c).Start))
