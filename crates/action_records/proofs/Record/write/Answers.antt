-- `action_records::Record::write` meets its contract: the 24 bytes come to lie at `k * 24`.
use Rattle.std.proofs.Common.{◌+◌, ◌-◌, ◌*◌, ◌∙◌, sym, arith, ap, length, rules}
use Rattle.std.proofs.lemmas.Slice.{put_mid-paste}
use Rattle.action_records.proofs.Record.write.Goals as goal

pub returns : goal.returns
returns c =
    let a = c.args in
    let at = a.k * 24 in
    let long = sym (ap length c.bytes.ensures) in
    put_mid-paste at (at + 24 - at) a.list.now c.copy_from_slice.new.self _ 24 (c.copy_from_slice.ensures.after ∙ c.bytes.ensures) (omega arith) (search rules)
