-- `action_records::Kind::number` meets its contract, kind by kind.
use Rattle.std.proofs.Common.{◌≡◌, refl, arith}
use Rattle.rules.specs.Records.{code}
use Rattle.action_records.specs.declared.Kind.{Kind}
use Rattle.action_records.specs.declared.Kind.TheVariants.{Send, RetransmitRto, RetransmitNak, Drop, WaitForInput, WaitForAck}
use Rattle.action_records.proofs.Kind.number.Goals as goal

by_kind : {A : Type 0} (k : Kind) → (k ≡ Send → A) → (k ≡ RetransmitRto → A) → (k ≡ RetransmitNak → A) → (k ≡ Drop → A) → (k ≡ WaitForInput → A) → (k ≡ WaitForAck → A) → A
by_kind Send a b c d e f = a refl
by_kind RetransmitRto a b c d e f = b refl
by_kind RetransmitNak a b c d e f = c refl
by_kind Drop a b c d e f = d refl
by_kind WaitForInput a b c d e f = e refl
by_kind WaitForAck a b c d e f = f refl

pub returns : goal.returns
unfolding code
returns c =
    by_kind c.args.self
    (λ e. rw e (record { is = refl; small = omega arith }))
    (λ e. rw e (record { is = refl; small = omega arith }))
    (λ e. rw e (record { is = refl; small = omega arith }))
    (λ e. rw e (record { is = refl; small = omega arith }))
    (λ e. rw e (record { is = refl; small = omega arith }))
    (λ e. rw e (record { is = refl; small = omega arith }))
