-- `sender::judging::rtt_is_bad` meets its contract: one test, if the ACK has a round-trip time.
use Rattle.std.specs.Prelude.{◌≡◌, Bool, false, not, Option, None, Some, MatchOption}
use Rattle.std.proofs.Common.{rules}
use Rattle.rules_numbers.specs.declared.Rtt.{Rtt}
use Rattle.rules.specs.Refusals.{bad_rtt}
use Rattle.sender.proofs.judging.rtt_is_bad.Goals as goal

tested : (o : Option Rtt) (r : Bool) (P : Rtt → Type 0) → ((x : Rtt) → P x → r ≡ bad_rtt (Some x)) → MatchOption o (r ≡ false) P → r ≡ bad_rtt o
unfolding bad_rtt
tested None r P f e = e
tested (Some x) r P f e = f x e

pub returns : goal.returns
unfolding bad_rtt
returns c = tested c.args.rtt _ _ (λ x e. search rules) c.is_some_and.ensures
