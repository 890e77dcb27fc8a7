-- A record of the code as an action of the rules (crates/rules, Records): the kinds have the Rust's names here.
--   kind_of k      the rules' kind
--   Numbered k n   n is the number of document 01's "Action record": "kind (1 Send, 2 resend by time, 3 resend by loss, 4 Drop, 5 wait
--                  input, 6 wait ACK)"
--   action_of r    the rules' action
--   plain k ..     the record of a drop or a wait, with a number, a word and a stamp: "Unused fields are 0"
pub mod Laws
use Rattle.std.specs.Prelude.{◌≡◌, ℕ, ◌≤◌}
use Rattle.rules.specs.Records as rules
use Rattle.action_records.specs.declared.Kind.{Kind}
use Rattle.action_records.specs.declared.Kind.TheVariants.{Send, RetransmitRto, RetransmitNak, Drop, WaitForInput, WaitForAck}
use Rattle.action_records.specs.declared.Record.{Record}

abbrev pub kind_of : Kind → rules.Kind
kind_of Send = rules.Send
kind_of RetransmitRto = rules.ByTime
kind_of RetransmitNak = rules.ByLoss
kind_of Drop = rules.Drop
kind_of WaitForInput = rules.WaitInput
kind_of WaitForAck = rules.WaitAck

pub record Numbered (k : Kind) (n : ℕ) : Type 0 where
  pub is : n ≡ rules.code (kind_of k)
  pub small : n ≤ 6

abbrev pub action_of : Record → rules.Action
action_of r =
    record { kind = kind_of r.kind; flags = r.flags; len = r.len; number = r.number; word = r.word; stamp = r.stamp; time = r.time }

abbrev pub plain : Kind → ℕ → ℕ → ℕ → Record
plain k number word stamp = record { kind = k; flags = 0; len = 0; number = number; word = word; stamp = stamp; time = 0 }
