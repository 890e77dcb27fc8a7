-- The public calls, one after the other. Document 01: "Statements over several calls, demand 3 too, take books and kept
-- lent areas as this sender's last call left them."
--   World           the sender, the areas that stay lent between calls, and the store
--   Call, rule_of   a public call with its arguments and its lent list; the same call in the rules
--   Fits, AllFit    the arguments of a call, and of a list of calls, fit their types: words and full numbers are u32
--   after, worlds   the world after a call, and after a list of calls, refused ones included
--   Same k w a      the call's answer, with every word of its lent list, is the answer a of the rules
--   started         a fresh sender in lent areas
pub mod Coincide
pub mod Refusals
use Rattle.std.specs.Prelude.{List, [], ◌∷◌, ℕ, ◌/◌, ◌^◌, ◌<◌, Bool, length, get_or, Option, Some, None}
use Rattle.rules_pacing.specs.declared.LiveBandwidthMode.{LiveBandwidthMode}
use Rattle.rules_pacing.specs.Kept as Pacing
use Rattle.rules.specs.Calls as rules
use Rattle.rules.specs.Sender.{Sender}
use Rattle.buffer.specs.declared.Settings.{Settings}
use Rattle.buffer.specs.State.{settings_of, fresh}
use Rattle.sender.specs.SenderAndAreas.{Books, books, rules_of}
use Rattle.sender.specs.Calls as Messages
use Rattle.sender.specs.Calls.{sender_of}
use Rattle.sender.specs.Calls.Stands as Message
use Rattle.sender.specs.Acks as Acks
use Rattle.sender.specs.Acks.Stands as Ack
use Rattle.nak.specs.Naks as Naks
use Rattle.nak.specs.Naks.Stands as Nak
use Rattle.payload.specs.Payload as Payloads
use Rattle.payload.specs.Payload.Stands as Payload
use Rattle.run.specs.Runs as Runs
use Rattle.run.specs.Runs.Stands as Run
use Rattle.rules_numbers.specs.declared.Rtt.{Rtt}

pub record World : Type 0 where
  pub books : Books
  pub store : List ℕ

pub data Call : Type 0 where
  message : (time now : ℕ) → (payload : List ℕ) → Call
  ack : (number : ℕ) → (full : Option ℕ) → (rtt : Option Rtt) → Call
  nak : (words list : List ℕ) → Call
  run : (now budget : ℕ) → (draining : Bool) → (list : List ℕ) → Call
  payload : (number : ℕ) → Call

-- room is counted in runs of three words, and in records of 24 bytes
abbrev pub rule_of : Call → rules.Call
rule_of (message time now bytes) = rules.message time now bytes
rule_of (ack n full rtt) = rules.ack n full rtt
rule_of (nak words list) = rules.nak words (length list / 3)
rule_of (run now p draining list) = rules.runs now p draining (length list / 24)
rule_of (payload n) = rules.payload n

abbrev FullFits : Option ℕ → Type 0
FullFits None = Unit {0}
FullFits (Some n) = n < 2 ^ 32

abbrev pub Fits : Call → Type 0
Fits (message time now bytes) = Unit {0}
Fits (ack n full rtt) = FullFits full
Fits (nak words list) = (j : ℕ) → get_or words j 0 < 2 ^ 32
Fits (run now p draining list) = Unit {0}
Fits (payload n) = Unit {0}

abbrev pub AllFit : List Call → Type 0
AllFit [] = Unit {0}
AllFit (k ∷ ks) = Fits k × AllFit ks

unfoldable pub after : Call → World → World
after (message time now bytes) w =
    let l = Messages.message w.books time now bytes w.store in
    record { books = books (Message.sender_after w.books.sender l.answer) l.ring l.lost; store = l.store }
after (ack n full rtt) w =
    record { books = books (Ack.sender_after (Acks.ack w.books n full rtt)) w.books.ring w.books.lost; store = w.store }
after (nak words list) w =
    let l = Naks.nak w.books words list in
    record { books = books (Nak.sender_after w.books.sender l.answer) w.books.ring l.lost; store = w.store }
after (run now p draining list) w =
    let l = Runs.run w.books now p draining list in
    record { books = books (Run.sender_after w.books.sender l.answer) l.ring l.lost; store = w.store }
after (payload n) w = w

unfoldable pub worlds : List Call → World → World
worlds [] w = w
worlds (k ∷ ks) w = worlds ks (after k w)

module _ (s : Sender) where
  abbrev pub Same : Call → World → rules.Answer → Type 0
  Same (message time now bytes) w a =
      Message.Answers w.books (rules.store_after (rules_of w.books) (rules.message time now bytes) s w.store) (Messages.message w.books time now bytes w.store) a
  Same (ack n full rtt) w a = Ack.Answers w.books (Acks.ack w.books n full rtt) a
  Same (nak words list) w a = Nak.Answers w.books list (Naks.nak w.books words list) a
  Same (run now p draining list) w a = Run.Answers w.books list (Runs.run w.books now p draining list) a
  Same (payload n) w a = Payload.Answers s (Payloads.payload w.books n w.store) a

abbrev pub started : Settings → LiveBandwidthMode → List ℕ → List ℕ → List ℕ → World
started c mode ring lost store = record { books = books (sender_of c (fresh (settings_of c)) (Pacing.fresh mode)) ring lost; store = store }
