-- Books and areas represent a sender of the rules, and every sender whose numbers differ by a multiple of 2^31.
--   HeldAs f h      the flushed packet, or none, is the one of the rules
--   Others ..       so are the fields that don't depend on the packets
--   Stands c st s   st represents s
--   Ready c st      st represents a sender that keeps the book rules: what the functions of the buffer require
use Rattle.std.specs.Prelude.{◌≡◌, ℕ, ◌+◌, ◌*◌, ◌≤◌, length, Option, Some, None}
use Rattle.rules_numbers.specs.declared.Rtt.{Rtt}
use Rattle.ring.specs.Ring.Laws.{Placed}
use Rattle.loss_list.specs.LossList.Stands as losses
use Rattle.rules.specs.Numbers.{wire}
use Rattle.rules.specs.Settings.{Settings, capacity}
use Rattle.rules.specs.Sender.{Held, Sender}
use Rattle.rules_theorems.specs.Laws.BookRules.{Kept}
use Rattle.buffer.specs.declared.FlushedPacket.{FlushedPacket}
use Rattle.buffer.specs.State.{State, view, lost_of}
use Rattle.buffer.specs.State.View.{Places}

abbrev pub HeldAs : Option FlushedPacket → Option Held → Type 0
HeldAs None None = Unit {0}
HeldAs None (Some h) = ⊥
HeldAs (Some p) None = ⊥
HeldAs (Some p) (Some h) = (p.number.0 ≡ wire h.number) × (p.slot ≡ h.slot) × (p.len ≡ h.len)

pub record Others (r r' : Rtt) (m m' e e' : ℕ) (f : Option FlushedPacket) (h : Option Held) : Type 0 where
  pub rtt : r ≡ r'
  pub message : m ≡ m'
  pub expected : e ≡ e'
  pub held : HeldAs f h

pub record Stands (c : Settings) (st : State) (s : Sender) : Type 0 where
  pub placed : Placed st.books.ring st.ring
  pub cap : st.books.ring.cap ≡ capacity c
  pub room : capacity c ≤ length st.lost
  pub packets : view st ≡ s.packets
  pub places : Places st.books.ring st.ring
  pub front : st.books.front.0 ≡ wire s.front
  pub next : s.next ≡ s.front + st.books.sent
  pub count : st.books.lost ≡ length s.lost
  pub lost : losses.Stands s.lost s.front (lost_of st)
  pub bytes : st.books.bytes ≡ s.bytes
  pub others : Others st.books.rtt s.rtt st.books.message.0 s.messages st.books.expected s.expected st.books.flushed s.held
  -- how often the ring went round
  pub turns : ℕ
  pub pushed : s.pushed ≡ turns * capacity c + (st.books.ring.slot + st.books.ring.len)

pub record Ready (c : Settings) (st : State) : Type 0 where
  pub sender : Sender
  pub stands : Stands c st sender
  pub kept : Kept c sender
