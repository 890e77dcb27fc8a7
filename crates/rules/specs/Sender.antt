-- The state of a sender between two calls. Numbers count up without wrapping (`Numbers`).
--   Packet, nothing   a buffered packet; the default where there is none
--   Held              a flushed packet: "A flushed payload is held until the next accepted message."
--   Sender            everything a sender keeps
--   fresh c mode      a new sender, before any call
--   end s             one past the back: the number that the next packet gets
--   sent_of s         how many buffered packets are sent: next unsent less the front
--   packet s n        the packet with number n
--   push_of s n       the index of packet n among all packets ever pushed, from 0
--   from n, below n   the loss entries from n on; how many entries are below n
--   insert n          the loss list with n entered, once
--   put, remove       changes that several rules share
--   wire_sizes c ps   "wire bytes .. (payload plus overhead)", summed over ps
use Rattle.std.specs.Prelude.{List, [], ◌∷◌, cond, ℕ, ◌+◌, ◌-◌, max, suc, ltb, eqb, length, get_or, drop, Option, None}
use Rattle.rules_packets.specs.declared.Place.{Place}
use Rattle.rules_packets.specs.declared.Place.TheVariants.{Only}
use Rattle.rules_numbers.specs.declared.Rtt.{Rtt}
use Rattle.rules_numbers.specs.Rtt.{start}
use Rattle.rules_pacing.specs.declared.SenderCongestionControl.{SenderCongestionControl}
use Rattle.rules_pacing.specs.declared.LiveBandwidthMode.{LiveBandwidthMode}
use Rattle.rules_pacing.specs.Kept as Pacing
use Rattle.rules.specs.Settings.{Settings}

pub record Packet : Type 0 where
  pub time : ℕ
  pub message : ℕ
  pub place : Place
  pub len : ℕ
  -- how often it was sent, and its resend time; 0 and 0 until it is sent
  pub count : ℕ
  pub resend : ℕ

unfoldable pub nothing : Packet
nothing = record { time = 0; message = 0; place = Only; len = 0; count = 0; resend = 0 }

-- its number, the slot of the store that holds its payload, and the payload's length
pub record Held : Type 0 where
  pub number : ℕ
  pub slot : ℕ
  pub len : ℕ

pub record Sender : Type 0 where
  -- from the front: number `front + i` is at index i
  pub packets : List Packet
  pub front : ℕ
  -- next unsent; one past the back where all are sent
  pub next : ℕ
  pub lost : List ℕ
  pub bytes : ℕ
  pub rtt : Rtt
  -- the message counter
  pub messages : ℕ
  -- the expected full number
  pub expected : ℕ
  pub held : Option Held
  pub pacing : SenderCongestionControl
  -- how many packets were ever pushed
  pub pushed : ℕ

unfoldable pub fresh : Settings → LiveBandwidthMode → Sender
fresh c mode = record {
  packets = [];
  front = c.first;
  next = c.first;
  lost = [];
  bytes = 0;
  rtt = start;
  messages = 0;
  expected = 1;
  held = None;
  pacing = Pacing.fresh mode;
  pushed = 0;
}

abbrev pub end : Sender → ℕ
end s = s.front + length s.packets

abbrev pub sent_of : Sender → ℕ
sent_of s = s.next - s.front

unfoldable pub packet : Sender → ℕ → Packet
packet s n = get_or s.packets (n - s.front) nothing

abbrev pub push_of : Sender → ℕ → ℕ
push_of s n = s.pushed - (end s - n)

unfoldable pub from : ℕ → List ℕ → List ℕ
from n [] = []
from n (x ∷ xs) = let rest = from n xs in cond (ltb x n) rest (x ∷ rest)

unfoldable pub below : ℕ → List ℕ → ℕ
below n [] = 0
below n (x ∷ xs) = let rest = below n xs in cond (ltb x n) (suc rest) rest

unfoldable pub insert : ℕ → List ℕ → List ℕ
insert n [] = n ∷ []
insert n (x ∷ xs) = let later = x ∷ insert n xs in cond (ltb n x) (n ∷ x ∷ xs) (cond (eqb n x) (x ∷ xs) later)

-- s with another buffer, front, next unsent, loss list and byte count
abbrev pub put : Sender → List Packet → ℕ → ℕ → List ℕ → ℕ → Sender
put s ps f n l b = record {
  packets = ps;
  front = f;
  next = n;
  lost = l;
  bytes = b;
  rtt = s.rtt;
  messages = s.messages;
  expected = s.expected;
  held = s.held;
  pacing = s.pacing;
  pushed = s.pushed;
}

-- k packets are removed from the front and from the loss list; next unsent moves past them; the byte count becomes b
abbrev pub remove : ℕ → ℕ → Sender → Sender
remove k b s = put s (drop k s.packets) (s.front + k) (max s.next (s.front + k)) (from (s.front + k) s.lost) b

unfoldable pub wire_sizes : Settings → List Packet → ℕ
wire_sizes c [] = 0
wire_sizes c (p ∷ ps) = p.len + c.overhead + wire_sizes c ps
