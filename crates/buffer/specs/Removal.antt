-- Removal from the front, as done by a full buffer, a late drop, an ACK and the flush: document 01's "Loss entries go
-- too; next unsent moves past them". No word of the areas changes: the ring begins later, the loss list ends earlier.
--   front_after, key_after the new front, and its distance from the old one
--   staying, going k st   how many loss entries stay when k packets go, and how many go
--   removed k bytes st    the state without the first k packets, and with byte count `bytes`
pub mod Laws
use Rattle.std.specs.Prelude.{ℕ, ◌-◌}
use Rattle.rules_numbers.specs.Modular.{seqs, plus, dist}
use Rattle.ring.specs.Ring as ring
use Rattle.loss_list.specs.LossList as list
use Rattle.buffer.specs.State.{State, put}

-- the new front, and its distance from the old one
abbrev pub front_after : ℕ → State → ℕ
front_after k st = plus seqs st.books.front.0 k

abbrev pub key_after : ℕ → State → ℕ
key_after k st = dist seqs st.books.front.0 (front_after k st)

abbrev pub staying : ℕ → State → ℕ
staying k st = list.staying (dist seqs st.books.front.0) (key_after k st) st.books.lost st.lost

abbrev pub going : ℕ → State → ℕ
going k st = st.books.lost - staying k st

unfoldable pub removed : ℕ → ℕ → State → State
removed k bytes st =
    let b = st.books in
    record {
      books = put b (ring.removed k b.ring) (front_after k st) (b.sent - k) (staying k st) bytes;
      ring = st.ring;
      lost = st.lost;
    }
