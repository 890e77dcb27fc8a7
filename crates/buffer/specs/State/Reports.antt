-- The reports of the books are those of the rules. Document 01: "the reports flushed, has packets to send, buffered
-- packets, bytes and time".
--   is_flushed, has_packets_to_send b   two reports, from the kept numbers
--   ltb-add                         adding the same number on both sides doesn't change a comparison
--   time-none, time-some            the time, from the words of the ring
--   packets-is, bytes-is, flushed-is, sends-is, time-is   books that represent a sender report what it does
use Rattle.std.specs.Prelude.{◌≡◌, refl, Bool, ◌&&◌, ◌||◌, not, List, [], ◌∷◌, ℕ, suc, ◌+◌, ◌-◌, ◌≤◌, ◌<◌, ltb, eqb, length, get_or}
use Rattle.std.proofs.Common.{sym, ◌∙◌, arith, lt-ltb, le-ltb, ne_eqb}
use Rattle.std.proofs.Math.Path.{ap}
use Rattle.std.proofs.Math.Decide.{dec_lt}
use Rattle.ring.specs.declared.Ring.{Ring}
use Rattle.ring.specs.Entry.{read_e}
use Rattle.ring.specs.Ring.{slot_of}
use Rattle.rules.specs.Settings.{Settings}
use Rattle.rules.specs.Sender.{Packet, Sender, nothing}
use Rattle.rules.specs.Reports as rules
use Rattle.buffer.specs.declared.SendBuffer.{SendBuffer}
use Rattle.buffer.specs.State.{State, packet_of, packets_of, view}
use Rattle.buffer.specs.State.View.{packets-length, packets-at}
use Rattle.buffer.specs.State.Stands.{Stands}

abbrev pub is_flushed : SendBuffer → Bool
is_flushed b = eqb b.lost 0 && eqb b.ring.len 0

abbrev pub has_packets_to_send : SendBuffer → Bool
has_packets_to_send b = ltb b.sent b.ring.len || not (eqb b.lost 0)

empty-is : (xs : List ℕ) → eqb (length xs) 0 ≡ rules.is_empty xs
empty-is [] = refl
empty-is (x ∷ xs) = ne_eqb (suc (length xs)) 0 (λ e. omega arith)

pub ltb-add : (f a b : ℕ) → ltb (f + a) (f + b) ≡ ltb a b
ltb-add f a b = go (dec_lt a b)
  where
    go : Dec (a < b) → ltb (f + a) (f + b) ≡ ltb a b
    go (yes h) = lt-ltb (f + a) (f + b) (omega arith) ∙ sym (lt-ltb a b h)
    go (no h) = le-ltb (f + a) (f + b) (omega arith) ∙ sym (le-ltb a b (omega arith))

module _ {c : Settings} {st : State} {s : Sender} (S : Stands c st s) where
  pub packets-is : st.books.ring.len ≡ rules.buffered_packets s
  packets-is = sym (packets-length st.books.ring st.ring) ∙ ap length S.packets

  pub bytes-is : st.books.bytes ≡ rules.buffered_bytes s
  bytes-is = S.bytes

  pub flushed-is : is_flushed st.books ≡ rules.is_flushed s
  unfolding rules.is_flushed
  flushed-is = rw (S.count, packets-is, empty-is s.lost)

  pub sends-is : has_packets_to_send st.books ≡ rules.has_packets_to_send s
  unfolding rules.has_packets_to_send
  sends-is = rw (S.count, packets-is, empty-is s.lost, S.next, ltb-add s.front st.books.sent (length s.packets))

  pub time-is : rules.time_of (view st) ≡ rules.buffered_time s
  unfolding rules.buffered_time
  time-is = ap rules.time_of S.packets

-- ## The time, by the words of the ring's two ends

ends : (ps : List Packet) → rules.time_of ps ≡ (get_or ps (length ps - 1) nothing).time - (get_or ps 0 nothing).time
unfolding rules.time_of nothing
ends [] = omega arith
ends (p ∷ ps) = let e : suc (length ps) - 1 ≡ length ps = omega arith in rw e

module _ (r : Ring) (xs : List ℕ) where
  pub time-none : r.len < 1 → rules.time_of (packets_of r xs) ≡ 0
  time-none h =
      let z : length (packets_of r xs) ≡ 0 = packets-length r xs ∙ omega arith in
      let e : length (packets_of r xs) - 1 ≡ 0 = omega (arith, z) in
      ends (packets_of r xs) ∙ rw e (omega arith)

  pub time-some : 1 ≤ r.len → rules.time_of (packets_of r xs) ≡ (read_e xs (slot_of r (r.len - 1))).time - (read_e xs (slot_of r 0)).time
  unfolding packet_of
  time-some h =
      ends (packets_of r xs)
      ∙ rw (packets-length r xs, packets-at r xs (r.len - 1) (omega arith), packets-at r xs 0 (omega arith))
