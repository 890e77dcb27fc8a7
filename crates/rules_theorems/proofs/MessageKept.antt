-- A message keeps the book rules: its packets are unsent and no longer than a packet, their wire sizes are the
-- message's bytes and the overhead of each, removal from the front keeps the rules, and so does a push if there is
-- room.
use Rattle.std.specs.Prelude.{None}
use mathlib.Core.Path.{◌≡◌, ap, refl}
use mathlib.Core.Bool.{Bool, false, true}
use mathlib.Mathlib.Data.Bool.Basic.{or-eq-false-eq-eq-false-and-eq-false as neither}
use mathlib.Core.List.{List, [], ◌∷◌}
use Prim.Native.Nat.{◌%◌, ◌*◌, ◌+◌, ◌-◌, ◌<◌, ◌^◌, ◌≤◌, suc, zero, ℕ}
use native.Mathlib.Omega.{arith}
use native.Mathlib.Nat.{mod-lt}
use lib.Dec.{leb, lit<}
use lib.ListN.{drop, length, length-append, length-drop}
use lib.Seq.{drop-append-le, take-append-le}
use borrow.Author.Tests.{leb-false, leb-true}
use Rattle.rules_packets.specs.Split.{count}
use Rattle.encapsulate.specs.Laws.{length_last}
use Rattle.rules.specs.Message.{append, begin, make_room, packet_of, packets_from, packets_of, push, push_all}
use Rattle.rules.specs.Refusals.{count_is_full}
use Rattle.rules.specs.Sender.{Packet, Sender, sent_of, wire_sizes}
use Rattle.rules.specs.Settings.{Settings, capacity}
use Rattle.rules_theorems.specs.Laws.BookRules.{All, Fields, Kept, Unsent}
use Rattle.rules_theorems.specs.Laws.Run.{two}
use Rattle.rules_theorems.proofs.Packets.{all_snoc, sizes_append}
use Rattle.rules_theorems.proofs.RunKept.{gone-kept, same_kept}
use Rattle.rules_pacing.specs.declared.SenderCongestionControl.{SenderCongestionControl}
use Rattle.rules_pacing.specs.Kept as PacingBooks
use Rattle.rules_pacing.specs.Pacing as PacingIn
use Rattle.pacing.specs.Laws.Kept as PacingLaws
use Rattle.pacing.specs.Laws.Pacing as PacingInLaws

count-least : (size len : ℕ) → 1 ≤ count size len
unfolding count
count-least size len = omega arith

module _ (c : Settings) where
  module _ (t m len : ℕ) (early : t < 2 ^ 48) (few : m < 2 ^ 26) where
    pub packets-unsent : (k n : ℕ) → All (Unsent c) (packets_from c t m len k n)
    unfolding packets_from packet_of
    packets-unsent k zero = tt
    packets-unsent k (suc n) =
        (record { time = early; message = few; len = omega arith; never = refl; unset = refl }, packets-unsent (suc k) n)

  -- the wire sizes of the packets from packet k on: their bytes of the message, and the overhead of each
  sizes_from : (t m len k n : ℕ)
      → wire_sizes c (packets_from c t m len k n) + (len - (k + n) * c.size) ≡ (len - k * c.size) + n * c.overhead
  unfolding packets_from packet_of wire_sizes
  sizes_from t m len k zero = omega arith
  sizes_from t m len k (suc n) =
      let e : (suc k + n) * c.size ≡ (k + suc n) * c.size = ap (λ (x : ℕ). x * c.size) (omega arith) in
      omega (arith, sizes_from t m len (suc k) n, e)

  pub count-holds : (len : ℕ) → 1 ≤ c.size → len ≤ count c.size len * c.size
  count-holds len h = go (count c.size len) refl
    where
      least : 1 ≤ count c.size len
      least = count-least c.size len

      go : (n : ℕ) → count c.size len ≡ n → len ≤ count c.size len * c.size
      go zero e = absurd (omega (arith, least))
      go (suc k) e = rw e (omega (arith, length_last c.size len k h (omega arith)))

  -- "plus wire size on a push": of the whole message
  pub sizes_message : (t m len : ℕ) → 1 ≤ c.size → wire_sizes c (packets_of c t m len) ≡ len + count c.size len * c.overhead
  sizes_message t m len h =
      let e : (0 + count c.size len) * c.size ≡ count c.size len * c.size = ap (λ (x : ℕ). x * c.size) (omega arith) in
      omega (arith, sizes_from t m len 0 (count c.size len), count-holds len h, e)

  pub room_fits : (s : Sender) → Kept c s → length (make_room c s).packets < capacity c
  unfolding make_room
  room_fits s g = go (leb (capacity c) (length s.packets)) refl
    where
      go : (b : Bool) → leb (capacity c) (length s.packets) ≡ b → length (make_room c s).packets < capacity c
      go true e = rw (e, make_room) (simp length-drop (omega (arith, g.fits)))
      go false e = rw (e, make_room) (leb-false _ _ e)

  pub room-kept : (s : Sender) → Kept c s → Kept c (make_room c s) × ((make_room c s).bytes ≤ s.bytes)
  unfolding make_room
  room-kept s g = go (leb (capacity c) (length s.packets)) refl
    where
      go : (b : Bool) → leb (capacity c) (length s.packets) ≡ b → Kept c (make_room c s) × ((make_room c s).bytes ≤ s.bytes)
      go true e = rw (e, make_room) (gone-kept c 1 s (omega (arith, leb-true)) g, omega arith)
      go false e = rw (e, make_room) (g, omega arith)

  pub append-kept : (p : Packet) (s : Sender) → Unsent c p → length s.packets < capacity c → s.bytes + (p.len + c.overhead) < 2 ^ 62
      → Kept c s → Kept c (append c p s)
  unfolding append wire_sizes
  append-kept p s f l b g = record {
    good = record { low = g.good.low; high = simp length-append (omega (arith, g.good.high)); lost = g.good.lost };
    fits = simp length-append (omega arith);
    old = rw (take-append-le, h) g.old;
    new = rw (drop-append-le, h) (all_snoc (Unsent c) (drop (sent_of s) s.packets) (p ∷ []) g.new (f, tt));
    covers = rw (sizes_append c) (omega (arith, g.covers));
    small = b;
    fields = g.fields;
  }
    where
      h : sent_of s ≤ length s.packets
      h = omega (arith, g.good.high)

  pub push_all-kept : (ps : List Packet) (s : Sender) → All (Unsent c) ps → s.bytes + wire_sizes c ps < 2 ^ 62 → Kept c s
      → Kept c (push_all c ps s)
  unfolding push_all wire_sizes append
  push_all-kept [] s f b g = g
  push_all-kept (p ∷ ps) s f b g =
      let r = room-kept s g in
      push_all-kept ps (append c p (make_room c s)) f.1 (omega (arith, r.1))
      (append-kept p (make_room c s) f.0 (room_fits s g) (omega (arith, r.1)) r.0)

  -- the fields once a message has its number, whatever its pacing
  pub numbered-fields : (s : Sender) (p : SenderCongestionControl) → PacingBooks.kept p ≡ true → Kept c s
      → Fields c s.rtt ((s.messages + 1) % 2 ^ 26) s.expected None p
  numbered-fields s p e g = record {
    settings = g.fields.settings;
    rtt = g.fields.rtt;
    messages = mod-lt (s.messages + 1) (lit< tt);
    least = g.fields.least;
    most = g.fields.most;
    held = tt;
    pacing = e;
  }

  pub begin-kept : (now len : ℕ) (s : Sender) → now < 2 ^ 48 → PacingIn.count_full s.pacing now (count c.size len) len ≡ false
      → Kept c s → Kept c (begin c now len s)
  unfolding begin
  begin-kept now len s early full g =
      same_kept c s (begin c now len s) refl refl refl refl g.good.lost
      (numbered-fields s _
      (PacingLaws.facts_kept _
      (PacingInLaws.after_kept s.pacing now (count c.size len) len
      (PacingInLaws.accepted s.pacing now (count c.size len) len g.fields.pacing early full))) g) g

  pub push_kept : (t now len : ℕ) (s : Sender) → 1 ≤ c.size → t < 2 ^ 48 → now < 2 ^ 48 → count_is_full c now len s ≡ false
      → Kept c s → Kept c (push c t now len s)
  unfolding push count_is_full begin
  push_kept t now len s pos early soon full g =
      let two = (neither (leb (2 ^ 62) (s.bytes + len + count c.size len * c.overhead))
      (PacingIn.count_full s.pacing now (count c.size len) len)).0 full in
      let small : s.bytes + len + count c.size len * c.overhead < 2 ^ 62 = leb-false _ _ two.0 in
      push_all-kept (packets_of c t s.messages len) (begin c now len s)
      (packets-unsent t s.messages len early g.fields.messages 0 (count c.size len))
      (omega (arith, sizes_message t s.messages len pos))
      (begin-kept now len s soon two.1 g)
