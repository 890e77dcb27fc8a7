-- Moving every time and `now` by the same amount moves the times of each packet and record, but changes no comparison,
-- since both sides move. Here for lateness, the earliest resend, a packet sent, a record.
use mathlib.Core.Path.{◌∙◌, ◌≡◌, ap, refl}
use mathlib.Core.Bool.{Bool, false, true}
use mathlib.Core.List.{List, [], ◌++◌, ◌∷◌, map}
use Prim.Native.Nat.{◌+◌, ◌-◌, ◌<◌, ◌≤◌, min, suc, zero, ℕ}
use native.Mathlib.Omega.{arith}
use lib.Dec.{eqb, ltb}
use lib.ListN.{drop, get_or, length, set, take}
use borrow.Author.Tests.{le-ltb, lt-ltb, ltb-false, ltb-true}
use Rattle.laws.specs.Lists.{map-set, map-drop, map-take}
use Rattle.laws.specs.Choice.{cond-by}
use Rattle.rules.specs.Records.{Action, ByLoss, ByTime, Drop, Kind, Send, WaitAck, WaitInput, is_send, send_record, sends}
use Rattle.rules.specs.Run.{base, earliest, is_late, late, late_from, sent, stamped, wait}
use Rattle.rules.specs.Sender.{Packet, Sender, nothing, packet, wire_sizes}
use Rattle.rules.specs.Settings.{Settings, late_window}
use Rattle.rules_theorems.specs.Laws.BookRules.{All, Sent}
use Rattle.rules_theorems.specs.Demands.Times.{later, later_action, later_packet, resend_later}

ltb-later : (a b d : ℕ) → ltb (a + d) (b + d) ≡ ltb a b
ltb-later a b d = go (ltb a b) refl
  where
    go : (t : Bool) → ltb a b ≡ t → ltb (a + d) (b + d) ≡ ltb a b
    go true e = let h : a < b = ltb-true _ _ e in rw e (lt-ltb (a + d) (b + d) (omega arith))
    go false e = let h : b ≤ a = ltb-false _ _ e in rw e (le-ltb (a + d) (b + d) (omega arith))

map_at : (f : Packet → Packet) (ps : List Packet) (i : ℕ) → i < length ps → get_or (map f ps) i nothing ≡ f (get_or ps i nothing)
map_at f [] i h = absurd (omega arith)
map_at f (p ∷ ps) zero h = refl
map_at f (p ∷ ps) (suc i) h = map_at f ps i (omega arith)

pub map-length : (f : Packet → Packet) (ps : List Packet) → length (map f ps) ≡ length ps
map-length f [] = refl
map-length f (p ∷ ps) = ap suc (map-length f ps)

resend-later : (d n r : ℕ) → 1 ≤ n → resend_later d n r ≡ r + d
unfolding resend_later
resend-later d zero r h = absurd (omega arith)
resend-later d (suc n) r h = refl

module _ (c : Settings) (d now : ℕ) where
  late-later-one : (p : Packet) → is_late c (now + d) (later_packet d p) ≡ is_late c now p
  unfolding later_packet
  late-later-one p =
      let e : p.time + d + late_window c ≡ p.time + late_window c + d = omega arith in
      ap (λ (x : ℕ). ltb x (now + d)) e ∙ ltb-later (p.time + late_window c) now d

  late_from-later : (m : ℕ) (ps : List Packet) → late_from c (now + d) m (map (later_packet d) ps) ≡ late_from c now m ps
  unfolding late_from later_packet
  late_from-later m [] = refl
  late_from-later m (p ∷ ps) = rw (late-later-one p, late_from-later p.message ps, late_from-later m ps)

  pub late-later : (ps : List Packet) → late c (now + d) (map (later_packet d) ps) ≡ late c now ps
  unfolding late later_packet
  late-later [] = refl
  late-later (p ∷ ps) = rw (late-later-one p, late_from-later p.message ps)

  pub earliest-later : (t n : ℕ) (ps : List Packet) → All (Sent c) ps → earliest (t + d) n (map (later_packet d) ps) ≡ earliest t n ps
  unfolding earliest later_packet
  earliest-later t n [] a = refl
  earliest-later t n (p ∷ ps) a =
      let e : resend_later d p.count p.resend ≡ p.resend + d = resend-later d p.count p.resend a.0.once in
      rw (e, ltb-later p.resend t d, earliest-later p.resend (suc n) ps a.1, earliest-later t (suc n) ps a.1)

  pub packet-later : (s : Sender) (n : ℕ) → n - s.front < length s.packets → packet (later d s) n ≡ later_packet d (packet s n)
  unfolding packet later
  packet-later s n h = map_at (later_packet d) s.packets (n - s.front) h

  stamped-later : (s : Sender) (p : Packet) → stamped (now + d) (later d s) (later_packet d p) ≡ later_packet d (stamped now s p)
  unfolding stamped later later_packet base
  stamped-later s p =
      let w : ℕ = wait (base s) p.count in
      let e : now + d + wait (base s) p.count ≡ resend_later d (min 65_535 (p.count + 1)) (now + wait (base s) p.count) =
      omega (arith, resend-later d (min 65_535 (p.count + 1)) (now + wait (base s) p.count) (omega arith))
      in
      λ i. record {
        time = p.time + d;
        message = p.message;
        place = p.place;
        len = p.len;
        count = min 65_535 (p.count + 1);
        resend = e i;
      }

  pub sent-later : (s : Sender) (n : ℕ) → n - s.front < length s.packets → sent (now + d) (later d s) n ≡ map (later_packet d) (sent now s n)
  unfolding sent later
  sent-later s n h =
      ap (λ (p : Packet). set (map (later_packet d) s.packets) (n - s.front) (stamped (now + d) (later d s) p)) (packet-later s n h)
      ∙ (ap (λ (p : Packet). set (map (later_packet d) s.packets) (n - s.front) p) (stamped-later s (packet s n))
      ∙ map-set (later_packet d) s.packets (n - s.front) (stamped now s (packet s n)))

  pub record_later : (k : Kind) (n : ℕ) (p : Packet) → is_send k ≡ 1 → send_record k n (later_packet d p) ≡ later_action d (send_record k n p)
  unfolding send_record later_packet later_action
  record_later Send n p e = refl
  record_later ByTime n p e = refl
  record_later ByLoss n p e = refl
  record_later Drop n p e = absurd (omega arith)
  record_later WaitInput n p e = absurd (omega arith)
  record_later WaitAck n p e = absurd (omega arith)

  kind-later : (a : Action) → is_send (later_action d a).kind ≡ is_send a.kind
  unfolding later_action
  kind-later a = cond-by (λ (b : Action). is_send b.kind ≡ is_send a.kind) (eqb (is_send a.kind) 1) _ a (λ e. refl) (λ e. refl)

  pub sends-later : (rs : List Action) → sends (map (later_action d) rs) ≡ sends rs
  sends-later [] = refl
  sends-later (a ∷ rs) = omega (arith, kind-later a, sends-later rs)

  pub sizes_later : (ps : List Packet) → wire_sizes c (map (later_packet d) ps) ≡ wire_sizes c ps
  unfolding wire_sizes later_packet
  sizes_later [] = refl
  sizes_later (p ∷ ps) = ap (λ (n : ℕ). p.len + c.overhead + n) (sizes_later ps)
