-- How many records a run writes: each send leaves one packet fewer to be sent (unsent, due, on the list), and there is
-- at most one flush.
use mathlib.Core.Path.{◌≡◌, refl}
use mathlib.Core.Bool.{Bool, ◌&&◌, ◌||◌, false, true, true≢false}
use mathlib.Core.List.{List, [], ◌∷◌}
use Prim.Native.Nat.{◌%◌, ◌+◌, ◌-◌, ◌<◌, ◌≤◌, max, min, suc, zero, ℕ}
use native.Mathlib.Omega.{arith}
use lib.Dec.{eqb, leb, ltb}
use lib.ListN.{drop, get_or, length, length-append, length-drop, set}
use borrow.Author.Tests.{eq-eqb, le-leb, le-ltb, leb-true, lt-leb, lt-ltb, ltb-true, ne_eqb}
use Rattle.laws.specs.Ascending.{Ascends}
use Rattle.laws.specs.Bools.{and_r}
use Rattle.rules.specs.Numbers.{wire}
use Rattle.rules.specs.Records.{ByLoss, ByTime, Kind, Send, sends}
use Rattle.rules.specs.Run.{Result, Rule, Turn, dropped, due, extra, flush, flushed, input, late, loop, loss, obey, others, rule, send, sent, stamped, unsent, window}
use Rattle.rules.specs.Sender.{Packet, Sender, end, from, nothing, packet}
use Rattle.rules.specs.Settings.{Settings}
use Rattle.rules_theorems.specs.Laws.BookRules.{Good}
use Rattle.rules_theorems.specs.Laws.Run.{Applies, Paid, one, split, stop, sweep, turns, two}
use Rattle.rules_theorems.proofs.Frame.{dropped-good, late-le, obey-good, rule_applies, send-good, sent-length}
use Rattle.rules_theorems.proofs.None.{due-some}
use Rattle.rules_theorems.proofs.Sends.{turn-paid, turns-end, turns-on, turns-zero}

bit : Bool → ℕ
bit true = 1
bit false = 0

count : (ℕ → Packet → Bool) → ℕ → List Packet → ℕ
count f m [] = 0
count f m (p ∷ ps) = bit (f m p) + count f (suc m) ps

bit_mono : (a b : Bool) → (a ≡ true → b ≡ true) → bit a ≤ bit b
unfolding bit
bit_mono true b h = rw (h refl) (omega arith)
bit_mono false b h = omega arith

bit_le : (a : Bool) → bit a ≤ 1
unfolding bit
bit_le true = omega arith
bit_le false = omega arith

count-le : (f : ℕ → Packet → Bool) (m : ℕ) (ps : List Packet) → count f m ps ≤ length ps
unfolding count
count-le f m [] = omega arith
count-le f m (p ∷ ps) = omega (arith, bit_le (f m p), count-le f (suc m) ps)

count_mono : (f g : ℕ → Packet → Bool) (m : ℕ) (ps : List Packet) → ((j : ℕ) (p : Packet) → m ≤ j → g j p ≡ true → f j p ≡ true)
    → count g m ps ≤ count f m ps
unfolding count
count_mono f g m [] h = omega arith
count_mono f g m (p ∷ ps) h =
    omega (arith, bit_mono (g m p) (f m p) (h m p (omega arith)), count_mono f g (suc m) ps (λ j q k. h j q (omega arith)))

-- the packet at index i, with number n, satisfied f and its replacement doesn't satisfy g; elsewhere g implies f
count_set : (f g : ℕ → Packet → Bool) (n m : ℕ) (ps : List Packet) (i : ℕ) (x : Packet) → i < length ps → n ≡ m + i
    → f n (get_or ps i nothing) ≡ true → g n x ≡ false
    → ((j : ℕ) (p : Packet) → ¬ (j ≡ n) → g j p ≡ true → f j p ≡ true) → count g m (set ps i x) < count f m ps
unfolding count bit
count_set f g n m [] i x l e t u h = absurd (omega arith)
count_set f g n m (p ∷ ps) zero x l e t u h =
    let q : n ≡ m = omega arith in
    rw (rw q at t, rw q at u) (omega (arith, count_mono f g (suc m) ps (λ j r k. h j r (λ z. omega arith))))
count_set f g n m (p ∷ ps) (suc i) x l e t u h =
    omega (arith, bit_mono (g m p) (f m p) (h m p (λ z. omega arith)), count_set f g n (suc m) ps i x (omega arith) (omega arith) t u h)

-- ## What is to be sent: unsent, or due, or on the loss list

is_on : ℕ → List ℕ → Bool
is_on n [] = false
is_on n (x ∷ xs) = eqb n x || is_on n xs

above_off : (n lo hi : ℕ) (xs : List ℕ) → Ascends lo hi xs → n < lo → is_on n xs ≡ false
unfolding is_on
above_off n lo hi [] a h = refl
above_off n lo hi (x ∷ xs) a h = rw (ne_eqb n x (λ e. omega arith)) (above_off n (suc x) hi xs a.2 (omega arith))

to_send : ℕ → ℕ → List ℕ → ℕ → Packet → Bool
to_send now next lost n p = leb next n || (ltb p.resend now || is_on n lost)

or_2 : (a b c : Bool) → b ≡ true → (a || (b || c)) ≡ true
or_2 true b c e = refl
or_2 false b c e = rw e

or_3 : (a b c : Bool) → c ≡ true → (a || (b || c)) ≡ true
or_3 true b c e = refl
or_3 false true c e = refl
or_3 false false c e = e

or_r : (a b : Bool) → b ≡ true → (a || b) ≡ true
or_r true b e = refl
or_r false b e = e

or_off : (a b c : Bool) → a ≡ false → b ≡ false → c ≡ false → (a || (b || c)) ≡ false
or_off a b c p q r = rw (p, q, r)

or_mono : (a a' b c c' : Bool) → (a ≡ true → a' ≡ true) → (c ≡ true → c' ≡ true) → (a || (b || c)) ≡ true → (a' || (b || c')) ≡ true
or_mono true a' b c c' h k e = rw (h refl)
or_mono false a' true c c' h k e = or_2 a' true c' refl
or_mono false a' false c c' h k e = or_3 a' false c' (k e)

todo : ℕ → Sender → ℕ
todo now s = count (to_send now s.next s.lost) s.front s.packets

module _ (c : Settings) (now : ℕ) (draining : Bool) where
  send-less : (k : Kind) (n m : ℕ) (l : List ℕ) (s : Sender) → s.front ≤ n → n < end s → n < m → is_on n l ≡ false
      → to_send now s.next s.lost n (packet s n) ≡ true
      → ((j : ℕ) → m ≤ j → s.next ≤ j) → ((j : ℕ) → is_on j l ≡ true → is_on j s.lost ≡ true)
      → todo now (send c now draining k n m l s).after < todo now s
  unfolding todo send sent to_send packet stamped
  send-less k n m l s lo hi p q t h h' =
      count_set (to_send now s.next s.lost) (to_send now m l) n s.front s.packets (n - s.front) (stamped now s (packet s n))
      (omega arith) (omega arith) t
      (or_off (leb m n) _ _ (lt-leb m n p) (le-ltb _ now (omega arith)) q)
      (λ j r z. or_mono (leb m j) (leb s.next j) (ltb r.resend now) (is_on j l) (is_on j s.lost)
      (λ e. le-leb _ _ (h j (leb-true _ _ e))) (h' j))

  -- how many are to be sent, plus 1 for a flush while anything is buffered
  ahead : Sender → ℕ
  ahead s = todo now s + min 1 (length s.packets)

  send-ahead : (k : Kind) (n m : ℕ) (l : List ℕ) (s : Sender) → todo now (send c now draining k n m l s).after < todo now s
      → length (send c now draining k n m l s).records + ahead (send c now draining k n m l s).after ≤ ahead s
  unfolding ahead send
  send-ahead k n m l s h = rw (sent-length c now s n) (omega arith)

  fresh-less : (s : Sender) → Good s → s.lost ≡ [] → s.next < end s
      → todo now (send c now draining Send s.next (suc s.next) s.lost s).after < todo now s
  unfolding to_send is_on
  fresh-less s g o h =
      send-less Send s.next (suc s.next) s.lost s g.low h (omega arith) (rw o) (rw (le-leb s.next s.next (omega arith)))
      (λ j k. omega arith) (λ j k. k)

  extra-ahead : (t : Turn) (b : ℕ) → Good t.after → t.after.lost ≡ [] → length t.records + ahead t.after ≤ b
      → length (extra c now draining t).records + ahead (extra c now draining t).after ≤ b
  unfolding extra
  extra-ahead t b g o h = go (eqb (wire t.after.next % 16) 0 && ltb t.after.next (end t.after)) refl
    where
      u : Sender
      u = t.after

      go : (d : Bool) → (eqb (wire t.after.next % 16) 0 && ltb t.after.next (end t.after)) ≡ d
          → length (extra c now draining t).records + ahead (extra c now draining t).after ≤ b
      go true e = rw (e, extra)
          (simp length-append
          (omega (
            arith,
            send-ahead Send u.next (suc u.next) u.lost u
                (fresh-less u g o (ltb-true _ _ (and_r (eqb (wire u.next % 16) 0) (ltb u.next (end u)) e))),
          )))
      go false e = rw (e, extra) h

  obey-ahead : (r : Rule) (s : Sender) → Good s → Applies c now draining r s → (obey c now draining r s).ends ≡ false
      → length (obey c now draining r s).records + ahead (obey c now draining r s).after ≤ ahead s
  unfolding obey send to_send is_on ahead todo flushed
  obey-ahead (loss x xs) s g a e =
      let l : Ascends s.front s.next (x ∷ xs) = rw a at g.lost in
      send-ahead ByLoss x s.next xs s
      (send-less ByLoss x s.next xs s l.0 (omega arith) l.1 (above_off x (suc x) s.next xs l.2 (omega arith))
      (or_3 (leb s.next x) (ltb (packet s x).resend now) (is_on x s.lost) (rw (a, eq-eqb x x refl))) (λ j k. k)
      (λ j k. rw a (or_r (eqb j x) (is_on j xs) k)))
  obey-ahead (due n) s g a e =
      let d = due-some c now draining s g n a.1 in
      send-ahead ByTime n s.next s.lost s (send-less ByTime n s.next s.lost s d.0 (omega (arith, d.1)) d.1 (rw a.0)
      (or_2 (leb s.next n) (ltb (packet s n).resend now) (is_on n s.lost) (lt-ltb _ _ d.2)) (λ j k. k) (λ j k. k))
  obey-ahead window s g a e = absurd (true≢false e)
  obey-ahead unsent s g a e =
      let t : Turn = send c now draining Send s.next (suc s.next) s.lost s in
      extra-ahead t (ahead s) (send-good c now draining Send s.next (suc s.next) s.lost s (omega arith) a.3 (rw a.0 tt))
      a.0
      (send-ahead Send s.next (suc s.next) s.lost s (fresh-less s g a.0 a.3))
  obey-ahead flush s g a e =
      let l : length (drop 1 s.packets) ≡ 0 = simp length-drop (omega arith) in
      omega (
        arith,
        count-le (to_send now (max s.next (s.front + 1)) (from (s.front + 1) s.lost)) (s.front + 1)
            (drop 1 s.packets),
      )
  obey-ahead input s g a e = absurd (true≢false e)

  turns-ahead : (f b : ℕ) (s : Sender) → Good s → length (turns c now draining f b s).records ≤ ahead s + 1
  unfolding loop others
  turns-ahead zero b s g = omega arith
  turns-ahead (suc f) zero s g = omega arith
  turns-ahead (suc f) (suc b) s g =
      go (others c now draining s).ends refl (turn-paid c now draining s)
      (turns-ahead f (suc b - sends (others c now draining s).records) (others c now draining s).after
      (obey-good c now draining (rule c now draining s) s (rule_applies c now draining s) g))
    where
      t : Turn
      t = others c now draining s

      r : Result
      r = turns c now draining f (suc b - sends t.records) t.after

      on : t.ends ≡ false → length r.records ≤ ahead t.after + 1
          → length (turns c now draining (suc f) (suc b) s).records ≤ ahead s + 1
      on e ih =
          rw (turns-on c now draining f b s e, length-append)
          (omega (arith, obey-ahead (rule c now draining s) s g (rule_applies c now draining s) e))

      go : (e : Bool) → t.ends ≡ e → Paid t → length r.records ≤ ahead t.after + 1
          → length (turns c now draining (suc f) (suc b) s).records ≤ ahead s + 1
      go e q (stop h z l) ih = rw (turns-end c now draining f b s h) (omega arith)
      go e q (one h z l) ih = on h ih
      go e q (two x y h z i j d) ih = on h ih

  turns-budget : (f b : ℕ) (s : Sender) → length (turns c now draining f b s).records ≤ b + 1
  unfolding loop
  turns-budget zero b s = omega arith
  turns-budget (suc f) zero s = omega arith
  turns-budget (suc f) (suc b) s =
      go b (turn-paid c now draining s) (turns-budget f (suc b - sends (others c now draining s).records) (others c now draining s).after)
    where
      t : Turn
      t = others c now draining s

      r : ℕ → Result
      r b = turns c now draining f (suc b - sends t.records) t.after

      go : (b : ℕ) → Paid t → length (r b).records ≤ suc b - sends t.records + 1
          → length (turns c now draining (suc f) (suc b) s).records ≤ suc b + 1
      go b (stop h z l) ih = rw (turns-end c now draining f b s h) (omega arith)
      go b (one h z l) ih = rw (turns-on c now draining f b s h, length-append) (omega arith)
      go zero (two x y h q i j d) ih =
          let z : 1 - sends t.records ≡ 0 = rw q (omega arith) in
          let n : (r 0).records ≡ [] = rw z (turns-zero c now draining f t.after) in
          rw (turns-on c now draining f zero s h, n, q) (omega arith)
      go (suc b) (two x y h q i j d) ih =
          let z : sends t.records ≡ 2 = rw q (omega arith) in
          let l : length t.records ≡ 2 = rw q in
          rw (turns-on c now draining f (suc b) s h, length-append) (omega arith)

  dropped-room : (k : ℕ) (s : Sender) → k ≤ length s.packets
      → length (dropped c now k s).records + length (dropped c now k s).after.packets ≤ length s.packets
  unfolding dropped
  dropped-room zero s h = omega arith
  dropped-room (suc k) s h = simp length-drop (omega arith)

  dropped-one : (k : ℕ) (s : Sender) → length (dropped c now k s).records ≤ 1
  unfolding dropped
  dropped-one zero s = omega arith
  dropped-one (suc k) s = omega arith

  -- the records of a run are at most min(p, buffered) + 2
  pub split-room : (p : ℕ) (s : Sender) → Good s → length (split c now draining p s).records ≤ min p (length s.packets) + 2
  unfolding split sweep ahead todo
  split-room zero s g = omega arith
  split-room (suc p) s g =
      let w : Sender = (sweep c now s).after in
      let k : ℕ = late c now s.packets in
      rw length-append (omega (
        arith,
        dropped-room k s (late-le c now s.packets),
        dropped-one k s,
        turns-budget (suc p) (suc p) w,
        turns-ahead (suc p) (suc p) w (dropped-good c now k s (late-le c now s.packets) g),
        count-le (to_send now w.next w.lost) w.front w.packets,
      ))
