-- A number with k smaller ones on the loss list is sent once accepted runs have got k + 1 units: each unit takes the
-- smallest off the list, and every other call leaves the number there and adds no smaller one, or the number leaves the
-- buffer (`Fate`).
use mathlib.Core.Path.{◌∙◌, ◌≡◌, ap, refl, sym}
use mathlib.Core.Bool.{Bool, ◌&&◌, false, true}
use mathlib.Core.List.{List, [], ◌++◌, ◌∷◌}
use mathlib.Core.Logic.{◌⊎◌, inl, inr}
use Prim.Native.Nat.{◌%◌, ◌+◌, ◌-◌, ◌<◌, ◌≤◌, suc, zero, ℕ}
use native.Mathlib.Omega.{arith}
use lib.Dec.{eqb, leb, ltb}
use lib.ListN.{length}
use borrow.Author.Tests.{leb-false, leb-true}
use Rattle.rules_refusals.specs.declared.Refusal.{Refusal}
use Rattle.rules_refusals.specs.Table.{number_of}
use Rattle.laws.specs.Choice.{cond-by}
use Rattle.rules.specs.Ack.{ack_of, acknowledge, take_rtt}
use Rattle.rules.specs.Calls.{Answer, Call, ack, after, all_records, all_units, answer, calls, left, message, nak, payload, pushed_by, records, records_of, runs, said_by, units, units_by, with_rtt}
use Rattle.rules.specs.Losses.{report, runs_of, words_of, items_of}
use Rattle.rules.specs.Message.{append, begin, make_room, packets_of, push, push_all}
use Rattle.rules.specs.Numbers.{wire}
use Rattle.rules_theorems.specs.Demands.{AllGiven, On, SentIn, Spared, Spares}
use Rattle.rules.specs.Records.{Action, ByLoss, Send, send_record, sends}
use Rattle.rules.specs.Run.{Rule, Turn, dropped, due, extra, first, flush, flushed, input, join, late, loop, loss, obey, others, rule, run, send, unsent, window}
use Rattle.rules.specs.Sender.{Packet, Sender, below, end, from}
use Rattle.rules.specs.Settings.{Settings, capacity}
use Rattle.rules_theorems.specs.Laws.BookRules.{Good, Kept}
use Rattle.rules_theorems.specs.Laws.Calls.{accepted, answer-by}
use Rattle.rules_theorems.specs.Demands.Times.{later}
use Rattle.rules_theorems.specs.Laws.Run.{split, sweep, turns}
use Rattle.rules_theorems.proofs.CallsKept.{answer-kept}
use Rattle.rules_theorems.proofs.Entering.{enter_all-on}
use Rattle.rules_theorems.proofs.Frame.{dropped-good, late-le, obey-good}
use Rattle.rules_theorems.proofs.Lists.{below-from, below_head, below_subset, on-from}
use Rattle.rules_theorems.proofs.Sends.{turns-end, turns-on}
use Rattle.rules_theorems.proofs.Split.{run_is}

sent-left : (n : ℕ) (rs qs : List Action) → SentIn n rs → SentIn n (rs ++ qs)
sent-left n (a ∷ rs) qs (inl p) = inl p
sent-left n (a ∷ rs) qs (inr o) = inr (sent-left n rs qs o)
sent-left n [] qs o = absurd o

sent-right : (n : ℕ) (rs qs : List Action) → SentIn n qs → SentIn n (rs ++ qs)
sent-right n [] qs o = o
sent-right n (a ∷ rs) qs o = inr (sent-right n rs qs o)

-- ## What happens to n: it was sent, or left the buffer, or is still on the list with u smaller ones gone
data Fate (n u k : ℕ) (rs : List Action) (s : Sender) : Type 0 where
  sent : SentIn n rs → Fate n u k rs s
  gone : n < s.front → Fate n u k rs s
  still : On n s.lost → below n s.lost + u ≤ k → Fate n u k rs s

fate_after : {n u v k l : ℕ} {qs : List Action} {s : Sender} (rs : List Action) → ((x : ℕ) → x + u ≤ k → x + v ≤ l) → Fate n u k qs s
    → Fate n v l (rs ++ qs) s
fate_after {n} {qs = qs} rs h (sent o) = sent (sent-right n rs qs o)
fate_after rs h (gone o) = gone o
fate_after {s = s} rs h (still o p) = still o (h _ p)

module _ (c : Settings) (now : ℕ) (draining : Bool) where
  turn-loss : (x : ℕ) (xs : List ℕ) (s : Sender) → s.lost ≡ x ∷ xs → others c now draining s ≡ send c now draining ByLoss x s.next xs s
  unfolding others obey rule first
  turn-loss x xs s e = rw (e, rule, others)

  turns-loss : (f b x : ℕ) (xs : List ℕ) (s : Sender) → s.lost ≡ x ∷ xs
      → turns c now draining (suc f) (suc b) s
      ≡ join (send c now draining ByLoss x s.next xs s)
      (turns c now draining f b (send c now draining ByLoss x s.next xs s).after)
  unfolding send send_record
  turns-loss f b x xs s e =
      let h : suc b - 1 ≡ b = omega arith in
      turns-on c now draining f b s (rw (turn-loss x xs s e)) ∙ (rw (turn-loss x xs s e, h))

  turns_serve : (n f b : ℕ) (s : Sender) → b ≤ f → Good s → On n s.lost
      → Fate n b (below n s.lost) (turns c now draining f b s).records (turns c now draining f b s).after
  unfolding loop obey send send_record
  turns_serve n zero b s h g o = still o (omega arith)
  turns_serve n (suc f) zero s h g o = still o (omega arith)
  turns_serve n (suc f) (suc b) s h g o =
      go s.lost refl o (λ x xs e o'. turns_serve n f b (send c now draining ByLoss x s.next xs s).after (omega arith)
      (obey-good c now draining (loss x xs) s e g) o')
    where
      go : (l : List ℕ) → s.lost ≡ l → On n l
          → ((x : ℕ) (xs : List ℕ) → s.lost ≡ x ∷ xs → On n xs
          → Fate n b (below n xs) (turns c now draining f b (send c now draining ByLoss x s.next xs s).after).records
          (turns c now draining f b (send c now draining ByLoss x s.next xs s).after).after)
          → Fate n (suc b) (below n s.lost) (turns c now draining (suc f) (suc b) s).records
          (turns c now draining (suc f) (suc b) s).after
      go (x ∷ xs) e (inl p) ih = rw (turns-loss f b x xs s e) (sent (inl (refl, ap wire (sym p))))
      go (x ∷ xs) e (inr o) ih =
          let d : below n s.lost ≡ suc (below n xs) = rw e (below_head n x s.front s.next xs (rw e at g.lost) o) in
          rw (turns-loss f b x xs s e, d)
          (fate_after (send c now draining ByLoss x s.next xs s).records (λ y p. omega arith) (ih x xs e o))
      go [] e o ih = absurd o

-- ## Other changes: packets leave the front, and the list

record Moves (s t : Sender) : Type 0 where
  up : s.front ≤ t.front
  keep : (n : ℕ) → On n s.lost → t.front ≤ n → On n t.lost × (below n t.lost ≤ below n s.lost)

stay : (s t : Sender) → t.front ≡ s.front → t.lost ≡ s.lost → Moves s t
stay s t p q = record { up = omega arith; keep = λ n o h. (rw q o, rw q (omega arith)) }

then : {s t u : Sender} → Moves s t → Moves t u → Moves s u
then a b =
    record {
      up = omega arith;
      keep = λ n o h. let x = a.keep n o (omega arith) in let y = b.keep n x.0 h in
          (y.0, omega (arith, x.1, y.1));
    }

go_from : (k : ℕ) (s t : Sender) → t.front ≡ s.front + k → t.lost ≡ from (s.front + k) s.lost → Moves s t
go_from k s t p q =
    record {
      up = omega arith;
      keep = λ n o h. rw q
          (on-from n (s.front + k) s.lost (omega arith) o, below-from n (s.front + k) s.lost);
    }

module _ (c : Settings) where
  dropped_moves : (now k : ℕ) (s : Sender) → Moves s (dropped c now k s).after
  unfolding dropped
  dropped_moves now zero s = stay s s refl refl
  dropped_moves now (suc k) s = go_from (suc k) s _ refl refl

  room_moves : (s : Sender) → Moves s (make_room c s)
  unfolding make_room
  room_moves s = go (leb (capacity c) (length s.packets)) refl
    where
      go : (b : Bool) → leb (capacity c) (length s.packets) ≡ b → Moves s (make_room c s)
      go true e = rw (e, make_room) (go_from 1 s _ refl refl)
      go false e = rw (e, make_room) (stay s s refl refl)

  push_all_moves : (ps : List Packet) (s : Sender) → Moves s (push_all c ps s)
  unfolding push_all append
  push_all_moves [] s = stay s s refl refl
  push_all_moves (p ∷ ps) s =
      then (room_moves s) (then (stay _ (append c p (make_room c s)) refl refl) (push_all_moves ps (append c p (make_room c s))))

  push_moves : (t now len : ℕ) (s : Sender) → Moves s (push c t now len s)
  unfolding push begin
  push_moves t now len s = then (stay s (begin c now len s) refl refl) (push_all_moves (packets_of c t s.messages len) (begin c now len s))

-- ## A whole call

moves_fate : (n : ℕ) (s t : Sender) (rs : List Action) → Moves s t → On n s.lost → Fate n 0 (below n s.lost) rs t
moves_fate n s t rs m o = go (leb t.front n) refl
  where
    go : (b : Bool) → leb t.front n ≡ b → Fate n 0 (below n s.lost) rs t
    go true e = let x = m.keep n o (leb-true _ _ e) in still x.0 (omega (arith, x.1))
    go false e = gone (leb-false _ _ e)

module _ (c : Settings) where
  module _ (now : ℕ) (draining : Bool) where
    extra-front : (t : Turn) → (extra c now draining t).after.front ≡ t.after.front
    unfolding extra send
    extra-front t = go (eqb (wire t.after.next % 16) 0 && ltb t.after.next (end t.after)) refl
      where
        go : (b : Bool) → (eqb (wire t.after.next % 16) 0 && ltb t.after.next (end t.after)) ≡ b
            → (extra c now draining t).after.front ≡ t.after.front
        go true e = rw (e, extra)
        go false e = rw (e, extra)

    turn_up : (s : Sender) → s.front ≤ (others c now draining s).after.front
    unfolding others obey send flushed
    turn_up s = go (rule c now draining s)
      where
        go : (r : Rule) → s.front ≤ (obey c now draining r s).after.front
        go (loss x xs) = omega arith
        go (due n) = omega arith
        go window = omega arith
        go unsent = omega (arith, extra-front (send c now draining Send s.next (suc s.next) s.lost s))
        go flush = omega arith
        go input = omega arith

    turns_up : (f b : ℕ) (s : Sender) → s.front ≤ (turns c now draining f b s).after.front
    unfolding loop
    turns_up zero b s = omega arith
    turns_up (suc f) zero s = omega arith
    turns_up (suc f) (suc b) s =
        go (others c now draining s).ends refl
        (turns_up f (suc b - sends (others c now draining s).records) (others c now draining s).after)
      where
        go : (e : Bool) → (others c now draining s).ends ≡ e
            → (others c now draining s).after.front ≤ (turns c now draining f (suc b - sends (others c now draining s).records)
            (others c now draining s).after).after.front
            → s.front ≤ (turns c now draining (suc f) (suc b) s).after.front
        go true e ih = rw (turns-end c now draining f b s e) (turn_up s)
        go false e ih = rw (turns-on c now draining f b s e) (omega (arith, turn_up s))

    split-up : (p : ℕ) (s : Sender) → s.front ≤ (split c now draining p s).after.front
    unfolding split sweep
    split-up zero s = omega arith
    split-up (suc p) s = omega (arith, (dropped_moves c now (late c now s.packets) s).up, turns_up (suc p) (suc p) (sweep c now s).after)

    split-served : (n p : ℕ) (s : Sender) → Good s → On n s.lost
        → Fate n p (below n s.lost) (split c now draining p s).records (split c now draining p s).after
    unfolding split sweep
    split-served n zero s g o = still o (omega arith)
    split-served n (suc p) s g o = go (moves_fate n s w [] (dropped_moves c now (late c now s.packets) s) o)
      where
        w : Sender
        w = (sweep c now s).after

        go : Fate n 0 (below n s.lost) [] w
            → Fate n (suc p) (below n s.lost) (split c now draining (suc p) s).records (split c now draining (suc p) s).after
        go (gone h) = gone (omega (arith, turns_up (suc p) (suc p) w))
        go (still o h) = fate_after (sweep c now s).records (λ y q. omega arith)
            (turns_serve c now draining n (suc p) (suc p) w (omega arith)
            (dropped-good c now (late c now s.packets) s (late-le c now s.packets) g) o)
        go (sent x) = absurd x

  Served : ℕ → Sender → Call → Answer → Type 0
  Served n s k a = Fate n (units k a) (below n s.lost) (records a) a.after

  left_moves : (k : Call) (s : Sender) (r : Refusal) → Moves s (left k s r)
  unfolding left with_rtt take_rtt
  left_moves (message time now bytes) s r = cond-by (Moves s) (eqb (number_of r) 11) s s (λ q. stay s s refl refl) (λ q. stay s s refl refl)
  left_moves (ack m full rtt) s r =
      cond-by (Moves s) (eqb (number_of r) 11) (take_rtt rtt s) s (λ q. stay s (take_rtt rtt s) refl refl) (λ q. stay s s refl refl)
  left_moves (nak words room) s r = cond-by (Moves s) (eqb (number_of r) 11) s s (λ q. stay s s refl refl) (λ q. stay s s refl refl)
  left_moves (runs now p draining room) s r =
      cond-by (Moves s) (eqb (number_of r) 11) s s (λ q. stay s s refl refl) (λ q. stay s s refl refl)
  left_moves (payload m) s r = cond-by (Moves s) (eqb (number_of r) 11) s s (λ q. stay s s refl refl) (λ q. stay s s refl refl)

  -- a report adds no smaller number
  abbrev Less : ℕ → Call → Sender → Sender → Type 0
  Less n (message time now bytes) s t = Unit {0}
  Less n (ack m full rtt) s t = Unit {0}
  Less n (nak words room) s t = below n t.lost ≤ below n s.lost
  Less n (runs now p draining room) s t = Unit {0}
  Less n (payload m) s t = Unit {0}

  after-served : (n : ℕ) (k : Call) (s : Sender) → Good s → On n s.lost → Less n k s (after c k s) → Served n s k (accepted c k s)
  unfolding Served after said_by pushed_by records_of units_by take_rtt acknowledge report
  after-served n (message time now bytes) s g o h =
      moves_fate n s (push c time now (length bytes) s) [] (push_moves c time now (length bytes) s) o
  after-served n (ack m full rtt) s g o h =
      moves_fate n s (acknowledge c (ack_of s m) full (take_rtt rtt s)) [] (go_from (ack_of s m) s _ refl refl) o
  after-served n (nak words room) s g o h = still (enter_all-on s (runs_of s (items_of (words_of words))) n s.lost o) (omega arith)
  after-served n (runs now p draining room) s g o h = rw run_is (split-served now draining n p s g o)
  after-served n (payload m) s g o h = still o (omega arith)

  answer-served : (n : ℕ) (k : Call) (s : Sender) → Good s → On n s.lost → Less n k s (answer c k s).after → Served n s k (answer c k s)
  unfolding Served units_by records_of
  answer-served n k s g o =
      answer-by c k s (λ (a : Answer). Less n k s a.after → Served n s k a)
      (λ r e h. moves_fate n s (left k s r) [] (left_moves k s r) o) (λ e h. after-served n k s g o h)

  spared_less : (n : ℕ) (k : Call) (s : Sender) → Spares c n k s → On n s.lost → Good (answer c k s).after
      → Less n k s (answer c k s).after
  spared_less n (message time now bytes) s p o g = tt
  spared_less n (ack m full rtt) s p o g = tt
  spared_less n (nak words room) s p o g = below_subset n _ _ _ s.lost g.lost (p o)
  spared_less n (runs now p draining room) s q o g = tt
  spared_less n (payload m) s p o g = tt

  run_up : (now p : ℕ) (draining : Bool) (s : Sender) → s.front ≤ (run c now draining p s).after.front
  run_up now p draining s = rw run_is (split-up now draining p s)

  after-up : (k : Call) (s : Sender) → s.front ≤ (after c k s).front
  unfolding after acknowledge take_rtt report
  after-up (message time now bytes) s = (push_moves c time now (length bytes) s).up
  after-up (ack m full rtt) s = omega arith
  after-up (nak words room) s = omega arith
  after-up (runs now p draining room) s = run_up now p draining s
  after-up (payload m) s = omega arith

  -- the front does not go back
  pub answer-up : (k : Call) (s : Sender) → s.front ≤ (answer c k s).after.front
  answer-up k s = answer-by c k s (λ (a : Answer). s.front ≤ a.after.front) (λ r e. (left_moves k s r).up) (λ e. after-up k s)

  pub calls-up : (ks : List Call) (s : Sender) → s.front ≤ (calls c ks s).front
  unfolding calls
  calls-up [] s = omega arith
  calls-up (k ∷ ks) s = omega (arith, answer-up k s, calls-up ks (answer c k s).after)

  -- n, on the list with k smaller ones, is sent once accepted runs have got k + 1 units, unless it left the buffer or a
  -- report added a smaller one
  pub served : (n : ℕ) (ks : List Call) (s : Sender) → AllGiven ks → Kept c s → On n s.lost → Spared c n ks s
      → below n s.lost < all_units c ks s → SentIn n (all_records c ks s) ⊎ (n < (calls c ks s).front)
  unfolding all_units all_records calls Served
  served n [] s w g o sp h = absurd (omega arith)
  served n (k ∷ ks) s w g o sp h =
      let g' = answer-kept c k s w.0 g in
      go (answer-served n k s g.good o (spared_less n k s sp.0 o g'.good))
      (λ o' h'. served n ks (answer c k s).after w.1 g' o' sp.1 h')
    where
      a : Answer
      a = answer c k s

      go : Served n s k a
          → (On n a.after.lost → below n a.after.lost < all_units c ks a.after
          → SentIn n (all_records c ks a.after) ⊎ (n < (calls c ks a.after).front))
          → SentIn n (records a ++ all_records c ks a.after) ⊎ (n < (calls c ks a.after).front)
      go (sent x) ih = inl (sent-left n (records a) (all_records c ks a.after) x)
      go (gone x) ih = inr (omega (arith, calls-up ks a.after))
      go (still o' x) ih = later (ih o' (omega arith))
        where
          later : SentIn n (all_records c ks a.after) ⊎ (n < (calls c ks a.after).front)
              → SentIn n (records a ++ all_records c ks a.after) ⊎ (n < (calls c ks a.after).front)
          later (inl y) = inl (sent-right n (records a) (all_records c ks a.after) y)
          later (inr y) = inr y
