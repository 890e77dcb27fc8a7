-- No packet is sent twice in a run, except by the flush. What a turn sends was pending: unsent, due, or on the loss
-- list. Sending ends that, since it sets a resend time that is not before now, and nothing becomes pending in a run.
use mathlib.Core.Path.{◌∙◌, ◌≡◌, ap, refl, sym}
use mathlib.Core.Bool.{Bool, ◌&&◌, false, not, true}
use mathlib.Core.List.{List, [], ◌++◌, ◌∷◌, append-nil}
use mathlib.Core.Logic.{inl, inr}
use Prim.Native.Nat.{◌%◌, ◌*◌, ◌+◌, ◌-◌, ◌<◌, ◌^◌, ◌≤◌, suc, zero, ℕ}
use native.Mathlib.Omega.{arith}
use lib.Dec.{eqb, leb, ltb}
use lib.ListN.{drop, get_or, length, length-drop, length-take}
use lib.Seq.{get_or-set_other, get_or-set_same}
use borrow.Author.Tests.{eq-eqb, eqb-false, eqb-true, leb-false, leb-true, ltb-true, ne_eqb}
use Rattle.laws.specs.Ascending.{Ascends}
use Rattle.laws.specs.Bools.{and_r}
use Rattle.laws.specs.Choice.{cond-false, cond-true}
use Rattle.rules_packets.specs.Header.{bit, place_bits}
use Rattle.rules.specs.Numbers.{wire}
use Rattle.rules_theorems.specs.Demands.{On}
use Rattle.rules.specs.Records.{Action, ByLoss, ByTime, Kind, Send, again, drop_record, is_send, send_record, sends, sent_before, wait_ack, wait_input}
use Rattle.rules.specs.Run.{Rule, Turn, base, dropped, due, extra, flush, flushed, input, late, loop, loss, obey, others, rule, run, send, send_next, sent, stamped, unsent, wait, window}
use Rattle.rules.specs.Sender.{Packet, Sender, end, nothing, packet, sent_of}
use Rattle.rules.specs.Settings.{Settings}
use Rattle.rules_theorems.specs.Laws.BookRules.{Kept}
use Rattle.rules_theorems.specs.Laws.Numbers.{wire_injective}
use Rattle.rules_theorems.specs.Demands.Once.{Distinct, is_flush, sent_numbers}
use Rattle.rules_theorems.specs.Laws.Run.{Applies, one, split, sweep, turns}
use Rattle.rules_theorems.proofs.Frame.{late-le, rule_applies, sent-length}
use Rattle.rules_theorems.proofs.Lists.{on_above, on_below}
use Rattle.rules_theorems.proofs.None.{due-some}
use Rattle.rules_theorems.proofs.Places.{buffered_few}
use Rattle.rules_theorems.proofs.RunKept.{dropped-kept, first-kept, new-at, old-at, others-kept}
use Rattle.rules_theorems.proofs.Split.{loop-end, loop-on, run_is}

data Pending (now : ℕ) (s : Sender) (n : ℕ) : Type 0 where
  new : s.next ≤ n → Pending now s n
  over : (packet s n).resend < now → Pending now s n
  listed : On n s.lost → Pending now s n

abbrev Each : (ℕ → Type 0) → List ℕ → Type 0
Each P [] = Unit {0}
Each P (x ∷ xs) = P x × Each P xs

each_on : (P : ℕ → Type 0) (x : ℕ) (xs : List ℕ) → Each P xs → On x xs → P x
each_on P x (y ∷ ys) e (inl q) = rw q e.0
each_on P x (y ∷ ys) e (inr o) = each_on P x ys e.1 o
each_on P x [] e o = absurd o

each_map : (P Q : ℕ → Type 0) (xs : List ℕ) → ((x : ℕ) → P x → Q x) → Each P xs → Each Q xs
each_map P Q [] f e = tt
each_map P Q (x ∷ xs) f e = (f x e.0, each_map P Q xs f e.1)

-- a number on the wire that names a pending packet of the buffer
Named : ℕ → Sender → ℕ → Type 0
Named now s x = (n : ℕ) × (x ≡ wire n) × (s.front ≤ n) × (n < end s) × Pending now s n

Once : ℕ → Sender → List ℕ → Type 0
Once now s xs = Each (Named now s) xs × Distinct xs

module _ (now : ℕ) where
  once-cons : (s t : Sender) (n : ℕ) (xs : List ℕ) → t.front ≡ s.front → end t ≡ end s → end s < s.front + 2 ^ 31
      → s.front ≤ n → n < end s → Pending now s n → ¬ Pending now t n → ((j : ℕ) → Pending now t j → Pending now s j)
      → Once now t xs → Once now s (wire n ∷ xs)
  unfolding Once Named
  once-cons s t n xs f e few lo hi p q h o = (
    (
      (n, refl, lo, hi, p),
      each_map (Named now t) (Named now s) xs
          (λ x y. (y.0, y.1, omega (arith, y.2), omega (arith, y.3), h y.0 y.4)) o.0,
    ),
    (λ on. not (each_on (Named now t) (wire n) xs o.0 on), o.1),
  )
    where
      not : Named now t (wire n) → ⊥
      not y = go (leb n y.0) refl
        where
          same : n ≡ y.0 → ⊥
          same r = q (rw r y.4)

          go : (b : Bool) → leb n y.0 ≡ b → ⊥
          go true l = same (wire_injective n y.0 (leb-true _ _ l) (omega (arith, y.2, y.3)) y.1)
          go false l =
              let w : y.0 < n = leb-false _ _ l in same
              (sym (wire_injective y.0 n (omega arith) (omega (arith, y.2, y.3)) (sym y.1)))

  -- nothing was sent, and no more is pending
  once-less : (s t : Sender) (xs : List ℕ)
      → ((j : ℕ) → t.front ≤ j → j < end t → Pending now t j → (s.front ≤ j) × (j < end s) × Pending now s j)
      → Once now t xs → Once now s xs
  unfolding Once Named
  once-less s t xs h o = (
    each_map (Named now t) (Named now s) xs (λ x y. let z = h y.0 y.2 y.3 y.4 in (y.0, y.1, z.0, z.1, z.2))
        o.0,
    o.1,
  )

  module _ (c : Settings) (draining : Bool) where
    send-once : (k : Kind) (n m : ℕ) (l : List ℕ) (s : Sender) (xs : List ℕ) → end s < s.front + 2 ^ 31 → s.front ≤ n → n < end s
        → Pending now s n
        → n < m → ¬ On n l → ((j : ℕ) → m ≤ j → s.next ≤ j) → ((j : ℕ) → On j l → On j s.lost)
        → Once now (send c now draining k n m l s).after xs → Once now s (wire n ∷ xs)
    unfolding send sent packet stamped
    send-once k n m l s xs few lo hi p up off new' list o = once-cons s t n xs refl (rw (sent-length c now s n)) few lo hi p not less o
      where
        t : Sender
        t = (send c now draining k n m l s).after

        not : Pending now t n → ⊥
        not (new q) = omega arith
        not (over q) =
            let e : packet t n ≡ stamped now s (packet s n) = get_or-set_same s.packets (n - s.front)
            (stamped now s (packet s n)) nothing (omega arith) in
            let r : (packet t n).resend ≡ now + wait (base s) (packet s n).count = ap (λ (x : Packet). x.resend) e in
            omega arith
        not (listed q) = off q

        less : (j : ℕ) → Pending now t j → Pending now s j
        less j (new q) = new (new' j q)
        less j (over q) = by (eqb (j - s.front) (n - s.front)) refl
          where
            by : (b : Bool) → eqb (j - s.front) (n - s.front) ≡ b → Pending now s j
            by true e =
                let d : j - s.front ≡ n - s.front = eqb-true _ _ e in
                let f : packet t j ≡ stamped now s (packet s n) =
                ap (λ (i : ℕ). get_or t.packets i nothing) d
                ∙ get_or-set_same s.packets (n - s.front) (stamped now s (packet s n)) nothing (omega arith)
                in
                let r : (packet t j).resend ≡ now + wait (base s) (packet s n).count = ap (λ (x : Packet). x.resend) f in
                absurd (omega arith)
            by false e =
                let f : packet t j ≡ packet s j =
                get_or-set_other s.packets (n - s.front) (j - s.front) (stamped now s (packet s n)) nothing (eqb-false _ _ e)
                in
                over (rw f at q)
        less j (listed q) = listed (list j q)

    -- what a record adds to the numbers sent
    numbers-plain : (k : Kind) (n : ℕ) (p : Packet) (rs : List Action) → is_send k ≡ 1
        → is_flush k (place_bits p.place * 64 + bit (again p)) ≡ false
        → sent_numbers (send_record k n p ∷ rs) ≡ wire n ∷ sent_numbers rs
    unfolding sent_numbers send_record
    numbers-plain k n p rs e f =
        let q : (eqb (is_send k) 1 && not (is_flush k (place_bits p.place * 64 + bit (again p)))) ≡ true = rw (e, f) in
        cond-true (wire n ∷ sent_numbers rs) (sent_numbers rs) q

    numbers-loss : (n : ℕ) (p : Packet) (rs : List Action) → sent_numbers (send_record ByLoss n p ∷ rs) ≡ wire n ∷ sent_numbers rs
    unfolding is_flush
    numbers-loss n p rs = numbers-plain ByLoss n p rs refl refl

    numbers-due : (n : ℕ) (p : Packet) (rs : List Action) → sent_numbers (send_record ByTime n p ∷ rs) ≡ wire n ∷ sent_numbers rs
    unfolding is_flush
    numbers-due n p rs = numbers-plain ByTime n p rs refl refl

    numbers-first : (n : ℕ) (p : Packet) (rs : List Action) → p.count ≡ 0
        → sent_numbers (send_record Send n p ∷ rs) ≡ wire n ∷ sent_numbers rs
    unfolding is_flush sent_before
    numbers-first n p rs e =
        let b : bit (again p) ≡ 0 = ap (λ (x : ℕ). bit (sent_before x)) e in
        numbers-plain Send n p rs refl (ne_eqb _ _ (λ q. odd (place_bits p.place) (bit (again p)) b q))
      where
        odd : (x y : ℕ) → y ≡ 0 → (x * 64 + y) % 2 ≡ 1 → ⊥
        odd x y e q = omega arith

    numbers_flush : (n : ℕ) (p : Packet) (rs : List Action) → 1 ≤ p.count → sent_numbers (send_record Send n p ∷ rs) ≡ sent_numbers rs
    unfolding is_flush sent_before sent_numbers send_record
    numbers_flush n p rs e =
        let b : bit (again p) ≡ 1 = one p.count e in
        cond-false (wire n ∷ sent_numbers rs) (sent_numbers rs) (ap not (eq-eqb _ _ (even (place_bits p.place) (bit (again p)) b)))
      where
        one : (k : ℕ) → 1 ≤ k → bit (sent_before k) ≡ 1
        one zero h = absurd (omega arith)
        one (suc k) h = refl

        even : (x y : ℕ) → y ≡ 1 → (x * 64 + y) % 2 ≡ 1
        even x y e = omega arith

    next-once : (s : Sender) (rs : List Action) → Kept c s → s.next < end s → end s < s.front + 2 ^ 31
        → Once now (send_next c now draining s).after (sent_numbers rs)
        → Once now s (sent_numbers (send_record Send s.next (packet s s.next) ∷ rs))
    next-once s rs g h few o =
        let u = new-at c s g h (omega (arith, g.good.low)) in
        rw (numbers-first s.next (packet s s.next) rs u.never)
        (send-once Send s.next (suc s.next) s.lost s (sent_numbers rs) few g.good.low h (new (omega arith)) (omega arith)
        (λ q. omega (arith, on_below s.next s.front s.next s.lost g.good.lost q)) (λ j q. omega arith) (λ j q. q) o)

    send-loss : (x : ℕ) (xs : List ℕ) (s : Sender) (rs : List Action) → s.front ≤ x → x < end s → x < s.next → end s < s.front + 2 ^ 31
        → s.lost ≡ x ∷ xs → ¬ On x xs → Once now (send c now draining ByLoss x s.next xs s).after (sent_numbers rs)
        → Once now s (sent_numbers ((send c now draining ByLoss x s.next xs s).records ++ rs))
    unfolding send
    send-loss x xs s rs lo hi up few a off o =
        rw (numbers-loss x (packet s x) rs)
        (send-once ByLoss x s.next xs s (sent_numbers rs) few lo hi (listed (rw a (inl refl))) up off (λ j q. q) (λ j q. rw a (inr q)) o)

    send-due : (n : ℕ) (s : Sender) (rs : List Action) → s.front ≤ n → n < end s → n < s.next → (packet s n).resend < now → s.lost ≡ []
        → end s < s.front + 2 ^ 31 → Once now (send c now draining ByTime n s.next s.lost s).after (sent_numbers rs)
        → Once now s (sent_numbers ((send c now draining ByTime n s.next s.lost s).records ++ rs))
    unfolding send
    send-due n s rs lo hi up d e few o =
        rw (numbers-due n (packet s n) rs)
        (send-once ByTime n s.next s.lost s (sent_numbers rs) few lo hi (over d) up (λ q. rw e at q) (λ j q. q) (λ j q. q) o)

    wait-numbers : (s : Sender) (rs : List Action) → Once now s (sent_numbers rs) → Once now s (sent_numbers (wait_ack (sent_of s) ∷ rs))
    unfolding sent_numbers wait_ack
    wait-numbers s rs o = o

    input-numbers : (s : Sender) (rs : List Action) → Once now s (sent_numbers rs) → Once now s (sent_numbers (wait_input ∷ rs))
    unfolding sent_numbers wait_input
    input-numbers s rs o = o

    -- rule 5: one packet, or two
    extra-once : (s : Sender) (rs : List Action) → Kept c s → end s < s.front + 2 ^ 31 → s.next < end s
        → Kept c (send_next c now draining s).after
        → Once now (extra c now draining (send_next c now draining s)).after (sent_numbers rs)
        → Once now s (sent_numbers ((extra c now draining (send_next c now draining s)).records ++ rs))
    unfolding extra send
    extra-once s rs g few h g' = go (eqb (wire t.next % 16) 0 && ltb t.next (end t)) refl
      where
        t : Sender
        t = (send_next c now draining s).after

        same : end t ≡ end s
        same = rw (sent-length c now s s.next)

        go : (b : Bool) → (eqb (wire t.next % 16) 0 && ltb t.next (end t)) ≡ b
            → Once now (extra c now draining (send_next c now draining s)).after (sent_numbers rs)
            → Once now s (sent_numbers ((extra c now draining (send_next c now draining s)).records ++ rs))
        go true e o =
            let in_buffer : t.next < end t = ltb-true _ _ (and_r (eqb (wire t.next % 16) 0) (ltb t.next (end t)) e) in
            let u : Once now (send_next c now draining t).after (sent_numbers rs) = rw (e, extra) at o in
            rw (e, extra)
            (next-once s (send_record Send t.next (packet t t.next) ∷ rs) g h few
            (next-once t rs g' in_buffer (omega (arith, same)) u))
        go false e o = rw (e, extra) (next-once s rs g h few (rw (e, extra) at o))

    -- after the flush nothing is buffered
    flush_once : (s : Sender) (rs : List Action) → length s.packets ≡ 1 → Once now (flushed c now draining s) (sent_numbers rs)
        → Once now s (sent_numbers rs)
    unfolding flushed
    flush_once s rs single o =
        once-less s (flushed c now draining s) (sent_numbers rs)
        (λ j lo hi p. let l : length (drop 1 s.packets) ≡ 0 = simp length-drop (omega arith) in absurd (omega arith)) o

    obey-once : now < 2 ^ 48 → (r : Rule) (s : Sender) (rs : List Action) → Kept c s → end s < s.front + 2 ^ 31
        → Applies c now draining r s
        → Once now (obey c now draining r s).after (sent_numbers rs) → Once now s (sent_numbers ((obey c now draining r s).records ++ rs))
    unfolding obey
    obey-once early (loss x xs) s rs g few a o =
        let l : Ascends s.front s.next (x ∷ xs) = rw a at g.good.lost in
        let high = g.good.high in
        send-loss x xs s rs l.0 (omega (arith, l.1)) l.1 few a (λ q. omega (arith, on_above x (suc x) s.next xs l.2 q)) o
    obey-once early (due n) s rs g few a o =
        let d = due-some c now draining s g.good n a.1 in
        let high = g.good.high in
        send-due n s rs d.0 (omega (arith, d.1)) d.1 d.2 a.0 few o
    obey-once early window s rs g few a o = wait-numbers s rs o
    obey-once early unsent s rs g few a o =
        extra-once s rs g few a.3 (first-kept c now draining early s a.3 g) o
    obey-once early flush s rs g few a o =
        let q = old-at c s s.front g (omega arith) (omega (arith, g.good.low)) (omega (arith, g.good.low))
        (simp length-take (omega (arith, g.good.low))) in
        rw (numbers_flush s.front (packet s s.front) rs q.once) (flush_once s rs a.5 o)
    obey-once early input s rs g few a o = input-numbers s rs o

    turns-once : now < 2 ^ 48 → (f b : ℕ) (s : Sender) → Kept c s → Once now s (sent_numbers (turns c now draining f b s).records)
    unfolding loop others Once sent_numbers
    turns-once early zero b s g = (tt, tt)
    turns-once early (suc f) zero s g = (tt, tt)
    turns-once early (suc f) (suc b) s g =
        let few = buffered_few c s g in
        go (others c now draining s).ends refl (omega arith)
        (turns-once early f (suc b - sends (others c now draining s).records) (others c now draining s).after
        (others-kept c now draining early s g))
      where
        t : Turn
        t = others c now draining s

        go : (e : Bool) → t.ends ≡ e → end s < s.front + 2 ^ 31
            → Once now t.after (sent_numbers (turns c now draining f (suc b - sends t.records) t.after).records)
            → Once now s (sent_numbers (turns c now draining (suc f) (suc b) s).records)
        go true e few ih =
            let o = obey-once early (rule c now draining s) s [] g few (rule_applies c now draining s) (tt, tt) in
            rw (loop-end (others c now draining) f b s e) (rw (append-nil t.records) at o)
        go false e few ih =
            rw (loop-on (others c now draining) f b s e)
            (obey-once early (rule c now draining s) s _ g few (rule_applies c now draining s) ih)

    dropped-numbers : (k : ℕ) (s : Sender) (rs : List Action) → sent_numbers ((dropped c now k s).records ++ rs) ≡ sent_numbers rs
    unfolding dropped drop_record sent_numbers
    dropped-numbers zero s rs = refl
    dropped-numbers (suc k) s rs = refl

    split-once : now < 2 ^ 48 → (p : ℕ) (s : Sender) → Kept c s → Distinct (sent_numbers (split c now draining p s).records)
    unfolding split sweep sent_numbers Once
    split-once early zero s g = tt
    split-once early (suc p) s g =
        let k : ℕ = late c now s.packets in
        let w : Sender = (dropped c now k s).after in
        rw (dropped-numbers k s)
        (turns-once early (suc p) (suc p) w (dropped-kept c now draining early k s (late-le c now s.packets) g)).1

    -- no packet is sent twice in a run, except by the flush
    pub run-once : now < 2 ^ 48 → (p : ℕ) (s : Sender) → Kept c s → Distinct (sent_numbers (run c now draining p s).records)
    run-once early p s g = rw run_is (split-once early p s g)
