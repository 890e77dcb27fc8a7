-- When a run sends nothing: what follows from the earliest resend time, and which rule applies if nothing is to be
-- sent.
use Rattle.std.specs.Prelude.{Option, None, Some}
use mathlib.Core.Path.{◌≡◌, refl}
use mathlib.Core.Bool.{Bool, false, true}
use mathlib.Core.List.{List, [], ◌∷◌}
use mathlib.Core.Logic.{◌↔◌, ◌⊎◌, inl, inr}
use Prim.Native.Nat.{◌+◌, ◌-◌, ◌<◌, ◌≤◌, suc, zero, ℕ}
use native.Mathlib.Omega.{arith}
use lib.Dec.{ltb}
use lib.ListN.{get_or, length, length-take, take}
use lib.Seq.{get_or-take}
use borrow.Author.Tests.{ltb-false, ltb-true}
use Rattle.rules_theorems.specs.Demands.{Quiet}
use Rattle.rules.specs.Records.{Send, send_record, sends, wait_ack, wait_input}
use Rattle.rules.specs.Run.{Rule, due, earliest, flush, input, late, loss, obey, or_here, others, rule, send, unsent, window}
use Rattle.rules.specs.Sender.{Packet, Sender, nothing, packet, sent_of}
use Rattle.rules.specs.Settings.{Settings}
use Rattle.rules_theorems.specs.Laws.BookRules.{Good}
use Rattle.rules_theorems.specs.Laws.Run.{Applies, Paid, is_due, one, split, stop, sweep, turns, two}
use Rattle.rules_theorems.proofs.Frame.{dropped-good, late-le, rule_applies}
use Rattle.rules_theorems.proofs.Sends.{dropped-none, extra-some, sends-append, turn-paid, turns-end, turns-on}

neither : {a b : ℕ} {X : Type 0} → (a < b) ⊎ X → b ≤ a → ¬ X → ⊥
neither (inl u) h k = omega arith
neither (inr x) h k = k x

-- the packet at index i has the earliest resend time before now
abbrev Found : ℕ → List Packet → ℕ → Type 0
Found now ps i = (i < length ps) × ((get_or ps i nothing).resend < now)

pub earliest-some : (now n : ℕ) (ps : List Packet) (m : ℕ) → earliest now n ps ≡ Some m → (i : ℕ) × (m ≡ n + i) × Found now ps i
unfolding earliest or_here
earliest-some now n [] m e = let z : ◌≡◌ {A = ℕ} 0 1 = cc in absurd (omega arith)
earliest-some now n (p ∷ ps) m e =
    go (ltb p.resend now) refl (earliest p.resend (suc n) ps) refl (λ k. earliest-some p.resend (suc n) ps k)
    (λ k. earliest-some now (suc n) ps k)
  where
    go : (b : Bool) → ltb p.resend now ≡ b → (o : Option ℕ) → earliest p.resend (suc n) ps ≡ o
        → ((k : ℕ) → earliest p.resend (suc n) ps ≡ Some k → (i : ℕ) × (k ≡ suc n + i) × Found p.resend ps i)
        → ((k : ℕ) → earliest now (suc n) ps ≡ Some k → (i : ℕ) × (k ≡ suc n + i) × Found now ps i)
        → (i : ℕ) × (m ≡ n + i) × Found now (p ∷ ps) i
    go true f None g h k =
        let q : Some n ≡ Some m = rw (f, g, earliest) at e in let r : m ≡ n = cc in (0, (omega arith), (omega arith, ltb-true _ _ f))
    go true f (Some j) g h k =
        let q : Some j ≡ Some m = rw (f, g, earliest) at e in
        let r : j ≡ m = cc in
        let x = h j g in
        (suc x.0, omega (arith, x.1), (omega (arith, x.2.0), omega (arith, x.2.1, ltb-true)))
    go false f o g h k =
        let x = k m (rw (f, earliest) at e) in
        (suc x.0, omega (arith, x.1), (omega (arith, x.2.0), x.2.1))

pub earliest-none : (now n : ℕ) (ps : List Packet) → earliest now n ps ≡ None → (i : ℕ) → i < length ps → now ≤ (get_or ps i nothing).resend
unfolding earliest or_here
earliest-none now n [] e i h = absurd (omega arith)
earliest-none now n (p ∷ ps) e i h =
    go (ltb p.resend now) refl (earliest p.resend (suc n) ps) refl i h (λ f. earliest-none now (suc n) ps f)
  where
    go : (b : Bool) → ltb p.resend now ≡ b → (o : Option ℕ) → earliest p.resend (suc n) ps ≡ o → (i : ℕ) → i < length (p ∷ ps)
        → (earliest now (suc n) ps ≡ None → (i : ℕ) → i < length ps → now ≤ (get_or ps i nothing).resend)
        → now ≤ (get_or (p ∷ ps) i nothing).resend
    go true f None g i h k = let q : Some n ≡ None = rw (f, g, earliest) at e in let z : ◌≡◌ {A = ℕ} 0 1 = cc in absurd (omega arith)
    go true f (Some j) g i h k = let q : Some j ≡ None = rw (f, g, earliest) at e in let z : ◌≡◌ {A = ℕ} 0 1 = cc in absurd (omega arith)
    go false f o g zero h k = ltb-false _ _ f
    go false f o g (suc i) h k = k (rw (f, earliest) at e) i (omega arith)

-- it is the earliest, and the first such: no other is earlier, and all nearer the front are later
pub earliest-least : (now n : ℕ) (ps : List Packet) (i : ℕ) → earliest now n ps ≡ Some (n + i)
    → (j : ℕ) → j < length ps
    → ((get_or ps i nothing).resend ≤ (get_or ps j nothing).resend) × (j < i → (get_or ps i nothing).resend < (get_or ps j nothing).resend)
unfolding earliest or_here
earliest-least now n [] i e j h = absurd (omega arith)
earliest-least now n (p ∷ ps) i e j h =
    go (ltb p.resend now) refl (earliest p.resend (suc n) ps) refl i e j h (λ i q j. earliest-least p.resend (suc n) ps i q j)
    (λ i q j. earliest-least now (suc n) ps i q j)
  where
    At : ℕ → List Packet → ℕ
    At i qs = (get_or qs i nothing).resend

    Least : List Packet → ℕ → ℕ → Type 0
    Least qs i j = (At i qs ≤ At j qs) × (j < i → At i qs < At j qs)

    -- the earliest comes later in the list, before a bound that is at most p's resend time
    past : (bound : ℕ) → bound ≤ p.resend → (m : ℕ) → earliest bound (suc n) ps ≡ Some m → (i : ℕ) → m ≡ n + i → (j : ℕ)
        → j < length (p ∷ ps)
        → ((i : ℕ) → earliest bound (suc n) ps ≡ Some (suc n + i) → (j : ℕ) → j < length ps → Least ps i j) → Least (p ∷ ps) i j
    past bound b m e i q j h k = at i q j h (earliest-some bound (suc n) ps m e)
      where
        at : (i : ℕ) → m ≡ n + i → (j : ℕ) → j < length (p ∷ ps) → (x : ℕ) × (m ≡ suc n + x) × Found bound ps x → Least (p ∷ ps) i j
        at zero q j h x = absurd (omega (arith, x.1))
        at (suc i) q zero h x =
            let y : x.0 ≡ i = omega (arith, x.1) in let z : At i ps < bound = rw y at x.2.1 in (omega arith, λ u. omega arith)
        at (suc i) q (suc j) h x =
            let y : m ≡ suc n + i = omega arith in let z = k i (rw y at e) j (omega arith) in (z.0, λ u. z.1 (omega arith))

    go : (b : Bool) → ltb p.resend now ≡ b → (o : Option ℕ) → earliest p.resend (suc n) ps ≡ o → (i : ℕ)
        → earliest now n (p ∷ ps) ≡ Some (n + i) → (j : ℕ) → j < length (p ∷ ps)
        → ((i : ℕ) → earliest p.resend (suc n) ps ≡ Some (suc n + i) → (j : ℕ) → j < length ps → Least ps i j)
        → ((i : ℕ) → earliest now (suc n) ps ≡ Some (suc n + i) → (j : ℕ) → j < length ps → Least ps i j)
        → Least (p ∷ ps) i j
    go true f None g zero e zero h k l = (omega arith, λ z. absurd (omega arith))
    go true f None g zero e (suc j) h k l = (earliest-none p.resend (suc n) ps g j (omega arith), λ z. absurd (omega arith))
    go true f None g (suc i) e j h k l =
        let q : Some n ≡ Some (n + suc i) = rw (f, g, earliest) at e in let r : n ≡ n + suc i = cc in absurd (omega arith)
    go true f (Some m) g i e j h k l =
        let q : Some m ≡ Some (n + i) = rw (f, g, earliest) at e in past p.resend (omega arith) m g i (cc) j h k
    go false f o g i e j h k l = past now (ltb-false _ _ f) (n + i) (rw (f, earliest) at e) i refl j h l

module _ (c : Settings) (now : ℕ) (draining : Bool) where
  -- what `is_due` says of the state
  pub due-none : (s : Sender) → Good s → is_due c now draining s ≡ None → (n : ℕ) → s.front ≤ n → n < s.next → now ≤ (packet s n).resend
  unfolding packet
  due-none s g e n h k =
      let a : n - s.front < sent_of s = omega arith in
      let b : n - s.front < length (take (sent_of s) s.packets) = simp length-take (omega arith) in
      rw get_or-take at (earliest-none now s.front (take (sent_of s) s.packets) e (n - s.front) b)

  pub due-some : (s : Sender) → Good s → (n : ℕ) → is_due c now draining s ≡ Some n
      → (s.front ≤ n) × (n < s.next) × ((packet s n).resend < now)
  unfolding packet
  due-some s g n e =
      let x = earliest-some now s.front (take (sent_of s) s.packets) n e in
      let l : x.0 < sent_of s = omega (arith, simp length-take at x.2.0) in
      let d : n - s.front ≡ x.0 = omega (arith, x.1) in
      (omega (arith, x.1), omega (arith, x.1), rw d (rw get_or-take at x.2.1))

  -- the rule that applies if nothing is to be sent, and conversely
  stops : (r : Rule) (s : Sender) → Good s → Applies c now draining r s
      → (sends (obey c now draining r s).records ≡ 0) ↔ Quiet c now draining s
  unfolding obey send send_record wait_ack wait_input
  stops (loss x xs) s g a = (λ e. absurd (omega arith), λ q. let z : ◌≡◌ {A = ℕ} 0 1 = cc in absurd (omega arith))
  stops (due n) s g a = (λ e. absurd (omega arith), λ q. let d = due-some s g n a.1 in absurd (omega (arith, d, q.due n d.0 d.1)))
  stops window s g a = (λ e. record { lost = a.0; due = due-none s g a.1; unsent = inl a.2 }, λ q. refl)
  stops unsent s g a = (
    λ e. absurd (omega (
      arith,
      extra-some c now draining
          (send c now draining Send s.next (suc s.next) s.lost s) _ refl refl,
    )),
    λ q. absurd
        (neither q.unsent a.2 (λ u. omega (arith, u.0))),
  )
  stops flush s g a = (λ e. absurd (omega arith), λ q. absurd (neither q.unsent a.2 (λ u. u.1 (a.4, a.5))))
  stops input s g a = (λ e. record { lost = a.0; due = due-none s g a.1; unsent = inr (omega arith, a.4) }, λ q. refl)

  once : (f b : ℕ) (s : Sender)
      → (sends (turns c now draining (suc f) (suc b) s).records ≡ 0) ↔ (sends (others c now draining s).records ≡ 0)
  once f b s = go (turn-paid c now draining s)
    where
      go : Paid (others c now draining s)
          → (sends (turns c now draining (suc f) (suc b) s).records ≡ 0) ↔ (sends (others c now draining s).records ≡ 0)
      go (stop e z l) = rw (turns-end c now draining f b s e) (λ h. h, λ h. h)
      go (one e z l) = rw (turns-on c now draining f b s e, sends-append) (λ h. omega arith, λ h. absurd (omega arith))
      go (two x y e q i j d) =
          let z : sends (others c now draining s).records
          ≡ 2 = rw q (omega arith) in rw (turns-on c now draining f b s e, sends-append) (λ h. omega arith, λ h. absurd (omega arith))

  -- for p ≥ 1 a run sends none exactly if, after the late drop, nothing is to be sent
  pub split-quiet : (p : ℕ) (s : Sender) → Good s
      → (sends (split c now draining (suc p) s).records ≡ 0) ↔ Quiet c now draining (sweep c now s).after
  unfolding split sweep others
  split-quiet p s g =
      let w : Sender = (sweep c now s).after in
      let h = once p p w in
      let k = stops (rule c now draining w) w (dropped-good c now (late c now s.packets) s (late-le c now s.packets) g)
      (rule_applies c now draining w) in
      rw (sends-append, dropped-none c now draining (late c now s.packets) s)
      (λ e. k.0 (h.0 (omega arith)), λ q. omega (arith, h.1 (k.1 q)))
