-- Where a payload lies. Document 01, "Numbers and their ends": "the k-th packet ever pushed (from 0) lies at (k mod
-- capacity) × packet size".
--   slot-push   the slot of packet i from the front, or of the next one pushed, is given by its push
use Rattle.std.specs.Prelude.{◌≡◌, ℕ, ◌+◌, ◌-◌, ◌*◌, ◌%◌, ◌≤◌, ltb}
use Rattle.std.proofs.Common.{sym, ap, ◌∙◌, mod-eq_of_lt, arith, ltb-true, ltb-false}
use Rattle.std.proofs.Math.Nat.{mod-eq-sub-mod, mul-add-mod_self_right}
use Rattle.laws.specs.Choice.{cond-by}
use Rattle.ring.specs.Ring.{slot_of}
use Rattle.rules.specs.Settings.{Settings, capacity}
use Rattle.rules.specs.Sender.{Sender, push_of}
use Rattle.buffer.specs.State.{State}
use Rattle.buffer.specs.State.Reports.{packets-is}
use Rattle.buffer.specs.State.Stands.{Stands}

pub slot-push : {c : Settings} {st : State} {s : Sender} → Stands c st s → (i : ℕ) → i ≤ st.books.ring.len
    → slot_of st.books.ring i ≡ push_of s (s.front + i) % capacity c
unfolding slot_of
slot-push {c} {st} {s} S i h =
    let r = st.books.ring in
    let p = S.placed in
    let pushes : push_of s (s.front + i) ≡ S.turns * capacity c + (r.slot + i) = omega (arith, S.pushed, packets-is S, h) in
    let is : push_of s (s.front + i) % capacity c ≡ (r.slot + i) % r.cap =
    ap (λ (m : ℕ). m % capacity c) pushes ∙ mul-add-mod_self_right S.turns (capacity c) (r.slot + i)
    ∙ ap (λ (m : ℕ). (r.slot + i) % m) (sym S.cap) in
    cond-by (λ (x : ℕ). x ≡ push_of s (s.front + i) % capacity c) (ltb (r.slot + i) r.cap) (r.slot + i) (r.slot + i - r.cap)
    (λ q. sym (is ∙ mod-eq_of_lt (ltb-true _ _ q)))
    (λ q. sym (is ∙ mod-eq-sub-mod (ltb-false _ _ q) ∙ mod-eq_of_lt (omega (arith, p.slot, p.len, h))))
