-- All that a layer above may know of `plus` and `dist`: each law once, over the number m of numbers. None says how a distance is worked out.
--   plus-is, plus_wrap      the sum modulo m; the number after the last is 0
--   dist-below              a distance is below m
--   dist-mod                a word that is no number, m or more, lies where its remainder lies
--   dist-plus, plus-dist    the number k further lies k after; and the number that lies dist a b after a is b
-- That nothing else is the distance follows from these: proofs/Unique.
use Rattle.std.specs.Prelude.{◌≡◌, refl, ℕ, ◌+◌, ◌-◌, ◌%◌, ◌<◌}
use Rattle.std.proofs.Common.{sym, ap, ◌∙◌, zero-le, mod-lt, mod-eq_of_lt, add_assoc, add_comm, add-zero, add-sub_of_le, le_of_lt, lt_of_le_of_lt}
use Rattle.std.proofs.Math.Nat.{mod_self, mod-add-mod, add-mod-mod}
use Rattle.rules_numbers.specs.Modular.{plus, dist}

pub plus-is : (m a k : ℕ) → plus m a k ≡ (a + k) % m
unfolding plus
plus-is m a k = refl

pub plus_wrap : (m a : ℕ) → a + 1 ≡ m → plus m a 1 ≡ 0
unfolding plus
plus_wrap m a e = ap (λ (n : ℕ). n % m) e ∙ mod_self m

pub dist-below : (m a b : ℕ) → 0 < m → dist m a b < m
unfolding dist
dist-below m a b h = mod-lt (b + (m - a % m)) h

pub dist-mod : (m a b : ℕ) → dist m a (b % m) ≡ dist m a b
unfolding dist
dist-mod m a b = mod-add-mod b m (m - a % m)

-- a and what is left up to m make a whole round
round : (m a k : ℕ) → 0 < m → (a + k + (m - a % m)) % m ≡ k % m
round m a k h =
    ap (λ (n : ℕ). (n + (m - a % m)) % m) (add_comm a k)
    ∙ ap (λ (n : ℕ). n % m) (add_assoc k a (m - a % m))
    ∙ sym (add-mod-mod k (a + (m - a % m)) m)
    ∙ ap (λ (n : ℕ). (k + n) % m)
    (sym (mod-add-mod a m (m - a % m)) ∙ ap (λ (n : ℕ). n % m) (add-sub_of_le (le_of_lt (mod-lt a h))) ∙ mod_self m)
    ∙ ap (λ (n : ℕ). n % m) (add-zero k)

pub dist-plus : (m a k : ℕ) → k < m → dist m a (plus m a k) ≡ k
unfolding plus dist
dist-plus m a k h = mod-add-mod (a + k) m (m - a % m) ∙ round m a k (lt_of_le_of_lt zero-le h) ∙ mod-eq_of_lt h

pub plus-dist : (m a b : ℕ) → b < m → plus m a (dist m a b) ≡ b
unfolding plus dist
plus-dist m a b h =
    add-mod-mod a (b + (m - a % m)) m
    ∙ ap (λ (n : ℕ). n % m) (sym (add_assoc a b (m - a % m)))
    ∙ round m a b (lt_of_le_of_lt zero-le h)
    ∙ mod-eq_of_lt h
