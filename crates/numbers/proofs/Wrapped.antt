-- What the code computes, for both kinds of number: it wraps at a word of w, a multiple of m, and then takes the
-- remainder by m.
--   plus_wrapped, dist_wrapped   the sum and the difference so computed are `plus` and `dist`
use Rattle.std.proofs.Common.{◌≡◌, ℕ, ◌+◌, ◌-◌, ◌%◌, ◌<◌, ◌≤◌, sym, ap, ◌∙◌, arith, mod-lt, add-zero}
use native.Mathlib.Nat.{add-mod-mod, mod-mod_of_dvd, dvd_of_mod-eq-zero}
use Rattle.rules_numbers.specs.Modular.{plus, dist}
use Rattle.rules_numbers.specs.Modular.Laws.{plus-is, dist-mod}
use Rattle.rules_numbers.proofs.Unique.{dist_unique}

-- a remainder by w before the one by m changes nothing
cut : (m w n : ℕ) → w % m ≡ 0 → n % w % m ≡ n % m
cut m w n d = mod-mod_of_dvd m n (dvd_of_mod-eq-zero m d)

pub plus_wrapped : (m w a k : ℕ) → w % m ≡ 0 → (a + k) % w % m ≡ plus m a k
plus_wrapped m w a k d = cut m w (a + k) d ∙ sym (plus-is m a k)

pub dist_wrapped : (m w a b : ℕ) → 0 < m → w % m ≡ 0 → a ≤ w → (b + (w - a)) % w % m ≡ dist m a b
dist_wrapped m w a b pos d h =
    cut m w back d ∙ sym (sym (dist-mod m a b) ∙ dist_unique m a (b % m) (back % m) (mod-lt back pos) leads)
  where
    back : ℕ
    back = b + (w - a)

    leads : plus m a (back % m) ≡ b % m
    leads =
        let whole : a + back ≡ b + w = omega arith in
        plus-is m a (back % m)
        ∙ add-mod-mod a back m
        ∙ ap (λ (n : ℕ). n % m) whole
        ∙ sym (add-mod-mod b w m)
        ∙ ap (λ (n : ℕ). (b + n) % m) d
        ∙ ap (λ (n : ℕ). n % m) (add-zero b)
