-- Worked examples of the two kinds of number, so that a wrong definition is refused: document 01, "A sequence number is 31 bits, a message
-- number 26 .. Each counts up and wraps to 0."
use Rattle.std.specs.Prelude.{◌≡◌, refl}
use Rattle.rules_numbers.specs.Modular.{seqs, msgs, plus, dist}

pub record Examples : Type 0 where
  pub last-number : plus seqs 2_147_483_647 1 ≡ 0
  pub other-number : plus seqs 67_108_863 1 ≡ 67_108_864
  pub last-message : plus msgs 67_108_863 1 ≡ 0
  -- from 2^31 − 2 to 3, across the wrap, and back
  pub across : dist seqs 2_147_483_646 3 ≡ 5
  pub back : dist seqs 3 2_147_483_646 ≡ 2_147_483_643

pub examples : Examples
unfolding plus dist
examples = record { last-number = refl; other-number = refl; last-message = refl; across = refl; back = refl }
