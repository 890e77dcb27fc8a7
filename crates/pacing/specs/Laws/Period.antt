-- What pacing and the layers above use of the period.
--   ModeRanged m                                 the ranges of a mode's rates and overhead, as facts
--   period-held                                  the period lies between 1 and 10^12
--   mode_in_range-ranged, ranged-mode_in_range   the test decides the facts, both ways
use Rattle.std.specs.Prelude.{◌≡◌, refl, true, ◌&&◌, ◌||◌, ℕ, ◌*◌, ◌/◌, ◌^◌, ◌≤◌, min, max, leb, eqb}
use Rattle.std.proofs.Math.Bool.{and-eq-true_iff}
use Prim.{Unit}
use Rattle.std.proofs.Common.{arith, leb-true, le-leb}
use Rattle.laws.specs.Choice.{cond-by}
use Rattle.rules_pacing.specs.declared.LiveBandwidthMode.{LiveBandwidthMode}
use Rattle.rules_pacing.specs.declared.LiveBandwidthMode.TheVariants.{Input, Estimated, Max, Unlimited}
use Rattle.rules_pacing.specs.Period.{period, mode_in_range}

pub period-held : (allowed bytes packets : ℕ) → (1 ≤ period allowed bytes packets) × (period allowed bytes packets ≤ 10 ^ 12)
unfolding period
period-held allowed bytes packets =
    cond-by (λ (n : ℕ). (1 ≤ n) × (n ≤ 10 ^ 12)) (eqb packets 0 || eqb allowed 0) 1
    (max 1 (min (10 ^ 12) (1_000_000 * (bytes / packets) / allowed))) (λ _. omega arith) (λ _. omega arith)

abbrev pub ModeRanged : LiveBandwidthMode → Type 0
ModeRanged (Input rate overhead) = (rate ≤ 2 ^ 40) × (overhead ≤ 10_000)
ModeRanged (Estimated expected overhead) = (expected ≤ 2 ^ 40) × (overhead ≤ 10_000)
ModeRanged (Max rate) = rate ≤ 2 ^ 40
ModeRanged Unlimited = Unit

both : (rate overhead : ℕ) → leb rate (2 ^ 40) && leb overhead 10_000 ≡ true → (rate ≤ 2 ^ 40) × (overhead ≤ 10_000)
both rate overhead h =
    let parts = (and-eq-true_iff (leb rate (2 ^ 40)) (leb overhead 10_000)).0 h in
    (leb-true _ _ parts.0, leb-true _ _ parts.1)

pub mode_in_range-ranged : (m : LiveBandwidthMode) → mode_in_range m ≡ true → ModeRanged m
mode_in_range-ranged (Input rate overhead) h = both rate overhead h
mode_in_range-ranged (Estimated expected overhead) h = both expected overhead h
mode_in_range-ranged (Max rate) h = leb-true _ _ h
mode_in_range-ranged Unlimited h = tt

pub ranged-mode_in_range : (m : LiveBandwidthMode) → ModeRanged m → mode_in_range m ≡ true
ranged-mode_in_range (Input rate overhead) h = simp (le-leb _ _ h.0, le-leb _ _ h.1)
ranged-mode_in_range (Estimated expected overhead) h = simp (le-leb _ _ h.0, le-leb _ _ h.1)
ranged-mode_in_range (Max rate) h = le-leb _ _ h
ranged-mode_in_range Unlimited h = refl
