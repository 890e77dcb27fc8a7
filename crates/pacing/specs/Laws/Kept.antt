-- What pacing and the layers above use of the book rules.
--   Kept s, NextRanged       the book rules as facts; next's
--   kept_facts, facts_kept   the test decides the facts, both ways
--   fresh_kept               new pacing keeps the rules
use Rattle.std.specs.Prelude.{◌≡◌, refl, true, ◌&&◌, ◌^◌, ◌<◌, Option, Some, None, ℕ}
use Rattle.std.proofs.Math.Bool.{and-eq-true_iff}
use Prim.{Unit}
use Rattle.std.proofs.Common.{ltb-true, lt-ltb}
use Rattle.rules_pacing.specs.declared.LiveBandwidthMode.{LiveBandwidthMode}
use Rattle.rules_pacing.specs.declared.SenderCongestionControl.{SenderCongestionControl}
use Rattle.rules_pacing.specs.Rate.{in_range}
use Rattle.rate.specs.Laws.{Ranged, in_range-ranged, ranged-in_range}
use Rattle.rules_pacing.specs.Period.{mode_in_range}
use Rattle.pacing.specs.Laws.Period.{ModeRanged, mode_in_range-ranged, ranged-mode_in_range}
use Rattle.rules_pacing.specs.Kept.{next_in_range, kept, fresh}

abbrev pub NextRanged : Option ℕ → Type 0
NextRanged None = Unit
NextRanged (Some next) = next < 2 ^ 49

pub record Kept (s : SenderCongestionControl) : Type 0 where
  pub next : NextRanged s.next
  pub packets : Ranged s.packets
  pub bytes : Ranged s.bytes
  pub mode : ModeRanged s.bandwidth_mode

next_in_range-ranged : (n : Option ℕ) → next_in_range n ≡ true → NextRanged n
next_in_range-ranged None h = tt
next_in_range-ranged (Some next) h = ltb-true _ _ h

ranged-next_in_range : (n : Option ℕ) → NextRanged n → next_in_range n ≡ true
ranged-next_in_range None h = refl
ranged-next_in_range (Some next) h = lt-ltb _ _ h

pub kept_facts : (s : SenderCongestionControl) → kept s ≡ true → Kept s
unfolding kept
kept_facts s h =
    let n = next_in_range s.next in
    let p = in_range s.packets in
    let b = in_range s.bytes in
    let all = (and-eq-true_iff (n && p && b) (mode_in_range s.bandwidth_mode)).0 h in
    let three = (and-eq-true_iff (n && p) b).0 all.0 in
    let two = (and-eq-true_iff n p).0 three.0 in
    record {
      next = next_in_range-ranged s.next two.0;
      packets = in_range-ranged s.packets two.1;
      bytes = in_range-ranged s.bytes three.1;
      mode = mode_in_range-ranged s.bandwidth_mode all.1;
    }

pub facts_kept : (s : SenderCongestionControl) → Kept s → kept s ≡ true
unfolding kept
facts_kept s h =
    rw (
      ranged-next_in_range s.next h.next,
      ranged-in_range s.packets h.packets,
      ranged-in_range s.bytes h.bytes,
      ranged-mode_in_range s.bandwidth_mode h.mode,
    )

pub fresh_kept : (m : LiveBandwidthMode) → mode_in_range m ≡ true → kept (fresh m) ≡ true
unfolding kept
fresh_kept m h = h
