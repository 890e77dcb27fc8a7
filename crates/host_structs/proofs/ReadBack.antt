-- Reading back a sender that was written as numbers gives that sender; writing one that was read from numbers that keep
-- the book rules gives those numbers.
--   flushed-back, next-back, mode-back, read-back   a sender is read back from its numbers
--   held_kept, next-kept, mode-kept, kept_back      numbers that keep the book rules are those of the sender they encode
--   NextSame, ModeSame                              the same for next and for the mode, field by field
use Rattle.std.specs.Prelude.{◌≡◌, refl, Bool, true, false, ◌&&◌, cond, List, ℕ, eqb, length, Option, Some, None}
use Rattle.std.proofs.Common.{sym, eqb-true}
use Rattle.std.proofs.Math.Bool.{and-eq-true_iff}
use Rattle.rules_pacing.specs.declared.LiveBandwidthMode.{LiveBandwidthMode}
use Rattle.rules_pacing.specs.declared.LiveBandwidthMode.TheVariants.{Input, Estimated, Max, Unlimited}
use Rattle.rules_pacing.specs.Kept as Pacing
use Rattle.rules_pacing.specs.Kept.{next_in_range}
use Rattle.rules_pacing.specs.Period.{mode_in_range}
use Rattle.rules.specs.Settings.{Settings}
use Rattle.buffer.specs.State.{state, settings_of, flushed_packet}
use Rattle.book_rules.specs.Kept as Buffer
use Rattle.book_rules.specs.Kept.{flushed_kept, numbers_kept, areas_kept}
use Rattle.book_rules.specs.Kept.Laws.{numbers_facts}
use Rattle.sender.specs.declared.Sender.{Sender}
use Rattle.sender.specs.SenderAndAreas.{books, kept}
use Rattle.host_structs.specs.declared.senders.HeldPacket.{HeldPacket}
use Rattle.host_structs.specs.declared.senders.FlatSender.{FlatSender}
use Rattle.host_structs.specs.Senders.{no_packet, flushed_of, held_from, next_of, begun_from, time_from, mode_of, code_from, rate_from, overhead_from, sender_of, flat_from}
use Rattle.buffer.specs.declared.FlushedPacket.{FlushedPacket}

-- ## What is written is read back

pub flushed-back : (f : Option FlushedPacket) → flushed_of (held_from f) ≡ f
unfolding flushed_of
flushed-back None = refl
flushed-back (Some p) = refl

pub next-back : (n : Option ℕ) → next_of (begun_from n) (time_from n) ≡ n
unfolding next_of
next-back None = refl
next-back (Some t) = refl

pub mode-back : (m : LiveBandwidthMode) → mode_of (code_from m) (rate_from m) (overhead_from m) ≡ m
unfolding mode_of
mode-back (Input r o) = refl
mode-back (Estimated r o) = refl
mode-back (Max r) = refl
mode-back Unlimited = refl

pub read_back : (s : Sender) → sender_of (flat_from s) ≡ s
unfolding sender_of flat_from
read_back s = rw (flushed-back s.buffer.flushed, next-back s.pacing.next, mode-back s.pacing.bandwidth_mode)

-- ## Kept numbers are written as they were

-- the first of two tests that hold
left : (a b : Bool) → (a && b) ≡ true → a ≡ true
left a b e = ((and-eq-true_iff a b).0 e).0

right : (a b : Bool) → (a && b) ≡ true → b ≡ true
right a b e = ((and-eq-true_iff a b).0 e).1

pub held_kept : (c : Settings) (h : HeldPacket) → flushed_kept c (flushed_of h) ≡ true → held_from (flushed_of h) ≡ h
unfolding flushed_of
held_kept c h = go (eqb h.held 1) refl (eqb h.held 0 && eqb h.number 0 && eqb h.slot 0 && eqb h.len 0) refl
  where
    go : (a : Bool) → eqb h.held 1 ≡ a → (b : Bool) → (eqb h.held 0 && eqb h.number 0 && eqb h.slot 0 && eqb h.len 0) ≡ b
        → flushed_kept c (cond a (Some (flushed_packet (record { 0 = h.number }) h.slot h.len)) (cond b None no_packet)) ≡ true
        → held_from (cond a (Some (flushed_packet (record { 0 = h.number }) h.slot h.len)) (cond b None no_packet)) ≡ h
    go true e b d k = rw (eqb-true h.held 1 e)
    go false e true d k =
        let three = left (eqb h.held 0 && eqb h.number 0 && eqb h.slot 0) (eqb h.len 0) d in
        let two = left (eqb h.held 0 && eqb h.number 0) (eqb h.slot 0) three in
        rw (
          eqb-true h.held 0 (left (eqb h.held 0) (eqb h.number 0) two),
          eqb-true h.number 0 (right (eqb h.held 0) (eqb h.number 0) two),
          eqb-true h.slot 0 (right (eqb h.held 0 && eqb h.number 0) (eqb h.slot 0) three),
          eqb-true h.len 0 (right (eqb h.held 0 && eqb h.number 0 && eqb h.slot 0) (eqb h.len 0) d),
        )
    go false e false d k = cc

pub record NextSame (begun next : ℕ) (n : Option ℕ) : Type 0 where
  pub begun-is : begun_from n ≡ begun
  pub time-is : time_from n ≡ next

pub next-kept : (begun next : ℕ) → next_in_range (next_of begun next) ≡ true → NextSame begun next (next_of begun next)
unfolding next_of
next-kept begun next = go (eqb begun 1) refl (eqb begun 0 && eqb next 0) refl
  where
    go : (a : Bool) → eqb begun 1 ≡ a → (b : Bool) → (eqb begun 0 && eqb next 0) ≡ b → next_in_range (cond a (Some next) (cond b None (Some 0xffff_ffff_ffff_ffff))) ≡ true
        → NextSame begun next (cond a (Some next) (cond b None (Some 0xffff_ffff_ffff_ffff)))
    go true e b d k = record { begun-is = sym (eqb-true begun 1 e); time-is = refl }
    go false e true d k = record {
      begun-is = sym (eqb-true begun 0 (left (eqb begun 0) (eqb next 0) d));
      time-is = sym (eqb-true next 0 (right (eqb begun 0) (eqb next 0) d));
    }
    go false e false d k = record { begun-is = cc; time-is = cc }

pub record ModeSame (mode rate overhead : ℕ) (m : LiveBandwidthMode) : Type 0 where
  pub code_is : code_from m ≡ mode
  pub rate-is : rate_from m ≡ rate
  pub overhead-is : overhead_from m ≡ overhead

pub mode-kept : (mode rate overhead : ℕ) → mode_in_range (mode_of mode rate overhead) ≡ true → ModeSame mode rate overhead (mode_of mode rate overhead)
unfolding mode_of
mode-kept mode rate overhead =
    go (eqb mode 0) refl (eqb mode 1) refl (eqb mode 2 && eqb overhead 0) refl (eqb mode 3 && eqb rate 0 && eqb overhead 0) refl
  where
    go : (a : Bool) → eqb mode 0 ≡ a → (b : Bool) → eqb mode 1 ≡ b → (d : Bool) → (eqb mode 2 && eqb overhead 0) ≡ d
        → (e : Bool) → (eqb mode 3 && eqb rate 0 && eqb overhead 0) ≡ e
        → mode_in_range (cond a (Input rate overhead) (cond b (Estimated rate overhead) (cond d (Max rate) (cond e Unlimited (Max 0xffff_ffff_ffff_ffff))))) ≡ true
        → ModeSame mode rate overhead (cond a (Input rate overhead) (cond b (Estimated rate overhead) (cond d (Max rate) (cond e Unlimited (Max 0xffff_ffff_ffff_ffff)))))
    go true p b q d r e s k = record { code_is = sym (eqb-true mode 0 p); rate-is = refl; overhead-is = refl }
    go false p true q d r e s k = record { code_is = sym (eqb-true mode 1 q); rate-is = refl; overhead-is = refl }
    go false p false q true r e s k = record {
      code_is = sym (eqb-true mode 2 (left (eqb mode 2) (eqb overhead 0) r));
      rate-is = refl;
      overhead-is = sym (eqb-true overhead 0 (right (eqb mode 2) (eqb overhead 0) r));
    }
    go false p false q false r true s k =
        let two = left (eqb mode 3 && eqb rate 0) (eqb overhead 0) s in
        record {
          code_is = sym (eqb-true mode 3 (left (eqb mode 3) (eqb rate 0) two));
          rate-is = sym (eqb-true rate 0 (right (eqb mode 3) (eqb rate 0) two));
          overhead-is = sym (eqb-true overhead 0 (right (eqb mode 3 && eqb rate 0) (eqb overhead 0) s));
        }
    go false p false q false r false s k = record { code_is = cc; rate-is = cc; overhead-is = cc }

pub kept_back : (f : FlatSender) (ring lost : List ℕ) → kept (books (sender_of f) ring lost) ≡ true → flat_from (sender_of f) ≡ f
unfolding sender_of flat_from kept Buffer.kept Pacing.kept
kept_back f ring lost e =
    let s = sender_of f in
    let c = settings_of s.settings in
    let b = s.buffer in
    let both = (and-eq-true_iff (Buffer.kept c (state b ring lost)) (Pacing.kept s.pacing)).0 e in
    let numbers = numbers_facts c b (left (numbers_kept c b) (areas_kept c b (length ring) (length lost)) (left (numbers_kept c b && areas_kept c b (length ring) (length lost)) _ both.0)) in
    let pace = (and-eq-true_iff _ (mode_in_range s.pacing.bandwidth_mode)).0 both.1 in
    let n = next-kept f.pacing.begun f.pacing.next (left (next_in_range s.pacing.next) _ (left _ _ pace.0)) in
    let m = mode-kept f.pacing.mode f.pacing.rate f.pacing.overhead pace.1 in
    rw (held_kept c f.books.held numbers.flushed, n.begun-is, n.time-is, m.code_is, m.rate-is, m.overhead-is)
