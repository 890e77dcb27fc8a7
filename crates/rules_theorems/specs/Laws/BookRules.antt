-- The book rules as facts; `kept` decides them, both ways.
--   All, Good                      the rules of every packet; of the front, next unsent and the loss list
--   Sent, Unsent, HeldIn           the rules of a sent packet, of an unsent one, of a flushed one
--   Fields, Kept c s               the fields that don't depend on the packets; all rules
--   ascends_facts, facts_ascends   `ascends` decides the order of a list
--   kept_facts, facts_kept         `kept c s` is true exactly where the rules hold
use Rattle.std.specs.Prelude.{◌≡◌, Bool, ◌&&◌, false, true, ◌<◌, ◌^◌, ◌≤◌, suc, zero, ℕ, leb, ltb, drop, get_or, length, take, Option, Some, None}
use Rattle.std.proofs.Math.Path.{refl}
use mathlib.Core.List.{List, [], ◌∷◌}
use Rattle.std.proofs.Common.{eq-eqb, eqb-true, le-leb, leb-true, lt-ltb, ltb-true}
use Rattle.laws.specs.Ascending.{Ascends}
use Rattle.laws.specs.Bools.{and_l, and_r, and_both}
use Rattle.rules_numbers.specs.declared.Rtt.{Rtt}
use Rattle.rules_pacing.specs.declared.SenderCongestionControl.{SenderCongestionControl}
use Rattle.rules.specs.BookRules.{all, ascends, every, held_is_kept, kept, sent_kept, unsent_kept}
use Rattle.rules.specs.Sender.{Held, Packet, Sender, end, sent_of, wire_sizes}
use Rattle.rules.specs.Settings.{Settings, capacity, in_range}
use Rattle.rules_pacing.specs.Kept as Pacing
use Rattle.rules_numbers.specs.Rtt as RttOf

pub record Good (s : Sender) : Type 0 where
  pub low : s.front ≤ s.next
  pub high : s.next ≤ end s
  pub lost : Ascends s.front s.next s.lost

abbrev pub All : (Packet → Type 0) → List Packet → Type 0
All P [] = Unit {0}
All P (p ∷ ps) = P p × All P ps

pub record Sent (c : Settings) (p : Packet) : Type 0 where
  pub time : p.time < 2 ^ 48
  pub message : p.message < 2 ^ 26
  pub len : p.len ≤ c.size
  pub once : 1 ≤ p.count
  pub most : p.count ≤ 65_535
  pub resend : p.resend < 2 ^ 49

pub record Unsent (c : Settings) (p : Packet) : Type 0 where
  pub time : p.time < 2 ^ 48
  pub message : p.message < 2 ^ 26
  pub len : p.len ≤ c.size
  pub never : p.count ≡ 0
  pub unset : p.resend ≡ 0

abbrev pub HeldIn : Settings → Option Held → Type 0
HeldIn c None = Unit {0}
HeldIn c (Some h) = (h.slot < capacity c) × (h.len ≤ c.size)

-- the fields that don't depend on the packets
pub record Fields (c : Settings) (r : Rtt) (m e : ℕ) (h : Option Held) (p : SenderCongestionControl) : Type 0 where
  pub settings : in_range c ≡ true
  pub rtt : RttOf.in_range r ≡ true
  pub messages : m < 2 ^ 26
  pub least : 1 ≤ e
  pub most : e ≤ 2 ^ 32
  pub held : HeldIn c h
  pub pacing : Pacing.kept p ≡ true

pub record Kept (c : Settings) (s : Sender) : Type 0 where
  pub good : Good s
  pub fits : length s.packets ≤ capacity c
  pub old : All (Sent c) (take (sent_of s) s.packets)
  pub new : All (Unsent c) (drop (sent_of s) s.packets)
  pub small : s.bytes < 2 ^ 62
  pub covers : wire_sizes c s.packets ≤ s.bytes
  pub fields : Fields c s.rtt s.messages s.expected s.held s.pacing

-- if all of the tests hold, the k-th does
nth : (k : ℕ) (ts : List Bool) → every ts ≡ true → get_or ts k true ≡ true
unfolding every
nth k [] e = refl
nth zero (t ∷ ts) e = and_l t (every ts) e
nth (suc k) (t ∷ ts) e = nth k ts (and_r t (every ts) e)

on : (t : Bool) (ts : List Bool) → t ≡ true → every ts ≡ true → every (t ∷ ts) ≡ true
unfolding every
on t ts p q = and_both t (every ts) p q

no_tests : every [] ≡ true
unfolding every
no_tests = refl

pub ascends_facts : (lo hi : ℕ) (xs : List ℕ) → ascends lo hi xs ≡ true → Ascends lo hi xs
unfolding ascends
ascends_facts lo hi [] e = tt
ascends_facts lo hi (x ∷ xs) e =
    let r = and_r (leb lo x) (ltb x hi && ascends (suc x) hi xs) e in (
      leb-true _ _ (and_l (leb lo x) _ e),
      ltb-true _ _ (and_l (ltb x hi) (ascends (suc x) hi xs) r),
      ascends_facts (suc x) hi xs (and_r (ltb x hi) (ascends (suc x) hi xs) r),
    )

pub facts_ascends : (lo hi : ℕ) (xs : List ℕ) → Ascends lo hi xs → ascends lo hi xs ≡ true
unfolding ascends
facts_ascends lo hi [] a = refl
facts_ascends lo hi (x ∷ xs) a =
    and_both (leb lo x) _ (le-leb _ _ a.0) (and_both (ltb x hi) _ (lt-ltb _ _ a.1) (facts_ascends (suc x) hi xs a.2))

module _ (t : Packet → Bool) (P : Packet → Type 0) where
  all_facts : ((p : Packet) → t p ≡ true → P p) → (ps : List Packet) → all t ps ≡ true → All P ps
  unfolding all
  all_facts f [] e = tt
  all_facts f (p ∷ ps) e = (f p (and_l (t p) (all t ps) e), all_facts f ps (and_r (t p) (all t ps) e))

  facts_all : ((p : Packet) → P p → t p ≡ true) → (ps : List Packet) → All P ps → all t ps ≡ true
  unfolding all
  facts_all f [] a = refl
  facts_all f (p ∷ ps) a = and_both (t p) (all t ps) (f p a.0) (facts_all f ps a.1)

sent_facts : (c : Settings) (p : Packet) → sent_kept c p ≡ true → Sent c p
unfolding sent_kept
sent_facts c p e =
    record {
      time = ltb-true _ _ (nth 0 _ e);
      message = ltb-true _ _ (nth 1 _ e);
      len = leb-true _ _ (nth 2 _ e);
      once = leb-true _ _ (nth 3 _ e);
      most = leb-true _ _ (nth 4 _ e);
      resend = ltb-true _ _ (nth 5 _ e);
    }

facts_sent : (c : Settings) (p : Packet) → Sent c p → sent_kept c p ≡ true
unfolding sent_kept
facts_sent c p f =
    on _ _ (lt-ltb _ _ f.time) (on _ _ (lt-ltb _ _ f.message) (on _ _ (le-leb _ _ f.len) (on _ _ (le-leb _ _ f.once)
    (on _ _ (le-leb _ _ f.most) (on _ _ (lt-ltb _ _ f.resend) no_tests)))))

unsent_facts : (c : Settings) (p : Packet) → unsent_kept c p ≡ true → Unsent c p
unfolding unsent_kept
unsent_facts c p e =
    record {
      time = ltb-true _ _ (nth 0 _ e);
      message = ltb-true _ _ (nth 1 _ e);
      len = leb-true _ _ (nth 2 _ e);
      never = eqb-true _ _ (nth 3 _ e);
      unset = eqb-true _ _ (nth 4 _ e);
    }

facts_unsent : (c : Settings) (p : Packet) → Unsent c p → unsent_kept c p ≡ true
unfolding unsent_kept
facts_unsent c p f =
    on _ _ (lt-ltb _ _ f.time) (on _ _ (lt-ltb _ _ f.message) (on _ _ (le-leb _ _ f.len) (on _ _ (eq-eqb _ _ f.never)
    (on _ _ (eq-eqb _ _ f.unset) no_tests))))

held_facts : (c : Settings) (h : Option Held) → held_is_kept c h ≡ true → HeldIn c h
unfolding held_is_kept
held_facts c None e = tt
held_facts c (Some h) e =
    (ltb-true _ _ (and_l (ltb h.slot (capacity c)) _ e), leb-true _ _ (and_r (ltb h.slot (capacity c)) (leb h.len c.size) e))

facts_held : (c : Settings) (h : Option Held) → HeldIn c h → held_is_kept c h ≡ true
unfolding held_is_kept
facts_held c None f = refl
facts_held c (Some h) f = and_both (ltb h.slot (capacity c)) _ (lt-ltb _ _ f.0) (le-leb _ _ f.1)

pub kept_facts : (c : Settings) (s : Sender) → kept c s ≡ true → Kept c s
unfolding kept
kept_facts c s e =
    record {
      good = record {
        low = leb-true _ _ (nth 2 _ e);
        high = leb-true _ _ (nth 3 _ e);
        lost = ascends_facts _ _ _ (nth 4 _ e);
      };
      fits = leb-true _ _ (nth 1 _ e);
      old = all_facts (sent_kept c) (Sent c) (sent_facts c) _ (nth 5 _ e);
      new = all_facts (unsent_kept c) (Unsent c) (unsent_facts c) _ (nth 6 _ e);
      small = ltb-true _ _ (nth 7 _ e);
      covers = leb-true _ _ (nth 8 _ e);
      fields = record {
        settings = nth 0 _ e;
        pacing = nth 9 _ e;
        least = leb-true _ _ (nth 10 _ e);
        most = leb-true _ _ (nth 11 _ e);
        rtt = nth 12 _ e;
        messages = ltb-true _ _ (nth 13 _ e);
        held = held_facts c s.held (nth 14 _ e);
      };
    }

pub facts_kept : (c : Settings) (s : Sender) → Kept c s → kept c s ≡ true
unfolding kept
facts_kept c s k =
    on _ _ k.fields.settings
    (on _ _ (le-leb _ _ k.fits)
    (on _ _ (le-leb _ _ k.good.low)
    (on _ _ (le-leb _ _ k.good.high)
    (on _ _ (facts_ascends _ _ _ k.good.lost)
    (on _ _ (facts_all (sent_kept c) (Sent c) (facts_sent c) _ k.old)
    (on _ _ (facts_all (unsent_kept c) (Unsent c) (facts_unsent c) _ k.new)
    (on _ _ (lt-ltb _ _ k.small)
    (on _ _ (le-leb _ _ k.covers)
    (on _ _ k.fields.pacing
    (on _ _ (le-leb _ _ k.fields.least)
    (on _ _ (le-leb _ _ k.fields.most)
    (on _ _ k.fields.rtt
    (on _ _ (lt-ltb _ _ k.fields.messages)
    (on _ _ (facts_held c s.held k.fields.held) no_tests))))))))))))))
