-- The books with their lent areas represent a sender of the rules; what that means for refusals 2 and 3.
--   StandsFor g s                               the books represent s, and pacing is its pacing
--   kept-is, seen, seen-kept                    the books keep the rules exactly if they represent a sender that does, so 3 is exact
--   stands_as                                   the same for an equal sender
--   areas-long                                  its areas are long enough
--   judge-accepted, judge-broken, judge-short   the verdict of the two tests
use Rattle.std.specs.Prelude.{◌≡◌, refl, Bool, true, ◌&&◌, ◌||◌, List, ℕ, ◌*◌, length, Err}
use Rattle.std.proofs.Math.Bool.{false, and-eq-true_iff}
use Rattle.std.proofs.Math.Dec.{ltb}
use borrow.Author.Tests.{le-ltb}
use Rattle.rules_refusals.specs.declared.Refusal.TheVariants.{BadStore, BadState}
use Rattle.rules_refusals.specs.Verdict.{accepted}
use Rattle.rules_pacing.specs.Kept as Pacing
use Rattle.rules.specs.Settings.{in_range, capacity}
use Rattle.rules.specs.Sender as rules
use Rattle.rules_theorems.specs.Laws.BookRules.{Kept}
use Rattle.buffer.specs.State.Stands.{Stands}
use Rattle.book_rules.specs.Kept as Buffer
use Rattle.book_rules.specs.Kept.Stands.{seen_as, kept-stands, kept_rules, ready-kept}
use Rattle.sender.specs.declared.Sender.{Sender}
use Rattle.sender.specs.SenderAndAreas.{Books, books, state_of, rules_of, areas_short, kept, judge}

pub record StandsFor (g : Books) (s : rules.Sender) : Type 0 where
  pub buffer : Stands (rules_of g) (state_of g) s
  pub pacing : g.sender.pacing ≡ s.pacing

pub stands_as : (t u : Sender) (ring lost : List ℕ) (s : rules.Sender) → t ≡ u → StandsFor (books u ring lost) s → StandsFor (books t ring lost) s
stands_as t u ring lost s e S = rw e S

module _ (g : Books) (s : rules.Sender) (S : StandsFor g s) where
  pub kept-is : Kept (rules_of g) s → kept g ≡ true
  unfolding kept
  kept-is K = rw (ready-kept S.buffer K, S.pacing) K.fields.pacing

  pub areas-long : areas_short (rules_of g) (length g.ring) (length g.lost) ≡ false
  unfolding areas_short
  areas-long = go (in_range (rules_of g))
    where
      ring : ltb (length g.ring) (capacity (rules_of g) * 6) ≡ false
      ring = le-ltb (length g.ring) (capacity (rules_of g) * 6) (rw (← S.buffer.cap) S.buffer.placed.area)

      lost : ltb (length g.lost) (capacity (rules_of g)) ≡ false
      lost = le-ltb (length g.lost) (capacity (rules_of g)) S.buffer.room

      go : (t : Bool) → (t && (ltb (length g.ring) (capacity (rules_of g) * 6) || ltb (length g.lost) (capacity (rules_of g)))) ≡ false
      go true = rw (ring, lost)
      go false = refl

  pub judge-accepted : Kept (rules_of g) s → (short : Bool) → short ≡ false → judge short g ≡ accepted
  unfolding judge
  judge-accepted K short e = rw (e, kept-is K)

-- books that keep the rules represent a sender that does
module _ (g : Books) (e : kept g ≡ true) where
  parts : (Buffer.kept (rules_of g) (state_of g) ≡ true) × (Pacing.kept g.sender.pacing ≡ true)
  unfolding kept
  parts = (and-eq-true_iff (Buffer.kept (rules_of g) (state_of g)) (Pacing.kept g.sender.pacing)).0 e

  pub seen : StandsFor g (seen_as g.sender.pacing (state_of g))
  seen = record { buffer = kept-stands (rules_of g) (state_of g) parts.0 g.sender.pacing; pacing = refl }

  pub seen-kept : Kept (rules_of g) (seen_as g.sender.pacing (state_of g))
  seen-kept = kept_rules (rules_of g) (state_of g) parts.0 g.sender.pacing parts.1

pub judge-short : (g : Books) → judge true g ≡ Err BadStore
unfolding judge
judge-short g = refl

pub judge-broken : (g : Books) → kept g ≡ false → judge false g ≡ Err BadState
unfolding judge
judge-broken g e = rw e
