-- The sender with its lent areas, and refusals 2 and 3. Document 01, "Refusal numbers": row 2, BadStore, "a lent area
-- is too short"; row 3, BadState, "the books break a rule below".
--   Books, books           the sender, the ring's words, the loss list's words
--   state_of, rules_of g   the buffer's books with their areas; the settings, as in the rules
--   areas_short c n m      n words are too few for the ring, or m for the loss list; false if the settings are out of
--                          range, as the books are then at fault
--   store_short c n        n bytes are too few for the store
--   kept g                 the book rules
--   judge short g          the two refusals
--   judge_areas g          those of a call that is lent only the ring and the loss list
pub mod Laws
pub mod Stands
use Rattle.std.specs.Prelude.{Bool, not, ◌&&◌, ◌||◌, List, ℕ, ◌*◌, ltb, length}
use Rattle.rules_refusals.specs.declared.Refusal.TheVariants.{BadStore, BadState}
use Rattle.rules_refusals.specs.Verdict.{Verdict, accepted, when}
use Rattle.rules_pacing.specs.Kept as Pacing
use Rattle.rules.specs.Settings.{Settings, in_range, capacity, store_size}
use Rattle.buffer.specs.State.{State, state, settings_of}
use Rattle.book_rules.specs.Kept as Buffer
use Rattle.sender.specs.declared.Sender.{Sender}

pub record Books : Type 0 where
  pub sender : Sender
  pub ring : List ℕ
  pub lost : List ℕ

abbrev pub books : Sender → List ℕ → List ℕ → Books
books s ring lost = record { sender = s; ring = ring; lost = lost }

abbrev pub state_of : Books → State
state_of g = state g.sender.buffer g.ring g.lost

abbrev pub rules_of : Books → Settings
rules_of g = settings_of g.sender.settings

unfoldable pub areas_short : Settings → ℕ → ℕ → Bool
areas_short c ring lost = in_range c && (ltb ring (capacity c * 6) || ltb lost (capacity c))

unfoldable pub store_short : Settings → ℕ → Bool
store_short c store = in_range c && ltb store (store_size c)

unfoldable pub kept : Books → Bool
kept g = Buffer.kept (rules_of g) (state_of g) && Pacing.kept g.sender.pacing

unfoldable pub judge : Bool → Books → Verdict
judge short g = when short BadStore (when (not (kept g)) BadState accepted)

abbrev pub judge_areas : Books → Verdict
judge_areas g = judge (areas_short (rules_of g) (length g.ring) (length g.lost)) g
