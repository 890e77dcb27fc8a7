-- What the code of the look-up requires, and that it agrees with its definition.
--   HeldFits size f              the flushed packet's place can be computed without overflow
--   held_fits, flushed_as        the same for an equal flushed packet, and the same look-up; no code cites them now
--   Findable s ring, findable    the books are a sender's; they are if 2, 3 and 7 don't apply
--   Finding, finding             the bounds that follow
--   judge-payload-is             a chain of the tests is the verdict; no code cites it now
--   find_buffered, find_other    among the buffered packets, or not
use Rattle.std.specs.Prelude.{◌≡◌, true, ◌||◌, List, ℕ, ◌*◌, ◌^◌, ◌≤◌, ◌<◌, leb, Option, Some, None, Result, Ok}
use Rattle.std.proofs.Common.{sym, ap, ◌∙◌, arith}
use borrow.Author.Tests.{lt-ltb, le-ltb}
use Rattle.rules_numbers.specs.Modular.{seqs, dist}
use Rattle.rules_refusals.specs.declared.Refusal.TheVariants.{BadNumber}
use Rattle.rules_refusals.specs.Verdict.{Verdict, accepted, when}
use Rattle.ring.specs.declared.Entry.{Entry}
use Rattle.ring.specs.Entry.{read_e}
use Rattle.ring.specs.Ring.{slot_of}
use Rattle.ring.specs.Ring.Laws.{Placed}
use Rattle.rules.specs.Settings.{Settings}
use Rattle.rules.specs.Sender as rules
use Rattle.rules_theorems.specs.Laws.BookRules.{HeldIn}
use Rattle.buffer.specs.State.{state, settings_of}
use Rattle.buffer.specs.State.Facts.{stands_facts}
use Rattle.buffer.specs.State.Stands.{HeldAs}
use Rattle.book_rules.specs.Kept as Buffer
use Rattle.book_rules.specs.Kept.Stands.{kept-ready}
use Rattle.sender.specs.declared.Sender.{Sender}
use Rattle.sender.specs.SenderAndAreas.{Books, judge}
use Rattle.sender.specs.SenderAndAreas.Laws.{judged}
use Rattle.sender.specs.Calls.{short_for, then, judge_with_store}
use Rattle.sender.specs.Calls.Laws.{then-accepted}
use Rattle.payload.specs.Payload.{flushed_at, find_in, payload_verdict}
use Rattle.rules_refusals.specs.declared.Refusal.{Refusal}
use Rattle.buffer.specs.declared.FlushedPacket.{FlushedPacket}
use Rattle.payload.specs.declared.Lies.{Lies}

abbrev pub HeldFits : ℕ → Option FlushedPacket → Type 0
HeldFits size None = Unit {0}
HeldFits size (Some p) = (p.slot ≤ 8_192) × (size ≤ 1_456)

pub held_fits : (size : ℕ) (f x : Option FlushedPacket) → f ≡ x → HeldFits size f → HeldFits size x
held_fits size f x e h = rw e at h

pub flushed_as : (size number : ℕ) (f x : Option FlushedPacket) (r : Result Lies Refusal) → f ≡ x → r ≡ flushed_at size number x → r ≡ flushed_at size number f
flushed_as size number f x r e h = h ∙ ap (flushed_at size number) (sym e)

pub record Findable (s : Sender) (ring : List ℕ) : Type 0 where
  pub lost : List ℕ
  pub kept : Buffer.kept (settings_of s.settings) (state s.buffer ring lost) ≡ true

pub record Finding (s : Sender) (ring : List ℕ) : Type 0 where
  pub placed : Placed s.buffer.ring ring
  pub size : s.settings.size ≤ 1_456
  pub held : HeldFits s.settings.size s.buffer.flushed

flushed-fits : (c : Settings) (f : Option FlushedPacket) (h : Option rules.Held) → c.buffer ≤ 8_192 → c.size ≤ 1_456 → HeldAs f h → HeldIn c h → HeldFits c.size f
flushed-fits c None h b z A H = tt
flushed-fits c (Some p) None b z A H = absurd A
flushed-fits c (Some p) (Some h) b z A H = (omega (arith, A.1, H.0), z)

pub finding : (s : Sender) (ring : List ℕ) → Findable s ring → Finding s ring
finding s ring F =
    let r = kept-ready (settings_of s.settings) (state s.buffer ring F.lost) F.kept in
    let f = stands_facts r.stands r.kept in
    record {
      placed = f.placed;
      size = f.settings.size;
      held = flushed-fits (settings_of s.settings) s.buffer.flushed r.sender.held f.settings.buffer f.settings.size r.stands.others.held
          r.kept.fields.held;
    }

module _ (g : Books) (n store : ℕ) where
  pub judge-payload-is : (state brought v : Verdict) → state ≡ judge_with_store g store
      → brought ≡ when (leb (2 ^ 31) n) BadNumber accepted
      → v ≡ then state brought
      → v ≡ payload_verdict g n store
  unfolding payload_verdict
  judge-payload-is state brought v h k m = m ∙ rw (h, k)

  pub findable : payload_verdict g n store ≡ accepted → Findable g.sender g.ring
  unfolding payload_verdict
  findable e =
      let both = then-accepted (judge (short_for g store) g) (when (leb (2 ^ 31) n) BadNumber accepted) e in
      record { lost = g.lost; kept = (judged (short_for g store) g both.0).buffer }

module _ (s : Sender) (number : ℕ) (ring : List ℕ) (d : ℕ) (e : d ≡ dist seqs s.buffer.front.0 number) where
  pub find_buffered : d < s.buffer.ring.len → (x : Entry) (p : ℕ) → x ≡ read_e ring (slot_of s.buffer.ring d) → p ≡ slot_of s.buffer.ring d
      → Ok (record { place = p * s.settings.size; len = x.len }) ≡ find_in s number ring
  unfolding find_in
  find_buffered h x p f k = rw (← e, lt-ltb d s.buffer.ring.len h, f, k)

  pub find_other : s.buffer.ring.len ≤ d → (r : Result Lies Refusal) → r ≡ flushed_at s.settings.size number s.buffer.flushed → r ≡ find_in s number ring
  unfolding find_in
  find_other h r f = f ∙ rw (← e, le-ltb d s.buffer.ring.len h)
