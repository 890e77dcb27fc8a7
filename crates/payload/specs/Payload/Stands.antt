-- Where a payload lies is what the rules say, for every sender that the books represent and that keeps the book rules.
--   found_of                        the answer, from where the payload lies in the rules
--   verdict_of, said_of             an answer's verdict, and its value
--   found-is                        buffered or flushed, or neither
--   Answers, payload_refines        the call answers what the rules say, and they don't change the sender
--   payload-short, payload-broken   if an area is too short; and otherwise, if the books break a rule
use Rattle.std.specs.Prelude.{◌≡◌, Bool, cond, ℕ, ◌+◌, ◌-◌, ◌*◌, ◌%◌, ◌^◌, ◌≤◌, ◌<◌, leb, eqb, length, Option, Some, None, Result, Ok, Err}
use Rattle.std.proofs.Math.Path.{refl, sym, ap}
use Rattle.std.proofs.Common.{◌∙◌}
use Rattle.std.proofs.Math.Bool.{true, false}
use mathlib.Core.List.{List}
use Rattle.std.proofs.Math.Decide.{dec_lt}
use native.Mathlib.Omega.{arith}
use Rattle.std.proofs.Math.ListN.{get_or}
use borrow.Author.Tests.{lt-ltb, le-ltb, leb-false}
use Rattle.rules_numbers.specs.Modular.{seqs, dist}
use Rattle.rules_refusals.specs.declared.Refusal.TheVariants.{BadStore, BadState, BadNumber, NotHeld}
use Rattle.rules_refusals.specs.Verdict.{Verdict, accepted, when, answer}
use Rattle.ring.specs.Entry.{read_e}
use Rattle.ring.specs.Ring.{slot_of}
use Rattle.rules.specs.Numbers.{wire, distance}
use Rattle.rules_theorems.specs.Laws.Numbers.{wire-below, distance-is-dist}
use Rattle.rules.specs.Settings.{Settings, capacity, place_of, store_size}
use Rattle.rules.specs.Sender as rules
use Rattle.rules.specs.Sender.{Packet, nothing, packet, push_of}
use Rattle.rules_theorems.specs.Laws.BookRules.{Kept, facts_kept}
use Rattle.rules.specs.Reports.{Lies as RulesLies, held_of, payload_of}
use Rattle.rules.specs.Refusals.{lies_verdict, payload_verdict as rulesVerdict}
use Rattle.rules.specs.Calls as calls
use Rattle.buffer.specs.State.{packet_of}
use Rattle.buffer.specs.State.Reports.{packets-is}
use Rattle.buffer.specs.State.Stands.{HeldAs}
use Rattle.buffer.specs.State.View.{packets-at}
use Rattle.buffer.specs.State.Slots.{slot-push}
use Rattle.sender.specs.SenderAndAreas.{Books, rules_of, store_short, kept, judge}
use Rattle.sender.specs.SenderAndAreas.Stands.{StandsFor, areas-long, judge-accepted, judge-short, judge-broken}
use Rattle.sender.specs.Calls.{short_for}
use Rattle.payload.specs.declared.Lies.{Lies}
use Rattle.payload.specs.Payload.{flushed_at, find_in, payload_verdict, payload}
use Rattle.payload.specs.Payload.Laws.{find_buffered, find_other}
use Rattle.rules_refusals.specs.declared.Refusal.{Refusal}
use Rattle.buffer.specs.declared.FlushedPacket.{FlushedPacket}

abbrev pub found_of : Option RulesLies → Result Lies Refusal
found_of None = Err NotHeld
found_of (Some l) = Ok (record { place = l.place; len = l.len })

abbrev pub verdict_of : Result Lies Refusal → Verdict
verdict_of (Ok l) = accepted
verdict_of (Err r) = Err r

abbrev pub said_of : Result Lies Refusal → calls.Said
said_of (Ok l) = calls.Found (Some (record { place = l.place; len = l.len }))
said_of (Err r) = calls.Nothing

flushed-is : (c : Settings) (n : ℕ) (f : Option FlushedPacket) (h : Option rules.Held) → HeldAs f h → flushed_at c.size n f ≡ found_of (held_of c h n)
unfolding held_of
flushed-is c n None None A = refl
flushed-is c n None (Some h) A = absurd A
flushed-is c n (Some p) None A = absurd A
flushed-is c n (Some p) (Some h) A = rw (A.0, A.1, A.2) (go (eqb (wire h.number) n))
  where
    go : (t : Bool) → cond t (Ok (record { place = h.slot * c.size; len = h.len })) (Err NotHeld)
        ≡ found_of (cond t (Some (record { place = h.slot * c.size; len = h.len })) None)
    go true = refl
    go false = refl

module _ (g : Books) (s : rules.Sender) (S : StandsFor g s) (n : ℕ) where
  abbrev c : Settings
  c = rules_of g

  abbrev d : ℕ
  d = distance (wire s.front) n

  slot_at : d < g.sender.buffer.ring.len → slot_of g.sender.buffer.ring d ≡ push_of s (s.front + d) % capacity c
  slot_at h = slot-push S.buffer d (omega arith)

  len-at : d < g.sender.buffer.ring.len → (read_e g.ring (slot_of g.sender.buffer.ring d)).len ≡ (packet s (s.front + d)).len
  unfolding packet packet_of
  len-at h =
      let e : s.front + d - s.front ≡ d = omega arith in
      let at = sym (packets-at g.sender.buffer.ring g.ring d h) ∙ ap (λ (l : List Packet). get_or l d nothing) S.buffer.packets in
      rw e (ap (λ (p : Packet). p.len) at)

  near : d < length s.packets → payload_of c s n ≡ Some (record { place = place_of c (push_of s (s.front + d)); len = (packet s (s.front + d)).len })
  unfolding payload_of
  near h = rw (lt-ltb d (length s.packets) h)

  far : length s.packets ≤ d → payload_of c s n ≡ held_of c s.held n
  unfolding payload_of
  far h = rw (le-ltb d (length s.packets) h)

  module _ (number : n < 2 ^ 31) where
    reach : d ≡ dist seqs g.sender.buffer.front.0 n
    reach = rw S.buffer.front (distance-is-dist (wire s.front) n (wire-below s.front) number)

    pub found-is : find_in g.sender n g.ring ≡ found_of (payload_of c s n)
    found-is = go (dec_lt d g.sender.buffer.ring.len)
      where
        go : Dec (d < g.sender.buffer.ring.len) → find_in g.sender n g.ring ≡ found_of (payload_of c s n)
        go (yes h) =
            sym (find_buffered g.sender n g.ring d reach h _ _ refl refl)
            ∙ rw (near (omega (arith, packets-is S.buffer)), ← slot_at h, ← len-at h)
        go (no h) =
            sym (find_other g.sender n g.ring d reach (omega arith) _ refl)
            ∙ flushed-is c n g.sender.buffer.flushed s.held S.buffer.others.held ∙ ap found_of (sym (far (omega (arith, packets-is S.buffer))))

-- the outcome f of the call is the answer a of the rules, which don't change s
pub record Answers (s : rules.Sender) (f : Result Lies Refusal) (a : calls.Answer) : Type 0 where
  pub verdict : verdict_of f ≡ a.verdict
  pub said : said_of f ≡ a.said
  pub same : a.after ≡ s

module _ (g : Books) (s : rules.Sender) (S : StandsFor g s) (K : Kept (rules_of g) s) (n : ℕ) (store : List ℕ) (room : store_size (rules_of g) ≤ length store) where
  abbrev k : Settings
  k = rules_of g

  abbrev call : calls.Call
  call = calls.payload n

  store_long : store_short k (length store) ≡ false
  unfolding store_short
  store_long = rw (K.fields.settings, le-ltb (length store) (store_size k) room)

  judged : judge (short_for g (length store)) g ≡ accepted
  judged = judge-accepted g s S K (short_for g (length store)) (rw (areas-long g s S, store_long))

  by-lies : (l : Option RulesLies) → payload_of k s n ≡ l → Answers s (found_of l) (calls.answer_by k (lies_verdict l) call s)
  unfolding calls.answer_by calls.left calls.said_by calls.after lies_verdict
  by-lies None e = record { verdict = refl; said = refl; same = refl }
  by-lies (Some l) e = record { verdict = refl; said = ap calls.Found (sym e); same = refl }

  go : (t : Bool) → leb (2 ^ 31) n ≡ t
      → Answers s (answer Err (when t BadNumber accepted) (find_in g.sender n g.ring)) (calls.answer_by k (when t BadNumber (lies_verdict (payload_of k s n))) call s)
  unfolding calls.answer_by calls.left
  go true e = record { verdict = refl; said = refl; same = refl }
  go false e = rw (found-is g s S n (leb-false (2 ^ 31) n e)) (by-lies (payload_of k s n) refl)

  pub payload_refines : Answers s (payload g n store) (calls.answer k call s)
  unfolding payload payload_verdict calls.answer calls.verdict_of rulesVerdict
  payload_refines = rw (judged, facts_kept k s K) (go (leb (2 ^ 31) n) refl)

module _ (g : Books) (n : ℕ) (store : List ℕ) where
  pub payload-short : short_for g (length store) ≡ true → payload g n store ≡ Err BadStore
  unfolding payload payload_verdict
  payload-short e = rw (e, judge-short g)

  pub payload-broken : short_for g (length store) ≡ false → kept g ≡ false → payload g n store ≡ Err BadState
  unfolding payload payload_verdict
  payload-broken e b = rw (e, judge-broken g b)
