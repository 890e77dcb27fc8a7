-- What a whole message requires, and the loop over its packets.
--   Sendable      what a message requires: refusals 2 to 6 don't apply, except for pacing's counts
--   rest-opened   once it has its number, all its packets are to come
--   Going         some are made, and those still to come lead to the same end as all from the start
--   going-opened, going_next, going-one, one-made, going-all, whole   at the start, at a packet, after it, at the end
--   going_less    fewer are to come after a packet than before it: a step of the definition, which no code cites now
use Rattle.std.specs.Prelude.{◌≡◌, List, length}
use Rattle.std.proofs.Math.Path.{refl}
use Rattle.std.proofs.Common.{◌∙◌, arith}
use Prim.Native.Nat.{ℕ, zero, suc, ◌+◌, ◌-◌, ◌*◌, ◌^◌, ◌≤◌, ◌<◌}
use Rattle.rules_packets.specs.Split.{count}
use Rattle.encapsulate.specs.Laws.{Sized}
use Rattle.rules.specs.Settings.{Settings, store_size}
use Rattle.rules.specs.Sender.{Sender}
use Rattle.rules_theorems.specs.Laws.BookRules.{Kept}
use Rattle.rules_theorems.proofs.MessageKept.{numbered-fields, sizes_message}
use Rattle.rules_theorems.proofs.RunKept.{same_kept}
use Rattle.buffer.specs.declared.SendBuffer.{SendBuffer}
use Rattle.buffer.specs.State.{State, state}
use Rattle.buffer.specs.State.Facts.{stands_facts}
use Rattle.buffer.specs.State.Stands.{Ready}
use Rattle.buffer_push.specs.declared.Pushed.{Pushed}
use Rattle.buffer_push.specs.Message.{Pushing, work, pushing, roomed, appended, push_one, pushes, begun, none_yet, opened, message}
use Rattle.buffer_push.specs.Message.Laws.{numbered, stands-numbered}
use Rattle.buffer_push.specs.Message.Rest.{Rest, Next, rest-one}

pub record Sendable (c : Settings) (st : State) (time : ℕ) (payload store : List ℕ) : Type 0 where
  pub ready : Ready c st
  pub early : time < 2 ^ 48
  pub short : length payload ≤ 1_048_576
  pub bytes : st.books.bytes + length payload + count c.size (length payload) * c.overhead < 2 ^ 62
  pub room : store_size c ≤ length store

kept-numbered : (c : Settings) (s : Sender) → Kept c s → Kept c (numbered s.pacing s)
kept-numbered c s g =
    same_kept c s (numbered s.pacing s) refl refl refl refl g.good.lost (numbered-fields c s s.pacing g.fields.pacing g) g

module _ {c : Settings} {st : State} {time : ℕ} {payload store : List ℕ} (A : Sendable c st time payload store) where
  abbrev s : Sender
  s = A.ready.sender

  pub sized : Sized c.size (length payload)
  sized = let f = stands_facts A.ready.stands A.ready.kept in record { low = f.settings.least; high = f.settings.size; short = A.short }

  pub rest-opened : Rest c time st.books.message.0 payload (count c.size (length payload)) (opened st store)
  unfolding opened
  rest-opened =
      let S = A.ready.stands in
      let f = stands_facts S A.ready.kept in
      record {
        sender = numbered s.pacing s;
        stands = stands-numbered S s.pacing store;
        kept = kept-numbered c s A.ready.kept;
        early = A.early;
        few = f.message;
        short = A.short;
        all = omega arith;
        bytes = omega (arith, sizes_message c time st.books.message.0 (length payload) f.settings.least, A.bytes, S.bytes);
        removed = omega arith;
        wire = omega arith;
        store = A.room;
      }

pub record Going (c : Settings) (time m : ℕ) (payload : List ℕ) (n : ℕ) (start w : Pushing) : Type 0 where
  pub left : ℕ
  pub count : n ≡ count c.size (length payload)
  pub rest : Rest c time m payload left w
  pub same : pushes c time m payload left w ≡ pushes c time m payload n start

-- at least one packet is to come
record More (c : Settings) (time m : ℕ) (payload : List ℕ) (n : ℕ) (start w : Pushing) : Type 0 where
  pub left : ℕ
  pub rest : Rest c time m payload (suc left) w
  pub same : pushes c time m payload left (push_one c time m payload w) ≡ pushes c time m payload n start

module _ {c : Settings} {time m : ℕ} {payload : List ℕ} {n : ℕ} {start w : Pushing} where
  more : Going c time m payload n start w → w.work.made < n → More c time m payload n start w
  unfolding pushes
  more G h = go G.left G.rest G.same
    where
      go : (l : ℕ) → Rest c time m payload l w → pushes c time m payload l w ≡ pushes c time m payload n start → More c time m payload n start w
      go zero R e = absurd (omega (arith, R.all, G.count))
      go (suc l) R e = record { left = l; rest = R; same = e }

  pub going_next : Going c time m payload n start w → w.work.made < n → Next c time m payload n w
  going_next G h = let M = more G h in record { left = M.left; rest = M.rest; count = G.count }

  pub going-one : Going c time m payload n start w → w.work.made < n → (v : Pushing) → v ≡ push_one c time m payload w
      → Going c time m payload n start v
  going-one G h v e = let M = more G h in rw e (record { left = M.left; count = G.count; rest = rest-one M.rest; same = M.same })

  pub one-made : Going c time m payload n start w → (v : Pushing) → v ≡ push_one c time m payload w → v.work.made ≡ w.work.made + 1
  unfolding push_one appended roomed
  one-made G v e = rw e (omega arith)

  pub going_less : Going c time m payload n start w → w.work.made < n → (v : Pushing) → v ≡ push_one c time m payload w
      → n - v.work.made < n - w.work.made
  going_less G h v e = omega (arith, h, one-made G v e)

  pub going-all : Going c time m payload n start w → n ≤ w.work.made → w ≡ pushes c time m payload n start
  unfolding pushes
  going-all G h = go G.left G.rest G.same
    where
      go : (l : ℕ) → Rest c time m payload l w → pushes c time m payload l w ≡ pushes c time m payload n start
          → w ≡ pushes c time m payload n start
      go zero R e = e
      go (suc l) R e = absurd (omega (arith, R.all, G.count))

module _ (c : Settings) (time n : ℕ) (payload : List ℕ) (b : SendBuffer) (ring lost store : List ℕ) (p : Pushed) (e : n ≡ count c.size (length payload))
    (f : p ≡ none_yet (begun b)) where
  pub going-opened : Sendable c (state b ring lost) time payload store
      → Going c time b.message.0 payload n (pushing (work p ring lost) store) (pushing (work p ring lost) store)
  unfolding opened
  going-opened A = rw f (record { left = n; count = e; rest = rw e (rest-opened A); same = refl })

  pub whole : (w : Pushing) → w ≡ pushes c time b.message.0 payload n (pushing (work p ring lost) store)
      → w ≡ message c time payload (state b ring lost) store
  unfolding message opened
  whole w g = g ∙ rw (e, f)
