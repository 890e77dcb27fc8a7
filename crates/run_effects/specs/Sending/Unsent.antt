-- What the code of rule 5 requires and leaves: the next unsent, and the one after it if its number is divisible by 16.
--   Sixteen, sixteen_after        if the one after it is due at once, it can be sent; this holds after the first
--                                 sending
--   sixteen_sends, sixteen_idle   the test of its number, as in the code
--   next-count                    the first sending writes one record
--   unsent_acts                   both, one after the other
use Rattle.std.specs.Prelude.{◌≡◌, true, false, ◌&&◌, List, [], ℕ, ◌+◌, ◌%◌, ◌^◌, ◌<◌, ltb, eqb}
use Rattle.std.proofs.Math.Path.{refl}
use Rattle.std.proofs.Common.{sym, ap, ◌∙◌, subst, arith, length-append, ltb-true}
use Rattle.laws.specs.Bools.{and_r}
use Rattle.rules_numbers.specs.declared.SeqNumber.{SeqNumber}
use Rattle.rules_numbers.specs.Modular.{seqs, plus}
use Rattle.rules.specs.Sender.{Sender, end}
use Rattle.rules.specs.Run as Rules
use Rattle.rules_theorems.proofs.RunKept.{first-kept}
use Rattle.buffer.specs.declared.SendBuffer.{SendBuffer}
use Rattle.buffer.specs.State.{State, state}
use Rattle.buffer.specs.State.Stands.{Stands}
use Rattle.run_effects.specs.declared.Records.{Records}
use Rattle.run_effects.specs.Sending.{Turned, Acted, Acts, sent_as, next_turn, is_sixteenth, idle, sixteen_turn, unsent_turn, written}
use Rattle.run_effects.specs.Sending.Laws.{Sendable, acts_as, written-append}
use Rattle.run_effects.specs.Sending.Rules.{Standing, sendable}
use Rattle.run_effects.specs.Sending.Stands.{few, next_refines}

-- if the packet after the next one is due at once, it can be sent
pub record Sixteen (b : SendBuffer) (now : ℕ) (ring : List ℕ) : Type 0 where
  pub ready : (lost : List ℕ) → is_sixteenth (state b ring lost) ≡ true → Sendable b b.sent now ring

-- ## The second sending

module _ (now : ℕ) (b : SendBuffer) (ring : List ℕ) (given : Records) where
  test-is : (next : SeqNumber) (lost : List ℕ) → next.0 ≡ plus seqs b.front.0 b.sent
      → (eqb (next.0 % 16) 0 && ltb b.sent b.ring.len) ≡ is_sixteenth (state b ring lost)
  test-is next lost e = rw e

  pub sixteen_sends : (next : SeqNumber) (after : SendBuffer) (words : List ℕ) (left : Records) → next.0 ≡ plus seqs b.front.0 b.sent
      → (eqb (next.0 % 16) 0 && ltb b.sent b.ring.len) ≡ true
      → Acts (next_turn now) b ring given after words left
      → Acts (sixteen_turn now) b ring given after words left
  unfolding sixteen_turn
  sixteen_sends next after words left e y A =
      acts_as (sixteen_turn now) (next_turn now) b ring given after words left (λ lost. rw (sym (test-is next lost e) ∙ y)) A

  pub sixteen_idle : (next : SeqNumber) → next.0 ≡ plus seqs b.front.0 b.sent
      → (eqb (next.0 % 16) 0 && ltb b.sent b.ring.len) ≡ false
      → Acts (sixteen_turn now) b ring given b ring given
  unfolding sixteen_turn written
  sixteen_idle next e y =
      acts_as (sixteen_turn now) idle b ring given b ring given (λ lost. rw (sym (test-is next lost e) ∙ y))
      (record {
        is = λ lost. record { acted = record { state = refl; count = omega arith; list = refl }; same = record { name = refl; long = refl } };
      })

-- books that represent a sender still do after the next unsent is sent
pub sixteen_after : (now : ℕ) (b : SendBuffer) (ring : List ℕ) (given : Records) (b₁ : SendBuffer) (words : List ℕ) (left : Records) → Standing b ring
    → b.sent < b.ring.len
    → now < 2 ^ 48
    → Acts (next_turn now) b ring given b₁ words left
    → Sixteen b₁ now words
sixteen_after now b ring given b₁ words left St h early A = record { ready = λ lost e. there e }
  where
    s : Sender
    s = St.ready.sender

    more : s.next < end s
    more = let f = few St.ready.stands in omega (arith, h, f, St.ready.stands.next)

    S : Stands St.settings (state b₁ words St.lost) (Rules.send_next St.settings now false s).after
    S =
        subst (λ (st : State). Stands St.settings st (Rules.send_next St.settings now false s).after) (sym (A.is St.lost).acted.state)
        (next_refines St.ready.stands St.ready.kept now false h).state

    there : (eqb (plus seqs b₁.front.0 b₁.sent % 16) 0 && ltb b₁.sent b₁.ring.len) ≡ true → Sendable b₁ b₁.sent now words
    there e =
        let room : b₁.sent < b₁.ring.len = ltb-true _ _ (and_r (eqb (plus seqs b₁.front.0 b₁.sent % 16) 0) (ltb b₁.sent b₁.ring.len) e) in
        sendable S (first-kept St.settings now false early s more St.ready.kept) b₁.sent now room early

-- ## Both

pub next-count : (now : ℕ) (b : SendBuffer) (ring : List ℕ) (given : Records) (after : SendBuffer) (words : List ℕ) (left : Records)
    → Acts (next_turn now) b ring given after words left
    → left.count ≡ given.count + 1
unfolding sent_as
next-count now b ring given after words left A = (A.is []).acted.count

pub unsent_acts : (now : ℕ) (b : SendBuffer) (ring : List ℕ) (given : Records) (b₁ : SendBuffer) (ring₁ : List ℕ) (r₁ : Records) (b₂ : SendBuffer) (ring₂ : List ℕ) (r₂ : Records)
    → Acts (next_turn now) b ring given b₁ ring₁ r₁
    → Acts (sixteen_turn now) b₁ ring₁ r₁ b₂ ring₂ r₂
    → Acts (unsent_turn now) b ring given b₂ ring₂ r₂
unfolding unsent_turn
unsent_acts now b ring given b₁ ring₁ r₁ b₂ ring₂ r₂ A B = record {
  is = λ lost.
      let p = (A.is lost).same in
      let q = (B.is lost).same in
      record { acted = both lost; same = record { name = q.name ∙ p.name; long = q.long ∙ p.long } };
}
  where
    both : (lost : List ℕ) → Acted (unsent_turn now) (state b ring lost) given.count given.list.now (state b₂ ring₂ lost) r₂.count r₂.list.now
    both lost =
        let t : Turned = next_turn now (state b ring lost) in
        let u : Turned = sixteen_turn now t.state in
        let a = (A.is lost).acted in
        let d = subst (λ (st : State). Acted (sixteen_turn now) st r₁.count r₁.list.now (state b₂ ring₂ lost) r₂.count r₂.list.now) a.state (B.is lost).acted in
        record {
          state = d.state;
          count = let e = length-append t.records u.records in omega (arith, e, a.count, d.count);
          list =
              d.list
              ∙ ap (written r₁.count u.records) a.list
              ∙ ap (λ (k : ℕ). written k u.records (written given.count t.records given.list.now)) a.count
              ∙ sym (written-append given.count t.records u.records given.list.now);
        }
