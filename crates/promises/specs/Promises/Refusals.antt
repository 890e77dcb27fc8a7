-- "A refusal changes nothing": for any sender and areas, damaged ones included. Document 01: "All stays as before; 11
-- alone keeps a new RTT."
--   verdict_in k w          the verdict of a call's tests
--   refused-stays           a refused call leaves the sender, every word of the lent areas and the store unchanged,
--                           except by 11
--   with_rtt, stale-keeps   11 keeps the ACK's round-trip time, and changes nothing else
--   refused-list            a refused call leaves every word of its lent list unchanged
use Rattle.std.specs.Prelude.{◌≡◌, refl, Bool, true, false, not, cond, List, ℕ, ◌^◌, eqb, leb, length, Option, Some, None, Result, Ok, Err}
use Rattle.std.proofs.Common.{sym, ap, ◌∙◌, arith, ne_eqb}
use Rattle.rules_refusals.specs.declared.Refusal.{Refusal}
use Rattle.rules_refusals.specs.declared.Refusal.TheVariants.{BadStore, BadState, BadNumber, BadRtt}
use Rattle.rules_refusals.specs.Table.{number_of}
use Rattle.rules_refusals.specs.Verdict.{Verdict, accepted, when, answer}
use Rattle.rules.specs.Refusals.{bad_rtt}
use Rattle.sender.specs.SenderAndAreas.{Books, books, state_of, rules_of, areas_short, judge}
use Rattle.sender.specs.SenderAndAreas.{kept as keptBooks}
use Rattle.sender.specs.Calls as Messages
use Rattle.sender.specs.Calls.Stands as Message
use Rattle.sender.specs.Acks as Acks
use Rattle.sender.specs.Acks.Stands as Ack
use Rattle.nak.specs.Naks as Naks
use Rattle.nak.specs.Naks.Stands as Nak
use Rattle.payload.specs.Payload as Payloads
use Rattle.payload.specs.Payload.Stands as Payload
use Rattle.run.specs.Runs as Runs
use Rattle.run.specs.Runs.Stands as Run
use Rattle.rules_pacing.specs.declared.SenderCongestionControl.{SenderCongestionControl}
use Rattle.rules_pacing.specs.Pacing.{due, moved, snd_period, input}
use Rattle.rules_pacing.specs.Pacing.{after as kept}
use Rattle.buffer.specs.declared.Settings.{Settings}
use Rattle.buffer_push.specs.declared.Pushed.{Pushed}
use Rattle.buffer_ack.specs.Ack as AckOf
use Rattle.buffer_ack.specs.Ack.Stands.{refused-keeps}
use Rattle.buffer.specs.declared.SendBuffer.{SendBuffer}
use Rattle.sender.specs.declared.Sender.{Sender}
use Rattle.buffer_nak.specs.Report as Report
use Rattle.buffer_run.specs.Run as Run₀
use Rattle.promises.specs.Promises.{World, Call, message, ack, nak, run, payload, after}
use Rattle.rules_numbers.specs.declared.Rtt.{Rtt}
use Rattle.buffer_ack.specs.declared.AckAction.{AckAction}

unfoldable pub verdict_in : Call → World → Verdict
verdict_in (message time now bytes) w = Message.verdict_of (Messages.message w.books time now bytes w.store).answer
verdict_in (ack n full rtt) w = Ack.verdict_of (Acks.ack w.books n full rtt)
verdict_in (nak words list) w = Nak.verdict_of (Naks.nak w.books words list).answer
verdict_in (run now p draining list) w = Run.verdict_of (Runs.run w.books now p draining list).answer
verdict_in (payload n) w = Payload.verdict_of (Payloads.payload w.books n w.store)

-- pacing refuses no message that the tests accept
finished_accepts : (c : Settings) (p : Pushed) (k : SenderCongestionControl) (now m n : ℕ) → Message.verdict_of (Messages.finished c p (input k now m n)) ≡ accepted
unfolding input
finished_accepts c p k now m n = go (due k.next now)
  where
    go : (t : Bool) → Message.verdict_of (Messages.finished c p (cond t (Ok (Some (snd_period (moved k now)), kept k now m n)) (Ok (None, kept k now m n)))) ≡ accepted
    go true = refl
    go false = refl

module _ (w : World) (r : Refusal) where
  abbrev g : Books
  g = w.books

  message-stays : (time now : ℕ) (bytes : List ℕ) → verdict_in (message time now bytes) w ≡ Err r → after (message time now bytes) w ≡ w
  unfolding verdict_in after Messages.message Messages.done
  message-stays time now bytes = go (Messages.message_verdict g time now (length bytes) (length w.store))
    where
      left : Verdict → Messages.Messages
      left v = answer (λ q. Messages.area (Err q) g.ring g.lost w.store) v (Messages.done g time now bytes w.store)

      go : (v : Verdict) → Message.verdict_of (left v).answer ≡ Err r
          → record { books = books (Message.sender_after g.sender (left v).answer) (left v).ring (left v).lost; store = (left v).store } ≡ w
      go (Ok _) e = let z : accepted ≡ Err r = sym (finished_accepts _ _ _ _ _ _) ∙ e in cc
      go (Err q) e = refl

  nak-stays : (words list : List ℕ) → verdict_in (nak words list) w ≡ Err r → after (nak words list) w ≡ w
  unfolding verdict_in after Naks.nak
  nak-stays words list = go (Naks.nak_verdict g words (length list))
    where
      left : Verdict → Naks.Naks
      left v = answer (λ q. Naks.naks (Err q) g.lost list) v (Naks.nak_by g.sender (Report.add g.sender.buffer words g.lost list))

      go : (v : Verdict) → Nak.verdict_of (left v).answer ≡ Err r
          → record { books = books (Nak.sender_after g.sender (left v).answer) g.ring (left v).lost; store = w.store } ≡ w
      go (Ok _) e = cc
      go (Err q) e = refl

-- ## An ACK

-- the same world with other books of the buffer
abbrev with_buffer : SendBuffer → World → World
with_buffer b w =
    let g = w.books in
    record { books = books (Messages.sender_of g.sender.settings b g.sender.pacing) g.ring g.lost; store = w.store }

-- the same world with the round-trip time of an ACK
abbrev pub with_rtt : Option Rtt → World → World
with_rtt rtt w = with_buffer (AckOf.take_rtt rtt (state_of w.books)).books w

-- an answer of buffer_ack, within the sender
shown : (s : Sender) (a : Result (SendBuffer × AckAction) (SendBuffer × Refusal)) → (Ack.verdict_of (Acks.acknowledged s a) ≡ AckOf.verdict_of a)
    × (Ack.sender_after (Acks.acknowledged s a) ≡ Messages.sender_of s.settings (AckOf.books_of a) s.pacing)
shown s (Ok (b, a)) = (refl, refl)
shown s (Err (b, q)) = (refl, refl)

-- the tests before an ACK reaches the buffer never give 11
early-not_11 : (a b d f : Bool) (q : Refusal)
    → Messages.then (when a BadStore (when b BadState accepted)) (when d BadNumber (when f BadRtt accepted)) ≡ Err q
    → number_of q ≡ 11
    → ⊥
early-not_11 true b d f q e n = let z : number_of q ≡ 2 = cc in omega (arith, z, n)
early-not_11 false true d f q e n = let z : number_of q ≡ 3 = cc in omega (arith, z, n)
early-not_11 false false true f q e n = let z : number_of q ≡ 7 = cc in omega (arith, z, n)
early-not_11 false false false true q e n = let z : number_of q ≡ 8 = cc in omega (arith, z, n)
early-not_11 false false false false q e n = let z : ◌≡◌ {A = ℕ} 0 1 = cc in omega arith

-- a refused ACK leaves the buffer's books unchanged, except by 11
ack_leaves : (w : World) (r : Refusal) (n : ℕ) (full : Option ℕ) (rtt : Option Rtt) → verdict_in (ack n full rtt) w ≡ Err r
    → after (ack n full rtt) w ≡ with_buffer (cond (eqb (number_of r) 11) (AckOf.take_rtt rtt (state_of w.books)).books w.books.sender.buffer) w
unfolding verdict_in after Acks.ack Acks.ack_verdict judge
ack_leaves w r n full rtt = go (Acks.ack_verdict g n rtt) refl
  where
    g : Books
    g = w.books

    said : Result (SendBuffer × AckAction) (SendBuffer × Refusal)
    said = AckOf.update (rules_of g) (record { 0 = n }) full rtt (state_of g)

    left : Verdict → Result (Sender × AckAction) (Sender × Refusal)
    left v = answer (λ r. Err (g.sender, r)) v (Acks.acknowledged g.sender said)

    go : (v : Verdict) → Acks.ack_verdict g n rtt ≡ v → Ack.verdict_of (left v) ≡ Err r
        → record { books = books (Ack.sender_after (left v)) g.ring g.lost; store = w.store }
        ≡ with_buffer (cond (eqb (number_of r) 11) (AckOf.take_rtt rtt (state_of g)).books g.sender.buffer) w
    go (Ok _) d e =
        let x = shown g.sender said in
        ap (λ (s : Sender). record { books = books s g.ring g.lost; store = w.store }) x.1
        ∙ ap (λ (b : SendBuffer). with_buffer b w) (refused-keeps (rules_of g) (record { 0 = n }) full rtt (state_of g) r (sym x.0 ∙ e))
    go (Err q) d e =
        let same : number_of r ≡ number_of q = cc in
        let short = areas_short (rules_of g) (length g.ring) (length g.lost) in
        let early = early-not_11 short (not (keptBooks g)) (leb (2 ^ 31) n) (bad_rtt rtt) q d in
        rw (ne_eqb (number_of r) 11 (λ is. early (sym same ∙ is)))

ack-stays : (w : World) (r : Refusal) (n : ℕ) (full : Option ℕ) (rtt : Option Rtt) → verdict_in (ack n full rtt) w ≡ Err r → (number_of r ≡ 11 → ⊥)
    → after (ack n full rtt) w ≡ w
ack-stays w r n full rtt e other = ack_leaves w r n full rtt e ∙ rw (ne_eqb (number_of r) 11 other)

-- 11 keeps the ACK's round-trip time, and changes nothing else
pub stale-keeps : (w : World) (r : Refusal) (n : ℕ) (full : Option ℕ) (rtt : Option Rtt) → verdict_in (ack n full rtt) w ≡ Err r → number_of r ≡ 11
    → after (ack n full rtt) w ≡ with_rtt rtt w
stale-keeps w r n full rtt e is = ack_leaves w r n full rtt e ∙ rw is

-- ## Any call

pub refused-stays : (k : Call) (w : World) (r : Refusal) → verdict_in k w ≡ Err r → (number_of r ≡ 11 → ⊥) → after k w ≡ w
unfolding verdict_in after Runs.run
refused-stays (message time now bytes) w r e n = message-stays w r time now bytes e
refused-stays (ack m full rtt) w r e n = ack-stays w r m full rtt e n
refused-stays (nak words list) w r e n = nak-stays w r words list e
refused-stays (run now p draining list) w r e n = go (Runs.run_verdict g now p (length list)) e
  where
    g : Books
    g = w.books

    left : Verdict → Runs.Runs
    left v =
        answer (λ q. Runs.runs (Err q) g.ring g.lost list) v (Runs.ran_by g.sender (Run₀.run (rules_of g) now draining p (state_of g) list))

    go : (v : Verdict) → Run.verdict_of (left v).answer ≡ Err r
        → record { books = books (Run.sender_after g.sender (left v).answer) (left v).ring (left v).lost; store = w.store } ≡ w
    go (Ok _) e = cc
    go (Err q) e = refl
refused-stays (payload m) w r e n = refl

-- the lent list of a refused call is unchanged too
pub refused-list : (w : World) (r : Refusal)
    → ((words list : List ℕ) → verdict_in (nak words list) w ≡ Err r → (Naks.nak w.books words list).out ≡ list)
    × ((now p : ℕ) (draining : Bool) (list : List ℕ) → verdict_in (run now p draining list) w ≡ Err r → (Runs.run w.books now p draining list).out ≡ list)
unfolding verdict_in Naks.nak Runs.run
refused-list w r = (
  λ words list. go (Report.add w.books.sender.buffer words w.books.lost list) list (Naks.nak_verdict w.books words (length list)),
  λ now p draining list. on (Run₀.run (rules_of w.books) now draining p (state_of w.books) list) list (Runs.run_verdict w.books now p (length list)),
)
  where
    go : (a : Report.Left) (list : List ℕ) (v : Verdict)
        → Nak.verdict_of (answer (λ q. Naks.naks (Err q) w.books.lost list) v (Naks.nak_by w.books.sender a)).answer ≡ Err r
        → (answer (λ q. Naks.naks (Err q) w.books.lost list) v (Naks.nak_by w.books.sender a)).out ≡ list
    go a list (Ok _) e = cc
    go a list (Err q) e = refl

    on : (a : Run₀.Walk) (list : List ℕ) (v : Verdict)
        → Run.verdict_of (answer (λ q. Runs.runs (Err q) w.books.ring w.books.lost list) v (Runs.ran_by w.books.sender a)).answer ≡ Err r
        → (answer (λ q. Runs.runs (Err q) w.books.ring w.books.lost list) v (Runs.ran_by w.books.sender a)).out ≡ list
    on a list (Ok _) e = cc
    on a list (Err q) e = refl
