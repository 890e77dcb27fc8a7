-- What the code of the calls requires, and that it agrees with its definition.
--   Counting s, counting                   the byte count with a message can be summed; it can if 2 and 3 don't apply
--   then-accepted, then-refused, then_by   the tests after 2 and 3
--   short-is                               a chain of the tests for 2 is the verdict; no code cites it now
--   Pushable, pushable                     a message that no test refuses
--   push-done, finished_as                 its answer, from what was pushed and what pacing answered
--   made-bad, made-refused, made-ready     a request for a new sender, by its settings and then by its mode: steps of
--                                          the definition, which no code cites now
use Rattle.std.specs.Prelude.{◌≡◌, Bool, cond, not, ◌||◌, ◌&&◌, List, ltb, Option, Result, Ok, Err, ℕ}
use Rattle.std.proofs.Math.Path.{refl}
use Rattle.std.proofs.Common.{sym, ap, ◌∙◌, arith}
use Rattle.std.proofs.Math.Bool.{true, false}
use Prim.Native.Nat.{ℕ, ◌+◌, ◌*◌, ◌^◌, ◌≤◌, ◌<◌}
use Rattle.std.proofs.Math.Dec.{leb}
use Rattle.std.proofs.Math.ListN.{length}
use borrow.Author.Tests.{ltb-false, leb-false}
use Rattle.rules_refusals.specs.declared.Refusal.{Refusal}
use Rattle.rules_refusals.specs.declared.Refusal.TheVariants.{BadSetting, BadTime, TooLong, CountFull}
use Rattle.rules_refusals.specs.Verdict.{Verdict, accepted, when, answer}
use Rattle.refusals.specs.Laws.{when-accepted}
use Rattle.rules_packets.specs.Split.{count}
use Rattle.rules_pacing.specs.declared.SenderCongestionControl.{SenderCongestionControl}
use Rattle.rules_pacing.specs.declared.LiveBandwidthMode.{LiveBandwidthMode}
use Rattle.rules_pacing.specs.Period.{mode_in_range}
use Rattle.rules_pacing.specs.Kept.{new}
use Rattle.rules_pacing.specs.Kept as PacingBooks
use Rattle.rules_pacing.specs.Pacing.{count_full, input, on_input}
use Rattle.pacing.specs.Laws.Pacing as PacingLaws
use Rattle.rules.specs.Settings.{Settings, in_range, store_size}
use Rattle.rules.specs.Refusals.{new_verdict}
use Rattle.rules_theorems.proofs.Verdicts.{or-false}
use Rattle.buffer.specs.declared.Settings as code
use Rattle.buffer.specs.declared.SendBuffer.{SendBuffer}
use Rattle.buffer.specs.State.{settings_of, fresh}
use Rattle.buffer.specs.State.Facts.{stands_facts}
use Rattle.book_rules.specs.Kept.Stands.{kept-ready}
use Rattle.buffer_push.specs.declared.Pushed.{Pushed}
use Rattle.buffer_push.specs.Message as Message
use Rattle.buffer_push.specs.Message.{Pushing, work, pushing}
use Rattle.buffer_push.specs.Message.Laws.{message-made}
use Rattle.buffer_push.specs.Message.Whole.{Sendable}
use Rattle.sender.specs.declared.Sender.{Sender}
use Rattle.sender.specs.SenderAndAreas.{Books, state_of, rules_of, areas_short, store_short, judge}
use Rattle.sender.specs.SenderAndAreas.Laws.{judged}
use Rattle.sender.specs.Calls.{sender_of, made, count_is_full, input_verdict, message_verdict, short_for, then, finished, area, done_by, done, judge_with_store}
use Rattle.sender.specs.declared.Answer.{Answer}

pub record Counting (s : Sender) : Type 0 where
  pub bytes : s.buffer.bytes < 2 ^ 62
  pub least : 1 ≤ s.settings.size
  pub size : s.settings.size ≤ 1_456
  pub overhead : s.settings.overhead ≤ 128

pub then-accepted : (v w : Verdict) → then v w ≡ accepted → (v ≡ accepted) × (w ≡ accepted)
then-accepted (Ok _) w e = (refl, e)
then-accepted (Err r) w e = (e, absurd (let z : ◌≡◌ {A = ℕ} 0 1 = cc in omega arith))

module _ (v w : Verdict) (same : v ≡ w) where
  pub then-refused : (x : Verdict) (r : Refusal) → v ≡ Err r → Err r ≡ then w x
  then-refused x r e = ap (λ (u : Verdict). then u x) (sym e ∙ same)

  pub then_by : (x y : Verdict) → v ≡ accepted → x ≡ y → x ≡ then w y
  then_by x y e f = f ∙ ap (λ (u : Verdict). then u y) (sym e ∙ same)

pub counting : (short : Bool) (g : Books) → judge short g ≡ accepted → Counting g.sender
counting short g e =
    let r = kept-ready (rules_of g) (state_of g) (judged short g e).buffer in
    let f = stands_facts r.stands r.kept in
    record { bytes = f.bytes; least = f.settings.least; size = f.settings.size; overhead = f.settings.overhead }

pub short-is : (g : Books) (store : ℕ) (a b : Bool) (v : Verdict) → a ≡ areas_short (rules_of g) (length g.ring) (length g.lost)
    → b ≡ store_short (rules_of g) store
    → v ≡ judge (a || b) g
    → v ≡ judge_with_store g store
short-is g store a b v e f h = h ∙ rw (e, f)

pub record Pushable (g : Books) (time now : ℕ) (payload store : List ℕ) : Type 0 where
  pub sendable : Sendable (rules_of g) (state_of g) time payload store
  pub paced : PacingLaws.Accepted g.sender.pacing now (count g.sender.settings.size (length payload)) (length payload)

store_long : (c : Settings) (n : ℕ) → in_range c ≡ true → store_short c n ≡ false → store_size c ≤ n
unfolding store_short
store_long c n r e = ltb-false n (store_size c) (sym (ap (λ (t : Bool). t && ltb n (store_size c)) r) ∙ e)

module _ (g : Books) (time now : ℕ) (payload store : List ℕ) where
  pub pushable : message_verdict g time now (length payload) (length store) ≡ accepted → Pushable g time now payload store
  unfolding message_verdict input_verdict count_is_full
  pushable e =
      let n : ℕ = length payload in
      let k : ℕ = count g.sender.settings.size n in
      let both = then-accepted (judge (short_for g (length store)) g) (input_verdict g.sender time now n) e in
      let j = judged (short_for g (length store)) g both.0 in
      let r = kept-ready (rules_of g) (state_of g) j.buffer in
      let long = or-false (areas_short (rules_of g) (length g.ring) (length g.lost)) (store_short (rules_of g) (length store)) j.long in
      let a = when-accepted (leb (2 ^ 48) time || leb (2 ^ 48) now) BadTime _ both.1 in
      let times = or-false (leb (2 ^ 48) time) (leb (2 ^ 48) now) a.0 in
      let b = when-accepted (ltb 1_048_576 n) TooLong _ a.1 in
      let d = when-accepted (count_is_full g.sender now n) CountFull _ b.1 in
      let counts = or-false (leb (2 ^ 62) (g.sender.buffer.bytes + n + k * g.sender.settings.overhead)) (count_full g.sender.pacing now k n) d.0 in
      record {
        sendable = record {
          ready = r;
          early = leb-false _ _ times.0;
          short = ltb-false _ _ b.0;
          bytes = leb-false _ _ counts.0;
          room = store_long (rules_of g) (length store) r.kept.fields.settings long.1;
        };
        paced = PacingLaws.accepted g.sender.pacing now k n j.pacing (leb-false _ _ times.1) counts.1;
      }

  module _ (A : Pushable g time now payload store) (p : Pushed) (ring lost over : List ℕ) (q : Result (Option ℕ × SenderCongestionControl) Refusal) (a : Result (Sender × Answer) Refusal)
      (e : pushing (work p ring lost) over ≡ Message.message (rules_of g) time payload (state_of g) store) (f : q ≡ on_input g.sender.pacing now p.made (length payload))
      (h : a ≡ finished g.sender.settings p q) where
    made-is : p.made ≡ count g.sender.settings.size (length payload)
    made-is = ap (λ (w : Pushing). w.work.made) e ∙ message-made A.sendable.ready.stands time now payload store

    paced-is : q ≡ input g.sender.pacing now p.made (length payload)
    paced-is = f ∙ rw made-is (PacingLaws.on_input-accepted g.sender.pacing now _ (length payload) A.paced)

    pub push-done : area a ring lost over ≡ done g time now payload store
    unfolding done
    push-done = rw (h, paced-is) (ap (done_by g.sender now (length payload)) e)

pub finished_as : (c : code.Settings) (p : Pushed) (q x : Result (Option ℕ × SenderCongestionControl) Refusal) → q ≡ x → finished c p x ≡ finished c p q
finished_as c p q x e = ap (finished c p) (sym e)

-- the answer from the new books and from what pacing answered
abbrev start : code.Settings → Result SenderCongestionControl Refusal → Result Sender Refusal
start c (Ok p) = Ok (sender_of c (fresh (settings_of c)) p)
start c (Err r) = Err r

module _ (c : code.Settings) (mode : LiveBandwidthMode) where
  pub made-bad : in_range (settings_of c) ≡ false → Err BadSetting ≡ made c mode
  unfolding made new_verdict
  made-bad e = rw e

  made_by : in_range (settings_of c) ≡ true → start c (new mode) ≡ made c mode
  unfolding made new_verdict new
  made_by e = rw e (go (mode_in_range mode))
    where
      go : (t : Bool) → start c (cond t (Ok (PacingBooks.fresh mode)) (Err BadSetting))
          ≡ answer Err (when (not (true && t)) BadSetting accepted) (Ok (sender_of c (fresh (settings_of c)) (PacingBooks.fresh mode)))
      go true = refl
      go false = refl

  module _ (e : in_range (settings_of c) ≡ true) (m : Result SenderCongestionControl Refusal) (same : m ≡ new mode) where
    pub made-refused : (r : Refusal) → m ≡ Err r → Err r ≡ made c mode
    made-refused r h = ap (start c) (sym h ∙ same) ∙ made_by e

    pub made-ready : (b : SendBuffer) (p : SenderCongestionControl) → m ≡ Ok p → b ≡ fresh (settings_of c) → Ok (sender_of c b p) ≡ made c mode
    made-ready b p h f = rw f (ap (start c) (sym h ∙ same) ∙ made_by e)
