-- A message on the sender and its lent areas is the message of the rules, for every sender that the books represent and
-- that keeps the book rules.
--   verdict_of, said_of, sender_after   an answer's verdict, its values, and the sender from then on
--   period_in, made_verdict             a new period, if any; the verdict on a new sender
--   Answers                             an outcome of the call is an answer of the rules, with the same store
--   verdict-is                          the tests give the verdict of the rules
--   message_refines                     the call answers and leaves what the rules say
--   message-short, message-broken       if an area is too short; and otherwise, if the books break a rule
--   made-verdict, new_refines           a request for a new sender: its verdict; the new sender is the fresh one of the
--                                       rules
use Rattle.std.specs.Prelude.{◌≡◌, Bool, true, false, cond, List, [], ◌∷◌, leb, eqb, Option, Some, None, Result, Ok, Err, ℕ}
use Rattle.std.proofs.Math.Path.{refl, sym, ap}
use Rattle.std.proofs.Common.{◌∙◌}
use Prim.Native.Nat.{ℕ, ◌*◌, ◌≤◌}
use Rattle.std.proofs.Math.ListN.{length}
use borrow.Author.Tests.{le-ltb}
use Rattle.rules_refusals.specs.declared.Refusal.{Refusal}
use Rattle.rules_refusals.specs.declared.Refusal.TheVariants.{BadStore, BadState}
use Rattle.rules_refusals.specs.Table.{number_of}
use Rattle.rules_refusals.specs.Verdict.{Verdict, accepted, answer}
use Rattle.laws.specs.Choice.{cond-by}
use Rattle.rules_packets.specs.Split.{count}
use Rattle.rules_pacing.specs.declared.SenderCongestionControl.{SenderCongestionControl}
use Rattle.rules_pacing.specs.declared.LiveBandwidthMode.{LiveBandwidthMode}
use Rattle.rules_pacing.specs.Kept as Pacing
use Rattle.rules_pacing.specs.Pacing.{after, due, input, moved, snd_period}
use Rattle.rules.specs.Settings.{Settings, store_size, in_range, capacity}
use Rattle.rules.specs.Sender as rules
use Rattle.rules.specs.Sender.{Packet}
use Rattle.rules_theorems.specs.Laws.BookRules.{Kept, facts_kept}
use Rattle.rules.specs.Message.{period_of, push, push_all, append, make_room, begin, packets_of}
use Rattle.rules.specs.Refusals as tests
use Rattle.rules.specs.Calls as calls
use Rattle.buffer.specs.declared.Settings as code
use Rattle.buffer.specs.State.{settings_of, fresh}
use Rattle.buffer.specs.State.Fresh.{fresh-stands}
use Rattle.buffer_push.specs.declared.Pushed.{Pushed}
use Rattle.buffer_push.specs.Message as Message
use Rattle.buffer_push.specs.Message.Laws.{message_refines as buffer-refines, message-made, message-said, message-store}
use Rattle.sender.specs.declared.Sender.{Sender}
use Rattle.sender.specs.SenderAndAreas.{Books, books, state_of, rules_of, store_short, kept, judge}
use Rattle.sender.specs.SenderAndAreas.Stands.{StandsFor, stands_as, areas-long, judge-accepted, judge-short, judge-broken}
use Rattle.sender.specs.Calls.{sender_of, made, count_is_full, input_verdict, message_verdict, short_for, finished, Messages, area, pushed_of, done, message}
use Rattle.sender.specs.declared.Answer.{Answer}

abbrev pub verdict_of : Result (Sender × Answer) Refusal → Verdict
verdict_of (Ok (s, a)) = accepted
verdict_of (Err r) = Err r

abbrev pub period_in : Option ℕ → Option ℕ
period_in None = None
period_in (Some n) = Some n

abbrev pub said_of : Result (Sender × Answer) Refusal → calls.Said
said_of (Ok (s, a)) = calls.Pushed a.made a.removed a.bytes (period_in a.period)
said_of (Err r) = calls.Nothing

abbrev pub sender_after : Sender → Result (Sender × Answer) Refusal → Sender
sender_after s (Ok (t, a)) = t
sender_after s (Err r) = s

-- the outcome l of the call is the answer a of the rules, and it leaves the same store
pub record Answers (g : Books) (bytes : List ℕ) (l : Messages) (a : calls.Answer) : Type 0 where
  pub verdict : verdict_of l.answer ≡ a.verdict
  pub said : said_of l.answer ≡ a.said
  pub settings : (sender_after g.sender l.answer).settings ≡ g.sender.settings
  pub stands : StandsFor (books (sender_after g.sender l.answer) l.ring l.lost) a.after
  pub store : l.store ≡ bytes

-- a message's packets don't change pacing
room-pacing : (c : Settings) (s : rules.Sender) → (make_room c s).pacing ≡ s.pacing
unfolding make_room
room-pacing c s = cond-by (λ (t : rules.Sender). t.pacing ≡ s.pacing) (leb _ (length s.packets)) _ s (λ q. refl) (λ q. refl)

push-pacing : (c : Settings) (ps : List Packet) (s : rules.Sender) → (push_all c ps s).pacing ≡ s.pacing
unfolding push_all append
push-pacing c [] s = refl
push-pacing c (p ∷ ps) s = push-pacing c ps (append c p (make_room c s)) ∙ room-pacing c s

-- the answer to an accepted message, whether or not an estimate is due
record Finished (c : code.Settings) (s : Sender) (p : Pushed) (q : Result (Option ℕ × SenderCongestionControl) Refusal) (kept : SenderCongestionControl) : Type 0 where
  pub verdict : verdict_of (finished c p q) ≡ accepted
  pub said : said_of (finished c p q) ≡ calls.Pushed p.made p.removed p.bytes (period_of q)
  pub sender : sender_after s (finished c p q) ≡ sender_of c p.buffer kept

finished-is : (c : code.Settings) (s : Sender) (p : Pushed) (k : SenderCongestionControl) (now m n : ℕ) → Finished c s p (input k now m n) (after k now m n)
unfolding input
finished-is c s p k now m n = go (due k.next now)
  where
    go : (t : Bool) → Finished c s p (cond t (Ok (Some (snd_period (moved k now)), after k now m n)) (Ok (None, after k now m n))) (after k now m n)
    go true = record { verdict = refl; said = refl; sender = refl }
    go false = record { verdict = refl; said = refl; sender = refl }

module _ (g : Books) (s : rules.Sender) (S : StandsFor g s) (K : Kept (rules_of g) s) (time now : ℕ) (payload store : List ℕ) (room : store_size (rules_of g) ≤ length store)
  where
    abbrev c : Settings
    c = rules_of g

    abbrev call : calls.Call
    call = calls.message time now payload

    store_long : store_short c (length store) ≡ false
    unfolding store_short
    store_long = rw (K.fields.settings, le-ltb (length store) (store_size c) room)

    judged : judge (short_for g (length store)) g ≡ accepted
    judged = judge-accepted g s S K (short_for g (length store)) (rw (areas-long g s S, store_long))

    pub verdict-is : message_verdict g time now (length payload) (length store) ≡ tests.message_verdict c time now (length payload) s
    unfolding message_verdict input_verdict count_is_full tests.message_verdict tests.count_is_full
    verdict-is = rw (judged, facts_kept c s K, S.buffer.bytes, S.pacing)

    abbrev pushed : Message.Pushing
    pushed = Message.message c time payload (state_of g) store

    pacing-is : (push c time now (length payload) s).pacing ≡ after s.pacing now (count c.size (length payload)) (length payload)
    unfolding push begin
    pacing-is = push-pacing c (packets_of c time s.messages (length payload)) (begin c now (length payload) s)

    go : (v : Verdict) → Answers g (calls.store_by c v call s store)
        (answer (λ r. area (Err r) g.ring g.lost store) v (done g time now payload store)) (calls.answer_by c v call s)
    unfolding calls.answer_by calls.store_by calls.left calls.with_rtt calls.said_by calls.after done
    go (Err r) = record {
      verdict = refl;
      said = refl;
      settings = refl;
      stands = cond-by (StandsFor g) (eqb (number_of r) 11) s s (λ q. S) (λ q. S);
      store = refl;
    }
    go (Ok _) =
        let n : ℕ = length payload in
        let made = message-made S.buffer time now payload store in
        let F = finished-is g.sender.settings g.sender (pushed_of pushed.work) g.sender.pacing now pushed.work.made n in
        record {
          verdict = F.verdict;
          said = F.said ∙ sym (message-said S.buffer time now payload store ∙ rw (S.pacing, made));
          settings = ap (λ (t : Sender). t.settings) F.sender;
          stands =
              stands_as _ _ pushed.work.state.ring pushed.work.state.lost (push c time now n s) F.sender
              (record { buffer = buffer-refines S.buffer time now payload store; pacing = rw (made, S.pacing) (sym pacing-is) });
          store = message-store S.buffer time now payload store;
        }

    pub message_refines : Answers g (calls.store_after c call s store) (message g time now payload store) (calls.answer c call s)
    unfolding message calls.answer calls.verdict_of calls.store_after
    message_refines = rw verdict-is (go (tests.message_verdict c time now (length payload) s))

module _ (g : Books) (time now : ℕ) (payload store : List ℕ) where
  abbrev refused : Refusal → Messages
  refused r = area (Err r) g.ring g.lost store

  pub message-short : short_for g (length store) ≡ true → message g time now payload store ≡ refused BadStore
  unfolding message message_verdict
  message-short e = rw (e, judge-short g)

  pub message-broken : short_for g (length store) ≡ false → kept g ≡ false → message g time now payload store ≡ refused BadState
  unfolding message message_verdict
  message-broken e b = rw (e, judge-broken g b)

-- ## A request for a new sender

abbrev pub made_verdict : Result Sender Refusal → Verdict
made_verdict (Ok s) = accepted
made_verdict (Err r) = Err r

module _ (c : code.Settings) (mode : LiveBandwidthMode) where
  pub made-verdict : made_verdict (made c mode) ≡ tests.new_verdict (settings_of c) mode
  unfolding made
  made-verdict = go (tests.new_verdict (settings_of c) mode)
    where
      go : (v : Verdict) → made_verdict (answer Err v (Ok (sender_of c (fresh (settings_of c)) (Pacing.fresh mode)))) ≡ v
      go (Ok _) = refl
      go (Err r) = refl

  -- "at start", in any areas that are long enough
  pub new_refines : (ring lost : List ℕ) → in_range (settings_of c) ≡ true → capacity (settings_of c) * 6 ≤ length ring → capacity (settings_of c) ≤ length lost
      → StandsFor (books (sender_of c (fresh (settings_of c)) (Pacing.fresh mode)) ring lost) (rules.fresh (settings_of c) mode)
  unfolding rules.fresh
  new_refines ring lost e area room = record { buffer = fresh-stands (settings_of c) mode ring lost e area room; pacing = refl }
