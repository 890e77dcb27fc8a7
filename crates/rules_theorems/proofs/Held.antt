-- After any calls from a fresh sender the store holds the payload of every buffered packet as it was pushed. Only a
-- message writes: it writes its own packets (`written_in`) and no slot of a packet still buffered, since at most the
-- capacity are buffered (`written_out`).
use mathlib.Core.Path.{◌∙◌, ◌≡◌, ap, refl, subst, sym}
use mathlib.Core.Bool.{Bool, false, true}
use mathlib.Core.List.{List, [], ◌++◌, ◌∷◌, append_assoc, append-nil}
use Prim.Native.Nat.{◌+◌, ◌-◌, ◌<◌, ◌≤◌, suc, zero, ℕ}
use native.Mathlib.Omega.{arith}
use lib.Dec.{ltb}
use lib.ListN.{get_or-append, drop, get_or, length, length-append, length-drop, length-take, take}
use lib.Seq.{get_or-append-add, get_or-drop, get_or-take}
use borrow.Author.Tests.{ltb-false, ltb-true}
use Rattle.rules_refusals.specs.declared.Refusal.{Refusal}
use Rattle.rules_packets.specs.Split.{count, length_of, start_of}
use Rattle.rules_pacing.specs.declared.LiveBandwidthMode.{LiveBandwidthMode}
use Rattle.rules.specs.Ack.{ack_of}
use Rattle.rules.specs.Calls.{Answer, Call, ack, after, answer, answer_by, calls, left, message, nak, payload, runs, store_after, store_by, stores, verdict_of}
use Rattle.rules.specs.Losses.{words_of, items_of}
use Rattle.rules.specs.Message.{packet_of, packets_from, packets_of, stored, written}
use Rattle.rules_theorems.specs.Demands.{AllGiven, Given}
use Rattle.rules.specs.Sender.{Packet, Sender, end, fresh, nothing, packet, sent_of}
use Rattle.rules.specs.Settings.{Settings, capacity, place_of, store_size}
use Rattle.rules_theorems.specs.Laws.BookRules.{Kept, Unsent}
use Rattle.rules_theorems.specs.Laws.Calls.{answer-taken, answer-verdict}
use Rattle.rules_theorems.specs.Demands.Store.{Holds, cuts, payloads, payloads_by}
use Rattle.rules_theorems.proofs.CallsKept.{answer-kept}
use Rattle.rules_theorems.proofs.Counts.{Queued, message-counts}
use Rattle.rules_theorems.proofs.Packets.{all-at}
use Rattle.rules_theorems.proofs.Places.{Numbered, Steady, ack_steady, answer-numbered, left_steady, nak_steady, run_steady}
use Rattle.rules_theorems.proofs.RunKept.{old-at}
use Rattle.rules_theorems.proofs.Store.{written_in, written-length, written_out}
use Rattle.rules_theorems.proofs.Verdicts.{ack-taken}
use Rattle.std.specs.Prelude.{Ok, Err}
use Rattle.rules_refusals.specs.Verdict.{Verdict, accepted}

cuts-length : (size : ℕ) (bytes : List ℕ) (i n : ℕ) → length (cuts size bytes i n) ≡ n
unfolding cuts
cuts-length size bytes i zero = refl
cuts-length size bytes i (suc n) = ap suc (cuts-length size bytes (suc i) n)

cuts-at : (size : ℕ) (bytes : List ℕ) (i n x : ℕ) → x < n
    → get_or (cuts size bytes i n) x [] ≡ take (length_of size (length bytes) (i + x)) (drop (start_of size (i + x)) bytes)
unfolding cuts
cuts-at size bytes i zero x h = absurd (omega arith)
cuts-at size bytes i (suc n) zero h = let a : i + 0 ≡ i = omega arith in rw a
cuts-at size bytes i (suc n) (suc x) h = let a : i + suc x ≡ suc i + x = omega arith in rw a (cuts-at size bytes (suc i) n x (omega arith))

packets-length : (c : Settings) (t m len k n : ℕ) → length (packets_from c t m len k n) ≡ n
unfolding packets_from
packets-length c t m len k zero = refl
packets-length c t m len k (suc n) = ap suc (packets-length c t m len (suc k) n)

packets-at : (c : Settings) (t m len k n x : ℕ) → x < n → (get_or (packets_from c t m len k n) x nothing).len ≡ length_of c.size len (k + x)
unfolding packets_from packet_of
packets-at c t m len k zero x h = absurd (omega arith)
packets-at c t m len k (suc n) zero h = let a : k + 0 ≡ k = omega arith in rw a
packets-at c t m len k (suc n) (suc x) h =
    let a : k + suc x ≡ suc k + x = omega arith in rw a (packets-at c t m len (suc k) n x (omega arith))

module _ (c : Settings) where
  len-size : (s : Sender) → Kept c s → (n : ℕ) → s.front ≤ n → n < end s → (packet s n).len ≤ c.size
  unfolding packet
  len-size s g n lo hi = go (ltb n s.next) refl
    where
      go : (b : Bool) → ltb n s.next ≡ b → (packet s n).len ≤ c.size
      go true e =
          let h : n < s.next = ltb-true _ _ e in
          (old-at c s n g lo h (omega arith) (simp length-take (omega (arith, g.good.high)))).len
      go false e =
          let h : s.next ≤ n = ltb-false _ _ e in
          let i : n - s.next < length (drop (sent_of s) s.packets) = simp length-drop (omega (arith, g.good.low)) in
          let q = all-at (Unsent c) (drop (sent_of s) s.packets) (n - s.next) i g.new in
          let a : sent_of s + (n - s.next) ≡ n - s.front = omega (arith, g.good.low) in
          let p : get_or (drop (sent_of s) s.packets) (n - s.next) nothing ≡ get_or s.packets (n - s.front) nothing =
          get_or-drop (sent_of s) s.packets (n - s.next) nothing ∙ ap (λ (x : ℕ). get_or s.packets x nothing) a
          in
          (rw p at q).len

  steady_holds : (s t : Sender) (store : List ℕ) (ps : List (List ℕ)) → Steady s t → Holds c s store ps → Holds c t store ps
  steady_holds s t store ps a h = record {
    pushes = h.pushes ∙ sym a.pushed;
    big = h.big;
    lens = λ k lo hi. a.lens (c.first + k) lo hi ∙ h.lens k (omega (arith, a.up)) (omega (arith, a.ends));
    bytes = λ k lo hi. h.bytes k (omega (arith, a.up)) (omega (arith, a.ends));
  }

  module _ (time now : ℕ) (bytes : List ℕ) (s t : Sender) (store : List ℕ) (ps : List (List ℕ)) (removed : List Packet)
      (q : Queued c s t (packets_of c time s.messages (length bytes)) removed) (g : Kept c s) (g' : Kept c t)
      (num : end s ≡ c.first + s.pushed) (h : Holds c s store ps)
    where
      abbrev made : ℕ
      made = count c.size (length bytes)

      ends : end t ≡ c.first + s.pushed + made
      ends =
          let l = simp length-append at (ap length q.packets) in
          omega (arith, q.front, l, packets-length c time s.messages (length bytes) 0 made)

      -- where a buffered packet was in the old buffer with the new packets behind it
      stood : (n : ℕ) → t.front ≤ n
          → packet t n ≡ get_or (s.packets ++ packets_of c time s.messages (length bytes)) (n - s.front) nothing
      unfolding packet
      stood n lo =
          let a : length removed + (n - t.front) ≡ n - s.front = omega (arith, q.front) in
          sym (get_or-append-add removed t.packets (n - t.front) nothing)
          ∙ (ap (λ (i : ℕ). get_or (removed ++ t.packets) i nothing) a
          ∙ ap (λ (l : List Packet). get_or l (n - s.front) nothing) q.packets)

      pushed_at : (k : ℕ) → k < s.pushed → get_or (ps ++ cuts c.size bytes 0 made) k [] ≡ get_or ps k []
      pushed_at k l = get_or-append ps (cuts c.size bytes 0 made) [] k (omega (arith, h.pushes))

      made_at : (k : ℕ) → s.pushed ≤ k → k < s.pushed + made
          → get_or (ps ++ cuts c.size bytes 0 made) k []
          ≡ take (length_of c.size (length bytes) (k - s.pushed)) (drop (start_of c.size (k - s.pushed)) bytes)
      made_at k lo hi =
          let a : k ≡ length ps + (k - s.pushed) = omega (arith, h.pushes) in
          let b : 0 + (k - s.pushed) ≡ k - s.pushed = omega arith in
          ap (λ (i : ℕ). get_or (ps ++ cuts c.size bytes 0 made) i []) a
          ∙ (get_or-append-add ps (cuts c.size bytes 0 made) (k - s.pushed) []
          ∙ (cuts-at c.size bytes 0 made (k - s.pushed) (omega arith)
          ∙ ap (λ (i : ℕ). take (length_of c.size (length bytes) i) (drop (start_of c.size i) bytes)) b))

      old-packet : (k : ℕ) → k < s.pushed → s.front ≤ c.first + k
          → get_or (s.packets ++ packets_of c time s.messages (length bytes)) (c.first + k - s.front) nothing ≡ packet s (c.first + k)
      unfolding packet
      old-packet k l low =
          get_or-append s.packets (packets_of c time s.messages (length bytes)) nothing (c.first + k - s.front) (omega arith)

      cut-length : (x : ℕ) → length (take (length_of c.size (length bytes) x) (drop (start_of c.size x) bytes))
          ≡ length_of c.size (length bytes) x
      cut-length x = simp (length-take, length-drop) (omega arith)

      message-holds : Holds c t (written c bytes s.pushed 0 made store) (ps ++ cuts c.size bytes 0 made)
      message-holds = record {
        pushes = rw length-append (omega (
          arith,
          h.pushes,
          q.pushed,
          cuts-length c.size bytes 0 made,
          packets-length c time s.messages (length bytes) 0 made,
        ));
        big = omega (arith, h.big, written-length c bytes s.pushed 0 made store h.big);
        lens = λ k lo hi. lens-by k lo hi (ltb k s.pushed) refl;
        bytes = λ k lo hi. bytes-by k lo hi (ltb k s.pushed) refl;
      }
        where
          few : length t.packets ≤ capacity c
          few = g'.fits

          lens-by : (k : ℕ) → t.front ≤ c.first + k → c.first + k < end t → (b : Bool) → ltb k s.pushed ≡ b
              → (packet t (c.first + k)).len ≡ length (get_or (ps ++ cuts c.size bytes 0 made) k [])
          lens-by k lo hi true e =
              let l : k < s.pushed = ltb-true _ _ e in
              let low : s.front ≤ c.first + k = omega (arith, q.front) in
              ap (λ (p : Packet). p.len) (stood (c.first + k) lo ∙ old-packet k l low)
              ∙ (h.lens k low (omega arith) ∙ ap length (sym (pushed_at k l)))
          lens-by k lo hi false e =
              let l : s.pushed ≤ k = ltb-false _ _ e in
              let x : ℕ = k - s.pushed in
              let m : k < s.pushed + made = omega (arith, ends) in
              let a : c.first + k - s.front ≡ length s.packets + (k - s.pushed) = omega arith in
              let z : 0 + (k - s.pushed) ≡ k - s.pushed = omega arith in
              ap (λ (p : Packet). p.len)
              (stood (c.first + k) lo
              ∙ (ap (λ (i : ℕ). get_or (s.packets ++ packets_of c time s.messages (length bytes)) i nothing) a
              ∙ get_or-append-add s.packets (packets_of c time s.messages (length bytes)) (k - s.pushed) nothing))
              ∙ (packets-at c time s.messages (length bytes) 0 made (k - s.pushed) (omega arith)
              ∙ (ap (length_of c.size (length bytes)) z ∙ (sym (cut-length (k - s.pushed)) ∙ ap length (sym (made_at k l m)))))

          bytes-by : (k : ℕ) → t.front ≤ c.first + k → c.first + k < end t → (b : Bool) → ltb k s.pushed ≡ b → (j : ℕ)
              → j < length (get_or (ps ++ cuts c.size bytes 0 made) k [])
              → get_or (written c bytes s.pushed 0 made store) (place_of c k + j) 0
              ≡ get_or (get_or (ps ++ cuts c.size bytes 0 made) k []) j 0
          bytes-by k lo hi true e j w =
              let l : k < s.pushed = ltb-true _ _ e in
              let low : s.front ≤ c.first + k = omega (arith, q.front) in
              let high : c.first + k < end s = omega arith in
              let w' : j < length (get_or ps k []) = rw (pushed_at k l) at w in
              let small : j < c.size = omega (arith, h.lens k low high, len-size s g (c.first + k) low high) in
              written_out c bytes s.pushed 0 made store h.big k j l (omega (arith, ends)) small
              ∙ (h.bytes k low high j w' ∙ ap (λ (p : List ℕ). get_or p j 0) (sym (pushed_at k l)))
          bytes-by k lo hi false e j w =
              let l : s.pushed ≤ k = ltb-false _ _ e in
              let m : k < s.pushed + made = omega (arith, ends) in
              let a : s.pushed + (k - s.pushed) ≡ k = omega arith in
              let z : 0 + (k - s.pushed) ≡ k - s.pushed = omega arith in
              let w' : j < length_of c.size (length bytes) (k - s.pushed) = rw (cut-length (k - s.pushed)) at
              (rw (made_at k l m) at w) in
              let i = written_in c bytes s.pushed 0 made store h.big (k - s.pushed) j (omega arith) (omega (arith, ends))
              (rw z w') in
              (rw (a, z) at i)
              ∙ (sym (get_or-drop (start_of c.size (k - s.pushed)) bytes j 0)
              ∙ (sym (get_or-take (length_of c.size (length bytes) (k - s.pushed)) (drop (start_of c.size (k - s.pushed)) bytes) j 0 w')
              ∙ ap (λ (p : List ℕ). get_or p j 0) (sym (made_at k l m))))

  module _ (store : List ℕ) (ps : List (List ℕ)) where
    none-pushed : (s : Sender) (st : List ℕ) → Holds c s st ps → Holds c s st (ps ++ [])
    none-pushed s st h = rw (append-nil ps) h

    refused-holds : (k : Call) (s : Sender) (r : Refusal) → Holds c s store ps
        → Holds c (left k s r) (store_by c (Err r) k s store) (ps ++ payloads_by c (Err r) k)
    unfolding store_by payloads_by
    refused-holds k s r h = none-pushed (left k s r) store (steady_holds s (left k s r) store ps (left_steady c k s r) h)

    taken : (k : Call) (s : Sender) → Given k → Kept c s → Numbered c s → Holds c s store ps → verdict_of c k s ≡ accepted
        → Holds c (after c k s) (store_by c accepted k s store) (ps ++ payloads_by c accepted k)
    unfolding store_by payloads_by verdict_of after stored
    taken (message time now bytes) s w g num h e =
        let v = answer-verdict c (message time now bytes) s ∙ e in
        let m = message-counts c time now bytes s v in
        let k = answer-kept c (message time now bytes) s tt g in
        subst (λ (a : Answer). Holds c a.after (written c bytes s.pushed 0 (count c.size (length bytes)) store)
        (ps ++ cuts c.size bytes 0 (count c.size (length bytes)))) (answer-taken c (message time now bytes) s v)
        (message-holds time now bytes s (answer c (message time now bytes) s).after store ps m.removed m.queued g k num h)
    taken (ack n full rtt) s w g num h e =
        let t = ack-taken c n full rtt s e in
        none-pushed _ store (steady_holds s _ store ps
        (ack_steady c (ack_of s n) full rtt s (omega (arith, t.kept.good.high, t.near))) h)
    taken (nak words room) s w g num h e = none-pushed _ store (steady_holds s _ store ps (nak_steady c (items_of (words_of words)) s) h)
    taken (runs now p draining room) s w g num h e =
        none-pushed _ store (steady_holds s _ store ps (run_steady c now draining p s g.good) h)
    taken (payload n) s w g num h e = none-pushed s store h

    answer-holds : (k : Call) (s : Sender) → Given k → Kept c s → Numbered c s → Holds c s store ps
        → Holds c (answer c k s).after (store_after c k s store) (ps ++ payloads_by c (verdict_of c k s) k)
    unfolding answer answer_by store_after
    answer-holds k s w g num h = go (verdict_of c k s) refl
      where
        go : (v : Verdict) → verdict_of c k s ≡ v → Holds c (answer_by c v k s).after (store_by c v k s store) (ps ++ payloads_by c v k)
        go (Ok _) e = taken k s w g num h e
        go (Err r) e = refused-holds k s r h

  pub calls_hold : (ks : List Call) (s : Sender) (store : List ℕ) (ps : List (List ℕ)) → AllGiven ks → Kept c s → Numbered c s
      → Holds c s store ps
      → Holds c (calls c ks s) (stores c ks s store) (ps ++ payloads c ks s)
  unfolding calls stores payloads
  calls_hold [] s store ps w g num h = none-pushed store ps s store h
  calls_hold (k ∷ ks) s store ps w g num h =
      rw (sym (append_assoc ps (payloads_by c (verdict_of c k s) k) (payloads c ks (answer c k s).after)))
      (calls_hold ks (answer c k s).after (store_after c k s store) (ps ++ payloads_by c (verdict_of c k s) k) w.1
      (answer-kept c k s w.0 g)
      (answer-numbered c k s num) (answer-holds store ps k s w.0 g num h))

  -- a store of the size that is needed holds all that is buffered from the start, which is nothing
  pub fresh_holds : (mode : LiveBandwidthMode) (store : List ℕ) → store_size c ≤ length store → Holds c (fresh c mode) store []
  unfolding fresh
  fresh_holds mode store h =
      record { pushes = refl; big = h; lens = λ k lo hi. absurd (omega arith); bytes = λ k lo hi. absurd (omega arith) }
