-- The payloads in the store.
--   cuts                    the payloads of n packets of a message, from packet i on
--   payloads, payloads_by   all payloads pushed by accepted messages: the k-th is that of the k-th packet ever pushed
--   Holds                   the store holds the payload of every buffered packet, at its place and with its length; ps
--                           are the payloads ever pushed
use Rattle.std.specs.Prelude.{◌≡◌, List, [], ◌++◌, ◌∷◌, ◌+◌, ◌<◌, ◌≤◌, suc, zero, ℕ, drop, get_or, length, take, Ok, Err}
use Rattle.rules_packets.specs.Split.{count, length_of, start_of}
use Rattle.rules.specs.Calls.{Call, ack, answer, message, nak, payload, runs, verdict_of}
use Rattle.rules.specs.Sender.{Sender, end, packet}
use Rattle.rules.specs.Settings.{Settings, place_of, store_size}
use Rattle.rules_refusals.specs.Verdict.{Verdict}

unfoldable pub cuts : ℕ → List ℕ → ℕ → ℕ → List (List ℕ)
cuts size bytes i zero = []
cuts size bytes i (suc n) = take (length_of size (length bytes) i) (drop (start_of size i) bytes) ∷ cuts size bytes (suc i) n

unfoldable pub payloads_by : Settings → Verdict → Call → List (List ℕ)
payloads_by c (Ok _) (message time now bytes) = cuts c.size bytes 0 (count c.size (length bytes))
payloads_by c (Ok _) (ack number full rtt) = []
payloads_by c (Ok _) (nak words room) = []
payloads_by c (Ok _) (runs now p draining room) = []
payloads_by c (Ok _) (payload number) = []
payloads_by c (Err r) k = []

unfoldable pub payloads : Settings → List Call → Sender → List (List ℕ)
payloads c [] s = []
payloads c (k ∷ ks) s = payloads_by c (verdict_of c k s) k ++ payloads c ks (answer c k s).after

pub record Holds (c : Settings) (s : Sender) (store : List ℕ) (ps : List (List ℕ)) : Type 0 where
  pub pushes : length ps ≡ s.pushed
  pub big : store_size c ≤ length store
  pub lens : (k : ℕ) → s.front ≤ c.first + k → c.first + k < end s → (packet s (c.first + k)).len ≡ length (get_or ps k [])
  pub bytes : (k : ℕ) → s.front ≤ c.first + k → c.first + k < end s
      → (j : ℕ) → j < length (get_or ps k []) → get_or store (place_of c k + j) 0 ≡ get_or (get_or ps k []) j 0
