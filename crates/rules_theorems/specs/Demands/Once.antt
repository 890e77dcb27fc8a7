-- No packet is sent twice in a run.
--   is_flush          a record of the closing flush: the only send of kind 1 that has the retransmitted flag
--   sent_numbers rs   the numbers that the records send, except by the flush
--   Distinct xs       no number occurs twice
use Rattle.std.specs.Prelude.{Bool, ◌&&◌, cond, false, not, List, [], ◌∷◌, ◌%◌, ℕ, eqb}
use Rattle.rules_theorems.specs.Demands.{On}
use Rattle.rules.specs.Records.{Action, ByLoss, ByTime, Drop, Kind, Send, WaitAck, WaitInput, is_send}

unfoldable pub is_flush : Kind → ℕ → Bool
is_flush Send flags = eqb (flags % 2) 1
is_flush ByTime flags = false
is_flush ByLoss flags = false
is_flush Drop flags = false
is_flush WaitInput flags = false
is_flush WaitAck flags = false

unfoldable pub sent_numbers : List Action → List ℕ
sent_numbers [] = []
sent_numbers (a ∷ rs) = cond (eqb (is_send a.kind) 1 && not (is_flush a.kind a.flags)) (a.number ∷ sent_numbers rs) (sent_numbers rs)

abbrev pub Distinct : List ℕ → Type 0
Distinct [] = Unit {0}
Distinct (x ∷ xs) = ¬ On x xs × Distinct xs
