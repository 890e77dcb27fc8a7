-- What a late drop may remove.
--   is_drop, drops rs    how many of the records are drops
--   Overdue c now ps i   the packet at index i is late, or is of the same message as the last late one before it
use Rattle.std.specs.Prelude.{◌≡◌, List, [], ◌∷◌, ◌+◌, ◌<◌, ◌≤◌, ℕ, get_or}
use Rattle.rules.specs.Records.{Action, ByLoss, ByTime, Drop, Kind, Send, WaitAck, WaitInput}
use Rattle.rules.specs.Sender.{Packet, nothing}
use Rattle.rules.specs.Settings.{Settings, late_window}

abbrev pub is_drop : Kind → ℕ
is_drop Send = 0
is_drop ByTime = 0
is_drop ByLoss = 0
is_drop Drop = 1
is_drop WaitInput = 0
is_drop WaitAck = 0

abbrev pub drops : List Action → ℕ
drops [] = 0
drops (a ∷ rs) = is_drop a.kind + drops rs

pub data Overdue (c : Settings) (now : ℕ) (ps : List Packet) (i : ℕ) : Type 0 where
  itself : (get_or ps i nothing).time + late_window c < now → Overdue c now ps i
  following : (j : ℕ) → j < i → (get_or ps j nothing).time + late_window c < now
      → ((m : ℕ) → j < m → m ≤ i → now ≤ (get_or ps m nothing).time + late_window c)
      → (get_or ps i nothing).message ≡ (get_or ps j nothing).message → Overdue c now ps i
