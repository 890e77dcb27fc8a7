-- The array has as many bytes as it is made with. By a law over any count, so that the checker doesn't count a million out.
use Rattle.std.proofs.Common.{◌≡◌, ℕ, length, sym}
use Rattle.std.proofs.Math.ListN.{replicate}
use Rattle.std.proofs.lemmas.List.{length-replicate}
use Rattle.sessions.proofs.messages.too_long.Goals as goal

as_many : (n : ℕ) → n ≡ length {A = ℕ} (replicate n 0)
as_many n = sym (length-replicate n 0)

pub returns : goal.returns
returns c = as_many 1048577
