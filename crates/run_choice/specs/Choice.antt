-- Which of rules 2 to 7 is the first that applies. Document 01, "Run": "While budget remains, the first that applies".
-- A packet is given by its index from the front; b are the books, `ring` the ring's words.
--   rule_by                         the rule, given what each of them tests
--   due_at now b ring               rule 3's choice
--   rule_at c now draining b ring   the first that applies
pub mod Laws
use Rattle.std.specs.Prelude.{Bool, true, false, ◌&&◌, List, ℕ, zero, suc, ltb, eqb, take, Option, Some, None}
use Rattle.rules.specs.Settings.{Settings}
use Rattle.rules.specs.Run.{earliest}
use Rattle.buffer.specs.declared.SendBuffer.{SendBuffer}
use Rattle.buffer.specs.State.{packets_of}
use Rattle.run_choice.specs.declared.Rule.{Rule}
use Rattle.run_choice.specs.declared.Rule.TheVariants as rule

-- given the loss list's length, the packet due, whether the flow window is exceeded, any is unsent, the flush applies
unfoldable pub rule_by : ℕ → Option ℕ → Bool → Bool → Bool → Rule
rule_by (suc n) d over more last = rule.Loss
rule_by zero (Some i) over more last = rule.Due i
rule_by zero None true more last = rule.Window
rule_by zero None false true last = rule.Unsent
rule_by zero None false false true = rule.Flush
rule_by zero None false false false = rule.Input

-- rule 3's choice, by its index from the front
abbrev pub due_at : ℕ → SendBuffer → List ℕ → Option ℕ
due_at now b ring = earliest now 0 (take b.sent (packets_of b.ring ring))

module _ (c : Settings) (now : ℕ) (draining : Bool) where
  unfoldable pub rule_at : SendBuffer → List ℕ → Rule
  rule_at b ring =
      rule_by b.lost (due_at now b ring) (ltb c.flow b.sent) (ltb b.sent b.ring.len) (draining && eqb b.ring.len 1)
