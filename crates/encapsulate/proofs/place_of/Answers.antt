-- `encapsulate::place_of` meets its contract: the tests are those of `place_of`.
use Rattle.std.proofs.Common.{eq-eqb, ne_eqb}
use Rattle.rules_packets.specs.Split.{place_of}
use Rattle.encapsulate.proofs.place_of.Goals as goal

pub returns-then-n-eq1 : goal.returns-then-n-eq1
unfolding place_of
returns-then-n-eq1 c = rw (eq-eqb _ _ c.if-n-eq1.true)

pub returns-then-k-eq0 : goal.returns-then-k-eq0
unfolding place_of
returns-then-k-eq0 c = rw (ne_eqb _ _ c.if-n-eq1.false, eq-eqb _ _ c.if-k-eq0.true)

pub returns-then-k-n : goal.returns-then-k-n
unfolding place_of
returns-then-k-n c = rw (ne_eqb _ _ c.if-n-eq1.false, ne_eqb _ _ c.if-k-eq0.false, eq-eqb _ _ c.if-k-n.true)

pub returns : goal.returns
unfolding place_of
returns c = rw (ne_eqb _ _ c.if-n-eq1.false, ne_eqb _ _ c.if-k-eq0.false, ne_eqb _ _ c.if-k-n.false)
