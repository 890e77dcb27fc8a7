-- `octets::copy_in` meets its contract. The loop's invariant: the first i bytes lie at `at`, and `dst` is as long as it was. A turn's store is
-- `lib.Seq`'s `paste-suc`.
use Rattle.std.proofs.Common.{add-one, arith, refl, rules}
use lib.Seq.{paste-zero, paste-suc}
use Rattle.octets.proofs.copy_in.Goals as goal

pub loop-i-init : goal.loop-i-init
loop-i-init c = (paste-zero c.args.dst.now c.args.at c.args.src.now, refl)

pub loop-i-preserved : goal.loop-i-preserved
loop-i-preserved c =
    let a = c.args in (
      rw (c.loop-i.invariant.0, add-one c.loop-i.i)
          (paste-suc a.dst.now a.at a.src.now c.loop-i.i 0 (omega arith) (omega arith)),
      search rules,
    )
