use native.Mathlib.Omega.{arith}
use mathlib.Core.Path.{refl}
use Rattle.ranking.proofs.Skips as laws
use Rattle.ranking.proofs.Summits.{views-length}
use Rattle.ranking.proofs.histories.passed.Goals as goal
use Rattle.ranking.proofs.histories.passed.Goals.{then-count-k, else-count-k}

pub loop-k-init : goal.loop-k-init
loop-k-init c = laws.passed_first _ _ _ _ _

pub passed_by-seen-requires : goal.passed_by-seen-requires
passed_by-seen-requires c = c.requires

pub loop-k-preserved : goal.loop-k-preserved
loop-k-preserved c = elim c.if-count-k.branch [
  | then-count-k w ↦ rw w.seen-is (laws.passed-more _ _ _ _ _ _ _ _ _ refl (views-length _ _ _ c.count.ensures.0) c.loop-k.invariant _ w.if-count-k.true w.passed_by-seen.ensures)
  | else-count-k w ↦ rw w.seen-is (laws.passed-skip _ _ _ _ _ _ _ _ _ refl (views-length _ _ _ c.count.ensures.0) c.loop-k.invariant w.if-count-k.false)
]

pub returns : goal.returns
returns c = laws.passed-all _ _ _ _ _ _ _ (omega arith) c.loop-k.invariant
