use native.Mathlib.Omega.{arith}
use Rattle.evidence.proofs.Merges as laws
use Rattle.evidence.proofs.merging.merge_some.Goals.{then-has, else-has}
use Rattle.evidence.proofs.merging.merge_some.Goals as goal

pub loop-j-preserved : goal.loop-j-preserved
loop-j-preserved c = elim c.if-has.branch [
  | then-has w ↦ rw w.all-is (laws.merged-put _ _ _ _ c.loop-j.invariant _ c.loop-j-test.true w.merge_listed-binding.ensures)
  | else-has w ↦ rw w.all-is (laws.merged-skip _ _ _ _ c.loop-j.invariant c.requires c.has.ensures w.if-has.false)
]

pub returns : goal.returns
returns c = laws.merged-all _ _ _ _ c.loop-j.invariant (omega arith)
