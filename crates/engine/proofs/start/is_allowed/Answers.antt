use native.Mathlib.Omega.{arith}
use Rattle.engine.proofs.Requests.{no-members, far-number, no-notices, many-notices, allowed}
use Rattle.engine.proofs.start.is_allowed.Goals as goal
use Rattle.engine.proofs.start.is_allowed.Goals.{then-s-eq0-via-then-s-eq0, then-s-eq0-via-else-s-eq0+then-number-ge-WIDTH, then-s-eq0-via-else-s-eq0+else-number-ge-WIDTH+then-s-eq0-2, then-s-eq0-via-else-s-eq0+else-number-ge-WIDTH+else-s-eq0-2+then-s-gt-NOTICES}

pub returns-then-s-eq0 : goal.returns-then-s-eq0
returns-then-s-eq0 c = elim c.then-s-eq0.branch [
  | then-s-eq0-via-then-s-eq0 w ↦ no-members _ _ _ _ w.if-s-eq0.true
  | then-s-eq0-via-else-s-eq0+then-number-ge-WIDTH w ↦ far-number _ _ _ _ w.if-number-ge-WIDTH.true
  | then-s-eq0-via-else-s-eq0+else-number-ge-WIDTH+then-s-eq0-2 w ↦ no-notices _ _ _ _ w.if-s-eq0-2.true
  | then-s-eq0-via-else-s-eq0+else-number-ge-WIDTH+else-s-eq0-2+then-s-gt-NOTICES w ↦ many-notices _ _ _ _ w.if-s-gt-NOTICES.true
]

pub returns : goal.returns
returns c = allowed _ _ _ _ _ c.if-s-eq0.false (omega arith) (omega arith) c.if-s-eq0-2.false (omega arith) c.are_numbers.ensures
