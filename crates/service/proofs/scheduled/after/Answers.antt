use native.Mathlib.Omega.{arith}
use Rattle.service.proofs.Scheduling.{no-screen, screen-after}
use Rattle.service.proofs.scheduled.after.Goals as goal

pub returns-then-k-ge-WIDTH : goal.returns-then-k-ge-WIDTH
returns-then-k-ge-WIDTH c = no-screen _ _ _ c.if-k-ge-WIDTH.true

pub returns : goal.returns
returns c = screen-after _ _ _ (omega arith) c.after-c.ensures c.screen.ensures
