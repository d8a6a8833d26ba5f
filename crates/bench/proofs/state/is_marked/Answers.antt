use native.Mathlib.Omega.{arith}
use Rattle.bench.proofs.States.{marked-is}
use Rattle.bench.proofs.state.is_marked.Goals as goal

pub returns : goal.returns
returns c = marked-is _ _ _ (omega arith) c.has_member.ensures
