use native.Mathlib.Omega.{arith}
use Rattle.statements.proofs.Written.{group-size}
use Rattle.statements.proofs.groups.group_len.Goals as goal

pub returns : goal.returns
returns c = (omega (arith, group-size c.args.t _ _ c.bound_payload.ensures c.kept_payload.ensures, c.dec_len.ensures.0, c.dec_len-2.ensures.0), omega (arith, c.dec_len.ensures.2, c.dec_len-2.ensures.2))
