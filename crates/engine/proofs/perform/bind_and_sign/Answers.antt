use native.Mathlib.Omega.{arith}
use Rattle.engine.proofs.Keeps.{err-is}
use Rattle.engine.proofs.Performs.{sign-full, sign_kept, binding-is}
use Rattle.engine.proofs.perform.bind_and_sign.Goals as goal

pub returns-in_err-n : goal.returns-in_err-n
returns-in_err-n c = sign-full _ _ _ _ c.args.c _ _ c.keep.ensures c.in_err-n.was _ _ (err-is _ _ c.from_residual.ensures.1)

pub returns : goal.returns
returns c = sign_kept _ _ _ _ _ _ _ c.keep.ensures c.in_ok-n.was c.args.c _ _ (binding-is c.args.c _ _ (omega (arith, c.requires.1, c.well_formed.0.1.1.1.1.1.1.1.1.0.1.0.1)))
