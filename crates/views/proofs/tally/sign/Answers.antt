use native.Mathlib.Omega.{arith}
use mathlib.Core.Path.{refl}
use Rattle.views.proofs.Tallies.{sub-fits, sign-far, code-passes, code_fits, code-counts}
use Rattle.views.proofs.tally.sign.Goals as goal

pub returns-then-o : goal.returns-then-o
returns-then-o c = sign-far _ _ _ c.if-o.true

pub overflow_sub-y-2 : goal.overflow_sub-y-2
overflow_sub-y-2 c = sub-fits _ _ 0 _ (omega arith) refl

pub returns-then-bit-eq0 : goal.returns-then-bit-eq0
returns-then-bit-eq0 c = code-passes _ _ _ _ (omega arith) refl c.if-bit-eq0.true

pub overflow_sub-result : goal.overflow_sub-result
overflow_sub-result c = code_fits _ _ _ _ (omega arith) refl c.requires _ c.is_complete.ensures c.if-is_complete.false

pub returns : goal.returns
returns c = code-counts _ _ _ _ (omega arith) refl c.requires _ c.is_complete.ensures c.if-is_complete.false c.if-bit-eq0.false
