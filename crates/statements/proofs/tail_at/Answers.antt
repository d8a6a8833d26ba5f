use native.Mathlib.Omega.{arith}
use Rattle.std.proofs.lemmas.Option.{IfSome_then}
use Rattle.statements.proofs.Views.{tail-refused, tail_from}
use Rattle.statements.proofs.tail_at.Goals as goal

pub returns-in_err-count : goal.returns-in_err-count
returns-in_err-count c = rw c.from_residual.ensures (record { read = tail-refused _ _ c.in_err-count.ensures; count = tt })

pub returns : goal.returns
returns c = record { read = tail_from _ _ _ _ _ c.in_ok-count.ensures c.views_at.ensures.count c.views_at.ensures.read; count = IfSome_then c.views_at.result c.views_at.ensures.count (λ h e. omega (arith, e, c.in_ok-count.ensures.low)) }
