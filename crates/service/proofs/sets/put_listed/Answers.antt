use native.Mathlib.Omega.{arith}
use mathlib.Core.Path.{◌∙◌}
use lib.ListN.{length-set}
use Rattle.text.proofs.Stores.{after-byte}
use Rattle.service.proofs.sets.put_listed.Goals as goal

pub put_view-requires : goal.put_view-requires
put_view-requires c = rw length-set (omega (arith, c.requires))

pub shape_of-out : goal.shape_of-out
shape_of-out c = c.put_view.auto.out ∙ simp length-set

pub returns : goal.returns
returns c = (after-byte 32 c.put_view.ensures.0, omega (arith, c.put_view.ensures.1))
