use native.Mathlib.Omega.{arith}
use Rattle.text.proofs.Stores.{both}
use Rattle.service.specs.ServiceParts.{head_text}
use Rattle.service.proofs.heads.put_head.Goals as goal

pub returns : goal.returns
unfolding head_text
returns c = (both c.put_number-a.ensures.0 (both c.put_place-b.ensures.0 c.put_wished.ensures.0), omega (arith, c.put_number-a.ensures.1, c.put_place-b.ensures.1, c.put_wished.ensures.1))
