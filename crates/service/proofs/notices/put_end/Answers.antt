use native.Mathlib.Omega.{arith}
use Rattle.text.proofs.Stores.{both}
use Rattle.service.specs.ServiceParts.{end_text}
use Rattle.service.proofs.notices.put_end.Goals as goal

pub returns : goal.returns
unfolding end_text
returns c = (both c.put_delivered-a.ensures.0 c.write_text.ensures, omega (arith, c.put_delivered-a.ensures.1, c.write_text.ensures.next))
