use native.Mathlib.Omega.{arith}
use Rattle.text.proofs.Stores.{both}
use Rattle.service.specs.Service.{stands_line}
use Rattle.service.proofs.heads.put_stands.Goals as goal

pub returns : goal.returns
unfolding stands_line
returns c = (both c.write_text-a.ensures (both c.put_members-b.ensures.0 c.write_text.ensures), omega (arith, c.write_text-a.ensures.next, c.put_members-b.ensures.1, c.write_text.ensures.next))
