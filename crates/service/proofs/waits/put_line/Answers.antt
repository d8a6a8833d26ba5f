use native.Mathlib.Omega.{arith}
use Rattle.text.proofs.Stores.{both}
use Rattle.service.specs.Service.{reports_line}
use Rattle.service.proofs.waits.put_line.Goals as goal

pub returns : goal.returns
unfolding reports_line
returns c = (both c.write_text-a.ensures (both c.put_view-b.ensures.0 (both c.write_text-c.ensures (both c.put_view-d.ensures.0 (both c.write_text-e.ensures (both c.put_set-f.ensures.0 c.write_text.ensures))))), omega (arith, c.write_text-a.ensures.next, c.put_view-b.ensures.1, c.write_text-c.ensures.next, c.put_view-d.ensures.1, c.write_text-e.ensures.next, c.put_set-f.ensures.1, c.write_text.ensures.next))
