use native.Mathlib.Omega.{arith}
use Rattle.text.proofs.Stores.{both, wrote_as}
use Rattle.service.proofs.ServiceLaws.{certificate-runs}
use Rattle.service.proofs.notices.put_certificate.Goals as goal

pub returns : goal.returns
returns c = (wrote_as (certificate-runs c.args.m c.args.acked c.args.by) (both c.put_acked-a.ensures.0 (both c.write_text-b.ensures (both c.put_stored-c.ensures.0 c.write_text.ensures))), omega (arith, c.put_acked-a.ensures.1, c.write_text-b.ensures.next, c.put_stored-c.ensures.1, c.write_text.ensures.next))
