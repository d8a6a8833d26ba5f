use native.Mathlib.Omega.{arith}
use Rattle.text.proofs.Stores.{both, wrote_as}
use Rattle.service.proofs.ServiceLaws.{line-runs}
use Rattle.service.proofs.notices.put_notice.Goals as goal

pub returns : goal.returns
returns c = (wrote_as (line-runs _ _ _ _) (both c.put_start-a.ensures.0 (both c.put_evidence-c.ensures.0 c.put_end.ensures.0)), omega (arith, c.put_start-a.ensures.1, c.put_evidence-c.ensures.1, c.put_end.ensures.1))
