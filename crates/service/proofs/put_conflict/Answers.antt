use native.Mathlib.Omega.{arith}
use mathlib.Core.Path.{ap}
use Rattle.text.proofs.Stores.{both, wrote_as}
use Rattle.pool.specs.Pool.{record_in}
use Rattle.service.specs.Service.{lines_below}
use Rattle.service.specs.ServiceParts.{held_line, conflict_screen}
use Rattle.service.proofs.put_conflict.Goals as goal

pub returns : goal.returns
unfolding conflict_screen
returns c = (both c.put_head-a.ensures.0 (both c.write_text-b.ensures (both (wrote_as (ap (λ n. lines_below n (held_line c.args.init (record_in c.args.words.now c.args.ids.now) c.args.e c.args.certs.now c.args.c.held c.args.c.delivered)) c.min-n.ensures) c.put_notices-d.ensures.0) c.write_text.ensures)), omega (arith, c.put_head-a.ensures.1, c.write_text-b.ensures.next, c.put_notices-d.ensures.1, c.min-n.ensures, c.write_text.ensures.next))
