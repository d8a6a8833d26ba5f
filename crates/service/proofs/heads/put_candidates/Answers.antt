use native.Mathlib.Omega.{arith}
use Rattle.text.proofs.Stores.{both}
use Rattle.service.specs.Service.{candidates_line}
use Rattle.service.proofs.heads.put_candidates.Goals as goal

pub returns-then-many : goal.returns-then-many
unfolding candidates_line
returns-then-many c = rw c.if-many.true (c.write_text.ensures, omega (arith, c.write_text.ensures.next))

pub put_views-b-requires : goal.put_views-b-requires
put_views-b-requires c = (c.requires.0 c.if-many.false, omega (arith, c.requires.0 c.if-many.false, c.requires.1, c.write_text-a.ensures.next, c.write_text-a.auto.out))

pub write_text-requires-2 : goal.write_text-requires-2
write_text-requires-2 c = omega (arith, c.requires.0 c.if-many.false, c.requires.1, c.write_text-a.ensures.next, c.write_text-a.auto.out, c.put_views-b.ensures.1, c.put_views-b.auto.out)

pub returns : goal.returns
unfolding candidates_line
returns c = rw c.if-many.false (both c.write_text-a.ensures (both c.put_views-b.ensures.0 c.write_text-2.ensures), omega (arith, c.requires.0 c.if-many.false, c.write_text-a.ensures.next, c.put_views-b.ensures.1, c.write_text-2.ensures.next))
