use native.Mathlib.Omega.{arith}
use Rattle.text.proofs.Stores.{both, wrote_as}
use Rattle.service.proofs.ServiceLaws.{entered-line, entered-none}
use Rattle.service.proofs.heads.put_entered.Goals as goal

pub returns-then-n-eq0 : goal.returns-then-n-eq0
returns-then-n-eq0 c = (wrote_as (entered-none c.args.h _ c.count-n.ensures.0 c.if-n-eq0.true) c.write_text.ensures, omega (arith, c.write_text.ensures.next))

pub returns : goal.returns
returns c = (wrote_as (entered-line c.args.h c.count-n.result c.word.result c.count-n.ensures.0 c.if-n-eq0.false c.word.ensures) (both c.write_text-a.ensures (both c.put_members-b.ensures.0 c.write_text-2.ensures)), omega (arith, c.write_text-a.ensures.next, c.put_members-b.ensures.1, c.write_text-2.ensures.next))
