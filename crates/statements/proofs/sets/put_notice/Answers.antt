use native.Mathlib.Omega.{arith}
use Rattle.statements.proofs.NoticeSets.{bit_past, bit_in, bit-out}
use Rattle.statements.proofs.sets.put_notice.Goals as goal

pub returns-then-j-ge-NOTICES : goal.returns-then-j-ge-NOTICES
returns-then-j-ge-NOTICES c = bit_past _ _ _ c.if-j-ge-NOTICES.true

pub returns-then-yes : goal.returns-then-yes
returns-then-yes c = bit_in c.args.set c.args.j c.args.yes c.if-j-ge-NOTICES.false c.if-yes.true

pub returns-else-yes : goal.returns-else-yes
returns-else-yes c = bit-out c.args.set c.args.j c.args.yes c.if-j-ge-NOTICES.false (omega arith) c.if-yes.false
