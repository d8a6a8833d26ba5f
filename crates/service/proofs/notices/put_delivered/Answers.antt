use native.Mathlib.Omega.{arith}
use Rattle.service.specs.Service.{delivered_text}
use Rattle.service.proofs.notices.put_delivered.Goals as goal

pub returns-then-is : goal.returns-then-is
unfolding delivered_text
returns-then-is c = rw c.if-is.true (c.write_text.ensures, omega (arith, c.write_text.ensures.next))

pub returns : goal.returns
unfolding delivered_text
returns c = rw c.if-is.false (c.write_text-2.ensures, omega (arith, c.write_text-2.ensures.next))
