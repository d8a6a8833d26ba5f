use native.Mathlib.Omega.{arith}
use Rattle.service.proofs.WaitLaws.{waits-window, waits-lines, waits-nothing}
use Rattle.service.proofs.waits.put_waits.Goals as goal

pub returns-then-window : goal.returns-then-window
returns-then-window c = (waits-window _ c.put_reports-a.ensures.0 _ c.if-window.true c.write_text.ensures, omega (arith, c.put_reports-a.ensures.1, c.write_text.ensures.next))

pub returns-then-a-at : goal.returns-then-a-at
returns-then-a-at c = (waits-lines _ c.put_reports-a.ensures.0 _ c.if-window.false c.if-a-at.true, omega (arith, c.put_reports-a.ensures.1))

pub returns : goal.returns
returns c = (waits-nothing _ c.put_reports-a.ensures.0 _ c.if-window.false c.if-a-at.false c.write_text-2.ensures, omega (arith, c.put_reports-a.ensures.1, c.write_text-2.ensures.next))
