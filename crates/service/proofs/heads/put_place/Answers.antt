use native.Mathlib.Omega.{arith}
use mathlib.Core.Path.{ap}
use Rattle.text.proofs.Stores.{wrote_as}
use Rattle.service.specs.Service.{stands_line}
use Rattle.service.specs.ServiceParts.{place_line}
use Rattle.service.proofs.heads.put_place.Goals as goal

pub returns-then-left : goal.returns-then-left
unfolding place_line
returns-then-left c = rw c.if-left.true (c.write_text.ensures, omega (arith, c.write_text.ensures.next))

pub returns-then-not-stands : goal.returns-then-not-stands
unfolding place_line
returns-then-not-stands c = rw (c.if-left.false, c.if-not-stands.true) c.put_entered.ensures

pub returns : goal.returns
unfolding place_line
returns c = rw (c.if-left.false, c.if-not-stands.false) (wrote_as (ap stands_line c.word.ensures) c.put_stands.ensures.0, c.put_stands.ensures.1)
