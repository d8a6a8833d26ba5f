use native.Mathlib.Omega.{arith}
use Rattle.views.specs.Held.{view_is}
use Rattle.text.proofs.Decimal.{most-long}
use Rattle.statements.proofs.Fields.{view-long}
use Rattle.bench.proofs.row.put_value.Goals as goal

pub put_number-requires : goal.put_number-requires
put_number-requires c = omega (arith, c.requires, most-long c.in-Number.n (omega (arith, c.in-Number.known_told-1-own.given)))

pub returns-in-Number : goal.returns-in-Number
returns-in-Number c = rw c.in-Number.is (c.put_number.ensures, most-long c.in-Number.n (omega (arith, c.in-Number.known_told-1-own.given)))

pub returns-in-View : goal.returns-in-View
returns-in-View c = rw c.in-View.is (c.put_view.ensures.1, omega (arith, view-long (view_is c.in-View.v)))
