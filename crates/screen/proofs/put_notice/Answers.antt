use native.Mathlib.Omega.{arith}
use Rattle.screen.proofs.ScreenLaws.{notice-most, notice-one, notice-number}
use Rattle.screen.proofs.put_notice.Goals as goal

pub returns-then-one : goal.returns-then-one
returns-then-one c = notice-one c.args.out.now c.args.at c.args.j c.args.one c.if-one.true

pub put_number-requires : goal.put_number-requires
put_number-requires c = omega (arith, c.requires.1, notice-most c.args.j c.requires.0)

pub returns-else-one : goal.returns-else-one
returns-else-one c = notice-number c.args.j c.args.one c.if-one.false c.put_number.ensures
