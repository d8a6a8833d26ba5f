use native.Mathlib.Omega.{arith}
use Rattle.statements.specs.Text.{parted}
use Rattle.screen.specs.Screen.{uncertified_line, line_text}
use Rattle.screen.proofs.ScreenLaws.{lines-some, lines_none}
use Rattle.screen.proofs.put_certificates.Goals as goal

pub put_lines-at-requires : goal.put_lines-at-requires
put_lines-at-requires c = (c.requires.0, omega (arith, c.requires.0, c.requires.1), c.requires.2)

pub returns-then-at-from : goal.returns-then-at-from
returns-then-at-from c = (lines-some _ _ _ _ _ c.put_lines-at.ensures.0 c.if-at-from.true, omega (arith, c.put_lines-at.ensures.1, c.requires.0))

pub write_text-requires : goal.write_text-requires
write_text-requires c = omega (arith, c.requires.1, c.if-at-from.false, c.put_lines-at.auto.out)

pub returns : goal.returns
unfolding uncertified_line line_text parted
returns c = lines_none _ _ _ _ _ c.put_lines-at.ensures.0 c.if-at-from.false c.write_text.ensures
