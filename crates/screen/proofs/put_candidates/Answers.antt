use native.Mathlib.Omega.{arith}
use Rattle.screen.specs.Screen.{candidates_line, candidates_word, line_text}
use Rattle.statements.specs.Text.{parted}
use Rattle.screen.proofs.ScreenLaws.{views-wrote}
use Rattle.screen.proofs.put_candidates.Goals as goal

pub returns-then-many : goal.returns-then-many
unfolding candidates_line line_text parted
returns-then-many c = rw c.if-many.true c.write_text.ensures

pub put_views-requires : goal.put_views-requires
put_views-requires c = (c.requires.0 c.if-many.false, omega (arith, c.requires.1, c.write_text-a.ensures.next, c.write_text-a.auto.out))

pub returns : goal.returns
unfolding candidates_line
returns c = rw c.if-many.false (views-wrote candidates_word _ _ c.write_text-a.ensures c.put_views.ensures)
