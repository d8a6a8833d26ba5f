use native.Mathlib.Omega.{arith}
use Rattle.screen.specs.Screen.{greatest_word}
use Rattle.screen.proofs.ScreenLaws.{views-wrote}
use Rattle.screen.proofs.put_greatest.Goals as goal

pub put_views-requires : goal.put_views-requires
put_views-requires c = (c.requires.0, omega (arith, c.requires.1, c.write_text-a.ensures.next, c.write_text-a.auto.out))

pub returns : goal.returns
returns c = views-wrote greatest_word _ _ c.write_text-a.ensures c.put_views.ensures
