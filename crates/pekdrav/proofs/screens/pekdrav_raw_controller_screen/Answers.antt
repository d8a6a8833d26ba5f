use Rattle.pekdrav.proofs.Screening.{same-screen}
use Rattle.pekdrav.proofs.screens.pekdrav_raw_controller_screen.Goals as goal

pub returns : goal.returns
returns c = same-screen c.load-c.ensures c.screen.ensures
