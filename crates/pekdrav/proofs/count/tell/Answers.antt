use Rattle.views.specs.Tally.{count_is}
use Rattle.pekdrav.proofs.Counting.{written}
use Rattle.pekdrav.proofs.count.tell.Goals as goal

pub returns : goal.returns
returns c = written (count_is c.args.c)
