use borrow.Author.Rules.{rules}
use Rattle.views.specs.Tally.{own_in}
use Rattle.views.proofs.tally.own_of.Goals as goal

pub returns : goal.returns
unfolding own_in
returns c = search rules
