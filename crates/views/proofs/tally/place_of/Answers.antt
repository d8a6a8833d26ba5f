use borrow.Author.Rules.{rules}
use Rattle.views.specs.Tally.{place_in}
use Rattle.views.proofs.tally.place_of.Goals as goal

pub returns : goal.returns
unfolding place_in
returns c = search rules
