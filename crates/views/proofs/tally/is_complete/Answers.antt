use borrow.Author.Rules.{rules}
use Rattle.views.specs.Tally.{missing_in}
use Rattle.views.proofs.tally.is_complete.Goals as goal

pub returns : goal.returns
unfolding missing_in
returns c = search rules
