use Rattle.std.proofs.Common.{rules, take, arith, ltb, ◌∙◌}
use borrow.Author.Tests.{tests}
use Rattle.std.proofs.lemmas.Iterator.{YieldsList-from_slice}
use Rattle.std.proofs.lemmas.Iterator.Search.{all_from_yields_List}
use Rattle.views.proofs.Chains.{all-take}
use Rattle.engine.specs.Meaning.{first_senders}
use Rattle.engine.specs.Steps.{are_numbers}
use Rattle.engine.proofs.start.are_numbers.Goals as goal

pub returns : goal.returns
unfolding are_numbers first_senders
returns c =
    all_from_yields_List (λ k. ltb k 16) _ _ _ c.all.ensures.ran (YieldsList-from_slice (take c.args.count c.args.senders.now) cc) (λ x b q k. search (rules, tests))
    ∙ all-take (λ k. ltb k 16) (λ k. k) _ _ _ (omega (arith, c.requires))
