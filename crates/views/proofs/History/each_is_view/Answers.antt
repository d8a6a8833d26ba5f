use Rattle.std.proofs.Common.{rules, min, take, arith, ◌∙◌}
use borrow.Author.Tests.{tests}
use Rattle.std.proofs.lemmas.Iterator.{YieldsList-from_slice}
use Rattle.std.proofs.lemmas.Iterator.Search.{all_from_yields_List}
use Rattle.protocol.specs.View.{is_view}
use Rattle.views.specs.Held.{view_is, views_is}
use Rattle.views.proofs.Chains.{all-take}
use Rattle.views.proofs.History.each_is_view.Goals as goal

pub returns : goal.returns
unfolding views_is
returns c =
    all_from_yields_List (λ u. is_view 16 (view_is u)) _ _ _ c.all.ensures.ran (YieldsList-from_slice (take (min c.args.self.len 16) c.args.self.views) cc) (λ x b q k. search (rules, tests))
    ∙ all-take _ _ _ _ _ (omega arith)
