use Rattle.std.proofs.Common.{rules, min, take, arith, ◌∙◌}
use borrow.Author.Tests.{tests}
use Rattle.std.proofs.lemmas.Iterator.{YieldsList-from_slice}
use Rattle.std.proofs.lemmas.Iterator.Search.{all_from_yields_List}
use Rattle.views.specs.Held.{view_is, views_is}
use Rattle.views.proofs.Chains.{all-take}
use Rattle.engine.specs.Situation.{not_above}
use Rattle.engine.proofs.situation.none_above.Goals as goal

pub returns : goal.returns
unfolding views_is not_above
returns c =
    all_from_yields_List (λ u. not_above (view_is c.args.t) (view_is u)) _ _ _ c.all.ensures.ran (YieldsList-from_slice (take (min c.args.h.len 16) c.args.h.views) cc) (λ x b q k. search (rules, tests))
    ∙ all-take _ _ _ _ _ (omega arith)
