use Rattle.std.proofs.Common.{rules, ap, ◌∙◌}
use borrow.Author.Tests.{tests}
use Rattle.std.proofs.lemmas.Iterator.{YieldsList-from_slice}
use Rattle.std.proofs.lemmas.Iterator.Search.{any_from_yields_List}
use Rattle.protocol.specs.Lists.{any}
use Rattle.protocol.specs.View.{same_view}
use Rattle.views.specs.View.{view_of, view_in}
use Rattle.views.proofs.Chains.{any-is, any-flip}
use Rattle.views.proofs.Views.{same-flip}
use Rattle.pool.proofs.compare.has_view.Goals as goal

pub returns : goal.returns
returns c =
    any_from_yields_List (λ w. same_view (view_in w) (view_of c.args.t)) _ _ _ c.any.ensures.ran (YieldsList-from_slice c.view_words.result.now cc) (λ x b q k. search (rules, tests))
    ∙ any-is (λ u. same_view u (view_of c.args.t)) view_in c.view_words.result.now ∙ ap (any (λ u. same_view u (view_of c.args.t))) c.view_words.ensures.means ∙ any-flip same_view same-flip (view_of c.args.t) _
