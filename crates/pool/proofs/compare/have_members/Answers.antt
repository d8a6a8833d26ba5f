use Rattle.std.proofs.Common.{rules, ap, sym, ◌∙◌}
use borrow.Author.Tests.{tests}
use Rattle.std.specs.List.{list_all}
use Rattle.std.proofs.lemmas.Iterator.{YieldsList-from_slice}
use Rattle.std.proofs.lemmas.Iterator.Search.{all_from_yields_List}
use Rattle.protocol.specs.View.{has_members}
use Rattle.views.specs.View.{view_of, view_in}
use Rattle.views.proofs.Chains.{all-is}
use Rattle.views.proofs.Views.{members-in}
use Rattle.pool.proofs.compare.have_members.Goals as goal

pub returns : goal.returns
returns c =
    all_from_yields_List (λ w. has_members 16 (view_of w)) _ _ _ c.all.ensures.ran (YieldsList-from_slice c.args.listed.now cc) (λ x b q k. search (rules, tests))
    ∙ ap (λ q. list_all q c.args.listed.now) (λ i w. sym (members-in w) i) ∙ all-is (has_members 16) view_in c.args.listed.now
