use Rattle.std.proofs.Common.{min, arith, ap, ◌∙◌}
use Rattle.std.specs.List.{list_any}
use Rattle.protocol.specs.View.{same_view}
use Rattle.views.specs.Held.{view_is, views_is}
use Rattle.views.proofs.Chains.{contains-take}
use Rattle.views.proofs.Views.{same-flip}
use Rattle.views.proofs.History.has.Goals as goal

pub returns : goal.returns
unfolding views_is same_view
returns c =
    c.contains.ensures.value ∙ ap (list_any (λ u. same_view (view_is u) (view_is c.args.v))) c.counted.ensures
    ∙ contains-take same_view same-flip (view_is c.args.v) view_is (min c.args.self.len 16) c.args.self.views (record { joined = 0; left = 0 }) (omega arith)
