use Rattle.std.proofs.Common.{rules, length, take, ap, ap₂, arith, sym, ◌∙◌}
use borrow.Author.Tests.{tests, ne_eqb}
use Rattle.std.specs.List.{list_all, zip}
use Rattle.std.proofs.lemmas.List.{length-map, length-take}
use Rattle.std.proofs.lemmas.Iterator.{YieldsList-from_slice, YieldsList-from_zip}
use Rattle.std.proofs.lemmas.Iterator.Search.{all_from_yields_List}
use Rattle.protocol.specs.View.{same_view}
use Rattle.protocol.specs.History.{same_views}
use Rattle.views.specs.View.{view_in}
use Rattle.views.specs.Held.{view_is}
use Rattle.views.proofs.Chains.{map-take}
use Rattle.views.proofs.Views.{same-flip}
use Rattle.views.proofs.Histories.{sames-zip, sames-long}
use Rattle.statements.proofs.FieldLaws.{views-listed, views-length}
use Rattle.pool.proofs.seek.same_history.Goals as goal

pub returns-then-h-listed : goal.returns-then-h-listed
returns-then-h-listed c =
    all_from_yields_List (λ p. same_view (view_in p.1) (view_is p.0)) c.all.new.self _ _ c.all.ensures.ran
    (YieldsList-from_zip (YieldsList-from_slice (take c.args.h.now.len c.args.h.now.views) cc) (YieldsList-from_slice c.view_words-listed.result.now cc)) (λ x b q k. search (rules, tests))
    ∙ ap (λ q. list_all q (zip (take c.args.h.now.len c.args.h.now.views) c.view_words-listed.result.now)) (λ i p. same-flip (view_in p.1) (view_is p.0) i)
    ∙ sames-zip view_is view_in (take c.args.h.now.len c.args.h.now.views) c.view_words-listed.result.now (omega (arith, length-take c.args.h.now.len c.args.h.now.views))
    ∙ ap₂ same_views (map-take view_is c.args.h.now.len c.args.h.now.views (record { joined = 0; left = 0 }) (omega (arith, length-take c.args.h.now.len c.args.h.now.views)) ∙ sym (views-listed c.args.h.now.len c.args.h.now.views)) c.view_words-listed.ensures.means

pub returns-else-h-listed : goal.returns-else-h-listed
returns-else-h-listed c =
    ne_eqb _ _ c.if-h-listed.false
    ∙ sames-long _ _ (λ e. c.if-h-listed.false (sym (views-length c.args.h.now.len c.args.h.now.views) ∙ e ∙ sym (ap length c.view_words-listed.ensures.means) ∙ length-map c.view_words-listed.result.now view_in))
