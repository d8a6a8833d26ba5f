use Rattle.std.proofs.Common.{rules, map, ap₂, arith, ◌∙◌}
use borrow.Author.Tests.{tests, ne_eqb}
use Rattle.std.proofs.lemmas.List.{length-map}
use Rattle.std.proofs.lemmas.Iterator.{YieldsList-from_slice, YieldsList-from_zip}
use Rattle.std.proofs.lemmas.Iterator.Search.{all_from_yields_List}
use Rattle.protocol.specs.View.{same_view}
use Rattle.protocol.specs.History.{same_views}
use Rattle.views.specs.View.{view_in}
use Rattle.views.proofs.Histories.{sames-zip, sames-long}
use Rattle.pool.proofs.compare.same_views.Goals as goal

pub returns-then-a-b : goal.returns-then-a-b
returns-then-a-b c =
    all_from_yields_List (λ p. same_view (view_in p.0) (view_in p.1)) c.all.new.self _ _ c.all.ensures.ran (YieldsList-from_zip (YieldsList-from_slice c.view_words-a.result.now cc) (YieldsList-from_slice c.view_words-b.result.now cc))
    (λ x b q k. search (rules, tests))
    ∙ sames-zip view_in view_in c.view_words-a.result.now c.view_words-b.result.now (omega arith) ∙ ap₂ same_views c.view_words-a.ensures.means c.view_words-b.ensures.means

pub returns-else-a-b : goal.returns-else-a-b
returns-else-a-b c =
    ne_eqb _ _ c.if-a-b.false ∙ sames-long (map view_in c.view_words-a.result.now) (map view_in c.view_words-b.result.now) (λ e. omega (arith, c.if-a-b.false, length-map c.view_words-a.result.now view_in, length-map c.view_words-b.result.now view_in))
    ∙ ap₂ same_views c.view_words-a.ensures.means c.view_words-b.ensures.means
