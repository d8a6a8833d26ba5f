use Rattle.std.proofs.Common.{◌≡◌, ◌+◌, ◌-◌, ◌*◌, map, take, drop, get_or, arith, ap, ◌∙◌}
use Rattle.protocol.specs.Lists.{list_of}
use Rattle.pool.specs.Pool.{stmt_at, view_word, views_from}
use Rattle.views.specs.View.{view_in}
use Rattle.views.proofs.Chains.{map-slice}
use Rattle.pool.proofs.read.view_words.Goals as goal

pub returns-clause-means : goal.returns-clause-means
unfolding stmt_at view_word
returns-clause-means c =
    let z : views_from + c.slot.result * 16 + c.count.result - (views_from + c.slot.result * 16) ≡ c.count.result = omega arith in
    ap (λ k. map view_in (take k (drop (views_from + c.slot.result * 16) c.args.words.now))) z
    ∙ map-slice view_in c.count.result (views_from + c.slot.result * 16) c.args.words.now 0 (omega (arith, c.count.ensures.1, c.slot.ensures.1))
    ∙ (λ i. list_of (c.count.ensures.0 i) (λ p. view_in (get_or c.args.words.now (views_from + c.slot.ensures.0 i * 16 + p) 0)))
