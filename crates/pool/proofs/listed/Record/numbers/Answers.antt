use Rattle.std.proofs.Common.{take, map, arith, ap, ◌∙◌}
use Rattle.views.proofs.Chains.{map-take}
use Rattle.pool.specs.Pool.{stmt_at, record_len, record_up_to}
use Rattle.pool.proofs.listed.Record.numbers.Goals as goal

pub returns-clause-means : goal.returns-clause-means
unfolding record_up_to
returns-clause-means c =
    ap (λ n. map (stmt_at c.args.self.now.words.now) (take n c.args.self.now.ids.now)) c.record_length.ensures.0
    ∙ map-take (stmt_at c.args.self.now.words.now) (record_len c.args.self.now.ids.now) c.args.self.now.ids.now 0 (omega (arith, c.record_length.ensures.2))
