use mathlib.Core.Path.{ap, ◌∙◌}
use Rattle.pool.specs.Pool.{stmt_at}
use Rattle.sealing.proofs.rows.at.Goals as goal

pub returns : goal.returns
returns c = c.at.ensures ∙ ap (λ n. (stmt_at c.args.words.now n).at) c.number.ensures
