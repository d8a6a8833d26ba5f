use Rattle.std.specs.Option.{SomeIff}
use mathlib.Core.Path.{subst}
use Prim.Native.Nat.{◌-◌, ◌≤◌}
use Rattle.tables.proofs.Writes.{row-read}
use Rattle.tables.proofs.rows.row_of.Goals as goal

pub returns : goal.returns
returns c = row-read c.args.link c.checked_sub.result (subst (λ x. SomeIff c.checked_sub.result (1 ≤ x) (x - 1)) c.from.ensures c.checked_sub.ensures)
