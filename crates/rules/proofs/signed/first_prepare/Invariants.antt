use mathlib.Core.Path.{◌≡◌}
use mathlib.Core.Bool.{false}
use Rattle.protocol.specs.Lists.{any}
use Rattle.pool.specs.Pool.{record_up_to}
use Rattle.rules.specs.Rules.{prepared_by}
use Rattle.rules.proofs.signed.first_prepare.Given as goal

abbrev pub invariant-loop-n : goal.invariant-loop-n
invariant-loop-n l = any (prepared_by l.sender l.j) (record_up_to l.words l.ids l.n-index) ≡ false
