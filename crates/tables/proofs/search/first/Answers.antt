use native.Mathlib.Omega.{arith}
use Rattle.std.proofs.Common.{eqb, of_calls}
use Rattle.tables.specs.Index.{key_at}
use Rattle.tables.proofs.Searches.{newest-row, latest-found}
use Rattle.tables.proofs.search.first.Goals as goal

pub returns : goal.returns
returns c = λ n ok. latest-found ok (omega arith) (newest-row ok _ c.slot.ensures.0 c.slot.ensures.1 c.newest-newest.ensures) (c.find.ensures (λ i. eqb (key_at c.args.keys.now c.args.t i) c.args.w) (λ row b l post. search of_calls))
