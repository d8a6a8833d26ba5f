use native.Mathlib.Omega.{arith}
use Rattle.std.proofs.Common.{eqb, of_calls}
use Rattle.tables.specs.Index.{key_at}
use Rattle.tables.proofs.Searches.{next-row, latest-found, next-is}
use Rattle.tables.proofs.search.next.Goals as goal

pub returns : goal.returns
returns c = next-is _ _ _ c.key-w.ensures (latest-found c.requires.1.1 (omega (arith, c.requires.1.2)) (next-row c.requires.1.1 c.requires.1.2 c.key-w.ensures c.older-before.ensures) (c.find.ensures (λ i. eqb (key_at c.args.keys.now c.args.t i) c.key-w.result) (λ row b l post. search of_calls)))
