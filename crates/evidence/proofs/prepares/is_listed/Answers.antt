use Rattle.std.proofs.Common.{eqb, of_calls, ◌∙◌}
use Rattle.tables.specs.Index.{key_at}
use Rattle.evidence.proofs.Payloads as laws
use Rattle.evidence.proofs.prepares.is_listed.Goals as goal

pub find-requires-clause-linked : goal.find-requires-clause-linked
find-requires-clause-linked c = laws.leads c.requires.1 c.requires.0 c.newest-newest.ensures

pub returns : goal.returns
returns c = c.is_some.ensures ∙ laws.listed-found c.requires.1 c.requires.0 c.newest-newest.ensures _ (c.find.ensures (λ row. eqb (key_at c.args.keys.now 0 row) c.args.m) (λ row b l post. search of_calls))
