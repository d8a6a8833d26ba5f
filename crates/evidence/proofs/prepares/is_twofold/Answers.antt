use native.Mathlib.Omega.{arith}
use Rattle.std.proofs.Common.{eqb, not, of_calls, ◌∙◌}
use mathlib.Core.Path.{sym}
use Rattle.tables.specs.Index.{key_at, Leads, Finds}
use Rattle.std.proofs.Common.{subst}
use Rattle.evidence.proofs.Payloads as laws
use Rattle.evidence.proofs.prepares.is_twofold.Goals as goal

pub key-m-requires : goal.key-m-requires
key-m-requires c = (omega arith, omega (arith, c.requires.1.few, (laws.row c.requires.1 c.requires.0 c.newest.ensures _ c.in-Some.is).0))

pub returns-in_default : goal.returns-in_default
returns-in_default c = laws.twofold-empty c.requires.1 c.requires.0 c.newest.ensures c.in_default.is

pub find-requires-clause-linked : goal.find-requires-clause-linked
find-requires-clause-linked c = subst (λ x. Leads c.args.rows.now 0 x) c.in-Some.is (laws.leads c.requires.1 c.requires.0 c.newest.ensures)

pub returns : goal.returns
returns c =
    let found = c.find.ensures (λ row. not (eqb (key_at c.args.keys.now 0 row) c.key-m.result)) (λ row b l post. search of_calls) in
    c.is_some.ensures ∙ laws.twofold-found c.requires.1 c.requires.0 c.newest.ensures _ c.in-Some.is _ c.key-m.ensures (subst (λ x. Finds c.args.rows.now 0 x (λ row. not (eqb (key_at c.args.keys.now 0 row) c.key-m.result)) c.find.result) (sym c.in-Some.is) found)
