use mathlib.Core.Bool.{true, false}
use mathlib.Core.Path.{sym}
use Rattle.std.proofs.Common.{of_calls}
use Rattle.tables.proofs.Searches.{on-row, on_next, on-less, searched-next, searched-found, searched_none}
use Rattle.tables.proofs.search.find.Goals as goal

pub has-requires : goal.has-requires
has-requires g c = let p = c.requires.callable _ (on-row c.loop-at.invariant.on c.in-Some.is c.requires.linked) in search of_calls

pub returns-then-has : goal.returns-then-has
returns-then-has g c = λ test says. searched-found c.loop-at.invariant.on c.in-Some.is (c.loop-at.invariant.searched test says) (sym (says _ true (on-row c.loop-at.invariant.on c.in-Some.is c.requires.linked) c.if-has.ensures))

pub older-at-requires : goal.older-at-requires
older-at-requires g c = (c.requires.table, on-row c.loop-at.invariant.on c.in-Some.is c.requires.linked)

pub loop-at-smaller : goal.loop-at-smaller
loop-at-smaller g c = on-less c.loop-at.invariant.on c.in-Some.is c.older-at.ensures c.requires.linked

pub loop-at-preserved : goal.loop-at-preserved
loop-at-preserved g c = record {
  on = on_next c.loop-at.invariant.on c.in-Some.is c.older-at.ensures;
  searched = λ test says. searched-next c.loop-at.invariant.on c.in-Some.is c.older-at.ensures (c.loop-at.invariant.searched test says) (sym (says _ false (on-row c.loop-at.invariant.on c.in-Some.is c.requires.linked) c.if-has.ensures));
}

pub returns : goal.returns
returns g c = λ test says. searched_none (c.loop-at.invariant.searched test says) c.in_default.is
