use native.Mathlib.Omega.{arith}
use Rattle.evidence.proofs.Kept as laws
use Rattle.evidence.proofs.certificates.keep_backed.Goals as goal

pub returns-then-own_of-eq0 : goal.returns-then-own_of-eq0
returns-then-own_of-eq0 c = laws.kept-tagless _ _ _ _ c.loop-g.invariant c.requires.1 _ c.own_of.ensures c.loop-g-test.true c.if-own_of-eq0.true

pub is_backed-requires : goal.is_backed-requires
is_backed-requires c = let q = laws.group-here _ _ _ _ c.loop-g.invariant _ c.own_of.ensures c.requires.1 c.loop-g-test.true c.if-own_of-eq0.false in (c.requires.0, q.0, q.1, q.2)

pub loop-g-preserved-then-not-is_backed : goal.loop-g-preserved-then-not-is_backed
loop-g-preserved-then-not-is_backed c = laws.kept-skip _ _ _ _ c.loop-g.invariant _ c.own_of.ensures c.if-own_of-eq0.false _ c.is_backed.ensures c.if-not-is_backed.true

pub loop-g-preserved : goal.loop-g-preserved
loop-g-preserved c = laws.kept-take _ _ _ _ c.loop-g.invariant _ c.own_of.ensures c.if-own_of-eq0.false _ c.is_backed.ensures c.loop-g-test.true c.if-not-is_backed.false

pub returns : goal.returns
returns c = laws.kept-all _ _ _ _ c.loop-g.invariant c.requires.1 (omega arith)
