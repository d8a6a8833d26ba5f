use native.Mathlib.Omega.{arith}
use mathlib.Core.Path.{refl}
use Rattle.ranking.proofs.Slots as laws
use Rattle.ranking.proofs.candidates.list_slots.Goals as goal

pub loop-k-init : goal.loop-k-init
loop-k-init c = (omega arith, laws.listed-first _ _ c.requires.0)

pub loop-k-preserved-then-slot_size-k : goal.loop-k-preserved-then-slot_size-k
loop-k-preserved-then-slot_size-k c = (omega arith, laws.listed-skip _ _ _ _ _ _ refl c.slot_size.ensures.0 c.if-slot_size-k.true c.loop-k.invariant.1)

pub returns-then-n-eq-LIMIT : goal.returns-then-n-eq-LIMIT
returns-then-n-eq-LIMIT c = laws.listed-many _ _ _ _ _ _ refl c.slot_size.ensures.0 c.if-slot_size-k.false c.loop-k.invariant.1 c.if-n-eq-LIMIT.true c.loop-k-test.true

pub loop-k-preserved : goal.loop-k-preserved
loop-k-preserved c = (omega arith, laws.listed_more _ _ _ _ _ _ refl c.slot_size.ensures.0 c.if-slot_size-k.false c.loop-k.invariant.1 (omega arith))

pub returns : goal.returns
returns c = laws.listed-end _ _ _ _ (omega arith) c.loop-k.invariant.1
