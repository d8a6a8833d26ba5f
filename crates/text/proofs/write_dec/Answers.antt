use native.Mathlib.Omega.{arith}
use Prim.Native.Nat.{◌+◌}
use mathlib.Core.Path.{ap}
use lib.ListN.{length-set}
use Rattle.text.proofs.Decimal.{one-long}
use Rattle.text.proofs.Stores.{one-digit, left-next, left_end, left-end-two, left_one, left-two}
use Rattle.text.proofs.write_dec.Goals as goal

pub bounds-out-at : goal.bounds-out-at
bounds-out-at c = omega (arith, c.requires, one-long c.args.v c.if-v-lt10.true)

pub returns-then-v-lt10 : goal.returns-then-v-lt10
returns-then-v-lt10 c = rw c.glyph_of.ensures (one-digit _ _ _ c.if-v-lt10.true)

pub overflow_sub-out : goal.overflow_sub-out
overflow_sub-out c = omega (arith, left_one _ _ _ _ _ _ c.loop-x.invariant.1)

pub overflow_sub-out-in-loop-x : goal.overflow_sub-out-in-loop-x
overflow_sub-out-in-loop-x c = omega (arith, left-two _ _ _ _ _ _ c.loop-x.invariant.1 (omega (arith, c.loop-x-test.true)))

pub overflow_sub-i : goal.overflow_sub-i
overflow_sub-i c = omega (arith, left-two _ _ _ _ _ _ c.loop-x.invariant.1 (omega (arith, c.loop-x-test.true)))

pub loop-x-preserved : goal.loop-x-preserved
loop-x-preserved c = (simp length-set (omega (arith, c.loop-x.invariant.0)), rw (c.glyph_of-in-loop-x.ensures, c.glyph_of-in-loop-x-2.ensures) (left-next _ _ _ _ _ _ c.loop-x.invariant.1 c.loop-x-test.true))

pub overflow_sub-out-then-x-gt9 : goal.overflow_sub-out-then-x-gt9
overflow_sub-out-then-x-gt9 c = omega (arith, left_one _ _ _ _ _ _ c.loop-x.invariant.1)

pub overflow_sub-out-then-x-gt9-2 : goal.overflow_sub-out-then-x-gt9-2
overflow_sub-out-then-x-gt9-2 c = omega (arith, left-two _ _ _ _ _ _ c.loop-x.invariant.1 c.if-x-gt9.true)

pub overflow_sub-out-else-x-gt9 : goal.overflow_sub-out-else-x-gt9
overflow_sub-out-else-x-gt9 c = omega (arith, left_one _ _ _ _ _ _ c.loop-x.invariant.1)

pub returns-then-x-gt9 : goal.returns-then-x-gt9
returns-then-x-gt9 c = record { next = ap (λ k. c.args.at + k) c.dec_len.ensures.0; is = rw (c.glyph_of-then-x-gt9.ensures, c.glyph_of-then-x-gt9-2.ensures) (left-end-two _ _ _ _ _ _ c.loop-x.invariant.1 c.if-x-gt9.true (omega (arith, c.loop-x-test.false))) }

pub returns-else-x-gt9 : goal.returns-else-x-gt9
returns-else-x-gt9 c = record { next = ap (λ k. c.args.at + k) c.dec_len.ensures.0; is = rw c.glyph_of-else-x-gt9.ensures (left_end _ _ _ _ _ _ c.loop-x.invariant.1 (omega (arith, c.if-x-gt9.false))) }
