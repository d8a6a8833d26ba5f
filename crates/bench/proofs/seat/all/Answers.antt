use native.Mathlib.Omega.{arith}
use mathlib.Core.Path.{sym, ◌∙◌}
use Rattle.bench.proofs.Records.{in-pool-below, fill_none}
use Rattle.bench.proofs.Seats.{all-unready, all-full, all-taken}
use Rattle.bench.proofs.seat.all.Goals as goal

pub returns-then-not-ready : goal.returns-then-not-ready
returns-then-not-ready c = all-unready c.args.words.now c.args.ids.now c.args.ready _ c.requires c.refused.ensures c.if-not-ready.true

pub marks_of-marks-requires : goal.marks_of-marks-requires
marks_of-marks-requires c = in-pool-below _ _ c.requires.whole

pub count_free-count-requires : goal.count_free-count-requires
count_free-count-requires c = c.pool_len-n.ensures.1

pub returns-then-count-eq0 : goal.returns-then-count-eq0
returns-then-count-eq0 c = all-taken c.args.words.now c.args.ids.now c.args.ready _ c.requires c.if-not-ready.false _ c.pool_len-n.ensures.0 _ c.marks_of-marks.ensures _ 0 (sym c.if-count-eq0.true ∙ c.count_free-count.ensures.count) c.taken.ensures (fill_none _ _ _ (sym c.count_free-count.ensures.count ∙ c.if-count-eq0.true)) (omega (arith, c.count_free-count.ensures.count, c.if-count-eq0.true))

pub overflow_add-had : goal.overflow_add-had
overflow_add-had c = omega (arith, c.record_length-had.ensures.1, c.count_free-count.ensures.most, c.pool_len-n.ensures.1)

pub returns-then-had-count-gt-CAPACITY : goal.returns-then-had-count-gt-CAPACITY
returns-then-had-count-gt-CAPACITY c = all-full c.args.words.now c.args.ids.now c.args.ready _ c.requires c.if-not-ready.false _ c.pool_len-n.ensures.0 _ c.marks_of-marks.ensures c.refused-then-had-count-gt-CAPACITY.ensures (omega (arith, c.record_length-had.ensures.0, c.count_free-count.ensures.count, c.if-had-count-gt-CAPACITY.true))

pub fill-requires : goal.fill-requires
fill-requires c = c.pool_len-n.ensures.1

pub returns : goal.returns
returns c = all-taken c.args.words.now c.args.ids.now c.args.ready _ c.requires c.if-not-ready.false _ c.pool_len-n.ensures.0 _ c.marks_of-marks.ensures _ _ c.count_free-count.ensures.count c.taken-2.ensures c.fill.ensures (omega (arith, c.record_length-had.ensures.0, c.count_free-count.ensures.count, c.if-had-count-gt-CAPACITY.false))
