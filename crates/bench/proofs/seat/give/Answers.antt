use native.Mathlib.Omega.{arith}
use mathlib.Core.Path.{sym, ◌∙◌}
use Rattle.bench.proofs.Seats.{give-unready, give-unknown, give-again, give-full, give-taken}
use Rattle.bench.proofs.seat.give.Goals as goal
use Rattle.bench.proofs.seat.give.Goals.{then-not-ready-via-then-not-ready, then-not-ready-via-else-not-ready+then-n-pool_len}

pub returns-then-not-ready : goal.returns-then-not-ready
returns-then-not-ready c = elim c.then-not-ready.branch [
  | then-not-ready-via-then-not-ready w ↦ give-unready c.args.words.now c.args.ids.now c.args.ready c.args.n _ c.requires c.refused.ensures w.if-not-ready.true
  | then-not-ready-via-else-not-ready+then-n-pool_len w ↦ give-unknown c.args.words.now c.args.ids.now c.args.ready c.args.n _ c.requires w.if-not-ready.false c.refused.ensures (omega (arith, w.pool_len.ensures.0, w.if-n-pool_len.true))
]

pub returns-then-has_number : goal.returns-then-has_number
returns-then-has_number c = give-again c.args.words.now c.args.ids.now c.args.ready c.args.n _ c.requires c.if-not-ready.false c.refused-then-has_number.ensures (omega (arith, c.pool_len.ensures.0, c.if-n-pool_len.false)) (sym c.has_number.ensures ∙ c.if-has_number.true)

pub returns-then-record_length-ge-CAPACITY : goal.returns-then-record_length-ge-CAPACITY
returns-then-record_length-ge-CAPACITY c = give-full c.args.words.now c.args.ids.now c.args.ready c.args.n _ c.requires c.if-not-ready.false c.refused-then-record_length-ge-CAPACITY.ensures (omega (arith, c.pool_len.ensures.0, c.if-n-pool_len.false)) (sym c.has_number.ensures ∙ c.if-has_number.false) (omega (arith, c.record_length.ensures.0, c.if-record_length-ge-CAPACITY.true))

pub returns : goal.returns
returns c = give-taken c.args.words.now c.args.ids.now c.args.ready c.args.n _ c.requires c.if-not-ready.false _ c.taken.ensures (omega (arith, c.pool_len.ensures.0, c.if-n-pool_len.false)) (sym c.has_number.ensures ∙ c.if-has_number.false) (omega (arith, c.record_length.ensures.0, c.if-record_length-ge-CAPACITY.false)) c.record_push.ensures
