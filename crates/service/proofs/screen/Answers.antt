use native.Mathlib.Omega.{arith}
use Rattle.text.proofs.Stores.{wrote_as}
use Rattle.service.proofs.Whole.{shows_nothing, shows, unset-is, conflict-is}
use Rattle.service.proofs.screen.Goals as goal

pub returns-then-out-lt-SCREEN_BYTES : goal.returns-then-out-lt-SCREEN_BYTES
returns-then-out-lt-SCREEN_BYTES c = shows_nothing _ _ _ (omega arith)

pub returns-then-not-c : goal.returns-then-not-c
returns-then-not-c c = shows _ _ _ (omega arith) (wrote_as (unset-is c.args.c _ c.if-not-c.true) c.write_text.ensures) (omega (arith, c.write_text.ensures.next))

pub returns-then-e : goal.returns-then-e
returns-then-e c = shows _ _ _ (omega (arith, c.if-out-lt-SCREEN_BYTES.false)) (wrote_as (conflict-is c.args.c c.ring_of-ring.result _ _ _ _ c.of_record-e.result (record { ring = c.ring_of-ring.ensures; of = c.of_record-e.ensures.0 }) c.if-not-c.false c.if-e.true) c.put_conflict.ensures.0) c.put_conflict.ensures.1

pub put_agreed-requires : goal.put_agreed-requires
put_agreed-requires c = (omega (arith, c.if-out-lt-SCREEN_BYTES.false), c.if-not-c.false, c.if-e.false, (record { ring = c.ring_of-ring.ensures; of = c.of_record-e.ensures.0 }), c.of_record-e.ensures.1)

pub returns : goal.returns
returns c = shows _ _ _ (omega (arith, c.if-out-lt-SCREEN_BYTES.false)) c.put_agreed.ensures.0 c.put_agreed.ensures.1
