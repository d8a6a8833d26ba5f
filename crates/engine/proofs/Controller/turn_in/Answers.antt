use mathlib.Core.Path.{refl}
use borrow.Author.Tests.{not-true, not-false}
use Rattle.engine.specs.declared.Refusal.TheVariants.{OutOfPlace, BadMinute}
use Rattle.engine.proofs.Turned.{turn-unready, turn-late, turn-refused, turn-split, turn-crowded, acts-on, turn-acts}
use Rattle.engine.proofs.Controller.turn_in.Goals as goal

pub returns-then-not-self : goal.returns-then-not-self
returns-then-not-self c = turn-refused _ _ c.args.self _ _ OutOfPlace (turn-unready c.args.self _ _ _ (not-true _ c.if-not-self.true-raw)) refl refl

pub returns-then-minute-gt-LAST_MINUTE : goal.returns-then-minute-gt-LAST_MINUTE
returns-then-minute-gt-LAST_MINUTE c = turn-refused _ _ c.args.self _ _ BadMinute (turn-late c.args.self _ _ _ (not-false _ c.if-not-self.false-raw) c.if-minute-gt-LAST_MINUTE.true) refl refl

pub returns-then-e : goal.returns-then-e
returns-then-e c = turn-split _ _ c.args.self _ c.ring_of-ring.ensures _ _ _ c.of_record-e.result c.of_record-e.ensures.0 _ (not-false _ c.if-not-self.false-raw, c.if-minute-gt-LAST_MINUTE.false) _ c.if-e.true refl refl

pub returns-then-e-2 : goal.returns-then-e-2
returns-then-e-2 c = turn-crowded _ _ c.args.self _ c.ring_of-ring.ensures _ _ _ c.of_record-e.result c.of_record-e.ensures.0 _ (not-false _ c.if-not-self.false-raw, c.if-minute-gt-LAST_MINUTE.false) _ c.if-e.false c.if-e-2.true refl refl

pub act-requires : goal.act-requires
act-requires c = let (q, k) = acts-on _ _ c.args.self _ c.ring_of-ring.ensures _ _ _ c.of_record-e.result c.of_record-e.ensures.0 _ (not-false _ c.if-not-self.false-raw, c.if-minute-gt-LAST_MINUTE.false) c.if-e.false c.if-e-2.false in (q, k, c.of_record-e.ensures.1)

pub returns : goal.returns
returns c = turn-acts _ _ c.args.self _ c.ring_of-ring.ensures _ _ _ c.of_record-e.result c.of_record-e.ensures.0 _ (not-false _ c.if-not-self.false-raw, c.if-minute-gt-LAST_MINUTE.false) c.if-e.false c.if-e-2.false _ _ _ c.act.ensures
