use native.Mathlib.Omega.{arith}
use Rattle.evidence.proofs.Senders.{senders-count}
use Rattle.pekdrav.proofs.Counting.{stores-far, stores-near}
use Rattle.pekdrav.proofs.who.pekdrav_raw_record_store_set.Goals as goal

pub returns-then-notice-min : goal.returns-then-notice-min
returns-then-notice-min c = stores-far _ _ _ _ _ (omega (arith, senders-count c.args.senders.now c.args.count, c.min.ensures, c.if-notice-min.true))

pub stored_by-requires : goal.stored_by-requires
stored_by-requires c = c.of_record-e.ensures.1

pub returns : goal.returns
returns c = stores-near _ _ _ _ _ (omega (arith, senders-count c.args.senders.now c.args.count, c.min.ensures, c.if-notice-min.false)) _ c.stored_by.ensures
