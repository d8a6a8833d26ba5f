use native.Mathlib.Omega.{arith}
use mathlib.Core.Path.{refl}
use Rattle.pool.proofs.Writes.{word-of}
use Rattle.pekdrav.proofs.Told.{senders-few, tells}
use Rattle.pekdrav.proofs.shown.pekdrav_raw_record_evidence.Goals as goal

pub returns : goal.returns
returns c = tells _ _ _ c.args.out.now c.tell.new.out c.tell-2.new.out c.tell_payloads.new.out _ _ _ c.of_record-e.result c.of_record-e.result.wished c.when-few.result c.when-length.result c.when-certified.result c.common.result c.of_record-e.ensures.0 (omega arith) (senders-few _ _) (word-of _ _ (omega arith) refl) c.when-few.ensures c.when-length.ensures c.when-certified.ensures c.common.ensures (omega arith) (omega arith) c.tell.ensures c.tell-2.ensures c.tell_payloads.ensures
