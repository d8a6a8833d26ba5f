use native.Mathlib.Omega.{arith}
use Rattle.statements.proofs.Tells.{tells-past, tells-five, put-bit-as}
use mathlib.Core.Path.{refl}
use Rattle.statements.proofs.block.tell.Goals as goal

pub returns-then-j-ge-NOTICES : goal.returns-then-j-ge-NOTICES
returns-then-j-ge-NOTICES c = tells-past _ _ _ c.if-j-ge-NOTICES.true

pub returns : goal.returns
returns c = tells-five c.args.block.now c.told-block c.args.j c.if-j-ge-NOTICES.false c.args.t _ _ _ _ (put-bit-as c.word.ensures c.is_bound.ensures c.put_notice-bound.ensures) (put-bit-as c.word-2.ensures c.is_barred.ensures c.put_notice-barred.ensures) (put-bit-as c.word-3.ensures refl c.put_notice-stored.ensures) (omega arith) (omega arith) (omega arith) c.bound_payload.ensures (omega arith) (omega arith)
