use native.Mathlib.Omega.{arith}
use Prim.Native.Nat.{◌+◌}
use mathlib.Core.Path.{sym, ap}
use Rattle.text.proofs.Hex.{hex-length}
use Rattle.text.proofs.Stores.{hex-step-back, hex-done}
use Rattle.text.proofs.write_hex.Goals as goal

pub loop-i-preserved : goal.loop-i-preserved
loop-i-preserved c = (omega arith, rw c.glyph_of.ensures (hex-step-back _ _ _ _ _ _ _ c.loop-i.invariant.1 c.loop-i-test.true))

pub returns : goal.returns
returns c = record { next = ap (λ k. c.args.at + k) (sym (hex-length c.args.digits c.args.v)); is = hex-done _ _ _ _ _ _ _ c.loop-i.invariant.1 (omega arith) }
