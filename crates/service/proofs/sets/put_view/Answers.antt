use native.Mathlib.Omega.{arith}
use Rattle.text.proofs.Stores.{both, wrote_as}
use mathlib.Core.Path.{ap}
use Rattle.text.specs.Text.{hex_text}
use Rattle.text.proofs.Hex.{hex-length}
use Rattle.statements.specs.Text.{view_text}
use Rattle.views.specs.View.{view_of}
use Rattle.service.proofs.sets.put_view.Goals as goal

pub write_hex-requires : goal.write_hex-requires
write_hex-requires c = omega (arith, c.requires, c.write_hex-a.ensures.next, c.write_hex-a.auto.out, hex-length 4 c.low_half.result)

pub returns : goal.returns
unfolding view_text view_of
returns c = (both (wrote_as (ap (hex_text 4) c.low_half.ensures) c.write_hex-a.ensures) (wrote_as (ap (hex_text 4) c.high_half.ensures) c.write_hex.ensures), omega (arith, c.write_hex-a.ensures.next, c.write_hex.ensures.next, hex-length 4 c.low_half.result, hex-length 4 c.high_half.result))
