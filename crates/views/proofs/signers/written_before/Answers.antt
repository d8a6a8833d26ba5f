use mathlib.Core.Path.{ap₂, ◌∙◌}
use Prim.Native.Nat.{ℕ}
use mathlib.Core.Bool.{◌&&◌, ◌||◌}
use lib.Dec.{eqb, ltb}
use Rattle.protocol.specs.Signers.{written_before}
use Rattle.views.specs.View.{view_of}
use Rattle.views.proofs.Signing.{pairs-lt}
use Rattle.views.proofs.signers.written_before.Goals as goal

pub returns : goal.returns
unfolding view_of written_before
returns c =
    c.lt.ensures ∙ pairs-lt (ltb c.low_half.result c.low_half-2.result) (eqb c.low_half.result c.low_half-2.result) (ltb c.high_half.result c.high_half-2.result) (eqb c.high_half.result c.high_half-2.result)
    ∙ ap₂ (λ (a b : ℕ × ℕ). ltb a.0 b.0 || eqb a.0 b.0 && ltb a.1 b.1) (λ i. (c.low_half.ensures i, c.high_half.ensures i)) (λ i. (c.low_half-2.ensures i, c.high_half-2.ensures i))
