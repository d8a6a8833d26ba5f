use native.Mathlib.Omega.{arith}
use Rattle.pekdrav.proofs.Placing.{no_text, texted}
use Rattle.pekdrav.proofs.pooled.pekdrav_pool_text.Goals as goal

pub returns-then-n-pool_len : goal.returns-then-n-pool_len
returns-then-n-pool_len c = no_text _ _ _ (omega (arith, c.pool_len.ensures.0))

pub returns : goal.returns
returns c = texted _ _ _ _ _ c.get-st.ensures.0 c.get-st.ensures.1 (omega (arith, c.pool_len.ensures.0)) _ _ c.write.ensures.0 c.write.ensures.1
