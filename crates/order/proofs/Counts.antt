-- Where a rule is done there is a candidate.
-- Assumes nothing.
use mathlib.Core.Path.{refl, ap}
use mathlib.Core.List.Memᴰ
use mathlib.Core.List.{List, [], ◌∷◌}
use Prim.Native.Nat.{ℕ, ◌<◌}
use native.Mathlib.Omega.{arith}
use lib.ListN.{length}
use Rattle.protocol.specs.Lists.{◌∈◌}
use Rattle.protocol.specs.View.{Ring}
use Rattle.protocol.specs.Statement.{Stmt}
use Rattle.protocol.specs.Evidence.{initial}
use Rattle.protocol.proofs.Asked.{candidates-exact}
use Rattle.views.proofs.Tables.{views-count}
use Rattle.evidence.specs.declared.Evidence.{Evidence}
use Rattle.evidence.specs.Evidence.{Settled}

some_in : {A : Type 0} {a : A} (l : List A) → a ∈ l → 0 < length l
some_in [] m = absurd (Memᴰ.not-nil m)
some_in (x ∷ l) m = omega arith

module _ (R : Ring) (senders : List ℕ) (X : List Stmt) (C G P : List ℕ) (e : Evidence) (k : Settled R senders X C G P e) where
  pub some-candidate : 0 < e.count
  some-candidate =
      let m = (candidates-exact R X R.init).1 (initial refl) in
      omega (arith, some_in _ m, ap length (k.of.candidates k.agree k.few), views-count C e.count)
