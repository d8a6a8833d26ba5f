-- Laws of the library's Option for the protocol's.
-- Assumes nothing.
use Rattle.std.specs.Prelude.{Some, None}
use Rattle.std.proofs.Math.Option as protocol
use mathlib.Core.Path.{◌≡◌, refl}
use Rattle.views.specs.Options.{option_of}

pub option-some : {A : Type 0} (o : protocol.Option A) (a : A) → Some a ≡ option_of o → o ≡ protocol.some a
option-some protocol.none a e = cc
option-some (protocol.some b) a e = cc

pub option-none : {A : Type 0} (o : protocol.Option A) → None ≡ option_of o → o ≡ protocol.none
option-none protocol.none e = refl
option-none (protocol.some b) e = cc

pub some≢none : {A : Type 0} (a : A) → Some a ≡ None → ⊥
some≢none a e = cc

pub option-injective : {A : Type 0} (a b : A) → Some a ≡ Some b → a ≡ b
option-injective a b e = cc
