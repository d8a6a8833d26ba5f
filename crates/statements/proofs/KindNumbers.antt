-- The number of a kind, as `as u64` gives it.
-- Assumes nothing.
use mathlib.Core.Path.{◌≡◌, refl}
use Prim.Native.Nat.{◌+◌}
use denote.Enum.Declared.{tag_of}
use Rattle.statements.specs.declared.kind.Kind.{Kind}
use Rattle.statements.specs.declared.kind.Kind.TheVariants.{Join, Leave, AgreeView, AgreeHistory, Report, Prepare, Ack, Store}
use Rattle.statements.specs.contracts.kind.Kind.{the_type}
use Rattle.statements.specs.Kind.{kind_number}

pub number_is : (k : Kind) → tag_of the_type k + 1 ≡ kind_number k
number_is Join = refl
number_is Leave = refl
number_is AgreeView = refl
number_is AgreeHistory = refl
number_is Report = refl
number_is Prepare = refl
number_is Ack = refl
number_is Store = refl
