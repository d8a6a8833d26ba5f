-- What a verdict that is remembered says.
-- Assumes nothing.
use Rattle.std.specs.Prelude.{Bool, true, false, Option, Some, None}
use Rattle.sealing.specs.declared.verdict.Verdict.{Verdict}
use Rattle.sealing.specs.declared.verdict.Verdict.TheVariants.{Unknown, Yes, No}

-- What was found, if anything was.
abbrev pub known : Verdict → Option Bool
known Unknown = None
known Yes = Some true
known No = Some false

-- It was found, and is a yes.
abbrev pub is_yes : Verdict → Bool
is_yes Unknown = false
is_yes Yes = true
is_yes No = false
