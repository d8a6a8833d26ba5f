use native.Mathlib.Omega.{arith}
use Rattle.std.proofs.lemmas.Bool.Decides.{nat_tests}
use mathlib.Core.Path.{◌≡◌, refl}
use mathlib.Core.Bool.{◌||◌}
use Rattle.evidence.proofs.Tied as laws
use Rattle.evidence.proofs.summary.tie.Goals as goal

pub returns : goal.returns
returns c =
    let e : c.if-h.result ≡ (c.args.r.conflict || c.args.h.conflict || c.args.c.conflict) = grind (arith, nat_tests) in
    (laws.tied _ _ _ _ _ _ _ e, refl)
