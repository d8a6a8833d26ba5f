use native.Mathlib.Omega.{arith}
use mathlib.Core.Path.{◌∙◌}
use Prim.Native.Nat.{◌%◌, ◌≤◌}
use Rattle.evidence.proofs.Backing as laws
use Rattle.evidence.proofs.certificates.is_backed.Goals.{else-k-via-then-k+else-k-2, else-k-via-else-k}
use Rattle.evidence.proofs.certificates.is_backed.Goals as goal

pub returns-then-k-2 : goal.returns-then-k-2
returns-then-k-2 c = laws.backed-other _ _ _ _ (laws.tag-kind c.args.words.now c.args.ids.now _ _ (c.own_of-k.ensures ∙ c.requires.2)) c.if-k.true c.if-k-2.true

pub returns-then-not-is_complete : goal.returns-then-not-is_complete
returns-then-not-is_complete c =
    let late : (7 ≤ c.own_of-k.result % 256) × (c.own_of-k.result % 256 ≤ 8) = elim c.else-k.branch [
      | else-k-via-then-k+else-k-2 w ↦ (omega (arith, w.if-k-2.false), omega (arith, w.if-k-2.false))
      | else-k-via-else-k w ↦ (omega (arith, w.if-k.false), omega (arith, w.if-k.false))
    ] in
    laws.backed-few _ _ _ _ _ _ (laws.tag-kind c.args.words.now c.args.ids.now _ _ (c.own_of-k.ensures ∙ c.requires.2)) late.0 late.1 c.requires.3 c.is_complete.ensures c.if-not-is_complete.true

pub returns : goal.returns
returns c =
    let late : (7 ≤ c.own_of-k.result % 256) × (c.own_of-k.result % 256 ≤ 8) = elim c.else-k.branch [
      | else-k-via-then-k+else-k-2 w ↦ (omega (arith, w.if-k-2.false), omega (arith, w.if-k-2.false))
      | else-k-via-else-k w ↦ (omega (arith, w.if-k.false), omega (arith, w.if-k.false))
    ] in
    laws.backed-top _ _ _ _ _ _ (laws.tag-kind c.args.words.now c.args.ids.now _ _ (c.own_of-k.ensures ∙ c.requires.2)) late.0 late.1 c.requires.3 c.is_complete.ensures _ _ (laws.at_place c.args.words.now c.args.ids.now _ c.place_of.ensures c.at-t.ensures) c.if-not-is_complete.false c.is_sealed_top.ensures
