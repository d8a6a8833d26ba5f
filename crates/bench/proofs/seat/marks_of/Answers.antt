use native.Mathlib.Omega.{arith}
use mathlib.Core.Path.{refl, ◌∙◌}
use Rattle.std.proofs.lemmas.List.{get_or-take, length-take-le}
use Rattle.bench.proofs.Records.{marks-first, marks-stored, marks-are, number-below}
use Rattle.bench.proofs.seat.marks_of.Goals as goal

pub loop-id-init : goal.loop-id-init
loop-id-init c = marks-first _ 512 refl

pub bounds-marks-from : goal.bounds-marks-from
bounds-marks-from c =
    let l = length-take-le c.record_length-end.result c.args.ids.now (omega arith) in
    let e = get_or-take c.record_length-end.result c.args.ids.now c.loop-id.id-index 0 (omega arith) in
    omega (arith, number-below c.args.ids.now 512 c.loop-id.id-index c.requires (omega arith))

pub loop-id-preserved : goal.loop-id-preserved
loop-id-preserved c =
    let l = length-take-le c.record_length-end.result c.args.ids.now (omega arith) in
    let e = get_or-take c.record_length-end.result c.args.ids.now c.loop-id.id-index 0 (omega arith) in
    marks-stored _ _ _ _ (c.from.ensures ∙ e) (omega (arith, number-below c.args.ids.now 512 c.loop-id.id-index c.requires (omega arith))) c.loop-id.invariant

pub returns : goal.returns
returns c = let l = length-take-le c.record_length-end.result c.args.ids.now (omega arith) in marks-are c.args.ids.now _ _ (omega arith) c.loop-id.invariant
