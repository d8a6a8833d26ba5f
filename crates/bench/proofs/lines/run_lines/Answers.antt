use native.Mathlib.Omega.{arith}
use mathlib.Core.Path.{refl, sym, ◌∙◌}
use Rattle.bench.proofs.Runs.{kept-first, going-first, fulls-none, turnings-none, next-within, next-moves, less, room, room-body, line-fits, line-seat, called-on, idle-on, run-less, run_on, run-allowed, run-fresh, unread-on, going-long, going_end}
use Rattle.bench.proofs.lines.run_lines.Goals as goal

pub loop-place-init : goal.loop-place-init
loop-place-init c = (kept-first _ c.new-c.ensures 16 513 refl _ c.clear.ensures.len, going-first _ c.new-c.ensures 16 513 refl _ c.clear.ensures.len _ _ _ c.first-place.ensures, fulls-none _ 16 refl, turnings-none _ _ _ 16 refl)

pub slice_bounds-read_line-count : goal.slice_bounds-read_line-count
slice_bounds-read_line-count c = omega (arith, c.loop-place.invariant.1.within)

pub slice_bounds-read_line-start : goal.slice_bounds-read_line-start
slice_bounds-read_line-start c = omega (arith, c.loop-place.invariant.1.within)

pub slice_bounds-read_line-end : goal.slice_bounds-read_line-end
slice_bounds-read_line-end c = omega (arith, c.loop-place.invariant.1.within)

pub put_unreadable-place-requires : goal.put_unreadable-place-requires
put_unreadable-place-requires c = room c.args.schedule.now c.loop-place.place _ c.read_line-read.ensures c.loop-place.invariant.1 c.requires.0 c.loop-place-test.true

pub loop-place-smaller-in_default : goal.loop-place-smaller-in_default
loop-place-smaller-in_default c = less c.args.schedule.now c.loop-place.place _ c.read_line-read.ensures c.loop-place-test.true c.put_unreadable-place.ensures.passed

pub loop-place-preserved-in_default : goal.loop-place-preserved-in_default
loop-place-preserved-in_default c = (c.loop-place.invariant.0, unread-on c.args.schedule.now c.loop-place.place _ c.read_line-read.ensures c.in_default.is c.loop-place.invariant.0 c.loop-place.invariant.1 c.loop-place-test.true c.put_unreadable-place.ensures, c.loop-place.invariant.2, c.loop-place.invariant.3)

pub offset_bounds-seats-k : goal.offset_bounds-seats-k
offset_bounds-seats-k c = omega (arith, line-seat c.args.schedule.now c.loop-place.place _ c.read_line-read.ensures _ c.in-Some.is c.seat_of-k.ensures)

pub bounds-seats-k : goal.bounds-seats-k
bounds-seats-k c = line-seat c.args.schedule.now c.loop-place.place _ c.read_line-read.ensures _ c.in-Some.is c.seat_of-k.ensures

pub offset_bounds-turns-k : goal.offset_bounds-turns-k
offset_bounds-turns-k c = omega (arith, line-seat c.args.schedule.now c.loop-place.place _ c.read_line-read.ensures _ c.in-Some.is c.seat_of-k.ensures)

pub bounds-turns-k : goal.bounds-turns-k
bounds-turns-k c = line-seat c.args.schedule.now c.loop-place.place _ c.read_line-read.ensures _ c.in-Some.is c.seat_of-k.ensures

pub offset_bounds-records-k : goal.offset_bounds-records-k
offset_bounds-records-k c = omega (arith, line-seat c.args.schedule.now c.loop-place.place _ c.read_line-read.ensures _ c.in-Some.is c.seat_of-k.ensures)

pub bounds-records-k : goal.bounds-records-k
bounds-records-k c = line-seat c.args.schedule.now c.loop-place.place _ c.read_line-read.ensures _ c.in-Some.is c.seat_of-k.ensures

pub offset_bounds-full-k : goal.offset_bounds-full-k
offset_bounds-full-k c = omega (arith, line-seat c.args.schedule.now c.loop-place.place _ c.read_line-read.ensures _ c.in-Some.is c.seat_of-k.ensures)

pub bounds-full-k : goal.bounds-full-k
bounds-full-k c = line-seat c.args.schedule.now c.loop-place.place _ c.read_line-read.ensures _ c.in-Some.is c.seat_of-k.ensures

pub put_line-place-requires : goal.put_line-place-requires
put_line-place-requires c = (room c.args.schedule.now c.loop-place.place _ c.read_line-read.ensures c.loop-place.invariant.1 c.requires.0 c.loop-place-test.true, omega (arith, line-seat c.args.schedule.now c.loop-place.place _ c.read_line-read.ensures _ c.in-Some.is c.seat_of-k.ensures))

pub loop-place-smaller-then-lacks_nothing : goal.loop-place-smaller-then-lacks_nothing
loop-place-smaller-then-lacks_nothing c = less c.args.schedule.now c.loop-place.place _ c.read_line-read.ensures c.loop-place-test.true c.put_line-place.ensures.passed

pub loop-place-preserved-then-lacks_nothing : goal.loop-place-preserved-then-lacks_nothing
loop-place-preserved-then-lacks_nothing c = idle-on c.args.schedule.now c.loop-place.place _ c.read_line-read.ensures _ c.in-Some.is _ _ _ _ _ c.seat_of-k.ensures c.loop-place.invariant.0 c.loop-place.invariant.2 c.loop-place.invariant.3 (c.lacks_nothing.ensures c.if-lacks_nothing.true) c.loop-place.invariant.1 c.loop-place-test.true c.put_line-place.ensures

pub overflow_add-text : goal.overflow_add-text
overflow_add-text c = omega (arith, c.requires.0, next-within c.args.schedule.now c.loop-place.place _ c.read_line-read.ensures c.loop-place.invariant.1.within)

pub overflow_sub-text : goal.overflow_sub-text
overflow_sub-text c = omega (arith, next-moves c.args.schedule.now c.loop-place.place _ c.read_line-read.ensures c.loop-place-test.true)

pub slice_bounds-text-count : goal.slice_bounds-text-count
slice_bounds-text-count c = omega (arith, next-moves c.args.schedule.now c.loop-place.place _ c.read_line-read.ensures c.loop-place-test.true)

pub slice_bounds-text-start : goal.slice_bounds-text-start
slice_bounds-text-start c = omega (arith, next-moves c.args.schedule.now c.loop-place.place _ c.read_line-read.ensures c.loop-place-test.true)

pub slice_bounds-text-end : goal.slice_bounds-text-end
slice_bounds-text-end c = omega (arith, next-within c.args.schedule.now c.loop-place.place _ c.read_line-read.ensures c.loop-place.invariant.1.within)

pub offset_bounds-records-k-in-loop-place : goal.offset_bounds-records-k-in-loop-place
offset_bounds-records-k-in-loop-place c = omega (arith, line-seat c.args.schedule.now c.loop-place.place _ c.read_line-read.ensures _ c.in-Some.is c.seat_of-k.ensures)

pub bounds-records-k-in-loop-place : goal.bounds-records-k-in-loop-place
bounds-records-k-in-loop-place c = line-seat c.args.schedule.now c.loop-place.place _ c.read_line-read.ensures _ c.in-Some.is c.seat_of-k.ensures

pub run_line-s-requires : goal.run_line-s-requires
run_line-s-requires c = (record { distinct = c.loop-place.invariant.0.distinct; whole = c.loop-place.invariant.0.whole _ (line-seat c.args.schedule.now c.loop-place.place _ c.read_line-read.ensures _ c.in-Some.is c.seat_of-k.ensures) }, line-fits c.args.schedule.now c.loop-place.place _ c.read_line-read.ensures _ c.in-Some.is, sym c.is_call.ensures ∙ c.if-is_call.false, room-body c.args.schedule.now c.loop-place.place _ c.read_line-read.ensures _ c.in-Some.is c.loop-place.invariant.1 c.requires.0 c.loop-place-test.true, c.loop-place.invariant.2.each _ (line-seat c.args.schedule.now c.loop-place.place _ c.read_line-read.ensures _ c.in-Some.is c.seat_of-k.ensures))

pub offset_bounds-full-k-in-loop-place : goal.offset_bounds-full-k-in-loop-place
offset_bounds-full-k-in-loop-place c = omega (arith, line-seat c.args.schedule.now c.loop-place.place _ c.read_line-read.ensures _ c.in-Some.is c.seat_of-k.ensures)

pub bounds-full-k-in-loop-place : goal.bounds-full-k-in-loop-place
bounds-full-k-in-loop-place c = line-seat c.args.schedule.now c.loop-place.place _ c.read_line-read.ensures _ c.in-Some.is c.seat_of-k.ensures

pub offset_bounds-turns-k-in-loop-place : goal.offset_bounds-turns-k-in-loop-place
offset_bounds-turns-k-in-loop-place c = omega (arith, line-seat c.args.schedule.now c.loop-place.place _ c.read_line-read.ensures _ c.in-Some.is c.seat_of-k.ensures)

pub bounds-turns-k-in-loop-place : goal.bounds-turns-k-in-loop-place
bounds-turns-k-in-loop-place c = line-seat c.args.schedule.now c.loop-place.place _ c.read_line-read.ensures _ c.in-Some.is c.seat_of-k.ensures

pub start_all-seats-requires : goal.start_all-seats-requires
start_all-seats-requires c = run-allowed c.args.schedule.now c.loop-place.place _ c.read_line-read.ensures _ c.in-Some.is _ _ _ _ _ _ _ c.seat_of-k.ensures c.loop-place.invariant.0 c.loop-place.invariant.2 c.loop-place.invariant.3 c.run_line-s.result _ _ _ _ c.loop-place-test.true c.run_line-s.ensures c.if-s.true

pub loop-place-smaller-then-s : goal.loop-place-smaller-then-s
loop-place-smaller-then-s c = run-less c.args.schedule.now c.loop-place.place _ c.read_line-read.ensures _ c.in-Some.is _ _ _ _ _ _ _ c.seat_of-k.ensures c.loop-place.invariant.0 c.loop-place.invariant.2 c.loop-place.invariant.3 c.run_line-s.result _ _ _ _ c.loop-place-test.true c.run_line-s.ensures

pub loop-place-preserved-then-s : goal.loop-place-preserved-then-s
loop-place-preserved-then-s c = run-fresh c.args.schedule.now c.loop-place.place _ c.read_line-read.ensures _ c.in-Some.is _ _ _ _ _ _ _ c.seat_of-k.ensures c.loop-place.invariant.0 c.loop-place.invariant.2 c.loop-place.invariant.3 c.run_line-s.result _ _ _ _ c.loop-place-test.true c.run_line-s.ensures _ _ 16 refl c.if-s.true c.start_all-seats.ensures c.loop-place.invariant.1

pub loop-place-smaller : goal.loop-place-smaller
loop-place-smaller c = run-less c.args.schedule.now c.loop-place.place _ c.read_line-read.ensures _ c.in-Some.is _ _ _ _ _ _ _ c.seat_of-k.ensures c.loop-place.invariant.0 c.loop-place.invariant.2 c.loop-place.invariant.3 c.run_line-s.result _ _ _ _ c.loop-place-test.true c.run_line-s.ensures

pub loop-place-preserved : goal.loop-place-preserved
loop-place-preserved c = run_on c.args.schedule.now c.loop-place.place _ c.read_line-read.ensures _ c.in-Some.is _ _ _ _ _ _ _ c.seat_of-k.ensures c.loop-place.invariant.0 c.loop-place.invariant.2 c.loop-place.invariant.3 c.run_line-s.result _ _ _ _ c.loop-place-test.true c.run_line-s.ensures c.if-s.false c.loop-place.invariant.1

pub shape_of-rows : goal.shape_of-rows
shape_of-rows c = going-long c.loop-place.invariant.1

pub returns : goal.returns
returns c = going_end _ _ c.loop-place.invariant.1 (omega arith) c.requires.0 c.requires.1 c.end_of.ensures

pub run_call-place-requires : goal.run_call-place-requires
run_call-place-requires c =
    let l = line-seat c.args.schedule.now c.loop-place.place _ c.read_line-read.ensures _ c.in-Some.is c.seat_of-k.ensures in
    (record { distinct = c.loop-place.invariant.0.distinct; whole = c.loop-place.invariant.0.whole _ l }, sym c.is_call.ensures ∙ c.if-is_call.true, room c.args.schedule.now c.loop-place.place _ c.read_line-read.ensures c.loop-place.invariant.1 c.requires.0 c.loop-place-test.true, omega (arith, l, c.seat_of-k.ensures), c.loop-place.invariant.3.each _ l)

pub loop-place-smaller-then-is_call : goal.loop-place-smaller-then-is_call
loop-place-smaller-then-is_call c = less c.args.schedule.now c.loop-place.place _ c.read_line-read.ensures c.loop-place-test.true c.run_call-place.ensures.passed.passed

pub loop-place-preserved-then-is_call : goal.loop-place-preserved-then-is_call
loop-place-preserved-then-is_call c = called-on c.args.schedule.now c.loop-place.place _ c.read_line-read.ensures _ c.in-Some.is _ _ _ _ _ _ _ _ c.seat_of-k.ensures c.loop-place.invariant.0 c.loop-place.invariant.2 c.loop-place.invariant.3 _ _ _ _ _ c.run_call-place.ensures c.loop-place.invariant.1 c.loop-place-test.true

pub bounds-full-k-in-loop-place-2 : goal.bounds-full-k-in-loop-place-2
bounds-full-k-in-loop-place-2 c = line-seat c.args.schedule.now c.loop-place.place _ c.read_line-read.ensures _ c.in-Some.is c.seat_of-k.ensures
