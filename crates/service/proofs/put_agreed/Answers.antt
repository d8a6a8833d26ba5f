use native.Mathlib.Omega.{arith}
use Rattle.service.proofs.Whole.{looking, few-candidates, situated, crowded-wrote, agreed-wrote}
use Rattle.service.proofs.put_agreed.Goals as goal

pub of_controller-s-requires : goal.of_controller-s-requires
of_controller-s-requires c = looking c.args.c _ _ _ _ _ _ c.requires.3 c.requires.2

pub put_candidates-b-requires : goal.put_candidates-b-requires
put_candidates-b-requires c = (few-candidates c.args.c _ _ _ _ _ _ c.requires.3 c.requires.2, omega (arith, c.requires.0, c.put_head-a.ensures.1, c.put_head-a.auto.out))

pub write_text-requires : goal.write_text-requires
write_text-requires c = omega (arith, c.requires.0, c.put_head-a.ensures.1, c.put_head-a.auto.out, c.put_candidates-b.ensures.1, c.put_candidates-b.auto.out, c.min-n.ensures, c.put_notices-d.ensures.1, c.put_notices-d.auto.out)

pub returns-then-e : goal.returns-then-e
returns-then-e c = (crowded-wrote c.args.c _ _ _ _ _ _ c.requires.3 c.requires.2 c.requires.1 c.of_controller-s.result (situated c.args.c c.args.ring c.requires.3.ring _ _ _ _ _ _ c.requires.3.of c.requires.2 _ c.of_controller-s.ensures) _ c.min-n.ensures c.put_head-a.ensures.0 c.put_candidates-b.ensures.0 c.put_notices-d.ensures.0 c.if-e.true c.write_text.ensures, omega (arith, c.put_head-a.ensures.1, c.put_candidates-b.ensures.1, c.min-n.ensures, c.put_notices-d.ensures.1, c.write_text.ensures.next))

pub put_awaited-requires : goal.put_awaited-requires
put_awaited-requires c = (omega (arith, c.requires.0, c.put_head-a.ensures.1, c.put_head-a.auto.out, c.put_candidates-b.ensures.1, c.put_candidates-b.auto.out, c.min-n.ensures, c.put_notices-d.ensures.1, c.put_notices-d.auto.out), c.requires.3.ring, record { of = c.requires.3.of; agree = c.requires.2; few = c.if-e.false }, (situated c.args.c c.args.ring c.requires.3.ring _ _ _ _ _ _ c.requires.3.of c.requires.2 _ c.of_controller-s.ensures), c.of_controller-s.ensures.minute)

pub returns : goal.returns
returns c = (agreed-wrote c.args.c _ _ _ _ _ _ c.requires.3 c.requires.2 c.requires.1 c.of_controller-s.result (situated c.args.c c.args.ring c.requires.3.ring _ _ _ _ _ _ c.requires.3.of c.requires.2 _ c.of_controller-s.ensures) _ c.min-n.ensures c.put_head-a.ensures.0 c.put_candidates-b.ensures.0 c.put_notices-d.ensures.0 c.if-e.false c.put_awaited.ensures.0, omega (arith, c.put_head-a.ensures.1, c.put_candidates-b.ensures.1, c.min-n.ensures, c.put_notices-d.ensures.1, c.put_awaited.ensures.1))
