use native.Mathlib.Omega.{arith}
use Rattle.statements.specs.Text.{parted}
use Rattle.views.specs.View.{view_of}
use Rattle.screen.specs.Screen.{conflict_line, greatest_word, line_text}
use Rattle.screen.proofs.ScreenLaws.{wished-size, candidates-most, views-most, conflict-wrote, lines-wrote}
use Rattle.screen.proofs.put_evidence.Goals as goal

pub put_wished-a-requires : goal.put_wished-a-requires
put_wished-a-requires c = omega (arith, c.requires.1)

pub write_text-requires : goal.write_text-requires
write_text-requires c = omega (arith, c.requires.1, c.put_wished-a.ensures.next, c.put_wished-a.auto.out, wished-size (view_of c.args.e.wished))

pub returns-then-e : goal.returns-then-e
unfolding conflict_line line_text parted
returns-then-e c = conflict-wrote c.args.n c.args.e c.args.candidates.now c.args.greatest.now c.args.certs.now _ c.put_wished-a.ensures c.if-e.true c.write_text.ensures

pub put_candidates-b-requires : goal.put_candidates-b-requires
put_candidates-b-requires c = (c.requires.2.candidates c.if-e.false, omega (arith, c.requires.1, c.put_wished-a.ensures.next, c.put_wished-a.auto.out, wished-size (view_of c.args.e.wished)))

pub put_greatest-c-requires : goal.put_greatest-c-requires
put_greatest-c-requires c = (c.requires.2.greatest c.if-e.false, omega (arith, c.requires.1, c.put_wished-a.ensures.next, c.put_wished-a.auto.out, wished-size (view_of c.args.e.wished), c.put_candidates-b.ensures.next, c.put_candidates-b.auto.out, candidates-most c.args.e.many c.args.candidates.now c.args.e.count (c.requires.2.candidates c.if-e.false)))

pub put_certificates-requires : goal.put_certificates-requires
put_certificates-requires c = (c.requires.0, omega (arith, c.requires.1, c.put_wished-a.ensures.next, c.put_wished-a.auto.out, wished-size (view_of c.args.e.wished), c.put_candidates-b.ensures.next, c.put_candidates-b.auto.out, candidates-most c.args.e.many c.args.candidates.now c.args.e.count (c.requires.2.candidates c.if-e.false), c.put_greatest-c.ensures.next, c.put_greatest-c.auto.out, views-most greatest_word c.args.greatest.now c.args.e.length (c.requires.2.greatest c.if-e.false)), c.requires.3)

pub returns : goal.returns
returns c = lines-wrote c.args.n c.args.e c.args.candidates.now c.args.greatest.now c.args.certs.now _ c.put_wished-a.ensures c.if-e.false c.requires.2 c.put_candidates-b.ensures c.put_greatest-c.ensures c.put_certificates.ensures
