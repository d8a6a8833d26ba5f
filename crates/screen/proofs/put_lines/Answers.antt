use native.Mathlib.Omega.{arith}
use mathlib.Core.Path.{refl, ap, ◌∙◌}
use lib.Dec.{eqb}
use lib.ListN.{length}
use lib.Seq.{length-sets}
use Rattle.protocol.specs.Count.{complete_after}
use Rattle.views.specs.View.{ring_of_word}
use Rattle.pool.specs.Pool.{record_in}
use Rattle.screen.specs.ScreenParts.{lines_to}
use Rattle.screen.proofs.ScreenLaws.{lines-first, lines-skip, lines_next, lines-all}
use borrow.Author.Tests.{not-true, not-false}
use Rattle.screen.proofs.put_lines.Goals as goal

pub loop-j-init : goal.loop-j-init
loop-j-init c = (omega arith, lines-first _ _ _ _ _ _ _)

pub loop-j-preserved-then-not-has : goal.loop-j-preserved-then-not-has
loop-j-preserved-then-not-has c = (omega (arith, c.loop-j.invariant.0), lines-skip _ _ _ _ _ _ c.loop-j.invariant.1 _ c.has.ensures (not-true _ c.if-not-has.true-raw))

pub complete_after-after-requires : goal.complete_after-after-requires
complete_after-after-requires c = c.requires.2

pub put_certificate-at-requires : goal.put_certificate-at-requires
put_certificate-at-requires c = (omega (arith, c.requires.0, c.loop-j-test.true), c.complete_after-after.ensures.1, omega (arith, c.requires.1, c.loop-j-test.true, c.loop-j.invariant.0, ap length c.loop-j.invariant.1.is ∙ length-sets c.args.out.now c.args.from (lines_to (eqb c.args.n 1) c.args.e.certified c.args.certs.now c.args.e.stored (complete_after (ring_of_word c.args.init) (record_in c.args.words.now c.args.ids.now)) c.loop-j.j)))

pub loop-j-preserved : goal.loop-j-preserved
loop-j-preserved c = (omega (arith, c.put_certificate-at.ensures.1, c.loop-j.invariant.0), lines_next _ _ _ _ _ _ c.loop-j.invariant.1 _ c.has.ensures _ _ _ (not-false _ c.if-not-has.false-raw) refl c.has-is_stored.ensures c.complete_after-after.ensures.0 c.put_certificate-at.ensures.0)

pub shape_of-out : goal.shape_of-out
shape_of-out c = ap length c.loop-j.invariant.1.is ∙ simp length-sets

pub returns : goal.returns
returns c = (lines-all _ _ _ _ _ _ _ (omega arith) c.loop-j.invariant.1, omega (arith, c.loop-j.invariant.0))
