use native.Mathlib.Omega.{arith}
use lib.Dec.{eqb}
use mathlib.Core.Path.{refl, ap, ◌∙◌}
use Rattle.evidence.proofs.Listing.{sifted-none, sifted-next, sifted-whole}
use Rattle.rules.proofs.Scans.{is-below, is-number, is-entry, is-end, of_is, owns-all}
use Rattle.rules.proofs.signed.own_of.Goals as goal

pub loop-n-init : goal.loop-n-init
loop-n-init c = sifted-none c.record_clear.ensures.long

pub loop-n-preserved : goal.loop-n-preserved
loop-n-preserved c =
    rw (is-number c.args.words.now _ _ _ c.record_length.ensures.0 c.told-ids c.loop-n-test.true, c.from-count.ensures)
    (sifted-next (omega (arith, is-below c.args.words.now _ _ _ c.record_length.ensures.0 c.told-ids c.loop-n-test.true)) c.loop-n.invariant (eqb c.origin.result c.from.result)
    (ap (eqb c.origin.result) c.from.ensures ∙ of_is _ _ _ (c.origin.ensures.0 ∙ ap (λ s. s.origin) (is-entry _ _ _ _ c.record_length.ensures.0 c.told-ids c.loop-n-test.true))))

pub returns : goal.returns
returns c = owns-all (sifted-whole _ (is-end c.args.words.now _ _ _ c.record_length.ensures.0 c.told-ids c.loop-n.auto.n-index-end c.loop-n-test.false) refl c.loop-n.invariant)
