use native.Mathlib.Omega.{arith}
use mathlib.Core.Path.{sym, ap, ◌∙◌}
use Rattle.pool.specs.Pool.{word, payload_from}
use Rattle.pool.proofs.Records as records
use Rattle.rules.specs.Rules.{prepared_by}
use Rattle.rules.proofs.Scans.{is-below, is-number, is-entry, is-end, prepare-first, prepare-none}
use Rattle.rules.proofs.signed.first_prepare.Goals as goal

pub loop-n-init : goal.loop-n-init
loop-n-init c = records.none_first _ _ _

pub returns-then-is_prepare : goal.returns-then-is_prepare
returns-then-is_prepare c =
    prepare-first _ _ _ _ _ _ c.loop-n.invariant _ (is-below c.args.words.now _ _ _ c.record_length.ensures.0 c.told-ids c.loop-n-test.true)
    (ap (prepared_by c.args.sender c.args.j) (sym (is-entry _ _ _ _ c.record_length.ensures.0 c.told-ids c.loop-n-test.true)) ∙ sym c.is_prepare.ensures ∙ c.if-is_prepare.true)
    (c.payload.ensures ∙ ap (λ n. word c.args.words.now n payload_from) (is-number c.args.words.now _ _ _ c.record_length.ensures.0 c.told-ids c.loop-n-test.true))

pub loop-n-preserved : goal.loop-n-preserved
loop-n-preserved c =
    records.none-next _ _ _ _ (omega (arith, is-below c.args.words.now _ _ _ c.record_length.ensures.0 c.told-ids c.loop-n-test.true)) c.loop-n.invariant
    (ap (prepared_by c.args.sender c.args.j) (sym (is-entry _ _ _ _ c.record_length.ensures.0 c.told-ids c.loop-n-test.true)) ∙ sym c.is_prepare.ensures ∙ c.if-is_prepare.false)

pub returns : goal.returns
returns c = prepare-none _ _ _ _ _ _ c.loop-n.invariant (is-end c.args.words.now _ _ _ c.record_length.ensures.0 c.told-ids c.loop-n.auto.n-index-end c.loop-n-test.false)
