use Rattle.pool.proofs.Reports.{plain_in, report-in, bound-set, barred-set, stored-set}
use Rattle.pool.proofs.report.put_groups.Goals as goal

pub returns-then-kind : goal.returns-then-kind
returns-then-kind c = plain_in _ c.args.groups _ _ _ _ c.if-kind.true

pub returns : goal.returns
returns c = report-in _ _ _ _ _ _ _ c.many-c.result c.bits_without.result c.first_bits.result c.first_bits-2.result c.if-kind.false c.many-c.ensures (bound-set _ _ _ _ _ c.word.ensures c.word-2.ensures c.bits_without.ensures) (barred-set _ _ _ _ c.word-3.ensures c.first_bits.ensures) (stored-set _ _ _ _ c.word-4.ensures c.first_bits-2.ensures) c.put_pairs.ensures
