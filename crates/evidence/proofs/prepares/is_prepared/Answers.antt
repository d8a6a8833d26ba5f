use Rattle.std.proofs.Common.{rules, take, arith, ◌∙◌}
use borrow.Author.Tests.{tests}
use Rattle.std.proofs.lemmas.Iterator.{YieldsList-from_slice}
use Rattle.std.proofs.lemmas.Iterator.Search.{any_from_yields_List}
use Rattle.protocol.specs.Evidence.{is_prepared}
use Rattle.pool.specs.Pool.{stmt_at}
use Rattle.evidence.specs.Notices.{senders_of}
use Rattle.evidence.specs.Shown.{prepares_it}
use Rattle.evidence.proofs.Taken.{any-record}
use Rattle.evidence.proofs.prepares.is_prepared.Goals as goal

pub returns : goal.returns
unfolding is_prepared prepares_it
returns c =
    any_from_yields_List (λ s. prepares_it (senders_of c.args.senders.now c.args.count) c.args.j c.args.m (stmt_at c.args.words.now s)) _ _ _ c.any.ensures.ran (YieldsList-from_slice (take c.record_length.result c.args.ids.now) cc) (λ x b q k. search (rules, tests))
    ∙ any-record _ _ _ _ c.record_length.ensures.0 (omega (arith, c.record_length.ensures.1))
