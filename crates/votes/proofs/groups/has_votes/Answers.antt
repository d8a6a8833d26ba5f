use Rattle.std.proofs.Common.{rules, take, arith, sym, ap, ◌∙◌}
use borrow.Author.Tests.{tests}
use Rattle.std.proofs.lemmas.Iterator.{YieldsList-from_slice}
use Rattle.std.proofs.lemmas.Iterator.Search.{any_from_yields_List}
use Rattle.protocol.specs.Lists.{any}
use Rattle.pool.proofs.Records.{so_far, whole}
use Rattle.pool.specs.Pool.{stmt_at}
use Rattle.votes.specs.Votes.{is_vote}
use Rattle.views.proofs.Chains.{any-take}
use Rattle.votes.proofs.groups.has_votes.Goals as goal

pub returns : goal.returns
returns c =
    any_from_yields_List (λ s. is_vote (stmt_at c.args.words.now s)) _ _ _ c.any.ensures.ran (YieldsList-from_slice (take c.record_length-end.result c.args.ids.now) cc) (λ x b q k. search (rules, tests))
    ∙ any-take is_vote (stmt_at c.args.words.now) _ _ 0 (omega arith)
    ∙ ap (any is_vote) (sym (so_far _ _ _ c.record_length-end.ensures.1) ∙ whole _ _ _ _ c.record_length-end.ensures.0)
