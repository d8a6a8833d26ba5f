use native.Mathlib.Omega.{arith}
use Rattle.std.proofs.Common.{of_calls}
use Rattle.votes.proofs.Picked.{choice-in, choice-out, agreement-in, agreement-out, rows-kept}
use Rattle.votes.proofs.Tabled.{tables-are}
use Rattle.votes.proofs.chosen.tabulate.Goals as goal

pub returns : goal.returns
returns c = tables-are _ _ _ _ _ c.requires.groups _ _ _ _ (omega arith)
    (rows-kept (c.enter-agreements.ensures.others.keys 0 (omega arith) (λ e. omega arith)) (c.enter-agreements.ensures.others.rows 0 (omega arith) (λ e. omega arith))
    (c.enter-choices.ensures.entered _ _ _ (record {
      some = λ g w l post. choice-in _ _ _ _ c.requires.groups l c.args.found.wished c.requires.wished (search of_calls);
      none = λ g l post. choice-out _ _ _ _ c.requires.groups l c.args.found.wished c.requires.wished (search of_calls);
    })))
    (c.enter-agreements.ensures.entered _ _ _ (record {
      some = λ g w l post. agreement-in _ _ _ _ c.requires.groups l (search of_calls);
      none = λ g l post. agreement-out _ _ _ _ c.requires.groups l (search of_calls);
    }))
