use Rattle.std.proofs.Common.{rules, [], ◌∷◌}
use Rattle.pool.specs.Pool.{record_in}
use Rattle.rules.specs.Rules.{own_statements, sends}
use Rattle.order.proofs.Chosen.{only, or_else}
use Rattle.order.proofs.requested.Goals as goal

pub returns : goal.returns
returns c =
    let own = own_statements (record_in c.args.words.now c.args.own.now) in
    or_else _ _ (or_else _ _ (only c.rule8.ensures (λ d X h. (h.0, tt)))
    c.or_else.ensures (λ p. only {L = own ∷ []} (search rules) (λ d X h. (h.0, tt))))
    c.or_else-2.ensures (λ p. only {L = own ∷ sends c.args.sends.now ∷ []} (search rules) (λ d X h. h))
