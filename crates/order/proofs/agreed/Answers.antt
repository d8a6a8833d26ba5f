use Rattle.std.proofs.Common.{rules, [], ◌∷◌}
use Rattle.pool.specs.Pool.{record_in}
use Rattle.rules.specs.Rules.{statements, own_statements, candidate_views, senders, told, sends}
use Rattle.order.proofs.Chosen.{only, or_else, others}
use Rattle.order.proofs.agreed.Goals as goal

pub returns : goal.returns
returns c =
    let own = own_statements (record_in c.args.words.now c.args.own.now) in
    or_else _ _ (or_else _ _ (only c.rule3.ensures (λ d X h. (h.1.0, tt)))
    c.or_else.ensures (λ p. only {L = own ∷ candidate_views c.args.candidates.now ∷ []} (search rules) (λ d X h. (h.1.0, (h.1.1.0, tt)))))
    c.or_else-2.ensures (λ p. others {L = statements (record_in c.args.words.now c.args.ids.now) ∷ own ∷ senders c.args.senders.now ∷ told c.args.told.now ∷ sends c.args.sends.now ∷ []} (search rules) (λ d X h. (h.0, (h.1.0, h.1.1.1))))
