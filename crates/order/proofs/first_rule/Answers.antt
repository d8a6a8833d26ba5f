use Rattle.std.proofs.Common.{rules, [], ◌∷◌, ◌<◌, ◌≤◌}
use Rattle.pool.specs.Pool.{record_in}
use Rattle.rules.specs.Rules.{statements, own_statements, candidate_views, senders, told, sends}
use Rattle.evidence.proofs.Reporting.{count_most, length_most}
use Rattle.order.proofs.Counts.{some-candidate}
use Rattle.order.proofs.Chosen.{only, or_else, others, all-ten, owned}
use Rattle.order.proofs.first_rule.Goals as goal

pub rule1-requires : goal.rule1-requires
rule1-requires c = length_most _ _ _ _ _ _ _ c.requires

pub or_else-requires-2 : goal.or_else-requires-2
or_else-requires-2 c = λ e. let k : (0 < c.args.s.shown.count) × (c.args.s.shown.count ≤ 16) = (some-candidate _ _ _ _ _ _ _ c.requires, count_most _ _ _ _ _ _ _ c.requires) in search rules

pub returns : goal.returns
returns c =
    let own = own_statements (record_in c.args.words.now c.own_of.new.own) in
    all-ten (or_else _ _ (or_else _ _ (only c.rule1.ensures (λ d X h. (owned c.own_of.ensures h.0, (h.1.1.0, tt))))
    c.or_else.ensures (λ p. only {L = statements (record_in c.args.words.now c.args.ids.now) ∷ senders c.args.senders.now ∷ []} (search rules) (λ d X h. (h.0, (h.1.1.1.0, tt)))))
    c.or_else-2.ensures (λ p. others {L = statements (record_in c.args.words.now c.args.ids.now) ∷ own ∷ candidate_views c.args.candidates.now ∷ senders c.args.senders.now ∷ told c.args.told.now ∷ sends c.args.sends.now ∷ []} (search rules) (λ d X h. (h.0, (owned c.own_of.ensures h.0, (h.1.0, h.1.1.1))))))
