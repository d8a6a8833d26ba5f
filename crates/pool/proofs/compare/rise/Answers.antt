use Rattle.std.proofs.Common.{rules, ◌≡◌, ◌+◌, ◌<◌, ℕ, length, get_or, true, ap, sym, ◌∙◌}
use Rattle.std.proofs.iter.runs.Made.{chains}
use Rattle.protocol.specs.View.{below}
use Rattle.protocol.specs.Statement.{is_rising}
use Rattle.views.specs.View.{view_of, view_in}
use Rattle.views.proofs.Chains.{map-all}
use Rattle.views.proofs.Histories.{rising-is}
use Rattle.views.proofs.Views.{below-in}
use Rattle.pool.proofs.compare.rise.Goals as goal

pub returns : goal.returns
returns c =
    let up : c.all.result ≡ true → (k : ℕ) → k + 1 < length c.args.listed.now → below 16 (view_of (get_or c.args.listed.now k 0)) (view_of (get_or c.args.listed.now (k + 1) 0)) ≡ true = search (rules, chains) in
    let down : ((k : ℕ) → k + 1 < length c.args.listed.now → below 16 (view_of (get_or c.args.listed.now k 0)) (view_of (get_or c.args.listed.now (k + 1) 0)) ≡ true) → c.all.result ≡ true = search (rules, chains) in
    rising-is (λ k. view_in (get_or c.args.listed.now k 0)) 16 (length c.args.listed.now) _ c.requires (λ e k m. below-in _ _ ∙ up e k m) (λ h. down (λ k m. sym (below-in _ _) ∙ h k m)) ∙ ap (is_rising 16) (sym (map-all view_in c.args.listed.now 0))
