use mathlib.Core.Path.{ap₂}
use Prim.Native.Nat.{ℕ}
use mathlib.Core.List.{[], ◌∷◌}
use Rattle.host.proofs.answers.tell.Goals as goal

pub returns : goal.returns
returns c = (c.answer_number.ensures, ap₂ (λ x (p : ℕ × ℕ). x ∷ p.0 ∷ p.1 ∷ []) c.value_number.ensures c.delivered_words-notice.ensures)
