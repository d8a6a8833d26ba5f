use mathlib.Core.Path.{refl, ap}
use mathlib.Core.List.{◌∷◌}
use Rattle.text.proofs.Stores.{wrote_as}
use Rattle.screen.proofs.ScreenLaws.{word-text, wished-wrote}
use Rattle.screen.proofs.put_wished.Goals as goal

pub returns : goal.returns
returns c = wished-wrote _ c.write_text-a.ensures (wrote_as (ap (λ t. 44 ∷ t) (word-text _ _ _ c.of_word.ensures refl)) c.put_view-b.ensures.1) c.write_text.ensures
