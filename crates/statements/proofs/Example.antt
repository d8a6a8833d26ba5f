-- Three texts, byte by byte: a join of controller 3, an ack of notice 5, and a report of two notices with two views.
-- Assumes nothing.
use mathlib.Core.Path.{◌≡◌, refl}
use mathlib.Core.List.{[], ◌∷◌}
use mathlib.Core.Option.{some, none}
use Prim.Native.Nat.{ℕ}
use Rattle.text.specs.Text.{digits, dec_text, hex_text}
use Rattle.protocol.specs.View.{View}
use Rattle.protocol.specs.Statement.{join, ack, report, tells, bound, barred}
use Rattle.statements.specs.Text.{parted, view_text, group_parts, text}

abbrev view : ℕ → ℕ → View
view j l = record { joined = j; left = l }

-- 1,3,00000000,00000000,0,0,0,0,0,0
join-text : text (join 3) ≡ 49 ∷ 44 ∷ 51 ∷ 44 ∷ 48 ∷ 48 ∷ 48 ∷ 48 ∷ 48 ∷ 48 ∷ 48 ∷ 48 ∷ 44 ∷ 48 ∷ 48 ∷ 48 ∷ 48 ∷ 48 ∷ 48 ∷ 48 ∷ 48 ∷ 44 ∷ 48 ∷ 44 ∷ 48 ∷ 44 ∷ 48 ∷ 44 ∷ 48 ∷ 44 ∷ 48 ∷ 44 ∷ 48 ∷ []
unfolding text parted view_text group_parts dec_text digits hex_text
join-text = refl

-- 7,2,00070002,00000000,5,0,70,0,0,0
ack-text : text (ack 2 (view 7 2) 5 70) ≡ 55 ∷ 44 ∷ 50 ∷ 44 ∷ 48 ∷ 48 ∷ 48 ∷ 55 ∷ 48 ∷ 48 ∷ 48 ∷ 50 ∷ 44 ∷ 48 ∷ 48 ∷ 48 ∷ 48 ∷ 48 ∷ 48 ∷ 48 ∷ 48 ∷ 44 ∷ 53 ∷ 44 ∷ 48 ∷ 44 ∷ 55 ∷ 48 ∷ 44 ∷ 48 ∷ 44 ∷ 48 ∷ 44 ∷ 48 ∷ []
unfolding text parted view_text group_parts dec_text digits hex_text
ack-text = refl

-- 5,2,00070002,000f0002,0,1,4711,1,70,2,0,0,0,2,00070000,00070002
report-text : text (report 2 (view 7 2) (view 15 2) (tells (bound 4711) (some 70) ∷ tells barred none ∷ []) (view 7 0 ∷ view 7 2 ∷ [])) ≡ 53 ∷ 44 ∷ 50 ∷ 44 ∷ 48 ∷ 48 ∷ 48 ∷ 55 ∷ 48 ∷ 48 ∷ 48 ∷ 50 ∷ 44 ∷ 48 ∷ 48 ∷ 48 ∷ 102 ∷ 48 ∷ 48 ∷ 48 ∷ 50 ∷ 44 ∷ 48 ∷ 44 ∷ 49 ∷ 44 ∷ 52 ∷ 55 ∷ 49 ∷ 49 ∷ 44 ∷ 49 ∷ 44 ∷ 55 ∷ 48 ∷ 44 ∷ 50 ∷ 44 ∷ 48 ∷ 44 ∷ 48 ∷ 44 ∷ 48 ∷ 44 ∷ 50 ∷ 44 ∷ 48 ∷ 48 ∷ 48 ∷ 55 ∷ 48 ∷ 48 ∷ 48 ∷ 48 ∷ 44 ∷ 48 ∷ 48 ∷ 48 ∷ 55 ∷ 48 ∷ 48 ∷ 48 ∷ 50 ∷ []
unfolding text parted view_text group_parts dec_text digits hex_text
report-text = refl
