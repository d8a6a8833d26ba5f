-- What the functions that read and write one field promise each other. A part stands at a position of the text, with the comma before it.
-- Assumes nothing.
use Rattle.std.specs.Prelude.{ℕ, ◌+◌, ◌≤◌, ◌≡◌, Bool, true, cond, List, [], ◌∷◌, ◌++◌, Option, Some, IfSome, eqb, length, drop}
use Rattle.std.specs.Option.{option_map, IsSomeAnd}
use Rattle.text.specs.declared.Read.{Read}
use Rattle.text.specs.Text.{dec_text}
use Rattle.text.specs.Scan.{read, found, Stops, is_comma}
use Rattle.protocol.specs.View.{View}
use Rattle.protocol.specs.Statement.{Group, only}
use Rattle.views.specs.declared.View as held
use Rattle.statements.specs.declared.Head.{Head}
use Rattle.statements.specs.declared.Binding.{Binding}
use Rattle.statements.specs.declared.Binding.TheVariants.{Unbound, Bound, Barred}
use Rattle.statements.specs.Text.{view_text}
use Rattle.views.specs.Held.{view_is}
use Rattle.statements.specs.Meaning.{FitsView, First}

-- ---- how the parts are written, each with a comma before it but the first

-- One value after the other.
unfoldable pub each : {A : Type 0} → (A → List ℕ) → List A → List ℕ
each text [] = []
each text (a ∷ l) = text a ++ each text l

-- A view, and a number, with the comma.
abbrev pub comma_view : View → List ℕ
comma_view v = 44 ∷ view_text v

abbrev pub comma_number : ℕ → List ℕ
comma_number n = 44 ∷ dec_text n

-- Views, each with its comma.
abbrev pub tail_text : List View → List ℕ
tail_text l = each comma_view l

-- The count, and the views.
abbrev pub views_text : List View → List ℕ
views_text l = comma_number (length l) ++ tail_text l

-- The fields up to the view, and up to the notice.
unfoldable pub start_text : ℕ → ℕ → View → View → List ℕ
start_text kind origin at view = dec_text kind ++ 44 ∷ (dec_text origin ++ 44 ∷ (view_text at ++ 44 ∷ view_text view))

unfoldable pub first_text : First → List ℕ
first_text f = start_text f.kind f.origin f.at f.view ++ comma_number f.notice

-- The four fields from binding to kept: by number, of a group, with a payload alone, and of each group.
unfoldable pub second_text : ℕ → ℕ → ℕ → ℕ → List ℕ
second_text binding payload stored kept = 44 ∷ (dec_text binding ++ 44 ∷ (dec_text payload ++ 44 ∷ (dec_text stored ++ 44 ∷ dec_text kept)))

abbrev pub group_text : Group → List ℕ
group_text g = second_text g.binding g.payload g.stored g.kept

abbrev pub payload_text : ℕ → List ℕ
payload_text m = group_text (only m)

abbrev pub groups_text : List Group → List ℕ
groups_text l = each group_text l

-- ---- reading. A part that is refused ends the reading.

-- What was read, with each value as what it means.
abbrev pub meant : {A B : Type 0} → (A → B) → Option (Read A) → Option (Read B)
meant f r = option_map (λ p. read (f p.value) p.next) r

-- p is r, if that is a number of at most `most`, and nothing otherwise.
pub record Bounded (r : Option (Read ℕ)) (most : ℕ) (p : Option (Read ℕ)) : Type 0 where
  pub only : IfSome p (λ q. (r ≡ Some q) × (q.value ≤ most))
  pub back : (v n : ℕ) → v ≤ most → r ≡ found v n → p ≡ found v n

pub record NumberAt (S : List ℕ) (at most : ℕ) (r : Option (Read ℕ)) : Type 0 where
  pub only : IfSome r (λ p. drop at S ≡ 44 ∷ (dec_text p.value ++ drop p.next S))
  pub back : (v : ℕ) (rest : List ℕ) → v ≤ most → Stops rest → drop at S ≡ 44 ∷ (dec_text v ++ rest) → IsSomeAnd r (λ p. (p.value ≡ v) × (drop p.next S ≡ rest))
  pub low : IfSome r (λ p. p.value ≤ most)

pub record ViewAt (S : List ℕ) (at : ℕ) (r : Option (Read held.View)) : Type 0 where
  pub only : IfSome r (λ p. drop at S ≡ 44 ∷ (view_text (view_is p.value) ++ drop p.next S))
  pub back : (v : View) (rest : List ℕ) → FitsView v → drop at S ≡ 44 ∷ (view_text v ++ rest) → IsSomeAnd r (λ p. (view_is p.value ≡ v) × (drop p.next S ≡ rest))

-- A comma and a 0 stand at a position.
abbrev pub Zero : List ℕ → ℕ → Type 0
Zero S at = drop at S ≡ 44 ∷ 48 ∷ drop (at + 2) S

-- r says so only where they do. What else may stand there is not asked.
pub record ZeroAt (S : List ℕ) (at : ℕ) (r : Bool) : Type 0 where
  pub is : r ≡ true → Zero S at

-- The same of four fields that are 0 and a comma after them.
pub record NothingAt (S : List ℕ) (at : ℕ) (r : Bool) : Type 0 where
  pub binding : r ≡ true → Zero S at
  pub payload : r ≡ true → Zero S (at + 2)
  pub stored : r ≡ true → Zero S (at + 4)
  pub kept : r ≡ true → Zero S (at + 6)
  pub then : r ≡ true → is_comma S (at + 8) ≡ true

-- A value, written as `text` says, was read from `at` on, or nothing was. Every value that fits is read.
pub record From {A : Type 0} (text : A → List ℕ) (Fit : A → Type 0) (S : List ℕ) (at : ℕ) (r : Option (Read A)) : Type 0 where
  pub only : IfSome r (λ p. drop at S ≡ text p.value ++ drop p.next S)
  pub back : (w : A) (rest : List ℕ) → Fit w → Stops rest → drop at S ≡ text w ++ rest → IsSomeAnd r (λ p. (p.value ≡ w) × (drop p.next S ≡ rest))

-- The same where the value goes to the end of the text.
pub record Ends {A : Type 0} (text : A → List ℕ) (Fit : A → Type 0) (S : List ℕ) (at : ℕ) (r : Option A) : Type 0 where
  pub only : IfSome r (λ v. drop at S ≡ text v)
  pub back : (w : A) → Fit w → drop at S ≡ text w → IsSomeAnd r (λ v. v ≡ w)

-- The fields that a Head has.
abbrev pub head_fields : Head → First
head_fields p = record { kind = p.kind; origin = p.origin; at = view_is p.at; view = view_is p.view; notice = p.notice }

-- The binding that a statement's two fields tell.
abbrev pub binding_from : ℕ → ℕ → Binding
binding_from n m = cond (eqb n 1) (Bound m) (cond (eqb n 2) Barred Unbound)
