-- Two statements that fit a ring's number of notices and have one text are one.
-- Assumes nothing.
use Prim.Native.Nat.{ℕ, ◌≤◌, ◌<◌}
use native.Mathlib.Omega.{arith}
use mathlib.Core.Path.{◌≡◌, refl, sym, ap, ◌∙◌}
use mathlib.Core.Bool.{Bool, true, false}
use mathlib.Core.List.{List, [], ◌∷◌, ◌++◌, append_assoc}
use lib.Dec.{eqb}
use lib.ListN.{length, drop}
use Rattle.text.specs.Text.{dec_text, hex_text}
use Rattle.text.specs.Scan.{Stops}
use Rattle.text.proofs.Laws.{dec-same, hex-same}
use Rattle.protocol.specs.View.{View}
use Rattle.protocol.specs.Statement.{Group, Stmt}
use Rattle.statements.specs.Text.{view_text, text}
use Rattle.statements.specs.Meaning.{Each, limit, First, first_fields, FitsView, FitsFirst, FitsGroup, FitsTold, Fits}
use Rattle.statements.specs.Parts.{each, tail_text, views_text, start_text, first_text, second_text, group_text, groups_text}
use Rattle.statements.proofs.Sequence.{each-stops}
use Rattle.statements.proofs.GroupLaws.{comma-group}
use Rattle.statements.proofs.Views.{tail-stops}
use Rattle.statements.proofs.Statements.{text-is}

view-same : (v v' : View) (r r' : List ℕ) → FitsView v → FitsView v' → view_text v ++ r ≡ view_text v' ++ r' → (v ≡ v') × (r ≡ r')
unfolding view_text
view-same v v' r r' f f' e =
    let d = sym (append_assoc (hex_text 4 v.joined) (hex_text 4 v.left) r) ∙ e ∙ append_assoc (hex_text 4 v'.joined) (hex_text 4 v'.left) r' in
    let (j, d2) = hex-same 4 v.joined v'.joined (hex_text 4 v.left ++ r) (hex_text 4 v'.left ++ r') f.joined f'.joined d in
    let (l, d3) = hex-same 4 v.left v'.left r r' f.left f'.left d2 in
    (ap (λ (x : ℕ). record { joined = x; left = v.left }) j ∙ ap (λ (x : ℕ). record { joined = v'.joined; left = x }) l, d3)

views_same : (l l' : List View) → length l ≡ length l' → Each FitsView l → Each FitsView l' → tail_text l ≡ tail_text l' → l ≡ l'
unfolding each
views_same [] [] n f f' e = refl
views_same [] (v' ∷ l') n f f' e = absurd (omega arith)
views_same (v ∷ l) [] n f f' e = absurd (omega arith)
views_same (v ∷ l) (v' ∷ l') n f f' e =
    let (h, d) = view-same v v' (tail_text l) (tail_text l') f.0 f'.0 (ap (drop 1) e) in
    ap (λ (x : View). x ∷ l) h ∙ ap (λ (x : List View). v' ∷ x) (views_same l l' (omega arith) f.1 f'.1 d)

-- ---- the four fields

limit-fits : (b : Bool) (m : ℕ) → m ≤ limit b → m < 18446744073709551616
limit-fits true m h = omega arith
limit-fits false m h = omega arith

abbrev group_then : Group → List ℕ → List ℕ
group_then g r = 44 ∷ (dec_text g.binding ++ 44 ∷ (dec_text g.payload ++ 44 ∷ (dec_text g.stored ++ 44 ∷ (dec_text g.kept ++ r))))

group-then : (g : Group) (r : List ℕ) → group_text g ++ r ≡ group_then g r
unfolding second_text
group-then g r = simp append_assoc

-- numbers below 2 ^ 64
record Wide (g : Group) : Type 0 where
  pub binding : g.binding < 18446744073709551616
  pub payload : g.payload < 18446744073709551616
  pub stored : g.stored < 18446744073709551616
  pub kept : g.kept < 18446744073709551616

wide : (g : Group) → FitsGroup g → Wide g
wide g f = record { binding = omega (arith, f.binding); payload = limit-fits (eqb g.binding 1) g.payload f.payload; stored = omega (arith, f.stored); kept = limit-fits (eqb g.stored 1) g.kept f.kept }

group-same : (g g' : Group) (r r' : List ℕ) → Wide g → Wide g' → Stops r → Stops r' → group_text g ++ r ≡ group_text g' ++ r' → (g ≡ g') × (r ≡ r')
group-same g g' r r' f f' s s' e =
    let d0 = sym (group-then g r) ∙ e ∙ group-then g' r' in
    let (e1, d1) = dec-same g.binding g'.binding _ _ f.binding f'.binding refl refl (ap (drop 1) d0) in
    let (e2, d2) = dec-same g.payload g'.payload _ _ f.payload f'.payload refl refl (ap (drop 1) d1) in
    let (e3, d3) = dec-same g.stored g'.stored _ _ f.stored f'.stored refl refl (ap (drop 1) d2) in
    let (e4, d4) = dec-same g.kept g'.kept r r' f.kept f'.kept s s' (ap (drop 1) d3) in
    (λ i. record { binding = e1 i; payload = e2 i; stored = e3 i; kept = e4 i }, d4)

groups-same : (l l' : List Group) (r r' : List ℕ) → length l ≡ length l' → Each Wide l → Each Wide l' → Stops r → Stops r' → groups_text l ++ r ≡ groups_text l' ++ r' → (l ≡ l') × (r ≡ r')
unfolding each
groups-same [] [] r r' n f f' s s' e = (refl, e)
groups-same [] (g' ∷ l') r r' n f f' s s' e = absurd (omega arith)
groups-same (g ∷ l) [] r r' n f f' s s' e = absurd (omega arith)
groups-same (g ∷ l) (g' ∷ l') r r' n f f' s s' e =
    let d = sym (append_assoc (group_text g) (groups_text l) r) ∙ e ∙ append_assoc (group_text g') (groups_text l') r' in
    let (h, d1) = group-same g g' (groups_text l ++ r) (groups_text l' ++ r') f.0 f'.0 (each-stops group_text comma-group l r s) (each-stops group_text comma-group l' r' s') d in
    let (k, d2) = groups-same l l' r r' (omega arith) f.1 f'.1 s s' d1 in
    (ap (λ (x : Group). x ∷ l) h ∙ ap (λ (x : List Group). g' ∷ x) k, d2)

each-wide : (l : List Group) → Each FitsGroup l → Each Wide l
each-wide [] f = tt
each-wide (g ∷ l) f = (wide g f.0, each-wide l f.1)

-- how many groups a report has in a ring of n notices, and any other kind
abbrev many : Bool → ℕ → ℕ
many true n = n
many false n = 1

told-wide : (b : Bool) (n : ℕ) (l : List Group) → FitsTold b n l → (length l ≡ many b n) × Each Wide l
told-wide true n l f = (f.0, each-wide l f.1)
told-wide false n l (m, h, e) = rw e (refl, (record { binding = omega arith; payload = omega arith; stored = omega arith; kept = omega arith }, tt))

-- ---- the fields up to the notice

abbrev first_then : First → List ℕ → List ℕ
first_then f r = dec_text f.kind ++ 44 ∷ (dec_text f.origin ++ 44 ∷ (view_text f.at ++ 44 ∷ (view_text f.view ++ 44 ∷ (dec_text f.notice ++ r))))

first_then_lem : (f : First) (r : List ℕ) → first_text f ++ r ≡ first_then f r
unfolding start_text first_text
first_then_lem f r = simp append_assoc

first-same : (f f' : First) (r r' : List ℕ) → FitsFirst f → FitsFirst f' → Stops r → Stops r' → first_text f ++ r ≡ first_text f' ++ r' → (f ≡ f') × (r ≡ r')
first-same f f' r r' h h' s s' e =
    let d0 = sym (first_then_lem f r) ∙ e ∙ first_then_lem f' r' in
    let (e1, d1) = dec-same f.kind f'.kind _ _ (omega (arith, h.kind)) (omega (arith, h'.kind)) refl refl d0 in
    let (e2, d2) = dec-same f.origin f'.origin _ _ (omega (arith, h.origin)) (omega (arith, h'.origin)) refl refl (ap (drop 1) d1) in
    let (e3, d3) = view-same f.at f'.at _ _ h.at h'.at (ap (drop 1) d2) in
    let (e4, d4) = view-same f.view f'.view _ _ h.view h'.view (ap (drop 1) d3) in
    let (e5, d5) = dec-same f.notice f'.notice r r' (omega (arith, h.notice)) (omega (arith, h'.notice)) s s' (ap (drop 1) d4) in
    (λ i. record { kind = e1 i; origin = e2 i; at = e3 i; view = e4 i; notice = e5 i }, d5)

-- ONE TEXT, ONE STATEMENT
pub text_same : (n : ℕ) (s t : Stmt) → Fits n s → Fits n t → text s ≡ text t → s ≡ t
text_same n s t f g e =
    let (e0, d0) = first-same (first_fields s) (first_fields t) (groups_text s.groups ++ views_text s.views) (groups_text t.groups ++ views_text t.views) f.first g.first
    (each-stops group_text comma-group s.groups (views_text s.views) refl) (each-stops group_text comma-group t.groups (views_text t.views) refl) (sym (text-is s) ∙ e ∙ text-is t) in
    let a = told-wide (eqb s.kind 5) n s.groups f.told in
    let b = told-wide (eqb t.kind 5) n t.groups g.told in
    let (e1, d1) = groups-same s.groups t.groups (views_text s.views) (views_text t.views) (a.0 ∙ ap (λ x. many (eqb x.kind 5) n) e0 ∙ sym b.0) a.1 b.1 refl refl d0 in
    let (e2, d2) = dec-same (length s.views) (length t.views) (tail_text s.views) (tail_text t.views) (omega (arith, f.views.0)) (omega (arith, g.views.0)) (tail-stops s.views) (tail-stops t.views) (ap (drop 1) d1) in
    let e3 = views_same s.views t.views e2 f.views.1 g.views.1 d2 in
    λ i. record { kind = (e0 i).kind; origin = (e0 i).origin; at = (e0 i).at; view = (e0 i).view; notice = (e0 i).notice; groups = e1 i; views = e3 i }
