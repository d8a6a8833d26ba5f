-- A whole statement: its parts, read one after the other, are its text, and its text gives them back.
-- Assumes nothing.
use Prim.Native.Nat.{ℕ, ◌+◌, ◌≤◌}
use native.Mathlib.Omega.{arith}
use mathlib.Core.Path.{◌≡◌, refl, sym, ap, subst, ◌∙◌}
use mathlib.Core.List.{List, [], ◌∷◌, ◌++◌, map, append-nil, append_assoc}
use lib.Dec.{eqb}
use lib.ListN.{length, drop}
use Rattle.std.specs.Prelude.{Option, Some, None, IfSome}
use Rattle.std.proofs.lemmas.Option.{none-some}
use Rattle.text.specs.declared.Read.{Read}
use Rattle.text.specs.Text.{dec_text}
use Rattle.text.specs.Scan.{found, Stops, dec_at}
use Rattle.text.proofs.Bytes.{same_found}
use Rattle.text.proofs.Laws.{after, dec-at, dec-only}
use Rattle.protocol.specs.View.{View}
use Rattle.protocol.specs.Statement.{Group, Stmt}
use Rattle.views.specs.declared.View as held
use Rattle.views.specs.declared.History.{History}
use Rattle.statements.specs.declared.Head.{Head}
use Rattle.statements.specs.declared.Statement.{Statement}
use Rattle.statements.specs.Text.{parted, view_text, group_parts, text}
use Rattle.views.specs.Held.{view_is}
use Rattle.statements.specs.Block.{groups_of}
use Rattle.statements.specs.Meaning.{first_of, stmt_of, First, first_fields, FitsView, FitsFirst, FitsTold, FitsViews, Fits}
use Rattle.statements.specs.Promise.{ParseOf}
use Rattle.statements.specs.Parts.{Bounded, NumberAt, ViewAt, each, comma_view, comma_number, tail_text, views_text, start_text, first_text, second_text, group_text, groups_text, head_fields, meant, From, Ends}
use Rattle.statements.proofs.Sequence.{from-number, from_view, two_text, TwoFit, from-none, from-two, from-as, each-stops}
use Rattle.statements.proofs.GroupLaws.{comma-group}

-- ---- the text of a statement in its parts
pub parted-tail : (a : List ℕ) (l : List View) → parted (a ∷ map view_text l) ≡ a ++ tail_text l
unfolding parted each
parted-tail a [] = sym (append-nil a)
parted-tail a (v ∷ l) = ap (λ (t : List ℕ). a ++ 44 ∷ t) (parted-tail (view_text v) l)

told-parts : (g : List Group) (a : List ℕ) (n : ℕ) (l : List View) → parted (a ∷ (group_parts g ++ dec_text n ∷ map view_text l)) ≡ a ++ (groups_text g ++ (comma_number n ++ tail_text l))
unfolding parted group_parts each second_text
told-parts [] a n l = ap (λ (t : List ℕ). a ++ 44 ∷ t) (parted-tail (dec_text n) l)
told-parts (g ∷ k) a n l = ap (λ (t : List ℕ). a ++ 44 ∷ (dec_text g.binding ++ 44 ∷ (dec_text g.payload ++ 44 ∷ (dec_text g.stored ++ 44 ∷ t)))) (told-parts k (dec_text g.kept) n l) ∙ simp append_assoc

pub text-is : (t : Stmt) → text t ≡ first_text (first_fields t) ++ (groups_text t.groups ++ views_text t.views)
unfolding text parted start_text first_text
text-is t =
    ap (λ (x : List ℕ). dec_text t.kind ++ 44 ∷ (dec_text t.origin ++ 44 ∷ (view_text t.at ++ 44 ∷ (view_text t.view ++ 44 ∷ x)))) (told-parts t.groups (dec_text t.notice) (length t.views) t.views)
    ∙ simp append_assoc

-- ---- the fields up to the notice
module _ (S : List ℕ) where
  abbrev Small : ℕ → Type 0
  Small n = n ≤ 255

  from-kind : (first r : Option (Read ℕ)) → first ≡ dec_at S 0 → Bounded first 255 r → From dec_text Small S 0 r
  from-kind first None c b = record { only = tt; back = λ v rest f s d. none-some _ (b.back v (0 + length (dec_text v)) f (c ∙ dec-at S 0 v rest (omega arith) s d)) }
  from-kind first (Some p) c b = record {
    only = (dec-only S 0 p.value p.next (sym c ∙ b.only.0)).0;
    back = λ v rest f s d.
        let e = same_found (b.back v (0 + length (dec_text v)) f (c ∙ dec-at S 0 v rest (omega arith) s d)) in
        (e.0, ap (λ (k : ℕ). drop k S) e.1 ∙ after S 0 (dec_text v) rest d);
  }

  abbrev Small₂ : ℕ → ℕ → Type 0
  Small₂ x n = n ≤ 255

  abbrev View₃ : ℕ × ℕ → View → Type 0
  View₃ x v = FitsView v

  abbrev View₄ : (ℕ × ℕ) × View → View → Type 0
  View₄ x v = FitsView v

  abbrev Small₅ : ((ℕ × ℕ) × View) × View → ℕ → Type 0
  Small₅ x n = n ≤ 255

  abbrev two : ℕ × ℕ → List ℕ
  two = two_text dec_text Small comma_number Small₂

  abbrev Two : ℕ × ℕ → Type 0
  Two = TwoFit dec_text Small comma_number Small₂

  abbrev three : (ℕ × ℕ) × View → List ℕ
  three = two_text two Two comma_view View₃

  abbrev Three : (ℕ × ℕ) × View → Type 0
  Three = TwoFit two Two comma_view View₃

  abbrev four : ((ℕ × ℕ) × View) × View → List ℕ
  four = two_text three Three comma_view View₄

  abbrev Four : ((ℕ × ℕ) × View) × View → Type 0
  Four = TwoFit three Three comma_view View₄

  abbrev five : (((ℕ × ℕ) × View) × View) × ℕ → List ℕ
  five = two_text four Four comma_number Small₅

  abbrev Five : (((ℕ × ℕ) × View) × View) × ℕ → Type 0
  Five = TwoFit four Four comma_number Small₅

  stops : (n : ℕ) (rest : List ℕ) → Stops rest → Stops (comma_number n ++ rest)
  stops n rest s = refl

  view-stops : (v : View) (rest : List ℕ) → Stops rest → Stops (comma_view v ++ rest)
  view-stops v rest s = refl

  abbrev fields : (((ℕ × ℕ) × View) × View) × ℕ → First
  fields x = record { kind = x.0.0.0.0; origin = x.0.0.0.1; at = x.0.0.1; view = x.0.1; notice = x.1 }

  abbrev parts : First → (((ℕ × ℕ) × View) × View) × ℕ
  parts f = ((((f.kind, f.origin), f.at), f.view), f.notice)

  first-text : (f : First) → first_text f ≡ five (parts f)
  unfolding start_text first_text
  first-text f = simp append_assoc

  abbrev Fields : Option (Read First) → Type 0
  Fields r = From first_text FitsFirst S 0 r

  as-fields : (r : Option (Read ((((ℕ × ℕ) × View) × View) × ℕ))) → From five Five S 0 r → Fields (meant fields r)
  as-fields r f = from-as five Five first_text FitsFirst fields parts (λ f h. first-text f) (λ f h. ((((h.kind, h.origin), h.at), h.view), h.notice)) (λ v f h e. ap fields e) S 0 r (same r) f
    where
      same : (r : Option (Read ((((ℕ × ℕ) × View) × View) × ℕ))) → IfSome r (λ q. first_text (fields q.value) ≡ five q.value)
      same None = tt
      same (Some q) = first-text (fields q.value)

  -- a part that is refused ends the reading
  after₄ : From four Four S 0 None → Fields None
  after₄ f = as-fields None (from-none four Four comma_number Small₅ S 0 stops f)

  after₃ : From three Three S 0 None → Fields None
  after₃ f = after₄ (from-none three Three comma_view View₄ S 0 view-stops f)

  after₂ : From two Two S 0 None → Fields None
  after₂ f = after₃ (from-none two Two comma_view View₃ S 0 view-stops f)

  module _ (first : Option (Read ℕ)) (c0 : first ≡ dec_at S 0) where
    pub head-no-kind : Bounded first 255 None → Fields None
    head-no-kind c1 = after₂ (from-none dec_text Small comma_number Small₂ S 0 stops (from-kind first None c0 c1))

    module _ (kind : Read ℕ) (c1 : Bounded first 255 (Some kind)) where
      to-origin : (r : Option (Read ℕ)) → NumberAt S kind.next 255 r → From two Two S 0 (meant (λ n. (kind.value, n)) r)
      to-origin r c2 = from-two dec_text Small comma_number Small₂ S 0 kind.value kind.next (from-kind first (Some kind) c0 c1) stops r (from-number S kind.next 255 r c2)

      pub head-no-origin : NumberAt S kind.next 255 None → Fields None
      head-no-origin c2 = after₂ (to-origin None c2)

      module _ (origin : Read ℕ) (c2 : NumberAt S kind.next 255 (Some origin)) where
        to_at : (r : Option (Read held.View)) → ViewAt S origin.next r → From three Three S 0 (meant (λ v. ((kind.value, origin.value), v)) (meant view_is r))
        to_at r c3 = from-two two Two comma_view View₃ S 0 (kind.value, origin.value) origin.next (to-origin (Some origin) c2) view-stops (meant view_is r) (from_view S origin.next r c3)

        pub head-no-at : ViewAt S origin.next None → Fields None
        head-no-at c3 = after₃ (to_at None c3)

        module _ (at : Read held.View) (c3 : ViewAt S origin.next (Some at)) where
          to-view : (r : Option (Read held.View)) → ViewAt S at.next r → From four Four S 0 (meant (λ v. (((kind.value, origin.value), view_is at.value), v)) (meant view_is r))
          to-view r c4 = from-two three Three comma_view View₄ S 0 ((kind.value, origin.value), view_is at.value) at.next (to_at (Some at) c3) view-stops (meant view_is r) (from_view S at.next r c4)

          pub head-no-view : ViewAt S at.next None → Fields None
          head-no-view c4 = after₄ (to-view None c4)

          module _ (view : Read held.View) (c4 : ViewAt S at.next (Some view)) where
            to-notice : (r : Option (Read ℕ)) → NumberAt S view.next 255 r → From five Five S 0 (meant (λ n. ((((kind.value, origin.value), view_is at.value), view_is view.value), n)) r)
            to-notice r c5 =
                from-two four Four comma_number Small₅ S 0 (((kind.value, origin.value), view_is at.value), view_is view.value) view.next (to-view (Some view) c4) stops r (from-number S view.next 255 r c5)

            pub head-no-notice : NumberAt S view.next 255 None → Fields None
            head-no-notice c5 = as-fields None (to-notice None c5)

            pub head-from : (notice : Read ℕ) → NumberAt S view.next 255 (Some notice) → Fields (found (fields ((((kind.value, origin.value), view_is at.value), view_is view.value), notice.value)) notice.next)
            head-from notice c5 = as-fields (found ((((kind.value, origin.value), view_is at.value), view_is view.value), notice.value) notice.next) (to-notice (Some notice) c5)

-- ---- all of it
told-stops : (g : List Group) (l : List View) → Stops (groups_text g ++ views_text l)
told-stops g l = each-stops group_text comma-group g (views_text l) refl

abbrev make : First → List Group → List View → Stmt
make f g l = record { kind = f.kind; origin = f.origin; at = f.at; view = f.view; notice = f.notice; groups = g; views = l }

module _ (S : List ℕ) (n : ℕ) (B : List ℕ) where
  -- no statement that fits has this text
  abbrev None_of : Type 0
  None_of = (t : Stmt) → Fits n t → S ≡ text t → ⊥

  refused-of : None_of → ParseOf S n B None
  refused-of none = record { only = tt; back = none; short = tt }

  pub head-refused : From first_text FitsFirst S 0 None → ParseOf S n B None
  head-refused h = refused-of (λ t f e. h.back (first_fields t) (groups_text t.groups ++ views_text t.views) f.first (told-stops t.groups t.views) (e ∙ text-is t))

  module _ (head : Head) (next : ℕ) (h : From first_text FitsFirst S 0 (found (head_fields head) next)) where
    first_back : (t : Stmt) → Fits n t → S ≡ text t → (head_fields head ≡ first_fields t) × (drop next S ≡ groups_text t.groups ++ views_text t.views)
    first_back t f e = h.back (first_fields t) (groups_text t.groups ++ views_text t.views) f.first (told-stops t.groups t.views) (e ∙ text-is t)

    fits-told : (t : Stmt) → Fits n t → S ≡ text t → FitsTold (eqb head.kind 5) n t.groups
    fits-told t f e = let kinds : t.kind ≡ head.kind = sym (ap (λ x. x.kind) (first_back t f e).0) in subst (λ k. FitsTold (eqb k 5) n t.groups) kinds f.told

    pub told-refused : From groups_text (FitsTold (eqb head.kind 5) n) S next None → ParseOf S n B None
    told-refused g = refused-of (λ t f e. g.back t.groups (views_text t.views) (fits-told t f e) refl (first_back t f e).1)

    module _ (payload after_told : ℕ) (g : From groups_text (FitsTold (eqb head.kind 5) n) S next (found (groups_of head.kind n payload B) after_told)) where
      told_back : (t : Stmt) → Fits n t → S ≡ text t → (groups_of head.kind n payload B ≡ t.groups) × (drop after_told S ≡ views_text t.views)
      told_back t f e = g.back t.groups (views_text t.views) (fits-told t f e) refl (first_back t f e).1

      pub tail-refused : Ends views_text FitsViews S after_told None → ParseOf S n B None
      tail-refused v = refused-of (λ t f e. v.back t.views f.views (told_back t f e).1)

      module _ (history : History) (v : Ends views_text FitsViews S after_told (Some (first_of history))) (short : history.len ≤ 16) where
        abbrev result : Statement
        result = record { kind = head.kind; origin = head.origin; at = head.at; view = head.view; notice = head.notice; groups = n; payload = payload; history = history }

        parse-only : S ≡ text (stmt_of result B)
        unfolding stmt_of
        parse-only = h.only ∙ ap (λ x. first_text (head_fields head) ++ x) (g.only ∙ ap (λ x. groups_text (groups_of head.kind n payload B) ++ x) v.only) ∙ sym (text-is (stmt_of result B))

        parse-back : (t : Stmt) → Fits n t → S ≡ text t → stmt_of result B ≡ t
        unfolding stmt_of
        parse-back t f e =
            let b1 = (first_back t f e).0 in
            let b2 = told_back t f e in
            let b3 = v.back t.views f.views b2.1 in
            λ i. make (b1 i) (b2.0 i) (b3 i)

        pub parse-of : ParseOf S n B (Some result)
        parse-of = record { only = parse-only; back = parse-back; short = short }
