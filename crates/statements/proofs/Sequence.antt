-- Parts of a text, one after the other: `From` and `Ends` of a whole by those of its parts, and the loop over as many values as are told.
-- Assumes nothing.
use Prim.Native.Nat.{ℕ, zero, suc, ◌<◌, ◌≤◌}
use native.Mathlib.Numerals.{add-one}
use native.Mathlib.Omega.{arith}
use mathlib.Core.Path.{◌≡◌, refl, sym, ap, subst, ◌∙◌}
use mathlib.Core.List.{List, [], ◌∷◌, ◌++◌, append_assoc, append-nil}
use lib.ListN.{length, take, drop, get_or, length-append, length-drop, drop_of_length-le}
use lib.Seq.{take-suc, drop-cons, take_all}
use Rattle.std.specs.Prelude.{Option, Some, None, IfSome}
use Rattle.std.specs.Option.{option_map}
use Rattle.text.specs.declared.Read.{Read}
use Rattle.text.specs.Scan.{found, Stops}
use Rattle.views.specs.declared.View as held
use Rattle.views.specs.Held.{view_is}
use Rattle.statements.specs.Meaning.{Each, Many, FitsView}
use Rattle.statements.specs.Parts.{NumberAt, ViewAt, each, comma_view, comma_number, meant, From, Ends}

-- ---- one number, one view

module _ (S : List ℕ) (at : ℕ) where
  pub from-number : (most : ℕ) (r : Option (Read ℕ)) → NumberAt S at most r → From comma_number (λ v. v ≤ most) S at r
  from-number most r n = record { only = n.only; back = n.back }

  pub from_view : (r : Option (Read held.View)) → ViewAt S at r → From comma_view FitsView S at (meant view_is r)
  from_view None n = record { only = tt; back = λ v rest f s d. n.back v rest f d }
  from_view (Some p) n = record { only = n.only; back = λ v rest f s d. n.back v rest f d }

-- what begins with a comma
abbrev pub Comma : {A : Type 0} → (A → List ℕ) → Type 0
Comma {A} text = (a : A) → (l : List ℕ) × (text a ≡ 44 ∷ l)

module _ {A : Type 0} (text : A → List ℕ) (comma : Comma text) where
  comma-first : (a : A) (rest : List ℕ) → text a ++ rest ≡ 44 ∷ ((comma a).0 ++ rest)
  comma-first a rest = ap (λ l. l ++ rest) (comma a).1

  pub comma-stops : (a : A) (rest : List ℕ) → Stops (text a ++ rest)
  comma-stops a rest = subst Stops (sym (comma-first a rest)) refl

  pub each-stops : (l : List A) (rest : List ℕ) → Stops rest → Stops (each text l ++ rest)
  unfolding each
  each-stops [] rest s = s
  each-stops (a ∷ l) rest s = subst Stops (sym (append_assoc (text a) (each text l) rest)) (comma-stops a (each text l ++ rest))

-- ---- two parts

module _ {A B : Type 0} (ta : A → List ℕ) (FA : A → Type 0) (tb : B → List ℕ) (FB : A → B → Type 0) where
  abbrev pub two_text : A × B → List ℕ
  two_text p = ta p.0 ++ tb p.1

  abbrev pub TwoFit : A × B → Type 0
  TwoFit p = FA p.0 × FB p.0 p.1

  module _ (S : List ℕ) (at : ℕ) where
    -- the first part is refused
    pub from-none : ((b : B) (rest : List ℕ) → Stops rest → Stops (tb b ++ rest)) → From ta FA S at None → From two_text TwoFit S at None
    from-none stops f = record { only = tt; back = λ w rest h s d. f.back w.0 (tb w.1 ++ rest) h.0 (stops w.1 rest s) (d ∙ append_assoc (ta w.0) (tb w.1) rest) }

    pub ends-none : ((b : B) → Stops (tb b)) → From ta FA S at None → Ends two_text TwoFit S at None
    ends-none stops f = record { only = tt; back = λ w h d. f.back w.0 (tb w.1) h.0 (stops w.1) d }

    -- it is accepted
    module _ (a : A) (mid : ℕ) (f : From ta FA S at (found a mid)) where
      two-only : (b : B) (rest : List ℕ) → drop mid S ≡ tb b ++ rest → drop at S ≡ two_text (a, b) ++ rest
      two-only b rest d = f.only ∙ ap (λ l. ta a ++ l) d ∙ sym (append_assoc (ta a) (tb b) rest)

      two_back : (w : A × B) (rest : List ℕ) → Stops (tb w.1 ++ rest) → TwoFit w → drop at S ≡ two_text w ++ rest → (a ≡ w.0) × (drop mid S ≡ tb w.1 ++ rest)
      two_back w rest s h d = f.back w.0 (tb w.1 ++ rest) h.0 s (d ∙ append_assoc (ta w.0) (tb w.1) rest)

      same-two : (w : A × B) (b : B) → a ≡ w.0 → b ≡ w.1 → (a, b) ≡ w
      same-two w b e g i = (e i, g i)

      fit-two : (w : A × B) → a ≡ w.0 → TwoFit w → FB a w.1
      fit-two w e h = subst (λ x. FB x w.1) (sym e) h.1

      pub from-two : ((b : B) (rest : List ℕ) → Stops rest → Stops (tb b ++ rest)) → (r : Option (Read B)) → From tb (FB a) S mid r → From two_text TwoFit S at (meant (λ b. (a, b)) r)
      from-two stops None g = record { only = tt; back = λ w rest h s d. let p = two_back w rest (stops w.1 rest s) h d in g.back w.1 rest (fit-two w p.0 h) s p.1 }
      from-two stops (Some q) g = record {
        only = two-only q.value (drop q.next S) g.only;
        back = λ w rest h s d.
            let p = two_back w rest (stops w.1 rest s) h d in
            let y = g.back w.1 rest (fit-two w p.0 h) s p.1 in
            (same-two w q.value p.0 y.0, y.1);
      }

      ends_back : ((b : B) → Stops (tb b)) → (w : A × B) → TwoFit w → drop at S ≡ two_text w → (a ≡ w.0) × (drop mid S ≡ tb w.1)
      ends_back stops w h d =
          let p = two_back w [] (subst Stops (sym (append-nil (tb w.1))) (stops w.1)) h (d ∙ sym (append-nil (two_text w))) in
          (p.0, p.1 ∙ append-nil (tb w.1))

      pub ends-two : ((b : B) → Stops (tb b)) → (r : Option B) → Ends tb (FB a) S mid r → Ends two_text TwoFit S at (option_map (λ b. (a, b)) r)
      ends-two stops None g = record { only = tt; back = λ w h d. let p = ends_back stops w h d in g.back w.1 (fit-two w p.0 h) p.1 }
      ends-two stops (Some b) g = record {
        only = two-only b [] (g.only ∙ sym (append-nil (tb b))) ∙ append-nil (two_text (a, b));
        back = λ w h d. let p = ends_back stops w h d in same-two w b p.0 (g.back w.1 (fit-two w p.0 h) p.1);
      }

-- ---- the same text, read as another value: u v for v, and g w for w

module _ {A B : Type 0} (ta : A → List ℕ) (FA : A → Type 0) (tb : B → List ℕ) (FB : B → Type 0) (u : A → B) (g : B → A)
    (texts : (w : B) → FB w → tb w ≡ ta (g w)) (fits : (w : B) → FB w → FA (g w)) (back : (v : A) (w : B) → FB w → v ≡ g w → u v ≡ w) (S : List ℕ) (at : ℕ) where
  pub from-as : (r : Option (Read A)) → IfSome r (λ p. tb (u p.value) ≡ ta p.value) → From ta FA S at r → From tb FB S at (meant u r)
  from-as None same f = record { only = tt; back = λ w rest h s d. f.back (g w) rest (fits w h) s (d ∙ ap (λ l. l ++ rest) (texts w h)) }
  from-as (Some q) same f = record {
    only = f.only ∙ ap (λ l. l ++ drop q.next S) (sym same);
    back = λ w rest h s d. let p = f.back (g w) rest (fits w h) s (d ∙ ap (λ l. l ++ rest) (texts w h)) in (back q.value w h p.0, p.1);
  }

  pub ends_as : (r : Option A) → IfSome r (λ v. tb (u v) ≡ ta v) → Ends ta FA S at r → Ends tb FB S at (option_map u r)
  ends_as None same f = record { only = tt; back = λ w h d. f.back (g w) (fits w h) (d ∙ texts w h) }
  ends_as (Some v) same f = record { only = f.only ∙ sym same; back = λ w h d. back v w h (f.back (g w) (fits w h) (d ∙ texts w h)) }

-- ---- many values: `done` were read, and the next is to begin at `at`

pub record SoFar {A : Type 0} (text : A → List ℕ) (Fit : A → Type 0) (S : List ℕ) (n at₀ : ℕ) (done : List A) (at : ℕ) : Type 0 where
  pub only : drop at₀ S ≡ each text done ++ drop at S
  pub back : (l : List A) (rest : List ℕ) → Many Fit n l → Stops rest → drop at₀ S ≡ each text l ++ rest → (done ≡ take (length done) l) × (drop at S ≡ each text (drop (length done) l) ++ rest)

module _ {A : Type 0} (text : A → List ℕ) where
  pub each_append : (k l : List A) → each text (k ++ l) ≡ each text k ++ each text l
  unfolding each
  each_append [] l = refl
  each_append (a ∷ k) l = ap (λ t. text a ++ t) (each_append k l) ∙ sym (append_assoc (text a) (each text k) (each text l))

  pub each-one : (a : A) → each text (a ∷ []) ≡ text a
  unfolding each
  each-one a = append-nil (text a)

  pub each_more : (k : List A) (a : A) → each text (k ++ (a ∷ [])) ≡ each text k ++ text a
  each_more k a = each_append k (a ∷ []) ∙ ap (λ t. each text k ++ t) (each-one a)

  pub each_none : each text [] ≡ []
  unfolding each
  each_none = refl

  each-cons : (a : A) (l : List A) → each text (a ∷ l) ≡ text a ++ each text l
  unfolding each
  each-cons a l = refl

  each_at : (Fit : A → Type 0) (l : List A) (i : ℕ) (d : A) → Each Fit l → i < length l → Fit (get_or l i d)
  each_at Fit [] i d f h = absurd (omega arith)
  each_at Fit (v ∷ l) zero d f h = f.0
  each_at Fit (v ∷ l) (suc i) d f h = each_at Fit l i d f.1 (omega arith)

  module _ (Fit : A → Type 0) (S : List ℕ) (n at₀ : ℕ) where
    pub so-far-first : SoFar text Fit S n at₀ [] at₀
    unfolding each
    so-far-first = record { only = refl; back = λ l rest f s d. (refl, d) }

    module _ (done : List A) (at : ℕ) (sf : SoFar text Fit S n at₀ done at) where
      -- the next value of a text in which n values stand
      module _ (comma : Comma text) (h : length done < n) (l : List A) (rest : List ℕ) (fits : Many Fit n l) (s : Stops rest) (d : drop at₀ S ≡ each text l ++ rest) where
        inside : length done < length l
        inside = omega (arith, fits.0)

        here : (v : A) → drop at S ≡ text (get_or l (length done) v) ++ (each text (drop (suc (length done)) l) ++ rest)
        here v =
            let i : ℕ = length done in
            (sf.back l rest fits s d).1 ∙ ap (λ t. each text t ++ rest) (drop-cons l i v inside) ∙ ap (λ t. t ++ rest) (each-cons (get_or l i v) (drop (suc i) l)) ∙ append_assoc (text (get_or l i v)) (each text (drop (suc i) l)) rest

        fit_there : (v : A) → Fit (get_or l (length done) v)
        fit_there v = each_at Fit l (length done) v fits.1 inside

        stops_there : Stops (each text (drop (suc (length done)) l) ++ rest)
        stops_there = each-stops text comma (drop (suc (length done)) l) rest s

      pub so-far-next : Comma text → (v : A) (next : ℕ) → length done < n → From text Fit S at (found v next) → SoFar text Fit S n at₀ (done ++ (v ∷ [])) next
      so-far-next comma v next h f = record {
        only = sf.only ∙ ap (λ t. each text done ++ t) f.only ∙ sym (append_assoc (each text done) (text v) (drop next S)) ∙ ap (λ t. t ++ drop next S) (sym (each_more done v));
        back = λ l rest fits s d.
            let i : ℕ = length done in
            let w = f.back (get_or l i v) (each text (drop (suc i) l) ++ rest) (fit_there comma h l rest fits s d v) (stops_there comma h l rest fits s d) (here comma h l rest fits s d v) in
            let long : length (done ++ (v ∷ [])) ≡ suc i = length-append done (v ∷ []) ∙ add-one i in (
              ap (λ t. t ++ (v ∷ [])) (sf.back l rest fits s d).0 ∙ ap (λ x. take i l ++ (x ∷ [])) w.0 ∙ sym (take-suc l i v (inside comma h l rest fits s d)) ∙ ap (λ k. take k l) (sym long),
              w.1 ∙ ap (λ k. each text (drop k l) ++ rest) (sym long),
            );
      }

      -- a value that is refused: no text has n values there
      pub so-far-refused : Comma text → length done < n → From text Fit S at None → From (each text) (Many Fit n) S at₀ None
      so-far-refused comma h f = record { only = tt; back = λ l rest fits s d. refused l rest fits s d l refl }
        where
          refused : (l : List A) (rest : List ℕ) → Many Fit n l → Stops rest → drop at₀ S ≡ each text l ++ rest → (k : List A) → k ≡ l → ⊥
          refused l rest fits s d [] e = absurd (let i = inside comma h l rest fits s d in let z : length l ≡ 0 = ap length (sym e) in omega arith)
          refused l rest fits s d (v ∷ k) e = f.back (get_or l (length done) v) _ (fit_there comma h l rest fits s d v) (stops_there comma h l rest fits s d) (here comma h l rest fits s d v)

      pub so-far-all : length done ≡ n → From (each text) (Many Fit n) S at₀ (found done at)
      so-far-all e = record {
        only = sf.only;
        back = λ l rest f s d.
            let g = sf.back l rest f s d in (
              g.0 ∙ take_all (length done) l (omega (arith, f.0)),
              g.1 ∙ ap (λ t. each text t ++ rest) (drop_of_length-le l {i = length done} (omega (arith, f.0))) ∙ ap (λ t. t ++ rest) each_none,
            );
      }

-- ---- to the end of the text

module _ {A : Type 0} (text : A → List ℕ) (Fit : A → Type 0) (S : List ℕ) (at : ℕ) where
  pub ends-refused : From text Fit S at None → Ends text Fit S at None
  ends-refused f = record { only = tt; back = λ w g d. f.back w [] g tt (d ∙ sym (append-nil (text w))) }

  module _ (v : A) (next : ℕ) (f : From text Fit S at (found v next)) where
    there : (w : A) → Fit w → drop at S ≡ text w → (v ≡ w) × (drop next S ≡ [])
    there w g d = f.back w [] g tt (d ∙ sym (append-nil (text w)))

    pub ends-whole : length S ≤ next → Ends text Fit S at (Some v)
    ends-whole h = record { only = f.only ∙ ap (λ t. text v ++ t) (drop_of_length-le S h) ∙ append-nil (text v); back = λ w g d. (there w g d).0 }

    pub ends_more : next < length S → Ends text Fit S at None
    ends_more h = record { only = tt; back = λ w g d. absurd (omega (arith, sym (length-drop next S) ∙ ap length (there w g d).1)) }
