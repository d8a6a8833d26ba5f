-- A statement that keeps the field rules fits a Statement and a block, so that its text is read.
-- Assumes nothing.
use Prim.Native.Nat.{ℕ, zero, suc, ◌≤◌, ◌<◌, ◌^◌, min}
use native.Mathlib.Omega.{arith}
use mathlib.Core.Path.{◌≡◌, refl, sym, ap, subst, ◌∙◌}
use mathlib.Core.Logic.{◌⊎◌, inl, inr}
use mathlib.Core.Bool.{Bool, true, false, cond, ◌||◌}
use mathlib.Core.List.Memᴰ
use mathlib.Core.List.{List, [], ◌∷◌}
use lib.Dec.{T, eqb}
use lib.ListN.{length}
use borrow.Author.Tests.{eq-eqb, ne_eqb}
use Rattle.protocol.specs.Lists.{◌∈◌, all, list_of}
use Rattle.protocol.specs.View.{View, is_view, has_members}
use Rattle.protocol.specs.Statement.{Group, Stmt, only, no_group, payload_of, no_view, no_at, no_view_field, no_notice, only_payload, no_groups, no_views, is_rising, views_rule, group_rule, group_fits, report_rule, kind_rule, field_rules}
use Rattle.protocol.proofs.Says.{Says, says-self, says-and, says-or, says-eqb, says-leb, says_all}
use Rattle.protocol.proofs.Numbered.{list_of-length, list_of-out}
use Rattle.protocol.proofs.Order.{says-view}
use Rattle.protocol.proofs.Asked.{says-same-groups}
use Rattle.protocol.proofs.FieldRules.{says-fields, says-fits}
use Rattle.views.specs.declared.View as held
use Rattle.statements.specs.declared.Statement.{Statement}
use Rattle.std.specs.Prelude.{Some, None}
use Rattle.std.specs.Bool.{then_some}
use Rattle.statements.specs.Block.{group_at, groups_of}
use Rattle.statements.specs.Meaning.{Each, limit, first_views, FitsView, FitsGroup, FitsTold, Fits, stmt_of}
use Rattle.statements.specs.Promise.{keeps_rules, ReadOf, ParseOf}
use Rattle.statements.proofs.Fields.{held_fits}
use Rattle.statements.proofs.FieldLaws.{views-length, group-rule, group-fits}

-- ---- the groups

limit-of : (b : Bool) (m : ℕ) → T (b || eqb m 0) → m < 2 ^ 64 → m ≤ limit b
limit-of true m t h = omega arith
limit-of false m t h = let e : m ≡ 0 = says-eqb.sound t in omega arith

fits-group : (g : Group) → T (group_rule g) → T (group_fits g) → FitsGroup g
unfolding group_rule
fits-group g t f =
    let (((b, p), s), k) = (says-and (says-and (says-and (says-leb {m = g.binding} {n = 2}) (says-self (eqb g.binding 1 || eqb g.payload 0))) (says-leb {m = g.stored} {n = 1})) (says-self (eqb g.stored 1 || eqb g.kept 0))).sound t in
    let (fp, fk) = (says-fits g).sound f in
    record { binding = b; payload = limit-of (eqb g.binding 1) g.payload p fp; stored = s; kept = limit-of (eqb g.stored 1) g.kept k fk }

each_of : {A : Type 0} (F : A → Type 0) (l : List A) → ((a : A) → a ∈ l → F a) → Each F l
each_of F [] h = tt
each_of F (a ∷ l) h = (h a (Memᴰ.head refl), each_of F l (λ b m. h b (Memᴰ.tail m)))

-- ---- what the rule of each kind says of the numbers

pub record Small (n : ℕ) (s : Stmt) : Type 0 where
  pub kind : s.kind ≤ 8
  pub count : length s.views ≤ 16
  pub told : ((s.kind ≡ 5) × T (report_rule n s)) ⊎ ((s.kind ≡ 5 → ⊥) × ((m : ℕ) × (s.groups ≡ only m ∷ [])))

module _ (n : ℕ) (s : Stmt) where
  few : T (views_rule 16 s) → length s.views ≤ 16
  unfolding views_rule
  few t = ((says-and (says-and (says-and (says-leb {m = 1} {n = length s.views}) (says-leb {m = length s.views} {n = 16})) (says-self (is_rising 16 s.views))) (says-self (all (has_members 16) s.views))).sound t).0.0.1

  kind-is : (k : ℕ) → Says (eqb s.kind k) (s.kind ≡ k)
  kind-is k = says-eqb {m = s.kind} {n = k}

  no-groups : Says (no_groups s) (s.groups ≡ no_group ∷ [])
  no-groups = says-same-groups s.groups (no_group ∷ [])

  only-payload : Says (only_payload s) (s.groups ≡ only (payload_of s) ∷ [])
  only-payload = says-same-groups s.groups (only (payload_of s) ∷ [])

  no-views : Says (no_views s) (length s.views ≡ 0)
  no-views = says-eqb {m = length s.views} {n = 0}

  -- of a kind that is no report
  other : {k : ℕ} (m : ℕ) → s.kind ≡ k → k ≤ 8 → (k ≡ 5 → ⊥) → length s.views ≤ 16 → s.groups ≡ only m ∷ [] → Small n s
  other m e h ne c g = record { kind = omega arith; count = c; told = inr (λ q. ne (sym e ∙ q), (m, g)) }

  either : {j k : ℕ} (m : ℕ) → (s.kind ≡ j) ⊎ (s.kind ≡ k) → j ≤ 8 → k ≤ 8 → (j ≡ 5 → ⊥) → (k ≡ 5 → ⊥) → length s.views ≤ 16 → s.groups ≡ only m ∷ [] → Small n s
  either m (inl e) hj hk nj nk c g = other m e hj nj c g
  either m (inr e) hj hk nj nk c g = other m e hk nk c g

  small : T (kind_rule 16 n s) → Small n s
  unfolding kind_rule
  small t = elim
      ((says-or (says-or (says-or (says-or (says-or
      (says-and (says-and (says-and (says-and (says-and (says-or (kind-is 1) (kind-is 2)) (says-self (no_at s))) (says-self (no_view_field s))) (says-self (no_notice s))) no-groups) no-views)
      (says-and (says-and (says-and (says-and (says-and (kind-is 3) (says-self (has_members 16 s.at))) (says-self (has_members 16 s.view))) (says-self (no_notice s))) no-groups) no-views))
      (says-and (says-and (says-and (says-and (says-and (kind-is 4) (says-self (has_members 16 s.at))) (says-self (no_view_field s))) (says-self (no_notice s))) no-groups) (says-self (views_rule 16 s))))
      (says-and (says-and (says-and (says-and (kind-is 5) (says-self (has_members 16 s.at))) (says-self (no_notice s))) (says-self (report_rule n s))) (says-self (views_rule 16 s))))
      (says-and (says-and (says-and (says-and (kind-is 6) (says-self (no_at s))) (says-self (no_view_field s))) only-payload) no-views))
      (says-and (says-and (says-and (says-and (says-or (kind-is 7) (kind-is 8)) (says-self (has_members 16 s.at))) (says-self (no_view_field s))) only-payload) no-views)
      ).sound t) [
        | inl (inl (inl (inl (inl (((((k, _), _), _), g), v))))) ↦ either 0 k (omega arith) (omega arith) (λ e. omega arith) (λ e. omega arith) (omega arith) g
        | inl (inl (inl (inl (inr (((((k, _), _), _), g), v))))) ↦ other 0 k (omega arith) (λ e. omega arith) (omega arith) g
        | inl (inl (inl (inr (((((k, _), _), _), g), v)))) ↦ other 0 k (omega arith) (λ e. omega arith) (few v) g
        | inl (inl (inr ((((k, _), _), r), v))) ↦ record { kind = omega arith; count = few v; told = inl (k, r) }
        | inl (inr ((((k, _), _), g), v)) ↦ other (payload_of s) k (omega arith) (λ e. omega arith) (omega arith) g
        | inr ((((k, _), _), g), v) ↦ either (payload_of s) k (omega arith) (omega arith) (λ e. omega arith) (λ e. omega arith) (omega arith) g
      ]

  fits_told : ((g : Group) → g ∈ s.groups → T (group_fits g)) → Small n s → FitsTold (eqb s.kind 5) n s.groups
  unfolding report_rule
  fits_told f k = elim k.told [
    | inl (e, r) ↦ rw (eq-eqb s.kind 5 e) (let (l, g) = (says-and (says-eqb {m = length s.groups} {n = n}) (says_all (λ g. says-self (group_rule g)) s.groups)).sound r in (l, each_of FitsGroup s.groups (λ x m. fits-group x (g x m) (f x m))))
    | inr (e, (m, g)) ↦ rw (ne_eqb s.kind 5 e) (m, payload m g, g)
  ]
    where
      payload : (m : ℕ) → s.groups ≡ only m ∷ [] → m ≤ 18446744073709551615
      payload m g = let h : m < 2 ^ 64 = ((says-fits (only m)).sound (f (only m) (subst (λ l. only m ∈ l) (sym g) (Memᴰ.head refl)))).0 in omega arith

fits-view : (v : View) → T (is_view 16 v) → FitsView v
fits-view v t = let r = (says-view 16 v).sound t in record { joined = r.0.0; left = r.0.1 }

-- WHAT KEEPS THE FIELD RULES FITS
pub keeps-fits : (n : ℕ) (s : Stmt) → T (field_rules 16 n s) → Fits n s
keeps-fits n s t =
    let f = (says-fields (record { width = 16; init = no_view }) n s).sound t in
    let k = small n s f.kind in record {
      first = record { kind = omega (arith, k.kind); origin = omega (arith, f.origin); at = fits-view s.at f.at; view = fits-view s.view f.view; notice = omega (arith, f.notice) };
      told = fits_told n s f.groups k;
      views = (k.count, each_of FitsView s.views (λ v m. fits-view v (f.views v m)));
    }

-- ---- what a Statement and a block mean fits

told-fits : (B : List ℕ) (j : ℕ) → FitsGroup (group_at B j)
told-fits B j = fits-group (group_at B j) (subst T (sym (group-rule B j)) tt) (subst T (sym (group-fits B j)) tt)

views-fit : (n : ℕ) (l : List held.View) → Each FitsView (first_views n l)
unfolding first_views
views-fit zero l = tt
views-fit (suc n) [] = (record { joined = omega arith; left = omega arith }, views-fit n [])
views-fit (suc n) (v ∷ l) = (held_fits v, views-fit n l)

groups-fit : (kind groups payload : ℕ) (B : List ℕ) → payload ≤ 18446744073709551615 → (b : Bool) → FitsTold b (min groups 64) (cond b (list_of (min groups 64) (group_at B)) (only payload ∷ []))
groups-fit kind groups payload B h true = (
  list_of-length (min groups 64) (group_at B),
  each_of FitsGroup (list_of (min groups 64) (group_at B)) (λ g m. let (j, l, e) = list_of-out (min groups 64) (group_at B) m in subst FitsGroup (sym e) (told-fits B j)),
)
groups-fit kind groups payload B h false = (payload, h, refl)

pub means-fits : (s : Statement) (B : List ℕ) → s.kind ≤ 255 → s.origin ≤ 255 → s.notice ≤ 255 → s.payload ≤ 18446744073709551615 → s.history.len ≤ 16 → Fits (min s.groups 64) (stmt_of s B)
unfolding stmt_of groups_of
means-fits s B k o n p l = record {
  first = record { kind = k; origin = o; at = held_fits s.at; view = held_fits s.view; notice = n };
  told = groups-fit s.kind s.groups s.payload B p (eqb s.kind 5);
  views = (omega (arith, views-length s.history.len s.history.views), views-fit s.history.len s.history.views);
}

-- ---- reading, with the field rules

module _ (S : List ℕ) (notices m : ℕ) (B : List ℕ) (e : m ≡ min notices 64) where
  fits-of : (t : Stmt) → T (keeps_rules notices t) → Fits m t
  fits-of t k = subst (λ n. Fits n t) (sym e) (keeps-fits (min notices 64) t k)

  pub read-refused : ParseOf S m B None → ReadOf S notices B None
  read-refused p = record { only = tt; keeps = tt; back = λ t k d. p.back t (fits-of t k) d; short = tt }

  pub read_kept : (s : Statement) → ParseOf S m B (Some s) → (k : Bool) → k ≡ keeps_rules notices (stmt_of s B) → ReadOf S notices B (then_some k s)
  read_kept s p true q = record { only = p.only; keeps = subst T q tt; back = λ t h d. p.back t (fits-of t h) d; short = p.short }
  read_kept s p false q = record {
    only = tt;
    keeps = tt;
    back = λ t h d. elim (subst T (sym (q ∙ ap (keeps_rules notices) (p.back t (fits-of t h) d))) h) [ ];
    short = tt;
  }
