-- Laws of a statement's fields: what the struct's views mean, and the field rules part by part.
-- Assumes nothing.
use mathlib.Core.Path.{◌≡◌, refl, sym, ap, ap₂, ◌∙◌}
use mathlib.Core.Bool.{Bool, true, false, ◌&&◌, ◌||◌, and-true, and-false, or-false}
use mathlib.Core.Logic.{◌⊎◌, inl, inr}
use mathlib.Core.List.{List, [], ◌∷◌, ◌++◌}
use Prim.Native.Nat.{ℕ, zero, suc, ◌≤◌, ◌<◌, ◌^◌, min}
use native.Mathlib.Decide.{dec_lt}
use native.Mathlib.Omega.{arith}
use lib.Dec.{eqb, leb, ltb}
use lib.ListN.{length, get_or}
use borrow.Author.Tests.{eqb-true, eqb-false, eq-eqb, ne_eqb, le-leb, lt-leb, lt-ltb}
use Rattle.protocol.specs.Sets.{bit}
use Rattle.protocol.specs.Lists.{all, list_of, when}
use Rattle.protocol.specs.View.{is_view, has_members}
use Rattle.protocol.specs.Statement.{Group, Stmt, only, no_group, same_groups, same_group, tells, Binding, unbound, bound, barred, no_view, no_at, no_view_field, no_notice, only_payload, no_groups, no_views, is_rising, views_rule, group_rule, group_fits, report_rule, kind_rule, field_rules}
use Rattle.protocol.proofs.Numbered.{list_of-length}
use Rattle.views.specs.declared.View as held
use Rattle.views.specs.declared.History.{History}
use Rattle.views.specs.Held.{view_is, held_at, views_is}
use Rattle.views.proofs.Tables.{all_append}
use Rattle.statements.specs.declared.Statement.{Statement}
use Rattle.statements.specs.Block.{block_word, bound_or_barred, binding_at, group_at, groups_of}
use Rattle.statements.specs.Meaning.{first_views, stmt_of}
use Rattle.statements.specs.Promise.{keeps_rules}

-- ---- the views

list_of-cons : {A : Type 0} (n : ℕ) (f : ℕ → A) → list_of (suc n) f ≡ f 0 ∷ list_of n (λ i. f (suc i))
unfolding list_of
list_of-cons zero f = refl
list_of-cons (suc n) f = ap (λ l. l ++ (f (suc n) ∷ [])) (list_of-cons n f)

pub views-listed : (n : ℕ) (l : List held.View) → first_views n l ≡ list_of n (held_at l)
unfolding first_views list_of
views-listed zero l = refl
views-listed (suc n) [] = ap (λ k. no_view ∷ k) (views-listed n []) ∙ sym (list_of-cons n (held_at []))
views-listed (suc n) (v ∷ l) = ap (λ k. view_is v ∷ k) (views-listed n l) ∙ sym (list_of-cons n (held_at (v ∷ l)))

pub views-length : (n : ℕ) (l : List held.View) → length (first_views n l) ≡ n
views-length n l = ap length (views-listed n l) ∙ list_of-length n (held_at l)

-- up to 16 views are those of the history
pub views-meant : (h : History) → h.len ≤ 16 → views_is h ≡ first_views h.len h.views
unfolding views_is
views-meant h l = let e : min h.len 16 ≡ h.len = omega arith in ap (λ n. list_of n (held_at h.views)) e ∙ sym (views-listed h.len h.views)

-- ---- what a block tells keeps the rules

bound-rule : (b : Binding) (s : Bool) (k : ℕ) → group_rule (tells b (when s k)) ≡ true
unfolding group_rule
bound-rule unbound true k = refl
bound-rule unbound false k = refl
bound-rule (bound m) true k = refl
bound-rule (bound m) false k = refl
bound-rule barred true k = refl
bound-rule barred false k = refl

pub group-rule : (B : List ℕ) (j : ℕ) → group_rule (group_at B j) ≡ true
unfolding group_at
group-rule B j = bound-rule (binding_at B j) (bit (block_word B 2) j) _

fits-true : (g : Group) → g.payload < 2 ^ 64 → g.kept < 2 ^ 64 → group_fits g ≡ true
unfolding group_fits
fits-true g p k = rw (lt-ltb g.payload (2 ^ 64) p, lt-ltb g.kept (2 ^ 64) k)

word_fits : (B : List ℕ) (i : ℕ) → block_word B i < 2 ^ 64
unfolding block_word
word_fits B i = omega arith

binding-fits : (b c : Bool) (m : ℕ) → m < 2 ^ 64 → (tells (bound_or_barred b c m) (when false 0)).payload < 2 ^ 64
binding-fits true true m h = omega arith
binding-fits false true m h = omega arith
binding-fits true false m h = h
binding-fits false false m h = omega arith

kept-fits : (s : Bool) (m : ℕ) → m < 2 ^ 64 → (tells unbound (when s m)).kept < 2 ^ 64
kept-fits true m h = h
kept-fits false m h = omega arith

pub group-fits : (B : List ℕ) (j : ℕ) → group_fits (group_at B j) ≡ true
unfolding group_at binding_at
group-fits B j = fits-true _ (binding-fits (bit (block_word B 0) j) (bit (block_word B 1) j) _ (word_fits B _)) (kept-fits (bit (block_word B 2) j) _ (word_fits B _))

all_of : {A : Type 0} (p : A → Bool) (f : ℕ → A) → ((j : ℕ) → p (f j) ≡ true) → (n : ℕ) → all p (list_of n f) ≡ true
unfolding list_of all
all_of p f h zero = refl
all_of p f h (suc n) = all_append p (list_of n f) (f n ∷ []) ∙ ap₂ ◌&&◌ (all_of p f h n) (ap (λ b. b && true) (h n))

-- ---- the rule of the kind

-- b, and after it n tests that fail
abbrev falses : ℕ → Bool → Bool
falses zero b = b
falses (suc n) b = falses n b || false

alone : (n : ℕ) (b : Bool) → b ≡ falses n b
alone zero b = refl
alone (suc n) b = alone n b ∙ sym (or-false (falses n b))

module _ (n : ℕ) (s : Stmt) where
  -- what each kind asks, with the views apart

  abbrev wishes : Bool
  wishes = no_at s && no_view_field s && no_notice s && no_groups s

  abbrev agrees_on_view : Bool
  agrees_on_view = has_members 16 s.at && has_members 16 s.view && no_notice s && no_groups s

  abbrev agrees_on_history : Bool
  agrees_on_history = has_members 16 s.at && no_view_field s && no_notice s && no_groups s

  abbrev reports : Bool
  reports = has_members 16 s.at && no_notice s && report_rule n s

  abbrev prepares : Bool
  prepares = no_at s && no_view_field s && only_payload s

  abbrev votes : Bool
  votes = has_members 16 s.at && no_view_field s && only_payload s

  -- the rule, were the kind k
  abbrev kind_as : ℕ → Bool
  kind_as k =
      (eqb k 1 || eqb k 2) && no_at s && no_view_field s && no_notice s && no_groups s && no_views s
      || eqb k 3 && has_members 16 s.at && has_members 16 s.view && no_notice s && no_groups s && no_views s
      || eqb k 4 && has_members 16 s.at && no_view_field s && no_notice s && no_groups s && views_rule 16 s
      || eqb k 5 && has_members 16 s.at && no_notice s && report_rule n s && views_rule 16 s
      || eqb k 6 && no_at s && no_view_field s && only_payload s && no_views s
      || (eqb k 7 || eqb k 8) && has_members 16 s.at && no_view_field s && only_payload s && no_views s

  kind-as : (k : ℕ) → s.kind ≡ k → kind_as k ≡ kind_rule 16 n s
  unfolding kind_rule
  kind-as k e = ap kind_as (sym e)

  pub wish-is : 1 ≤ s.kind → s.kind ≤ 2 → (wishes && no_views s) ≡ kind_rule 16 n s
  wish-is l h = alone 5 (wishes && no_views s) ∙ elim (dec_lt s.kind 2) [ yes m ↦ kind-as 1 (omega arith) | no m ↦ kind-as 2 (omega arith) ]

  pub agree-view-is : s.kind ≡ 3 → (agrees_on_view && no_views s) ≡ kind_rule 16 n s
  agree-view-is e = alone 4 (agrees_on_view && no_views s) ∙ kind-as 3 e

  pub agree-history-is : s.kind ≡ 4 → (agrees_on_history && views_rule 16 s) ≡ kind_rule 16 n s
  agree-history-is e = alone 3 (agrees_on_history && views_rule 16 s) ∙ kind-as 4 e

  pub report-is : s.kind ≡ 5 → (reports && views_rule 16 s) ≡ kind_rule 16 n s
  report-is e = alone 2 (reports && views_rule 16 s) ∙ kind-as 5 e

  pub prepare-is : s.kind ≡ 6 → (prepares && no_views s) ≡ kind_rule 16 n s
  prepare-is e = alone 1 (prepares && no_views s) ∙ kind-as 6 e

  pub vote-is : 7 ≤ s.kind → s.kind ≤ 8 → (votes && no_views s) ≡ kind_rule 16 n s
  vote-is l h = elim (dec_lt s.kind 8) [ yes m ↦ kind-as 7 (omega arith) | no m ↦ kind-as 8 (omega arith) ]

  pub no_kind : (s.kind < 1) ⊎ (8 < s.kind) → false ≡ kind_rule 16 n s
  no_kind (inl l) = kind-as 0 (omega arith)
  no_kind (inr l) = high s.kind l ∙ kind-as s.kind refl
    where
      high : (k : ℕ) → 8 < k → false ≡ kind_as k
      high k l = let d : (m : ℕ) → m < 9 → eqb k m ≡ false = λ m h. ne_eqb k m (λ q. omega arith) in
          rw (d 1 (omega arith), d 2 (omega arith), d 3 (omega arith), d 4 (omega arith), d 5 (omega arith), d 6 (omega arith), d 7 (omega arith), d 8 (omega arith))

  -- no kind has more than 16 views
  kind-long : no_views s ≡ false → views_rule 16 s ≡ false → kind_rule 16 n s ≡ false
  unfolding kind_rule
  kind-long p q =
      all-false ((eqb s.kind 1 || eqb s.kind 2) && no_at s && no_view_field s && no_notice s && no_groups s)
      (eqb s.kind 3 && has_members 16 s.at && has_members 16 s.view && no_notice s && no_groups s)
      (eqb s.kind 4 && has_members 16 s.at && no_view_field s && no_notice s && no_groups s) (eqb s.kind 5 && has_members 16 s.at && no_notice s && report_rule n s)
      (eqb s.kind 6 && no_at s && no_view_field s && only_payload s) ((eqb s.kind 7 || eqb s.kind 8) && has_members 16 s.at && no_view_field s && only_payload s)
      (no_views s) (views_rule 16 s) p q
    where
      all-false : (a b c d e f n v : Bool) → n ≡ false → v ≡ false → ((((((a && n) || (b && n)) || (c && v)) || (d && v)) || (e && n)) || (f && n)) ≡ false
      all-false a b c d e f n v p q = rw (p, q, and-false a, and-false b, and-false c, and-false d, and-false e, and-false f)

-- ---- the rules of a struct

eqb-self : (m : ℕ) → eqb m m ≡ true
eqb-self m = eq-eqb m m refl

same-only : (m p : ℕ) → same_groups (only m ∷ []) (only p ∷ []) ≡ eqb m p
unfolding same_groups same_group
same-only m p = and-true _ ∙ and-true _ ∙ and-true _

module _ (st : Statement) (B : List ℕ) where
  len-eq : length (stmt_of st B).views ≡ st.history.len
  unfolding stmt_of
  len-eq = views-length st.history.len st.history.views

  pub no-views-is : eqb st.history.len 0 ≡ no_views (stmt_of st B)
  no-views-is = ap (λ n. eqb n 0) (sym len-eq)

  module _ (other : st.kind ≡ 5 → ⊥) where
    other-groups : (stmt_of st B).groups ≡ only st.payload ∷ []
    unfolding stmt_of groups_of
    other-groups = rw (ne_eqb st.kind 5 other)

    pub no-groups-is : eqb st.payload 0 ≡ no_groups (stmt_of st B)
    no-groups-is = sym (ap (λ l. same_groups l (no_group ∷ [])) other-groups ∙ same-only st.payload 0)

    only-payload-is : true ≡ only_payload (stmt_of st B)
    only-payload-is = sym (ap (λ l. same_groups l (only (get_or l 0 no_group).payload ∷ [])) other-groups ∙ same-only st.payload st.payload ∙ eqb-self st.payload)

    -- a payload may stand there
    pub with-payload : (a v : Bool) → (a && v) ≡ (a && only_payload (stmt_of st B) && v)
    with-payload a v = ap (λ b. b && v) (sym (and-true a) ∙ ap (λ b. a && b) only-payload-is)

    other_fits : st.payload < 2 ^ 64 → all group_fits (stmt_of st B).groups ≡ true
    unfolding all
    other_fits h = ap (all group_fits) other-groups ∙ ap (λ b. b && true) (fits-true (only st.payload) h (omega arith))

  module _ (report : st.kind ≡ 5) where
    report-groups : (stmt_of st B).groups ≡ list_of (min st.groups 64) (group_at B)
    unfolding stmt_of groups_of
    report-groups = rw (eq-eqb st.kind 5 report)

    pub report-rule-is : (m n : ℕ) → m ≡ min st.groups 64 → eqb m n ≡ report_rule n (stmt_of st B)
    unfolding report_rule
    report-rule-is m n e =
        ap (λ k. eqb k n) (e ∙ sym (list_of-length (min st.groups 64) (group_at B)) ∙ ap length (sym report-groups)) ∙ sym (and-true _)
        ∙ ap (λ b. eqb (length (stmt_of st B).groups) n && b) (sym (ap (all group_rule) report-groups ∙ all_of group_rule (group_at B) (group-rule B) (min st.groups 64)))

    report-fits : all group_fits (stmt_of st B).groups ≡ true
    report-fits = ap (all group_fits) report-groups ∙ all_of group_fits (group_at B) (group-fits B) (min st.groups 64)

  fits-is : st.payload < 2 ^ 64 → all group_fits (stmt_of st B).groups ≡ true
  fits-is h = go (eqb st.kind 5) refl
    where
      go : (b : Bool) → eqb st.kind 5 ≡ b → all group_fits (stmt_of st B).groups ≡ true
      go true e = report-fits (eqb-true st.kind 5 e)
      go false e = other_fits (eqb-false st.kind 5 e) h

  pub views-rule-long : 16 < st.history.len → false ≡ views_rule 16 (stmt_of st B)
  unfolding views_rule
  views-rule-long l = sym (stop (leb 1 (length (stmt_of st B).views)) _ _ _ (lt-leb (length (stmt_of st B).views) 16 (omega (arith, len-eq))))
    where
      stop : (a b c d : Bool) → b ≡ false → (a && b && c && d) ≡ false
      stop true b c d e = rw e
      stop false b c d e = refl

  -- the views that the history holds are the statement's
  pub views-are : st.history.len ≤ 16 → views_is st.history ≡ (stmt_of st B).views
  unfolding stmt_of
  views-are l = views-meant st.history l

  pub views-rule-is : (r a : Bool) → st.history.len ≤ 16 → r ≡ is_rising 16 (views_is st.history) → a ≡ all (has_members 16) (views_is st.history)
      → (leb 1 st.history.len && r && a) ≡ views_rule 16 (stmt_of st B)
  unfolding views_rule
  views-rule-is r a l e f =
      ap₂ ◌&&◌ (ap₂ ◌&&◌ (ap (leb 1) (sym len-eq) ∙ sym (and-true (leb 1 (length (stmt_of st B).views))) ∙ ap (λ b. leb 1 (length (stmt_of st B).views) && b) (sym (le-leb (length (stmt_of st B).views) 16 (omega (arith, len-eq)))))
      (e ∙ ap (is_rising 16) (views-are l))) (f ∙ ap (all (has_members 16)) (views-are l))

  -- what the rules ask of every kind, without the groups
  abbrev common : Bool
  common = ltb (stmt_of st B).origin 16 && is_view 16 (stmt_of st B).at && is_view 16 (stmt_of st B).view

  pub rules-long : (n : ℕ) → 16 < st.history.len → false ≡ keeps_rules n (stmt_of st B)
  unfolding field_rules
  rules-long n l =
      sym (ap (λ b. common && ltb (stmt_of st B).notice 256 && all group_fits (stmt_of st B).groups && all (is_view 16) (stmt_of st B).views && b) (kind-long (min n 64) (stmt_of st B) (ne_eqb (length (stmt_of st B).views) 0 (λ q. omega (arith, len-eq))) (sym (views-rule-long l)))
      ∙ and-false (common && ltb (stmt_of st B).notice 256 && all group_fits (stmt_of st B).groups && all (is_view 16) (stmt_of st B).views))

  pub rules-are : (n m : ℕ) (a v h k : Bool) → m ≡ min n 64 → st.history.len ≤ 16 → (stmt_of st B).notice < 256 → st.payload < 2 ^ 64
      → a ≡ is_view 16 (stmt_of st B).at → v ≡ is_view 16 (stmt_of st B).view → h ≡ all (is_view 16) (views_is st.history) → k ≡ kind_rule 16 m (stmt_of st B)
      → (ltb (stmt_of st B).origin 16 && a && v && h && k) ≡ keeps_rules n (stmt_of st B)
  unfolding field_rules
  rules-are n m a v h k em l p q e f g i =
      ap₂ ◌&&◌ (ap₂ ◌&&◌ (ap₂ ◌&&◌ (ap (λ b. ltb (stmt_of st B).origin 16 && b) e) f) (g ∙ ap (all (is_view 16)) (views-are l))) (i ∙ ap (λ j. kind_rule 16 j (stmt_of st B)) em)
      ∙ sym (shape common (ltb (stmt_of st B).notice 256) (all group_fits (stmt_of st B).groups) (all (is_view 16) (stmt_of st B).views) (kind_rule 16 (min n 64) (stmt_of st B)) (lt-ltb (stmt_of st B).notice 256 p) (fits-is q))
    where
      shape : (a b c d e : Bool) → b ≡ true → c ≡ true → (a && b && c && d && e) ≡ (a && d && e)
      shape a b c d e p q = rw (p, q, and-true a, and-true a)

-- what the block tells is no matter to the rule of the kind
pub any-block : (st : Statement) (B : List ℕ) (n : ℕ) → kind_rule 16 n (stmt_of st []) ≡ kind_rule 16 n (stmt_of st B)
unfolding stmt_of views_rule
any-block st B n = go (eqb st.kind 5) refl
  where
    go : (b : Bool) → eqb st.kind 5 ≡ b → kind_rule 16 n (stmt_of st []) ≡ kind_rule 16 n (stmt_of st B)
    go true e =
        let k : st.kind ≡ 5 = eqb-true st.kind 5 e in
        sym (report-is n (stmt_of st []) k) ∙ ap (λ b. has_members 16 (view_is st.at) && eqb st.notice 0 && b && views_rule 16 (stmt_of st [])) (sym (report-rule-is st [] k (min st.groups 64) n refl) ∙ report-rule-is st B k (min st.groups 64) n refl) ∙ report-is n (stmt_of st B) k
    go false e =
        ap (λ g. kind_rule 16 n (record { kind = st.kind; origin = st.origin; at = view_is st.at; view = view_is st.view; notice = st.notice; groups = g; views = first_views st.history.len st.history.views }))
        (other-groups st [] (eqb-false st.kind 5 e) ∙ sym (other-groups st B (eqb-false st.kind 5 e)))
