-- Laws of reports: each is what one step of a function of reports needs.
-- Assumes nothing.
use mathlib.Core.Path.{◌≡◌, refl, sym, ap, ap₂, subst, ◌∙◌}
use mathlib.Core.Bool.{Bool, true, false, not, ◌&&◌, ◌||◌, and-true, and_comm}
use mathlib.Core.List.{List}
use Prim.Native.Nat.{ℕ, zero, suc, ◌+◌, ◌≤◌, ◌<◌, min}
use native.Mathlib.Decide.{dec_lt}
use native.Mathlib.Numerals.{add-one}
use native.Mathlib.Omega.{arith}
use lib.Dec.{T, eqb}
use lib.ListN.{length, get_or}
use borrow.Author.Tests.{eq-eqb, ne_eqb, ltb-false}
use Rattle.protocol.specs.Sets.{bit, every}
use Rattle.protocol.specs.Lists.{◌∈◌, any, all, filter, first, when}
use Rattle.protocol.specs.View.{View, Ring, same_view, member, within, below}
use Rattle.protocol.specs.History.{top, holds}
use Rattle.protocol.specs.Statement.{Group, Stmt, group_of, is_kind, reports_on}
use Rattle.protocol.specs.Evidence.{candidate, candidates, certificates, is_conflict, is_candidate, has_quorum, signs, signed_by_quorum, is_certified, is_counted_for, is_counted, is_counted_on, is_skipped, Certificate}
use Rattle.protocol.proofs.Says.{from-true, says_map, says-unique, says-self, says-and, says-eqb, says-every, says_all, says_any}
use Rattle.protocol.proofs.Found.{first-in, first-none}
use Rattle.protocol.proofs.Decided.{says_same, says-in, says-shown, says-certified}
use Rattle.protocol.proofs.Asked.{says_holds, candidates-exact, certificates-in, certificates-out, one-payload}
use Rattle.protocol.specs.Count.{Count, count_quorum}
use Rattle.protocol.specs.Signers.{signers}
use Rattle.protocol.proofs.Count.{stops}
use Rattle.views.specs.View.{view_of, ring_of_word, views_of}
use Rattle.views.proofs.Tables.{views-count, all-zero, all_more, all-miss}
use Rattle.views.proofs.Views.{passes, fails}
use Rattle.pool.specs.Pool.{told_bound, told_barred, told_stored, told_payload, told_kept, told_at, stmt_at}
use Rattle.evidence.specs.declared.Evidence.{Evidence}
use Rattle.evidence.specs.declared.Ring as declared
use Rattle.evidence.specs.declared.reports.Judge.{Judge}
use Rattle.evidence.specs.Shown.{listed, twofold, PreparedList}
use Rattle.evidence.specs.Evidence.{Settled, remaining_views, reported_all, reports_count, counted_there, reports_there}
use Rattle.evidence.specs.Reports.{told_count, binding_holds, kept_holds, told_holds, counts_by, counts_on, has_reports, counts_among, RemainingOf, Usable, TellsNothing, judge_of}
use Rattle.evidence.proofs.Listing.{any-filter, any_same}
use Rattle.evidence.proofs.Senders.{told_in, told-out, told-barred, told-bound, told_free, told-stored, told-unstored}
use Rattle.evidence.proofs.Payloads.{twofold-is}
use Rattle.evidence.proofs.Fitting as fitting

-- ---- what is told of a notice

module _ (q : Judge) (K : List ℕ) (i : ℕ) (g : Group) where
  abbrev explained : Bool → Bool → Bool
  explained x y = (not x || listed K q.known i g.payload) && (not y || twofold K q.known i)

  -- the binding is explained, by its number
  bound-is : g.binding ≡ 1 → binding_holds q K i g ≡ listed K q.known i g.payload
  unfolding binding_holds
  bound-is o = ap (λ x. explained (eqb x 1) (eqb x 2)) o ∙ and-true (listed K q.known i g.payload)

  barred-is : g.binding ≡ 2 → binding_holds q K i g ≡ twofold K q.known i
  unfolding binding_holds
  barred-is o = ap (λ x. explained (eqb x 1) (eqb x 2)) o

  free-is : g.binding ≡ 0 → binding_holds q K i g ≡ true
  unfolding binding_holds
  free-is o = ap (λ x. explained (eqb x 1) (eqb x 2)) o

module _ (q : Judge) (P : List ℕ) (i : ℕ) (g : Group) where
  kept-is-none : g.stored ≡ 0 → kept_holds q P i g ≡ true
  unfolding kept_holds
  kept-is-none o = ap (λ x. not (eqb x 1) || bit q.certified i && eqb g.kept (get_or P i 0)) o

  kept-is : g.stored ≡ 1 → kept_holds q P i g ≡ (bit q.certified i && eqb g.kept (get_or P i 0))
  unfolding kept_holds
  kept-is o = ap (λ x. not (eqb x 1) || bit q.certified i && eqb g.kept (get_or P i 0)) o

-- by the sets and payloads of report s
module _ (W : List ℕ) (s j : ℕ) (q : Judge) (P K : List ℕ) where
  module _ {a : ℕ} {y : Bool} (is : a ≡ told_barred W s) (asked : y ≡ bit a j) where
    pub binding-barred : (two : Bool) → y ≡ true → two ≡ twofold K q.known j → two ≡ binding_holds q K j (told_at W s j)
    binding-barred two e f = f ∙ sym (barred-is q K j (told_at W s j) (told-barred W s j is asked e))

    module _ (clear : y ≡ false) {b : ℕ} {x : Bool} (also : b ≡ told_bound W s) (asked-too : x ≡ bit b j) where
      pub binding-bound : (p : ℕ) (r : Bool) → x ≡ true → p ≡ told_payload W s j → r ≡ listed K q.known j p → r ≡ binding_holds q K j (told_at W s j)
      binding-bound p r e f g =
          let (u, v) = told-bound W s j is asked clear also asked-too e in
          g ∙ ap (listed K q.known j) (f ∙ sym v) ∙ sym (bound-is q K j (told_at W s j) u)

      pub binding-free : x ≡ false → true ≡ binding_holds q K j (told_at W s j)
      binding-free e = sym (free-is q K j (told_at W s j) (told_free W s j is asked clear also asked-too e))

  module _ {a : ℕ} {y : Bool} (is : a ≡ told_stored W s) (asked : y ≡ bit a j) where
    pub kept-none : y ≡ false → true ≡ kept_holds q P j (told_at W s j)
    kept-none e = sym (kept-is-none q P j (told_at W s j) (told-unstored W s j is asked e))

    module _ (stored : y ≡ true) (r : Bool) (certified : r ≡ bit q.certified j) where
      kept_by : kept_holds q P j (told_at W s j) ≡ (r && eqb (told_kept W s j) (get_or P j 0))
      kept_by =
          let (u, v) = told-stored W s j is asked stored in
          kept-is q P j (told_at W s j) u ∙ ap₂ (λ b x. b && eqb x (get_or P j 0)) (sym certified) v

      pub kept-lone : r ≡ false → false ≡ kept_holds q P j (told_at W s j)
      kept-lone e = sym (kept_by ∙ ap (λ b. b && eqb (told_kept W s j) (get_or P j 0)) e)

      pub kept_payload : (x m : ℕ) → r ≡ true → x ≡ told_kept W s j → m ≡ get_or P j 0 → eqb x m ≡ kept_holds q P j (told_at W s j)
      kept_payload x m e f g = ap₂ eqb f g ∙ sym (kept_by ∙ ap (λ b. b && eqb (told_kept W s j) (get_or P j 0)) e)

-- of all notices
module _ (W : List ℕ) (s : ℕ) (q : Judge) (P K : List ℕ) where
  abbrev held_at : ℕ → Bool
  held_at i = told_holds q P K i (group_of (stmt_at W s) i)

  -- nothing is told of notice i
  still : (i : ℕ) → (group_of (stmt_at W s) i).binding ≡ 0 → (group_of (stmt_at W s) i).stored ≡ 0 → held_at i ≡ true
  unfolding told_holds
  still i b k = ap₂ ◌&&◌ (free-is q K i (group_of (stmt_at W s) i) b) (kept-is-none q P i (group_of (stmt_at W s) i) k)

  pub hold-nothing : TellsNothing W s → true ≡ every q.notices held_at
  hold-nothing t = sym (passes (says-every (λ i. says-self (held_at i)) q.notices) (λ i l. from-true (still i (t.none i).0 (t.none i).1)))

  -- those before j hold
  pub record HeldTo (j : ℕ) : Type 0 where
    pub so : every j held_at ≡ true

  pub hold-first : HeldTo 0
  unfolding every
  hold-first = record { so = refl }

  -- n of the notices are told
  module _ {c n : ℕ} (told : c ≡ told_count W s) (lesser : n ≡ min c q.notices) where
    hold_at : (j : ℕ) (r : Bool) → j < n → r ≡ told_holds q P K j (told_at W s j) → held_at j ≡ r
    hold_at j r l e = ap (told_holds q P K j) (told_in W s j (omega arith)) ∙ sym e

    pub hold-next : {j : ℕ} {r : Bool} → j < n → r ≡ told_holds q P K j (told_at W s j) → r ≡ true → HeldTo j → HeldTo (j + 1)
    unfolding every
    hold-next {j} {r} l e f w = record { so = rw add-one (ap₂ ◌&&◌ (hold_at j r l e ∙ f) w.so) }

    pub hold-not : {j : ℕ} {r : Bool} → j < n → r ≡ told_holds q P K j (told_at W s j) → r ≡ false → false ≡ every q.notices held_at
    hold-not {j} {r} l e f = sym (fails (says-every (λ i. says-self (held_at i)) q.notices) (λ h. subst T (hold_at j r l e ∙ f) (h j (omega arith))))

    pub hold-all : {j : ℕ} → j ≡ n → HeldTo j → true ≡ every q.notices held_at
    hold-all {j} e w = sym (passes (says-every (λ i. says-self (held_at i)) q.notices) (λ i l. elim (dec_lt i j) [
      | yes h ↦ (says-every (λ i. says-self (held_at i)) j).sound (from-true w.so) i h
      | no h ↦ (let z = told-out W s i (omega arith) in from-true (still i z.0 z.1))
    ]))

-- ---- a set over the reports alone

pub kind-is : (k : ℕ) (s : Stmt) → k ≡ s.kind → eqb k 5 ≡ is_kind 5 s
unfolding is_kind
kind-is k s e = ap (λ x. eqb x 5) e

module _ (q : Judge) (C P K : List ℕ) where
  module _ (u : View) (s : Stmt) where
    pub on-other : same_view s.at u ≡ false → false ≡ counts_on q C P K u s
    unfolding counts_on
    on-other f = sym (ap (λ b. (b && is_kind 5 s) && counts_by q C P K s) f)

    module _ (at : same_view s.at u ≡ true) (k : ℕ) (kind : k ≡ s.kind) where
      pub on-kind : (k ≡ 5 → ⊥) → false ≡ counts_on q C P K u s
      unfolding counts_on is_kind
      on-kind n = sym (ap₂ (λ b k. (b && k) && counts_by q C P K s) at (ne_eqb s.kind 5 (λ z. n (kind ∙ z))))

      pub on-counted : (r : Bool) → k ≡ 5 → r ≡ counts_by q C P K s → r ≡ counts_on q C P K u s
      unfolding counts_on is_kind
      on-counted r five c = c ∙ sym (ap₂ (λ b k. (b && k) && counts_by q C P K s) at (eq-eqb s.kind 5 (sym kind ∙ five)))

  pub reported-quorum : (Y : List Stmt) (u : View) (c : Count) → c ≡ count_quorum 16 u (counts_on q C P K u) Y → c.reached ≡ has_reports q C P K Y u
  unfolding has_reports
  reported-quorum Y u c e = ap (λ c. c.reached) e ∙ (stops 16 u (counts_on q C P K u) Y).says

  -- view by view of a list

  pub views-first : (Y : List Stmt) (L : List ℕ) → all (has_reports q C P K Y) (views_of L 0) ≡ true
  unfolding views_of
  views-first Y L = all-zero (has_reports q C P K Y) (λ i. view_of (get_or L i 0))

  module _ (Y : List Stmt) (L : List ℕ) (i u : ℕ) (r : Bool) (is : u ≡ get_or L i 0) (asked : r ≡ has_reports q C P K Y (view_of u)) where
    here : has_reports q C P K Y (view_of (get_or L i 0)) ≡ r
    here = ap (λ w. has_reports q C P K Y (view_of w)) (sym is) ∙ sym asked

    pub views-more : r ≡ true → all (has_reports q C P K Y) (views_of L i) ≡ true → all (has_reports q C P K Y) (views_of L (i + 1)) ≡ true
    unfolding views_of
    views-more e f = all_more (has_reports q C P K Y) (λ i. view_of (get_or L i 0)) i f (here ∙ e)

    pub views-miss : (n : ℕ) → i < n → r ≡ false → all (has_reports q C P K Y) (views_of L n) ≡ false
    unfolding views_of
    views-miss n l e = all-miss (has_reports q C P K Y) (λ i. view_of (get_or L i 0)) n l (here ∙ e)

  pub views-all : (Y : List Stmt) (i n : ℕ) (L : List ℕ) → i ≡ n → all (has_reports q C P K Y) (views_of L i) ≡ true → all (has_reports q C P K Y) (views_of L n) ≡ true
  views-all Y i n L f g = subst (λ k. all (has_reports q C P K Y) (views_of L k) ≡ true) f g

-- ---- what the evidence tells

module _ (init : ℕ) (senders : List ℕ) (X : List Stmt) (C Gr P : List ℕ) (e : Evidence) (settled : Settled (ring_of_word init) senders X C Gr P e) where
  abbrev R : Ring
  R = ring_of_word init

  abbrev G : List View
  G = views_of Gr e.length

  no-conflict : T (not (is_conflict R senders X))
  no-conflict = subst (λ b. T (not b)) (sym settled.agree ∙ settled.of.conflict) tt

  pub count_most : e.count ≤ 16
  count_most =
      let c = settled.of.candidates settled.agree settled.few in
      let l : length (candidates R X) ≤ 16 = ltb-false 16 _ (sym (settled.of.many settled.agree) ∙ settled.few) in
      omega (arith, views-count C e.count, ap length c)

  pub length_most : e.length ≤ 16
  length_most = fitting.length_most R senders X C Gr P e settled.of settled.agree

  certified-by : (i m : ℕ) → i < length senders → is_certified R senders X i m ≡ (bit e.certified i && eqb m (get_or P i 0))
  certified-by i m l = go (bit e.certified i) refl
    where
      is : (b : Bool) → bit e.certified i ≡ b → when b (get_or P i 0) ≡ first (certificates R senders X i)
      is b f = ap (λ b. when b (get_or P i 0)) (sym f) ∙ settled.of.certificate settled.agree i l

      go : (b : Bool) → bit e.certified i ≡ b → is_certified R senders X i m ≡ (b && eqb m (get_or P i 0))
      go true f =
          let c = certificates-out R senders X (first-in (certificates R senders X i) (sym (is true f))) in
          says-unique (says-certified R senders X i m) (says_map (λ q. subst (Certificate R senders X i) (sym q) c) (λ d. one-payload R senders X no-conflict l d c) says-eqb)
      go false f = fails (says-certified R senders X i m) (λ c. first-none (certificates R senders X i) (sym (is false f)) (certificates-in R senders X c))

  all-candidates : (l : List View) → all (is_candidate R X) l ≡ holds (candidates R X) l
  all-candidates l =
      says-unique (says_all (λ v. says-shown R X (candidate v)) l)
      (says_map (λ h v m. (candidates-exact R X v).0 (h v m)) (λ h v m. (candidates-exact R X v).1 (h v m)) (says_holds (candidates R X) l))

  module _ (ring : declared.Ring) (notices : min ring.notices 64 ≡ length senders) (K Rw : List ℕ) (known : ℕ) (prepared : PreparedList senders X K Rw known) where
    abbrev q : Judge
    q = judge_of ring e known

    -- by what the code computes
    pub usable : (by : Judge) → by ≡ q → Usable by K Rw
    usable by is = subst (λ q. Usable q K Rw) (sym is) (record { count = count_most; notices = omega arith; linked = prepared.linked })

    -- what the binding, the kept payload and all of a report are judged by is what the record shows

    told_is : (i : ℕ) (g : Group) → i < length senders → told_holds q P K i g ≡ is_counted_for R senders X i g
    unfolding told_holds binding_holds kept_holds is_counted_for
    told_is i g l = sym (
        ap₂ (λ a b. ((not (eqb g.binding 1) || a) && (not (eqb g.binding 2) || b)) && (not (eqb g.stored 1) || is_certified R senders X i g.kept)) (prepared.are i g.payload l) (sym (twofold-is prepared i l))
        ∙ ap (λ c. ((not (eqb g.binding 1) || listed K known i g.payload) && (not (eqb g.binding 2) || twofold K known i)) && (not (eqb g.stored 1) || c)) (certified-by i g.kept l)
        )

    every-same : (n : ℕ) (f h : ℕ → Bool) → ((i : ℕ) → i < n → f i ≡ h i) → every n f ≡ every n h
    unfolding every
    every-same zero f h w = refl
    every-same (suc n) f h w = ap₂ ◌&&◌ (w n (omega arith)) (every-same n f h (λ i l. w i (omega arith)))

    pub counts-is : (s : Stmt) → counts_by q C P K s ≡ is_counted R senders X s
    unfolding is_counted counts_by
    counts-is s = sym (
        ap₂ (λ w l. ((member s.at s.origin && within 16 s.view w) && l) && every (length senders) (λ i. is_counted_for R senders X i (group_of s i)))
        (sym settled.of.wished) (all-candidates s.views ∙ ap (λ l. holds l s.views) (sym (settled.of.candidates settled.agree settled.few)))
        ∙ ap (λ b. ((member s.at s.origin && within 16 s.view (view_of e.wished)) && holds (views_of C e.count) s.views) && b)
        (every-same (length senders) (λ i. is_counted_for R senders X i (group_of s i)) (λ i. told_holds q P K i (group_of s i)) (λ i l. sym (told_is i (group_of s i) l))
        ∙ ap (λ n. every n (λ i. told_holds q P K i (group_of s i))) (sym notices))
        )

    swap : (k o a c : Bool) → (k && (o && ((a && k) && c))) ≡ (o && ((k && a) && c))
    swap true o true c = refl
    swap true o false c = refl
    swap false true a c = refl
    swap false false a c = refl

    -- a report on u counts
    on-is : (u : View) (s : Stmt) → counts_on q C P K u s ≡ is_counted_on R senders X u s
    unfolding counts_on is_counted_on reports_on is_kind
    on-is u s = ap₂ ◌&&◌ (and_comm (same_view s.at u) (eqb s.kind 5)) (counts-is s)

    pub reports-count : (by : Judge) → by ≡ q → (u : View) → count_quorum 16 u (counts_on by C P K u) X ≡ reports_count R senders X u
    unfolding reports_count
    reports-count by is u = ap (λ q. count_quorum 16 u (counts_on q C P K u) X) is ∙ ap (λ p. count_quorum 16 u p X) (λ i s. on-is u s i)

    pub reports-signers : (by : Judge) → by ≡ q → (u : View) → signers 16 X u (counts_on by C P K u) ≡ signers 16 X u (is_counted_on R senders X u)
    reports-signers by is u = ap (λ q. signers 16 X u (counts_on q C P K u)) is ∙ ap (signers 16 X u) (λ i s. on-is u s i)

    signs-is : (u : View) (k : ℕ) → signs (counts_on q C P K u) (filter (is_kind 5) X) k ≡ signs (is_counted_on R senders X u) X k
    unfolding signs counts_on is_counted_on reports_on is_kind
    signs-is u k =
        any-filter (is_kind 5) (λ s. eqb s.origin k && counts_on q C P K u s) X
        ∙ any_same (λ s. is_kind 5 s && (eqb s.origin k && counts_on q C P K u s)) (λ s. eqb s.origin k && is_counted_on R senders X u s) X
        (λ s. swap (eqb s.kind 5) (eqb s.origin k) (same_view s.at u) (counts_by q C P K s) ∙ ap (λ c. eqb s.origin k && ((eqb s.kind 5 && same_view s.at u) && c)) (counts-is s))

    -- the views that need reports, in a list
    module _ (L : List ℕ) (n : ℕ) (needed : RemainingOf R Gr e.length e.skipped L n) where
      pub remaining-is : views_of L n ≡ remaining_views R senders X
      unfolding remaining_views
      remaining-is =
          needed.are (is_skipped R X) (settled.of.skipped settled.agree)
          ∙ ap (λ G. filter (λ u. below 16 u (top R G) && not (is_skipped R X u)) G) (settled.of.greatest settled.agree)

      reported-is : (u : View) → has_reports q C P K (filter (is_kind 5) X) u ≡ signed_by_quorum 16 X u (is_counted_on R senders X u)
      unfolding has_reports signed_by_quorum
      reported-is u i = has_quorum 16 u (λ k. signs-is u k i)

      pub reported-all : (by : Judge) → by ≡ q → (Y : List Stmt) → Y ≡ filter (is_kind 5) X → (b : Bool) → all (has_reports by C P K Y) (views_of L n) ≡ b → b ≡ reported_all R senders X
      unfolding reported_all
      reported-all by is Y y b f =
          sym f ∙ ap₂ (λ q Y. all (has_reports q C P K Y) (views_of L n)) is y ∙ (λ i. all (λ u. reported-is u i) (views_of L n)) ∙ ap (all (λ u. signed_by_quorum 16 X u (is_counted_on R senders X u))) remaining-is

      among-is : (s : Stmt) → counts_among q C P K (views_of L n) s ≡ counted_there R senders X s
      unfolding counts_among counted_there is_counted_on reports_on is_kind
      among-is s =
          ap₂ (λ H c. (eqb s.kind 5 && any (same_view s.at) H) && c) remaining-is (counts-is s)
          ∙ says-unique (says-and (says-and (says-eqb {m = s.kind} {n = 5}) (says-in {v = s.at} {H = remaining_views R senders X})) (says-self (is_counted R senders X s)))
          (says_map (λ (v, m, ((k, z), c)). ((k, subst (λ v. v ∈ remaining_views R senders X) (sym z) m), c)) (λ ((k, m), c). (s.at, m, ((k, refl), c)))
          (says_any (λ v. says-and (says-and (says-eqb {m = s.kind} {n = 5}) (says_same {u = s.at} {v = v})) (says-self (is_counted R senders X s))) (remaining_views R senders X)))

      pub reports-there : (by : Judge) → by ≡ q → filter (counts_among by C P K (views_of L n)) X ≡ reports_there R senders X
      unfolding reports_there
      reports-there by is = ap (λ q. filter (counts_among q C P K (views_of L n)) X) is ∙ (λ i. filter (λ s. among-is s i) X)
