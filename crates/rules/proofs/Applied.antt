-- Each rule in terms of what it looks at: the tests in the order of the code, and what is done if all pass.
-- Assumes nothing.
use mathlib.Core.Path.{◌≡◌, refl, sym, ap, ap₂, subst, ◌∙◌}
use mathlib.Core.Bool.{Bool, true, false, not, ◌&&◌}
use mathlib.Core.List.{List, [], ◌∷◌}
use Rattle.std.specs.Prelude as code
use Rattle.std.specs.Prelude.{Some, None}
use mathlib.Core.Option.{Option, some, none}
use Prim.Native.Nat.{ℕ, ◌-◌, ◌<◌, min}
use native.Mathlib.Omega.{arith}
use lib.Dec.{eqb}
use lib.ListN.{get_or}
use Rattle.protocol.specs.Lists.{any, find, when, given, is_some, list_of}
use Rattle.protocol.specs.View.{View, same_view, member, has_members, below}
use Rattle.protocol.specs.History.{last}
use Rattle.protocol.specs.Statement.{Stmt, Binding, same_stmt, join, leave, agree_view, agree_history, report, prepare, ack, store, reports_on}
use Rattle.protocol.specs.Evidence.{candidates}
use Rattle.protocol.specs.Controller.{Controller}
use Rattle.protocol.specs.Turn as turn
use Rattle.protocol.proofs.Numbered.{list_of-cong}
use Rattle.views.specs.declared.View as held
use Rattle.views.specs.View.{view_of, view_in, views_in}
use Rattle.views.specs.Held.{view_is}
use Rattle.views.proofs.Histories.{last_some}
use Rattle.statements.specs.declared.Statement.{Statement}
use Rattle.statements.specs.Block.{group_at}
use Rattle.statements.specs.Meaning.{stmt_of}
use Rattle.statements.specs.Made.{Made, Reports}
use Rattle.evidence.specs.Evidence.{ring_is, reported_all}
use Rattle.evidence.specs.Notices.{senders_of}
use Rattle.evidence.proofs.Turns.{reported-turn}
use Rattle.rules.specs.declared.Situation.{Situation}
use Rattle.rules.specs.declared.Action.{Action}
use Rattle.rules.specs.declared.Action.TheVariants.{Report, Enter, AgreeView, AgreeHistory, Ack, Store, Deliver, Join, Leave, Prepare}
use Rattle.rules.specs.Actions.{statement_of, action_is, answer_is, Makes}
use Rattle.rules.specs.Rules.{own_at, report_due, Owns, SituationOf, ToldOf, Lent, statements, own_statements, candidate_views, greatest_views, senders, AllLent, Rule, merged_by, Does}
use Rattle.rules.proofs.Scans.{owns-same, owns-at}

-- ---- tests one after the other

-- a, if every test passes
unfoldable pub each : List Bool → Action → code.Option Action
each [] a = Some a
each (true ∷ l) a = each l a
each (false ∷ l) a = None

pub stop : (b : Bool) (l : List Bool) (a : Action) → b ≡ false → None ≡ each (b ∷ l) a
unfolding each
stop b l a e = rw e

pub go : (b : Bool) (l : List Bool) (a : Action) (r : code.Option Action) → b ≡ true → r ≡ each l a → r ≡ each (b ∷ l) a
unfolding each
go b l a r e f = rw e f

pub done : (a : Action) → Some a ≡ each [] a
unfolding each
done a = refl

module _ (s : Situation) (H : List View) (B : List ℕ) (b : ℕ → Binding) (a : Action) {x : turn.Action} (is : some x ≡ answer_is s H B b (Some a)) where
  all2 : (p q : Bool) → when (p && q) x ≡ answer_is s H B b (each (p ∷ q ∷ []) a)
  unfolding each action_is
  all2 true true = is
  all2 true false = refl
  all2 false q = refl

  pub all3 : (p q r : Bool) → when (p && q && r) x ≡ answer_is s H B b (each (p ∷ q ∷ r ∷ []) a)
  unfolding each action_is
  all3 true q r = all2 q r
  all3 false q r = refl

  all4 : (p q r o : Bool) → when (p && q && r && o) x ≡ answer_is s H B b (each (p ∷ q ∷ r ∷ o ∷ []) a)
  unfolding each action_is
  all4 true q r o = all3 q r o
  all4 false q r o = refl

find-cong : {A : Type 0} (p q : A → Bool) (l : List A) → ((a : A) → p a ≡ q a) → find p l ≡ find q l
unfolding find
find-cong p q [] h = refl
find-cong p q (a ∷ l) h = rw (h a, find-cong p q l h)

-- whether something is done
pub acts-is : (s : Situation) (H : List View) (B : List ℕ) (b : ℕ → Binding) (r : code.Option Action) → is_some (answer_is s H B b r) ≡ code.is_some r
acts-is s H B b None = refl
acts-is s H B b (Some a) = refl

-- an action is something that is done
pub acts-else : (s : Situation) (H : List View) (B : List ℕ) (b : ℕ → Binding) (a : Action) → true ≡ is_some (answer_is s H B b (Some a))
acts-else s H B b a = refl

-- ---- what is signed

pub made_as : {a b : Stmt} {st : Statement} → a ≡ b → Made a st → Made b st
made_as e m = record { means = λ B. m.means B ∙ e; short = m.short }

module _ (s : Situation) (H : List View) {a : Action} {st : Statement} where
  by-action : (b : Action) {x : Stmt} → ((B : List ℕ) → x ≡ statement_of s H B b) → a ≡ b → Made x st → Makes s H a st
  by-action b q e m = record { means = λ B. m.means B ∙ q B ∙ ap (statement_of s H B) (sym e); short = m.short }

  pub report-made : {u : held.View} → a ≡ Report u → Makes s H (Report u) st → Makes s H a st
  report-made e m = record { means = λ B. m.means B ∙ ap (statement_of s H B) (sym e); short = m.short }

  pub enter-made : {v : held.View} → a ≡ Enter v → Made (join s.number) st → Makes s H a st
  unfolding statement_of
  enter-made {v} = by-action (Enter v) (λ B. refl)

  pub view_made : {w : View} → w ≡ view_in s.shown.wished → a ≡ AgreeView → Made (agree_view s.number (view_is s.top) w) st → Makes s H a st
  unfolding statement_of
  view_made q = by-action AgreeView (λ B. ap (agree_view s.number (view_is s.top)) q)

  pub history-made : {K : List View} → K ≡ H → a ≡ AgreeHistory → Made (agree_history s.number (view_is s.top) K) st → Makes s H a st
  unfolding statement_of
  history-made q = by-action AgreeHistory (λ B. ap (agree_history s.number (view_is s.top)) q)

  pub ack-made : {j m : ℕ} → a ≡ Ack j m → Made (ack s.number (view_is s.top) j m) st → Makes s H a st
  unfolding statement_of
  ack-made {j} {m} = by-action (Ack j m) (λ B. refl)

  pub store-made : {j m : ℕ} → a ≡ Store j m → Made (store s.number (view_is s.top) j m) st → Makes s H a st
  unfolding statement_of
  store-made {j} {m} = by-action (Store j m) (λ B. refl)

  pub deliver-made : {j m : ℕ} → a ≡ Deliver j m → Made (join s.number) st → Makes s H a st
  unfolding statement_of
  deliver-made {j} {m} = by-action (Deliver j m) (λ B. refl)

  pub join-made : a ≡ Join → Made (join s.number) st → Makes s H a st
  unfolding statement_of
  join-made = by-action (Join) (λ B. refl)

  pub leave-made : a ≡ Leave → Made (leave s.number) st → Makes s H a st
  unfolding statement_of
  leave-made = by-action (Leave) (λ B. refl)

  pub prepare-made : {j m : ℕ} → a ≡ Prepare j m → Made (prepare s.number j m) st → Makes s H a st
  unfolding statement_of
  prepare-made {j} {m} = by-action (Prepare j m) (λ B. refl)

pub reporting-made : (s : Situation) {H K : List View} (u : held.View) {w : View} {st : Statement} → w ≡ view_in s.shown.wished → K ≡ H
    → Reports s.number (view_is u) w s.ring.notices K st → Makes s H (Report u) st
unfolding statement_of
reporting-made s u q e m = record {
  means = λ B. m.means B ∙ ap₂ (λ v H. report s.number (view_is u) v (list_of (min s.ring.notices 64) (group_at B)) H) q e;
  short = m.short;
}

-- ---- what is asked

-- a test of x, which y is, that was answered by b
not-asked : {A : Type 0} (p : A → Bool) {x y : A} {b r : Bool} → b ≡ p x → x ≡ y → b ≡ r → not (p y) ≡ not r
not-asked p e q f = ap not (sym (ap p q) ∙ sym e ∙ f)

-- whether the record has what st means
pub holds_asked : {a : Stmt} {st : Statement} (X : List Stmt) (b : Bool) (B : List ℕ) {r : Bool} → Made a st → b ≡ any (same_stmt (stmt_of st B)) X → b ≡ r → not (any (same_stmt a) X) ≡ not r
holds_asked X b B m e = not-asked (λ x. any (same_stmt x) X) e (m.means B)

-- whether it has a statement of k, of this kind, at the view of a word
pub own-asked : (X : List Stmt) (b : Bool) (k kind u : ℕ) {v : View} {r : Bool} → view_of u ≡ v → b ≡ any (own_at k kind (view_of u)) X → b ≡ r → not (any (own_at k kind v) X) ≡ not r
own-asked X b k kind u q e = not-asked (λ x. any (own_at k kind x) X) e q

-- whether the view u, which v is, is the top
pub top-asked : (b : Bool) (t : View) {u v : View} {r : Bool} → v ≡ u → b ≡ same_view v t → b ≡ r → not (same_view u t) ≡ not r
top-asked b t q e = not-asked (λ x. same_view x t) e q

-- the same by the library's tests of both words

pub top-equal : (b : Bool) (t : View) {u v : View} {r : Bool} → v ≡ u → b ≡ (eqb v.joined t.joined && eqb v.left t.left) → b ≡ r → not (same_view u t) ≡ not r
unfolding same_view
top-equal b t q e = top-asked b t q e

pub top-differs : (b : Bool) (t : View) {u v : View} {r : Bool} → v ≡ u → b ≡ not (eqb v.joined t.joined && eqb v.left t.left) → b ≡ r → not (same_view u t) ≡ r
unfolding same_view
top-differs b t q e f = sym (ap (λ x. not (same_view x t)) q) ∙ sym e ∙ f

-- whether the view u, which v is, has members
pub members-asked : (b c : Bool) {u v : View} → v ≡ u → b ≡ has_members 16 v → b ≡ c → has_members 16 u ≡ c
members-asked b c q e f = ap (has_members 16) (sym q) ∙ sym e ∙ f

-- ---- the rules

-- what the answer of a rule has the controller d do
abbrev pub doing : Situation → Controller → List Stmt → List ℕ → code.Option Action → Option turn.Action
doing s d X B r = answer_is s (candidates d.ring X) B (merged_by d X) r

-- the rule has every controller whose situation s is, and of whom L is lent, do a, and no merged binding matters
abbrev pub IsAny : List Lent → Situation → Rule → code.Option Action → Type 0
IsAny L s rule a = (d : Controller) (X : List Stmt) (B : List ℕ) (b : ℕ → Binding) → SituationOf d X s → AllLent s d X L → rule d X ≡ answer_is s (candidates d.ring X) B b a

-- the same where it may matter
abbrev pub Is : List Lent → Situation → Rule → code.Option Action → Type 0
Is L s rule a = (d : Controller) (X : List Stmt) (B : List ℕ) → SituationOf d X s → ToldOf d X B → AllLent s d X L → rule d X ≡ doing s d X B a

pub does : {L : List Lent} {s : Situation} {rule : Rule} {a r : code.Option Action} → Is L s rule a → r ≡ a → Does L s rule r
does {s = s} f e = record { means = λ d X B k t h. ap (doing s d X B) e ∙ sym (f d X B k t h) }

pub does-any : {L : List Lent} {s : Situation} {rule : Rule} {a r : code.Option Action} → IsAny L s rule a → r ≡ a → Does L s rule r
does-any f e = does (λ d X B k t h. f d X B (merged_by d X) k h) e

-- where the record is lent, it is the one that is asked of
pub with-record : (L : List Lent) {s : Situation} (rule : Rule) (a : code.Option Action) (Z : List Stmt)
    → ((d : Controller) (B : List ℕ) → SituationOf d Z s → ToldOf d Z B → AllLent s d Z L → rule d Z ≡ doing s d Z B a) → Is (statements Z ∷ L) s rule a
with-record L {s} rule a Z f d X B k t h = subst (λ X. SituationOf d X s → ToldOf d X B → AllLent s d X L → rule d X ≡ doing s d X B a) h.0 (f d B) k t h.1

-- the block has the groups of a report
told-whole : (s : Situation) (d : Controller) (X : List Stmt) (B : List ℕ) → SituationOf d X s → ToldOf d X B → turn.told d X ≡ list_of (min s.ring.notices 64) (group_at B)
unfolding turn.told
told-whole s d X B k t = sym (list_of-cong _ _ _ t.at) ∙ ap (λ n. list_of n (group_at B)) k.notices

width_is : {d : Controller} {X : List Stmt} {s : Situation} → SituationOf d X s → d.ring.width ≡ 16
width_is k = ap (λ R. R.width) k.ring

module _ (Y : List Stmt) (s : Situation) where
  abbrev n : ℕ
  n = s.number

  abbrev t : View
  t = view_is s.top

  abbrev w : View
  w = view_in s.shown.wished

  due-cong : (d : Controller) (X : List Stmt) → SituationOf d X s → (u : View) → (below d.ring.width u (turn.T d X) && member u d.number && not (turn.own d X (reports_on u))) ≡ report_due X n t u
  unfolding turn.own reports_on report_due own_at
  due-cong d X k u = rw (k.top, width_is k, k.number)

  due-own : {X : List Stmt} → Owns X Y n → (u : View) → report_due X n t u ≡ report_due Y n t u
  unfolding report_due
  due-own y u = rw (owns-at y 5 u)

  module _ (G : List ℕ) where
    reporting : (o : Option View) → o ≡ find (report_due Y n t) (views_in G s.shown.length) → (d : Controller) (X : List Stmt) (B : List ℕ) → SituationOf d X s → ToldOf d X B
        → AllLent s d X (own_statements Y ∷ greatest_views G ∷ [])
        → turn.rule1 d X ≡ given o (λ u. some (turn.sign (report n u w (list_of (min s.ring.notices 64) (group_at B)) (candidates d.ring X))))
    unfolding turn.rule1
    reporting o e d X B k l h = rw (find-cong _ _ _ (λ u. due-cong d X k u ∙ due-own h.0 u), ← h.1.0, ← e, told-whole s d X B k l, k.wished, k.number)

    pub first-none : none ≡ find (report_due Y n t) (views_in G s.shown.length) → Is (own_statements Y ∷ greatest_views G ∷ []) s turn.rule1 None
    unfolding action_is
    first-none e d X B k l h = reporting none e d X B k l h

    pub first_on : (u : held.View) → some (view_is u) ≡ find (report_due Y n t) (views_in G s.shown.length) → Is (own_statements Y ∷ greatest_views G ∷ []) s turn.rule1 (Some (Report u))
    unfolding action_is statement_of
    first_on u e d X B k l h = reporting (some (view_is u)) e d X B k l h

  pub third : IsAny (own_statements Y ∷ []) s turn.rule3 (each (s.stands ∷ has_members 16 w ∷ not (same_view w t) ∷ not (any (same_stmt (agree_view n t w)) Y) ∷ []) AgreeView)
  unfolding turn.rule3 turn.has_signed action_is statement_of
  third d X B b k h = rw (owns-same h.0 (agree_view n t w) refl, k.stands, k.wished, k.top, ap (λ i. has_members i w) (width_is k), k.number) (all4 s (candidates d.ring X) B b AgreeView refl _ _ _ _)

  module _ (C : List ℕ) where
    newest : (u : View) → 0 < s.shown.count → view_in (get_or C (s.shown.count - 1) 0) ≡ last u (views_in C s.shown.count)
    unfolding views_in
    newest u h = last_some _ s.shown.count u (λ e. omega arith)

    agreeing : (d : Controller) (X : List Stmt) (B : List ℕ) (b : ℕ → Binding) → SituationOf d X s → Owns X Y n → (H : List View) → H ≡ candidates d.ring X → (v : View) → v ≡ last d.ring.init H
        → turn.rule4 d X ≡ answer_is s H B b (each (s.stands ∷ not (same_view v t) ∷ not (any (same_stmt (agree_history n t H)) Y) ∷ []) AgreeHistory)
    unfolding turn.rule4 turn.has_signed action_is statement_of
    agreeing d X B b k y H e v q = rw (owns-same y (agree_history n t H) refl, q, e, k.stands, k.top, k.number) (all3 s (candidates d.ring X) B b AgreeHistory refl _ _ _)

    pub fourth : {K : List View} → K ≡ views_in C s.shown.count → 0 < s.shown.count
        → IsAny (own_statements Y ∷ candidate_views C ∷ []) s turn.rule4 (each (s.stands ∷ not (same_view (view_in (get_or C (s.shown.count - 1) 0)) t) ∷ not (any (same_stmt (agree_history n t K)) Y) ∷ []) AgreeHistory)
    fourth {K} q l d X B b k h =
        agreeing d X B b k h.0 (candidates d.ring X) refl (view_in (get_or C (s.shown.count - 1) 0)) (newest d.ring.init l ∙ ap (last d.ring.init) h.1.0)
        ∙ ap (λ K. answer_is s (candidates d.ring X) B b (each (s.stands ∷ not (same_view (view_in (get_or C (s.shown.count - 1) 0)) t) ∷ not (any (same_stmt (agree_history n t K)) Y) ∷ []) AgreeHistory)) (sym (q ∙ h.1.0))

  pub eighth : IsAny (own_statements Y ∷ []) s turn.rule8 (each (s.joining ∷ not (any (same_stmt (join n)) Y) ∷ []) Join)
  unfolding turn.rule8 turn.has_signed action_is statement_of
  eighth d X B b k h = rw (owns-same h.0 (join n) refl, k.joining, k.number) (all2 s (candidates d.ring X) B b Join refl _ _)

-- ---- rule 2

module _ (X : List Stmt) (S : List ℕ) (s : Situation) where
  abbrev Is2 : code.Option Action → Type 0
  Is2 a = Is (statements X ∷ senders S ∷ []) s turn.rule2 a

  entering : (d : Controller) → SituationOf d X s → (reported : Bool) → turn.is_reported d X ≡ reported
      → turn.rule2 d X ≡ when (member (view_is s.top) s.number && not s.entered && reported) (turn.enter (view_is s.top) (merged_by d X))
  unfolding turn.rule2
  entering d k reported e = rw (e, k.top, k.entered, k.number)

  -- what the evidence says of the reports
  in-ring : (d : Controller) → SituationOf d X s → d.senders ≡ senders_of S s.ring.notices → (b : Bool) → b ≡ reported_all (ring_is s.ring) (senders_of S s.ring.notices) X → turn.is_reported d X ≡ b
  in-ring d k l b e = reported-turn d X ∙ ap₂ (λ x y. reported_all x y X) k.ring l ∙ sym e

  module _ (inside : Bool) (i : inside ≡ member (view_is s.top) s.number) where
    pub outside : inside ≡ false → Is2 None
    unfolding action_is
    outside f = with-record (senders S ∷ []) turn.rule2 None X (λ d B k t h. entering d k (turn.is_reported d X) refl ∙ rw (sym i ∙ f))

    module _ (f : inside ≡ true) where
      pub entered-already : s.entered ≡ true → Is2 None
      unfolding action_is
      entered-already g = with-record (senders S ∷ []) turn.rule2 None X (λ d B k t h. entering d k (turn.is_reported d X) refl ∙ rw (sym i ∙ f, g))

      module _ (g : s.entered ≡ false) (reported : Bool) (e : reported ≡ reported_all (ring_is s.ring) (senders_of S s.ring.notices) X) where
        pub not-reported : reported ≡ false → Is2 None
        unfolding action_is
        not-reported b = with-record (senders S ∷ []) turn.rule2 None X (λ d B k t h. entering d k reported (in-ring d k h.0 reported e) ∙ rw (sym i ∙ f, g, b))

        pub enters : reported ≡ true → Is2 (Some (Enter s.top))
        unfolding action_is
        enters b = with-record (senders S ∷ []) turn.rule2 (Some (Enter s.top)) X (λ d B k t h. entering d k reported (in-ring d k h.0 reported e) ∙ rw (sym i ∙ f, g, b))

-- ---- the parts of a rule

module _ (X : List Stmt) (k : ℕ) (t u : View) where
  pub due-above : (b : Bool) → b ≡ below 16 u t → b ≡ false → false ≡ report_due X k t u
  unfolding report_due
  due-above b e f = rw (sym e ∙ f)

  pub due-outside : (b c : Bool) → b ≡ below 16 u t → b ≡ true → c ≡ member u k → c ≡ false → false ≡ report_due X k t u
  unfolding report_due
  due-outside b c e f g h = rw (sym e ∙ f, sym g ∙ h)

  pub due-open : (b c r : Bool) (w : ℕ) → b ≡ below 16 u t → b ≡ true → c ≡ member u k → c ≡ true → view_of w ≡ u → r ≡ any (own_at k 5 (view_of w)) X → not r ≡ report_due X k t u
  unfolding report_due
  due-open b c r w e f g h q p = rw (sym e ∙ f, sym g ∙ h, p ∙ ap (λ v. any (own_at k 5 v) X) q)
