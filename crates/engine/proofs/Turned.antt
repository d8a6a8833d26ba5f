-- What a turn comes to, from the evidence of the record.
-- Assumes nothing.
use Rattle.std.specs.Prelude.{Ok, Err}
use mathlib.Core.Path.{◌≡◌, refl, sym, ap, subst, ◌∙◌}
use mathlib.Core.Bool.{Bool, true, false, not}
use mathlib.Core.List.{List, [], ◌∷◌}
use Rattle.std.specs.Prelude as code
use Rattle.std.specs.Prelude.{Some, None}
use mathlib.Core.Option.{some}
use Prim.Native.Nat.{ℕ, ◌≤◌, ◌<◌, min}
use native.Mathlib.Omega.{arith}
use lib.Dec.{T, ltb}
use lib.ListN.{length, get_or}
use borrow.Author.Tests.{le-ltb}
use Rattle.protocol.specs.Sets.{bit}
use Rattle.protocol.specs.Lists.{when}
use Rattle.protocol.specs.View.{View}
use Rattle.protocol.specs.Statement.{Stmt, Binding, tells, ack}
use Rattle.protocol.specs.Evidence.{candidates, is_conflict}
use Rattle.protocol.specs.Controller as controller
use Rattle.protocol.specs.Call as call
use Rattle.protocol.specs.Pool.{has_room}
use Rattle.protocol.specs.Turn as turn
use Rattle.protocol.proofs.Additions as checks
use Rattle.protocol.proofs.Rules.{Signs, reports, agrees_view, agrees_history, acks, stores, joins, leaves, sends, Acts, acting}
use Rattle.views.specs.View.{view_of, views_in}
use Rattle.views.specs.Held.{view_is}
use Rattle.pool.specs.Pool.{record_in, pool_of}
use Rattle.evidence.specs.declared.Evidence.{Evidence}
use Rattle.evidence.specs.declared.Ring.{Ring}
use Rattle.evidence.specs.Shown.{BackedIn}
use Rattle.evidence.specs.Evidence.{ring_is, EvidenceOf, Settled, Narrow}
use Rattle.evidence.specs.Notices.{senders_of, binding_held}
use Rattle.evidence.proofs.Reporting.{count_most}
use Rattle.evidence.proofs.Fitting.{some-view, length_most, wished-narrow, candidates-narrow, greatest-narrow}
use Rattle.rules.specs.declared.Action.{Action}
use Rattle.rules.specs.declared.Action.TheVariants.{Report, Enter, AgreeView, AgreeHistory, Ack, Store, Deliver, Join, Leave, Prepare}
use Rattle.rules.specs.declared.Situation.{Situation}
use Rattle.rules.specs.Actions.{statement_of, action_is, answer_is}
use Rattle.rules.specs.Rules.{SituationOf, ToldOf, SendsOf, statements, candidate_views, greatest_views, merged_by, first_rule_at, Does}
use Rattle.rules.specs.Rules as lent
use Rattle.engine.specs.declared.Controller.{Controller}
use Rattle.engine.specs.declared.Refusal.{Refusal}
use Rattle.engine.specs.declared.Refusal.TheVariants.{ManyCandidates, Conflict}
use Rattle.engine.specs.Meaning.{controller_is, Came, refusal_is}
use Rattle.engine.specs.Promise.{Turns}
use Rattle.engine.specs.Situation.{RingOf, Situated, ToldTo, Doing, Known, done_by}
use Rattle.engine.specs.Steps.{rest_is}
use Rattle.engine.proofs.Requests.{refused-so}
use Rattle.engine.proofs.Numbers.{senders-count}
use Rattle.engine.proofs.Performs.{rest-is}
use Rattle.engine.proofs.Situations.{senders-of, of-controller, init-fits, read_whole, the-certificate, situation}

module _ (c : Controller) (X : List Stmt) (room : Stmt → Bool) (minute : ℕ) where
  pub turn-unready : c.ready ≡ false → turn.turn (controller_is c) X room minute ≡ call.refuse (controller_is c) X controller.out_of_place
  unfolding controller_is
  turn-unready e = checks.turn-unready (controller_is c) X room minute e

  pub turn-late : c.ready ≡ true → 10079 < minute → turn.turn (controller_is c) X room minute ≡ call.refuse (controller_is c) X controller.bad_minute
  unfolding controller_is
  turn-late e h = checks.turn-late (controller_is c) X room minute e h

  -- it is set up, and the minute is one of a week
  abbrev pub InTime : Type 0
  InTime = (c.ready ≡ true) × (minute ≤ 10079)

  turn-conflict : InTime → is_conflict (controller_is c).ring (controller_is c).senders X ≡ true → turn.turn (controller_is c) X room minute ≡ call.refuse (controller_is c) X controller.conflict
  unfolding turn.turn controller_is
  turn-conflict (e, h) f = rw (e, le-ltb 10079 minute h, f)

  turn_many : InTime → is_conflict (controller_is c).ring (controller_is c).senders X ≡ false → ltb 16 (length (candidates (controller_is c).ring X)) ≡ true
      → turn.turn (controller_is c) X room minute ≡ call.refuse (controller_is c) X controller.many_candidates
  unfolding turn.turn controller_is
  turn_many (e, h) f g = rw (e, le-ltb 10079 minute h, f, g)

  turn-goes : InTime → is_conflict (controller_is c).ring (controller_is c).senders X ≡ false → ltb 16 (length (candidates (controller_is c).ring X)) ≡ false
      → turn.turn (controller_is c) X room minute ≡ turn.perform (controller_is c) X room (turn.first_rule (controller_is c) X minute)
  unfolding turn.turn controller_is
  turn-goes (e, h) f g = rw (e, le-ltb 10079 minute h, f, g)

-- the ring that a turn makes
pub ring-is : (c : Controller) (w : ℕ) → view_of w ≡ view_is c.init → RingOf c (record { init = w; notices = c.notices })
unfolding controller_is
ring-is c w e = record { is = ap (λ v. record { width = 16; init = v }) e; notices = refl }

-- a turn that is refused for q
pub turn-refused : (W R : List ℕ) (c : Controller) (minute : ℕ) (r : Came) (q : Refusal) → turn.turn (controller_is c) (record_in W R) (has_room (pool_of W)) minute ≡ call.refuse (controller_is c) (record_in W R) (refusal_is q)
    → r.answer ≡ Err q → r.controller ≡ c → Turns W R c (turn.turn (controller_is c) (record_in W R) (has_room (pool_of W)) minute) r W R
turn-refused W R c minute r q e a h = subst (λ o. Turns W R c o r W R) (sym e) (refused-so W R c r q a h)

-- ---- from the evidence of the record

module _ (W R : List ℕ) (c : Controller) (r : Ring) (q : RingOf c r) (C G P : List ℕ) (e : Evidence) (o : EvidenceOf (ring_is r) (senders_of c.senders r.notices) (record_in W R) C G P e) (minute : ℕ) (y : InTime c (record_in W R) (has_room (pool_of W)) minute) where
  abbrev d : controller.Controller
  d = controller_is c

  abbrev X : List Stmt
  X = record_in W R

  conflict-is : (b : Bool) → e.conflict ≡ b → is_conflict d.ring d.senders X ≡ b
  conflict-is b h = sym (of-controller q o).conflict ∙ h

  many_is : (b : Bool) → e.conflict ≡ false → e.many ≡ b → ltb 16 (length (candidates d.ring X)) ≡ b
  many_is b h k = sym ((of-controller q o).many h) ∙ k

  module _ (x : Came) where
    pub turn-split : e.conflict ≡ true → x.answer ≡ Err Conflict → x.controller ≡ c → Turns W R c (turn.turn d X (has_room (pool_of W)) minute) x W R
    turn-split h a b = turn-refused W R c minute x Conflict (turn-conflict c X (has_room (pool_of W)) minute y (conflict-is true h)) a b

    pub turn-crowded : e.conflict ≡ false → e.many ≡ true → x.answer ≡ Err ManyCandidates → x.controller ≡ c → Turns W R c (turn.turn d X (has_room (pool_of W)) minute) x W R
    turn-crowded h k a b = turn-refused W R c minute x ManyCandidates (turn_many c X (has_room (pool_of W)) minute y (conflict-is false h) (many_is true h k)) a b

  module _ (h : e.conflict ≡ false) (k : e.many ≡ false) where
    -- what acting asks
    pub acts-on : RingOf c r × Settled (ring_is r) (senders_of c.senders r.notices) X C G P e
    acts-on = (q, record { of = o; agree = h; few = k })

    pub turn-acts : (W' R' : List ℕ) (x : Came) → Turns W R c (turn.perform d X (has_room (pool_of W)) (turn.first_rule d X minute)) x W' R' → Turns W R c (turn.turn d X (has_room (pool_of W)) minute) x W' R'
    turn-acts W' R' x t = subst (λ o. Turns W R c o x W' R') (sym (turn-goes c X (has_room (pool_of W)) minute y (conflict-is false h) (many_is false h k))) t

-- ---- the first rule that applies

-- who acks a notice has it in the setup
ack-known : (d : controller.Controller) (X : List Stmt) (k : ℕ) (t : View) (j m : ℕ) {b : ℕ → Binding} → Signs d X (ack k t j m) b → j < length d.senders
ack-known d X k t j m (reports u e f i g n) = absurd (let z : ◌≡◌ {A = ℕ} 7 5 = ap (λ s. s.kind) e in omega arith)
ack-known d X k t j m (agrees_view u e f g n) = absurd (let z : ◌≡◌ {A = ℕ} 7 3 = ap (λ s. s.kind) e in omega arith)
ack-known d X k t j m (agrees_history u e f g) = absurd (let z : ◌≡◌ {A = ℕ} 7 4 = ap (λ s. s.kind) e in omega arith)
ack-known d X k t j m (acks u i n l e f g o w) = let z : j ≡ i = ap (λ s. s.notice) e in omega arith
ack-known d X k t j m (stores u i n l e f g w) = absurd (let z : ◌≡◌ {A = ℕ} 7 8 = ap (λ s. s.kind) e in omega arith)
ack-known d X k t j m (joins e f) = absurd (let z : ◌≡◌ {A = ℕ} 7 1 = ap (λ s. s.kind) e in omega arith)
ack-known d X k t j m (leaves e f) = absurd (let z : ◌≡◌ {A = ℕ} 7 2 = ap (λ s. s.kind) e in omega arith)
ack-known d X k t j m (sends i n l e f g) = absurd (let z : ◌≡◌ {A = ℕ} 7 6 = ap (λ s. s.kind) e in omega arith)

module _ (W R : List ℕ) (c : Controller) (r : Ring) (q : RingOf c r) (C G P : List ℕ) (e : Evidence) (k : Settled (ring_is r) (senders_of c.senders r.notices) (record_in W R) C G P e) where
  -- what `of_controller` asks
  pub looking : (0 < e.length) × (e.length ≤ 16)
  looking = (some-view _ _ _ _ _ _ e k.of k.agree, length_most _ _ _ _ _ _ e k.of k.agree)

  narrow-greatest : Narrow G e.length
  narrow-greatest = greatest-narrow r.init (senders_of c.senders r.notices) W R C G P e (init-fits q) k.of k.agree

  module _ (minute : ℕ) (s : Situation) (l : Situated c r G e minute s) where
    situated : SituationOf (controller_is c) (record_in W R) s
    situated = situation (record_in W R) C G P c r q e k.of k.agree narrow-greatest (wished-narrow r.init (senders_of c.senders r.notices) W R C G P e k.of) minute s l

    -- what the first rule asks
    pub choosing : Settled (ring_is s.ring) (senders_of c.senders s.ring.notices) (record_in W R) C G P s.shown
    choosing =
        subst (λ r. Settled (ring_is r) (senders_of c.senders r.notices) (record_in W R) C G P s.shown) (sym l.ring)
        (subst (Settled (ring_is r) (senders_of c.senders r.notices) (record_in W R) C G P) (sym l.shown) k)

    ring_of : RingOf c s.ring
    ring_of = subst (RingOf c) (sym l.ring) q

    -- what doing it asks
    doing : Doing c (record_in W R) C G P s
    doing = record { few = omega (arith, ap (λ e. e.count) l.shown, count_most _ _ _ _ _ _ e k); ring = ring_of; situation = situated; settled = choosing }

    of-situation : EvidenceOf (controller_is c).ring (controller_is c).senders (record_in W R) C G P s.shown
    of-situation = of-controller ring_of choosing.of

    listed : views_in C s.shown.count ≡ candidates (controller_is c).ring (record_in W R)
    listed =
        read_whole (subst (λ e. Narrow C e.count) (sym l.shown) (candidates-narrow r.init (senders_of c.senders r.notices) W R C G P e (init-fits q) k))
        ∙ of-situation.candidates choosing.agree choosing.few

    tops : views_in G s.shown.length ≡ turn.G (controller_is c) (record_in W R)
    unfolding turn.G
    tops = read_whole (subst (λ e. Narrow G e.length) (sym l.shown) narrow-greatest) ∙ of-situation.greatest choosing.agree

    module _ (B : List ℕ) (n : ℕ) (n-is : n ≡ min c.notices 64) (t : ToldTo c.held e P n B) where
      told_of : ToldOf (controller_is c) (record_in W R) B
      unfolding controller_is
      told_of = record { at = λ i h. t.at i (omega (arith, senders-count c.senders c.notices)) ∙ ap (tells (binding_held c.held i)) (sym (the-certificate (record_in W R) C G P c r q e k.of k.agree i h)) }

      sends-of : SendsOf (controller_is c) s.requested c.sends
      unfolding controller_is
      sends-of = record { at = λ i h. ap (λ q. when (bit q i) (get_or c.sends i 0)) (sym l.requested) }

      module _ (a : code.Option Action) (m : Does (statements (record_in W R) ∷ candidate_views C ∷ greatest_views G ∷ lent.senders c.senders ∷ lent.told B ∷ lent.sends c.sends ∷ []) s (first_rule_at s.minute) a) where
        -- what the first rule promises, of this controller
        chosen : answer_is s (views_in C s.shown.count) B (merged_by (controller_is c) (record_in W R)) a ≡ turn.first_rule (controller_is c) (record_in W R) minute
        chosen =
            ap (λ H. answer_is s H B (merged_by (controller_is c) (record_in W R)) a) listed
            ∙ m.means (controller_is c) (record_in W R) B situated told_of (refl, (listed, (tops, (sym (senders-of ring_of), (told_of, (sends-of, tt))))))
            ∙ ap (turn.first_rule (controller_is c) (record_in W R)) l.minute

        acted : {b : turn.Action} → turn.first_rule (controller_is c) (record_in W R) minute ≡ some b → Acts (controller_is c) (record_in W R) b
        acted = acting (controller_is c) (record_in W R) (subst (λ b. T (not b)) (sym k.agree ∙ (of-controller q k.of).conflict) tt) minute

        at_most : length (controller_is c).senders ≤ 64
        unfolding controller_is
        at_most = omega (arith, senders-count c.senders c.notices)

        known : (b : Action) → some (done_by c (record_in W R) C B s b) ≡ turn.first_rule (controller_is c) (record_in W R) minute → Known b
        unfolding action_is statement_of
        known (Report u) f = tt
        known (Enter v) f = tt
        known AgreeView f = tt
        known AgreeHistory f = tt
        known (Ack j i) f = omega (arith, ack-known _ _ _ _ j i (acted (sym f)).0, at_most)
        known (Store j i) f = tt
        known (Deliver j i) f = omega (arith, (acted (sym f)).0, at_most)
        known Join f = tt
        known Leave f = tt
        known (Prepare j i) f = tt

        -- what doing it asks, and what that comes to

        pub performing : (b : Action) → a ≡ Some b → {groups : List ℕ} → BackedIn W R r.init groups e.backed
            → Doing c (record_in W R) C G P s × Known b × BackedIn W R s.ring.init groups s.shown.backed
        performing b f {groups} h = (
          doing,
          known b (ap (answer_is s (views_in C s.shown.count) B (merged_by (controller_is c) (record_in W R))) (sym f) ∙ chosen),
          subst (λ r. BackedIn W R r.init groups s.shown.backed) (sym l.ring) (subst (λ e. BackedIn W R r.init groups e.backed) (sym l.shown) h),
        )

        pub performed : (b : Action) → a ≡ Some b → (W' R' : List ℕ) (x : Came) → Turns W R c (turn.perform (controller_is c) (record_in W R) (has_room (pool_of W)) (some (done_by c (record_in W R) C B s b))) x W' R'
            → Turns W R c (turn.perform (controller_is c) (record_in W R) (has_room (pool_of W)) (turn.first_rule (controller_is c) (record_in W R) minute)) x W' R'
        performed b f W' R' x = subst (λ z. Turns W R c (turn.perform (controller_is c) (record_in W R) (has_room (pool_of W)) z) x W' R') (ap (answer_is s (views_in C s.shown.count) B (merged_by (controller_is c) (record_in W R))) (sym f) ∙ chosen)

        pub rested : (x : Came) → a ≡ None → x.answer ≡ Ok (rest_is s.left) → x.controller ≡ c
            → Turns W R c (turn.perform (controller_is c) (record_in W R) (has_room (pool_of W)) (turn.first_rule (controller_is c) (record_in W R) minute)) x W R
        rested x f g h = subst (λ z. Turns W R c (turn.perform (controller_is c) (record_in W R) (has_room (pool_of W)) z) x W R) (ap (answer_is s (views_in C s.shown.count) B (merged_by (controller_is c) (record_in W R))) (sym f) ∙ chosen) (rest-is W R c s x situated g h)
