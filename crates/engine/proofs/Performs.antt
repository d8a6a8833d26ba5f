-- What the ways in which a turn or an addition ends come to.
-- Assumes nothing.
use Rattle.std.specs.Prelude.{if◌then◌else◌, Result, Ok, Err}
use mathlib.Core.Path.{◌≡◌, refl, sym, ap, ap₂, subst, fun_ext, ◌∙◌}
use mathlib.Core.Bool.{Bool, true, false}
use mathlib.Core.List.{List, [], ◌∷◌, ◌++◌}
use mathlib.Core.Option.{some, none}
use Prim.Native.Nat.{ℕ, ◌≤◌, ◌<◌, min}
use native.Mathlib.Omega.{arith}
use lib.Dec.{T, ltb}
use lib.ListN.{length, set}
use Rattle.protocol.specs.Lists.{any, put}
use Rattle.protocol.specs.View.{View}
use Rattle.protocol.specs.Statement.{Stmt, Binding, bound, same_stmt, field_rules}
use Rattle.protocol.specs.Signers.{store_set}
use Rattle.protocol.specs.Controller as controller
use Rattle.protocol.specs.Call as call
use Rattle.protocol.specs.Pool.{number_of, has_room}
use Rattle.protocol.specs.Turn as turn
use Rattle.protocol.proofs.Additions.{keeps_fields, is_notice, add-unready, add-bad, add-unknown, add-repeated, add-full, add-taken}
use Rattle.views.specs.Held.{view_is, views_is}
use Rattle.views.specs.declared.View as held
use Rattle.views.specs.declared.History.{History}
use Rattle.statements.specs.declared.Binding.TheVariants.{Bound}
use Rattle.statements.specs.declared.Statement.{Statement}
use Rattle.statements.specs.Meaning.{stmt_of}
use Rattle.statements.specs.Promise.{keeps_rules}
use Rattle.statements.specs.Sets.{PutBit}
use Rattle.statements.proofs.FieldLaws.{views-length}
use Rattle.statements.proofs.Fits.{keeps-fits}
use Rattle.pool.specs.declared.Full.{Full}
use Rattle.pool.specs.Pool.{record_in, pool_of}
use Rattle.pool.specs.Changes.{PushedTo, no_room}
use Rattle.evidence.specs.declared.Notice.{Notice}
use Rattle.evidence.specs.Evidence.{ring_is, reports_there, MergedAll}
use Rattle.evidence.specs.Notices.{senders_of, binding_held}
use Rattle.evidence.proofs.Turns.{counted-turn}
use Rattle.engine.specs.declared.Controller.{Controller}
use Rattle.rules.specs.declared.Situation.{Situation}
use Rattle.rules.specs.declared.Action.{Action}
use Rattle.rules.specs.declared.Action.TheVariants.{Report, Enter, AgreeView, AgreeHistory, Ack, Store, Deliver, Join, Leave, Prepare}
use Rattle.engine.specs.declared.Answer.{Answer}
use Rattle.engine.specs.declared.Answer.TheVariants.{Taken, Signed, Entered, Delivered}
use Rattle.engine.specs.declared.Outcome.{Outcome}
use Rattle.engine.specs.declared.Refusal.{Refusal}
use Rattle.engine.specs.declared.Refusal.TheVariants as refused
use Rattle.engine.specs.Meaning.{controller_is, Came, came_to, answer_is, refusal_is}
use Rattle.rules.specs.Actions.{statement_of, action_is, Makes}
use Rattle.rules.specs.Rules.{SituationOf}
use Rattle.engine.specs.Steps.{PlacedAs, KeptFor, rest_is}
use Rattle.engine.specs.Situation.{RingOf, Doing, EntersMerged}
use Rattle.engine.specs.Promise.{unchanged, grown, Meets, Turns, Adds, AddsFor}
use Rattle.engine.proofs.Requests.{settled, refused-so}
use Rattle.engine.proofs.Keeps.{not_full, all_in, record-more}
use Rattle.engine.proofs.Numbers.{senders-count, is-notice, put-bits, bound-put}

-- ---- a statement is signed

-- the record or the pool is full
pub sign-full : (W R W' R' : List ℕ) (c : Controller) (s : Stmt) (x : Result ℕ Full) → KeptFor W R s x W' R' → x ≡ Err no_room → (after : controller.Controller) (r : Result Outcome Refusal) → r ≡ Err refused.Full
    → Turns W R c (turn.signing (controller_is c) (record_in W R) (has_room (pool_of W)) after s) (came_to c r) W' R'
unfolding turn.signing
sign-full W R W' R' c s x p e after r a =
    let (f, w, v) = p.full e in
    rw f (subst (λ (Q : List ℕ). Meets W R c (call.refuse (controller_is c) (record_in W R) controller.full) unchanged (came_to c r) W' Q) (sym v)
    (subst (λ (U : List ℕ). Meets W R c (call.refuse (controller_is c) (record_in W R) controller.full) unchanged (came_to c r) U R) (sym w) (refused-so W R c (came_to c r) refused.Full (ap (λ x. (came_to c x).answer) a) (ap (λ x. (came_to c x).controller) a))))

module _ (W R W' R' : List ℕ) (s : Stmt) (x : Result ℕ Full) (n : ℕ) (p : KeptFor W R s x W' R') (e : x ≡ Ok n) where
  numbered : PlacedAs W R s n W'
  numbered = (p.at n e).0

  pushed : PushedTo R n R'
  pushed = (p.at n e).1

  pub room-is : call.is_full (has_room (pool_of W)) (record_in W R) s ≡ false
  room-is = not_full W R s numbered.short numbered.room

  -- the controller is d then
  pub sign_kept : (c d : Controller) (after : controller.Controller) → controller_is d ≡ after
      → Turns W R c (turn.signing (controller_is c) (record_in W R) (has_room (pool_of W)) after s) (record { answer = Ok (Signed n); controller = d }) W' R'
  unfolding turn.signing answer_is
  sign_kept c d after f = rw room-is (record {
    answer = ap controller.signed numbered.is;
    number = λ z h. let y : s ≡ z = cc in ap (λ i. Ok (Signed i)) (numbered.number ∙ ap (λ t. number_of t (pool_of W)) y);
    controller = f;
    numbers = subst (λ i. PushedTo R i R') numbered.number pushed;
    statements = λ w. (record-more numbered pushed w, all_in numbered pushed w);
    pool = numbered.pool;
    refused = λ t. absurd t;
  })

-- ---- the controller after it

-- the controller with other views entered, other bindings and another set of those delivered
abbrev pub changed : Controller → History → List Notice → ℕ → Controller
changed c h H d = record {
  ready = c.ready;
  number = c.number;
  init = c.init;
  notices = c.notices;
  senders = c.senders;
  entered = h;
  held = H;
  sends = c.sends;
  delivered = d;
  requested = c.requested;
  joining = c.joining;
  leaving = c.leaving;
  times = c.times;
  windows = c.windows;
}

-- notice j is bound to m
pub binding-is : (c : Controller) (j m : ℕ) → j < length c.held
    → controller_is (changed c c.entered (set c.held j (record { binding = Bound m })) c.delivered) ≡ controller.with_binding (put j (bound m) (controller_is c).binding) (controller_is c)
unfolding controller_is
binding-is c j m l = ap (λ b. controller.with_binding b (controller_is c)) (bound-put c.held j m l)

-- notice j is delivered
pub delivering : (c : Controller) (j q : ℕ) → PutBit c.delivered j true q → c.delivered < 18446744073709551616 → q < 18446744073709551616 → j < 64
    → controller_is (changed c c.entered c.held q) ≡ controller.with_delivered (put j true (controller_is c).delivered) (controller_is c)
unfolding controller_is
delivering c j q p l k h = ap (λ d. controller.with_delivered d (controller_is c)) (put-bits c.delivered q j p l k h)

-- a view is entered, with what the reports tell merged
module _ (c : Controller) (X : List Stmt) (C G P : List ℕ) (s : Situation) (k : Doing c X C G P s) where
  pub entering : (v : held.View) (h : History) (H : List Notice) → views_is h ≡ turn.entered_after (view_is v) (views_is c.entered)
      → MergedAll c.held (reports_there (ring_is s.ring) (senders_of c.senders s.ring.notices) X) H → EntersMerged c X v (changed c h H c.delivered)
  unfolding controller_is
  entering v h H e m =
      ap₂ (λ views b. controller.with_entered views (controller.with_binding b (controller_is c))) e
      (fun_ext (λ i. m.at i ∙ ap (turn.merge_all i (binding_held c.held i)) reports))
    where
      senders : senders_of c.senders s.ring.notices ≡ senders_of c.senders c.notices
      senders = ap (senders_of c.senders) k.ring.notices

      reports : reports_there (ring_is s.ring) (senders_of c.senders s.ring.notices) X ≡ turn.counted_reports (controller_is c) X
      reports = ap₂ (λ r l. reports_there r l X) k.ring.is senders ∙ sym (counted-turn (controller_is c) X)

-- ---- each action

-- nothing is done
module _ (W R : List ℕ) (c : Controller) (s : Situation) (r : Came) where
  pub rest-is : SituationOf (controller_is c) (record_in W R) s → r.answer ≡ Ok (rest_is s.left) → r.controller ≡ c → Turns W R c (turn.perform (controller_is c) (record_in W R) (has_room (pool_of W)) none) r W R
  unfolding turn.perform answer_is
  rest-is k e h = rw k.left (go s.left e)
    where
      go : (b : Bool) → r.answer ≡ Ok (rest_is b) → Turns W R c (record { answer = if b then controller.left else controller.quiet; controller = controller_is c; statements = record_in W R }) r W R
      go true e = settled W R c r (controller_is c) controller.left (ap (answer_is W) e) (ap controller_is h) (λ s p. let z : ◌≡◌ {A = ℕ} 0 1 = cc in omega arith) (λ t. absurd t)
      go false e = settled W R c r (controller_is c) controller.quiet (ap (answer_is W) e) (ap controller_is h) (λ s p. let z : ◌≡◌ {A = ℕ} 0 1 = cc in omega arith) (λ t. absurd t)

module _ (W R : List ℕ) (c : Controller) (s : Situation) (H : List View) (B : List ℕ) (b : ℕ → Binding) (a : Action) (r : Came) where
  abbrev Performed : List ℕ → List ℕ → Type 0
  Performed W' R' = Turns W R c (turn.perform (controller_is c) (record_in W R) (has_room (pool_of W)) (some (action_is s H B b a))) r W' R'

  pub enter-is : (v : held.View) → a ≡ Enter v → r.answer ≡ Ok (Entered v)
      → controller_is r.controller ≡ controller.with_entered (turn.entered_after (view_is v) (views_is c.entered)) (controller.with_binding b (controller_is c)) → Performed W R
  unfolding turn.perform action_is answer_is controller_is
  enter-is v d e f = rw d (settled W R c r _ (controller.entered (view_is v)) (ap (answer_is W) e) f (λ s p. let z : ◌≡◌ {A = ℕ} 0 1 = cc in omega arith) (λ t. absurd t))

  pub deliver-is : (j m set : ℕ) → a ≡ Deliver j m → r.answer ≡ Ok (Delivered j m set) → controller_is r.controller ≡ controller.with_delivered (put j true (controller_is c).delivered) (controller_is c)
      → RingOf c s.ring → set ≡ store_set (ring_is s.ring) (record_in W R) j m → Performed W R
  unfolding turn.perform action_is answer_is
  deliver-is j m set d e f k q =
      rw d (settled W R c r _ (controller.delivered j m (store_set (controller_is c).ring (record_in W R) j m))
      (ap (answer_is W) e ∙ ap (controller.delivered j m) (q ∙ ap (λ R'. store_set R' (record_in W R) j m) k.is)) f (λ s p. let z : ◌≡◌ {A = ℕ} 0 1 = cc in omega arith) (λ t. absurd t))

  ack-signs : (j m : ℕ) → a ≡ Ack j m → action_is s H B b a ≡ turn.bind_and_sign j m (statement_of s H B a)
  unfolding action_is
  ack-signs j m d = rw d

  -- the statement that is signed is the action's
  module _ (W' R' : List ℕ) (st : Statement) (made : Makes s H a st) where
    signing-is : (after : controller.Controller) → Turns W R c (turn.signing (controller_is c) (record_in W R) (has_room (pool_of W)) after (stmt_of st B)) r W' R'
        → Turns W R c (turn.signing (controller_is c) (record_in W R) (has_room (pool_of W)) after (statement_of s H B a)) r W' R'
    signing-is after t = subst (λ x. Turns W R c (turn.signing (controller_is c) (record_in W R) (has_room (pool_of W)) after x) r W' R') (made.means B) t

    pub sign-is : action_is s H B b a ≡ turn.sign (statement_of s H B a) → Turns W R c (turn.signing (controller_is c) (record_in W R) (has_room (pool_of W)) (controller_is c) (stmt_of st B)) r W' R' → Performed W' R'
    unfolding turn.perform
    sign-is d t = rw d (signing-is (controller_is c) t)

  -- an ack is made where its notice and its payload are known
  pub ack-is : (W' R' : List ℕ) (st : Statement) (j m : ℕ) → a ≡ Ack j m → Makes s H (Ack j m) st
      → Turns W R c (turn.signing (controller_is c) (record_in W R) (has_room (pool_of W)) (controller.with_binding (put j (bound m) (controller_is c).binding) (controller_is c)) (stmt_of st B)) r W' R' → Performed W' R'
  unfolding turn.perform
  ack-is W' R' st j m d made t =
      rw (ack-signs j m d)
      (signing-is W' R' st (subst (λ x. Makes s H x st) (sym d) made) (controller.with_binding (put j (bound m) (controller_is c).binding) (controller_is c)) t)

-- all but three sign, and do nothing else
pub signs-else : (s : Situation) (H : List View) (B : List ℕ) (b : ℕ → Binding) (a : Action) → ((v : held.View) → a ≡ Enter v → ⊥) → ((j m : ℕ) → a ≡ Ack j m → ⊥)
    → ((j m : ℕ) → a ≡ Deliver j m → ⊥) → action_is s H B b a ≡ turn.sign (statement_of s H B a)
unfolding action_is
signs-else s H B b (Report u) e k d = refl
signs-else s H B b (Enter v) e k d = absurd (e v refl)
signs-else s H B b AgreeView e k d = refl
signs-else s H B b AgreeHistory e k d = refl
signs-else s H B b (Ack j m) e k d = absurd (k j m refl)
signs-else s H B b (Store j m) e k d = refl
signs-else s H B b (Deliver j m) e k d = absurd (d j m refl)
signs-else s H B b Join e k d = refl
signs-else s H B b Leave e k d = refl
signs-else s H B b (Prepare j m) e k d = refl

-- ---- additions

-- an addition to the record R of a controller that is set up or not, in a ring of so many notices
module _ (ready : Bool) (notices : ℕ) (W R : List ℕ) (s : Stmt) where
  abbrev Refuses : Refusal → Type 0
  Refuses q = (c : Controller) → c.ready ≡ ready → c.notices ≡ notices → call.add (controller_is c) (record_in W R) (has_room (pool_of W)) s ≡ call.refuse (controller_is c) (record_in W R) (refusal_is q)

  -- it is refused for q
  adds-refused : (q : Refusal) (W' R' : List ℕ) → W' ≡ W → R' ≡ R → Refuses q → AddsFor ready notices W R s (Err q) W' R'
  adds-refused q W' R' w v f = record {
    each = λ c e n.
        subst (λ o. Adds W R c s o (record { answer = Err q; controller = c }) W' R') (sym (f c e n))
        (subst (λ (Q : List ℕ). Meets W R c (call.refuse (controller_is c) (record_in W R) (refusal_is q)) unchanged (record { answer = Err q; controller = c }) W' Q) (sym v)
        (subst (λ (U : List ℕ). Meets W R c (call.refuse (controller_is c) (record_in W R) (refusal_is q)) unchanged (record { answer = Err q; controller = c }) U R) (sym w)
        (refused-so W R c (record { answer = Err q; controller = c }) q refl refl)));
  }

  pub adds-unready : ready ≡ false → AddsFor ready notices W R s (Err refused.OutOfPlace) W R
  unfolding controller_is
  adds-unready h = adds-refused refused.OutOfPlace W R refl refl (λ c e n. add-unready (controller_is c) (record_in W R) (has_room (pool_of W)) s (e ∙ h))

  module _ (h : ready ≡ true) where
    -- the field rules of a ring of as many notices as the controller has
    rules-of : (b : Bool) → keeps_rules notices s ≡ b → (c : Controller) → c.notices ≡ notices → keeps_fields (controller_is c) (record_in W R) s ≡ b
    unfolding controller_is
    rules-of b k c n = ap (λ m. field_rules 16 m s) (senders-count c.senders c.notices ∙ ap (λ m. min m 64) n) ∙ k

    notice-of : (b : Bool) → ltb s.notice (min notices 64) ≡ b → (c : Controller) → c.notices ≡ notices → is_notice (controller_is c) (record_in W R) s.notice ≡ b
    unfolding controller_is
    notice-of b k c n = is-notice c.senders c.notices s.notice ∙ ap (λ m. ltb s.notice (min m 64)) n ∙ k

    pub adds-bad : keeps_rules notices s ≡ false → AddsFor ready notices W R s (Err refused.BadStatement) W R
    unfolding controller_is
    adds-bad k = adds-refused refused.BadStatement W R refl refl (λ c e n. add-bad (controller_is c) (record_in W R) (has_room (pool_of W)) s (e ∙ h) (rules-of false k c n))

    module _ (k : keeps_rules notices s ≡ true) where
      pub adds-unknown : ltb s.notice (min notices 64) ≡ false → AddsFor ready notices W R s (Err refused.UnknownNotice) W R
      unfolding controller_is
      adds-unknown i = adds-refused refused.UnknownNotice W R refl refl (λ c e n. add-unknown (controller_is c) (record_in W R) (has_room (pool_of W)) s (e ∙ h) (rules-of true k c n) (notice-of false i c n))

      module _ (i : ltb s.notice (min notices 64) ≡ true) where
        pub adds_again : any (same_stmt s) (record_in W R) ≡ true → AddsFor ready notices W R s (Err refused.Repeated) W R
        unfolding controller_is
        adds_again x =
            adds-refused refused.Repeated W R refl refl
            (λ c e n. add-repeated (controller_is c) (record_in W R) (has_room (pool_of W)) s (e ∙ h) (rules-of true k c n) (notice-of true i c n) x)

        module _ (x : any (same_stmt s) (record_in W R) ≡ false) (W' R' : List ℕ) (y : Result ℕ Full) (p : KeptFor W R s y W' R') where
          pub adds-full : y ≡ Err no_room → (r : Result Answer Refusal) → r ≡ Err refused.Full → AddsFor ready notices W R s r W' R'
          unfolding controller_is
          adds-full z r g =
              let (f, w, v) = p.full z in
              subst (λ a. AddsFor ready notices W R s a W' R') (sym g) (adds-refused refused.Full W' R' w v
              (λ c e n. add-full (controller_is c) (record_in W R) (has_room (pool_of W)) s (e ∙ h) (rules-of true k c n) (notice-of true i c n) x f))

          taken-meets : (n : ℕ) (z : y ≡ Ok n) (c : Controller)
              → Meets W R c (record { answer = controller.taken; controller = controller_is c; statements = record_in W R ++ (s ∷ []) }) (grown s) (record { answer = Ok Taken; controller = c }) W' R'
          unfolding answer_is
          taken-meets n z c =
              let (l, q) = p.at n z in
              record {
                answer = refl;
                number = λ y z. let t : ◌≡◌ {A = ℕ} 0 1 = cc in absurd (omega arith);
                controller = refl;
                numbers = subst (λ i. PushedTo R i R') l.number q;
                statements = λ w. (record-more l q w, all_in l q w);
                pool = l.pool;
                refused = λ t. absurd t;
              }

          pub adds-taken : (n : ℕ) → y ≡ Ok n → AddsFor ready notices W R s (Ok Taken) W' R'
          unfolding controller_is
          adds-taken n z = record {
            each = λ c e m.
                subst (λ o. Adds W R c s o (record { answer = Ok Taken; controller = c }) W' R')
                (sym (add-taken (controller_is c) (record_in W R) (has_room (pool_of W)) s (e ∙ h) (rules-of true k c m) (notice-of true i c m) x (room-is W R W' R' s y n p z)))
                (taken-meets n z c);
          }

-- the notice of a statement is the struct's
pub notice-as : (st : Statement) (B : List ℕ) (n : ℕ) (b : Bool) {r : Bool} → b ≡ ltb st.notice n → b ≡ r → ltb (stmt_of st B).notice n ≡ r
unfolding stmt_of
notice-as st B n b e f = sym e ∙ f

pub short-by-rules : (notices : ℕ) (st : Statement) (B : List ℕ) (b : Bool) → b ≡ keeps_rules notices (stmt_of st B) → b ≡ true → st.history.len ≤ 16
unfolding stmt_of
short-by-rules notices st B b e f =
    omega (arith, (keeps-fits (min notices 64) (stmt_of st B) (subst T (sym (sym e ∙ f)) tt)).views.0, views-length st.history.len st.history.views)
