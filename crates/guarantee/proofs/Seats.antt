-- What every call keeps of a controller and its record, also of a controller that is marked faulty: what it signs keeps the field rules, and names it.
-- Assumes nothing.
use mathlib.Core.Path.{◌≡◌, refl, sym, ap, subst, ◌∙◌}
use mathlib.Core.Logic.{◌⊎◌, inl, inr}
use mathlib.Core.Bool.{Bool, true, false, not, ◌&&◌, ◌||◌, true≢false}
use mathlib.Core.List.Memᴰ
use mathlib.Core.List.{List, [], ◌∷◌, ◌++◌}
use mathlib.Core.Option.{Option, some, none}
use Prim.Native.Nat.{ℕ, ◌^◌, ◌≤◌, ◌<◌}
use native.Mathlib.Omega.{arith}
use borrow.Author.Tests.{lt-ltb}
use lib.Dec.{T, eqb, ltb, ltb→lt, lt→ltb, T_not}
use lib.ListN.{length}
use Rattle.protocol.specs.Sets.{bit}
use Rattle.protocol.specs.Lists.{◌∈◌, ◌⊆◌, any, is_some, put}
use Rattle.protocol.specs.View.{controllers, View, member, has_members, is_view}
use Rattle.protocol.specs.History.{top}
use Rattle.protocol.specs.Statement.{Stmt, Binding, bound, same_stmt, field_rules}
use Rattle.protocol.specs.Evidence.{sender_of, candidates, is_conflict}
use Rattle.protocol.specs.Signers.{store_set}
use Rattle.protocol.specs.Controller.{Controller, not_set_up, with_binding, with_entered, with_delivered, with_requests, Refusal, bad_setup, bad_statement, repeated, full, bad_request, many_candidates, conflict, out_of_place, unknown_notice, bad_minute, Answer, taken, entered, delivered, left, quiet, refused, Outcome}
use Rattle.protocol.specs.Window.{last_minute, windows_allowed}
use Rattle.protocol.specs.Call.{Setup, ring_of, is_full, setup_allowed, started, setup, refuse, note, request_join, request_leave, request_send, add}
use Rattle.protocol.specs.Turn.{entered_after, counted_reports, Action, sign, bind_and_sign, enter, deliver, T as Top, first_rule, signing, perform, turn}
use Rattle.protocol.specs.Run.{Call, setup_call, join_call, leave_call, send_call, add_call, turn_call, outcome, Run, signed_in, FewBreakers, IsRun}
use Rattle.protocol.proofs.Found.{none≢some, some-injective}
use Rattle.protocol.proofs.Rules.{and_second, Signs, reports, agrees_view, agrees_history, acks, stores, joins, leaves, sends, EntersBy, acting, merged-bound, counted-out}
use Rattle.protocol.proofs.FieldRules.{says-fields, payload-fits, Sound, ack-small, signs-fields, signs-notice}
use Rattle.protocol.proofs.Numbered.{put_is}
use Rattle.protocol.proofs.Steps.{says-allowed, manned, init-view, signs-origin}
use Rattle.bench.specs.Bench.{Seat}
use Rattle.protocol.proofs.Says.{is_true}
use Rattle.guarantee.proofs.Laws.{count_none, either}

abbrev pub seat_of : Outcome → Seat
seat_of o = record { controller = o.controller; statements = o.statements }

-- s keeps the field rules of a ring with n notices, and is of one of them
pub record Fit (n : ℕ) (s : Stmt) : Type 0 where
  pub fields : T (field_rules controllers n s)
  pub notice : s.notice < n

abbrev pub Clean : ℕ → List Stmt → Type 0
Clean n P = (s : Stmt) → s ∈ P → Fit n s

-- a payload that is sent is of 64 bits, and what is added is in the pool
abbrev pub Proper : List Stmt → Call → Type 0
Proper P (setup_call n p) = Unit {0}
Proper P join_call = Unit {0}
Proper P leave_call = Unit {0}
Proper P (send_call i m) = m < 2 ^ 64
Proper P (add_call s) = s ∈ P
Proper P (turn_call minute) = Unit {0}

-- the payloads that something by notice has are of 64 bits, also with one more

abbrev pub SmallBound : (ℕ → Binding) → Type 0
SmallBound b = (i m : ℕ) → b i ≡ bound m → m < 2 ^ 64

abbrev pub SmallSent : (ℕ → Option ℕ) → Type 0
SmallSent p = (i m : ℕ) → p i ≡ some m → m < 2 ^ 64

put-bound : (j x : ℕ) (b : ℕ → Binding) → SmallBound b → x < 2 ^ 64 → SmallBound (put j (bound x) b)
put-bound j x b h l i m q = elim (put_is j (bound x) b i) [
  | inl (_, e) ↦ let g : x ≡ m = cc in subst (λ m. m < 2 ^ 64) g l
  | inr e ↦ h i m (sym e ∙ q)
]

put-sent : (j x : ℕ) (p : ℕ → Option ℕ) → SmallSent p → x < 2 ^ 64 → SmallSent (put j (some x) p)
put-sent j x p h l i m q = elim (put_is j (some x) p i) [
  | inl (_, e) ↦ subst (λ m. m < 2 ^ 64) (some-injective (sym e ∙ q)) l
  | inr e ↦ h i m (sym e ∙ q)
]

-- where the controller and its record are sound, the payloads that a turn binds it to are of 64 bits
module _ (c : Controller) (X : List Stmt) (ok : Sound c X) where
  signs-small : {s : Stmt} {b : ℕ → Binding} → Signs c X s b → SmallBound b
  signs-small (reports u e f i g d) = subst SmallBound (sym f) ok.binding
  signs-small (agrees_view t e f st w) = subst SmallBound (sym f) ok.binding
  signs-small (agrees_history t e f st) = subst SmallBound (sym f) ok.binding
  signs-small (acks t j x l e f st d p) = subst SmallBound (sym f) (put-bound j x c.binding ok.binding (ack-small c X ok p))
  signs-small (stores t j x l e f st d) = subst SmallBound (sym f) ok.binding
  signs-small (joins e f) = subst SmallBound (sym f) ok.binding
  signs-small (leaves e f) = subst SmallBound (sym f) ok.binding
  signs-small (sends j x l e f p) = subst SmallBound (sym f) ok.binding

  enters-small : {v : View} {b : ℕ → Binding} → EntersBy c X v b → SmallBound b
  enters-small w i m q = elim (merged-bound i (c.binding i) (counted_reports c X) (sym (w.merged i) ∙ q)) [
    | inl e ↦ ok.binding i m e
    | inr (x, j, e) ↦ subst (λ m. m < 2 ^ 64) e (payload-fits ((says-fields c.ring (length c.senders) x).sound (ok.all_keep x (counted-out c X j).0)) i)
  ]

-- a setup that is taken
pub record Taken : Type 0 where
  pub setting : Setup
  pub faulty : ℕ
  pub allowed : T (setup_allowed 0 setting.members setting.senders)
  pub windows : T (windows_allowed setting.windows)

module _ (u : Taken) where
  open u use {setting, allowed, windows}
  open setting use {members, senders}

  -- ---- what it gives

  allowed_at : (k : ℕ) → k < controllers → setup_allowed k members senders ≡ true
  unfolding setup_allowed
  allowed_at k l = rw (lt-ltb k 16 l) (is_true (setup_allowed 0 members senders) allowed)

  -- how many notices it names
  pub some-notices : (0 < length senders) × (length senders ≤ 64)
  some-notices = let a = (says-allowed 0 members senders).sound allowed in (a.one, a.few)

  pub setup-starts : (k : ℕ) → k < controllers → setup not_set_up [] k setting ≡ record { answer = taken; controller = started k setting; statements = [] }
  unfolding setup
  setup-starts k l = rw (allowed_at k l, is_true (windows_allowed setting.windows) windows)

  -- the run in which nothing happens, for what the setup alone gives
  nothing : Run
  nothing = record { follows = λ k. ltb k controllers; setting = setting; events = []; room = λ n s. true }

  nothing_is : IsRun nothing
  unfolding nothing FewBreakers
  nothing_is = record {
    numbered = λ k t. ltb→lt k controllers t;
    started = λ k l. ap (λ o. o.answer) (setup-starts k l);
    calls = λ n k c e. absurd (none≢some e);
    signings = λ n s e. absurd (none≢some e);
    unforged = λ n k s e. absurd (none≢some e);
    few_breakers = λ H h. let t : View = top (ring_of members) H in
        let e = count_none controllers (λ k. member t k && not (ltb k controllers)) (λ k l m. T_not (ltb k controllers) (and_second (member t k) (not (ltb k controllers)) m) (lt→ltb k controllers l)) in omega (arith, e);
  }

  -- ---- one seat, over the pool P

  pub record InRing (k : ℕ) (c : Controller) : Type 0 where
    pub is_set_up : c.is_set_up ≡ true
    pub number : c.number ≡ k
    pub ring : c.ring ≡ ring_of members
    pub senders : c.senders ≡ senders
    pub binding : SmallBound c.binding
    pub send : SmallSent c.send_requested

  pub record Seated (P : List Stmt) (k : ℕ) (s : Seat) : Type 0 where
    pub in_ring : InRing k s.controller
    pub known : s.statements ⊆ P

  pub started-in-ring : (k : ℕ) → InRing k (started k setting)
  unfolding started
  started-in-ring k = record { is_set_up = refl; number = refl; ring = refl; senders = refl; binding = λ i m e. let z : ◌≡◌ {A = ℕ} 0 1 = cc (e) in absurd (omega arith); send = λ i m e. absurd (none≢some e) }

  -- what a call leaves
  pub record Yields (P : List Stmt) (k : ℕ) (o : Outcome) : Type 0 where
    pub in_ring : InRing k o.controller
    pub known : (s : Stmt) → s ∈ o.statements → (s ∈ P) ⊎ (s ∈ signed_in o.answer)
    pub signs : (s : Stmt) → s ∈ signed_in o.answer → Fit (length senders) s × (s.origin ≡ k)

  module _ (P : List Stmt) (clean : Clean (length senders) P) (k : ℕ) (near : k < controllers) (c : Controller) (X : List Stmt) (ok : Seated P k (record { controller = c; statements = X })) where
    sound : Sound c X
    unfolding nothing
    sound =
        let s = ok.in_ring in
        record {
          manned = subst (λ Q. T (has_members Q.width Q.init)) (sym s.ring) (manned nothing_is);
          init_view = subst (λ Q. T (is_view Q.width Q.init)) (sym s.ring) (init-view nothing_is);
          number = subst (λ Q. c.number < Q.width) (sym s.ring) (subst (λ j. j < controllers) (sym s.number) near);
          few = subst (λ l. length l ≤ 256) (sym s.senders) (omega (arith, some-notices.1));
          all_keep = λ x i. subst (λ l. T (field_rules c.ring.width (length l) x)) (sym s.senders) (subst (λ Q. T (field_rules Q.width (length senders) x)) (sym s.ring) (clean x (ok.known x i)).fields);
          binding = s.binding;
          send = s.send;
        }

    bound-to : (b : ℕ → Binding) → SmallBound b → InRing k (with_binding b c)
    bound-to b h = let s = ok.in_ring in record { is_set_up = s.is_set_up; number = s.number; ring = s.ring; senders = s.senders; binding = h; send = s.send }

    -- an answer that signs nothing
    rests : (a : Answer) (d : Controller) → signed_in a ≡ [] → InRing k d → Yields P k (record { answer = a; controller = d; statements = X })
    rests a d e s = record { in_ring = s; known = λ x m. inl (ok.known x m); signs = λ x m. absurd (Memᴰ.not-nil (subst (λ S. x ∈ S) e m)) }

    refuses : (r : Refusal) → Yields P k (refuse c X r)
    unfolding signed_in
    refuses r = rests (refused r) c refl ok.in_ring

    notes : (j l : Bool) (p : ℕ → Option ℕ) → SmallSent p → Yields P k (note c X (with_requests j l p c))
    unfolding signed_in
    notes j l p h = let s = ok.in_ring in rests taken (with_requests j l p c) refl (record { is_set_up = s.is_set_up; number = s.number; ring = s.ring; senders = s.senders; binding = s.binding; send = h })

    adds : (s : Stmt) → s ∈ P → Yields P k (record { answer = taken; controller = c; statements = X ++ (s ∷ []) })
    unfolding signed_in
    adds s i = record {
      in_ring = ok.in_ring;
      known = λ x m. inl (elim (Memᴰ.append_cases X m) [ inl j ↦ ok.known x j | inr j ↦ subst (λ x. x ∈ P) (sym (Memᴰ.eq_of_singleton j)) i ]);
      signs = λ x m. absurd (Memᴰ.not-nil m);
    }

    signs-it : (room : Stmt → Bool) (d : Controller) (s : Stmt) {b : ℕ → Binding} → T (not (is_conflict c.ring c.senders X)) → T (not (ltb 16 (length (candidates c.ring X)))) → Signs c X s b → InRing k d → Yields P k (signing c X room d s)
    unfolding signing signed_in
    signs-it room d s t u w in_ring = either (Yields P k) (is_full room X s) (λ e. refuses full) (λ e. record {
      in_ring = in_ring;
      known = λ x m. elim (Memᴰ.append_cases X m) [ inl i ↦ inl (ok.known x i) | inr i ↦ inr i ];
      signs = λ x m. subst (λ x. Fit (length senders) x × (x.origin ≡ k)) (sym (Memᴰ.eq_of_singleton m)) (record { fields = fields; notice = notice }, signs-origin w ∙ ok.in_ring.number);
    })
      where
        fields : T (field_rules controllers (length senders) s)
        fields = subst (λ l. T (field_rules controllers (length l) s)) ok.in_ring.senders (subst (λ Q. T (field_rules Q.width (length c.senders) s)) ok.in_ring.ring (signs-fields c X sound t u w))

        notice : s.notice < length senders
        notice = subst (λ l. s.notice < length l) ok.in_ring.senders (signs-notice c X sound t u (subst (λ l. 0 < length l) (sym ok.in_ring.senders) some-notices.0) w)

    performs : (room : Stmt → Bool) → T (not (is_conflict c.ring c.senders X)) → T (not (ltb 16 (length (candidates c.ring X)))) → (minute : ℕ) (o : Option Action) → first_rule c X minute ≡ o → Yields P k (perform c X room o)
    unfolding perform signed_in
    performs room t u minute none e = either (λ a. Yields P k (record { answer = a; controller = c; statements = X })) (bit (Top c X).left c.number) (λ f. rests left c refl ok.in_ring) (λ f. rests quiet c refl ok.in_ring)
    performs room t u minute (some (sign s)) e = signs-it room c s t u (acting c X t minute e).0 ok.in_ring
    performs room t u minute (some (bind_and_sign i m s)) e =
        let w = (acting c X t minute e).0 in
        let b : ℕ → Binding = put i (bound m) c.binding in
        signs-it room (with_binding b c) s t u w (bound-to b (signs-small c X sound w))
    performs room t u minute (some (enter v b)) e =
        let s = bound-to b (enters-small c X sound (acting c X t minute e)) in
        rests (entered v) (with_entered (entered_after v c.entered) (with_binding b c)) refl (record { is_set_up = s.is_set_up; number = s.number; ring = s.ring; senders = s.senders; binding = s.binding; send = s.send })
    performs room t u minute (some (deliver i m)) e =
        let s = ok.in_ring in
        rests (delivered i m (store_set c.ring X i m)) (with_delivered (put i true c.delivered) c) refl (record { is_set_up = s.is_set_up; number = s.number; ring = s.ring; senders = s.senders; binding = s.binding; send = s.send })

    abbrev Good : Outcome → Type 0
    Good o = Yields P k o

    -- EVERY CALL KEEPS IT
    pub keeps : (room : Stmt → Bool) (a : Call) → Proper P a → Yields P k (outcome room c X a)
    unfolding outcome setup request_join request_leave request_send add turn
    keeps room (setup_call n p) f = either Good (c.is_set_up || not (setup_allowed n p.members p.senders)) (λ e. refuses bad_setup) (λ e. absurd (true≢false (subst (λ b. (b || not (setup_allowed n p.members p.senders)) ≡ false) ok.in_ring.is_set_up e)))
    keeps room join_call f =
        either Good c.is_set_up (λ e. either Good (member c.ring.init c.number || c.join_requested) (λ g. refuses bad_request) (λ g. notes true c.leave_requested c.send_requested ok.in_ring.send))
        (λ e. refuses out_of_place)
    keeps room leave_call f =
        either Good c.is_set_up (λ e. either Good (eqb (length c.entered) 0 || c.leave_requested) (λ g. refuses bad_request) (λ g. notes c.join_requested true c.send_requested ok.in_ring.send))
        (λ e. refuses out_of_place)
    keeps room (send_call i m) f =
        either Good c.is_set_up (λ e. either Good (not (ltb i (length c.senders))) (λ g. refuses unknown_notice)
        (λ g. either Good (not (eqb c.number (sender_of c.senders i)) || is_some (c.send_requested i)) (λ h. refuses bad_request)
        (λ h. notes c.join_requested c.leave_requested (put i (some m) c.send_requested) (put-sent i m c.send_requested ok.in_ring.send f)))) (λ e. refuses out_of_place)
    keeps room (add_call s) f =
        either Good c.is_set_up (λ e. either Good (not (field_rules c.ring.width (length c.senders) s)) (λ g. refuses bad_statement)
        (λ g. either Good (not (ltb s.notice (length c.senders))) (λ h. refuses unknown_notice)
        (λ h. either Good (any (same_stmt s) X) (λ i. refuses repeated) (λ i. either Good (is_full room X s) (λ j. refuses full) (λ j. adds s f))))) (λ e. refuses out_of_place)
    keeps room (turn_call minute) f =
        either Good c.is_set_up (λ e. either Good (ltb last_minute minute) (λ g. refuses bad_minute)
        (λ e. either Good (is_conflict c.ring c.senders X) (λ g. refuses conflict) (λ g. either Good (ltb 16 (length (candidates c.ring X))) (λ h. refuses many_candidates)
        (λ h. performs room (subst (λ b. T (not b)) (sym g) tt) (subst (λ b. T (not b)) (sym h) tt) minute (first_rule c X minute) refl)))) (λ e. refuses out_of_place)
