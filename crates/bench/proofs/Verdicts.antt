-- Calls that are refused for what a few fields of their controller say.
-- Assumes nothing.
use Rattle.std.specs.Prelude.{if◌then◌else◌, Some, None, Result, Ok, Err}
use mathlib.Core.Path.{◌≡◌, refl, sym, ap, subst, ◌∙◌}
use mathlib.Core.Bool.{Bool, true, false, not, true≢false, ◌||◌}
use mathlib.Core.List.{List}
use mathlib.Core.Option.{some}
use Prim.Native.Nat.{ℕ, ◌≤◌, ◌<◌, min}
use native.Mathlib.Omega.{arith}
use lib.Dec.{eqb, ltb}
use lib.ListN.{length, get_or}
use borrow.Author.Tests.{eqb-true, ltb-true, ltb-false, eq-eqb, ne_eqb, lt-ltb, le-ltb}
use Rattle.protocol.specs.Sets.{bit}
use Rattle.protocol.specs.Lists.{is_some, when, list_of}
use Rattle.protocol.specs.View.{member}
use Rattle.protocol.specs.Statement.{Stmt}
use Rattle.protocol.specs.Evidence.{sender_of}
use Rattle.protocol.specs.Window.{last_minute, is_open}
use Rattle.protocol.specs.Controller as controller
use Rattle.protocol.specs.Call.{refuse, request_join, request_leave, request_send}
use Rattle.protocol.specs.Pool.{has_room}
use Rattle.protocol.specs.Turn.{turn as turn_of}
use Rattle.protocol.proofs.Additions.{turn-unready, turn-late, send-unready, send-unknown, send-barred}
use Rattle.protocol.proofs.Found.{either}
use Rattle.protocol.proofs.Numbered.{list_of-length, list_of-at}
use Rattle.views.specs.Held.{view_is, views_is}
use Rattle.views.proofs.Held.{none-held}
use Rattle.pool.specs.Pool.{record_in}
use Rattle.evidence.specs.Notices.{senders_of}
use Rattle.windows.specs.Windows.{windows_in}
use Rattle.engine.specs.declared.Controller.{Controller}
use Rattle.engine.specs.declared.Refusal.{Refusal}
use Rattle.engine.specs.declared.Refusal.TheVariants.{BadRequest, OutOfPlace, UnknownNotice, BadMinute}
use Rattle.engine.specs.declared.Answer.{Answer}
use Rattle.engine.specs.declared.Answer.TheVariants.{Taken, Signed, Entered, Delivered, Left, Quiet}
use Rattle.engine.specs.Meaning.{controller_is, signed_number, answer_is, refusal_is}
use Rattle.schedule.specs.Line.{Line, join, leave, send, turn}
use Rattle.schedule.specs.declared.line.Line.{Line as Held}
use Rattle.schedule.specs.declared.line.Line.TheVariants as is
use Rattle.bench.specs.Bench as bench
use Rattle.bench.specs.Bench.{Seat, Bench, Stepped, step}
use Rattle.bench.specs.Seats.{seat_is, bench_of, Sound, is_call, changes_is, CalledAtSeat, Known, IfIdle, Rests, turn_after, waits_at, turn_known, CalledByLine, denied, minute_in, turn_verdict, join_verdict, leave_verdict, send_verdict, Judged}
use Rattle.bench.proofs.Records.{keeps_same}
use Rattle.bench.proofs.Seats.{grows_same}

-- ---- refused requests, of the protocol's controller

module _ (d : controller.Controller) (X : List Stmt) where
  join-early : d.is_set_up ≡ false → request_join d X ≡ refuse d X controller.out_of_place
  unfolding request_join
  join-early e = rw e

  join-barred : d.is_set_up ≡ true → (member d.ring.init d.number || d.join_requested) ≡ true → request_join d X ≡ refuse d X controller.bad_request
  unfolding request_join
  join-barred e f = rw (e, f)

  leave-early : d.is_set_up ≡ false → request_leave d X ≡ refuse d X controller.out_of_place
  unfolding request_leave
  leave-early e = rw e

  leave-barred : d.is_set_up ≡ true → (eqb (length d.entered) 0 || d.leave_requested) ≡ true → request_leave d X ≡ refuse d X controller.bad_request
  unfolding request_leave
  leave-barred e f = rw (e, f)

or-true : (b : Bool) → (b || true) ≡ true
or-true true = refl
or-true false = refl

-- the tests of a send's 5
another : (number : ℕ) (S : List ℕ) (n i : ℕ) (r : Bool) → ltb i n ≡ true → eqb number (get_or S i 0) ≡ false → (not (eqb number (sender_of (list_of n (λ j. get_or S j 0)) i)) || r) ≡ true
another number S n i r l e = rw (list_of-at n (λ j. get_or S j 0) i 0 (ltb-true i n l), e)

repeated : (b r : Bool) (m : ℕ) → r ≡ true → (b || is_some (when r m)) ≡ true
repeated b r m e = rw e (or-true b)

-- ---- the same in the bench

-- what a turn does to seat k
abbrev taking : ℕ → ℕ → Bench → Seat → Stepped
taking k minute b u = bench.after_turn b k (turn_of u.controller u.statements (has_room b.pool) minute) (turn_of u.controller u.statements (has_room b.pool) minute).answer

-- nothing is known after a refused turn
known-refused : (P : Result Answer Refusal → Type 0) (c : Controller) (minute : ℕ) (q : Refusal) → IfIdle (turn_known c minute (Err q)) P
unfolding turn_known
known-refused P c minute q = either (λ v. IfIdle v P) (waits_at c minute) (λ w. tt) (λ w. tt)

module _ (W R : List ℕ) (c : Controller) (s : Sound W R) where
  abbrev d₀ : controller.Controller
  d₀ = controller_is c

  abbrev X₀ : List Stmt
  X₀ = record_in W R

  -- what the line l does to seat k is g
  idles : (a : Result Answer Refusal) (k : ℕ) (l : Line) (g : Bench → Seat → Stepped) → ((b : Bench) → step b (some l) ≡ g b (bench.seat b k))
      → ((b : Bench) → g b (seat_is W c R) ≡ bench.at b k (record { answer = answer_is W a; controller = d₀; statements = X₀ }) b.pool (signed_number a)) → CalledAtSeat W R c k l (record { answer = a; controller = c }) W R
  idles a k l g h e = record {
    steps = λ ready terms X x. h (bench_of ready terms X W) ∙ ap (g (bench_of ready terms X W)) x ∙ e (bench_of ready terms X W);
    sound = s;
    grows = grows_same W;
    keeps = keeps_same R;
    same = λ _. refl;
  }

  refuses : (q : Refusal) (k : ℕ) (l : Line) (g : Bench → Seat → Stepped) → ((b : Bench) → step b (some l) ≡ g b (bench.seat b k))
      → ((b : Bench) → g b (seat_is W c R) ≡ bench.at b k (refuse d₀ X₀ (refusal_is q)) b.pool 0) → CalledAtSeat W R c k l (record { answer = Err q; controller = c }) W R
  unfolding answer_is
  refuses q k l g h e = idles (Err q) k l g h e

  -- a request f is refused
  asked : (q : Refusal) (k : ℕ) (l : Line) (f : controller.Controller → List Stmt → controller.Outcome) → ((b : Bench) → step b (some l) ≡ bench.at b k (f (bench.seat b k).controller (bench.seat b k).statements) b.pool 0)
      → f d₀ X₀ ≡ refuse d₀ X₀ (refusal_is q) → CalledAtSeat W R c k l (record { answer = Err q; controller = c }) W R
  asked q k l f h e = refuses q k l (λ b t. bench.at b k (f t.controller t.statements) b.pool 0) h (λ b. ap (λ (o : controller.Outcome). bench.at b k o b.pool 0) e)

  early : (l : Held) → is_call l ≡ true → c.ready ≡ false → CalledByLine W R c l (record { answer = Err OutOfPlace; controller = c }) W R
  unfolding step bench.turn_at bench.after_turn controller_is
  early is.Setup t e = absurd (true≢false (sym t))
  early (is.Join k) t e = record { line = join k; means = refl; called = asked OutOfPlace k (join k) request_join (λ b. refl) (join-early d₀ X₀ e); rests = tt }
  early (is.Leave k) t e = record { line = leave k; means = refl; called = asked OutOfPlace k (leave k) request_leave (λ b. refl) (leave-early d₀ X₀ e); rests = tt }
  early (is.Send k i m) t e = record { line = send k i m; means = refl; called = asked OutOfPlace k (send k i m) (λ d X. request_send d X i m) (λ b. refl) (send-unready d₀ X₀ i m e); rests = tt }
  early (is.Give k n) t e = absurd (true≢false (sym t))
  early (is.All k) t e = absurd (true≢false (sym t))
  early (is.Turn k minute) t e = record {
    line = turn k minute;
    means = refl;
    called = refuses OutOfPlace k (turn k minute) (taking k minute) (λ b. refl) (λ b. ap (λ (o : controller.Outcome). bench.after_turn b k o o.answer) (turn-unready d₀ X₀ (has_room b.pool) minute e));
    rests = known-refused (Rests W R c) c minute OutOfPlace;
  }
  early is.Lie t e = absurd (true≢false (sym t))

  module _ (ready : c.ready ≡ true) where
    join-denied : (k : ℕ) → IfIdle (join_verdict c) (λ a. CalledByLine W R c (is.Join k) (record { answer = a; controller = c }) W R)
    unfolding join_verdict step controller_is
    join-denied k = go (member (view_is c.init) c.number) c.joining refl refl
      where
        barred : (member (view_is c.init) c.number || c.joining) ≡ true → CalledByLine W R c (is.Join k) (record { answer = Err BadRequest; controller = c }) W R
        barred h = record { line = join k; means = refl; called = asked BadRequest k (join k) request_join (λ b. refl) (join-barred d₀ X₀ ready h); rests = tt }

        go : (m j : Bool) → member (view_is c.init) c.number ≡ m → c.joining ≡ j → IfIdle (if m then denied BadRequest else if j then denied BadRequest else None) (λ a. CalledByLine W R c (is.Join k) (record { answer = a; controller = c }) W R)
        go true j e f = barred (ap (λ t. t || c.joining) e)
        go false true e f = barred (ap (λ t. member (view_is c.init) c.number || t) f ∙ or-true (member (view_is c.init) c.number))
        go false false e f = tt

    leave-denied : (k : ℕ) → IfIdle (leave_verdict c) (λ a. CalledByLine W R c (is.Leave k) (record { answer = a; controller = c }) W R)
    unfolding leave_verdict step controller_is
    leave-denied k = go (eqb c.entered.len 0) c.leaving refl refl
      where
        barred : (eqb (length (views_is c.entered)) 0 || c.leaving) ≡ true → CalledByLine W R c (is.Leave k) (record { answer = Err BadRequest; controller = c }) W R
        barred h = record { line = leave k; means = refl; called = asked BadRequest k (leave k) request_leave (λ b. refl) (leave-barred d₀ X₀ ready h); rests = tt }

        go : (m j : Bool) → eqb c.entered.len 0 ≡ m → c.leaving ≡ j → IfIdle (if m then denied BadRequest else if j then denied BadRequest else None) (λ a. CalledByLine W R c (is.Leave k) (record { answer = a; controller = c }) W R)
        go true j e f = barred (ap (λ t. t || c.leaving) (eq-eqb (length (views_is c.entered)) 0 (ap length (none-held c.entered (eqb-true c.entered.len 0 e)))))
        go false true e f = barred (ap (λ t. eqb (length (views_is c.entered)) 0 || t) f ∙ or-true (eqb (length (views_is c.entered)) 0))
        go false false e f = tt

    send-denied : (k i m : ℕ) → IfIdle (send_verdict c i) (λ a. CalledByLine W R c (is.Send k i m) (record { answer = a; controller = c }) W R)
    unfolding send_verdict step controller_is senders_of
    send-denied k i m = go (ltb i (min c.notices 64)) (eqb c.number (get_or c.senders i 0)) (bit c.requested i) refl refl refl
      where
        notice-is : ltb i (length (list_of (min c.notices 64) (λ j. get_or c.senders j 0))) ≡ ltb i (min c.notices 64)
        notice-is = ap (ltb i) (list_of-length (min c.notices 64) (λ j. get_or c.senders j 0))

        barred : ltb i (min c.notices 64) ≡ true → (not (eqb c.number (sender_of (list_of (min c.notices 64) (λ j. get_or c.senders j 0)) i)) || is_some (when (bit c.requested i) (get_or c.sends i 0))) ≡ true
            → CalledByLine W R c (is.Send k i m) (record { answer = Err BadRequest; controller = c }) W R
        barred l h = record { line = send k i m; means = refl; called = asked BadRequest k (send k i m) (λ d X. request_send d X i m) (λ b. refl) (send-barred d₀ X₀ i m ready (notice-is ∙ l) h); rests = tt }

        go : (n o j : Bool) → ltb i (min c.notices 64) ≡ n → eqb c.number (get_or c.senders i 0) ≡ o → bit c.requested i ≡ j
            → IfIdle (if not n then denied UnknownNotice else if not o then denied BadRequest else if j then denied BadRequest else None) (λ a. CalledByLine W R c (is.Send k i m) (record { answer = a; controller = c }) W R)
        go false o j l e f = record { line = send k i m; means = refl; called = asked UnknownNotice k (send k i m) (λ d X. request_send d X i m) (λ b. refl) (send-unknown d₀ X₀ i m ready (notice-is ∙ l)); rests = tt }
        go true false j l e f = barred l (another c.number c.senders (min c.notices 64) i (is_some (when (bit c.requested i) (get_or c.sends i 0))) l e)
        go true true true l e f = barred l (repeated (not (eqb c.number (sender_of (list_of (min c.notices 64) (λ j. get_or c.senders j 0)) i))) (bit c.requested i) (get_or c.sends i 0) f)
        go true true false l e f = tt

-- ---- a turn that is known to do nothing

after-idle : (W : List ℕ) (b : Bench) (k : ℕ) (o : controller.Outcome) (a : Result Answer Refusal) → changes_is a ≡ false → bench.after_turn b k o (answer_is W a) ≡ bench.at b k o b.pool (signed_number a)
unfolding answer_is bench.after_turn
after-idle W b k o (Ok Taken) e = absurd (true≢false e)
after-idle W b k o (Ok (Signed n)) e = absurd (true≢false e)
after-idle W b k o (Ok (Entered v)) e = absurd (true≢false e)
after-idle W b k o (Ok (Delivered i m who)) e = absurd (true≢false e)
after-idle W b k o (Ok Left) e = refl
after-idle W b k o (Ok Quiet) e = refl
after-idle W b k o (Err r) e = refl

still-rests : {W R : List ℕ} {c : Controller} (a : Result Answer Refusal) → Rests W R c a → IfIdle (turn_after a) (Rests W R c)
still-rests (Ok Taken) r = tt
still-rests (Ok (Signed n)) r = tt
still-rests (Ok (Entered v)) r = tt
still-rests (Ok (Delivered i m who)) r = tt
still-rests (Ok Left) r = r
still-rests (Ok Quiet) r = r
still-rests (Err q) r = tt

turn-rest : (W R : List ℕ) (c : Controller) (s : Sound W R) (k minute : ℕ) → minute ≤ last_minute → (t : Known) → IfIdle t (Rests W R c) → IfIdle t (λ a. CalledByLine W R c (is.Turn k minute) (record { answer = a; controller = c }) W R)
unfolding step bench.turn_at turn_known
turn-rest W R c s k minute l (Some a) r = record {
  line = turn k minute;
  means = refl;
  called = idles W R c s a k (turn k minute) (taking k minute) (λ b. refl)
      (λ b. ap (λ (o : controller.Outcome). bench.after_turn b k o o.answer) (r.turns (has_room b.pool) minute l) ∙ after-idle W b k _ a r.idle);
  rests = either (λ v. IfIdle v (Rests W R c)) (waits_at c minute) (λ w. tt) (λ w. still-rests a r);
}
turn-rest W R c s k minute l None r = tt

-- at a minute that no week has
late : (W R : List ℕ) (c : Controller) (s : Sound W R) (k minute : ℕ) → c.ready ≡ true → ltb last_minute minute ≡ true → CalledByLine W R c (is.Turn k minute) (record { answer = Err BadMinute; controller = c }) W R
unfolding step bench.turn_at bench.after_turn controller_is
late W R c s k minute e f = record {
  line = turn k minute;
  means = refl;
  called = refuses W R c s BadMinute k (turn k minute) (taking k minute) (λ b. refl) (λ b. ap (λ (o : controller.Outcome). bench.after_turn b k o o.answer) (turn-late (controller_is c) (record_in W R) (has_room b.pool) minute e (ltb-true last_minute minute f)));
  rests = known-refused (Rests W R c) c minute BadMinute;
}

-- ---- the verdict on a line

module _ (c : Controller) (l : Held) (t : Known) where
  pub judged-early : {v : Known} → is_call l ≡ true → c.ready ≡ false → v ≡ denied OutOfPlace → Judged c l t v
  judged-early call e f = subst (Judged c l t) (sym f) (record { answers = λ W R s r. early W R c s l call e })

  module _ {v : Known} {k : ℕ} (ready : c.ready ≡ true) where
    pub judged-join : l ≡ is.Join k → v ≡ join_verdict c → Judged c l t v
    judged-join e f = subst (λ x. Judged c x t v) (sym e) (subst (Judged c (is.Join k) t) (sym f) (record { answers = λ W R s r. join-denied W R c s ready k }))

    pub judged-leave : l ≡ is.Leave k → v ≡ leave_verdict c → Judged c l t v
    judged-leave e f = subst (λ x. Judged c x t v) (sym e) (subst (Judged c (is.Leave k) t) (sym f) (record { answers = λ W R s r. leave-denied W R c s ready k }))

    pub judged-send : {i m : ℕ} → l ≡ is.Send k i m → v ≡ send_verdict c i → Judged c l t v
    judged-send {i} {m} e f = subst (λ x. Judged c x t v) (sym e) (subst (Judged c (is.Send k i m) t) (sym f) (record { answers = λ W R s r. send-denied W R c s ready k i m }))

    pub judged-turn : l ≡ is.Turn k (minute_in l) → (minute : ℕ) → minute ≡ minute_in l → v ≡ turn_verdict minute t → Judged c l t v
    unfolding turn_verdict
    judged-turn e minute f g = subst (λ x. Judged c x t v) (sym e) (subst (Judged c (is.Turn k (minute_in l)) t) (sym (g ∙ ap (λ n. turn_verdict n t) f)) (record { answers = λ W R s r. answers W R s r (ltb last_minute (minute_in l)) refl }))
      where
        answers : (W R : List ℕ) → Sound W R → IfIdle t (Rests W R c) → (b : Bool) → ltb last_minute (minute_in l) ≡ b
            → IfIdle (turn_verdict (minute_in l) t) (λ a. CalledByLine W R c (is.Turn k (minute_in l)) (record { answer = a; controller = c }) W R)
        answers W R s r true h = rw h (late W R c s k (minute_in l) ready h)
        answers W R s r false h = rw h (turn-rest W R c s k (minute_in l) (ltb-false last_minute (minute_in l) h) t r)

-- the tests of each

module _ (minute : ℕ) (t : Known) where
  pub turn-past : 10079 < minute → denied BadMinute ≡ turn_verdict minute t
  unfolding turn_verdict
  turn-past h = rw (lt-ltb 10079 minute h)

  pub turn-open : minute ≤ 10079 → t ≡ turn_verdict minute t
  unfolding turn_verdict
  turn-open h = rw (le-ltb 10079 minute h)

module _ (c : Controller) (minute : ℕ) where
  pub waits-never : c.leaving ≡ false → false ≡ waits_at c minute
  unfolding waits_at
  waits-never e = rw e

  pub waits-outside : (b : Bool) → c.leaving ≡ true → b ≡ is_open (windows_in c.times (min c.windows 8)) minute → not b ≡ waits_at c minute
  unfolding waits_at controller_is
  waits-outside b e f = ap not f ∙ rw e

  module _ (b : Bool) (e : b ≡ waits_at c minute) (a : Result Answer Refusal) where
    pub known-open : b ≡ true → None ≡ turn_known c minute a
    unfolding turn_known
    known-open h = rw (sym e ∙ h)

    pub known-after : b ≡ false → turn_after a ≡ turn_known c minute a
    unfolding turn_known
    known-after h = rw (sym e ∙ h)

module _ (c : Controller) where
  module _ (m : Bool) (e : m ≡ member (view_is c.init) c.number) where
    pub join-member : m ≡ true → denied BadRequest ≡ join_verdict c
    unfolding join_verdict
    join-member h = rw (sym e ∙ h)

    pub join-again : m ≡ false → c.joining ≡ true → denied BadRequest ≡ join_verdict c
    unfolding join_verdict
    join-again h j = rw (sym e ∙ h, j)

    pub join-open : m ≡ false → c.joining ≡ false → None ≡ join_verdict c
    unfolding join_verdict
    join-open h j = rw (sym e ∙ h, j)

  pub leave-outside : c.entered.len ≡ 0 → denied BadRequest ≡ leave_verdict c
  unfolding leave_verdict
  leave-outside h = rw (eq-eqb c.entered.len 0 h)

  pub leave-again : (c.entered.len ≡ 0 → ⊥) → c.leaving ≡ true → denied BadRequest ≡ leave_verdict c
  unfolding leave_verdict
  leave-again h j = rw (ne_eqb c.entered.len 0 h, j)

  pub leave-open : (c.entered.len ≡ 0 → ⊥) → c.leaving ≡ false → None ≡ leave_verdict c
  unfolding leave_verdict
  leave-open h j = rw (ne_eqb c.entered.len 0 h, j)

  module _ (i : ℕ) (n : Bool) (e : n ≡ ltb i (min c.notices 64)) where
    pub send-outside : n ≡ false → denied UnknownNotice ≡ send_verdict c i
    unfolding send_verdict
    send-outside h = rw (sym e ∙ h)

    pub send-place : n ≡ true → i < 64
    send-place h = let l = ltb-true i (min c.notices 64) (sym e ∙ h) in omega arith

    module _ (h : n ≡ true) where
      pub send-another : (c.number ≡ get_or c.senders i 0 → ⊥) → denied BadRequest ≡ send_verdict c i
      unfolding send_verdict
      send-another d = rw (sym e ∙ h, ne_eqb c.number (get_or c.senders i 0) d)

      module _ (own : c.number ≡ get_or c.senders i 0) (j : Bool) (f : j ≡ bit c.requested i) where
        pub send-again : j ≡ true → denied BadRequest ≡ send_verdict c i
        unfolding send_verdict
        send-again g = rw (sym e ∙ h, eq-eqb c.number (get_or c.senders i 0) own, sym f ∙ g)

        pub send-open : j ≡ false → None ≡ send_verdict c i
        unfolding send_verdict
        send-open g = rw (sym e ∙ h, eq-eqb c.number (get_or c.senders i 0) own, sym f ∙ g)
