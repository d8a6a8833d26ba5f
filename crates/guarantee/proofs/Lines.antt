-- What each line does to the bench and what events come of it, before a setup is taken and after it.
--     new_line  until a setup is taken nothing changes
--     effect    a line does nothing, one call on a controller, an addition of each statement that it misses, or a signing by one who is marked
-- Assumes nothing.
use Rattle.std.specs.Prelude.{if◌then◌else◌}
use mathlib.Core.Path.{◌≡◌, refl, sym, ap, ap₂, subst, ◌∙◌}
use mathlib.Core.Logic.{◌⊎◌, inl, inr}
use mathlib.Core.Bool.{Bool, true, false, not, ◌||◌, true≢false, and-false, and-true}
use mathlib.Core.List.Memᴰ
use mathlib.Core.List.{List, [], ◌∷◌, ◌++◌, map}
use mathlib.Core.Option.{Option, some, none}
use Prim.Native.Nat.{ℕ, ◌+◌, ◌^◌, ◌≤◌, ◌<◌}
use native.Mathlib.Decide.{dec_lt}
use native.Mathlib.Omega.{arith}
use borrow.Author.Tests.{le-ltb, lt-leb, le-leb, ltb-true, ltb-false, not-false}
use lib.Dec.{T, eqb, leb, ltb}
use lib.ListN.{length, get_or, get_elem?, set, get_or-eq_default}
use lib.Seq.{set-get_or}
use Rattle.protocol.specs.Sets.{bit}
use Rattle.protocol.specs.Lists.{◌∈◌, any, is_some, list_of}
use Rattle.protocol.specs.Evidence.{sender_of}
use Rattle.protocol.specs.View.{controllers, member}
use Rattle.protocol.specs.Statement.{Stmt, no_stmt, same_stmt, field_rules}
use Rattle.protocol.specs.Controller.{Controller, not_set_up, bad_setup, repeated, full, out_of_place, unknown_notice, bad_window, Refusal, bad_statement, Answer, taken, signed, entered, delivered, left, quiet, refused, refusal_number, Outcome}
use Rattle.protocol.specs.Window.{windows_allowed}
use Rattle.protocol.specs.Call.{Setup, setup_allowed, started, is_full, setup as setup_called, request_join, request_leave, request_send, add, refuse as refused_by}
use Rattle.protocol.specs.Pool.{number_of, pooled, has_room}
use Rattle.protocol.specs.Turn.{turn as turn_of}
use Rattle.protocol.specs.Run.{Call, setup_call, join_call, leave_call, send_call, add_call, turn_call, outcome, call, signing, signed_in}
use Rattle.protocol.proofs.Numbered.{list_of-length, list_of-at}
use Rattle.protocol.proofs.Different.{Different}
use Rattle.protocol.proofs.Moves.{IsTurn}
use Rattle.schedule.specs.Line.{Line, setup, join, leave, send, give, all, turn, lie, no_statement, Reads}
use Rattle.bench.specs.Bench.{Seat, empty_seat, Bench, new_bench, Stepped, nobody, shown_sender, seat, at, refuse_line, set_up, missing, give_to, give_all, after_turn, turn_at, lie_of, step}
use Rattle.guarantee.specs.Events.{follower, is_follower, call_on, events_of}
use Rattle.guarantee.proofs.Laws.{either, get_d-in}
use Rattle.guarantee.proofs.Seats.{seat_of, Fit, Taken, Seated, Clean, started-in-ring, Proper}
use Rattle.guarantee.proofs.Pools.{Grown, grown-none, grown-new, grown-pooled, numbered, added, add_is}

-- ---- what reading a line gives

-- in a ring with this number of notices
abbrev pub Legible : ℕ → Option Line → Type 0
Legible many none = Unit {0}
Legible many (some (setup p faulty)) = Unit {0}
Legible many (some (join k)) = k < 16
Legible many (some (leave k)) = k < 16
Legible many (some (send k notice payload)) = (k < 16) × (payload < 2 ^ 64)
Legible many (some (give k n)) = k < 16
Legible many (some (all k)) = k < 16
Legible many (some (turn k minute)) = k < 16
Legible many (some (lie s)) = T (field_rules controllers many s)
Legible many (some no_statement) = Unit {0}

pub legible : (many : ℕ) (S : List ℕ) (l : Option Line) → Reads many S l → Legible many l
legible many S none r = tt
legible many S (some (setup p faulty)) r = tt
legible many S (some (join k)) r = r.0
legible many S (some (leave k)) r = r.0
legible many S (some (send k notice payload)) r = (r.0, r.2)
legible many S (some (give k n)) r = r.0
legible many S (some (all k)) r = r.0
legible many S (some (turn k minute)) r = r.0
legible many S (some (lie s)) r = r.0
legible many S (some no_statement) r = tt

-- ---- answers

-- only a turn answers so
abbrev pub Acts : Answer → Type 0
Acts taken = ⊥
Acts (signed s) = Unit {0}
Acts (entered v) = Unit {0}
Acts (delivered i m who) = Unit {0}
Acts left = ⊥
Acts quiet = ⊥
Acts (refused r) = T (eqb (refusal_number r) 7)

unsigned : (a : Answer) → ¬ Acts a → signed_in a ≡ []
unfolding signed_in
unsigned taken f = refl
unsigned (signed s) f = absurd (f tt)
unsigned (entered v) f = refl
unsigned (delivered i m who) f = refl
unsigned left f = refl
unsigned quiet f = refl
unsigned (refused r) f = refl

-- no other call does
abbrev pub NoTurn : Call → Type 0
NoTurn (setup_call n p) = Unit {0}
NoTurn join_call = Unit {0}
NoTurn leave_call = Unit {0}
NoTurn (send_call i m) = Unit {0}
NoTurn (add_call s) = Unit {0}
NoTurn (turn_call minute) = ⊥

module _ (room : Stmt → Bool) (c : Controller) (X : List Stmt) where
  abbrev Idle : Outcome → Type 0
  Idle o = ¬ Acts o.answer

  idle : (a : Call) → NoTurn a → Idle (outcome room c X a)
  unfolding outcome setup_called request_join request_leave request_send add
  idle (setup_call n p) _ = either Idle (c.is_set_up || not (setup_allowed n p.members p.senders)) (λ e t. t) (λ e. either Idle (not (windows_allowed p.windows)) (λ f t. t) (λ f t. t))
  idle join_call _ = either Idle c.is_set_up (λ e. either Idle (member c.ring.init c.number || c.join_requested) (λ f t. t) (λ f t. t)) (λ e t. t)
  idle leave_call _ = either Idle c.is_set_up (λ e. either Idle (eqb (length c.entered) 0 || c.leave_requested) (λ f t. t) (λ f t. t)) (λ e t. t)
  idle (send_call i m) _ =
      either Idle c.is_set_up (λ e. either Idle (not (ltb i (length c.senders))) (λ f t. t)
      (λ f. either Idle (not (eqb c.number (sender_of c.senders i)) || is_some (c.send_requested i)) (λ g t. t) (λ g t. t))) (λ e t. t)
  idle (add_call s) _ =
      either Idle c.is_set_up (λ e. either Idle (not (field_rules c.ring.width (length c.senders) s)) (λ f t. t)
      (λ f. either Idle (not (ltb s.notice (length c.senders))) (λ g t. t)
      (λ g. either Idle (any (same_stmt s) X) (λ h t. t) (λ h. either Idle (is_full room X s) (λ i t. t) (λ i t. t))))) (λ e t. t)
  idle (turn_call _) x'' = elim x'' [ ]

  pub turn-only : (a : Call) → Acts (outcome room c X a).answer → IsTurn a
  turn-only (setup_call n p) t = absurd (idle (setup_call n p) tt t)
  turn-only join_call t = absurd (idle join_call tt t)
  turn-only leave_call t = absurd (idle leave_call tt t)
  turn-only (send_call i m) t = absurd (idle (send_call i m) tt t)
  turn-only (add_call s) t = absurd (idle (add_call s) tt t)
  turn-only (turn_call minute) t = (minute, refl)

-- ---- what a line does

-- afterwards the seat of k is x, and S has gone to the pool
pub record After (b : Bench) (k : ℕ) (x : Seat) (S : List Stmt) (b' : Bench) : Type 0 where
  pub is_set_up : b'.is_set_up ≡ b.is_set_up
  pub marks : b'.faulty ≡ b.faulty
  pub notices : b'.notices ≡ b.notices
  pub seats : b'.seats ≡ set b.seats k x
  pub pool : Grown b.pool S b'.pool

module _ (b : Bench) where
  -- what a call on k gives
  abbrev pub out : ℕ → Call → Outcome
  out k a = outcome (has_room b.pool) (seat b k).controller (seat b k).statements a

  abbrev pub filled : ℕ → Seat
  filled k = record { controller = (seat b k).controller; statements = (seat b k).statements ++ missing b k }

  module _ (l : Option Line) where
    abbrev b' : Bench
    b' = (step b l).bench

    abbrev answer : Answer
    answer = (step b l).reply.answer

    -- nothing
    pub record Rests : Type 0 where
      pub same : b' ≡ b
      pub idle : ¬ Acts answer
      pub events : events_of b l ≡ []

    -- the call a on k
    pub record Calls (k : ℕ) (a : Call) : Type 0 where
      pub near : k < 16
      pub proper : Proper b.pool a
      pub who : (step b l).reply.who ≡ k
      pub answered : answer ≡ (out k a).answer
      pub number : (s : Stmt) → (out k a).answer ≡ signed s → get_elem? b'.pool (step b l).reply.number ≡ some s
      pub after : After b k (seat_of (out k a)) (signed_in (out k a).answer) b'
      pub events : events_of b l ≡ (if is_follower b k then call k a ∷ [] else map signing (signed_in (out k a).answer))

    -- an addition of each that k misses
    pub record Gives (k : ℕ) : Type 0 where
      pub near : k < 16
      pub answered : answer ≡ taken
      pub fits : length (seat b k).statements + length (missing b k) ≤ 512
      pub after : After b k (filled k) [] b'
      pub events : events_of b l ≡ (if is_follower b k then map (λ s. call k (add_call s)) (missing b k) else [])

    -- a signing of s by one who is marked
    pub record Lies (s : Stmt) : Type 0 where
      pub marked : T (bit b.faulty s.origin)
      pub clean : Fit b.notices s
      pub answered : answer ≡ taken
      pub after : After b 0 (seat b 0) (s ∷ []) b'
      pub events : events_of b l ≡ signing s ∷ []

  pub data Effect (l : Option Line) : Type 0 where
    rests : Rests l → Effect l
    calls : (k : ℕ) (a : Call) → Calls l k a → Effect l
    gives : (k : ℕ) → Gives l k → Effect l
    lies : (s : Stmt) → Lies l s → Effect l

-- ---- the two outcomes of an `all`, and of a lie

module _ (b : Bench) (k : ℕ) where
  abbrev count : ℕ
  count = length (seat b k).statements + length (missing b k)

  abbrev AllIs : Stepped → Type 0
  AllIs r = (r ≡ refuse_line b k full) ⊎ ((count ≤ 512) × (r ≡ at b k (record { answer = taken; controller = (seat b k).controller; statements = (filled b k).statements }) b.pool (length (missing b k))))

  all-is : b.is_set_up ≡ true → AllIs (give_all b k)
  unfolding give_all
  all-is ready = either AllIs b.is_set_up (λ e. either AllIs (ltb 512 count) (λ f. inl refl) (λ f. inr (ltb-false 512 count f, refl))) (λ e. absurd (true≢false (sym ready ∙ e)))

module _ (b : Bench) (s : Stmt) where
  abbrev lied : Stepped
  lied = record { reply = record { who = s.origin; answer = taken; number = length b.pool }; bench = record { is_set_up = b.is_set_up; faulty = b.faulty; notices = b.notices; seats = b.seats; pool = b.pool ++ (s ∷ []) } }

  abbrev LieIs : Stepped → Type 0
  LieIs r = ((x : Refusal) × (¬ Acts (refused x)) × (r ≡ refuse_line b s.origin x)) ⊎ ((not (bit b.faulty s.origin) ≡ false) × (s.notice < b.notices) × (any (same_stmt s) b.pool ≡ false) × (r ≡ lied))

  lie-is : LieIs (lie_of b s)
  unfolding lie_of
  lie-is =
      either LieIs b.is_set_up (λ e. either LieIs (not (bit b.faulty s.origin)) (λ f. inl (out_of_place, (λ t. t), refl))
      (λ f. either LieIs (not (ltb s.notice b.notices)) (λ g. inl (unknown_notice, (λ t. t), refl))
      (λ g. either LieIs (any (same_stmt s) b.pool) (λ h. inl (repeated, (λ t. t), refl)) (λ h. either LieIs (leb 512 (length b.pool)) (λ i. inl (full, (λ t. t), refl))
      (λ i. inr (f, ltb-true s.notice b.notices (not-false (ltb s.notice b.notices) g), h, refl)))))) (λ e. inl (out_of_place, (λ t. t), refl))

-- ---- before the setup

new-seat : (k : ℕ) → seat new_bench k ≡ empty_seat
new-seat k = elim (dec_lt k 16) [
  | yes l ↦ list_of-at controllers (λ k. empty_seat) k empty_seat l
  | no l ↦ get_or-eq_default (list_of controllers (λ k. empty_seat)) empty_seat (omega (arith, list_of-length controllers (λ (k : ℕ). empty_seat)))
]

-- the bench after the setup
abbrev pub started_bench : Setup → ℕ → Bench
started_bench p faulty = record { is_set_up = true; faulty = faulty; notices = length p.senders; seats = list_of controllers (λ k. record { controller = started k p; statements = [] }); pool = [] }

pub record Starts (b : Bench) (p : Setup) (faulty : ℕ) : Type 0 where
  pub before : b.is_set_up ≡ false
  pub allowed : T (setup_allowed 0 p.members p.senders)
  pub windows : T (windows_allowed p.windows)
  pub after : (step b (some (setup p faulty))).bench ≡ started_bench p faulty

abbrev pub setup_of : {b : Bench} {p : Setup} {faulty : ℕ} → Starts b p faulty → Taken
setup_of {b} {p} {faulty} s = record { setting = p; faulty = faulty; allowed = s.allowed; windows = s.windows }

module _ (b : Bench) (p : Setup) (faulty : ℕ) where
  -- by whether the bench is set up, and whether the setup and its windows are allowed
  abbrev setup_by : Bool → Bool → Bool → Stepped
  setup_by x y z =
      if x || not y then refuse_line b (shown_sender p.senders) bad_setup else if not z then refuse_line b (shown_sender p.senders) bad_window
      else record { reply = record { who = shown_sender p.senders; answer = taken; number = 0 }; bench = started_bench p faulty }

  setup-by : {x y z : Bool} → b.is_set_up ≡ x → setup_allowed 0 p.members p.senders ≡ y → windows_allowed p.windows ≡ z → step b (some (setup p faulty)) ≡ setup_by x y z
  unfolding step set_up
  setup-by {x} {y} {z} e f g = ap₂ (λ x y. setup_by x y (windows_allowed p.windows)) e f ∙ ap (setup_by x y) g

  pub setup-taken : (step b (some (setup p faulty))).reply.answer ≡ taken → Starts b p faulty
  setup-taken e = go b.is_set_up (setup_allowed 0 p.members p.senders) (windows_allowed p.windows) refl refl refl
    where
      go : (x y z : Bool) → b.is_set_up ≡ x → setup_allowed 0 p.members p.senders ≡ y → windows_allowed p.windows ≡ z → Starts b p faulty
      go true y z f g k = let h : (setup_by true y z).reply.answer ≡ taken = sym (ap (λ r. r.reply.answer) (setup-by f g k)) ∙ e in let z : ◌≡◌ {A = ℕ} 0 1 = cc (h) in absurd (omega arith)
      go false false z f g k = let h : (setup_by false false z).reply.answer ≡ taken = sym (ap (λ r. r.reply.answer) (setup-by f g k)) ∙ e in let z : ◌≡◌ {A = ℕ} 0 1 = cc (h) in absurd (omega arith)
      go false true false f g k = let h : (setup_by false true false).reply.answer ≡ taken = sym (ap (λ r. r.reply.answer) (setup-by f g k)) ∙ e in let z : ◌≡◌ {A = ℕ} 0 1 = cc (h) in absurd (omega arith)
      go false true true f g k = record { before = f; allowed = subst T (sym g) tt; windows = subst T (sym k) tt; after = ap (λ r. r.bench) (setup-by f g k) }

-- a call on any controller is refused
module _ (l : Option Line) (k : ℕ) where
  abbrev unready : Outcome
  unready = refused_by not_set_up [] out_of_place

  new-call : step new_bench l ≡ at new_bench k unready [] 0 → events_of new_bench l ≡ [] → Rests new_bench l
  new-call e f = record {
    same = ap (λ r. r.bench) e ∙ ap (λ S. record { is_set_up = false; faulty = 0; notices = 1; seats = S; pool = [] }) (ap (set new_bench.seats k) (sym (new-seat k)) ∙ set-get_or new_bench.seats k empty_seat);
    idle = subst (λ r. ¬ Acts r.reply.answer) (sym e) (λ t. t);
    events = f;
  }

-- until a setup is taken nothing changes
pub new_line : (l : Option Line) → Rests new_bench l ⊎ ((p : Setup) × (faulty : ℕ) × (l ≡ some (setup p faulty)) × Starts new_bench p faulty)
unfolding step set_up give_to give_all turn_at after_turn lie_of request_join request_leave request_send turn_of events_of call_on is_follower signed_in
new_line none = inl (record { same = refl; idle = λ t. t; events = refl })
new_line (some (setup p f)) = go (setup_allowed 0 p.members p.senders) (windows_allowed p.windows) refl refl
  where
    refuses : {y z : Bool} (r : Refusal) → ¬ Acts (refused r) → setup_allowed 0 p.members p.senders ≡ y → windows_allowed p.windows ≡ z → setup_by new_bench p f false y z ≡ refuse_line new_bench (shown_sender p.senders) r → Rests new_bench (some (setup p f))
    refuses r i e g h =
        let is = setup-by new_bench p f refl e g ∙ h in
        record { same = ap (λ x. x.bench) is; idle = subst (λ x. ¬ Acts x.reply.answer) (sym is) i; events = refl }

    go : (y z : Bool) → setup_allowed 0 p.members p.senders ≡ y → windows_allowed p.windows ≡ z → Rests new_bench (some (setup p f)) ⊎ ((q : Setup) × (faulty : ℕ) × (some (setup p f) ≡ some (setup q faulty)) × Starts new_bench q faulty)
    go true true e g = inr (p, f, refl, setup-taken new_bench p f (ap (λ r. r.reply.answer) (setup-by new_bench p f refl e g)))
    go true false e g = inl (refuses bad_window (λ t. t) e g refl)
    go false z e g = inl (refuses bad_setup (λ t. t) e g refl)
new_line (some (join k)) = inl (new-call (some (join k)) k (ap (λ x. at new_bench k (request_join x.controller x.statements) [] 0) (new-seat k)) refl)
new_line (some (leave k)) = inl (new-call (some (leave k)) k (ap (λ x. at new_bench k (request_leave x.controller x.statements) [] 0) (new-seat k)) refl)
new_line (some (send k i m)) = inl (new-call (some (send k i m)) k (ap (λ x. at new_bench k (request_send x.controller x.statements i m) [] 0) (new-seat k)) refl)
new_line (some (give k n)) = inl (record { same = refl; idle = λ t. t; events = rw (le-ltb n 0 (omega arith)) refl })
new_line (some (all k)) = inl (record { same = refl; idle = λ t. t; events = refl })
new_line (some (turn k minute)) =
    let e = ap (λ x. let o : Outcome = turn_of x.controller x.statements (has_room []) minute in after_turn new_bench k o o.answer) (new-seat k) in
    inl (new-call (some (turn k minute)) k e (ap (λ r. map signing (signed_in r.reply.answer)) e))
new_line (some (lie s)) = inl (record { same = refl; idle = λ t. t; events = refl })
new_line (some no_statement) = inl (record { same = refl; idle = λ t. t; events = refl })

-- ---- after the setup

module _ (u : Taken) where
  open u use {setting, faulty}
  open setting use {senders}

  -- what every line keeps: each pooled statement keeps the field rules and stands once, and each record has only pooled statements
  pub record Valid (b : Bench) : Type 0 where
    pub is_set_up : b.is_set_up ≡ true
    pub marks : b.faulty ≡ faulty
    pub notices : b.notices ≡ length senders
    pub long : length b.seats ≡ 16
    pub clean : Clean (length senders) b.pool
    pub different : Different b.pool
    pub each : (k : ℕ) → k < 16 → Seated u b.pool k (seat b k)

  pub started-seat : (k : ℕ) → k < 16 → seat (started_bench setting faulty) k ≡ record { controller = started k setting; statements = [] }
  started-seat k l = list_of-at controllers (λ k. record { controller = started k setting; statements = [] }) k empty_seat l

  pub started-valid : Valid (started_bench setting faulty)
  started-valid = record {
    is_set_up = refl;
    marks = refl;
    notices = refl;
    long = list_of-length controllers (λ k. record { controller = started k setting; statements = [] });
    clean = λ s m. absurd (Memᴰ.not-nil m);
    different = tt;
    each = λ k l. subst (Seated u [] k) (sym (started-seat k l)) (record { in_ring = started-in-ring u k; known = λ a m. m });
  }

  module _ {b : Bench} (ok : Valid b) where
    pub follower-is : (k : ℕ) → is_follower b k ≡ follower faulty k
    unfolding is_follower
    follower-is k = rw (ok.is_set_up, ok.marks) refl

    -- who follows the rules
    pub yes-follows : (k : ℕ) → is_follower b k ≡ true → T (follower faulty k)
    yes-follows k e = subst T (follower-is k) (subst T (sym e) tt)

    pub no-follows : (k : ℕ) → is_follower b k ≡ false → follower faulty k ≡ false
    no-follows k e = sym (follower-is k) ∙ e

    -- ---- what a line does

    refusal : (l : Option Line) (w : ℕ) (r : Refusal) → ¬ Acts (refused r) → step b l ≡ refuse_line b w r → events_of b l ≡ [] → Effect b l
    refusal l w r idle e f = rests (record { same = ap (λ x. x.bench) e; idle = subst (λ x. ¬ Acts x.reply.answer) (sym e) idle; events = f })

    called : (l : Option Line) (k : ℕ) (a : Call) (Q : List Stmt) (n : ℕ) → k < 16 → Proper b.pool a → step b l ≡ at b k (out b k a) Q n → Grown b.pool (signed_in (out b k a).answer) Q
        → ((s : Stmt) → (out b k a).answer ≡ signed s → get_elem? Q n ≡ some s) → events_of b l ≡ (if is_follower b k then call k a ∷ [] else map signing (signed_in (out b k a).answer)) → Effect b l
    called l k a Q n near proper e g number events = calls k a (record {
      near = near;
      proper = proper;
      who = ap (λ r. r.reply.who) e;
      answered = ap (λ r. r.reply.answer) e;
      number = λ s f. subst (λ r. get_elem? r.bench.pool r.reply.number ≡ some s) (sym e) (number s f);
      after = subst (λ r. After b k (seat_of (out b k a)) (signed_in (out b k a).answer) r.bench) (sym e) (record { is_set_up = refl; marks = refl; notices = refl; seats = refl; pool = g });
      events = events;
    })

    -- a call other than a turn
    asked : (l : Option Line) (k : ℕ) (a : Call) → NoTurn a → k < 16 → Proper b.pool a → step b l ≡ at b k (out b k a) b.pool 0 → events_of b l ≡ call_on b k a → Effect b l
    unfolding call_on
    asked l k a t near proper e events =
        let rest = idle (has_room b.pool) (seat b k).controller (seat b k).statements a t in
        let none = unsigned (out b k a).answer rest in
        called l k a b.pool 0 near proper e (grown-none b.pool none) (λ s f. absurd (rest (subst Acts (sym f) tt))) (events ∙ ap (λ S. if is_follower b k then call k a ∷ [] else map signing S) (sym none))

    -- a refusal leaves the seat as it was
    refuse-at : (k : ℕ) (r : Refusal) → refuse_line b k r ≡ at b k (refused_by (seat b k).controller (seat b k).statements r) b.pool 0
    refuse-at k r = ap (λ S. record { reply = record { who = k; answer = refused r; number = 0 }; bench = record { is_set_up = b.is_set_up; faulty = b.faulty; notices = b.notices; seats = S; pool = b.pool } }) (sym (set-get_or b.seats k empty_seat))

    -- a give of what the pool has is an addition
    give-adds : (k n : ℕ) → k < 16 → n < length b.pool → give_to b k n ≡ at b k (out b k (add_call (get_or b.pool n no_stmt))) b.pool 0
    unfolding give_to outcome
    give-adds k n near h =
        let in_ring = (ok.each k near).in_ring in
        let i : s ∈ b.pool = get_d-in b.pool n no_stmt h in
        ap₂ (λ x y. if x then (if y then refuse_line b k out_of_place else given (any (same_stmt s) X) (leb 512 (length X))) else refuse_line b k out_of_place) ok.is_set_up (lt-leb (length b.pool) n h)
        ∙ cases (any (same_stmt s) X) (leb 512 (length X)) ∙ ap (λ o. at b k o b.pool 0) (sym (add_is c X b.pool s in_ring.is_set_up (ap (λ R. R.width) in_ring.ring) (length senders) (ap length in_ring.senders) (ok.clean s i) i))
      where
        s : Stmt
        s = get_or b.pool n no_stmt

        c : Controller
        c = (seat b k).controller

        X : List Stmt
        X = (seat b k).statements

        given : Bool → Bool → Stepped
        given x y = if x then refuse_line b k repeated else if y then refuse_line b k full else at b k (added c X s) b.pool 0

        cases : (x y : Bool) → given x y ≡ at b k (if x then refused_by c X repeated else if y then refused_by c X full else added c X s) b.pool 0
        cases true y = refuse-at k repeated
        cases false true = refuse-at k full
        cases false false = refl

    give-past : (k n : ℕ) → length b.pool ≤ n → give_to b k n ≡ refuse_line b k out_of_place
    unfolding give_to
    give-past k n h = rw (ok.is_set_up, le-leb (length b.pool) n h) refl

    give-effect : (k n : ℕ) → k < 16 → Effect b (some (give k n))
    unfolding step events_of
    give-effect k n near = go (ltb n (length b.pool)) refl
      where
        go : (x : Bool) → ltb n (length b.pool) ≡ x → Effect b (some (give k n))
        go true e =
            let h = ltb-true n (length b.pool) e in
            let a : Call = add_call (get_or b.pool n no_stmt) in
            asked (some (give k n)) k a tt near (get_d-in b.pool n no_stmt h) (give-adds k n near h) (rw e refl)
        go false e = refusal (some (give k n)) k out_of_place (λ t. t) (give-past k n (ltb-false n (length b.pool) e)) (rw e refl)

    all-effect : (k : ℕ) → k < 16 → Effect b (some (all k))
    unfolding step events_of
    all-effect k near = go (all-is b k ok.is_set_up)
      where
        go : AllIs b k (give_all b k) → Effect b (some (all k))
        go (inl e) = refusal (some (all k)) k full (λ t. t) e (rw (e, and-false (is_follower b k)) refl)
        go (inr (h, e)) = gives k (record {
          near = near;
          answered = ap (λ r. r.reply.answer) e;
          fits = h;
          after = subst (λ r. After b k (filled b k) [] r.bench) (sym e) (record { is_set_up = refl; marks = refl; notices = refl; seats = refl; pool = grown-none b.pool refl });
          events = rw (e, and-true (is_follower b k)) refl;
        })

    turn-effect : (k minute : ℕ) → k < 16 → Effect b (some (turn k minute))
    unfolding step turn_at after_turn outcome events_of signed_in
    turn-effect k minute near = go o.answer refl
      where
        o : Outcome
        o = out b k (turn_call minute)

        turned : (a : Answer) (Q : List Stmt) (n : ℕ) → o.answer ≡ a → after_turn b k o a ≡ at b k o Q n → Grown b.pool (signed_in a) Q → ((s : Stmt) → a ≡ signed s → get_elem? Q n ≡ some s) → Effect b (some (turn k minute))
        turned a Q n e f g number =
            let is : turn_at b k minute ≡ at b k o Q n = ap (after_turn b k o) e ∙ f in
            called (some (turn k minute)) k (turn_call minute) Q n near tt is (subst (λ a. Grown b.pool (signed_in a) Q) (sym e) g) (λ s h. number s (sym e ∙ h))
            (ap (λ r. if is_follower b k then call k (turn_call minute) ∷ [] else map signing (signed_in r.reply.answer)) is)

        still : (a : Answer) → o.answer ≡ a → signed_in a ≡ [] → after_turn b k o a ≡ at b k o b.pool 0 → Effect b (some (turn k minute))
        still a e n f = turned a b.pool 0 e f (grown-none b.pool n) (λ s h. absurd (Memᴰ.not-nil (subst (λ S. s ∈ S) (sym (ap signed_in h) ∙ n) (Memᴰ.head refl))))

        go : (a : Answer) → o.answer ≡ a → Effect b (some (turn k minute))
        go (signed s) e = turned (signed s) (pooled s b.pool) (number_of s b.pool) e refl (grown-pooled b.pool s) (λ x f. let p : s ≡ x = cc (f) in numbered s b.pool ∙ ap some p)
        go taken e = still taken e refl refl
        go (entered v) e = still (entered v) e refl refl
        go (delivered i m who) e = still (delivered i m who) e refl refl
        go left e = still left e refl refl
        go quiet e = still quiet e refl refl
        go (refused r) e = still (refused r) e refl refl

    lie-effect : (s : Stmt) → T (field_rules controllers b.notices s) → Effect b (some (lie s))
    unfolding step events_of
    lie-effect s clean = go (lie-is b s)
      where
        go : LieIs b s (lie_of b s) → Effect b (some (lie s))
        go (inl (x, idle, e)) = refusal (some (lie s)) s.origin x idle e (rw e refl)
        go (inr (f, h, g, e)) = lies s (record {
          marked = subst T (sym (not-false (bit b.faulty s.origin) f)) tt;
          clean = record { fields = clean; notice = h };
          answered = ap (λ r. r.reply.answer) e;
          after = subst (λ r. After b 0 (seat b 0) (s ∷ []) r.bench) (sym e) (record { is_set_up = refl; marks = refl; notices = refl; seats = sym (set-get_or b.seats 0 empty_seat); pool = grown-new b.pool s g });
          events = rw e refl;
        })

    pub effect : (l : Option Line) → Legible b.notices l → Effect b l
    unfolding step set_up events_of outcome
    effect none g = refusal none nobody out_of_place (λ t. t) refl refl
    effect (some (setup p f)) g = refusal (some (setup p f)) (shown_sender p.senders) bad_setup (λ t. t) (setup-by b p f ok.is_set_up refl refl) refl
    effect (some (join k)) g = asked (some (join k)) k join_call tt g tt refl refl
    effect (some (leave k)) g = asked (some (leave k)) k leave_call tt g tt refl refl
    effect (some (send k i m)) (g, h) = asked (some (send k i m)) k (send_call i m) tt g h refl refl
    effect (some (give k n)) g = give-effect k n g
    effect (some (all k)) g = all-effect k g
    effect (some (turn k minute)) g = turn-effect k minute g
    effect (some (lie s)) g = lie-effect s g
    effect (some no_statement) g = refusal (some no_statement) nobody bad_statement (λ t. t) (ap (λ x. if x then refuse_line b nobody bad_statement else refuse_line b nobody out_of_place) ok.is_set_up) refl
