-- What a line comes to on one controller or on its record.
-- Assumes nothing.
use Rattle.std.specs.Prelude.{if◌then◌else◌, Result, Ok, Err}
use mathlib.Core.Path.{◌≡◌, refl, sym, ap, ap₂, subst, ◌∙◌}
use mathlib.Core.Bool.{Bool, true, false, not, true≢false, ◌||◌}
use mathlib.Core.List.{List, [], ◌∷◌, ◌++◌, append-nil, map, map-append}
use mathlib.Core.Option.{some}
use Prim.Native.Nat.{ℕ, zero, suc, ◌+◌, ◌≤◌, ◌<◌}
use native.Mathlib.Decide.{dec_lt}
use native.Mathlib.Omega.{arith}
use lib.Dec.{T, eqb, leb, ltb}
use lib.ListN.{length, get_or, set, length-append, get_or-append}
use lib.Seq.{set-get_or}
use borrow.Author.Tests.{eq-eqb, ne_eqb, lt-ltb, le-ltb, le-leb, lt-leb}
use Rattle.protocol.specs.Lists.{any, filter, list_of}
use Rattle.protocol.specs.Statement.{Stmt, same_stmt, no_stmt}
use Rattle.protocol.specs.Controller as controller
use Rattle.protocol.specs.Call.{request_join, request_leave, request_send}
use Rattle.protocol.specs.Pool.{number_of, pooled, has_room}
use Rattle.protocol.specs.Turn.{turn as turn_of}
use Rattle.protocol.proofs.Numbered.{list_of-at}
use Rattle.protocol.proofs.Asked.{says-same-stmt}
use Rattle.protocol.proofs.Found.{either}
use Rattle.protocol.proofs.Unchanged.{Idle, Stays, join-stays, leave-stays, send-stays, turn-stays}
use Rattle.views.proofs.Tables.{any-zero, any-suc, any_at, map-list_of}
use Rattle.views.proofs.Views.{passes}
use Rattle.pool.specs.Pool.{stmt_at, pool_len, record_up_to, record_len, record_in, pool_of, AllIn, Grows}
use Rattle.pool.specs.Changes.{PushedTo}
use Rattle.engine.specs.declared.Controller.{Controller}
use Rattle.engine.specs.declared.Refusal.{Refusal}
use Rattle.engine.specs.declared.Refusal.TheVariants as refusal
use Rattle.engine.specs.declared.Answer.{Answer}
use Rattle.engine.specs.declared.Answer.TheVariants.{Taken, Signed, Entered, Delivered, Left, Quiet}
use Rattle.engine.specs.Meaning.{controller_is, Came, signed_number, answer_is, refusal_is}
use Rattle.engine.specs.Promise.{Change, unchanged, Meets, Calls, Turns, PoolAfter, NumbersAfter, signed_of}
use Rattle.schedule.specs.Line.{Line, join, leave, send, give, all, turn}
use Rattle.schedule.specs.declared.line.Line.{Line as Held}
use Rattle.schedule.specs.declared.line.Line.TheVariants as is
use Rattle.pool.proofs.Records.{pool-length, record-length}
use Rattle.bench.specs.declared.seat.Given.{Given}
use Rattle.bench.specs.Bench as bench
use Rattle.bench.specs.Bench.{Seat, empty_seat, Bench, Stepped, step}
use Rattle.bench.specs.Seats.{seat_is, Terms, bench_of, Distinct, Sound, numbers_in, has_number, Full, Keeps, NumberMarks, unmarked, RecordFilled, refused_for, taken_as, GivenAtSeat, Gives, GivesAll, changes_is, CalledAtSeat, IfIdle, Rests, turn_after, waits_at, turn_known, minute_in, CalledByLine}
use Rattle.bench.proofs.Unchanged.{idle-answer, Unsigned, join-unsigned, leave-unsigned, send-unsigned, Resting, Waits, turn-rests}
use Rattle.bench.proofs.Records.{ids, keeps_same, keeps-pushed, below-pushed, within-pool, pool-within, pool-most, keeps-filled, full-filled, filter-append, filter-one, numbers-pushed}

-- ---- a statement is in a record just where its number is

any-alike : {A B : Type 0} (p : A → Bool) (q : B → Bool) (f : ℕ → A) (g : ℕ → B) (m : ℕ) → ((i : ℕ) → i < m → p (f i) ≡ q (g i)) → any p (list_of m f) ≡ any q (list_of m g)
any-alike p q f g zero h = any-zero p f ∙ sym (any-zero q g)
any-alike p q f g (suc m) h = any-suc p f m ∙ ap₂ ◌||◌ (any-alike p q f g m (λ i l. h i (omega arith))) (h m (omega arith)) ∙ sym (any-suc q g m)

module _ (W : List ℕ) (d : Distinct W) (R : List ℕ) (w : AllIn W R) where
  by_number : (n : ℕ) → n < pool_len W → any (same_stmt (stmt_at W n)) (record_in W R) ≡ has_number R n
  unfolding record_up_to has_number numbers_in AllIn
  by_number n l = any-alike (same_stmt (stmt_at W n)) (eqb n) (λ i. stmt_at W (get_or R i 0)) (ids R) (record_len R) (λ i h. d.tells n (get_or R i 0) l (w i h))

by-numbers : (W R : List ℕ) → record_in W R ≡ map (stmt_at W) (numbers_in R)
unfolding record_up_to numbers_in
by-numbers W R = sym (map-list_of (stmt_at W) (record_len R) (ids R))

record-more : (W R R' L : List ℕ) → numbers_in R' ≡ numbers_in R ++ L → record_in W R' ≡ record_in W R ++ map (stmt_at W) L
record-more W R R' L e = by-numbers W R' ∙ ap (map (stmt_at W)) e ∙ map-append (stmt_at W) (numbers_in R) L ∙ ap (λ t. t ++ map (stmt_at W) L) (sym (by-numbers W R))

-- what passes a test, by number
filter-numbers : {A : Type 0} (p : A → Bool) (q : ℕ → Bool) (f : ℕ → A) (n : ℕ) → ((i : ℕ) → i < n → p (f i) ≡ q i) → filter p (list_of n f) ≡ map f (filter q (list_of n (λ i. i)))
unfolding list_of filter
filter-numbers p q f zero h = refl
filter-numbers {A} p q f (suc n) h =
    filter-append p (list_of n f) (f n ∷ [])
    ∙ ap₂ ◌++◌ (filter-numbers p q f n (λ i l. h i (omega arith))) (filter-one p (f n) (q n) (h n (omega arith)) ∙ go (q n))
    ∙ sym (ap (map f) (filter-append q (list_of n (λ i. i)) (n ∷ []) ∙ ap (λ t. filter q (list_of n (λ i. i)) ++ t) (filter-one q n (q n) refl)) ∙ map-append f (filter q (list_of n (λ i. i))) (if q n then n ∷ [] else []))
  where
    go : (b : Bool) → ◌≡◌ {A = List A} (if b then f n ∷ [] else []) (map f (if b then n ∷ [] else []))
    go true = refl
    go false = refl

length-map : {A B : Type 0} (f : A → B) (l : List A) → length (map f l) ≡ length l
length-map f [] = refl
length-map f (x ∷ l) = ap suc (length-map f l)

-- ---- the pool

pool-at : (W : List ℕ) (n : ℕ) → n < pool_len W → get_or (pool_of W) n no_stmt ≡ stmt_at W n
unfolding pool_of
pool-at W n l = list_of-at (pool_len W) (stmt_at W) n no_stmt l

-- ---- the ways in which a line on one record ends

replied : (k : ℕ) (ready : Bool) (terms : Terms) {a a' : controller.Answer} {n n' : ℕ} {X X' : List Seat} {P P' : List Stmt} → a ≡ a' → n ≡ n' → X ≡ X' → P ≡ P'
    → ◌≡◌ {A = Stepped} (record { reply = record { who = k; answer = a; number = n }; bench = record { is_set_up = ready; faulty = terms.faulty; notices = terms.notices; seats = X; pool = P } })
    (record { reply = record { who = k; answer = a'; number = n' }; bench = record { is_set_up = ready; faulty = terms.faulty; notices = terms.notices; seats = X'; pool = P' } })
replied k ready terms e f g h = cc

pub grows_same : (W : List ℕ) → Grows W W
grows_same W = record { more = omega arith; same = λ n l. refl }

-- a seat whose record is as it was
pub seat-same : (X : List Seat) (k : ℕ) {L : List Stmt} → (get_or X k empty_seat).statements ≡ L → set X k (record { controller = (get_or X k empty_seat).controller; statements = L }) ≡ X
seat-same X k e = ap (λ t. set X k (record { controller = (get_or X k empty_seat).controller; statements = t })) (sym e) ∙ set-get_or X k empty_seat

module _ (W R : List ℕ) (ready : Bool) (k : ℕ) (l : Line) (r : Given) where
  seat-refused : (q : Refusal) → r ≡ refused_for q → AllIn W R
      → ((terms : Terms) (X : List Seat) → (get_or X k empty_seat).statements ≡ record_in W R → step (bench_of ready terms X W) (some l) ≡ bench.refuse_line (bench_of ready terms X W) k (refusal_is q))
      → GivenAtSeat W R ready k l r R
  unfolding answer_is
  seat-refused q e w h = subst (λ t. GivenAtSeat W R ready k l t R) (sym e) (record {
    steps = λ terms X x. h terms X x ∙ replied k ready terms refl refl (sym (seat-same X k x)) refl;
    whole = w;
    keeps = keeps_same R;
    full = λ t. absurd (true≢false (sym t));
  })

  seat-taken : (n : ℕ) (b : Bool) (R' : List ℕ) → r ≡ taken_as n b → AllIn W R' → Keeps R R' → (b ≡ true → Full R' (pool_len W))
      → ((terms : Terms) (X : List Seat) → (get_or X k empty_seat).statements ≡ record_in W R
      → step (bench_of ready terms X W) (some l)
      ≡ record { reply = record { who = k; answer = controller.taken; number = n }; bench = bench_of ready terms (set X k (record { controller = (get_or X k empty_seat).controller; statements = record_in W R' })) W })
      → GivenAtSeat W R ready k l r R'
  unfolding answer_is
  seat-taken n b R' e w p f h = subst (λ t. GivenAtSeat W R ready k l t R') (sym e) (record { steps = h; whole = w; keeps = p; full = f })

-- ---- give

-- the tests of a gift, over plain values
abbrev gift : Bench → ℕ → List Stmt → Bool → Bool → Bool → Bool → Stmt → Stepped
gift b k Y ready unknown again full x =
    if ready then (if unknown then bench.refuse_line b k controller.out_of_place
    else if again then bench.refuse_line b k controller.repeated
    else if full then bench.refuse_line b k controller.full
    else bench.at b k (record { answer = controller.taken; controller = (bench.seat b k).controller; statements = Y ++ (x ∷ []) }) b.pool 0)
    else bench.refuse_line b k controller.out_of_place

give-is : (b : Bench) (k n : ℕ) (Y : List Stmt) → (bench.seat b k).statements ≡ Y
    → step b (some (give k n)) ≡ gift b k Y b.is_set_up (leb (length b.pool) n) (any (same_stmt (get_or b.pool n no_stmt)) Y) (leb 512 (length Y)) (get_or b.pool n no_stmt)
unfolding step bench.give_to
give-is b k n Y e = ap (λ (t : List Stmt). gift b k t b.is_set_up (leb (length b.pool) n) (any (same_stmt (get_or b.pool n no_stmt)) t) (leb 512 (length t)) (get_or b.pool n no_stmt)) e

module _ (W R : List ℕ) (ready : Bool) (n : ℕ) (r : Given) (s : Sound W R) where
  abbrev X₀ : List Stmt
  X₀ = record_in W R

  abbrev x₀ : Stmt
  x₀ = get_or (pool_of W) n no_stmt

  pub give-unready : r ≡ refused_for refusal.OutOfPlace → ready ≡ false → Gives W R ready n r R
  give-unready e q = record {
    to = λ k. seat-refused W R ready k (give k n) r refusal.OutOfPlace e s.whole (λ terms X x.
        give-is (bench_of ready terms X W) k n X₀ x ∙ ap (λ t. gift (bench_of ready terms X W) k X₀ t (leb (length (pool_of W)) n) (any (same_stmt x₀) X₀) (leb 512 (length X₀)) x₀) q);
  }

  module _ (q : ready ≡ true) where
    opened : (k : ℕ) (terms : Terms) (X : List Seat) → (get_or X k empty_seat).statements ≡ X₀ → {u a f : Bool} → leb (length (pool_of W)) n ≡ u → any (same_stmt x₀) X₀ ≡ a → leb 512 (length X₀) ≡ f
        → step (bench_of ready terms X W) (some (give k n)) ≡ gift (bench_of ready terms X W) k X₀ true u a f x₀
    opened k terms X x {u} {a} {f} eu ea ef = give-is (bench_of ready terms X W) k n X₀ x
        ∙ ap (λ t. gift (bench_of ready terms X W) k X₀ t (leb (length (pool_of W)) n) (any (same_stmt x₀) X₀) (leb 512 (length X₀)) x₀) q
        ∙ ap (λ t. gift (bench_of ready terms X W) k X₀ true t (any (same_stmt x₀) X₀) (leb 512 (length X₀)) x₀) eu
        ∙ ap (λ t. gift (bench_of ready terms X W) k X₀ true u t (leb 512 (length X₀)) x₀) ea
        ∙ ap (λ t. gift (bench_of ready terms X W) k X₀ true u a t x₀) ef

    known : n < pool_len W → leb (length (pool_of W)) n ≡ false
    known l = lt-leb (length (pool_of W)) n (omega (arith, pool-length W))

    in-record : (b : Bool) → n < pool_len W → has_number R n ≡ b → any (same_stmt x₀) X₀ ≡ b
    in-record b l e = ap (λ x. any (same_stmt x) X₀) (pool-at W n l) ∙ by_number W s.distinct R s.whole n l ∙ e

    pub give-unknown : r ≡ refused_for refusal.OutOfPlace → pool_len W ≤ n → Gives W R ready n r R
    give-unknown e l = record { to = λ k. seat-refused W R ready k (give k n) r refusal.OutOfPlace e s.whole (λ terms X x. opened k terms X x (le-leb (length (pool_of W)) n (omega (arith, pool-length W))) refl refl) }

    pub give-again : r ≡ refused_for refusal.Repeated → n < pool_len W → has_number R n ≡ true → Gives W R ready n r R
    give-again e l h = record { to = λ k. seat-refused W R ready k (give k n) r refusal.Repeated e s.whole (λ terms X x. opened k terms X x (known l) (in-record true l h) refl) }

    pub give-full : r ≡ refused_for refusal.Full → n < pool_len W → has_number R n ≡ false → 512 ≤ record_len R → Gives W R ready n r R
    give-full e l h f = record { to = λ k. seat-refused W R ready k (give k n) r refusal.Full e s.whole (λ terms X x. opened k terms X x (known l) (in-record false l h) (le-leb 512 (length X₀) (omega (arith, record-length W R)))) }

    pub give-taken : (R' : List ℕ) → r ≡ taken_as 0 false → n < pool_len W → has_number R n ≡ false → record_len R < 512 → PushedTo R n R' → Gives W R ready n r R'
    give-taken R' e l h f p = record {
      to = λ k. seat-taken W R ready k (give k n) r 0 false R' e (pool-within W R' (below-pushed R R' n (pool_len W) p l (within-pool W R s.whole))) (keeps-pushed R R' n p) (λ t. absurd (true≢false (sym t)))
          (λ terms X x. opened k terms X x (known l) (in-record false l h) (lt-leb 512 (length X₀) (omega (arith, record-length W R)))
          ∙ replied k ready terms refl refl (ap (λ t. set X k (record { controller = (get_or X k empty_seat).controller; statements = t }))
          (ap (λ t. X₀ ++ (t ∷ [])) (pool-at W n l) ∙ sym (record-more W R R' (n ∷ []) (numbers-pushed R R' n p f)))) refl);
    }

-- ---- all

abbrev lack : List Stmt → List Stmt → List Stmt
lack P Y = filter (λ x. not (any (same_stmt x) Y)) P

abbrev spread : Bench → ℕ → List Stmt → Bool → Bool → List Stmt → Stepped
spread b k Y ready over M =
    if ready then (if over then bench.refuse_line b k controller.full
    else bench.at b k (record { answer = controller.taken; controller = (bench.seat b k).controller; statements = Y ++ M }) b.pool (length M))
    else bench.refuse_line b k controller.out_of_place

all-is : (b : Bench) (k : ℕ) (Y : List Stmt) → (bench.seat b k).statements ≡ Y → step b (some (all k)) ≡ spread b k Y b.is_set_up (ltb 512 (length Y + length (lack b.pool Y))) (lack b.pool Y)
unfolding step bench.give_all
all-is b k Y e = ap (λ (t : List Stmt). spread b k t b.is_set_up (ltb 512 (length t + length (lack b.pool t))) (lack b.pool t)) e

module _ (W R : List ℕ) (ready : Bool) (r : Given) (s : Sound W R) where
  abbrev Y₀ : List Stmt
  Y₀ = record_in W R

  pub all-unready : r ≡ refused_for refusal.OutOfPlace → ready ≡ false → GivesAll W R ready r R
  all-unready e q = record {
    to = λ k. seat-refused W R ready k (all k) r refusal.OutOfPlace e s.whole (λ terms X x.
        all-is (bench_of ready terms X W) k Y₀ x ∙ ap (λ t. spread (bench_of ready terms X W) k Y₀ t (ltb 512 (length Y₀ + length (lack (pool_of W) Y₀))) (lack (pool_of W) Y₀)) q);
  }

  -- the numbers that have no mark are those of the statements that the record lacks
  module _ (q : ready ≡ true) (n : ℕ) (z : n ≡ pool_len W) (marks : List Bool) (t : NumberMarks R marks) where
    lack-is : lack (pool_of W) Y₀ ≡ map (stmt_at W) (unmarked marks n)
    unfolding pool_of unmarked
    lack-is = filter-numbers (λ x. not (any (same_stmt x) Y₀)) (λ i. not (get_or marks i false)) (stmt_at W) (pool_len W)
        (λ i l. ap not (by_number W s.distinct R s.whole i l ∙ sym (t.tells i (omega (arith, pool-most W)))))
        ∙ ap (λ m. map (stmt_at W) (filter (λ i. not (get_or marks i false)) (list_of m (λ i. i)))) (sym z)

    lack-long : length (lack (pool_of W) Y₀) ≡ length (unmarked marks n)
    lack-long = ap length lack-is ∙ length-map (stmt_at W) (unmarked marks n)

    spreads : (k : ℕ) (terms : Terms) (X : List Seat) → (get_or X k empty_seat).statements ≡ Y₀ → {o : Bool} → ltb 512 (record_len R + length (unmarked marks n)) ≡ o
        → step (bench_of ready terms X W) (some (all k)) ≡ spread (bench_of ready terms X W) k Y₀ true o (lack (pool_of W) Y₀)
    spreads k terms X x {o} eo = all-is (bench_of ready terms X W) k Y₀ x
        ∙ ap (λ u. spread (bench_of ready terms X W) k Y₀ u (ltb 512 (length Y₀ + length (lack (pool_of W) Y₀))) (lack (pool_of W) Y₀)) q
        ∙ ap (λ u. spread (bench_of ready terms X W) k Y₀ true u (lack (pool_of W) Y₀)) (ap₂ (λ i j. ltb 512 (i + j)) (record-length W R) lack-long ∙ eo)

    pub all-full : r ≡ refused_for refusal.Full → 512 < record_len R + length (unmarked marks n) → GivesAll W R ready r R
    all-full e l = record { to = λ k. seat-refused W R ready k (all k) r refusal.Full e s.whole (λ terms X x. spreads k terms X x (lt-ltb 512 (record_len R + length (unmarked marks n)) l)) }

    pub all-taken : (R' : List ℕ) (m : ℕ) → m ≡ length (unmarked marks n) → r ≡ taken_as m true → RecordFilled R marks n R' → record_len R + length (unmarked marks n) ≤ 512 → GivesAll W R ready r R'
    all-taken R' m c e f l = record {
      to = λ k. seat-taken W R ready k (all k) r m true R' e (pool-within W R' (f.below (pool_len W) (omega arith) (within-pool W R s.whole))) (keeps-filled marks R R' n t f l)
          (λ h. subst (Full R') z (full-filled marks R R' n t f l (omega (arith, pool-most W))))
          (λ terms X x. spreads k terms X x (le-ltb 512 (record_len R + length (unmarked marks n)) l)
          ∙ replied k ready terms refl (lack-long ∙ sym c) (ap (λ u. set X k (record { controller = (get_or X k empty_seat).controller; statements = u })) (ap (λ u. Y₀ ++ u) lack-is ∙ sym (record-more W R R' (unmarked marks n) (f.numbers l)))) refl);
    }

-- a record that has every number lacks nothing
module _ (W R : List ℕ) (ready : Bool) (s : Sound W R) (q : ready ≡ true) (f : Full R (pool_len W)) where
  nothing : (n : ℕ) → n ≤ pool_len W → filter (λ x. not (any (same_stmt x) (record_in W R))) (list_of n (stmt_at W)) ≡ []
  unfolding list_of filter Full
  nothing zero l = refl
  nothing (suc n) l =
      filter-append (λ x. not (any (same_stmt x) (record_in W R))) (list_of n (stmt_at W)) (stmt_at W n ∷ [])
      ∙ ap₂ ◌++◌ (nothing n (omega arith)) (filter-one (λ x. not (any (same_stmt x) (record_in W R))) (stmt_at W n) false (ap not (by_number W s.distinct R s.whole n (omega arith) ∙ f n (omega arith))))

  pub all-needless : (k : ℕ) (terms : Terms) (X : List Seat) → (get_or X k empty_seat).statements ≡ record_in W R
      → step (bench_of ready terms X W) (some (all k)) ≡ record { reply = record { who = k; answer = controller.taken; number = 0 }; bench = bench_of ready terms X W }
  unfolding pool_of
  all-needless k terms X x = all-is (bench_of ready terms X W) k (record_in W R) x
      ∙ ap (λ u. spread (bench_of ready terms X W) k (record_in W R) u (ltb 512 (length (record_in W R) + length (lack (pool_of W) (record_in W R)))) (lack (pool_of W) (record_in W R))) q
      ∙ ap (λ u. spread (bench_of ready terms X W) k (record_in W R) true (ltb 512 (length (record_in W R) + length u)) u) (nothing (pool_len W) (omega arith))
      ∙ ap (λ u. spread (bench_of ready terms X W) k (record_in W R) true u []) (le-ltb 512 (length (record_in W R) + 0) (omega (arith, record-length W R)))
      ∙ replied k ready terms refl refl (seat-same X k (x ∙ sym (append-nil (record_in W R)))) refl

-- ---- a pool with one statement more

get_d-append-last : (P : List Stmt) (s : Stmt) → get_or (P ++ (s ∷ [])) (length P) no_stmt ≡ s
get_d-append-last [] s = refl
get_d-append-last (x ∷ P) s = get_d-append-last P s

module _ (W W' : List ℕ) (s : Stmt) (e : pool_of W' ≡ pool_of W ++ (s ∷ [])) where
  one-longer : pool_len W' ≡ pool_len W + 1
  one-longer = sym (pool-length W') ∙ ap length e ∙ length-append (pool_of W) (s ∷ []) ∙ ap (λ n. n + 1) (pool-length W)

  as_before : (n : ℕ) → n < pool_len W → stmt_at W' n ≡ stmt_at W n
  as_before n l = sym (pool-at W' n (omega (arith, one-longer))) ∙ ap (λ P. get_or P n no_stmt) e ∙ get_or-append (pool_of W) (s ∷ []) no_stmt n (omega (arith, pool-length W)) ∙ pool-at W n l

  at-the-end : stmt_at W' (pool_len W) ≡ s
  at-the-end = sym (pool-at W' (pool_len W) (omega (arith, one-longer))) ∙ ap (λ P. get_or P (pool_len W) no_stmt) e ∙ ap (λ n. get_or (pool_of W ++ (s ∷ [])) n no_stmt) (sym (pool-length W)) ∙ get_d-append-last (pool_of W) s

  pub one_grows : Grows W W'
  one_grows = record { more = omega (arith, one-longer); same = as_before }

  module _ (new : any (same_stmt s) (pool_of W) ≡ false) (d : Distinct W) where
    not_there : (n : ℕ) → n < pool_len W → same_stmt s (stmt_at W n) ≡ false
    unfolding pool_of
    not_there n l = go (same_stmt s (stmt_at W n)) refl
      where
        go : (b : Bool) → same_stmt s (stmt_at W n) ≡ b → same_stmt s (stmt_at W n) ≡ false
        go false h = h
        go true h = absurd (subst T (sym (any_at (same_stmt s) (stmt_at W) (pool_len W) l h) ∙ new) tt)

    not-there-back : (n : ℕ) → n < pool_len W → same_stmt (stmt_at W n) s ≡ false
    not-there-back n l = go (same_stmt (stmt_at W n) s) refl
      where
        go : (b : Bool) → same_stmt (stmt_at W n) s ≡ b → same_stmt (stmt_at W n) s ≡ false
        go false h = h
        go true h = absurd (subst T (sym (passes says-same-stmt (sym (says-same-stmt.sound (subst T (sym h) tt)))) ∙ not_there n l) tt)

    pub one-distinct : Distinct W'
    one-distinct = record {
      tells = λ i j li lj. elim (dec_lt i (pool_len W)) [
        | yes a ↦ elim (dec_lt j (pool_len W)) [
          | yes b ↦ ap₂ same_stmt (as_before i a) (as_before j b) ∙ d.tells i j a b
          | no b ↦ (let q : j ≡ pool_len W = omega (arith, one-longer) in ap₂ same_stmt (as_before i a) (ap (stmt_at W') q ∙ at-the-end) ∙ not-there-back i a ∙ sym (ne_eqb i j (λ h. omega arith)))
        ]
        | no a ↦ (let q : i ≡ pool_len W = omega (arith, one-longer) in elim (dec_lt j (pool_len W)) [
          | yes b ↦ ap₂ same_stmt (ap (stmt_at W') q ∙ at-the-end) (as_before j b) ∙ not_there j b ∙ sym (ne_eqb i j (λ h. omega arith))
          | no b ↦ (let p : j ≡ pool_len W = omega (arith, one-longer) in ap₂ same_stmt (ap (stmt_at W') q ∙ at-the-end) (ap (stmt_at W') p ∙ at-the-end) ∙ passes says-same-stmt refl ∙ sym (eq-eqb i j (q ∙ sym p)))
        ])
      ];
    }

-- ---- a turn

same_grows : {W W' : List ℕ} → pool_of W' ≡ pool_of W → Grows W W'
same_grows {W} {W'} e =
    let l : pool_len W' ≡ pool_len W = sym (pool-length W') ∙ ap length e ∙ pool-length W in
    record { more = omega arith; same = λ n h. sym (pool-at W' n (omega arith)) ∙ ap (λ P. get_or P n no_stmt) e ∙ pool-at W n h }

same-distinct : {W W' : List ℕ} → pool_of W' ≡ pool_of W → Distinct W → Distinct W'
same-distinct {W} {W'} e d =
    let l : pool_len W' ≡ pool_len W = sym (pool-length W') ∙ ap length e ∙ pool-length W in
    record { tells = λ i j a b. ap₂ same_stmt ((same_grows e).same i (omega arith)) ((same_grows e).same j (omega arith)) ∙ d.tells i j (omega arith) (omega arith) }

abbrev pool_then : controller.Answer → List Stmt → List Stmt
pool_then controller.taken P = P
pool_then (controller.signed s) P = pooled s P
pool_then (controller.entered v) P = P
pool_then (controller.delivered i m who) P = P
pool_then controller.left P = P
pool_then controller.quiet P = P
pool_then (controller.refused r) P = P

abbrev number_then : controller.Answer → List Stmt → ℕ
number_then controller.taken P = 0
number_then (controller.signed s) P = number_of s P
number_then (controller.entered v) P = 0
number_then (controller.delivered i m who) P = 0
number_then controller.left P = 0
number_then controller.quiet P = 0
number_then (controller.refused r) P = 0

after-turn : (b : Bench) (k : ℕ) (o : controller.Outcome) (a : controller.Answer) → bench.after_turn b k o a ≡ bench.at b k o (pool_then a b.pool) (number_then a b.pool)
unfolding bench.after_turn
after-turn b k o controller.taken = refl
after-turn b k o (controller.signed s) = refl
after-turn b k o (controller.entered v) = refl
after-turn b k o (controller.delivered i m who) = refl
after-turn b k o controller.left = refl
after-turn b k o controller.quiet = refl
after-turn b k o (controller.refused r) = refl

pool-then : (W W' : List ℕ) (a : controller.Answer) → PoolAfter W (signed_of a) W' → pool_of W' ≡ pool_then a (pool_of W)
pool-then W W' controller.taken e = ap pool_of e
pool-then W W' (controller.signed s) e = e.is
pool-then W W' (controller.entered v) e = ap pool_of e
pool-then W W' (controller.delivered i m who) e = ap pool_of e
pool-then W W' controller.left e = ap pool_of e
pool-then W W' controller.quiet e = ap pool_of e
pool-then W W' (controller.refused r) e = ap pool_of e

not-signed : (W : List ℕ) (x : Result Answer Refusal) (a : controller.Answer) → answer_is W x ≡ a → signed_of a ≡ unchanged → signed_number x ≡ 0
unfolding answer_is
not-signed W (Ok Taken) a e h = refl
not-signed W (Ok (Signed n)) a e h = let q = ap signed_of e ∙ h in let z : ◌≡◌ {A = ℕ} 0 1 = cc in absurd (omega arith)
not-signed W (Ok (Entered v)) a e h = refl
not-signed W (Ok (Delivered i m who)) a e h = refl
not-signed W (Ok Left) a e h = refl
not-signed W (Ok Quiet) a e h = refl
not-signed W (Err q) a e h = refl

number-then : (W W' : List ℕ) (x : Result Answer Refusal) (a : controller.Answer) → answer_is W' x ≡ a → ((s : Stmt) → a ≡ controller.signed s → x ≡ Ok (Signed (number_of s (pool_of W)))) → number_then a (pool_of W) ≡ signed_number x
number-then W W' x controller.taken e h = sym (not-signed W' x controller.taken e refl)
number-then W W' x (controller.signed s) e h = sym (ap signed_number (h s refl))
number-then W W' x (controller.entered v) e h = sym (not-signed W' x (controller.entered v) e refl)
number-then W W' x (controller.delivered i m who) e h = sym (not-signed W' x (controller.delivered i m who) e refl)
number-then W W' x controller.left e h = sym (not-signed W' x controller.left e refl)
number-then W W' x controller.quiet e h = sym (not-signed W' x controller.quiet e refl)
number-then W W' x (controller.refused r) e h = sym (not-signed W' x (controller.refused r) e refl)

-- the pool with s in it
module _ (W W' : List ℕ) (s : Stmt) (e : pool_of W' ≡ pooled s (pool_of W)) (d : Distinct W) where
  pub pooled-keeps : Distinct W' × Grows W W'
  unfolding pooled
  pooled-keeps = go (any (same_stmt s) (pool_of W)) refl e
    where
      go : (b : Bool) → any (same_stmt s) (pool_of W) ≡ b → pool_of W' ≡ (if b then pool_of W else pool_of W ++ (s ∷ [])) → Distinct W' × Grows W W'
      go true h q = (same-distinct q d, same_grows q)
      go false h q = (one-distinct W W' s q h d, one_grows W W' s q)

turn-keeps : (W W' : List ℕ) (a : controller.Answer) → pool_of W' ≡ pool_then a (pool_of W) → Distinct W → Distinct W' × Grows W W'
turn-keeps W W' controller.taken e d = (same-distinct e d, same_grows e)
turn-keeps W W' (controller.signed s) e d = pooled-keeps W W' s e d
turn-keeps W W' (controller.entered v) e d = (same-distinct e d, same_grows e)
turn-keeps W W' (controller.delivered i m who) e d = (same-distinct e d, same_grows e)
turn-keeps W W' controller.left e d = (same-distinct e d, same_grows e)
turn-keeps W W' controller.quiet e d = (same-distinct e d, same_grows e)
turn-keeps W W' (controller.refused r) e d = (same-distinct e d, same_grows e)

-- ---- calls

seat-of : {W R W' R' : List ℕ} {c : Controller} {o : controller.Outcome} {p : Change} {ro : Came} → Meets W R c o p ro W' R' → AllIn W R
    → record { controller = o.controller; statements = o.statements } ≡ seat_is W' ro.controller R'
seat-of m w = ap₂ (λ x y. record { controller = x; statements = y }) (sym m.controller) (sym (m.statements w).0)

-- a call that changed nothing
stays-so : {W R W' R' : List ℕ} {c : Controller} {X : List Stmt} {o : controller.Outcome} {p : Change} {ro : Came} → Meets W R c o p ro W' R' → Stays (controller_is c) X o → changes_is ro.answer ≡ false
    → controller_is ro.controller ≡ controller_is c
stays-so {W} {R} {W'} {R'} {c} {X} {o} {p} {ro} m s e = m.controller ∙ (s.stays (subst Idle m.answer (idle-answer W' ro.answer e))).0

-- a request
module _ (W R : List ℕ) (c : Controller) (k : ℕ) (l : Line) (o : Came) (s : Sound W R) (f : controller.Controller → List Stmt → controller.Outcome)
    (st : (d : controller.Controller) (X : List Stmt) → Stays d X (f d X)) (un : (d : controller.Controller) (X : List Stmt) → Unsigned (f d X)) (m : Calls (f (controller_is c)) c o)
    (h : (b : Bench) → step b (some l) ≡ bench.at b k (f (bench.seat b k).controller (bench.seat b k).statements) b.pool 0) where
  asked : CalledAtSeat W R c k l o W R
  unfolding Calls
  asked = record {
    steps = λ ready terms X x.
        h (bench_of ready terms X W)
        ∙ ap (λ (t : Seat). bench.at (bench_of ready terms X W) k (f t.controller t.statements) (pool_of W) 0) x
        ∙ replied k ready terms (sym (m W R).answer) (sym (not-signed W o.answer (f (controller_is c) (record_in W R)).answer (m W R).answer (un (controller_is c) (record_in W R)).unsigned)) (ap (λ t. set X k t) (seat-of (m W R) s.whole)) refl;
    sound = s;
    grows = grows_same W;
    keeps = keeps_same R;
    same = stays-so (m W R) (st (controller_is c) (record_in W R));
  }

keeps-after : (W R R' : List ℕ) (a : controller.Answer) → NumbersAfter W R (signed_of a) R' → Keeps R R'
keeps-after W R R' controller.taken e = subst (Keeps R) (sym e) (keeps_same R)
keeps-after W R R' (controller.signed s) e = keeps-pushed R R' (number_of s (pool_of W)) e
keeps-after W R R' (controller.entered v) e = subst (Keeps R) (sym e) (keeps_same R)
keeps-after W R R' (controller.delivered i m who) e = subst (Keeps R) (sym e) (keeps_same R)
keeps-after W R R' controller.left e = subst (Keeps R) (sym e) (keeps_same R)
keeps-after W R R' controller.quiet e = subst (Keeps R) (sym e) (keeps_same R)
keeps-after W R R' (controller.refused r) e = subst (Keeps R) (sym e) (keeps_same R)

resting-idle : (a : controller.Answer) → Resting a → Idle a
resting-idle controller.left r = tt
resting-idle controller.quiet r = tt
resting-idle controller.taken r = elim r [ ]
resting-idle (controller.signed _) r = elim r [ ]
resting-idle (controller.entered _) r = elim r [ ]
resting-idle (controller.delivered _ _ _) r = elim r [ ]
resting-idle (controller.refused _) r = elim r [ ]

waits-as : (c : Controller) (minute : ℕ) → waits_at c minute ≡ false → Waits (controller_is c) [] minute ≡ false
unfolding waits_at controller_is
waits-as c minute e = e

same_outcome : {o : controller.Outcome} {a : controller.Answer} {d : controller.Controller} {X : List Stmt} → o.answer ≡ a → o.controller ≡ d → o.statements ≡ X → o ≡ record { answer = a; controller = d; statements = X }
same_outcome {o} {a} e f g = ap (λ x. record { answer = x; controller = o.controller; statements = o.statements }) e ∙ ap₂ (λ d X. record { answer = a; controller = d; statements = X }) f g

module _ (W R W' R' : List ℕ) (c : Controller) (k minute : ℕ) (ro : Came) (s : Sound W R) where
  abbrev outcome : controller.Outcome
  outcome = turn_of (controller_is c) (record_in W R) (has_room (pool_of W)) minute

  turns : Turns W R c outcome ro W' R' → CalledAtSeat W R c k (turn k minute) ro W' R'
  unfolding step bench.turn_at
  turns m = record {
    steps = λ ready terms X x.
        ap (λ (t : Seat). bench.after_turn (bench_of ready terms X W) k (turn_of t.controller t.statements (has_room (pool_of W)) minute) (turn_of t.controller t.statements (has_room (pool_of W)) minute).answer) x
        ∙ after-turn (bench_of ready terms X W) k outcome outcome.answer
        ∙ replied k ready terms (sym m.answer) (number-then W W' ro.answer outcome.answer m.answer m.number)
        (ap (λ t. set X k t) (seat-of m s.whole)) (sym (pool-then W W' outcome.answer m.pool));
    sound = record { distinct = (turn-keeps W W' outcome.answer (pool-then W W' outcome.answer m.pool) s.distinct).0; whole = (m.statements s.whole).1 };
    grows = (turn-keeps W W' outcome.answer (pool-then W W' outcome.answer m.pool) s.distinct).1;
    keeps = keeps-after W R R' outcome.answer m.numbers;
    same = stays-so m (turn-stays (controller_is c) (record_in W R) (has_room (pool_of W)) minute);
  }

  -- one that found nothing to do
  turn-rested : waits_at c minute ≡ false → Turns W R c outcome ro W' R' → IfIdle (turn_after ro.answer) (Rests W' R' ro.controller)
  unfolding answer_is
  turn-rested w m = go ro.answer refl
    where
      same-controller : Resting outcome.answer → outcome.controller ≡ controller_is c
      same-controller r = ((turn-stays (controller_is c) (record_in W R) (has_room (pool_of W)) minute).stays (resting-idle outcome.answer r)).0

      same-statements : Resting outcome.answer → outcome.statements ≡ record_in W R
      same-statements r = ((turn-stays (controller_is c) (record_in W R) (has_room (pool_of W)) minute).stays (resting-idle outcome.answer r)).1

      again : (a : Result Answer Refusal) → changes_is a ≡ false → outcome.answer ≡ answer_is W' a → Resting (answer_is W' a) → Rests W' R' ro.controller a
      again a i e r = record {
        idle = i;
        turns = λ room minute' l.
            ap₂ (λ d X. turn_of d X room minute') (m.controller ∙ same-controller (subst Resting (sym e) r)) ((m.statements s.whole).0 ∙ same-statements (subst Resting (sym e) r))
            ∙ turn-rests (controller_is c) (record_in W R) (has_room (pool_of W)) room minute minute' (waits-as c minute w) l (subst Resting (sym e) r)
            ∙ same_outcome e (sym m.controller) (sym (m.statements s.whole).0);
      }

      go : (a : Result Answer Refusal) → ro.answer ≡ a → IfIdle (turn_after a) (Rests W' R' ro.controller)
      go (Ok Taken) e = tt
      go (Ok (Signed n)) e = tt
      go (Ok (Entered v)) e = tt
      go (Ok (Delivered i m who)) e = tt
      go (Ok Left) e = again (Ok Left) refl (sym m.answer ∙ ap (answer_is W') e) tt
      go (Ok Quiet) e = again (Ok Quiet) refl (sym m.answer ∙ ap (answer_is W') e) tt
      go (Err r) e = tt

  -- what is known of its next turn
  turn-known : Turns W R c outcome ro W' R' → IfIdle (turn_known c minute ro.answer) (Rests W' R' ro.controller)
  unfolding turn_known
  turn-known m = either (λ v. IfIdle v (Rests W' R' ro.controller)) (waits_at c minute) (λ w. tt) (λ w. turn-rested w m)

-- the line that calls
module _ (W R : List ℕ) (c : Controller) (o : Came) (s : Sound W R) {l : Held} {k : ℕ} where
  pub calls-join : l ≡ is.Join k → Calls (request_join (controller_is c)) c o → CalledByLine W R c l o W R
  unfolding step
  calls-join e m = subst (λ x. CalledByLine W R c x o W R) (sym e) (record { line = join k; means = refl; called = asked W R c k (join k) o s request_join join-stays join-unsigned m (λ b. refl); rests = tt })

  pub calls-leave : l ≡ is.Leave k → Calls (request_leave (controller_is c)) c o → CalledByLine W R c l o W R
  unfolding step
  calls-leave e m = subst (λ x. CalledByLine W R c x o W R) (sym e) (record { line = leave k; means = refl; called = asked W R c k (leave k) o s request_leave leave-stays leave-unsigned m (λ b. refl); rests = tt })

  pub calls-send : {i payload : ℕ} → l ≡ is.Send k i payload → Calls (λ X. request_send (controller_is c) X i payload) c o → CalledByLine W R c l o W R
  unfolding step
  calls-send {i} {payload} e m = subst (λ x. CalledByLine W R c x o W R) (sym e)
      (record { line = send k i payload; means = refl; called = asked W R c k (send k i payload) o s (λ d X. request_send d X i payload) (λ d X. send-stays d X i payload) (λ d X. send-unsigned d X i payload) m (λ b. refl); rests = tt })

  pub calls-turn : {W' R' : List ℕ} (minute : ℕ) → l ≡ is.Turn k (minute_in l) → minute ≡ minute_in l → Turns W R c (turn_of (controller_is c) (record_in W R) (has_room (pool_of W)) minute) o W' R' → CalledByLine W R c l o W' R'
  calls-turn {W'} {R'} minute e f m =
      let m' : Turns W R c (turn_of (controller_is c) (record_in W R) (has_room (pool_of W)) (minute_in l)) o W' R' = subst (λ n. Turns W R c (turn_of (controller_is c) (record_in W R) (has_room (pool_of W)) n) o W' R') f m in
      subst (λ x. CalledByLine W R c x o W' R') (sym e) (record { line = turn k (minute_in l); means = refl; called = turns W R W' R' c k (minute_in l) o s m'; rests = turn-known W R W' R' c k (minute_in l) o s m' })
