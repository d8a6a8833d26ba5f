-- What a line comes to that calls no controller: on one record, on the pool, or on all.
-- Assumes nothing.
use Rattle.std.specs.Prelude.{if◌then◌else◌, Some, None, Result, Ok, Err}
use mathlib.Core.Path.{◌≡◌, refl, sym, ap, ap₂, subst, ◌∙◌}
use mathlib.Core.Bool.{Bool, true, false, not, ◌&&◌, ◌||◌, true≢false}
use mathlib.Core.List.{List, [], ◌∷◌, ◌++◌}
use mathlib.Core.Option.{some, none}
use Prim.Native.Nat.{ℕ, suc, ◌%◌, ◌≤◌, ◌<◌, min}
use native.Mathlib.Decide.{dec_lt}
use native.Mathlib.Omega.{arith}
use lib.Dec.{T, eqb, leb, ltb, leb→le}
use lib.ListN.{length, get_or, set}
use lib.Seq.{ext_get_or}
use borrow.Author.Tests.{eq-eqb, ne_eqb, lt-ltb, le-ltb, le-leb, lt-leb}
use Rattle.protocol.specs.Sets.{bit}
use Rattle.protocol.specs.Lists.{any, list_of}
use Rattle.protocol.specs.View.{controllers, member}
use Rattle.protocol.specs.Statement.{Stmt, same_stmt}
use Rattle.protocol.specs.Controller as controller
use Rattle.protocol.specs.Window.{Window, windows_allowed}
use Rattle.protocol.specs.Call as call
use Rattle.protocol.specs.Call.{setup_allowed, started}
use Rattle.protocol.proofs.Bits.{bit-zero}
use Rattle.protocol.proofs.Found.{none≢some, if-true, if-false}
use Rattle.protocol.proofs.Numbered.{list_of-length, list_of-at, list_of-cong}
use Rattle.protocol.proofs.Rules.{and_first, and_second}
use Rattle.statements.specs.declared.Statement.{Statement}
use Rattle.statements.specs.Meaning.{stmt_of}
use Rattle.pool.specs.declared.Full.{Full as NoRoom}
use Rattle.pool.specs.Pool.{stmt_at, pool_len, record_up_to, record_len, record_in, pool_of, AllIn, Grows}
use Rattle.pool.specs.Changes as memory
use Rattle.views.specs.Options.{option_of}
use Rattle.views.proofs.Options.{option-some}
use Rattle.pool.proofs.Searches.{full≢at, at-injective}
use Rattle.windows.specs.Windows.{windows_in}
use Rattle.windows.proofs.Windows.{few-windows}
use Rattle.engine.specs.declared.Refusal.{Refusal}
use Rattle.engine.specs.declared.Refusal.TheVariants as refusal
use Rattle.engine.specs.declared.Answer.TheVariants.{Taken}
use Rattle.engine.specs.Meaning.{first_senders, answer_is, refusal_is}
use Rattle.engine.proofs.Pools.{Located, there, absent, in-pool, grown-pool}
use Rattle.schedule.specs.declared.line.Line.{Line as Held}
use Rattle.schedule.specs.declared.line.Line.TheVariants as is
use Rattle.schedule.specs.declared.line.ReadSetup.{ReadSetup}
use Rattle.pool.proofs.Records.{pool-length}
use Rattle.bench.specs.declared.seat.Given.{Given}
use Rattle.bench.specs.declared.state.Setting.{Setting}
use Rattle.bench.specs.declared.state.Effect.{Effect}
use Rattle.schedule.specs.Line.{Line, setup, all, lie, no_statement, ended}
use Rattle.schedule.specs.Reading.{a_line, meant, Tells, Lying, LiedOf, SettingUp, SendersIn, ReadsSetup, SetupOf}
use Rattle.schedule.proofs.Lies.{lie-untold}
use Rattle.schedule.proofs.Windows.{windows-are, windows-allowed}
use Rattle.bench.specs.Bench as bench
use Rattle.bench.specs.Bench.{Seat, empty_seat, Bench, step}
use Rattle.bench.specs.Seats.{terms_of, bench_of, Distinct, Sound, Full, Keeps, setup_in, minute_in, reply_is, refused_for, taken_as, GivenAtSeat, Gives, GivesAll, ReadFrom, seat_of, is_call, ToldAs, SteppedAs, SteppedBy, SteppedOnPool, SteppedOnPoolBy, SetUpBy, shown_in, NoStatement, LacksNothing}
use Rattle.bench.proofs.Records.{keeps_same}
use Rattle.bench.proofs.Seats.{grows_same, seat-same, one_grows, one-distinct, all-needless}

-- the parts of what a line leaves
stepped : {w w' : ℕ} {a a' : controller.Answer} {n n' : ℕ} {g g' : Bool} {f f' m m' : ℕ} {X X' : List Seat} {P P' : List Stmt} → w ≡ w' → a ≡ a' → n ≡ n' → g ≡ g' → f ≡ f' → m ≡ m' → X ≡ X' → P ≡ P'
    → ◌≡◌ {A = bench.Stepped} (record { reply = record { who = w; answer = a; number = n }; bench = record { is_set_up = g; faulty = f; notices = m; seats = X; pool = P } })
    (record { reply = record { who = w'; answer = a'; number = n' }; bench = record { is_set_up = g'; faulty = f'; notices = m'; seats = X'; pool = P' } })
stepped e f g h i l j k = cc

pub told-as : {g : Setting} {who : ℕ} {r r' : Given} {s : Effect} → r ≡ r' → ToldAs g who r s → ToldAs g who r' s
told-as {g} {who} {r} {r'} {s} e t = subst (λ x. ToldAs g who x s) e t

-- a line that was answered so and leaves all settings as they were: what it does to every bench that has the record R at seat k
told-on : {W W' R R' : List ℕ} (S A : List ℕ) {g : Setting} {k who : ℕ} {l : Line} {r : Given} {s : Effect} → who ≤ 16 → ToldAs g who r s → Sound W' R' → Grows W W' → Keeps R R' → (r.whole ≡ true → Full R' (pool_len W'))
    → ((X : List Seat) → (get_or X k empty_seat).statements ≡ record_in W R
    → step (bench_of g.ready (terms_of g) X W) (some l)
    ≡ record { reply = reply_is W' who r.answer r.number; bench = bench_of g.ready (terms_of g) (set X k (record { controller = (get_or X k empty_seat).controller; statements = record_in W' R' })) W' })
    → SteppedAs W R g k l s W' R' S A
told-on {W} {W'} {R} {R'} S A {g} {k} {who} {l} {r} {s} b e sound grows keeps full steps = record {
  who = omega (arith, e.who-is);
  advanced = record {
    steps = λ X x. steps X x
        ∙ stepped (sym e.who-is) (sym (ap (answer_is W') e.answer)) (sym e.number) (sym (ap (λ (t : Setting). t.ready) e.setting)) (sym (ap (λ (t : Setting). t.faulty) e.setting)) (sym (ap (λ (t : Setting). min t.notices 64) e.setting))
        (sym (if-false s.fresh (list_of controllers (λ j. record { controller = started j (setup_in s.setting S A); statements = [] })) (set X k (record { controller = (get_or X k empty_seat).controller; statements = record_in W' R' })) e.fresh)) refl;
    sound = λ h. sound;
    grows = λ h. grows;
    keeps = λ h. keeps;
    begun = λ h. absurd (subst T (sym h ∙ e.fresh) tt);
  };
  full = λ h. full (sym e.whole ∙ h);
}

-- a line that was answered on its record
stepped-seated : {W R R' : List ℕ} (S A : List ℕ) {g : Setting} {k : ℕ} {l : Line} {r : Given} {s : Effect} → k < 16 → Distinct W → GivenAtSeat W R g.ready k l r R' → ToldAs g k r s → SteppedAs W R g k l s W R' S A
stepped-seated {W} S A {g = g} b d m e = told-on S A (omega arith) e (record { distinct = d; whole = m.whole }) (grows_same W) m.keeps m.full (λ X x. m.steps (terms_of g) X x)

-- a line on the pool that was refused
module _ {W : List ℕ} {g : Setting} {l : Line} {s : Effect} where
  pools-refused : (who : ℕ) (q : Refusal) → who ≤ 16 → Distinct W → ToldAs g who (refused_for q) s
      → ((X : List Seat) → step (bench_of g.ready (terms_of g) X W) (some l) ≡ bench.refuse_line (bench_of g.ready (terms_of g) X W) who (refusal_is q)) → SteppedOnPool W g l s W
  unfolding answer_is
  pools-refused who q b d e h = record {
    over = λ R S A w. told-on S A b e (record { distinct = d; whole = w }) (grows_same W) (keeps_same R) (λ t. absurd (true≢false (sym t)))
        (λ X x. h X ∙ ap (λ Y. bench.refuse_line (bench_of g.ready (terms_of g) Y W) who (refusal_is q)) (sym (seat-same X 0 x)));
  }

-- ---- lies that are no statement

abbrev unstated : Bench → Bool → bench.Stepped
unstated b ready = if ready then bench.refuse_line b 16 controller.bad_statement else bench.refuse_line b 16 controller.out_of_place

module _ (g : Setting) (s : Effect) where
  pub no-statement-early : ToldAs g 16 (refused_for refusal.OutOfPlace) s → g.ready ≡ false → NoStatement g s
  unfolding step
  no-statement-early e q = record { pools = λ W d. pools-refused 16 refusal.OutOfPlace (omega arith) d e (λ X. ap (unstated (bench_of g.ready (terms_of g) X W)) q) }

  pub no-statement-bad : ToldAs g 16 (refused_for refusal.BadStatement) s → g.ready ≡ true → NoStatement g s
  unfolding step
  no-statement-bad e q = record { pools = λ W d. pools-refused 16 refusal.BadStatement (omega arith) d e (λ X. ap (unstated (bench_of g.ready (terms_of g) X W)) q) }

-- ---- a setup

pub no-pool : (W : List ℕ) → pool_len W ≡ 0 → [] ≡ pool_of W
unfolding pool_of list_of
no-pool W e = sym (ap (λ n. list_of n (stmt_at W)) e)

-- whom its row shows
module _ (S : List ℕ) (count : ℕ) where
  pub shown-none : count ≡ 0 → 16 ≡ shown_in S count
  unfolding shown_in
  shown-none e = rw (eq-eqb count 0 e)

  pub shown-near : (count ≡ 0 → ⊥) → get_or S 0 0 < 16 → get_or S 0 0 ≡ shown_in S count
  unfolding shown_in
  shown-near e l = rw (ne_eqb count 0 e, lt-ltb (get_or S 0 0) 16 l)

  pub shown-far : (count ≡ 0 → ⊥) → 16 ≤ get_or S 0 0 → 16 ≡ shown_in S count
  unfolding shown_in
  shown-far e l = rw (ne_eqb count 0 e, le-ltb (get_or S 0 0) 16 l)

-- its senders in memory
module _ (S L : List ℕ) (i : SendersIn S L) where
  shown-same : shown_in S (length L) ≡ bench.shown_sender L
  unfolding shown_in bench.shown_sender
  shown-same = go L i
    where
      go : (L : List ℕ) → SendersIn S L → (if eqb (length L) 0 then 16 else if ltb (get_or S 0 0) 16 then get_or S 0 0 else 16) ≡ bench.shown_sender L
      go [] i = refl
      go (k ∷ L) i = rw (ne_eqb (suc (length L)) 0 (λ e. omega arith)) (ap (λ (x : ℕ). if ltb x 16 then x else 16) (i.each 0 (omega arith) (omega arith)))

  first-are : length L ≤ 64 → first_senders S (length L) ≡ L
  unfolding first_senders
  first-are h = ext_get_or 0 (first_senders S (length L)) L (list_of-length (length L) (λ k. get_or S k 0)) (λ k l.
      let b : k < length L = omega (arith, list_of-length (length L) (λ k. get_or S k 0)) in list_of-at (length L) (λ k. get_or S k 0) k 0 b ∙ i.each k b (omega arith))

first-long : (S : List ℕ) (n : ℕ) → length (first_senders S n) ≡ n
unfolding first_senders
first-long S n = list_of-length n (λ k. get_or S k 0)

shown-most : (L : List ℕ) → bench.shown_sender L ≤ 16
unfolding bench.shown_sender
shown-most [] = omega arith
shown-most (k ∷ L) = elim (dec_lt k 16) [ yes l ↦ rw (lt-ltb k 16 l) (omega arith) | no l ↦ rw (le-ltb k 16 (omega arith)) (omega arith) ]

-- a setup that is allowed names at most 64
allowed-few : (members : ℕ) (L : List ℕ) → setup_allowed 0 members L ≡ true → length L ≤ 64
unfolding setup_allowed
allowed-few members L e = let a : T (setup_allowed 0 members L) = subst T (sym e) tt in let b : T (leb (length L) 64) = search (and_first, and_second) in leb→le (length L) 64 b

module _ (p : call.Setup) (faulty : ℕ) where
  -- the tests, over plain values
  abbrev settled : Bench → Bool → Bool → Bool → bench.Stepped
  settled b ready allowed windows =
      if ready || not allowed then bench.refuse_line b (bench.shown_sender p.senders) controller.bad_setup
      else if not windows then bench.refuse_line b (bench.shown_sender p.senders) controller.bad_window
      else record {
        reply = record { who = bench.shown_sender p.senders; answer = controller.taken; number = 0 };
        bench = record { is_set_up = true; faulty = faulty; notices = length p.senders; seats = list_of controllers (λ k. record { controller = started k p; statements = [] }); pool = [] };
      }

  setup-is : (b : Bench) {ready allowed windows : Bool} → b.is_set_up ≡ ready → setup_allowed 0 p.members p.senders ≡ allowed → windows_allowed p.windows ≡ windows → step b (some (setup p faulty)) ≡ settled b ready allowed windows
  unfolding step bench.set_up
  setup-is b {ready} {allowed} {windows} e f g =
      ap (λ t. settled b t (setup_allowed 0 p.members p.senders) (windows_allowed p.windows)) e ∙ ap (λ t. settled b ready t (windows_allowed p.windows)) f ∙ ap (settled b ready allowed) g

-- a line that was read as a setup is one
pub setup-read : (T' S A : List ℕ) → SetupOf T' S A None → SettingUp T' → ⊥
setup-read T' S A of by = of.untold 0 by.tells.0 by.tells.1 (by.tells.2 0)

module _ (W : List ℕ) (g : Setting) (T' S A : List ℕ) (r : ReadSetup) (of : SetupOf T' S A (Some r)) where
  -- the line is the setup that was read
  said : ReadsSetup T' S A r
  said = of.told

  abbrev L₀ : List ℕ
  L₀ = said.senders

  abbrev P₀ : call.Setup
  P₀ = record { members = r.members; senders = L₀; windows = said.windows }

  who-is : shown_in S r.count ≡ bench.shown_sender L₀
  who-is = ap (shown_in S) (sym said.count) ∙ shown-same S L₀ said.stand

  few-are : r.count ≤ 64 → first_senders S r.count ≡ L₀
  few-are h = ap (first_senders S) (sym said.count) ∙ first-are S L₀ said.stand (omega (arith, said.count))

  as-setup : {s : Effect} {W' : List ℕ} → ((R : List ℕ) → AllIn W R → SteppedAs W R g 0 (setup P₀ r.faulty) s W' R S A) → SetUpBy W g T' s W' S A
  as-setup h = record { over = λ R w. record { line = setup P₀ r.faulty; reads = said.written (min g.notices 64); stepped = h R w } }

  -- the senders in memory are those of the line
  module _ (a : setup_allowed 0 r.members (first_senders S r.count) ≡ true) where
    senders-are : first_senders S r.count ≡ L₀
    senders-are = few-are (omega (arith, allowed-few r.members (first_senders S r.count) a, first-long S r.count))

    allowed-so : setup_allowed 0 r.members L₀ ≡ true
    allowed-so = ap (setup_allowed 0 r.members) (sym senders-are) ∙ a

  module _ (s : Effect) (d : Distinct W) where
    refuses : (q : Refusal) {who : ℕ} → who ≡ shown_in S r.count → ToldAs g who (refused_for q) s
        → ((X : List Seat) → step (bench_of g.ready (terms_of g) X W) (some (setup P₀ r.faulty)) ≡ bench.refuse_line (bench_of g.ready (terms_of g) X W) (bench.shown_sender L₀) (refusal_is q)) → SetUpBy W g T' s W S A
    refuses q ew e h = as-setup (λ R w. (pools-refused (bench.shown_sender L₀) q (shown-most L₀) d (subst (λ k. ToldAs g k (refused_for q) s) (ew ∙ who-is) e) h).over R S A w)

    bars : {who : ℕ} → who ≡ shown_in S r.count → ToldAs g who (refused_for refusal.BadSetup) s → (g.ready || not (setup_allowed 0 r.members L₀)) ≡ true → SetUpBy W g T' s W S A
    bars ew e o = refuses refusal.BadSetup ew e (λ X. setup-is P₀ r.faulty (bench_of g.ready (terms_of g) X W) refl refl refl ∙ rw o)

    pub setup-again : {who : ℕ} → who ≡ shown_in S r.count → ToldAs g who (refused_for refusal.BadSetup) s → g.ready ≡ true → SetUpBy W g T' s W S A
    setup-again ew e q = bars ew e (ap (λ t. t || not (setup_allowed 0 r.members L₀)) q)

    pub setup-barred : {who : ℕ} → who ≡ shown_in S r.count → ToldAs g who (refused_for refusal.BadSetup) s → setup_allowed 0 r.members (first_senders S r.count) ≡ false → SetUpBy W g T' s W S A
    setup-barred ew e q = bars ew e (ap (λ t. g.ready || not t) barred ∙ or-both g.ready)
      where
        or-both : (b : Bool) → (b || true) ≡ true
        or-both true = refl
        or-both false = refl

        barred : setup_allowed 0 r.members L₀ ≡ false
        barred = go (setup_allowed 0 r.members L₀) refl
          where
            go : (b : Bool) → setup_allowed 0 r.members L₀ ≡ b → b ≡ false
            go false h = refl
            go true h = absurd (true≢false (sym h ∙ ap (setup_allowed 0 r.members) (sym (few-are (omega (arith, said.count, allowed-few r.members L₀ h)))) ∙ q))

    pub setup-shut : {who : ℕ} → who ≡ shown_in S r.count → ToldAs g who (refused_for refusal.BadWindow) s → g.ready ≡ false → setup_allowed 0 r.members (first_senders S r.count) ≡ true
        → windows_allowed (windows_in A r.windows) ≡ false → SetUpBy W g T' s W S A
    setup-shut ew e q a h = refuses refusal.BadWindow ew e (λ X. setup-is P₀ r.faulty (bench_of g.ready (terms_of g) X W) q (allowed-so a) (windows-allowed T' S A r said ∙ h))

  pub setup-taken : {who : ℕ} (W' : List ℕ) → who ≡ shown_in S r.count → memory.Cleared W W' → g.ready ≡ false → setup_allowed 0 r.members (first_senders S r.count) ≡ true → windows_allowed (windows_in A r.windows) ≡ true
      → SetUpBy W g T' (record { who = who; answer = Ok Taken; number = 0; setting = record { ready = true; faulty = r.faulty; members = r.members; notices = r.count; windows = r.windows }; fresh = true; whole = false }) W' S A
  unfolding answer_is
  setup-taken {who} W' ew n q a v =
      let few : r.count ≤ 64 = omega (arith, allowed-few r.members (first_senders S r.count) a, first-long S r.count) in
      let same : windows_in A r.windows ≡ said.windows = windows-are T' S A r said (few-windows A r.windows true (sym v) refl) in
      as-setup (λ R w. record {
        who = omega (arith, ew, who-is, shown-most L₀);
        advanced = record {
          steps = λ X x. setup-is P₀ r.faulty (bench_of g.ready (terms_of g) X W) q (allowed-so a) (ap windows_allowed (sym same) ∙ v)
              ∙ stepped (sym (ew ∙ who-is)) refl refl refl refl (omega (arith, said.count))
              (ap₂ (λ (l : List ℕ) (u : List Window). list_of controllers (λ k. record { controller = started k (record { members = r.members; senders = l; windows = u }); statements = [] })) (sym (senders-are a)) (sym same)) (no-pool W' n.len);
          sound = λ t. absurd (subst T t tt);
          grows = λ t. absurd (subst T t tt);
          keeps = λ t. absurd (subst T t tt);
          begun = λ t. (n.len, record { allowed = a; windows = v });
        };
        full = λ t. absurd (true≢false (sym t));
      })

-- ---- what a pool that grows leaves as it was

module _ {W W' : List ℕ} (g : Grows W W') (R : List ℕ) (w : AllIn W R) where
  pub record-kept : record_in W' R ≡ record_in W R
  unfolding record_up_to AllIn
  record-kept = list_of-cong (record_len R) (λ i. stmt_at W' (get_or R i 0)) (λ i. stmt_at W (get_or R i 0)) (λ i h. g.same _ (w i h))

  pub whole-kept : AllIn W' R
  unfolding AllIn
  whole-kept i h = let a = w i h in omega (arith, g.more)

-- ---- a lie

abbrev told : Bench → Stmt → Bool → Bool → Bool → Bool → Bool → bench.Stepped
told b s ready marked known again full =
    if ready then (if not marked then bench.refuse_line b s.origin controller.out_of_place
    else if not known then bench.refuse_line b s.origin controller.unknown_notice
    else if again then bench.refuse_line b s.origin controller.repeated
    else if full then bench.refuse_line b s.origin controller.full
    else record {
      reply = record { who = s.origin; answer = controller.taken; number = length b.pool };
      bench = record { is_set_up = b.is_set_up; faulty = b.faulty; notices = b.notices; seats = b.seats; pool = b.pool ++ (s ∷ []) };
    })
    else bench.refuse_line b s.origin controller.out_of_place

lie-is : (b : Bench) (s : Stmt) {ready marked known again full : Bool} → b.is_set_up ≡ ready → bit b.faulty s.origin ≡ marked → ltb s.notice b.notices ≡ known → any (same_stmt s) b.pool ≡ again
    → leb 512 (length b.pool) ≡ full → step b (some (lie s)) ≡ told b s ready marked known again full
unfolding step bench.lie_of
lie-is b s {ready} {marked} {known} {again} {full} e f k h i =
    ap (λ t. told b s t (bit b.faulty s.origin) (ltb s.notice b.notices) (any (same_stmt s) b.pool) (leb 512 (length b.pool))) e
    ∙ ap (λ t. told b s ready t (ltb s.notice b.notices) (any (same_stmt s) b.pool) (leb 512 (length b.pool))) f
    ∙ ap (λ t. told b s ready marked t (any (same_stmt s) b.pool) (leb 512 (length b.pool))) k
    ∙ ap (λ t. told b s ready marked known t (leb 512 (length b.pool))) h
    ∙ ap (λ t. told b s ready marked known again t) i

pub marked-is : (f k : ℕ) (r : Bool) → f < 65536 → r ≡ member (record { joined = f % 65536; left = 0 }) k → r ≡ bit f k
marked-is f k r l e = let m : f % 65536 ≡ f = omega arith in e ∙ ap (λ x. member (record { joined = x; left = 0 }) k) m ∙ ap (λ t. bit f k && not t) (bit-zero k) ∙ and-true (bit f k)
  where
    and-true : (b : Bool) → (b && true) ≡ b
    and-true true = refl
    and-true false = refl

module _ (W : List ℕ) (s : Stmt) where
  present-in : (i : ℕ) → memory.pool_number W s ≡ some i → any (same_stmt s) (pool_of W) ≡ true
  unfolding pool_of
  present-in i e = go (in-pool W s)
    where
      go : Located s (stmt_at W) (pool_len W) (memory.pool_number W s) → any (same_stmt s) (list_of (pool_len W) (stmt_at W)) ≡ true
      go (there j q l h m y) = y
      go (absent q y) = absurd (none≢some (sym q ∙ e))

  absent-in : memory.pool_number W s ≡ none → any (same_stmt s) (pool_of W) ≡ false
  unfolding pool_of
  absent-in e = go (in-pool W s)
    where
      go : Located s (stmt_at W) (pool_len W) (memory.pool_number W s) → any (same_stmt s) (list_of (pool_len W) (stmt_at W)) ≡ false
      go (there j q l h m y) = absurd (none≢some (sym e ∙ q))
      go (absent q y) = y

module _ (W : List ℕ) (g : Setting) (st : Statement) (B : List ℕ) (s : Effect) (d : Distinct W) (near : st.origin < 16) where
  abbrev x₀ : Stmt
  x₀ = stmt_of st B

  -- refused for q, by what the tests came to
  lie-refused : (q : Refusal) {ready marked known again full : Bool} → ToldAs g st.origin (refused_for q) s → g.ready ≡ ready → bit g.faulty st.origin ≡ marked → ltb st.notice (min g.notices 64) ≡ known
      → any (same_stmt x₀) (pool_of W) ≡ again → leb 512 (length (pool_of W)) ≡ full
      → ((X : List Seat) → told (bench_of g.ready (terms_of g) X W) x₀ ready marked known again full ≡ bench.refuse_line (bench_of g.ready (terms_of g) X W) st.origin (refusal_is q)) → SteppedOnPool W g (lie x₀) s W
  unfolding stmt_of
  lie-refused q e a b c f h t = pools-refused st.origin q (omega arith) d e (λ X. lie-is (bench_of g.ready (terms_of g) X W) x₀ a b c f h ∙ t X)

  pub lie-early : ToldAs g st.origin (refused_for refusal.OutOfPlace) s → g.ready ≡ false → SteppedOnPool W g (lie x₀) s W
  unfolding stmt_of
  lie-early e q = lie-refused refusal.OutOfPlace e q refl refl refl refl (λ X. refl)

  module _ (q : g.ready ≡ true) where
    pub lie-unmarked : ToldAs g st.origin (refused_for refusal.OutOfPlace) s → bit g.faulty st.origin ≡ false → SteppedOnPool W g (lie x₀) s W
    unfolding stmt_of
    lie-unmarked e b = lie-refused refusal.OutOfPlace e q b refl refl refl (λ X. refl)

    module _ (b : bit g.faulty st.origin ≡ true) where
      pub lie-unknown : ToldAs g st.origin (refused_for refusal.UnknownNotice) s → ltb st.notice (min g.notices 64) ≡ false → SteppedOnPool W g (lie x₀) s W
      unfolding stmt_of
      lie-unknown e k = lie-refused refusal.UnknownNotice e q b k refl refl (λ X. refl)

      module _ (k : ltb st.notice (min g.notices 64) ≡ true) where
        pub lie-again : ToldAs g st.origin (refused_for refusal.Repeated) s → (i : ℕ) → Some i ≡ option_of (memory.pool_number W x₀) → SteppedOnPool W g (lie x₀) s W
        unfolding stmt_of
        lie-again e i f = lie-refused refusal.Repeated e q b k (present-in W x₀ i (option-some (memory.pool_number W x₀) i f)) refl (λ X. refl)

        module _ (W' : List ℕ) (n : memory.pool_number W x₀ ≡ none) where
          pub lie-full : ToldAs g st.origin (refused_for refusal.Full) s → memory.Appended W W' st B (Err memory.no_room) → SteppedOnPool W g (lie x₀) s W'
          unfolding stmt_of
          lie-full e a = elim (dec_lt (pool_len W) 512) [
            | yes l ↦ absurd (full≢at (a.answer ∙ ap (λ o. memory.placed_at o (pool_len W)) n ∙ (if-true (ltb (pool_len W) 512) (Ok (pool_len W)) (Err memory.no_room) (lt-ltb (pool_len W) 512 l))))
            | no l ↦ subst (λ U. SteppedOnPool W g (lie x₀) s U) (sym (a.full (omega arith)))
                (lie-refused refusal.Full e q b k (absent-in W x₀ n) (le-leb 512 (length (pool_of W)) (omega (arith, pool-length W))) (λ X. refl))
          ]

module _ (W W' : List ℕ) (g : Setting) (st : Statement) (B : List ℕ) (d : Distinct W) (near : st.origin < 16) (short : st.history.len ≤ 16) (q : g.ready ≡ true) (b : bit g.faulty st.origin ≡ true)
    (k : ltb st.notice (min g.notices 64) ≡ true) (n : ℕ) (z : memory.pool_number W (stmt_of st B) ≡ none) (a : memory.Appended W W' st B (Ok n)) where
  room : pool_len W < 512
  room = elim (dec_lt (pool_len W) 512) [
    | yes l ↦ l
    | no l ↦ absurd (full≢at (sym (a.answer ∙ ap (λ o. memory.placed_at o (pool_len W)) z ∙ (if-false (ltb (pool_len W) 512) (Ok (pool_len W)) (Err memory.no_room) (le-ltb (pool_len W) 512 (omega arith))))))
  ]

  placed-at : n ≡ pool_len W
  placed-at = at-injective (a.answer ∙ ap (λ o. memory.placed_at o (pool_len W)) z ∙ (if-true (ltb (pool_len W) 512) (Ok (pool_len W)) (Err memory.no_room) (lt-ltb (pool_len W) 512 room)))

  longer : pool_of W' ≡ pool_of W ++ (stmt_of st B ∷ [])
  longer = grown-pool W W' st B short (a.new z room) room

  pub lie-taken : (s : Effect) → ToldAs g st.origin (taken_as n false) s → SteppedOnPool W g (lie (stmt_of st B)) s W'
  unfolding stmt_of answer_is
  lie-taken s e = record {
    over = λ R S A w. told-on S A (omega arith) e
        (record { distinct = one-distinct W W' (stmt_of st B) longer (absent-in W (stmt_of st B) z) d; whole = whole-kept (one_grows W W' (stmt_of st B) longer) R w }) (one_grows W W' (stmt_of st B) longer) (keeps_same R) (λ t. absurd (true≢false (sym t)))
        (λ X x. lie-is (bench_of g.ready (terms_of g) X W) (stmt_of st B) q b k (absent-in W (stmt_of st B) z) (lt-leb 512 (length (pool_of W)) (omega (arith, pool-length W, room)))
        ∙ stepped refl refl (pool-length W ∙ sym placed-at) refl refl refl (sym (seat-same X 0 (x ∙ sym (record-kept (one_grows W W' (stmt_of st B) longer) R w)))) (sym longer));
  }

pub appended : {W W' : List ℕ} {st : Statement} {B : List ℕ} {p q : Result ℕ NoRoom} → memory.Appended W W' st B p → p ≡ q → memory.Appended W W' st B q
appended {W} {W'} {st} {B} a e = subst (memory.Appended W W' st B) e a

-- ---- an `all` that finds nothing missing

pub needless : (W : List ℕ) (g : Setting) (full k : ℕ) (l : Held) → l ≡ is.All k → g.ready ≡ true → pool_len W ≤ full → LacksNothing W g full l
unfolding Full
needless W g full k l e q b = subst (LacksNothing W g full) (sym e) (record {
  line = all k;
  means = refl;
  steps = λ R s f X x. all-needless W R g.ready s q (λ i h. f i (omega arith)) k (terms_of g) X x;
})

-- ---- what a line is that is none of the others

pub last-call : (l : Held) → ((k : ℕ) → l ≡ is.Join k → ⊥) → ((k : ℕ) → l ≡ is.Leave k → ⊥) → ((k i m : ℕ) → l ≡ is.Send k i m → ⊥) → is_call l ≡ true
    → l ≡ is.Turn (seat_of l) (minute_in l)
last-call is.Setup j v s e = absurd (true≢false (sym e))
last-call (is.Join k) j v s e = absurd (j k refl)
last-call (is.Leave k) j v s e = absurd (v k refl)
last-call (is.Send k i m) j v s e = absurd (s k i m refl)
last-call (is.Give k n) j v s e = absurd (true≢false (sym e))
last-call (is.All k) j v s e = absurd (true≢false (sym e))
last-call (is.Turn k m) j v s e = refl
last-call is.Lie j v s e = absurd (true≢false (sym e))

pub no-minute : (l : Held) → ((k m : ℕ) → l ≡ is.Turn k m → ⊥) → 0 ≡ minute_in l
no-minute is.Setup t = refl
no-minute (is.Join k) t = refl
no-minute (is.Leave k) t = refl
no-minute (is.Send k i m) t = refl
no-minute (is.Give k n) t = refl
no-minute (is.All k) t = refl
no-minute (is.Turn k m) t = absurd (t k m refl)
no-minute is.Lie t = refl

pub last-other : (l : Held) → (l ≡ is.Setup → ⊥) → ((k n : ℕ) → l ≡ is.Give k n → ⊥) → ((k : ℕ) → l ≡ is.All k → ⊥) → is_call l ≡ false → l ≡ is.Lie
last-other is.Setup s g a e = absurd (s refl)
last-other (is.Join k) s g a e = absurd (true≢false e)
last-other (is.Leave k) s g a e = absurd (true≢false e)
last-other (is.Send k i m) s g a e = absurd (true≢false e)
last-other (is.Give k n) s g a e = absurd (g k n refl)
last-other (is.All k) s g a e = absurd (a k refl)
last-other (is.Turn k m) s g a e = absurd (true≢false e)
last-other is.Lie s g a e = refl

-- ---- the line that was read

module _ {T' : List ℕ} where
  pub fit-seat : (l : Held) → ReadFrom l T' → seat_of l < 16
  fit-seat is.Setup t = omega arith
  fit-seat (is.Join k) t = (t.tells 0).0
  fit-seat (is.Leave k) t = (t.tells 0).0
  fit-seat (is.Send k i m) t = (t.tells 0).0
  fit-seat (is.Give k n) t = (t.tells 0).0
  fit-seat (is.All k) t = (t.tells 0).0
  fit-seat (is.Turn k m) t = (t.tells 0).0
  fit-seat is.Lie t = omega arith

  pub fit_at : {l m : Held} → ReadFrom l T' → l ≡ m → seat_of m < 16
  fit_at {l} {m} f e = subst (λ x. seat_of x < 16) e (fit-seat l f)

  pub fit-lie : {l : Held} → ReadFrom l T' → l ≡ is.Lie → Lying T'
  fit-lie f e = record { tells = subst (λ x. Tells (meant x) (ended T')) e f.tells }

  pub fit-setup : {l : Held} → ReadFrom l T' → l ≡ is.Setup → SettingUp T'
  fit-setup f e = record { tells = subst (λ x. Tells (meant x) (ended T')) e f.tells }

module _ {W W' : List ℕ} {g : Setting} {s : Effect} (T' : List ℕ) where
  at-line : {R R' S A : List ℕ} {l m : Held} {line : Line} → ReadFrom l T' → l ≡ m → meant m ≡ a_line line → SteppedAs W R g (seat_of m) line s W' R' S A → SteppedBy W R g (seat_of l) T' s W' R' S A
  at-line {R} {R'} {S} {A} {l} {m} {line} f e q a = record {
    line = line;
    reads = subst (λ o. Tells o (ended T')) (ap meant e ∙ q) f.tells _;
    stepped = subst (λ x. SteppedAs W R g (seat_of x) line s W' R' S A) (sym e) a;
  }

  pub at-setup : {S A : List ℕ} {l : Held} → l ≡ is.Setup → SetUpBy W g T' s W' S A → (R : List ℕ) → AllIn W R → SteppedBy W R g (seat_of l) T' s W' R S A
  at-setup {S} {A} e a R w = subst (λ x. SteppedBy W R g (seat_of x) T' s W' R S A) (sym e) (a.over R w)

  pub at-lie : {l : Held} → l ≡ is.Lie → SteppedOnPoolBy W g T' s W' → (R S A : List ℕ) → AllIn W R → SteppedBy W R g (seat_of l) T' s W' R S A
  at-lie e a R S A w = subst (λ x. SteppedBy W R g (seat_of x) T' s W' R S A) (sym e) (a.over R S A w)

  pub at_told : (B : List ℕ) (st : Statement) → LiedOf T' g.notices B (Some st) → SteppedOnPool W g (lie (stmt_of st B)) s W' → SteppedOnPoolBy W g T' s W'
  at_told B st of a = record { over = λ R S A w. record { line = lie (stmt_of st B); reads = of.told; stepped = a.over R S A w } }

  pub at-untold : (B : List ℕ) → LiedOf T' g.notices B None → Lying T' → SteppedOnPool W g no_statement s W' → SteppedOnPoolBy W g T' s W'
  at-untold B of t a = record { over = λ R S A w. record { line = no_statement; reads = lie-untold T' t (min g.notices 64) of.untold; stepped = a.over R S A w } }

-- a gift, to one record
module _ {W R R' : List ℕ} (S A : List ℕ) {g : Setting} {s : Effect} {r : Given} (T' : List ℕ) (d : Distinct W) {l : Held} {k : ℕ} (f : ReadFrom l T') where
  pub at_give : {n : ℕ} → l ≡ is.Give k n → Gives W R g.ready n r R' → ToldAs g k r s → SteppedBy W R g (seat_of l) T' s W R' S A
  at_give e m t = at-line T' f e refl (stepped-seated S A (fit_at f e) d (m.to k) t)

  pub at_all : l ≡ is.All k → GivesAll W R g.ready r R' → ToldAs g k r s → SteppedBy W R g (seat_of l) T' s W R' S A
  at_all e m t = at-line T' f e refl (stepped-seated S A (fit_at f e) d (m.to k) t)
