-- The lines of a schedule make up a run.
--     makes-up  after any number of lines the bench is where the run is, the rows have the answers of its calls, and nothing is forged
--     is-run    it is a run as IsRun asks, where few are marked faulty
-- Assumes nothing.
use mathlib.Core.Path.{◌≡◌, refl, sym, ap, ap₂, subst, ◌∙◌}
use mathlib.Core.Logic.{inl, inr}
use mathlib.Core.Bool.{Bool, true, false, not, ◌&&◌, true≢false}
use mathlib.Core.List.Memᴰ
use mathlib.Core.List.{List, [], ◌++◌, map, append_assoc, append-nil}
use mathlib.Core.Option.{Option, some, none}
use Prim.Native.Nat.{ℕ, zero, suc, ◌+◌, ◌≤◌, ◌<◌}
use native.Mathlib.Decide.{dec_lt, le_ind}
use native.Mathlib.Omega.{arith}
use borrow.Author.Tests.{lt-ltb}
use lib.Dec.{T, ltb, ltb→lt}
use lib.ListN.{length, get_elem?, length-append, length-map}
use Rattle.protocol.specs.Sets.{bit}
use Rattle.protocol.specs.Lists.{◌∈◌, ◌⊆◌}
use Rattle.protocol.specs.View.{controllers, View, member}
use Rattle.protocol.specs.History.{top}
use Rattle.protocol.specs.Evidence.{Sealed}
use Rattle.protocol.specs.Controller.{taken}
use Rattle.protocol.specs.Call.{Setup, ring_of}
use Rattle.protocol.specs.Run.{Call, add_call, Event, call, signing, Run, event, returned, signed_before, statements, FewBreakers, IsRun}
use Rattle.protocol.proofs.Found.{none≢some, some-injective}
use Rattle.protocol.proofs.Rules.{and_first, and_second}
use Rattle.protocol.proofs.Counting.{count-mono}
use Rattle.protocol.proofs.Monotone.{mono}
use Rattle.schedule.specs.Line.{Line, setup}
use Rattle.bench.specs.Bench.{new_bench, step}
use Rattle.guarantee.specs.Events.{follower, Occurrence, after_line, occurs, events_of, line_at, after, occurred, run_of}
use Rattle.guarantee.specs.Link.{events_before, RowOf, MakesUp}
use Rattle.guarantee.specs.Rows.{RepliedTo, SetupTaken, final_pool, FewFaulty}
use Rattle.guarantee.proofs.Laws.{longer-on, at_in, at-cases, at_map, once-in}
use Rattle.guarantee.proofs.Seats.{seat_of, Taken, setup-starts}
use Rattle.guarantee.proofs.Lines.{Legible, Acts, Rests, Effect, started_bench, Starts, setup_of, setup-taken, new_line, Valid, started-seat, started-valid, effect}
use Rattle.guarantee.proofs.Benches.{step-valid, Admitted, admitted}
use Rattle.guarantee.proofs.Links.{Comes, past_is, comes-at, Linked, Passes, goes}

-- ---- what comes of the lines

module _ (L : List (Option Line)) where
  -- what came before goes on
  prefix : (m n : ℕ) → m ≤ n → (D : List Occurrence) × (occurred L n ≡ occurred L m ++ D)
  unfolding occurred
  prefix m n h = longer-on (occurred L) m (λ j _. (occurs (after L j) (line_at L j), refl)) n h

  pub place_up : (m n : ℕ) → m ≤ n → events_before L m ≤ events_before L n
  place_up m n h = let (D, e) = prefix m n h in omega (arith, ap length e, length-append (occurred L m) D)

  pub place-next : (n : ℕ) (l : Option Line) → get_elem? L n ≡ some l → events_before L (suc n) ≡ events_before L n + length (occurs (after L n) (some l))
  unfolding occurred
  place-next n l e = length-append (occurred L n) (occurs (after L n) (line_at L n)) ∙ ap (λ x. events_before L n + length (occurs (after L n) x)) e

  -- event i comes of a line
  pub record From (i : ℕ) (e : Event) : Type 0 where
    pub at : ℕ
    pub of : Option Line
    pub there : get_elem? L at ≡ some of
    pub one : e ∈ events_of (after L at) of
    pub low : events_before L at ≤ i
    pub high : i < events_before L (suc at)

  from : (N i : ℕ) (o : Occurrence) → get_elem? (occurred L N) i ≡ some o → From i o.event
  unfolding occurred occurs
  from zero i o e = absurd (none≢some e)
  from (suc N) i o e = elim (at-cases (occurred L N) (occurs (after L N) (line_at L N)) i e) [ inl f ↦ from N i o f | inr (j, g, h) ↦ new (line_at L N) refl j g h ]
    where
      new : (x : Option (Option Line)) → line_at L N ≡ x → (j : ℕ) → i ≡ length (occurred L N) + j → get_elem? (occurs (after L N) x) j ≡ some o → From i o.event
      new none f j g h = absurd (none≢some h)
      new (some l) f j g h =
          let (m, lt) = at_in (occurs (after L N) (some l)) j h in
          let (x, k, q) = Memᴰ.of_map (λ e. record { event = e; pool = (after L N).pool }) (events_of (after L N) l) m in
          record { at = N; of = l; there = f; one = subst (λ o. o.event ∈ events_of (after L N) l) q k; low = omega arith; high = omega (arith, place-next N l f) }

-- ---- a setup that is taken in line `first`

abbrev pub AllLegible : List (Option Line) → Type 0
AllLegible L = (n : ℕ) (l : Option Line) → get_elem? L n ≡ some l → Legible (after L n).notices l

module _ (L : List (Option Line)) (reads : AllLegible L) (first : ℕ) {p : Setup} {faulty : ℕ}
    (there : get_elem? L first ≡ some (some (setup p faulty))) (starts : Starts (after L first) p faulty) where
  started-at : after L (suc first) ≡ started_bench p faulty
  unfolding after after_line
  started-at = ap (after_line (after L first)) there ∙ starts.after

  valid-from : (n : ℕ) → first < n → Valid (setup_of starts) (after L n)
  unfolding after after_line
  valid-from n h = le_ind (λ n. Valid (setup_of starts) (after L n)) (subst (Valid (setup_of starts)) (sym started-at) (started-valid (setup_of starts))) (λ j _ v. go j v (line_at L j) refl) n h
    where
      go : (j : ℕ) → Valid (setup_of starts) (after L j) → (x : Option (Option Line)) → line_at L j ≡ x → Valid (setup_of starts) (after_line (after L j) x)
      go j v none e = v
      go j v (some l) e = step-valid (setup_of starts) v l (reads j l e)

-- a schedule whose setup in line `first` is taken
pub record Schedule : Type 0 where
  pub L : List (Option Line)
  pub reads : AllLegible L
  pub first : ℕ
  pub setting : Setup
  pub faulty : ℕ
  pub start : SetupTaken L (RepliedTo L) first setting faulty

module _ (S : Schedule) where
  open S use {L, reads, first, setting, faulty, start}

  answered : (step (after L first) (some (setup setting faulty))).reply.answer ≡ taken
  answered =
      let r = start.taken.row in
      ap (λ l. (step (after L first) l).reply.answer) (some-injective (sym start.line ∙ r.there)) ∙ ap (λ x. x.answer) r.reply

  -- the place in the run to which n lines lead
  abbrev pub place : ℕ → ℕ
  place n = events_before L n

  pub begun : Starts (after L first) setting faulty
  begun = setup-taken (after L first) setting faulty answered

  abbrev pub u : Taken
  u = setup_of begun

  pub valid : (n : ℕ) → first < n → Valid u (after L n)
  valid = valid-from L reads first start.line begun

  -- before it nothing happens
  early : (n : ℕ) → n < first → after L n ≡ new_bench → (l : Option Line) → get_elem? L n ≡ some l → Rests new_bench l
  early n h e l there = elim (new_line l) [
    | inl r ↦ r
    | inr (p, f, q, w) ↦ absurd (true≢false (sym (valid-from L reads n (there ∙ ap some q) (subst (λ b. Starts b p f) (sym e) w) first h).is_set_up ∙ begun.before))
  ]

  fresh : (n : ℕ) → n ≤ first → (after L n ≡ new_bench) × (occurred L n ≡ [])
  unfolding after after_line occurred occurs
  fresh zero h = (refl, refl)
  fresh (suc n) h = let (e, f) = fresh n (omega arith) in go e f (line_at L n) refl
    where
      go : after L n ≡ new_bench → occurred L n ≡ [] → (x : Option (Option Line)) → line_at L n ≡ x → (after_line (after L n) x ≡ new_bench) × (occurred L n ++ occurs (after L n) x ≡ [])
      go e f none g = (e, ap (λ O. O ++ []) f)
      go e f (some l) g =
          let r = early n (omega arith) e l g in
          (ap (λ b. (step b l).bench) e ∙ r.same, ap₂ (λ O b. O ++ occurs b (some l)) f e ∙ ap (map (λ e. record { event = e; pool = [] })) r.events)

  nothing_yet : occurred L (suc first) ≡ []
  unfolding occurred occurs events_of
  nothing_yet = let (_, f) = fresh first (omega arith) in ap₂ (λ O x. O ++ occurs (after L first) x) f start.line

  -- so a row that only a turn prints comes later, and so does what occurs
  pub acts-late : (n : ℕ) (l : Option Line) → get_elem? L n ≡ some l → Acts (step (after L n) l).reply.answer → first < n
  acts-late n l e t = elim (dec_lt first n) [
    | yes h ↦ h
    | no h ↦ elim (dec_lt n first) [
      | yes g ↦ let (f, _) = fresh n (omega arith) in absurd ((early n g f l e).idle (subst (λ b. Acts (step b l).reply.answer) f t))
      | no g ↦
          let is : n ≡ first = omega arith in
          let q : l ≡ some (setup setting faulty) = some-injective (sym e ∙ ap (get_elem? L) is ∙ start.line) in
          absurd (subst Acts (ap₂ (λ n l. (step (after L n) l).reply.answer) is q ∙ answered) t)
    ]
  ]

  pub late : {i : ℕ} {e : Event} (r : From L i e) → first < r.at
  late r = elim (dec_lt first r.at) [ yes l ↦ l | no l ↦ absurd (omega (arith, r.high, place_up L (suc r.at) (suc first) (omega arith), ap length nothing_yet)) ]

  -- ---- the run

  abbrev pub every : List Occurrence
  every = occurred L (length L)

  abbrev pub run : Run
  run = run_of L setting faulty

  abbrev pub LinkedAt : ℕ → Type 0
  LinkedAt n = Linked every u (place n) (after L n)

  first-link : Linked every u 0 (started_bench setting faulty)
  unfolding returned signed_before follower
  first-link = record {
    seats = λ k t. let l = ltb→lt k controllers (and_first (ltb k controllers) (not (bit faulty k)) t) in ap seat_of (setup-starts u k l) ∙ sym (started-seat u k l);
    known = λ a m. m;
    has = λ a m. m;
  }

  pub effect-at : (n : ℕ) (l : Option Line) → get_elem? L n ≡ some l → first < n → Effect (after L n) l
  effect-at n l e h = effect u (valid n h) l (reads n l e)

  pub comes : (n : ℕ) (l : Option Line) → get_elem? L n ≡ some l → Comes every u (place n) (occurs (after L n) (some l))
  unfolding occurred
  comes n l e =
      let (D, f) = prefix L (suc n) (length L) (at_in L n e).1 in
      comes-at every u (occurs (after L n) (some l)) (occurred L n) D (f ∙ ap (λ x. (occurred L n ++ occurs (after L n) x) ++ D) e ∙ append_assoc (occurred L n) (occurs (after L n) (some l)) D)

  pub passes : (n : ℕ) (l : Option Line) → get_elem? L n ≡ some l → first < n → LinkedAt n → Passes every u (after L n) l (place n) (place (suc n))
  unfolding occurs
  passes n l e h link =
      subst (Passes every u (after L n) l (place n)) (past_is every u (place n) (occurs (after L n) (some l)) ∙ sym (place-next L n l e))
      (goes every u (valid n h) l (place n) link (effect-at n l e h) (comes n l e))

  -- after any number of lines the bench is where the run is
  pub linked : (n : ℕ) → first < n → LinkedAt n
  unfolding after after_line occurred occurs
  linked n h = le_ind LinkedAt (subst (λ O. Linked every u (length O) (after L (suc first))) (sym nothing_yet) (subst (Linked every u 0) (sym (started-at L reads first start.line begun)) first-link))
      (λ j l k. go j l k (line_at L j) refl) n h
    where
      go : (j : ℕ) → suc first ≤ j → LinkedAt j → (x : Option (Option Line)) → line_at L j ≡ x → LinkedAt (suc j)
      go j l k none e = subst (λ x. Linked every u (length (occurred L j ++ occurs (after L j) x)) (after_line (after L j) x)) (sym e) (subst (λ O. Linked every u (length O) (after L j)) (sym (append-nil (occurred L j))) k)
      go j l k (some x) e = subst (λ y. Linked every u (place (suc j)) (after_line (after L j) y)) (sym e) (passes j x e l k).linked

  -- ---- its premises

  pub from-line : (i : ℕ) (e : Event) → event run i ≡ some e → From L i e
  from-line i e f = let (o, g, h) = at_map (λ (o : Occurrence). o.event) every i f in subst (From L i) h (from L (length L) i o g)

  pub admitted-at : {i : ℕ} {e : Event} (r : From L i e) → Admitted u (valid r.at (late r)) r.of e
  admitted-at {i} {e} r = admitted u (valid r.at (late r)) r.of (effect-at r.at r.of r.there (late r)) e r.one

  signed-on : (m n : ℕ) → m ≤ n → signed_before run m ⊆ signed_before run n
  unfolding signed_before
  signed-on m n h = le_ind (λ n. signed_before run m ⊆ signed_before run n) (λ a i. i) (λ j _ f a i. Memᴰ.append_left _ (f a i)) n h

  -- the whole schedule is after the setup
  whole : first < length L
  whole = (at_in L first start.line).1

  long-is : length run.events ≡ place (length L)
  long-is = length-map every (λ o. o.event)

  statements-pooled : statements run ⊆ final_pool L
  unfolding statements
  statements-pooled a m = (linked (length L) whole).known a (subst (λ n. a ∈ signed_before run n) long-is m)

  pub pooled-statements : final_pool L ⊆ statements run
  unfolding statements
  pooled-statements a m = subst (λ n. a ∈ signed_before run n) (sym long-is) ((linked (length L) whole).has a m)

  premises : ((H : List View) → Sealed (ring_of setting.members) (statements run) H → FewBreakers run (top (ring_of setting.members) H)) → IsRun run
  unfolding follower
  premises few = record {
    numbered = λ k t. ltb→lt k controllers (and_first (ltb k controllers) (not (bit faulty k)) t);
    started = λ k l. ap (λ o. o.answer) (setup-starts u k l);
    calls = λ n k c e. (admitted-at (from-line n (call k c) e)).0;
    signings = λ n s e. admitted-at (from-line n (signing s) e);
    unforged = λ n k s e _. let r = from-line n (call k (add_call s)) e in signed-on (place r.at) n r.low s ((linked r.at (late r)).has s (admitted-at r).1);
    few_breakers = few;
  }

  row_of : (i k : ℕ) (c : Call) → event run i ≡ some (call k c) → RowOf L run i k
  row_of i k c e =
      let r = from-line i (call k c) e in
      record {
        number = r.at;
        line = r.of;
        there = r.there;
        from = r.low;
        to = r.high;
        answer = (passes r.at r.of r.there (late r) (linked r.at (late r))).told i k c r.low r.high e;
      }

  -- THE LINES OF A SCHEDULE MAKE UP A RUN
  pub makes-up : MakesUp L first setting faulty
  makes-up = record {
    premises = premises;
    controllers = λ n k h t. ap (λ s. s.controller) ((linked n h).seats k t);
    records = λ n k h t. ap (λ s. s.statements) ((linked n h).seats k t);
    pooled = λ n h. (linked n h).known;
    signed = λ n h. (linked n h).has;
    once = λ n i j s h e f. once-in (after L n).pool (valid n h).different i j e f;
    answers = row_of;
  }

  few-break : FewFaulty L setting.members faulty → (H : List View) → Sealed (ring_of setting.members) (statements run) H → FewBreakers run (top (ring_of setting.members) H)
  unfolding FewBreakers follower
  few-break few H h =
      let t : View = top (ring_of setting.members) H in
      omega (arith, few.few H (mono statements-pooled h), count-mono controllers (λ k. member t k && not (ltb k controllers && not (bit faulty k))) (λ k. member t k && bit faulty k) (marked t))
    where
      both : (x y : Bool) → T x → T (not (true && not y)) → T (x && y)
      both true true s t = tt
      both true false s t = t
      both false y s t = elim s [ ]

      marked : (t : View) (k : ℕ) → k < controllers → T (member t k && not (ltb k controllers && not (bit faulty k))) → T (member t k && bit faulty k)
      marked t k l m = both (member t k) (bit faulty k) (and_first (member t k) (not (ltb k controllers && not (bit faulty k))) m)
          (subst (λ x. T (not (x && not (bit faulty k)))) (lt-ltb k controllers l) (and_second (member t k) (not (ltb k controllers && not (bit faulty k))) m))

  pub is-run : FewFaulty L setting.members faulty → IsRun run
  is-run few = premises (few-break few)
