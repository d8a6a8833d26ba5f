-- A schedule's run, line by line.
-- Assumes nothing.
use mathlib.Core.Path.{◌≡◌, refl, sym, ap, ap₂, subst, ◌∙◌}
use mathlib.Core.Logic.{◌⊎◌, inl, inr}
use mathlib.Core.Bool.{Bool, true, false, ◌||◌, true≢false}
use mathlib.Core.List.{List, [], ◌∷◌, ◌++◌, append_assoc, append-nil}
use mathlib.Core.Option.{Option, some, none}
use Prim.Native.Nat.{ℕ, suc, ◌+◌, ◌-◌, ◌≤◌, ◌<◌, min}
use native.Mathlib.Decide.{dec_lt, ℕ_discrete}
use native.Mathlib.Numerals.{add-one}
use native.Mathlib.Omega.{arith}
use lib.Dec.{eqb, ltb}
use lib.ListN.{length, get_or, set, take, drop, replicate, length-replicate, get_or-replicate, length-set, length-take, length-drop, length-append, drop_of_length-le, get_or-eq_default}
use lib.Seq.{sets, length-sets, get_or-set_same, get_or-set_other, set-get_or, ext_get_or, drop-drop, take_all}
use borrow.Author.Tests.{lt-ltb, le-ltb, eq-eqb, ne_eqb}
use Rattle.protocol.specs.Lists.{list_of}
use Rattle.protocol.specs.View.{controllers}
use Rattle.protocol.specs.Controller as controller
use Rattle.protocol.specs.Call.{started}
use Rattle.protocol.specs.Turn.{turn as turn_of}
use Rattle.text.specs.Written.{Wrote}
use Rattle.text.proofs.Stores.{both}
use Rattle.pool.specs.Pool.{stmt_at, pool_len, record_up_to, record_len, record_in, AllIn, Grows}
use Rattle.engine.specs.declared.Controller.{Controller}
use Rattle.engine.specs.declared.Answer.{Answer}
use Rattle.engine.specs.declared.Refusal.{Refusal}
use Rattle.engine.specs.declared.Outcome.{Outcome}
use Rattle.engine.specs.declared.Answer.TheVariants.{Taken, Signed, Entered, Delivered, Left, Quiet}
use Rattle.engine.specs.Meaning.{controller_is, Came, came_to, signed_number, answer_is}
use Rattle.schedule.specs.declared.line.Line.{Line as Held}
use Rattle.schedule.specs.declared.line.ReadLine.{ReadLine}
use Rattle.protocol.proofs.Found.{if-true, if-false}
use Rattle.protocol.proofs.Numbered.{list_of-length, list_of-at, list_of-cong}
use Rattle.bench.specs.declared.row.Word.TheVariants as word
use Rattle.bench.specs.declared.row.Value.TheVariants as value
use Rattle.bench.specs.declared.state.Setting.{Setting}
use Rattle.bench.specs.declared.state.Effect.{Effect}
use Rattle.bench.specs.declared.row.Word.{Word}
use Rattle.bench.specs.declared.row.Value.{Value}
use Rattle.bench.specs.declared.lines.Place.{Place}
use Rattle.bench.specs.declared.lines.Moved.{Moved}
use Rattle.bench.specs.declared.lines.Ended.{Ended}
use Rattle.schedule.specs.Line.{Line, ended, lines, Reads}
use Rattle.schedule.specs.Reading.{meant, Tells, ReadAs, LineOf}
use Rattle.schedule.proofs.Lines.{line-ended, line-tells}
use Rattle.bench.specs.Bench as bench
use Rattle.bench.specs.Bench.{Seat, empty_seat, Bench, Reply, new_bench, step}
use Rattle.bench.specs.Rows.{row_text, header_text, rows_from, ReadAll, refused_row, Printed}
use Rattle.bench.specs.After.{bench_after}
use Rattle.bench.specs.Writing.{word_for, value_is, row_of}
use Rattle.bench.specs.Seats.{blank, seat_is, terms_of, bench_of, Sound, Full, Keeps, ReadFrom, seat_of, setup_in, MayStart, seats_after, reply_is, changes_is, CalledAtSeat, Known, IfIdle, Rests, CalledByLine, next_turn, Judged, LacksNothing, Advanced, SteppedBy, word_of_answer, value_of_answer}
use Rattle.bench.specs.Running.{row_is, seats_is, bench_is, BenchKept, Fulls, Turnings, Started, Reading, RunSoFar, AtStart, HasRoom, RowWritten, RowPut, full_after, CallMade, CallRun, LineRun, Ran, PrintedInto}
use Rattle.bench.proofs.Rows.{shown}
use Rattle.bench.proofs.Records.{full-none, full-kept}
use Rattle.bench.proofs.States.{fit-seat, record-kept, whole-kept, no-pool}
use Rattle.std.specs.Prelude.{Some, None, Result, Ok, Err}

-- ---- a row is that of the reply

shows : (W : List ℕ) (a : Result Answer Refusal) (n : ℕ) → (word_for (answer_is W a) ≡ word_of_answer a) × (controller.answer_value n (answer_is W a) ≡ value_is (value_of_answer a n))
unfolding answer_is
shows W (Ok Taken) n = (refl, refl)
shows W (Ok (Signed i)) n = (refl, refl)
shows W (Ok (Entered v)) n = (refl, refl)
shows W (Ok (Delivered i m who)) n = (refl, refl)
shows W (Ok Left) n = (refl, refl)
shows W (Ok Quiet) n = (refl, refl)
shows W (Err r) n = (refl, refl)

row_is_lem : (W : List ℕ) (n who : ℕ) (a : Result Answer Refusal) (number : ℕ) → row_is n who a number ≡ row_text n (reply_is W who a number)
unfolding row_is
row_is_lem W n who a number = shown n (record { named = refl; word = (shows W a number).0; value = (shows W a number).1 })

refused-row : (n : ℕ) → row_of n 16 word.Refused (value.Number 8) ≡ row_text n (record { who = 16; answer = controller.refused controller.out_of_place; number = 0 })
refused-row n = shown n (record { named = refl; word = refl; value = refl })

-- the only row of a schedule that is not run
pub refused-wrote : {R R' : List ℕ} {r : ℕ} → Wrote R 22 (row_of 0 16 word.Refused (value.Number 8)) r R' × (length (row_of 0 16 word.Refused (value.Number 8)) ≤ 40)
    → Wrote R 22 refused_row r R' × (length refused_row ≤ 40)
refused-wrote {R} {R'} {r} w = subst (λ t. Wrote R 22 t r R' × (length t ≤ 40)) (refused-row 0) w

taken-row : (n who : ℕ) → row_of n who word.Taken (value.Number 0) ≡ row_text n (record { who = who; answer = controller.taken; number = 0 })
taken-row n who = shown n (record { named = refl; word = refl; value = refl })

passed-as : {R : List ℕ} {place : Place} {next : ℕ} {row row' : List ℕ} {on : Place} {R' : List ℕ} → row ≡ row' → RowWritten R place next row on R' → RowWritten R place next row' on R'
passed-as {R} {place} {next} {row} {row'} {on} {R'} e p = subst (λ t. RowWritten R place next t on R') e p

-- the row of an answer
pub put-answer : (R : List ℕ) (place : Place) (next who : ℕ) (a : Result Answer Refusal) (number : ℕ) (on : Place) (R' : List ℕ) {w : Word} {v : Value} → w ≡ word_of_answer a → v ≡ value_of_answer a number
    → RowPut R place next (row_of place.n who w v) on R' → RowPut R place next (row_is place.n who a number) on R'
unfolding row_is
put-answer R place next who a number on R' e f p = subst (λ t. RowPut R place next t on R') (ap₂ (row_of place.n who) e f) p

-- ---- the seats after a line

seat-there : (W : List ℕ) (cs : List Controller) (Rs : List (List ℕ)) (k : ℕ) → k < 16 → get_or (seats_is W cs Rs) k empty_seat ≡ seat_is W (get_or cs k blank) (get_or Rs k [])
unfolding seats_is
seat-there W cs Rs k l = list_of-at 16 (λ j. seat_is W (get_or cs j blank) (get_or Rs j [])) k empty_seat l

seats-long : (W : List ℕ) (cs : List Controller) (Rs : List (List ℕ)) → length (seats_is W cs Rs) ≡ 16
unfolding seats_is
seats-long W cs Rs = list_of-length 16 (λ j. seat_is W (get_or cs j blank) (get_or Rs j []))

-- the controllers after a line that starts none: only the one that it names may have changed
pub record Others (cs : List Controller) (k : ℕ) (cs' : List Controller) : Type 0 where
  pub long : length cs' ≡ length cs
  pub same : (i : ℕ) → (i ≡ k → ⊥) → get_or cs' i blank ≡ get_or cs i blank

others-none : (cs : List Controller) (k : ℕ) → Others cs k cs
others-none cs k = record { long = refl; same = λ i e. refl }

others-set : (cs : List Controller) (k : ℕ) (d : Controller) → Others cs k (set cs k d)
others-set cs k d = record { long = length-set cs k d; same = λ i e. get_or-set_other cs k i d blank e }

module _ (W W' : List ℕ) (cs cs' : List Controller) (Rs : List (List ℕ)) (R' : List ℕ) (k : ℕ) (h : k < 16) (m : BenchKept W cs Rs) (g : Grows W W') (o : Others cs k cs') where
  abbrev one : List Seat
  one = set (seats_is W cs Rs) k (seat_is W' (get_or cs' k blank) R')

  seats-set : one ≡ seats_is W' cs' (set Rs k R')
  seats-set = ext_get_or empty_seat one (seats_is W' cs' (set Rs k R'))
      (length-set (seats_is W cs Rs) k (seat_is W' (get_or cs' k blank) R') ∙ seats-long W cs Rs ∙ sym (seats-long W' cs' (set Rs k R')))
      (λ i l. let b : i < 16 = omega (arith, length-set (seats_is W cs Rs) k (seat_is W' (get_or cs' k blank) R'), seats-long W cs Rs) in
      elim (ℕ_discrete i k) [
        | yes e ↦ ap (λ j. get_or one j empty_seat) e
            ∙ get_or-set_same (seats_is W cs Rs) k (seat_is W' (get_or cs' k blank) R') empty_seat (omega (arith, seats-long W cs Rs))
            ∙ ap (seat_is W' (get_or cs' k blank)) (sym (get_or-set_same Rs k R' [] (omega (arith, m.records))))
            ∙ sym (seat-there W' cs' (set Rs k R') i b ∙ ap (λ j. seat_is W' (get_or cs' j blank) (get_or (set Rs k R') j [])) e)
        | no e ↦ get_or-set_other (seats_is W cs Rs) k i (seat_is W' (get_or cs' k blank) R') empty_seat e
            ∙ seat-there W cs Rs i b
            ∙ ap₂ (λ x y. record { controller = controller_is x; statements = y }) (sym (o.same i e)) (sym (record-kept g (get_or Rs i []) (m.whole i b)) ∙ ap (record_in W') (sym (get_or-set_other Rs k i R' [] e)))
            ∙ sym (seat-there W' cs' (set Rs k R') i b)
      ])

  kept_set : Sound W' R' → BenchKept W' cs' (set Rs k R')
  kept_set s = record {
    distinct = s.distinct;
    long = o.long ∙ m.long;
    records = length-set Rs k R' ∙ m.records;
    whole = λ i l. elim (ℕ_discrete i k) [
      | yes e ↦ subst (AllIn W') (sym (ap (λ j. get_or (set Rs k R') j []) e ∙ get_or-set_same Rs k R' [] (omega (arith, m.records)))) s.whole
      | no e ↦ subst (AllIn W') (sym (get_or-set_other Rs k i R' [] e)) (whole-kept g (get_or Rs i []) (m.whole i l))
    ];
  }

module _ (Rs : List (List ℕ)) (fs : List ℕ) (k : ℕ) (h : k < 16) (m : length Rs ≡ 16) (w : Fulls Rs fs) (R' : List ℕ) where
  fulls-set : (f : ℕ) → Full R' f → Fulls (set Rs k R') (set fs k f)
  fulls-set f x = record {
    long = length-set fs k f ∙ w.long;
    each = λ i l. elim (ℕ_discrete i k) [
      | yes e ↦ subst (λ j. Full (get_or (set Rs k R') j []) (get_or (set fs k f) j 0)) (sym e)
          (subst (λ t. Full t (get_or (set fs k f) k 0)) (sym (get_or-set_same Rs k R' [] (omega arith))) (subst (Full R') (sym (get_or-set_same fs k f 0 (omega (arith, w.long)))) x))
      | no e ↦ subst (λ t. Full t (get_or (set fs k f) i 0)) (sym (get_or-set_other Rs k i R' [] e)) (subst (Full (get_or Rs i [])) (sym (get_or-set_other fs k i f 0 e)) (w.each i l))
    ];
  }

  fulls-kept : Keeps (get_or Rs k []) R' → Fulls (set Rs k R') fs
  fulls-kept p = subst (Fulls (set Rs k R')) (set-get_or fs k 0) (fulls-set (get_or fs k 0) (full-kept (get_or Rs k []) R' p (get_or fs k 0) (w.each k h)))

pub fulls-none : (Rs : List (List ℕ)) (m : ℕ) → m ≡ 16 → Fulls Rs (replicate m 0)
fulls-none Rs m e = record {
  long = length-replicate m 0 ∙ e;
  each = λ k l. subst (Full (get_or Rs k [])) (sym (get_or-replicate m k 0 0 (omega arith))) (full-none (get_or Rs k []));
}

-- a turn that is known to do nothing, over a pool that grew and in the place of the same controller
idle-same : (W W' : List ℕ) (a : Result Answer Refusal) → changes_is a ≡ false → answer_is W a ≡ answer_is W' a
unfolding answer_is
idle-same W W' (Ok Taken) e = refl
idle-same W W' (Ok (Signed n)) e = absurd (true≢false e)
idle-same W W' (Ok (Entered v)) e = refl
idle-same W W' (Ok (Delivered i m who)) e = refl
idle-same W W' (Ok Left) e = refl
idle-same W W' (Ok Quiet) e = refl
idle-same W W' (Err r) e = refl

rests-as : (W W' R R' : List ℕ) (c d : Controller) (v : Known) → controller_is d ≡ controller_is c → record_in W' R' ≡ record_in W R → IfIdle v (Rests W R c) → IfIdle v (Rests W' R' d)
rests-as W W' R R' c d (Some a) e f r = record {
  idle = r.idle;
  turns = λ room minute l. ap₂ (λ x X. turn_of x X room minute) e f ∙ r.turns room minute l
      ∙ ap₂ (λ b (o : controller.Outcome). record { answer = b; controller = o.controller; statements = o.statements }) (idle-same W W' a r.idle) (ap₂ (λ x X. record { answer = controller.quiet; controller = x; statements = X }) (sym e) (sym f));
}
rests-as W W' R R' c d None e f r = tt

module _ (W W' : List ℕ) (cs cs' : List Controller) (Rs : List (List ℕ)) (vs : List Known) (R' : List ℕ) (k : ℕ) (h : k < 16) (m : BenchKept W cs Rs) (g : Grows W W') (o : Others cs k cs') (y : Turnings W cs Rs vs) where
  turnings-set : (v : Known) → IfIdle v (Rests W' R' (get_or cs' k blank)) → Turnings W' cs' (set Rs k R') (set vs k v)
  turnings-set v r = record {
    long = length-set vs k v ∙ y.long;
    each = λ i l. elim (ℕ_discrete i k) [
      | yes e ↦ subst (λ j. IfIdle (get_or (set vs k v) j None) (Rests W' (get_or (set Rs k R') j []) (get_or cs' j blank))) (sym e)
          (subst (λ t. IfIdle t (Rests W' (get_or (set Rs k R') k []) (get_or cs' k blank))) (sym (get_or-set_same vs k v None (omega (arith, y.long))))
          (subst (λ t. IfIdle v (Rests W' t (get_or cs' k blank))) (sym (get_or-set_same Rs k R' [] (omega (arith, m.records)))) r))
      | no e ↦ subst (λ t. IfIdle t (Rests W' (get_or (set Rs k R') i []) (get_or cs' i blank))) (sym (get_or-set_other vs k i v None e))
          (rests-as W W' (get_or Rs i []) (get_or (set Rs k R') i []) (get_or cs i blank) (get_or cs' i blank) (get_or vs i None) (ap controller_is (o.same i e)) (ap (record_in W') (get_or-set_other Rs k i R' [] e) ∙ record-kept g (get_or Rs i []) (m.whole i l)) (y.each i l))
    ];
  }

pub turnings-none : (W : List ℕ) (cs : List Controller) (Rs : List (List ℕ)) (m : ℕ) → m ≡ 16 → Turnings W cs Rs (replicate m None)
turnings-none W cs Rs m e = record {
  long = length-replicate m None ∙ e;
  each = λ k l. subst (λ t. IfIdle t (Rests W (get_or Rs k []) (get_or cs k blank))) (sym (get_or-replicate m k None None (omega arith))) tt;
}

-- ---- a line that calls a controller

-- the controller is stored where it changed
abbrev pub Stored : List Controller → ℕ → Came → List Controller → Type 0
Stored cs k o cs' = ((changes_is o.answer ≡ true) × (cs' ≡ set cs k o.controller)) ⊎ ((changes_is o.answer ≡ false) × (cs' ≡ cs))

-- the controller and the answer after a call on c that returned r
abbrev pub StoredIn : Controller → Came → Controller → Type 0
StoredIn c o c' = ((changes_is o.answer ≡ true) × (c' ≡ o.controller)) ⊎ ((changes_is o.answer ≡ false) × (c' ≡ c))

pub record CameTo (c : Controller) (r : Result Outcome Refusal) (c' : Controller) (a : Result Answer Refusal) : Type 0 where
  pub stored : StoredIn c (came_to c r) c'
  pub answered : a ≡ (came_to c r).answer

module _ (c : Controller) {r : Result Outcome Refusal} {c' : Controller} {a : Result Answer Refusal} where
  pub came-changed : (o : Outcome) {b : Bool} → r ≡ Ok o → b ≡ changes_is (Ok o.answer) → b ≡ true → c' ≡ o.controller → a ≡ Ok o.answer → CameTo c r c' a
  came-changed o e f g h i = subst (λ t. CameTo c t c' a) (sym e) (record { stored = inl (sym f ∙ g, h); answered = i })

  pub came-kept : (o : Outcome) {b : Bool} → r ≡ Ok o → b ≡ changes_is (Ok o.answer) → b ≡ false → c' ≡ c → a ≡ Ok o.answer → CameTo c r c' a
  came-kept o e f g h i = subst (λ t. CameTo c t c' a) (sym e) (record { stored = inr (sym f ∙ g, h); answered = i })

  pub came-refused : (q : Refusal) → r ≡ Err q → c' ≡ c → a ≡ Err q → CameTo c r c' a
  came-refused q e h i = subst (λ t. CameTo c t c' a) (sym e) (record { stored = inr (refl, h); answered = i })

-- a call that is made
pub call-made : (W R : List ℕ) (c : Controller) (l : Held) {W' R' : List ℕ} {r : Result Outcome Refusal} {c' : Controller} {a : Result Answer Refusal} {v : Known} → CalledByLine W R c l (came_to c r) W' R' → CameTo c r c' a
    → v ≡ next_turn c l a → CallMade W R c l a W' R' c' v
call-made W R c l {W'} {R'} {r} {c'} {a} {v} m t x = record {
  came = came_to c r;
  called = m;
  answered = t.answered;
  stored = t.stored;
  rests = rests-as W' W' R' R' (came_to c r).controller c' v (same t.stored) refl (subst (λ u. IfIdle u (Rests W' R' (came_to c r).controller)) (sym (x ∙ ap (next_turn c l) t.answered)) m.rests);
}
  where
    same : StoredIn c (came_to c r) c' → controller_is c' ≡ controller_is (came_to c r).controller
    same (inl (e, z)) = ap controller_is z
    same (inr (e, z)) = ap controller_is z ∙ sym (m.called.same e)

-- a call, and its row
module _ (W R : List ℕ) (place : Place) (next : ℕ) (c : Controller) (l : Held) (rows rows' : List ℕ) (on : Place) (number : ℕ) where
  -- one that is known to change nothing
  pub judged-run : (t : Known) {v : Known} (a : Result Answer Refusal) {k : ℕ} → Sound W R → IfIdle t (Rests W R c) → Judged c l t v → v ≡ Some a → k ≡ seat_of l → number ≡ signed_number a
      → RowPut rows place next (row_is place.n k a number) on rows' → CallRun W R place next c l rows on W R c t rows'
  judged-run t a s y j z q n p = record {
    came = record { answer = a; controller = c };
    called = subst (λ u. IfIdle u (λ r. CalledByLine W R c l (record { answer = r; controller = c }) W R)) z (j.answers W R s y);
    stored = go (changes_is a) refl;
    rests = y;
    passed = subst (λ u. RowPut rows place next u on rows') (ap₂ (λ i m. row_is place.n i a m) q n) p;
  }
    where
      go : (b : Bool) → changes_is a ≡ b → StoredIn c (record { answer = a; controller = c }) c
      go true e = inl (e, refl)
      go false e = inr (e, refl)

  -- one that was made
  pub made-run : {W' R' : List ℕ} {c' : Controller} {a : Result Answer Refusal} {v : Known} {k : ℕ} → CallMade W R c l a W' R' c' v → k ≡ seat_of l → number ≡ signed_number a
      → RowPut rows place next (row_is place.n k a number) on rows' → CallRun W R place next c l rows on W' R' c' v rows'
  made-run {a = a} m q n p = record {
    came = m.came;
    called = m.called;
    stored = m.stored;
    rests = m.rests;
    passed = subst (λ u. RowPut rows place next u on rows') (ap₂ (λ i j. row_is place.n i a j) q n ∙ ap (λ b. row_is place.n (seat_of l) b (signed_number b)) m.answered) p;
  }

module _ (g : Setting) (W W' : List ℕ) (cs cs' : List Controller) (Rs : List (List ℕ)) (R' : List ℕ) (k : ℕ) (l : Line) (o : Came) (h : k < 16) (m : BenchKept W cs Rs)
    (a : CalledAtSeat W (get_or Rs k []) (get_or cs k blank) k l o W' R') (t : Stored cs k o cs') where
  call-others : Others cs k cs'
  call-others = go t
    where
      go : Stored cs k o cs' → Others cs k cs'
      go (inl (q, z)) = subst (Others cs k) (sym z) (others-set cs k o.controller)
      go (inr (q, z)) = subst (Others cs k) (sym z) (others-none cs k)

  controller-after : controller_is o.controller ≡ controller_is (get_or cs' k blank)
  controller-after = go t
    where
      go : Stored cs k o cs' → controller_is o.controller ≡ controller_is (get_or cs' k blank)
      go (inl (q, z)) = ap controller_is (sym (ap (λ u. get_or u k blank) z ∙ get_or-set_same cs k o.controller blank (omega (arith, m.long))))
      go (inr (q, z)) = a.same q ∙ ap (λ u. controller_is (get_or u k blank)) (sym z)

  call-left : step (bench_is g W cs Rs) (some l) ≡ record { reply = reply_is W' k o.answer (signed_number o.answer); bench = bench_is g W' cs' (set Rs k R') }
  call-left = a.steps g.ready (terms_of g) (seats_is W cs Rs) (seat-there W cs Rs k h)
      ∙ ap (λ X. record { reply = reply_is W' k o.answer (signed_number o.answer); bench = bench_of g.ready (terms_of g) X W' })
      (ap (λ c. set (seats_is W cs Rs) k (record { controller = c; statements = record_in W' R' })) controller-after ∙ seats-set W W' cs cs' Rs R' k h m a.grows call-others)

  -- what is known of its next turn
  call-turnings : (vs : List Known) (v : Known) → Turnings W cs Rs vs → IfIdle v (Rests W' R' o.controller) → Turnings W' cs' (set Rs k R') (set vs k v)
  call-turnings vs v y r = turnings-set W W' cs cs' Rs vs R' k h m a.grows call-others y v (rests-as W' W' R' R' o.controller (get_or cs' k blank) v (sym controller-after) refl r)

  call_kept : BenchKept W' cs' (set Rs k R')
  call_kept = kept_set W W' cs cs' Rs R' k h m a.grows call-others a.sound

-- ---- a line that calls none

module _ (g : Setting) (W W' : List ℕ) (cs : List Controller) (Rs : List (List ℕ)) (R' : List ℕ) (k : ℕ) (l : Line) (y : Reply) (n : Setting) (fresh : Bool) (S A : List ℕ) (h : k < 16) (m : BenchKept W cs Rs)
    (a : Advanced W (get_or Rs k []) g k l y n fresh W' R' S A) where
  abbrev X₀ : List Seat
  X₀ = seats_is W cs Rs

  abbrev begins : List Seat
  begins = list_of controllers (λ j. record { controller = started j (setup_in n S A); statements = [] })

  went : step (bench_is g W cs Rs) (some l) ≡ record { reply = y; bench = bench_of n.ready (terms_of n) (seats_after fresh (setup_in n S A) W' R' k X₀) W' }
  went = a.steps X₀ (ap (λ (s : Seat). s.statements) (seat-there W cs Rs k h))

  line-left : fresh ≡ false → step (bench_is g W cs Rs) (some l) ≡ record { reply = y; bench = bench_is n W' cs (set Rs k R') }
  line-left e = went ∙ ap (λ X. record { reply = y; bench = bench_of n.ready (terms_of n) X W' })
      (if-false fresh begins (set X₀ k (record { controller = (get_or X₀ k empty_seat).controller; statements = record_in W' R' })) e
      ∙ ap (λ (s : Seat). set X₀ k (record { controller = s.controller; statements = record_in W' R' })) (seat-there W cs Rs k h)
      ∙ seats-set W W' cs cs Rs R' k h m (a.grows e) (others-none cs k))

  line_kept : fresh ≡ false → BenchKept W' cs (set Rs k R')
  line_kept e = kept_set W W' cs cs Rs R' k h m (a.grows e) (others-none cs k) (a.sound e)

  module _ (cs'' : List Controller) (Rs'' : List (List ℕ)) (s : Started (setup_in n S A) cs'' Rs'') where
    empty-record : (j : ℕ) → j < 16 → record_in W' (get_or Rs'' j []) ≡ []
    unfolding record_up_to list_of
    empty-record j b = ap (λ i. list_of i (λ i. stmt_at W' (get_or (get_or Rs'' j []) i 0))) (s.each j b).1

    fresh-left : fresh ≡ true → step (bench_is g W cs Rs) (some l) ≡ record { reply = y; bench = bench_is n W' cs'' Rs'' }
    unfolding seats_is
    fresh-left e = went ∙ ap (λ X. record { reply = y; bench = bench_of n.ready (terms_of n) X W' })
        (if-true fresh begins (set X₀ k (record { controller = (get_or X₀ k empty_seat).controller; statements = record_in W' R' })) e
        ∙ list_of-cong 16 (λ j. record { controller = started j (setup_in n S A); statements = [] }) (λ j. seat_is W' (get_or cs'' j blank) (get_or Rs'' j []))
        (λ j b. ap₂ (λ x z. record { controller = x; statements = z }) (sym (s.each j b).0) (sym (empty-record j b))))

    fresh_kept : fresh ≡ true → BenchKept W' cs'' Rs''
    unfolding AllIn
    fresh_kept e = record {
      distinct = record { tells = λ i j a' b. absurd (omega (arith, (a.begun e).0)) };
      long = s.long;
      records = s.records;
      whole = λ j b i h. absurd (omega (arith, (s.each j b).1));
    }

-- ---- one line more

module _ (S : List ℕ) (place on : Place) (b b' : Bench) (R R' R'' : List ℕ) (going : RunSoFar S place b R R') (r : ReadLine) (of : LineOf (drop place.at S) r) (more : place.at < length S)
    (this : Option Line) (is-this : Reads b.notices (take r.next (drop place.at S)) this) (reply : Reply) (left : step b this ≡ record { reply = reply; bench = b' })
    (p : RowWritten R' place r.next (row_text place.n reply) on R'') where
  abbrev row : List ℕ
  row = row_text place.n reply

  some_left : 0 < length (drop place.at S)
  some_left = omega (arith, length-drop place.at S)

  rest_of : (L : List (Option Line)) → ReadAll b' (lines (drop on.at S)) L → Reading S (going.printed ++ row) (rows_from on.n b' L) (bench_after b' L)
  unfolding rows_from bench_after
  rest_of L q =
      let q' : ReadAll b' (lines (drop r.next (drop place.at S))) L = subst (λ t. ReadAll b' (lines t) L) (ap (λ i. drop i S) p.at ∙ sym (drop-drop r.next place.at S)) q in
      let q'' : ReadAll (step b this).bench (lines (drop r.next (drop place.at S))) L = subst (λ (t : bench.Stepped). ReadAll t.bench (lines (drop r.next (drop place.at S))) L) (sym left) q' in
      let all : ReadAll b (lines (drop place.at S)) (this ∷ L) = subst (λ t. ReadAll b t (this ∷ L)) (sym (of.first some_left)) (is-this, q'') in
      let whole : Reading S going.printed (rows_from place.n b (this ∷ L)) (bench_after b (this ∷ L)) = going.rest (this ∷ L) all in
      record {
        reading = whole.reading;
        reads = whole.reads;
        rows = whole.rows
            ∙ ap (λ (t : bench.Stepped). going.printed ++ (row_text place.n t.reply ++ rows_from (suc place.n) t.bench L)) left
            ∙ sym (append_assoc going.printed row (rows_from (suc place.n) b' L))
            ∙ ap (λ t. (going.printed ++ row) ++ rows_from t b' L) (sym (p.number ∙ add-one place.n));
        ends = whole.ends ∙ ap (λ (t : bench.Stepped). bench_after t.bench L) left;
      }

  goes_on : RunSoFar S on b' R R''
  goes_on = record {
    printed = going.printed ++ row;
    wrote = both going.wrote p.wrote;
    small = omega (arith, p.small, p.at, going.small, length-append going.printed row, of.moves some_left);
    number = omega (arith, p.number, p.at, going.number, of.moves some_left);
    within = omega (arith, p.at, of.within, length-drop place.at S, going.within);
    rest = rest_of;
  }

part-read : (S : List ℕ) (at : ℕ) (r : ReadLine) → LineOf (take (length S - at) (drop at S)) r → LineOf (drop at S) r
part-read S at r of = rw (take_all (length S - at) (drop at S) (omega (arith, length-drop at S))) at of

module _ (S : List ℕ) (place : Place) (r : ReadLine) (of : LineOf (take (length S - place.at) (drop place.at S)) r) where
  pub next-within : place.at ≤ length S → place.at + r.next ≤ length S
  next-within l = omega (arith, (part-read S place.at r of).within, length-drop place.at S)

  pub next-moves : place.at < length S → 0 < r.next
  next-moves l = (part-read S place.at r of).moves (omega (arith, length-drop place.at S))

  -- the measure falls
  pub less : {R R' row : List ℕ} {on : Place} → place.at < length S → RowWritten R place r.next row on R' → length S - on.at < length S - place.at
  less l p = omega (arith, p.at, next-moves l, next-within (omega arith))

  pub room : {b : Bench} {R R' : List ℕ} → RunSoFar S place b R R' → length S ≤ 65536 → place.at < length S → HasRoom place r.next
  room g s m = record { out = omega (arith, g.wrote.next, g.small); number = omega (arith, g.number); at = omega (arith, next-within (omega arith)) }

  -- a line that reads
  module _ (l : Held) (e : r.parsed ≡ Some l) where
    -- its text, as the part of the schedule that the line is given
    abbrev body : List ℕ
    body = take (place.at + r.next - 1 - place.at) (drop place.at S)

    body_is : body ≡ take (r.next - 1) (drop place.at S)
    body_is = let n : place.at + r.next - 1 - place.at ≡ r.next - 1 = omega arith in ap (λ i. take i (drop place.at S)) n

    body_ended : take r.next (drop place.at S) ≡ ended body
    body_ended = line-ended (drop place.at S) r (part-read S place.at r of) l e ∙ ap ended (sym body_is)

    pub body-long : place.at < length S → length body + 1 ≡ r.next
    body-long m = omega (arith, ap length body_is, length-take (r.next - 1) (drop place.at S), (part-read S place.at r of).within, next-moves m)

    line_reads : (n : ℕ) (this : Line) → Reads n (ended body) (some this) → Reads n (take r.next (drop place.at S)) (some this)
    line_reads n this t = subst (λ s. Reads n s (some this)) (sym body_ended) t

    pub line-fits : ReadFrom l body
    line-fits = record { tells = subst (λ t. Tells (meant l) (ended t)) (sym body_is) (line-tells (drop place.at S) r (part-read S place.at r of) l e) }

    pub line-seat : {k : ℕ} → k ≡ seat_of l → k < 16
    line-seat q = omega (arith, q, fit-seat l line-fits)

    pub room-body : {b : Bench} {R R' : List ℕ} → RunSoFar S place b R R' → length S ≤ 65536 → place.at < length S → HasRoom place (length body + 1)
    room-body g s m = subst (HasRoom place) (sym (body-long m)) (room g s m)

    -- one that calls
    module _ (W W' : List ℕ) (cs cs' : List Controller) (Rs : List (List ℕ)) (fs : List ℕ) (vs : List Known) (R' : List ℕ) (k : ℕ) (q : k ≡ seat_of l) (m : BenchKept W cs Rs) (w : Fulls Rs fs) (y : Turnings W cs Rs vs) (o : Came)
        (a : CalledByLine W (get_or Rs k []) (get_or cs k blank) l o W' R') (t : Stored cs k o cs') where
      at-seat : CalledAtSeat W (get_or Rs k []) (get_or cs k blank) k a.line o W' R'
      at-seat = subst (λ j. CalledAtSeat W (get_or Rs k []) (get_or cs k blank) j a.line o W' R') (sym q) a.called

      call-reads : (n : ℕ) → Reads n (ended body) (some a.line)
      call-reads = subst (λ u. Tells u (ended body)) a.means line-fits.tells

      pub call-on : {R₀ rows rows' : List ℕ} {on : Place} {number : ℕ} {v : Known} → RunSoFar S place (bench_is place.setting W cs Rs) R₀ rows → place.at < length S → number ≡ signed_number o.answer → v ≡ next_turn (get_or cs k blank) l o.answer
          → RowPut rows place r.next (row_is place.n k o.answer number) on rows'
          → BenchKept W' cs' (set Rs k R') × RunSoFar S on (bench_is on.setting W' cs' (set Rs k R')) R₀ rows' × Fulls (set Rs k R') fs × Turnings W' cs' (set Rs k R') (set vs k v)
      call-on {R₀} {rows} {rows'} {on} {number} {v} going more z x p = (
        call_kept place.setting W W' cs cs' Rs R' k a.line o (line-seat q) m at-seat t,
        subst (λ g. RunSoFar S on (bench_is g W' cs' (set Rs k R')) R₀ rows') (sym p.setting)
            (goes_on S place on (bench_is place.setting W cs Rs) (bench_is place.setting W' cs' (set Rs k R')) R₀ rows rows' going r (part-read S place.at r of) more (some a.line) (line_reads (terms_of place.setting).notices a.line (call-reads (terms_of place.setting).notices))
            (reply_is W' k o.answer (signed_number o.answer)) (call-left place.setting W W' cs cs' Rs R' k a.line o (line-seat q) m at-seat t)
            (passed-as (ap (row_is place.n k o.answer) z ∙ row_is_lem W' place.n k o.answer (signed_number o.answer)) p.passed)),
        fulls-kept Rs fs k (line-seat q) m.records w R' at-seat.keeps,
        call-turnings place.setting W W' cs cs' Rs R' k a.line o (line-seat q) m at-seat t vs v y (subst (λ u. IfIdle u (Rests W' R' o.controller)) (sym x) a.rests),
      )

    -- one that was run
    module _ (W W' : List ℕ) (cs : List Controller) (Rs : List (List ℕ)) (fs : List ℕ) (vs : List Known) (R' : List ℕ) (k : ℕ) (q : k ≡ seat_of l) (m : BenchKept W cs Rs) (w : Fulls Rs fs) (y : Turnings W cs Rs vs)
        (rows rows' : List ℕ) (on : Place) (c' : Controller) (v' : Known) (x : CallRun W (get_or Rs k []) place r.next (get_or cs k blank) l rows on W' R' c' v' rows') where
      run-stored : Stored cs k x.came (set cs k c')
      run-stored = go x.stored
        where
          go : StoredIn (get_or cs k blank) x.came c' → Stored cs k x.came (set cs k c')
          go (inl (e', z)) = inl (e', ap (set cs k) z)
          go (inr (e', z)) = inr (e', ap (set cs k) z ∙ set-get_or cs k blank)

      run-seat : CalledAtSeat W (get_or Rs k []) (get_or cs k blank) k x.called.line x.came W' R'
      run-seat = subst (λ j. CalledAtSeat W (get_or Rs k []) (get_or cs k blank) j x.called.line x.came W' R') (sym q) x.called.called

      pub called-on : {R₀ : List ℕ} → RunSoFar S place (bench_is place.setting W cs Rs) R₀ rows → place.at < length S
          → BenchKept W' (set cs k c') (set Rs k R') × RunSoFar S on (bench_is on.setting W' (set cs k c') (set Rs k R')) R₀ rows' × Fulls (set Rs k R') fs × Turnings W' (set cs k c') (set Rs k R') (set vs k v')
      called-on {R₀} going more =
          let b = call-on W W' cs (set cs k c') Rs fs vs R' k q m w y x.came x.called run-stored going more refl refl (subst (λ j. RowPut rows place r.next (row_is place.n j x.came.answer (signed_number x.came.answer)) on rows') (sym q) x.passed) in
          (b.0, b.1, b.2, turnings-set W W' cs (set cs k c') Rs vs R' k (line-seat q) m run-seat.grows (others-set cs k c') y v' (subst (λ d. IfIdle v' (Rests W' R' d)) (sym (get_or-set_same cs k c' blank (omega (arith, m.long, line-seat q)))) x.rests))

    -- one that finds nothing to do
    module _ (W : List ℕ) (cs : List Controller) (Rs : List (List ℕ)) (fs : List ℕ) (k : ℕ) (q : k ≡ seat_of l) (m : BenchKept W cs Rs) (w : Fulls Rs fs) {vs : List Known} (y : Turnings W cs Rs vs) (idle : LacksNothing W place.setting (get_or fs k 0) l) where
      idle-reads : (n : ℕ) → Reads n (ended body) (some idle.line)
      idle-reads = subst (λ u. Tells u (ended body)) idle.means line-fits.tells

      idle-left : step (bench_is place.setting W cs Rs) (some idle.line) ≡ record { reply = record { who = seat_of l; answer = controller.taken; number = 0 }; bench = bench_is place.setting W cs Rs }
      idle-left = idle.steps (get_or Rs k []) (record { distinct = m.distinct; whole = m.whole k (line-seat q) }) (w.each k (line-seat q)) (seats_is W cs Rs)
          (ap (λ j. (get_or (seats_is W cs Rs) j empty_seat).statements) (sym q) ∙ ap (λ (s : Seat). s.statements) (seat-there W cs Rs k (line-seat q)))

      pub idle-on : {R₀ rows rows' : List ℕ} {on : Place} → RunSoFar S place (bench_is place.setting W cs Rs) R₀ rows → place.at < length S → RowPut rows place r.next (row_of place.n k word.Taken (value.Number 0)) on rows'
          → BenchKept W cs Rs × RunSoFar S on (bench_is on.setting W cs Rs) R₀ rows' × Fulls Rs fs × Turnings W cs Rs vs
      idle-on {R₀} {rows} {rows'} {on} going more p = (
        m,
        subst (λ g. RunSoFar S on (bench_is g W cs Rs) R₀ rows') (sym p.setting)
            (goes_on S place on (bench_is place.setting W cs Rs) (bench_is place.setting W cs Rs) R₀ rows rows' going r (part-read S place.at r of) more (some idle.line) (line_reads (terms_of place.setting).notices idle.line (idle-reads (terms_of place.setting).notices))
            (record { who = seat_of l; answer = controller.taken; number = 0 }) idle-left
            (passed-as (taken-row place.n k ∙ ap (λ j. row_text place.n (record { who = j; answer = controller.taken; number = 0 })) q) p.passed)),
        w,
        y,
      )

    -- one that calls no controller
    module _ (W W' : List ℕ) (cs : List Controller) (Rs : List (List ℕ)) (fs R' : List ℕ) (k : ℕ) (q : k ≡ seat_of l) (m : BenchKept W cs Rs) (w : Fulls Rs fs) {vs : List Known} (y : Turnings W cs Rs vs) (s : Moved) (rows rows' senders windows : List ℕ) (more : place.at < length S)
        (a : LineRun W (get_or Rs k []) place (seat_of l) body rows s W' R' rows' senders windows) where
      run_at : Advanced W (get_or Rs k []) place.setting k a.line a.reply s.place.setting s.fresh W' R' senders windows
      run_at = subst (λ j. Advanced W (get_or Rs k []) place.setting j a.line a.reply s.place.setting s.fresh W' R' senders windows) (sym q) a.advanced

      run-passed : RowWritten rows place r.next (row_text place.n a.reply) s.place rows'
      run-passed = subst (λ n. RowWritten rows place n (row_text place.n a.reply) s.place rows') (body-long more) a.passed

      pub run-less : length S - s.place.at < length S - place.at
      run-less = less more run-passed

      pub run_on : {R₀ : List ℕ} → s.fresh ≡ false → RunSoFar S place (bench_is place.setting W cs Rs) R₀ rows
          → BenchKept W' cs (set Rs k R') × RunSoFar S s.place (bench_is s.place.setting W' cs (set Rs k R')) R₀ rows' × Fulls (set Rs k R') (set fs k s.full) × Turnings W' cs (set Rs k R') (set vs k None)
      run_on {R₀} e' going = (
        line_kept place.setting W W' cs Rs R' k a.line a.reply s.place.setting s.fresh senders windows (line-seat q) m run_at e',
        goes_on S place s.place (bench_is place.setting W cs Rs) (bench_is s.place.setting W' cs (set Rs k R')) R₀ rows rows' going r (part-read S place.at r of) more (some a.line) (line_reads (terms_of place.setting).notices a.line a.reads) a.reply
            (line-left place.setting W W' cs Rs R' k a.line a.reply s.place.setting s.fresh senders windows (line-seat q) m run_at e') run-passed,
        fulls-set Rs fs k (line-seat q) m.records w R' s.full (a.full_is e'),
        turnings-set W W' cs cs Rs vs R' k (line-seat q) m (run_at.grows e') (others-none cs k) y None tt,
      )

      pub run-allowed : s.fresh ≡ true → MayStart (setup_in s.place.setting senders windows)
      run-allowed e' = (run_at.begun e').1

      pub run-fresh : {R₀ : List ℕ} (cs'' : List Controller) (Rs'' : List (List ℕ)) (f : ℕ) → f ≡ 16 → s.fresh ≡ true → Started (setup_in s.place.setting senders windows) cs'' Rs'' → RunSoFar S place (bench_is place.setting W cs Rs) R₀ rows
          → BenchKept W' cs'' Rs'' × RunSoFar S s.place (bench_is s.place.setting W' cs'' Rs'') R₀ rows' × Fulls Rs'' (replicate f 0) × Turnings W' cs'' Rs'' (replicate f None)
      run-fresh {R₀} cs'' Rs'' f z e' d going = (
        fresh_kept place.setting W W' cs Rs R' k a.line a.reply s.place.setting s.fresh senders windows (line-seat q) m run_at cs'' Rs'' d e',
        goes_on S place s.place (bench_is place.setting W cs Rs) (bench_is s.place.setting W' cs'' Rs'') R₀ rows rows' going r (part-read S place.at r of) more (some a.line) (line_reads (terms_of place.setting).notices a.line a.reads) a.reply
            (fresh-left place.setting W W' cs Rs R' k a.line a.reply s.place.setting s.fresh senders windows (line-seat q) m run_at cs'' Rs'' d e') run-passed,
        fulls-none Rs'' f z,
        turnings-none W' cs'' Rs'' f z,
      )

  -- one that does not
  pub unread-on : r.parsed ≡ None → {W : List ℕ} {cs : List Controller} {Rs : List (List ℕ)} {R R' R'' : List ℕ} {on : Place} → BenchKept W cs Rs → RunSoFar S place (bench_is place.setting W cs Rs) R R' → place.at < length S
      → RowPut R' place r.next (row_of place.n 16 word.Refused (value.Number 8)) on R'' → RunSoFar S on (bench_is on.setting W cs Rs) R R''
  unfolding step
  unread-on e {W} {cs} {Rs} {R} {R'} {R''} {on} m going more p =
      subst (λ g. RunSoFar S on (bench_is g W cs Rs) R R'') (sym p.setting)
      (goes_on S place on (bench_is place.setting W cs Rs) (bench_is place.setting W cs Rs) R R' R'' going r (part-read S place.at r of) more none (subst (λ t. ReadAs t (take r.next (drop place.at S))) e (part-read S place.at r of).reads (terms_of place.setting).notices)
      (record { who = 16; answer = controller.refused controller.out_of_place; number = 0 }) refl (passed-as (refused-row place.n) p.passed))

pub going-long : {S : List ℕ} {place : Place} {b : Bench} {R R' : List ℕ} → RunSoFar S place b R R' → length R' ≡ length R
going-long {R = R} g = ap length g.wrote.is ∙ length-sets R 22 g.printed

pub full-whole : (b : Bool) (n full r : ℕ) → b ≡ true → r ≡ n → r ≡ full_after b n full
full-whole b n full r e q = q ∙ sym (ap (λ x. full_after x n full) e)

pub full-before : (b : Bool) (n full : ℕ) → b ≡ false → full ≡ full_after b n full
full-before b n full e = sym (ap (λ x. full_after x n full) e)

-- ---- a line that calls no controller, and its row

module _ (W R : List ℕ) (place : Place) (l : Held) (T : List ℕ) (full : ℕ) (rows : List ℕ) (s : Sound W R) (f : Full R full) where
  full-after : (R' : List ℕ) (n : ℕ) (b : Bool) → Keeps R R' → (b ≡ true → Full R' n) → Full R' (full_after b n full)
  full-after R' n true k h = h refl
  full-after R' n false k h = full-kept R R' k full f

  pub run-stepped : {W' R' : List ℕ} {st : Effect} {on : Place} {rows' : List ℕ} {known : ℕ} {S A : List ℕ} → SteppedBy W R place.setting (seat_of l) T st W' R' S A → RowPut rows place (length T + 1) (row_is place.n st.who st.answer st.number) on rows'
      → known ≡ full_after st.whole (pool_len W') full
      → LineRun W R place (seat_of l) T rows (record { place = record { setting = st.setting; at = on.at; n = on.n; out = on.out }; fresh = st.fresh; full = known }) W' R' rows' S A
  run-stepped {W'} {R'} {st} {on} {rows'} {known} {S} {A} a p z = record {
    line = a.line;
    reads = a.reads;
    reply = reply_is W' st.who st.answer st.number;
    passed = (let u = passed-as (row_is_lem W' place.n st.who st.answer st.number) p.passed in record { at = u.at; number = u.number; wrote = u.wrote; small = u.small });
    advanced = a.stepped.advanced;
    full_is = λ e. subst (Full R') (sym z) (full-after R' (pool_len W') st.whole (a.stepped.advanced.keeps e) a.stepped.full);
  }

-- ---- the start and the end

pub going_end : {S : List ℕ} {place : Place} {W : List ℕ} (cs : List Controller) (Rs : List (List ℕ)) {R R' : List ℕ} {k : ℕ} {e : Ended} → RunSoFar S place (bench_is place.setting W cs Rs) R R' → length S ≤ place.at → length S ≤ 65536 → k < 16
    → (e.out ≡ place.out) × (e.controller ≡ get_or cs k blank) × (e.ids ≡ get_or Rs k []) → Ran S R R' k e W
unfolding rows_from bench_after lines
going_end {S} {place} {W} cs Rs {R} {R'} {k} {e} g m l h d = record {
  printed = g.printed;
  wrote = subst (λ o. Wrote R 22 g.printed o R') (sym d.0) g.wrote;
  small = omega (arith, g.small, g.within);
  final = bench_is place.setting W cs Rs;
  ran = g.rest [] (subst (λ t. ReadAll (bench_is place.setting W cs Rs) (lines t) []) (sym (drop_of_length-le S m)) tt);
  sixteen = seats-long W cs Rs;
  held = seat-there W cs Rs k h ∙ ap₂ (seat_is W) (sym d.1) (sym d.2);
}

zero-at : (n i : ℕ) → ◌≡◌ {A = ℕ} (get_or (replicate n 0) i 0) 0
zero-at n i = elim (dec_lt i n) [
  | yes l ↦ get_or-replicate n i 0 0 l
  | no l ↦ get_or-eq_default (replicate n 0) 0 (omega (arith, length-replicate {A = ℕ} n 0))
]

empty-length : (n : ℕ) → record_len (replicate n 0) ≡ 0
empty-length n = let z : ◌≡◌ {A = ℕ} (get_or (replicate n 0) 512 0) 0 = zero-at n 512 in omega arith

-- a record of zeros is empty
pub no_record : (W : List ℕ) (n : ℕ) → record_in W (replicate n 0) ≡ []
unfolding record_up_to list_of
no_record W n = ap (λ i. list_of i (λ i. stmt_at W (get_or (replicate n 0) i 0))) (empty-length n)

module _ (c : Controller) (fresh : controller_is c ≡ controller.not_set_up) (m n : ℕ) (e : m ≡ 16) (W₀ : List ℕ) (empty-pool : pool_len W₀ ≡ 0) where
  abbrev R₀ : List ℕ
  R₀ = replicate n 0

  record_is : (k : ℕ) → k < 16 → get_or (replicate m R₀) k [] ≡ R₀
  record_is k l = get_or-replicate m k R₀ [] (omega arith)

  controller-is : (k : ℕ) → k < 16 → get_or (replicate m c) k blank ≡ c
  controller-is k l = get_or-replicate m k c blank (omega arith)

  no-numbers : AllIn W₀ R₀
  unfolding AllIn
  no-numbers i l = absurd (omega (arith, empty-length n))

  pub kept-first : BenchKept W₀ (replicate m c) (replicate m R₀)
  kept-first = record {
    distinct = record { tells = λ i j a b. absurd (omega (arith, empty-pool)) };
    long = length-replicate m c ∙ e;
    records = length-replicate m R₀ ∙ e;
    whole = λ k l. subst (AllIn W₀) (sym (record_is k l)) no-numbers;
  }

  bench-first : bench_of false (record { faulty = 0; notices = 1 }) (seats_is W₀ (replicate m c) (replicate m R₀)) W₀ ≡ new_bench
  unfolding seats_is
  bench-first = ap₂ (λ X P. record { is_set_up = false; faulty = 0; notices = 1; seats = X; pool = P })
      (list_of-cong 16 (λ k. seat_is W₀ (get_or (replicate m c) k blank) (get_or (replicate m R₀) k [])) (λ k. empty_seat)
      (λ k l. ap₂ (λ x y. record { controller = controller_is x; statements = record_in W₀ y }) (controller-is k l) (record_is k l) ∙ ap₂ (λ x y. record { controller = x; statements = y }) fresh (no_record W₀ n)))
      (sym (no-pool W₀ empty-pool))

  pub going-first : (S R : List ℕ) (place : Place) → AtStart place → RunSoFar S place (bench_is place.setting W₀ (replicate m c) (replicate m R₀)) R R
  going-first S R place b = record {
    printed = [];
    wrote = record { next = omega (arith, b.out); is = refl };
    small = omega arith;
    number = omega (arith, b.number, b.at);
    within = omega (arith, b.at);
    rest = λ L q. record {
      reading = L;
      reads = subst (λ i. ReadAll new_bench (lines (drop i S)) L) b.at (subst (λ t. ReadAll t (lines (drop place.at S)) L) first-is q);
      rows = ap₂ (λ n t. rows_from n t L) (sym b.number) (sym first-is);
      ends = ap (λ t. bench_after t L) (sym first-is);
    };
  }
    where
      terms-are : terms_of place.setting ≡ record { faulty = 0; notices = 1 }
      terms-are = ap₂ (λ x y. record { faulty = x; notices = min y 64 }) b.faulty b.notices

      first-is : bench_is place.setting W₀ (replicate m c) (replicate m R₀) ≡ new_bench
      first-is = ap₂ (λ x y. bench_of x y (seats_is W₀ (replicate m c) (replicate m R₀)) W₀) b.ready terms-are ∙ bench-first

-- ---- the header and what stands after it

headed : (S R R' R'' xs : List ℕ) (r : ℕ) → Printed S (header_text ++ xs) → R' ≡ sets R 0 header_text → Wrote R' 22 xs r R'' → length xs ≤ 2621440 → PrintedInto S R r R''
headed S R R' R'' xs r p e w m = record { text = header_text ++ xs; printed = p; wrote = both {s = header_text} (record { next = refl; is = e }) w; small = omega (arith, length-append header_text xs) }

pub empty-reads : (S : List ℕ) → length S ≡ 0 → ReadAll new_bench (lines S) []
unfolding lines
empty-reads [] e = tt
empty-reads (x ∷ S) e = absurd (omega arith)

module _ (S R R' R'' : List ℕ) (r : ℕ) (e : R' ≡ sets R 0 header_text)
    (put : Wrote R' 22 refused_row r R'' × (length refused_row ≤ 40)) where
  refusal : Printed S (header_text ++ refused_row) → PrintedInto S R r R''
  refusal p = headed S R R' R'' refused_row r p e put.0 (omega (arith, put.1))

  pub printed-empty : length S ≡ 0 → PrintedInto S R r R''
  printed-empty z = refusal (record { reading = []; reads = λ h. empty-reads S z; prints = ap (λ t. header_text ++ t) (sym (if-true (eqb (length S) 0 || ltb 65536 (length S)) refused_row (rows_from 1 new_bench []) (ap (λ b. b || ltb 65536 (length S)) (eq-eqb (length S) 0 z)))) })

  or_yes : (b : Bool) → (b || true) ≡ true
  or_yes true = refl
  or_yes false = refl

  pub printed-long : 65536 < length S → PrintedInto S R r R''
  printed-long z = refusal (record { reading = []; reads = λ h. absurd (omega arith); prints = ap (λ t. header_text ++ t) (sym (if-true (eqb (length S) 0 || ltb 65536 (length S)) refused_row (rows_from 1 new_bench []) (ap (λ b. eqb (length S) 0 || b) (lt-ltb 65536 (length S) z) ∙ or_yes (eqb (length S) 0)))) })

pub printed-run : (S R R' R'' : List ℕ) {k : ℕ} {d : Ended} {W : List ℕ} → R' ≡ sets R 0 header_text → Ran S R' R'' k d W → (length S ≡ 0 → ⊥) → length S ≤ 65536 → PrintedInto S R d.out R''
printed-run S R R' R'' {d = d} e m a b = headed S R R' R'' m.printed d.out (record {
  reading = m.ran.reading;
  reads = λ h. m.ran.reads;
  prints = ap (λ t. header_text ++ t) (sym (m.ran.rows ∙ append-nil m.printed) ∙ sym (if-false (eqb (length S) 0 || ltb 65536 (length S)) refused_row (rows_from 1 new_bench m.ran.reading) (ap₂ ◌||◌ (ne_eqb (length S) 0 a) (le-ltb 65536 (length S) b))));
}) e m.wrote m.small
