-- A controller and its record after a schedule's last line.
-- Assumes nothing.
use Rattle.std.specs.Prelude.{if◌then◌else◌}
use mathlib.Core.Path.{◌≡◌, refl, sym, ap, ap₂, subst, ◌∙◌}
use mathlib.Core.Bool.{Bool, true, false, ◌||◌}
use mathlib.Core.List.{List, []}
use Prim.Native.Nat.{ℕ, ◌%◌, ◌≤◌, ◌<◌}
use native.Mathlib.Omega.{arith}
use lib.Dec.{eqb, ltb}
use lib.ListN.{length, replicate, get_or-eq_default}
use lib.Seq.{sets}
use borrow.Author.Tests.{le-ltb, ne_eqb}
use Rattle.protocol.specs.Controller.{not_set_up}
use Rattle.protocol.proofs.Found.{if-false}
use Rattle.protocol.proofs.Numbered.{list_of-length, list_of-at}
use Rattle.text.specs.Written.{Wrote}
use Rattle.pool.specs.Pool.{record_in}
use Rattle.engine.specs.declared.Controller.{Controller}
use Rattle.engine.specs.Meaning.{controller_is}
use Rattle.schedule.specs.Line.{lines}
use Rattle.bench.specs.declared.lines.Ended.{Ended}
use Rattle.bench.specs.Bench.{Seat, empty_seat, Bench, new_bench, seat}
use Rattle.bench.specs.Rows.{header_text, ReadAll, refused_row}
use Rattle.bench.specs.After.{bench_after, last_bench, SeatAfter}
use Rattle.bench.specs.Seats.{seat_is}
use Rattle.bench.specs.Running.{Ran, NotRun, RanWith, PrintedInto}
use Rattle.bench.proofs.Runs.{no_record, empty-reads, printed-empty, printed-long, printed-run}

-- ---- a schedule that is not run

new-seat : (k : ℕ) → k < 16 → seat new_bench k ≡ empty_seat
new-seat k l = list_of-at 16 (λ j. empty_seat) k empty_seat l

either : {A : Type 0} (b : Bool) (x : A) → (if b then x else x) ≡ x
either true x = refl
either false x = refl

last-new : (S : List ℕ) → last_bench S [] ≡ new_bench
unfolding last_bench bench_after
last-new S = either (eqb (length S) 0 || ltb 65536 (length S)) new_bench

pub not-run-left : {R R' : List ℕ} {out : ℕ} {c : Controller} (m : ℕ) {d : Ended} → Wrote R 22 refused_row out R' × (length refused_row ≤ 40) → controller_is c ≡ not_set_up → (d.out ≡ out) × (d.controller ≡ c) × (d.ids ≡ replicate m 0) → NotRun R d R'
not-run-left {R} {R'} {out} {c} m {d} w f e = record {
  wrote = subst (λ r. Wrote R 22 refused_row r R') (sym e.0) w.0;
  small = w.1;
  controller = ap controller_is e.1 ∙ f;
  none = λ W. ap (record_in W) e.2 ∙ no_record W m;
}

module _ (S R R' R'' : List ℕ) (k : ℕ) (l : k < 16) (d : Ended) (W : List ℕ) (e : R' ≡ sets R 0 header_text) (n : NotRun R' d R'') where
  new_is : seat (last_bench S []) k ≡ empty_seat
  new_is = ap (λ b. seat b k) (last-new S) ∙ new-seat k l

  not-run : PrintedInto S R d.out R'' → (length S ≤ 65536 → ReadAll new_bench (lines S) []) → RanWith S R k d R'' W
  not-run p q = record {
    into = p;
    after = record { reading = []; reads = q; controller = n.controller ∙ sym (ap (λ (s : Seat). s.controller) new_is); statements = n.none W ∙ sym (ap (λ (s : Seat). s.statements) new_is) };
    sixteen = ap (λ (b : Bench). length b.seats) (last-new S) ∙ list_of-length 16 (λ j. empty_seat);
  }

  pub after-empty : length S ≡ 0 → RanWith S R k d R'' W
  after-empty z = not-run (printed-empty S R R' R'' d.out e (n.wrote, n.small) z) (λ h. empty-reads S z)

  pub after-long : 65536 < length S → RanWith S R k d R'' W
  after-long z = not-run (printed-long S R R' R'' d.out e (n.wrote, n.small) z) (λ h. absurd (omega arith))

-- ---- one that is run

module _ (S R R' R'' : List ℕ) (k : ℕ) (d : Ended) (W : List ℕ) (e : R' ≡ sets R 0 header_text) (m : Ran S R' R'' k d W) (a : length S ≡ 0 → ⊥) (b : length S ≤ 65536) where
  last-is : last_bench S m.ran.reading ≡ m.final
  unfolding last_bench
  last-is = if-false (eqb (length S) 0 || ltb 65536 (length S)) new_bench (bench_after new_bench m.ran.reading) (ap₂ ◌||◌ (ne_eqb (length S) 0 a) (le-ltb 65536 (length S) b)) ∙ m.ran.ends

  seat-is : seat (last_bench S m.ran.reading) k ≡ seat_is W d.controller d.ids
  seat-is = ap (λ t. seat t k) last-is ∙ m.held

  pub after_run : RanWith S R k d R'' W
  after_run = record {
    into = printed-run S R R' R'' e m a b;
    after = record {
      reading = m.ran.reading;
      reads = λ h. m.ran.reads;
      controller = sym (ap (λ (s : Seat). s.controller) seat-is);
      statements = sym (ap (λ (s : Seat). s.statements) seat-is);
    };
    sixteen = ap (λ (t : Bench). length t.seats) last-is ∙ m.sixteen;
  }

-- ---- what is answered

-- there is such a controller
pub after-named : {S R : List ℕ} {k : ℕ} {d : Ended} {R' W : List ℕ} → RanWith S R (k % 16) d R' W → k < 16 → SeatAfter S k d.controller W d.ids
after-named {S} {R} {k} {d} {R'} {W} w l = let e : k % 16 ≡ k = omega arith in subst (λ j. SeatAfter S j d.controller W d.ids) e w.after

-- there is none
pub after-nobody : {S R : List ℕ} {j : ℕ} {d : Ended} {R' W : List ℕ} {k : ℕ} {c : Controller} {ids : List ℕ} → RanWith S R j d R' W → 16 ≤ k → controller_is c ≡ not_set_up → record_in W ids ≡ [] → SeatAfter S k c W ids
after-nobody {S} {R} {j} {d} {R'} {W} {k} w l e f = record {
  reading = w.after.reading;
  reads = w.after.reads;
  controller = e ∙ sym (ap (λ (s : Seat). s.controller) past);
  statements = f ∙ sym (ap (λ (s : Seat). s.statements) past);
}
  where
    past : seat (last_bench S w.after.reading) k ≡ empty_seat
    past = get_or-eq_default (last_bench S w.after.reading).seats empty_seat (omega (arith, w.sixteen))
