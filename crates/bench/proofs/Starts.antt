-- Sixteen controllers after a setup, and their empty records.
-- Assumes nothing.
use mathlib.Core.Path.{◌≡◌, sym, ap, subst, ◌∙◌}
use mathlib.Core.Bool.{true}
use mathlib.Core.List.{List, []}
use Prim.Native.Nat.{ℕ, ◌+◌, ◌≤◌, ◌<◌}
use native.Mathlib.Decide.{ℕ_discrete}
use native.Mathlib.Omega.{arith}
use lib.ListN.{length, get_or, set, replicate, length-replicate, length-set}
use lib.Seq.{get_or-set_same, get_or-set_other}
use borrow.Author.Tests.{lt-ltb}
use Rattle.protocol.specs.Statement.{Stmt}
use Rattle.protocol.specs.Controller as controller
use Rattle.protocol.specs.Call as call
use Rattle.pool.specs.Pool.{record_len, record_in}
use Rattle.std.specs.Prelude.{Err}
use Rattle.engine.specs.declared.Refusal.{Refusal}
use Rattle.engine.specs.declared.Controller.{Controller}
use Rattle.engine.specs.Meaning.{controller_is, Came, answer_is, refusal_is}
use Rattle.engine.specs.Promise.{Starts, NumbersAfter, started_of}
use Rattle.bench.specs.Seats.{blank, MayStart}
use Rattle.bench.specs.Running.{Started}

-- the first k have started
pub record StartedTo (p : call.Setup) (k : ℕ) (cs : List Controller) (Rs : List (List ℕ)) : Type 0 where
  pub long : length cs ≡ 16
  pub records : length Rs ≡ 16
  pub each : (j : ℕ) → j < k → (controller_is (get_or cs j blank) ≡ call.started j p) × (record_len (get_or Rs j []) ≡ 0)

module _ (p : call.Setup) where
  pub started_none : (c : Controller) (m : ℕ) (Rs : List (List ℕ)) → m ≡ 16 → length Rs ≡ 16 → StartedTo p 0 (replicate m c) Rs
  started_none c m Rs e f = record { long = length-replicate m c ∙ e; records = f; each = λ j l. absurd (omega arith) }

  pub started-all : (k : ℕ) (cs : List Controller) (Rs : List (List ℕ)) → 16 ≤ k → StartedTo p k cs Rs → Started p cs Rs
  started-all k cs Rs l s = record { long = s.long; records = s.records; each = λ j h. s.each j (omega arith) }

  module _ (ok : MayStart p) where
    allowed_at : (k : ℕ) → k < 16 → call.setup_allowed k p.members p.senders ≡ true
    unfolding call.setup_allowed
    allowed_at k l = rw (lt-ltb k 16 l) ok.allowed

    setup-is : (c : controller.Controller) (X : List Stmt) (k : ℕ) → c ≡ controller.not_set_up → k < 16 → call.setup c X k p ≡ record { answer = controller.taken; controller = call.started k p; statements = [] }
    unfolding call.setup
    setup-is c X k e l = ap (λ t. call.setup t X k p) e ∙ (rw (allowed_at k l, ok.windows))

    module _ (c : Controller) (fresh : controller_is c ≡ controller.not_set_up) (k : ℕ) (o : Came) (R R' : List ℕ) (l : k < 16) (m : Starts (λ X. call.setup (controller_is c) X k p) R c o R') where
      outcome-is : call.setup (controller_is c) (record_in [] R) k p ≡ record { answer = controller.taken; controller = call.started k p; statements = [] }
      outcome-is = setup-is (controller_is c) (record_in [] R) k fresh l

      begun : (controller_is o.controller ≡ call.started k p) × (record_len R' ≡ 0)
      unfolding Starts
      begun = ((m []).controller ∙ ap (λ (t : controller.Outcome). t.controller) outcome-is, (subst (λ (t : controller.Outcome). NumbersAfter [] R (started_of t.answer) R') outcome-is (m []).numbers).len)

      -- a setup that may start a ring is taken
      pub never-refused : (q : Refusal) → o.answer ≡ Err q → ⊥
      unfolding Starts answer_is
      never-refused q e = let h : controller.refused (refusal_is q) ≡ controller.taken = ap (answer_is []) (sym e) ∙ (m []).answer ∙ ap (λ (t : controller.Outcome). t.answer) outcome-is in cc

      pub started-next : (cs : List Controller) (Rs : List (List ℕ)) → StartedTo p k cs Rs → StartedTo p (k + 1) (set cs k o.controller) (set Rs k R')
      started-next cs Rs s = record {
        long = length-set cs k o.controller ∙ s.long;
        records = length-set Rs k R' ∙ s.records;
        each = λ j h. elim (ℕ_discrete j k) [
          | yes e ↦ subst (λ i. (controller_is (get_or (set cs k o.controller) i blank) ≡ call.started i p) × (record_len (get_or (set Rs k R') i []) ≡ 0)) (sym e)
              (ap controller_is (get_or-set_same cs k o.controller blank (omega (arith, s.long))) ∙ begun.0, ap record_len (get_or-set_same Rs k R' [] (omega (arith, s.records))) ∙ begun.1)
          | no e ↦ (ap controller_is (get_or-set_other cs k j o.controller blank e) ∙ (s.each j (omega arith)).0, ap record_len (get_or-set_other Rs k j R' [] e) ∙ (s.each j (omega arith)).1)
        ];
      }
