-- Laws of the verdicts as they are written down one by one, and of a search among them.
-- Assumes nothing.
use Rattle.std.specs.Prelude.{Some}
use mathlib.Core.Path.{◌≡◌, refl, sym, ap, ◌∙◌, subst}
use mathlib.Core.Bool.{Bool, true, false}
use mathlib.Core.List.{List}
use Prim.Native.Nat.{ℕ, zero, suc, ◌+◌, ◌≤◌, ◌<◌}
use native.Mathlib.Decide.{ℕ_discrete}
use native.Mathlib.Omega.{arith}
use lib.ListN.{length, get_or, set, replicate}
use lib.Seq.{get_or-set_same, get_or-set_other}
use Rattle.protocol.specs.Statement.{Stmt}
use Rattle.views.specs.View.{view_of}
use Rattle.tables.specs.Index.{key_at}
use Rattle.votes.specs.Tables.{seals_at, Tables}
use Rattle.sealing.specs.declared.verdict.Verdict.{Verdict}
use Rattle.sealing.specs.declared.verdict.Verdict.TheVariants.{Unknown, Yes, No}
use Rattle.sealing.specs.Verdict.{known, is_yes}
use Rattle.sealing.specs.Memos.{Memos, Later, RememberedFrom, Blank, Verdicts}
use Rattle.sealing.proofs.Laws.{cand, found, about-choice, about-agreement, write}

-- ---- places that remember something

pub known-first : {n : ℕ} {M : List Verdict} → RememberedFrom n n M
known-first = record { has = λ k l m. absurd (omega arith) }

pub known_kept : {W : List ℕ} {X : List Stmt} {init : ℕ} {K R : List ℕ} {from n : ℕ} {M N : List Verdict} → RememberedFrom from n M → Later W X init K R M N → RememberedFrom from n N
known_kept w l = record { has = λ k h m e. w.has k h m (l.kept k e) }

pub known_next : (x : Verdict) {b : Bool} {from n m : ℕ} {M : List Verdict} → RememberedFrom from n M → length M ≡ 1024 → n < 1024 → known x ≡ Some b → m ≤ n + 1 → RememberedFrom from m (set M n x)
known_next x {b = r} {from} {n} {m} {M} w e l d t = record { has = λ k h i q. go k h i q (ℕ_discrete k n) }
  where
    go : (k : ℕ) → from ≤ k → k < m → get_or (set M n x) k Unknown ≡ Unknown → Dec (k ≡ n) → ⊥
    go k h i q (yes f) = found x r d (sym (get_or-set_same M n x Unknown (omega arith)) ∙ subst (λ (j : ℕ). get_or (set M n x) j Unknown ≡ Unknown) f q)
    go k h i q (no f) = w.has k h (omega (arith, f)) (sym (get_or-set_other M n k x Unknown f) ∙ q)

pub known-all : {from n m : ℕ} {M : List Verdict} → RememberedFrom from m M → n ≤ m → RememberedFrom from n M
known-all w l = record { has = λ k h i. w.has k h (omega arith) }

-- ---- nothing is remembered yet

-- an array that was just made
pub blank-made : (n : ℕ) → Blank (replicate n Unknown)
blank-made n = record { none = go n }
  where
    go : (n k : ℕ) → get_or (replicate n Unknown) k Unknown ≡ Unknown
    go zero k = refl
    go (suc n) zero = refl
    go (suc n) (suc k) = go n k

pub memos-first : {W : List ℕ} {X : List Stmt} {init : ℕ} {K R : List ℕ} {M : List Verdict} → Blank M → Memos W X init K R M
memos-first {M = M} b = record { right = λ k d e. absurd (found (get_or M k Unknown) d e (b.none k)) }

-- ---- a verdict that is written down

module _ {W : List ℕ} {X : List Stmt} {init : ℕ} {K R : List ℕ} {M N : List Verdict} (ok : Later W X init K R M N) where
  pub choice-next : (x : Verdict) {c v : ℕ} {r : Bool} → c < 512 → v ≡ key_at K 0 c → r ≡ cand X init (view_of v) → known x ≡ Some r → Later W X init K R M (set N c x)
  choice-next x l e f g = write ok x (about-choice l) (g ∙ ap Some (f ∙ ap (λ y. cand X init (view_of y)) e))

  pub agreement-next : (x : Verdict) (a : ℕ) {r : Bool} → r ≡ seals_at W X init K R a → known x ≡ Some r → Later W X init K R M (set N (512 + a) x)
  agreement-next x a f g = write ok x (about-agreement a) (g ∙ ap Some f)

-- ---- what the verdicts say

-- what is remembered as a yes, where all that is remembered is right
yes-is : (v : Verdict) (b : Bool) → (v ≡ Unknown → ⊥) → ((r : Bool) → known v ≡ Some r → r ≡ b) → is_yes v ≡ b
yes-is Unknown b d h = absurd (d refl)
yes-is Yes b d h = h true refl
yes-is No b d h = h false refl

module _ {W : List ℕ} {X : List Stmt} {init : ℕ} {K R : List ℕ} {choice_count agreement_count : ℕ} where
  pub verdicts-of : {M : List Verdict} → Tables W X init K R choice_count agreement_count → Memos W X init K R M → RememberedFrom 0 choice_count M → RememberedFrom 512 (512 + agreement_count) M → Verdicts W X init K R choice_count agreement_count M
  verdicts-of {M} ok m c a = record {
    candidate = λ i l. yes-is (get_or M i Unknown) _ (c.has i (omega arith) l) (m.right i) ∙ (about-choice (omega (arith, ok.chosen.few))).so;
    sealed = λ i l. yes-is (get_or M (512 + i) Unknown) _ (a.has (512 + i) (omega arith) (omega arith)) (m.right (512 + i)) ∙ (about-agreement i).so;
  }

  -- r tells what place a of the agreements says
  pub says-as : {M : List Verdict} {a : ℕ} {r : Bool} → Verdicts W X init K R choice_count agreement_count M → a < agreement_count → r ≡ is_yes (get_or M (512 + a) Unknown) → r ≡ seals_at W X init K R a
  says-as {a = a} ok l e = e ∙ ok.sealed a l
