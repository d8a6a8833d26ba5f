-- The pool after something is signed, the number of a statement in it, and an addition of what it has.
-- Assumes nothing.
use Rattle.std.specs.Prelude.{if◌then◌else◌}
use mathlib.Core.Path.{◌≡◌, refl, sym, ap, subst, ◌∙◌}
use mathlib.Core.Logic.{◌⊎◌, inl}
use mathlib.Core.Bool.{Bool, true, false, ◌||◌, true≢false, or-false}
use mathlib.Core.List.Memᴰ
use mathlib.Core.List.{List, [], ◌∷◌, ◌++◌, append-nil}
use mathlib.Core.Option.{some}
use Prim.Native.Nat.{ℕ, suc, ◌<◌}
use borrow.Author.Tests.{lt-leb, lt-ltb}
use lib.Dec.{T, leb}
use lib.ListN.{length, get_elem?}
use Rattle.protocol.specs.Lists.{◌∈◌, ◌⊆◌, any}
use Rattle.protocol.specs.View.{controllers}
use Rattle.protocol.specs.Statement.{Stmt, same_stmt, field_rules}
use Rattle.protocol.specs.Controller.{Controller, repeated, full, taken, Outcome}
use Rattle.protocol.specs.Call.{is_full, add, refuse as refused_by}
use Rattle.protocol.specs.Pool.{number_of, pooled, has_room}
use Rattle.protocol.proofs.Different.{Different, ordered-append}
use Rattle.protocol.proofs.Asked.{says-has, says-same-stmt}
use Rattle.protocol.proofs.Says.{is_true}
use Rattle.guarantee.proofs.Laws.{either, at-seam}
use Rattle.guarantee.proofs.Seats.{Fit}

-- Q is P with the statements S; those that it lacked stand at its end
pub record Grown (P S Q : List Stmt) : Type 0 where
  pub longer : (D : List Stmt) × (Q ≡ P ++ D)
  pub has : S ⊆ Q
  pub only : (s : Stmt) → s ∈ Q → (s ∈ P) ⊎ (s ∈ S)
  pub different : Different P → Different Q

pub grown-more : {P S Q : List Stmt} → Grown P S Q → P ⊆ Q
grown-more g a m = subst (λ Q. a ∈ Q) (sym g.longer.1) (Memᴰ.append_left g.longer.0 m)

module _ (P : List Stmt) where
  pub grown-none : {S : List Stmt} → S ≡ [] → Grown P S P
  grown-none e = record { longer = ([], sym (append-nil P)); has = λ a m. absurd (Memᴰ.not-nil (subst (λ S. a ∈ S) e m)); only = λ a m. inl m; different = λ d. d }

  module _ (s : Stmt) where
    pub grown-new : any (same_stmt s) P ≡ false → Grown P (s ∷ []) (P ++ (s ∷ []))
    grown-new e = record {
      longer = (s ∷ [], refl);
      has = λ a m. Memᴰ.append_right P m;
      only = λ a m. Memᴰ.append_cases P m;
      different = λ d. ordered-append (λ a b. ¬ (a ≡ b)) P s d (λ b m f. subst T e (says-has.complete (subst (λ x. x ∈ P) f m)));
    }

    grown-old : any (same_stmt s) P ≡ true → Grown P (s ∷ []) P
    grown-old e = record {
      longer = ([], sym (append-nil P));
      has = λ a m. subst (λ a. a ∈ P) (sym (Memᴰ.eq_of_singleton m)) (says-has.sound (subst T (sym e) tt));
      only = λ a m. inl m;
      different = λ d. d;
    }

    pub grown-pooled : Grown P (s ∷ []) (pooled s P)
    unfolding pooled
    grown-pooled = either (Grown P (s ∷ [])) (any (same_stmt s) P) grown-old grown-new

-- a statement has its number in the pool
number-old : (s : Stmt) (P : List Stmt) → any (same_stmt s) P ≡ true → get_elem? P (number_of s P) ≡ some s
unfolding any number_of
number-old s [] e = absurd (true≢false (sym e))
number-old s (x ∷ P) e = go (same_stmt s x) refl e (number-old s P)
  where
    go : (b : Bool) → same_stmt s x ≡ b → (b || any (same_stmt s) P) ≡ true → (any (same_stmt s) P ≡ true → get_elem? P (number_of s P) ≡ some s) → get_elem? (x ∷ P) (if b then 0 else suc (number_of s P)) ≡ some s
    go true f h ih = ap some (sym (says-same-stmt.sound (subst T (sym f) tt)))
    go false f h ih = ih h

number-new : (s : Stmt) (P : List Stmt) → any (same_stmt s) P ≡ false → number_of s P ≡ length P
unfolding any number_of
number-new s [] e = refl
number-new s (x ∷ P) e = go (same_stmt s x) e (number-new s P)
  where
    go : (b : Bool) → (b || any (same_stmt s) P) ≡ false → (any (same_stmt s) P ≡ false → number_of s P ≡ length P) → (if b then 0 else suc (number_of s P)) ≡ suc (length P)
    go true h ih = absurd (true≢false h)
    go false h ih = ap suc (ih h)

pub numbered : (s : Stmt) (P : List Stmt) → get_elem? (pooled s P) (number_of s P) ≡ some s
unfolding pooled
numbered s P = either (λ Q. get_elem? Q (number_of s P) ≡ some s) (any (same_stmt s) P) (number-old s P) (λ e. ap (get_elem? (P ++ (s ∷ []))) (number-new s P e) ∙ at-seam P s [])

-- an addition of what the pool has
abbrev pub added : Controller → List Stmt → Stmt → Outcome
added c X s = record { answer = taken; controller = c; statements = X ++ (s ∷ []) }

module _ (c : Controller) (X P : List Stmt) (s : Stmt) (ready : c.is_set_up ≡ true) (width : c.ring.width ≡ controllers) (n : ℕ) (many : length c.senders ≡ n) (clean : Fit n s) (has : s ∈ P) where
  pub add_is : add c X (has_room P) s ≡ (if any (same_stmt s) X then refused_by c X repeated else if leb 512 (length X) then refused_by c X full else added c X s)
  unfolding add is_full has_room
  add_is =
      rw (ready, width, many, is_true (field_rules controllers n s) clean.fields, lt-ltb s.notice n clean.notice, is_true (any (same_stmt s) P) (says-has.complete has), or-false (leb 512 (length X)))
      refl

  pub add-taken : any (same_stmt s) X ≡ false → length X < 512 → add c X (has_room P) s ≡ added c X s
  add-taken e h = add_is ∙ rw (e, lt-leb 512 (length X) h) refl
