-- Values that a line tells one after the other: what the loop that reads them keeps, and that what it read is what the line tells.
-- Assumes nothing.
use Prim.Native.Nat.{ℕ, ◌+◌, ◌<◌, ◌≤◌}
use native.Mathlib.Decide.{dec_lt}
use native.Mathlib.Omega.{arith}
use mathlib.Core.Path.{◌≡◌, refl, sym, ap, subst, ◌∙◌}
use mathlib.Core.List.{List, [], ◌∷◌, ◌++◌, map, append_assoc, append-nil}
use lib.ListN.{length, set, get_or, length-append, length-map, get_or-append, get_or-map}
use lib.Seq.{get_or_at, get_or-set_same, get_or-set_other}
use Rattle.std.specs.Prelude.{◌≢◌, Option, Some, None}
use Rattle.std.proofs.lemmas.List.{get_or_default}
use Rattle.text.specs.declared.Read.{Read}
use Rattle.text.specs.Scan.{read}
use Rattle.statements.specs.Meaning.{Each}
use Rattle.statements.proofs.Sequence.{Comma, SoFar, so-far-first, so-far-next, so-far-refused, so-far-all}
use Rattle.schedule.specs.Reading.{Values, OneAt, ManyAt, Run, Placed, ManyRead}

-- ---- the loop
module _ {X : Type 0} (step : ℕ → Option (Read X) → Type 0) where
  run_more : (l : List X) (a b : ℕ) (x : X) (next : ℕ) → Run step l a b → step b (Some (read x next)) → Run step (l ++ (x ∷ [])) a next
  run_more [] a b x next e s = (next, subst (λ k. step k (Some (read x next))) (sym e) s, refl)
  run_more (y ∷ l) a b x next r s = (r.0, r.1, run_more l r.0 b x next r.2 s)

  module _ (places at₀ : ℕ) where
    -- j values were read and put into the memory S, and the next is to begin at `at`.
    pub record SoRead (S : List X) (j at : ℕ) : Type 0 where
      pub values : List X
      pub count : length values ≡ j
      pub run : Run step values at₀ at
      pub placed : Placed places S values

    pub so-read-first : (S : List X) → SoRead S 0 at₀
    so-read-first S = record { values = []; count = refl; run = refl; placed = λ i d h. absurd (omega arith) }

    module _ (S : List X) (j at : ℕ) (so : SoRead S j at) where
      more : (S' : List X) (x : X) (next : ℕ) → step at (Some (read x next)) → Placed places S' (so.values ++ (x ∷ [])) → SoRead S' (j + 1) next
      more S' x next s p = record { values = so.values ++ (x ∷ []); count = length-append so.values (x ∷ []) ∙ ap (λ (k : ℕ). k + 1) so.count; run = run_more so.values at₀ at x next so.run s; placed = p }

      pub so-read-put : (S' : List X) (x : X) (next : ℕ) → step at (Some (read x next)) → S' ≡ set S j x → j < length S → SoRead S' (j + 1) next
      so-read-put S' x next s e h = more S' x next s (λ i d l k. ap (λ m. get_or m i d) e ∙ elim (dec_lt i j) [
        | yes m ↦ (let ne : i ≢ j = omega arith in let b : i < length so.values = omega (arith, so.count) in rw get_or-set_other (so.placed i d b k ∙ sym (get_or-append so.values (x ∷ []) d i b)))
        | no m ↦ (let q : i ≡ j = omega (arith, so.count, length-append so.values (x ∷ [])) in ap (λ n. get_or (set S j x) n d) q ∙ get_or-set_same S j x d h ∙ sym (get_or_at so.values x [] d i (so.count ∙ sym q)))
      ])

      pub so-read-past : (S' : List X) (x : X) (next : ℕ) → step at (Some (read x next)) → S' ≡ S → places ≤ j → SoRead S' (j + 1) next
      so-read-past S' x next s e h = more S' x next s (λ i d l k. let b : i < length so.values = omega (arith, so.count) in ap (λ m. get_or m i d) e ∙ so.placed i d b k ∙ sym (get_or-append so.values (x ∷ []) d i b))

      pub so-read-refused : (n : ℕ) → j < n → step at None → ManyRead step places at₀ n S None
      so-read-refused n h s = record { values = so.values; position = at; run = so.run; placed = so.placed; all = tt; refused = (omega (arith, so.count), s) }

      pub so-read-all : (n : ℕ) → n ≤ j → j ≤ n → ManyRead step places at₀ n S (Some at)
      so-read-all n h k = record { values = so.values; position = at; run = so.run; placed = so.placed; all = (omega (arith, so.count), refl); refused = tt }

-- ---- what a line tells
module _ {A : Type 0} (K : Values A) (T : List ℕ) (at₀ n : ℕ) (step : ℕ → Option (Read ℕ) → Type 0) (steps : (at : ℕ) (r : Option (Read ℕ)) → step at r → OneAt K T at r) (comma : Comma K.text) where
  each_more : (l : List A) (v : A) → Each K.Fit l → K.Fit v → Each K.Fit (l ++ (v ∷ []))
  each_more [] v e f = (f, tt)
  each_more (a ∷ l) v e f = (e.0, each_more l v e.1 f)

  abbrev Told : List A → ℕ → Type 0
  Told done at = SoFar K.text K.Fit T n at₀ done at × Each K.Fit done

  runs : (l : List ℕ) (done : List A) (at end : ℕ) → Told done at → length done + length l ≤ n → Run step l at end → Told (done ++ map K.means l) end
  runs [] done at end t h e = rw (append-nil done) (subst (Told done) e t)
  runs (x ∷ l) done at end t h r =
      let v : A = K.means x in
      let c = steps at (Some (read x r.0)) r.1 in
      let one : Told (done ++ (v ∷ [])) r.0 = (so-far-next K.text K.Fit T n at₀ done at t.0 comma v r.0 (omega arith) c.from, each_more done v t.1 c.fits) in
      subst (λ k. Told k end) (append_assoc done (v ∷ []) (map K.means l)) (runs l (done ++ (v ∷ [])) r.0 end one (omega (arith, length-append done (v ∷ []))) r.2)

  module _ (S : List ℕ) (r : Option ℕ) (m : ManyRead step K.places at₀ n S r) where
    abbrev values : List A
    values = map K.means m.values

    told : length m.values ≤ n → Told values m.position
    told h = runs m.values [] at₀ m.position (so-far-first K.text K.Fit T n at₀, tt) (omega arith) m.run

    long : length values ≡ length m.values
    long = length-map m.values K.means

    stand : (i : ℕ) → i < length values → i < K.places → K.means (get_or S i 0) ≡ get_or values i K.blank
    stand i h k = let b : i < length m.values = omega (arith, long) in ap K.means (m.placed i 0 b k) ∙ sym (get_or-map K.means m.values i 0) ∙ get_or_default values i (K.means 0) K.blank h

  pub many-of : (S : List ℕ) (r : Option ℕ) → ManyRead step K.places at₀ n S r → ManyAt K T at₀ n S r
  many-of S None m =
      let t = told S None m (omega (arith, m.refused.0)) in record {
        values = values S None m;
        many = tt;
        stand = record { each = stand S None m };
        from = so-far-refused K.text K.Fit T n at₀ (values S None m) m.position t.0 comma (omega (arith, long S None m, m.refused.0)) (steps m.position None m.refused.1).from;
      }
  many-of S (Some end) m =
      let t = told S (Some end) m (omega (arith, m.all.0)) in
      let e : length (values S (Some end) m) ≡ n = omega (arith, long S (Some end) m, m.all.0) in record {
        values = values S (Some end) m;
        many = (e, t.1);
        stand = record { each = stand S (Some end) m };
        from = so-far-all K.text K.Fit T n at₀ (values S (Some end) m) end (subst (SoFar K.text K.Fit T n at₀ (values S (Some end) m)) m.all.1 t.0) e;
      }
