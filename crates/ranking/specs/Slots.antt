-- Slots: one for each size. Views that are comparable differ in size, and histories of which one holds the other in length, so a slot for each holds them.
-- Assumes nothing.
use Rattle.std.specs.Prelude.{◌≡◌, ◌≢◌, ◌⊎◌, Bool, true, false, List, [], ◌∷◌, ◌++◌, ℕ, zero, suc, ◌+◌, ◌≤◌, ◌<◌, eqb, ltb, get_or, length, if◌then◌else◌}
use Rattle.protocol.specs.Lists.{◌∈◌}
use Rattle.protocol.specs.View.{View, size, Within}
use Rattle.protocol.specs.History.{Holds}
use Rattle.views.specs.View.{view_of, views_of}
use Rattle.pool.specs.Pool.{stmt_at}
use Rattle.tables.specs.Index.{number_at}
use Rattle.sealing.specs.declared.verdict.Verdict.{Verdict}
use Rattle.sealing.specs.declared.verdict.Verdict.TheVariants.{Unknown}
use Rattle.sealing.specs.Verdict.{is_yes}

-- What a word stands for, the sizes of such things, above which none is, and when one lies under another.
pub record Scale : Type 1 where
  pub Thing : Type 0
  pub thing : ℕ → Thing
  pub size : Thing → ℕ
  pub slots : ℕ
  pub Under : Thing → Thing → Type 0

-- Views by their words, and histories by the pool numbers of statements that name them.

abbrev pub view_scale : Scale
view_scale = record { Thing = View; thing = view_of; size = size 16; slots = 33; Under = Within 16 }

abbrev pub history_scale : List ℕ → Scale
history_scale W = record { Thing = List View; thing = λ n. (stmt_at W n).views; size = length; slots = 17; Under = λ K H. Holds H K }

-- The history K starts with the views of H.
pub record Starts (K H : List View) : Type 0 where
  pub rest : List View
  pub is : K ≡ H ++ rest

-- Histories again, of which one lies under another that starts with it.
abbrev pub start_scale : List ℕ → Scale
start_scale W = record { Thing = List View; thing = λ n. (stmt_at W n).views; size = length; slots = 17; Under = λ H K. Starts K H }

-- The pool number of agreement a. (The word of a choice's view is its key.)
abbrev pub number_in : List ℕ → ℕ → ℕ
number_in R a = number_at R 1 a

-- The verdicts on them: a yes marks a choice of a candidate, and an agreement that seals its history.

abbrev pub choice_mark : List Verdict → ℕ → Bool
choice_mark M c = is_yes (get_or M c Unknown)

abbrev pub seal_mark : List Verdict → ℕ → Bool
seal_mark M a = is_yes (get_or M (512 + a) Unknown)

-- An agreement's, where bytes stand for verdicts: 0 for nothing yet, 1 for a yes, and another for a no.
abbrev pub seal_byte : List ℕ → ℕ → Bool
seal_byte M a = eqb (get_or M (512 + a) 0) 1

module _ (Q : Scale) where
  open Q use {Thing, thing, slots, Under}

  module _ (base : ℕ) (F : ℕ → ℕ) (M : ℕ → Bool) (n : ℕ) where
    -- The base, or a word before n that is marked.
    abbrev pub Stands : ℕ → Type 0
    Stands v = (v ≡ base) ⊎ ((c : ℕ) × (c < n) × (M c ≡ true) × (F c ≡ v))

    -- Each of them is in the slot of its size, and nothing else is in a slot. (A slot in which another size stands is free.)
    pub record Slots (S : List ℕ) : Type 0 where
      pub long : length S ≡ slots
      pub sound : (k : ℕ) → k < slots → Stands (get_or S k 0)
      pub complete : (v : ℕ) → Stands v → thing (get_or S (Q.size (thing v)) 0) ≡ thing v

    -- Two of them differ and are of one size.
    pub record Clash : Type 0 where
      pub one : ℕ
      pub other : ℕ
      pub stands : Stands one
      pub besides : Stands other
      pub differ : thing one ≢ thing other
      pub level : Q.size (thing one) ≡ Q.size (thing other)

    pub record Filled (S : List ℕ) (r : Bool) : Type 0 where
      pub good : r ≡ true → Slots S
      pub bad : r ≡ false → Clash

  -- What is in slot k, if it is of that size.
  unfoldable pub here : List ℕ → ℕ → List Thing
  here S k = if eqb (Q.size (thing (get_or S k 0))) k then thing (get_or S k 0) ∷ [] else []

  -- What is in the slots below k.
  unfoldable pub occupied : List ℕ → ℕ → List Thing
  occupied S zero = []
  occupied S (suc k) = occupied S k ++ here S k

  -- Some in the slots below k are not a chain: a smaller one does not lie under a greater one.
  pub record Broken (S : List ℕ) (k : ℕ) : Type 0 where
    pub lower : Thing
    pub upper : Thing
    pub lower_in : lower ∈ occupied S k
    pub upper_in : upper ∈ occupied S k
    pub less : Q.size lower < Q.size upper
    pub apart : Under lower upper → ⊥

  -- Those below k are a chain, of which the last is the greatest, if there is one.
  pub record Chain (S : List ℕ) (k : ℕ) (some : Bool) (last : ℕ) : Type 0 where
    pub pairs : (u : Thing) → u ∈ occupied S k → (v : Thing) → v ∈ occupied S k → Under u v ⊎ Under v u
    pub under : (u : Thing) → u ∈ occupied S k → (some ≡ true) × Under u (thing last)
    pub ends : some ≡ true → thing last ∈ occupied S k

-- Whether every two views in the slots are comparable.
pub record Compared (S : List ℕ) (r : Bool) : Type 0 where
  pub good : r ≡ true → (u : View) → u ∈ occupied view_scale S 33 → (v : View) → v ∈ occupied view_scale S 33 → Within 16 u v ⊎ Within 16 v u
  pub bad : r ≡ false → Broken view_scale S 33

-- `out` has the n views in the slots; n is 17 where there are more than sixteen.
pub record Listed (S out : List ℕ) (n : ℕ) : Type 0 where
  pub many : ltb 16 n ≡ ltb 16 (length (occupied view_scale S 33))
  pub views : n ≤ 16 → views_of out n ≡ occupied view_scale S 33
