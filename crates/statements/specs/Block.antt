-- What a report tells of each notice, in a lent block of 131 words. Word 0 is the set of the notices that are bound, bit j for notice j, word 1 the set of those that
-- are barred and word 2 of those of which a payload is stored. Word 3 + 2 j is the payload to which notice j is bound, and word 4 + 2 j the payload kept of it.
-- Every block means some list of groups: nothing has to hold of its words.
-- Assumes nothing.
use Rattle.std.specs.Prelude.{◌≡◌, Bool, true, false, cond, List, [], ◌∷◌, ℕ, ◌+◌, ◌*◌, ◌%◌, ◌≤◌, ◌<◌, min, eqb, get_or}
use Rattle.protocol.specs.Sets.{bit}
use Rattle.protocol.specs.Lists.{when, list_of, put}
use Rattle.protocol.specs.Statement.{Group, only, no_group, tells, unbound, bound, barred}
use Rattle.protocol.specs.Statement as statement
use Rattle.statements.specs.declared.Binding.{Binding}
use Rattle.statements.specs.declared.Binding.TheVariants.{Unbound, Bound, Barred}
use Rattle.statements.specs.declared.Told.{Told}

-- The binding that a Binding means.
abbrev pub binding_is : Binding → statement.Binding
binding_is Unbound = unbound
binding_is (Bound m) = bound m
binding_is Barred = barred

-- What is told of one notice: "binding, stored with kept". A payload is kept only where it is stored.
abbrev pub told_is : Told → Group
told_is t = tells (binding_is t.binding) (when t.stored t.kept)

-- Word i: 64 bits.
unfoldable pub block_word : List ℕ → ℕ → ℕ
block_word B i = get_or B i 0 % 18446744073709551616

-- A notice both bound and barred counts as barred.
abbrev pub bound_or_barred : Bool → Bool → ℕ → statement.Binding
bound_or_barred b true m = barred
bound_or_barred true false m = bound m
bound_or_barred false false m = unbound

-- The binding that the block tells of notice j.
unfoldable pub binding_at : List ℕ → ℕ → statement.Binding
binding_at B j = bound_or_barred (bit (block_word B 0) j) (bit (block_word B 1) j) (block_word B (3 + 2 * j))

-- What the block tells of notice j.
unfoldable pub group_at : List ℕ → ℕ → Group
group_at B j = tells (binding_at B j) (when (bit (block_word B 2) j) (block_word B (4 + 2 * j)))

-- The groups of a statement of this kind. A report's are told by the block; a number of them above 64 counts as 64, and what the block has past it means nothing.
-- "a report repeats its four fields": every other kind has them once, with the payload alone.
unfoldable pub groups_of : ℕ → ℕ → ℕ → List ℕ → List Group
groups_of kind groups payload B = cond (eqb kind 5) (list_of (min groups 64) (group_at B)) (only payload ∷ [])

-- ---- what changes

-- B' tells t of notice j, and of the others what B tells.
pub record TellsGroup (B : List ℕ) (j : ℕ) (t : Told) (B' : List ℕ) : Type 0 where
  pub groups : (i : ℕ) → i < 64 → group_at B' i ≡ put j (told_is t) (group_at B) i

-- It is bound to a payload.
abbrev pub is_bound : Binding → Bool
is_bound Unbound = false
is_bound (Bound m) = true
is_bound Barred = false

-- It is barred.
abbrev pub is_barred : Binding → Bool
is_barred Unbound = false
is_barred (Bound m) = false
is_barred Barred = true

-- The block tells nothing of notice j, nor of any after it.
pub record Nothing (B : List ℕ) (j : ℕ) : Type 0 where
  pub none : (i : ℕ) → j ≤ i → i < 64 → group_at B i ≡ no_group
