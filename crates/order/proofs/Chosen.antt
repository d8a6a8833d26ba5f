-- The first rule that applies.
-- Assumes nothing.
use mathlib.Core.Path.{◌≡◌, refl, sym, ap, subst, ◌∙◌}
use mathlib.Core.List.{List, [], ◌∷◌, ◌++◌, map}
use Rattle.std.proofs.lemmas.List.{map-append}
use Rattle.std.specs.Prelude as code
use Rattle.std.specs.Prelude.{Some, None, MatchOption}
use mathlib.Core.Option.{Option, some, none}
use Prim.Native.Nat.{ℕ}
use Rattle.protocol.specs.Lists.{first_some}
use Rattle.protocol.specs.Statement.{Stmt}
use Rattle.protocol.proofs.Found.{none≢some}
use Rattle.protocol.specs.Evidence.{candidates}
use Rattle.protocol.specs.Controller.{Controller}
use Rattle.protocol.specs.Turn as turn
use Rattle.rules.specs.declared.Situation.{Situation}
use Rattle.rules.specs.declared.Action.{Action}
use Rattle.rules.specs.Rules.{Owns, Lent, AllLent, Rule, rule9_at, first_rule_at, first_among, merged_by, Does}
use Rattle.rules.specs.Actions.{action_is}
use Rattle.rules.proofs.Applied.{doing}

-- ---- the first of several

-- one list of them after the other

then-none : (l m : List (Option turn.Action)) → none ≡ first_some l → first_some m ≡ first_some (l ++ m)
unfolding first_some
then-none [] m e = refl
then-none (none ∷ l) m e = then-none l m e
then-none (some a ∷ l) m e = absurd (none≢some e)

then-some : (l m : List (Option turn.Action)) (a : turn.Action) → some a ≡ first_some l → some a ≡ first_some (l ++ m)
unfolding first_some
then-some [] m a e = absurd (none≢some (sym e))
then-some (none ∷ l) m a e = then-some l m a e
then-some (some b ∷ l) m a e = e

alone : (o : Option turn.Action) → o ≡ first_some (o ∷ [])
unfolding first_some
alone none = refl
alone (some a) = refl

-- where K is lent, L is
abbrev pub Lends : Situation → List Lent → List Lent → Type 0
Lends s K L = (d : Controller) (X : List Stmt) → AllLent s d X K → AllLent s d X L

module _ {K L : List Lent} {s : Situation} {rule : Rule} where
  pub others : {r : code.Option Action} → Does L s rule r → Lends s K L → Does K s rule r
  others m lends = record { means = λ d X B k t h. m.means d X B k t (lends d X h) }

  pub only : {r : code.Option Action} → Does L s rule r → Lends s K L → Does K s (first_among (rule ∷ [])) r
  unfolding first_among
  only m lends = record { means = λ d X B k t h. m.means d X B k t (lends d X h) ∙ alone (rule d X) }

-- where the rules l answer nothing, P tells what the rules m answer
module _ {K : List Lent} {s : Situation} (l m : List Rule) where
  pub or_else : {q r : code.Option Action} {P : Type 0} → Does K s (first_among l) q → MatchOption q P (λ a. r ≡ Some a) → (P → Does K s (first_among m) r) → Does K s (first_among (l ++ m)) r
  unfolding first_among
  or_else {q = None} k p n = record {
    means = λ d X B i t h. (n p).means d X B i t h ∙ then-none (map (λ f. f d X) l) (map (λ f. f d X) m) (k.means d X B i t h) ∙ ap first_some (sym (map-append (λ f. f d X) l m));
  }
  or_else {q = Some a} k e n = record {
    means = λ d X B i t h.
        ap (doing s d X B) e ∙ then-some (map (λ f. f d X) l) (map (λ f. f d X) m) (action_is s (candidates d.ring X) B (merged_by d X) a) (k.means d X B i t h)
        ∙ ap first_some (sym (map-append (λ f. f d X) l m));
  }

pub all-ten : {L : List Lent} {s : Situation} {r : code.Option Action}
    → Does L s (first_among (turn.rule1 ∷ turn.rule2 ∷ turn.rule3 ∷ turn.rule4 ∷ turn.rule5 ∷ turn.rule6 ∷ turn.rule7 ∷ turn.rule8 ∷ rule9_at s.minute ∷ turn.rule10 ∷ [])) r → Does L s (first_rule_at s.minute) r
unfolding first_among turn.first_rule
all-ten m = record { means = m.means }

-- own statements of a record are those of the same record
pub owned : {X Y Z : List Stmt} {k : ℕ} → Owns X Y k → X ≡ Z → Owns Z Y k
owned {Y = Y} {k = k} y e = subst (λ Z. Owns Z Y k) e y
