-- Whole lines other than a setup and a lie: read as they are written, and refused if they are the text of none.
-- Assumes nothing.
use Prim.Native.Nat.{ℕ, ◌<◌, ◌≤◌}
use native.Mathlib.Omega.{arith}
use mathlib.Core.Path.{◌≡◌, refl, sym, ap, subst, ◌∙◌}
use mathlib.Core.List.{List, [], ◌∷◌, ◌++◌}
use lib.ListN.{length, drop}
use lib.Seq.{drop-append_seam}
use Rattle.std.specs.Prelude.{Some, None}
use Rattle.text.specs.declared.Read.{Read}
use Rattle.text.specs.Text.{dec_text}
use Rattle.statements.specs.Text.{parted}
use Rattle.statements.specs.Parts.{NumberAt}
use Rattle.schedule.specs.declared.line.Line as held
use Rattle.schedule.specs.declared.line.Line.TheVariants as is
use Rattle.schedule.specs.declared.verb.Verb.{Verb}
use Rattle.schedule.specs.declared.verb.Verb.TheVariants.{Setup, Join, Leave, Send, Give, All, Turn, Lie, Unknown}
use Rattle.schedule.specs.Line.{send_word, give_word, turn_word, ended}
use Rattle.schedule.specs.Reading.{verb_text, verb_of, LastAt, IsNamed, NamedBy, BeginsWith, Understood}
use Rattle.schedule.proofs.Words.{begins, ended_same, OfVerb, NotSo, reads_none}

-- what follows the word w of the text T
module _ (T w rest : List ℕ) where
  pub follows : ended T ≡ ended (w ++ rest) → drop (length w) T ≡ rest
  follows e = ap (drop (length w)) (ended_same T (w ++ rest) e) ∙ drop-append_seam w rest

  pub put-together : T ≡ w ++ drop (length w) T → drop (length w) T ≡ rest → ended T ≡ ended (w ++ rest)
  put-together b e = ap ended (b ∙ ap (λ (l : List ℕ). w ++ l) e)

-- ---- a controller alone
abbrev pub named_line : Verb → ℕ → held.Line
named_line Setup k = is.Lie
named_line Join k = is.Join k
named_line Leave k = is.Leave k
named_line Send k = is.Lie
named_line Give k = is.Lie
named_line All k = is.All k
named_line Turn k = is.Lie
named_line Lie k = is.Lie
named_line Unknown k = is.Lie

module _ (T w : List ℕ) where
  named-written : (v : ℕ) → LastAt T (length w) 15 (Some v) → T ≡ w ++ drop (length w) T → (v < 16) × (ended T ≡ ended (parted (w ∷ dec_text v ∷ [])))
  unfolding parted
  named-written v l b = (omega (arith, l.low), put-together T w (44 ∷ dec_text v) b l.only)

  named-not : LastAt T (length w) 15 None → (k : ℕ) → ¬ ((k < 16) × (ended T ≡ ended (parted (w ∷ dec_text k ∷ []))))
  unfolding parted
  named-not l k h = l.back k (omega (arith, h.0)) (follows T w (44 ∷ dec_text k) h.1)

module _ (T : List ℕ) (at : ℕ) where
  some : (k : ℕ) (v : Verb) → NamedBy T v at → LastAt T at 15 (Some k) → Understood T (Some (named_line v k))
  some k Setup n l = absurd n.named
  some k Join n l = record { reads = λ n'. named-written T (verb_text Join) k (rw n.place at l) (begins T Join n.word) }
  some k Leave n l = record { reads = λ n'. named-written T (verb_text Leave) k (rw n.place at l) (begins T Leave n.word) }
  some k Send n l = absurd n.named
  some k Give n l = absurd n.named
  some k All n l = record { reads = λ n'. named-written T (verb_text All) k (rw n.place at l) (begins T All n.word) }
  some k Turn n l = absurd n.named
  some k Lie n l = absurd n.named
  some k Unknown n l = absurd n.named

  none : (v : Verb) → NamedBy T v at → LastAt T at 15 None → OfVerb v (NotSo T)
  none Setup n l = absurd n.named
  none Join n l = λ k _. named-not T (verb_text Join) (rw n.place at l) k
  none Leave n l = λ k _. named-not T (verb_text Leave) (rw n.place at l) k
  none Send n l = absurd n.named
  none Give n l = absurd n.named
  none All n l = λ k _. named-not T (verb_text All) (rw n.place at l) k
  none Turn n l = absurd n.named
  none Lie n l = absurd n.named
  none Unknown n l = absurd n.named

  pub named_some : (k : ℕ) (v u : Verb) → v ≡ u → NamedBy T v at → LastAt T at 15 (Some k) → Understood T (Some (named_line u k))
  named_some k v u e n l = subst (λ u. Understood T (Some (named_line u k))) e (some k v n l)

  pub named_none : (v : Verb) → NamedBy T v at → LastAt T at 15 None → Understood T None
  named_none v n l = record { reads = reads_none T v n.word (none v n l) }

-- ---- a controller and one more number
module _ (T w : List ℕ) (most : ℕ) where
  pair-first : NumberAt T (length w) 15 None → (a b : ℕ) → a ≤ 15 → ¬ (ended T ≡ ended (parted (w ∷ dec_text a ∷ dec_text b ∷ [])))
  unfolding parted
  pair-first ck a b h e = ck.back a (44 ∷ dec_text b) h refl (follows T w (44 ∷ (dec_text a ++ 44 ∷ dec_text b)) e)

  module _ (k : Read ℕ) (ck : NumberAt T (length w) 15 (Some k)) where
    pair-written : (n : ℕ) → LastAt T k.next most (Some n) → T ≡ w ++ drop (length w) T → ended T ≡ ended (parted (w ∷ dec_text k.value ∷ dec_text n ∷ []))
    unfolding parted
    pair-written n cn b = put-together T w (44 ∷ (dec_text k.value ++ 44 ∷ dec_text n)) b (ck.only ∙ ap (λ (r : List ℕ). 44 ∷ (dec_text k.value ++ r)) cn.only)

    pair-second : LastAt T k.next most None → (a b : ℕ) → a ≤ 15 → b ≤ most → ¬ (ended T ≡ ended (parted (w ∷ dec_text a ∷ dec_text b ∷ [])))
    unfolding parted
    pair-second cn a b h l e = cn.back b l (ck.back a (44 ∷ dec_text b) h refl (follows T w (44 ∷ (dec_text a ++ 44 ∷ dec_text b)) e)).1

-- ---- a statement's number, and a payload, have 64 bits
abbrev most : ℕ
most = 18446744073709551615

module _ (T : List ℕ) (by : BeginsWith Give T) where
  pub give-first : NumberAt T 4 15 None → Understood T None
  give-first ck = record { reads = reads_none T Give by.word (λ a b _ w. pair-first T give_word most ck a b (omega (arith, w.0)) w.2) }

  module _ (k : Read ℕ) (ck : NumberAt T 4 15 (Some k)) where
    pub give-some : (n : ℕ) → LastAt T k.next most (Some n) → Understood T (Some (is.Give k.value n))
    give-some n cn = record { reads = λ _. (omega (arith, ck.low), omega (arith, cn.low), pair-written T give_word most k ck n cn (begins T Give by.word)) }

    pub give-second : LastAt T k.next most None → Understood T None
    give-second cn = record { reads = reads_none T Give by.word (λ a b _ w. pair-second T give_word most k ck cn a b (omega (arith, w.0)) (omega (arith, w.1)) w.2) }

-- ---- the minute of a turn
module _ (T : List ℕ) (by : BeginsWith Turn T) where
  pub turn-first : NumberAt T 4 15 None → Understood T None
  turn-first ck = record { reads = reads_none T Turn by.word (λ a b _ w. pair-first T turn_word 65535 ck a b (omega (arith, w.0)) w.2) }

  module _ (k : Read ℕ) (ck : NumberAt T 4 15 (Some k)) where
    pub turn-some : (n : ℕ) → LastAt T k.next 65535 (Some n) → Understood T (Some (is.Turn k.value n))
    turn-some n cn = record { reads = λ _. (omega (arith, ck.low), cn.low, pair-written T turn_word 65535 k ck n cn (begins T Turn by.word)) }

    pub turn-second : LastAt T k.next 65535 None → Understood T None
    turn-second cn = record { reads = reads_none T Turn by.word (λ a b _ w. pair-second T turn_word 65535 k ck cn a b (omega (arith, w.0)) w.1 w.2) }

-- ---- a controller, a notice and a payload
module _ (T : List ℕ) (by : BeginsWith Send T) where
  abbrev three : ℕ → ℕ → ℕ → List ℕ
  three a b p = 44 ∷ (dec_text a ++ 44 ∷ (dec_text b ++ 44 ∷ dec_text p))

  pub send-first : NumberAt T 4 15 None → Understood T None
  unfolding parted
  send-first ck = record { reads = reads_none T Send by.word (λ a b p _ w. ck.back a (44 ∷ (dec_text b ++ 44 ∷ dec_text p)) (omega (arith, w.0)) refl (follows T send_word (three a b p) w.3)) }

  module _ (k : Read ℕ) (ck : NumberAt T 4 15 (Some k)) where
    pub send-second : NumberAt T k.next 255 None → Understood T None
    unfolding parted
    send-second ci = record {
      reads = reads_none T Send by.word (λ a b p _ w.
          let g = ck.back a (44 ∷ (dec_text b ++ 44 ∷ dec_text p)) (omega (arith, w.0)) refl (follows T send_word (three a b p) w.3) in ci.back b (44 ∷ dec_text p) w.1 refl g.1);
    }

    module _ (i : Read ℕ) (ci : NumberAt T k.next 255 (Some i)) where
      pub send-third : LastAt T i.next most None → Understood T None
      unfolding parted
      send-third cm = record {
        reads = reads_none T Send by.word (λ a b p _ w.
            let g = ck.back a (44 ∷ (dec_text b ++ 44 ∷ dec_text p)) (omega (arith, w.0)) refl (follows T send_word (three a b p) w.3) in
            let h = ci.back b (44 ∷ dec_text p) w.1 refl g.1 in cm.back p (omega (arith, w.2)) h.1);
      }

      pub send-some : (m : ℕ) → LastAt T i.next most (Some m) → Understood T (Some (is.Send k.value i.value m))
      unfolding parted
      send-some m cm =
          let d2 = ci.only ∙ ap (λ (r : List ℕ). 44 ∷ (dec_text i.value ++ r)) cm.only in
          let d1 = ck.only ∙ ap (λ (r : List ℕ). 44 ∷ (dec_text k.value ++ r)) d2 in record {
            reads = λ _. (omega (arith, ck.low), ci.low, omega (arith, cm.low), put-together T send_word (three k.value i.value m) (begins T Send by.word) d1);
          }

-- ---- by the word
module _ (T : List ℕ) (v : Verb) (by : v ≡ verb_of T) where
  pub named_by : (u : Verb) (at : ℕ) → v ≡ u → at ≡ length (verb_text u) → IsNamed u → NamedBy T v at
  named_by u at e a n = record { word = by; place = a ∙ ap (λ (x : Verb). length (verb_text x)) (sym e); named = subst IsNamed (sym e) n }

  pub begins-by : (u : Verb) → v ≡ u → BeginsWith u T
  begins-by u e = record { word = sym e ∙ by }

  pub unknown : v ≡ Unknown → Understood T None
  unknown e = record { reads = reads_none T Unknown (sym e ∙ by) tt }

-- ---- what is left when the other words are not
pub last-named : (v : Verb) → (v ≡ Join → ⊥) → (v ≡ Leave → ⊥) → IsNamed v → v ≡ All
last-named Setup j l n = absurd n
last-named Join j l n = absurd (j refl)
last-named Leave j l n = absurd (l refl)
last-named Send j l n = absurd n
last-named Give j l n = absurd n
last-named All j l n = refl
last-named Turn j l n = absurd n
last-named Lie j l n = absurd n
last-named Unknown j l n = absurd n
