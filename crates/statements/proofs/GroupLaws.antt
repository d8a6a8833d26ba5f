-- The four fields from binding to kept: read once, and for each notice.
-- Assumes nothing.
use Prim.Native.Nat.{ℕ, zero, suc, ◌+◌, ◌<◌, ◌≤◌, min}
use native.Mathlib.Omega.{arith}
use mathlib.Core.Path.{◌≡◌, refl, sym, ap, subst, ◌∙◌}
use mathlib.Core.Bool.{Bool, true, false}
use mathlib.Core.List.{List, [], ◌∷◌, ◌++◌, append_assoc}
use lib.Dec.{eqb}
use lib.ListN.{drop, get_or}
use borrow.Author.Tests.{eq-eqb, ne_eqb}
use Rattle.text.specs.Text.{dec_text}
use Rattle.std.specs.Prelude.{Option, Some, None, IfSome}
use Rattle.std.specs.Option.{option_map}
use Rattle.text.specs.declared.Read.{Read}
use Rattle.text.specs.Scan.{read, found, Stops}
use Rattle.text.proofs.Decimal.{dec-one}
use Rattle.text.proofs.Laws.{dec-same, comma-only}
use Rattle.protocol.specs.Lists.{when, list_of}
use Rattle.protocol.specs.Statement.{Group, only, no_group, tells, binding_number, binding_payload, stored_number, kept_payload}
use Rattle.protocol.proofs.Numbered.{list_of-length}
use Rattle.statements.specs.declared.Told.{Told}
use Rattle.statements.specs.declared.Binding.{Binding}
use Rattle.statements.specs.Block.{binding_is, told_is, group_at, groups_of, TellsGroup, Nothing}
use Rattle.statements.specs.Meaning.{limit, FitsGroup, FitsPayload, FitsGroups, FitsTold}
use Rattle.statements.specs.Parts.{Zero, NothingAt, NumberAt, comma_number, second_text, group_text, payload_text, groups_text, binding_from, meant, From}
use Rattle.statements.proofs.Tells.{groups-more, groups-none-more, nothing-after, nothing-more}
use Rattle.statements.proofs.Sequence.{Comma, from-number, two_text, TwoFit, from-none, from-two, from-as, SoFar, so-far-first, so-far-next, so-far-refused, so-far-all, each-one}

pub comma-number : Comma comma_number
comma-number n = (dec_text n, refl)

pub comma-group : Comma group_text
unfolding second_text
comma-group g = (dec_text g.binding ++ 44 ∷ (dec_text g.payload ++ 44 ∷ (dec_text g.stored ++ 44 ∷ dec_text g.kept)), refl)

-- ---- four numbers, of which each may go up to a limit, which may rest on the one before

module _ (m₁ : ℕ) (m₂ : ℕ → ℕ) (m₃ : ℕ) (m₄ : ℕ → ℕ) where
  pub record FitsFour (g : Group) : Type 0 where
    pub binding : g.binding ≤ m₁
    pub payload : g.payload ≤ m₂ g.binding
    pub stored : g.stored ≤ m₃
    pub kept : g.kept ≤ m₄ g.stored

  abbrev F₁ : ℕ → Type 0
  F₁ b = b ≤ m₁

  abbrev F₂ : ℕ → ℕ → Type 0
  F₂ b p = p ≤ m₂ b

  abbrev F₃ : ℕ × ℕ → ℕ → Type 0
  F₃ x s = s ≤ m₃

  abbrev F₄ : (ℕ × ℕ) × ℕ → ℕ → Type 0
  F₄ x k = k ≤ m₄ x.1

  abbrev two : ℕ × ℕ → List ℕ
  two = two_text comma_number F₁ comma_number F₂

  abbrev Two : ℕ × ℕ → Type 0
  Two = TwoFit comma_number F₁ comma_number F₂

  abbrev three : (ℕ × ℕ) × ℕ → List ℕ
  three = two_text two Two comma_number F₃

  abbrev Three : (ℕ × ℕ) × ℕ → Type 0
  Three = TwoFit two Two comma_number F₃

  abbrev four : ((ℕ × ℕ) × ℕ) × ℕ → List ℕ
  four = two_text three Three comma_number F₄

  abbrev Four : ((ℕ × ℕ) × ℕ) × ℕ → Type 0
  Four = TwoFit three Three comma_number F₄

  abbrev group : ((ℕ × ℕ) × ℕ) × ℕ → Group
  group x = record { binding = x.0.0.0; payload = x.0.0.1; stored = x.0.1; kept = x.1 }

  four-text : (b p s k : ℕ) → second_text b p s k ≡ four (((b, p), s), k)
  unfolding second_text
  four-text b p s k = sym (simp append_assoc)

  stops : (n : ℕ) (rest : List ℕ) → Stops rest → Stops (comma_number n ++ rest)
  stops n rest s = refl

  abbrev fields : Group → ((ℕ × ℕ) × ℕ) × ℕ
  fields g = (((g.binding, g.payload), g.stored), g.kept)

  -- the text is read as far as it goes: what is refused, and what is read, at the last of four steps
  module _ (S : List ℕ) (at : ℕ) where
    as-group : (r : Option (Read (((ℕ × ℕ) × ℕ) × ℕ))) → From four Four S at r → From group_text FitsFour S at (meant group r)
    as-group r f = from-as four Four group_text FitsFour group fields (λ g h. four-text g.binding g.payload g.stored g.kept) (λ g h. (((h.binding, h.payload), h.stored), h.kept)) (λ v g h e. ap group e) S at r (same r) f
      where
        same : (r : Option (Read (((ℕ × ℕ) × ℕ) × ℕ))) → IfSome r (λ q. group_text (group q.value) ≡ four q.value)
        same None = tt
        same (Some q) = four-text q.value.0.0.0 q.value.0.0.1 q.value.0.1 q.value.1

    after₂ : From two Two S at None → From group_text FitsFour S at None
    after₂ f = as-group None (from-none three Three comma_number F₄ S at stops (from-none two Two comma_number F₃ S at stops f))

    pub four-no-binding : NumberAt S at m₁ None → From group_text FitsFour S at None
    four-no-binding nb = after₂ (from-none comma_number F₁ comma_number F₂ S at stops (from-number S at m₁ None nb))

    module _ (b : Read ℕ) (nb : NumberAt S at m₁ (Some b)) where
      read₂ : (r : Option (Read ℕ)) → NumberAt S b.next (m₂ b.value) r → From two Two S at (meant (λ p. (b.value, p)) r)
      read₂ r np = from-two comma_number F₁ comma_number F₂ S at b.value b.next (from-number S at m₁ (Some b) nb) stops r (from-number S b.next (m₂ b.value) r np)

      pub four-no-payload : NumberAt S b.next (m₂ b.value) None → From group_text FitsFour S at None
      four-no-payload np = after₂ (read₂ None np)

      module _ (p : Read ℕ) (np : NumberAt S b.next (m₂ b.value) (Some p)) where
        read₃ : (r : Option (Read ℕ)) → NumberAt S p.next m₃ r → From three Three S at (meant (λ s. ((b.value, p.value), s)) r)
        read₃ r ns = from-two two Two comma_number F₃ S at (b.value, p.value) p.next (read₂ (Some p) np) stops r (from-number S p.next m₃ r ns)

        pub four-no-stored : NumberAt S p.next m₃ None → From group_text FitsFour S at None
        four-no-stored ns = as-group None (from-none three Three comma_number F₄ S at stops (read₃ None ns))

        module _ (s : Read ℕ) (ns : NumberAt S p.next m₃ (Some s)) where
          pub from-four : (r : Option (Read ℕ)) → NumberAt S s.next (m₄ s.value) r → From group_text FitsFour S at (meant (λ k. group (((b.value, p.value), s.value), k)) r)
          from-four None nk = as-group None (from-two three Three comma_number F₄ S at ((b.value, p.value), s.value) s.next (read₃ (Some s) ns) stops None (from-number S s.next (m₄ s.value) None nk))
          from-four (Some k) nk =
              as-group (found (((b.value, p.value), s.value), k.value) k.next) (from-two three Three comma_number F₄ S at ((b.value, p.value), s.value) s.next (read₃ (Some s) ns) stops (Some k) (from-number S s.next (m₄ s.value) (Some k) nk))

-- ---- what is told of one notice

none : (n : ℕ) → n ≤ 0 → n ≡ 0
none n h = omega arith

number-back : (b p : ℕ) → b ≤ 2 → binding_number (binding_is (binding_from b p)) ≡ b
number-back zero p h = refl
number-back (suc zero) p h = refl
number-back (suc (suc zero)) p h = refl
number-back (suc (suc (suc b))) p h = absurd (omega arith)

payload-back : (b p : ℕ) → b ≤ 2 → p ≤ limit (eqb b 1) → binding_payload (binding_is (binding_from b p)) ≡ p
payload-back zero p h l = sym (none p l)
payload-back (suc zero) p h l = refl
payload-back (suc (suc zero)) p h l = sym (none p l)
payload-back (suc (suc (suc b))) p h l = absurd (omega arith)

stored_back : (s k : ℕ) → s ≤ 1 → stored_number (when (eqb s 1) k) ≡ s
stored_back zero k h = refl
stored_back (suc zero) k h = refl
stored_back (suc (suc s)) k h = absurd (omega arith)

kept_back : (s k : ℕ) → s ≤ 1 → k ≤ limit (eqb s 1) → kept_payload (when (eqb s 1) k) ≡ k
kept_back zero k h l = sym (none k l)
kept_back (suc zero) k h l = refl
kept_back (suc (suc s)) k h l = absurd (omega arith)

told_back : (b p s k : ℕ) → b ≤ 2 → p ≤ limit (eqb b 1) → s ≤ 1 → k ≤ limit (eqb s 1) → tells (binding_is (binding_from b p)) (when (eqb s 1) k) ≡ record { binding = b; payload = p; stored = s; kept = k }
told_back b p s k hb hp hs hk i = record { binding = number-back b p hb i; payload = payload-back b p hb hp i; stored = stored_back s k hs i; kept = kept_back s k hs hk i }

-- the limits of a notice's fields
abbrev used : ℕ → ℕ
used x = limit (eqb x 1)

abbrev TellsFour : Group → Type 0
TellsFour = FitsFour 2 used 1 used

abbrev told_of : Group → Group
told_of g = tells (binding_is (binding_from g.binding g.payload)) (when (eqb g.stored 1) g.kept)

told-same : (g : Group) → FitsGroup g → told_of g ≡ g
told-same g f = told_back g.binding g.payload g.stored g.kept f.binding f.payload f.stored f.kept

as-told : (S : List ℕ) (at : ℕ) (r : Option (Read Group)) → IfSome r (λ q. FitsGroup q.value) → From group_text TellsFour S at r → From group_text FitsGroup S at (meant told_of r)
as-told S at r fit f =
    from-as group_text TellsFour group_text FitsGroup told_of (λ g. g) (λ g h. refl) (λ g h. record { binding = h.binding; payload = h.payload; stored = h.stored; kept = h.kept }) (λ v g h e. ap told_of e ∙ told-same g h) S at r (same r fit) f
  where
    same : (r : Option (Read Group)) → IfSome r (λ q. FitsGroup q.value) → IfSome r (λ q. group_text (told_of q.value) ≡ group_text q.value)
    same None f = tt
    same (Some q) f = ap group_text (told-same q.value f)

module _ (S : List ℕ) (at : ℕ) where
  pub no-binding : NumberAt S at 2 None → From group_text FitsGroup S at None
  no-binding nb = as-told S at None tt (four-no-binding 2 used 1 used S at nb)

  module _ (b : Read ℕ) (nb : NumberAt S at 2 (Some b)) (lp : ℕ) (ep : lp ≡ limit (eqb b.value 1)) where
    pub no-payload : NumberAt S b.next lp None → From group_text FitsGroup S at None
    no-payload np = as-told S at None tt (four-no-payload 2 used 1 used S at b nb (subst (λ l. NumberAt S b.next l None) ep np))

    module _ (p : Read ℕ) (np : NumberAt S b.next lp (Some p)) where
      np' : NumberAt S b.next (used b.value) (Some p)
      np' = subst (λ l. NumberAt S b.next l (Some p)) ep np

      pub no-stored : NumberAt S p.next 1 None → From group_text FitsGroup S at None
      no-stored ns = as-told S at None tt (four-no-stored 2 used 1 used S at b nb p np' ns)

      module _ (s : Read ℕ) (ns : NumberAt S p.next 1 (Some s)) (lk : ℕ) (ek : lk ≡ limit (eqb s.value 1)) where
        pub no-kept : NumberAt S s.next lk None → From group_text FitsGroup S at None
        no-kept nk = as-told S at None tt (from-four 2 used 1 used S at b nb p np' s ns None (subst (λ l. NumberAt S s.next l None) ek nk))

        pub group-from : (k : Read ℕ) (bd : Binding) → NumberAt S s.next lk (Some k) → bd ≡ binding_from b.value p.value → From group_text FitsGroup S at (found (tells (binding_is bd) (when (eqb s.value 1) k.value)) k.next)
        group-from k bd nk ebd =
            let nk' = subst (λ l. NumberAt S s.next l (Some k)) ek nk in
            subst (λ x. From group_text FitsGroup S at (found (tells (binding_is x) (when (eqb s.value 1) k.value)) k.next)) (sym ebd)
            (as-told S at (found (record { binding = b.value; payload = p.value; stored = s.value; kept = k.value }) k.next) (record { binding = nb.low; payload = np'.low; stored = ns.low; kept = nk'.low }) (from-four 2 used 1 used S at b nb p np' s ns (Some k) nk'))

-- ---- a payload alone

abbrev whole : ℕ → ℕ
whole x = 18446744073709551615

abbrev zeroed : ℕ → ℕ
zeroed x = 0

abbrev OnlyFour : Group → Type 0
OnlyFour = FitsFour 0 whole 0 zeroed

as-payload : (S : List ℕ) (at : ℕ) (r : Option (Read Group)) → IfSome r (λ q. OnlyFour q.value) → From group_text OnlyFour S at r → From payload_text FitsPayload S at (meant (λ g. g.payload) r)
as-payload S at r fit f =
    from-as group_text OnlyFour payload_text FitsPayload (λ g. g.payload) only (λ m h. refl) (λ m h. record { binding = omega arith; payload = h; stored = omega arith; kept = omega arith }) (λ v m h e. ap (λ (g : Group). g.payload) e) S at r (same r fit) f
  where
    alone : (b p s k : ℕ) → b ≡ 0 → s ≡ 0 → k ≡ 0 → payload_text p ≡ second_text b p s k
    alone b p s k eb es ek = rw (eb, es, ek)

    same : (r : Option (Read Group)) → IfSome r (λ q. OnlyFour q.value) → IfSome r (λ q. payload_text q.value.payload ≡ group_text q.value)
    same None f = tt
    same (Some q) f = alone q.value.binding q.value.payload q.value.stored q.value.kept (none q.value.binding f.binding) (none q.value.stored f.stored) (none q.value.kept f.kept)

module _ (S : List ℕ) (at : ℕ) where
  pub payload-no-binding : NumberAt S at 0 None → From payload_text FitsPayload S at None
  payload-no-binding nb = as-payload S at None tt (four-no-binding 0 whole 0 zeroed S at nb)

  module _ (b : Read ℕ) (nb : NumberAt S at 0 (Some b)) where
    pub payload-none : NumberAt S b.next 18446744073709551615 None → From payload_text FitsPayload S at None
    payload-none np = as-payload S at None tt (four-no-payload 0 whole 0 zeroed S at b nb np)

    module _ (p : Read ℕ) (np : NumberAt S b.next 18446744073709551615 (Some p)) where
      pub payload-no-stored : NumberAt S p.next 0 None → From payload_text FitsPayload S at None
      payload-no-stored ns = as-payload S at None tt (four-no-stored 0 whole 0 zeroed S at b nb p np ns)

      module _ (s : Read ℕ) (ns : NumberAt S p.next 0 (Some s)) where
        pub payload-no-kept : NumberAt S s.next 0 None → From payload_text FitsPayload S at None
        payload-no-kept nk = as-payload S at None tt (from-four 0 whole 0 zeroed S at b nb p np s ns None nk)

        pub payload-from : (k : Read ℕ) → NumberAt S s.next 0 (Some k) → From payload_text FitsPayload S at (found p.value k.next)
        payload-from k nk =
            as-payload S at (found (record { binding = b.value; payload = p.value; stored = s.value; kept = k.value }) k.next) (record { binding = nb.low; payload = np.low; stored = ns.low; kept = nk.low }) (from-four 0 whole 0 zeroed S at b nb p np s ns (Some k) nk)

-- ---- four fields that are 0

zero-text : dec_text 0 ≡ 48 ∷ []
zero-text = dec-one 0 (omega arith)

-- a 0 is read, and no other number
number-zero : (S : List ℕ) (at most : ℕ) → most < 18446744073709551616 → Zero S at → Stops (drop (at + 2) S) → NumberAt S at most (found 0 (at + 2))
number-zero S at most fits z stops = record {
  only = z ∙ ap (λ t. 44 ∷ (t ++ drop (at + 2) S)) (sym zero-text);
  back = λ v rest h s d.
      let e = dec-same v 0 rest (drop (at + 2) S) (omega arith) (omega arith) s stops (ap (drop 1) (sym d ∙ z) ∙ ap (λ t. t ++ drop (at + 2) S) (sym zero-text)) in
      (sym e.0, sym e.1);
  low = omega arith;
}

module _ (S : List ℕ) (at : ℕ) (r : Bool) (n : NothingAt S at r) (t : r ≡ true) where
  stops-there : (k : ℕ) (l : List ℕ) → drop k S ≡ 44 ∷ l → Stops (drop k S)
  stops-there k l e = subst Stops (sym e) refl

  zero-part : (k m : ℕ) → m < 18446744073709551616 → Zero S k → Stops (drop (k + 2) S) → (k' : ℕ) → k + 2 ≡ k' → NumberAt S k m (found 0 k')
  zero-part k m fits z s k' e = subst (λ x. NumberAt S k m (found 0 x)) e (number-zero S k m fits z s)

  stops_at : (k k' : ℕ) → k ≡ k' → Stops (drop k' S) → Stops (drop k S)
  stops_at k k' e s = subst (λ x. Stops (drop x S)) (sym e) s

  pub nothing-from : From group_text FitsGroup S at (found no_group (at + 8))
  nothing-from =
      group-from S at
      (read 0 (at + 2)) (zero-part at 2 (omega arith) (n.binding t) (stops-there (at + 2) _ (n.payload t)) (at + 2) refl) 0 refl
      (read 0 (at + 4)) (zero-part (at + 2) 0 (omega arith) (n.payload t) (stops_at (at + 2 + 2) (at + 4) (omega arith) (stops-there (at + 4) _ (n.stored t))) (at + 4) (omega arith))
      (read 0 (at + 6)) (zero-part (at + 4) 1 (omega arith) (n.stored t) (stops_at (at + 4 + 2) (at + 6) (omega arith) (stops-there (at + 6) _ (n.kept t))) (at + 6) (omega arith)) 0 refl
      (read 0 (at + 8)) Binding.Unbound (zero-part (at + 6) 0 (omega arith) (n.kept t) (stops_at (at + 6 + 2) (at + 8) (omega arith) (stops-there (at + 8) _ (comma-only S (at + 8) (n.then t)))) (at + 8) (omega arith)) refl

-- ---- for each notice: j groups were read, and the block tells nothing of the others

module _ (S : List ℕ) (n : ℕ) (at₀ : ℕ) where
  abbrev pub Groups : List ℕ → ℕ → ℕ → Type 0
  Groups B at j = (j ≤ n) × (n ≤ 64) × Nothing B j × SoFar group_text FitsGroup S n at₀ (list_of j (group_at B)) at

  pub groups-first : (B : List ℕ) → n ≤ 64 → Nothing B 0 → Groups B at₀ 0
  unfolding list_of
  groups-first B few no' = (omega arith, few, no', so-far-first group_text FitsGroup S n at₀)

  module _ (B : List ℕ) (at j : ℕ) (g : Groups B at j) (h : j < n) where
    more : (B' : List ℕ) (x : Group) (next : ℕ) → list_of (j + 1) (group_at B') ≡ list_of j (group_at B) ++ (x ∷ []) → From group_text FitsGroup S at (found x next) → SoFar group_text FitsGroup S n at₀ (list_of (j + 1) (group_at B')) next
    more B' x next e f =
        subst (λ l. SoFar group_text FitsGroup S n at₀ l next) (sym e)
        (so-far-next group_text FitsGroup S n at₀ (list_of j (group_at B)) at g.3 comma-group x next (omega (arith, list_of-length j (group_at B))) f)

    pub groups-empty : (r : Bool) → NothingAt S at r → r ≡ true → Groups B (at + 8) (j + 1)
    groups-empty r z t = (omega arith, g.1, nothing-more B j g.2, more B no_group (at + 8) (groups-none-more B j (omega (arith, g.1)) g.2) (nothing-from S at r z t))

    pub groups-next : (B' : List ℕ) (t : Told) (next : ℕ) → From group_text FitsGroup S at (found (told_is t) next) → TellsGroup B j t B' → Groups B' next (j + 1)
    groups-next B' t next f p = (omega arith, g.1, nothing-after B B' j t g.2 p, more B' (told_is t) next (groups-more B B' j t (omega (arith, g.1)) p) f)

    pub groups-refused : From group_text FitsGroup S at None → From groups_text (FitsGroups n) S at₀ None
    groups-refused f = so-far-refused group_text FitsGroup S n at₀ (list_of j (group_at B)) at g.3 comma-group (omega (arith, list_of-length j (group_at B))) f

  pub groups-all : (B : List ℕ) (at j : ℕ) → Groups B at j → n ≤ j → From groups_text (FitsGroups n) S at₀ (found (list_of n (group_at B)) at)
  groups-all B at j g h =
      let e : j ≡ n = omega (arith, g.0) in
      subst (λ m. From groups_text (FitsGroups n) S at₀ (found (list_of m (group_at B)) at)) e (so-far-all group_text FitsGroup S n at₀ (list_of j (group_at B)) at g.3 (list_of-length j (group_at B) ∙ e))

-- ---- by the kind

module _ (S : List ℕ) (at : ℕ) (kind n : ℕ) (B : List ℕ) where
  abbrev Told_from : Option (Read (List Group)) → Type 0
  Told_from r = From groups_text (FitsTold (eqb kind 5) n) S at r

  pub told-report : (payload : ℕ) (r : Option ℕ) → kind ≡ 5 → n ≤ 64 → From groups_text (FitsGroups n) S at (option_map (read (list_of n (group_at B))) r) → Told_from (option_map (read (groups_of kind n payload B)) r)
  unfolding groups_of
  told-report payload r e few f = let m : min n 64 ≡ n = omega arith in rw (eq-eqb kind 5 e, m) f

  pub told-other : (r : Option (Read ℕ)) → (kind ≡ 5 → ⊥) → From payload_text FitsPayload S at r → Told_from (meant (λ m. groups_of kind n m B) r)
  unfolding groups_of
  told-other r e f =
      rw (ne_eqb kind 5 e)
      (from-as payload_text FitsPayload groups_text (FitsTold false n) (λ m. only m ∷ []) (λ l. (get_or l 0 no_group).payload)
      (λ l h. ap groups_text h.2 ∙ each-one group_text (only h.0) ∙ ap payload_text (sym (first l h))) (λ l h. subst FitsPayload (sym (first l h)) h.1)
      (λ m l h e. ap (λ m. only m ∷ []) (e ∙ first l h) ∙ sym h.2) S at r (same r) f)
    where
      first : (l : List Group) (h : FitsTold false n l) → (get_or l 0 no_group).payload ≡ h.0
      first l h = ap (λ k. (get_or k 0 no_group).payload) h.2

      same : (r : Option (Read ℕ)) → IfSome r (λ q. groups_text (only q.value ∷ []) ≡ payload_text q.value)
      same None = tt
      same (Some q) = each-one group_text (only q.value)
