-- Laws of votes that are alike, and of their three words.
-- Assumes nothing.
use Rattle.std.specs.Prelude.{if◌then◌else◌}
use mathlib.Core.Path.{◌≡◌, refl, sym, ap, ap₂, ◌∙◌}
use mathlib.Core.Logic.{◌⊎◌, inl, inr}
use mathlib.Core.Bool.{Bool, true, false}
use mathlib.Core.List.{List, [], ◌∷◌, ◌++◌}
use Prim.Native.Nat.{ℕ, suc, ◌+◌, ◌*◌, ◌/◌, ◌%◌, ◌≤◌, ◌<◌}
use native.Mathlib.Decide.{dec_lt}
use native.Mathlib.Nat.{mul-le-mul_right}
use native.Mathlib.Omega.{arith}
use native.Mathlib.Numerals.{add-one}
use lib.Dec.{T, eqb}
use lib.ListN.{length}
use borrow.Author.Tests.{eq-eqb, ne_eqb, le-leb, lt-leb}
use Rattle.protocol.specs.View.{View}
use Rattle.protocol.specs.Lists.{list_of}
use Rattle.protocol.specs.Statement.{Stmt, payload_of, agrees_view, agrees_history, acks, stores}
use Rattle.protocol.proofs.Says.{Says, from-true, says_map, says-unique, says-and, says-or, says-imp, says-eqb}
use Rattle.protocol.proofs.Bits.{Fits}
use Rattle.protocol.proofs.Decided.{says_same, says-sames, says-kind}
use Rattle.protocol.proofs.Numbered.{list_of-length}
use Rattle.views.specs.View.{view_of}
use Rattle.views.proofs.Views.{passes, fails}
use Rattle.pool.specs.Pool.{stmt_at}
use Rattle.pool.proofs.Laws.{kind-small, at-fits, view-fits}
use Rattle.votes.specs.Votes.{is_vote, alike, notice_of, tag_by}
use Rattle.votes.specs.Tables.{IsWord}
use Rattle.votes.specs.Keys.{key_of, folded, weight_of, mix_from, what_of, same_names, slot_by}

-- a test and what it says

pub no-T : {b : Bool} → b ≡ false → T b → ⊥
no-T e t = rw e at t

-- ---- votes

abbrev pub Vote : Stmt → Type 0
Vote s = (((s.kind ≡ 3) ⊎ (s.kind ≡ 4)) ⊎ (s.kind ≡ 7)) ⊎ (s.kind ≡ 8)

pub says-vote : (s : Stmt) → Says (is_vote s) (Vote s)
unfolding is_vote
says-vote s = says-or (says-or (says-or (says-kind 3 s) (says-kind 4 s)) (says-kind 7 s)) (says-kind 8 s)

-- it is no report
pub vote-plain : (s : Stmt) → is_vote s ≡ true → eqb s.kind 5 ≡ false
vote-plain s e = ne_eqb s.kind 5 (go ((says-vote s).sound (from-true e)))
  where
    go : Vote s → s.kind ≡ 5 → ⊥
    go (inl (inl (inl k))) q = omega arith
    go (inl (inl (inr k))) q = omega arith
    go (inl (inr k)) q = omega arith
    go (inr k) q = omega arith

-- ---- s says the same as the vote a

pub record Alike (a s : Stmt) : Type 0 where
  pub vote : Vote a
  pub kind : s.kind ≡ a.kind
  pub at : s.at ≡ a.at
  pub view : a.kind ≡ 3 → s.view ≡ a.view
  pub views : a.kind ≡ 4 → s.views ≡ a.views
  pub notice : 7 ≤ a.kind → s.notice ≡ a.notice
  pub acked : a.kind ≡ 7 → payload_of s ≡ payload_of a
  pub stored : a.kind ≡ 8 → payload_of s ≡ payload_of a

-- the same, kind by kind

abbrev Case : Stmt → Stmt → ℕ → Type 0 → Type 0
Case a s k P = (a.kind ≡ k) × (((s.kind ≡ k) × (s.at ≡ a.at)) × P)

abbrev NoticeCase : Stmt → Stmt → ℕ → Type 0
NoticeCase a s k = (a.kind ≡ k) × ((((s.kind ≡ k) × (s.at ≡ a.at)) × (s.notice ≡ a.notice)) × (payload_of s ≡ payload_of a))

abbrev Cases : Stmt → Stmt → Type 0
Cases a s = ((Case a s 3 (s.view ≡ a.view) ⊎ Case a s 4 (s.views ≡ a.views)) ⊎ NoticeCase a s 7) ⊎ NoticeCase a s 8

pub says-alike : (a s : Stmt) → Says (alike a s) (Alike a s)
unfolding alike agrees_view agrees_history acks stores
says-alike a s =
    says_map to (λ al. from al al.vote)
    (says-or (says-or (says-or
    (says-and (says-kind 3 a) (says-and (says-and says-eqb says_same) says_same))
    (says-and (says-kind 4 a) (says-and (says-and says-eqb says_same) (says-sames s.views a.views))))
    (says-and (says-kind 7 a) (says-and (says-and (says-and says-eqb says_same) says-eqb) says-eqb)))
    (says-and (says-kind 8 a) (says-and (says-and (says-and says-eqb says_same) says-eqb) says-eqb)))
  where
    to : Cases a s → Alike a s
    to (inl (inl (inl (k, ((l, e), p))))) = record {
      vote = inl (inl (inl k));
      kind = l ∙ sym k;
      at = e;
      view = λ q. p;
      views = λ q. absurd (omega arith);
      notice = λ q. absurd (omega arith);
      acked = λ q. absurd (omega arith);
      stored = λ q. absurd (omega arith);
    }
    to (inl (inl (inr (k, ((l, e), p))))) = record {
      vote = inl (inl (inr k));
      kind = l ∙ sym k;
      at = e;
      view = λ q. absurd (omega arith);
      views = λ q. p;
      notice = λ q. absurd (omega arith);
      acked = λ q. absurd (omega arith);
      stored = λ q. absurd (omega arith);
    }
    to (inl (inr (k, (((l, e), n), p)))) = record {
      vote = inl (inr k);
      kind = l ∙ sym k;
      at = e;
      view = λ q. absurd (omega arith);
      views = λ q. absurd (omega arith);
      notice = λ q. n;
      acked = λ q. p;
      stored = λ q. absurd (omega arith);
    }
    to (inr (k, (((l, e), n), p))) = record {
      vote = inr k;
      kind = l ∙ sym k;
      at = e;
      view = λ q. absurd (omega arith);
      views = λ q. absurd (omega arith);
      notice = λ q. n;
      acked = λ q. absurd (omega arith);
      stored = λ q. p;
    }

    from : Alike a s → Vote a → Cases a s
    from al (inl (inl (inl k))) = inl (inl (inl (k, ((al.kind ∙ k, al.at), al.view k))))
    from al (inl (inl (inr k))) = inl (inl (inr (k, ((al.kind ∙ k, al.at), al.views k))))
    from al (inl (inr k)) = inl (inr (k, (((al.kind ∙ k, al.at), al.notice (omega arith)), al.acked k)))
    from al (inr k) = inr (k, (((al.kind ∙ k, al.at), al.notice (omega arith)), al.stored k))

voted : (a s : Stmt) → s.kind ≡ a.kind → Vote a → Vote s
voted a s e (inl (inl (inl k))) = inl (inl (inl (e ∙ k)))
voted a s e (inl (inl (inr k))) = inl (inl (inr (e ∙ k)))
voted a s e (inl (inr k)) = inl (inr (e ∙ k))
voted a s e (inr k) = inr (e ∙ k)

pub alike-vote : {a s : Stmt} → Alike a s → Vote s
alike-vote {a} {s} al = voted a s al.kind al.vote

pub alike_self : (a : Stmt) → Vote a → Alike a a
alike_self a v = record { vote = v; kind = refl; at = refl; view = λ k. refl; views = λ k. refl; notice = λ k. refl; acked = λ k. refl; stored = λ k. refl }

-- two statements that are like a third are alike
pub alike_both : {a s x : Stmt} → Alike a s → Alike a x → Alike s x
alike_both p q = record {
  vote = alike-vote p;
  kind = q.kind ∙ sym p.kind;
  at = q.at ∙ sym p.at;
  view = λ k. q.view (sym p.kind ∙ k) ∙ sym (p.view (sym p.kind ∙ k));
  views = λ k. q.views (sym p.kind ∙ k) ∙ sym (p.views (sym p.kind ∙ k));
  notice = λ l. q.notice (omega (arith, p.kind)) ∙ sym (p.notice (omega (arith, p.kind)));
  acked = λ k. q.acked (sym p.kind ∙ k) ∙ sym (p.acked (sym p.kind ∙ k));
  stored = λ k. q.stored (sym p.kind ∙ k) ∙ sym (p.stored (sym p.kind ∙ k));
}

pub alike_turned : {a s : Stmt} → Alike a s → Alike s a
alike_turned {a} p = alike_both p (alike_self a p.vote)

-- what is like one of two votes that are alike is like the other
pub alike_same : {a s : Stmt} → Alike a s → alike a ≡ alike s
alike_same {a} {s} al i x = says-unique (says_map (alike_both al) (alike_both (alike_turned al)) (says-alike a x)) (says-alike s x) i

-- ---- the words of a vote

-- the view of its word
pub view-of-key : (v : View) → Fits 16 v → view_of (key_of v) ≡ v
unfolding key_of view_of
view-of-key v f i = record {
  joined = (let p : (v.joined + v.left * 4294967296) % 4294967296 ≡ v.joined = omega (arith, f.joined, f.left) in p) i;
  left = (let p : (v.joined + v.left * 4294967296) / 4294967296 % 4294967296 ≡ v.left = omega (arith, f.joined, f.left) in p) i;
}

-- a view of this width has one word
word-inj : {u v : View} → Fits 16 u → Fits 16 v → key_of u ≡ key_of v → u ≡ v
unfolding key_of
word-inj {u} {v} f g e i = record {
  joined = (let p : u.joined ≡ v.joined = omega (arith, f.joined, f.left, g.joined, g.left) in p) i;
  left = (let p : u.left ≡ v.left = omega (arith, f.joined, f.left, g.joined, g.left) in p) i;
}

pub word-of : (w : ℕ) (v : View) → IsWord w → view_of w ≡ v → w ≡ key_of v
unfolding key_of view_of
word-of w v l e = rw (sym e) (omega arith)

pub what-view : (s : Stmt) → s.kind ≡ 3 → what_of s ≡ key_of s.view
unfolding what_of
what-view s e = rw (eq-eqb s.kind 3 e)

pub what-history : (s : Stmt) → s.kind ≡ 4 → what_of s ≡ mix_from 0 0 s.views
unfolding what_of
what-history s e = rw (ne_eqb s.kind 3 (λ q. omega arith), eq-eqb s.kind 4 e)

pub what-payload : (s : Stmt) → (s.kind ≡ 3 → ⊥) → (s.kind ≡ 4 → ⊥) → what_of s ≡ payload_of s
unfolding what_of
what-payload s d e = rw (ne_eqb s.kind 3 d, ne_eqb s.kind 4 e)

pub what-same : (a s : Stmt) → Alike a s → Vote a → what_of a ≡ what_of s
what-same a s al (inl (inl (inl k))) = what-view a k ∙ ap key_of (sym (al.view k)) ∙ sym (what-view s (al.kind ∙ k))
what-same a s al (inl (inl (inr k))) = what-history a k ∙ ap (mix_from 0 0) (sym (al.views k)) ∙ sym (what-history s (al.kind ∙ k))
what-same a s al (inl (inr k)) = what-payload a (λ q. omega arith) (λ q. omega arith) ∙ sym (al.acked k) ∙ sym (what-payload s (λ q. omega (arith, al.kind)) (λ q. omega (arith, al.kind)))
what-same a s al (inr k) = what-payload a (λ q. omega arith) (λ q. omega arith) ∙ sym (al.stored k) ∙ sym (what-payload s (λ q. omega (arith, al.kind)) (λ q. omega (arith, al.kind)))

-- ---- the tag of a vote

module _ (s : Stmt) where
  notice-some : 7 ≤ s.kind → notice_of s ≡ s.notice
  unfolding notice_of
  notice-some l = ap (λ b. if b then s.notice else 0) (le-leb 7 s.kind l)

  notice-none : s.kind < 7 → notice_of s ≡ 0
  unfolding notice_of
  notice-none l = ap (λ b. if b then s.notice else 0) (lt-leb 7 s.kind l)

  -- one for a view or a history has its kind alone as its tag

  pub tag-plain : s.kind < 7 → s.kind ≡ tag_by s
  unfolding tag_by
  tag-plain l = omega (arith, notice-none l)

  pub tag-noticed : 7 ≤ s.kind → s.kind + s.notice * 256 ≡ tag_by s
  unfolding tag_by
  tag-noticed l = omega (arith, notice-some l)

  -- the kind and the notice come back

  pub tag-kind : s.kind < 256 → tag_by s % 256 ≡ s.kind
  unfolding tag_by
  tag-kind l = omega arith

  pub tag-notice : s.kind < 256 → 7 ≤ s.kind → tag_by s / 256 ≡ s.notice
  unfolding tag_by
  tag-notice l h = omega (arith, notice-some h)

  -- a tag below 7 is a kind
  pub tag-low : (k n : ℕ) → n < 7 → k ≡ tag_by s → (s.kind ≡ n → k ≡ n) × (k ≡ n → s.kind ≡ n)
  unfolding tag_by
  tag-low k n l e = (λ q. e ∙ sym (tag-plain (omega arith)) ∙ q, λ q. go (dec_lt s.kind 7) q)
    where
      go : Dec (s.kind < 7) → k ≡ n → s.kind ≡ n
      go (yes m) q = omega (arith, notice-none m)
      go (no m) q = absurd (omega arith)

-- votes that are alike have one tag
pub tag_same : (a s : Stmt) → Alike a s → tag_by a ≡ tag_by s
tag_same a s al = elim (dec_lt a.kind 7) [
  | yes l ↦ sym (tag-plain a l) ∙ sym al.kind ∙ tag-plain s (omega (arith, al.kind))
  | no l ↦ sym (tag-noticed a (omega arith)) ∙ ap₂ (λ k i. k + i * 256) (sym al.kind) (sym (al.notice (omega arith))) ∙ tag-noticed s (omega (arith, al.kind))
]

-- its views are those of words, and its kind is a byte
pub record Narrow (s : Stmt) : Type 0 where
  pub kind : s.kind < 256
  pub at : Fits 16 s.at
  pub view : Fits 16 s.view

pub narrow : (W : List ℕ) (n : ℕ) → Narrow (stmt_at W n)
narrow W n = record { kind = kind-small W n; at = at-fits W n; view = view-fits W n }

words-alike : (a s : Stmt) → Narrow a → Narrow s → Vote a → tag_by a ≡ tag_by s → key_of a.at ≡ key_of s.at → what_of a ≡ what_of s → (s.kind ≡ 4 → a.views ≡ s.views) → Alike a s
words-alike a s p q v t e f h = record {
  vote = v;
  kind = sym k;
  at = word-inj q.at p.at (sym e);
  view = λ z. word-inj q.view p.view (sym (what-view s (sym k ∙ z)) ∙ sym f ∙ what-view a z);
  views = λ z. sym (h (sym k ∙ z));
  notice = λ l. sym (tag-notice s q.kind (omega (arith, k))) ∙ ap (λ x. x / 256) (sym t) ∙ tag-notice a p.kind l;
  acked = λ z. same (λ y. omega arith) (λ y. omega arith);
  stored = λ z. same (λ y. omega arith) (λ y. omega arith);
}
  where
    k : a.kind ≡ s.kind
    k = sym (tag-kind a p.kind) ∙ ap (λ x. x % 256) t ∙ tag-kind s q.kind

    same : (a.kind ≡ 3 → ⊥) → (a.kind ≡ 4 → ⊥) → payload_of s ≡ payload_of a
    same d c = sym (what-payload s (λ z. d (k ∙ z)) (λ z. c (k ∙ z))) ∙ sym f ∙ what-payload a d c

says-names : (a s : Stmt) → Says (same_names a s) (s.kind ≡ 4 → a.views ≡ s.views)
unfolding same_names
says-names a s = says-imp says-eqb (says-sames a.views s.views)

-- what a search finds out of the vote a and the statement s: other words, other histories, alike

pub other-what : (a s : Stmt) (x y : ℕ) → x ≡ what_of a → y ≡ what_of s → (x ≡ y → ⊥) → alike a s ≡ false
other-what a s x y e f d = fails (says-alike a s) (λ al. d (e ∙ what-same a s al al.vote ∙ sym f))

pub other_at : (a s : Stmt) (x y : ℕ) → x ≡ key_of a.at → y ≡ key_of s.at → (x ≡ y → ⊥) → alike a s ≡ false
other_at a s x y e f d = fails (says-alike a s) (λ al. d (e ∙ ap key_of (sym al.at) ∙ sym f))

pub other_tag : (a s : Stmt) (x y : ℕ) → x ≡ tag_by a → y ≡ tag_by s → (x ≡ y → ⊥) → alike a s ≡ false
other_tag a s x y e f d = fails (says-alike a s) (λ al. d (e ∙ tag_same a s al ∙ sym f))

pub other-names : (a s : Stmt) (b : Bool) → b ≡ same_names a s → b ≡ false → alike a s ≡ false
other-names a s b e f = fails (says-alike a s) (λ al. no-T (sym e ∙ f) ((says-names a s).complete (λ k. sym (al.views (sym al.kind ∙ k)))))

-- the three words x of a and y of s
pub record Words (a s : Stmt) (x y x' y' x'' y'' : ℕ) : Type 0 where
  pub at : x ≡ key_of a.at
  pub at_other : y ≡ key_of s.at
  pub what : x' ≡ what_of a
  pub what-other : y' ≡ what_of s
  pub tag : x'' ≡ tag_by a
  pub tag-other : y'' ≡ tag_by s

pub same-words : (a s : Stmt) {x y x' y' x'' y'' : ℕ} (b : Bool) → Narrow a → Narrow s → T (is_vote a) → Words a s x y x' y' x'' y'' → x ≡ y → x' ≡ y' → x'' ≡ y'' → b ≡ same_names a s → b ≡ true → alike a s ≡ true
same-words a s b p q v w e f g h t =
    passes (says-alike a s) (words-alike a s p q ((says-vote a).sound v) (sym w.tag ∙ g ∙ w.tag-other) (sym w.at ∙ e ∙ w.at_other) (sym w.what ∙ f ∙ w.what-other) ((says-names a s).sound (rw (sym h ∙ t) tt)))

-- ---- the loop of the mix

pub mix-zero : (f : ℕ → View) (h : ℕ) → h ≡ 0 → h ≡ mix_from 0 0 (list_of 0 f)
unfolding mix_from list_of
mix-zero f h e = e

mix-snoc : (p h : ℕ) (l : List View) (v : View) → mix_from p h (l ++ (v ∷ [])) ≡ mix_from p h l + key_of v * weight_of (p + length l)
unfolding mix_from
mix-snoc p h [] v = let e : p ≡ p + 0 = omega arith in ap (λ q. h + key_of v * weight_of q) e
mix-snoc p h (u ∷ l) v =
    let e : (p + 1) + length l ≡ p + suc (length l) = omega arith in
    mix-snoc (p + 1) (h + key_of u * weight_of p) l v ∙ ap (λ q. mix_from (p + 1) (h + key_of u * weight_of p) l + key_of v * weight_of q) e

place_of : (f : ℕ → View) (p : ℕ) → p ≡ 0 + length (list_of p f)
place_of f p = omega (arith, list_of-length p f)

pub mix-more : (f : ℕ → View) (p h w m : ℕ) → h ≡ mix_from 0 0 (list_of p f) → IsWord w → view_of w ≡ f p → m ≡ weight_of p → h + w * m ≡ mix_from 0 0 (list_of (p + 1) f)
unfolding list_of
mix-more f p h w m e l g q = rw add-one (ap₂ ◌+◌ e (ap₂ ◌*◌ (word-of w (f p) l g) (q ∙ ap weight_of (place_of f p))) ∙ sym (mix-snoc 0 0 (list_of p f) (f p)))

-- what one view adds: sixteen times as much fits in a word
pub mix-part : (w : ℕ) {v : View} (m : ℕ) → IsWord w → view_of w ≡ v → Fits 16 v → m < 4096 → w * m < 1152921504606846976
unfolding key_of
mix-part w m l e f h =
    let s : w ≤ 281474976710656 = omega (arith, word-of w _ l e, f.joined, f.left) in
    omega (arith, mul-le-mul_right m s)

-- ---- the slot

pub slot_is : (at what tag x y : ℕ) → x ≡ folded at → y ≡ folded what → ((x + tag % 65536) * 1640531527 + y * 668265263) / 16777216 % 256 ≡ slot_by at what tag
unfolding slot_by
slot_is at what tag x y e f = ap₂ (λ a b. ((a + tag % 65536) * 1640531527 + b * 668265263) / 16777216 % 256) e f
