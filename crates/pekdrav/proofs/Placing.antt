-- Statements that go into a pool and come out of it by their text.
-- Assumes nothing.
use Prim.Native.Nat.{ℕ, ◌≤◌, ◌<◌}
use mathlib.Core.Path.{◌≡◌, refl, ap₂, ◌∙◌}
use mathlib.Core.Bool.{cond}
use mathlib.Core.List.{List}
use lib.ListN.{length}
use lib.Seq.{sets}
use borrow.Author.Tests.{lt-ltb, le-ltb, le-leb}
use Rattle.std.specs.Prelude.{Some, Result, Ok, Err}
use Rattle.std.specs.Result.{result_unwrap_or}
use Rattle.statements.specs.declared.Statement.{Statement}
use Rattle.statements.specs.Meaning.{stmt_of}
use Rattle.statements.specs.Promise.{ReadOf, is_writable, written_count, written}
use Rattle.statements.specs.Text.{text}
use Rattle.pool.specs.declared.Full.{Full}
use Rattle.pool.specs.Pool.{stmt_at, pool_len}
use Rattle.pool.specs.Changes.{Appended}
use Rattle.host.specs.Statement.{IsStatement}
use Rattle.pekdrav.specs.Pooled.{place_number, AppendedText, text_fits, Texted}
use Rattle.host.proofs.Written.{is-statement}

pub stayed : (notices : ℕ) (S W : List ℕ) → (IsStatement notices S → ⊥) → AppendedText notices S W 513 W
stayed notices S W f = record { went = λ s. absurd (f s); refused = λ g. (refl, refl) }

place-is : (placed : Result ℕ Full) → result_unwrap_or placed 512 ≡ place_number placed
place-is (Ok i) = refl
place-is (Err full) = refl

pub went-in : (notices : ℕ) (S B : List ℕ) (st : Statement) → ReadOf S notices B (Some st)
    → (W W' : List ℕ) (placed : Result ℕ Full) → Appended W W' st B placed → (n : ℕ) → n ≡ result_unwrap_or placed 512 → AppendedText notices S W n W'
unfolding is-statement
went-in notices S B st p W W' placed a n e =
    let s : IsStatement notices S = is-statement notices S B st p in
    record {
      went = λ _. record { statement = st; block = B; rules = s.rules; is = s.is; placed = placed; appended = a; answer = e ∙ place-is placed };
      refused = λ f. absurd (f s);
    }

-- ---- a statement of the pool, written

module _ (W : List ℕ) (n : ℕ) (out : List ℕ) where
  pub no_text : pool_len W ≤ n → Texted W n out 0 out
  unfolding text_fits
  no_text h = record { count = rw (le-ltb n (pool_len W) h); is = rw (le-ltb n (pool_len W) h) }

  module _ (st : Statement) (B : List ℕ) (e : stmt_of st B ≡ stmt_at W n) (short : st.history.len ≤ 16) where
    room : n < pool_len W → is_writable st B out ≡ text_fits W n out
    unfolding is_writable text_fits
    room h = rw (le-leb st.history.len 16 short, lt-ltb n (pool_len W) h, e)

    pub texted : n < pool_len W → (r : ℕ) (after : List ℕ) → (r ≡ written_count st B out) → after ≡ written st B out → Texted W n out r after
    unfolding written_count written
    texted h r after p q = record {
      count = p ∙ ap₂ (λ b s. cond b (length (text s)) 0) (room h) e;
      is = q ∙ ap₂ (λ b s. cond b (sets out 0 (text s)) out) (room h) e;
    }
