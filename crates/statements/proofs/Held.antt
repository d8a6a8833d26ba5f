-- The views of a statement are those of its history, and what the makers make.
-- Assumes nothing.
use mathlib.Core.Path.{◌≡◌, sym, ap, ◌∙◌}
use mathlib.Core.Bool.{false}
use mathlib.Core.List.{List}
use Prim.Native.Nat.{ℕ, ◌≤◌, min}
use native.Mathlib.Omega.{arith}
use lib.Dec.{eqb}
use Rattle.protocol.specs.Lists.{list_of}
use Rattle.protocol.specs.View.{View}
use Rattle.views.specs.declared.History.{History}
use Rattle.views.specs.Held.{view_is, held_at, views_is}
use Rattle.statements.specs.declared.Statement.{Statement}
use Rattle.statements.specs.Block.{groups_of}
use Rattle.statements.specs.Meaning.{first_views, stmt_of}
use Rattle.statements.specs.Made.{Made, Reports, plain}
use Rattle.statements.proofs.FieldLaws.{views-meant}

pub first-held : (h : History) → h.len ≤ 16 → first_views h.len h.views ≡ views_is h
first-held h l = sym (views-meant h l)

-- a length above 16 counts as 16
pub shortened-is : (h : History) (n : ℕ) → n ≡ min h.len 16 → views_is (record { views = h.views; len = n }) ≡ views_is h
unfolding views_is
shortened-is h n e = let d : min n 16 ≡ min h.len 16 = omega arith in ap (λ m. list_of m (held_at h.views)) d

-- ---- what makes a statement

pub plain-made : (r : Statement) → eqb r.kind 5 ≡ false → r.history.len ≤ 16
    → Made (plain r.kind r.origin (view_is r.at) (view_is r.view) r.notice r.payload (views_is r.history)) r
unfolding stmt_of groups_of
plain-made r k l = record { means = λ B. rw (k, first-held r.history l); short = l }

pub report-made : (r : Statement) (H : List View) → r.kind ≡ 5 → r.notice ≡ 0 → r.history.len ≤ 16 → views_is r.history ≡ H → Reports r.origin (view_is r.at) (view_is r.view) r.groups H r
unfolding stmt_of groups_of
report-made r H k n l e = record { means = λ B. rw (k, n, first-held r.history l ∙ e); short = l }
