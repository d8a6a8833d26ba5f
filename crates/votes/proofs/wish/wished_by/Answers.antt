use native.Mathlib.Omega.{arith}
use Prim.Native.Nat.{ℕ, ◌<◌}
use mathlib.Core.Path.{◌≡◌, ap}
use lib.ListN.{get_or, take, length-take}
use Rattle.std.proofs.lemmas.List.{get_or-take}
use Rattle.protocol.specs.Statement.{is_kind}
use Rattle.pool.specs.Pool.{stmt_at}
use Rattle.pool.proofs.Records.{set_first, set_next, set-whole}
use Rattle.votes.proofs.wish.wished_by.Goals as goal

pub loop-s-init : goal.loop-s-init
loop-s-init c = (set_first _ _ _, set_first _ _ _)

pub loop-s-preserved : goal.loop-s-preserved
loop-s-preserved c =
    let l : c.loop-s.s-index < c.record_length-end.result = omega (arith, length-take {A = ℕ}) in
    let e : get_or (take c.record_length-end.result c.args.ids.now) c.loop-s.s-index 0 ≡ get_or c.args.ids.now c.loop-s.s-index 0 = get_or-take _ _ _ 0 l in (
      set_next _ _ _ _ _ _ _ _ (omega (arith, l, c.record_length-end.ensures.1)) c.loop-s.invariant.0 c.note_asked-asked.ensures.0 (ap (λ n. is_kind 1 (stmt_at c.args.words.now n)) e) (ap (λ n. (stmt_at c.args.words.now n).origin) e),
      set_next _ _ _ _ _ _ _ _ (omega (arith, l, c.record_length-end.ensures.1)) c.loop-s.invariant.1 c.note_asked-asked.ensures.1 (ap (λ n. is_kind 2 (stmt_at c.args.words.now n)) e) (ap (λ n. (stmt_at c.args.words.now n).origin) e),
    )

pub returns : goal.returns
returns c =
    let e : c.loop-s.s-index ≡ c.record_length-end.result = omega (arith, length-take {A = ℕ}, c.record_length-end.ensures.1) in
    c.wished_view.ensures _ (set-whole _ _ _ _ _ _ _ e c.record_length-end.ensures.0 c.loop-s.invariant.0) (set-whole _ _ _ _ _ _ _ e c.record_length-end.ensures.0 c.loop-s.invariant.1)
