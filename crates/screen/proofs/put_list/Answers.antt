use native.Mathlib.Omega.{arith}
use Prim.Native.Nat.{◌<◌}
use mathlib.Core.Path.{◌≡◌, ap, ◌∙◌}
use lib.ListN.{length, take}
use lib.Seq.{length-sets}
use Rattle.std.proofs.lemmas.List.{length-take-le, get_or-take}
use Rattle.screen.proofs.ScreenLaws.{word-text, words-first, words-next}
use Rattle.screen.proofs.put_list.Goals as goal

pub loop-word-init : goal.loop-word-init
loop-word-init c = (omega arith, words-first _ _ _)

pub put_view-at-requires : goal.put_view-at-requires
put_view-at-requires c = omega (arith, c.requires.0, c.requires.1, c.loop-word-test.true, c.loop-word.invariant.0, c.loop-word.auto.out, c.told-list, length-take-le c.args.n c.args.list.now (omega (arith, c.requires.0, c.told-list)))

pub loop-word-preserved : goal.loop-word-preserved
loop-word-preserved c =
    let l : c.loop-word.word-index < c.args.n = omega (arith, c.loop-word-test.true, length-take-le c.args.n c.args.list.now (omega (arith, c.requires.0, c.told-list))) in
    (omega (arith, c.put_view-at.ensures.0, c.loop-word.invariant.0), words-next c.args.list.now c.loop-word.word-index _ (word-text _ _ _ c.of_word.ensures (get_or-take _ _ _ _ l)) c.loop-word.invariant.1 c.put_view-at.ensures.1)

pub shape_of-out : goal.shape_of-out
shape_of-out c = ap length c.loop-word.invariant.1.is ∙ simp length-sets

pub returns : goal.returns
returns c =
    let t : length (take c.args.n c.args.list.now) ≡ c.args.n = length-take-le _ _ (omega (arith, c.requires.0, c.told-list)) in
    let e : c.loop-word.word-index ≡ c.args.n = omega (arith, t, c.loop-word-test.false, c.loop-word.auto.word-index-end) in rw (← e) c.loop-word.invariant.1
