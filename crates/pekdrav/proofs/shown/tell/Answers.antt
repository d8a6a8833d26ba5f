use native.Mathlib.Omega.{arith}
use mathlib.Core.Path.{◌≡◌, refl, ap, ◌∙◌}
use mathlib.Core.Bool.{cond}
use lib.Dec.{ltb}
use lib.Seq.{sets}
use Rattle.protocol.specs.Lists.{list_of}
use Rattle.pool.proofs.Writes.{word-of}
use Rattle.pool.proofs.Rows.{none_written, one_written}
use Rattle.pekdrav.proofs.Told.{word_in, told-all}
use Rattle.pekdrav.proofs.shown.tell.Goals as goal

pub loop-i-init : goal.loop-i-init
loop-i-init c = none_written c.args.out.now c.args.from (word_in c.args.views.now c.args.n)

pub loop-i-preserved : goal.loop-i-preserved
loop-i-preserved c = one_written c.args.out.now c.args.from (word_in c.args.views.now c.args.n) _ _ _ c.loop-i.invariant (c.when.ensures ∙ ap (λ v. cond (ltb c.loop-i.i c.args.n) v 0) (word-of _ _ (omega arith) refl))

pub returns : goal.returns
returns c = let e : c.loop-i.i ≡ 16 = omega arith in c.loop-i.invariant ∙ ap (λ k. sets c.args.out.now c.args.from (list_of k (word_in c.args.views.now c.args.n))) e ∙ ap (sets c.args.out.now c.args.from) (told-all _ _)
