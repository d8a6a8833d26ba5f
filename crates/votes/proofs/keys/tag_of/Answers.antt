use native.Mathlib.Omega.{arith}
use mathlib.Core.Path.{ap₂, ◌∙◌}
use Prim.Native.Nat.{◌+◌, ◌*◌}
use Rattle.votes.proofs.Alike.{tag-plain, tag-noticed}
use Rattle.votes.proofs.keys.tag_of.Goals as goal

pub returns-then-k : goal.returns-then-k
returns-then-k c = (c.kind-k.ensures.0 ∙ tag-plain _ (omega (arith, c.kind-k.ensures.0, c.if-k.true)), omega (arith, c.if-k.true))

pub overflow_mul-result : goal.overflow_mul-result
overflow_mul-result c = omega (arith, c.notice.ensures.1)

pub overflow_add-result : goal.overflow_add-result
overflow_add-result c = omega (arith, c.notice.ensures.1, c.kind-k.ensures.1)

pub returns : goal.returns
returns c = (ap₂ (λ k i. k + i * 256) c.kind-k.ensures.0 c.notice.ensures.0 ∙ tag-noticed _ (omega (arith, c.kind-k.ensures.0, c.if-k.false)), omega (arith, c.notice.ensures.1, c.kind-k.ensures.1))
