use Rattle.std.proofs.Common.{◌≡◌, subst, arith}
use Rattle.std.specs.Prelude.{IfOk}
use Rattle.calculus.specs.Normal.{arranged_by}
use Rattle.code_order.proofs.Made.{few-ascend}
use Rattle.code_order.proofs.order.sorted.Goals as goal

pub returns-then-len-lt2 : goal.returns-then-len-lt2
returns-then-len-lt2 g c = few-ascend g.T.HasCode.bytes c.args.items.items (omega arith)

pub returns : goal.returns
returns g c = subst (λ ks. IfOk c.in_order.result (λ v. v.items ≡ arranged_by ks)) c.in_ok-keyed.ensures c.in_order.ensures
