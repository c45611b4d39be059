use Rattle.code_parts.proofs.FormFailures.{receive-kind-fails}
use Rattle.code_parts.proofs.Keeping.{told, no-value}
use Rattle.code_parts.proofs.RowFailures.{memory-fails}
use Rattle.code_parts.proofs.scopes.receive_head.Goals as goal

pub returns-in_err-kind : goal.returns-in_err-kind
returns-in_err-kind c = record {
  is = no-value _ _ _ c.from_residual.ensures.1;
  scope = no-value _ _ _ c.from_residual.ensures.1;
  fails = told _ _ _ c.from_residual.ensures.1 (λ v room. receive-kind-fails room c.in_err-kind.ensures.wrong c.in_err-kind.ensures.refuses c.in_err-kind.ensures.place);
}

pub returns-in_err-inner : goal.returns-in_err-inner
returns-in_err-inner c = record {
  is = no-value _ _ _ c.from_residual-in_err-inner.ensures.1;
  scope = no-value _ _ _ c.from_residual-in_err-inner.ensures.1;
  fails = told _ _ _ c.from_residual-in_err-inner.ensures.1 (λ v room. memory-fails);
}

pub returns : goal.returns
returns c = record { is = c.in_ok-kind.ensures.is; scope = c.in_ok-inner.ensures; fails = tt }
