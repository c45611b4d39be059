use Rattle.std.proofs.Common.{◌≡◌, ◌++◌, length, replicate, ap, ◌∙◌, arith}
use Rattle.code_faults.specs.declared.sort.Sense.TheVariants.{Name}
use Rattle.code_parts.proofs.FormFailures.{new-origins-fails}
use Rattle.code_parts.proofs.Keeping.{told, no-value}
use Rattle.code_parts.proofs.RowFailures.{memory-fails}
use Rattle.code_parts.proofs.scopes.new_head.Goals as goal

pub returns-in_err-names : goal.returns-in_err-names
returns-in_err-names c = record {
  is = no-value _ _ _ c.from_residual.ensures.1;
  some = no-value _ _ _ c.from_residual.ensures.1;
  scope = no-value _ _ _ c.from_residual.ensures.1;
  fails = told _ _ _ c.from_residual.ensures.1 (λ v room. new-origins-fails room c.in_err-names.ensures.wrong c.in_err-names.ensures.refuses c.in_err-names.ensures.begun);
}

pub returns-in_err-inner : goal.returns-in_err-inner
returns-in_err-inner c = record {
  is = no-value _ _ _ c.from_residual-in_err-inner.ensures.1;
  some = no-value _ _ _ c.from_residual-in_err-inner.ensures.1;
  scope = no-value _ _ _ c.from_residual-in_err-inner.ensures.1;
  fails = told _ _ _ c.from_residual-in_err-inner.ensures.1 (λ v room. memory-fails);
}

pub returns : goal.returns
returns c =
    let e : c.len.result ≡ length c.in_ok-names.names.items = omega arith in
    record { is = c.in_ok-names.ensures.is; some = c.in_ok-names.ensures.some; scope = c.in_ok-inner.ensures ∙ ap (λ n. c.args.scope.now.items ++ replicate n Name) e; fails = tt }
