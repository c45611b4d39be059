use Rattle.std.proofs.Common.{arith}
use Rattle.code_parts.proofs.Failing.{tag-fails}
use Rattle.code_parts.proofs.FormFailures.{send-flag-fails, bundle-rights-fails, unary-op-fails, binary-op-fails, method-name-fails}
use Rattle.code_parts.proofs.Formed.{tagged}
use Rattle.code_parts.proofs.Keeping.{told, no-value}
use Rattle.code_parts.proofs.heads.read_head.Goals as goal

pub returns-in_err-boolean-in-48 : goal.returns-in_err-boolean-in-48
returns-in_err-boolean-in-48 c = record {
  is = no-value _ _ _ c.from_residual.ensures.1;
  name = no-value _ _ _ c.from_residual.ensures.1;
  fails = told _ _ _ c.from_residual.ensures.1 (λ v room. tag-fails _ 0x30 c.in-48.is (send-flag-fails room c.in_err-boolean-in-48.ensures.wrong c.in_err-boolean-in-48.ensures.refuses c.in_err-boolean-in-48.ensures.place));
}

pub returns-in_ok-boolean-in-48 : goal.returns-in_ok-boolean-in-48
returns-in_ok-boolean-in-48 c = record {
  is = tagged _ 0x30 c.in-48.is c.in_ok-boolean-in-48.ensures.is;
  name = tt;
  fails = tt;
}

pub returns-in_err-rights-in-52 : goal.returns-in_err-rights-in-52
returns-in_err-rights-in-52 c = record {
  is = no-value _ _ _ c.from_residual-in_err-rights-in-52.ensures.1;
  name = no-value _ _ _ c.from_residual-in_err-rights-in-52.ensures.1;
  fails = told _ _ _ c.from_residual-in_err-rights-in-52.ensures.1 (λ v room. tag-fails _ 0x34 c.in-52.is (bundle-rights-fails room c.in_err-rights-in-52.ensures.wrong c.in_err-rights-in-52.ensures.refuses c.in_err-rights-in-52.ensures.place));
}

pub returns-in_ok-rights-in-52 : goal.returns-in_ok-rights-in-52
returns-in_ok-rights-in-52 c = record {
  is = tagged _ 0x34 c.in-52.is c.in_ok-rights-in-52.ensures.is;
  name = tt;
  fails = tt;
}

pub returns-in_err-unary_op-in-64 : goal.returns-in_err-unary_op-in-64
returns-in_err-unary_op-in-64 c = record {
  is = no-value _ _ _ c.from_residual-in_err-unary_op-in-64.ensures.1;
  name = no-value _ _ _ c.from_residual-in_err-unary_op-in-64.ensures.1;
  fails = told _ _ _ c.from_residual-in_err-unary_op-in-64.ensures.1 (λ v room. tag-fails _ 0x40 c.in-64.is (unary-op-fails room c.in_err-unary_op-in-64.ensures.wrong c.in_err-unary_op-in-64.ensures.refuses c.in_err-unary_op-in-64.ensures.place));
}

pub returns-in_ok-unary_op-in-64 : goal.returns-in_ok-unary_op-in-64
returns-in_ok-unary_op-in-64 c = record {
  is = tagged _ 0x40 c.in-64.is c.in_ok-unary_op-in-64.ensures.is;
  name = tt;
  fails = tt;
}

pub returns-in_err-binary_op-in-65 : goal.returns-in_err-binary_op-in-65
returns-in_err-binary_op-in-65 c = record {
  is = no-value _ _ _ c.from_residual-in_err-binary_op-in-65.ensures.1;
  name = no-value _ _ _ c.from_residual-in_err-binary_op-in-65.ensures.1;
  fails = told _ _ _ c.from_residual-in_err-binary_op-in-65.ensures.1 (λ v room. tag-fails _ 0x41 c.in-65.is (binary-op-fails room c.in_err-binary_op-in-65.ensures.wrong c.in_err-binary_op-in-65.ensures.refuses c.in_err-binary_op-in-65.ensures.place));
}

pub returns-in_ok-binary_op-in-65 : goal.returns-in_ok-binary_op-in-65
returns-in_ok-binary_op-in-65 c = record {
  is = tagged _ 0x41 c.in-65.is c.in_ok-binary_op-in-65.ensures.is;
  name = tt;
  fails = tt;
}

pub returns-in_err-text-in_default : goal.returns-in_err-text-in_default
returns-in_err-text-in_default c = record {
  is = no-value _ _ _ c.from_residual-in_err-text-in_default.ensures.1;
  name = no-value _ _ _ c.from_residual-in_err-text-in_default.ensures.1;
  fails = told _ _ _ c.from_residual-in_err-text-in_default.ensures.1 (λ v room. tag-fails _ 0x42 (c.requires (λ q. omega (arith, q)) (λ q. omega (arith, q)) (λ q. omega (arith, q)) (λ q. omega (arith, q))) (method-name-fails room c.in_err-text-in_default.ensures.wrong c.in_err-text-in_default.ensures.refuses c.in_err-text-in_default.ensures.begun));
}

pub returns-in_ok-text-in_default : goal.returns-in_ok-text-in_default
returns-in_ok-text-in_default c = record {
  is = tagged _ 0x42 (c.requires (λ q. omega (arith, q)) (λ q. omega (arith, q)) (λ q. omega (arith, q)) (λ q. omega (arith, q))) c.in_ok-text-in_default.ensures.is;
  name = c.in_ok-text-in_default.ensures.form;
  fails = tt;
}
