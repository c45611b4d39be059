use Rattle.code_faults.proofs.LeafRefusals.{fresh-refused, var-refused, name_var-refused, ground-refused}
use Rattle.code_faults.proofs.Exits.{at-tag}
use Rattle.code_faults.proofs.Blaming.{none-told}
use Rattle.code_faults.proofs.BlamedParts.{var_wrong, name_var_wrong, ground_wrong}
use Rattle.code_faults.proofs.BlamedExits.{at-tag_wrong}
use Rattle.code_faults.proofs.BegunForms.{fresh-begun, var-begun, name_var-begun, at-tag_begun}
use Rattle.code_faults.proofs.BegunPats.{ground-begun}
use Rattle.code_faults.proofs.Places.{goes-on}
use Rattle.std.proofs.Common.{arith}
use Rattle.code_parts.proofs.Failing.{failed}
use Rattle.code_parts.proofs.LeafForms.{fresh-read, var-read, name_var-read, ground-read, ground-ordered}
use Rattle.code_parts.proofs.leaves.leaf_part.Goals as goal

pub returns-in_err-digest-in-21 : goal.returns-in_err-digest-in-21
returns-in_err-digest-in-21 c = λ room. failed _ _ _ _ c.from_residual.ensures.1 (record {
  wrong = at-tag_wrong _ 0x15 c.in-21.is (none-told _ c.in_err-digest-in-21.ensures.tells);
  refuses = at-tag _ 0x15 c.in-21.is (fresh-refused _ (λ x h. c.in_err-digest-in-21.ensures.refuses x h));
  begun = λ s. goes-on (c.in_err-digest-in-21.ensures.begun s) (λ z d. at-tag_begun _ 0x15 c.in-21.is (fresh-begun d.digest d.form d.cut));
})

pub returns-in_err-variable-in-22 : goal.returns-in_err-variable-in-22
returns-in_err-variable-in-22 c = λ room. failed _ _ _ _ c.from_residual-in_err-variable-in-22.ensures.1 (record {
  wrong = at-tag_wrong _ 0x16 c.in-22.is (var_wrong c.in_err-variable-in-22.ensures.wrong);
  refuses = at-tag _ 0x16 c.in-22.is (var-refused _ c.in_err-variable-in-22.ensures.refuses);
  begun = λ s. goes-on (c.in_err-variable-in-22.ensures.begun c.args.tag s) (λ z g. var-begun c.args.tag c.in-22.is g);
})

pub returns-in_err-variable-in-23 : goal.returns-in_err-variable-in-23
returns-in_err-variable-in-23 c = λ room. failed _ _ _ _ c.from_residual-in_err-variable-in-23.ensures.1 (record {
  wrong = at-tag_wrong _ 0x17 c.in-23.is (name_var_wrong c.in_err-variable-in-23.ensures.wrong);
  refuses = at-tag _ 0x17 c.in-23.is (name_var-refused _ c.in_err-variable-in-23.ensures.refuses);
  begun = λ s. goes-on (c.in_err-variable-in-23.ensures.begun c.args.tag s) (λ z g. name_var-begun c.args.tag c.in-23.is g);
})

pub returns-in_err-ground-in_default : goal.returns-in_err-ground-in_default
returns-in_err-ground-in_default c = λ room. failed _ _ _ _ c.from_residual-in_err-ground-in_default.ensures.1 (record {
  wrong = ground_wrong c.args.tag (λ q. omega (arith, q)) (λ q. omega (arith, q)) (λ q. omega (arith, q)) c.requires c.in_err-ground-in_default.ensures.wrong;
  refuses = ground-refused _ c.args.tag (λ q. omega (arith, q)) (λ q. omega (arith, q)) (λ q. omega (arith, q)) c.requires c.in_err-ground-in_default.ensures.refuses;
  begun = λ s. goes-on (c.in_err-ground-in_default.ensures.begun s) (λ z g. ground-begun g);
})

pub returns-in_ok-digest-in-21 : goal.returns-in_ok-digest-in-21
returns-in_ok-digest-in-21 c = λ room. record {
  reads = fresh-read c.in_ok-digest-in-21.field-0.0 c.args.tag c.in-21.is c.in_ok-digest-in-21.ensures.is c.in_ok-digest-in-21.ensures.digest;
  ordered = tt;
}

pub returns-in_ok-variable-in-22 : goal.returns-in_ok-variable-in-22
returns-in_ok-variable-in-22 c = λ room. record {
  reads = var-read c.in_ok-variable-in-22.field-0 c.args.tag c.in-22.is c.in_ok-variable-in-22.ensures.is c.in_ok-variable-in-22.ensures.has;
  ordered = tt;
}

pub returns-in_ok-variable-in-23 : goal.returns-in_ok-variable-in-23
returns-in_ok-variable-in-23 c = λ room. record {
  reads = name_var-read c.in_ok-variable-in-23.field-0 c.args.tag c.in-23.is c.in_ok-variable-in-23.ensures.is c.in_ok-variable-in-23.ensures.has;
  ordered = tt;
}

pub returns-in_ok-ground-in_default : goal.returns-in_ok-ground-in_default
returns-in_ok-ground-in_default c = λ room. record {
  reads = ground-read c.in_ok-ground-in_default.field-0 c.in_ok-ground-in_default.ensures.is c.in_ok-ground-in_default.ensures.plain;
  ordered = ground-ordered c.in_ok-ground-in_default.field-0;
}
