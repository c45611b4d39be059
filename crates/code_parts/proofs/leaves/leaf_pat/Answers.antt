use Rattle.std.proofs.Common.{refl, [], ◌∷◌, sym, ◌∙◌, arith}
use Rattle.code_faults.proofs.Kids.{no_false}
use Rattle.code_faults.proofs.Exits.{at-tag}
use Rattle.code_faults.proofs.PatExits.{variable-refused, simple-refused, plain-refused}
use Rattle.code_faults.proofs.BlamedParts.{plain_wrong, unbound_wrong, simple_wrong}
use Rattle.code_faults.proofs.BlamedExits.{at-tag_wrong}
use Rattle.code_faults.proofs.BegunForms.{at-tag_begun}
use Rattle.code_faults.proofs.BegunPats.{simple-begun, no-part_begun, plain-begun}
use Rattle.code_faults.proofs.Places.{goes-on, goes-here}
use Rattle.code_parts.proofs.Failing.{failed}
use Rattle.code_parts.proofs.RowFailures.{memory-fails}
use Rattle.code_parts.proofs.LeafForms.{plain-read, ground-unbound, ground-ordered, variable-read, wild-read, simple-read, bound-free, senses-push}
use Rattle.code_parts.proofs.leaves.leaf_pat.Goals as goal

pub returns-then-not-binds : goal.returns-then-not-binds
returns-then-not-binds c = λ v room. record {
  wrong = at-tag_wrong _ 0x50 c.in-80.is (unbound_wrong _ (omega arith) c.if-not-binds.true);
  refuses = at-tag _ 0x50 c.in-80.is (variable-refused _ c.if-not-binds.true);
  begun = λ s. record { after = c.args.tag ∷ c.args.reader.now.input.now; place = omega arith; begun = no-part_begun _ };
}

pub returns-in_err-push-in-80 : goal.returns-in_err-push-in-80
returns-in_err-push-in-80 c = λ v room. failed _ _ _ _ c.from_residual.ensures.1 memory-fails

pub returns-in_err-simple-in-87 : goal.returns-in_err-simple-in-87
returns-in_err-simple-in-87 c = λ v room. failed _ _ _ _ c.from_residual-in_err-simple-in-87.ensures.1 (record {
  wrong = at-tag_wrong _ 0x57 c.in-87.is (simple_wrong c.in_err-simple-in-87.ensures.wrong);
  refuses = at-tag _ 0x57 c.in-87.is (simple-refused _ c.in_err-simple-in-87.ensures.refuses);
  begun = λ s. goes-here _ (at-tag_begun _ 0x57 c.in-87.is (simple-begun _)) c.in_err-simple-in-87.ensures.place;
})

pub returns-in_err-ground-in_default : goal.returns-in_err-ground-in_default
returns-in_err-ground-in_default c = λ v room. failed _ _ _ _ c.from_residual-in_err-ground-in_default.ensures.1 (record {
  wrong = plain_wrong c.args.tag (λ q. omega (arith, q)) (λ q. omega (arith, q)) (λ q. omega (arith, q)) c.requires c.in_err-ground-in_default.ensures.wrong;
  refuses = plain-refused _ c.args.tag (λ q. omega (arith, q)) (λ q. omega (arith, q)) (λ q. omega (arith, q)) c.requires c.in_err-ground-in_default.ensures.refuses;
  begun = λ s. goes-on (c.in_err-ground-in_default.ensures.begun s) (λ z g. plain-begun g);
})

pub returns-in_ok-push-in-80 : goal.returns-in_ok-push-in-80
returns-in_ok-push-in-80 c = λ v room. record {
  reads = variable-read c.args.tag c.in-80.is;
  ordered = tt;
  found = senses-push _ _ c.in_ok-push-in-80.ensures.items;
  free = λ q. absurd (no_false (sym c.if-not-binds.false ∙ q));
}

pub returns-in-82 : goal.returns-in-82
returns-in-82 c = λ v room. record {
  reads = wild-read c.args.tag c.in-82.is;
  ordered = tt;
  found = bound-free _ [] refl;
  free = λ q. refl;
}

pub returns-in_ok-simple-in-87 : goal.returns-in_ok-simple-in-87
returns-in_ok-simple-in-87 c = λ v room. record {
  reads = simple-read c.in_ok-simple-in-87.field-0 c.args.tag c.in-87.is c.in_ok-simple-in-87.ensures.is;
  ordered = tt;
  found = bound-free _ [] refl;
  free = λ q. refl;
}

pub returns-in_ok-ground-in_default : goal.returns-in_ok-ground-in_default
returns-in_ok-ground-in_default c = λ v room. record {
  reads = plain-read c.in_ok-ground-in_default.field-0 c.in_ok-ground-in_default.ensures.is c.in_ok-ground-in_default.ensures.plain;
  ordered = ground-ordered c.in_ok-ground-in_default.field-0;
  found = bound-free _ _ (ground-unbound c.in_ok-ground-in_default.field-0);
  free = λ q. ground-unbound c.in_ok-ground-in_default.field-0;
}
