-- The lemmas that the rules without a walk share.
use Rattle.scope_names.proofs.Insides.{inside-append, inside-nil}
use Rattle.input_faults.proofs.Refusals.{refusal-left, refusal-right, none-append, judges-right, judges-end}

pub ruleset judging = (refusal-left, refusal-right, none-append, inside-append, inside-nil, judges-right, judges-end)
