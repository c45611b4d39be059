-- The lemmas that the calls of the walk share.
use Rattle.scope_names.proofs.Insides.{inside-append, inside-nil}
use Rattle.input_faults.proofs.Refusals.{refusal-left, refusal-right, none-append, judges-right, judges-end}
use Rattle.open_processes.proofs.Meanings.{proc-pairs, pat-pairs, rest-uses}

pub ruleset walking = (proc-pairs, pat-pairs, rest-uses, refusal-left, refusal-right, none-append, inside-append, inside-nil, judges-right, judges-end)
