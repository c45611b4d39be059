use Rattle.std.proofs.Common.{sym, ap, ◌∙◌}
use Rattle.std.specs.Prelude.{Some}
use Rattle.std.proofs.lemmas.Option.{slice_get-get_or}
use Rattle.replay_shards.proofs.Lacking.{first-of}
use Rattle.replay_shards.proofs.early.starts_early.Goals as goal

pub returns-in-Some : goal.returns-in-Some
returns-in-Some c e =
    let t = c.in-Some.first.now in
    let w = first-of c.args.tries.now t (slice_get-get_or c.args.tries.now 0 t c.in-Some.ensures.lookup.3.0 ∙ ap Some (sym c.in-Some.ensures.lookup.1)) in
    record { first = t; others = w.0; are = w.1; lacks = c.is_early.ensures e }
