use Rattle.std.proofs.Common.{sym, ap, ◌∙◌, arith}
use Rattle.std.specs.Prelude.{Some}
use Rattle.std.proofs.lemmas.Option.{slice_get-get_or}
use Rattle.replay_shards.proofs.Trying.{lone-of}
use Rattle.replay_shards.proofs.taking.lone.Goals as goal

pub returns-in-Some : goal.returns-in-Some
returns-in-Some c =
    let d = c.in-Some.id.now in
    lone-of c.args.ids.now d (omega (arith, c.if-count-ne1.false)) (slice_get-get_or c.args.ids.now 0 d c.in-Some.ensures.lookup.3.0 ∙ ap Some (sym c.in-Some.ensures.lookup.1))
