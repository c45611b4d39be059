use Rattle.std.proofs.Common.{subst, arith}
use Rattle.std.specs.Prelude.{All}
use Rattle.std.proofs.lemmas.List.{length-map}
use Rattle.calculus.specs.declared.ids.Digest.{Digest}
use Rattle.event_log.specs.Known.{HasIdBytes}
use Rattle.event_log.proofs.Known.{are-ids}
use Rattle.event_log.proofs.steps.is_step.Goals as goal

pub returns : goal.returns
returns c =
    let ids = c.args.step.now.taken.items in
    let e = length-map ids (λ (id : Digest). id.0) in
    record {
      receiver = c.is_id.ensures;
      ids = are-ids ids (subst (All HasIdBytes) c.as_slice.ensures.value c.are_ids.ensures);
      some = omega (arith, e, c.requires.0);
      few = omega (arith, e, c.requires.1);
      repeat = c.has_four_bytes.ensures;
    }
