use Rattle.std.proofs.Common.{◌≡◌, ◌∙◌, ap, map, string_bytes}
use Rattle.std.specs.Prelude.{codes}
use Rattle.std.specs.List.{join_by}
use Rattle.std.proofs.lemmas.List.{take_all}
use Rattle.std.proofs.lemmas.Result.{IfOk-weaker}
use Rattle.run_status.specs.Message.{digest_text}
use Rattle.run_status.proofs.Listing.{same_joined}
use Rattle.run_status.proofs.wording.digests_text.Goals as goal

pub returns : goal.returns
returns c =
    let digests = c.args.digests.now in
    let texts = c.loop-digest.texts.items in
    let all : map string_bytes texts ≡ map digest_text digests = c.loop-digest.invariant ∙ ap (map digest_text) (take_all c.loop-digest.digest-index digests c.loop-digest-test.false) in
    IfOk-weaker c.join.result _ _ (λ t e. e ∙ (ap (join_by string_bytes (codes ",")) c.as_slice.ensures.value ∙ same_joined string_bytes digest_text (codes ",") texts digests all)) c.join.ensures.ok
