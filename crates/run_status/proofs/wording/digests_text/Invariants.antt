use Rattle.std.proofs.Common.{◌≡◌, map, take, string_bytes}
use Rattle.run_status.specs.Message.{digest_text}
use Rattle.run_status.proofs.wording.digests_text.Given as goal

abbrev pub invariant-loop-digest : goal.invariant-loop-digest
invariant-loop-digest l = map string_bytes l.texts.items ≡ map digest_text (take l.digest-index l.digests)
