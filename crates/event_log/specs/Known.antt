-- What is known of the steps of a log.
use Rattle.calculus.specs.declared.ids.Digest.{Digest}
use Rattle.event_log.specs.Laws.{IsId}

-- a digest has 32 bytes
abbrev pub HasIdBytes : Digest → Type 0
HasIdBytes d = IsId d.0
