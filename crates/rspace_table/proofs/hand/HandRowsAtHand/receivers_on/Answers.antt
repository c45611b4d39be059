use Rattle.std.proofs.Common.{map}
use Rattle.std.proofs.lemmas.Result.{IfOk-weaker}
use Rattle.calculus.specs.declared.ids.Digest.{Digest}
use Rattle.rspace_table.proofs.Searching.{receivers-on}
use Rattle.rspace_table.proofs.hand.HandRowsAtHand.receivers_on.Goals as goal

pub returns : goal.returns
returns c =
    let h = c.args.self.now in
    IfOk-weaker c.receivers_on.result _ _ (λ ids f. receivers-on h.heard.now h.held.now c.args.channel.now (map (λ (d : Digest). d.0) ids.now) f) c.receivers_on.ensures
