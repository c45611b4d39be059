use Rattle.std.proofs.Common.{map}
use Rattle.std.proofs.lemmas.Result.{IfOk-weaker}
use Rattle.calculus.specs.declared.ids.Digest.{Digest}
use Rattle.rspace_table.proofs.Searching.{sends-on}
use Rattle.rspace_table.proofs.hand.HandRowsAtHand.sends_on.Goals as goal

pub returns : goal.returns
returns c =
    let h = c.args.self.now in
    IfOk-weaker c.sends_on.result _ _ (λ ids f. sends-on h.heard.now h.held.now h.placed c.args.channel.now (map (λ (d : Digest). d.0) ids.now) f) c.sends_on.ensures
