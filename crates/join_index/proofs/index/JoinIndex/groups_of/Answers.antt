use Rattle.std.proofs.Common.{◌≡◌, List, map, filter, IfOk, subst, ap, ◌∙◌}
use Rattle.join_index.specs.Groups.{Channels, holds}
use Rattle.join_index.specs.declared.index.Counted.{Counted}
use Rattle.join_index.proofs.Putting.{groups-first}
use Rattle.join_index.proofs.index.JoinIndex.groups_of.Goals as goal

pub returns : goal.returns
returns c gs h =
    subst (λ (xs : List Channels). IfOk c.holding.result (λ v. map (λ g. g.items) v.items ≡ filter (holds c.args.channel.now) xs))
    (ap (map (λ (e : Counted). e.group)) c.deref.ensures.value ∙ groups-first gs c.args.self.now.groups.items h.groups) c.holding.ensures
