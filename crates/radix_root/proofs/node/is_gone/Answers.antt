use Rattle.std.proofs.Common.{sym, ap, ◌∙◌}
use Rattle.std.specs.Prelude.{not}
use Rattle.radix_root.specs.Groups.{given}
use Rattle.radix_root.specs.Nodes.{leaves_of, NoneHas}
use Rattle.radix_root.proofs.Found.{absent-out, none-so}
use Rattle.radix_root.proofs.Forks.{none-found}
use Rattle.radix_root.proofs.node.is_gone.Goals as goal

pub returns-in-None : goal.returns-in-None
returns-in-None c = λ e.
    let cs = c.args.children.now in
    let group = c.args.group.now in
    let half = c.half_at in
    let none = none-so c.place_of.result (NoneHas half.result cs) (c.is_none.ensures ∙ ap not e) c.place_of.ensures.none in
    absent-out (leaves_of cs) group.key.0 (given group.digest) (ap given c.in-None.is) (none-found c.args.depth half.result cs c.requires.children none group.key.0 (sym half.ensures.half))
