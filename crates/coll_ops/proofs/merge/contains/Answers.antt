use Rattle.std.proofs.Common.{sym, ap, ◌∙◌}
use Rattle.calculus.specs.Code.{code}
use Rattle.calculus.specs.Operators.{of_bool}
use Rattle.coll_ops.specs.Merging.{starts}
use Rattle.coll_ops.proofs.Finding.{has-high}
use Rattle.coll_ops.proofs.Members.{asc-up}
use Rattle.coll_ops.proofs.merge.contains.Goals as goal

pub returns : goal.returns
returns g c = λ h a o.
    let k = λ (x : g.row.T.Denot). code (g.T.Keyed.key_tree x) in
    let q = code c.args.key.now in
    let xs = c.args.items.now in
    let s = c.find_key-found.ensures a.keys o in
    (c.value.ensures h).1 ∙ ap of_bool (s.has ∙ ap (starts k q) s.rest ∙ sym (has-high k q xs (asc-up k xs a.up)))
