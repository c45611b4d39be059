use Rattle.std.proofs.Common.{[], sym, ap, subst}
use Rattle.row_table.specs.Groups.{ids_in, HasId}
use Rattle.row_table.proofs.Grouping.{group-kept, either-way}
use Rattle.row_table.proofs.groups.add_group.Goals as goal

pub returns-clause-kept : goal.returns-clause-kept
returns-clause-kept c =
    let old = c.args.groups.now.entries in
    let new = c.insert-2.new.self.entries in
    either-way c.insert-2.result c.insert-2.ensures.updates c.insert-2.ensures.err
    (λ u. group-kept old new c.args.key.items [] c.insert.new.self (sym c.requires) u.1 (λ y h. cc h) (λ q i. ap ids_in (u.2 q i)))
    (λ e k x h. subst (λ es. HasId es k.items x) (sym e) h)
