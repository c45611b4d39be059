use Rattle.std.proofs.Common.{refl, sym, ◌∙◌, ap, subst}
use Rattle.std.specs.Prelude.{IsSome}
use Rattle.std.specs.Option.{option_copied_mut}
use Rattle.row_table.specs.Groups.{ids_in}
use Rattle.row_table.proofs.Grouping.{drops-kept}
use Rattle.row_table.proofs.groups.drop_id.Goals as goal

pub returns-in-Some-clause-kept : goal.returns-in-Some-clause-kept
returns-in-Some-clause-kept c =
    let w = c.remove.new.self in
    let e = sym c.get_mut.ensures.value ∙ ap option_copied_mut c.in-Some.is in
    let u = (c.get_mut.follows.holds w).3 (subst IsSome (sym e) refl) in
    drops-kept c.args.groups.now.entries (c.get_mut.follows.lender w).entries c.args.key.now.items c.in-Some.ids.now w c.args.id.now.0 (sym (ap ids_in e)) u.1 c.remove.ensures (λ q i. ap ids_in (u.2 q i))
