use Rattle.std.proofs.Common.{refl, sym, ◌∙◌, ap, subst}
use Rattle.std.specs.Prelude.{IsSome}
use Rattle.std.specs.Option.{option_copied_mut}
use Rattle.row_table.specs.Groups.{ids_in}
use Rattle.row_table.proofs.Grouping.{is-there, group-kept}
use Rattle.row_table.proofs.groups.add_to_group.Goals as goal

pub returns-in_err-insert-in-Some-clause-kept : goal.returns-in_err-insert-in-Some-clause-kept
returns-in_err-insert-in-Some-clause-kept c =
    let w = c.insert.new.self in
    let e = sym c.get_mut.ensures.value ∙ ap option_copied_mut c.in-Some.is in
    let u = (c.get_mut.follows.holds w).3 (subst IsSome (sym e) refl) in
    group-kept c.args.groups.now.entries (c.get_mut.follows.lender w).entries c.args.key.now.items c.in-Some.ids.now w (sym (ap ids_in e)) u.1 c.insert.ensures.kept (λ q i. ap ids_in (u.2 q i))

pub returns-in_ok-insert-in-Some-clause-there : goal.returns-in_ok-insert-in-Some-clause-there
returns-in_ok-insert-in-Some-clause-there c =
    let w = c.insert.new.self in
    let e = sym c.get_mut.ensures.value ∙ ap option_copied_mut c.in-Some.is in
    let u = (c.get_mut.follows.holds w).3 (subst IsSome (sym e) refl) in
    λ t. is-there c.args.groups.now.entries (c.get_mut.follows.lender w).entries c.args.key.now.items w c.args.id.0 u.1 c.in_ok-insert-in-Some.ensures.there

pub returns-in_ok-insert-in-Some-clause-kept : goal.returns-in_ok-insert-in-Some-clause-kept
returns-in_ok-insert-in-Some-clause-kept c =
    let w = c.insert.new.self in
    let e = sym c.get_mut.ensures.value ∙ ap option_copied_mut c.in-Some.is in
    let u = (c.get_mut.follows.holds w).3 (subst IsSome (sym e) refl) in
    group-kept c.args.groups.now.entries (c.get_mut.follows.lender w).entries c.args.key.now.items c.in-Some.ids.now w (sym (ap ids_in e)) u.1 c.insert.ensures.kept (λ q i. ap ids_in (u.2 q i))
