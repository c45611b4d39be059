use Rattle.std.proofs.Common.{List, sym, subst, map}
use Rattle.std.proofs.lemmas.Result.{IfOk-weaker}
use Rattle.radix_root.specs.Leaves.{groups_of}
use Rattle.checkpoint.specs.declared.keyed.KeyedRow.{KeyedRow}
use Rattle.checkpoint.specs.Groups.{row_of, AreApart, AreByKey, Give}
use Rattle.checkpoint.proofs.Adding.{apart-moved, groups-moved}
use Rattle.checkpoint.proofs.groups.groups_by_key.Goals as goal

pub grouped-requires : goal.grouped-requires
grouped-requires g c = subst AreByKey (sym c.as_slice.ensures.value) c.in_ok-keyed.ensures.order

pub returns-clause-apart : goal.returns-clause-apart
returns-clause-apart g c =
    IfOk-weaker c.grouped.result _ _
    (λ v h. apart-moved v.items c.in_ok-keyed.ensures.rows (subst (λ (ks : List KeyedRow). AreApart v.items (map row_of ks)) c.as_slice.ensures.value h))
    c.grouped.ensures.apart

pub returns-clause-give : goal.returns-clause-give
returns-clause-give g c =
    IfOk-weaker c.grouped.result _ _
    (λ v h. groups-moved v.items c.in_ok-keyed.ensures.rows (subst (λ (ks : List KeyedRow). Give v.items (groups_of (map row_of ks))) c.as_slice.ensures.value h))
    c.grouped.ensures.give
