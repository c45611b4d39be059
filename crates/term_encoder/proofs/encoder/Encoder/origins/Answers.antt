use Rattle.std.proofs.Common.{◌<◌, [], ◌∷◌, ◌++◌, map, take, length, get_or, sym, ap, subst, ◌∙◌, rules}
use Rattle.std.proofs.lemmas.List.{map_more, take_all}
use Rattle.calculus.specs.Kinds.{origin_number}
use Rattle.calculus.specs.declared.plain.Origin.TheVariants as origins
use Rattle.term_encoder.proofs.Writing.{wrote, wrote_both}
use Rattle.term_encoder.proofs.encoder.Encoder.origins.Goals as goal

pub loop-name-preserved : goal.loop-name-preserved
loop-name-preserved c =
    let xs = c.args.names.now.items in
    let i = c.loop-name.name-index in
    let v = c.deref-name-items.ensures.value in
    let h : i < length xs = subst (λ zs. i < length zs) v c.loop-name-test.true in
    wrote (wrote_both c.loop-name.invariant c.origin.ensures)
    (ap (λ zs. map origin_number (take i xs) ++ origin_number (get_or zs i origins.Plain) ∷ []) v ∙ sym (map_more origin_number xs i origins.Plain h))

pub returns : goal.returns
returns c = wrote (wrote_both c.number.ensures c.loop-name.invariant) (search (rules, take_all))
