use Rattle.std.proofs.Common.{◌≡◌, ◌-◌, ap, ◌∙◌, arith, length}
use Rattle.std.specs.Prelude.{unwrap_or}
use Rattle.calculus.specs.Bare.{index}
use Rattle.scope_names.specs.Places.{names_of, place}
use Rattle.scope_names.proofs.Places.{names-length, place-most, place-index}
use Rattle.scope_names.proofs.names.Names.index.Goals as goal

pub overflow_sub-result : goal.overflow_sub-result
overflow_sub-result c =
    let v = names_of c.self.inside.bound.items in
    let e : c.unwrap_or-place.result ≡ place c.args.name.now v = c.unwrap_or-place.ensures ∙ ap (λ o. unwrap_or o 0) (c.copied.ensures ∙ c.get.ensures.value) ∙ c.self.invariant.last c.args.name.now in
    omega (arith, e, place-most c.args.name.now v, names-length c.self.inside.bound.items, c.len.ensures)

pub returns : goal.returns
returns c =
    let v = names_of c.self.inside.bound.items in
    let e : c.unwrap_or-place.result ≡ place c.args.name.now v = c.unwrap_or-place.ensures ∙ ap (λ o. unwrap_or o 0) (c.copied.ensures ∙ c.get.ensures.value) ∙ c.self.invariant.last c.args.name.now in
    let n : c.len.result ≡ length v = omega (arith, names-length c.self.inside.bound.items, c.len.ensures) in
    ap (λ k. k - c.unwrap_or-place.result) n ∙ ap (λ k. length v - k) e ∙ place-index c.args.name.now v ∙ ap (index c.args.name.now) c.self.view_is
