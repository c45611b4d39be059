use Rattle.std.proofs.Common.{◌≡◌, ℕ, ◌<◌, length, get_or, ap, subst, ◌∙◌}
use Rattle.calculus.specs.Substitution.{renumber}
use Rattle.calculus.specs.Unfolding.{new_index}
use Rattle.substitution.specs.Becoming.{change_of, index_in, index_parts, Becomes}
use Rattle.substitution.proofs.Becoming.{renumber-filled}
use Rattle.substitution.proofs.Indices.{indices-known}
use Rattle.substitution.proofs.Made.{made-so}
use Rattle.substitution.proofs.renumbering.renumber_body.Goals as goal

pub returns : goal.returns
unfolding change_of
returns c =
    let places = c.args.places.now in let body = c.args.body.now in
    let ns = c.as_slice.result.now in
    let e : length ns ≡ length places = ap length c.as_slice.ensures.value ∙ c.in_ok-indices.ensures.length in
    let h : (k : ℕ) → k < length places → get_or ns k 0 ≡ new_index places k = λ k l. ap (λ xs. get_or xs k 0) c.as_slice.ensures.value ∙ c.in_ok-indices.ensures.indices k l in
    made-so (Becomes (index_parts (index_in ns)) 0 body) (λ u. u ≡ renumber (new_index places) body) _
    (λ u b. renumber-filled (new_index places) body u (subst (λ (f : ℕ → ℕ). Becomes (index_parts f) 0 body u) (indices-known places ns e h) b))
    c.replaced.ensures
