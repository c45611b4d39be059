use Rattle.std.proofs.Common.{◌≡◌, ℕ, List, map, sym, ap, ◌∙◌, subst}
use Rattle.std.specs.Prelude.{None, option_copied}
use Rattle.calculus.specs.Rows.{Row}
use Rattle.least_step.specs.Orders.{referred, AreAscending}
use Rattle.least_step.specs.Filed.{filed, is_on, rows_in, HasPlaceAt}
use Rattle.least_step.proofs.Choosing.{ascending-filter, some-none}
use Rattle.least_step.proofs.Filing.{found}
use Rattle.least_step.proofs.Steps.{if-ok, least-found}
use Rattle.least_step.proofs.choices.least_taken.Goals as goal

-- there is a place for each channel that is looked for
pub returns-in-None : goal.returns-in-None
returns-in-None c =
    let es = c.args.sends.now.entries in
    let key = c.in_ok-code.code in
    let none : found key.items es ≡ None = ap (λ (l : List ℕ). found l es) (sym c.as_slice.ensures.value) ∙ sym c.get.ensures.value ∙ ap option_copied c.in-None.is in
    let no : ⊥ = some-none (found key.items es) (c.requires.place key c.in_ok-code.ensures) none in
    λ rows a k. absurd no

pub returns : goal.returns
returns c =
    let es = c.args.sends.now.entries in
    let key = c.in_ok-code.code in
    let place : HasPlaceAt key.items es = c.requires.place key c.in_ok-code.ensures in
    let xs : List Row = map referred c.as_slice-in-Some.result.now in
    let some : xs ≡ filed key.items es =
    ap (map referred) c.as_slice-in-Some.ensures.value ∙ sym (ap rows_in (ap (λ (l : List ℕ). found l es) (sym c.as_slice.ensures.value) ∙ sym c.get.ensures.value ∙ ap option_copied c.in-Some.is)) in
    λ rows a k.
    let same : xs ≡ _ = some ∙ k.under key place in
    if-ok _ _ c.first_taken.result (λ o m. least-found c.args.bind.now c.requires.ready rows es k key place c.in_ok-code.ensures xs some o m)
    (c.first_taken.ensures (subst AreAscending (sym same) (ascending-filter (is_on key.items) rows a)))
