-- How many steps a limit pays for.
use Rattle.std.proofs.Common.{◌≡◌, ◌≤◌, ℕ, ◌+◌, ◌*◌, List, [], ◌∷◌, length, ap, arith, All, length-append}
use Rattle.std.specs.Prelude.{Option, Some, None}
use Rattle.std.proofs.lemmas.List.Elements.{All-head, All-tail}
use Rattle.std.proofs.lemmas.Nat.{le-div}
use Rattle.events.specs.Entries.{Making, Entry, steps_in, steps_of, prices_of}
use Rattle.events.specs.EntryLaws.{CostsAtLeast, StepsAreFew}
use Rattle.events.proofs.Growing.{steps-more}

more-price : (c n m : ℕ) → c * (n + m) ≡ c * n + c * m
more-price c n m = grind arith

paid : (n : ℕ) (es : List Entry) → All (CostsAtLeast n) es → n * length (steps_of es) ≤ prices_of es
paid n [] h = omega arith
paid n (e ∷ es) h = omega (
  arith,
  paid n es (All-tail (CostsAtLeast n) e es h),
  All-head (CostsAtLeast n) e es h,
  more-price n (length (steps_in e.making)) (length (steps_of es)),
  ap (λ k. n * k) (length-append (steps_in e.making) (steps_of es)),
)

one-step : (x : Option Making) → length (steps_in x) ≤ 1
one-step None = omega arith
one-step (Some a) = omega arith

turned : (c n limit : ℕ) → c * n ≤ limit → n * c ≤ limit
turned c n limit h = grind (arith, h)

pub steps_are_few : StepsAreFew
steps_are_few deploy source es last h k =
    let few : deploy.prices.comm * length (steps_of es) ≤ deploy.limit = omega (arith, paid deploy.prices.comm es h, k) in (
      few,
      λ p. omega (
        arith,
        le-div (length (steps_of es)) deploy.limit deploy.prices.comm p (turned deploy.prices.comm (length (steps_of es)) deploy.limit few),
        ap length (steps-more es last),
        length-append (steps_of es) (steps_in last.making),
        one-step last.making,
      ),
    )
