-- Made inputs, written out.
use Rattle.std.specs.Prelude.{◌≡◌, ℕ, codes}
use Rattle.made_input.specs.MadeInput.{made_text, number_of}

-- the numbers that the four lanes count down from
abbrev pub NumbersAre : ℕ → ℕ → ℕ → ℕ → ℕ → Type 0
NumbersAre steps a b c d = (number_of 0 steps ≡ a) × (number_of 1 steps ≡ b) × (number_of 2 steps ≡ c) × (number_of 3 steps ≡ d)

-- examples of made inputs
pub record MadeExamples : Type 0 where
  -- of 4 steps
  pub of_four : made_text 4 ≡
      codes "@[\"t\", 0]!(0, 0) | @[\"v\", 0]!(1) | for (@k, @s <= @[\"t\", 0]; @v <= @[\"v\", 0]) { if (k > 0) { @[\"t\", 0]!(k - 1, s + v) | @[\"v\", 0]!(v + 1) } else { @[\"sum\", 0]!(s) } } |\n@[\"t\", 1]!(0, 0) | @[\"v\", 1]!(1) | for (@k, @s <= @[\"t\", 1]; @v <= @[\"v\", 1]) { if (k > 0) { @[\"t\", 1]!(k - 1, s + v) | @[\"v\", 1]!(v + 1) } else { @[\"sum\", 1]!(s) } } |\n@[\"t\", 2]!(0, 0) | @[\"v\", 2]!(1) | for (@k, @s <= @[\"t\", 2]; @v <= @[\"v\", 2]) { if (k > 0) { @[\"t\", 2]!(k - 1, s + v) | @[\"v\", 2]!(v + 1) } else { @[\"sum\", 2]!(s) } } |\n@[\"t\", 3]!(0, 0) | @[\"v\", 3]!(1) | for (@k, @s <= @[\"t\", 3]; @v <= @[\"v\", 3]) { if (k > 0) { @[\"t\", 3]!(k - 1, s + v) | @[\"v\", 3]!(v + 1) } else { @[\"sum\", 3]!(s) } }\n"
  -- of 10 steps the first two lanes take 3 and the other two 2
  pub of_ten : NumbersAre 10 2 2 1 1
  -- of 200,000 steps each lane takes 50,000
  pub of_most : NumbersAre 200000 49999 49999 49999 49999
