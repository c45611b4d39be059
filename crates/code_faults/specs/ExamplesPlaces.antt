-- Examples of bytes that are wrong at a place in the code of a process, and at no other.
use Rattle.std.specs.Prelude.{ℕ, true, List, [], ◌∷◌, codes}
use Rattle.calculus.specs.Tree.{bool, set, Tree}
use Rattle.calculus.specs.Shape.{leaf, many, process}
use Rattle.calculus.specs.Examples.{hex, word, yes}
use Rattle.code_faults.specs.Places.{items, these, Breaks}

-- the process `true | true`
abbrev pub two_parts : Tree
two_parts = process (leaf (bool true) ∷ leaf (bool true) ∷ [])

-- the part `Set(true, true)`
abbrev pub twins : Tree
twins = many set (yes ∷ yes ∷ [])

-- the process `Set(true, true) | Set(true, true)`
abbrev pub two_sets : Tree
two_sets = process (twins ∷ twins ∷ [])

-- in the code of a process other bytes stand after these, which are written in hexadecimal digits
abbrev pub OthersStand : Tree → List ℕ → List ℕ → Type 0
OthersStand t before after = Breaks (these (hex after)) 400 (items t) (hex before)

-- places that are wrong, and some that are not
pub record PlaceExamples : Type 0 where
  -- `true | false` for `true | true`: the second part falls below the first
  pub second_part : OthersStand two_parts (codes "000000021001") (codes "1000")
  -- not the byte at which it does so
  pub not_the_byte_in_it : OthersStand two_parts (codes "00000002100110") (codes "00") → ⊥
  -- nor the first part
  pub not_the_first_part : OthersStand two_parts (codes "00000002") (codes "10011000") → ⊥
  -- `Set(true, true) | Set(true, false)` for `Set(true, true) | Set(true, true)`: the second part falls below the first
  pub outermost : OthersStand two_sets (codes "000000022200000002000000011001000000011001") (codes "2200000002000000011001000000011000")
  -- not the member of it that falls below the one before
  pub not_the_member : OthersStand two_sets (codes "0000000222000000020000000110010000000110012200000002000000011001") (codes "000000011000") → ⊥
  -- a Bool that is neither: its byte
  pub flag : OthersStand yes (codes "0000000110") (codes "02")
  -- not its tag
  pub not_its_tag : OthersStand yes (codes "00000001") (codes "1002") → ⊥
  -- a number that is cut, and goes on as no 1
  pub cut_number : OthersStand yes [] (codes "000001")
  -- not the byte that is wrong in it
  pub not_a_byte_in_it : OthersStand yes (codes "0000") (codes "01") → ⊥
  -- text that is no UTF-8: the first byte after its length
  pub text : OthersStand (word (codes "a")) (codes "000000011200000001") (codes "FF")
