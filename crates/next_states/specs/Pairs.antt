-- Rows as the keys of their groups and their codes.
use Rattle.std.specs.Prelude.{◌≡◌, ◌≢◌, ◌≤◌, ◌+◌, ℕ, cond, min, take, drop, List, [], ◌∷◌, length, map as each, All}
use Rattle.std.specs.Str.{bytes_eq}
use Rattle.calculus.specs.Order.{sorted, IsAscending}
use Rattle.calculus.specs.Root.{key}
use Rattle.calculus.specs.Rows.{Row, row_code}
use Rattle.calculus.specs.Storing.{IsStorable}
use Rattle.checkpoint.specs.Kept.{AreKept}
use Rattle.checkpoint.specs.Marks.{AreMarks}
use Rattle.checkpoint.specs.declared.marks.Mark.{Mark}
use Rattle.radix_root.specs.Groups.{given}
use Rattle.radix_root.specs.Leaves.{Leaves, Keeps, group_digest}
use Rattle.radix_root.specs.declared.group.Group.{Group}
use Rattle.events.specs.States.{state_text}

-- the key of a row's group, and the row's code
abbrev pub Pair : Type 0
Pair = List ℕ × List ℕ

-- a row as such a pair
abbrev pub pair_of : Row → Pair
pair_of r = (key r, row_code r)

-- the codes of a key
abbrev pub codes_in : List Pair → List ℕ → List (List ℕ)
codes_in [] k = []
codes_in (p ∷ ps) k = cond (bytes_eq k p.0) (p.1 ∷ codes_in ps k) (codes_in ps k)

-- the codes of a key, ascending
abbrev pub groups_in : List Pair → List ℕ → List (List ℕ)
groups_in ps k = sorted (codes_in ps k)

-- the codes of pairs
abbrev pub seconds : List Pair → List (List ℕ)
seconds ps = each (λ p. p.1) ps

-- how often a code stands among these
abbrev pub times : List ℕ → List (List ℕ) → ℕ
times c [] = 0
times c (x ∷ xs) = cond (bytes_eq c x) 1 0 + times c xs

-- how often a code of a key stands among these pairs
abbrev pub held : List Pair → List ℕ → List ℕ → ℕ
held ps k c = times c (codes_in ps k)

-- the codes of a key changed from these pairs to those
abbrev pub IsChanged : List Pair → List Pair → List ℕ → Type 0
IsChanged ps qs k = groups_in ps k ≢ groups_in qs k

-- bytes, cut by the lengths of marks
abbrev pub cut_by : List Mark → List ℕ → List Pair
cut_by [] text = []
cut_by (m ∷ ms) text = (m.key.0, take (min m.len (length text)) text) ∷ cut_by ms (drop (min m.len (length text)) text)

-- the code of the first pair, and no bytes where there is none
abbrev pub first_code : List Pair → List ℕ
first_code [] = []
first_code (p ∷ ps) = p.1

-- each row that may be stored and has this code has this key
abbrev pub TellsKey : Pair → Type 0
TellsKey p = (r : Row) → IsStorable r → row_code r ≡ p.1 → key r ≡ p.0

-- a group has the digest of these codes of its key
abbrev pub IsRight : List Pair → Group → Type 0
IsRight ps g = given g.digest ≡ group_digest g.key.0 (groups_in ps g.key.0)

-- what is known of a state: marks cut what follows the header of its text into codes, ascending, whose keys they tell, and a tree keeps these; of whatever rows it is the text, the marks are theirs
pub record IsKnown (text : List ℕ) (marks : List Mark) (leaves : Leaves) : Type 0 where
  pub long : 49 ≤ length text
  pub tell : All TellsKey (cut_by marks (drop 49 text))
  pub order : IsAscending (seconds (cut_by marks (drop 49 text)))
  pub tree : Keeps leaves (groups_in (cut_by marks (drop 49 text)))
  pub rows : (rows : List Row) → AreKept rows → text ≡ state_text rows → AreMarks marks rows

-- of all rows that are kept in the state of this text this holds
abbrev pub OfState : List ℕ → (List Row → Type 0) → Type 0
OfState text P = (base : List Row) → AreKept base → text ≡ state_text base → P base
