-- What is proved of the pieces of a tree of each sort: how they are read.
use Rattle.std.proofs.Common.{◌≡◌, ℕ, Bool, true, false, cond, List, length}
use Rattle.std.specs.Prelude.{⊤, drop}
use Rattle.calculus.specs.Tree.{Label, Tree, Trees}
use Rattle.calculus.specs.Shape.{held, label_of}
use Rattle.calculus.specs.Form.{Sort, term, part, a_bind, a_case, a_rest, pat, name_pat, pat_part, name_part, row_of, pair_of, Kids, all, these, no_form}
use Rattle.calculus.specs.Meaning.{row_of as a_row}
use Rattle.calculus.specs.Written.{Written}
use Rattle.calculus.specs.Printed.{is_atom, is_drop, is_bare_name}
use Rattle.grammar.specs.Rules.{Par, One, Atom, POne, PAtom}
use Rattle.grammar.specs.Values.{processes, patterns}
use Rattle.printed_spelling.specs.Spelled.{dropped, named}
use Rattle.printed_spelling.proofs.Pieces.{Piece, operand_piece, name_piece}
use Rattle.printed_spelling.proofs.Both.{Both, Single, Beside, InTurn}
use Rattle.printed_spelling.proofs.Climbing.{Says}
use Rattle.printed_spelling.proofs.Pairs.{PairSays, RestSays}
use Rattle.printed_spelling.proofs.TextNames.{Channel, PatternChannel}
use Rattle.printed_spelling.proofs.Binds.{Bound, Binds, CaseSays}

-- a process of these parts: by itself, as an operand, and as a name
pub record TermSays (hs : List Tree) (p : Piece) (w : Written) : Type 0 where
  pub whole : Says (Par processes) p w
  pub operand : Says Atom (operand_piece hs p) w
  pub name : Channel (name_piece hs p) (named hs w)

-- a pattern of these parts: by itself, and as an operand
pub record PatSays (hs : List Tree) (p : Piece) (w : Written) : Type 0 where
  pub whole : Says (Par patterns) p w
  pub operand : Says PAtom (operand_piece hs p) w

-- a drop without its `*` is a name
abbrev pub DropSays : Bool → Piece → Written → Type 0
DropSays true p w = Channel (λ r. drop 1 (p r)) (dropped w)
DropSays false p w = ⊤

-- a part of a process
pub record PartSays (l : Label) (p : Piece) (w : Written) : Type 0 where
  pub alone : Says (cond (is_atom l) Atom One) p w
  pub undropped : DropSays (is_drop l) p w

-- a part of a pattern
abbrev pub PatPartSays : Label → Piece → Written → Type 0
PatPartSays l p w = Says (cond (is_atom l) PAtom POne) p w

-- the one part of a name pattern
abbrev pub NamePartSays : Bool → Label → Piece → Written → Type 0
NamePartSays true l p w = PatternChannel p w
NamePartSays false l p w = PatPartSays l p w

-- the members of a row
abbrev pub Members : Sort → List Piece → List Written → Type 0
Members term = Both (Says (Par processes))
Members pat = Both (Says (Par patterns))
Members name_pat = Both PatternChannel
Members (pair_of term) = Both (PairSays processes)
Members (pair_of pat) = Both (PairSays patterns)
Members a_case = Both CaseSays
Members a_bind = Binds
Members _ = λ ps ws. ⊤

-- a row of so many members
pub data RowSays (s : Sort) (n : ℕ) : List Piece → Written → Type 0 where
  row_says : {ps : List Piece} (ws : List Written) → length ws ≡ n → Members s ps ws → RowSays s n ps (a_row ws)

-- how the pieces of a tree of a sort are read
abbrev pub Claim : Sort → Tree → List Piece → Written → Type 0
Claim term t = Single (TermSays (held t))
Claim part t = Single (PartSays (label_of t))
Claim pat t = Single (PatSays (held t))
Claim pat_part t = Single (PatPartSays (label_of t))
Claim name_part t = Single (NamePartSays (is_bare_name (label_of t)) (label_of t))
Claim name_pat t = Single PatternChannel
Claim (pair_of term) t = Single (PairSays processes)
Claim (pair_of pat) t = Single (PairSays patterns)
Claim (pair_of _) t = λ ps w. ⊤
Claim a_case t = Single CaseSays
Claim a_bind t = Bound
Claim a_rest t = RestSays
Claim (row_of s) t = RowSays s (length (held t))

-- how those of constituents are read
abbrev pub KidsClaim : Kids → Trees → List (List Piece) → List Written → Type 0
KidsClaim (all s) = Beside (Claim s)
KidsClaim (these ss) = InTurn Claim ss
KidsClaim no_form = λ ts xs ws. ⊥
