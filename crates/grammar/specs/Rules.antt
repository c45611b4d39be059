-- The sorts of the grammar, and what the right side of a production is made of.
use Rattle.std.specs.Prelude.{ℕ, Bool, List, Option}
use Rattle.calculus.specs.Written.{Written}
use Rattle.calculus.specs.declared.plain.Kind.{Kind}
use Rattle.grammar.specs.declared.mark.Mark.{Mark}
use Rattle.grammar.specs.declared.mark.Mark.TheVariants as marks
use Rattle.grammar.specs.Terminals.{Holding, Terminal}
use Rattle.grammar.specs.Values.{Spelt, Side}

-- the brackets in which members stand
pub data Bracket : Type 0 where
  round : Bracket
  square : Bracket

-- the mark that closes
abbrev pub closing : Bracket → Mark
closing round = marks.Close
closing square = marks.CloseSquare

-- what stands between the binds of a receive
pub data Separator : Type 0 where
  semicolon : Separator
  ampersand : Separator

-- the mark of a separator
abbrev pub separator_mark : Separator → Mark
separator_mark semicolon = marks.Semicolon
separator_mark ampersand = marks.Ampersand

-- the sorts, named as in the grammar; a sort that goes on with a form knows what was read of it: trees with their greatest height, a value, names, a kind of arrow, a separator and how many more binds may follow, or the bracket that closes it
pub data Sort : Type 0 where
  Par : Side → Sort
  ParTail : Side → List Written → ℕ → Sort
  One : Sort
  New : Sort
  Decl : List (List ℕ × Option (List ℕ)) → Sort
  DeclUri : List (List ℕ × Option (List ℕ)) → List ℕ → Sort
  DeclTail : List (List ℕ × Option (List ℕ)) → Sort
  If : Sort
  IfTail : Spelt → Spelt → Sort
  Contract : Sort
  Two : Sort
  Sent : Side → Spelt → Sort
  SentTail : Side → Spelt → Sort
  Bundle : Side → Sort
  For : Sort
  Bind : Sort
  Arrow : Spelt → Sort
  FirstTail : Kind → Spelt → Sort
  Binds : Kind → Separator → ℕ → List Written → ℕ → Sort
  BindsTail : Kind → Separator → ℕ → List Written → ℕ → Sort
  Body : Kind → List Written → ℕ → Sort
  Left : Sort
  LeftTail : List Written → ℕ → Sort
  LeftNext : List Written → ℕ → Sort
  Remainder : Sort
  Match : Sort
  Case : Spelt → List Written → ℕ → Sort
  CaseTail : Spelt → List Written → ℕ → Sort
  Or : Sort
  OrTail : Spelt → Sort
  And : Sort
  AndTail : Spelt → Sort
  Eq : Sort
  EqTail : Spelt → Sort
  Cmp : Sort
  CmpTail : Spelt → Sort
  Sum : Sort
  SumTail : Spelt → Sort
  Mul : Sort
  MulTail : Spelt → Sort
  Pre : Sort
  Meth : Sort
  MethTail : Spelt → Sort
  Drop : Sort
  Dropped : Sort
  Name : Sort
  Atom : Sort
  Ground : Side → Sort
  Group : Side → Spelt → Sort
  Brace : Sort
  BraceTail : Spelt → Sort
  Pairs : List Written → ℕ → Sort
  Row : Side → Bracket → Sort
  RowTail : Side → Bracket → List Written → ℕ → Sort
  POne : Sort
  PAlt : Sort
  PAltTail : Spelt → Sort
  PAnd : Sort
  PAndTail : Spelt → Sort
  PNot : Sort
  PName : Sort
  PAtom : Sort
  Same : Sort
  Seq : Bracket → Sort
  SeqTail : Bracket → List Written → ℕ → Sort
  SeqNext : Bracket → List Written → ℕ → Sort
  PBrace : Sort
  PBraceTail : Spelt → Sort
  PPairs : List Written → ℕ → Sort
  PPairsNext : List Written → ℕ → Sort

-- the right side of a production: what stands next, and what follows it
pub data Rule : Type 0 where
  -- nothing more
  done : Spelt → Rule
  -- a mark, and a mark that opens a form, to whose left an operand of this height stands
  sign : Mark → Rule → Rule
  opens : Mark → ℕ → Rule → Rule
  -- a next terminal that passes a test, and that opens a form; the rule then reads it
  next : (Terminal → Bool) → Rule → Rule
  opens_next : (Terminal → Bool) → Rule → Rule
  -- a text of this kind, and an integer of at most this value
  holds : Holding → (List ℕ → Rule) → Rule
  integer : ℕ → (ℕ → Rule) → Rule
  -- a constituent that stands under no form of the production, and one that stands under one
  at : Sort → (Spelt → Rule) → Rule
  under : Sort → (Spelt → Rule) → Rule
  -- what comes last gives the value
  last : Sort → Rule
