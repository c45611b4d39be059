-- The answers of operators on values.
use Rattle.std.specs.Prelude.{ℕ, ◌^◌, Bool, false, cond, not, ◌&&◌, ◌||◌, List, [], ◌∷◌, ◌++◌, map as each, filter, ℤ, pos, negsuc, ◌+ℤ◌, ◌-ℤ◌, ◌*ℤ◌, neg_ℤ, int_lt, int_le, int_div, int_rem}
use Rattle.calculus.specs.declared.plain.UnaryOp.{UnaryOp}
use Rattle.calculus.specs.declared.plain.UnaryOp.TheVariants as unary_op
use Rattle.calculus.specs.declared.plain.BinaryOp.{BinaryOp}
use Rattle.calculus.specs.declared.plain.BinaryOp.TheVariants as op
use Rattle.calculus.specs.Tree.{bool, int, str, bytes, list, tuple, set, dict, Tree, node}
use Rattle.calculus.specs.Shape.{leaf, many, only, listed, held, at}
use Rattle.calculus.specs.Order.{up_to}
use Rattle.calculus.specs.Congruence.{congruent, same_int}
use Rattle.calculus.specs.declared.fault.FaultKind.TheVariants as fault
use Rattle.calculus.specs.Outcome.{Answer, gives, fails}
use Rattle.calculus.specs.Normal.{ascending}

-- what a value is seen as: a single part of one of these kinds, or anything else
pub data Seen : Type 0 where
  a_bool : Bool → Seen
  an_int : ℤ → Seen
  a_text : List ℕ → Seen
  some_bytes : List ℕ → Seen
  a_list : List Tree → Seen
  a_tuple : List Tree → Seen
  a_set : List Tree → Seen
  a_map : List Tree → Seen
  other : Seen

-- what a part is seen as
abbrev pub seen_part : Tree → Seen
seen_part (node (bool b) ts) = a_bool b
seen_part (node (int z) ts) = an_int z
seen_part (node (str s) ts) = a_text s
seen_part (node (bytes s) ts) = some_bytes s
seen_part (node list ts) = a_list (listed ts)
seen_part (node tuple ts) = a_tuple (listed ts)
seen_part (node set ts) = a_set (listed ts)
seen_part (node dict ts) = a_map (listed ts)
seen_part _ = other

-- what these parts are seen as: one part as it is, and more parts or none as anything else
abbrev pub seen_parts : List Tree → Seen
seen_parts (t ∷ []) = seen_part t
seen_parts _ = other

-- what a value is seen as
abbrev pub seen : Tree → Seen
seen t = seen_parts (held t)

-- a Bool as a value
abbrev pub of_bool : Bool → Tree
of_bool b = only (leaf (bool b))

-- an Int as a value
abbrev pub of_int : ℤ → Tree
of_int z = only (leaf (int z))

-- a String as a value
abbrev pub of_text : List ℕ → Tree
of_text s = only (leaf (str s))

-- a ByteArray as a value
abbrev pub of_bytes : List ℕ → Tree
of_bytes s = only (leaf (bytes s))

-- a list as a value
abbrev pub of_list : List Tree → Tree
of_list ts = only (many list ts)

-- whether one of these is congruent to this tree
abbrev pub is_among : Tree → List Tree → Bool
is_among t [] = false
is_among t (u ∷ us) = congruent t u || is_among t us

-- of congruent trees the last one alone
abbrev pub distinct : List Tree → List Tree
distinct [] = []
distinct (t ∷ ts) = cond (is_among t ts) (distinct ts) (t ∷ distinct ts)

-- those of the second list that are congruent to none of the first
abbrev pub without : List Tree → List Tree → List Tree
without us ts = filter (λ t. not (is_among t us)) ts

-- the set of these members, each kept once
abbrev pub of_set : List Tree → Tree
of_set ts = only (many set (ascending (distinct ts)))

-- the key of a pair
abbrev pub key_of : Tree → Tree
key_of p = at 0 (held p)

-- the value of a pair
abbrev pub value_of : Tree → Tree
value_of p = at 1 (held p)

-- of pairs with congruent keys the last one alone
abbrev pub last_of_key : List Tree → List Tree
last_of_key [] = []
last_of_key (p ∷ ps) = cond (is_among (key_of p) (each key_of ps)) (last_of_key ps) (p ∷ last_of_key ps)

-- the map of these pairs: of congruent keys the later pair stands
abbrev pub of_map : List Tree → Tree
of_map ps = only (many dict (ascending (last_of_key ps)))

-- the value at a key, or the other value where the map has no such key
abbrev pub found : Tree → Tree → List Tree → Tree
found d k [] = d
found d k (p ∷ ps) = cond (congruent k (key_of p)) (value_of p) (found d k ps)

-- the least Int
abbrev pub least_int : ℤ
least_int = neg_ℤ (pos (2 ^ 63))

-- a whole number that is an Int, or Overflow
abbrev pub an_answer : ℤ → Answer Tree
an_answer z = cond (int_le least_int z && int_lt z (pos (2 ^ 63))) (gives (of_int z)) (fails fault.Overflow)

-- an answer that needs a divisor other than 0, and another quotient than that of the least Int and -1
abbrev pub divided : ℤ → ℤ → ℤ → Answer Tree
divided x y z = cond (same_int y (pos 0)) (fails fault.DivZero) (cond (same_int x least_int && same_int y (negsuc 0)) (fails fault.Overflow) (gives (of_int z)))

-- a Bool as an answer
abbrev pub holds : Bool → Answer Tree
holds b = gives (of_bool b)

-- an operator on two Int: `/` truncates toward zero, and `%` has the sign of its left operand
abbrev pub on_ints : BinaryOp → ℤ → ℤ → Answer Tree
on_ints op.Lt x y = holds (int_lt x y)
on_ints op.Le x y = holds (int_le x y)
on_ints op.Gt x y = holds (int_lt y x)
on_ints op.Ge x y = holds (int_le y x)
on_ints op.Add x y = an_answer (x +ℤ y)
on_ints op.Sub x y = an_answer (x -ℤ y)
on_ints op.Mul x y = an_answer (x *ℤ y)
on_ints op.Div x y = divided x y (int_div x y)
on_ints op.Rem x y = divided x y (int_rem x y)
on_ints _ x y = fails fault.WrongType

-- an operator on two Bool: false is below true
abbrev pub on_bools : BinaryOp → Bool → Bool → Answer Tree
on_bools op.Or x y = holds (x || y)
on_bools op.And x y = holds (x && y)
on_bools op.Lt x y = holds (not x && y)
on_bools op.Le x y = holds (not x || y)
on_bools op.Gt x y = holds (x && not y)
on_bools op.Ge x y = holds (x || not y)
on_bools _ x y = fails fault.WrongType

-- an operator on two String, which compare by their bytes
abbrev pub on_texts : BinaryOp → List ℕ → List ℕ → Answer Tree
on_texts op.Lt x y = holds (not (up_to y x))
on_texts op.Le x y = holds (up_to x y)
on_texts op.Gt x y = holds (not (up_to x y))
on_texts op.Ge x y = holds (up_to y x)
on_texts op.Append x y = gives (of_text (x ++ y))
on_texts _ x y = fails fault.WrongType

-- an operator on two ByteArray
abbrev pub on_bytes : BinaryOp → List ℕ → List ℕ → Answer Tree
on_bytes op.Append x y = gives (of_bytes (x ++ y))
on_bytes _ x y = fails fault.WrongType

-- an operator on two lists
abbrev pub on_lists : BinaryOp → List Tree → List Tree → Answer Tree
on_lists op.Append x y = gives (of_list (x ++ y))
on_lists _ x y = fails fault.WrongType

-- an operator on two sets
abbrev pub on_sets : BinaryOp → List Tree → List Tree → Answer Tree
on_sets op.Append x y = gives (of_set (x ++ y))
on_sets op.Minus x y = gives (of_set (without y x))
on_sets _ x y = fails fault.WrongType

-- an operator on two maps: the right one's pairs win
abbrev pub on_maps : BinaryOp → List Tree → List Tree → Answer Tree
on_maps op.Append x y = gives (of_map (x ++ y))
on_maps _ x y = fails fault.WrongType

-- an operator that takes two values of one kind
abbrev pub on_kinds : BinaryOp → Seen → Seen → Answer Tree
on_kinds o (a_bool x) (a_bool y) = on_bools o x y
on_kinds o (an_int x) (an_int y) = on_ints o x y
on_kinds o (a_text x) (a_text y) = on_texts o x y
on_kinds o (some_bytes x) (some_bytes y) = on_bytes o x y
on_kinds o (a_list x) (a_list y) = on_lists o x y
on_kinds o (a_set x) (a_set y) = on_sets o x y
on_kinds o (a_map x) (a_map y) = on_maps o x y
on_kinds _ _ _ = fails fault.WrongType

-- an operator on any two values
unfoldable pub binary_answer : BinaryOp → Tree → Tree → Answer Tree
binary_answer op.Eq a b = holds (congruent a b)
binary_answer op.Ne a b = holds (not (congruent a b))
binary_answer o a b = on_kinds o (seen a) (seen b)

-- an operator on one value that is seen so
abbrev pub on_kind : UnaryOp → Seen → Answer Tree
on_kind unary_op.Not (a_bool x) = holds (not x)
on_kind unary_op.Neg (an_int x) = an_answer (neg_ℤ x)
on_kind _ _ = fails fault.WrongType

-- an operator on one value
unfoldable pub unary_answer : UnaryOp → Tree → Answer Tree
unary_answer o a = on_kind o (seen a)
