-- The terminals of the printed text of a process, form by form as the text is made.
use Rattle.std.specs.Prelude.{ℕ, zero, suc, ◌+◌, ◌-◌, max, Bool, true, false, cond, List, [], ◌∷◌, ◌++◌, length, drop, map as each, flat_map, zip, ℤ, pos, negsuc, Option, Some, None}
use Rattle.calculus.specs.declared.plain.TermRest.{TermRest}
use Rattle.calculus.specs.declared.plain.TermRest.TheVariants as rests
use Rattle.calculus.specs.declared.plain.Kind.{Kind}
use Rattle.calculus.specs.declared.plain.Origin.{Origin}
use Rattle.calculus.specs.declared.plain.UnaryOp.TheVariants as unary_op
use Rattle.calculus.specs.declared.plain.BinaryOp.{BinaryOp}
use Rattle.calculus.specs.declared.plain.BinaryOp.TheVariants as op
use Rattle.calculus.specs.Tree.{Label, bool, int, str, uri, bytes, fresh, var, name_var, list, tuple, set, dict, send, receive, new, match, bundle, unary, binary, method, rest, any, some_process, some_name, simple, same, both, either, not_this, list_pattern, set_pattern, map_pattern, Tree, node, Trees, none, also}
use Rattle.calculus.specs.Shape.{count, held, listed, label_of, at}
use Rattle.calculus.specs.Variables.{bound, binders}
use Rattle.calculus.specs.Form.{Sort, term, part, a_bind, a_case, a_rest, pat, name_pat, row_of, pair_of, Kids, all, these, no_form, kids}
use Rattle.calculus.specs.Code.{codes as tree_codes}
use Rattle.calculus.specs.Normal.{arranged_by}
use Rattle.calculus.specs.Printed.{variable_text, is_atom, is_drop, is_bare_name, first_number}
use Rattle.grammar.specs.declared.mark.Mark.{Mark}
use Rattle.grammar.specs.declared.mark.Mark.TheVariants as marks
use Rattle.grammar.specs.Grammar.{bang, bundle_mark, arrow_mark, type_mark}
use Rattle.grammar.specs.Terminals.{Terminal, text, number, mark, a_word, a_string, a_uri, a_fresh_name, a_byte_array}
use Rattle.printed_spelling.specs.Spelled.{fixed_uri}

-- the terminals of a piece of text, with those that follow it behind them
abbrev pub Piece : Type 0
Piece = List Terminal → List Terminal

-- no text
abbrev pub nothing : Piece
nothing r = r

-- a key or a sign
abbrev pub marked : Mark → Piece
marked m r = mark m ∷ r

-- a word
abbrev pub worded : List ℕ → Piece
worded w r = text a_word w ∷ r

-- the variable of this number
abbrev pub variable : ℕ → Piece
variable n = worded (variable_text n)

-- a piece between these marks
abbrev pub within : Mark → Mark → Piece → Piece
within m k p r = mark m ∷ p (mark k ∷ r)

-- a piece in braces
abbrev pub braced : Piece → Piece
braced p = within marks.OpenBrace marks.CloseBrace p

-- a piece in parentheses
abbrev pub grouped : Piece → Piece
grouped p = within marks.Open marks.Close p

-- pieces with this one before each
abbrev pub followed : Piece → List Piece → Piece
followed s [] r = r
followed s (p ∷ ps) r = s (p (followed s ps r))

-- pieces with this one between each two
abbrev pub parted : Piece → List Piece → Piece
parted s [] r = r
parted s (p ∷ ps) r = p (followed s ps r)

-- pieces with commas
abbrev pub with_commas : List Piece → Piece
with_commas ps = parted (marked marks.Comma) ps

-- a Bool
abbrev pub bool_mark : Bool → Mark
bool_mark true = marks.True
bool_mark false = marks.False

-- an Int
abbrev pub int_piece : ℤ → Piece
int_piece (pos n) r = number n ∷ r
int_piece (negsuc n) r = mark marks.Minus ∷ number (suc n) ∷ r

-- the operators on two processes
abbrev pub op_mark : BinaryOp → Mark
op_mark op.Or = marks.Or
op_mark op.And = marks.And
op_mark op.Eq = marks.Equal
op_mark op.Ne = marks.Unequal
op_mark op.Lt = marks.Less
op_mark op.Le = marks.LessEqual
op_mark op.Gt = marks.Greater
op_mark op.Ge = marks.GreaterEqual
op_mark op.Add = marks.Plus
op_mark op.Sub = marks.Minus
op_mark op.Append = marks.DoublePlus
op_mark op.Minus = marks.DoubleMinus
op_mark op.Mul = marks.Star
op_mark op.Div = marks.Slash
op_mark op.Rem = marks.Percent

-- a URI in parentheses, or nothing
abbrev pub uri_piece : Option (List ℕ) → Piece
uri_piece None r = r
uri_piece (Some u) r = mark marks.Open ∷ text a_uri u ∷ mark marks.Close ∷ r

-- the names that a `new` declares, of which the first has this number
abbrev pub declared_pieces : ℕ → List Origin → List Piece
declared_pieces n [] = []
declared_pieces n (o ∷ os) = (λ r. text a_word (variable_text n) ∷ uri_piece (fixed_uri o) r) ∷ declared_pieces (suc n) os

-- these parts as an operand: in braces but for one part that is an atom
abbrev pub operand_piece : List Tree → Piece → Piece
operand_piece (t ∷ []) p = cond (is_atom (label_of t)) p (braced p)
operand_piece _ p = braced p

-- the name that these parts quote: a variable or a fresh name is its drop without the `*`
abbrev pub name_piece : List Tree → Piece → Piece
name_piece (t ∷ []) p = cond (is_drop (label_of t)) (λ r. drop 1 (p r)) (λ r. mark marks.At ∷ operand_piece (t ∷ []) p r)
name_piece ts p = λ r. mark marks.At ∷ operand_piece ts p r

-- the name pattern of these parts
abbrev pub name_pattern_piece : List Tree → Piece → Piece
name_pattern_piece (t ∷ []) p = cond (is_bare_name (label_of t)) p (λ r. mark marks.At ∷ operand_piece (t ∷ []) p r)
name_pattern_piece ts p = λ r. mark marks.At ∷ operand_piece ts p r

-- all pieces of constituent number i
abbrev pub pieces_at : ℕ → List (List Piece) → List Piece
pieces_at i [] = []
pieces_at zero (x ∷ xs) = x
pieces_at (suc i) (x ∷ xs) = pieces_at i xs

-- the first of these pieces, and no text where there is none
abbrev pub first_piece : List Piece → Piece
first_piece [] = nothing
first_piece (p ∷ ps) = p

-- the first piece of constituent number i
abbrev pub piece_at : ℕ → List (List Piece) → Piece
piece_at i xs = first_piece (pieces_at i xs)

-- constituent number i as an operand
abbrev pub operand_at : ℕ → Trees → List (List Piece) → Piece
operand_at i ts xs = operand_piece (held (at i (listed ts))) (piece_at i xs)

-- parts in parallel
abbrev pub parallel_piece : List Piece → Piece
parallel_piece [] = marked marks.Nil
parallel_piece (p ∷ ps) = parted (marked marks.Bar) (p ∷ ps)

-- the pieces of these trees in ascending order of the trees
abbrev pub in_order_of : Trees → List (List Piece) → List Piece
in_order_of ts xs = each first_piece (arranged_by (zip (tree_codes ts) xs))

-- a tuple's members
abbrev pub tuple_piece : List Piece → Piece
tuple_piece (p ∷ []) r = p (mark marks.Comma ∷ r)
tuple_piece ps r = with_commas ps r

-- members of a collection in a pattern, and its remainder, where it has one
abbrev pub with_rest : List Piece → List Piece → Piece
with_rest ps [] r = with_commas ps r
with_rest ps (q ∷ qs) r = with_commas ps (mark marks.Ellipsis ∷ q r)

-- binds, each of which has a piece for its left side and one for its channel
abbrev pub bind_pieces : Kind → List Piece → List Piece
bind_pieces k (l ∷ c ∷ ps) = (λ r. l (mark (arrow_mark k) ∷ c r)) ∷ bind_pieces k ps
bind_pieces k _ = []

-- the channel of a send, which is a name in a process and a name pattern in a pattern
abbrev pub channel_piece : Sort → List Tree → Piece → Piece
channel_piece part ts p = name_piece ts p
channel_piece _ ts p = p

-- the remainder of a pattern whose variable has this number
abbrev pub rest_pieces : TermRest → ℕ → List Piece
rest_pieces rests.No n = []
rest_pieces rests.Var n = variable n ∷ []
rest_pieces rests.Wild n = marked marks.Underscore ∷ []

-- a part of this form of a process or a pattern, whose constituents have these pieces, with d variables in scope outside, where the pattern's next variable has the number n
abbrev pub part_piece : Sort → Label → Trees → ℕ → ℕ → List (List Piece) → Piece
part_piece s (bool b) ts d n xs = marked (bool_mark b)
part_piece s (int z) ts d n xs = int_piece z
part_piece s (str x) ts d n xs = λ r. text a_string x ∷ r
part_piece s (uri x) ts d n xs = λ r. text a_uri x ∷ r
part_piece s (bytes x) ts d n xs = λ r. text a_byte_array x ∷ r
part_piece s (fresh x) ts d n xs = λ r. mark marks.Star ∷ text a_fresh_name x ∷ r
part_piece s (var i) ts d n xs = variable (d - (i + 1))
part_piece s (name_var i) ts d n xs = λ r. mark marks.Star ∷ variable (d - (i + 1)) r
part_piece s list ts d n xs = within marks.OpenSquare marks.CloseSquare (with_commas (each first_piece xs))
part_piece s tuple ts d n xs = grouped (tuple_piece (each first_piece xs))
part_piece s set ts d n xs = λ r. mark marks.Set ∷ grouped (with_commas (in_order_of ts xs)) r
part_piece s dict ts d n xs = braced (with_commas (in_order_of ts xs))
part_piece s (send q) ts d n xs = λ r. channel_piece s (held (at 0 (listed ts))) (piece_at 0 xs) (mark (bang q) ∷ grouped (with_commas (pieces_at 1 xs)) r)
part_piece s (receive k) ts d n xs = λ r. mark marks.For ∷ grouped (parted (marked marks.Ampersand) (bind_pieces k (pieces_at 0 xs))) (braced (piece_at 1 xs) r)
part_piece s (new os) ts d n xs = λ r. mark marks.New ∷ with_commas (declared_pieces d os) (mark marks.In ∷ braced (piece_at 0 xs) r)
part_piece s match ts d n xs = λ r. mark marks.Match ∷ grouped (piece_at 0 xs) (braced (parted nothing (pieces_at 1 xs)) r)
part_piece s (bundle k) ts d n xs = λ r. mark (bundle_mark k) ∷ braced (piece_at 0 xs) r
part_piece s (unary unary_op.Not) ts d n xs = grouped (λ r. mark marks.Not ∷ operand_at 0 ts xs r)
part_piece s (unary unary_op.Neg) ts d n xs = grouped (λ r. mark marks.Minus ∷ braced (piece_at 0 xs) r)
part_piece s (binary o) ts d n xs = grouped (λ r. operand_at 0 ts xs (mark (op_mark o) ∷ operand_at 1 ts xs r))
part_piece s (method m) ts d n xs = λ r. grouped (operand_at 0 ts xs) (mark marks.Dot ∷ text a_word m ∷ grouped (with_commas (pieces_at 1 xs)) r)
part_piece s any ts d n xs = marked marks.Underscore
part_piece s some_process ts d n xs = variable n
part_piece s some_name ts d n xs = variable n
part_piece s (simple k) ts d n xs = marked (type_mark k)
part_piece s same ts d n xs = λ r. mark marks.Assign ∷ braced (piece_at 0 xs) r
part_piece s both ts d n xs = grouped (λ r. operand_at 0 ts xs (mark marks.Both ∷ operand_at 1 ts xs r))
part_piece s either ts d n xs = grouped (λ r. operand_at 0 ts xs (mark marks.Either ∷ operand_at 1 ts xs r))
part_piece s not_this ts d n xs = λ r. mark marks.Tilde ∷ operand_at 0 ts xs r
part_piece s list_pattern ts d n xs = within marks.OpenSquare marks.CloseSquare (with_rest (pieces_at 0 xs) (pieces_at 1 xs))
part_piece s set_pattern ts d n xs = λ r. mark marks.Set ∷ grouped (with_rest (pieces_at 0 xs) (pieces_at 1 xs)) r
part_piece s map_pattern ts d n xs = braced (with_rest (pieces_at 0 xs) (pieces_at 1 xs))
part_piece s l ts d n xs = nothing

-- the pieces of a tree of this form where it is of this sort
abbrev pub form_pieces : Sort → Label → Trees → ℕ → ℕ → List (List Piece) → List Piece
form_pieces term l ts d n xs = parallel_piece (in_order_of ts xs) ∷ []
form_pieces pat l ts d n xs = parallel_piece (each first_piece xs) ∷ []
form_pieces name_pat l ts d n xs = name_pattern_piece (listed ts) (parallel_piece (each first_piece xs)) ∷ []
form_pieces (row_of s) l ts d n xs = flat_map (λ x. x) xs
form_pieces (pair_of s) l ts d n xs = (λ r. piece_at 0 xs (mark marks.Colon ∷ piece_at 1 xs r)) ∷ []
form_pieces a_bind l ts d n xs = with_commas (pieces_at 1 xs ++ each (λ p r. mark marks.Ellipsis ∷ mark marks.At ∷ p r) (pieces_at 2 xs)) ∷ name_piece (held (at 0 (listed ts))) (piece_at 0 xs) ∷ []
form_pieces a_case l ts d n xs = (λ r. grouped (piece_at 0 xs) (mark marks.FatArrow ∷ braced (piece_at 1 xs) r)) ∷ []
form_pieces a_rest (rest k) ts d n xs = rest_pieces k n
form_pieces s l ts d n xs = part_piece s l ts d n xs ∷ []

abbrev mutual
  -- the pieces of a tree of this sort with d variables in scope, where the next variable of the pattern around it has the number n
  pub pieces : Sort → Tree → ℕ → ℕ → List Piece
  pieces s (node l ts) d n = form_pieces s l ts d n (all_pieces (kids s l (count ts)) ts (length (binders l ts)) d (first_number l d n))

  -- those of constituents: each goes on with the numbers of those before it, and the last one stands under b more variables
  pub all_pieces : Kids → Trees → ℕ → ℕ → ℕ → List (List Piece)
  all_pieces (all s) none b d n = []
  all_pieces (all s) (also t ts) b d n = pieces s t d n ∷ all_pieces (all s) ts b d (n + length (bound t))
  all_pieces (these []) ts b d n = []
  all_pieces (these (s ∷ ss)) none b d n = []
  all_pieces (these (s ∷ ss)) (also t none) b d n = pieces s t (d + b) (max (d + b) n) ∷ []
  all_pieces (these (s ∷ ss)) (also t (also u us)) b d n = pieces s t d n ∷ all_pieces (these ss) (also u us) b d (n + length (bound t))
  all_pieces no_form ts b d n = []

-- the terminals of the printed text of a closed process, and the end
abbrev pub printed_terminals : Tree → List Terminal
printed_terminals t = first_piece (pieces term t 0 0) (mark marks.End ∷ [])
