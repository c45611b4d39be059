-- The printed text of a process.
use Rattle.std.specs.Prelude.{ℕ, zero, suc, ◌+◌, ◌-◌, max, Bool, true, false, cond, eqb, List, [], ◌∷◌, ◌++◌, length, drop, map as each, flat_map, zip, ℤ, pos, negsuc, decimal, codes}
use Rattle.calculus.specs.declared.plain.Simple.{Simple}
use Rattle.calculus.specs.declared.plain.Simple.TheVariants as simples
use Rattle.calculus.specs.declared.plain.Kind.{Kind}
use Rattle.calculus.specs.declared.plain.Kind.TheVariants as kinds
use Rattle.calculus.specs.declared.plain.Rights.{Rights}
use Rattle.calculus.specs.declared.plain.Rights.TheVariants as rights
use Rattle.calculus.specs.declared.plain.UnaryOp.TheVariants as unary_op
use Rattle.calculus.specs.declared.plain.BinaryOp.{BinaryOp}
use Rattle.calculus.specs.declared.plain.BinaryOp.TheVariants as op
use Rattle.calculus.specs.declared.plain.TermRest.{TermRest}
use Rattle.calculus.specs.declared.plain.TermRest.TheVariants as rests
use Rattle.calculus.specs.declared.plain.Origin.{Origin}
use Rattle.calculus.specs.declared.plain.Origin.TheVariants as origins
use Rattle.calculus.specs.Tree.{Label, bool, int, str, uri, bytes, fresh, var, name_var, list, tuple, set, dict, send, receive, new, match, case, bundle, unary, binary, method, rest, any, some_process, some_name, simple, same, both, either, not_this, list_pattern, set_pattern, map_pattern, Tree, node, Trees, none, also}
use Rattle.calculus.specs.Shape.{count, held, listed, label_of, at}
use Rattle.calculus.specs.Variables.{bound, binders}
use Rattle.calculus.specs.Form.{Sort, term, part, a_bind, a_case, a_rest, pat, name_pat, row_of, pair_of, Kids, all, these, no_form, kids}
use Rattle.calculus.specs.Code.{codes as tree_codes}
use Rattle.calculus.specs.Normal.{arranged_by}
use Rattle.calculus.specs.Texts.{to_hex}

-- texts with this one between each two
abbrev pub separated : List ℕ → List (List ℕ) → List ℕ
separated s [] = []
separated s (x ∷ []) = x
separated s (x ∷ y ∷ ys) = x ++ (s ++ separated s (y ∷ ys))

-- texts with commas
abbrev pub with_commas : List (List ℕ) → List ℕ
with_commas xs = separated (codes ", ") xs

-- a text in braces, without spaces
abbrev pub braced : List ℕ → List ℕ
braced x = codes "{" ++ (x ++ codes "}")

-- a text in braces, with spaces
abbrev pub block : List ℕ → List ℕ
block x = codes "{ " ++ (x ++ codes " }")

-- a character of a string, escaped where it is a quote, a backslash, a line feed or a tab
abbrev pub escaped : ℕ → List ℕ
escaped c = cond (eqb c 0x22) (0x5C ∷ 0x22 ∷ []) (cond (eqb c 0x5C) (0x5C ∷ 0x5C ∷ []) (cond (eqb c 0x0A) (0x5C ∷ 0x6E ∷ []) (cond (eqb c 0x09) (0x5C ∷ 0x74 ∷ []) (c ∷ []))))

-- a number in decimal
abbrev pub int_text : ℤ → List ℕ
int_text (pos n) = decimal n
int_text (negsuc n) = 0x2D ∷ decimal (suc n)

-- a Bool
abbrev pub bool_text : Bool → List ℕ
bool_text true = codes "true"
bool_text false = codes "false"

-- the variable of this number, which counts the variables in scope before it
abbrev pub variable_text : ℕ → List ℕ
variable_text n = codes "v" ++ decimal n

-- the operators on two processes, with spaces
abbrev pub op_text : BinaryOp → List ℕ
op_text op.Or = codes " or "
op_text op.And = codes " and "
op_text op.Eq = codes " == "
op_text op.Ne = codes " != "
op_text op.Lt = codes " < "
op_text op.Le = codes " <= "
op_text op.Gt = codes " > "
op_text op.Ge = codes " >= "
op_text op.Add = codes " + "
op_text op.Sub = codes " - "
op_text op.Append = codes " ++ "
op_text op.Minus = codes " -- "
op_text op.Mul = codes " * "
op_text op.Div = codes " / "
op_text op.Rem = codes " % "

-- the words of bundles
abbrev pub rights_text : Rights → List ℕ
rights_text rights.Neither = codes "bundle0 "
rights_text rights.Write = codes "bundle+ "
rights_text rights.Read = codes "bundle- "
rights_text rights.Both = codes "bundle "

-- the words of simple types
abbrev pub simple_text : Simple → List ℕ
simple_text simples.Bool = codes "Bool"
simple_text simples.Int = codes "Int"
simple_text simples.Str = codes "String"
simple_text simples.Uri = codes "Uri"
simple_text simples.Bytes = codes "ByteArray"

-- the arrows of receives, with a space after
abbrev pub arrow_text : Kind → List ℕ
arrow_text kinds.Linear = codes "<- "
arrow_text kinds.Persistent = codes "<= "
arrow_text kinds.Peek = codes "<<- "

-- a fixed name's URI after its variable
abbrev pub uri_text : Origin → List ℕ
uri_text origins.Plain = []
uri_text origins.Stdout = codes "(`rho:io:stdout`)"
uri_text origins.StdoutAck = codes "(`rho:io:stdoutAck`)"

-- the names that a `new` declares, of which the first has this number
abbrev pub declared_texts : ℕ → List Origin → List (List ℕ)
declared_texts n [] = []
declared_texts n (o ∷ os) = (variable_text n ++ uri_text o) ∷ declared_texts (suc n) os

-- the exclamation marks of a send
abbrev pub marks : Bool → List ℕ
marks false = codes "!("
marks true = codes "!!("

-- the forms that need no braces as operands or in names: ground values, variables, collections, wildcards, simple types and ={P}
abbrev pub is_atom : Label → Bool
is_atom (bool x) = true
is_atom (int x) = true
is_atom (str x) = true
is_atom (uri x) = true
is_atom (bytes x) = true
is_atom (var i) = true
is_atom list = true
is_atom tuple = true
is_atom set = true
is_atom dict = true
is_atom any = true
is_atom some_process = true
is_atom (simple k) = true
is_atom same = true
is_atom list_pattern = true
is_atom set_pattern = true
is_atom map_pattern = true
is_atom _ = false

-- the text of these parts as an operand: in braces but for one part that is an atom
abbrev pub operand_text : List Tree → List ℕ → List ℕ
operand_text (t ∷ []) x = cond (is_atom (label_of t)) x (braced x)
operand_text _ x = braced x

-- whether a part is the drop of a name variable or of a fresh name
abbrev pub is_drop : Label → Bool
is_drop (name_var i) = true
is_drop (fresh x) = true
is_drop _ = false

-- the text of the name that these parts quote: a variable or a fresh name prints as its drop without the `*`
abbrev pub name_text : List Tree → List ℕ → List ℕ
name_text (t ∷ []) x = cond (is_drop (label_of t)) (drop 1 x) (codes "@" ++ operand_text (t ∷ []) x)
name_text ts x = codes "@" ++ operand_text ts x

-- whether a part of a pattern is a name pattern by itself: a name variable or the wildcard
abbrev pub is_bare_name : Label → Bool
is_bare_name some_name = true
is_bare_name any = true
is_bare_name _ = false

-- the text of the name pattern of these parts
abbrev pub name_pattern_text : List Tree → List ℕ → List ℕ
name_pattern_text (t ∷ []) x = cond (is_bare_name (label_of t)) x (codes "@" ++ operand_text (t ∷ []) x)
name_pattern_text ts x = codes "@" ++ operand_text ts x

-- what a constituent prints: a list or a bind prints more than one text, or none
abbrev pub Printed : Type 0
Printed = List (List ℕ)

-- all texts of constituent number i
abbrev pub texts_at : ℕ → List Printed → Printed
texts_at i [] = []
texts_at zero (x ∷ xs) = x
texts_at (suc i) (x ∷ xs) = texts_at i xs

-- the first of these texts, and no text where there is none
abbrev pub first_text : Printed → List ℕ
first_text [] = []
first_text (x ∷ xs) = x

-- the first text of constituent number i
abbrev pub text_at : ℕ → List Printed → List ℕ
text_at i xs = first_text (texts_at i xs)

-- the text of constituent number i as an operand
abbrev pub operand_at : ℕ → Trees → List Printed → List ℕ
operand_at i ts xs = operand_text (held (at i (listed ts))) (text_at i xs)

-- parts in parallel
abbrev pub parallel_text : List (List ℕ) → List ℕ
parallel_text [] = codes "Nil"
parallel_text xs = separated (codes " | ") xs

-- the texts of these trees in ascending order of the trees
abbrev pub in_order_of : Trees → List Printed → List (List ℕ)
in_order_of ts xs = each first_text (arranged_by (zip (tree_codes ts) xs))

-- a tuple's members
abbrev pub tuple_text : List (List ℕ) → List ℕ
tuple_text (x ∷ []) = x ++ codes ","
tuple_text xs = with_commas xs

-- members of a collection in a pattern, and its remainder, where it has one
abbrev pub with_rest : List (List ℕ) → Printed → List ℕ
with_rest xs [] = with_commas xs
with_rest [] (r ∷ rs) = codes "..." ++ r
with_rest xs (r ∷ rs) = with_commas xs ++ (codes " ..." ++ r)

-- a bind's left side and its channel, with the arrow between them
abbrev pub bind_text : Kind → List ℕ → List ℕ → List ℕ
bind_text k [] c = arrow_text k ++ c
bind_text k l c = l ++ (codes " " ++ (arrow_text k ++ c))

-- binds, each of which prints its left side and its channel
abbrev pub bind_texts : Kind → Printed → List (List ℕ)
bind_texts k (l ∷ c ∷ xs) = bind_text k l c ∷ bind_texts k xs
bind_texts k _ = []

-- the channel of a send, which is a name in a process and a name pattern in a pattern
abbrev pub channel_text : Sort → List Tree → List ℕ → List ℕ
channel_text part ts x = name_text ts x
channel_text _ ts x = x

-- the remainder of a pattern whose variable has this number
abbrev pub rest_text : TermRest → ℕ → Printed
rest_text rests.No n = []
rest_text rests.Var n = variable_text n ∷ []
rest_text rests.Wild n = codes "_" ∷ []

-- a part of this form of a process or a pattern, whose constituents print so, with d variables in scope outside, where the pattern's next variable has the number n
abbrev pub part_text : Sort → Label → Trees → ℕ → ℕ → List Printed → List ℕ
part_text s (bool b) ts d n xs = bool_text b
part_text s (int z) ts d n xs = int_text z
part_text s (str x) ts d n xs = codes "\"" ++ (flat_map escaped x ++ codes "\"")
part_text s (uri x) ts d n xs = codes "`" ++ (x ++ codes "`")
part_text s (bytes x) ts d n xs = codes "#" ++ to_hex x
part_text s (fresh x) ts d n xs = codes "*$" ++ to_hex x
part_text s (var i) ts d n xs = variable_text (d - (i + 1))
part_text s (name_var i) ts d n xs = codes "*" ++ variable_text (d - (i + 1))
part_text s list ts d n xs = codes "[" ++ (with_commas (each first_text xs) ++ codes "]")
part_text s tuple ts d n xs = codes "(" ++ (tuple_text (each first_text xs) ++ codes ")")
part_text s set ts d n xs = codes "Set(" ++ (with_commas (in_order_of ts xs) ++ codes ")")
part_text s dict ts d n xs = braced (with_commas (in_order_of ts xs))
part_text s (send q) ts d n xs = channel_text s (held (at 0 (listed ts))) (text_at 0 xs) ++ (marks q ++ (with_commas (texts_at 1 xs) ++ codes ")"))
part_text s (receive k) ts d n xs = codes "for (" ++ (separated (codes " & ") (bind_texts k (texts_at 0 xs)) ++ (codes ") " ++ block (text_at 1 xs)))
part_text s (new os) ts d n xs = codes "new " ++ (with_commas (declared_texts d os) ++ (codes " in " ++ block (text_at 0 xs)))
part_text s match ts d n xs = codes "match (" ++ (text_at 0 xs ++ (codes ") " ++ block (separated (codes " ") (texts_at 1 xs))))
part_text s (bundle r) ts d n xs = rights_text r ++ block (text_at 0 xs)
part_text s (unary unary_op.Not) ts d n xs = codes "(not " ++ (operand_at 0 ts xs ++ codes ")")
part_text s (unary unary_op.Neg) ts d n xs = codes "(-" ++ (braced (text_at 0 xs) ++ codes ")")
part_text s (binary o) ts d n xs = codes "(" ++ (operand_at 0 ts xs ++ (op_text o ++ (operand_at 1 ts xs ++ codes ")")))
part_text s (method m) ts d n xs = codes "(" ++ (operand_at 0 ts xs ++ (codes ")." ++ (m ++ (codes "(" ++ (with_commas (texts_at 1 xs) ++ codes ")")))))
part_text s any ts d n xs = codes "_"
part_text s some_process ts d n xs = variable_text n
part_text s some_name ts d n xs = variable_text n
part_text s (simple k) ts d n xs = simple_text k
part_text s same ts d n xs = codes "=" ++ braced (text_at 0 xs)
part_text s both ts d n xs = codes "(" ++ (operand_at 0 ts xs ++ (0x20 ∷ 0x2F ∷ 0x5C ∷ 0x20 ∷ (operand_at 1 ts xs ++ codes ")")))
part_text s either ts d n xs = codes "(" ++ (operand_at 0 ts xs ++ (0x20 ∷ 0x5C ∷ 0x2F ∷ 0x20 ∷ (operand_at 1 ts xs ++ codes ")")))
part_text s not_this ts d n xs = codes "~" ++ operand_at 0 ts xs
part_text s list_pattern ts d n xs = codes "[" ++ (with_rest (texts_at 0 xs) (texts_at 1 xs) ++ codes "]")
part_text s set_pattern ts d n xs = codes "Set(" ++ (with_rest (texts_at 0 xs) (texts_at 1 xs) ++ codes ")")
part_text s map_pattern ts d n xs = braced (with_rest (texts_at 0 xs) (texts_at 1 xs))
part_text s l ts d n xs = []

-- what a tree of this form prints where it is of this sort
abbrev pub form_printed : Sort → Label → Trees → ℕ → ℕ → List Printed → Printed
form_printed term l ts d n xs = parallel_text (in_order_of ts xs) ∷ []
form_printed pat l ts d n xs = parallel_text (each first_text xs) ∷ []
form_printed name_pat l ts d n xs = name_pattern_text (listed ts) (parallel_text (each first_text xs)) ∷ []
form_printed (row_of s) l ts d n xs = flat_map (λ x. x) xs
form_printed (pair_of s) l ts d n xs = (text_at 0 xs ++ (codes ": " ++ text_at 1 xs)) ∷ []
form_printed a_bind l ts d n xs = with_commas (texts_at 1 xs ++ each (λ r. codes "...@" ++ r) (texts_at 2 xs)) ∷ name_text (held (at 0 (listed ts))) (text_at 0 xs) ∷ []
form_printed a_case l ts d n xs = (codes "(" ++ (text_at 0 xs ++ (codes ") => " ++ block (text_at 1 xs)))) ∷ []
form_printed a_rest (rest r) ts d n xs = rest_text r n
form_printed s l ts d n xs = part_text s l ts d n xs ∷ []

-- the number of the first variable bound inside a form: a process in a pattern and the pattern of a case count from the scope outside the pattern, and all else goes on with the pattern's next number
abbrev pub first_number : Label → ℕ → ℕ → ℕ
first_number same d n = d
first_number (receive k) d n = d
first_number (new os) d n = d
first_number match d n = d
first_number case d n = d
first_number _ d n = n

abbrev mutual
  -- what a tree of this sort prints with d variables in scope, where the next variable of the pattern around it has the number n
  pub printed : Sort → Tree → ℕ → ℕ → Printed
  printed s (node l ts) d n = form_printed s l ts d n (all_printed (kids s l (count ts)) ts (length (binders l ts)) d (first_number l d n))

  -- what constituents print: each goes on with the numbers of those before it, and the last one stands under b more variables
  pub all_printed : Kids → Trees → ℕ → ℕ → ℕ → List Printed
  all_printed (all s) none b d n = []
  all_printed (all s) (also t ts) b d n = printed s t d n ∷ all_printed (all s) ts b d (n + length (bound t))
  all_printed (these []) ts b d n = []
  all_printed (these (s ∷ ss)) none b d n = []
  all_printed (these (s ∷ ss)) (also t none) b d n = printed s t (d + b) (max (d + b) n) ∷ []
  all_printed (these (s ∷ ss)) (also t (also u us)) b d n = printed s t d n ∷ all_printed (these ss) (also u us) b d (n + length (bound t))
  all_printed no_form ts b d n = []

-- the printed text of a closed process
unfoldable pub printed_text : Tree → List ℕ
printed_text t = first_text (printed term t 0 0)
