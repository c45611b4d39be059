-- What the productions make of their constituents.
use Rattle.std.specs.Prelude.{ℕ, ◌+◌, max, Bool, true, false, List, [], ◌∷◌, Option}
use Rattle.calculus.specs.Tree.{Label, par, bool, fresh, list, tuple, set, dict, send, receive, bind, match, case, bundle, unary, binary, method, pattern, rest, any, simple, same, both, either, not_this, list_pattern, set_pattern, map_pattern}
use Rattle.calculus.specs.Written.{Form, in_process, in_pattern, around, use_process, use_name, drop, quote, declare, bind_process, bind_name, bind_rest, quote_pattern, closed, Written, form, more, bare_form, form_of_one, form_of_two, form_of}
use Rattle.calculus.specs.Meaning.{row_of}
use Rattle.calculus.specs.declared.plain.Simple.{Simple}
use Rattle.calculus.specs.declared.plain.Kind.{Kind}
use Rattle.calculus.specs.declared.plain.Kind.TheVariants as kinds
use Rattle.calculus.specs.declared.plain.Rights.{Rights}
use Rattle.calculus.specs.declared.plain.UnaryOp.{UnaryOp}
use Rattle.calculus.specs.declared.plain.BinaryOp.{BinaryOp}
use Rattle.calculus.specs.declared.plain.TermRest.TheVariants as rests

-- what is spelt, and the height of its text
pub record Spelt : Type 0 where
  pub tree : Written
  pub height : ℕ

-- a tree whose text has this height
abbrev pub spelt : Written → ℕ → Spelt
spelt t h = record { tree = t; height = h }

-- a leaf
abbrev pub leaf : Written → Spelt
leaf t = spelt t 0

-- a form whose constituents have at most this height, the greatest of them this one
abbrev pub opened : Written → ℕ → Spelt
opened t h = spelt t (h + 1)

-- whether a process or a pattern is meant
pub data Side : Type 0 where
  processes : Side
  patterns : Side

-- the form of a label on a side
abbrev pub on : Side → Label → Form
on processes l = in_process l
on patterns l = in_pattern l

-- the label of parts in parallel
abbrev pub parts_label : Side → Label
parts_label processes = par
parts_label patterns = pattern

-- the constituents of a tree under another form
abbrev pub with_form : Form → Written → Written
with_form f (form g ts) = form f ts

-- a tree with one more constituent in front
abbrev pub with_first : Written → Written → Written
with_first t (form f ts) = form f (more t ts)

-- parts in parallel: one part is itself
abbrev pub par_of : Side → List Written → Written
par_of side [] = form_of (on side (parts_label side)) []
par_of side (p ∷ []) = p
par_of side (p ∷ q ∷ ps) = form_of (on side (parts_label side)) (p ∷ q ∷ ps)

-- `Nil`
abbrev pub nil : Written
nil = par_of processes []

-- the pattern `Nil`
abbrev pub no_parts : Written
no_parts = par_of patterns []

-- a ground value
abbrev pub ground_of : Side → Label → Written
ground_of side l = bare_form (on side l)

-- a variable as a process, as a name, and bound in a pattern as a process or as a name
abbrev pub variable_of : List ℕ → Written
variable_of w = bare_form (use_process w)

-- a variable as a name
abbrev pub name_of : List ℕ → Written
name_of w = bare_form (use_name w)

-- a variable of a pattern that stands for a process
abbrev pub bound_of : List ℕ → Written
bound_of w = bare_form (bind_process w)

-- a variable of a pattern that stands for a name
abbrev pub binder_of : List ℕ → Written
binder_of w = bare_form (bind_name w)

-- a fresh name
abbrev pub fresh_of : List ℕ → Written
fresh_of d = bare_form (in_process (fresh d))

-- a quoted process
abbrev pub quote_of : Written → Written
quote_of p = form_of_one quote p

-- the process that a name quotes
abbrev pub drop_of : Written → Written
drop_of n = form_of_one drop n

-- a `new`
abbrev pub new_of : List (List ℕ × Option (List ℕ)) → Written → Written
new_of ds p = form_of_one (declare ds) p

-- a case of a pattern and a body
abbrev pub case_of : Written → Written → Written
case_of p b = form_of_two (around case) p b

-- a `match` of a target and cases
abbrev pub match_of : Written → List Written → Written
match_of t cs = form_of_two (in_process match) t (row_of cs)

-- `if (e) p else q`, which is the `match` of e whose cases are `true` with p and `false` with q
abbrev pub if_of : Written → Written → Written → Written
if_of e p q = match_of e (case_of (ground_of patterns (bool true)) p ∷ case_of (ground_of patterns (bool false)) q ∷ [])

-- a receive
abbrev pub receive_of : Kind → List Written → Written → Written
receive_of k bs p = form_of_two (in_process (receive k)) (row_of bs) p

-- `contract n(l) = p`, which is the persistent receive of l on n
abbrev pub contract_of : Written → Written → Written → Written
contract_of n l p = receive_of kinds.Persistent (with_first n l ∷ []) p

-- the patterns of a bind and their remainder: a bind that has no channel yet
abbrev pub left_of : List Written → ℕ → Written → Spelt
left_of ps h r = spelt (form_of_two (around bind) (row_of ps) r) h

-- a bind of these patterns on this channel, which stands first
abbrev pub bind_of : Spelt → Spelt → Spelt
bind_of l n = spelt (with_first n.tree l.tree) (max l.height n.height)

-- no remainder
abbrev pub no_rest : Written
no_rest = bare_form (around (rest rests.No))

-- any remainder
abbrev pub any_rest : Written
any_rest = bare_form (around (rest rests.Wild))

-- a remainder that a variable stands for
abbrev pub rest_of : List ℕ → Written
rest_of w = bare_form (bind_rest w)

-- a send on a channel
abbrev pub send_of : Side → Bool → Written → Written → Written
send_of side persistent n row = form_of_two (on side (send persistent)) n row

-- a bundle
abbrev pub bundle_of : Side → Rights → Written → Written
bundle_of side r p = form_of_one (on side (bundle r)) p

-- an operator between two operands
abbrev pub operation : BinaryOp → Spelt → Spelt → Spelt
operation o a b = opened (form_of_two (in_process (binary o)) a.tree b.tree) (max a.height b.height)

-- an operator before its operand
abbrev pub unary_of : UnaryOp → Written → Written
unary_of o a = form_of_one (in_process (unary o)) a

-- a method call
abbrev pub method_of : List ℕ → Written → Written → Written
method_of w a row = form_of_two (in_process (method w)) a row

-- a list of the members of a row
abbrev pub list_of : Written → Written
list_of row = with_form (in_process list) row

-- a set of the members of a row
abbrev pub set_of : Written → Written
set_of row = with_form (in_process set) row

-- a tuple of a first member and the members of a row
abbrev pub tuple_of : Side → Written → Written → Written
tuple_of side p row = with_form (on side tuple) (with_first p row)

-- a map of pairs
abbrev pub map_of : List Written → Written
map_of ps = form_of (in_process dict) ps

-- a closed form in a pattern, which has the height of the form that it holds
abbrev pub closed_of : Spelt → Spelt
closed_of a = spelt (form_of_one closed a.tree) a.height

-- `_`
abbrev pub any_of : Written
any_of = bare_form (in_pattern any)

-- a quoted pattern
abbrev pub quoted_of : Written → Written
quoted_of p = form_of_one quote_pattern p

-- p \/ q
abbrev pub either_of : Written → Written → Written
either_of p q = form_of_two (in_pattern either) p q

-- p /\ q
abbrev pub both_of : Written → Written → Written
both_of p q = form_of_two (in_pattern both) p q

-- ~p
abbrev pub not_of : Written → Written
not_of p = form_of_one (in_pattern not_this) p

-- a simple type
abbrev pub type_of : Simple → Written
type_of x = bare_form (in_pattern (simple x))

-- ={p}
abbrev pub same_of : Written → Written
same_of p = form_of_one (in_pattern same) p

-- the members of a list or a set of patterns, and their remainder
abbrev pub seq_of : List Written → ℕ → Written → Spelt
seq_of ps h r = spelt (form_of_two (around pattern) (row_of ps) r) h

-- a list of the members of a sequence
abbrev pub list_pattern_of : Written → Written
list_pattern_of s = with_form (in_pattern list_pattern) s

-- a set of the members of a sequence
abbrev pub set_pattern_of : Written → Written
set_pattern_of s = with_form (in_pattern set_pattern) s

-- a map of pairs of patterns, and its remainder
abbrev pub map_pattern_of : List Written → Written → Written
map_pattern_of ps r = form_of_two (in_pattern map_pattern) (row_of ps) r
