-- Short words in which examples are written.
use Rattle.std.specs.Prelude.{ℕ, zero, suc, true, false, List, [], ◌∷◌, pos, neg_ℤ, unwrap_or, replicate, codes}
use Rattle.calculus.specs.declared.plain.Kind.TheVariants as kinds
use Rattle.calculus.specs.declared.plain.BinaryOp.{BinaryOp}
use Rattle.calculus.specs.declared.plain.TermRest.TheVariants as rests
use Rattle.calculus.specs.Tree.{par, row, bool, int, str, var, name_var, list, tuple, set, dict, pair, send, receive, bind, binary, method, pattern, rest, some_process, some_name, Tree, new}
use Rattle.calculus.specs.Shape.{leaf, two, three, many, only, process, one}
use Rattle.calculus.specs.Outcome.{Prices}
use Rattle.calculus.specs.Texts.{from_hex}
use Rattle.calculus.specs.Log.{Step}
use Rattle.calculus.specs.Written.{in_process, around, quote, bind_process, quote_pattern, Written, bare_form, form_of_one, form_of_two, form_of_three, form_of}
use Rattle.calculus.specs.declared.plain.Origin.TheVariants as origins
use Rattle.calculus.specs.declared.plain.Kind.{Kind}
use Rattle.calculus.specs.Rows.{Row}
use Rattle.calculus.specs.Steps.{Bag}

-- an Int as a part
abbrev pub whole : ℕ → Tree
whole n = leaf (int (pos n))

-- an Int below 0 as a part
abbrev pub less : ℕ → Tree
less n = leaf (int (neg_ℤ (pos n)))

-- an Int as a process
abbrev pub num : ℕ → Tree
num n = only (whole n)

-- an Int below 0 as a process
abbrev pub minus : ℕ → Tree
minus n = only (less n)

-- a String as a process
abbrev pub word : List ℕ → Tree
word s = only (leaf (str s))

-- `true` as a process
abbrev pub yes : Tree
yes = only (leaf (bool true))

-- `false` as a process
abbrev pub no : Tree
no = only (leaf (bool false))

-- `Nil`
abbrev pub nil : Tree
nil = leaf par

-- the process variable of this index
abbrev pub the_var : ℕ → Tree
the_var i = only (leaf (var i))

-- the name variable of this index
abbrev pub the_name : ℕ → Tree
the_name i = only (leaf (name_var i))

-- a list
abbrev pub list_of : List Tree → Tree
list_of ts = only (many list ts)

-- a tuple
abbrev pub tuple_of : List Tree → Tree
tuple_of ts = only (many tuple ts)

-- a set
abbrev pub set_of : List Tree → Tree
set_of ts = only (many set ts)

-- a map of these pairs
abbrev pub map_of : List Tree → Tree
map_of ps = only (many dict ps)

-- a pair of a map
abbrev pub entry : Tree → Tree → Tree
entry k v = two pair k v

-- an operator on two processes
abbrev pub op_on : BinaryOp → Tree → Tree → Tree
op_on o a b = only (two (binary o) a b)

-- a method of a target on arguments
abbrev pub call : List ℕ → Tree → List Tree → Tree
call m t xs = only (two (method m) t (many row xs))

-- a send as a part
abbrev pub sent : Tree → List Tree → Tree
sent c xs = two (send false) c (many row xs)

-- a linear receive as a part
abbrev pub heard : List Tree → Tree → Tree
heard bs body = two (receive kinds.Linear) (many row bs) body

-- a bind of these name patterns on this channel, without a remainder
abbrev pub on : Tree → List Tree → Tree
on c ps = three bind c (many row ps) (leaf (rest rests.No))

-- a pattern of one part
abbrev pub thin : Tree → Tree
thin p = many pattern (p ∷ [])

-- a pattern of these parts
abbrev pub parts : List Tree → Tree
parts ps = many pattern ps

-- a process variable of a pattern
abbrev pub a_var : Tree
a_var = thin (leaf some_process)

-- a name variable of a pattern
abbrev pub a_name : Tree
a_name = thin (leaf some_name)

-- the prices of the examples: 10 for a step, 3 for a send, 4 for a receive, 2 for a name, and 1 for a case and an operator
abbrev pub prices : Prices
prices = record { comm = 10; send = 3; receive = 4; name = 2; case = 1; op = 1; byte = 0 }

-- the bytes that hexadecimal digits spell
abbrev pub hex : List ℕ → List ℕ
hex s = unwrap_or (from_hex s) []

-- the root of the empty state
abbrev pub zeros : List ℕ
zeros = replicate 32 0

-- a step of this receiver with these data and this repeat number
abbrev pub step : List ℕ → List (List ℕ) → ℕ → Step
step r ds n = record { receiver = r; data_ids = ds; repeat = n }

-- this many sends inside one another around a process: `@Nil!(@Nil!(..))`
abbrev pub sends_around : ℕ → Tree → Tree
sends_around zero t = t
sends_around (suc n) t = only (sent nil (sends_around n t ∷ []))

-- an Int as it is written
abbrev pub written_int : ℕ → Written
written_int n = bare_form (in_process (int (pos n)))

-- `Nil`
abbrev pub written_nil : Written
written_nil = form_of (in_process par) []

-- a quoted Int
abbrev pub quoted : ℕ → Written
quoted n = form_of_one quote (written_int n)

-- a send of these arguments
abbrev pub written_send : Written → List Written → Written
written_send c xs = form_of_two (in_process (send false)) c (form_of (around row) xs)

-- a linear receive of these binds
abbrev pub written_receive : List Written → Written → Written
written_receive bs body = form_of_two (in_process (receive kinds.Linear)) (form_of (around row) bs) body

-- a bind of these name patterns on this channel
abbrev pub written_bind : Written → List Written → Written
written_bind c ps = form_of_three (around bind) c (form_of (around row) ps) (bare_form (around (rest rests.No)))

-- the name pattern `@x`
abbrev pub binds : List ℕ → Written
binds x = form_of_one quote_pattern (bare_form (bind_process x))

-- `1 | 2`
abbrev pub one_two : Tree
one_two = process (whole 1 ∷ whole 2 ∷ [])

-- `2 | 1`
abbrev pub two_one : Tree
two_one = process (whole 2 ∷ whole 1 ∷ [])

-- the source of the first path
abbrev pub first_path_source : Tree
first_path_source = only (one (new (origins.Plain ∷ [])) (process (sent (the_name 0) (num 5 ∷ []) ∷ heard (on (the_name 0) (a_var ∷ []) ∷ []) (only (sent (word (codes "out")) (the_var 0 ∷ []))) ∷ [])))

-- the digest of its text
abbrev pub first_path_digest : List ℕ
first_path_digest = hex (codes "49fb0c722e238b8ec04ff088db9b402ce250629ad1a9fb34b47751f3c8fcefcf")

-- its one step
abbrev pub first_path_step : Step
first_path_step = step (hex (codes "4635a4e937da233bb770ee40d025c55841f94e4ad89cbc2d263b44d0453c1843")) (hex (codes "7f23baccb68420097cb78b39b78f1cfddb354303d20f4cd69f8ac72398355d98") ∷ []) 0

-- a row of this id and part
abbrev pub row_of : List ℕ → Tree → Row
row_of x t = record { id = x; part = t }

-- a datum of one Int on the channel 1
abbrev pub datum : List ℕ → ℕ → Row
datum x n = row_of x (sent (num 1) (num n ∷ []))

-- a receiver of this kind of one datum on the channel 1
abbrev pub receiver : List ℕ → Kind → Row
receiver x k = row_of x (two (receive k) (many row (on (num 1) (a_var ∷ []) ∷ [])) nil)

-- a bag of a checkpoint's rows
abbrev pub bag : List Row → Bag
bag rs = record { kept = rs; offered = [] }

-- the prices of these examples: 1 for an operator or a method, and 1 for each byte of its operands' codes
abbrev pub op_prices : Prices
op_prices = record { comm = 1; send = 1; receive = 1; name = 1; case = 1; op = 1; byte = 1 }
