-- What a process, a name and a pattern of the program stand for: one level, in which each constituent is already the tree that it stands for, and the fold of it.
use Rattle.std.specs.Prelude.{ℕ, List, Option, option_map, string_bytes, map as each}
use Rattle.calculus.specs.Tree.{Label, par, row, bool, int, str, uri, bytes, fresh, list, tuple, set, dict, pair, send, receive, bind, match, case, bundle, unary, binary, method, pattern, rest, any, simple, same, both, either, not_this, list_pattern, set_pattern, map_pattern}
use Rattle.calculus.specs.Written.{in_process, in_pattern, around, use_process, use_name, drop, quote, declare, bind_process, bind_name, bind_rest, quote_pattern, closed, Written, bare_form, form_of_one, form_of_two, form_of_three, form_of}
use Rattle.calculus.specs.declared.plain.Ground.{Ground}
use Rattle.calculus.specs.declared.plain.Ground.TheVariants as ground
use Rattle.calculus.specs.declared.plain.Rest.{Rest}
use Rattle.calculus.specs.declared.plain.Rest.TheVariants as rests
use Rattle.calculus.specs.declared.plain.TermRest.TheVariants as term_rests
use Rattle.calculus.specs.declared.plain.Decl.{Decl}
use Rattle.calculus.specs.declared.process.Name.{Name, Name-F, fold-Name}
use Rattle.calculus.specs.declared.process.NamePat.{NamePat, NamePat-F, fold-NamePat}
use Rattle.calculus.specs.declared.process.Pat.{Pat, Pat-F, fold-Pat}
use Rattle.calculus.specs.declared.process.Proc.{Proc, Proc-F, fold-Proc}
use Rattle.calculus.specs.declared.process.Bind.{Bind, Bind-F, fold-Bind}
use Rattle.calculus.specs.declared.process.Case.{Case, Case-F, fold-Case}

-- the label of a ground value
abbrev pub ground_label : Ground → Label
ground_label (ground.Bool b) = bool b
ground_label (ground.Int z) = int z
ground_label (ground.Str s) = str (string_bytes s)
ground_label (ground.Uri s) = uri (string_bytes s)
ground_label (ground.Bytes bs) = bytes bs.items

-- a remainder
abbrev pub rest_written : Rest → Written
rest_written rests.No = bare_form (around (rest term_rests.No))
rest_written rests.Wild = bare_form (around (rest term_rests.Wild))
rest_written (rests.Var x) = bare_form (bind_rest (string_bytes x))

-- a declared name and its URI
abbrev pub declared : Decl → List ℕ × Option (List ℕ)
declared d = (string_bytes d.name, option_map string_bytes d.uri)

-- the constituents that stand in a list of their own
abbrev pub row_of : List Written → Written
row_of ts = form_of (around row) ts

-- a key and its value
abbrev pub pair_of : Written × Written → Written
pair_of p = form_of_two (around pair) p.0 p.1

-- one level of a process
abbrev pub proc_step : Proc-F Written Written Written Written Written Written → Written
proc_step (Proc-F.Proc::Par ps) = form_of (in_process par) ps.items
proc_step (Proc-F.Proc::Ground g) = bare_form (in_process (ground_label g))
proc_step (Proc-F.Proc::Var x) = bare_form (use_process (string_bytes x))
proc_step (Proc-F.Drop n) = form_of_one drop n
proc_step (Proc-F.Proc::List ps) = form_of (in_process list) ps.items
proc_step (Proc-F.Proc::Tuple ps) = form_of (in_process tuple) ps.items
proc_step (Proc-F.Proc::Set ps) = form_of (in_process set) ps.items
proc_step (Proc-F.Proc::Map ps) = form_of (in_process dict) (each pair_of ps.items)
proc_step (Proc-F.Proc::Send n ps q) = form_of_two (in_process (send q)) n (row_of ps.items)
proc_step (Proc-F.Receive k bs body) = form_of_two (in_process (receive k)) (row_of bs.items) body.value
proc_step (Proc-F.New ds body) = form_of_one (declare (each declared ds.items)) body.value
proc_step (Proc-F.Match t cs) = form_of_two (in_process match) t.value (row_of cs.items)
proc_step (Proc-F.Proc::Bundle r body) = form_of_one (in_process (bundle r)) body.value
proc_step (Proc-F.Unary o a) = form_of_one (in_process (unary o)) a.value
proc_step (Proc-F.Binary o a b) = form_of_two (in_process (binary o)) a.value b.value
proc_step (Proc-F.Method m t ps) = form_of_two (in_process (method (string_bytes m))) t.value (row_of ps.items)

-- one level of a name
abbrev pub name_step : Name-F Written Written Written Written Written Written → Written
name_step (Name-F.Name::Var x) = bare_form (use_name (string_bytes x))
name_step (Name-F.Fresh d) = bare_form (in_process (fresh d.0))
name_step (Name-F.Name::Quote p) = form_of_one quote p.value

-- one level of a pattern
abbrev pub pat_step : Pat-F Written Written Written Written Written Written → Written
pat_step (Pat-F.Pat::Par ps) = form_of (in_pattern pattern) ps.items
pat_step Pat-F.Pat::Wild = bare_form (in_pattern any)
pat_step (Pat-F.Pat::Var x) = bare_form (bind_process (string_bytes x))
pat_step (Pat-F.Simple k) = bare_form (in_pattern (simple k))
pat_step (Pat-F.Same p) = form_of_one (in_pattern same) p.value
pat_step (Pat-F.Pat::Ground g) = bare_form (in_pattern (ground_label g))
pat_step (Pat-F.Both a b) = form_of_two (in_pattern both) a.value b.value
pat_step (Pat-F.Either a b) = form_of_two (in_pattern either) a.value b.value
pat_step (Pat-F.Not a) = form_of_one (in_pattern not_this) a.value
pat_step (Pat-F.Pat::List ps r) = form_of_two (in_pattern list_pattern) (row_of ps.items) (rest_written r)
pat_step (Pat-F.Pat::Tuple ps) = form_of (in_pattern tuple) ps.items
pat_step (Pat-F.Pat::Set ps r) = form_of_two (in_pattern set_pattern) (row_of ps.items) (rest_written r)
pat_step (Pat-F.Pat::Map ps r) = form_of_two (in_pattern map_pattern) (row_of (each pair_of ps.items)) (rest_written r)
pat_step (Pat-F.Pat::Send n ps q) = form_of_two (in_pattern (send q)) n (row_of ps.items)
pat_step (Pat-F.Pat::Bundle r body) = form_of_one (in_pattern (bundle r)) body.value
pat_step (Pat-F.Closed p) = form_of_one closed p.value

-- one level of a name pattern
abbrev pub name_pat_step : NamePat-F Written Written Written Written Written Written → Written
name_pat_step NamePat-F.NamePat::Wild = bare_form (in_pattern any)
name_pat_step (NamePat-F.NamePat::Var x) = bare_form (bind_name (string_bytes x))
name_pat_step (NamePat-F.NamePat::Quote p) = form_of_one quote_pattern p.value

-- one level of a bind, whose channel stands first
abbrev pub bind_step : Bind-F Written Written Written Written Written Written → Written
bind_step b = form_of_three (around bind) b.channel (row_of b.pats.items) (rest_written b.rest)

-- one level of a case
abbrev pub case_step : Case-F Written Written Written Written Written Written → Written
case_step c = form_of_two (around case) c.pat c.body

-- what a process stands for
abbrev pub proc_written : Proc → Written
proc_written = fold-Proc Written Written Written Written Written Written name_step name_pat_step pat_step proc_step bind_step case_step

-- what a name stands for
abbrev pub name_written : Name → Written
name_written = fold-Name Written Written Written Written Written Written name_step name_pat_step pat_step proc_step bind_step case_step

-- what a pattern stands for
abbrev pub pat_written : Pat → Written
pat_written = fold-Pat Written Written Written Written Written Written name_step name_pat_step pat_step proc_step bind_step case_step

-- what a name pattern stands for
abbrev pub name_pat_written : NamePat → Written
name_pat_written = fold-NamePat Written Written Written Written Written Written name_step name_pat_step pat_step proc_step bind_step case_step

-- what a bind stands for
abbrev pub bind_written : Bind → Written
bind_written = fold-Bind Written Written Written Written Written Written name_step name_pat_step pat_step proc_step bind_step case_step

-- what a case stands for
abbrev pub case_written : Case → Written
case_written = fold-Case Written Written Written Written Written Written name_step name_pat_step pat_step proc_step bind_step case_step
