-- The written process that the printed text of a process spells.
use Rattle.std.specs.Prelude.{ℕ, suc, ◌+◌, ◌-◌, max, cond, List, [], ◌∷◌, length, zip, codes, Option, Some, None}
use Rattle.calculus.specs.declared.plain.TermRest.TheVariants as rests
use Rattle.calculus.specs.declared.plain.Origin.{Origin}
use Rattle.calculus.specs.declared.plain.Origin.TheVariants as origins
use Rattle.calculus.specs.Tree.{Label, bool, int, str, uri, bytes, fresh, var, name_var, list, tuple, set, dict, send, receive, new, match, case, bundle, rest, same, some_process, some_name, Tree, node, Trees, none, also}
use Rattle.calculus.specs.Shape.{count, held, listed, label_of, at}
use Rattle.calculus.specs.Variables.{bound, binders}
use Rattle.calculus.specs.Form.{Sort, term, part, a_bind, a_case, a_rest, pat, name_pat, pat_part, name_part, row_of, pair_of, Kids, all, these, no_form, kids}
use Rattle.calculus.specs.Code.{codes as tree_codes}
use Rattle.calculus.specs.Normal.{arranged_by}
use Rattle.calculus.specs.Written.{Form, in_process, in_pattern, around, declare, closed, Written, form, Writtens, no_more, more, writtens, bare_form, form_of_one, form_of}
use Rattle.calculus.specs.Printed.{variable_text, is_drop, is_bare_name, first_number}
use Rattle.grammar.specs.Values.{Side, processes, patterns, on, par_of, variable_of, name_of, bound_of, binder_of, fresh_of, quote_of, drop_of, no_rest, any_rest, rest_of, quoted_of}

-- the side of a part's sort
abbrev pub side : Sort → Side
side part = processes
side _ = patterns

-- what is dropped
abbrev pub dropped : Written → Written
dropped (form f (more t ts)) = t
dropped (form f no_more) = form f no_more

-- the name of a process of these parts: a variable or a fresh name is what its drop drops, all else is quoted
abbrev pub named : List Tree → Written → Written
named (t ∷ []) w = cond (is_drop (label_of t)) (dropped w) (quote_of w)
named ts w = quote_of w

-- the name pattern of these parts: a name variable and `_` are name patterns by themselves
abbrev pub name_pattern : List Tree → Written → Written
name_pattern (t ∷ []) w = cond (is_bare_name (label_of t)) w (quoted_of w)
name_pattern ts w = quoted_of w

-- the first of these as the name of a process of these parts
abbrev pub with_channel : List Tree → List Written → List Written
with_channel ts [] = []
with_channel ts (w ∷ ws) = named ts w ∷ ws

-- these in ascending order of the trees
abbrev pub in_order_of : Trees → List Written → List Written
in_order_of ts ws = arranged_by (zip (tree_codes ts) ws)

-- the URI of a fixed name
abbrev pub fixed_uri : Origin → Option (List ℕ)
fixed_uri origins.Plain = None
fixed_uri origins.Stdout = Some (codes "rho:io:stdout")
fixed_uri origins.StdoutAck = Some (codes "rho:io:stdoutAck")

-- the names that a `new` declares, of which the first has this number
abbrev pub declared_names : ℕ → List Origin → List (List ℕ × Option (List ℕ))
declared_names n [] = []
declared_names n (o ∷ os) = (variable_text n, fixed_uri o) ∷ declared_names (suc n) os

-- a form of processes, which is closed where it stands in a pattern
abbrev pub closed_on : Side → Written → Written
closed_on processes w = w
closed_on patterns w = form_of_one closed w

-- the constituents of a send: its channel is a process in a process, and a name pattern in a pattern
abbrev pub channel_on : Side → List Tree → List Written → List Written
channel_on processes ts ws = with_channel ts ws
channel_on patterns ts ws = ws

-- a part of this form on a side, of these constituents, with d variables in scope outside, where the pattern's next variable has the number n
abbrev pub part_of : Side → Label → Trees → ℕ → ℕ → List Written → Written
part_of s (fresh x) ts d n ws = drop_of (fresh_of x)
part_of s (var i) ts d n ws = variable_of (variable_text (d - (i + 1)))
part_of s (name_var i) ts d n ws = drop_of (name_of (variable_text (d - (i + 1))))
part_of patterns some_process ts d n ws = bound_of (variable_text n)
part_of patterns some_name ts d n ws = binder_of (variable_text n)
part_of s (send q) ts d n ws = form_of (on s (send q)) (channel_on s (held (at 0 (listed ts))) ws)
part_of s set ts d n ws = form_of (on s set) (in_order_of ts ws)
part_of s dict ts d n ws = form_of (on s dict) (in_order_of ts ws)
part_of s (receive k) ts d n ws = closed_on s (form_of (in_process (receive k)) ws)
part_of s (new os) ts d n ws = closed_on s (form_of (declare (declared_names d os)) ws)
part_of s match ts d n ws = closed_on s (form_of (in_process match) ws)
part_of s l ts d n ws = form_of (on s l) ws

-- a tree of this form where it is of this sort
abbrev pub form_written : Sort → Label → Trees → ℕ → ℕ → List Written → Written
form_written term l ts d n ws = par_of processes (in_order_of ts ws)
form_written pat l ts d n ws = par_of patterns ws
form_written name_pat l ts d n ws = name_pattern (listed ts) (par_of patterns ws)
form_written (row_of s) l ts d n ws = form_of (around l) ws
form_written (pair_of s) l ts d n ws = form_of (around l) ws
form_written a_bind l ts d n ws = form_of (around l) (with_channel (held (at 0 (listed ts))) ws)
form_written a_case l ts d n ws = form_of (around l) ws
form_written a_rest (rest rests.Var) ts d n ws = rest_of (variable_text n)
form_written a_rest l ts d n ws = bare_form (around l)
form_written s l ts d n ws = part_of (side s) l ts d n ws

abbrev mutual
  -- what the text of a tree of this sort spells with d variables in scope, where the next variable of the pattern around it has the number n
  pub written_as : Sort → Tree → ℕ → ℕ → Written
  written_as s (node l ts) d n = form_written s l ts d n (all_written (kids s l (count ts)) ts (length (binders l ts)) d (first_number l d n))

  -- what the texts of constituents spell: each goes on with the numbers of those before it, and the last one stands under b more variables
  pub all_written : Kids → Trees → ℕ → ℕ → ℕ → List Written
  all_written (all s) none b d n = []
  all_written (all s) (also t ts) b d n = written_as s t d n ∷ all_written (all s) ts b d (n + length (bound t))
  all_written (these []) ts b d n = []
  all_written (these (s ∷ ss)) none b d n = []
  all_written (these (s ∷ ss)) (also t none) b d n = written_as s t (d + b) (max (d + b) n) ∷ []
  all_written (these (s ∷ ss)) (also t (also u us)) b d n = written_as s t d n ∷ all_written (these ss) (also u us) b d (n + length (bound t))
  all_written no_form ts b d n = []

-- the written process that the printed text of a closed process spells
abbrev pub written : Tree → Written
written t = written_as term t 0 0
