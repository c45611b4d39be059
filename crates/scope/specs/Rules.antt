-- The rules of scope, and which of them written text breaks.
use Rattle.std.specs.Prelude.{ℕ, ◌+◌, Bool, true, false, leb, not, ◌||◌, cond, List, [], ◌∷◌, ◌++◌, count_by, codes, Option, Some, None}
use Rattle.std.specs.Str.{bytes_eq}
use Rattle.calculus.specs.Tree.{receive, case, bind, bundle, pattern, same, either, not_this, set_pattern, map_pattern}
use Rattle.calculus.specs.Written.{Form, in_process, in_pattern, around, use_process, use_name, declare, bind_process, bind_name, bind_rest, closed, Written, form, Writtens, no_more, more}
use Rattle.calculus.specs.Variables.{Sense, a_process, a_name, is_wide}
use Rattle.scope.specs.Binding.{Scope, sense_of, is_absent, variables, declared_variables, inside, any_uses_more}

-- a broken rule, with the name or the URI that it speaks of
pub data Broken : Type 0 where
  unbound : List ℕ → Broken
  wants_name : List ℕ → Broken
  wants_process : List ℕ → Broken
  repeated : List ℕ → Broken
  pattern_binder : Broken
  pattern_wide : Broken
  under_negation : List ℕ → Broken
  unknown_uri : List ℕ → Broken

-- this broken rule where a test holds, and else none
abbrev pub where_so : Bool → Broken → List Broken
where_so b r = cond b (r ∷ []) []

-- what a name breaks in a place for a process, by what it stands for
abbrev pub process_use : List ℕ → Option Sense → List Broken
process_use x None = unbound x ∷ []
process_use x (Some a_process) = []
process_use x (Some a_name) = wants_process x ∷ []

-- what a name breaks in a place for a name
abbrev pub name_use : List ℕ → Option Sense → List Broken
name_use x None = unbound x ∷ []
name_use x (Some a_process) = wants_name x ∷ []
name_use x (Some a_name) = []

-- where in the reading of patterns a constituent stands: in none, or after these variables of the same receive or case, the last one first, and under `~`, under `\/` or in a bundle or not
pub data Reading : Type 0 where
  outside : Reading
  after : Scope → Bool → Reading

-- the place after a constituent
abbrev pub past : Written → Reading → Reading
past t outside = outside
past t (after seen negated) = after (inside (variables t) seen) negated

-- the place under `~`, under `\/` or in a bundle
abbrev pub under : Reading → Reading
under outside = outside
under (after seen negated) = after seen true

-- what the binding of a name in a pattern breaks
abbrev pub new_variable : List ℕ → Reading → List Broken
new_variable x outside = []
new_variable x (after seen true) = under_negation x ∷ []
new_variable x (after seen false) = where_so (not (is_absent (sense_of x seen))) (repeated x)

-- whether a URI is that of a fixed name
abbrev pub is_known : List ℕ → Bool
is_known u = bytes_eq u (codes "rho:io:stdout") || bytes_eq u (codes "rho:io:stdoutAck")

-- what a declared URI breaks
abbrev pub uri_use : Option (List ℕ) → List Broken
uri_use None = []
uri_use (Some u) = where_so (not (is_known u)) (unknown_uri u)

-- what a declaration breaks after these: a name that stands twice is not looked at further
abbrev pub declaration : List ℕ × Option (List ℕ) → Scope → List Broken
declaration d seen = cond (is_absent (sense_of d.0 seen)) (uri_use d.1) (repeated d.0 ∷ [])

-- what the declarations of a `new` break after these
abbrev pub declarations : List (List ℕ × Option (List ℕ)) → Scope → List Broken
declarations [] seen = []
declarations (d ∷ ds) seen = declaration d seen ++ declarations ds ((d.0, a_name) ∷ seen)

-- whether a form of a pattern takes all parts that are left
abbrev pub is_wide_form : Form → Bool
is_wide_form (in_pattern l) = is_wide l
is_wide_form (bind_process x) = true
is_wide_form (bind_name x) = true
is_wide_form _ = false

-- the same of a pattern
abbrev pub is_wide_part : Written → Bool
is_wide_part (form f ts) = is_wide_form f

abbrev mutual
  -- the parts of a pattern: parallel patterns in parallel patterns are flattened
  pub parts_of : Written → List Written
  parts_of (form (in_pattern pattern) ts) = all_parts_of ts
  parts_of (form f ts) = form f ts ∷ []

  -- the parts of these
  pub all_parts_of : Writtens → List Written
  all_parts_of no_more = []
  all_parts_of (more t ts) = parts_of t ++ all_parts_of ts

-- whether a parallel pattern has more than one wide part or more than 8 thin ones
abbrev pub has_many_parts : List Written → Bool
has_many_parts ps = leb 2 (count_by is_wide_part ps) || leb 9 (count_by (λ p. not (is_wide_part p)) ps)

-- the number of these
abbrev pub how_many : Writtens → ℕ
how_many no_more = 0
how_many (more t ts) = how_many ts + 1

-- whether there are more than 8 members
abbrev pub has_many_members : Written → Bool
has_many_members (form f ts) = leb 9 (how_many ts)

abbrev mutual
  -- the rules that written text in this scope and at this place breaks, in reading order
  pub breaks : Written → Scope → Reading → List Broken
  breaks (form (use_process x) ts) v r = process_use x (sense_of x v)
  breaks (form (use_name x) ts) v r = name_use x (sense_of x v)
  breaks (form (bind_process x) ts) v r = new_variable x r
  breaks (form (bind_name x) ts) v r = new_variable x r
  breaks (form (bind_rest x) ts) v r = new_variable x r
  breaks (form (declare ds) ts) v r = declarations ds [] ++ all_breaks ts (inside (declared_variables ds) v) r
  breaks (form (in_process (receive k)) (more bs ts)) v r = breaks bs v (after [] false) ++ all_breaks ts (inside (variables bs) v) outside
  breaks (form (around case) (more p ts)) v r = breaks p v (after [] false) ++ all_breaks ts (inside (variables p) v) outside
  breaks (form (around bind) (more c ts)) v r = all_breaks ts v r ++ breaks c v outside
  breaks (form (in_pattern same) ts) v r = all_breaks ts v outside
  breaks (form closed ts) v r = where_so (any_uses_more ts []) pattern_binder ++ all_breaks ts [] outside
  breaks (form (in_pattern pattern) ts) v r = where_so (has_many_parts (all_parts_of ts)) pattern_wide ++ all_breaks ts v r
  breaks (form (in_pattern set_pattern) (more ms ts)) v r = where_so (has_many_members ms) pattern_wide ++ (breaks ms v r ++ all_breaks ts v (past ms r))
  breaks (form (in_pattern map_pattern) (more ms ts)) v r = where_so (has_many_members ms) pattern_wide ++ (breaks ms v r ++ all_breaks ts v (past ms r))
  breaks (form (in_pattern either) ts) v r = all_breaks ts v (under r)
  breaks (form (in_pattern not_this) ts) v r = all_breaks ts v (under r)
  breaks (form (in_pattern (bundle b)) ts) v r = all_breaks ts v (under r)
  breaks (form f ts) v r = all_breaks ts v r

  -- the rules that these break, one after another
  pub all_breaks : Writtens → Scope → Reading → List Broken
  all_breaks no_more v r = []
  all_breaks (more t ts) v r = breaks t v r ++ all_breaks ts v (past t r)

-- the rules that a process breaks, in reading order: the first one is the refusal, and a process that breaks none is accepted
abbrev pub broken_rules : Written → List Broken
broken_rules t = breaks t [] outside
