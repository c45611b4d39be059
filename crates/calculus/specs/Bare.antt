-- Bare forms: written processes without their names.
use Rattle.std.specs.Prelude.{ℕ, ◌+◌, cond, List, [], ◌∷◌, ◌++◌, map as each, flat_map, reverse, codes, Option, Some, None}
use Rattle.std.specs.Str.{bytes_eq}
use Rattle.calculus.specs.declared.plain.Origin.{Origin}
use Rattle.calculus.specs.declared.plain.Origin.TheVariants as origins
use Rattle.calculus.specs.declared.plain.TermRest.TheVariants as rests
use Rattle.calculus.specs.Tree.{par, var, name_var, receive, new, case, pattern, same, rest, some_process, some_name, Tree}
use Rattle.calculus.specs.Shape.{leaf, many, held, at}
use Rattle.calculus.specs.Written.{Form, in_process, in_pattern, around, use_process, use_name, drop, quote, declare, bind_process, bind_name, bind_rest, quote_pattern, closed, Written, form, Writtens, no_more, more}

-- the names that a form of a pattern binds, where its constituents bind these: a process in a pattern binds none outside
abbrev pub own_names : Form → List (List ℕ) → List (List ℕ)
own_names (bind_process x) xs = x ∷ []
own_names (bind_name x) xs = x ∷ []
own_names (bind_rest x) xs = x ∷ []
own_names (in_pattern same) xs = []
own_names closed xs = []
own_names (in_process l) xs = []
own_names _ xs = xs

abbrev mutual
  -- the names that a pattern binds, in written order
  pub names : Written → List (List ℕ)
  names (form f ts) = own_names f (all_names ts)

  -- the names that these bind, one after another
  pub all_names : Writtens → List (List ℕ)
  all_names no_more = []
  all_names (more t ts) = names t ++ all_names ts

-- the names that a form binds in its last constituent, in written order
abbrev pub binding_names : Form → Writtens → List (List ℕ)
binding_names (in_process (receive k)) ts = all_names ts
binding_names (around case) ts = all_names ts
binding_names (declare ds) ts = each (λ d. d.0) ds
binding_names _ ts = []

-- the fixed name that a URI stands for; any other URI, which no accepted source has, makes a plain name
abbrev pub uri_origin : List ℕ → Origin
uri_origin u = cond (bytes_eq u (codes "rho:io:stdout")) origins.Stdout (cond (bytes_eq u (codes "rho:io:stdoutAck")) origins.StdoutAck origins.Plain)

-- what a `new` makes of a name that is declared with this URI, or with none
abbrev pub declared_origin : Option (List ℕ) → Origin
declared_origin None = origins.Plain
declared_origin (Some u) = uri_origin u

-- the names in scope, the last one bound first
abbrev pub Names : Type 0
Names = List (List ℕ)

-- the number of names in scope that are bound after this one
abbrev pub index : List ℕ → Names → ℕ
index x [] = 0
index x (y ∷ ys) = cond (bytes_eq x y) 0 (index x ys + 1)

-- what a form comes to, of the trees of its constituents: parallel parts are flattened, a drop, a quote and a closed form are what stands in them, and a use of a name is its index
abbrev pub bare_parts : Form → Names → List Tree → List Tree
bare_parts (in_process par) v ts = flat_map held ts
bare_parts (in_pattern pattern) v ts = flat_map held ts
bare_parts drop v ts = flat_map held ts
bare_parts quote v ts = flat_map held ts
bare_parts quote_pattern v ts = flat_map held ts
bare_parts closed v ts = flat_map held ts
bare_parts (in_process l) v ts = many l ts ∷ []
bare_parts (in_pattern l) v ts = many l ts ∷ []
bare_parts (around l) v ts = many l ts ∷ []
bare_parts (use_process x) v ts = leaf (var (index x v)) ∷ []
bare_parts (use_name x) v ts = leaf (name_var (index x v)) ∷ []
bare_parts (declare ds) v ts = many (new (each (λ d. declared_origin d.1) ds)) ts ∷ []
bare_parts (bind_process x) v ts = leaf some_process ∷ []
bare_parts (bind_name x) v ts = leaf some_name ∷ []
bare_parts (bind_rest x) v ts = leaf (rest rests.Var) ∷ []

-- these parts as what the form stands for: a pattern, one of the forms around processes and patterns, or a process
abbrev pub wrapped : Form → List Tree → Tree
wrapped (in_pattern l) ps = many pattern ps
wrapped (bind_process x) ps = many pattern ps
wrapped (bind_name x) ps = many pattern ps
wrapped quote_pattern ps = many pattern ps
wrapped closed ps = many pattern ps
wrapped (around l) ps = at 0 ps
wrapped (bind_rest x) ps = at 0 ps
wrapped _ ps = many par ps

abbrev mutual
  -- the bare form of what is written in this scope
  pub bare_in : Written → Names → Tree
  bare_in (form f ts) v = wrapped f (bare_parts f v (bare_each ts v (reverse (binding_names f ts))))

  -- the bare forms of a form's constituents, of which the last one stands in the scope of these names too
  pub bare_each : Writtens → Names → Names → List Tree
  bare_each no_more v xs = []
  bare_each (more t no_more) v xs = bare_in t (xs ++ v) ∷ []
  bare_each (more t (more u us)) v xs = bare_in t v ∷ bare_each (more u us) v xs

-- the bare form of a process
abbrev pub bare : Written → Tree
bare t = bare_in t []
