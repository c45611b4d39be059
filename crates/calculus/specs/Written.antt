-- Processes as they are written, with names, as trees: a form, and its constituents in written order.
use Rattle.std.specs.Prelude.{ℕ, List, [], ◌∷◌, Option}
use Rattle.calculus.specs.Tree.{Label}

-- the forms of written text. Those that hold no name have the label that they have without names: in a process, in a pattern, or around either. The others use a name, drop or quote one, declare names (each with its URI, if it has one), bind one, quote a pattern, or hold a closed form of a pattern.
pub data Form : Type 0 where
  in_process : Label → Form
  in_pattern : Label → Form
  around : Label → Form
  use_process : List ℕ → Form
  use_name : List ℕ → Form
  drop : Form
  quote : Form
  declare : List (List ℕ × Option (List ℕ)) → Form
  bind_process : List ℕ → Form
  bind_name : List ℕ → Form
  bind_rest : List ℕ → Form
  quote_pattern : Form
  closed : Form

mutual
  -- a form and its constituents
  pub data Written : Type 0 where
    form : Form → Writtens → Written

  -- such trees in order
  pub data Writtens : Type 0 where
    no_more : Writtens
    more : Written → Writtens → Writtens

-- the trees of a list
abbrev pub writtens : List Written → Writtens
writtens [] = no_more
writtens (t ∷ ts) = more t (writtens ts)

-- a form with no constituents
abbrev pub bare_form : Form → Written
bare_form f = form f no_more

-- a form with one constituent
abbrev pub form_of_one : Form → Written → Written
form_of_one f t = form f (more t no_more)

-- a form with two constituents
abbrev pub form_of_two : Form → Written → Written → Written
form_of_two f t u = form f (more t (more u no_more))

-- a form with three constituents
abbrev pub form_of_three : Form → Written → Written → Written → Written
form_of_three f t u v = form f (more t (more u (more v no_more)))

-- a form with any number of constituents
abbrev pub form_of : Form → List Written → Written
form_of f ts = form f (writtens ts)
