-- All matches of a pattern, in order.
use Rattle.std.specs.Prelude.{ℕ, zero, suc, Bool, true, false, cond, not, ◌||◌, List, [], ◌∷◌, ◌++◌, map as each, flat_map, Option, Some, None}
use Rattle.calculus.specs.declared.plain.Simple.{Simple}
use Rattle.calculus.specs.declared.plain.Simple.TheVariants as simples
use Rattle.calculus.specs.declared.plain.TermRest.{TermRest}
use Rattle.calculus.specs.declared.plain.TermRest.TheVariants as rests
use Rattle.calculus.specs.Tree.{Label, bool, int, str, uri, bytes, list, tuple, set, dict, pair, send, bundle, pattern, rest, any, some_process, some_name, simple, same, both, either, not_this, list_pattern, set_pattern, map_pattern, Tree, node, Trees, none, also}
use Rattle.calculus.specs.Shape.{many, only, process, held, label_of, at, listed}
use Rattle.calculus.specs.Congruence.{congruent, same_label}
use Rattle.calculus.specs.Variables.{is_wide}
use Rattle.calculus.specs.Normal.{ascending}
use Rattle.calculus.specs.Operators.{of_list}

-- what one match binds, in written order of the variables
abbrev pub Bindings : Type 0
Bindings = List Tree

-- all matches of a pattern against a tree
abbrev pub Matcher : Type 0
Matcher = Tree → List Bindings

-- what is tried against a target: whether it takes all that is left, and its matches
pub record Member : Type 0 where
  pub wide : Bool
  pub tries : Matcher

-- how a constituent of a pattern is tried, beside how each of its own constituents is
pub record Piece : Type 0 where
  pub whole : Member
  pub inner : List Member

-- one match that binds nothing, or none
abbrev pub one_if : Bool → List Bindings
one_if true = [] ∷ []
one_if false = []

-- each match of the one list with each of the other, the first counting most
abbrev pub both_of : List Bindings → List Bindings → List Bindings
both_of xs ys = flat_map (λ b. each (λ c. b ++ c) ys) xs

-- whether there is a match
abbrev pub some_match : List Bindings → Bool
some_match [] = false
some_match (b ∷ bs) = true

-- each tree of a list, in order, with the others
abbrev pub choices : List Tree → List (Tree × List Tree)
choices [] = []
choices (t ∷ ts) = (t, ts) ∷ each (λ c. (c.0, t ∷ c.1)) (choices ts)

-- one way in which members choose targets: for each member what its match binds (nothing yet for a wide one), and the targets that are left
abbrev pub Choice : Type 0
Choice = List Bindings × List Tree

-- all ways, the first member counting most, and of it the target and then its match
abbrev pub ways : List Member → List Tree → List Choice
ways [] ts = ([], ts) ∷ []
ways (m ∷ ms) ts = cond m.wide
    (each (λ w. ([] ∷ w.0, w.1)) (ways ms ts))
    (flat_map (λ c. flat_map (λ b. each (λ w. (b ∷ w.0, w.1)) (ways ms c.1)) (m.tries c.0)) (choices ts))

-- the matches of one way: the wide member, where there is one, takes what is left
abbrev pub completed : List Member → List Bindings → (Matcher → List Bindings) → List Bindings
completed [] bs rest_of = [] ∷ []
completed (m ∷ ms) [] rest_of = []
completed (m ∷ ms) (b ∷ bs) rest_of = both_of (cond m.wide (rest_of m.tries) (b ∷ [])) (completed ms bs rest_of)

-- whether a member is wide
abbrev pub has_wide : List Member → Bool
has_wide [] = false
has_wide (m ∷ ms) = m.wide || has_wide ms

-- nothing is left
abbrev pub is_empty : List Tree → Bool
is_empty [] = true
is_empty (t ∷ ts) = false

-- all matches of the parts of a parallel pattern against these parts
abbrev pub parts_match : List Member → List Tree → List Bindings
parts_match ms ts = flat_map (λ w. cond (has_wide ms || is_empty w.1) (completed ms w.0 (λ f. f (process w.1))) []) (ways ms (ascending ts))

-- all matches one by one, where the numbers are equal
abbrev pub items_match : List Member → List Tree → List Bindings
items_match [] [] = [] ∷ []
items_match [] (t ∷ ts) = []
items_match (m ∷ ms) [] = []
items_match (m ∷ ms) (t ∷ ts) = both_of (m.tries t) (items_match ms ts)

-- what a remainder binds of these trees, which it makes a collection of: without one nothing may be left
abbrev pub rest_match : TermRest → (List Tree → Tree) → List Tree → List Bindings
rest_match rests.No f ts = one_if (is_empty ts)
rest_match rests.Var f ts = (f ts ∷ []) ∷ []
rest_match rests.Wild f ts = [] ∷ []

-- all matches one by one, and a remainder for the rest
abbrev pub first_items_match : List Member → TermRest → (List Tree → Tree) → List Tree → List Bindings
first_items_match [] r f ts = rest_match r f ts
first_items_match (m ∷ ms) r f [] = []
first_items_match (m ∷ ms) r f (t ∷ ts) = both_of (m.tries t) (first_items_match ms r f ts)

-- all matches of the members of a set or map, and a remainder for the rest
abbrev pub members_match : List Member → TermRest → (List Tree → Tree) → List Tree → List Bindings
members_match ms r f ts = flat_map (λ w. both_of (flat_map (λ b. b) w.0 ∷ []) (rest_match r f w.1)) (ways ms (ascending ts))

-- whether a ground value is of this kind
abbrev pub of_kind : Simple → Label → Bool
of_kind simples.Bool (bool x) = true
of_kind simples.Int (int x) = true
of_kind simples.Str (str x) = true
of_kind simples.Uri (uri x) = true
of_kind simples.Bytes (bytes x) = true
of_kind _ _ = false

-- the remainder of a pattern of a collection
abbrev pub rest_of : Tree → TermRest
rest_of (node (rest r) ts) = r
rest_of _ = rests.No

-- the matches where the target has this form
abbrev pub where_form : Label → Tree → (List Tree → List Bindings) → List Bindings
where_form l t f = cond (same_label l (label_of t)) (f (held t)) []

-- constituent number i as it is tried
abbrev pub whole_at : ℕ → List Piece → Matcher
whole_at i [] t = []
whole_at zero (m ∷ ms) t = m.whole.tries t
whole_at (suc i) (m ∷ ms) t = whole_at i ms t

-- the constituents of constituent number i as they are tried
abbrev pub inner_at : ℕ → List Piece → List Member
inner_at i [] = []
inner_at zero (m ∷ ms) = m.inner
inner_at (suc i) (m ∷ ms) = inner_at i ms

-- constituents as they are tried
abbrev pub wholes : List Piece → List Member
wholes ms = each (λ m. m.whole) ms

-- All matches of a pattern or a part of one, with these constituents. A thin part is tried against one part, a pattern and a wide part against a process, a pair of a map against a pair.
abbrev pub form_matches : Label → Trees → List Piece → Matcher
form_matches pattern ts ms t = parts_match (wholes ms) (held t)
form_matches any ts ms t = [] ∷ []
form_matches some_process ts ms t = (t ∷ []) ∷ []
form_matches some_name ts ms t = (t ∷ []) ∷ []
form_matches same ts ms t = one_if (congruent (at 0 (listed ts)) t)
form_matches both ts ms t = both_of (whole_at 0 ms t) (whole_at 1 ms t)
form_matches either ts ms t = one_if (some_match (whole_at 0 ms t) || some_match (whole_at 1 ms t))
form_matches not_this ts ms t = one_if (not (some_match (whole_at 0 ms t)))
form_matches (simple k) ts ms t = one_if (of_kind k (label_of t))
form_matches list_pattern ts ms t = where_form list t (λ us. first_items_match (inner_at 0 ms) (rest_of (at 1 (listed ts))) of_list us)
form_matches tuple ts ms t = where_form tuple t (λ us. items_match (wholes ms) us)
form_matches set_pattern ts ms t = where_form set t (λ us. members_match (inner_at 0 ms) (rest_of (at 1 (listed ts))) (λ vs. only (many set vs)) us)
form_matches map_pattern ts ms t = where_form dict t (λ us. members_match (inner_at 0 ms) (rest_of (at 1 (listed ts))) (λ vs. only (many dict vs)) us)
form_matches pair ts ms t = items_match (wholes ms) (held t)
form_matches (send p) ts ms t = where_form (send p) t (λ us. both_of (whole_at 0 ms (at 0 us)) (items_match (inner_at 1 ms) (held (at 1 us))))
form_matches (bundle r) ts ms t = where_form (bundle r) t (λ us. whole_at 0 ms (at 0 us))
form_matches l ts ms t = one_if (congruent (node l ts) t)

-- how a constituent of this form is tried, with these constituents of its own
abbrev pub piece_of : Label → Trees → List Piece → Piece
piece_of l ts ms = record { whole = record { wide = is_wide l; tries = form_matches l ts ms }; inner = wholes ms }

abbrev mutual
  -- a constituent of a pattern as it is tried
  pub piece : Tree → Piece
  piece (node l ts) = piece_of l ts (pieces ts)

  -- each of these as it is tried
  pub pieces : Trees → List Piece
  pieces none = []
  pieces (also t ts) = piece t ∷ pieces ts

-- all matches of a pattern against a process, in order
unfoldable pub all_matches : Tree → Tree → List Bindings
all_matches p t = (piece p).whole.tries t

-- all matches of a bind against the arguments of a datum, in order
unfoldable pub bind_matches : Tree → List Tree → List Bindings
bind_matches b xs = first_items_match (piece (at 1 (held b))).inner (rest_of (at 2 (held b))) of_list xs

-- the first of the matches, where there is one
abbrev pub first_of_all : List Bindings → Option Bindings
first_of_all [] = None
first_of_all (b ∷ bs) = Some b

-- the match that counts
abbrev pub first_match : Tree → Tree → Option Bindings
first_match p t = first_of_all (all_matches p t)
