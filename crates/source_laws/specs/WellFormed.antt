-- Which written trees are well formed: each form has the constituents that belong to it, and its data are in range. Nothing is asked of names.
use Rattle.std.specs.Prelude.{ℕ, zero, suc, ◌≤◌, ◌^◌, [], ◌∷◌, length, Contains, ⊤, pos, neg_ℤ, ◌≤ℤ◌, ◌<ℤ◌, IsUtf8, IsTrue}
use Rattle.calculus.specs.Tree.{Label, par, row, int, str, uri, bytes, fresh, var, name_var, tuple, pair, receive, bind, new, match, case, method, pattern, rest, any, some_process}
use Rattle.calculus.specs.Written.{Form, in_process, in_pattern, around, use_process, use_name, drop, quote, declare, bind_process, bind_name, bind_rest, quote_pattern, closed, Written, form, Writtens, no_more, more}
use Rattle.calculus.specs.declared.plain.TermRest.TheVariants as rests
use Rattle.calculus.specs.Form.{Sort, term, a_bind, a_case, a_rest, pat, name_pat, row_of, pair_of, Kids, all, these, no_form, part_kids, pat_kids, IsBytes, IsDigest, is_word, keys}
use Rattle.scope.specs.Rules.{how_many}

-- what a form of a process of this label holds: variables and the names of a `new` have forms of their own
abbrev pub process_kids : Label → Kids
process_kids par = all term
process_kids (var i) = no_form
process_kids (name_var i) = no_form
process_kids (new os) = no_form
process_kids l = part_kids l

-- what a form of a pattern of this label holds: variables and closed forms have forms of their own
abbrev pub pattern_kids : Label → Kids
pattern_kids pattern = all pat
pattern_kids some_process = no_form
pattern_kids (receive k) = no_form
pattern_kids (new os) = no_form
pattern_kids match = no_form
pattern_kids l = pat_kids l

-- what a form of a process or a name holds
abbrev pub term_kids : Form → Kids
term_kids (in_process l) = process_kids l
term_kids (use_process x) = these []
term_kids (use_name x) = these []
term_kids drop = these (term ∷ [])
term_kids quote = these (term ∷ [])
term_kids (declare ds) = these (term ∷ [])
term_kids _ = no_form

-- what a form of a pattern of processes holds
abbrev pub pat_form_kids : Form → Kids
pat_form_kids (in_pattern l) = pattern_kids l
pat_form_kids (bind_process x) = these []
pat_form_kids closed = these (term ∷ [])
pat_form_kids _ = no_form

-- what a form of a pattern of names holds
abbrev pub name_pat_form_kids : Form → Kids
name_pat_form_kids (in_pattern any) = these []
name_pat_form_kids (bind_name x) = these []
name_pat_form_kids quote_pattern = these (pat ∷ [])
name_pat_form_kids _ = no_form

-- what a written form holds, where it stands for this sort; a bare form of a process is a process of one part
abbrev pub written_kids : Sort → Form → Kids
written_kids term f = term_kids f
written_kids pat f = pat_form_kids f
written_kids name_pat f = name_pat_form_kids f
written_kids a_bind (around bind) = these (term ∷ row_of name_pat ∷ a_rest ∷ [])
written_kids a_case (around case) = these (pat ∷ term ∷ [])
written_kids a_rest (around (rest rests.No)) = these []
written_kids a_rest (around (rest rests.Wild)) = these []
written_kids a_rest (bind_rest x) = these []
written_kids (row_of s) (around row) = all s
written_kids (pair_of s) (around pair) = these (s ∷ s ∷ [])
written_kids _ _ = no_form

-- the number of constituents of constituent number i
abbrev pub members : ℕ → Writtens → ℕ
members i no_more = 0
members zero (more (form f us) ts) = how_many us
members (suc i) (more t ts) = members i ts

-- these are one receive, `new` or `match`
abbrev pub AreClosedForm : Writtens → Type 0
AreClosedForm (more (form (in_process (receive k)) us) ts) = ⊤
AreClosedForm (more (form (declare ds) us) ts) = ⊤
AreClosedForm (more (form (in_process match) us) ts) = ⊤
AreClosedForm _ = ⊥

-- data in range: an Int has 64 bits, characters are UTF-8 and a Uri has no back quote, a digest has 32 bytes, and a method's name is a word and no key
abbrev pub HasRange : Label → Type 0
HasRange (int z) = (neg_ℤ (pos (2 ^ 63)) ≤ℤ z) × (z <ℤ pos (2 ^ 63))
HasRange (str x) = IsUtf8 x × IsBytes x
HasRange (uri x) = IsUtf8 x × (IsBytes x × (Contains x 0x60 → ⊥))
HasRange (bytes x) = IsBytes x
HasRange (fresh x) = IsDigest x
HasRange (method n) = IsTrue (is_word n) × (Contains keys n → ⊥)
HasRange _ = ⊤

-- enough constituents: 1 to 16 binds, and at least one name, case and member of a tuple
abbrev pub HasEnough : Label → Writtens → Type 0
HasEnough tuple ts = 1 ≤ how_many ts
HasEnough (receive k) ts = (1 ≤ members 0 ts) × (members 0 ts ≤ 16)
HasEnough match ts = 1 ≤ members 1 ts
HasEnough _ ts = ⊤

-- a form's data are in range, and it has enough constituents; a closed form of a pattern is a receive, a `new` or a `match`
abbrev pub IsInRange : Form → Writtens → Type 0
IsInRange (in_process l) ts = HasRange l × HasEnough l ts
IsInRange (in_pattern l) ts = HasRange l × HasEnough l ts
IsInRange (declare ds) ts = 1 ≤ length ds
IsInRange closed ts = AreClosedForm ts
IsInRange _ ts = ⊤

abbrev mutual
  -- a written tree of this sort
  pub IsOfSort : Sort → Written → Type 0
  IsOfSort s (form f ts) = IsInRange f ts × Are (written_kids s f) ts

  -- constituents of the sorts that a form holds
  pub Are : Kids → Writtens → Type 0
  Are (all s) no_more = ⊤
  Are (all s) (more t ts) = IsOfSort s t × Are (all s) ts
  Are (these []) no_more = ⊤
  Are (these []) (more t ts) = ⊥
  Are (these (s ∷ ss)) no_more = ⊥
  Are (these (s ∷ ss)) (more t ts) = IsOfSort s t × Are (these ss) ts
  Are no_form ts = ⊥

-- a well-formed process
abbrev pub IsWellFormed : Written → Type 0
IsWellFormed p = IsOfSort term p
