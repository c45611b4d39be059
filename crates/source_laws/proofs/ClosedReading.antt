-- Where a form breaks no rule, its constituents break none, each at its place in the reading.
use Rattle.std.proofs.Common.{◌≡◌, List, [], ◌∷◌, ◌++◌, Bool, true, false, refl}
use Rattle.std.specs.Prelude.{⊤}
use Rattle.calculus.specs.Tree.{Label, receive, match, send, bundle, unary, binary, method, pattern, same, either, not_this, set_pattern, map_pattern}
use Rattle.calculus.specs.Written.{in_process, in_pattern, Written, form, Writtens, no_more, more}
use Rattle.calculus.specs.Form.{Sort, term, a_bind, a_case, pat, row_of, pair_of, Kids, all, these, no_form}
use Rattle.scope.specs.Binding.{Scope}
use Rattle.scope.specs.Rules.{Broken, Reading, outside, after, past, under, where_so, pattern_wide, has_many_parts, all_parts_of, has_many_members, breaks, all_breaks}
use Rattle.source_laws.specs.WellFormed.{process_kids, pattern_kids}
use Rattle.source_laws.proofs.Scopes.{right-none}

-- where the constituents of a form of a pattern stand
abbrev pub below : Label → Reading → Reading
below same r = outside
below either r = under r
below not_this r = under r
below (bundle b) r = under r
below l r = r

pub pattern-breaks : (l : Label) (ts : Writtens) (v : Scope) (r : Reading) → breaks (form (in_pattern l) ts) v r ≡ [] → all_breaks ts v (below l r) ≡ []
pattern-breaks pattern ts v r h = right-none (where_so (has_many_parts (all_parts_of ts)) pattern_wide) (all_breaks ts v r) h
pattern-breaks set_pattern no_more v r h = refl
pattern-breaks set_pattern (more ms ts) v r h = right-none (where_so (has_many_members ms) pattern_wide) (breaks ms v r ++ all_breaks ts v (past ms r)) h
pattern-breaks map_pattern no_more v r h = refl
pattern-breaks map_pattern (more ms ts) v r h = right-none (where_so (has_many_members ms) pattern_wide) (breaks ms v r ++ all_breaks ts v (past ms r)) h
pattern-breaks _ ts v r h = h

-- a test that breaks no rule fails
pub so-false : (b : Bool) (r : Broken) → where_so b r ≡ [] → b ≡ false
so-false true r h = cc
so-false false r h = refl

-- no receive
abbrev pub NoReceive : Label → Type 0
NoReceive (receive k) = ⊥
NoReceive _ = ⊤

pub process-breaks : (l : Label) (ts : Writtens) (v : Scope) (r : Reading) → NoReceive l → breaks (form (in_process l) ts) v r ≡ [] → all_breaks ts v r ≡ []
process-breaks (receive k) ts v r n h = absurd n
process-breaks _ ts v r n h = h

-- a place in the reading of patterns
abbrev pub IsAfter : Reading → Type 0
IsAfter outside = ⊥
IsAfter (after seen b) = ⊤

-- a place where this sort may stand: patterns stand in the reading of patterns
abbrev pub Placed : Sort → Reading → Type 0
Placed term r = ⊤
Placed a_case r = ⊤
Placed (row_of s) r = Placed s r
Placed (pair_of s) r = Placed s r
Placed _ r = IsAfter r

abbrev pub EachPlaced : List Sort → Reading → Type 0
EachPlaced [] r = ⊤
EachPlaced (s ∷ ss) r = Placed s r × EachPlaced ss r

abbrev pub AllPlaced : Kids → Reading → Type 0
AllPlaced (all s) r = Placed s r
AllPlaced (these ss) r = EachPlaced ss r
AllPlaced no_form r = ⊤

past-after : (t : Written) (r : Reading) → IsAfter r → IsAfter (past t r)
past-after t outside h = h
past-after t (after seen b) h = tt

under-after : (r : Reading) → IsAfter r → IsAfter (under r)
under-after outside h = h
under-after (after seen b) h = tt

pub placed-past : (s : Sort) (t : Written) (r : Reading) → Placed s r → Placed s (past t r)
placed-past term t r h = tt
placed-past a_case t r h = tt
placed-past (row_of s) t r h = placed-past s t r h
placed-past (pair_of s) t r h = placed-past s t r h
placed-past _ t r h = past-after t r h

pub each-past : (ss : List Sort) (t : Written) (r : Reading) → EachPlaced ss r → EachPlaced ss (past t r)
each-past [] t r h = tt
each-past (s ∷ ss) t r h = (placed-past s t r h.0, each-past ss t r h.1)

pub placed : (s : Sort) (r : Reading) → IsAfter r → Placed s r
placed term r h = tt
placed a_case r h = tt
placed (row_of s) r h = placed s r h
placed (pair_of s) r h = placed s r h
placed _ r h = h

each-placed : (ss : List Sort) (r : Reading) → IsAfter r → EachPlaced ss r
each-placed [] r h = tt
each-placed (s ∷ ss) r h = (placed s r h, each-placed ss r h)

pub all-placed : (p : Kids) (r : Reading) → IsAfter r → AllPlaced p r
all-placed (all s) r h = placed s r h
all-placed (these ss) r h = each-placed ss r h
all-placed no_form r h = tt

-- what stands in ={P} is read as a process, and all else of a pattern as a pattern
pub pattern-placed : (l : Label) (r : Reading) → IsAfter r → AllPlaced (pattern_kids l) (below l r)
pattern-placed same r h = (tt, tt)
pattern-placed either r h = each-placed (pat ∷ pat ∷ []) (under r) (under-after r h)
pattern-placed not_this r h = each-placed (pat ∷ []) (under r) (under-after r h)
pattern-placed (bundle b) r h = each-placed (pat ∷ []) (under r) (under-after r h)
pattern-placed l r h = all-placed (pattern_kids l) r h

pub process-placed : (l : Label) (r : Reading) → NoReceive l → AllPlaced (process_kids l) r
process-placed (receive k) r n = absurd n
process-placed (send q) r n = (tt, (tt, tt))
process-placed match r n = (tt, (tt, tt))
process-placed (bundle b) r n = (tt, tt)
process-placed (unary o) r n = (tt, tt)
process-placed (binary o) r n = (tt, (tt, tt))
process-placed (method m) r n = (tt, (tt, tt))
process-placed _ r n = tt

-- below `~`, below `\\/` and in a bundle nothing is bound
abbrev pub Negated : Reading → Type 0
Negated outside = ⊥
Negated (after seen false) = ⊥
Negated (after seen true) = ⊤

-- the sorts of which patterns are made, without binds and cases
abbrev pub OfPatterns : Sort → Type 0
OfPatterns a_bind = ⊥
OfPatterns a_case = ⊥
OfPatterns (row_of s) = OfPatterns s
OfPatterns (pair_of s) = OfPatterns s
OfPatterns _ = ⊤

abbrev pub EachOfPatterns : List Sort → Type 0
EachOfPatterns [] = ⊤
EachOfPatterns (s ∷ ss) = OfPatterns s × EachOfPatterns ss

abbrev pub AllOfPatterns : Kids → Type 0
AllOfPatterns (all s) = OfPatterns s
AllOfPatterns (these ss) = EachOfPatterns ss
AllOfPatterns no_form = ⊤
