-- What the values of each sort of the grammar are, and what was read before a sort that goes on with a form.
use Rattle.std.proofs.Common.{◌≡◌, ◌+◌, ◌≤◌, List, [], ◌∷◌, ◌++◌, length, refl, arith}
use Rattle.std.specs.Prelude.{⊤}
use Rattle.calculus.specs.Tree.{row, tuple, list, set, bind}
use Rattle.calculus.specs.Written.{in_process, around, Written, form, no_more, more, writtens}
use Rattle.calculus.specs.Form.{a_bind, a_case, a_rest, pat, name_pat, row_of, pair_of, term, all, these}
use Rattle.calculus.specs.Form.{Sort as Meant}
use Rattle.grammar.specs.Rules.{Sort}
use Rattle.grammar.specs.Values.{Side, processes, patterns, par_of, on, with_form, with_first}
use Rattle.scope.specs.Rules.{how_many}
use Rattle.source_laws.specs.WellFormed.{IsOfSort, Are, AreClosedForm}

-- a process or a pattern
abbrev pub meant : Side → Meant
meant processes = term
meant patterns = pat

-- a name or a pattern of names
abbrev pub meant_name : Side → Meant
meant_name processes = term
meant_name patterns = name_pat

-- a receive, a `new` or a `match`
abbrev pub IsClosedForm : Written → Type 0
IsClosedForm t = IsOfSort term t × AreClosedForm (more t no_more)

-- patterns and a remainder, with no channel yet
abbrev pub IsLeft : Written → Type 0
IsLeft (form (around bind) ts) = Are (these (row_of name_pat ∷ a_rest ∷ [])) ts
IsLeft _ = ⊥

-- members of a pattern and a remainder
abbrev pub IsSeq : Written → Type 0
IsSeq (form f ts) = Are (these (row_of pat ∷ a_rest ∷ [])) ts

-- trees of one sort
abbrev pub Each : Meant → List Written → Type 0
Each s ps = Are (all s) (writtens ps)

-- what was read before
abbrev pub Given : Sort → Type 0
Given (Sort.ParTail side ps h) = Each (meant side) ps
Given (Sort.DeclTail ds) = 1 ≤ length ds
Given (Sort.IfTail e p) = IsOfSort term e.tree × IsOfSort term p.tree
Given (Sort.Sent side n) = IsOfSort (meant_name side) n.tree
Given (Sort.SentTail side n) = IsOfSort (meant_name side) n.tree
Given (Sort.Arrow l) = IsLeft l.tree
Given (Sort.FirstTail k b) = IsOfSort a_bind b.tree
Given (Sort.Binds k m left bs h) = Each a_bind bs × (length bs + left ≤ 15)
Given (Sort.BindsTail k m left bs h) = Each a_bind bs × ((1 ≤ length bs) × (length bs + left ≤ 16))
Given (Sort.Body k bs h) = Each a_bind bs × ((1 ≤ length bs) × (length bs ≤ 16))
Given (Sort.LeftTail ps h) = Each name_pat ps
Given (Sort.LeftNext ps h) = Each name_pat ps
Given (Sort.Case t cs h) = IsOfSort term t.tree × Each a_case cs
Given (Sort.CaseTail t cs h) = IsOfSort term t.tree × (Each a_case cs × (1 ≤ length cs))
Given (Sort.OrTail a) = IsOfSort term a.tree
Given (Sort.AndTail a) = IsOfSort term a.tree
Given (Sort.EqTail a) = IsOfSort term a.tree
Given (Sort.CmpTail a) = IsOfSort term a.tree
Given (Sort.SumTail a) = IsOfSort term a.tree
Given (Sort.MulTail a) = IsOfSort term a.tree
Given (Sort.MethTail a) = IsOfSort term a.tree
Given (Sort.Group side p) = IsOfSort (meant side) p.tree
Given (Sort.BraceTail p) = IsOfSort term p.tree
Given (Sort.Pairs ps h) = Each (pair_of term) ps
Given (Sort.RowTail side c ps h) = Each (meant side) ps
Given (Sort.PAltTail a) = IsOfSort pat a.tree
Given (Sort.PAndTail a) = IsOfSort pat a.tree
Given (Sort.SeqTail c ps h) = Each pat ps
Given (Sort.SeqNext c ps h) = Each pat ps
Given (Sort.PBraceTail p) = IsOfSort pat p.tree
Given (Sort.PPairs ps h) = Each (pair_of pat) ps
Given (Sort.PPairsNext ps h) = Each (pair_of pat) ps
Given _ = ⊤

-- what a sort's value is
abbrev pub Value : Sort → Written → Type 0
Value (Sort.Par side) t = IsOfSort (meant side) t
Value (Sort.ParTail side ps h) t = IsOfSort (meant side) t
Value Sort.New t = IsClosedForm t
Value (Sort.Decl ds) t = IsClosedForm t
Value (Sort.DeclUri ds w) t = IsClosedForm t
Value (Sort.DeclTail ds) t = IsClosedForm t
Value Sort.If t = IsClosedForm t
Value (Sort.IfTail e p) t = IsClosedForm t
Value Sort.Contract t = IsClosedForm t
Value (Sort.Sent side n) t = IsOfSort (meant side) t
Value (Sort.SentTail side n) t = IsOfSort (meant side) t
Value (Sort.Bundle side) t = IsOfSort (meant side) t
Value Sort.For t = IsClosedForm t
Value Sort.Bind t = IsClosedForm t
Value (Sort.Arrow l) t = IsClosedForm t
Value (Sort.FirstTail k b) t = IsClosedForm t
Value (Sort.Binds k m left bs h) t = IsClosedForm t
Value (Sort.BindsTail k m left bs h) t = IsClosedForm t
Value (Sort.Body k bs h) t = IsClosedForm t
Value Sort.Left t = IsLeft t
Value (Sort.LeftTail ps h) t = IsLeft t
Value (Sort.LeftNext ps h) t = IsLeft t
Value Sort.Remainder t = IsOfSort a_rest t
Value Sort.Match t = IsClosedForm t
Value (Sort.Case u cs h) t = IsClosedForm t
Value (Sort.CaseTail u cs h) t = IsClosedForm t
Value (Sort.Ground side) t = IsOfSort (meant side) t
Value (Sort.Group side p) t = IsOfSort (meant side) t
Value (Sort.Row side c) t = IsOfSort (row_of (meant side)) t
Value (Sort.RowTail side c ps h) t = IsOfSort (row_of (meant side)) t
Value Sort.POne t = IsOfSort pat t
Value Sort.PAlt t = IsOfSort pat t
Value (Sort.PAltTail a) t = IsOfSort pat t
Value Sort.PAnd t = IsOfSort pat t
Value (Sort.PAndTail a) t = IsOfSort pat t
Value Sort.PNot t = IsOfSort pat t
Value Sort.PName t = IsOfSort name_pat t
Value Sort.PAtom t = IsOfSort pat t
Value Sort.Same t = IsOfSort pat t
Value (Sort.Seq c) t = IsSeq t
Value (Sort.SeqTail c ps h) t = IsSeq t
Value (Sort.SeqNext c ps h) t = IsSeq t
Value Sort.PBrace t = IsOfSort pat t
Value (Sort.PBraceTail p) t = IsOfSort pat t
Value (Sort.PPairs ps h) t = IsOfSort pat t
Value (Sort.PPairsNext ps h) t = IsOfSort pat t
Value _ t = IsOfSort term t

-- one more tree of a sort
pub each-more : (s : Meant) (ps : List Written) (p : Written) → Each s ps → IsOfSort s p → Each s (ps ++ (p ∷ []))
each-more s [] p h k = (k, tt)
each-more s (q ∷ ps) p h k = (h.0, each-more s ps p h.1 k)

pub count-writtens : (ps : List Written) → how_many (writtens ps) ≡ length ps
count-writtens [] = refl
count-writtens (p ∷ ps) = omega (arith, count-writtens ps)

-- parts in parallel
pub par-sound : (side : Side) (ps : List Written) → Each (meant side) ps → IsOfSort (meant side) (par_of side ps)
par-sound processes [] h = ((tt, tt), tt)
par-sound processes (p ∷ []) h = h.0
par-sound processes (p ∷ q ∷ ps) h = ((tt, tt), h)
par-sound patterns [] h = ((tt, tt), tt)
par-sound patterns (p ∷ []) h = h.0
par-sound patterns (p ∷ q ∷ ps) h = ((tt, tt), h)

-- a channel before the patterns of a bind
pub bind-sound : (n l : Written) → IsOfSort term n → IsLeft l → IsOfSort a_bind (with_first n l)
bind-sound n (form (around bind) ts) h k = (tt, (h, k))
bind-sound n (form (around _) ts) h k = absurd k
bind-sound n (form _ ts) h k = absurd k

-- the members of a row under other forms
pub list-sound : (t : Written) → IsOfSort (row_of term) t → IsOfSort term (with_form (in_process list) t)
list-sound (form (around row) ts) h = ((tt, tt), h.1)
list-sound (form (around _) ts) h = absurd h.1
list-sound (form _ ts) h = absurd h.1

pub set-sound : (t : Written) → IsOfSort (row_of term) t → IsOfSort term (with_form (in_process set) t)
set-sound (form (around row) ts) h = ((tt, tt), h.1)
set-sound (form (around _) ts) h = absurd h.1
set-sound (form _ ts) h = absurd h.1

pub tuple-sound : (side : Side) (p t : Written) → IsOfSort (meant side) p → IsOfSort (row_of (meant side)) t → IsOfSort (meant side) (with_form (on side tuple) (with_first p t))
tuple-sound processes p (form (around row) ts) k h = ((tt, omega arith), (k, h.1))
tuple-sound patterns p (form (around row) ts) k h = ((tt, omega arith), (k, h.1))
tuple-sound side p (form (around _) ts) k h = absurd h.1
tuple-sound side p (form _ ts) k h = absurd h.1
