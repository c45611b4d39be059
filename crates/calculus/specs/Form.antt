-- Which trees are processes and patterns.
use Rattle.std.specs.Prelude.{◌≡◌, ℕ, zero, suc, ◌+◌, ◌<◌, ◌≤◌, ◌^◌, Bool, true, false, cond, ◌&&◌, ◌||◌, leb, eqb, List, [], ◌∷◌, ◌++◌, length, reverse, count_by, All, Contains, ⊤, pos, neg_ℤ, ◌≤ℤ◌, ◌<ℤ◌, IsUtf8, IsTrue, codes}
use Rattle.calculus.specs.Tree.{Label, par, row, bool, int, str, uri, bytes, fresh, var, name_var, list, tuple, set, dict, pair, send, receive, bind, new, match, case, bundle, unary, binary, method, pattern, rest, any, some_process, some_name, simple, same, both, either, not_this, list_pattern, set_pattern, map_pattern, Tree, node, Trees, none, also}
use Rattle.calculus.specs.Shape.{count, listed, label_of, at, held}
use Rattle.calculus.specs.Variables.{Sense, a_process, a_name, bound_all, binders, is_wide}

-- what a tree may stand for: a process, a part of one, a bind, a case, a remainder, a pattern of processes or of names, a part of either, a list or a pair of these
pub data Sort : Type 0 where
  term : Sort
  part : Sort
  a_bind : Sort
  a_case : Sort
  a_rest : Sort
  pat : Sort
  name_pat : Sort
  pat_part : Sort
  name_part : Sort
  row_of : Sort → Sort
  pair_of : Sort → Sort

-- what a form holds: any number of one sort, these sorts in turn, or no such form
pub data Kids : Type 0 where
  all : Sort → Kids
  these : List Sort → Kids
  no_form : Kids

-- what a form holds that is a part of a process
abbrev pub part_kids : Label → Kids
part_kids (bool x) = these []
part_kids (int x) = these []
part_kids (str x) = these []
part_kids (uri x) = these []
part_kids (bytes x) = these []
part_kids (fresh x) = these []
part_kids (var x) = these []
part_kids (name_var x) = these []
part_kids list = all term
part_kids tuple = all term
part_kids set = all term
part_kids dict = all (pair_of term)
part_kids (send q) = these (term ∷ row_of term ∷ [])
part_kids (receive k) = these (row_of a_bind ∷ term ∷ [])
part_kids (new os) = these (term ∷ [])
part_kids match = these (term ∷ row_of a_case ∷ [])
part_kids (bundle r) = these (term ∷ [])
part_kids (unary o) = these (term ∷ [])
part_kids (binary o) = these (term ∷ term ∷ [])
part_kids (method n) = these (term ∷ row_of term ∷ [])
part_kids _ = no_form

-- what a form holds that is a part of a pattern
abbrev pub pat_kids : Label → Kids
pat_kids (bool x) = these []
pat_kids (int x) = these []
pat_kids (str x) = these []
pat_kids (uri x) = these []
pat_kids (bytes x) = these []
pat_kids any = these []
pat_kids some_process = these []
pat_kids (simple k) = these []
pat_kids same = these (term ∷ [])
pat_kids both = these (pat ∷ pat ∷ [])
pat_kids either = these (pat ∷ pat ∷ [])
pat_kids not_this = these (pat ∷ [])
pat_kids list_pattern = these (row_of pat ∷ a_rest ∷ [])
pat_kids tuple = all pat
pat_kids set_pattern = these (row_of pat ∷ a_rest ∷ [])
pat_kids map_pattern = these (row_of (pair_of pat) ∷ a_rest ∷ [])
pat_kids (send q) = these (name_pat ∷ row_of pat ∷ [])
pat_kids (bundle r) = these (pat ∷ [])
pat_kids (receive k) = part_kids (receive k)
pat_kids (new os) = part_kids (new os)
pat_kids match = part_kids match
pat_kids _ = no_form

-- what a form holds that is the one part of a name pattern: a name variable may stand there too
abbrev pub name_kids : Label → Kids
name_kids some_name = these []
name_kids l = pat_kids l

-- what a form of this label and this number of constituents holds, where it stands for this sort
abbrev pub kids : Sort → Label → ℕ → Kids
kids term par n = all part
kids part l n = part_kids l
kids a_bind bind n = these (term ∷ row_of name_pat ∷ a_rest ∷ [])
kids a_case case n = these (pat ∷ term ∷ [])
kids a_rest (rest r) n = these []
kids pat pattern n = all pat_part
kids name_pat pattern n = cond (leb n 1) (all name_part) (all pat_part)
kids pat_part l n = pat_kids l
kids name_part l n = name_kids l
kids (row_of s) row n = all s
kids (pair_of s) pair n = these (s ∷ s ∷ [])
kids _ _ _ = no_form

-- the variables in scope, the last one bound first
abbrev pub Scope : Type 0
Scope = List Sense

-- variable number i of a scope is of this sense
abbrev pub HasVariable : Scope → ℕ → Sense → Type 0
HasVariable [] i v = ⊥
HasVariable (w ∷ ws) zero v = w ≡ v
HasVariable (w ∷ ws) (suc i) v = HasVariable ws i v

-- whether a byte is an ASCII letter or `'`
abbrev pub is_letter : ℕ → Bool
is_letter c = (leb 0x41 c && leb c 0x5A) || ((leb 0x61 c && leb c 0x7A) || eqb c 0x27)

-- whether a byte may go on with a word: a letter, a digit, `_` or `'`
abbrev pub goes_on_word : ℕ → Bool
goes_on_word c = is_letter c || ((leb 0x30 c && leb c 0x39) || eqb c 0x5F)

-- whether all of these may
abbrev pub all_go_on : List ℕ → Bool
all_go_on [] = true
all_go_on (c ∷ cs) = goes_on_word c && all_go_on cs

-- whether these bytes have the form of a word: a letter first, or `_` with more after it
abbrev pub is_word : List ℕ → Bool
is_word [] = false
is_word (c ∷ []) = is_letter c
is_word (c ∷ d ∷ cs) = (is_letter c || eqb c 0x5F) && all_go_on (d ∷ cs)

-- the keys, which are no words though they have the form of one
abbrev pub keys : List (List ℕ)
keys = codes "Nil" ∷ codes "new" ∷ codes "in" ∷ codes "for" ∷ codes "contract" ∷ codes "match" ∷ codes "if" ∷ codes "else" ∷ codes "true" ∷ codes "false" ∷ codes "not" ∷ codes "and" ∷ codes "or" ∷ codes "Set" ∷ codes "Bool" ∷ codes "Int" ∷ codes "String" ∷ codes "Uri" ∷ codes "ByteArray" ∷ codes "bundle" ∷ codes "bundle0" ∷ []

-- each of these is a byte
abbrev pub IsBytes : List ℕ → Type 0
IsBytes bs = All (λ b. b < 256) bs

-- a digest: 32 bytes
abbrev pub IsDigest : List ℕ → Type 0
IsDigest bs = (length bs ≡ 32) × IsBytes bs

-- how many of a pattern's parts are wide
abbrev pub wides : List Tree → ℕ
wides ts = count_by (λ t. is_wide (label_of t)) ts

-- the parts of a parallel pattern: at most one is wide, and at most 8 are thin
abbrev pub IsNarrow : List Tree → Type 0
IsNarrow ts = (wides ts ≤ 1) × (length ts ≤ 8 + wides ts)

-- what must hold of a form beside the sorts of its constituents: ranges of its data, numbers of its constituents, variables that are in scope, and no variable bound under `~`, under `\/` or in a bundle of a pattern
abbrev pub IsPlain : Sort → Scope → Label → Trees → Type 0
IsPlain s v (int z) ts = (neg_ℤ (pos (2 ^ 63)) ≤ℤ z) × (z <ℤ pos (2 ^ 63))
IsPlain s v (str x) ts = IsUtf8 x × IsBytes x
IsPlain s v (uri x) ts = IsUtf8 x × (IsBytes x × (Contains x 0x60 → ⊥))
IsPlain s v (bytes x) ts = IsBytes x
IsPlain s v (fresh x) ts = IsDigest x
IsPlain s v (var i) ts = HasVariable v i a_process
IsPlain s v (name_var i) ts = HasVariable v i a_name
IsPlain s v tuple ts = 1 ≤ count ts
IsPlain s v (receive k) ts = (1 ≤ length (held (at 0 (listed ts)))) × (length (held (at 0 (listed ts))) ≤ 16)
IsPlain s v (new os) ts = 1 ≤ length os
IsPlain s v match ts = 1 ≤ length (held (at 1 (listed ts)))
IsPlain s v (method n) ts = IsTrue (is_word n) × (Contains keys n → ⊥)
IsPlain s v pattern ts = IsNarrow (listed ts)
IsPlain s v set_pattern ts = length (held (at 0 (listed ts))) ≤ 8
IsPlain s v map_pattern ts = length (held (at 0 (listed ts))) ≤ 8
IsPlain s v either ts = bound_all ts ≡ []
IsPlain s v not_this ts = bound_all ts ≡ []
IsPlain pat_part v (bundle r) ts = bound_all ts ≡ []
IsPlain name_part v (bundle r) ts = bound_all ts ≡ []
IsPlain s v l ts = ⊤

-- the scope in which a form's constituents stand: a closed form in a pattern has none
abbrev pub outer : Sort → Label → Scope → Scope
outer pat_part (receive k) v = []
outer pat_part (new os) v = []
outer pat_part match v = []
outer name_part (receive k) v = []
outer name_part (new os) v = []
outer name_part match v = []
outer s l v = v

-- no sort is left
abbrev pub AreNone : List Sort → Type 0
AreNone [] = ⊤
AreNone (s ∷ ss) = ⊥

abbrev mutual
  -- a tree is of this sort in this scope
  pub Fits : Sort → Scope → Tree → Type 0
  Fits s v (node l ts) = IsPlain s v l ts × Hold (kids s l (count ts)) (outer s l v) (reverse (binders l ts)) ts

  -- constituents are of the sorts that a form holds: the last one stands in the scope of the form's own variables
  pub Hold : Kids → Scope → List Sense → Trees → Type 0
  Hold (all s) v own none = ⊤
  Hold (all s) v own (also t ts) = Fits s v t × Hold (all s) v own ts
  Hold (these []) v own none = ⊤
  Hold (these []) v own (also t ts) = ⊥
  Hold (these (s ∷ ss)) v own none = ⊥
  Hold (these (s ∷ ss)) v own (also t none) = Fits s (own ++ v) t × AreNone ss
  Hold (these (s ∷ ss)) v own (also t (also u us)) = Fits s v t × Hold (these ss) v own (also u us)
  Hold no_form v own ts = ⊥

-- a closed process
abbrev pub IsClosed : Tree → Type 0
IsClosed t = Fits term [] t
