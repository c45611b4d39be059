-- Patterns: a change leaves their forms and the variables that they bind.
use Rattle.std.proofs.Common.{◌≡◌, ℕ, ◌+◌, List, [], ◌∷◌, ◌++◌, length, refl, sym, ap, ◌∙◌, subst}
use Rattle.std.specs.Prelude.{⊤}
use Rattle.calculus.specs.Tree.{Label, par, row, bool, int, str, uri, bytes, var, name_var, tuple, set, dict, pair, send, receive, new, match, bundle, pattern, rest, any, some_process, some_name, simple, same, both, either, not_this, list_pattern, set_pattern, map_pattern, Tree, node, Trees, none, also, trees}
use Rattle.calculus.specs.Shape.{listed, joined_trees}
use Rattle.calculus.specs.Variables.{own, bound, bound_all, binders}
use Rattle.calculus.specs.Substitution.{Change, change, change_all}
use Rattle.calculus.proofs.Placing.{trees-listed}

-- what a tree of a pattern stands for
pub data PatternRole : Type 0 where
  a_pat : PatternRole
  pat_part : PatternRole
  pat_pair : PatternRole
  the_pats : PatternRole
  the_pairs : PatternRole
  a_rest : PatternRole

-- what a form in a pattern holds: any number of one role, these in turn, anything, or no such form
pub data PatternSlots : Type 0 where
  all_pats : PatternRole → PatternSlots
  these_pats : List PatternRole → PatternSlots
  any_pats : PatternSlots
  no_pats : PatternSlots

-- what a part of a pattern holds: a closed form and ={P} hold anything
abbrev pub pattern_part_slots : Label → PatternSlots
pattern_part_slots (bool x) = these_pats []
pattern_part_slots (int x) = these_pats []
pattern_part_slots (str x) = these_pats []
pattern_part_slots (uri x) = these_pats []
pattern_part_slots (bytes x) = these_pats []
pattern_part_slots any = these_pats []
pattern_part_slots some_process = these_pats []
pattern_part_slots some_name = these_pats []
pattern_part_slots (simple k) = these_pats []
pattern_part_slots same = any_pats
pattern_part_slots (receive k) = any_pats
pattern_part_slots (new os) = any_pats
pattern_part_slots match = any_pats
pattern_part_slots both = these_pats (a_pat ∷ a_pat ∷ [])
pattern_part_slots either = these_pats (a_pat ∷ a_pat ∷ [])
pattern_part_slots not_this = these_pats (a_pat ∷ [])
pattern_part_slots list_pattern = these_pats (the_pats ∷ a_rest ∷ [])
pattern_part_slots tuple = all_pats a_pat
pattern_part_slots set_pattern = these_pats (the_pats ∷ a_rest ∷ [])
pattern_part_slots map_pattern = these_pats (the_pairs ∷ a_rest ∷ [])
pattern_part_slots (send q) = these_pats (a_pat ∷ the_pats ∷ [])
pattern_part_slots (bundle r) = these_pats (a_pat ∷ [])
pattern_part_slots _ = no_pats

-- what a form of this role in a pattern holds
abbrev pub pattern_slots : PatternRole → Label → PatternSlots
pattern_slots a_pat pattern = all_pats pat_part
pattern_slots pat_part l = pattern_part_slots l
pattern_slots pat_pair pair = these_pats (a_pat ∷ a_pat ∷ [])
pattern_slots the_pats row = all_pats a_pat
pattern_slots the_pairs row = all_pats pat_pair
pattern_slots a_rest (rest r) = these_pats []
pattern_slots _ _ = no_pats

abbrev mutual
  -- a pattern, or what stands in one
  pub IsTidy : PatternRole → Tree → Type 0
  IsTidy k (node l ts) = AreTidy (pattern_slots k l) ts

  -- so are these, as a form holds them
  pub AreTidy : PatternSlots → Trees → Type 0
  AreTidy (all_pats k) none = ⊤
  AreTidy (all_pats k) (also t ts) = IsTidy k t × AreTidy (all_pats k) ts
  AreTidy (these_pats []) none = ⊤
  AreTidy (these_pats []) (also t ts) = ⊥
  AreTidy (these_pats (k ∷ ks)) none = ⊥
  AreTidy (these_pats (k ∷ ks)) (also t ts) = IsTidy k t × AreTidy (these_pats ks) ts
  AreTidy any_pats ts = ⊤
  AreTidy no_pats ts = ⊥

-- one tree that binds the same
abbrev pub IsSame : PatternRole → Tree → Trees → Type 0
IsSame k t none = ⊥
IsSame k t (also u none) = IsTidy k u × (bound u ≡ bound t)
IsSame k t (also u (also w ws)) = ⊥

-- as many, likewise
abbrev pub AreSame : PatternSlots → Trees → Trees → Type 0
AreSame any_pats ts us = ⊤
AreSame s ts us = AreTidy s us × (bound_all us ≡ bound_all ts)

last-of-all : (k : PatternRole) (t : Tree) (us : Trees) → IsSame k t us → AreSame (all_pats k) (also t none) us
last-of-all k t none h = absurd h
last-of-all k t (also u none) h = ((h.0, tt), ap (λ xs. xs ++ []) h.1)
last-of-all k t (also u (also w ws)) h = absurd h

last-of-these : (k : PatternRole) (ks : List PatternRole) (t : Tree) (us : Trees) → IsSame k t us → AreTidy (these_pats ks) none → AreSame (these_pats (k ∷ ks)) (also t none) us
last-of-these k ks t none h a = absurd h
last-of-these k ks t (also u none) h a = ((h.0, a), ap (λ xs. xs ++ []) h.1)
last-of-these k ks t (also u (also w ws)) h a = absurd h

more-of-all : (k : PatternRole) (t : Tree) (ts us vs : Trees) → IsSame k t us → AreSame (all_pats k) ts vs → AreSame (all_pats k) (also t ts) (joined_trees us vs)
more-of-all k t ts none vs h a = absurd h
more-of-all k t ts (also u none) vs h a = ((h.0, a.0), ap (λ xs. xs ++ bound_all vs) h.1 ∙ ap (λ ys. bound t ++ ys) a.1)
more-of-all k t ts (also u (also w ws)) vs h a = absurd h

more-of-these : (k : PatternRole) (ks : List PatternRole) (t : Tree) (ts us vs : Trees) → IsSame k t us → AreSame (these_pats ks) ts vs → AreSame (these_pats (k ∷ ks)) (also t ts) (joined_trees us vs)
more-of-these k ks t ts none vs h a = absurd h
more-of-these k ks t ts (also u none) vs h a = ((h.0, a.0), ap (λ xs. xs ++ bound_all vs) h.1 ∙ ap (λ ys. bound t ++ ys) a.1)
more-of-these k ks t ts (also u (also w ws)) vs h a = absurd h

same-node : (l : Label) (ts us : Trees) → bound_all us ≡ bound_all ts → own l (bound_all (trees (listed us))) ≡ own l (bound_all ts)
same-node l ts us h = ap (λ vs. own l (bound_all vs)) (trees-listed us) ∙ ap (own l) h

relisted-tidy : (s : PatternSlots) (us : Trees) → AreTidy s us → AreTidy s (trees (listed us))
relisted-tidy s us h = subst (λ (vs : Trees). AreTidy s vs) (sym (trees-listed us)) h

module _ (F : Change) where
  tidy-node : (k : PatternRole) (d : ℕ) (l : Label) (ts : Trees) → IsTidy k (node l ts) → AreSame (pattern_slots k l) ts (change_all F d (length (binders l ts)) ts) → IsSame k (node l ts) (change F d (node l ts))
  tidy-node pat_part d same ts h k = (tt, refl)
  tidy-node pat_part d (receive x) ts h k = (tt, refl)
  tidy-node pat_part d (new x) ts h k = (tt, refl)
  tidy-node pat_part d match ts h k = (tt, refl)
  tidy-node pat_part d par ts h k = absurd h
  tidy-node pat_part d set ts h k = absurd h
  tidy-node pat_part d dict ts h k = absurd h
  tidy-node pat_part d (var i) ts h k = absurd h
  tidy-node pat_part d (name_var i) ts h k = absurd h
  tidy-node pat_part d l ts h k = (relisted-tidy (pattern_part_slots l) (change_all F d (length (binders l ts)) ts) k.0, same-node l ts (change_all F d (length (binders l ts)) ts) k.1)
  tidy-node a_pat d pattern ts h k = (relisted-tidy (all_pats pat_part) (change_all F d 0 ts) k.0, same-node pattern ts (change_all F d 0 ts) k.1)
  tidy-node a_pat d _ ts h k = absurd h
  tidy-node pat_pair d pair ts h k = (relisted-tidy (these_pats (a_pat ∷ a_pat ∷ [])) (change_all F d 0 ts) k.0, same-node pair ts (change_all F d 0 ts) k.1)
  tidy-node pat_pair d _ ts h k = absurd h
  tidy-node the_pats d row ts h k = (relisted-tidy (all_pats a_pat) (change_all F d 0 ts) k.0, same-node row ts (change_all F d 0 ts) k.1)
  tidy-node the_pats d _ ts h k = absurd h
  tidy-node the_pairs d row ts h k = (relisted-tidy (all_pats pat_pair) (change_all F d 0 ts) k.0, same-node row ts (change_all F d 0 ts) k.1)
  tidy-node the_pairs d _ ts h k = absurd h
  tidy-node a_rest d (rest r) ts h k = (relisted-tidy (these_pats []) (change_all F d 0 ts) k.0, same-node (rest r) ts (change_all F d 0 ts) k.1)
  tidy-node a_rest d _ ts h k = absurd h

  mutual
    pub tidy-change : (k : PatternRole) (d : ℕ) (t : Tree) → IsTidy k t → IsSame k t (change F d t)
    tidy-change k d (node l ts) h = tidy-node k d l ts h (tidy-all (pattern_slots k l) d (length (binders l ts)) ts h)

    tidy-all : (s : PatternSlots) (d n : ℕ) (ts : Trees) → AreTidy s ts → AreSame s ts (change_all F d n ts)
    tidy-all (all_pats k) d n none h = (tt, refl)
    tidy-all (all_pats k) d n (also t none) h = last-of-all k t (change F (d + n) t) (tidy-change k (d + n) t h.0)
    tidy-all (all_pats k) d n (also t (also u us)) h = more-of-all k t (also u us) (change F d t) (change_all F d n (also u us)) (tidy-change k d t h.0) (tidy-all (all_pats k) d n (also u us) h.1)
    tidy-all (these_pats []) d n none h = (tt, refl)
    tidy-all (these_pats []) d n (also t ts) h = absurd h
    tidy-all (these_pats (k ∷ ks)) d n none h = absurd h
    tidy-all (these_pats (k ∷ ks)) d n (also t none) h = last-of-these k ks t (change F (d + n) t) (tidy-change k (d + n) t h.0) h.1
    tidy-all (these_pats (k ∷ ks)) d n (also t (also u us)) h =
        more-of-these k ks t (also u us) (change F d t) (change_all F d n (also u us)) (tidy-change k d t h.0) (tidy-all (these_pats ks) d n (also u us) h.1)
    tidy-all any_pats d n ts h = tt
    tidy-all no_pats d n ts h = absurd h
