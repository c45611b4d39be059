-- Bodies into which good parts were put: built of good parts, of variables and of forms.
use Rattle.std.proofs.Common.{◌≡◌, ℕ, zero, suc, ◌+◌, ◌<◌, ◌≤◌, List, [], ◌∷◌, length, refl, arith, inl, inr}
use Rattle.std.specs.Prelude.{⊤, ◌⊎◌}
use Rattle.calculus.specs.Tree.{Label, par, row, bool, int, str, uri, bytes, fresh, var, name_var, list, tuple, set, dict, pair, send, receive, new, match, bundle, unary, binary, method, Tree, node, Trees, none, also}
use Rattle.calculus.specs.Variables.{bound, bound_all, binders}
use Rattle.process_laws.proofs.Goodness.{Role, a_term, a_part, a_pair, the_terms, a_pattern, Slots, each_is, these_are, any_kids, no_kids, part_slots, slots}
use Rattle.process_laws.proofs.Moving.{IsOfProcess}
use Rattle.process_laws.proofs.Quiet.{AreGivenOfProcess, both-none}
use Rattle.process_laws.proofs.UnfoldingPatterns.{IsTidy}

-- no tree
abbrev pub IsNone : Trees → Type 0
IsNone none = ⊤
IsNone (also t ts) = ⊥

-- no role
abbrev pub AreNoRoles : List Role → Type 0
AreNoRoles [] = ⊤
AreNoRoles (r ∷ rs) = ⊥

-- constituents of the roles that a form holds, with c open variables, of which the last of some in turn has n more
abbrev pub AreKids : (Role → ℕ → Tree → Type 0) → Slots → ℕ → ℕ → Trees → Type 0
AreKids B (each_is r) c n none = ⊤
AreKids B (each_is r) c n (also t ts) = B r c t × AreKids B (each_is r) c n ts
AreKids B (these_are []) c n none = ⊤
AreKids B (these_are []) c n (also t ts) = ⊥
AreKids B (these_are (r ∷ rs)) c n none = ⊥
AreKids B (these_are (r ∷ rs)) c n (also t none) = B r (c + n) t × AreNoRoles rs
AreKids B (these_are (r ∷ rs)) c n (also t (also u us)) = B r c t × AreKids B (these_are rs) c n (also u us)
AreKids B any_kids c n ts = ⊤
AreKids B no_kids c n ts = ⊥

-- a use of an open variable, or a form of such constituents
abbrev pub IsBuiltNode : (Role → ℕ → Tree → Type 0) → Role → ℕ → Tree → Type 0
IsBuiltNode B a_part c (node (var i) ts) = (i < c) × IsNone ts
IsBuiltNode B a_part c (node (name_var i) ts) = (i < c) × IsNone ts
IsBuiltNode B r c (node l ts) = AreKids B (slots r l) c (length (binders l ts)) ts

module _ (L : Tree → Type 0) where
  -- a part with L, or a pattern
  abbrev pub IsLeaf : Role → Tree → Type 0
  IsLeaf a_part t = L t
  IsLeaf (a_pattern k) t = IsTidy k t
  IsLeaf _ t = ⊥

  -- built of leaves with at most h forms above one another, where c variables are open
  abbrev pub IsBuilt : ℕ → Role → ℕ → Tree → Type 0
  IsBuilt zero r c t = IsLeaf r t
  IsBuilt (suc h) r c t = IsLeaf r t ⊎ IsBuiltNode (IsBuilt h) r c t

-- what is so of each constituent
module _ (B B' : Role → ℕ → Tree → Type 0) (f : (r : Role) (a b : ℕ) (t : Tree) → a ≤ b → B r a t → B' r b t) where
  pub kids-up : (s : Slots) (c c' n : ℕ) (ts : Trees) → c ≤ c' → AreKids B s c n ts → AreKids B' s c' n ts
  kids-up (each_is r) c c' n none e h = tt
  kids-up (each_is r) c c' n (also t ts) e h = (f r c c' t e h.0, kids-up (each_is r) c c' n ts e h.1)
  kids-up (these_are []) c c' n none e h = tt
  kids-up (these_are []) c c' n (also t ts) e h = absurd h
  kids-up (these_are (r ∷ rs)) c c' n none e h = absurd h
  kids-up (these_are (r ∷ rs)) c c' n (also t none) e h = (f r (c + n) (c' + n) t (omega (arith, e)) h.0, h.1)
  kids-up (these_are (r ∷ rs)) c c' n (also t (also u us)) e h = (f r c c' t e h.0, kids-up (these_are rs) c c' n (also u us) e h.1)
  kids-up any_kids c c' n ts e h = tt
  kids-up no_kids c c' n ts e h = absurd h

  node-up : (r : Role) (c c' : ℕ) (t : Tree) → c ≤ c' → IsBuiltNode B r c t → IsBuiltNode B' r c' t
  node-up a_part c c' (node (var i) ts) e h = (omega (arith, e, h.0), h.1)
  node-up a_part c c' (node (name_var i) ts) e h = (omega (arith, e, h.0), h.1)
  node-up a_part c c' (node l ts) e h = kids-up (slots a_part l) c c' (length (binders l ts)) ts e h
  node-up r c c' (node l ts) e h = kids-up (slots r l) c c' (length (binders l ts)) ts e h

module _ (L : Tree → Type 0) where
  -- more forms above one another, and more open variables
  pub up : (h k : ℕ) → h ≤ k → (r : Role) (a b : ℕ) (t : Tree) → a ≤ b → IsBuilt L h r a t → IsBuilt L k r b t
  up zero zero e r a b t i x = x
  up zero (suc k) e r a b t i x = inl x
  up (suc h) zero e r a b t i x = absurd (not-below e)
    where
      not-below : suc h ≤ zero → ⊥
      not-below e = omega (arith, e)
  up (suc h) (suc k) e r a b t i (inl x) = inl x
  up (suc h) (suc k) e r a b t i (inr x) = inr (node-up (IsBuilt L h) (IsBuilt L k) (λ q c d u j y. up h k (omega (arith, e)) q c d u j y) r a b t i x)

  -- a role that stands for one form: neither a part nor a pattern
  abbrev pub IsForm : Role → Type 0
  IsForm a_part = ⊥
  IsForm (a_pattern k) = ⊥
  IsForm _ = ⊤

  no-leaf : (r : Role) (t : Tree) → IsForm r → IsLeaf L r t → ⊥
  no-leaf a_part t i x = i
  no-leaf (a_pattern k) t i x = i
  no-leaf _ t i x = x

  form-kids : (h : ℕ) (r : Role) (c : ℕ) (l : Label) (ts : Trees) → IsForm r → IsBuiltNode (IsBuilt L h) r c (node l ts) → AreKids (IsBuilt L h) (slots r l) c (length (binders l ts)) ts
  form-kids h a_part c l ts i x = absurd i
  form-kids h (a_pattern k) c l ts i x = absurd i
  form-kids h _ c l ts i x = x

  -- the constituents of such a form
  pub built-kids : (h : ℕ) (r : Role) (c : ℕ) (l : Label) (ts : Trees) → IsForm r → IsBuilt L h r c (node l ts) → AreKids (IsBuilt L h) (slots r l) c (length (binders l ts)) ts
  built-kids zero r c l ts i x = absurd (no-leaf r (node l ts) i x)
  built-kids (suc h) r c l ts i (inl x) = absurd (no-leaf r (node l ts) i x)
  built-kids (suc h) r c l ts i (inr x) =
      kids-up (IsBuilt L h) (IsBuilt L (suc h)) (λ q a b u e y. up h (suc h) (omega arith) q a b u e y) (slots r l) c c (length (binders l ts)) ts (omega arith) (form-kids h r c l ts i x)

  -- a built process binds no variable outside
  module _ (quiet : (t : Tree) → L t → bound t ≡ []) where
    leaf-quiet : (r : Role) (t : Tree) → IsOfProcess r → IsLeaf L r t → bound t ≡ []
    leaf-quiet a_part t o x = quiet t x
    leaf-quiet (a_pattern k) t o x = absurd o
    leaf-quiet _ t o x = absurd x

    kids-quiet : (h : ℕ) → ((r : Role) (c : ℕ) (t : Tree) → IsOfProcess r → IsBuilt L h r c t → bound t ≡ []) → (s : Slots) (c n : ℕ) (ts : Trees) → AreGivenOfProcess s → AreKids (IsBuilt L h) s c n ts → bound_all ts ≡ []
    kids-quiet h f (each_is r) c n none o x = refl
    kids-quiet h f (each_is r) c n (also t ts) o x = both-none (bound t) (bound_all ts) (f r c t o x.0) (kids-quiet h f (each_is r) c n ts o x.1)
    kids-quiet h f (these_are []) c n none o x = refl
    kids-quiet h f (these_are []) c n (also t ts) o x = absurd x
    kids-quiet h f (these_are (r ∷ rs)) c n none o x = absurd x
    kids-quiet h f (these_are (r ∷ rs)) c n (also t none) o x = both-none (bound t) [] (f r (c + n) t o.0.0 x.0) refl
    kids-quiet h f (these_are (r ∷ rs)) c n (also t (also u us)) o x =
        both-none (bound t) (bound_all (also u us)) (f r c t o.0.0 x.0) (kids-quiet h f (these_are rs) c n (also u us) o.1 x.1)
    kids-quiet h f any_kids c n ts o x = absurd o
    kids-quiet h f no_kids c n ts o x = absurd x

    none-quiet : (ts : Trees) → IsNone ts → bound_all ts ≡ []
    none-quiet none h = refl
    none-quiet (also t ts) h = absurd h

    node-quiet : (h : ℕ) → ((r : Role) (c : ℕ) (t : Tree) → IsOfProcess r → IsBuilt L h r c t → bound t ≡ []) → (r : Role) (c : ℕ) (t : Tree) → IsOfProcess r → IsBuiltNode (IsBuilt L h) r c t → bound t ≡ []
    node-quiet h f a_part c (node (var i) ts) o x = none-quiet ts x.1
    node-quiet h f a_part c (node (name_var i) ts) o x = none-quiet ts x.1
    node-quiet h f a_part c (node (receive k) ts) o x = refl
    node-quiet h f a_part c (node (new os) ts) o x = refl
    node-quiet h f a_part c (node match ts) o x = refl
    node-quiet h f a_part c (node (send q) ts) o x = kids-quiet h f (part_slots (send q)) c 0 ts ((tt, tt), ((tt, tt), tt)) x
    node-quiet h f a_part c (node (bundle q) ts) o x = kids-quiet h f (part_slots (bundle q)) c 0 ts ((tt, tt), tt) x
    node-quiet h f a_part c (node (unary q) ts) o x = kids-quiet h f (part_slots (unary q)) c 0 ts ((tt, tt), tt) x
    node-quiet h f a_part c (node (binary q) ts) o x = kids-quiet h f (part_slots (binary q)) c 0 ts ((tt, tt), ((tt, tt), tt)) x
    node-quiet h f a_part c (node (method q) ts) o x = kids-quiet h f (part_slots (method q)) c 0 ts ((tt, tt), ((tt, tt), tt)) x
    node-quiet h f a_part c (node (bool q) ts) o x = kids-quiet h f (these_are []) c 0 ts tt x
    node-quiet h f a_part c (node (int q) ts) o x = kids-quiet h f (these_are []) c 0 ts tt x
    node-quiet h f a_part c (node (str q) ts) o x = kids-quiet h f (these_are []) c 0 ts tt x
    node-quiet h f a_part c (node (uri q) ts) o x = kids-quiet h f (these_are []) c 0 ts tt x
    node-quiet h f a_part c (node (bytes q) ts) o x = kids-quiet h f (these_are []) c 0 ts tt x
    node-quiet h f a_part c (node (fresh q) ts) o x = kids-quiet h f (these_are []) c 0 ts tt x
    node-quiet h f a_part c (node list ts) o x = kids-quiet h f (each_is a_term) c 0 ts tt x
    node-quiet h f a_part c (node tuple ts) o x = kids-quiet h f (each_is a_term) c 0 ts tt x
    node-quiet h f a_part c (node set ts) o x = kids-quiet h f (each_is a_term) c 0 ts tt x
    node-quiet h f a_part c (node dict ts) o x = kids-quiet h f (each_is a_pair) c 0 ts tt x
    node-quiet h f a_part c (node _ ts) o x = absurd x
    node-quiet h f a_term c (node par ts) o x = kids-quiet h f (each_is a_part) c 0 ts tt x
    node-quiet h f a_term c (node _ ts) o x = absurd x
    node-quiet h f a_pair c (node pair ts) o x = kids-quiet h f (these_are (a_term ∷ a_term ∷ [])) c 0 ts ((tt, tt), ((tt, tt), tt)) x
    node-quiet h f a_pair c (node _ ts) o x = absurd x
    node-quiet h f the_terms c (node row ts) o x = kids-quiet h f (each_is a_term) c 0 ts tt x
    node-quiet h f the_terms c (node _ ts) o x = absurd x
    node-quiet h f _ c t o x = absurd o

    pub built-quiet : (h : ℕ) (r : Role) (c : ℕ) (t : Tree) → IsOfProcess r → IsBuilt L h r c t → bound t ≡ []
    built-quiet zero r c t o x = leaf-quiet r t o x
    built-quiet (suc h) r c t o (inl x) = leaf-quiet r t o x
    built-quiet (suc h) r c t o (inr x) = node-quiet h (built-quiet h) r c t o x
