-- Well-formed trees are built of forms alone.
use Rattle.std.proofs.Common.{◌≡◌, ℕ, zero, suc, ◌+◌, ◌≤◌, Bool, true, false, cond, List, [], ◌∷◌, ◌++◌, length, reverse, refl, sym, arith, inl, inr, length-append}
use Rattle.std.specs.Prelude.{⊤, leb}
use Rattle.std.proofs.lemmas.List.{length-reverse}
use Rattle.calculus.specs.Tree.{Label, par, row, var, name_var, list, tuple, set, dict, pair, send, receive, bind, new, match, case, bundle, unary, binary, method, pattern, rest, any, some_process, some_name, simple, same, both, either, not_this, list_pattern, set_pattern, map_pattern, Tree, node, Trees, none, also, weight, weights}
use Rattle.calculus.specs.Shape.{count}
use Rattle.calculus.specs.Variables.{Sense, a_process, a_name, binders}
use Rattle.calculus.specs.Form.{Sort, term, part, a_bind as bind_sort, a_case as case_sort, a_rest as rest_sort, pat, name_pat, pat_part as pat_part_sort, name_part, row_of, pair_of, Kids as Holds, all, these, no_form, part_kids, pat_kids, name_kids, kids, Scope, outer, AreNone, Fits, Hold}
use Rattle.calculus.proofs.Ranges.{in_scope}
use Rattle.process_laws.proofs.UnfoldingPatterns.{PatternRole, a_pat, pat_part, pat_pair, the_pats, the_pairs, a_rest, PatternSlots, all_pats, these_pats, any_pats, pattern_part_slots, pattern_slots, IsTidy, AreTidy}
use Rattle.process_laws.proofs.Goodness.{Role, a_term, a_part, a_pair, the_terms, the_cases, a_case, the_binds, a_bind, a_pattern, Slots, each_is, these_are, part_slots, slots}
use Rattle.process_laws.proofs.Building.{IsNone, AreNoRoles, AreKids, IsBuiltNode, IsBuilt, up}

-- the role in a pattern of a tree of this sort
abbrev pub IsReadAs : Sort → PatternRole → Type 0
IsReadAs pat a_pat = ⊤
IsReadAs name_pat a_pat = ⊤
IsReadAs pat_part_sort pat_part = ⊤
IsReadAs name_part pat_part = ⊤
IsReadAs rest_sort a_rest = ⊤
IsReadAs (row_of s) the_pats = IsReadAs s a_pat
IsReadAs (row_of s) the_pairs = IsReadAs s pat_pair
IsReadAs (pair_of s) pat_pair = IsReadAs s a_pat
IsReadAs _ _ = ⊥

-- each of these sorts has this role
abbrev AreReadAs : List Sort → List PatternRole → Type 0
AreReadAs [] [] = ⊤
AreReadAs (s ∷ ss) (k ∷ ks) = IsReadAs s k × AreReadAs ss ks
AreReadAs _ _ = ⊥

-- what a sort holds has the roles that a role of patterns holds
abbrev AreReadIn : Holds → PatternSlots → Type 0
AreReadIn p any_pats = ⊤
AreReadIn no_form q = ⊤
AreReadIn (all s) (all_pats k) = IsReadAs s k
AreReadIn (these ss) (these_pats ks) = AreReadAs ss ks
AreReadIn _ _ = ⊥

part-alike : (l : Label) → AreReadIn (pat_kids l) (pattern_part_slots l)
part-alike any = tt
part-alike some_process = tt
part-alike (simple k) = tt
part-alike same = tt
part-alike both = (tt, (tt, tt))
part-alike either = (tt, (tt, tt))
part-alike not_this = (tt, tt)
part-alike list_pattern = (tt, (tt, tt))
part-alike tuple = tt
part-alike set_pattern = (tt, (tt, tt))
part-alike map_pattern = (tt, (tt, tt))
part-alike (send q) = (tt, (tt, tt))
part-alike (bundle r) = (tt, tt)
part-alike _ = tt

name-alike : (l : Label) → AreReadIn (name_kids l) (pattern_part_slots l)
name-alike some_name = tt
name-alike par = tt
name-alike l = part-alike l

either-alike : (b : Bool) → AreReadIn (cond b (all name_part) (all pat_part_sort)) (all_pats pat_part)
either-alike true = tt
either-alike false = tt

kids-alike : (s : Sort) (k : PatternRole) (l : Label) (n : ℕ) → IsReadAs s k → AreReadIn (kids s l n) (pattern_slots k l)
kids-alike pat a_pat pattern n r = tt
kids-alike pat a_pat _ n r = tt
kids-alike name_pat a_pat pattern n r = either-alike (leb n 1)
kids-alike name_pat a_pat _ n r = tt
kids-alike pat_part_sort pat_part l n r = part-alike l
kids-alike name_part pat_part l n r = name-alike l
kids-alike rest_sort a_rest (rest x) n r = tt
kids-alike rest_sort a_rest _ n r = tt
kids-alike (row_of s) the_pats row n r = r
kids-alike (row_of s) the_pats _ n r = tt
kids-alike (row_of s) the_pairs row n r = r
kids-alike (row_of s) the_pairs _ n r = tt
kids-alike (pair_of s) pat_pair pair n r = (r, (r, tt))
kids-alike (pair_of s) pat_pair _ n r = tt
kids-alike _ _ l n r = absurd r

no-more : (ss : List Sort) (ks : List PatternRole) → AreReadAs ss ks → AreNone ss → AreTidy (these_pats ks) none
no-more [] [] e a = tt
no-more [] (k ∷ ks) e a = absurd e
no-more (s ∷ ss) ks e a = absurd a

mutual
  pub fits-tidy : (s : Sort) (k : PatternRole) (v : Scope) (t : Tree) → IsReadAs s k → Fits s v t → IsTidy k t
  fits-tidy s k v (node l ts) r f = hold-tidy (kids s l (count ts)) (pattern_slots k l) (outer s l v) (reverse (binders l ts)) ts (kids-alike s k l (count ts) r) f.1

  hold-tidy : (p : Holds) (q : PatternSlots) (v : Scope) (o : List Sense) (ts : Trees) → AreReadIn p q → Hold p v o ts → AreTidy q ts
  hold-tidy p any_pats v o ts a h = tt
  hold-tidy no_form q v o ts a h = absurd h
  hold-tidy (all s) (all_pats k) v o none a h = tt
  hold-tidy (all s) (all_pats k) v o (also t ts) a h = (fits-tidy s k v t a h.0, hold-tidy (all s) (all_pats k) v o ts a h.1)
  hold-tidy (all s) _ v o ts a h = absurd a
  hold-tidy (these []) (these_pats []) v o none a h = tt
  hold-tidy (these []) (these_pats []) v o (also t ts) a h = absurd h
  hold-tidy (these []) (these_pats (k ∷ ks)) v o ts a h = absurd a
  hold-tidy (these (s ∷ ss)) (these_pats []) v o ts a h = absurd a
  hold-tidy (these (s ∷ ss)) (these_pats (k ∷ ks)) v o none a h = absurd h
  hold-tidy (these (s ∷ ss)) (these_pats (k ∷ ks)) v o (also t none) a h = (fits-tidy s k (o ++ v) t a.0 h.0, no-more ss ks a.1 h.1)
  hold-tidy (these (s ∷ ss)) (these_pats (k ∷ ks)) v o (also t (also u us)) a h = (fits-tidy s k v t a.0 h.0, hold-tidy (these ss) (these_pats ks) v o (also u us) a.1 h.1)
  hold-tidy (these ss) _ v o ts a h = absurd a

-- the role of a tree of this sort
abbrev pub StandsFor : Sort → Role → Type 0
StandsFor term a_term = ⊤
StandsFor part a_part = ⊤
StandsFor case_sort a_case = ⊤
StandsFor bind_sort a_bind = ⊤
StandsFor (pair_of s) a_pair = StandsFor s a_term
StandsFor (row_of s) the_terms = StandsFor s a_term
StandsFor (row_of s) the_cases = StandsFor s a_case
StandsFor (row_of s) the_binds = StandsFor s a_bind
StandsFor s (a_pattern k) = IsReadAs s k
StandsFor _ _ = ⊥

-- each of these sorts has this role
abbrev StandFor : List Sort → List Role → Type 0
StandFor [] [] = ⊤
StandFor (s ∷ ss) (r ∷ rs) = StandsFor s r × StandFor ss rs
StandFor _ _ = ⊥

-- what a sort holds has the roles that a role holds
abbrev StandIn : Holds → Slots → Type 0
StandIn no_form q = ⊤
StandIn (all s) (each_is r) = StandsFor s r
StandIn (these ss) (these_are rs) = StandFor ss rs
StandIn _ _ = ⊥

-- no use of a variable
abbrev IsNoUse : Label → Type 0
IsNoUse (var i) = ⊥
IsNoUse (name_var i) = ⊥
IsNoUse _ = ⊤

part-agree : (l : Label) → IsNoUse l → StandIn (part_kids l) (part_slots l)
part-agree (var i) u = absurd u
part-agree (name_var i) u = absurd u
part-agree list u = tt
part-agree tuple u = tt
part-agree set u = tt
part-agree dict u = tt
part-agree (send q) u = (tt, (tt, tt))
part-agree (receive k) u = (tt, (tt, tt))
part-agree (new os) u = (tt, tt)
part-agree match u = (tt, (tt, tt))
part-agree (bundle r) u = (tt, tt)
part-agree (unary o) u = (tt, tt)
part-agree (binary o) u = (tt, (tt, tt))
part-agree (method n) u = (tt, (tt, tt))
part-agree _ u = tt

module _ (L : Tree → Type 0) where
  no-roles : (ss : List Sort) (rs : List Role) → StandFor ss rs → AreNone ss → AreNoRoles rs
  no-roles [] [] e a = tt
  no-roles [] (r ∷ rs) e a = absurd e
  no-roles (s ∷ ss) rs e a = absurd a

  -- what a built tree is to be of a tree that fits
  abbrev BuildsAll : ℕ → Type 0
  BuildsAll h = (s : Sort) (r : Role) (v : Scope) (t : Tree) → StandsFor s r → weight t ≤ h → Fits s v t → IsBuilt L h r (length v) t

  hold-built : (h : ℕ) → BuildsAll h → (p : Holds) (q : Slots) (v : Scope) (o : List Sense) (n : ℕ) (ts : Trees) → StandIn p q → n ≡ length o → weights ts ≤ h → Hold p v o ts → AreKids (IsBuilt L h) q (length v) n ts
  hold-built h f no_form q v o n ts a e w x = absurd x
  hold-built h f (all s) (each_is r) v o n none a e w x = tt
  hold-built h f (all s) (each_is r) v o n (also t ts) a e w x =
      (f s r v t a (omega (arith, w)) x.0, hold-built h f (all s) (each_is r) v o n ts a e (omega (arith, w)) x.1)
  hold-built h f (all s) _ v o n ts a e w x = absurd a
  hold-built h f (these []) (these_are []) v o n none a e w x = tt
  hold-built h f (these []) (these_are []) v o n (also t ts) a e w x = absurd x
  hold-built h f (these []) (these_are (r ∷ rs)) v o n ts a e w x = absurd a
  hold-built h f (these (s ∷ ss)) (these_are []) v o n ts a e w x = absurd a
  hold-built h f (these (s ∷ ss)) (these_are (r ∷ rs)) v o n none a e w x = absurd x
  hold-built h f (these (s ∷ ss)) (these_are (r ∷ rs)) v o n (also t none) a e w x =
      (up L h h (omega arith) r (length (o ++ v)) (length v + n) t (omega (arith, e, length-append o v)) (f s r (o ++ v) t a.0 (omega (arith, w)) x.0), no-roles ss rs a.1 x.1)
  hold-built h f (these (s ∷ ss)) (these_are (r ∷ rs)) v o n (also t (also u us)) a e w x =
      (f s r v t a.0 (omega (arith, w)) x.0, hold-built h f (these ss) (these_are rs) v o n (also u us) a.1 e (omega (arith, w)) x.1)
  hold-built h f (these ss) _ v o n ts a e w x = absurd a

  none-held : (v : Scope) (o : List Sense) (ts : Trees) → Hold (these []) v o ts → IsNone ts
  none-held v o none x = tt
  none-held v o (also t ts) x = absurd x

  own-length : (l : Label) (ts : Trees) → length (binders l ts) ≡ length (reverse (binders l ts))
  own-length l ts = sym (length-reverse (binders l ts))

  part-node : (h : ℕ) → BuildsAll h → (l : Label) (v : Scope) (ts : Trees) → weights ts ≤ h → Fits part v (node l ts) → IsBuiltNode (IsBuilt L h) a_part (length v) (node l ts)
  part-node h f (var i) v ts w x = (in_scope v i a_process x.0, none-held v [] ts x.1)
  part-node h f (name_var i) v ts w x = (in_scope v i a_name x.0, none-held v [] ts x.1)
  part-node h f l v ts w x = hold-built h f (part_kids l) (part_slots l) v (reverse (binders l ts)) (length (binders l ts)) ts (part-agree l tt) (own-length l ts) w x.1

  node-built : (h : ℕ) → BuildsAll h → (s : Sort) (r : Role) (v : Scope) (l : Label) (ts : Trees) → StandsFor s r → weights ts ≤ h → Fits s v (node l ts) → IsBuilt L (suc h) r (length v) (node l ts)
  node-built h f term a_term v par ts a w x = inr (hold-built h f (all part) (each_is a_part) v [] 0 ts tt refl w x.1)
  node-built h f term a_term v _ ts a w x = absurd x.1
  node-built h f part a_part v l ts a w x = inr (part-node h f l v ts w x)
  node-built h f case_sort a_case v case ts a w x = inr (hold-built h f (these (pat ∷ term ∷ [])) (slots a_case case) v (reverse (binders case ts)) (length (binders case ts)) ts (tt, (tt, tt)) (own-length case ts) w x.1)
  node-built h f case_sort a_case v _ ts a w x = absurd x.1
  node-built h f bind_sort a_bind v bind ts a w x = inr (hold-built h f (these (term ∷ row_of name_pat ∷ rest_sort ∷ [])) (slots a_bind bind) v [] 0 ts (tt, (tt, (tt, tt))) refl w x.1)
  node-built h f bind_sort a_bind v _ ts a w x = absurd x.1
  node-built h f (pair_of s) a_pair v pair ts a w x = inr (hold-built h f (these (s ∷ s ∷ [])) (slots a_pair pair) v [] 0 ts (a, (a, tt)) refl w x.1)
  node-built h f (pair_of s) a_pair v _ ts a w x = absurd x.1
  node-built h f (row_of s) the_terms v row ts a w x = inr (hold-built h f (all s) (each_is a_term) v [] 0 ts a refl w x.1)
  node-built h f (row_of s) the_terms v _ ts a w x = absurd x.1
  node-built h f (row_of s) the_cases v row ts a w x = inr (hold-built h f (all s) (each_is a_case) v [] 0 ts a refl w x.1)
  node-built h f (row_of s) the_cases v _ ts a w x = absurd x.1
  node-built h f (row_of s) the_binds v row ts a w x = inr (hold-built h f (all s) (each_is a_bind) v [] 0 ts a refl w x.1)
  node-built h f (row_of s) the_binds v _ ts a w x = absurd x.1
  node-built h f s (a_pattern k) v l ts a w x = inl (fits-tidy s k v (node l ts) a x)
  node-built h f _ _ v l ts a w x = absurd a

  pub fits-built : (h : ℕ) → BuildsAll h
  fits-built zero s r v (node l ts) a w x = absurd (not-so (weights ts) w)
    where
      not-so : (n : ℕ) → n + 1 ≤ 0 → ⊥
      not-so n w = omega (arith, w)
  fits-built (suc h) s r v (node l ts) a w x = node-built h (fits-built h) s r v l ts a (omega (arith, w)) x
