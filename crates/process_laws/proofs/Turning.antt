-- What is built stays built where good parts come in place of open variables, and where nothing comes in place of any.
use Rattle.std.proofs.Common.{◌≡◌, ℕ, zero, suc, ◌+◌, ◌-◌, ◌<◌, ◌≤◌, min, List, [], ◌∷◌, ◌++◌, length, refl, subst, sym, ap, ◌∙◌, arith, inl, inr, append-nil, append_assoc}
use Rattle.std.specs.Prelude.{⊤, leb}
use Rattle.std.proofs.lemmas.Bool.{cond_both, leb-true, leb-false}
use Rattle.calculus.proofs.Members.{Every}
use Rattle.calculus.specs.Tree.{Label, par, row, var, name_var, list, tuple, set, dict, pair, send, receive, bind, new, match, case, bundle, unary, binary, method, Tree, node, Trees, none, also, trees}
use Rattle.calculus.specs.Shape.{leaf, listed, joined_trees}
use Rattle.calculus.specs.Variables.{bound, bound_all, binders}
use Rattle.calculus.specs.Normal.{ascending}
use Rattle.calculus.specs.Substitution.{Change, changed, change, change_all}
use Rattle.calculus.proofs.Placing.{trees-listed}
use Rattle.process_laws.proofs.Lists.{ascending-every}
use Rattle.process_laws.proofs.Goodness.{Role, a_term, a_part, a_pair, the_terms, the_cases, a_case, the_binds, a_bind, a_pattern, Slots, each_is, these_are, any_kids, no_kids, slots}
use Rattle.process_laws.proofs.Moving.{IsOfProcess, IsWhole}
use Rattle.process_laws.proofs.UnfoldingPatterns.{PatternRole, IsTidy, IsSame, tidy-change}
use Rattle.process_laws.proofs.Quiet.{both-none}
use Rattle.process_laws.proofs.Building.{AreNoRoles, AreKids, IsBuiltNode, IsLeaf, IsBuilt, built-quiet}

-- each of these roles stays one tree
abbrev AreWholeRoles : List Role → Type 0
AreWholeRoles [] = ⊤
AreWholeRoles (r ∷ rs) = IsWhole r × AreWholeRoles rs

-- what a form with n variables of its own holds: of any number of constituents it has none, and some in turn stay one tree each
abbrev AreSound : Slots → ℕ → Type 0
AreSound (each_is r) n = n ≡ 0
AreSound (these_are rs) n = AreWholeRoles rs
AreSound _ n = ⊤

sound : (r : Role) (l : Label) (ts : Trees) → AreSound (slots r l) (length (binders l ts))
sound a_term par ts = refl
sound a_term _ ts = tt
sound a_pair pair ts = (tt, (tt, tt))
sound a_pair _ ts = tt
sound the_terms row ts = refl
sound the_terms _ ts = tt
sound the_cases row ts = refl
sound the_cases _ ts = tt
sound a_case case ts = (tt, (tt, tt))
sound a_case _ ts = tt
sound the_binds row ts = refl
sound the_binds _ ts = tt
sound a_bind bind ts = (tt, (tt, (tt, tt)))
sound a_bind _ ts = tt
sound (a_pattern k) l ts = tt
sound a_part list ts = refl
sound a_part tuple ts = refl
sound a_part set ts = refl
sound a_part dict ts = refl
sound a_part (send q) ts = (tt, (tt, tt))
sound a_part (receive q) ts = (tt, (tt, tt))
sound a_part (new q) ts = (tt, tt)
sound a_part match ts = (tt, (tt, tt))
sound a_part (bundle q) ts = (tt, tt)
sound a_part (unary q) ts = (tt, tt)
sound a_part (binary q) ts = (tt, (tt, tt))
sound a_part (method q) ts = (tt, (tt, tt))
sound a_part _ ts = tt

-- at least one tree
abbrev IsThere : Trees → Type 0
IsThere none = ⊥
IsThere (also t ts) = ⊤

bound-joined : (ts us : Trees) → bound_all (joined_trees ts us) ≡ bound_all ts ++ bound_all us
bound-joined none us = refl
bound-joined (also t ts) us = ap (λ xs. bound t ++ xs) (bound-joined ts us) ∙ sym (append_assoc (bound t) (bound_all ts) (bound_all us))

-- a form binds in its last constituent as many as its constituents bind, or a number of its own
binders-same : (l : Label) (ts us : Trees) → bound_all us ≡ bound_all ts → length (binders l us) ≡ length (binders l ts)
binders-same (receive k) ts us e = ap length e
binders-same case ts us e = ap length e
binders-same l ts us e = refl

module _ (L : Tree → Type 0) where
  -- each of these is a leaf
  abbrev pub AreLeaves : Trees → Type 0
  AreLeaves none = ⊤
  AreLeaves (also t ts) = L t × AreLeaves ts

  -- these are built: any number of parts, or one tree of another role
  abbrev pub AreBuiltAs : ℕ → Role → ℕ → Trees → Type 0
  AreBuiltAs h a_part c ts = AreKids (IsBuilt L h) (each_is a_part) c 0 ts
  AreBuiltAs h r c none = ⊥
  AreBuiltAs h r c (also t none) = IsBuilt L h r c t
  AreBuiltAs h r c (also t (also u us)) = ⊥

  pub leaf-built : (h c : ℕ) (t : Tree) → L t → IsBuilt L h a_part c t
  leaf-built zero c t x = x
  leaf-built (suc h) c t x = inl x

  pub leaves-built : (h c : ℕ) (ts : Trees) → AreLeaves ts → AreKids (IsBuilt L h) (each_is a_part) c 0 ts
  leaves-built h c none x = tt
  leaves-built h c (also t ts) x = (leaf-built h c t x.0, leaves-built h c ts x.1)

  -- what may come for an open variable, where c variables are open
  abbrev pub AreUses : ℕ → Trees → Type 0
  AreUses c ts = (h : ℕ) → AreKids (IsBuilt L (suc h)) (each_is a_part) c 0 ts

  module _ (F : Change) where
    -- of c open variables under d inner ones those stay that are among c', and what may come comes for the others
    abbrev pub IsTurn : ℕ → ℕ → ℕ → Type 0
    IsTurn c c' d = (min c d ≤ c') × ((k m e b : ℕ) → e ≡ d + m → b ≡ c' + m → k + d < c → AreUses b (F k e var) × AreUses b (F k e name_var))

    deeper : (c c' d n : ℕ) → IsTurn c c' d → IsTurn (c + n) (c' + n) (d + n)
    deeper c c' d n g = (omega (arith, g.0), λ k m e b p q x. g.1 k (n + m) e b (omega (arith, p)) (omega (arith, q)) (omega (arith, x)))

    still : (c c' d n : ℕ) → n ≡ 0 → IsTurn c c' d → IsTurn c c' (d + n)
    still c c' d n e g = subst (λ (k : ℕ). IsTurn c c' k) (omega (arith, e)) g

    -- a use of a variable
    use-turned : (h c c' d i : ℕ) (form : ℕ → Label) → min c d ≤ c' → i < c → ((x : ℕ) → x < c' → IsBuiltNode (IsBuilt L h) a_part c' (leaf (form x))) → (d ≤ i → AreUses c' (F (i - d) d form))
        → AreKids (IsBuilt L (suc h)) (each_is a_part) c' 0 (changed F d form i)
    use-turned h c c' d i form m x b g =
        cond_both (leb d i) (F (i - d) d form) (also (leaf (form i)) none) (λ ts. AreKids (IsBuilt L (suc h)) (each_is a_part) c' 0 ts)
        (λ e. g (leb-true d i e) h)
        (λ e. (inr (b i (low (leb-false d i e))), tt))
      where
        low : i < d → i < c'
        low y = omega (arith, m, x, y)

    -- what a change comes to: it is built, and binds the same
    abbrev IsTurned : ℕ → Type 0
    IsTurned h = (r : Role) (c c' d : ℕ) (t : Tree) → IsTurn c c' d → IsBuilt L h r c t → AreBuiltAs h r c' (change F d t) × (bound_all (change F d t) ≡ bound t)

    got : (h c n : ℕ) (r : Role) (ts : Trees) → AreBuiltAs h r c ts → AreKids (IsBuilt L h) (each_is r) c n ts
    got h c n a_part ts x = any_n ts x
      where
        any_n : (ts : Trees) → AreKids (IsBuilt L h) (each_is a_part) c 0 ts → AreKids (IsBuilt L h) (each_is a_part) c n ts
        any_n none x = tt
        any_n (also t ts) x = (x.0, any_n ts x.1)
    got h c n r none x = absurd x
    got h c n r (also t none) x = (x, tt)
    got h c n r (also t (also u us)) x = absurd x

    joined : (h c n : ℕ) (r : Role) (ts us : Trees) → AreKids (IsBuilt L h) (each_is r) c n ts → AreKids (IsBuilt L h) (each_is r) c n us → AreKids (IsBuilt L h) (each_is r) c n (joined_trees ts us)
    joined h c n r none us x y = y
    joined h c n r (also t ts) us x y = (x.0, joined h c n r ts us x.1 y)

    last : (h c n : ℕ) (r : Role) (rs : List Role) (ts : Trees) → IsWhole r → AreBuiltAs h r (c + n) ts → AreNoRoles rs → AreKids (IsBuilt L h) (these_are (r ∷ rs)) c n ts
    last h c n a_part rs ts w x y = absurd w
    last h c n r rs none w x y = absurd x
    last h c n r rs (also t none) w x y = (x, y)
    last h c n r rs (also t (also u us)) w x y = absurd x

    more : (h c n : ℕ) (r : Role) (rs : List Role) (ts us : Trees) → IsWhole r → AreBuiltAs h r c ts → AreKids (IsBuilt L h) (these_are rs) c n us → IsThere us → AreKids (IsBuilt L h) (these_are (r ∷ rs)) c n (joined_trees ts us)
    more h c n a_part rs ts us w x y z = absurd w
    more h c n r rs none us w x y z = absurd x
    more h c n r rs (also t none) none w x y z = absurd z
    more h c n r rs (also t none) (also u us) w x y z = (x, y)
    more h c n r rs (also t (also v vs)) us w x y z = absurd x

    some-left : (h c c' n : ℕ) (rs : List Role) (u : Tree) (us vs : Trees) → AreKids (IsBuilt L h) (these_are rs) c n (also u us) → AreKids (IsBuilt L h) (these_are rs) c' n vs → IsThere vs
    some-left h c c' n [] u us vs x y = absurd x
    some-left h c c' n (r ∷ rs) u us none x y = absurd y
    some-left h c c' n (r ∷ rs) u us (also v vs) x y = tt

    last-bound : (t : Tree) (rs : Trees) → bound_all rs ≡ bound t → bound_all rs ≡ bound_all (also t none)
    last-bound t rs e = e ∙ sym (append-nil (bound t))

    more-bound : (t : Tree) (ts rs us : Trees) → bound_all rs ≡ bound t → bound_all us ≡ bound_all ts → bound_all (joined_trees rs us) ≡ bound_all (also t ts)
    more-bound t ts rs us e f = bound-joined rs us ∙ ap (λ xs. xs ++ bound_all us) e ∙ ap (λ xs. bound t ++ xs) f

    kids-turned : (h : ℕ) → IsTurned h → (s : Slots) (c c' d n : ℕ) (ts : Trees) → AreSound s n → IsTurn c c' d → AreKids (IsBuilt L h) s c n ts → AreKids (IsBuilt L h) s c' n (change_all F d n ts)
    kids-turned h ih (each_is r) c c' d n none w g x = tt
    kids-turned h ih (each_is r) c c' d n (also t none) w g x = got h c' n r (change F (d + n) t) (ih r c c' (d + n) t (still c c' d n w g) x.0).0
    kids-turned h ih (each_is r) c c' d n (also t (also u us)) w g x =
        joined h c' n r (change F d t) (change_all F d n (also u us)) (got h c' n r (change F d t) (ih r c c' d t g x.0).0) (kids-turned h ih (each_is r) c c' d n (also u us) w g x.1)
    kids-turned h ih (these_are []) c c' d n none w g x = tt
    kids-turned h ih (these_are []) c c' d n (also t ts) w g x = absurd x
    kids-turned h ih (these_are (r ∷ rs)) c c' d n none w g x = absurd x
    kids-turned h ih (these_are (r ∷ rs)) c c' d n (also t none) w g x =
        last h c' n r rs (change F (d + n) t) w.0 (ih r (c + n) (c' + n) (d + n) t (deeper c c' d n g) x.0).0 x.1
    kids-turned h ih (these_are (r ∷ rs)) c c' d n (also t (also u us)) w g x =
        let y = kids-turned h ih (these_are rs) c c' d n (also u us) w.1 g x.1 in
        more h c' n r rs (change F d t) (change_all F d n (also u us)) w.0 (ih r c c' d t g x.0).0 y (some-left h c c' n rs u us (change_all F d n (also u us)) x.1 y)
    kids-turned h ih any_kids c c' d n ts w g x = tt
    kids-turned h ih no_kids c c' d n ts w g x = absurd x

    -- slots that say what they hold
    abbrev AreGiven : Slots → Type 0
    AreGiven any_kids = ⊥
    AreGiven s = ⊤

    bound-turned : (h : ℕ) → IsTurned h → (s : Slots) (c c' d n : ℕ) (ts : Trees) → AreGiven s → AreSound s n → IsTurn c c' d → AreKids (IsBuilt L h) s c n ts → bound_all (change_all F d n ts) ≡ bound_all ts
    bound-turned h ih (each_is r) c c' d n none v w g x = refl
    bound-turned h ih (each_is r) c c' d n (also t none) v w g x = last-bound t (change F (d + n) t) (ih r c c' (d + n) t (still c c' d n w g) x.0).1
    bound-turned h ih (each_is r) c c' d n (also t (also u us)) v w g x =
        more-bound t (also u us) (change F d t) (change_all F d n (also u us)) (ih r c c' d t g x.0).1 (bound-turned h ih (each_is r) c c' d n (also u us) v w g x.1)
    bound-turned h ih (these_are []) c c' d n none v w g x = refl
    bound-turned h ih (these_are []) c c' d n (also t ts) v w g x = absurd x
    bound-turned h ih (these_are (r ∷ rs)) c c' d n none v w g x = absurd x
    bound-turned h ih (these_are (r ∷ rs)) c c' d n (also t none) v w g x =
        last-bound t (change F (d + n) t) (ih r (c + n) (c' + n) (d + n) t (deeper c c' d n g) x.0).1
    bound-turned h ih (these_are (r ∷ rs)) c c' d n (also t (also u us)) v w g x =
        more-bound t (also u us) (change F d t) (change_all F d n (also u us)) (ih r c c' d t g x.0).1 (bound-turned h ih (these_are rs) c c' d n (also u us) tt w.1 g x.1)
    bound-turned h ih any_kids c c' d n ts v w g x = absurd v
    bound-turned h ih no_kids c c' d n ts v w g x = absurd x

    every : (h c n : ℕ) (r : Role) (ts : Trees) → AreKids (IsBuilt L h) (each_is r) c n ts → Every (IsBuilt L h r c) (listed ts)
    every h c n r none x = tt
    every h c n r (also t ts) x = (x.0, every h c n r ts x.1)

    all-of : (h c n : ℕ) (r : Role) (ts : List Tree) → Every (IsBuilt L h r c) ts → AreKids (IsBuilt L h) (each_is r) c n (trees ts)
    all-of h c n r [] x = tt
    all-of h c n r (t ∷ ts) x = (x.0, all-of h c n r ts x.1)

    sorted-built : (h c n : ℕ) (r : Role) (ts : Trees) → AreKids (IsBuilt L h) (each_is r) c n ts → AreKids (IsBuilt L h) (each_is r) c n (trees (ascending (listed ts)))
    sorted-built h c n r ts x = all-of h c n r (ascending (listed ts)) (ascending-every (IsBuilt L h r c) (listed ts) (every h c n r ts x))

    relisted : (h c n : ℕ) (r : Role) (l : Label) (us : Trees) → length (binders l us) ≡ n → AreKids (IsBuilt L h) (slots r l) c n us
        → AreKids (IsBuilt L h) (slots r l) c (length (binders l (trees (listed us)))) (trees (listed us))
    relisted h c n r l us e x =
        subst (λ (vs : Trees). AreKids (IsBuilt L h) (slots r l) c (length (binders l vs)) vs) (sym (trees-listed us)) (subst (λ (k : ℕ). AreKids (IsBuilt L h) (slots r l) c k us) (sym e) x)

    -- the constituents of a form that is no bag
    steady-turned : (h : ℕ) → IsTurned h → (r : Role) (l : Label) (c c' d : ℕ) (ts : Trees) → AreGiven (slots r l) → IsTurn c c' d → AreKids (IsBuilt L h) (slots r l) c (length (binders l ts)) ts
        → AreKids (IsBuilt L h) (slots r l) c' (length (binders l (trees (listed (change_all F d (length (binders l ts)) ts))))) (trees (listed (change_all F d (length (binders l ts)) ts)))
    steady-turned h ih r l c c' d ts v g x =
        let n = length (binders l ts) in
        relisted h c' n r l (change_all F d n ts) (binders-same l ts (change_all F d n ts) (bound-turned h ih (slots r l) c c' d n ts v (sound r l ts) g x)) (kids-turned h ih (slots r l) c c' d n ts (sound r l ts) g x)

    -- what it binds, where it hides nothing and binds nothing itself
    steady-bound : (h : ℕ) → IsTurned h → (r : Role) (l : Label) (c c' d : ℕ) (ts : Trees) → AreGiven (slots r l) → IsTurn c c' d → AreKids (IsBuilt L h) (slots r l) c (length (binders l ts)) ts
        → bound_all (trees (listed (change_all F d (length (binders l ts)) ts))) ++ [] ≡ bound_all ts
    steady-bound h ih r l c c' d ts v g x =
        let n = length (binders l ts) in
        append-nil (bound_all (trees (listed (change_all F d n ts)))) ∙ ap (λ us. bound_all us) (trees-listed (change_all F d n ts)) ∙ bound-turned h ih (slots r l) c c' d n ts v (sound r l ts) g x

    node-gets : (h : ℕ) → IsTurned h → (r : Role) (c c' d : ℕ) (t : Tree) → IsTurn c c' d → IsBuiltNode (IsBuilt L h) r c t → AreBuiltAs (suc h) r c' (change F d t)
    node-gets h ih a_term c c' d (node par ts) g x = inr (sorted-built h c' 0 a_part (change_all F d 0 ts) (kids-turned h ih (each_is a_part) c c' d 0 ts refl g x))
    node-gets h ih a_term c c' d (node _ ts) g x = absurd x
    node-gets h ih a_pair c c' d (node pair ts) g x = inr (steady-turned h ih a_pair pair c c' d ts tt g x)
    node-gets h ih a_pair c c' d (node _ ts) g x = absurd x
    node-gets h ih the_terms c c' d (node row ts) g x = inr (steady-turned h ih the_terms row c c' d ts tt g x)
    node-gets h ih the_terms c c' d (node _ ts) g x = absurd x
    node-gets h ih the_cases c c' d (node row ts) g x = inr (steady-turned h ih the_cases row c c' d ts tt g x)
    node-gets h ih the_cases c c' d (node _ ts) g x = absurd x
    node-gets h ih a_case c c' d (node case ts) g x = inr (steady-turned h ih a_case case c c' d ts tt g x)
    node-gets h ih a_case c c' d (node _ ts) g x = absurd x
    node-gets h ih the_binds c c' d (node row ts) g x = inr (steady-turned h ih the_binds row c c' d ts tt g x)
    node-gets h ih the_binds c c' d (node _ ts) g x = absurd x
    node-gets h ih a_bind c c' d (node bind ts) g x = inr (steady-turned h ih a_bind bind c c' d ts tt g x)
    node-gets h ih a_bind c c' d (node _ ts) g x = absurd x
    node-gets h ih (a_pattern k) c c' d (node l ts) g x = absurd x
    node-gets h ih a_part c c' d (node (var i) ts) g x = use-turned h c c' d i var g.0 x.0 (λ j y. (y, tt)) (λ e. (g.1 (i - d) 0 d c' (omega arith) (omega arith) (omega (arith, e, x.0))).0)
    node-gets h ih a_part c c' d (node (name_var i) ts) g x = use-turned h c c' d i name_var g.0 x.0 (λ j y. (y, tt)) (λ e. (g.1 (i - d) 0 d c' (omega arith) (omega arith) (omega (arith, e, x.0))).1)
    node-gets h ih a_part c c' d (node par ts) g x = absurd x
    node-gets h ih a_part c c' d (node set ts) g x = (inr (sorted-built h c' 0 a_term (change_all F d 0 ts) (kids-turned h ih (each_is a_term) c c' d 0 ts refl g x)), tt)
    node-gets h ih a_part c c' d (node dict ts) g x = (inr (sorted-built h c' 0 a_pair (change_all F d 0 ts) (kids-turned h ih (each_is a_pair) c c' d 0 ts refl g x)), tt)
    node-gets h ih a_part c c' d (node l ts) g x = (inr (steady-turned h ih a_part l c c' d ts tt g x), tt)

  module _ (quiet : (t : Tree) → L t → bound t ≡ []) (F : Change) (moves : (d : ℕ) (t : Tree) → L t → AreLeaves (change F d t)) where
    parts-quiet : (h c : ℕ) (ts : Trees) → AreKids (IsBuilt L h) (each_is a_part) c 0 ts → bound_all ts ≡ []
    parts-quiet h c none x = refl
    parts-quiet h c (also t ts) x = both-none (bound t) (bound_all ts) (built-quiet L quiet h a_part c t tt x.0) (parts-quiet h c ts x.1)

    gets-quiet : (h : ℕ) (r : Role) (c : ℕ) (ts : Trees) → IsOfProcess r → AreBuiltAs h r c ts → bound_all ts ≡ []
    gets-quiet h a_part c ts o x = parts-quiet h c ts x
    gets-quiet h r c none o x = absurd x
    gets-quiet h r c (also t none) o x = both-none (bound t) [] (built-quiet L quiet h r c t o x) refl
    gets-quiet h r c (also t (also u us)) o x = absurd x

    of-process : (h : ℕ) (r : Role) (c c' : ℕ) (t : Tree) (ts : Trees) → IsOfProcess r → IsBuilt L h r c t → AreBuiltAs h r c' ts → AreBuiltAs h r c' ts × (bound_all ts ≡ bound t)
    of-process h r c c' t ts o x y = (y, gets-quiet h r c' ts o y ∙ sym (built-quiet L quiet h r c t o x))

    node-turned : (h : ℕ) → IsTurned F h → (r : Role) (c c' d : ℕ) (t : Tree) → IsTurn F c c' d → IsBuiltNode (IsBuilt L h) r c t → AreBuiltAs (suc h) r c' (change F d t) × (bound_all (change F d t) ≡ bound t)
    node-turned h ih a_term c c' d t g x = of-process (suc h) a_term c c' t (change F d t) tt (inr x) (node-gets F h ih a_term c c' d t g x)
    node-turned h ih a_part c c' d t g x = of-process (suc h) a_part c c' t (change F d t) tt (inr x) (node-gets F h ih a_part c c' d t g x)
    node-turned h ih a_pair c c' d t g x = of-process (suc h) a_pair c c' t (change F d t) tt (inr x) (node-gets F h ih a_pair c c' d t g x)
    node-turned h ih the_terms c c' d t g x = of-process (suc h) the_terms c c' t (change F d t) tt (inr x) (node-gets F h ih the_terms c c' d t g x)
    node-turned h ih the_cases c c' d (node row ts) g x = (node-gets F h ih the_cases c c' d (node row ts) g x, steady-bound F h ih the_cases row c c' d ts tt g x)
    node-turned h ih the_cases c c' d (node _ ts) g x = absurd x
    node-turned h ih a_case c c' d (node case ts) g x = (node-gets F h ih a_case c c' d (node case ts) g x, steady-bound F h ih a_case case c c' d ts tt g x)
    node-turned h ih a_case c c' d (node _ ts) g x = absurd x
    node-turned h ih the_binds c c' d (node row ts) g x = (node-gets F h ih the_binds c c' d (node row ts) g x, steady-bound F h ih the_binds row c c' d ts tt g x)
    node-turned h ih the_binds c c' d (node _ ts) g x = absurd x
    node-turned h ih a_bind c c' d (node bind ts) g x = (node-gets F h ih a_bind c c' d (node bind ts) g x, steady-bound F h ih a_bind bind c c' d ts tt g x)
    node-turned h ih a_bind c c' d (node _ ts) g x = absurd x
    node-turned h ih (a_pattern k) c c' d (node l ts) g x = absurd x

    pub tidy-built : (h c : ℕ) (k : PatternRole) (p : Tree) → IsTidy k p → IsBuilt L h (a_pattern k) c p
    tidy-built zero c k p x = x
    tidy-built (suc h) c k p x = inl x

    leaf-turned : (h : ℕ) (r : Role) (c c' d : ℕ) (t : Tree) → IsLeaf L r t → IsBuilt L h r c t → AreBuiltAs h r c' (change F d t) × (bound_all (change F d t) ≡ bound t)
    leaf-turned h a_part c c' d t x b = of-process h a_part c c' t (change F d t) tt b (leaves-built h c' (change F d t) (moves d t x))
    leaf-turned h (a_pattern k) c c' d t x b = tidy-got (change F d t) (tidy-change F k d t x)
      where
        tidy-got : (ts : Trees) → IsSame k t ts → AreBuiltAs h (a_pattern k) c' ts × (bound_all ts ≡ bound t)
        tidy-got none y = absurd y
        tidy-got (also u none) y = (tidy-built h c' k u y.0, append-nil (bound u) ∙ y.1)
        tidy-got (also u (also w ws)) y = absurd y
    leaf-turned h _ c c' d t x b = absurd x

    pub built-turned : (h : ℕ) (r : Role) (c c' d : ℕ) (t : Tree) → IsTurn F c c' d → IsBuilt L h r c t → AreBuiltAs h r c' (change F d t) × (bound_all (change F d t) ≡ bound t)
    built-turned zero r c c' d t g x = leaf-turned zero r c c' d t x x
    built-turned (suc h) r c c' d t g (inl x) = leaf-turned (suc h) r c c' d t x (inl x)
    built-turned (suc h) r c c' d t g (inr x) = node-turned h (built-turned h) r c c' d t g x
