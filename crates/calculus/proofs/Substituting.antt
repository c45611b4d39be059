-- Changing the uses of outer variables keeps a tree well formed.
use Rattle.std.proofs.Common.{◌≡◌, ℕ, ◌+◌, false, List, [], ◌∷◌, ◌++◌, length, reverse, refl, sym, ap, ◌∙◌, subst, arith}
use Rattle.std.specs.Prelude.{⊤}
use Rattle.std.proofs.lemmas.List.{length-reverse}
use Rattle.calculus.specs.Tree.{Label, par, set, dict, var, name_var, receive, new, case, Tree, node, Trees, none, also}
use Rattle.calculus.specs.Shape.{count, listed, joined_trees}
use Rattle.calculus.specs.Variables.{Sense, a_process, a_name, binders}
use Rattle.calculus.specs.Congruence.{is_bag}
use Rattle.calculus.specs.Substitution.{Change, change, change_all}
use Rattle.calculus.specs.Form.{Sort, term, part, pair_of, Kids, all, these, no_form, part_kids, kids, Scope, outer, AreNone, Fits, Hold}
use Rattle.calculus.proofs.Kept.{Whole, AllWhole, part_whole, holds_whole, like}
use Rattle.calculus.proofs.PlainKept.{NoVariable}
use Rattle.calculus.proofs.Placing.{trees-listed, ascending_hold, joined_hold, made-steady}
use Rattle.calculus.proofs.Changing.{Good, deeper, outer_good, variable_good}
use Rattle.calculus.proofs.Changed.{One, Done, change-node, node_fits, whole_done, term_done}

-- a form with any number of constituents binds no variable of its own
abbrev NoOwn : Kids → List Sense → Type 0
NoOwn (all s) o = o ≡ []
NoOwn _ o = ⊤

none_own : (p : Kids) → NoOwn p []
none_own (all s) = refl
none_own (these ss) = tt
none_own no_form = tt

no_own : (l : Label) (s : Sort) (n : ℕ) (ts : Trees) → NoOwn (kids s l n) (reverse (binders l ts))
no_own (receive k) term n ts = tt
no_own (receive k) _ n ts = tt
no_own (new os) term n ts = tt
no_own (new os) _ n ts = tt
no_own case term n ts = tt
no_own case _ n ts = tt
no_own l s n ts = none_own (kids s l n)

module _ (s : Sort) (y : Scope) (o : List Sense) (t : Tree) (rs : Trees) where
  last_all : One s y t rs → Done (all s) y o (also t none) rs
  last_all r = subst (λ (us : Trees). Done (all s) y o (also t none) us) (sym r.1) ((r.2, tt), (r.3, tt))

  last_these : (ss : List Sort) → One s (o ++ y) t rs → AreNone ss → Done (these (s ∷ ss)) y o (also t none) rs
  last_these [] r a = subst (λ (us : Trees). Done (these (s ∷ [])) y o (also t none) us) (sym r.1) ((r.2, tt), (r.3, tt))
  last_these (q ∷ ss) r a = absurd a

  more_all : (v : Tree) (vs zs : Trees) → One s y t rs → Done (all s) y o (also v vs) zs → Done (all s) y o (also t (also v vs)) (joined_trees rs zs)
  more_all v vs zs r k =
      subst (λ (us : Trees). Done (all s) y o (also t (also v vs)) (joined_trees us zs)) (sym r.1) ((r.2, k.0), (r.3, k.1))

  -- more follow on the one side, so more follow on the other
  first_hold : (ss : List Sort) (v : Tree) (vs zs : Trees) (u : Tree) → Fits s y u → Done (these ss) y o (also v vs) zs → Hold (these (s ∷ ss)) y o (also u zs)
  first_hold ss v vs none u f k = absurd (like (these ss) (also v vs) none k.1)
  first_hold ss v vs (also z zs) u f k = (f, k.0)

  more_these : (ss : List Sort) (v : Tree) (vs zs : Trees) → One s y t rs → Done (these ss) y o (also v vs) zs → Done (these (s ∷ ss)) y o (also t (also v vs)) (joined_trees rs zs)
  more_these ss v vs zs r k =
      subst (λ (us : Trees). Done (these (s ∷ ss)) y o (also t (also v vs)) (joined_trees us zs)) (sym r.1) (first_hold ss v vs zs r.0 r.2 k, (r.3, k.1))

module _ (F : Change) where
  steady_part : (d : ℕ) (x y : Scope) (l : Label) (ts : Trees) → NoVariable l → is_bag l ≡ false → Fits part x (node l ts)
      → Done (part_kids l) y (reverse (binders l ts)) ts (change_all F d (length (binders l ts)) ts) → Hold (all part) y [] (change F d (node l ts))
  steady_part d x y l ts v b h k =
      let us = change_all F d (length (binders l ts)) ts in
      subst (λ (rs : Trees). Hold (all part) y [] rs) (sym (change-node F d l ts v ∙ ap (λ u. also u none) (made-steady l us b))) (node_fits part l ts us x y v h.0 k, tt)

  part_done : (d : ℕ) (x y : Scope) (l : Label) (ts : Trees) → Good F d x y → Fits part x (node l ts)
      → Done (part_kids l) y (reverse (binders l ts)) ts (change_all F d (length (binders l ts)) ts) → Hold (all part) y [] (change F d (node l ts))
  part_done d x y (var i) ts g h k = variable_good F d x y i a_process g h.0
  part_done d x y (name_var i) ts g h k = variable_good F d x y i a_name g h.0
  part_done d x y par ts g h k = absurd h.1
  part_done d x y set ts g h k = ((tt, ascending_hold term y [] (listed (change_all F d 0 ts)) (rw (trees-listed (change_all F d 0 ts)) k.0)), tt)
  part_done d x y dict ts g h k =
      ((tt, ascending_hold (pair_of term) y [] (listed (change_all F d 0 ts)) (rw (trees-listed (change_all F d 0 ts)) k.0)), tt)
  part_done d x y l ts g h k = steady_part d x y l ts tt refl h k

  mutual
    -- a tree that stays one tree
    pub whole : (s : Sort) (d : ℕ) (x y : Scope) (t : Tree) → Whole s → Good F d x y → Fits s x t → One s y t (change F d t)
    whole term d x y (node l ts) o g h = term_done F d x y l ts h (λ k. parts_kids d 0 x y ts (omega arith) g k)
    whole s d x y (node l ts) o g h =
        whole_done F d x y s l ts o tt h
        (whole_kids (kids s l (count ts)) (length (binders l ts)) d (outer s l x) (outer s l y) (reverse (binders l ts)) ts (holds_whole s l (count ts) o tt) (sym (length-reverse (binders l ts)))
        (no_own l s (count ts) ts) (outer_good F s l d x y g) h.1)

    -- a part of a process, which may become any number of parts
    parts : (d : ℕ) (x y : Scope) (t : Tree) → Good F d x y → Fits part x t → Hold (all part) y [] (change F d t)
    parts d x y (node l ts) g h =
        part_done d x y l ts g h
        (whole_kids (part_kids l) (length (binders l ts)) d x y (reverse (binders l ts)) ts (part_whole l) (sym (length-reverse (binders l ts))) (no_own l part (count ts) ts) g h.1)

    parts_kids : (d n : ℕ) (x y : Scope) (ts : Trees) → d + n ≡ d → Good F d x y → Hold (all part) x [] ts → Hold (all part) y [] (change_all F d n ts)
    parts_kids d n x y none e g h = tt
    parts_kids d n x y (also t none) e g h = subst (λ (k : ℕ). Hold (all part) y [] (change F k t)) (sym e) (parts d x y t g h.0)
    parts_kids d n x y (also t (also v vs)) e g h =
        joined_hold part y [] (change F d t) (change_all F d n (also v vs)) (parts d x y t g h.0) (parts_kids d n x y (also v vs) e g h.1)

    whole_kids : (p : Kids) (n d : ℕ) (x y : Scope) (o : List Sense) (ts : Trees) → AllWhole p → n ≡ length o → NoOwn p o → Good F d x y → Hold p x o ts → Done p y o ts (change_all F d n ts)
    whole_kids (all s) n d x y o none w e q g h = (tt, tt)
    whole_kids (all s) n d x y o (also t none) w e q g h =
        let z : d + n ≡ d = omega (arith, ap length q) in
        subst (λ (k : ℕ). Done (all s) y o (also t none) (change F k t)) (sym z) (last_all s y o t (change F d t) (whole s d x y t w g h.0))
    whole_kids (all s) n d x y o (also t (also v vs)) w e q g h =
        more_all s y o t (change F d t) v vs (change_all F d n (also v vs)) (whole s d x y t w g h.0) (whole_kids (all s) n d x y o (also v vs) w e q g h.1)
    whole_kids (these []) n d x y o none w e q g h = (tt, tt)
    whole_kids (these []) n d x y o (also t ts) w e q g h = absurd h
    whole_kids (these (s ∷ ss)) n d x y o none w e q g h = absurd h
    whole_kids (these (s ∷ ss)) n d x y o (also t none) w e q g h =
        last_these s y o t (change F (d + n) t) ss (whole s (d + n) (o ++ x) (o ++ y) t w.0 (deeper F d n x y o e g) h.0) h.1
    whole_kids (these (s ∷ ss)) n d x y o (also t (also v vs)) w e q g h =
        more_these s y o t (change F d t) ss v vs (change_all F d n (also v vs)) (whole s d x y t w.0 g h.0) (whole_kids (these ss) n d x y o (also v vs) w.1 e tt g h.1)
    whole_kids no_form n d x y o ts w e q g h = absurd h
