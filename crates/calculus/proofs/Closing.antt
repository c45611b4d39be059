-- Closed values for the variables of a body, and other variables for them.
use Rattle.std.proofs.Common.{◌≡◌, ℕ, zero, suc, ◌<◌, ◌≤◌, ◌+◌, ◌-◌, Bool, true, false, ltb, List, [], ◌∷◌, ◌++◌, length, reverse, get_or, refl, sym, ◌∙◌, subst, arith, All}
use Rattle.std.proofs.lemmas.Bool.{ltb-true, ltb-false}
use Rattle.std.proofs.lemmas.List.{length-reverse, get_or-reverse}
use Rattle.calculus.specs.Tree.{par, Tree, node, Trees, none, also, trees}
use Rattle.calculus.specs.Shape.{leaf, held, at}
use Rattle.calculus.specs.Variables.{Sense}
use Rattle.calculus.specs.Substitution.{Change, change, the_one, put, renumber}
use Rattle.calculus.specs.Form.{term, part, all, Scope, HasVariable, Fits, Hold, IsClosed}
use Rattle.calculus.specs.SubstitutionLaws.{PutIsClosed, RenumberFits}
use Rattle.calculus.proofs.Weakening.{weaken_kids}
use Rattle.calculus.proofs.Placing.{trees-listed}
use Rattle.calculus.proofs.Changing.{leaf_fits, Good}
use Rattle.calculus.proofs.Changed.{One}
use Rattle.calculus.proofs.Substituting.{whole}

inner_variable : (o x y : Scope) (i : ℕ) (s : Sense) → i < length o → HasVariable (o ++ x) i s → HasVariable (o ++ y) i s
inner_variable [] x y i s l h = absurd (omega arith)
inner_variable (q ∷ o) x y zero s l h = h
inner_variable (q ∷ o) x y (suc i) s l h = inner_variable o x y i s (omega arith) h

outer_variable : (o x : Scope) (e i : ℕ) (s : Sense) → e ≡ length o → e ≤ i → HasVariable (o ++ x) i s → HasVariable x (i - e) s
outer_variable [] x e i s b l h = subst (λ (k : ℕ). HasVariable x k s) (omega arith) h
outer_variable (q ∷ o) x e zero s b l h = absurd (omega arith)
outer_variable (q ∷ o) x e (suc i) s b l h =
    subst (λ (k : ℕ). HasVariable x k s) (omega arith) (outer_variable o x (e - 1) i s (omega arith) (omega arith) h)

inside_variable : (o w : Scope) (e j : ℕ) (s : Sense) → e ≡ length o → HasVariable w j s → HasVariable (o ++ w) (j + e) s
inside_variable [] w e j s b h = subst (λ (k : ℕ). HasVariable w k s) (omega arith) h
inside_variable (q ∷ o) w e j s b h =
    let z : suc (j + (e - 1)) ≡ j + e = omega arith in
    subst (λ (k : ℕ). HasVariable (q ∷ (o ++ w)) k s) z (inside_variable o w (e - 1) j s (omega arith) h)

-- the only tree of a list of one
only_one : (x : Scope) (t : Tree) (rs : Trees) → One term x t rs → Fits term x (the_one rs)
only_one x t rs r = subst (λ (us : Trees). Fits term x (the_one us)) (sym r.1) r.2

parts_of : (t : Tree) → IsClosed t → Hold (all part) [] [] (trees (held t))
parts_of (node par ts) h = rw (trees-listed ts) h.1
parts_of (node _ ts) h = absurd h.1

at-get_or : (k : ℕ) (ts : List Tree) → k < length ts → at k ts ≡ get_or ts k (leaf par)
at-get_or k [] h = absurd (omega arith)
at-get_or zero (t ∷ ts) h = refl
at-get_or (suc k) (t ∷ ts) h = at-get_or k ts (omega arith)

at-beyond : (k : ℕ) (ts : List Tree) → length ts ≤ k → at k ts ≡ leaf par
at-beyond k [] h = refl
at-beyond zero (t ∷ ts) h = absurd (omega arith)
at-beyond (suc k) (t ∷ ts) h = at-beyond k ts (omega arith)

closed_value : (vs : List Tree) (k : ℕ) → All IsClosed vs → IsClosed (at k (reverse vs))
closed_value vs k h = go (ltb k (length vs)) refl
  where
    go : (b : Bool) → ltb k (length vs) ≡ b → IsClosed (at k (reverse vs))
    go true e =
        let l = ltb-true k (length vs) e in
        let q = at-get_or k (reverse vs) (omega (arith, length-reverse vs)) ∙ get_or-reverse vs k (leaf par) l in
        subst IsClosed (sym q) (h (length vs - 1 - k) (leaf par) (omega arith))
    go false e = subst IsClosed (sym (at-beyond k (reverse vs) (omega (arith, length-reverse vs, ltb-false k (length vs) e)))) (tt, tt)

-- the values in turn
abbrev valued : List Tree → Change
valued vs = λ k d form. trees (held (at k (reverse vs)))

values_good : (v : Scope) (vs : List Tree) → ((k : ℕ) → IsClosed (at k (reverse vs))) → Good (valued vs) 0 v []
values_good v vs a o e i s b h = (
  λ l. inner_variable o v [] i s (omega arith) h,
  λ l. weaken_kids (all part) [] (o ++ []) [] (trees (held (at (i - e) (reverse vs)))) (parts_of (at (i - e) (reverse vs)) (a (i - e))),
)

-- a body with closed values put in is closed, however many they are
pub put_closed : (v : Scope) (t : Tree) (vs : List Tree) → Fits term v t → ((k : ℕ) → IsClosed (at k (reverse vs))) → IsClosed (put vs t)
unfolding put
put_closed v t vs h a = only_one [] t (change (valued vs) 0 t) (whole (valued vs) term 0 v [] t tt (values_good v vs a) h)

pub put_is_closed : PutIsClosed
put_is_closed v t vs h n a = put_closed v t vs h (λ k. closed_value vs k a)

-- the new indices
abbrev numbered : (ℕ → ℕ) → Change
numbered f = λ k d form. also (leaf (form (f k + d))) none

numbers_good : (v w : Scope) (f : ℕ → ℕ) → ((i : ℕ) (s : Sense) → HasVariable v i s → HasVariable w (f i) s) → Good (numbered f) 0 v w
numbers_good v w f g o e i s b h = (
  λ l. inner_variable o v w i s (omega arith) h,
  λ l. (leaf_fits (o ++ w) (f (i - e) + e) s (inside_variable o w e (f (i - e)) s (omega arith) (g (i - e) s (outer_variable o v e i s (omega arith) l h))), tt),
)

pub renumber_fits : RenumberFits
unfolding renumber
renumber_fits v w f t h g =
    only_one w t (change (numbered f) 0 t) (whole (numbered f) term 0 v w t tt (numbers_good v w f g) h)
