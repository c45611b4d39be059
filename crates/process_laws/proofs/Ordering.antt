-- A receive is closed with its binds in the order of their channels' codes.
use Rattle.std.proofs.Common.{◌≡◌, ℕ, suc, ◌+◌, Bool, true, false, cond, List, [], ◌∷◌, ◌++◌, length, reverse, map as each, refl, sym, ap, ◌∙◌, subst, arith, append-nil}
use Rattle.std.proofs.lemmas.List.{length-map}
use Rattle.calculus.proofs.Members.{Every, every-each}
use Rattle.calculus.specs.Tree.{row, Tree, none, also, trees}
use Rattle.calculus.specs.Shape.{at, held, listed, many}
use Rattle.calculus.specs.Order.{up_to}
use Rattle.calculus.specs.Code.{code}
use Rattle.calculus.specs.Variables.{bound, bound_all}
use Rattle.calculus.specs.Form.{term, a_bind, all, Scope, Fits, Hold}
use Rattle.calculus.specs.Normal.{placed_by, by_code}
use Rattle.calculus.specs.Substitution.{renumber}
use Rattle.calculus.specs.Unfolding.{Placed, placed_from, sorted_binds, all_places, new_index}
use Rattle.calculus.proofs.Changed.{no_variables}
use Rattle.calculus.proofs.Closing.{renumber_fits}
use Rattle.calculus.proofs.Placing.{listed-trees}
use Rattle.process_laws.specs.ClosedRowLaws.{SortedReceivesAreClosed}
use Rattle.process_laws.proofs.Lists.{arranged-every}
use Rattle.process_laws.proofs.Renumbering.{senses, CodedBind, senses-kept}

-- binds without their places
abbrev binds_alone : List Placed → List Tree
binds_alone ps = each (λ b. b.0) ps

senses-bound : (ps : List Placed) → senses ps ≡ bound_all (trees (binds_alone ps))
senses-bound [] = refl
senses-bound (p ∷ ps) = ap (λ vs. bound p.0 ++ vs) (senses-bound ps)

plain-placed : (i : ℕ) (bs : List Tree) → binds_alone (placed_from i bs) ≡ bs
plain-placed i [] = refl
plain-placed i (b ∷ bs) = ap (λ cs. b ∷ cs) (plain-placed (i + length (bound b)) bs)

length-placed : (x : CodedBind) (xs : List CodedBind) → length (placed_by x xs) ≡ suc (length xs)
unfolding placed_by
length-placed x [] = refl
length-placed x (y ∷ ys) = elim (up_to x.0 y.0) as (λ (b : Bool). length (cond b (x ∷ y ∷ ys) (y ∷ placed_by x ys)) ≡ suc (suc (length ys))) [ true ↦ refl | false ↦ ap suc (length-placed x ys) ]

length-sorted : (xs : List CodedBind) → length (by_code xs) ≡ length xs
unfolding by_code
length-sorted [] = refl
length-sorted (x ∷ xs) = length-placed x (by_code xs) ∙ ap suc (length-sorted xs)

length-from : (i : ℕ) (bs : List Tree) → length (placed_from i bs) ≡ length bs
length-from i [] = refl
length-from i (b ∷ bs) = ap suc (length-from (i + length (bound b)) bs)

length-binds : (bs : List Tree) → length (binds_alone (sorted_binds bs)) ≡ length bs
length-binds bs =
    let xs : List CodedBind = each (λ b. (code (at 0 (held b.0)), b)) (placed_from 0 bs) in
    length-map (sorted_binds bs) (λ b. b.0) ∙ length-map (by_code xs) (λ x. x.1) ∙ length-sorted xs ∙ length-map (placed_from 0 bs) (λ b. (code (at 0 (held b.0)), b)) ∙ length-from 0 bs

-- a bind of a closed receive
abbrev pub IsBind : Tree → Type 0
IsBind b = Fits a_bind [] b

pub every-bind : (bs : List Tree) → Hold (all a_bind) [] [] (trees bs) → Every IsBind bs
every-bind [] h = tt
every-bind (b ∷ bs) h = (h.0, every-bind bs h.1)

pub hold-binds : (bs : List Tree) → Every IsBind bs → Hold (all a_bind) [] [] (trees bs)
hold-binds [] h = tt
hold-binds (b ∷ bs) h = (h.0, hold-binds bs h.1)

placed-binds : (i : ℕ) (bs : List Tree) → Every IsBind bs → Every (λ (b : Placed). IsBind b.0) (placed_from i bs)
placed-binds i [] h = tt
placed-binds i (b ∷ bs) h = (h.0, placed-binds (i + length (bound b)) bs h.1)

sorted-fit : (bs : List Tree) → Every IsBind bs → Every IsBind (binds_alone (sorted_binds bs))
sorted-fit bs h =
    every-each IsBind (λ (b : Placed). IsBind b.0) (λ b. b.0) (λ b k. k) (sorted_binds bs)
    (arranged-every (λ (b : Placed). IsBind b.0) (each (λ b. (code (at 0 (held b.0)), b)) (placed_from 0 bs))
    (every-each (λ (x : CodedBind). IsBind x.1.0) (λ (b : Placed). IsBind b.0) (λ b. (code (at 0 (held b.0)), b)) (λ b k. k) (placed_from 0 bs) (placed-binds 0 bs h)))

-- the scope of a receive's body
scope-is : (bs : List Tree) (t : Tree) → bound t ≡ [] → reverse (bound_all (also (many row bs) (also t none))) ++ [] ≡ reverse (bound_all (trees bs))
scope-is bs t e = append-nil (reverse (bound_all (also (many row bs) (also t none)))) ∙ ap (λ vs. reverse (bound_all (trees bs) ++ (vs ++ []))) e ∙ ap reverse (append-nil (bound_all (trees bs)))

pub sorted_receives_are_closed : SortedReceivesAreClosed
sorted_receives_are_closed k bs body h =
    let s = sorted_binds bs in
    let cs = binds_alone s in
    let f = new_index (all_places s) in
    let v0 = reverse (bound_all (also (many row bs) (also body none))) ++ [] in
    let v : Scope = reverse (senses (placed_from 0 bs)) in
    let w : Scope = reverse (senses s) in
    let e : v0 ≡ v = scope-is bs body (no_variables v0 body h.1.1.0) ∙ ap (λ xs. reverse (bound_all (trees xs))) (sym (plain-placed 0 bs)) ∙ ap reverse (sym (senses-bound (placed_from 0 bs))) in
    let b : Fits term v body = subst (λ (x : Scope). Fits term x body) e h.1.1.0 in
    let c : Fits term w (renumber f body) = renumber_fits v w f body b (λ i r x. senses-kept bs i r x) in
    let g : w ≡ reverse (bound_all (also (many row cs) (also (renumber f body) none))) ++ [] = ap reverse (senses-bound s) ∙ sym (scope-is cs (renumber f body) (no_variables w (renumber f body) c)) in
    let n : length (listed (trees cs)) ≡ length (listed (trees bs)) = ap length (listed-trees cs) ∙ length-binds bs ∙ sym (ap length (listed-trees bs)) in
    ((omega (arith, h.0.0, n), omega (arith, h.0.1, n)), ((tt, hold-binds cs (sorted-fit bs (every-bind bs h.1.0.1))), (subst (λ (x : Scope). Fits term x (renumber f body)) g c, tt)))
