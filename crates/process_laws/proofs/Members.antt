-- Lists of closed trees of one sort, of which some are taken.
use Rattle.std.proofs.Common.{ℕ, zero, suc, Bool, true, false, cond, List, [], ◌∷◌, ◌++◌, take, drop, map as each, filter, arith}
use Rattle.std.specs.Prelude.{flat_map}
use Rattle.calculus.specs.Tree.{par, pair, Tree, node, Trees, none, also, trees}
use Rattle.calculus.specs.Shape.{listed, held, two}
use Rattle.calculus.specs.Congruence.{congruent}
use Rattle.calculus.specs.Form.{Sort, term, part, pair_of, all, Fits, Hold, IsClosed}
use Rattle.calculus.specs.Operators.{is_among, distinct, key_of, value_of, last_of_key, of_set, of_map, of_list, found}
use Rattle.calculus.specs.Methods.{as_tuple}
use Rattle.calculus.proofs.Placing.{trees-listed, ascending_hold}

-- these are closed and of this sort
abbrev pub AllFit : Sort → List Tree → Type 0
AllFit s ts = Hold (all s) [] [] (trees ts)

-- the constituents of a form that holds any number of this sort
pub held-fit : (s : Sort) (ts : Trees) → Hold (all s) [] [] ts → AllFit s (listed ts)
held-fit s ts h = rw (trees-listed ts) h

pub append-fit : (s : Sort) (ts us : List Tree) → AllFit s ts → AllFit s us → AllFit s (ts ++ us)
append-fit s [] us h k = k
append-fit s (t ∷ ts) us h k = (h.0, append-fit s ts us h.1 k)

pub take-fit : (s : Sort) (n : ℕ) (ts : List Tree) → AllFit s ts → AllFit s (take n ts)
take-fit s zero ts h = tt
take-fit s (suc n) [] h = tt
take-fit s (suc n) (t ∷ ts) h = (h.0, take-fit s n ts h.1)

pub drop-fit : (s : Sort) (n : ℕ) (ts : List Tree) → AllFit s ts → AllFit s (drop n ts)
drop-fit s zero ts h = h
drop-fit s (suc n) [] h = tt
drop-fit s (suc n) (t ∷ ts) h = drop-fit s n ts h.1

pub filter-fit : (s : Sort) (f : Tree → Bool) (ts : List Tree) → AllFit s ts → AllFit s (filter f ts)
filter-fit s f [] h = tt
filter-fit s f (t ∷ ts) h =
    elim (f t) as (λ (b : Bool). AllFit s (cond b (t ∷ filter f ts) (filter f ts))) [ true ↦ (h.0, filter-fit s f ts h.1) | false ↦ filter-fit s f ts h.1 ]

distinct-fit : (s : Sort) (ts : List Tree) → AllFit s ts → AllFit s (distinct ts)
distinct-fit s [] h = tt
distinct-fit s (t ∷ ts) h =
    elim (is_among t ts) as (λ (b : Bool). AllFit s (cond b (distinct ts) (t ∷ distinct ts))) [ true ↦ distinct-fit s ts h.1 | false ↦ (h.0, distinct-fit s ts h.1) ]

last-fit : (s : Sort) (ps : List Tree) → AllFit s ps → AllFit s (last_of_key ps)
last-fit s [] h = tt
last-fit s (p ∷ ps) h =
    elim (is_among (key_of p) (each key_of ps)) as (λ (b : Bool). AllFit s (cond b (last_of_key ps) (p ∷ last_of_key ps))) [ true ↦ last-fit s ps h.1 | false ↦ (h.0, last-fit s ps h.1) ]

pub list-closed : (ts : List Tree) → AllFit term ts → IsClosed (of_list ts)
list-closed ts h = (tt, ((tt, h), tt))

pub set-closed : (ts : List Tree) → AllFit term ts → IsClosed (of_set ts)
set-closed ts h = (tt, ((tt, ascending_hold term [] [] (distinct ts) (distinct-fit term ts h)), tt))

pub map-closed : (ps : List Tree) → AllFit (pair_of term) ps → IsClosed (of_map ps)
map-closed ps h = (tt, ((tt, ascending_hold (pair_of term) [] [] (last_of_key ps) (last-fit (pair_of term) ps h)), tt))

pub key-closed : (p : Tree) → Fits (pair_of term) [] p → IsClosed (key_of p)
key-closed (node pair none) h = absurd h.1
key-closed (node pair (also t none)) h = absurd h.1.1
key-closed (node pair (also t (also u none))) h = h.1.0
key-closed (node pair (also t (also u (also w ws)))) h = h.1.0
key-closed (node _ ts) h = absurd h.1

pub value-closed : (p : Tree) → Fits (pair_of term) [] p → IsClosed (value_of p)
value-closed (node pair none) h = absurd h.1
value-closed (node pair (also t none)) h = absurd h.1.1
value-closed (node pair (also t (also u none))) h = h.1.1.0
value-closed (node pair (also t (also u (also w ws)))) h = h.1.1.0
value-closed (node _ ts) h = absurd h.1

pub pair-closed : (k v : Tree) → IsClosed k → IsClosed v → Fits (pair_of term) [] (two pair k v)
pair-closed k v h g = (tt, (h, (g, tt)))

pub keys-closed : (ps : List Tree) → AllFit (pair_of term) ps → AllFit term (each key_of ps)
keys-closed [] h = tt
keys-closed (p ∷ ps) h = (key-closed p h.0, keys-closed ps h.1)

pub found-closed : (d k : Tree) (ps : List Tree) → IsClosed d → AllFit (pair_of term) ps → IsClosed (found d k ps)
found-closed d k [] h g = h
found-closed d k (p ∷ ps) h g =
    elim (congruent k (key_of p)) as (λ (b : Bool). IsClosed (cond b (value_of p) (found d k ps))) [ true ↦ value-closed p g.0 | false ↦ found-closed d k ps h g.1 ]

pub tuple-of-pair : (p : Tree) → Fits (pair_of term) [] p → IsClosed (as_tuple p)
tuple-of-pair (node pair none) h = absurd h.1
tuple-of-pair (node pair (also t none)) h = absurd h.1.1
tuple-of-pair (node pair (also t (also u none))) h = (tt, ((omega arith, (h.1.0, (h.1.1.0, tt))), tt))
tuple-of-pair (node pair (also t (also u (also w ws)))) h = absurd h.1.1.1
tuple-of-pair (node _ ts) h = absurd h.1

pub tuples-closed : (ps : List Tree) → AllFit (pair_of term) ps → AllFit term (each as_tuple ps)
tuples-closed [] h = tt
tuples-closed (p ∷ ps) h = (tuple-of-pair p h.0, tuples-closed ps h.1)

-- the parts of closed processes, one after another
pub parts-fit : (t : Tree) → IsClosed t → AllFit part (held t)
parts-fit (node par ts) h = held-fit part ts h.1
parts-fit (node _ ts) h = absurd h.1

pub flat-fit : (ts : List Tree) → AllFit term ts → AllFit part (flat_map held ts)
flat-fit [] h = tt
flat-fit (t ∷ ts) h = append-fit part (held t) (flat_map held ts) (parts-fit t h.0) (flat-fit ts h.1)
