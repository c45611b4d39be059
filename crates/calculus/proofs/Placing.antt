-- Constituents of one sort that are put in order are still of that sort, and so are two lists of them one after another.
use Rattle.std.proofs.Common.{◌≡◌, ℕ, Bool, true, false, cond, List, [], ◌∷◌, map as each, refl, ap, ◌∙◌}
use Rattle.calculus.specs.Tree.{Label, Tree, node, Trees, none, also, trees}
use Rattle.calculus.specs.Shape.{listed, joined_trees}
use Rattle.calculus.specs.Variables.{Sense}
use Rattle.calculus.specs.Order.{up_to}
use Rattle.calculus.specs.Congruence.{is_bag}
use Rattle.calculus.specs.Code.{code}
use Rattle.calculus.specs.Normal.{placed_by, by_code, ascending, made_node}
use Rattle.calculus.specs.Form.{Sort, all, Scope, Fits, Hold}

pub trees-listed : (ts : Trees) → trees (listed ts) ≡ ts
trees-listed none = refl
trees-listed (also t ts) = ap (λ us. also t us) (trees-listed ts)

pub listed-trees : (ts : List Tree) → listed (trees ts) ≡ ts
listed-trees [] = refl
listed-trees (t ∷ ts) = ap (λ us. t ∷ us) (listed-trees ts)

module _ (s : Sort) (y : Scope) (o : List Sense) where
  abbrev Sorted : List (List ℕ × Tree) → Type 0
  Sorted xs = Hold (all s) y o (trees (each (λ p. p.1) xs))

  placed_hold : (x : List ℕ × Tree) (xs : List (List ℕ × Tree)) → Fits s y x.1 → Sorted xs → Sorted (placed_by x xs)
  unfolding placed_by
  placed_hold x [] h k = (h, tt)
  placed_hold x (z ∷ zs) h k =
      elim (up_to x.0 z.0) as (λ (b : Bool). Sorted (cond b (x ∷ z ∷ zs) (z ∷ placed_by x zs))) [ true ↦ (h, k) | false ↦ (k.0, placed_hold x zs h k.1) ]

  by_code_hold : (xs : List (List ℕ × Tree)) → Sorted xs → Sorted (by_code xs)
  unfolding by_code
  by_code_hold [] h = tt
  by_code_hold (x ∷ xs) h = placed_hold x (by_code xs) h.0 (by_code_hold xs h.1)

  coded_hold : (ts : List Tree) → Hold (all s) y o (trees ts) → Sorted (each (λ t. (code t, t)) ts)
  coded_hold [] h = tt
  coded_hold (t ∷ ts) h = (h.0, coded_hold ts h.1)

  pub ascending_hold : (ts : List Tree) → Hold (all s) y o (trees ts) → Hold (all s) y o (trees (ascending ts))
  unfolding ascending
  ascending_hold ts h = by_code_hold (each (λ t. (code t, t)) ts) (coded_hold ts h)

  pub joined_hold : (ts us : Trees) → Hold (all s) y o ts → Hold (all s) y o us → Hold (all s) y o (joined_trees ts us)
  joined_hold none us h k = k
  joined_hold (also t ts) us h k = (h.0, joined_hold ts us h.1 k)

pub own_hold : (s : Sort) (y : Scope) (o q : List Sense) (ts : Trees) → Hold (all s) y o ts → Hold (all s) y q ts
own_hold s y o q none h = tt
own_hold s y o q (also t ts) h = (h.0, own_hold s y o q ts h.1)

-- a form whose constituents stand as given
pub made-steady : (l : Label) (us : Trees) → is_bag l ≡ false → made_node l (listed us) ≡ node l us
made-steady l us e =
    ap (λ b. node l (trees (cond b (ascending (listed us)) (listed us)))) e ∙ ap (λ ts. node l ts) (trees-listed us)
