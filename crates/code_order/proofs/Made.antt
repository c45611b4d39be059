-- What is arranged by codes, as trees.
use Rattle.std.proofs.Common.{◌≡◌, ℕ, ◌<◌, true, false, cond, List, [], ◌∷◌, ◌++◌, length, map, refl, ap, sym, ◌∙◌, subst, All, IfOk, Result, arith}
use Rattle.std.proofs.lemmas.Simd.{map-map}
use Rattle.std.proofs.lemmas.Result.{IfOk-weaker}
use Rattle.std.specs.List.Sorted.{IsSortedBy, IsStableBy}
use Rattle.std.specs.Prelude.{⊤, Vec}
use Rattle.std.specs.declared.alloc.Global.{Global}
use Rattle.calculus.specs.declared.plain.Ground.{Ground}
use Rattle.calculus.specs.declared.plain.Ground.TheVariants as ground
use Rattle.std.proofs.lemmas.List.Elements.{All-cons, All-nil, All-head, All-tail, All-push, All-same}
use Rattle.calculus.specs.Tree.{Label, par, set, dict, Tree, node, trees}
use Rattle.calculus.specs.Shape.{listed, many}
use Rattle.calculus.specs.Order.{up_to, IsAscending}
use Rattle.calculus.specs.Congruence.{is_bag}
use Rattle.calculus.specs.Code.{code, codes}
use Rattle.calculus.specs.Normal.{ascending, by_code, placed_by, arranged_by, made_node}
use Rattle.calculus.proofs.Placing.{listed-trees, made-steady}
use Rattle.rho_term.specs.Normal.{IsArranged, IsOrdered}
use Rattle.rho_term.specs.Parts.{part_tree, pair_tree, ground_tree, term_tree}
use Rattle.rho_term.specs.declared.term.Part.{Part}
use Rattle.rho_term.specs.declared.term.Part.TheVariants as part
use Rattle.code_order.specs.Made.{reordered, made_process, ascending_by}
use Rattle.code_order.proofs.Keys.{map-self, put_in, sort_in, Up, up-sort, arranged-sort}
use Rattle.code_order.proofs.Unique.{low, arranged}

pub ascending-sort : (ts : List Tree) → ascending ts ≡ sort_in code ts
unfolding ascending
ascending-sort ts = arranged-sort code ts

up-codes : (ts : List Tree) → Up code ts → IsAscending (codes (trees ts))
up-codes [] u = tt
up-codes (t ∷ []) u = (tt, tt)
up-codes (t ∷ v ∷ ts) u = (u.0, up-codes (v ∷ ts) u.1)

ascends : (ts : List Tree) → IsAscending (codes (trees (ascending ts)))
ascends ts = subst (λ us. IsAscending (codes (trees us))) (sym (ascending-sort ts)) (up-codes (sort_in code ts) (up-sort code ts))

-- a form that was made in order has its constituents in order
pub ordered-made : (l : Label) (ts : List Tree) → IsOrdered (made_node l ts)
ordered-made l ts =
    elim (is_bag l) as (λ b. IsArranged b (codes (trees (cond b (ascending ts) ts)))) [ true ↦ ascends ts | false ↦ tt ]

pub ordered-reordered : (t : Tree) → IsOrdered (reordered t)
ordered-reordered (node l ts) = ordered-made l (listed ts)

module _ {X : Type 0} (f : X → Tree) where
  map-put : (x : X) (ys : List X) → map f (put_in (λ y. code (f y)) x ys) ≡ put_in code (f x) (map f ys)
  unfolding put_in
  map-put x [] = refl
  map-put x (y ∷ ys) =
      elim (up_to (code (f x)) (code (f y))) as (λ b. map f (cond b (x ∷ y ∷ ys) (y ∷ put_in (λ z. code (f z)) x ys)) ≡ cond b (f x ∷ f y ∷ map f ys) (f y ∷ put_in code (f x) (map f ys))) [
        | true ↦ refl
        | false ↦ ap (λ zs. f y ∷ zs) (map-put x ys)
      ]

  map-sort : (xs : List X) → map f (sort_in (λ y. code (f y)) xs) ≡ sort_in code (map f xs)
  unfolding sort_in
  map-sort [] = refl
  map-sort (x ∷ xs) = map-put x (sort_in (λ y. code (f y)) xs) ∙ ap (put_in code (f x)) (map-sort xs)

  -- things arranged by the codes of their trees stand for the trees in ascending order
  pub map-arranged : (xs : List X) → map f (arranged_by (map (λ y. (code (f y), y)) xs)) ≡ ascending (map f xs)
  map-arranged xs = ap (map f) (arranged-sort (λ y. code (f y)) xs) ∙ map-sort xs ∙ sym (ascending-sort (map f xs))

-- one thing is in order
pub few-ascend : {X : Type 0} (k : X → List ℕ) (xs : List X) → length xs < 2 → xs ≡ ascending_by k xs
unfolding by_code placed_by
few-ascend k [] h = refl
few-ascend k (x ∷ []) h = refl
few-ascend k (x ∷ y ∷ xs) h = absurd (omega arith)

-- what a stable sort by keys gives ascends in them
pub sorted-stably : {X : Type 0} (k : X → List ℕ) (xs ss ys : List X) → ss ≡ xs → IsSortedBy (low k) ys → IsStableBy (low k) ss ys → ys ≡ ascending_by k xs
sorted-stably k xs ss ys e up stable = sym (map-self ys) ∙ arranged k (λ x. x) ss ys up stable ∙ ap (ascending_by k) e

abbrev part_code : Part → List ℕ
part_code p = code (part_tree p)

abbrev pair_code : Tree × Tree → List ℕ
pair_code q = code (pair_tree q)

-- parts, and pairs, that ascend in their codes stand for trees that do
pub parts-sorted : {E : Type 0} (ps : List Part) (r : Result (Vec Part Global) E) → IfOk r (λ v. v.items ≡ ascending_by part_code ps)
    → IfOk r (λ v. map part_tree v.items ≡ ascending (map part_tree ps))
parts-sorted ps r =
    IfOk-weaker r (λ v. v.items ≡ ascending_by part_code ps) (λ v. map part_tree v.items ≡ ascending (map part_tree ps)) (λ v e. ap (map part_tree) e ∙ map-arranged part_tree ps)

pub pairs-sorted : {E : Type 0} (ps : List (Tree × Tree)) (r : Result (Vec (Tree × Tree) Global) E) → IfOk r (λ v. v.items ≡ ascending_by pair_code ps)
    → IfOk r (λ v. map pair_tree v.items ≡ ascending (map pair_tree ps))
pairs-sorted ps r =
    IfOk-weaker r (λ v. v.items ≡ ascending_by pair_code ps) (λ v. map pair_tree v.items ≡ ascending (map pair_tree ps)) (λ v e. ap (map pair_tree) e ∙ map-arranged pair_tree ps)

-- the members of a set, and of a map, in order
pub set-made : (ms vs : List Tree) → vs ≡ ascending ms → many set vs ≡ reordered (many set ms)
set-made ms vs a = ap (many set) a ∙ ap (λ ts. many set (ascending ts)) (sym (listed-trees ms))

pub dict-made : (ps qs : List (Tree × Tree)) → map pair_tree qs ≡ ascending (map pair_tree ps) → many dict (map pair_tree qs) ≡ reordered (many dict (map pair_tree ps))
dict-made ps qs a = ap (many dict) a ∙ ap (λ ts. many dict (ascending ts)) (sym (listed-trees (map pair_tree ps)))

ground-steady : (v : Ground) → reordered (ground_tree v) ≡ ground_tree v
ground-steady (ground.Bool b) = refl
ground-steady (ground.Int z) = refl
ground-steady (ground.Str x) = refl
ground-steady (ground.Uri x) = refl
ground-steady (ground.Bytes x) = refl

-- a part that is neither a set nor a map is in order as it stands
pub as-made : (p : Part) → ((ms : Vec Tree Global) → p ≡ part.Set ms → ⊥) → ((ps : Vec (Tree × Tree) Global) → p ≡ part.Map ps → ⊥) → part_tree p ≡ reordered (part_tree p)
as-made (part.Ground v) h k = sym (ground-steady v)
as-made (part.Fresh d) h k = sym (made-steady _ _ refl)
as-made (part.Var i) h k = sym (made-steady _ _ refl)
as-made (part.NameVar i) h k = sym (made-steady _ _ refl)
as-made (part.List ts) h k = sym (made-steady _ _ refl)
as-made (part.Tuple ts) h k = sym (made-steady _ _ refl)
as-made (part.Send c xs q) h k = sym (made-steady _ _ refl)
as-made (part.Receive q bs b) h k = sym (made-steady _ _ refl)
as-made (part.New os b) h k = sym (made-steady _ _ refl)
as-made (part.Match t cs) h k = sym (made-steady _ _ refl)
as-made (part.Bundle r b) h k = sym (made-steady _ _ refl)
as-made (part.Unary o a) h k = sym (made-steady _ _ refl)
as-made (part.Binary o a b) h k = sym (made-steady _ _ refl)
as-made (part.Method n t xs) h k = sym (made-steady _ _ refl)
as-made (part.Set ms) h k = absurd (h ms refl)
as-made (part.Map ps) h k = absurd (k ps refl)

abbrev Each : {X : Type 0} → (X → Type 0) → List X → Type 0
Each P [] = ⊤
Each P (x ∷ xs) = P x × Each P xs

each-put : {X : Type 0} (k : X → List ℕ) (P : X → Type 0) (x : X) (ys : List X) → P x → Each P ys → Each P (put_in k x ys)
unfolding put_in
each-put k P x [] h r = (h, tt)
each-put k P x (y ∷ ys) h r =
    elim (up_to (k x) (k y)) as (λ b. Each P (cond b (x ∷ y ∷ ys) (y ∷ put_in k x ys))) [ true ↦ (h, r) | false ↦ (r.0, each-put k P x ys h r.1) ]

each-sort : {X : Type 0} (k : X → List ℕ) (P : X → Type 0) (xs : List X) → Each P xs → Each P (sort_in k xs)
unfolding sort_in
each-sort k P [] r = tt
each-sort k P (x ∷ xs) r = each-put k P x (sort_in k xs) r.0 (each-sort k P xs r.1)

each-all : {X : Type 0} (P : X → Type 0) (xs : List X) → Each P xs → All P xs
each-all P [] r = All-nil P
each-all P (x ∷ xs) r = All-cons P x xs r.0 (each-all P xs r.1)

all-each : {X : Type 0} (P : X → Type 0) (xs : List X) → All P xs → Each P xs
all-each P [] r = tt
all-each P (x ∷ xs) r = (All-head P x xs r, all-each P xs (All-tail P x xs r))

-- what holds of all holds of the last one
pub all-split : {X : Type 0} (P : X → Type 0) (xs : List X) (x : X) → All P (xs ++ x ∷ []) → All P xs × P x
all-split P [] x h = (All-nil P, All-head P x [] h)
all-split P (y ∷ ys) x h =
    let r = all-split P ys x (All-tail P y (ys ++ x ∷ []) h) in
    (All-cons P y ys (All-head P y (ys ++ x ∷ []) h) r.0, r.1)

-- one more thing that is in order
pub push-ordered : {X : Type 0} (f : X → Tree) (xs ys : List X) (x : X) → ys ≡ xs ++ x ∷ [] → All (λ p. IsOrdered (f p)) xs → IsOrdered (f x) → All (λ p. IsOrdered (f p)) ys
push-ordered f xs ys x e h o = All-same (λ p. IsOrdered (f p)) ys (xs ++ x ∷ []) e (All-push (λ p. IsOrdered (f p)) xs x h o)

-- what holds of parts holds of them in any order
pub parts-kept : {E : Type 0} (ps : List Part) (r : Result (Vec Part Global) E) → All (λ p. IsOrdered (part_tree p)) ps → IfOk r (λ v. v.items ≡ ascending_by part_code ps)
    → IfOk r (λ v. All (λ p. IsOrdered (part_tree p)) v.items)
parts-kept ps r h =
    let P = λ (p : Part). IsOrdered (part_tree p) in
    IfOk-weaker r (λ v. v.items ≡ ascending_by part_code ps) (λ v. All P v.items)
    (λ v e. subst (All P) (sym (e ∙ arranged-sort part_code ps)) (each-all P (sort_in part_code ps) (each-sort part_code P ps (all-each P ps h))))

each-from : (qs : List Part) (ps : List Part) → map part_tree qs ≡ map (λ p. reordered (part_tree p)) ps → Each (λ q. IsOrdered (part_tree q)) qs
each-from [] ps e = tt
each-from (q ∷ qs) [] e = cc
each-from (q ∷ qs) (p ∷ ps) e =
    let h : part_tree q ≡ reordered (part_tree p) = cc in
    let r : map part_tree qs ≡ map (λ x. reordered (part_tree x)) ps = cc in
    (subst IsOrdered (sym h) (ordered-reordered (part_tree p)), each-from qs ps r)

-- parts whose own members were put in order
pub members-ordered : (qs ps : List Part) → map part_tree qs ≡ map (λ p. reordered (part_tree p)) ps → All (λ q. IsOrdered (part_tree q)) qs
members-ordered qs ps e = each-all (λ q. IsOrdered (part_tree q)) qs (each-from qs ps e)

-- parts in order make a process in order
pub sorted-ordered : (vs : List Part) (ts : List Tree) → map part_tree vs ≡ ascending ts → IsOrdered (term_tree vs)
sorted-ordered vs ts e = subst (λ us. IsOrdered (many par us)) (sym e) (ordered-made par ts)

-- parts whose own members were put in order, in order
pub process-made : (ps qs vs : List Part) → map part_tree qs ≡ map (λ p. reordered (part_tree p)) ps → map part_tree vs ≡ ascending (map part_tree qs) → term_tree vs ≡ made_process (map part_tree ps)
process-made ps qs vs own e =
    ap (many par) (e ∙ ap ascending (own ∙ sym (map-map reordered part_tree ps)))
