-- A member is taken out of lists that are the same up to order.
use Rattle.std.proofs.Common.{◌≡◌, ℕ, ◌≤◌, Bool, true, false, cond, List, [], ◌∷◌, ◌++◌, map as each, IsPermutation, refl, ap, subst, arith, inl, inr, eqb, eq-eqb, eqb-true}
use Rattle.std.specs.Str.{bytes_eq}
use Rattle.calculus.proofs.Members.{Member}
use Rattle.calculus.specs.Exchanges.{Exchanges, nothing, under, neighbours, then}
use Rattle.calculus.proofs.Permutations.{exchanges, permuted, unmoved, keep, exchange, join, moved_back}
use Rattle.events.proofs.Counts.{ids, times, one_if, member-times, same_bytes}
use Rattle.hub_scenes.specs.Spaces.{NewRow}
use Rattle.hub_scenes.specs.Entries.{but_row, but_index}
use Rattle.hub_scenes.proofs.Basics.{image-in}

-- where the other list has it
pub record Out {A : Type 0} (ys : List A) (x : A) (rest : List A) : Type 0 where
  pub pre : List A
  pub post : List A
  pub is : ys ≡ pre ++ x ∷ post
  pub moved : IsPermutation rest (pre ++ post)

go-out : {A : Type 0} {us vs : List A} → Exchanges us vs → (pre : List A) (x : A) (post : List A) → us ≡ pre ++ x ∷ post → Out vs x (pre ++ post)
go-out nothing [] x post e = cc
go-out nothing (z ∷ pre) x post e = cc
go-out (under {xs} {ys} y h) [] x post e =
    let same : y ≡ x = cc e in
    let rest : xs ≡ post = cc e in
    record { pre = []; post = ys; is = ap (λ z. z ∷ ys) same; moved = subst (λ l. IsPermutation l ys) rest (permuted h) }
go-out (under {xs} {ys} y h) (z ∷ pre) x post e =
    let same : y ≡ z = cc e in
    let rest : xs ≡ pre ++ x ∷ post = cc e in
    let o = go-out h pre x post rest in
    record { pre = y ∷ o.pre; post = o.post; is = ap (λ l. y ∷ l) o.is; moved = subst (λ w. IsPermutation (w ∷ pre ++ post) (y ∷ o.pre ++ o.post)) same (keep y o.moved) }
go-out (neighbours a b zs) [] x post e =
    let same : a ≡ x = cc e in
    let rest : b ∷ zs ≡ post = cc e in
    record { pre = b ∷ []; post = zs; is = ap (λ w. b ∷ w ∷ zs) same; moved = subst (λ l. IsPermutation l (b ∷ zs)) rest (unmoved (b ∷ zs)) }
go-out (neighbours a b zs) (c ∷ []) x post e =
    let same : b ≡ x = cc e in
    let first : a ≡ c = cc e in
    let rest : zs ≡ post = cc e in
    record { pre = []; post = a ∷ zs; is = ap (λ w. w ∷ a ∷ zs) same; moved = subst (λ l. IsPermutation (c ∷ l) (a ∷ zs)) rest (subst (λ w. IsPermutation (w ∷ zs) (a ∷ zs)) first (unmoved (a ∷ zs))) }
go-out (neighbours a b zs) (c ∷ d ∷ pre) x post e =
    let first : a ≡ c = cc e in
    let second : b ≡ d = cc e in
    let rest : zs ≡ pre ++ x ∷ post = cc e in
    record { pre = b ∷ a ∷ pre; post = post; is = ap (λ l. b ∷ a ∷ l) rest; moved = subst (λ w. IsPermutation (w ∷ d ∷ pre ++ post) (b ∷ a ∷ pre ++ post)) first (subst (λ w. IsPermutation (a ∷ w ∷ pre ++ post) (b ∷ a ∷ pre ++ post)) second (exchange a b (pre ++ post))) }
go-out (then h k) pre x post e =
    let o = go-out h pre x post e in
    let n = go-out k o.pre x o.post o.is in
    record { pre = n.pre; post = n.post; is = n.is; moved = join o.moved n.moved }

pub out-of : {A : Type 0} {us vs : List A} → IsPermutation us vs → (pre : List A) (x : A) (post : List A) → us ≡ pre ++ x ∷ post → Out vs x (pre ++ post)
out-of h pre x post e = go-out (exchanges h) pre x post e

-- an index taken out first stands where it stands, up to order
pub try-at : (pre : List ℕ) (i : ℕ) (post : List ℕ) → IsPermutation (pre ++ post) (but_index i (pre ++ i ∷ post))
try-at [] i post = go (eqb i i) refl
  where
    go : (b : Bool) → eqb i i ≡ b → IsPermutation post (cond b post (i ∷ but_index i post))
    go true e = unmoved post
    go false e = let t = eq-eqb i i refl in cc
try-at (j ∷ pre) i post = go (eqb i j) refl (try-at pre i post)
  where
    go : (b : Bool) → eqb i j ≡ b → IsPermutation (pre ++ post) (but_index i (pre ++ i ∷ post)) → IsPermutation (j ∷ pre ++ post) (cond b (pre ++ i ∷ post) (j ∷ but_index i (pre ++ i ∷ post)))
    go true e m = subst (λ n. IsPermutation (n ∷ pre ++ post) (pre ++ i ∷ post)) (eqb-true i j e) (moved_back i pre post)
    go false e m = keep j m

-- an arrival with an id that stands once is taken out where it stands
pub arrival-at : (pre : List NewRow) (a : NewRow) (post : List NewRow) → ((x : List ℕ) → times x (ids (each (λ b. b.row) (pre ++ a ∷ post))) ≤ 1) → but_row a.row.id (pre ++ a ∷ post) ≡ pre ++ post
arrival-at [] a post d = ap (λ b. cond b post (a ∷ but_row a.row.id post)) (same_bytes a.row.id a.row.id refl)
arrival-at (b ∷ pre) a post d = go (bytes_eq a.row.id b.row.id) refl (arrival-at pre a post (λ x. omega (arith, d x)))
  where
    go : (c : Bool) → bytes_eq a.row.id b.row.id ≡ c → but_row a.row.id (pre ++ a ∷ post) ≡ pre ++ post → cond c (pre ++ a ∷ post) (b ∷ but_row a.row.id (pre ++ a ∷ post)) ≡ b ∷ pre ++ post
    go true e next = absurd (omega (arith, d a.row.id, ap one_if e, member-times a.row (each (λ b. b.row) (pre ++ a ∷ post)) (image-in (λ b. b.row) a (pre ++ a ∷ post) (there pre))))
      where
        there : (l : List NewRow) → Member a (l ++ a ∷ post)
        there [] = inl refl
        there (y ∷ l) = inr (there l)
    go false e next = ap (λ l. b ∷ l) next
