-- Binds with the places of their variables, in the order of the codes of their channels.
use Rattle.std.proofs.Common.{◌≡◌, ◌≤◌, ℕ, zero, suc, ◌+◌, ◌-◌, Bool, true, false, cond, List, [], ◌∷◌, ◌++◌, length, map, refl, sym, ap, ◌∙◌, arith, append_assoc, append-nil, length-append}
use Rattle.std.specs.Prelude.{Vec}
use Rattle.std.specs.declared.alloc.Global.{Global}
use Rattle.calculus.specs.Tree.{Tree}
use Rattle.calculus.specs.Order.{up_to}
use Rattle.calculus.specs.Normal.{placed_by, by_code, arranged_by}
use Rattle.calculus.specs.Variables.{bound}
use Rattle.calculus.specs.Unfolding.{from_on, Placed, placed_from, sorted_binds, all_places}
use Rattle.rho_term.specs.declared.term.TermBind.{TermBind}
use Rattle.rho_term.specs.Parts.{bind_tree}
use Rattle.code_order.specs.Made.{beside}
use Rattle.offered_rows.specs.declared.placed.PlacedBind.{PlacedBind}
use Rattle.offered_rows.specs.Binds.{placed_of, keyed_of, with_channel_code}

-- things that stand for others are arranged as those are
module _ {A B : Type 0} (g : A → B) where
  abbrev pub on_second : List ℕ × A → List ℕ × B
  on_second p = (p.0, g p.1)

  placed-natural : (x : List ℕ × A) (ys : List (List ℕ × A)) → map on_second (placed_by x ys) ≡ placed_by (on_second x) (map on_second ys)
  unfolding placed_by
  placed-natural x [] = refl
  placed-natural x (y ∷ ys) =
      elim (up_to x.0 y.0) as (λ (b : Bool). map on_second (cond b (x ∷ y ∷ ys) (y ∷ placed_by x ys)) ≡ cond b (on_second x ∷ on_second y ∷ map on_second ys) (on_second y ∷ placed_by (on_second x) (map on_second ys))) [
        | true ↦ refl
        | false ↦ ap (λ zs. on_second y ∷ zs) (placed-natural x ys)
      ]

  by_code-natural : (xs : List (List ℕ × A)) → map on_second (by_code xs) ≡ by_code (map on_second xs)
  unfolding by_code
  by_code-natural [] = refl
  by_code-natural (x ∷ xs) = placed-natural x (by_code xs) ∙ ap (placed_by (on_second x)) (by_code-natural xs)

  seconds : (xs : List (List ℕ × A)) → map g (map (λ (p : List ℕ × A). p.1) xs) ≡ map (λ (p : List ℕ × B). p.1) (map on_second xs)
  seconds [] = refl
  seconds (x ∷ xs) = ap (λ ys. g x.1 ∷ ys) (seconds xs)

  pub arranged-natural : (xs : List (List ℕ × A)) → map g (arranged_by xs) ≡ arranged_by (map on_second xs)
  arranged-natural xs = seconds (by_code xs) ∙ ap (map (λ (p : List ℕ × B). p.1)) (by_code-natural xs)

keys-same : (ks : List (Vec ℕ Global × PlacedBind)) → map (on_second placed_of) (map beside ks) ≡ map keyed_of ks
keys-same [] = refl
keys-same (k ∷ ks) = ap (λ xs. keyed_of k ∷ xs) (keys-same ks)

-- what is sorted by the codes of the channels
pub sorted-placed : (ps : List PlacedBind) (ks : List (Vec ℕ Global × PlacedBind)) (bs : List Tree) → ps ≡ arranged_by (map beside ks) → map keyed_of ks ≡ map with_channel_code (placed_from 0 bs)
    → map placed_of ps ≡ sorted_binds bs
sorted-placed ps ks bs e k =
    ap (map placed_of) e ∙ (arranged-natural placed_of (map beside ks) ∙ ap arranged_by (keys-same ks ∙ k))

-- how many variables these bind
abbrev pub total : List Tree → ℕ
total [] = 0
total (b ∷ bs) = length (bound b) + total bs

-- one more bind
pub placed-push : (i : ℕ) (bs : List Tree) (b : Tree) → placed_from i (bs ++ b ∷ []) ≡ placed_from i bs ++ (b, from_on (i + total bs) (length (bound b))) ∷ []
placed-push i [] b = ap (λ j. (b, from_on j (length (bound b))) ∷ []) (omega arith)
placed-push i (c ∷ cs) b =
    ap (λ xs. (c, from_on i (length (bound c))) ∷ xs)
    (placed-push (i + length (bound c)) cs b ∙ ap (λ j. placed_from (i + length (bound c)) cs ++ (b, from_on j (length (bound b))) ∷ []) (omega arith))

pub total-push : (bs : List Tree) (b : Tree) → total (bs ++ b ∷ []) ≡ total bs + length (bound b)
total-push [] b = omega arith
total-push (c ∷ cs) b = omega (arith, total-push cs b)

-- the places of one more bind
pub places-push : (ps : List Placed) (p : Placed) → all_places (ps ++ p ∷ []) ≡ all_places ps ++ p.1
places-push [] p = append-nil p.1
places-push (q ∷ qs) p = ap (λ xs. q.1 ++ xs) (places-push qs p) ∙ sym (append_assoc q.1 (all_places qs) p.1)

-- one more place
pub from-push : (i n : ℕ) → from_on i (suc n) ≡ from_on i n ++ (i + n) ∷ []
from-push i zero = ap (λ j. j ∷ []) (omega arith)
from-push i (suc n) = ap (λ xs. i ∷ xs) (from-push (suc i) n ∙ ap (λ j. from_on (suc i) n ++ j ∷ []) (omega arith))

pub map-push : {A B : Type 0} (f : A → B) (xs : List A) (x : A) → map f (xs ++ x ∷ []) ≡ map f xs ++ f x ∷ []
map-push f [] x = refl
map-push f (y ∷ ys) x = ap (λ zs. f y ∷ zs) (map-push f ys x)

-- how many places stand beside these
abbrev spread : List Placed → ℕ
spread [] = 0
spread (p ∷ ps) = length p.1 + spread ps

places-spread : (ps : List Placed) → length (all_places ps) ≡ spread ps
places-spread [] = refl
places-spread (p ∷ ps) = omega (arith, places-spread ps, length-append p.1 (all_places ps))

abbrev placed_in : List (List ℕ × Placed) → List Placed
placed_in xs = map (λ (p : List ℕ × Placed). p.1) xs

spread-put : (x : List ℕ × Placed) (ys : List (List ℕ × Placed)) → spread (placed_in (placed_by x ys)) ≡ length x.1.1 + spread (placed_in ys)
unfolding placed_by
spread-put x [] = refl
spread-put x (y ∷ ys) =
    elim (up_to x.0 y.0) as (λ (b : Bool). spread (placed_in (cond b (x ∷ y ∷ ys) (y ∷ placed_by x ys))) ≡ length x.1.1 + (length y.1.1 + spread (placed_in ys))) [
      | true ↦ refl
      | false ↦ omega (arith, spread-put x ys)
    ]

spread-sort : (xs : List (List ℕ × Placed)) → spread (placed_in (by_code xs)) ≡ spread (placed_in xs)
unfolding by_code
spread-sort [] = refl
spread-sort (x ∷ xs) = omega (arith, spread-put x (by_code xs), spread-sort xs)

pub length-from : (i n : ℕ) → length (from_on i n) ≡ n
length-from i zero = refl
length-from i (suc n) = omega (arith, length-from (suc i) n)

spread-from : (i : ℕ) (bs : List Tree) → spread (placed_in (map with_channel_code (placed_from i bs))) ≡ total bs
spread-from i [] = refl
spread-from i (b ∷ bs) = omega (arith, length-from i (length (bound b)), spread-from (i + length (bound b)) bs)

-- each variable has a place
pub places-count : (bs : List Tree) → length (all_places (sorted_binds bs)) ≡ total bs
places-count bs =
    places-spread (sorted_binds bs) ∙ (spread-sort (map with_channel_code (placed_from 0 bs)) ∙ spread-from 0 bs)

-- the place after those before it
pub from-next : (i p : ℕ) → i ≤ p → from_on i ((p + 1) - i) ≡ from_on i (p - i) ++ p ∷ []
from-next i p h =
    let more : (p + 1) - i ≡ suc (p - i) = omega arith in
    let last : i + (p - i) ≡ p = omega arith in
    ap (from_on i) more ∙ (from-push i (p - i) ∙ ap (λ j. from_on i (p - i) ++ j ∷ []) last)

pub from-zero : (n : ℕ) → from_on 0 (n + 1) ≡ from_on 0 n ++ n ∷ []
from-zero n =
    let more : n + 1 ≡ suc n = omega arith in
    let last : 0 + n ≡ n = omega arith in
    ap (from_on 0) more ∙ (from-push 0 n ∙ ap (λ j. from_on 0 n ++ j ∷ []) last)

-- one more bind, and its places
pub binds-pushed : (ps : List PlacedBind) (p : PlacedBind) (xs ys : List TermBind) → ys ≡ xs ++ p.bind ∷ [] → map bind_tree xs ≡ map (λ (q : Placed). q.0) (map placed_of ps)
    → map bind_tree ys ≡ map (λ (q : Placed). q.0) (map placed_of (ps ++ p ∷ []))
binds-pushed ps p xs ys e h =
    ap (map bind_tree) e ∙ (map-push bind_tree xs p.bind ∙ (ap (λ zs. zs ++ bind_tree p.bind ∷ []) h
    ∙ sym (ap (map (λ (q : Placed). q.0)) (map-push placed_of ps p) ∙ map-push (λ (q : Placed). q.0) (map placed_of ps) (placed_of p))))

pub places-pushed : (ps : List PlacedBind) (p : PlacedBind) (xs ys zs : List ℕ) → ys ≡ xs ++ zs → zs ≡ p.places.items → xs ≡ all_places (map placed_of ps) → ys ≡ all_places (map placed_of (ps ++ p ∷ []))
places-pushed ps p xs ys zs e z h =
    e ∙ (ap (λ us. us ++ zs) h ∙ (ap (λ us. all_places (map placed_of ps) ++ us) z
    ∙ sym (ap all_places (map-push placed_of ps p) ∙ places-push (map placed_of ps) (placed_of p))))

pub keyed-pushed : (bs : List TermBind) (b : TermBind) (ks ls : List (Vec ℕ Global × PlacedBind)) (k : Vec ℕ Global × PlacedBind) (f n : ℕ) → ls ≡ ks ++ k ∷ []
    → map keyed_of ks ≡ map with_channel_code (placed_from 0 (map bind_tree bs)) → keyed_of k ≡ with_channel_code (bind_tree b, from_on f n) → f ≡ total (map bind_tree bs) → n ≡ length (bound (bind_tree b))
    → map keyed_of ls ≡ map with_channel_code (placed_from 0 (map bind_tree (bs ++ b ∷ [])))
keyed-pushed bs b ks ls k f n e h w q r =
    let before = map with_channel_code (placed_from 0 (map bind_tree bs)) in
    let first : f ≡ 0 + total (map bind_tree bs) = omega (arith, q) in
    ap (map keyed_of) e ∙ (map-push keyed_of ks k ∙ (ap (λ zs. zs ++ keyed_of k ∷ []) h ∙ (ap (λ x. before ++ x ∷ []) w
    ∙ (ap (λ j. before ++ with_channel_code (bind_tree b, from_on j n) ∷ []) first ∙ (ap (λ j. before ++ with_channel_code (bind_tree b, from_on (0 + total (map bind_tree bs)) j) ∷ []) r
    ∙ sym (ap (λ xs. map with_channel_code (placed_from 0 xs)) (map-push bind_tree bs b) ∙ (ap (map with_channel_code) (placed-push 0 (map bind_tree bs) (bind_tree b))
    ∙ map-push with_channel_code (placed_from 0 (map bind_tree bs)) (bind_tree b, from_on (0 + total (map bind_tree bs)) (length (bound (bind_tree b)))))))))))

-- as many variables as all of them bind
pub total-pushed : (bs : List TermBind) (b : TermBind) → total (map bind_tree (bs ++ b ∷ [])) ≡ total (map bind_tree bs) + length (bound (bind_tree b))
total-pushed bs b = ap total (map-push bind_tree bs b) ∙ total-push (map bind_tree bs) (bind_tree b)
