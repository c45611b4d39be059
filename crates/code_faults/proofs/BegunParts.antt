-- Patterns of several parts that are cut: enough of the others are thin, and one is wide where it has to be.
use Rattle.std.proofs.Common.{◌≡◌, ℕ, zero, suc, ◌<◌, ◌≤◌, ◌+◌, ◌-◌, cond, List, [], ◌∷◌, ◌++◌, map, length, refl, ap, sym, ◌∙◌, subst, arith, length-append}
use Rattle.std.specs.Prelude.{Bool, true, false, replicate}
use Rattle.std.proofs.lemmas.List.Sums.{sum_by-cons, sum_by-append}
use Rattle.calculus.specs.Tree.{pattern, any, bool, int, str, uri, bytes, some_process, simple, same, both, either, not_this, list_pattern, tuple, set_pattern, map_pattern, send, bundle, receive, new, match, Tree, node, trees}
use Rattle.calculus.specs.Size.{height}
use Rattle.calculus.specs.Bytes.{be32, joined}
use Rattle.calculus.specs.Shape.{leaf, label_of, many}
use Rattle.calculus.specs.Code.{code, codes}
use Rattle.calculus.specs.Form.{pat, pat_part, Scope, Fits, wides}
use Rattle.calculus.specs.Variables.{bound, bound_all, is_wide}
use Rattle.calculus.proofs.ListCodes.{length-map}
use Rattle.code_faults.specs.Wide.{is_wide_tag}
use Rattle.code_faults.specs.Beginning.{Cuts, Begun, BegunNumber}
use Rattle.code_faults.proofs.Forms.{listed-trees}
use Rattle.code_faults.proofs.Rows.{Row}
use Rattle.code_faults.proofs.Begins.{first-cut, none-cut, Good, good-none, good-more, good-append, good-fill}
use Rattle.code_faults.proofs.BegunRows.{row-cut, count-list, length-fill}

-- 1 for a wide part
abbrev wide_of : Tree → ℕ
wide_of t = cond (is_wide (label_of t)) 1 0

-- so many parts, after so many wide ones
abbrev others : ℕ → ℕ → List Tree
others zero (suc m) = leaf any ∷ replicate m (leaf (bool true))
others w m = replicate m (leaf (bool true))

wides-cons : (t : Tree) (ts : List Tree) → wides (t ∷ ts) ≡ wide_of t + wides ts
wides-cons t ts = sum_by-cons (λ (x : Tree). cond (is_wide (label_of x)) 1 0) t ts

wides-fill : (n : ℕ) → wides (replicate n (leaf (bool true))) ≡ 0
wides-fill zero = refl
wides-fill (suc n) = omega (arith, wides-cons (leaf (bool true)) (replicate n (leaf (bool true))), wides-fill n)

length-others : (w m : ℕ) → length (others w m) ≡ m
length-others zero zero = refl
length-others zero (suc m) = omega (arith, length-fill m (leaf (bool true)))
length-others (suc w) m = length-fill m (leaf (bool true))

-- with these there are neither too many wide parts nor too many thin ones
others-narrow : (w m i : ℕ) → w ≤ 1 → i ≤ 8 + w → i + m ≤ 9 → (w + wides (others w m) ≤ 1) × (i + m ≤ 8 + (w + wides (others w m)))
others-narrow zero zero i p q r = (omega (arith, wides-fill 0), omega (arith, wides-fill 0, q))
others-narrow zero (suc m) i p q r =
    let e : wides (leaf any ∷ replicate m (leaf (bool true))) ≡ 1 = omega (arith, wides-cons (leaf any) (replicate m (leaf (bool true))), wides-fill m) in
    (omega (arith, e), omega (arith, e, r))
others-narrow (suc w) m i p q r = (omega (arith, p, wides-fill m), omega (arith, p, r, wides-fill m))

good-others : (b : Bool) (v : Scope) (room w m : ℕ) → Good b pat_part v room (others w m)
good-others b v room zero zero = good-none b pat_part v room
good-others b v room zero (suc m) = good-more (leaf any) (tt, tt) (omega arith) (λ z. refl) (good-fill m (leaf (bool true)) (tt, tt) (omega arith) (λ z. refl))
good-others b v room (suc w) m = good-fill m (leaf (bool true)) (tt, tt) (omega arith) (λ z. refl)

-- a part is cut: this tree goes on with it
pat-begun_by : {A : Type 0} {f : A → Tree} {b : Bool} {v : Scope} {room : ℕ} {xs : List A} {start now bs after : List ℕ} (n : ℕ) (t : Tree)
    → Row f pat_part v room xs start now → (b ≡ false → bound_all (trees (map f xs)) ≡ []) → bs ≡ be32 n ++ start → length xs < n → n ≤ 9
    → Fits pat_part v t → height t ≤ room → (b ≡ false → bound t ≡ []) → Cuts now (code t) after
    → wides (map f xs) + wide_of t ≤ 1 → length xs + 1 ≤ 8 + (wides (map f xs) + wide_of t) → Begun b pat v room bs after
pat-begun_by {f = f} {b = b} {v = v} {room = room} {xs = xs} n t h free is l top fits low quiet g one thin =
    let w = wides (map f xs) + wide_of t in
    let m = n - length xs - 1 in
    let os = others w m in
    let ts = map f xs ++ t ∷ os in
    let few : length xs + (1 + length os) ≡ n = omega (arith, length-others w m, l) in
    let all_good : Good b pat_part v room ts = good-append (map f xs) (record { fits = h.fits; low = h.low; free = free }) (good-more t fits low quiet (good-others b v room w m)) in
    let s : wides ts ≡ w + wides os = sum_by-append (λ (x : Tree). cond (is_wide (label_of x)) 1 0) (map f xs) (t ∷ os) ∙ omega (arith, wides-cons t os) in
    let k = others-narrow w m (length xs + 1) one thin (omega (arith, l, top)) in
    let long : length ts ≡ n = omega (arith, length-append (map f xs) (t ∷ os), length-map f xs, few) in
    record {
      tree = many pattern ts;
      fits = (rw (listed-trees ts) (omega (arith, s, k.0), omega (arith, s, k.1, long, l)), all_good.fits);
      low = omega (arith, all_good.low);
      free = all_good.free;
      cut = row-cut n t os h is few g;
    }

-- before the tag of a part
pub pat-tag_begun : {A : Type 0} {f : A → Tree} {b : Bool} {v : Scope} {room : ℕ} {xs : List A} {start now bs : List ℕ} (n w : ℕ)
    → Row f pat_part v room xs start now → (b ≡ false → bound_all (trees (map f xs)) ≡ []) → bs ≡ be32 n ++ start → length xs < n → n ≤ 9
    → wides (map f xs) ≡ w → w ≤ 1 → Begun b pat v room bs now
pat-tag_begun n zero h free is l top p q =
    pat-begun_by n (leaf any) h free is l top (tt, tt) (omega arith) (λ z. refl) (none-cut _ (omega arith)) (omega (arith, p)) (omega (arith, p, l, top))
pat-tag_begun n (suc w) h free is l top p q =
    pat-begun_by n (leaf (bool true)) h free is l top (tt, tt) (omega arith) (λ z. refl) (none-cut _ (omega arith)) (omega (arith, p, q)) (omega (arith, p, l, top))

-- the number of parts
pub pat-number_begun : {b : Bool} {v : Scope} {room : ℕ} {bs after : List ℕ} → BegunNumber 0 9 bs after → Begun b pat v room bs after
pat-number_begun {b = b} {v = v} {room = room} {bs = bs} {after = after} h =
    let ts = others 0 h.number in
    let all_good : Good b pat_part v room ts = good-others b v room 0 h.number in
    let k = others-narrow 0 h.number 0 (omega arith) (omega arith) (omega (arith, h.few)) in
    let long : length ts ≡ h.number = length-others 0 h.number in
    record {
      tree = many pattern ts;
      fits = (rw (listed-trees ts) (omega (arith, k.0), omega (arith, k.1, long)), all_good.fits);
      low = omega (arith, all_good.low);
      free = all_good.free;
      cut = subst (λ (z : ℕ). Cuts bs (be32 z ++ joined (codes (trees ts))) after) (sym (count-list ts ∙ long)) (first-cut (joined (codes (trees ts))) h.cut);
    }

-- the first byte
abbrev first : List ℕ → ℕ
first [] = 0
first (x ∷ xs) = x

code-wide : (v : Scope) (t : Tree) → Fits pat_part v t → is_wide (label_of t) ≡ is_wide_tag (first (code t))
code-wide v (node (bool x) ts) h = refl
code-wide v (node (int x) ts) h = refl
code-wide v (node (str x) ts) h = refl
code-wide v (node (uri x) ts) h = refl
code-wide v (node (bytes x) ts) h = refl
code-wide v (node any ts) h = refl
code-wide v (node some_process ts) h = refl
code-wide v (node (simple x) ts) h = refl
code-wide v (node same ts) h = refl
code-wide v (node both ts) h = refl
code-wide v (node either ts) h = refl
code-wide v (node not_this ts) h = refl
code-wide v (node list_pattern ts) h = refl
code-wide v (node tuple ts) h = refl
code-wide v (node set_pattern ts) h = refl
code-wide v (node map_pattern ts) h = refl
code-wide v (node (send x) ts) h = refl
code-wide v (node (bundle x) ts) h = refl
code-wide v (node (receive x) ts) h = refl
code-wide v (node (new x) ts) h = refl
code-wide v (node match ts) h = refl
code-wide v (node _ ts) h = absurd h.1

first-is : (tag : ℕ) (xs ys zs c : List ℕ) (y : ℕ) → y ∷ xs ≡ tag ∷ ys → y ∷ zs ≡ c → first c ≡ tag
first-is tag xs ys zs c y e f = ap first (sym f) ∙ ap first e

same-wide : (v : Scope) (t : Tree) (tag : ℕ) (next before after more : List ℕ) → Fits pat_part v t → 0 < length before → before ++ after ≡ tag ∷ next → before ++ more ≡ code t → is_wide (label_of t) ≡ is_wide_tag tag
same-wide v t tag next [] after more f l e c = absurd (omega arith)
same-wide v t tag next (y ∷ ys) after more f l e c = code-wide v t f ∙ ap is_wide_tag (first-is tag (ys ++ after) next (ys ++ more) (code t) y e c)

-- a part is cut before its tag or after it
pub pat-part_begun : {A : Type 0} {f : A → Tree} {b : Bool} {v : Scope} {room : ℕ} {xs : List A} {start now next bs after : List ℕ} (n w tag : ℕ)
    → Row f pat_part v room xs start now → (b ≡ false → bound_all (trees (map f xs)) ≡ []) → bs ≡ be32 n ++ start → length xs < n → n ≤ 9
    → now ≡ tag ∷ next → {k : ℕ} → w ≡ k + cond (is_wide_tag tag) 1 0 → wides (map f xs) ≡ k → k ≤ 1 → w ≤ 1 → length xs + 1 ≤ 8 + w → Begun b pat_part v room (tag ∷ next) after → Begun b pat v room bs after
pat-part_begun {f = f} {b = b} {v = v} {room = room} {xs = xs} {now = now} {next = next} {bs = bs} {after = after} n w tag h free is l top at {k = k} p u few one thin g = on g.cut.before g.cut.is g.cut.goes
  where
    on : (before : List ℕ) → before ++ after ≡ tag ∷ next → before ++ g.cut.more ≡ code g.tree → Begun b pat v room bs after
    on [] e c = subst (λ (z : List ℕ). Begun b pat v room bs z) (at ∙ sym e) (pat-tag_begun n k h free is l top u few)
    on (y ∷ ys) e c =
        let same : is_wide (label_of g.tree) ≡ is_wide_tag tag = same-wide v g.tree tag next (y ∷ ys) after g.cut.more g.fits (omega arith) e c in
        let m : w ≡ wides (map f xs) + wide_of g.tree = p ∙ ap (λ (j : ℕ). j + cond (is_wide_tag tag) 1 0) (sym u) ∙ ap (λ (z : Bool). wides (map f xs) + cond z 1 0) (sym same) in
        pat-begun_by n g.tree h free is l top g.fits g.low g.free (subst (λ (z : List ℕ). Cuts z (code g.tree) after) (sym at) g.cut) (omega (arith, m, one)) (omega (arith, m, thin))
