-- Parts of a pattern that were read one after another, and the next one refused.
use Rattle.std.proofs.Common.{◌≡◌, ℕ, ◌<◌, ◌≤◌, ◌+◌, ◌^◌, cond, List, [], ◌∷◌, ◌++◌, map, length, refl, ap, sym, ◌∙◌, arith, length-append}
use Rattle.std.specs.Prelude.{Bool, true, false}
use Rattle.std.proofs.lemmas.List.Sums.{sum_by-cons}
use Rattle.calculus.specs.Tree.{par, pattern, bool, int, str, uri, bytes, any, some_process, simple, same, both, either, not_this, list_pattern, tuple, set_pattern, map_pattern, send, bundle, receive, new, match, Tree, node, Trees, none, also, trees}
use Rattle.calculus.specs.Bytes.{be32, joined}
use Rattle.calculus.specs.Shape.{count, listed, label_of}
use Rattle.calculus.specs.Code.{code, codes}
use Rattle.calculus.specs.Form.{pat, pat_part, Scope, Fits, Hold, all, wides}
use Rattle.calculus.specs.Variables.{is_wide}
use Rattle.calculus.proofs.Splitting.{kids-short, length-codes}
use Rattle.code_faults.specs.declared.fault.ReadFault.{ReadFault}
use Rattle.code_faults.specs.Wide.{is_wide_tag}
use Rattle.code_faults.specs.Refusing.{Denies, IsRight, AreRight, HasRoom, Refuses, RefusesNumber}
use Rattle.calculus.proofs.ListCodes.{length-map}
use Rattle.code_faults.proofs.Forms.{listed-trees}
use Rattle.code_faults.proofs.Rows.{Row}
use Rattle.code_faults.proofs.Denying.{first-denied, number-next, less-left}
use Rattle.code_faults.proofs.Kids.{count-right, count-listed}
use Rattle.code_faults.proofs.Going.{go, each-code, map-codes}
use Rattle.code_faults.proofs.Tags.{first}

-- 1 for the code of a wide part
abbrev pub wide_code : List ℕ → ℕ
wide_code c = cond (is_wide_tag (first c)) 1 0

abbrev pub wide_codes : List (List ℕ) → ℕ
wide_codes [] = 0
wide_codes (c ∷ cs) = wide_code c + wide_codes cs

code-wide : (v : Scope) (t : Tree) → Fits pat_part v t → is_wide (label_of t) ≡ is_wide_tag (first (code t))
code-wide v (node (bool x) ts) h = refl
code-wide v (node (int x) ts) h = refl
code-wide v (node (str x) ts) h = refl
code-wide v (node (uri x) ts) h = refl
code-wide v (node (bytes x) ts) h = refl
code-wide v (node any ts) h = refl
code-wide v (node some_process ts) h = refl
code-wide v (node (simple x) ts) h = refl
code-wide v (node same ts) h = refl
code-wide v (node both ts) h = refl
code-wide v (node either ts) h = refl
code-wide v (node not_this ts) h = refl
code-wide v (node list_pattern ts) h = refl
code-wide v (node tuple ts) h = refl
code-wide v (node set_pattern ts) h = refl
code-wide v (node map_pattern ts) h = refl
code-wide v (node (send x) ts) h = refl
code-wide v (node (bundle x) ts) h = refl
code-wide v (node (receive x) ts) h = refl
code-wide v (node (new x) ts) h = refl
code-wide v (node match ts) h = refl
code-wide v (node _ ts) h = absurd h.1

pub wides-codes : (v : Scope) (ts : Trees) → Hold (all pat_part) v [] ts → wides (listed ts) ≡ wide_codes (codes ts)
wides-codes v none h = refl
wides-codes v (also t ts) h =
    sum_by-cons (λ (x : Tree). cond (is_wide (label_of x)) 1 0) t (listed ts)
    ∙ ap (λ (b : Bool). cond b 1 0 + wides (listed ts)) (code-wide v t h.0)
    ∙ ap (λ (n : ℕ). wide_code (code t) + n) (wides-codes v ts h.1)

wide-le : (c : List ℕ) → wide_code c ≤ 1
wide-le c = elim (is_wide_tag (first c)) as (λ (b : Bool). cond b 1 0 ≤ 1) [ true ↦ omega arith | false ↦ omega arith ]

pub wides-le : (cs : List (List ℕ)) → wide_codes cs ≤ length cs
wides-le [] = omega arith
wides-le (c ∷ cs) = omega (arith, wide-le c, wides-le cs)

pub wides-append : (cs ds : List (List ℕ)) → wide_codes (cs ++ ds) ≡ wide_codes cs + wide_codes ds
wides-append [] ds = omega arith
wides-append (c ∷ cs) ds = omega (arith, wides-append cs ds)

pub narrow-are : {b : Bool} {v : Scope} {room : ℕ} (ts : Trees) → IsRight b pat v room (node pattern ts) → AreRight b pat_part v room ts
narrow-are ts g = record { fits = g.fits.1; low = omega (arith, g.low); short = kids-short pattern ts g.short; free = g.free }

pub wides-read : {A : Type 0} {f : A → Tree} {v : Scope} {room : ℕ} {xs : List A} {start now : List ℕ} → Row f pat_part v room xs start now → wides (map f xs) ≡ wide_codes (map (λ y. code (f y)) xs)
wides-read {f = f} {v = v} {xs = xs} h = ap wides (sym (listed-trees (map f xs))) ∙ wides-codes v (trees (map f xs)) h.fits ∙ ap wide_codes (map-codes f xs)

module _ {b : Bool} {v : Scope} {room : ℕ} {e : ReadFault} (bs : List ℕ) where
  pub pat-number : RefusesNumber 0 9 e bs → Refuses b pat v room e bs
  pat-number h = record { no = no }
    where
      no : HasRoom v bs → (t : Tree) → IsRight b pat v room t → Denies e bs (code t)
      no l (node pattern ts) g = first-denied _ (h.no (count ts) (omega arith) (omega (arith, count-listed ts, g.fits.0.0, g.fits.0.1)) (count-right ts (narrow-are ts g)))
      no l (node par ts) g = absurd g.fits.1
      no l (node _ ts) g = absurd g.fits.1

  module _ {A : Type 0} {f : A → Tree} {xs : List A} {start now : List ℕ} (n : ℕ) where
    pub pat-going : Row f pat_part v room xs start now → bs ≡ be32 n ++ start → n < 2 ^ 32 → length xs < n
        → ((t : Tree) → IsRight b pat_part v room t → HasRoom v now → wides (map f xs) + wide_code (code t) ≤ 1 → length xs + 1 ≤ 8 + (wides (map f xs) + wide_code (code t)) → Denies e now (code t)) → Refuses b pat v room e bs
    pat-going h is m i k = record { no = no }
      where
        no : HasRoom v bs → (t : Tree) → IsRight b pat v room t → Denies e bs (code t)
        no l (node pattern ts) g =
            let r = narrow-are ts g in
            number-next (count ts) (joined (codes ts)) is m (count-right ts r)
            (λ w. go xs h (less-left (be32 n) is l) (codes ts) (each-code ts r) (omega (arith, length-codes ts, w))
            (λ t ds u a j.
            let cs = map (λ y. code (f y)) xs in
            let s : wides (listed ts) ≡ wide_codes cs + (wide_code (code t) + wide_codes ds) = wides-codes v ts r.fits ∙ ap wide_codes u ∙ wides-append cs (code t ∷ ds) in
            let c : count ts ≡ length cs + (1 + length ds) = sym (length-codes ts) ∙ ap length u ∙ length-append cs (code t ∷ ds) ∙ ap (λ (z : ℕ). length cs + z) (omega arith) in
            let q : length cs ≡ length xs = length-map (λ y. code (f y)) xs in
            first-denied (joined ds) (k t a j (omega (arith, s, g.fits.0.0, wides-read h)) (omega (arith, s, c, q, g.fits.0.1, wides-read h, wides-le ds, count-listed ts)))))
        no l (node par ts) g = absurd g.fits.1
        no l (node _ ts) g = absurd g.fits.1

    pub pat-refused : Row f pat_part v room xs start now → bs ≡ be32 n ++ start → n < 2 ^ 32 → length xs < n → Refuses b pat_part v room e now → Refuses b pat v room e bs
    pat-refused h is m i r = pat-going h is m i (λ t g l p q. r.no l t g)
