-- Closed short patterns are known as the search wants them.
use Rattle.std.proofs.Common.{◌≡◌, ℕ, ◌+◌, ◌<◌, ◌^◌, Bool, true, false, cond, List, [], ◌∷◌, length, refl, sym, subst, arith, length-append, inl, inr, ⊎_elim}
use Rattle.std.specs.Prelude.{⊤, ◌⊎◌, leb}
use Rattle.calculus.specs.declared.plain.TermRest.{TermRest}
use Rattle.calculus.specs.Tree.{Label, Tree, node, trees, par, row, bool, int, str, uri, bytes, pair, bind, receive, new, match, tuple, send, bundle, pattern, rest, any, some_process, some_name, simple, same, both, either, not_this, list_pattern, set_pattern, map_pattern, Trees, none, also}
use Rattle.calculus.specs.Bytes.{joined}
use Rattle.calculus.specs.Shape.{only, count, listed, leaf, many, three}
use Rattle.calculus.specs.Code.{code, codes}
use Rattle.calculus.specs.CodeLaws.{IsShort}
use Rattle.calculus.specs.Form.{a_rest, a_bind, pat, name_pat, pat_part, name_part, row_of, pair_of, all, Hold, Fits}
use Rattle.calculus.proofs.Formed.{length-code}
use Rattle.calculus.proofs.Tails.{length-be32}
use Rattle.spatial_match.specs.Given.{Tries, TriesIn, AllTries, IsClosedPattern}

-- the bytes of the codes of these trees
abbrev sum : Trees → ℕ
sum ts = length (joined (codes ts))

sum-also : (t : Tree) (ts : Trees) → sum (also t ts) ≡ length (code t) + sum ts
sum-also t ts = length-append (code t) (joined (codes ts))

only-length : (t : Tree) → length (code (only t)) ≡ 4 + length (code t)
only-length t = omega (arith, length-code par (also t none), sum-also t none, length-be32)

within : (l : Label) (ts : Trees) → IsShort (only (node l ts)) → sum ts < 2 ^ 32
within l ts h = omega (arith, h, only-length (node l ts), length-code l ts)

below : (l : Label) (ts : Trees) → length (code (node l ts)) < 2 ^ 32 → sum ts < 2 ^ 32
below l ts h = omega (arith, h, length-code l ts)

first-short : (t : Tree) (ts : Trees) → sum (also t ts) < 2 ^ 32 → IsShort t
first-short t ts h = omega (arith, h, sum-also t ts)

rest-short : (t : Tree) (ts : Trees) → sum (also t ts) < 2 ^ 32 → sum ts < 2 ^ 32
rest-short t ts h = omega (arith, h, sum-also t ts)

count-listed : (ts : Trees) → count ts ≡ length (listed ts)
count-listed none = refl
count-listed (also t ts) = omega (arith, count-listed ts)

-- a name variable, or a part of a pattern
name_cases : (t : Tree) → Fits name_part [] t → (t ≡ leaf some_name) ⊎ Fits pat_part [] t
name_cases (node some_name none) h = inl refl
name_cases (node some_name (also t ts)) h = absurd h.1
name_cases (node _ ts) h = inr h

-- the parts of a pattern have room with four bytes more
abbrev AreSmall : Trees → Type 0
AreSmall none = ⊤
AreSmall (also t ts) = IsShort (only t) × AreSmall ts

small : (ts : Trees) → sum ts + 4 < 2 ^ 32 → AreSmall ts
small none h = tt
small (also t ts) h = (omega (arith, h, only-length t, sum-also t ts), small ts (omega (arith, h, sum-also t ts)))

parts_small : (ts : Trees) → IsShort (node pattern ts) → AreSmall ts
parts_small ts h = small ts (omega (arith, h, length-code pattern ts, length-be32))

mutual
  pub pattern_t : (t : Tree) → IsClosedPattern t → IsShort t → Tries t
  pattern_t (node pattern ts) (inl h) k = (h.0.0, in_parts ts h.1 (parts_small ts k))
  pattern_t (node pattern ts) (inr h) k = (h.0.0, in_names (leb (count ts) 1) ts h.1 (parts_small ts k))
  pattern_t (node _ ts) (inl h) k = absurd h.1
  pattern_t (node _ ts) (inr h) k = absurd h.1

  in_parts : (ts : Trees) → Hold (all pat_part) [] [] ts → AreSmall ts → TriesIn pattern ts
  in_parts none h k = tt
  in_parts (also t ts) h k = (part_t t h.0 k.0, in_parts ts h.1 k.1)

  in_names : (b : Bool) (ts : Trees) → Hold (cond b (all name_part) (all pat_part)) [] [] ts → AreSmall ts → TriesIn pattern ts
  in_names b none h k = tt
  in_names true (also t ts) h k =
      (⊎_elim (λ (e : t ≡ leaf some_name). subst Tries (sym e) (tt, tt)) (λ (g : Fits pat_part [] t). part_t t g k.0) (name_cases t h.0), in_names true ts h.1 k.1)
  in_names false (also t ts) h k = (part_t t h.0 k.0, in_names false ts h.1 k.1)

  in_row : (ts : Trees) → Hold (all pat) [] [] ts → sum ts < 2 ^ 32 → TriesIn row ts
  in_row none h k = tt
  in_row (also t ts) h k = (pattern_t t (inl h.0) (first-short t ts k), in_row ts h.1 (rest-short t ts k))

  in_tuple : (ts : Trees) → Hold (all pat) [] [] ts → sum ts < 2 ^ 32 → TriesIn tuple ts
  in_tuple none h k = tt
  in_tuple (also t ts) h k = (pattern_t t (inl h.0) (first-short t ts k), in_tuple ts h.1 (rest-short t ts k))

  row_t : (t : Tree) → Fits (row_of pat) [] t → IsShort t → Tries t
  row_t (node row ts) h k = (tt, in_row ts h.1 (below row ts k))
  row_t (node _ ts) h k = absurd h.1

  pair_t : (t : Tree) → Fits (pair_of pat) [] t → IsShort t → Tries t
  pair_t (node pair (also a (also b none))) h k =
      let s = below pair (also a (also b none)) k in
      (tt, (pattern_t a (inl h.1.0) (first-short a (also b none) s), (pattern_t b (inl h.1.1.0) (first-short b none (rest-short a (also b none) s)), tt)))
  pair_t (node pair none) h k = absurd h.1
  pair_t (node pair (also a none)) h k = absurd h.1.1
  pair_t (node pair (also a (also b (also c cs)))) h k = absurd h.1.1.1
  pair_t (node _ ts) h k = absurd h.1

  in_pairs : (ts : Trees) → Hold (all (pair_of pat)) [] [] ts → sum ts < 2 ^ 32 → TriesIn row ts
  in_pairs none h k = tt
  in_pairs (also t ts) h k = (pair_t t h.0 (first-short t ts k), in_pairs ts h.1 (rest-short t ts k))

  pairs_t : (t : Tree) → Fits (row_of (pair_of pat)) [] t → IsShort t → Tries t
  pairs_t (node row ts) h k = (tt, in_pairs ts h.1 (below row ts k))
  pairs_t (node _ ts) h k = absurd h.1

  rest_t : (t : Tree) → Fits a_rest [] t → Tries t
  rest_t (node (rest r) none) h = (tt, tt)
  rest_t (node (rest r) (also t ts)) h = absurd h.1
  rest_t (node _ ts) h = absurd h.1

  part_t : (t : Tree) → Fits pat_part [] t → IsShort (only t) → Tries t
  part_t (node (bool x) none) h k = (record { closed = (tt, (h, tt)); short = k }, tt)
  part_t (node (bool x) (also t ts)) h k = absurd h.1
  part_t (node (int x) none) h k = (record { closed = (tt, (h, tt)); short = k }, tt)
  part_t (node (int x) (also t ts)) h k = absurd h.1
  part_t (node (str x) none) h k = (record { closed = (tt, (h, tt)); short = k }, tt)
  part_t (node (str x) (also t ts)) h k = absurd h.1
  part_t (node (uri x) none) h k = (record { closed = (tt, (h, tt)); short = k }, tt)
  part_t (node (uri x) (also t ts)) h k = absurd h.1
  part_t (node (bytes x) none) h k = (record { closed = (tt, (h, tt)); short = k }, tt)
  part_t (node (bytes x) (also t ts)) h k = absurd h.1
  part_t (node any none) h k = (tt, tt)
  part_t (node any (also t ts)) h k = absurd h.1
  part_t (node some_process none) h k = (tt, tt)
  part_t (node some_process (also t ts)) h k = absurd h.1
  part_t (node (simple x) none) h k = (tt, tt)
  part_t (node (simple x) (also t ts)) h k = absurd h.1
  part_t (node same none) h k = absurd h.1
  part_t (node same (also t none)) h k = (record { closed = h.1.0; short = first-short t none (within same (also t none) k) }, tt)
  part_t (node same (also t (also u us))) h k = absurd h.1.1
  part_t (node both none) h k = absurd h.1
  part_t (node both (also a none)) h k = absurd h.1.1
  part_t (node both (also a (also b none))) h k =
      let s = within both (also a (also b none)) k in
      (tt, (pattern_t a (inl h.1.0) (first-short a (also b none) s), (pattern_t b (inl h.1.1.0) (first-short b none (rest-short a (also b none) s)), tt)))
  part_t (node both (also a (also b (also c cs)))) h k = absurd h.1.1.1
  part_t (node either none) h k = absurd h.1
  part_t (node either (also a none)) h k = absurd h.1.1
  part_t (node either (also a (also b none))) h k =
      let s = within either (also a (also b none)) k in
      (tt, (pattern_t a (inl h.1.0) (first-short a (also b none) s), (pattern_t b (inl h.1.1.0) (first-short b none (rest-short a (also b none) s)), tt)))
  part_t (node either (also a (also b (also c cs)))) h k = absurd h.1.1.1
  part_t (node not_this none) h k = absurd h.1
  part_t (node not_this (also a none)) h k = (tt, (pattern_t a (inl h.1.0) (first-short a none (within not_this (also a none) k)), tt))
  part_t (node not_this (also a (also b bs))) h k = absurd h.1.1
  part_t (node list_pattern none) h k = absurd h.1
  part_t (node list_pattern (also a none)) h k = absurd h.1.1
  part_t (node list_pattern (also a (also b none))) h k =
      let s = within list_pattern (also a (also b none)) k in
      (tt, (row_t a h.1.0 (first-short a (also b none) s), (rest_t b h.1.1.0, tt)))
  part_t (node list_pattern (also a (also b (also c cs)))) h k = absurd h.1.1.1
  part_t (node tuple ts) h k = (omega (arith, h.0, count-listed ts), in_tuple ts h.1 (within tuple ts k))
  part_t (node set_pattern none) h k = absurd h.1
  part_t (node set_pattern (also a none)) h k = absurd h.1.1
  part_t (node set_pattern (also a (also b none))) h k =
      let s = within set_pattern (also a (also b none)) k in
      (tt, (row_t a h.1.0 (first-short a (also b none) s), (rest_t b h.1.1.0, tt)))
  part_t (node set_pattern (also a (also b (also c cs)))) h k = absurd h.1.1.1
  part_t (node map_pattern none) h k = absurd h.1
  part_t (node map_pattern (also a none)) h k = absurd h.1.1
  part_t (node map_pattern (also a (also b none))) h k =
      let s = within map_pattern (also a (also b none)) k in
      (tt, (pairs_t a h.1.0 (first-short a (also b none) s), (rest_t b h.1.1.0, tt)))
  part_t (node map_pattern (also a (also b (also c cs)))) h k = absurd h.1.1.1
  part_t (node (send q) none) h k = absurd h.1
  part_t (node (send q) (also a none)) h k = absurd h.1.1
  part_t (node (send q) (also a (also b none))) h k =
      let s = within (send q) (also a (also b none)) k in
      (tt, (pattern_t a (inr h.1.0) (first-short a (also b none) s), (row_t b h.1.1.0 (first-short b none (rest-short a (also b none) s)), tt)))
  part_t (node (send q) (also a (also b (also c cs)))) h k = absurd h.1.1.1
  part_t (node (bundle r) none) h k = absurd h.1
  part_t (node (bundle r) (also a none)) h k = (tt, (pattern_t a (inl h.1.0) (first-short a none (within (bundle r) (also a none) k)), tt))
  part_t (node (bundle r) (also a (also b bs))) h k = absurd h.1.1
  part_t (node (receive x) ts) h k = (record { closed = (tt, (h, tt)); short = k }, tt)
  part_t (node (new os) ts) h k = (record { closed = (tt, (h, tt)); short = k }, tt)
  part_t (node match ts) h k = (record { closed = (tt, (h, tt)); short = k }, tt)
  part_t (node _ ts) h k = absurd h.1

-- the patterns of a bind
in_bind : (ts : List Tree) → Hold (all name_pat) [] [] (trees ts) → sum (trees ts) < 2 ^ 32 → AllTries ts
in_bind [] h k = tt
in_bind (t ∷ ts) h k = (pattern_t t (inr h.0) (first-short t (trees ts) k), in_bind ts h.1 (rest-short t (trees ts) k))

pub bind_tries : (c : Tree) (ts : List Tree) (r : TermRest) → Fits a_bind [] (three bind c (many row ts) (leaf (rest r))) → IsShort (three bind c (many row ts) (leaf (rest r))) → AllTries ts
bind_tries c ts r h k =
    let more = also (many row ts) (also (leaf (rest r)) none) in
    let s = below bind (also c more) k in
    in_bind ts h.1.1.0.1 (below row (trees ts) (first-short (many row ts) (also (leaf (rest r)) none) (rest-short c more s)))
