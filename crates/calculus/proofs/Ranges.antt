-- In a short code each index of a variable has room in four bytes, since each variable in scope costs a byte.
use Rattle.std.proofs.Common.{◌≡◌, ℕ, zero, suc, ◌<◌, ◌≤◌, ◌+◌, ◌^◌, List, [], ◌∷◌, ◌++◌, length, map as each, reverse, ◌∙◌, arith, length-append}
use Rattle.std.proofs.lemmas.List.{length-map, length-reverse}
use Rattle.std.specs.Prelude.{⊤}
use Rattle.calculus.specs.Tree.{Label, int, fresh, var, name_var, receive, new, case, match, Tree, node, Trees, none, also}
use Rattle.calculus.specs.declared.plain.Origin.{Origin}
use Rattle.calculus.specs.Kinds.{origin_number}
use Rattle.calculus.specs.Bytes.{joined, be32}
use Rattle.calculus.specs.Shape.{count}
use Rattle.calculus.specs.Variables.{Sense, a_process, a_name, bound, bound_all, binders}
use Rattle.calculus.specs.Code.{code, codes}
use Rattle.calculus.specs.CodeLaws.{IsShort}
use Rattle.calculus.specs.Form.{Sort, term, part, a_bind, a_case, pat, pat_part, name_part, row_of, Kids, all, these, no_form, kids, Scope, HasVariable, IsPlain, outer, Fits, Hold, IsClosed}
use Rattle.calculus.proofs.Tails.{IsFine}
use Rattle.calculus.proofs.Reading.{IsRanged}
use Rattle.calculus.proofs.Formed.{Formed, Holds, length-code}
use Rattle.calculus.proofs.Binding.{bound-le, no_bound}
use Rattle.calculus.proofs.FromFits.{formed, fine, any_number}

-- the indices of d variables outside, and of n more in the last of these trees, have room beside the codes
abbrev Room : ℕ → ℕ → Trees → Type 0
Room d n none = ⊤
Room d n (also t none) = n + d + length (code t) < 2 ^ 32
Room d n (also t (also u us)) = (d + length (code t) < 2 ^ 32) × Room d n (also u us)

no_more : (d : ℕ) (ts : Trees) → d + length (joined (codes ts)) < 2 ^ 32 → Room d 0 ts
no_more d none h = tt
no_more d (also t none) h = omega (arith, length-append (code t) [])
no_more d (also t (also u us)) h =
    let e = length-append (code t) (joined (codes (also u us))) in
    (omega (arith, e), no_more d (also u us) (omega (arith, e)))

module _ (P : Label → Type 0) (d : ℕ) where
  -- a process under what stands before it
  two_room : (t u : Tree) → Formed P term u → d + length (joined (codes (also t (also u none)))) < 2 ^ 32 → Room d (length (bound_all (also t (also u none)))) (also t (also u none))
  two_room t u h a =
      let e : length (bound_all (also t (also u none))) ≡ length (bound t) =
      length-append (bound t) (bound u ++ []) ∙ (let b : bound u ≡ [] = no_bound P term u tt h in rw b (omega arith))
      in
      let c = length-append (code t) (code u ++ []) in
      let f = length-append (code u) [] in
      (omega (arith, c), omega (arith, c, e, f, bound-le t))

  two_kids : (r : Sort) (ts : Trees) → Holds P (these (r ∷ term ∷ [])) ts → d + length (joined (codes ts)) < 2 ^ 32 → Room d (length (bound_all ts)) ts
  two_kids r none h a = absurd h
  two_kids r (also t none) h a = absurd h.1
  two_kids r (also t (also u none)) h a = two_room t u h.1.0 a
  two_kids r (also t (also u (also x xs))) h a = absurd h.1.1

  -- a process under the names that a `new` makes
  new_room : (os : List Origin) (ts : Trees) → Holds P (these (term ∷ [])) ts → d + length (code (node (new os) ts)) < 2 ^ 32 → Room d (length (binders (new os) ts)) ts
  new_room os none h a = absurd h
  new_room os (also t none) h a =
      omega (arith, length-code (new os) (also t none), length-append (be32 (length os)) (each origin_number os), length-map os origin_number, length-map os (λ o. a_name), length-append (code t) [])
  new_room os (also t (also u us)) h a = absurd h.1

  rest_room : (l : Label) (ts : Trees) → d + length (code (node l ts)) < 2 ^ 32 → d + length (joined (codes ts)) < 2 ^ 32
  rest_room l ts a = omega (arith, length-code l ts)

  room : (l : Label) (s : Sort) (ts : Trees) → Holds P (kids s l 0) ts → d + length (code (node l ts)) < 2 ^ 32 → Room d (length (binders l ts)) ts
  room (receive k) part ts h a = two_kids (row_of a_bind) ts h (rest_room (receive k) ts a)
  room (receive k) pat_part ts h a = two_kids (row_of a_bind) ts h (rest_room (receive k) ts a)
  room (receive k) name_part ts h a = two_kids (row_of a_bind) ts h (rest_room (receive k) ts a)
  room (receive k) _ ts h a = absurd h
  room case a_case ts h a = two_kids pat ts h (rest_room case ts a)
  room case _ ts h a = absurd h
  room (new os) part ts h a = new_room os ts h a
  room (new os) pat_part ts h a = new_room os ts h a
  room (new os) name_part ts h a = new_room os ts h a
  room (new os) _ ts h a = absurd h
  room l s ts h a = no_more d ts (rest_room l ts a)

pub in_scope : (v : Scope) (i : ℕ) (w : Sense) → HasVariable v i w → i < length v
in_scope [] i w h = absurd h
in_scope (x ∷ v) zero w h = omega arith
in_scope (x ∷ v) (suc i) w h = omega (arith, in_scope v i w h)

in_range : (s : Sort) (v : Scope) (l : Label) (ts : Trees) → IsPlain s v l ts → length v < 2 ^ 32 → IsRanged l
in_range s v (int z) ts h a = h
in_range s v (fresh x) ts h a = h.0
in_range s v (var i) ts h a = omega (arith, in_scope v i a_process h)
in_range s v (name_var i) ts h a = omega (arith, in_scope v i a_name h)
in_range s v _ ts h a = tt

smaller : (d e n : ℕ) (ts : Trees) → e ≤ d → Room d n ts → Room e n ts
smaller d e n none l h = tt
smaller d e n (also t none) l h = omega arith
smaller d e n (also t (also u us)) l h = (omega arith, smaller d e n (also u us) l h.1)

outer-le : (s : Sort) (l : Label) (v : Scope) → length (outer s l v) ≤ length v
outer-le pat_part (receive k) v = omega arith
outer-le pat_part (new os) v = omega arith
outer-le pat_part match v = omega arith
outer-le name_part (receive k) v = omega arith
outer-le name_part (new os) v = omega arith
outer-le name_part match v = omega arith
outer-le s l v = omega arith

mutual
  pub ranged : (s : Sort) (v : Scope) (t : Tree) → Fits s v t → length v + length (code t) < 2 ^ 32 → Formed IsRanged s t
  ranged s v (node l ts) h a =
      let o = reverse (binders l ts) in
      let w = outer s l v in
      let k = (formed IsFine fine s v (node l ts) h).1 in
      let r : Room (length v) (length (binders l ts)) ts = room IsFine (length v) l s ts k a in
      let q : Room (length w) (length o) ts = rw (length-reverse (binders l ts)) (smaller (length v) (length w) (length (binders l ts)) ts (outer-le s l v) r) in
      (in_range s v l ts h.0 (omega arith), any_number IsRanged s l (count ts) ts (ranged_kids (kids s l (count ts)) w o ts h.1 q))

  ranged_kids : (p : Kids) (v : Scope) (o : List Sense) (ts : Trees) → Hold p v o ts → Room (length v) (length o) ts → Holds IsRanged p ts
  ranged_kids (all s) v o none h r = tt
  ranged_kids (all s) v o (also t none) h r = (ranged s v t h.0 (omega arith), tt)
  ranged_kids (all s) v o (also t (also u us)) h r = (ranged s v t h.0 r.0, ranged_kids (all s) v o (also u us) h.1 r.1)
  ranged_kids (these []) v o none h r = tt
  ranged_kids (these []) v o (also t ts) h r = absurd h
  ranged_kids (these (s ∷ ss)) v o none h r = absurd h
  ranged_kids (these (s ∷ [])) v o (also t none) h r = (ranged s (o ++ v) t h.0 (omega (arith, length-append o v)), tt)
  ranged_kids (these (s ∷ x ∷ ss)) v o (also t none) h r = absurd h.1
  ranged_kids (these (s ∷ ss)) v o (also t (also u us)) h r = (ranged s v t h.0 r.0, ranged_kids (these ss) v o (also u us) h.1 r.1)
  ranged_kids no_form v o ts h r = absurd h

-- the data in a closed process with a short code have room in it
pub ranged_closed : (t : Tree) → IsClosed t → IsShort t → Formed IsRanged term t
ranged_closed t h a = ranged term [] t h (omega arith)
