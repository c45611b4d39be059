-- What must hold of a form beside the sorts of its constituents stays where each of these is changed to one like it.
use Rattle.std.proofs.Common.{◌≡◌, ℕ, suc, ◌+◌, cond, List, [], ◌∷◌, ◌++◌, length, refl, sym, ap, ◌∙◌}
use Rattle.std.specs.Prelude.{⊤}
use Rattle.std.proofs.lemmas.List.Sums.{sum_by-cons}
use Rattle.calculus.specs.Tree.{Label, var, name_var, tuple, receive, match, case, bundle, pattern, either, not_this, set_pattern, map_pattern, Tree, Trees, none, also}
use Rattle.calculus.specs.declared.plain.Rights.{Rights}
use Rattle.calculus.specs.declared.plain.Kind.{Kind}
use Rattle.calculus.specs.Shape.{count, listed, label_of, held, at}
use Rattle.calculus.specs.Variables.{bound, bound_all, binders, is_wide}
use Rattle.calculus.specs.Form.{Sort, term, part, a_bind, a_case, a_rest, pat, pat_part, name_part, row_of, pair_of, these, kids, Scope, IsPlain, IsNarrow, wides}
use Rattle.calculus.proofs.Kept.{KeptAll, Like, like}

pub count-like : (ts us : Trees) → Like ts us → count us ≡ count ts
count-like none none h = refl
count-like none (also u us) h = absurd h
count-like (also t ts) none h = absurd h
count-like (also t ts) (also u us) h = ap (λ n. n + 1) (count-like ts us h.2)

pub bound-like : (ts us : Trees) → Like ts us → bound_all us ≡ bound_all ts
bound-like none none h = refl
bound-like none (also u us) h = absurd h
bound-like (also t ts) none h = absurd h
bound-like (also t ts) (also u us) h = ap (λ vs. vs ++ bound_all us) h.1 ∙ ap (λ vs. bound t ++ vs) (bound-like ts us h.2)

pub length-like : (ts us : Trees) → Like ts us → length (listed us) ≡ length (listed ts)
length-like none none h = refl
length-like none (also u us) h = absurd h
length-like (also t ts) none h = absurd h
length-like (also t ts) (also u us) h = ap suc (length-like ts us h.2)

wide : Tree → ℕ
wide t = cond (is_wide (label_of t)) 1 0

wides-like : (ts us : Trees) → Like ts us → wides (listed us) ≡ wides (listed ts)
unfolding wide
wides-like none none h = refl
wides-like none (also u us) h = absurd h
wides-like (also t ts) none h = absurd h
wides-like (also t ts) (also u us) h =
    sum_by-cons wide u (listed us) ∙ ap (λ l. cond (is_wide l) 1 0 + wides (listed us)) h.0 ∙ ap (λ n. wide t + n) (wides-like ts us h.2) ∙ sym (sum_by-cons wide t (listed ts))

narrow-like : (ts us : Trees) → Like ts us → IsNarrow (listed ts) → IsNarrow (listed us)
narrow-like ts us h n =
    let a = wides-like ts us h in
    let b = length-like ts us h in
    (rw a n.0, rw (a, b) n.1)

-- the number of what the first, and the second, constituent holds, where that is a row
Rows : ℕ → Trees → ℕ
Rows i ts = length (held (at i (listed ts)))

row_first : (r : Sort) (ss : List Sort) (ts us : Trees) → KeptAll (these (row_of r ∷ ss)) ts us → Rows 0 us ≡ Rows 0 ts
unfolding Rows
row_first r ss none us h = absurd h
row_first r ss (also t ts) none h = absurd h
row_first r ss (also t ts) (also u us) h = h.0.2

row_second : (q r : Sort) (ss : List Sort) (ts us : Trees) → KeptAll (these (q ∷ row_of r ∷ ss)) ts us → Rows 1 us ≡ Rows 1 ts
unfolding Rows
row_second q r ss none us h = absurd h
row_second q r ss (also t ts) none h = absurd h
row_second q r ss (also t none) (also u us) h = absurd h.1
row_second q r ss (also t (also x xs)) (also u none) h = absurd h.1
row_second q r ss (also t (also x xs)) (also u (also y ys)) h = h.1.0.2

-- no variable
abbrev pub NoVariable : Label → Type 0
NoVariable (var i) = ⊥
NoVariable (name_var i) = ⊥
NoVariable _ = ⊤

module _ (n : ℕ) (x y : Scope) (ts us : Trees) where
  receive_kept : (k : Kind) (s : Sort) → KeptAll (kids s (receive k) n) ts us → Rows 0 us ≡ Rows 0 ts
  receive_kept k part g = row_first a_bind (term ∷ []) ts us g
  receive_kept k pat_part g = row_first a_bind (term ∷ []) ts us g
  receive_kept k name_part g = row_first a_bind (term ∷ []) ts us g
  receive_kept k _ g = absurd g

  match_kept : (s : Sort) → KeptAll (kids s match n) ts us → Rows 1 us ≡ Rows 1 ts
  match_kept part g = row_second term a_case [] ts us g
  match_kept pat_part g = row_second term a_case [] ts us g
  match_kept name_part g = row_second term a_case [] ts us g
  match_kept _ g = absurd g

  set_kept : (s : Sort) → KeptAll (kids s set_pattern n) ts us → Rows 0 us ≡ Rows 0 ts
  set_kept pat_part g = row_first pat (a_rest ∷ []) ts us g
  set_kept name_part g = row_first pat (a_rest ∷ []) ts us g
  set_kept term g = absurd g
  set_kept _ g = absurd g

  map_kept : (s : Sort) → KeptAll (kids s map_pattern n) ts us → Rows 0 us ≡ Rows 0 ts
  map_kept pat_part g = row_first (pair_of pat) (a_rest ∷ []) ts us g
  map_kept name_part g = row_first (pair_of pat) (a_rest ∷ []) ts us g
  map_kept term g = absurd g
  map_kept _ g = absurd g

  bundle_kept : (r : Rights) (s : Sort) → Like ts us → IsPlain s x (bundle r) ts → IsPlain s y (bundle r) us
  bundle_kept r pat_part g h = bound-like ts us g ∙ h
  bundle_kept r name_part g h = bound-like ts us g ∙ h
  bundle_kept r _ g h = tt

  pub plain_kept : (l : Label) (s : Sort) → NoVariable l → KeptAll (kids s l n) ts us → IsPlain s x l ts → IsPlain s y l us
  unfolding Rows
  plain_kept (var i) s v g h = absurd v
  plain_kept (name_var i) s v g h = absurd v
  plain_kept tuple s v g h = rw (count-like ts us (like (kids s tuple n) ts us g)) h
  plain_kept (receive k) s v g h = rw (receive_kept k s g) h
  plain_kept match s v g h = rw (match_kept s g) h
  plain_kept pattern s v g h = narrow-like ts us (like (kids s pattern n) ts us g) h
  plain_kept set_pattern s v g h = rw (set_kept s g) h
  plain_kept map_pattern s v g h = rw (map_kept s g) h
  plain_kept either s v g h = bound-like ts us (like (kids s either n) ts us g) ∙ h
  plain_kept not_this s v g h = bound-like ts us (like (kids s not_this n) ts us g) ∙ h
  plain_kept (bundle r) s v g h = bundle_kept r s (like (kids s (bundle r) n) ts us g) h
  plain_kept _ s v g h = h

pub binders-kept : (l : Label) (ts us : Trees) → Like ts us → binders l us ≡ binders l ts
binders-kept (receive k) ts us g = bound-like ts us g
binders-kept case ts us g = bound-like ts us g
binders-kept _ ts us g = refl
