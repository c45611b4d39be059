-- Names bound one after another.
use Rattle.std.proofs.Common.{◌≡◌, ℕ, ◌+◌, ◌<◌, ◌≤◌, List, [], ◌∷◌, ◌++◌, length, get_or, drop, map, reverse, ap, sym, ◌∙◌, append_assoc, append-nil, subst}
use Rattle.std.specs.Prelude.{Result, OnOk}
use Rattle.std.proofs.lemmas.List.{drop_all, drop_more, reverse-append}
use Rattle.calculus.specs.Bare.{names, all_names}
use Rattle.calculus.specs.Written.{Written, writtens}
use Rattle.normal_parts.specs.InScope.{within}
use Rattle.open_processes.proofs.Meanings.{pat-pairs}

-- what is bound after the one and then the other
pub within-append : (xs ys v : List (List ℕ)) → within (xs ++ ys) v ≡ within ys (within xs v)
within-append xs ys v = ap (λ r. r ++ v) (reverse-append xs ys) ∙ append_assoc (reverse ys) (reverse xs) v

pub within-two : (xs ys v : List (List ℕ)) → within (xs ++ (ys ++ [])) v ≡ within ys (within xs v)
within-two xs ys v = ap (λ z. within (xs ++ z) v) (append-nil ys) ∙ within-append xs ys v

-- the second of two constituents was bound after the first
pub bound-two : {A E : Type 0} (r : Result A E) (n : List (List ℕ)) (xs ys v o : List (List ℕ)) → o ≡ within xs v → OnOk r (n ≡ within ys o) → OnOk r (n ≡ within (xs ++ (ys ++ [])) v)
bound-two r n xs ys v o e h = subst (λ z. OnOk r (n ≡ z)) (ap (within ys) e ∙ sym (within-two xs ys v)) h

-- one constituent was bound
pub bound-one : {A E : Type 0} (r : Result A E) (n : List (List ℕ)) (xs v : List (List ℕ)) → OnOk r (n ≡ within xs v) → OnOk r (n ≡ within (xs ++ []) v)
bound-one r n xs v h = subst (λ z. OnOk r (n ≡ within z v)) (sym (append-nil xs)) h

-- a turn of a loop over what is bound, and its end
module _ {A : Type 0} (f : A → Written) (ps : List A) (i : ℕ) where
  pub bound-turn : (x : A) (o n w : List (List ℕ)) → i < length ps → x ≡ get_or ps i x → n ≡ within (names (f x)) o → within (all_names (writtens (map f (drop i ps)))) o ≡ w → within (all_names (writtens (map f (drop (i + 1) ps)))) n ≡ w
  bound-turn x o n w l g e h =
      let m : drop i ps ≡ x ∷ drop (i + 1) ps = drop_more ps i x l ∙ ap (λ z. z ∷ drop (i + 1) ps) (sym g) in
      ap (within (all_names (writtens (map f (drop (i + 1) ps))))) e
      ∙ sym (within-append (names (f x)) (all_names (writtens (map f (drop (i + 1) ps)))) o)
      ∙ ap (λ z. within (all_names (writtens (map f z))) o) (sym m)
      ∙ h

  pub bound-end : (o w : List (List ℕ)) → length ps ≤ i → within (all_names (writtens (map f (drop i ps)))) o ≡ w → o ≡ w
  bound-end o w l h = ap (λ z. within (all_names (writtens (map f z))) o) (sym (drop_all i ps l)) ∙ h

pub ruleset binding = (within-append, within-two, pat-pairs)
