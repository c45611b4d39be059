-- What is found in a map once an entry was put in or a value was written.
use Rattle.std.proofs.Common.{◌≡◌, Bool, true, false, cond, List, [], ◌∷◌, refl, sym, ◌∙◌, Some}
use Rattle.std.specs.Prelude.{Option}
use Rattle.std.specs.Map.{lookup}
use Rattle.std.specs.Ordering.{match_ordering}
use Rattle.std.specs.declared.cmp.Ordering.{Ordering}
use Rattle.std.specs.declared.cmp.Ordering.TheVariants.{Less, Equal, Greater}
use Rattle.std.specs.BTreeMap.{insert_entry}

module _ {K X : Type 0} (t : K → Bool) where
  pub nested : (b c : Bool) (v w : X) (o : Option X) → b ≡ c → cond c (Some v) o ≡ cond b (Some v) (cond c (Some w) o)
  nested true true v w o e = refl
  nested false false v w o e = refl
  nested true false v w o e = absurd (cc)
  nested false true v w o e = absurd (cc)

  pub apart : (b c : Bool) (v w : X) (o p : Option X) → (b ≡ true → c ≡ true → ⊥) → p ≡ cond b (Some v) o → cond c (Some w) p ≡ cond b (Some v) (cond c (Some w) o)
  apart true true v w o p n e = absurd (n refl refl)
  apart true false v w o p n e = e
  apart false true v w o p n e = refl
  apart false false v w o p n e = e

  -- what a test finds after a put, where it holds of equal keys alike and of no two others
  pub found-put : (cmp : K → K → Ordering) (k : K) (v : X) → ((q : K) → cmp k q ≡ Equal → t k ≡ t q) → ((q : K) → t k ≡ true → t q ≡ true → cmp k q ≡ Equal)
      → (es : List (K × X)) → lookup t (insert_entry cmp es k v) ≡ cond (t k) (Some v) (lookup t es)
  found-put cmp k v f g [] = refl
  found-put cmp k v f g (e ∷ es) =
      elim (cmp k e.0) as (λ o. cmp k e.0 ≡ o → lookup t (match_ordering o ((k, v) ∷ e ∷ es) ((e.0, v) ∷ es) (e ∷ insert_entry cmp es k v)) ≡ cond (t k) (Some v) (cond (t e.0) (Some e.1) (lookup t es))) [
        | Less ↦ λ _. refl
        | Equal ↦ λ s. nested (t k) (t e.0) v e.1 (lookup t es) (f e.0 s)
        | Greater ↦ λ s. apart (t k) (t e.0) v e.1 (lookup t es) (lookup t (insert_entry cmp es k v)) (λ a b. differs (sym s ∙ g e.0 a b)) (found-put cmp k v f g es)
      ] refl
    where
      differs : Greater ≡ Equal → ⊥
      differs e = cc
