-- Things in a map under their ids: what is found, put in, changed and taken out.
use Rattle.std.proofs.Common.{◌≡◌, ℕ, Bool, true, false, cond, List, [], ◌∷◌, ◌++◌, map as each, refl, sym, ap, subst, ◌∙◌, append_assoc, append-nil, IsPermutation, Vec, Global}
use Rattle.std.specs.Prelude.{⊤, Some, None}
use Rattle.std.specs.Str.{bytes_eq}
use Rattle.std.specs.Map.{lookup, set_value, keys_of}
use Rattle.std.specs.List.{AllByRecursion}
use Rattle.std.specs.List.Sorted.{IsStrictlySortedBy}
use Rattle.std.specs.Ordering.{nat_cmp, is_eq, match_ordering}
use Rattle.std.specs.Cmp.Lexicographic.{slice_cmp}
use Rattle.std.specs.declared.cmp.Ordering.{Ordering}
use Rattle.std.specs.declared.cmp.Ordering.TheVariants.{Less, Equal, Greater}
use Rattle.std.specs.BTreeMap.{insert_entry}
use Rattle.std.proofs.lemmas.Map.Text.{is_eq-slice_cmp}
use Rattle.std.proofs.lemmas.Map.Keys.{sorted_head}
use Rattle.std.proofs.lemmas.Slice.Eq.{bytes_eq-Decides}
use Rattle.std.proofs.lemmas.List.{map-append}
use Rattle.calculus.proofs.Permutations.{moved_after, over}
use Rattle.replay_rows.specs.Filing.{is_key, Filed, seen_in_all}

abbrev pub order : List ℕ → List ℕ → Ordering
order x y = slice_cmp nat_cmp x y

pub key-is : (x k : List ℕ) → is_key x k ≡ true → x ≡ k
key-is x k e = (bytes_eq-Decides x k).0 (sym (is_eq-slice_cmp x k) ∙ e)

pub is-its-key : (x k : List ℕ) → x ≡ k → is_key x k ≡ true
is-its-key x k e = is_eq-slice_cmp x k ∙ (bytes_eq-Decides x k).1 e

pub same-id : (x y : List ℕ) → bytes_eq x y ≡ true → x ≡ y
same-id x y e = (bytes_eq-Decides x y).0 e

pub is-same : (x y : List ℕ) → x ≡ y → bytes_eq x y ≡ true
is-same x y e = (bytes_eq-Decides x y).1 e

pub is-other : (x y : List ℕ) → (x ≡ y → ⊥) → bytes_eq x y ≡ false
is-other x y n = go (bytes_eq x y) refl
  where
    go : (b : Bool) → bytes_eq x y ≡ b → bytes_eq x y ≡ false
    go true e = absurd (n (same-id x y e))
    go false e = e

-- no key is this one
abbrev pub Unheld : {A : Type 0} → List ℕ → List (Filed A) → Type 0
Unheld x [] = ⊤
Unheld x (e ∷ es) = (is_key x e.0 ≡ false) × Unheld x es

less-is-not : (o : Ordering) → o ≡ Less → is_eq o ≡ false
less-is-not Less e = refl
less-is-not Equal e = cc
less-is-not Greater e = cc

-- where a key is this one no later key is
pub none-later : {A : Type 0} (x : List ℕ) (e : Filed A) (es : List (Filed A)) → IsStrictlySortedBy order (keys_of (e ∷ es)) → is_key x e.0 ≡ true → Unheld x es
none-later {A = A} x e es s h = go es (sorted_head order e.0 (keys_of es) s)
  where
    go : (es : List (Filed A)) → AllByRecursion (λ y. order e.0 y ≡ Less) (keys_of es) → Unheld x es
    go [] a = tt
    go (d ∷ ds) a = (ap (λ y. is_key y d.0) (key-is x e.0 h) ∙ less-is-not (order e.0 d.0) a.0, go ds a.1)

pub not-found : {A : Type 0} (x : List ℕ) (es : List (Filed A)) → lookup (is_key x) es ≡ None → Unheld x es
not-found x [] h = tt
not-found x (e ∷ es) h =
    elim (is_key x e.0) as (λ b. is_key x e.0 ≡ b → cond b (Some e.1) (lookup (is_key x) es) ≡ None → Unheld x (e ∷ es)) [
      | true ↦ λ t i. absurd (cc)
      | false ↦ λ t i. (t, not-found x es i)
    ] refl h

module _ {A B : Type 0} (view : A → B) where
  abbrev all : List (Filed A) → List B
  all es = seen_in_all view es

  abbrev views : Vec A Global → List B
  views v = each view v.items

  -- nothing more stands in a map after nothing was put under a new key
  pub put-nothing : (x : List ℕ) (v : Vec A Global) (es : List (Filed A)) → v.items ≡ [] → Unheld x es → all (insert_entry order es x v) ≡ all es
  put-nothing x v [] n u = ap (λ l. each view l ++ []) n
  put-nothing x v (e ∷ es) n u =
      elim (order x e.0) as (λ o. order x e.0 ≡ o → all (match_ordering o ((x, v) ∷ e ∷ es) ((e.0, v) ∷ es) (e ∷ insert_entry order es x v)) ≡ views e.1 ++ all es) [
        | Less ↦ λ _. ap (λ l. each view l ++ (views e.1 ++ all es)) n
        | Equal ↦ λ s. absurd (differs (sym (ap is_eq s) ∙ u.0))
        | Greater ↦ λ _. ap (λ l. views e.1 ++ l) (put-nothing x v es n u.1)
      ] refl
    where
      differs : true ≡ false → ⊥
      differs e = cc

  -- nor after a list was set to one with the same members
  pub set-same : (x : List ℕ) (v w : Vec A Global) (es : List (Filed A)) → lookup (is_key x) es ≡ Some v → w.items ≡ v.items → all (set_value (is_key x) es w) ≡ all es
  set-same x v w [] h n = refl
  set-same x v w (e ∷ es) h n =
      elim (is_key x e.0) as (λ b. cond b (Some e.1) (lookup (is_key x) es) ≡ Some v → all (cond b ((e.0, w) ∷ es) (e ∷ set_value (is_key x) es w)) ≡ views e.1 ++ all es) [
        | true ↦ λ i. let same : e.1 ≡ v = cc in ap (λ (l : List A). each view l ++ all es) (n ∙ ap (λ (u : Vec A Global). u.items) (sym same))
        | false ↦ λ i. ap (λ l. views e.1 ++ l) (set-same x v w es i n)
      ] h

  last-first : (b : B) (vs bs : List B) → IsPermutation ((vs ++ bs) ++ b ∷ []) ((vs ++ b ∷ []) ++ bs)
  last-first b vs bs =
      subst (λ l. IsPermutation l ((vs ++ b ∷ []) ++ bs)) (sym (append_assoc vs bs (b ∷ [])))
      (subst (λ l. IsPermutation (vs ++ (bs ++ b ∷ [])) l) (sym (append_assoc vs (b ∷ []) bs))
      (moved_after vs (subst (λ l. IsPermutation (bs ++ b ∷ []) (b ∷ l)) (append-nil bs) (over b bs []))))

  -- one more stands in a map after a list was set to one with one more member
  pub set-more : (x : List ℕ) (v w : Vec A Global) (a : A) (es : List (Filed A)) → lookup (is_key x) es ≡ Some v → w.items ≡ v.items ++ a ∷ [] → IsPermutation (all es ++ view a ∷ []) (all (set_value (is_key x) es w))
  set-more x v w a [] h n = absurd (cc)
  set-more x v w a (e ∷ es) h n =
      elim (is_key x e.0) as (λ b. cond b (Some e.1) (lookup (is_key x) es) ≡ Some v → IsPermutation ((views e.1 ++ all es) ++ view a ∷ []) (all (cond b ((e.0, w) ∷ es) (e ∷ set_value (is_key x) es w)))) [
        | true ↦ λ i.
            let same : e.1 ≡ v = cc in
            let seen : views w ≡ views e.1 ++ view a ∷ [] = ap (each view) (n ∙ ap (λ (u : Vec A Global). u.items ++ a ∷ []) (sym same)) ∙ map-append view e.1.items (a ∷ []) in
            subst (λ l. IsPermutation ((views e.1 ++ all es) ++ view a ∷ []) (l ++ all es)) (sym seen) (last-first (view a) (views e.1) (all es))
        | false ↦ λ i.
            subst (λ l. IsPermutation l (views e.1 ++ all (set_value (is_key x) es w))) (sym (append_assoc (views e.1) (all es) (view a ∷ []))) (moved_after (views e.1) (set-more x v w a es i n))
      ] h
