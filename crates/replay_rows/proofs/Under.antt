-- Things that stand in a map each under its id.
use Rattle.std.proofs.Common.{◌≡◌, ℕ, true, false, cond, List, [], ◌∷◌, ◌++◌, map as each, refl, sym, ap, subst, ◌∙◌, inl, inr, Vec, Global}
use Rattle.std.specs.Prelude.{◌⊎◌, Some}
use Rattle.std.specs.Map.{lookup, set_value, remove_entry}
use Rattle.std.specs.Ordering.{match_ordering}
use Rattle.std.specs.declared.cmp.Ordering.TheVariants.{Less, Equal, Greater}
use Rattle.std.specs.BTreeMap.{insert_entry}
use Rattle.calculus.proofs.Members.{Member, member-split, member-left, member-right}
use Rattle.replay_rows.specs.Filing.{is_key, Filed, seen_in_all, AllHave, AreUnder}
use Rattle.replay_rows.proofs.Filing.{order, key-is, is-its-key, Unheld}

module _ {A B : Type 0} (view : A → B) (id : B → List ℕ) where
  abbrev all : List (Filed A) → List B
  all es = seen_in_all view es

  abbrev views : Vec A Global → List B
  views v = each view v.items

  pub one-more-has : (x : List ℕ) (bs : List B) (b : B) → AllHave id x bs → x ≡ id b → AllHave id x (bs ++ b ∷ [])
  one-more-has x [] b h e = (e, tt)
  one-more-has x (c ∷ bs) b h e = (h.0, one-more-has x bs b h.1 e)

  pub has-id : (x : List ℕ) (bs : List B) (b : B) → AllHave id x bs → Member b bs → x ≡ id b
  has-id x [] b h m = absurd m
  has-id x (c ∷ bs) b h (inl e) = h.0 ∙ ap id (sym e)
  has-id x (c ∷ bs) b h (inr m) = has-id x bs b h.1 m

  nothing-has : (k : List ℕ) (l : List A) → l ≡ [] → AllHave id k (each view l)
  nothing-has k [] n = tt
  nothing-has k (a ∷ l) n = absurd (cc)

  -- after nothing was put under a key
  pub under-put : (x : List ℕ) (v : Vec A Global) (es : List (Filed A)) → v.items ≡ [] → AreUnder view id es → AreUnder view id (insert_entry order es x v)
  under-put x v [] n u = (nothing-has x v.items n, tt)
  under-put x v (e ∷ es) n u =
      elim (order x e.0) as (λ o. AreUnder view id (match_ordering o ((x, v) ∷ e ∷ es) ((e.0, v) ∷ es) (e ∷ insert_entry order es x v))) [
        | Less ↦ (nothing-has x v.items n, u)
        | Equal ↦ (nothing-has e.0 v.items n, u.1)
        | Greater ↦ (u.0, under-put x v es n u.1)
      ]

  -- after a list was set to one that has the id too
  pub under-set : (x : List ℕ) (v w : Vec A Global) (es : List (Filed A)) → AreUnder view id es → lookup (is_key x) es ≡ Some v → (AllHave id x (views v) → AllHave id x (views w)) → AreUnder view id (set_value (is_key x) es w)
  under-set x v w [] u h f = tt
  under-set x v w (e ∷ es) u h f =
      elim (is_key x e.0) as (λ b. is_key x e.0 ≡ b → cond b (Some e.1) (lookup (is_key x) es) ≡ Some v → AreUnder view id (cond b ((e.0, w) ∷ es) (e ∷ set_value (is_key x) es w))) [
        | true ↦ λ t i.
            let same : e.1 ≡ v = cc in
            let key : x ≡ e.0 = key-is x e.0 t in
            (subst (λ y. AllHave id y (views w)) key (f (subst (λ y. AllHave id y (views v)) (sym key) (subst (λ (l : Vec A Global). AllHave id e.0 (views l)) same u.0))), u.1)
        | false ↦ λ t i. (u.0, under-set x v w es u.1 i f)
      ] refl h

  pub under-removed : (x : List ℕ) (es : List (Filed A)) → AreUnder view id es → AreUnder view id (remove_entry (is_key x) es)
  under-removed x [] u = tt
  under-removed x (e ∷ es) u = elim (is_key x e.0) as (λ b. AreUnder view id (cond b es (e ∷ remove_entry (is_key x) es))) [ true ↦ u.1 | false ↦ (u.0, under-removed x es u.1) ]

  -- what is found under an id has it
  pub found-has : (x : List ℕ) (v : Vec A Global) (es : List (Filed A)) → AreUnder view id es → lookup (is_key x) es ≡ Some v → AllHave id x (views v)
  found-has x v [] u h = absurd (cc)
  found-has x v (e ∷ es) u h =
      elim (is_key x e.0) as (λ b. is_key x e.0 ≡ b → cond b (Some e.1) (lookup (is_key x) es) ≡ Some v → AllHave id x (views v)) [
        | true ↦ λ t i.
            let same : e.1 ≡ v = cc in
            subst (λ y. AllHave id y (views v)) (sym (key-is x e.0 t)) (subst (λ (l : Vec A Global). AllHave id e.0 (views l)) same u.0)
        | false ↦ λ t i. found-has x v es u.1 i
      ] refl h

  -- and stands in the map
  pub found-in : (x : List ℕ) (v : Vec A Global) (es : List (Filed A)) → lookup (is_key x) es ≡ Some v → (b : B) → Member b (views v) → Member b (all es)
  found-in x v [] h b m = absurd (cc)
  found-in x v (e ∷ es) h b m =
      elim (is_key x e.0) as (λ c. cond c (Some e.1) (lookup (is_key x) es) ≡ Some v → Member b (views e.1 ++ all es)) [
        | true ↦ λ i. let same : e.1 ≡ v = cc in member-left b (views e.1) (all es) (subst (λ (l : Vec A Global). Member b (views l)) (sym same) m)
        | false ↦ λ i. member-right b (views e.1) (all es) (found-in x v es i b m)
      ] h

  -- what stands under another key has not this id
  pub other-id : (x k : List ℕ) (bs : List B) (b : B) → AllHave id k bs → is_key x k ≡ false → Member b bs → x ≡ id b → ⊥
  other-id x k bs b h n m e = absurd (differs (sym (is-its-key x k (e ∙ sym (has-id k bs b h m))) ∙ n))
    where
      differs : true ≡ false → ⊥
      differs e = cc

  pub none-has : (x : List ℕ) (es : List (Filed A)) → AreUnder view id es → Unheld x es → (b : B) → Member b (all es) → x ≡ id b → ⊥
  none-has x [] u n b m e = m
  none-has x (d ∷ es) u n b m e = go (λ k. none-has x es u.1 n.1 b k e) (member-split b (views d.1) (all es) m)
    where
      go : (Member b (all es) → ⊥) → Member b (views d.1) ⊎ Member b (all es) → ⊥
      go next (inl k) = other-id x d.0 (views d.1) b u.0 n.0 k e
      go next (inr k) = next k
