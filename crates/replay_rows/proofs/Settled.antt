-- What a change of all things with one id makes of a map.
use Rattle.std.proofs.Common.{◌≡◌, ℕ, Bool, true, false, cond, List, [], ◌∷◌, ◌++◌, map as each, refl, sym, ap, subst, ◌∙◌, inl, inr, Vec, Global}
use Rattle.std.specs.Prelude.{◌⊎◌, Some, None, flat_map, option_map, slice_get}
use Rattle.std.specs.Map.{lookup, set_value, remove_entry, keys_of}
use Rattle.std.specs.List.Sorted.{IsStrictlySortedBy}
use Rattle.std.proofs.lemmas.Grind.{flat_map-append}
use Rattle.std.proofs.lemmas.Map.Keys.{sorted_tail}
use Rattle.calculus.proofs.Members.{Member, member-split}
use Rattle.replay_rows.specs.Filing.{is_key, Filed, seen_in_all, AllHave, AreUnder, first_with}
use Rattle.replay_rows.proofs.Filing.{order, key-is, is-same, is-other, none-later, not-found}
use Rattle.replay_rows.proofs.Under.{other-id, none-has}

module _ {A B : Type 0} (view : A → B) (id : B → List ℕ) (x : List ℕ) where
  abbrev all : List (Filed A) → List B
  all es = seen_in_all view es

  abbrev views : Vec A Global → List B
  views v = each view v.items

  -- the first thing with an id stands under it
  pub first-none : (bs : List B) → ((b : B) → Member b bs → x ≡ id b → ⊥) → first_with id x bs ≡ None
  first-none [] n = refl
  first-none (b ∷ bs) n = ap (λ c. cond c (Some b) (first_with id x bs)) (is-other x (id b) (n b (inl refl))) ∙ first-none bs (λ c m. n c (inr m))

  first-of : (bs cs : List B) → AllHave id x bs → first_with id x cs ≡ None → first_with id x (bs ++ cs) ≡ slice_get bs 0
  first-of [] cs h n = n
  first-of (b ∷ bs) cs h n = ap (λ c. cond c (Some b) (first_with id x (bs ++ cs))) (is-same x (id b) h.0)

  first-later : (bs cs : List B) → ((b : B) → Member b bs → x ≡ id b → ⊥) → first_with id x (bs ++ cs) ≡ first_with id x cs
  first-later [] cs n = refl
  first-later (b ∷ bs) cs n = ap (λ c. cond c (Some b) (first_with id x (bs ++ cs))) (is-other x (id b) (n b (inl refl))) ∙ first-later bs cs (λ c m. n c (inr m))

  seen-first : (l : List A) → slice_get (each view l) 0 ≡ option_map view (slice_get l 0)
  seen-first [] = refl
  seen-first (a ∷ l) = refl

  pub found-first : (v : Vec A Global) (es : List (Filed A)) → AreUnder view id es → IsStrictlySortedBy order (keys_of es) → lookup (is_key x) es ≡ Some v → first_with id x (all es) ≡ option_map view (slice_get v.items 0)
  found-first v [] u s h = absurd (cc)
  found-first v (e ∷ es) u s h =
      elim (is_key x e.0) as (λ b. is_key x e.0 ≡ b → cond b (Some e.1) (lookup (is_key x) es) ≡ Some v → first_with id x (views e.1 ++ all es) ≡ option_map view (slice_get v.items 0)) [
        | true ↦ λ t i.
            let same : e.1 ≡ v = cc in
            first-of (views e.1) (all es) (subst (λ y. AllHave id y (views e.1)) (sym (key-is x e.0 t)) u.0) (first-none (all es) (none-has view id x es u.1 (none-later x e es s t)))
            ∙ seen-first e.1.items ∙ ap (λ (l : Vec A Global). option_map view (slice_get l.items 0)) same
        | false ↦ λ t i. first-later (views e.1) (all es) (λ b m k. other-id view id x e.0 (views e.1) b u.0 t m k) ∙ found-first v es u.1 (sorted_tail order e.0 (keys_of es) s) i
      ] refl h

  pub nothing-first : (es : List (Filed A)) → AreUnder view id es → lookup (is_key x) es ≡ None → first_with id x (all es) ≡ None
  nothing-first es u h = first-none (all es) (none-has view id x es u (not-found x es h))

  -- all with an id stand under it
  pub all-found : (v : Vec A Global) (es : List (Filed A)) → AreUnder view id es → IsStrictlySortedBy order (keys_of es) → lookup (is_key x) es ≡ Some v → (b : B) → Member b (all es) → x ≡ id b → Member b (views v)
  all-found v [] u s h b m k = absurd m
  all-found v (e ∷ es) u s h b m k = go (λ i n. all-found v es u.1 (sorted_tail order e.0 (keys_of es) s) i b n k) (is_key x e.0) refl h (member-split b (views e.1) (all es) m)
    where
      go : (lookup (is_key x) es ≡ Some v → Member b (all es) → Member b (views v)) → (c : Bool) → is_key x e.0 ≡ c → cond c (Some e.1) (lookup (is_key x) es) ≡ Some v → Member b (views e.1) ⊎ Member b (all es) → Member b (views v)
      go next true t i (inl n) = let same : e.1 ≡ v = cc in subst (λ (l : Vec A Global). Member b (views l)) same n
      go next true t i (inr n) = absurd (none-has view id x es u.1 (none-later x e es s t) b n k)
      go next false t i (inl n) = absurd (other-id view id x e.0 (views e.1) b u.0 t n k)
      go next false t i (inr n) = next i n

  module _ (g : B → List B) (others : (b : B) → (x ≡ id b → ⊥) → g b ≡ b ∷ []) where
    -- nothing else changes
    still : (bs : List B) → ((b : B) → Member b bs → x ≡ id b → ⊥) → flat_map g bs ≡ bs
    still [] n = refl
    still (b ∷ bs) n = ap (λ l. l ++ flat_map g bs) (others b (n b (inl refl))) ∙ ap (λ l. b ∷ l) (still bs (λ c m. n c (inr m)))

    pub unheld-stays : (es : List (Filed A)) → AreUnder view id es → lookup (is_key x) es ≡ None → all es ≡ flat_map g (all es)
    unheld-stays es u h = sym (still (all es) (none-has view id x es u (not-found x es h)))

    -- a list that is set to what the change makes of it
    pub set-changed : (v w : Vec A Global) (es : List (Filed A)) → AreUnder view id es → IsStrictlySortedBy order (keys_of es) → lookup (is_key x) es ≡ Some v → views w ≡ flat_map g (views v) → all (set_value (is_key x) es w) ≡ flat_map g (all es)
    set-changed v w [] u s h c = absurd (cc)
    set-changed v w (e ∷ es) u s h c =
        elim (is_key x e.0) as (λ b. is_key x e.0 ≡ b → cond b (Some e.1) (lookup (is_key x) es) ≡ Some v → all (cond b ((e.0, w) ∷ es) (e ∷ set_value (is_key x) es w)) ≡ flat_map g (views e.1 ++ all es)) [
          | true ↦ λ t i.
              let same : e.1 ≡ v = cc in
              ap (λ l. l ++ all es) (c ∙ ap (λ (l : Vec A Global). flat_map g (views l)) (sym same)) ∙ ap (λ l. flat_map g (views e.1) ++ l) (sym (still (all es) (none-has view id x es u.1 (none-later x e es s t))))
              ∙ sym (flat_map-append g (views e.1) (all es))
          | false ↦ λ t i.
              ap (λ l. l ++ all (set_value (is_key x) es w)) (sym (still (views e.1) (λ b m k. other-id view id x e.0 (views e.1) b u.0 t m k)))
              ∙ ap (λ l. flat_map g (views e.1) ++ l) (set-changed v w es u.1 (sorted_tail order e.0 (keys_of es) s) i c) ∙ sym (flat_map-append g (views e.1) (all es))
        ] refl h

    gone-all : ((b : B) → x ≡ id b → g b ≡ []) → (bs : List B) → AllHave id x bs → flat_map g bs ≡ []
    gone-all f [] h = refl
    gone-all f (b ∷ bs) h = ap (λ l. l ++ flat_map g bs) (f b h.0) ∙ gone-all f bs h.1

    -- an entry that is taken out
    pub removed-changed : ((b : B) → x ≡ id b → g b ≡ []) → (es : List (Filed A)) → AreUnder view id es → IsStrictlySortedBy order (keys_of es) → all (remove_entry (is_key x) es) ≡ flat_map g (all es)
    removed-changed f [] u s = refl
    removed-changed f (e ∷ es) u s =
        elim (is_key x e.0) as (λ b. is_key x e.0 ≡ b → all (cond b es (e ∷ remove_entry (is_key x) es)) ≡ flat_map g (views e.1 ++ all es)) [
          | true ↦ λ t.
              sym (still (all es) (none-has view id x es u.1 (none-later x e es s t)))
              ∙ ap (λ l. l ++ flat_map g (all es)) (sym (gone-all f (views e.1) (subst (λ y. AllHave id y (views e.1)) (sym (key-is x e.0 t)) u.0))) ∙ sym (flat_map-append g (views e.1) (all es))
          | false ↦ λ t.
              ap (λ l. l ++ all (remove_entry (is_key x) es)) (sym (still (views e.1) (λ b m k. other-id view id x e.0 (views e.1) b u.0 t m k)))
              ∙ ap (λ l. flat_map g (views e.1) ++ l) (removed-changed f es u.1 (sorted_tail order e.0 (keys_of es) s)) ∙ sym (flat_map-append g (views e.1) (all es))
        ] refl
