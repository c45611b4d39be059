-- Rows at which no more done steps can be counted.
use Rattle.std.proofs.Common.{◌≡◌, ◌<◌, ◌≤◌, ◌^◌, ◌-◌, ℕ, Bool, true, false, cond, List, [], ◌∷◌, ◌++◌, map as each, refl, sym, ap, ◌∙◌, inl, inr, arith, Vec, Global}
use Rattle.std.specs.Prelude.{◌⊎◌, ◌||◌, ◌&&◌, leb, Some, None}
use Rattle.std.specs.Str.{bytes_eq}
use Rattle.std.specs.List.{list_any}
use Rattle.std.specs.Map.{lookup, keys_of}
use Rattle.std.specs.List.Sorted.{IsStrictlySortedBy}
use Rattle.std.proofs.lemmas.Map.Keys.{sorted_tail}
use Rattle.std.proofs.lemmas.Bool.{leb-true}
use Rattle.std.proofs.lemmas.Bool.Decides.{nat_tests}
use Rattle.calculus.proofs.Members.{Member}
use Rattle.calculus.specs.Log.{Step}
use Rattle.racing_replays.specs.Replaying.{names}
use Rattle.racing_replays.specs.Counted.{names_id}
use Rattle.calculus.specs.Steps.{is_one_of}
use Rattle.hub_scenes.specs.Spaces.{SeenRow}
use Rattle.hub_scenes.proofs.Basics.{has}
use Rattle.calculus.specs.Rows.{Row}
use Rattle.replay_space.specs.declared.seen.Seen.{Seen}
use Rattle.replay_rows.specs.Filing.{is_key, Filed}
use Rattle.replay_rows.specs.Rows.{seen_row, id_of, filed_rows, is_full, has_full, AreFiled, AreLow}
use Rattle.replay_rows.proofs.Filing.{order, is-other, none-later, not-found}
use Rattle.replay_rows.proofs.Under.{other-id, none-has}
use Rattle.replay_rows.proofs.Settling.{or-true}

either : {A : Type 0} (f : A → Bool) (xs ys : List A) → list_any f (xs ++ ys) ≡ list_any f xs || list_any f ys
either f [] ys = refl
either f (x ∷ xs) ys = ap (λ b. f x || b) (either f xs ys) ∙ group (f x) (list_any f xs) (list_any f ys)
  where
    group : (a b c : Bool) → a || (b || c) ≡ (a || b) || c
    group true b c = refl
    group false b c = refl

or-false : (b : Bool) → b || false ≡ b
or-false true = refl
or-false false = refl

none-full : (x : List ℕ) (qs : List SeenRow) → ((q : SeenRow) → Member q qs → x ≡ id_of q → ⊥) → list_any (is_full x) qs ≡ false
none-full x [] n = refl
none-full x (q ∷ qs) n =
    ap (λ b. b && leb (2 ^ 32 - 1) q.done || list_any (is_full x) qs) (is-other q.row.id x (λ e. n q (inl refl) (sym e))) ∙ none-full x qs (λ z m. n z (inr m))

pub full-absent : (x : List ℕ) (es : List (Filed (Seen Row))) → AreFiled es → lookup (is_key x) es ≡ None → false ≡ list_any (is_full x) (filed_rows es)
full-absent x es u h = sym (none-full x (filed_rows es) (none-has seen_row id_of x es u (not-found x es h)))

pub full-found : (x : List ℕ) (v : Vec (Seen Row) Global) (es : List (Filed (Seen Row))) → AreFiled es → IsStrictlySortedBy order (keys_of es) → lookup (is_key x) es ≡ Some v → list_any (is_full x) (each seen_row v.items) ≡ list_any (is_full x) (filed_rows es)
full-found x v [] u s h = absurd (cc)
full-found x v (e ∷ es) u s h =
    go (λ i. full-found x v es u.1 (sorted_tail order e.0 (keys_of es) s) i) (is_key x e.0) refl h ∙ sym (either (is_full x) (each seen_row e.1.items) (filed_rows es))
  where
    go : (lookup (is_key x) es ≡ Some v → list_any (is_full x) (each seen_row v.items) ≡ list_any (is_full x) (filed_rows es)) → (b : Bool) → is_key x e.0 ≡ b → cond b (Some e.1) (lookup (is_key x) es) ≡ Some v
        → list_any (is_full x) (each seen_row v.items) ≡ list_any (is_full x) (each seen_row e.1.items) || list_any (is_full x) (filed_rows es)
    go next true t i =
        let same : e.1 ≡ v = cc i in
        ap (λ (l : Vec (Seen Row) Global). list_any (is_full x) (each seen_row l.items)) (sym same) ∙ sym (or-false (list_any (is_full x) (each seen_row e.1.items)))
        ∙ ap (λ b. list_any (is_full x) (each seen_row e.1.items) || b) (sym (none-full x (filed_rows es) (none-has seen_row id_of x es u.1 (none-later x e es s t))))
    go next false t i = next i ∙ ap (λ b. b || list_any (is_full x) (filed_rows es)) (sym (none-full x (each seen_row e.1.items) (λ q m k. other-id seen_row id_of x e.0 (each seen_row e.1.items) q u.0 t m k)))

pub full-first : (x : List ℕ) (ys zs : List SeenRow) → list_any (is_full x) ys ≡ true → true ≡ list_any (is_full x) (ys ++ zs)
full-first x ys zs h = sym (either (is_full x) ys zs ∙ ap (λ b. b || list_any (is_full x) zs) h)

pub full-second : (x : List ℕ) (ys zs : List SeenRow) → list_any (is_full x) ys ≡ false → list_any (is_full x) zs ≡ list_any (is_full x) (ys ++ zs)
full-second x ys zs h = sym (either (is_full x) ys zs ∙ ap (λ b. b || list_any (is_full x) zs) h)

no-left : (a b : Bool) → a || b ≡ false → a ≡ false
no-left true b e = absurd (cc)
no-left false b e = refl

no-right : (a b : Bool) → a || b ≡ false → b ≡ false
no-right true b e = absurd (cc)
no-right false b e = e

above : (m n : ℕ) → leb m n ≡ false → n < m
above m n e = grind (arith, nat_tests, e)

one-low : (q : SeenRow) (x : List ℕ) (zs : List SeenRow) → list_any (is_full x) zs ≡ false → Member q zs → bytes_eq q.row.id x ≡ true → q.done < 2 ^ 32 - 1
one-low q x [] e k t = absurd k
one-low q x (z ∷ zs) e (inl f) t = above (2 ^ 32 - 1) q.done (sym (ap (λ b. b && leb (2 ^ 32 - 1) q.done) t) ∙ ap (λ (w : SeenRow). is_full x w) f ∙ no-left (is_full x z) (list_any (is_full x) zs) e)
one-low q x (z ∷ zs) e (inr k) t = one-low q x zs (no-right (is_full x z) (list_any (is_full x) zs) e) k t

all-low : (q : SeenRow) (qs : List SeenRow) (xs : List (List ℕ)) → Member q qs → list_any (λ x. list_any (is_full x) qs) xs ≡ false → is_one_of q.row.id xs ≡ true → q.done < 2 ^ 32 - 1
all-low q qs [] m e t = absurd (cc)
all-low q qs (x ∷ xs) m e t = pick (all-low q qs xs m (no-right (list_any (is_full x) qs) (list_any (λ y. list_any (is_full y) qs) xs) e)) (bytes_eq q.row.id x) refl t
  where
    pick : (is_one_of q.row.id xs ≡ true → q.done < 2 ^ 32 - 1) → (b : Bool) → bytes_eq q.row.id x ≡ b → b || is_one_of q.row.id xs ≡ true → q.done < 2 ^ 32 - 1
    pick next true f g = one-low q x qs (no-left (list_any (is_full x) qs) (list_any (λ y. list_any (is_full y) qs) xs) e) m f
    pick next false f g = next g

-- where no count is full, one more can be counted at each row that is named
pub low-where : (s : Step) (qs : List SeenRow) → has_full s qs ≡ false → AreLow s qs
low-where s qs h q m named = all-low q qs (names s) (has q qs m) h named

yes : (a b : Bool) → a || b ≡ true → (a ≡ true) ⊎ (b ≡ true)
yes true b e = inl refl
yes false b e = inr e

both : (a b : Bool) → a && b ≡ true → (a ≡ true) × (b ≡ true)
both true b e = (refl, e)
both false b e = absurd (cc)

-- and where one is, there is such a row
pub record Full (s : Step) (qs : List SeenRow) : Type 0 where
  pub row : SeenRow
  pub there : Member row qs
  pub named : names_id row.row.id s ≡ true
  pub many : 2 ^ 32 - 1 ≤ row.done

pub full-where : (s : Step) (qs : List SeenRow) → has_full s qs ≡ true → Full s qs
full-where s qs h = outer (names s) h (λ x e. e)
  where
    inner : (x : List ℕ) (zs : List SeenRow) → list_any (is_full x) zs ≡ true → (z : SeenRow) × (Member z zs × (is_full x z ≡ true))
    inner x [] e = absurd (cc)
    inner x (z ∷ zs) e = go (λ f. inner x zs f) (yes (is_full x z) (list_any (is_full x) zs) e)
      where
        go : (list_any (is_full x) zs ≡ true → (w : SeenRow) × (Member w zs × (is_full x w ≡ true))) → (is_full x z ≡ true) ⊎ (list_any (is_full x) zs ≡ true) → (w : SeenRow) × (Member w (z ∷ zs) × (is_full x w ≡ true))
        go next (inl f) = (z, (inl refl, f))
        go next (inr f) = let r = next f in (r.0, (inr r.1.0, r.1.1))

    outer : (xs : List (List ℕ)) → list_any (λ x. list_any (is_full x) qs) xs ≡ true → ((x : List ℕ) → is_one_of x xs ≡ true → is_one_of x (names s) ≡ true) → Full s qs
    outer [] e f = absurd (cc)
    outer (x ∷ xs) e f = go (λ g. outer xs g (λ y k. f y (ap (λ b. bytes_eq y x || b) k ∙ or-true (bytes_eq y x)))) (yes (list_any (is_full x) qs) (list_any (λ y. list_any (is_full y) qs) xs) e)
      where
        go : (list_any (λ y. list_any (is_full y) qs) xs ≡ true → Full s qs) → (list_any (is_full x) qs ≡ true) ⊎ (list_any (λ y. list_any (is_full y) qs) xs ≡ true) → Full s qs
        go next (inr g) = next g
        go next (inl g) =
            let r = inner x qs g in
            let t = both (bytes_eq r.0.row.id x) (leb (2 ^ 32 - 1) r.0.done) r.1.1 in
            record { row = r.0; there = r.1.0; named = f r.0.row.id (ap (λ b. b || is_one_of r.0.row.id xs) t.0); many = leb-true (2 ^ 32 - 1) r.0.done t.1 }
