-- What entries make of shards.
use Rattle.std.proofs.Common.{◌≡◌, ℕ, ◌+◌, ◌≤◌, Bool, true, false, ◌&&◌, cond, List, [], ◌∷◌, ◌++◌, filter, map as each, IsPermutation, refl, sym, ap, subst, ◌∙◌, arith, inl, inr, append-nil, append_assoc}
use Rattle.std.specs.Prelude.{flat_map}
use Rattle.std.specs.List.{list_all}
use Rattle.std.specs.Str.{bytes_eq}
use Rattle.calculus.specs.Log.{Step}
use Rattle.calculus.specs.Rows.{Row}
use Rattle.calculus.specs.Steps.{is_one_of, differ}
use Rattle.calculus.specs.Exchanges.{Exchanges, nothing, under, neighbours, then}
use Rattle.calculus.proofs.Members.{Member, member-left, member-right}
use Rattle.calculus.proofs.Permutations.{exchanges, unmoved, all_over, moved_before, moved_after, join, each-moved}
use Rattle.events.proofs.Counts.{ids, times, one_if, AreDistinct, distinct-differ}
use Rattle.events.proofs.Orders.{times-moved}
use Rattle.racing_replays.specs.Replaying.{ids_of}
use Rattle.racing_replays.specs.Counted.{names_id}
use Rattle.events.specs.Shards.{shards_of, stands_in}
use Rattle.events.proofs.ShardStanding.{its-one}
use Rattle.hub_scenes.specs.Spaces.{SeenRow, Part, Space, arrived, bare, seen_in, lies_in, IsPart}
use Rattle.hub_scenes.specs.Entries.{Deed, arrives, does, idles, counted, left_of, left_by, counted_by, space_after}
use Rattle.hub_scenes.proofs.Basics.{no-test}
use Rattle.hub_scenes.proofs.Keeps.{not-counted, counted-built}

module _ {A : Type 0} where
  pub filter-both : (f : A → Bool) (xs ys : List A) → filter f (xs ++ ys) ≡ filter f xs ++ filter f ys
  filter-both f [] ys = refl
  filter-both f (x ∷ xs) ys = go (f x) (filter-both f xs ys)
    where
      go : (b : Bool) → filter f (xs ++ ys) ≡ filter f xs ++ filter f ys → cond b (x ∷ filter f (xs ++ ys)) (filter f (xs ++ ys)) ≡ cond b (x ∷ filter f xs) (filter f xs) ++ filter f ys
      go true e = ap (λ l. x ∷ l) e
      go false e = e

  -- where each keeps what the test sees, the test picks before or after
  pub filter-flat : (f : A → Bool) (h : A → List A) → ((x : A) → filter f (h x) ≡ cond (f x) (h x) []) → (xs : List A) → filter f (flat_map h xs) ≡ flat_map h (filter f xs)
  filter-flat f h k [] = refl
  filter-flat f h k (x ∷ xs) = filter-both f (h x) (flat_map h xs) ∙ ap (λ l. l ++ filter f (flat_map h xs)) (k x) ∙ ap (λ l. cond (f x) (h x) [] ++ l) (filter-flat f h k xs) ∙ go (f x)
    where
      go : (b : Bool) → cond b (h x) [] ++ flat_map h (filter f xs) ≡ flat_map h (cond b (x ∷ filter f xs) (filter f xs))
      go true = refl
      go false = refl

  pub filter-each : (f : A → Bool) (h : A → A) → ((x : A) → f (h x) ≡ f x) → (xs : List A) → filter f (each h xs) ≡ each h (filter f xs)
  filter-each f h k [] = refl
  filter-each f h k (x ∷ xs) = ap (λ b. cond b (h x ∷ filter f (each h xs)) (filter f (each h xs))) (k x) ∙ ap (λ l. cond (f x) (h x ∷ l) l) (filter-each f h k xs) ∙ go (f x)
    where
      go : (b : Bool) → cond b (h x ∷ each h (filter f xs)) (each h (filter f xs)) ≡ each h (cond b (x ∷ filter f xs) (filter f xs))
      go true = refl
      go false = refl

  pub flat-moved : {B : Type 0} (h : A → List B) {xs ys : List A} → IsPermutation xs ys → IsPermutation (flat_map h xs) (flat_map h ys)
  flat-moved {B} h p = go (exchanges p)
    where
      go : {xs ys : List A} → Exchanges xs ys → IsPermutation (flat_map h xs) (flat_map h ys)
      go nothing = unmoved []
      go (under x k) = moved_after (h x) (go k)
      go (neighbours x y zs) =
          subst (λ l. IsPermutation l (h y ++ (h x ++ flat_map h zs))) (append_assoc (h x) (h y) (flat_map h zs))
          (subst (λ l. IsPermutation ((h x ++ h y) ++ flat_map h zs) l) (append_assoc (h y) (h x) (flat_map h zs)) (moved_before (flat_map h zs) (all_over (h x) (h y))))
      go (then k l) = join (go k) (go l)

filter-times : (x : List ℕ) (f : SeenRow → Bool) (rs : List SeenRow) → times x (ids (bare (filter f rs))) ≤ times x (ids (bare rs))
filter-times x f [] = omega arith
filter-times x f (r ∷ rs) = go (f r) (filter-times x f rs)
  where
    go : (b : Bool) → times x (ids (bare (filter f rs))) ≤ times x (ids (bare rs)) → times x (ids (bare (cond b (r ∷ filter f rs) (filter f rs)))) ≤ one_if (bytes_eq x r.row.id) + times x (ids (bare rs))
    go true h = omega (arith, h)
    go false h = omega (arith, h)

-- a row that lies in touched shards stands in no other
out-of : (touched : ℕ → Bool) (k : ℕ) (r : Row) → touched k ≡ false → lies_in touched r ≡ true → stands_in k r ≡ false
out-of touched k r n e = go (stands_in k r) refl
  where
    each-of : (ks : List ℕ) (j : ℕ) → list_all touched ks ≡ true → Member j ks → touched j ≡ true
    each-of [] j h m = absurd m
    each-of (i ∷ ks) j h m = pick (each-of ks j) (touched i) refl h m
      where
        pick : (list_all touched ks ≡ true → Member j ks → touched j ≡ true) → (b : Bool) → touched i ≡ b → b && list_all touched ks ≡ true → Member j (i ∷ ks) → touched j ≡ true
        pick next true d h (inl s) = ap touched s ∙ d
        pick next true d h (inr m) = next h m
        pick next false d h m = cc

    go : (b : Bool) → stands_in k r ≡ b → stands_in k r ≡ false
    go false d = d
    go true d = let t = each-of (shards_of r) k e (its-one k r d) in cc (n, t)

-- law 1
module _ (st : Space) (touched : ℕ → Bool) (k : ℕ) (n : touched k ≡ false) where
  stay : (s : Step) (g : List (List ℕ)) (rs : List SeenRow) → filter (seen_in k) (flat_map (left_by touched s g) rs) ≡ filter (seen_in k) rs
  stay s g [] = refl
  stay s g (q ∷ rs) = filter-both (seen_in k) (left_by touched s g q) (flat_map (left_by touched s g) rs) ∙ ap (λ l. filter (seen_in k) (left_by touched s g q) ++ l) (stay s g rs) ∙ go (lies_in touched q.row) refl (is_one_of q.row.id g)
    where
      go : (b : Bool) → lies_in touched q.row ≡ b → (c : Bool) → filter (seen_in k) (cond b (cond c [] (counted s q ∷ [])) (q ∷ [])) ++ filter (seen_in k) rs ≡ cond (seen_in k q) (q ∷ filter (seen_in k) rs) (filter (seen_in k) rs)
      go true e true = sym (ap (λ b. cond b (q ∷ filter (seen_in k) rs) (filter (seen_in k) rs)) (out-of touched k q.row n e))
      go true e false = ap (λ b. cond b (counted s q ∷ []) [] ++ filter (seen_in k) rs) (out-of touched k q.row n e) ∙ sym (ap (λ b. cond b (q ∷ filter (seen_in k) rs) (filter (seen_in k) rs)) (out-of touched k q.row n e))
      go false e c = one (seen_in k q)
        where
          one : (b : Bool) → cond b (q ∷ []) [] ++ filter (seen_in k) rs ≡ cond b (q ∷ filter (seen_in k) rs) (filter (seen_in k) rs)
          one true = refl
          one false = refl

  stay-built : (s : Step) (rs : List SeenRow) → filter (seen_in k) (each (counted_by touched s) rs) ≡ filter (seen_in k) rs
  stay-built s [] = refl
  stay-built s (q ∷ rs) = go (lies_in touched q.row) refl (stay-built s rs)
    where
      go : (b : Bool) → lies_in touched q.row ≡ b → filter (seen_in k) (each (counted_by touched s) rs) ≡ filter (seen_in k) rs
          → cond (seen_in k (cond b (counted s q) q)) (cond b (counted s q) q ∷ filter (seen_in k) (each (counted_by touched s) rs)) (filter (seen_in k) (each (counted_by touched s) rs)) ≡ cond (seen_in k q) (q ∷ filter (seen_in k) rs) (filter (seen_in k) rs)
      go true e next =
          ap (λ b. cond b (counted s q ∷ filter (seen_in k) (each (counted_by touched s) rs)) (filter (seen_in k) (each (counted_by touched s) rs))) (out-of touched k q.row n e) ∙ next
          ∙ sym (ap (λ b. cond b (q ∷ filter (seen_in k) rs) (filter (seen_in k) rs)) (out-of touched k q.row n e))
      go false e next = ap (λ l. cond (seen_in k q) (q ∷ l) l) next

  pub untouched : (d : Deed) (x : Part) → IsPart st k x → IsPart (space_after st touched d) k x
  untouched (arrives a next) x is = record {
    number = is.number;
    rows = subst (λ l. IsPermutation l x.rows) (sym (filter-both (seen_in k) st.store (filter (λ q. lies_in touched q.row) (arrived a ∷ [])) ∙ ap (λ l. filter (seen_in k) st.store ++ l) (none (lies_in touched a.row) refl) ∙ append-nil (filter (seen_in k) st.store))) is.rows;
    built = is.built;
  }
    where
      none : (b : Bool) → lies_in touched a.row ≡ b → filter (seen_in k) (cond b (arrived a ∷ []) []) ≡ []
      none true e = ap (λ b. cond b (arrived a ∷ []) []) (out-of touched k a.row n e)
      none false e = refl
  untouched (does t m next) x is = record { number = is.number; rows = subst (λ l. IsPermutation l x.rows) (sym (stay m.step m.gone st.store)) is.rows; built = is.built ∙ sym (stay-built m.step st.built) }
  untouched (idles t) x is = record { number = is.number; rows = is.rows; built = is.built }

-- law 3, where named rows lie in touched shards
module _ (st : Space) (touched : ℕ → Bool) (k : ℕ) (s : Step) (gone : List (List ℕ)) (lies : (q : SeenRow) → Member q (st.store ++ st.built) → names_id q.row.id s ≡ true → lies_in touched q.row ≡ true)
    (named : (y : List ℕ) → is_one_of y gone ≡ true → names_id y s ≡ true) where
  left-same : (q : SeenRow) → Member q (st.store ++ st.built) → left_by touched s gone q ≡ left_of s gone q
  left-same q m = go (lies_in touched q.row) refl
    where
      go : (b : Bool) → lies_in touched q.row ≡ b → cond b (left_of s gone q) (q ∷ []) ≡ left_of s gone q
      go true e = refl
      go false e = ap (λ z. z ∷ []) (not-counted s q unnamed) ∙ sym (ap (λ b. cond b [] (counted s q ∷ [])) stays)
        where
          unnamed : names_id q.row.id s ≡ false
          unnamed = no-test (names_id q.row.id s) (λ n. let h = lies q m n in cc)

          stays : is_one_of q.row.id gone ≡ false
          stays = no-test (is_one_of q.row.id gone) (λ n. let h = sym (named q.row.id n) ∙ unnamed in cc)

  all-left : (rs : List SeenRow) → ((q : SeenRow) → Member q rs → Member q (st.store ++ st.built)) → flat_map (left_by touched s gone) rs ≡ flat_map (left_of s gone) rs
  all-left [] h = refl
  all-left (q ∷ rs) h = ap (λ l. l ++ flat_map (left_by touched s gone) rs) (left-same q (h q (inl refl))) ∙ ap (λ l. left_of s gone q ++ l) (all-left rs (λ z m. h z (inr m)))

  all-counted : (rs : List SeenRow) → ((q : SeenRow) → Member q rs → Member q (st.store ++ st.built)) → each (counted_by touched s) rs ≡ each (counted s) rs
  all-counted [] h = refl
  all-counted (q ∷ rs) h = ap (λ z. z ∷ each (counted_by touched s) rs) (counted-built touched s gone st.store st.built lies q (h q (inl refl))) ∙ ap (λ l. counted s q ∷ l) (all-counted rs (λ z m. h z (inr m)))

  abbrev no_rows : List SeenRow
  no_rows = []

  seen-left : (q : SeenRow) → filter (seen_in k) (left_of s gone q) ≡ cond (seen_in k q) (left_of s gone q) []
  seen-left q = go (is_one_of q.row.id gone) (seen_in k q)
    where
      go : (b c : Bool) → filter (seen_in k) (cond b [] (counted s q ∷ [])) ≡ cond (seen_in k q) (cond b [] (counted s q ∷ [])) []
      go true c = one (seen_in k q)
        where
          one : (b : Bool) → no_rows ≡ cond b no_rows no_rows
          one true = refl
          one false = refl
      go false c = refl

  pub left-there : (x y : Part) → AreDistinct (ids (bare st.store)) → IsPart st k x → y.number ≡ x.number → (differ (ids_of (bare x.rows)) ≡ true → IsPermutation (flat_map (left_of s gone) x.rows) y.rows) → IsPermutation (filter (seen_in k) (flat_map (left_by touched s gone) st.store)) y.rows
  left-there x y once is num to =
      subst (λ l. IsPermutation l y.rows) (sym (ap (filter (seen_in k)) (all-left st.store (λ q m. member-left q st.store st.built m)) ∙ filter-flat (seen_in k) (left_of s gone) seen-left st.store))
      (join (flat-moved (left_of s gone) is.rows) (to (distinct-differ (ids (bare x.rows)) (λ z. omega (arith, once z, filter-times z (seen_in k) st.store, times-moved z (each-moved (λ (q : SeenRow). q.row) is.rows))))))

  pub counted-there : (x : Part) → IsPart st k x → each (counted s) x.built ≡ filter (seen_in k) (each (counted_by touched s) st.built)
  counted-there x is = ap (each (counted s)) is.built ∙ sym (filter-each (seen_in k) (counted s) (λ q. refl) st.built) ∙ ap (filter (seen_in k)) (sym (all-counted st.built (λ q m. member-right q st.store st.built m)))
