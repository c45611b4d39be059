-- What a table becomes.
use Rattle.std.proofs.Common.{◌≡◌, ◌≢◌, ℕ, zero, suc, ◌+◌, ◌<◌, arith, length, get_or, take, add-one, Bool, true, false, cond, ◌||◌, List, [], ◌∷◌, ◌++◌, map as each, refl, sym, ◌∙◌, ap, subst, inl, inr}
use Rattle.std.specs.Borrow.{Bor}
use Rattle.std.specs.Prelude.{◌⊎◌, Option, None, Some, is_some, IsPermutation}
use Rattle.std.specs.Option.{option_copied}
use Rattle.std.specs.List.{AllByRecursion}
use Rattle.std.specs.List.Sorted.{IsStrictlySortedBy}
use Rattle.std.specs.Map.{remove_entry, keys_of}
use Rattle.std.specs.Str.{bytes_eq}
use Rattle.std.specs.declared.alloc.Global.{Global}
use Rattle.std.specs.declared.vec.Vec.{Vec}
use Rattle.std.specs.BTreeMap.{insert_entry}
use Rattle.std.specs.Ordering.{nat_cmp, is_eq, match_ordering}
use Rattle.std.specs.Cmp.Lexicographic.{slice_cmp}
use Rattle.std.specs.declared.cmp.Ordering.{Ordering}
use Rattle.std.specs.declared.cmp.Ordering.TheVariants.{Less, Equal, Greater}
use Rattle.std.proofs.lemmas.Map.Keys.{sorted_head, sorted_tail}
use Rattle.std.proofs.lemmas.Map.Lookups.{exact_bytes}
use Rattle.std.proofs.lemmas.Map.Text.{is_eq-slice_cmp}
use Rattle.calculus.proofs.Permutations.{unmoved, keep, join, exchange}
use Rattle.calculus.specs.declared.ids.Digest.{Digest}
use Rattle.calculus.specs.Code.{code}
use Rattle.calculus.specs.Rows.{Row, channels}
use Rattle.calculus.specs.Steps.{is_one_of}
use Rattle.calculus.specs.Storing.{IsStorable}
use Rattle.events.specs.Found.{Among, without}
use Rattle.events.proofs.Counts.{same_bytes, bytes_same}
use Rattle.row_search.specs.Rows.{row_with, IsIn}
use Rattle.row_shards.specs.Counted.{AreCounted}
use Rattle.row_table.specs.declared.table.Filed.{Filed}
use Rattle.row_table.specs.Groups.{is_send, is_key, Index, HasId}
use Rattle.row_table.specs.Tables.{IsFiled, rows_in}
use Rattle.row_table.proofs.Filing.{AreUnderIds}
use Rattle.row_table.proofs.Grouping.{is_key-Decides}

-- how ids compare
abbrev pub by_id : List ℕ → List ℕ → Ordering
by_id = slice_cmp nat_cmp

-- an id that is less than another is another
less-apart : (x y : List ℕ) → by_id x y ≡ Less → x ≡ y → ⊥
less-apart x y e f = no (by_id x y) e (is_eq-slice_cmp x y ∙ same_bytes x y f)
  where
    no : (o : Ordering) → o ≡ Less → is_eq o ≡ true → ⊥
    no o e g = cc (e, g)

-- later rows have other ids
later-ids : (x : List ℕ) (es : List (List ℕ × Filed)) → AllByRecursion (λ y. by_id x y ≡ Less) (keys_of es) → AreUnderIds es → (r : Row) → Among r (rows_in es) → x ≡ r.id → ⊥
later-ids x [] h u r a e = a
later-ids x (f ∷ es) h u r (inl i) e = less-apart x f.0 h.0 (e ∙ ap (λ z. z.id) i ∙ sym u.0)
later-ids x (f ∷ es) h u r (inr a) e = later-ids x es h.1 u.1 r a e

differs : (x y : List ℕ) → (x ≡ y → ⊥) → bytes_eq x y ≡ false
differs x y n = go (bytes_eq x y) refl
  where
    go : (b : Bool) → bytes_eq x y ≡ b → bytes_eq x y ≡ false
    go true e = absurd (n (bytes_same x y e))
    go false e = e

-- ids tell the rows of a table
pub ids-tell : (es : List (List ℕ × Filed)) → IsStrictlySortedBy by_id (keys_of es) → AreUnderIds es → (r : Row) → Among r (rows_in es) → row_with r.id (rows_in es) ≡ Some r
ids-tell [] s u r a = absurd a
ids-tell (e ∷ es) s u r (inl i) = ap (λ b. cond b (Some e.1.row) (row_with r.id (rows_in es))) (same_bytes r.id e.1.row.id (ap (λ z. z.id) i)) ∙ ap Some (sym i)
ids-tell (e ∷ es) s u r (inr a) =
    ap (λ b. cond b (Some e.1.row) (row_with r.id (rows_in es)))
    (differs r.id e.1.row.id (λ i. later-ids e.0 es (sorted_head by_id e.0 (keys_of es) s) u.1 r a (u.0 ∙ sym i)))
    ∙ ids-tell es (sorted_tail by_id e.0 (keys_of es) s) u.1 r a

-- no row with this id is there
none-stays : (x : List ℕ) (rs : List Row) → ((r : Row) → Among r rs → x ≡ r.id → ⊥) → without (x ∷ []) rs ≡ rs
none-stays x [] n = refl
none-stays x (r ∷ rs) n =
    ap (λ b. cond (b || false) (without (x ∷ []) rs) (r ∷ without (x ∷ []) rs)) (differs r.id x (λ i. n r (inl refl) (sym i))) ∙ ap (λ l. r ∷ l) (none-stays x rs (λ q a. n q (inr a)))

-- the rows but the one with this id
pub rows-removed : (x : List ℕ) (es : List (List ℕ × Filed)) → IsStrictlySortedBy by_id (keys_of es) → AreUnderIds es → rows_in (remove_entry (is_key x) es) ≡ without (x ∷ []) (rows_in es)
rows-removed x [] s u = refl
rows-removed x (e ∷ es) s u = go (is_key x e.0) refl (rows-removed x es (sorted_tail by_id e.0 (keys_of es) s) u.1)
  where
    go : (b : Bool) → is_key x e.0 ≡ b → rows_in (remove_entry (is_key x) es) ≡ without (x ∷ []) (rows_in es)
        → rows_in (cond b es (e ∷ remove_entry (is_key x) es)) ≡ cond (bytes_eq e.1.row.id x || false) (without (x ∷ []) (rows_in es)) (e.1.row ∷ without (x ∷ []) (rows_in es))
    go true i next =
        let same : x ≡ e.0 = (is_key-Decides x e.0).0 i in
        sym (ap (λ b. cond (b || false) (without (x ∷ []) (rows_in es)) (e.1.row ∷ without (x ∷ []) (rows_in es))) (same_bytes e.1.row.id x (sym (same ∙ u.0)))
        ∙ none-stays x (rows_in es) (λ r a i. later-ids e.0 es (sorted_head by_id e.0 (keys_of es) s) u.1 r a (sym same ∙ i)))
    go false i next =
        ap (λ l. e.1.row ∷ l) next
        ∙ sym (ap (λ b. cond (b || false) (without (x ∷ []) (rows_in es)) (e.1.row ∷ without (x ∷ []) (rows_in es))) (differs e.1.row.id x (λ j. no (sym i ∙ (is_key-Decides x e.0).1 (sym (u.0 ∙ j))))))
      where
        no : false ≡ true → ⊥
        no z = cc z

module _ (sends receivers sends' receivers' : Index) where
  -- what is filed stays filed where its id stays in its groups
  pub still-filed : (e : List ℕ × Filed) → IsFiled sends receivers e → ((k : Vec ℕ Global) → HasId sends k.items e.1.row.id → HasId sends' k.items e.1.row.id) → ((k : Vec ℕ Global) → HasId receivers k.items e.1.row.id → HasId receivers' k.items e.1.row.id)
      → IsFiled sends' receivers' e
  still-filed e f s r = record { id = f.id; storable = f.storable; keys = f.keys; counted = f.counted; found = λ k i. go (is_send e.1.row) k (f.found k i) }
    where
      go : (b : Bool) (k : Vec ℕ Global) → HasId (cond b sends receivers) k.items e.1.row.id → HasId (cond b sends' receivers') k.items e.1.row.id
      go true k h = s k h
      go false k h = r k h

  pub all-still-filed : (es : List (List ℕ × Filed)) → AllByRecursion (IsFiled sends receivers) es
      → ((k : Vec ℕ Global) (x : List ℕ) → HasId sends k.items x → HasId sends' k.items x) → ((k : Vec ℕ Global) (x : List ℕ) → HasId receivers k.items x → HasId receivers' k.items x) → AllByRecursion (IsFiled sends' receivers') es
  all-still-filed [] h s r = tt
  all-still-filed (e ∷ es) h s r = (still-filed e h.0 (λ k. s k e.1.row.id) (λ k. r k e.1.row.id), all-still-filed es h.1 s r)

  -- without the row with an id the others are filed, whose ids stay in their groups
  pub others-filed : (x : List ℕ) (es : List (List ℕ × Filed)) → IsStrictlySortedBy by_id (keys_of es) → AllByRecursion (IsFiled sends receivers) es
      → ((k : Vec ℕ Global) (y : List ℕ) → y ≢ x → HasId sends k.items y → HasId sends' k.items y) → ((k : Vec ℕ Global) (y : List ℕ) → y ≢ x → HasId receivers k.items y → HasId receivers' k.items y) → AllByRecursion (IsFiled sends' receivers') (remove_entry (is_key x) es)
  others-filed x [] o h s r = tt
  others-filed x (e ∷ es) o h s r = go (is_key x e.0) refl (others-filed x es (sorted_tail by_id e.0 (keys_of es) o) h.1 s r)
    where
      rest : (x ≡ e.0) → (fs : List (List ℕ × Filed)) → AllByRecursion (λ y. by_id e.0 y ≡ Less) (keys_of fs) → AllByRecursion (IsFiled sends receivers) fs → AllByRecursion (IsFiled sends' receivers') fs
      rest i [] l g = tt
      rest i (f ∷ fs) l g =
          let n : f.1.row.id ≡ x → ⊥ = λ j. less-apart e.0 f.0 l.0 (sym i ∙ sym j ∙ sym g.0.id) in
          (still-filed f g.0 (λ k. s k f.1.row.id n) (λ k. r k f.1.row.id n), rest i fs l.1 g.1)

      no : false ≡ true → ⊥
      no z = cc z

      go : (b : Bool) → is_key x e.0 ≡ b → AllByRecursion (IsFiled sends' receivers') (remove_entry (is_key x) es) → AllByRecursion (IsFiled sends' receivers') (cond b es (e ∷ remove_entry (is_key x) es))
      go true i next = rest ((is_key-Decides x e.0).0 i) es (sorted_head by_id e.0 (keys_of es) o) h.1
      go false i next =
          let n : e.1.row.id ≡ x → ⊥ = λ j. no (sym i ∙ (is_key-Decides x e.0).1 (sym (h.0.id ∙ j))) in
          (still-filed e h.0 (λ k. s k e.1.row.id n) (λ k. r k e.1.row.id n), next)

-- what holds of entries and of a new one holds of them with that one in its place
pub all-put : (P : List ℕ × Filed → Type 0) (es : List (List ℕ × Filed)) (k : List ℕ) (f : Filed) → AllByRecursion P es → P (k, f) → AllByRecursion P (insert_entry by_id es k f)
all-put P [] k f h p = (p, tt)
all-put P (e ∷ es) k f h p =
    elim (by_id k e.0) as (λ o. by_id k e.0 ≡ o → AllByRecursion P (match_ordering o ((k, f) ∷ e ∷ es) ((e.0, f) ∷ es) (e ∷ insert_entry by_id es k f))) [
      | Less ↦ λ i. (p, h)
      | Equal ↦ λ i. (subst (λ (x : List ℕ). P (x, f)) (exact_bytes _ _ i) p, h.1)
      | Greater ↦ λ i. (h.0, all-put P es k f h.1 p)
    ] refl

-- the rows with one more, whose id none of them has
pub rows-put : (es : List (List ℕ × Filed)) (k : List ℕ) (f : Filed) → AreUnderIds es → is_one_of k (each (λ r. r.id) (rows_in es)) ≡ false → IsPermutation (rows_in (insert_entry by_id es k f)) (f.row ∷ rows_in es)
rows-put [] k f u n = unmoved (f.row ∷ [])
rows-put (e ∷ es) k f u n =
    elim (by_id k e.0) as (λ o. by_id k e.0 ≡ o → IsPermutation (rows_in (match_ordering o ((k, f) ∷ e ∷ es) ((e.0, f) ∷ es) (e ∷ insert_entry by_id es k f))) (f.row ∷ e.1.row ∷ rows_in es)) [
      | Less ↦ λ i. unmoved (f.row ∷ e.1.row ∷ rows_in es)
      | Equal ↦ λ i. absurd (is-there (sym (ap (λ b. b || is_one_of k (each (λ r. r.id) (rows_in es))) (same_bytes k e.1.row.id (exact_bytes _ _ i ∙ u.0))) ∙ n))
      | Greater ↦ λ i. join (keep e.1.row (rows-put es k f u.1 (not-later (bytes_eq k e.1.row.id) n))) (exchange e.1.row f.row (rows_in es))
    ] refl
  where
    is-there : true ≡ false → ⊥
    is-there z = cc z

    not-later : (b : Bool) {c : Bool} → b || c ≡ false → c ≡ false
    not-later true z = cc z
    not-later false z = z

-- without a row that came, whose id none had, the rows are as they were
pub rows-back : (es : List (List ℕ × Filed)) (k : List ℕ) (f : Filed) → AreUnderIds es → k ≡ f.row.id → is_one_of k (each (λ r. r.id) (rows_in es)) ≡ false → without (k ∷ []) (rows_in (insert_entry by_id es k f)) ≡ rows_in es
rows-back es k f u same n = go es u n
  where
    is-there : true ≡ false → ⊥
    is-there z = cc z

    first : (rs : List Row) → without (k ∷ []) (f.row ∷ rs) ≡ without (k ∷ []) rs
    first rs = ap (λ b. cond (b || false) (without (k ∷ []) rs) (f.row ∷ without (k ∷ []) rs)) (same_bytes f.row.id k (sym same))

    not-first : (b c : Bool) → b || c ≡ false → b ≡ false
    not-first true c z = cc z
    not-first false c z = refl

    not-later : (b c : Bool) → b || c ≡ false → c ≡ false
    not-later true c z = cc z
    not-later false c z = z

    apart : (rs : List Row) → is_one_of k (each (λ r. r.id) rs) ≡ false → (r : Row) → Among r rs → k ≡ r.id → ⊥
    apart [] m r a e = a
    apart (q ∷ rs) m r (inl i) e = is-there (sym (same_bytes k q.id (e ∙ ap (λ z. z.id) i)) ∙ not-first (bytes_eq k q.id) (is_one_of k (each (λ z. z.id) rs)) m)
    apart (q ∷ rs) m r (inr a) e = apart rs (not-later (bytes_eq k q.id) (is_one_of k (each (λ z. z.id) rs)) m) r a e

    go : (fs : List (List ℕ × Filed)) → AreUnderIds fs → is_one_of k (each (λ r. r.id) (rows_in fs)) ≡ false → without (k ∷ []) (rows_in (insert_entry by_id fs k f)) ≡ rows_in fs
    go [] v m = first []
    go (e ∷ fs) v m =
        elim (by_id k e.0) as (λ o. by_id k e.0 ≡ o → without (k ∷ []) (rows_in (match_ordering o ((k, f) ∷ e ∷ fs) ((e.0, f) ∷ fs) (e ∷ insert_entry by_id fs k f))) ≡ e.1.row ∷ rows_in fs) [
          | Less ↦ λ i. first (e.1.row ∷ rows_in fs) ∙ none-stays k (e.1.row ∷ rows_in fs) (apart (e.1.row ∷ rows_in fs) m)
          | Equal ↦ λ i. absurd (apart (e.1.row ∷ rows_in fs) m e.1.row (inl refl) (exact_bytes _ _ i ∙ v.0))
          | Greater ↦ λ i. ap (λ b. cond (b || false) (without (k ∷ []) (rows_in (insert_entry by_id fs k f))) (e.1.row ∷ without (k ∷ []) (rows_in (insert_entry by_id fs k f)))) (differs e.1.row.id k (λ j. apart (e.1.row ∷ rows_in fs) m e.1.row (inl refl) (sym j)))
              ∙ ap (λ l. e.1.row ∷ l) (go fs v.1 (not-later (bytes_eq k e.1.row.id) (is_one_of k (each (λ z. z.id) (rows_in fs))) m))
        ] refl

pub copied-some : {A : Type 0} (o : Option (Bor A)) → is_some (option_copied o) ≡ is_some o
copied-some None = refl
copied-some (Some r) = refl

-- a row is found by its id exactly where one has it
pub not-found : (x : List ℕ) (rs : List Row) → row_with x rs ≡ None → is_one_of x (each (λ r. r.id) rs) ≡ false
not-found x [] e = refl
not-found x (r ∷ rs) e = go (not-found x rs) (bytes_eq x r.id) e
  where
    go : (row_with x rs ≡ None → is_one_of x (each (λ r. r.id) rs) ≡ false) → (b : Bool) → cond b (Some r) (row_with x rs) ≡ None → b || is_one_of x (each (λ r. r.id) rs) ≡ false
    go next true z = cc z
    go next false z = next z

pub is-found : (x : List ℕ) (rs : List Row) → is_some (row_with x rs) ≡ true → is_one_of x (each (λ r. r.id) rs) ≡ true
is-found x [] e = cc e
is-found x (r ∷ rs) e = go (is-found x rs) (bytes_eq x r.id) e
  where
    go : (is_some (row_with x rs) ≡ true → is_one_of x (each (λ r. r.id) rs) ≡ true) → (b : Bool) → is_some (cond b (Some r) (row_with x rs)) ≡ true → b || is_one_of x (each (λ r. r.id) rs) ≡ true
    go next true z = refl
    go next false z = next z

-- an id is one of these and one more
is-one-more : (y x : List ℕ) (xs : List (List ℕ)) → is_one_of y (xs ++ x ∷ []) ≡ is_one_of y xs || (bytes_eq y x || false)
is-one-more y x [] = refl
is-one-more y x (z ∷ zs) = ap (λ b. bytes_eq y z || b) (is-one-more y x zs) ∙ again (bytes_eq y z) (is_one_of y zs) (bytes_eq y x || false)
  where
    again : (a b c : Bool) → a || (b || c) ≡ (a || b) || c
    again true b c = refl
    again false b c = refl

-- rows are taken out one id after another
pub without-more : (x : List ℕ) (xs : List (List ℕ)) (rs : List Row) → without (x ∷ []) (without xs rs) ≡ without (xs ++ x ∷ []) rs
without-more x xs [] = refl
without-more x xs (r ∷ rs) = go (is_one_of r.id xs) (is_one_of r.id (xs ++ x ∷ [])) (is-one-more r.id x xs) (without-more x xs rs)
  where
    inner : (c : Bool) {ls ms : List Row} → ls ≡ ms → cond c ls (r ∷ ls) ≡ cond c ms (r ∷ ms)
    inner true e = e
    inner false e = ap (λ l. r ∷ l) e

    go : (b d : Bool) → d ≡ b || (bytes_eq r.id x || false) → without (x ∷ []) (without xs rs) ≡ without (xs ++ x ∷ []) rs
        → without (x ∷ []) (cond b (without xs rs) (r ∷ without xs rs)) ≡ cond d (without (xs ++ x ∷ []) rs) (r ∷ without (xs ++ x ∷ []) rs)
    go true d e n = n ∙ sym (ap (λ v. cond v (without (xs ++ x ∷ []) rs) (r ∷ without (xs ++ x ∷ []) rs)) e)
    go false d e n = inner (bytes_eq r.id x || false) n ∙ sym (ap (λ v. cond v (without (xs ++ x ∷ []) rs) (r ∷ without (xs ++ x ∷ []) rs)) e)

-- nothing is taken out
pub without-none : (rs : List Row) → rs ≡ without [] rs
without-none [] = refl
without-none (r ∷ rs) = ap (λ l. r ∷ l) (without-none rs)

-- one more id
pub ids-more : (ds : List Digest) (i : ℕ) (z : Digest) → i < length ds → each (λ (d : Digest). d.0) (take (suc i) ds) ≡ each (λ (d : Digest). d.0) (take i ds) ++ (get_or ds i z).0 ∷ []
ids-more [] i z h = absurd (omega arith)
ids-more (d ∷ ds) zero z h = refl
ids-more (d ∷ ds) (suc i) z h = ap (λ l. d.0 ∷ l) (ids-more ds i z (omega arith))

pub taken-more : (ds : List Digest) (i : ℕ) (z : Digest) (old now new : List Row) → i < length ds → now ≡ without (each (λ d. d.0) (take i ds)) old → new ≡ without ((get_or ds i z).0 ∷ []) now
    → new ≡ without (each (λ d. d.0) (take (i + 1) ds)) old
taken-more ds i z old now new h e f =
    f ∙ ap (without ((get_or ds i z).0 ∷ [])) e ∙ without-more (get_or ds i z).0 (each (λ d. d.0) (take i ds)) old
    ∙ ap (λ xs. without xs old) (sym (ap (λ n. each (λ (d : Digest). d.0) (take n ds)) (add-one i) ∙ ids-more ds i z h))

-- one more key
pub in-more : {A : Type 0} (xs : List A) (i : ℕ) (z k : A) → i < length xs → IsIn k (take (i + 1) xs) → IsIn k (take i xs) ⊎ (k ≡ get_or xs i z)
in-more {A} xs i z k h m = go xs i h (subst (λ n. IsIn k (take n xs)) (add-one i) m)
  where
    go : (ys : List A) (j : ℕ) → j < length ys → IsIn k (take (suc j) ys) → IsIn k (take j ys) ⊎ (k ≡ get_or ys j z)
    go [] j l n = absurd n
    go (y ∷ ys) zero l (inl e) = inr e
    go (y ∷ ys) zero l (inr n) = absurd n
    go (y ∷ ys) (suc j) l (inl e) = inl (inl e)
    go (y ∷ ys) (suc j) l (inr n) = elim (go ys j (omega arith) n) [ inl m ↦ inl (inr m) | inr e ↦ inr e ]

-- keys of channels of binds
pub each-each : {A B C : Type 0} (f : B → C) (g : A → B) (xs : List A) → each f (each g xs) ≡ each (λ x. f (g x)) xs
each-each f g [] = refl
each-each f g (x ∷ xs) = ap (λ l. f (g x) ∷ l) (each-each f g xs)

-- a row with the codes of its channels, in whose groups its id is
pub new-filed : (sends receivers : Index) (x : List ℕ) (f : Filed) → x ≡ f.row.id → IsStorable f.row → each (λ k. k.items) f.keys.items ≡ each code (channels f.row.part)
    → ((k : Vec ℕ Global) → IsIn k f.keys.items → HasId (cond (is_send f.row) sends receivers) k.items x) → AreCounted f.row f.counted → IsFiled sends receivers (x, f)
new-filed sends receivers x f e s k h n = record {
  id = e;
  storable = s;
  counted = n;
  keys = k;
  found = λ q i. subst (λ z. HasId (cond (is_send f.row) sends receivers) q.items z) e (h q i);
}
