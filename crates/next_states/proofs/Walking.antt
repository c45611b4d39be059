-- What a walk over a base and the next state does.
use Rattle.std.proofs.Common.{◌≡◌, ℕ, Bool, true, false, cond, ◌||◌, List, [], ◌∷◌, ◌++◌, length, map as each, refl, ap, sym, ◌∙◌, subst, arith, append_assoc, append-nil, inl, inr}
use Rattle.std.specs.Prelude.{◌⊎◌, All, IsPermutation, Some, IsSome}
use Rattle.std.specs.Map.{lookup, keys_of}
use Rattle.std.specs.Ordering.{is_eq}
use Rattle.std.specs.Str.{bytes_eq}
use Rattle.std.proofs.lemmas.List.Elements.{All-head, All-tail, All-cons, All-nil}
use Rattle.std.proofs.lemmas.Map.Text.{is_eq-slice_cmp}
use Rattle.calculus.specs.Order.{byte_cmp, sorted, IsAscending}
use Rattle.calculus.specs.Root.{key}
use Rattle.calculus.specs.Rows.{Row, row_code}
use Rattle.calculus.specs.Steps.{is_one_of}
use Rattle.calculus.specs.Storing.{IsStorable}
use Rattle.calculus.proofs.Permutations.{each-moved}
use Rattle.events.proofs.Groups.{same, sorted-moved}
use Rattle.calculus.proofs.ListCodes.{sorted-ascending}
use Rattle.checkpoint.proofs.Adding.{map-push}
use Rattle.radix_root.specs.Groups.{given, digest_after}
use Rattle.radix_root.specs.Leaves.{Leaves, Keeps, digest_at, group_digest}
use Rattle.radix_root.specs.declared.group.Group.{Group}
use Rattle.next_states.specs.Pairs.{Pair, pair_of, codes_in, groups_in, TellsKey, IsRight}
use Rattle.next_states.specs.Walks.{pairs_left, Has, Holds, Agrees, Covers, row_of, IsCoded, pair_in}
use Rattle.next_states.specs.declared.changed.Changed.{Changed}
use Rattle.next_states.specs.declared.left.Left.{Left}
use Rattle.next_states.specs.declared.walk.Coded.{Coded}
use Rattle.next_states.specs.declared.walk.Keyed.{Keyed}
use Rattle.next_states.specs.declared.walk.Walk.{Walk}
use Rattle.next_states.proofs.Pairs.{codes-append, after-right}

module _ (w : Walk) (all done : List Pair) where
  -- a row of the base is passed, and its group changes
  pub pass-agrees : (l : Left) (ch : Changed) (d c : List ℕ) → pairs_left w.left ≡ (d, c) ∷ pairs_left l → Has ch d → ((k : List ℕ) → Has w.changed k → Has ch k) → (Holds w.changed [] → Holds ch [])
      → Agrees w all done → Agrees (record { left = l; changed = ch }) all done
  pass-agrees l ch d c e has others bare a = record {
    tell = All-tail TellsKey (d, c) (pairs_left l) (subst (All TellsKey) e a.tell);
    bare = bare a.bare;
    same = λ k. go k (a.same k) (bytes_eq k d) refl;
  }
    where
      go : (k : List ℕ) → Has w.changed k ⊎ (codes_in all k ≡ codes_in done k ++ codes_in (pairs_left w.left) k) → (b : Bool) → bytes_eq k d ≡ b → Has ch k ⊎ (codes_in all k ≡ codes_in done k ++ codes_in (pairs_left l) k)
      go k (inl h) b f = inl (others k h)
      go k (inr q) true f = inl (subst (Has ch) (sym (same k d f)) has)
      go k (inr q) false f = inr (q ∙ ap (λ (ps : List Pair). codes_in done k ++ codes_in ps k) e ∙ ap (λ b. codes_in done k ++ cond b (c ∷ codes_in (pairs_left l) k) (codes_in (pairs_left l) k)) f)

  -- the next row has the code of the base's first row, so it has its key
  pub match-key : (l : Left) (r : Row) (d c : List ℕ) → pairs_left w.left ≡ (d, c) ∷ pairs_left l → c ≡ row_code r → IsStorable r → Agrees w all done → key r ≡ d
  match-key l r d c e f s a = All-head TellsKey (d, c) (pairs_left l) (subst (All TellsKey) e a.tell) r s (sym f)

  one-more : (p : Pair) (k : List ℕ) (ps : List Pair) → codes_in done k ++ codes_in (p ∷ ps) k ≡ codes_in (done ++ p ∷ []) k ++ codes_in ps k
  one-more p k ps =
      ap (λ cs. codes_in done k ++ cs) (codes-append (p ∷ []) ps k) ∙ sym (append_assoc (codes_in done k) (codes_in (p ∷ []) k) (codes_in ps k))
      ∙ ap (λ cs. cs ++ codes_in ps k) (sym (codes-append done (p ∷ []) k))

  pub match-first : (l : Left) (r : Row) (d c : List ℕ) → pairs_left w.left ≡ (d, c) ∷ pairs_left l → c ≡ row_code r → IsStorable r → Agrees w all done → pairs_left w.left ≡ pair_of r ∷ pairs_left l
  match-first l r d c e f s a = e ∙ ap (λ x. (x, c) ∷ pairs_left l) (sym (match-key l r d c e f s a)) ∙ ap (λ x. (key r, x) ∷ pairs_left l) f

  -- and nothing changes
  pub match-agrees : (l : Left) (r : Row) (d c : List ℕ) → pairs_left w.left ≡ (d, c) ∷ pairs_left l → c ≡ row_code r → IsStorable r → Agrees w all done
      → Agrees (record { left = l; changed = w.changed }) all (done ++ pair_of r ∷ [])
  match-agrees l r d c e f s a = record {
    tell = All-tail TellsKey (d, c) (pairs_left l) (subst (All TellsKey) e a.tell);
    bare = a.bare;
    same = λ k. go k (a.same k);
  }
    where
      first : pairs_left w.left ≡ pair_of r ∷ pairs_left l
      first = match-first l r d c e f s a

      go : (k : List ℕ) → Has w.changed k ⊎ (codes_in all k ≡ codes_in done k ++ codes_in (pairs_left w.left) k) → Has w.changed k ⊎ (codes_in all k ≡ codes_in (done ++ pair_of r ∷ []) k ++ codes_in (pairs_left l) k)
      go k (inl h) = inl h
      go k (inr q) = inr (q ∙ ap (λ (ps : List Pair). codes_in done k ++ codes_in ps k) first ∙ one-more (pair_of r) k (pairs_left l))

  -- the next row is new, and its group changes
  pub add-agrees : (ch : Changed) (r : Row) → Has ch (key r) → ((k : List ℕ) → Has w.changed k → Has ch k) → (Holds w.changed [] → Holds ch []) → Agrees w all done
      → Agrees (record { left = w.left; changed = ch }) all (done ++ pair_of r ∷ [])
  add-agrees ch r has others bare a = record {
    tell = a.tell;
    bare = bare a.bare;
    same = λ k. go k (a.same k) (bytes_eq k (key r)) refl;
  }
    where
      apart : (k : List ℕ) → bytes_eq k (key r) ≡ false → codes_in (pair_of r ∷ []) k ≡ []
      apart k f = ap (λ b. cond b (row_code r ∷ []) []) f

      go : (k : List ℕ) → Has w.changed k ⊎ (codes_in all k ≡ codes_in done k ++ codes_in (pairs_left w.left) k) → (b : Bool) → bytes_eq k (key r) ≡ b
          → Has ch k ⊎ (codes_in all k ≡ codes_in (done ++ pair_of r ∷ []) k ++ codes_in (pairs_left w.left) k)
      go k (inl h) b f = inl (others k h)
      go k (inr q) true f = inl (subst (Has ch) (sym (same k (key r) f)) has)
      go k (inr q) false f =
          inr (q ∙ ap (λ cs. cs ++ codes_in (pairs_left w.left) k) (sym (append-nil (codes_in done k)) ∙ ap (λ cs. codes_in done k ++ cs) (sym (apart k f)) ∙ sym (codes-append done (pair_of r ∷ []) k)))

-- all of a base is passed
pub end-covers : (w : Walk) (all done : List Pair) → pairs_left w.left ≡ [] → Agrees w all done → Covers w.changed all done
end-covers w all done e a k = go (a.same k)
  where
    go : Has w.changed k ⊎ (codes_in all k ≡ codes_in done k ++ codes_in (pairs_left w.left) k) → Has w.changed k ⊎ (codes_in all k ≡ codes_in done k)
    go (inl h) = inl h
    go (inr q) = inr (q ∙ ap (λ (ps : List Pair). codes_in done k ++ codes_in ps k) e ∙ append-nil (codes_in done k))

-- what holds of all holds of those before the last, and of the last
pub all-before : {A : Type 0} (P : A → Type 0) (xs : List A) (x : A) → All P (xs ++ x ∷ []) → All P xs × P x
all-before P [] x h = (All-nil P, All-head P x [] h)
all-before P (y ∷ ys) x h =
    let rest = all-before P ys x (All-tail P y (ys ++ x ∷ []) h) in
    (All-cons P y ys (All-head P y (ys ++ x ∷ []) h) rest.0, rest.1)

-- a key that a look-up finds is one of the keys
pub found-one : {X : Type 0} (k : List ℕ) (es : List (List ℕ × X)) → IsSome (lookup (λ q. is_eq (byte_cmp k q)) es) → is_one_of k (keys_of es) ≡ true
found-one k [] h = absurd (cc h)
found-one k (e ∷ es) h = go (bytes_eq k e.0) refl (found-one k es) h
  where
    go : (b : Bool) → bytes_eq k e.0 ≡ b → (IsSome (lookup (λ q. is_eq (byte_cmp k q)) es) → is_one_of k (keys_of es) ≡ true)
        → IsSome (cond (is_eq (byte_cmp k e.0)) (Some e.1) (lookup (λ q. is_eq (byte_cmp k q)) es)) → is_one_of k (keys_of (e ∷ es)) ≡ true
    go true f m g = ap (λ b. b || is_one_of k (keys_of es)) f
    go false f m g = ap (λ b. b || is_one_of k (keys_of es)) f ∙ m (subst IsSome (ap (λ b. cond b (Some e.1) (lookup (λ q. is_eq (byte_cmp k q)) es)) (is_eq-slice_cmp k e.0 ∙ f)) g)

seconds-in : (ks : List Keyed) → each (λ (p : Pair). p.1) (each pair_in ks) ≡ each (λ k. k.code.items) ks
seconds-in [] = refl
seconds-in (k ∷ ks) = ap (λ ys. k.code.items ∷ ys) (seconds-in ks)

seconds-of : (rows : List Row) → each (λ (p : Pair). p.1) (each pair_of rows) ≡ each row_code rows
seconds-of [] = refl
seconds-of (r ∷ rows) = ap (λ ys. row_code r ∷ ys) (seconds-of rows)

-- codes with keys are the codes of the rows
pub codes-same : (ks : List Keyed) (cs : List Coded) → All IsCoded cs → each pair_in ks ≡ each pair_of (each row_of cs) → each (λ k. k.code.items) ks ≡ each (λ c. c.code.items) cs
codes-same ks cs a e = sym (seconds-in ks) ∙ ap (each (λ (p : Pair). p.1)) e ∙ seconds-of (each row_of cs) ∙ go cs a
  where
    go : (cs : List Coded) → All IsCoded cs → each row_code (each row_of cs) ≡ each (λ c. c.code.items) cs
    go [] b = refl
    go (c ∷ cs) b = ap (λ x. x ∷ each row_code (each row_of cs)) (sym (All-head IsCoded c cs b)) ∙ ap (λ ys. c.code.items ∷ ys) (go cs (All-tail IsCoded c cs b))

-- and are all of them, ascending
pub codes-kept : (rows : List Row) (ks : List Keyed) → IsPermutation (each pair_of rows) (each pair_in ks) → IsAscending (each (λ k. k.code.items) ks) → each (λ k. k.code.items) ks ≡ sorted (each row_code rows)
codes-kept rows ks p up =
    sym (sorted-ascending (each (λ k. k.code.items) ks) up) ∙ ap sorted (sym (seconds-in ks)) ∙ sym (sorted-moved (each-moved (λ (q : Pair). q.1) p)) ∙ ap sorted (seconds-of rows)

-- a group of the codes of its key
pub right-group : (ps : List Pair) (g : Group) (k : List ℕ) (cs : List (List ℕ)) → g.key.0 ≡ k → given g.digest ≡ group_digest k (sorted cs) → cs ≡ codes_in ps k → IsRight ps g
right-group ps g k cs e d f = d ∙ ap (λ ys. group_digest k (sorted ys)) f ∙ ap (λ x. group_digest x (groups_in ps x)) (sym e)

-- a tree that is given the groups that change
pub keeps-after : (ps all : List Pair) (gs : List Group) (old new : Leaves) (ch : Changed) → All (IsRight ps) gs → ((k : List ℕ) → Has ch k → is_one_of k (each (λ g. g.key.0) gs) ≡ true)
    → ((k : List ℕ) → digest_at new k ≡ digest_after gs (digest_at old k) k) → Keeps old (groups_in all) → Covers ch all ps → Keeps new (groups_in ps)
keeps-after ps all gs old new ch right found is keeps covers k = is k ∙ after-right ps gs (digest_at old k) k right ∙ go (covers k)
  where
    on : (b : Bool) → codes_in all k ≡ codes_in ps k → cond b (group_digest k (groups_in ps k)) (digest_at old k) ≡ group_digest k (groups_in ps k)
    on true q = refl
    on false q = keeps k ∙ ap (λ cs. group_digest k (sorted cs)) q

    go : Has ch k ⊎ (codes_in all k ≡ codes_in ps k) → cond (is_one_of k (each (λ g. g.key.0) gs)) (group_digest k (groups_in ps k)) (digest_at old k) ≡ group_digest k (groups_in ps k)
    go (inl h) = ap (λ b. cond b (group_digest k (groups_in ps k)) (digest_at old k)) (found k h)
    go (inr q) = on (is_one_of k (each (λ g. g.key.0) gs)) q

-- one row more
pub pairs-push : (xs : List Coded) (x : Coded) → each pair_of (each row_of (xs ++ x ∷ [])) ≡ each pair_of (each row_of xs) ++ pair_of (row_of x) ∷ []
pairs-push xs x = ap (each pair_of) (map-push row_of xs x) ∙ map-push pair_of (each row_of xs) (row_of x)

pub keyed-push : (ks : List Keyed) (k : Keyed) (xs : List Coded) (x : Coded) → each pair_in ks ≡ each pair_of (each row_of xs) → k.key.0 ≡ key (row_of x) → k.code.items ≡ row_code (row_of x)
    → each pair_in (ks ++ k ∷ []) ≡ each pair_of (each row_of (xs ++ x ∷ []))
keyed-push ks k xs x e f g =
    map-push pair_in ks k ∙ ap (λ (ps : List Pair). ps ++ pair_in k ∷ []) e
    ∙ ap (λ (p : Pair). each pair_of (each row_of xs) ++ p ∷ []) (ap (λ d. (d, k.code.items)) f ∙ ap (λ cs. (key (row_of x), cs)) g)
    ∙ sym (pairs-push xs x)

pub same-list : {A : Type 0} (xs : List A) → each (λ x. x) xs ≡ xs
same-list [] = refl
same-list (x ∷ xs) = ap (λ ys. x ∷ ys) (same-list xs)

pub nothing-left : {A : Type 0} (xs : List A) → length xs ≡ 0 → xs ≡ []
nothing-left [] e = refl
nothing-left (x ∷ xs) e = absurd (omega (arith, e))
