-- Rows of a map, counted and taken out.
use Rattle.std.proofs.Common.{◌≡◌, ◌<◌, ◌≤◌, ◌^◌, ◌-◌, ◌+◌, ℕ, zero, suc, Bool, true, false, cond, List, [], ◌∷◌, ◌++◌, map as each, length, refl, sym, ap, ◌∙◌, inl, inr, arith, get_or, Fits, w32}
use Rattle.std.specs.Prelude.{flat_map, set}
use Rattle.hub_scenes.specs.Spaces.{SeenRow, IsIn}
use Rattle.calculus.specs.Rows.{Row}
use Rattle.replay_space.specs.declared.seen.Seen.{Seen}
use Rattle.replay_rows.specs.Filing.{AllHave}
use Rattle.replay_rows.specs.Rows.{seen_row, id_of, once_more, settled}
use Rattle.replay_rows.proofs.Filing.{is-same, is-other}

-- the first of these rows, so many of them, are changed
abbrev pub upto : (SeenRow → SeenRow) → ℕ → List SeenRow → List SeenRow
upto f zero qs = qs
upto f (suc n) [] = []
upto f (suc n) (q ∷ qs) = f q ∷ upto f n qs

module _ (f : SeenRow → SeenRow) where
  pub all-changed : (n : ℕ) (qs : List SeenRow) → length qs ≤ n → upto f n qs ≡ each f qs
  all-changed zero [] h = refl
  all-changed zero (q ∷ qs) h = absurd (omega (arith, h))
  all-changed (suc n) [] h = refl
  all-changed (suc n) (q ∷ qs) h = ap (λ l. f q ∷ l) (all-changed n qs (omega (arith, h)))

  changed-one : (i : ℕ) (l : List (Seen Row)) (qs : List SeenRow) (d w : Seen Row) → i < length l → each seen_row l ≡ upto f i qs → seen_row w ≡ f (seen_row (get_or l i d)) → each seen_row (set l i w) ≡ upto f (suc i) qs
  changed-one i [] qs d w h e g = absurd (omega (arith, h))
  changed-one zero (s ∷ l) [] d w h e g = absurd (cc)
  changed-one zero (s ∷ l) (q ∷ qs) d w h e g = let a : seen_row s ≡ q = cc e in let b : each seen_row l ≡ qs = cc e in ap (λ z. z ∷ each seen_row l) (g ∙ ap f a) ∙ ap (λ z. f q ∷ z) b
  changed-one (suc i) (s ∷ l) [] d w h e g = absurd (cc)
  changed-one (suc i) (s ∷ l) (q ∷ qs) d w h e g =
      let a : seen_row s ≡ f q = cc e in
      let b : each seen_row l ≡ upto f i qs = cc e in
      ap (λ z. z ∷ each seen_row (set l i w)) a ∙ ap (λ z. f q ∷ z) (changed-one i l qs d w (omega (arith, h)) b g)

  pub changed-next : (i : ℕ) (l : List (Seen Row)) (qs : List SeenRow) (d w : Seen Row) → i < length l → each seen_row l ≡ upto f i qs → seen_row w ≡ f (seen_row (get_or l i d)) → each seen_row (set l i w) ≡ upto f (i + 1) qs
  changed-next i l qs d w h e g = changed-one i l qs d w h e g ∙ ap (λ n. upto f n qs) next
    where
      next : suc i ≡ i + 1
      next = omega arith

  -- a row that was not changed yet stands where it stood
  pub not-changed : (i : ℕ) (l : List (Seen Row)) (qs : List SeenRow) (d : Seen Row) → i < length l → each seen_row l ≡ upto f i qs → IsIn (seen_row (get_or l i d)) qs
  not-changed i [] qs d h e = absurd (omega (arith, h))
  not-changed zero (s ∷ l) [] d h e = absurd (cc)
  not-changed zero (s ∷ l) (q ∷ qs) d h e = inl (cc e)
  not-changed (suc i) (s ∷ l) [] d h e = absurd (cc)
  not-changed (suc i) (s ∷ l) (q ∷ qs) d h e = let b : each seen_row l ≡ upto f i qs = cc e in inr (not-changed i l qs d (omega (arith, h)) b)

pub counted-next : (i : ℕ) (l : List (Seen Row)) (qs : List SeenRow) (d : Seen Row) → i < length l → each seen_row l ≡ upto once_more i qs
    → each seen_row (set l i (record { row = (get_or l i d).row; from = (get_or l i d).from; done = (get_or l i d).done + 1 })) ≡ upto once_more (i + 1) qs
counted-next i l qs d h e =
    changed-next once_more i l qs d (record { row = (get_or l i d).row; from = (get_or l i d).from; done = (get_or l i d).done + 1 }) h e (ap (λ n. record { row = (get_or l i d).row; from = (get_or l i d).from; done = n }) one)
  where
    one : (get_or l i d).done + 1 ≡ suc (get_or l i d).done
    one = omega arith

pub fits-more : (i : ℕ) (l : List (Seen Row)) (qs : List SeenRow) (d : Seen Row) → i < length l → each seen_row l ≡ upto once_more i qs → ((q : SeenRow) → IsIn q qs → q.done < 2 ^ 32 - 1) → Fits w32 ((get_or l i d).done + 1)
fits-more i l qs d h e low = let small = low (seen_row (get_or l i d)) (not-changed once_more i l qs d h e) in omega (arith, small)

pub as-many : (l : List (Seen Row)) → length (each seen_row l) ≡ length l
as-many [] = refl
as-many (s ∷ l) = ap suc (as-many l)

many-upto : (f : SeenRow → SeenRow) (i : ℕ) (qs : List SeenRow) → length (upto f i qs) ≡ length qs
many-upto f zero qs = refl
many-upto f (suc i) [] = refl
many-upto f (suc i) (q ∷ qs) = ap suc (many-upto f i qs)

pub same-many : (f : SeenRow → SeenRow) (i : ℕ) (l k : List (Seen Row)) → each seen_row l ≡ upto f i (each seen_row k) → length l ≡ length k
same-many f i l k e = sym (as-many l) ∙ ap length e ∙ many-upto f i (each seen_row k) ∙ as-many k

module _ (x : List ℕ) where
  pub others-stay : (leaves : Bool) (q : SeenRow) → (x ≡ id_of q → ⊥) → settled x leaves q ≡ q ∷ []
  others-stay leaves q n = ap (λ b. cond b (cond leaves [] (once_more q ∷ [])) (q ∷ [])) (is-other x q.row.id n)

  pub its-leave : (q : SeenRow) → x ≡ id_of q → settled x true q ≡ []
  its-leave q e = ap (λ b. cond b [] (q ∷ [])) (is-same x q.row.id e)

  pub its-count : (qs : List SeenRow) → AllHave id_of x qs → each once_more qs ≡ flat_map (settled x false) qs
  its-count [] h = refl
  its-count (q ∷ qs) h = ap (λ l. once_more q ∷ l) (its-count qs h.1) ∙ ap (λ b. cond b (once_more q ∷ []) (q ∷ []) ++ flat_map (settled x false) qs) (sym (is-same x q.row.id h.0))

  pub counted-have : (qs : List SeenRow) → AllHave id_of x qs → AllHave id_of x (each once_more qs)
  counted-have [] h = tt
  counted-have (q ∷ qs) h = (h.0, counted-have qs h.1)
