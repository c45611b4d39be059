-- When it is a step's turn.
use Rattle.std.proofs.Common.{◌≡◌, ◌<◌, ℕ, suc, ◌+◌, Bool, true, false, not, ◌&&◌, ◌||◌, cond, List, [], ◌∷◌, ◌++◌, length, refl, ap, sym, ◌∙◌, subst, arith, inl, inr}
use Rattle.std.specs.Prelude.{◌⊎◌, ltb, flat_map}
use Rattle.std.proofs.lemmas.Bool.{ltb-true, lt-ltb}
use Rattle.calculus.specs.Log.{Step}
use Rattle.calculus.specs.Steps.{Bag, standing, is_one_of}
use Rattle.calculus.proofs.Members.{Member}
use Rattle.events.proofs.Counts.{ids}
use Rattle.racing_replays.specs.Replaying.{DoneStep, rows_by, is_done, names, ids_before, all_among, any_among, all_done, is_due}
use Rattle.racing_replays.proofs.Ledger.{one-here, one-first, one-next, one-split, one-left, one-right, one-flat, flat-one}

pub all-up : (xs ys zs : List (List ℕ)) → ((x : List ℕ) → is_one_of x xs ≡ true → is_one_of x ys ≡ true → is_one_of x zs ≡ true) → all_among xs ys ≡ true → all_among xs zs ≡ true
all-up [] ys zs f h = refl
all-up (x ∷ xs) ys zs f h = go (all-up xs ys zs (λ y i. f y (one-next y x xs i))) (is_one_of x ys) refl h
  where
    go : (all_among xs ys ≡ true → all_among xs zs ≡ true) → (b : Bool) → is_one_of x ys ≡ b → b && all_among xs ys ≡ true → is_one_of x zs && all_among xs zs ≡ true
    go next true k h = ap (λ b. b && all_among xs zs) (f x (one-here x x xs refl) k) ∙ next h
    go next false k h = cc

pub all-at : (xs ys : List (List ℕ)) (x : List ℕ) → all_among xs ys ≡ true → is_one_of x xs ≡ true → is_one_of x ys ≡ true
all-at [] ys x h i = cc
all-at (z ∷ xs) ys x h i = go (all-at xs ys x) (is_one_of z ys) refl h (one-first x z xs i)
  where
    go : (all_among xs ys ≡ true → is_one_of x xs ≡ true → is_one_of x ys ≡ true) → (b : Bool) → is_one_of z ys ≡ b → b && all_among xs ys ≡ true → (x ≡ z) ⊎ (is_one_of x xs ≡ true) → is_one_of x ys ≡ true
    go next true k h (inl e) = subst (λ y. is_one_of y ys ≡ true) (sym e) k
    go next true k h (inr j) = next h j
    go next false k h j = cc

-- each is among them if each that is one of these is
pub all-from : (xs ys : List (List ℕ)) → ((x : List ℕ) → is_one_of x xs ≡ true → is_one_of x ys ≡ true) → all_among xs ys ≡ true
all-from [] ys f = refl
all-from (x ∷ xs) ys f = ap (λ b. b && all_among xs ys) (f x (one-here x x xs refl)) ∙ all-from xs ys (λ y i. f y (one-next y x xs i))

pub all_done-at : (ds : List DoneStep) (xs : List (List ℕ)) (j : ℕ) (mid : List Step) (u : Step) (rest : List Step) → all_done ds xs j (mid ++ u ∷ rest) ≡ true → any_among xs (names u) ≡ true → is_done (j + length mid) ds ≡ true
all_done-at ds xs j [] u rest h a = subst (λ n. is_done n ds ≡ true) (sym zero-more) (go (any_among xs (names u)) a (is_done j ds) refl h)
  where
    zero-more : j + 0 ≡ j
    zero-more = omega arith

    go : (b : Bool) → b ≡ true → (c : Bool) → is_done j ds ≡ c → (not b || c) && all_done ds xs (suc j) rest ≡ true → is_done j ds ≡ true
    go true e true k h = k
    go true e false k h = cc
    go false e c k h = cc
all_done-at ds xs j (v ∷ mid) u rest h a = subst (λ n. is_done n ds ≡ true) one-less (next (not (any_among xs (names v)) || is_done j ds) h (λ k. all_done-at ds xs (suc j) mid u rest k a))
  where
    one-less : suc j + length mid ≡ j + suc (length mid)
    one-less = omega arith

    next : (b : Bool) → b && all_done ds xs (suc j) (mid ++ u ∷ rest) ≡ true → (all_done ds xs (suc j) (mid ++ u ∷ rest) ≡ true → is_done (suc j + length mid) ds ≡ true) → is_done (suc j + length mid) ds ≡ true
    next true h f = f h
    next false h f = cc

pub all_done-from : (ds : List DoneStep) (xs : List (List ℕ)) (j : ℕ) (us : List Step)
    → ((mid : List Step) (u : Step) (rest : List Step) → us ≡ mid ++ u ∷ rest → any_among xs (names u) ≡ true → is_done (j + length mid) ds ≡ true) → all_done ds xs j us ≡ true
all_done-from ds xs j [] f = refl
all_done-from ds xs j (u ∷ us) f =
    go (any_among xs (names u)) refl (all_done-from ds xs (suc j) us (λ mid v rest e a. subst (λ n. is_done n ds ≡ true) (one-less mid) (f (u ∷ mid) v rest (ap (λ l. u ∷ l) e) a)))
  where
    one-less : (mid : List Step) → j + suc (length mid) ≡ suc j + length mid
    one-less mid = omega arith

    zero-more : j + 0 ≡ j
    zero-more = omega arith

    go : (b : Bool) → any_among xs (names u) ≡ b → all_done ds xs (suc j) us ≡ true → (not b || is_done j ds) && all_done ds xs (suc j) us ≡ true
    go true a h = ap (λ c. c && all_done ds xs (suc j) us) (subst (λ n. is_done n ds ≡ true) zero-more (f [] u us refl a)) ∙ h
    go false a h = h

-- what it means that it is a step's turn
pub record Due (b : Bag) (ds : List DoneStep) (before : List Step) (s : Step) : Type 0 where
  pub not_done : is_done (length before) ds ≡ false
  pub given : all_among (names s) (ids_before b (length before) ds) ≡ true
  pub earlier : all_done ds (names s) 0 before ≡ true

pub due-parts : (b : Bag) (ds : List DoneStep) (before : List Step) (s : Step) → is_due b ds before s ≡ true → Due b ds before s
due-parts b ds before s e = go (is_done (length before) ds) refl (all_among (names s) (ids_before b (length before) ds)) refl (all_done ds (names s) 0 before) refl e
  where
    go : (x : Bool) → is_done (length before) ds ≡ x → (y : Bool) → all_among (names s) (ids_before b (length before) ds) ≡ y → (z : Bool) → all_done ds (names s) 0 before ≡ z → not x && (y && z) ≡ true → Due b ds before s
    go false f true g true h e = record { not_done = f; given = g; earlier = h }
    go false f true g false h e = cc
    go false f false g z h e = cc
    go true f y g z h e = cc

pub due-whole : (b : Bag) (ds : List DoneStep) (before : List Step) (s : Step) → Due b ds before s → is_due b ds before s ≡ true
due-whole b ds before s d = ap (λ x. not x && (all_among (names s) (ids_before b (length before) ds) && all_done ds (names s) 0 before)) d.not_done
    ∙ ap (λ x. x && all_done ds (names s) 0 before) d.given ∙ d.earlier

-- who gave a row with this id
abbrev pub GivenBy : Bag → ℕ → List DoneStep → List ℕ → Type 0
GivenBy b i ds x = (is_one_of x (ids (standing b)) ≡ true) ⊎ ((d : DoneStep) × (Member d ds × (d.index < i × is_one_of x (ids (rows_by d)) ≡ true)))

pub given-by : (b : Bag) (i : ℕ) (ds : List DoneStep) (x : List ℕ) → is_one_of x (ids_before b i ds) ≡ true → GivenBy b i ds x
given-by b i ds x e = go (one-split x (ids (standing b)) _ e)
  where
    below : (d : DoneStep) → Member d ds → (c : Bool) → ltb d.index i ≡ c → is_one_of x (cond c (ids (rows_by d)) []) ≡ true → GivenBy b i ds x
    below d m true k h = inr (d, (m, (ltb-true d.index i k, h)))
    below d m false k h = cc

    go : (is_one_of x (ids (standing b)) ≡ true) ⊎ (is_one_of x (flat_map (λ d. cond (ltb d.index i) (ids (rows_by d)) []) ds) ≡ true) → GivenBy b i ds x
    go (inl h) = inl h
    go (inr h) = let k = one-flat x (λ d. cond (ltb d.index i) (ids (rows_by d)) []) ds h in below k.0 k.1.0 (ltb k.0.index i) refl k.1.1

pub by-given : (b : Bag) (i : ℕ) (ds : List DoneStep) (x : List ℕ) → GivenBy b i ds x → is_one_of x (ids_before b i ds) ≡ true
by-given b i ds x (inl h) = one-left x (ids (standing b)) _ h
by-given b i ds x (inr d) =
    one-right x (ids (standing b)) _ (flat-one x (λ d. cond (ltb d.index i) (ids (rows_by d)) []) ds d.0 d.1.0 (ap (λ c. is_one_of x (cond c (ids (rows_by d.0)) [])) (lt-ltb d.0.index i d.1.1.0) ∙ d.1.1.1))
