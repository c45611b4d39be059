-- Counts that change at one place.
use Rattle.std.proofs.Common.{◌≡◌, ℕ, zero, suc, pred, ◌<◌, Bool, true, false, cond, ◌||◌, List, [], ◌∷◌, ◌++◌, length, map as each, take, drop, get_or, set, remove, eqb, refl, sym, ap, ◌∙◌, arith}
use Rattle.std.specs.List.{list_any}
use Rattle.calculus.proofs.Members.{Every}
use Rattle.join_index.specs.Groups.{Channels, same_group}
use Rattle.join_index.specs.Index.{Tally, one_more, one_less, tally_of}
use Rattle.join_index.specs.declared.index.Counted.{Counted}

module _ {A : Type 0} where
  -- a list at a place
  pub cut : (xs : List A) (i : ℕ) (x : A) → i < length xs → x ≡ get_or xs i x → xs ≡ take i xs ++ x ∷ drop (suc i) xs
  cut [] i x l e = absurd (omega (arith, l))
  cut (y ∷ xs) zero x l e = ap (λ z. z ∷ xs) (sym e)
  cut (y ∷ xs) (suc i) x l e = ap (λ l. y ∷ l) (cut xs i x (omega (arith, l)) e)

  pub short : (xs : List A) (i : ℕ) → i < length xs → length (take i xs) ≡ i
  short [] i l = absurd (omega (arith, l))
  short (y ∷ xs) zero l = refl
  short (y ∷ xs) (suc i) l = ap suc (short xs i (omega (arith, l)))

  pub found : (xs : List A) (y : A) (zs : List A) (d : A) → get_or (xs ++ y ∷ zs) (length xs) d ≡ y
  found [] y zs d = refl
  found (x ∷ xs) y zs d = found xs y zs d

  pub changed : (xs : List A) (y : A) (zs : List A) (z : A) → set (xs ++ y ∷ zs) (length xs) z ≡ xs ++ z ∷ zs
  changed [] y zs z = refl
  changed (x ∷ xs) y zs z = ap (λ l. x ∷ l) (changed xs y zs z)

  pub removed : (xs : List A) (y : A) (zs : List A) → remove (xs ++ y ∷ zs) (length xs) ≡ xs ++ zs
  removed [] y zs = refl
  removed (x ∷ xs) y zs = ap (λ l. x ∷ l) (removed xs y zs)

module _ (g : Channels) where
  -- a group among those of an index
  abbrev pub is_it : Counted → Bool
  is_it e = same_group g e.group

  pub tail-none : (e : Counted) (es : List Counted) → list_any is_it (e ∷ es) ≡ false → (is_it e ≡ false) × (list_any is_it es ≡ false)
  tail-none e es n = go (is_it e) refl n
    where
      go : (b : Bool) → is_it e ≡ b → b || list_any is_it es ≡ false → (is_it e ≡ false) × (list_any is_it es ≡ false)
      go true f n = cc
      go false f n = (f, n)

  pub more-new : (es : List Counted) → list_any is_it es ≡ false → one_more (each tally_of es) g ≡ each tally_of es ++ (g, 1) ∷ []
  more-new [] n = refl
  more-new (e ∷ es) n =
      let t = tail-none e es n in
      ap (λ b. cond b ((e.group, suc e.count) ∷ each tally_of es) (tally_of e ∷ one_more (each tally_of es) g)) t.0 ∙ ap (λ l. tally_of e ∷ l) (more-new es t.1)

  pub more-there : (before : List Counted) (e : Counted) (after : List Counted) → list_any is_it before ≡ false → is_it e ≡ true
      → one_more (each tally_of (before ++ e ∷ after)) g ≡ each tally_of before ++ (e.group, suc e.count) ∷ each tally_of after
  more-there [] e after n f = ap (λ b. cond b ((e.group, suc e.count) ∷ each tally_of after) (tally_of e ∷ one_more (each tally_of after) g)) f
  more-there (d ∷ before) e after n f =
      let t = tail-none d before n in
      ap (λ b. cond b ((d.group, suc d.count) ∷ each tally_of (before ++ e ∷ after)) (tally_of d ∷ one_more (each tally_of (before ++ e ∷ after)) g)) t.0
      ∙ ap (λ l. tally_of d ∷ l) (more-there before e after t.1 f)

  pub less-there : (before : List Counted) (e : Counted) (after : List Counted) → list_any is_it before ≡ false → is_it e ≡ true
      → one_less (each tally_of (before ++ e ∷ after)) g ≡ each tally_of before ++ cond (eqb e.count 1) (each tally_of after) ((e.group, pred e.count) ∷ each tally_of after)
  less-there [] e after n f = ap (λ b. cond b (cond (eqb e.count 1) (each tally_of after) ((e.group, pred e.count) ∷ each tally_of after)) (tally_of e ∷ one_less (each tally_of after) g)) f
  less-there (d ∷ before) e after n f =
      let t = tail-none d before n in
      ap (λ b. cond b (cond (eqb d.count 1) (each tally_of (before ++ e ∷ after)) ((d.group, pred d.count) ∷ each tally_of (before ++ e ∷ after))) (tally_of d ∷ one_less (each tally_of (before ++ e ∷ after)) g)) t.0
      ∙ ap (λ l. tally_of d ∷ l) (less-there before e after t.1 f)

  pub less-none : (es : List Counted) → list_any is_it es ≡ false → one_less (each tally_of es) g ≡ each tally_of es
  less-none [] n = refl
  less-none (e ∷ es) n =
      let t = tail-none e es n in
      ap (λ b. cond b (cond (eqb e.count 1) (each tally_of es) ((e.group, pred e.count) ∷ each tally_of es)) (tally_of e ∷ one_less (each tally_of es) g)) t.0 ∙ ap (λ l. tally_of e ∷ l) (less-none es t.1)

pub each-both : {A B : Type 0} (f : A → B) (xs ys : List A) → each f (xs ++ ys) ≡ each f xs ++ each f ys
each-both f [] ys = refl
each-both f (x ∷ xs) ys = ap (λ l. f x ∷ l) (each-both f xs ys)

-- a group in the middle is counted as it stands
pub in-middle : (before : List Counted) (e : Counted) (after : List Counted) (P : Tally → Type 0) → Every P (each tally_of (before ++ e ∷ after)) → P (tally_of e)
in-middle [] e after P h = h.0
in-middle (d ∷ before) e after P h = in-middle before e after P h.1

pub any-counted : (g : Channels) (es : List Counted) → list_any (same_group g) (each (λ e. e.0) (each tally_of es)) ≡ list_any (λ e. same_group g e.group) es
any-counted g [] = refl
any-counted g (e ∷ es) = ap (λ b. same_group g e.group || b) (any-counted g es)
