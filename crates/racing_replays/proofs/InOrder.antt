-- What is done, in the order of the log.
use Rattle.std.proofs.Common.{◌≡◌, ◌<◌, ℕ, zero, suc, Bool, true, false, cond, ◌||◌, List, [], ◌∷◌, ◌++◌, refl, ap, sym, ◌∙◌, subst, arith, inl, inr}
use Rattle.std.specs.Prelude.{◌⊎◌, eqb, IsPermutation}
use Rattle.std.proofs.lemmas.Bool.{eqb-true, eq-eqb}
use Rattle.calculus.proofs.Members.{Member}
use Rattle.calculus.proofs.Permutations.{moved_so}
use Rattle.events.proofs.Orders.{member-moved}
use Rattle.racing_replays.specs.Replaying.{DoneStep, is_done, done_at, in_order}
use Rattle.racing_replays.proofs.Ledger.{done-entry, entry-done}

-- nothing is done of a step that is not done
pub none-at : (i : ℕ) (ds : List DoneStep) → is_done i ds ≡ false → done_at i ds ≡ []
none-at i [] e = refl
none-at i (d ∷ ds) e = go (eqb i d.index) (none-at i ds) e
  where
    go : (c : Bool) → (is_done i ds ≡ false → done_at i ds ≡ []) → c || is_done i ds ≡ false → cond c (d ∷ []) (done_at i ds) ≡ []
    go true next e = cc
    go false next e = next e

not-equal : (i j : ℕ) → (i ≡ j → ⊥) → (c : Bool) → eqb i j ≡ c → c ≡ false
not-equal i j f false e = refl
not-equal i j f true e = absurd (f (eqb-true i j e))

-- a done step that stands behind those of lower index
pub one-at-end : (i : ℕ) (ds : List DoneStep) (d : DoneStep) (more : List DoneStep) → ((e : DoneStep) → Member e ds → e.index < i) → i ≡ d.index → done_at i (ds ++ d ∷ more) ≡ d ∷ []
one-at-end i [] d more f e = ap (λ c. cond c (d ∷ []) (done_at i more)) (eq-eqb i d.index e)
one-at-end i (x ∷ ds) d more f e =
    ap (λ c. cond c (x ∷ []) (done_at i (ds ++ d ∷ more))) (not-equal i x.index (λ g. lower g (f x (inl refl))) (eqb i x.index) refl) ∙ one-at-end i ds d more (λ y m. f y (inr m)) e
  where
    lower : i ≡ x.index → x.index < i → ⊥
    lower g h = omega (arith, g, h)

-- a done step is all that is done with its index, where no index stands twice
one-at : (i : ℕ) (ds : List DoneStep) (d : DoneStep) → ((e : DoneStep) → Member e ds → e.index ≡ d.index → e ≡ d) → Member d ds → i ≡ d.index → done_at i ds ≡ d ∷ []
one-at i [] d one m e = absurd m
one-at i (x ∷ ds) d one m e = go (eqb i x.index) refl (one-at i ds d (λ y n. one y (inr n))) m
  where
    go : (c : Bool) → eqb i x.index ≡ c → (Member d ds → i ≡ d.index → done_at i ds ≡ d ∷ []) → (d ≡ x) ⊎ Member d ds → cond c (x ∷ []) (done_at i ds) ≡ d ∷ []
    go true g next n = ap (λ z. z ∷ []) (one x (inl refl) (sym (eqb-true i x.index g) ∙ e))
    go false g next (inl f) = absurd (clash (eq-eqb i x.index (e ∙ ap (λ z. z.index) f)))
      where
        clash : eqb i x.index ≡ true → ⊥
        clash h = cc
    go false g next (inr n) = next n e

module _ (ds es : List DoneStep) (same : IsPermutation ds es) (one : (d e : DoneStep) → Member d es → Member e es → d.index ≡ e.index → d ≡ e) where
  at-same : (i : ℕ) → done_at i ds ≡ done_at i es
  at-same i = go (is_done i es) refl
    where
      not-there : is_done i es ≡ false → (c : Bool) → is_done i ds ≡ c → c ≡ false
      not-there e false f = refl
      not-there e true f =
          let d = done-entry i ds f in
          absurd (clash (subst (λ n. is_done n es ≡ true) (sym d.1.1) (entry-done d.0 es (member-moved d.0 same d.1.0))))
        where
          clash : is_done i es ≡ true → ⊥
          clash g = cc

      go : (c : Bool) → is_done i es ≡ c → done_at i ds ≡ done_at i es
      go false e = none-at i ds (not-there e (is_done i ds) refl) ∙ sym (none-at i es e)
      go true e =
          let d = done-entry i es e in
          one-at i ds d.0 (λ x m f. one x d.0 (member-moved x same m) d.1.0 f) (member-moved d.0 (moved_so same) d.1.0) d.1.1
          ∙ sym (one-at i es d.0 (λ x m f. one x d.0 m d.1.0 f) d.1.0 d.1.1)

  -- what is done up to order is done alike in the order of the log
  pub order-same : (n : ℕ) → in_order n ds ≡ in_order n es
  order-same zero = refl
  order-same (suc n) = ap (λ l. l ++ done_at n ds) (order-same n) ∙ ap (λ l. in_order n es ++ l) (at-same n)
