-- Logs of a hub, entry by entry.
use Rattle.std.proofs.Common.{◌≡◌, ℕ, zero, suc, ◌+◌, ◌&&◌, List, [], ◌∷◌, ◌++◌, refl, sym, ap, subst, ◌∙◌, arith, ◌⊎◌, inl, inr, eqb, append_assoc, append-nil, Some}
use Rattle.std.specs.Prelude.{slice_get}
use Rattle.hub_rule.specs.Counts.{one_if, things_of}
use Rattle.hub_rule.specs.Meaning.{Meaning, store_after, offered, ended, MayFollow, Allowed, AllowedAfter}
use Rattle.hub_rule.proofs.Draws.{store_more, things_more, allowed_more}

-- what stands at a place stands there still where more follows
pub get_more : {A : Type 0} (xs ys : List A) (i : ℕ) (a : A) → slice_get xs i ≡ Some a → slice_get (xs ++ ys) i ≡ Some a
get_more [] ys i a e = cc
get_more (x ∷ xs) ys zero a e = e
get_more (x ∷ xs) ys (suc i) a e = get_more xs ys i a e

-- what stands in two lists together stands in the first or in the second
pub get_either : {A : Type 0} (xs ys : List A) (i : ℕ) (a : A) → slice_get (xs ++ ys) i ≡ Some a → (slice_get xs i ≡ Some a) ⊎ ((j : ℕ) × (slice_get ys j ≡ Some a))
get_either [] ys i a e = inr (i, e)
get_either (x ∷ xs) ys zero a e = inl e
get_either (x ∷ xs) ys (suc i) a e = get_either xs ys i a e

module _ {Store E X W : Type 0} (m : Meaning Store E X W) (st : Store) (works : List W) where
  -- the store after a log
  abbrev pub now : List (ℕ × E) → Store
  now log = store_after m st (things_of log)

  pub now_more : (log : List (ℕ × E)) (q : ℕ × E) → now (log ++ q ∷ []) ≡ m.after (now log) q.1
  now_more log q = ap (store_after m st) (things_more m log q) ∙ store_more m st (things_of log) q.1

  pub ended_snoc : (j : ℕ) (log : List (ℕ × E)) (q : ℕ × E) → ended m j (log ++ q ∷ []) ≡ ended m j log + one_if (eqb q.0 j && m.ends q.1)
  ended_snoc j [] q = omega arith
  ended_snoc j (p ∷ ps) q = let r = ended_snoc j ps q in omega arith

  -- what is offered by a log is offered by a longer one
  pub offered_grows : (log more : List (ℕ × E)) → (ws : List W) × (offered m works (log ++ more) ≡ offered m works log ++ ws)
  offered_grows log more = go works log
    where
      longer : (ws : List W) (ps : List (ℕ × E)) → (vs : List W) × (offered m ws ps ≡ ws ++ vs)
      longer ws [] = ([], sym (append-nil ws))
      longer ws (p ∷ ps) = let r = longer (ws ++ m.offers p.1) ps in (m.offers p.1 ++ r.0, r.1 ∙ append_assoc ws (m.offers p.1) r.0)

      go : (ws : List W) (log : List (ℕ × E)) → (vs : List W) × (offered m ws (log ++ more) ≡ offered m ws log ++ vs)
      go ws [] = longer ws more
      go ws (p ∷ ps) = go (ws ++ m.offers p.1) ps

  pub still_offered : (log more : List (ℕ × E)) (i : ℕ) (w : W) → slice_get (offered m works log) i ≡ Some w → slice_get (offered m works (log ++ more)) i ≡ Some w
  still_offered log more i w e =
      let g = offered_grows log more in
      subst (λ l. slice_get l i ≡ Some w) (sym g.1) (get_more (offered m works log) g.0 i w e)

  -- What holds of no entries and is kept by each that may follow, holds of an allowed list. The list of all entries is told at each.
  pub along : (P : List (ℕ × E) → Type 0) (log : List (ℕ × E)) → Allowed m st works log → P []
      → ((before after : List (ℕ × E)) (q : ℕ × E) → log ≡ before ++ q ∷ after → Allowed m st works before → MayFollow m st works before q → P before → P (before ++ q ∷ [])) → P log
  along P log h z f = go [] log refl tt z h
    where
      go : (before after : List (ℕ × E)) → log ≡ before ++ after → Allowed m st works before → P before → AllowedAfter m st works before after → P log
      go before [] e a k h = subst P (sym (e ∙ append-nil before)) k
      go before (q ∷ after) e a k h =
          go (before ++ q ∷ []) after (e ∙ sym (append_assoc before (q ∷ []) after)) (allowed_more m st works before q a h.0) (f before after q e a h.0 k) h.1
