-- Where a test holds of some number, there is a least one.
use Rattle.std.proofs.Common.{◌≡◌, ◌<◌, ℕ, zero, suc, Bool, true, false, List, refl, sym, ap, ◌∙◌, arith, inl, inr, Some, None}
use Rattle.std.specs.Prelude.{◌⊎◌, Option, is_some}
use Rattle.calculus.specs.Tree.{Tree}
use Rattle.calculus.specs.Form.{IsClosed}
use Rattle.calculus.specs.Outcome.{Prices, capped}
use Rattle.calculus.specs.Unfolding.{unfold_in, Unfolds}
use Rattle.calculus.specs.Runs.{Work}
use Rattle.process_laws.proofs.Closed.{each_process_unfolds}
use Rattle.play_runs.specs.Rooms.{is_known_in, known_or_over, work_in, IsLeast}

module _ (f : ℕ → Bool) where
  -- none is below a number, or a least one is
  none-or-least : (n : ℕ) → ((m : ℕ) → m < n → f m ≡ false) ⊎ ((m : ℕ) × IsLeast f m)
  none-or-least zero = inl (λ m l. absurd (omega (arith, l)))
  none-or-least (suc n) = go (none-or-least n)
    where
      at-last : ((m : ℕ) → m < n → f m ≡ false) → (b : Bool) → f n ≡ b → ((m : ℕ) → m < suc n → f m ≡ false) ⊎ ((m : ℕ) × IsLeast f m)
      at-last h true e = inr (n, (e, h))
      at-last h false e = inl (λ m l. last m l (below m n l))
        where
          below : (m n : ℕ) → m < suc n → (m < n) ⊎ (m ≡ n)
          below m zero l = inr (omega (arith, l))
          below zero (suc n) l = inl (omega arith)
          below (suc m) (suc n) l = more (below m n (omega (arith, l)))
            where
              more : (m < n) ⊎ (m ≡ n) → (suc m < suc n) ⊎ (suc m ≡ suc n)
              more (inl k) = inl (omega (arith, k))
              more (inr k) = inr (ap suc k)

          last : (m : ℕ) → m < suc n → (m < n) ⊎ (m ≡ n) → f m ≡ false
          last m l (inl k) = h m k
          last m l (inr k) = ap f k ∙ e

      go : ((m : ℕ) → m < n → f m ≡ false) ⊎ ((m : ℕ) × IsLeast f m) → ((m : ℕ) → m < suc n → f m ≡ false) ⊎ ((m : ℕ) × IsLeast f m)
      go (inl h) = at-last h (f n) refl
      go (inr k) = inr k

  pub least : (n : ℕ) → f n ≡ true → (m : ℕ) × IsLeast f m
  least n e = go (none-or-least (suc n))
    where
      go : ((m : ℕ) → m < suc n → f m ≡ false) ⊎ ((m : ℕ) × IsLeast f m) → (m : ℕ) × IsLeast f m
      go (inl h) = absurd (no (sym e ∙ h n (omega arith)))
        where
          no : true ≡ false → ⊥
          no z = cc z
      go (inr k) = k

-- a closed process has a least room
pub least-room : (p : Prices) (cap : ℕ) (t : Tree) (s : List ℕ) → IsClosed t → (n : ℕ) × IsLeast (is_known_in p cap t s) n
least-room p cap t s h = let w = each_process_unfolds p cap t s h in least (is_known_in p cap t s) w.1.0 (ap is_some w.1.1)

-- what is known in a room is what it unfolds to
pub unfolds-so : (p : Prices) (cap : ℕ) (t : Tree) (s : List ℕ) (room : ℕ) → is_known_in p cap t s room ≡ true → Unfolds p cap t s (work_in p cap t s room)
unfolds-so p cap t s room e = (room, go (capped cap (unfold_in p room t s)) e)
  where
    go : (o : Option Work) → is_some o ≡ true → o ≡ Some (known_or_over o)
    go None k = cc k
    go (Some w) k = refl
