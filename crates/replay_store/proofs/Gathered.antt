-- The shards of a store of a replay, put together, are the store.
use Rattle.std.proofs.Common.{◌≡◌, ◌≢◌, ℕ, zero, suc, ◌+◌, List, [], ◌∷◌, length, refl, sym, ap, subst, ◌∙◌, arith}
use Rattle.std.specs.Prelude.{slice_get, Some, IsPermutation}
use Rattle.calculus.specs.Rows.{Row, channels}
use Rattle.events.specs.Found.{Among}
use Rattle.events.specs.Shards.{IsProjection}
use Rattle.hub_scenes.specs.Spaces.{bare, Part}
use Rattle.replay_store.specs.Stores.{bare_shards, AreShardsOf}
use Rattle.row_shards.specs.Homes.{gathered}
use Rattle.row_shards.proofs.Gathered.{all-taken}

-- the rows of a shard that is there
bare-at : (store : List Row) (xs : List Part) (k j : ℕ) (x : List Row) → ((i : ℕ) (y : Part) → slice_get xs i ≡ Some y → IsProjection store (j + i) (bare y.rows)) → slice_get (bare_shards xs) k ≡ Some x → IsProjection store (j + k) x
bare-at store [] k j x h e = cc e
bare-at store (y ∷ xs) zero j x h e = let same : bare y.rows ≡ x = cc e in subst (IsProjection store (j + 0)) same (h 0 y refl)
bare-at store (y ∷ xs) (suc k) j x h e = subst (λ n. IsProjection store n x) moved (bare-at store xs k (suc j) x (λ i z f. subst (λ n. IsProjection store n (bare z.rows)) (shifted i) (h (suc i) z f)) e)
  where
    moved : suc j + k ≡ j + suc k
    moved = omega arith

    shifted : (i : ℕ) → j + suc i ≡ suc j + i
    shifted i = omega arith

pub bare-many : (xs : List Part) → length (bare_shards xs) ≡ length xs
bare-many [] = refl
bare-many (x ∷ xs) = ap suc (bare-many xs)

-- the rows of all 64 shards are the store, where each row has a channel
pub all-gathered : (store : List Row) (xs : List Part) → length xs ≡ 64 → AreShardsOf store xs → ((r : Row) → Among r store → channels r.part ≢ []) → IsPermutation (gathered 0 (bare_shards xs)) store
all-gathered store xs e h c = all-taken store (bare_shards xs) (bare-many xs ∙ e) (λ k x f. subst (λ n. IsProjection store n x) (plain k) (bare-at store xs k 0 x (λ i y g. subst (λ n. IsProjection store n (bare y.rows)) (sym (plain i)) (h i y g)) f)) c
  where
    plain : (k : ℕ) → 0 + k ≡ k
    plain k = omega arith
