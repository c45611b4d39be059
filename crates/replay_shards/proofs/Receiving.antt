-- The built-in receivers of a shard.
use Rattle.std.proofs.Common.{◌≡◌, ◌<◌, ◌+◌, ℕ, Bool, true, false, cond, List, [], ◌∷◌, ◌++◌, map as each, take, get_or, length, refl, sym, ap, ◌∙◌, append-nil, All}
use Rattle.std.specs.Prelude.{filter}
use Rattle.std.proofs.lemmas.List.Elements.{All-nil, All-cons, All-head, All-tail}
use Rattle.calculus.specs.Rows.{Row}
use Rattle.calculus.specs.Storing.{IsStorable}
use Rattle.rho_term.specs.Rows.{row_of_op}
use Rattle.rho_term.specs.declared.op.Op.{Op}
use Rattle.hub_scenes.specs.Spaces.{SeenRow, seen_in, standing_row}
use Rattle.replay_space.proofs.Filed.{mapped-more}
use Rattle.events.specs.Shards.{stands_in}

-- operations whose rows may be stored
pub all-storable : (os : List Op) → All IsStorable (each row_of_op os) → All (λ o. IsStorable (row_of_op o)) os
all-storable [] b = All-nil (λ o. IsStorable (row_of_op o))
all-storable (o ∷ os) b = All-cons (λ o. IsStorable (row_of_op o)) o os (All-head IsStorable (row_of_op o) (each row_of_op os) b) (all-storable os (All-tail IsStorable (row_of_op o) (each row_of_op os) b))

kept-both : (f : SeenRow → Bool) (xs ys : List SeenRow) → filter f (xs ++ ys) ≡ filter f xs ++ filter f ys
kept-both f [] ys = refl
kept-both f (x ∷ xs) ys = go (f x) (kept-both f xs ys)
  where
    go : (b : Bool) → filter f (xs ++ ys) ≡ filter f xs ++ filter f ys → cond b (x ∷ filter f (xs ++ ys)) (filter f (xs ++ ys)) ≡ cond b (x ∷ filter f xs) (filter f xs) ++ filter f ys
    go true e = ap (λ l. x ∷ l) e
    go false e = e

pub built-more : (k : ℕ) (rows : List Row) (i : ℕ) (d : Row) → i < length rows → (old new : List SeenRow) → old ≡ filter (seen_in k) (each standing_row (take i rows))
    → new ≡ old ++ filter (seen_in k) (standing_row (get_or rows i d) ∷ []) → new ≡ filter (seen_in k) (each standing_row (take (i + 1) rows))
built-more k rows i d h old new e f =
    f ∙ ap (λ l. l ++ filter (seen_in k) (standing_row (get_or rows i d) ∷ [])) e ∙ sym (kept-both (seen_in k) (each standing_row (take i rows)) (standing_row (get_or rows i d) ∷ []))
    ∙ ap (filter (seen_in k)) (sym (mapped-more standing_row rows i d h))

pub not-added : (k : ℕ) (r : Row) (l : List SeenRow) → stands_in k r ≡ false → l ≡ l ++ filter (seen_in k) (standing_row r ∷ [])
not-added k r l e = sym (append-nil l) ∙ ap (λ b. l ++ cond b (standing_row r ∷ []) []) (sym e)

pub is-added : (k : ℕ) (r : Row) (l : List SeenRow) → stands_in k r ≡ true → l ++ standing_row r ∷ [] ≡ l ++ filter (seen_in k) (standing_row r ∷ [])
is-added k r l e = ap (λ b. l ++ cond b (standing_row r ∷ []) []) (sym e)
