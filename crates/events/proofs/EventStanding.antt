-- What stands in a bag: its stored rows and the built-in receivers.
use Rattle.std.proofs.Common.{◌≡◌, ◌≤◌, ℕ, ◌+◌, Bool, true, false, cond, List, [], ◌∷◌, ◌++◌, map as each, refl, ap, ◌∙◌, arith, inl, inr}
use Rattle.std.specs.Prelude.{◌⊎◌}
use Rattle.std.specs.Str.{bytes_eq}
use Rattle.calculus.proofs.Members.{Member, member-left, member-right, member-split}
use Rattle.calculus.specs.Rows.{Row, stdout, stdout_ack}
use Rattle.calculus.specs.Steps.{Bag, is_one_of, standing, stored_rows}
use Rattle.calculus.specs.Unfolding.{Product, a_row, a_fresh, rows_of, digest}
use Rattle.calculus.specs.Runs.{Work, work_products}
use Rattle.events.proofs.Counts.{ids, times, one_if, times-append, ids-append}
use Rattle.events.specs.Events.{digests}
use Rattle.events.specs.Found.{without}

-- the built-in receivers
abbrev pub built_ins : List Row
built_ins = stdout ∷ stdout_ack ∷ []

pub ids-times : (x : List ℕ) (rs qs : List Row) → times x (ids (rs ++ qs)) ≡ times x (ids rs) + times x (ids qs)
ids-times x rs qs = ap (times x) (ids-append rs qs) ∙ times-append x (ids rs) (ids qs)

between-times : (x : List ℕ) (rs : List Row) (p q : Row) (qs : List Row)
    → times x (ids (rs ++ (p ∷ q ∷ qs))) ≡ times x (ids (rs ++ qs)) + times x (ids (p ∷ q ∷ []))
between-times x rs p q qs = omega (arith, ids-times x rs (p ∷ q ∷ qs), ids-times x rs qs)

-- an id stands in a bag as often as among its stored rows and the built-in receivers
pub standing-times : (x : List ℕ) (b : Bag) → times x (ids (standing b)) ≡ times x (ids (stored_rows b)) + times x (ids built_ins)
standing-times x b = between-times x b.kept stdout stdout_ack b.offered

between-member : (z : Row) (rs : List Row) (p q : Row) (qs : List Row) → Member z (rs ++ (p ∷ q ∷ qs)) → Member z (rs ++ qs) ⊎ Member z (p ∷ q ∷ [])
between-member z rs p q qs m = go (member-split z rs (p ∷ q ∷ qs) m)
  where
    go : Member z rs ⊎ Member z (p ∷ q ∷ qs) → Member z (rs ++ qs) ⊎ Member z (p ∷ q ∷ [])
    go (inl k) = inl (member-left z rs qs k)
    go (inr (inl e)) = inr (inl e)
    go (inr (inr (inl e))) = inr (inr (inl e))
    go (inr (inr (inr k))) = inl (member-right z rs qs k)

member-between : (z : Row) (rs : List Row) (p q : Row) (qs : List Row) → Member z (rs ++ qs) ⊎ Member z (p ∷ q ∷ []) → Member z (rs ++ (p ∷ q ∷ qs))
member-between z rs p q qs (inl m) = go (member-split z rs qs m)
  where
    go : Member z rs ⊎ Member z qs → Member z (rs ++ (p ∷ q ∷ qs))
    go (inl k) = member-left z rs (p ∷ q ∷ qs) k
    go (inr k) = member-right z rs (p ∷ q ∷ qs) (inr (inr k))
member-between z rs p q qs (inr (inl e)) = member-right z rs (p ∷ q ∷ qs) (inl e)
member-between z rs p q qs (inr (inr (inl e))) = member-right z rs (p ∷ q ∷ qs) (inr (inl e))
member-between z rs p q qs (inr (inr (inr m))) = absurd m

-- a row of a bag is stored or built in
pub from-standing : (b : Bag) (z : Row) → Member z (standing b) → Member z (stored_rows b) ⊎ Member z built_ins
from-standing b z m = between-member z b.kept stdout stdout_ack b.offered m

pub in-standing : (b : Bag) (z : Row) → Member z (stored_rows b) ⊎ Member z built_ins → Member z (standing b)
in-standing b z m = member-between z b.kept stdout stdout_ack b.offered m

-- a row that another bag stores where this one does, stands there where it stands here
pub no-more : (b d : Bag) (z : Row) → (Member z (stored_rows b) → Member z (stored_rows d)) → Member z (standing b) → Member z (standing d)
no-more b d z f m = go (between-member z b.kept stdout stdout_ack b.offered m)
  where
    go : Member z (stored_rows b) ⊎ Member z built_ins → Member z (standing d)
    go (inl k) = member-between z d.kept stdout stdout_ack d.offered (inl (f k))
    go (inr k) = member-between z d.kept stdout stdout_ack d.offered (inr k)

-- what is left was there
pub left-there : (ns : List (List ℕ)) (rs : List Row) (z : Row) → Member z (without ns rs) → Member z rs
left-there ns [] z m = m
left-there ns (r ∷ rs) z m = go (left-there ns rs z) (is_one_of r.id ns) m
  where
    go : (Member z (without ns rs) → Member z rs) → (b : Bool) → Member z (cond b (without ns rs) (r ∷ without ns rs)) → Member z (r ∷ rs)
    go next true m = inr (next m)
    go next false (inl e) = inl e
    go next false (inr m) = inr (next m)

pub left-times : (x : List ℕ) (ns : List (List ℕ)) (rs : List Row) → times x (ids (without ns rs)) ≤ times x (ids rs)
left-times x ns [] = omega arith
left-times x ns (r ∷ rs) = go (is_one_of r.id ns) (left-times x ns rs)
  where
    go : (b : Bool) → times x (ids (without ns rs)) ≤ times x (ids rs) → times x (ids (cond b (without ns rs) (r ∷ without ns rs))) ≤ one_if (bytes_eq x r.id) + times x (ids rs)
    go true h = omega (arith, h)
    go false h = omega (arith, h)

-- rows that have none of these ids stay
pub none-leaves : (ns : List (List ℕ)) (rs : List Row) → ((z : Row) → Member z rs → is_one_of z.id ns ≡ false) → without ns rs ≡ rs
none-leaves ns [] h = refl
none-leaves ns (r ∷ rs) h = ap (λ b. cond b (without ns rs) (r ∷ without ns rs)) (h r (inl refl)) ∙ ap (λ l. r ∷ l) (none-leaves ns rs (λ z m. h z (inr m)))

-- the ids of rows are among all that is made
pub rows-times : (x : List ℕ) (ts : List Product) → times x (ids (rows_of ts)) ≤ times x (each digest ts)
rows-times x [] = omega arith
rows-times x (a_row r ∷ ts) = omega (arith, rows-times x ts)
rows-times x (a_fresh y ∷ ts) = omega (arith, rows-times x ts)

pub digests-more : (x : List ℕ) (ws : List Work) (w : Work) → times x (digests (ws ++ w ∷ [])) ≡ times x (digests ws) + times x (each digest (work_products w))
digests-more x [] w = times-append x (each digest (work_products w)) [] ∙ omega arith
digests-more x (v ∷ ws) w = omega (arith, times-append x (each digest (work_products v)) (digests (ws ++ w ∷ [])), times-append x (each digest (work_products v)) (digests ws), digests-more x ws w)
