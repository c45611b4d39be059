-- What the filed rows are counted for, where one comes or goes.
use Rattle.std.proofs.Common.{◌≡◌, ℕ, ◌+◌, ◌-◌, Bool, true, false, cond, ◌||◌, List, [], ◌∷◌, map as each, refl, sym, ◌∙◌, ap, arith}
use Rattle.std.specs.Prelude.{Some}
use Rattle.std.specs.BTreeMap.{insert_entry}
use Rattle.std.specs.Map.{lookup, remove_entry}
use Rattle.std.specs.Str.{bytes_eq}
use Rattle.std.specs.Ordering.{match_ordering}
use Rattle.std.specs.declared.cmp.Ordering.TheVariants.{Less, Equal, Greater}
use Rattle.std.proofs.lemmas.Map.Lookups.{exact_bytes}
use Rattle.calculus.specs.Steps.{is_one_of}
use Rattle.events.proofs.Counts.{same_bytes}
use Rattle.shard_counts.specs.Counts.{added}
use Rattle.row_table.specs.declared.table.Filed.{Filed}
use Rattle.row_table.specs.Groups.{is_key}
use Rattle.row_table.specs.Tables.{rows_in, total}
use Rattle.row_table.proofs.Changing.{by_id}
use Rattle.row_table.proofs.Filing.{AreUnderIds}

-- what one row is counted for
abbrev pub of_one : Filed → List ℕ → ℕ → ℕ
of_one f k s = added f.keys.items f.counted k s

turned : (a b c : ℕ) → c + (a + b) ≡ a + b + c
turned a b c = omega arith

kept : (a t u c : ℕ) → u ≡ t + c → a + u ≡ a + t + c
kept a t u c e = omega (arith, e)

gone : (a t c : ℕ) → a ≡ c → a + t ≡ t + c
gone a t c e = omega (arith, e)

still : (a t u c : ℕ) → t ≡ u + c → a + t ≡ a + u + c
still a t u c e = omega (arith, e)

-- one more row, whose id none has
pub total-put : (es : List (List ℕ × Filed)) (x : List ℕ) (f : Filed) (k : List ℕ) (s : ℕ) → AreUnderIds es → is_one_of x (each (λ r. r.id) (rows_in es)) ≡ false
    → total (insert_entry by_id es x f) k s ≡ total es k s + of_one f k s
total-put [] x f k s u n = turned 0 0 (of_one f k s)
total-put (e ∷ es) x f k s u n =
    elim (by_id x e.0) as (λ o. by_id x e.0 ≡ o → total (match_ordering o ((x, f) ∷ e ∷ es) ((e.0, f) ∷ es) (e ∷ insert_entry by_id es x f)) k s ≡ of_one e.1 k s + total es k s + of_one f k s) [
      | Less ↦ λ i. turned (of_one e.1 k s) (total es k s) (of_one f k s)
      | Equal ↦ λ i. absurd (is-there (sym (ap (λ b. b || is_one_of x (each (λ r. r.id) (rows_in es))) (same_bytes x e.1.row.id (exact_bytes _ _ i ∙ u.0))) ∙ n))
      | Greater ↦ λ i. kept (of_one e.1 k s) (total es k s) (total (insert_entry by_id es x f) k s) (of_one f k s) (total-put es x f k s u.1 (not-later (bytes_eq x e.1.row.id) n))
    ] refl
  where
    is-there : true ≡ false → ⊥
    is-there z = cc z

    not-later : (b : Bool) {c : Bool} → b || c ≡ false → c ≡ false
    not-later true z = cc z
    not-later false z = z

-- without the row of an id
pub total-removed : (es : List (List ℕ × Filed)) (x : List ℕ) (f : Filed) (k : List ℕ) (s : ℕ) → lookup (is_key x) es ≡ Some f → total es k s ≡ total (remove_entry (is_key x) es) k s + of_one f k s
total-removed [] x f k s e = cc e
total-removed (e ∷ es) x f k s h = go (is_key x e.0) (total-removed es x f k s) h
  where
    go : (b : Bool) → (lookup (is_key x) es ≡ Some f → total es k s ≡ total (remove_entry (is_key x) es) k s + of_one f k s) → cond b (Some e.1) (lookup (is_key x) es) ≡ Some f
        → of_one e.1 k s + total es k s ≡ total (cond b es (e ∷ remove_entry (is_key x) es)) k s + of_one f k s
    go true next g = let same : e.1 ≡ f = cc g in gone (of_one e.1 k s) (total es k s) (of_one f k s) (ap (λ (z : Filed). of_one z k s) same)
    go false next g = still (of_one e.1 k s) (total es k s) (total (remove_entry (is_key x) es) k s) (of_one f k s) (next g)

pub taken : (old counts kept one : ℕ) → counts ≡ old → old ≡ kept + one → (counts' : ℕ) → counts' ≡ counts - one → counts' ≡ kept
taken old counts kept one e f counts' g = omega (arith, e, f, g)

pub gained : (old counts now one : ℕ) → counts ≡ old → now ≡ old + one → (counts' : ℕ) → counts' ≡ counts + one → counts' ≡ now
gained old counts now one e f counts' g = omega (arith, e, f, g)
