-- The rows that a step leaves.
use Rattle.std.proofs.Common.{◌≡◌, ◌≤◌, ℕ, ◌+◌, Bool, true, false, ◌||◌, cond, List, [], ◌∷◌, ◌++◌, refl, ap, sym, ◌∙◌, subst, arith, append_assoc}
use Rattle.std.specs.Str.{bytes_eq}
use Rattle.calculus.specs.declared.plain.Kind.{Kind}
use Rattle.calculus.specs.Rows.{Row}
use Rattle.calculus.specs.Steps.{Datum, stays, peeks}
use Rattle.events.proofs.Counts.{ids, times, one_if, bytes_same, member-times}
use Rattle.events.specs.Found.{leaving_rows, leaving_sends}
use Rattle.events.proofs.Meetings.{Joined}
use Rattle.events.specs.Found.{without}
use Rattle.events.proofs.Leaving.{without-append}
use Rattle.std.specs.Prelude.{IsPermutation}
use Rattle.calculus.proofs.Members.{Member, Every}
use Rattle.calculus.proofs.Permutations.{all_over, moved_after}

-- rows that leave are rows that met
leaving-times : (x : List ℕ) (k : Kind) (qs : List Row) (ds : List Datum) → times x (ids (leaving_sends k qs ds)) ≤ times x (ids qs)
leaving-times x k [] ds = omega arith
leaving-times x k (q ∷ qs) [] = omega arith
leaving-times x k (q ∷ qs) (d ∷ ds) = go (peeks k || d.persistent) (leaving-times x k qs ds)
  where
    go : (b : Bool) → times x (ids (leaving_sends k qs ds)) ≤ times x (ids qs) → times x (ids (cond b (leaving_sends k qs ds) (q ∷ leaving_sends k qs ds))) ≤ one_if (bytes_eq x q.id) + times x (ids qs)
    go true h = omega (arith, h)
    go false h = omega (arith, h)

pub all-leaving-times : (x : List ℕ) (q : Joined) (qs : List Row) → times x (ids (leaving_rows q.receiver.kind q.sends qs)) ≤ times x (ids qs)
all-leaving-times x q [] = omega arith
all-leaving-times x q (r ∷ qs) = go (stays q.receiver.kind) (leaving-times x q.receiver.kind qs q.sends)
  where
    go : (b : Bool) → times x (ids (leaving_sends q.receiver.kind qs q.sends)) ≤ times x (ids qs) → times x (ids (cond b [] (r ∷ []) ++ leaving_sends q.receiver.kind qs q.sends)) ≤ one_if (bytes_eq x r.id) + times x (ids qs)
    go true h = omega (arith, h)
    go false h = omega (arith, h)

-- an id of rows of a list is one of the list's
pub among-times : (x : List ℕ) (rs qs : List Row) → Every (λ r. Member r rs) qs → 1 ≤ times x (ids qs) → 1 ≤ times x (ids rs)
among-times x rs [] h k = absurd (omega (arith, k))
among-times x rs (q ∷ qs) h k = go (among-times x rs qs h.1) (bytes_eq x q.id) refl k
  where
    go : (1 ≤ times x (ids qs) → 1 ≤ times x (ids rs)) → (b : Bool) → bytes_eq x q.id ≡ b → 1 ≤ one_if b + times x (ids qs) → 1 ≤ times x (ids rs)
    go next true d k = subst (λ y. 1 ≤ times y (ids rs)) (sym (bytes_same x q.id d)) (member-times q rs h.0)
    go next false d k = next (omega (arith, k))

-- rows in which what leaves and what is new is told
module _ (store before after new : List Row) (r : Row) (ns : List (List ℕ)) where
  -- the rows after a step, in order
  abbrev pub Rest : List Row
  Rest = without ns store ++ (before ++ ((without ns (r ∷ []) ++ new) ++ after))

  told : without ns before ≡ before → without ns after ≡ after → without ns (store ++ (before ++ r ∷ after)) ≡ without ns store ++ (before ++ (without ns (r ∷ []) ++ after))
  told b a = without-append ns store (before ++ r ∷ after)
      ∙ ap (λ l. without ns store ++ l) (without-append ns before (r ∷ after) ∙ ap (λ l. l ++ without ns (r ∷ after)) b ∙ ap (λ l. before ++ l) (without-append ns (r ∷ []) after ∙ ap (λ l. without ns (r ∷ []) ++ l) a))

  -- what is new comes to the end
  pub rest-moved : without ns before ≡ before → without ns after ≡ after → IsPermutation (without ns (store ++ (before ++ r ∷ after)) ++ new) Rest
  rest-moved b a = subst (λ l. IsPermutation (l ++ new) Rest) (sym (told b a))
      (subst (λ l. IsPermutation l Rest) (sym (append_assoc (without ns store) (before ++ (without ns (r ∷ []) ++ after)) new))
      (moved_after (without ns store) (subst (λ l. IsPermutation l (before ++ ((without ns (r ∷ []) ++ new) ++ after))) (sym (append_assoc before (without ns (r ∷ []) ++ after) new))
      (moved_after before (subst (λ l. IsPermutation l ((without ns (r ∷ []) ++ new) ++ after)) (sym (append_assoc (without ns (r ∷ [])) after new))
      (subst (λ l. IsPermutation (without ns (r ∷ []) ++ (after ++ new)) l) (sym (append_assoc (without ns (r ∷ [])) new after)) (moved_after (without ns (r ∷ [])) (all_over after new))))))))
