-- How often a step was made before.
use Rattle.std.proofs.Common.{◌≡◌, ℕ, ◌+◌, ◌-◌, Bool, true, false, ◌&&◌, cond, List, [], ◌∷◌, ◌++◌, length, map as each, refl, sym, ap, subst, ◌∙◌, arith, length-append}
use Rattle.std.specs.Prelude.{Option, Some, None, count_by, MatchBool}
use Rattle.std.specs.List.{slice_get}
use Rattle.std.specs.Str.{bytes_eq}
use Rattle.std.specs.Cmp.Lexicographic.{pointwise}
use Rattle.std.proofs.lemmas.List.Sums.{sum_by-append, sum_by-cons}
use Rattle.calculus.specs.declared.ids.Digest.{Digest}
use Rattle.calculus.specs.Log.{Step}
use Rattle.calculus.specs.Steps.{same_meeting, same_ids}
use Rattle.events.proofs.Counts.{same_bytes, bytes_same}
use Rattle.found_rows.specs.declared.found.Found.{Found}
use Rattle.found_rows.specs.Making.{step_with, times_made}
use Rattle.events.specs.Entries.{Making, steps_in}
use Rattle.play_hub.specs.declared.entry.MadeStep.{MadeStep}
use Rattle.play_hub.specs.declared.entry.PlayEntry.{PlayEntry}
use Rattle.play_hub.specs.Values.{making_of, entry_of}
use Rattle.play_draws.specs.Making.{steps_drawn, like_in, is_like, IsAgain, IsRightNumber}
use Rattle.play_draws.proofs.Lists.{last-at}

both-true : (a b : Bool) → a && b ≡ true → (a ≡ true) × (b ≡ true)
both-true true b e = (refl, e)
both-true false b e = cc e

-- the ids of digests
pub ids-equal : (xs ys : List Digest) → pointwise (λ (a b : Digest). bytes_eq a.0 b.0) xs ys ≡ same_ids (each (λ d. d.0) xs) (each (λ d. d.0) ys)
ids-equal [] [] = refl
ids-equal [] (y ∷ ys) = refl
ids-equal (x ∷ xs) [] = refl
ids-equal (x ∷ xs) (y ∷ ys) = ap (λ b. bytes_eq x.0 y.0 && b) (ids-equal xs ys)

same-ids-are : (xs ys : List (List ℕ)) → same_ids xs ys ≡ true → xs ≡ ys
same-ids-are [] [] e = refl
same-ids-are [] (y ∷ ys) e = cc e
same-ids-are (x ∷ xs) [] e = cc e
same-ids-are (x ∷ xs) (y ∷ ys) e =
    let b = both-true (bytes_eq x y) (same_ids xs ys) e in
    ap (λ z. z ∷ xs) (bytes_same x y b.0) ∙ ap (λ zs. y ∷ zs) (same-ids-are xs ys b.1)

-- steps with the same receiver and data are counted alike
pub counted-alike : (s u : Step) (ss : List Step) → same_meeting s u ≡ true → count_by (same_meeting u) ss ≡ count_by (same_meeting s) ss
counted-alike s u ss e =
    let b = both-true (bytes_eq s.receiver u.receiver) (same_ids s.data_ids u.data_ids) e in
    ap (λ r. count_by (λ z. bytes_eq r z.receiver && same_ids u.data_ids z.data_ids) ss) (sym (bytes_same s.receiver u.receiver b.0))
    ∙ ap (λ ds. count_by (λ z. bytes_eq s.receiver z.receiver && same_ids ds z.data_ids) ss) (sym (same-ids-are s.data_ids u.data_ids b.1))

-- the steps of entries and more
pub steps-both : (xs ys : List (ℕ × PlayEntry)) → steps_drawn (xs ++ ys) ≡ steps_drawn xs ++ steps_drawn ys
steps-both [] ys = refl
steps-both (x ∷ xs) ys = go (entry_of x.1).entry.making (steps-both xs ys)
  where
    go : (m : Option Making) → steps_drawn (xs ++ ys) ≡ steps_drawn xs ++ steps_drawn ys → steps_in m ++ steps_drawn (xs ++ ys) ≡ (steps_in m ++ steps_drawn xs) ++ steps_drawn ys
    go None e = e
    go (Some a) e = ap (λ l. a.step ∷ l) e

-- one more entry, counted
pub times-more : (f : Found) (x : ℕ × PlayEntry) (xs : List (ℕ × PlayEntry)) → times_made f (steps_drawn (x ∷ xs)) ≡ cond (is_like f x.1) 1 0 + times_made f (steps_drawn xs)
times-more f x xs = go (entry_of x.1).entry.making
  where
    go : (m : Option Making) → count_by (same_meeting (step_with f 0)) (steps_in m ++ steps_drawn xs) ≡ cond (like_in f m) 1 0 + times_made f (steps_drawn xs)
    go None = omega arith
    go (Some a) = sum_by-cons (λ s. cond (same_meeting (step_with f 0) s) 1 0) a.step (steps_drawn xs)

pub times-last : (f : Found) (xs : List (ℕ × PlayEntry)) (x : ℕ × PlayEntry) → is_like f x.1 ≡ true → times_made f (steps_drawn (xs ++ x ∷ [])) ≡ times_made f (steps_drawn xs) + 1
times-last f xs x e =
    ap (count_by (same_meeting (step_with f 0))) (steps-both xs (x ∷ []))
    ∙ sum_by-append (λ s. cond (same_meeting (step_with f 0) s) 1 0) (steps_drawn xs) (steps_drawn (x ∷ []))
    ∙ ap (λ n. times_made f (steps_drawn xs) + n) (times-more f x [] ∙ ap (λ b. cond b 1 0 + 0) e)

-- the number that is told of the last entry
pub again-right : (took : List (ℕ × PlayEntry)) (f : Found) (k : ℕ) (p : ℕ × PlayEntry) → IsAgain took (Some k) → slice_get took (length took - 1) ≡ Some p → is_like f p.1 ≡ true → k ≡ times_made f (steps_drawn took)
again-right took f k p (before, last, e, n) g like = n f (ap (λ (q : ℕ × PlayEntry). is_like f q.1) (sym same) ∙ like)
  where
    place : length took - 1 ≡ length before
    place = omega (arith, ap length e, length-append before (last ∷ []))

    both : Some p ≡ Some last
    both = sym g ∙ ap (slice_get took) place ∙ ap (λ l. slice_get l (length before)) e ∙ last-at before last

    same : p ≡ last
    same = cc both

pub right-lasting : (made : List Step) (f : Found) (n : ℕ) → f.lasting ≡ true → n ≡ times_made f made → IsRightNumber made f n
right-lasting made f n l e = record { counted = λ t. e; none = λ m. absurd (no (sym l ∙ m)) }
  where
    no : true ≡ false → ⊥
    no z = cc z

-- after one more entry of a step by which nothing left
pub again-next : (took : List (ℕ × PlayEntry)) (f : Found) (m : MadeStep) (n : ℕ) (again : Option ℕ) → IsRightNumber (steps_drawn took) f n → (making_of m).step ≡ step_with f n → MatchBool f.lasting (again ≡ Some (n + 1)) (again ≡ None)
    → (number : ℕ) (e : PlayEntry) → e.made ≡ Some m → IsAgain (took ++ (number, e) ∷ []) again
again-next took f m n again right step b number e made = go f.lasting refl b
  where
    told : (g : Found) → f.lasting ≡ true → is_like g e ≡ true → n + 1 ≡ times_made g (steps_drawn (took ++ (number, e) ∷ []))
    told g l like = sym (times-last g took (number, e) like ∙ ap (λ k. k + 1) (counted-alike (step_with f 0) (step_with g 0) (steps_drawn took) alike ∙ sym (right.counted l)))
      where
        here : same_meeting (step_with g 0) (step_with f n) ≡ true
        here = subst (λ s. same_meeting (step_with g 0) s ≡ true) step (sym (ap (λ (o : Option MadeStep). like_in g (entry_of (record { operation = e.operation; made = o; touched = e.touched })).entry.making) made) ∙ like)

        alike : same_meeting (step_with f 0) (step_with g 0) ≡ true
        alike = turned (step_with g 0) (step_with f n) here
          where
            turned : (s u : Step) → same_meeting s u ≡ true → bytes_eq u.receiver s.receiver && same_ids u.data_ids s.data_ids ≡ true
            turned s u q =
                let k = both-true (bytes_eq s.receiver u.receiver) (same_ids s.data_ids u.data_ids) q in
                cc (same_bytes u.receiver s.receiver (sym (bytes_same s.receiver u.receiver k.0)), subst (λ (l : List (List ℕ)). same_ids u.data_ids l ≡ true) (sym (same-ids-are s.data_ids u.data_ids k.1)) (self-ids u.data_ids))
              where
                self-ids : (xs : List (List ℕ)) → same_ids xs xs ≡ true
                self-ids [] = refl
                self-ids (x ∷ xs) = cc (same_bytes x x refl, self-ids xs)

    go : (c : Bool) → f.lasting ≡ c → MatchBool c (again ≡ Some (n + 1)) (again ≡ None) → IsAgain (took ++ (number, e) ∷ []) again
    go true l h = subst (IsAgain (took ++ (number, e) ∷ [])) (sym h) (took, (number, e), refl, λ g like. told g l like)
    go false l h = subst (IsAgain (took ++ (number, e) ∷ [])) (sym h) tt
