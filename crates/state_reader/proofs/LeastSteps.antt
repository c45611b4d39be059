-- The text of rows allows one least step.
use Rattle.std.proofs.Common.{◌≡◌, ◌<◌, ◌^◌, ℕ, true, false, Bool, cond, List, [], ◌∷◌, ◌++◌, length, map as each, refl, ap, sym, ◌∙◌, subst}
use Rattle.std.specs.Prelude.{IsSome, Option, Some, None, is_none}
use Rattle.std.specs.Str.{bytes_eq}
use Rattle.calculus.specs.Candidates.{ids_up_to, IsLeastAllowed}
use Rattle.calculus.specs.Log.{Step}
use Rattle.calculus.specs.Order.{up_to}
use Rattle.calculus.specs.Root.{root}
use Rattle.calculus.specs.Rows.{Row, row_code, stdout, stdout_ack}
use Rattle.calculus.specs.Steps.{differ, meeting}
use Rattle.calculus.proofs.Counting.{bytes_equal, bytes_self}
use Rattle.calculus.proofs.Ordered.{up_to_both}
use Rattle.events.specs.Events.{first_ids, stored}
use Rattle.events.specs.States.{state_text}
use Rattle.checkpoint.specs.Kept.{AreInOrder}
use Rattle.state_reader.specs.Files.{IsLeastOf, IsReducible}
use Rattle.state_reader.proofs.Exact.{text-laid}
use Rattle.state_reader.proofs.Meetings.{meeting-same}
use Rattle.state_reader.proofs.OneFault.{laid-same}
use Rattle.state_reader.proofs.Same.{each-append, heads, ids-same}

apart : false ≡ true → ⊥
apart e = cc

turned : (x y : List ℕ) → bytes_eq x y ≡ true → bytes_eq y x ≡ true
turned x y p = subst (λ z. bytes_eq y z ≡ true) (sym (bytes_equal x y p)) (bytes_self y)

ids-both : (xs ys : List (List ℕ)) → ids_up_to xs ys ≡ true → ids_up_to ys xs ≡ true → xs ≡ ys
ids-both [] [] h k = refl
ids-both [] (y ∷ ys) h k = absurd (apart k)
ids-both (x ∷ xs) [] h k = absurd (apart h)
ids-both (x ∷ xs) (y ∷ ys) h k = on (λ s t. ids-both xs ys s t) (bytes_eq x y) (bytes_eq y x) refl refl h k
  where
    on : (ids_up_to xs ys ≡ true → ids_up_to ys xs ≡ true → xs ≡ ys) → (a b : Bool) → bytes_eq x y ≡ a → bytes_eq y x ≡ b → cond a (ids_up_to xs ys) (up_to x y) ≡ true → cond b (ids_up_to ys xs) (up_to y x) ≡ true → x ∷ xs ≡ y ∷ ys
    on next true true p q s t = ap (λ z. z ∷ xs) (bytes_equal x y p) ∙ ap (λ z. y ∷ z) (next s t)
    on next true false p q s t = absurd (apart (sym q ∙ turned x y p))
    on next false true p q s t = absurd (apart (sym p ∙ turned y x q))
    on next false false p q s t = absurd (apart (sym p ∙ subst (λ z. bytes_eq x z ≡ true) (up_to_both x y s t) (bytes_self x)))

some-moved : {A : Type 0} (x y : Option A) → is_none x ≡ is_none y → IsSome x → IsSome y
some-moved None y e h = absurd (apart h)
some-moved (Some a) None e h = absurd (apart e)
some-moved (Some a) (Some b) e h = refl

-- the least step of rows is no greater than that of rows with the same codes
least-up : (rs qs : List Row) (s u : Step) → AreInOrder rs → AreInOrder qs → each row_code rs ≡ each row_code qs → IsLeastAllowed (stored rs) [] s → IsLeastAllowed (stored qs) [] u → ids_up_to (s.receiver ∷ s.data_ids) (u.receiver ∷ u.data_ids) ≡ true
least-up rs qs s u h k e a b = a.least u (some-moved (meeting (stored qs) [] u) (meeting (stored rs) [] u) (meeting-same u qs rs k.storable h.storable (sym e)) b.allowed)

-- rows with the same codes as these differ in their ids, if these do
pub ids-differ : (rs qs : List Row) → AreInOrder rs → AreInOrder qs → each row_code rs ≡ each row_code qs → differ (first_ids rs) ≡ true → differ (first_ids qs) ≡ true
ids-differ rs qs h k e d =
    let built = stdout ∷ stdout_ack ∷ [] in
    let same : first_ids rs ≡ first_ids qs =
    each-append (λ (x : Row). x.id) rs built ∙ ap (λ z. z ++ each (λ (x : Row). x.id) built) (ids-same rs qs h.storable k.storable e) ∙ sym (each-append (λ (x : Row). x.id) qs built)
    in
    subst (λ xs. differ xs ≡ true) same d

least-once : (rs qs : List Row) (c d : List ℕ) (xs ys : List (List ℕ)) → AreInOrder rs → AreInOrder qs → each row_code rs ≡ each row_code qs → IsLeastOf rs c xs → IsLeastOf qs d ys → (c ≡ d) × (xs ≡ ys)
least-once rs qs c d xs ys h k e a b =
    let m = heads (ids-both (a.0.receiver ∷ a.0.data_ids) (b.0.receiver ∷ b.0.data_ids) (least-up rs qs a.0 b.0 h k e a.1 b.1) (least-up qs rs b.0 a.0 k h (sym e) b.1 a.1)) in
    (a.2 ∙ m.0 ∙ sym b.2, a.3 ∙ m.1 ∙ sym b.3)

-- the text of rows whose ids differ is blamed for one step
pub step-once : (bs : List ℕ) (rows : List Row) → length bs < 2 ^ 32 → bs ≡ state_text rows → AreInOrder rows → differ (first_ids rows) ≡ true
    → (c d : List ℕ) (xs ys : List (List ℕ)) → IsReducible bs c xs → IsReducible bs d ys → (c ≡ d) × (xs ≡ ys)
step-once bs rows few is h apart c d xs ys r q =
    let b = text-laid bs rows is h few in
    let e = (laid-same bs few (root rows) (root r.rows) rows r.rows b (text-laid bs r.rows r.is r.order few)).1 in
    let f = (laid-same bs few (root rows) (root q.rows) rows q.rows b (text-laid bs q.rows q.is q.order few)).1 in
    least-once r.rows q.rows c d xs ys r.order q.order (sym e ∙ f) (r.step (ids-differ rows r.rows h r.order e apart)) (q.step (ids-differ rows q.rows h q.order f apart))
