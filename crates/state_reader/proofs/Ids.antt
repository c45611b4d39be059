-- Sets of ids.
use Rattle.std.proofs.Common.{◌≡◌, ℕ, Bool, true, false, cond, ◌||◌, List, ◌++◌, ◌∷◌, [], refl, sym, ◌∙◌, ap}
use Rattle.std.specs.Ordering.{is_eq}
use Rattle.std.specs.Str.{bytes_eq}
use Rattle.std.specs.BTreeSet.{BTreeSet, contains}
use Rattle.std.proofs.lemmas.Map.Text.{is_eq-slice_cmp}
use Rattle.calculus.specs.Order.{byte_cmp}
use Rattle.calculus.specs.Steps.{is_one_of}
use Rattle.events.proofs.Groups.{same, equal}
use Rattle.state_reader.specs.Reading.{AreIds}
use Rattle.state_reader.proofs.Placing.{one-of-push}

turned : (x y : List ℕ) → bytes_eq x y ≡ bytes_eq y x
turned x y = go (bytes_eq x y) refl (bytes_eq y x) refl
  where
    go : (b : Bool) → bytes_eq x y ≡ b → (d : Bool) → bytes_eq y x ≡ d → b ≡ d
    go true e true f = refl
    go false e false f = refl
    go true e false f = sym (equal y x (sym (same x y e))) ∙ f
    go false e true f = sym e ∙ equal x y (sym (same y x f))

either : (b d : Bool) → cond b true d ≡ (d || b)
either true true = refl
either true false = refl
either false true = refl
either false false = refl

-- a set with one more id
pub id-added : (old new : BTreeSet (List ℕ)) (z : List ℕ) (xs : List (List ℕ)) → AreIds old xs → ((q : List ℕ) → contains byte_cmp new q ≡ cond (is_eq (byte_cmp z q)) true (contains byte_cmp old q)) → AreIds new (xs ++ z ∷ [])
id-added old new z xs h u x =
    u x ∙ ap (λ b. cond (is_eq (byte_cmp z x)) true b) (h x) ∙ either (is_eq (byte_cmp z x)) (is_one_of x xs)
    ∙ ap (λ b. is_one_of x xs || b) (is_eq-slice_cmp z x ∙ turned z x) ∙ sym (one-of-push x z xs)
