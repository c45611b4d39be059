-- The least allowed step, as the candidates show it.
use Rattle.std.proofs.Common.{◌≡◌, Bool, true, false, ◌&&◌, ◌||◌, List, [], ◌∷◌, refl, sym, subst, inl, inr}
use Rattle.std.specs.Prelude.{Option, Some, None, is_none, IsSome}
use Rattle.calculus.proofs.Members.{Member}
use Rattle.calculus.specs.Log.{Step}
use Rattle.calculus.specs.Steps.{Bag, Meeting, meeting}
use Rattle.calculus.specs.Candidates.{ids_up_to, IsLeastAllowed, candidates}
use Rattle.calculus.proofs.Candidates.{allowed-among}
use Rattle.replays.specs.Replays.{}

-- whether each of these steps that is allowed is no less than s
abbrev pub none_less : Bag → List Step → Step → List Step → Bool
none_less b made s [] = true
none_less b made s (u ∷ us) = (is_none (meeting b made u) || ids_up_to (s.receiver ∷ s.data_ids) (u.receiver ∷ u.data_ids)) && none_less b made s us

both : (x y : Bool) → x && y ≡ true → (x ≡ true) × (y ≡ true)
both true y e = (refl, e)
both false y e = cc

other : (o : Option Meeting) (y : Bool) → is_none o || y ≡ true → IsSome o → y ≡ true
other None y e h = cc
other (Some m) y e h = e

no-less : (b : Bag) (made : List Step) (s u : Step) (us : List Step) → Member u us → none_less b made s us ≡ true → IsSome (meeting b made u) → ids_up_to (s.receiver ∷ s.data_ids) (u.receiver ∷ u.data_ids) ≡ true
no-less b made s u [] m e h = absurd m
no-less b made s u (v ∷ us) (inl f) e h =
    other (meeting b made u) (ids_up_to (s.receiver ∷ s.data_ids) (u.receiver ∷ u.data_ids))
    (subst (λ w. is_none (meeting b made w) || ids_up_to (s.receiver ∷ s.data_ids) (w.receiver ∷ w.data_ids) ≡ true) (sym f) (both _ _ e).0) h
no-less b made s u (v ∷ us) (inr m) e h = no-less b made s u us m (both _ _ e).1 h

-- an allowed step that no allowed candidate is below is the least
pub least-among : (b : Bag) (made : List Step) (s : Step) → IsSome (meeting b made s) → none_less b made s (candidates b made) ≡ true → IsLeastAllowed b made s
least-among b made s h e = record { allowed = h; least = λ u k. go u (meeting b made u) refl k }
  where
    go : (u : Step) (o : Option Meeting) → meeting b made u ≡ o → IsSome (meeting b made u) → ids_up_to (s.receiver ∷ s.data_ids) (u.receiver ∷ u.data_ids) ≡ true
    go u None f k = cc (f, k)
    go u (Some m) f k = no-less b made s u (candidates b made) (allowed-among b made u m f) e k
