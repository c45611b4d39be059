-- Texts in a row, with one between each two.
use Rattle.std.proofs.Common.{◌≡◌, List, [], ◌∷◌, ◌++◌, map, refl, sym, ◌∙◌, ap}
use Rattle.std.specs.List.{join_by}
use Rattle.std.proofs.lemmas.List.Folds.{flat_map-map}

-- members that are joined by their texts are their joined texts
join_by-map : {X A : Type 0} (f : X → List A) (sep : List A) (xs : List X) → join_by f sep xs ≡ join_by (λ (y : List A). y) sep (map f xs)
join_by-map f sep [] = refl
join_by-map f sep (x ∷ xs) = ap (λ l. f x ++ l) (sym (flat_map-map (λ y. sep ++ y) f xs))

-- members with the same texts are joined to the same text
pub same_joined : {X Y A : Type 0} (f : X → List A) (g : Y → List A) (sep : List A) (xs : List X) (ys : List Y) → map f xs ≡ map g ys → join_by f sep xs ≡ join_by g sep ys
same_joined f g sep xs ys e = join_by-map f sep xs ∙ (ap (λ l. join_by (λ y. y) sep l) e ∙ sym (join_by-map g sep ys))
