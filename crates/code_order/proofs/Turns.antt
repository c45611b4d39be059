-- A loop that takes the items out of a list.
use Rattle.std.proofs.Common.{◌≡◌, List, [], ◌∷◌, ◌++◌, length, map, sym, ap, ◌∙◌, subst, All}
use Rattle.std.specs.Prelude.{Vec, vec_len, Option, Some, None}
use Rattle.std.specs.declared.alloc.Global.{Global}
use Rattle.std.specs.Iterator.{Yields}
use Rattle.std.specs.Vec.Iter.{into_iter_items, into_iter_len, into_iter_steps}
use Rattle.std.proofs.lemmas.List.{map-append}
use Rattle.std.proofs.lemmas.Iterator.Adapters.{YieldsList-from_vec}
use Rattle.std.proofs.lemmas.Iterator.Consumers.{YieldsList-turn, YieldsList-end}
use Rattle.code_order.proofs.Keys.{map-self}

module _ {X : Type 0} (v : Vec X Global) (s t u : _) (a : into_iter_items s ≡ v.items) (b : into_iter_len s ≡ vec_len v) (xs : List X) (y : Yields (into_iter_steps {X = X} {Z = Global}) s xs t) (r : Option X) where
  -- what holds of all items holds of the one that is taken
  pub all-at_turn : (P : X → Type 0) (x : X) → r ≡ Some x → into_iter_steps t r u → All P v.items → P x
  all-at_turn P x e f all =
      let turn = YieldsList-turn (YieldsList-from_vec v.items a (b ∙ v.ok.0)) xs t y r u x e f in
      subst P (sym turn.1) (all (length xs) x turn.0)

  -- where none is left, all were taken
  pub all-taken : r ≡ None → into_iter_steps t r u → xs ≡ v.items
  all-taken e f = sym (map-self xs) ∙ (YieldsList-end (YieldsList-from_vec v.items a (b ∙ v.ok.0)) xs t y r u e f).0

-- one more item on each side
pub put-mapped : {A B C : Type 0} (f : A → C) (h : B → C) (vs ws : List A) (xs : List B) (v : A) (x : B) → ws ≡ vs ++ v ∷ [] → f v ≡ h x → map f vs ≡ map h xs → map f ws ≡ map h (xs ++ x ∷ [])
put-mapped f h vs ws xs v x e same before =
    ap (map f) e ∙ map-append f vs (v ∷ []) ∙ ap (λ us. us ++ f v ∷ []) before ∙ ap (λ u. map h xs ++ u ∷ []) same ∙ sym (map-append h xs (x ∷ []))
