-- How two values that agree are seen, and the answers of operators on such.
use Rattle.std.proofs.Common.{◌≡◌, ℕ, Bool, List, [], ◌∷◌, refl, sym, subst}
use Rattle.std.specs.Prelude.{ℤ}
use Rattle.std.specs.List.{AllZip}
use Rattle.calculus.specs.Tree.{Label, bool, int, str, bytes, list, tuple, set, dict, Tree, node, Trees}
use Rattle.calculus.specs.Shape.{listed, held}
use Rattle.calculus.specs.Operators.{Seen, a_bool, an_int, a_text, some_bytes, a_list, a_tuple, a_set, a_map, other, seen_part, seen_parts, seen}
use Rattle.calculus.proofs.Keys.{equal_nodes}
use Rattle.process_laws.proofs.Twins.{a_process, a_part, a_pair, Twin, listed-twins, process_held}

-- what two values that agree are seen as
pub data Looks : Type 0 where
  bools : Bool → Looks
  ints : ℤ → Looks
  texts : List ℕ → Looks
  byte_lists : List ℕ → Looks
  lists : (xs ys : List Tree) → AllZip (Twin a_process) xs ys → Looks
  tuples : (xs ys : List Tree) → AllZip (Twin a_process) xs ys → Looks
  sets : (xs ys : List Tree) → AllZip (Twin a_process) xs ys → Looks
  maps : (xs ys : List Tree) → AllZip (Twin a_pair) xs ys → Looks
  others : Looks

abbrev pub left : Looks → Seen
left (bools x) = a_bool x
left (ints x) = an_int x
left (texts x) = a_text x
left (byte_lists x) = some_bytes x
left (lists xs ys h) = a_list xs
left (tuples xs ys h) = a_tuple xs
left (sets xs ys h) = a_set xs
left (maps xs ys h) = a_map xs
left others = other

abbrev pub right : Looks → Seen
right (bools x) = a_bool x
right (ints x) = an_int x
right (texts x) = a_text x
right (byte_lists x) = some_bytes x
right (lists xs ys h) = a_list ys
right (tuples xs ys h) = a_tuple ys
right (sets xs ys h) = a_set ys
right (maps xs ys h) = a_map ys
right others = other

-- two are seen so
pub record Looked (a b : Seen) : Type 0 where
  pub looks : Looks
  pub on_left : a ≡ left looks
  pub on_right : b ≡ right looks

by_label : (l : Label) (ts us : Trees) → Twin a_part (node l ts) (node l us) → Looked (seen_part (node l ts)) (seen_part (node l us))
by_label (bool x) ts us h = record { looks = bools x; on_left = refl; on_right = refl }
by_label (int x) ts us h = record { looks = ints x; on_left = refl; on_right = refl }
by_label (str x) ts us h = record { looks = texts x; on_left = refl; on_right = refl }
by_label (bytes x) ts us h = record { looks = byte_lists x; on_left = refl; on_right = refl }
by_label list ts us h = record { looks = lists (listed ts) (listed us) (listed-twins a_process ts (listed us) h.1); on_left = refl; on_right = refl }
by_label tuple ts us h = record { looks = tuples (listed ts) (listed us) (listed-twins a_process ts (listed us) h.1); on_left = refl; on_right = refl }
by_label set ts us h = record { looks = sets (listed ts) (listed us) (listed-twins a_process ts (listed us) h.1); on_left = refl; on_right = refl }
by_label dict ts us h = record { looks = maps (listed ts) (listed us) (listed-twins a_pair ts (listed us) h.1); on_left = refl; on_right = refl }
by_label _ ts us h = record { looks = others; on_left = refl; on_right = refl }

by_part : (t u : Tree) → Twin a_part t u → Looked (seen_part t) (seen_part u)
by_part (node l ts) (node m us) h =
    let e = (equal_nodes l m ts us h.0).0 in
    subst (λ (x : Label). Looked (seen_part (node l ts)) (seen_part (node x us))) e
    (by_label l ts us (subst (λ (x : Label). Twin a_part (node l ts) (node x us)) (sym e) h))

by_parts : (ts us : List Tree) → AllZip (Twin a_part) ts us → Looked (seen_parts ts) (seen_parts us)
by_parts [] [] h = record { looks = others; on_left = refl; on_right = refl }
by_parts [] (u ∷ us) h = absurd h
by_parts (t ∷ ts) [] h = absurd h
by_parts (t ∷ []) (u ∷ []) h = by_part t u h.0
by_parts (t ∷ []) (u ∷ w ∷ us) h = absurd h.1
by_parts (t ∷ v ∷ ts) (u ∷ []) h = absurd h.1
by_parts (t ∷ v ∷ ts) (u ∷ w ∷ us) h = record { looks = others; on_left = refl; on_right = refl }

pub looked : (t u : Tree) → Twin a_process t u → Looked (seen t) (seen u)
looked t u h = by_parts (held t) (held u) (process_held t u h)
