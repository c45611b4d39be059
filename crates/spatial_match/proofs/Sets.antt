-- Matches of sets, maps and rows, from what is found one after another.
use Rattle.std.proofs.Common.{◌≡◌, ℕ, ◌+◌, ◌<◌, ◌≤◌, false, List, [], ◌∷◌, ◌++◌, length, drop, get_or, refl, sym, ap, ◌∙◌, add-one, append_assoc}
use Rattle.std.specs.Prelude.{Option, Some, None, flat_map}
use Rattle.std.specs.declared.alloc.Global.{Global}
use Rattle.std.specs.declared.vec.Vec.{Vec}
use Rattle.std.proofs.Math.Seq.{drop-cons}
use Rattle.std.proofs.lemmas.List.{drop_all}
use Rattle.calculus.specs.declared.plain.TermRest.{TermRest}
use Rattle.calculus.specs.declared.plain.TermRest.TheVariants as rests
use Rattle.calculus.specs.Tree.{Tree, par}
use Rattle.calculus.specs.Shape.{leaf}
use Rattle.calculus.specs.Normal.{ascending}
use Rattle.calculus.specs.Matching.{Bindings, Member, Choice, both_of, one_if, first_of_all, ways, rest_match, members_match, items_match, first_items_match}
use Rattle.spatial_match.specs.Search.{member_at}
use Rattle.match_targets.specs.Found.{may_rest, IsFirst, IsFirstMembers}
use Rattle.spatial_match.proofs.Firsts.{both_first, first-both, none_gives, some_gives}
use Rattle.spatial_match.proofs.Rows.{drop-at}

module _ (r : TermRest) (made : List Tree → Tree) where
  abbrev of_way : Choice → List Bindings
  of_way w = both_of (flat_map (λ b. b) w.0 ∷ []) (rest_match r made w.1)

of_no_way : (r : TermRest) (made : List Tree → Tree) (w : Choice) → may_rest r w.1 ≡ false → of_way r made w ≡ []
of_no_way rests.No made w h = ap (λ b. both_of (flat_map (λ (x : Bindings). x) w.0 ∷ []) (one_if b)) h
of_no_way rests.Var made w h = cc
of_no_way rests.Wild made w h = cc

module _ (r : TermRest) (made : List Tree → Tree) (ms : List Member) (ts : List Tree) (e : ascending ts ≡ ts) where
  here : members_match ms r made ts ≡ flat_map (of_way r made) (ways ms ts)
  here = ap (λ us. flat_map (of_way r made) (ways ms us)) e

  -- what the search for members finds is the first match of a set or map
  pub members-first : (o : Option (Vec Tree Global)) → IsFirstMembers r made (ways ms ts) o → IsFirst (members_match ms r made ts) o
  members-first None h = ap first_of_all (here ∙ none_gives (may_rest r) (of_way r made) (of_no_way r made) (ways ms ts) h)
  members-first (Some v) h =
      let flat = flat_map (λ (b : Bindings). b) h.bs in
      let one = first-both (flat ∷ []) (rest_match r made h.left) ∙ ap (both_first (Some flat)) h.last in
      ap first_of_all here ∙ some_gives (may_rest r) (of_way r made) (of_no_way r made) (ways ms ts) (h.bs, h.left) (flat ++ h.x) h.first one ∙ ap (λ x. Some x) (sym h.is)

-- what is found of a row so far, and what the rest gives
module _ (r : TermRest) (made : List Tree → Tree) (ms : List Member) (ts : List Tree) where
  abbrev pub Reaches : ℕ → Bindings → Type 0
  Reaches i found = first_of_all (first_items_match ms r made ts) ≡ both_first (Some found) (first_of_all (first_items_match (drop i ms) r made (drop i ts)))

  alone : (p : Option Bindings) → p ≡ both_first (Some []) p
  alone None = refl
  alone (Some x) = refl

  pub reaches-start : Reaches 0 []
  reaches-start = alone (first_of_all (first_items_match ms r made ts))

  regroup : (a b : Bindings) (p : Option Bindings) → both_first (Some a) (both_first (Some b) p) ≡ both_first (Some (a ++ b)) p
  regroup a b None = refl
  regroup a b (Some x) = ap (λ y. Some y) (sym (append_assoc a b x))

  module _ (i : ℕ) (found : Bindings) (h : Reaches i found) where
    next : i < length ms → i < length ts
        → first_of_all (first_items_match (drop i ms) r made (drop i ts))
        ≡ both_first (first_of_all ((member_at i ms).tries (get_or ts i (leaf par)))) (first_of_all (first_items_match (drop (i + 1) ms) r made (drop (i + 1) ts)))
    next a b =
        let e = drop-at ms i a in
        let d : drop i ts ≡ get_or ts i (leaf par) ∷ drop (i + 1) ts = rw (add-one) (drop-cons ts i (leaf par) b) in
        ap (λ xs. first_of_all (first_items_match xs r made (drop i ts))) e
        ∙ ap (λ us. first_of_all (first_items_match (member_at i ms ∷ drop (i + 1) ms) r made us)) d
        ∙ first-both ((member_at i ms).tries (get_or ts i (leaf par))) (first_items_match (drop (i + 1) ms) r made (drop (i + 1) ts))

    pub reaches-next : (b : Bindings) → i < length ms → i < length ts → first_of_all ((member_at i ms).tries (get_or ts i (leaf par))) ≡ Some b → Reaches (i + 1) (found ++ b)
    reaches-next b k l e =
        let p = first_of_all (first_items_match (drop (i + 1) ms) r made (drop (i + 1) ts)) in
        h ∙ ap (both_first (Some found)) (next k l ∙ ap (λ q. both_first q p) e) ∙ regroup found b p

    pub reaches-none : i < length ms → i < length ts → first_of_all ((member_at i ms).tries (get_or ts i (leaf par))) ≡ None → first_of_all (first_items_match ms r made ts) ≡ None
    reaches-none k l e =
        let p = first_of_all (first_items_match (drop (i + 1) ms) r made (drop (i + 1) ts)) in
        h ∙ ap (both_first (Some found)) (next k l ∙ ap (λ q. both_first q p) e)

    pub reaches-short : i < length ms → length ts ≤ i → first_of_all (first_items_match ms r made ts) ≡ None
    reaches-short k l =
        h ∙ ap (both_first (Some found))
        (ap (λ xs. first_of_all (first_items_match xs r made (drop i ts))) (drop-at ms i k) ∙ ap (λ us. first_of_all (first_items_match (member_at i ms ∷ drop (i + 1) ms) r made us)) (drop_all i ts l))

    last : length ms ≤ i → first_of_all (first_items_match ms r made ts) ≡ both_first (Some found) (first_of_all (rest_match r made (drop i ts)))
    last k = h ∙ ap (λ xs. both_first (Some found) (first_of_all (first_items_match xs r made (drop i ts)))) (drop_all i ms k)

    pub reaches-end : (x : Bindings) → length ms ≤ i → first_of_all (rest_match r made (drop i ts)) ≡ Some x → first_of_all (first_items_match ms r made ts) ≡ Some (found ++ x)
    reaches-end x k e = last k ∙ ap (both_first (Some found)) e

    pub reaches-no_end : length ms ≤ i → first_of_all (rest_match r made (drop i ts)) ≡ None → first_of_all (first_items_match ms r made ts) ≡ None
    reaches-no_end k e = last k ∙ ap (both_first (Some found)) e

-- without a remainder all are taken one by one
pub items-first : (ms : List Member) (made : List Tree → Tree) (ts : List Tree) → items_match ms ts ≡ first_items_match ms rests.No made ts
items-first [] made [] = refl
items-first [] made (t ∷ ts) = refl
items-first (m ∷ ms) made [] = refl
items-first (m ∷ ms) made (t ∷ ts) = ap (both_of (m.tries t)) (items-first ms made ts)
