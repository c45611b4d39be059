-- All matches of the forms of patterns, as they are searched for.
use Rattle.std.proofs.Common.{◌≡◌, Bool, true, false, List, [], map as each, refl, sym, ap, ◌∙◌, subst}
use Rattle.std.specs.Prelude.{Option}
use Rattle.std.specs.declared.alloc.Global.{Global}
use Rattle.std.specs.declared.vec.Vec.{Vec}
use Rattle.calculus.specs.declared.plain.TermRest.{TermRest}
use Rattle.calculus.specs.declared.plain.TermRest.TheVariants as rests
use Rattle.calculus.specs.Tree.{Tree, trees, row, rest, send, list, tuple, set, dict, list_pattern, set_pattern, map_pattern}
use Rattle.calculus.specs.Shape.{leaf, held, many, two, only}
use Rattle.calculus.specs.Order.{IsAscending}
use Rattle.calculus.specs.Code.{codes}
use Rattle.calculus.specs.Operators.{of_list}
use Rattle.calculus.specs.Matching.{Member, both_of, ways, pieces, wholes, items_match, first_items_match, members_match}
use Rattle.calculus.proofs.Placing.{listed-trees}
use Rattle.rho_term.specs.Parts.{pair_tree, part_tree}
use Rattle.rho_term.specs.declared.term.Part.{Part}
use Rattle.rho_term.specs.declared.term.Part.TheVariants as part
use Rattle.free_places.specs.Places.{left_from}
use Rattle.match_targets.specs.Found.{IsFirst, IsFirstMembers}
use Rattle.spatial_match.specs.Found.{found, member, tried_pats, tried_pairs}
use Rattle.match_targets.proofs.Leaving.{left-all, ascending-same}
use Rattle.spatial_match.proofs.Rows.{wholes-each, wholes-row}
use Rattle.spatial_match.proofs.Sets.{items-first, members-first}

pub list-found : (ps ts : List Tree) (r : TermRest) → first_items_match (tried_pats ps) r of_list ts ≡ found (two list_pattern (many row ps) (leaf (rest r))) (many list ts)
list-found ps ts r =
    ap (λ ms. first_items_match ms r of_list ts) (sym (wholes-row ps)) ∙ ap (first_items_match (wholes (pieces (trees ps))) r of_list) (sym (listed-trees ts))

pub tuple-found : (ps ts : List Tree) → first_items_match (tried_pats ps) rests.No of_list ts ≡ found (many tuple ps) (many tuple ts)
tuple-found ps ts =
    sym (items-first (each member ps) of_list ts) ∙ ap (λ ms. items_match ms ts) (sym (wholes-row ps)) ∙ ap (items_match (wholes (pieces (trees ps)))) (sym (listed-trees ts))

tuple_items : (ps ts : List Tree) → first_items_match (tried_pats ps) rests.No of_list ts ≡ items_match (wholes (pieces (trees ps))) (held (many row ts))
tuple_items ps ts =
    sym (items-first (each member ps) of_list ts) ∙ ap (λ ms. items_match ms ts) (sym (wholes-row ps)) ∙ ap (items_match (wholes (pieces (trees ps)))) (sym (listed-trees ts))

-- members of a set or map, where none is used yet
module _ (ms : List Member) (r : TermRest) (made : List Tree → Tree) (ts : List Tree) (h : IsAscending (codes (trees ts))) where
  pub members-found : (o : Option (Vec Tree Global)) → IsFirstMembers r made (ways ms (left_from 0 [] ts)) o → IsFirst (members_match ms r made ts) o
  members-found o w =
      members-first r made ms ts (ascending-same ts h) o (subst (λ (us : List Tree). IsFirstMembers r made (ways ms us) o) (left-all 0 ts) w)

pub set-found : (ps ts : List Tree) (r : TermRest) → members_match (tried_pats ps) r (λ vs. only (many set vs)) ts ≡ found (two set_pattern (many row ps) (leaf (rest r))) (many set ts)
set-found ps ts r =
    ap (λ ms. members_match ms r (λ vs. only (many set vs)) ts) (sym (wholes-row ps))
    ∙ ap (members_match (wholes (pieces (trees ps))) r (λ vs. only (many set vs))) (sym (listed-trees ts))

pub map-found : (ps : List (Tree × Tree)) (ts : List Tree) (r : TermRest)
    → members_match (tried_pairs ps) r (λ vs. only (many dict vs)) ts ≡ found (two map_pattern (many row (each pair_tree ps)) (leaf (rest r))) (many dict ts)
map-found ps ts r =
    ap (λ ms. members_match ms r (λ vs. only (many dict vs)) ts) (sym (wholes-each pair_tree ps))
    ∙ ap (members_match (wholes (pieces (trees (each pair_tree ps)))) r (λ vs. only (many dict vs))) (sym (listed-trees ts))

send_core : (p : Bool) (c s : Tree) (xs ds : List Tree) → both_of (found c s) (items_match (wholes (pieces (trees xs))) (held (many row ds))) ≡ found (two (send p) c (many row xs)) (two (send p) s (many row ds))
send_core true c s xs ds = refl
send_core false c s xs ds = refl

-- a send of the same persistence
pub send-found : (c : Tree) (xs : List Tree) (p q : Bool) (t : Part) (s : Tree) (d : Vec Tree Global) (ds : List Tree) → p ≡ q → t ≡ part.Send s d q → ds ≡ d.items
    → both_of (found c s) (first_items_match (tried_pats xs) rests.No of_list ds) ≡ found (two (send p) c (many row xs)) (part_tree t)
send-found c xs p q t s d ds e g k =
    let m = tuple_items xs ds in
    ap (both_of (found c s)) m ∙ ap (λ (us : List Tree). both_of (found c s) (items_match (wholes (pieces (trees xs))) (held (many row us)))) k
    ∙ send_core p c s xs d.items ∙ ap (λ (b : Bool). found (two (send p) c (many row xs)) (two (send b) s (many row d.items))) e
    ∙ ap (λ (u : Part). found (two (send p) c (many row xs)) (part_tree u)) (sym g)
