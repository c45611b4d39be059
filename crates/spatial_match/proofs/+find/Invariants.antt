use Rattle.std.proofs.Common.{◌≡◌, ◌+◌, ◌-◌, ◌*◌, ◌≤◌, drop, length, map}
use Rattle.calculus.specs.Tree.{weight, row}
use Rattle.calculus.specs.Shape.{held, many}
use Rattle.calculus.specs.Matching.{ways}
use Rattle.calculus.specs.Operators.{of_list}
use Rattle.rho_term.specs.Parts.{pair_tree, pat_part_tree}
use Rattle.spatial_match.specs.Search.{FailedBefore, member_at}
use Rattle.match_targets.specs.Found.{first_way, may_rest}
use Rattle.free_places.specs.Places.{left_from}
use Rattle.spatial_match.specs.Found.{may_leave, tried, tried_pats, tried_pairs}
use Rattle.spatial_match.proofs.Rows.{NoneBefore}
use Rattle.spatial_match.proofs.Sets.{Reaches}
use Rattle.spatial_match.proofs.Ways.{later}
use Rattle.spatial_match.proofs.+find.Given as goal

abbrev pub decreases-parts::find_whole : goal.decreases-parts::find_whole
decreases-parts::find_whole l = 16 * weight l.pat.now + 2

abbrev pub decreases-parts::find_pat : goal.decreases-parts::find_pat
decreases-parts::find_pat l = 16 * weight l.pat.now + 1

abbrev pub decreases-parts::find_parts : goal.decreases-parts::find_parts
decreases-parts::find_parts l = 16 * weight (many row (map pat_part_tree l.pats.now)) - 3 * l.i

abbrev pub decreases-parts::find_around : goal.decreases-parts::find_around
decreases-parts::find_around l = 16 * weight (many row (map pat_part_tree l.pats.now)) - (3 * l.i + 1)

abbrev pub decreases-parts::try_part : goal.decreases-parts::try_part
decreases-parts::try_part l = 16 * weight (many row (map pat_part_tree l.pats.now)) - (3 * l.i + 1)

abbrev pub decreases-parts::find_end : goal.decreases-parts::find_end
decreases-parts::find_end l = 16 * weight (many row (map pat_part_tree l.pats.now)) - (3 * length l.pats.now + 1)

abbrev pub decreases-parts::find_wide : goal.decreases-parts::find_wide
decreases-parts::find_wide l = 16 * weight (pat_part_tree l.pat.now) + 6

abbrev pub decreases-parts::find_both : goal.decreases-parts::find_both
decreases-parts::find_both l = 16 * (weight l.left.now + weight l.right.now) + 3

abbrev pub decreases-parts::find_either : goal.decreases-parts::find_either
decreases-parts::find_either l = 16 * (weight l.left.now + weight l.right.now) + 3

abbrev pub decreases-parts::find_not : goal.decreases-parts::find_not
decreases-parts::find_not l = 16 * weight l.inner.now + 3

abbrev pub decreases-forms::find_part : goal.decreases-forms::find_part
decreases-forms::find_part l = 16 * weight (pat_part_tree l.pat.now) + 6

abbrev pub decreases-forms::find_list : goal.decreases-forms::find_list
decreases-forms::find_list l = 16 * weight (many row l.pats.now) + 5

abbrev pub decreases-forms::find_tuple : goal.decreases-forms::find_tuple
decreases-forms::find_tuple l = 16 * weight (many row l.pats.now) + 5

abbrev pub decreases-forms::find_set : goal.decreases-forms::find_set
decreases-forms::find_set l = 16 * weight (many row l.pats.now) + 5

abbrev pub decreases-forms::find_map : goal.decreases-forms::find_map
decreases-forms::find_map l = 16 * weight (many row (map pair_tree l.pats.now)) + 5

abbrev pub decreases-forms::find_send : goal.decreases-forms::find_send
decreases-forms::find_send l = 16 * (weight l.channel.now + weight (many row l.args.now)) + 5

abbrev pub decreases-forms::find_bundle : goal.decreases-forms::find_bundle
decreases-forms::find_bundle l = 16 * weight l.body.now + 5

abbrev pub decreases-forms::find_items : goal.decreases-forms::find_items
decreases-forms::find_items l = 16 * weight (many row l.pats.now) + 4

abbrev pub decreases-members::find_members : goal.decreases-members::find_members
decreases-members::find_members l = 16 * weight (many row l.search.pats.now) - 3 * l.i

abbrev pub decreases-members::try_member : goal.decreases-members::try_member
decreases-members::try_member l = 16 * weight (many row l.search.pats.now) - (3 * l.i + 1)

abbrev pub decreases-pairs::find_pairs : goal.decreases-pairs::find_pairs
decreases-pairs::find_pairs l = 16 * weight (many row (map pair_tree l.search.pats.now)) - 3 * l.i

abbrev pub decreases-pairs::try_pair : goal.decreases-pairs::try_pair
decreases-pairs::try_pair l = 16 * weight (many row (map pair_tree l.search.pats.now)) - (3 * l.i + 1)

abbrev pub decreases-pairs::find_pair : goal.decreases-pairs::find_pair
decreases-pairs::find_pair l = 16 * weight (pair_tree l.pat.now) + 3

abbrev pub invariant-parts::find_parts-loop-j : goal.invariant-parts::find_parts-loop-j
invariant-parts::find_parts-loop-j l =
    let all = tried l.pats in
    (first_way (may_leave all) (ways (drop l.i all) (left_from 0 l.used (held l.target)))
    ≡ first_way (may_leave all) (later (may_leave all) (member_at l.i all) (drop (l.i + 1) all) l.used (held l.target) l.from))
    × (FailedBefore (may_leave all) (member_at l.i all) (drop (l.i + 1) all) l.used (held l.target) l.from × (l.from ≤ length (held l.target)))

abbrev pub decreases-parts::find_parts-loop-j : goal.decreases-parts::find_parts-loop-j
decreases-parts::find_parts-loop-j l = l.count - l.from

abbrev pub invariant-parts::find_end-loop-k : goal.invariant-parts::find_end-loop-k
invariant-parts::find_end-loop-k l = NoneBefore l.k (tried l.pats)

abbrev pub invariant-members::find_members-loop-j : goal.invariant-members::find_members-loop-j
invariant-members::find_members-loop-j l =
    let s = l.fn.search in
    let all = tried_pats s.pats.now in
    (first_way (may_rest s.rest) (ways (drop l.fn.i all) (left_from 0 l.fn.used s.terms.now))
    ≡ first_way (may_rest s.rest) (later (may_rest s.rest) (member_at l.fn.i all) (drop (l.fn.i + 1) all) l.fn.used s.terms.now l.from))
    × (FailedBefore (may_rest s.rest) (member_at l.fn.i all) (drop (l.fn.i + 1) all) l.fn.used s.terms.now l.from × (l.from ≤ length s.terms.now))

abbrev pub decreases-members::find_members-loop-j : goal.decreases-members::find_members-loop-j
decreases-members::find_members-loop-j l = length l.fn.search.terms.now - l.from

abbrev pub decreases-pairs::find_pairs-loop-j : goal.decreases-pairs::find_pairs-loop-j
decreases-pairs::find_pairs-loop-j l = length l.fn.search.pairs.now - l.from

abbrev pub invariant-pairs::find_pairs-loop-j : goal.invariant-pairs::find_pairs-loop-j
invariant-pairs::find_pairs-loop-j l =
    let s = l.fn.search in
    let all = tried_pairs s.pats.now in
    let ts = map pair_tree s.pairs.now in
    (first_way (may_rest s.rest) (ways (drop l.fn.i all) (left_from 0 l.fn.used ts))
    ≡ first_way (may_rest s.rest) (later (may_rest s.rest) (member_at l.fn.i all) (drop (l.fn.i + 1) all) l.fn.used ts l.from))
    × (FailedBefore (may_rest s.rest) (member_at l.fn.i all) (drop (l.fn.i + 1) all) l.fn.used ts l.from × (l.from ≤ length s.pairs.now))

abbrev pub invariant-forms::find_items-loop-i : goal.invariant-forms::find_items-loop-i
invariant-forms::find_items-loop-i l = Reaches l.remainder of_list (tried_pats l.pats) l.terms l.i l.found.items
