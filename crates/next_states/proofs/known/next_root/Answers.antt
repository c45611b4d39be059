use Rattle.std.proofs.Common.{◌≡◌, List, map, drop, sym, ◌∙◌, ap, subst}
use Rattle.std.specs.Prelude.{All, IsPermutation}
use Rattle.calculus.specs.Order.{IsAscending}
use Rattle.calculus.specs.Rows.{Row}
use Rattle.checkpoint.specs.declared.marks.Mark.{Mark}
use Rattle.radix_root.specs.Leaves.{Keeps}
use Rattle.next_states.specs.Pairs.{Pair, pair_of, cut_by, groups_in, seconds, TellsKey}
use Rattle.next_states.specs.Walks.{Covers, pair_in}
use Rattle.next_states.specs.declared.walk.Keyed.{Keyed}
use Rattle.next_states.proofs.Pairs.{rows-kept, known-pairs, changed-rows, made-weaker}
use Rattle.next_states.proofs.Walking.{codes-kept}
use Rattle.next_states.proofs.known.next_root.Goals as goal

pub compared-requires : goal.compared-requires
compared-requires g c =
    let text : c.rest_of-codes.result.now ≡ drop 49 c.known.inside.text.items = c.rest_of-codes.ensures ∙ ap (drop 49) c.as_slice.ensures.value in
    let pairs : cut_by c.as_slice-3.result.now c.rest_of-codes.result.now ≡ cut_by c.known.inside.marks.items (drop 49 c.known.inside.text.items) =
    ap (λ (ms : List Mark). cut_by ms c.rest_of-codes.result.now) c.as_slice-3.ensures.value ∙ ap (cut_by c.known.inside.marks.items) text in
    subst (All TellsKey) (sym pairs) c.known.invariant.tell

pub returns-clause-root : goal.returns-clause-root
returns-clause-root g c =
    let text : c.rest_of-codes.result.now ≡ drop 49 c.known.inside.text.items = c.rest_of-codes.ensures ∙ ap (drop 49) c.as_slice.ensures.value in
    let all : List Pair = cut_by c.as_slice-3.result.now c.rest_of-codes.result.now in
    let pairs : all ≡ cut_by c.known.inside.marks.items (drop 49 c.known.inside.text.items) =
    ap (λ (ms : List Mark). cut_by ms c.rest_of-codes.result.now) c.as_slice-3.ensures.value ∙ ap (cut_by c.known.inside.marks.items) text in
    let keyed = c.in_ok-keyed.keyed.items in
    let keeps : Keeps c.known.inside.tree (groups_in all) = subst (λ (ps : List Pair). Keeps c.known.inside.tree (groups_in ps)) (sym pairs) c.known.invariant.tree in
    let covers : Covers c.in_ok-keyed.changed all (map pair_in c.as_slice-4.result.now) = subst (λ (ks : List Keyed). Covers c.in_ok-keyed.changed all (map pair_in ks)) (sym c.as_slice-4.ensures.value) c.in_ok-keyed.ensures.covers in
    let next : Keeps c.in_ok-next.next (groups_in (map pair_in keyed)) = subst (λ (ks : List Keyed). Keeps c.in_ok-next.next (groups_in (map pair_in ks))) c.as_slice-4.ensures.value (c.in_ok-next.ensures.tree all keeps covers) in
    let rows : IsPermutation (map pair_of c.args.rows.items) (map pair_in keyed) = subst (λ (rs : List Row). IsPermutation (map pair_of rs) (map pair_in keyed)) c.as_slice-2.ensures.value c.in_ok-keyed.ensures.rows in
    c.root.ensures c.args.rows.items (rows-kept c.args.rows.items (map pair_in keyed) c.in_ok-next.next rows next)

pub returns-clause-codes : goal.returns-clause-codes
returns-clause-codes g c =
    let keyed = c.in_ok-keyed.keyed.items in
    let rows : IsPermutation (map pair_of c.args.rows.items) (map pair_in keyed) = subst (λ (rs : List Row). IsPermutation (map pair_of rs) (map pair_in keyed)) c.as_slice-2.ensures.value c.in_ok-keyed.ensures.rows in
    codes-kept c.args.rows.items keyed rows c.in_ok-keyed.ensures.order

pub returns-clause-made : goal.returns-clause-made
returns-clause-made g c = λ base kept e.
    let text : c.rest_of-codes.result.now ≡ drop 49 c.known.inside.text.items = c.rest_of-codes.ensures ∙ ap (drop 49) c.as_slice.ensures.value in
    let all : List Pair = cut_by c.as_slice-3.result.now c.rest_of-codes.result.now in
    let pairs : all ≡ cut_by c.known.inside.marks.items (drop 49 c.known.inside.text.items) =
    ap (λ (ms : List Mark). cut_by ms c.rest_of-codes.result.now) c.as_slice-3.ensures.value ∙ ap (cut_by c.known.inside.marks.items) text in
    let keyed = c.in_ok-keyed.keyed.items in
    let rows : IsPermutation (map pair_of c.args.rows.items) (map pair_in keyed) = subst (λ (rs : List Row). IsPermutation (map pair_of rs) (map pair_in keyed)) c.as_slice-2.ensures.value c.in_ok-keyed.ensures.rows in
    let based : all ≡ map pair_of base = pairs ∙ known-pairs c.known.inside.text.items c.known.inside.marks.items c.known.inside.tree base c.known.invariant kept (c.known.view_is ∙ e) in
    let order : IsAscending (seconds all) = subst (λ (ps : List Pair). IsAscending (seconds ps)) (sym pairs) c.known.invariant.order in
    made-weaker c.in_ok-next.ensures.made (λ k h. changed-rows base c.args.rows.items all (map pair_in keyed) k based rows (c.in_ok-keyed.ensures.found order k h))
