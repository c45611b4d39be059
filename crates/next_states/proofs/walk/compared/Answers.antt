use Rattle.std.proofs.Common.{List, [], false, map, refl, sym, subst, inr, ◌∙◌, append-nil}
use Rattle.std.specs.Prelude.{IsPermutation}
use Rattle.calculus.proofs.Permutations.{each-moved}
use Rattle.calculus.specs.Order.{IsAscending}
use Rattle.next_states.specs.Pairs.{Pair, pair_of, cut_by, IsChanged}
use Rattle.next_states.specs.Walks.{Agrees, Covers, Finds, row_of}
use Rattle.next_states.proofs.Walking.{codes-same, end-covers}
use Rattle.next_states.proofs.Finding.{start-finds, coded-seconds}
use Rattle.next_states.proofs.walk.compared.Goals as goal

pub returns-clause-rows : goal.returns-clause-rows
returns-clause-rows c =
    let all : List Pair = cut_by c.args.marks.now c.args.text.now in
    let start : Agrees _ all [] = record { tell = c.requires; bare = c.new-changed.ensures.bare; same = λ k. inr refl } in
    let kept = c.keyed_codes-keyed.ensures (c.pass_below.ensures (sym c.has_failed.ensures ∙ c.if-has_failed.false)).0 in
    subst (λ (ps : List Pair). IsPermutation (map pair_of c.args.rows.now) ps) (sym (kept.1.pairs all c.in_ok-coded.ensures.coded start)) (each-moved pair_of c.in_ok-coded.ensures.rows)

pub returns-clause-order : goal.returns-clause-order
returns-clause-order c =
    let all : List Pair = cut_by c.args.marks.now c.args.text.now in
    let start : Agrees _ all [] = record { tell = c.requires; bare = c.new-changed.ensures.bare; same = λ k. inr refl } in
    let kept = c.keyed_codes-keyed.ensures (c.pass_below.ensures (sym c.has_failed.ensures ∙ c.if-has_failed.false)).0 in
    subst IsAscending (sym (codes-same c.keyed_codes-keyed.result.items c.in_ok-coded.coded.items c.in_ok-coded.ensures.coded (kept.1.pairs all c.in_ok-coded.ensures.coded start))) c.in_ok-coded.ensures.order

pub returns-clause-bare : goal.returns-clause-bare
returns-clause-bare c =
    let all : List Pair = cut_by c.args.marks.now c.args.text.now in
    let start : Agrees _ all [] = record { tell = c.requires; bare = c.new-changed.ensures.bare; same = λ k. inr refl } in
    let passed = c.pass_below.ensures (sym c.has_failed.ensures ∙ c.if-has_failed.false) in
    let kept = c.keyed_codes-keyed.ensures passed.0 in
    (passed.1.passing.agrees all (map pair_of (map row_of c.in_ok-coded.coded.items)) (kept.1.agrees all c.in_ok-coded.ensures.coded start)).bare

pub returns-clause-covers : goal.returns-clause-covers
returns-clause-covers c =
    let all : List Pair = cut_by c.args.marks.now c.args.text.now in
    let start : Agrees _ all [] = record { tell = c.requires; bare = c.new-changed.ensures.bare; same = λ k. inr refl } in
    let passed = c.pass_below.ensures (sym c.has_failed.ensures ∙ c.if-has_failed.false) in
    let kept = c.keyed_codes-keyed.ensures passed.0 in
    let done : List Pair = map pair_of (map row_of c.in_ok-coded.coded.items) in
    subst (λ (ps : List Pair). Covers c.pass_below.new.self.changed all ps) (sym (kept.1.pairs all c.in_ok-coded.ensures.coded start))
    (end-covers c.pass_below.new.self all done (passed.1.all refl) (passed.1.passing.agrees all done (kept.1.agrees all c.in_ok-coded.ensures.coded start)))

pub returns-clause-found : goal.returns-clause-found
returns-clause-found c = λ up k h.
    let all : List Pair = cut_by c.args.marks.now c.args.text.now in
    let start : Agrees _ all [] = record { tell = c.requires; bare = c.new-changed.ensures.bare; same = λ k. inr refl } in
    let passed = c.pass_below.ensures (sym c.has_failed.ensures ∙ c.if-has_failed.false) in
    let kept = c.keyed_codes-keyed.ensures passed.0 in
    let coded = c.in_ok-coded.coded.items in
    let done : List Pair = map pair_of (map row_of coded) in
    let order = subst IsAscending (sym (coded-seconds coded c.in_ok-coded.ensures.coded)) c.in_ok-coded.ensures.order in
    let found = passed.1.passing.finds all done [] refl (kept.1.finds all [] c.in_ok-coded.ensures.coded start (subst (Finds _ all []) (sym (append-nil done)) (start-finds _ done c.new-changed.ensures.none up order))) in
    subst (λ (ps : List Pair). IsChanged all ps k) (append-nil done ∙ sym (kept.1.pairs all c.in_ok-coded.ensures.coded start)) (found.found k h)
