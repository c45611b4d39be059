use Rattle.std.proofs.Common.{◌≡◌, true, false, List, sym, ap, subst, ◌∙◌, map as each, arith}
use Rattle.std.specs.Prelude.{flat_map}
use Rattle.std.specs.Map.{remove_entry}
use Rattle.std.specs.Vec.{with_items}
use Rattle.std.proofs.lemmas.List.{with_items_is}
use Rattle.hub_scenes.specs.Spaces.{IsIn}
use Rattle.hub_scenes.proofs.Basics.{has, hold}
use Rattle.calculus.specs.Rows.{Row}
use Rattle.replay_space.specs.declared.seen.Seen.{Seen}
use Rattle.replay_rows.specs.Filing.{is_key, Filed, AllHave}
use Rattle.replay_rows.specs.Rows.{seen_row, id_of, filed_rows, AreFiled, once_more, settled}
use Rattle.replay_rows.proofs.Under.{under-set, under-removed, found-has, found-in, has-id}
use Rattle.replay_rows.proofs.Settled.{unheld-stays, set-changed, removed-changed}
use Rattle.replay_rows.proofs.Counting.{others-stay, its-leave, its-count, counted-have}
use Rattle.replay_rows.proofs.rows.settle.Goals as goal

pub returns-then-leaves-clause-rows : goal.returns-then-leaves-clause-rows
returns-then-leaves-clause-rows c =
    let x = c.args.id.now.0 in
    let es = c.args.rows.now.entries in
    ap (λ (l : List (Filed (Seen Row))). filed_rows l) c.remove.ensures.entries
    ∙ subst (λ b. filed_rows (remove_entry (is_key x) es) ≡ flat_map (settled x b) (filed_rows es)) (sym c.if-leaves.true)
    (removed-changed seen_row id_of x (settled x true) (others-stay x true) (its-leave x) es c.requires.filed c.len-size.ensures.ordered)

pub returns-then-leaves-clause-filed : goal.returns-then-leaves-clause-filed
returns-then-leaves-clause-filed c = subst AreFiled (sym c.remove.ensures.entries) (under-removed seen_row id_of c.args.id.now.0 c.args.rows.now.entries c.requires.filed)

pub count_all-requires : goal.count_all-requires
count_all-requires c q m =
    let x = c.args.id.now.0 in
    let es = c.args.rows.now.entries in
    let v = c.in-Some.list.now in
    let found = sym c.in-Some.ensures.value in
    let there = has q (each seen_row v.items) (subst (λ (l : List (Seen Row)). IsIn q (each seen_row l)) c.deref_mut.ensures.value m) in
    c.requires.low c.if-leaves.false q (hold q (filed_rows es) (found-in seen_row id_of x v es found q there)) (has-id seen_row id_of x (each seen_row v.items) q (found-has seen_row id_of x v es c.requires.filed found) there)

pub returns-in-Some-clause-rows : goal.returns-in-Some-clause-rows
returns-in-Some-clause-rows c =
    let x = c.args.id.now.0 in
    let es = c.args.rows.now.entries in
    let v = c.in-Some.list.now in
    let found = sym c.in-Some.ensures.value in
    let now : c.deref_mut.result.now ≡ v.items = c.deref_mut.ensures.value in
    let whole : (with_items v c.count_all.new.list).items ≡ c.count_all.new.list = with_items_is v c.count_all.new.list (omega (arith, c.count_all.auto.list, c.deref_mut.ensures.len)) in
    let changed : each seen_row (with_items v c.count_all.new.list).items ≡ flat_map (settled x false) (each seen_row v.items)
    = ap (each seen_row) whole ∙ c.count_all.ensures ∙ ap (λ (l : List (Seen Row)). each once_more (each seen_row l)) now ∙ its-count x (each seen_row v.items) (found-has seen_row id_of x v es c.requires.filed found) in
    ap (λ (l : List (Filed (Seen Row))). filed_rows l) (c.get_mut.follows.holds (with_items v c.count_all.new.list)).0
    ∙ set-changed seen_row id_of x (settled x false) (others-stay x false) v (with_items v c.count_all.new.list) es c.requires.filed c.len-size.ensures.ordered found changed
    ∙ ap (λ b. flat_map (settled x b) (filed_rows es)) (sym c.if-leaves.false)

pub returns-in-Some-clause-filed : goal.returns-in-Some-clause-filed
returns-in-Some-clause-filed c =
    let x = c.args.id.now.0 in
    let es = c.args.rows.now.entries in
    let v = c.in-Some.list.now in
    let now : c.deref_mut.result.now ≡ v.items = c.deref_mut.ensures.value in
    let whole : (with_items v c.count_all.new.list).items ≡ c.count_all.new.list = with_items_is v c.count_all.new.list (omega (arith, c.count_all.auto.list, c.deref_mut.ensures.len)) in
    subst AreFiled (sym (c.get_mut.follows.holds (with_items v c.count_all.new.list)).0)
    (under-set seen_row id_of x v (with_items v c.count_all.new.list) es c.requires.filed (sym c.in-Some.ensures.value)
    (λ h. subst (AllHave id_of x) (sym (ap (each seen_row) whole ∙ c.count_all.ensures ∙ ap (λ (l : List (Seen Row)). each once_more (each seen_row l)) now)) (counted-have x (each seen_row v.items) h)))

pub returns-in_default-clause-rows : goal.returns-in_default-clause-rows
returns-in_default-clause-rows c =
    let x = c.args.id.now.0 in
    let es = c.args.rows.now.entries in
    ap (λ m. filed_rows m.entries) c.get_mut.follows.holds-at-none
    ∙ unheld-stays seen_row id_of x (settled x c.args.leaves) (others-stay x c.args.leaves) es c.requires.filed (sym c.in_default.ensures.value)
