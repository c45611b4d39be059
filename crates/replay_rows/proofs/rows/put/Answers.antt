use Rattle.std.proofs.Common.{◌≡◌, ◌<◌, List, ◌∷◌, ◌++◌, [], sym, ap, subst, ◌∙◌, Vec, Global, IsPermutation, map as each}
use Rattle.std.specs.Prelude.{Some, vec_len, vec_capacity}
use Rattle.std.specs.Map.{lookup}
use Rattle.std.proofs.lemmas.List.{map-append}
use Rattle.calculus.specs.Rows.{Row}
use Rattle.replay_space.specs.declared.seen.Seen.{Seen}
use Rattle.replay_rows.specs.Filing.{is_key, Filed, AllHave}
use Rattle.replay_rows.specs.Rows.{seen_row, id_of, filed_rows, AreFiled}
use Rattle.replay_rows.proofs.Filing.{set-more}
use Rattle.replay_rows.proofs.Under.{under-set, one-more-has}
use Rattle.replay_rows.proofs.rows.put.Goals as goal

pub push_reserved-requires : goal.push_reserved-requires
push_reserved-requires c =
    let w = c.requires.room in
    let key = subst (λ x. lookup (is_key x) c.args.rows.now.entries ≡ Some w.under) (sym c.id.ensures) w.found in
    let same : w.under ≡ c.in-Some.list.now = cc (c.in-Some.ensures.value, key) in
    subst (λ (v : Vec (Seen Row) Global). vec_len v < vec_capacity v) same w.room

pub returns-in-Some-clause-rows : goal.returns-in-Some-clause-rows
returns-in-Some-clause-rows c =
    subst (λ (es : List (Filed (Seen Row))). IsPermutation (filed_rows c.args.rows.now.entries ++ seen_row c.args.seen ∷ []) (filed_rows es)) (sym (c.get_mut.follows.holds c.push_reserved.new.self).0)
    (set-more seen_row c.id.result.0 c.in-Some.list.now c.push_reserved.new.self c.args.seen c.args.rows.now.entries (sym c.in-Some.ensures.value) c.push_reserved.ensures.items)

pub returns-in-Some-clause-filed : goal.returns-in-Some-clause-filed
returns-in-Some-clause-filed c u =
    subst AreFiled (sym (c.get_mut.follows.holds c.push_reserved.new.self).0)
    (under-set seen_row id_of c.id.result.0 c.in-Some.list.now c.push_reserved.new.self c.args.rows.now.entries u (sym c.in-Some.ensures.value)
    (λ h. subst (AllHave id_of c.id.result.0) (sym (ap (each seen_row) c.push_reserved.ensures.items ∙ map-append seen_row c.in-Some.list.now.items (c.args.seen ∷ [])))
    (one-more-has seen_row id_of c.id.result.0 (each seen_row c.in-Some.list.now.items) (seen_row c.args.seen) h c.id.ensures)))
