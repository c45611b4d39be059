use Rattle.std.proofs.Common.{◌≡◌, ◌+◌, suc, false, [], ◌∷◌, sym, ap, subst, ◌∙◌, append-nil, arith}
use Rattle.std.specs.Prelude.{Some, Option, option_map, option_copied, slice_get}
use Rattle.racing_replays.specs.Counted.{uses}
use Rattle.calculus.specs.Steps.{is_one_of}
use Rattle.hub_scenes.specs.Spaces.{SeenRow}
use Rattle.replay_slots.specs.Hands.{all_shown, parts_of}
use Rattle.replay_shards.specs.Ready.{if_any, AreNext, IsUseTry}
use Rattle.replay_shards.specs.declared.ready.Try.{Try}
use Rattle.replay_rows.specs.Rows.{seen_row}
use Rattle.replay_shards.specs.Taken.{bytes_of}
use Rattle.replay_shards.proofs.Trying.{found-id, stays-out, one-next}
use Rattle.replay_shards.proofs.next.add_next.Goals as goal

pub returns-then-is_among : goal.returns-then-is_among
returns-then-is_among c ss q rig found =
    let x = found-id c.args.id.now.0 (all_shown (parts_of c.args.attempt.now.slots.now)) q found in
    let gone = bytes_of c.args.gone.now in
    record { more = []; are = sym (append-nil c.args.next.now.items); next = stays-out ss gone q (ap (λ y. is_one_of y gone) (sym x) ∙ sym c.is_among.ensures ∙ c.if-is_among.true) }

pub returns-in_ok-push-in-Some-use_try : goal.returns-in_ok-push-in-Some-use_try
returns-in_ok-push-in-Some-use_try c ss q rig found =
    let x = found-id c.args.id.now.0 (all_shown (parts_of c.args.attempt.now.slots.now)) q found in
    let gone = bytes_of c.args.gone.now in
    let seen = c.in-Some.seen.now in
    let one : Some (seen_row seen) ≡ Some q = sym (ap (λ o. option_map seen_row (option_copied o)) c.in-Some.is) ∙ c.find_in.ensures ∙ found in
    let same : seen_row seen ≡ q = cc one in
    let out : is_one_of (seen_row seen).row.id gone ≡ false = ap (λ y. is_one_of y gone) (ap (λ (w : SeenRow). w.row.id) same ∙ sym x) ∙ sym c.is_among.ensures ∙ c.if-is_among.false in
    let used : IsUseTry ss seen.row (seen.done + 1) (c.in-Some-use_try.tried ∷ []) = subst (λ (o : Option Try). IsUseTry ss seen.row (seen.done + 1) (if_any o)) c.in-Some-use_try.is (c.use_try.ensures ss (seen.done + 1) (c.next_use_at-next_use.ensures ss rig ∙ ap (λ x. slice_get (uses x 0 ss) (seen.done + 1)) c.id.ensures)) in
    let next : seen.done + 1 ≡ suc seen.done = omega arith in
    record { more = c.in-Some-use_try.tried ∷ []; are = c.in_ok-push-in-Some-use_try.ensures.items; next = subst (λ (w : SeenRow). AreNext ss gone (w ∷ []) (c.in-Some-use_try.tried ∷ [])) same (one-next ss gone (seen_row seen) (c.in-Some-use_try.tried ∷ []) (seen.done + 1) next out used) }
