use Rattle.std.proofs.Common.{◌≡◌, ◌∙◌, ◌∷◌, ◌+◌, ◌++◌, ℕ, List, length, ap, sym, arith, append-nil, length-append}
use Rattle.atomic_table.specs.Table.{rest}
use Rattle.hub_rule.specs.declared.slot.Slot.TheVariants.{Desk}
use Rattle.hub_rule.specs.Counts.{things_of}
use Rattle.hub_rule.specs.Rule.{with_pile, leaves}
use Rattle.hub_rule.proofs.Turns.{heads, found_here}
use Rattle.hub_rule.proofs.DeskTurns.{slot_works}
use Rattle.hub_rule.proofs.Offers.{length_things}
use Rattle.hub_desks.proofs.Leaves.{nothing_left}
use Rattle.hub_desks.proofs.desks.leave_works.Goals as goal

pub returns-then-count-eq0-clause-ok : goal.returns-then-count-eq0-clause-ok
returns-then-count-eq0-clause-ok g c =
    let me = c.args.token.now.me in
    let none : length me.0.pile.offered ≡ 0 = (let z = c.if-count-eq0.true in let n = c.len-count.ensures in let o = c.args.ops.ok in let a = ap length c.requires.ops in let d = length_things me.0.pile.offered in omega arith) in
    nothing_left me c.requires.desk.1 none

pub desk_out-works-requires-clause-held : goal.desk_out-works-requires-clause-held
desk_out-works-requires-clause-held g c κs within = let h = c.take_desk.ensures.taken in (h.0, heads _ _ _ (ap (λ x. x.1) h.2))

pub give_desk-requires-clause-held : goal.give_desk-requires-clause-held
give_desk-requires-clause-held g c κs within = let l = c.desk_out-works.ensures.left in (l.0, heads _ _ _ (ap (λ x. x.1) l.1))

pub give_left-requires-clause-held : goal.give_left-requires-clause-held
give_left-requires-clause-held g c κs within = let l = c.desk_out-works.ensures.left in (l.0, heads _ _ _ (ap (λ x. x.1) l.1))

pub give_desk-requires-clause-desk : goal.give_desk-requires-clause-desk
give_desk-requires-clause-desk g c κs within =
    let W : Type 0 = g.row.S-Work.Denot in
    let h = c.take_desk.ensures.taken in let l = c.desk_out-works.ensures.left in
    let e = l.1 ∙ ap (λ a. (a.0, (c.args.desk + 64, Desk l.0) ∷ rest a.1)) h.2 in
    let same = ap slot_works (found_here _ _ _ (Desk h.0) (Desk c.desk_out-works.result) (ap (λ x. x.1) h.2) c.desk_out-works.ensures.works) in
    (h.1, ap (λ a. a.0.pile.desk) e ∙ ap {A = List (ℕ × List (ℕ × W))} (λ t. (c.args.desk, h.1) ∷ t) c.requires.desk.1, sym h.3 ∙ (sym same ∙ (sym c.has_room.ensures.items ∙ sym (append-nil c.has_room.new.works.items))))

pub give_desk-requires-clause-low : goal.give_desk-requires-clause-low
give_desk-requires-clause-low g c κs within =
    let h = c.take_desk.ensures.taken in let l = c.desk_out-works.ensures.left in
    let e = l.1 ∙ ap (λ a. (a.0, (c.args.desk + 64, Desk l.0) ∷ rest a.1)) h.2 in
    (c.requires.desk.0, (let q = ap (λ a. a.0.parts) e in let r = c.requires.desk.2 in omega arith), ap (λ a. a.0.pile.owes) e ∙ c.requires.desk.3)

pub give_left-requires-clause-desk : goal.give_left-requires-clause-desk
give_left-requires-clause-desk g c κs within =
    let W : Type 0 = g.row.S-Work.Denot in
    let h = c.take_desk.ensures.taken in let l = c.desk_out-works.ensures.left in
    let e = l.1 ∙ ap (λ a. (a.0, (c.args.desk + 64, Desk l.0) ∷ rest a.1)) h.2 in
    let same = ap slot_works (found_here _ _ _ (Desk h.0) (Desk c.desk_out-works.result) (ap (λ x. x.1) h.2) c.desk_out-works.ensures.works) in
    let before : c.has_room.new.works.items ≡ things_of h.1 = c.has_room.ensures.items ∙ (same ∙ h.3) in
    let more : c.args.ops.items ≡ things_of c.desk_out-works.new.token.me.0.pile.offered = c.requires.ops ∙ sym (ap (λ a. things_of a.0.pile.offered) e) in (
      h.1,
      ap (λ a. a.0.pile.desk) e ∙ ap {A = List (ℕ × List (ℕ × W))} (λ t. (c.args.desk, h.1) ∷ t) c.requires.desk.1,
      c.move_all.ensures.items ∙ (ap {A = List W} (λ t. t ++ c.args.ops.items) before ∙ ap {A = List W} (λ t. things_of h.1 ++ t) more),
    )

pub give_left-requires-clause-low : goal.give_left-requires-clause-low
give_left-requires-clause-low g c κs within =
    let h = c.take_desk.ensures.taken in let l = c.desk_out-works.ensures.left in
    let e = l.1 ∙ ap (λ a. (a.0, (c.args.desk + 64, Desk l.0) ∷ rest a.1)) h.2 in (
      c.requires.desk.0,
      (let q = ap (λ a. a.0.parts) e in let r = c.requires.desk.2 in omega arith),
      ap (λ a. a.0.pile.owes) e ∙ c.requires.desk.3,
      (let r = c.has_room.ensures.room c.if-not-has_room.false in let a = ap length c.move_all.ensures.items in let b = length-append c.has_room.new.works.items c.args.ops.items in
          let d = ap length c.has_room.ensures.items in let o = c.args.ops.ok in let n = c.len-count.ensures in omega arith),
    )

pub returns-clause-ok : goal.returns-clause-ok
returns-clause-ok g c =
    let h = c.take_desk.ensures.taken in let l = c.desk_out-works.ensures.left in
    let e = l.1 ∙ ap (λ a. (a.0, (c.args.desk + 64, Desk l.0) ∷ rest a.1)) h.2 in
    c.ring_for.ensures.same.2 ∙ (c.give_left.ensures.left ∙ ap (λ a. (with_pile a.0 (leaves a.0.pile), rest a.1)) e)
