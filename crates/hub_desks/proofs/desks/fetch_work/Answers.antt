use Rattle.std.proofs.Common.{◌∙◌, ◌∷◌, [], ◌+◌, ℕ, List, ap, sym, arith}
use Rattle.atomic_table.specs.Table.{rest}
use Rattle.hub_rule.specs.declared.slot.Slot.TheVariants.{Desk}
use Rattle.hub_rule.specs.Works.{hand}
use Rattle.hub_rule.specs.Rule.{with_pile, away, takes_up}
use Rattle.hub_rule.proofs.Turns.{heads, found_here}
use Rattle.hub_rule.proofs.DeskTurns.{slot_works, away_is, some_to, none_to}
use Rattle.hub_desks.proofs.desks.fetch_work.Goals as goal

pub desk_out-works-requires-clause-held : goal.desk_out-works-requires-clause-held
desk_out-works-requires-clause-held g c κs within = let h = c.take_desk.ensures.taken in (h.0, heads _ _ _ (ap (λ x. x.1) h.2))

pub give_desk-requires-clause-held : goal.give_desk-requires-clause-held
give_desk-requires-clause-held g c κs within = let l = c.desk_out-works.ensures.left in (l.0, heads _ _ _ (ap (λ x. x.1) l.1))

pub give_desk-requires-clause-desk : goal.give_desk-requires-clause-desk
give_desk-requires-clause-desk g c κs within =
    let W : Type 0 = g.row.S-Work.Denot in
    let h = c.take_desk.ensures.taken in let l = c.desk_out-works.ensures.left in
    let e = l.1 ∙ ap (λ a. (a.0, (c.args.desk + 64, Desk l.0) ∷ rest a.1)) h.2 in
    let same = ap slot_works (found_here _ _ _ (Desk h.0) (Desk c.desk_out-works.result) (ap (λ x. x.1) h.2) c.desk_out-works.ensures.works) in
    (h.1, ap (λ a. a.0.pile.desk) e ∙ ap {A = List (ℕ × List (ℕ × W))} (λ t. (c.args.desk, h.1) ∷ t) c.requires.desk.1, sym h.3 ∙ (sym same ∙ c.pop-taken.ensures.items))

pub give_desk-requires-clause-low : goal.give_desk-requires-clause-low
give_desk-requires-clause-low g c κs within =
    let h = c.take_desk.ensures.taken in let l = c.desk_out-works.ensures.left in
    let e = l.1 ∙ ap (λ a. (a.0, (c.args.desk + 64, Desk l.0) ∷ rest a.1)) h.2 in
    (c.requires.desk.0, (let q = ap (λ a. a.0.parts) e in let r = c.requires.desk.2 in omega arith), ap (λ a. a.0.pile.owes) e ∙ c.requires.desk.3)

pub give_desk-requires-clause-idle : goal.give_desk-requires-clause-idle
give_desk-requires-clause-idle g c κs within some_taken =
    let h = c.take_desk.ensures.taken in let l = c.desk_out-works.ensures.left in
    let e = l.1 ∙ ap (λ a. (a.0, (c.args.desk + 64, Desk l.0) ∷ rest a.1)) h.2 in
    ap (λ a. hand a.0.pile) e ∙ c.requires.idle

pub returns-clause-some : goal.returns-clause-some
returns-clause-some g c =
    let h = c.take_desk.ensures.taken in let l = c.desk_out-works.ensures.left in
    let e = l.1 ∙ ap (λ a. (a.0, (c.args.desk + 64, Desk l.0) ∷ rest a.1)) h.2 in
    some_to c.pop-taken.result _ _ (λ w k. (k.0, k.1 ∙ ap (λ a. (with_pile a.0 (takes_up a.0.pile ((k.0, w) ∷ [])), rest a.1)) e)) c.give_desk.ensures.some

pub returns-clause-none : goal.returns-clause-none
returns-clause-none g c =
    let h = c.take_desk.ensures.taken in let l = c.desk_out-works.ensures.left in
    let e = l.1 ∙ ap (λ a. (a.0, (c.args.desk + 64, Desk l.0) ∷ rest a.1)) h.2 in
    none_to c.pop-taken.result _ _ (λ k. k ∙ (ap (λ a. (with_pile a.0 (away a.0.pile), rest a.1)) e ∙ away_is c.args.token.now.me c.requires.desk.1)) c.give_desk.ensures.none
