use Rattle.std.proofs.Common.{◌≡◌, ℕ, true, false, List, [], ◌∷◌, ◌++◌, map, sym, ◌∙◌, ap}
use Rattle.std.specs.Borrow.{Bor}
use Rattle.calculus.specs.Order.{up_to}
use Rattle.calculus.specs.Rows.{Row, row_code}
use Rattle.calculus.specs.Steps.{is_one_of}
use Rattle.state_reader.specs.Reading.{last_code}
use Rattle.state_reader.proofs.Placing.{placed-last, placed-low, placed-twice, last-push, turned-not, ids-push}
use Rattle.checkpoint.proofs.Adding.{map-push}
use Rattle.state_reader.proofs.read.RowsRead.add.Goals as goal

pub returns-then-not-may_follow-clause-no : goal.returns-then-not-may_follow-clause-no
returns-then-not-may_follow-clause-no c = λ e h.
    placed-low c.args.self.now.rows.items c.args.row h
    (ap (λ (z : List ℕ). up_to z (row_code c.args.row)) (sym c.requires.hand.last) ∙ ap (λ (z : List ℕ). up_to c.args.self.now.last.now z) (sym c.requires.code) ∙ sym c.may_follow.ensures ∙ c.if-not-may_follow.true)

pub returns-then-not-branch-clause-no : goal.returns-then-not-branch-clause-no
returns-then-not-branch-clause-no c = λ e h.
    placed-twice c.args.self.now.rows.items c.args.row h
    (ap (λ (z : List ℕ). is_one_of z (map (λ (r : Row). r.id) c.args.self.now.rows.items)) (sym c.id.ensures) ∙ turned-not _ _ (sym (c.in_ok-add_id.ensures.new _ c.requires.hand.ids) ∙ c.if-not-branch.true))

pub returns-clause-yes : goal.returns-clause-yes
returns-clause-yes c = λ e.
    let rows = c.args.self.now.rows.items in
    let new : is_one_of c.args.row.id (map (λ (r : Row). r.id) rows) ≡ false =
    ap (λ (z : List ℕ). is_one_of z (map (λ (r : Row). r.id) rows)) (sym c.id.ensures) ∙ turned-not _ _ (sym (c.in_ok-add_id.ensures.new _ c.requires.hand.ids) ∙ c.if-not-branch.false)
    in
    let up : up_to (last_code rows) (row_code c.args.row) ≡ true =
    ap (λ (z : List ℕ). up_to z (row_code c.args.row)) (sym c.requires.hand.last) ∙ ap (λ (z : List ℕ). up_to c.args.self.now.last.now z) (sym c.requires.code) ∙ sym c.may_follow.ensures ∙ c.if-not-may_follow.false
    in
    let items = c.in_ok-push.ensures.items in (
      record {
        order = rw items (placed-last rows c.args.row c.requires.hand.order c.requires.storable up new);
        codes = ap (map (λ (s : Bor (List ℕ)). s.now)) c.in_ok-push-2.ensures.items ∙ map-push (λ (s : Bor (List ℕ)). s.now) c.args.self.now.codes.items c.args.code
            ∙ ap (λ (cs : List (List ℕ)). cs ++ c.args.code.now ∷ []) c.requires.hand.codes ∙ ap (λ (z : List ℕ). map row_code rows ++ z ∷ []) c.requires.code
            ∙ sym (map-push row_code rows c.args.row) ∙ ap (map row_code) (sym items);
        ids = ids-push rows c.args.row c.id.result.0 _ c.push.new.self.items items c.id.ensures (c.in_ok-add_id.ensures.ids _ c.requires.hand.ids);
        last = c.requires.code ∙ sym (ap last_code items ∙ last-push rows c.args.row);
      },
      items,
    )
