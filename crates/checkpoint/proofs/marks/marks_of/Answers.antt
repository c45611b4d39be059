use Rattle.std.proofs.Common.{◌≡◌, ℕ, List, length, arith, [], ◌∷◌, ◌++◌, map, take, sym, ◌∙◌, ap}
use Rattle.std.specs.Borrow.{Bor}
use Rattle.calculus.specs.Rows.{row_code}
use Rattle.checkpoint.specs.Marks.{seen_mark, row_mark}
use Rattle.checkpoint.proofs.Adding.{at-bound, at-place, map-push, taken-all, taken-more}
use Rattle.checkpoint.proofs.marks.marks_of.Goals as goal

pub bounds-codes-place : goal.bounds-codes-place
bounds-codes-place c =
    let code : Bor (List ℕ) → List ℕ = λ s. s.now in
    at-bound code row_code c.args.codes.now c.args.rows.now c.loop-place.place c.requires c.loop-place-test.true

pub mark_of-requires : goal.mark_of-requires
mark_of-requires c =
    let row = c.index-rows-place.result in
    let code : Bor (List ℕ) → List ℕ = λ s. s.now in
    at-place code row_code c.args.codes.now c.args.rows.now c.loop-place.place _ row c.requires c.loop-place-test.true ∙ ap row_code (sym c.index-rows-place.is)

pub loop-place-preserved : goal.loop-place-preserved
loop-place-preserved c =
    let i = c.loop-place.place in
    let rows = c.args.rows.now in
    let row = c.index-rows-place.result in
    let mark = c.in_ok-mark.mark in
    ap (map seen_mark) c.in_ok-push.ensures.items ∙ map-push seen_mark c.loop-place.marks.items mark
    ∙ ap (λ (ps : List (List ℕ × ℕ)). ps ++ seen_mark mark ∷ []) c.loop-place.invariant
    ∙ ap (λ (p : List ℕ × ℕ). map row_mark (take i rows) ++ p ∷ []) c.in_ok-mark.ensures
    ∙ sym (map-push row_mark (take i rows) row)
    ∙ ap (map row_mark) (sym (taken-more rows i row c.loop-place-test.true c.index-rows-place.is))

pub returns : goal.returns
returns c =
    let all : c.loop-place.place ≡ length c.args.rows.now = omega arith in
    c.loop-place.invariant ∙ ap (map row_mark) (taken-all c.args.rows.now c.loop-place.place all)
