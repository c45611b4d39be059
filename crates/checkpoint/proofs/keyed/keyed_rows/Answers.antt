use Rattle.std.proofs.Common.{◌≡◌, ◌<◌, ℕ, List, length, arith, [], ◌∷◌, ◌++◌, map, take, sym, ◌∙◌, ap, subst}
use Rattle.std.specs.Prelude.{All}
use Rattle.std.specs.Borrow.{Bor}
use Rattle.std.proofs.lemmas.List.Elements.{All-push}
use Rattle.calculus.specs.Rows.{Row, row_code}
use Rattle.checkpoint.specs.Groups.{row_of, IsKeyed}
use Rattle.checkpoint.specs.Marks.{seen_mark, row_mark}
use Rattle.checkpoint.proofs.Adding.{at-bound, at-place, map-push, taken-all, taken-more}
use Rattle.checkpoint.proofs.keyed.keyed_rows.Goals as goal

pub index-requires : goal.index-requires
index-requires c =
    let code : Bor (List ℕ) → List ℕ = λ s. s.now in
    let within : c.loop-place.place < length c.args.codes.items = at-bound code row_code c.args.codes.items c.args.rows.now c.loop-place.place c.requires.codes c.loop-place-test.true in
    omega (arith, within, c.args.codes.ok.0)

pub bounds-marks-place : goal.bounds-marks-place
bounds-marks-place c = at-bound seen_mark row_mark c.args.marks.now c.args.rows.now c.loop-place.place c.requires.marks c.loop-place-test.true

pub keyed_row-one-requires-clause-code : goal.keyed_row-one-requires-clause-code
keyed_row-one-requires-clause-code c =
    let code : Bor (List ℕ) → List ℕ = λ s. s.now in
    ap code c.index.ensures ∙ at-place code row_code c.args.codes.items c.args.rows.now c.loop-place.place _ c.index-rows-place.result c.requires.codes c.loop-place-test.true ∙ ap row_code (sym c.index-rows-place.is)

pub keyed_row-one-requires-clause-mark : goal.keyed_row-one-requires-clause-mark
keyed_row-one-requires-clause-mark c =
    at-place seen_mark row_mark c.args.marks.now c.args.rows.now c.loop-place.place _ c.index-rows-place.result c.requires.marks c.loop-place-test.true ∙ ap row_mark (sym c.index-rows-place.is)

pub loop-place-preserved : goal.loop-place-preserved
loop-place-preserved c =
    let i = c.loop-place.place in
    let rows = c.args.rows.now in
    let row = c.index-rows-place.result in
    let old = c.loop-place.keyed.items in
    let one = c.keyed_row-one.result in
    record {
      rows = ap (map row_of) c.in_ok-push.ensures.items ∙ map-push row_of old one
          ∙ ap (λ (rs : List Row). rs ++ row_of one ∷ []) c.loop-place.invariant.rows
          ∙ ap (λ (r : Row). take i rows ++ r ∷ []) c.keyed_row-one.ensures.row
          ∙ sym (taken-more rows i row c.loop-place-test.true c.index-rows-place.is);
      keyed = subst (All IsKeyed) (sym c.in_ok-push.ensures.items) (All-push IsKeyed old one c.loop-place.invariant.keyed c.keyed_row-one.ensures.keyed);
    }

pub returns-clause-rows : goal.returns-clause-rows
returns-clause-rows c =
    let all : c.loop-place.place ≡ length c.args.rows.now = omega arith in
    c.loop-place.invariant.rows ∙ taken-all c.args.rows.now c.loop-place.place all
