use Rattle.std.proofs.Common.{[], ◌∷◌, sym, ap, ◌∙◌, arith}
use Rattle.calculus.specs.Shape.{at, held}
use Rattle.calculus.specs.Outcome.{gives}
use Rattle.calculus.specs.Unfolding.{a_row}
use Rattle.term_encoder.proofs.Lengths.{size-code}
use Rattle.offered_rows.specs.Offers.{row_of}
use Rattle.offered_rows.proofs.Rows.{one-length, one-height, too-big, row-fits}
use Rattle.offered_rows.proofs.row.limited.Goals as goal

pub returns-then-code_len : goal.returns-then-code_len
returns-then-code_len c =
    let t = c.args.term in let h = c.requires.offered in (
      too-big (row_of c.args.id.0 (at 0 (held t))) (omega (arith, one-height t h, c.height.ensures.height, c.if-height-gt-MOST_HEIGHT.false))
          (omega (arith, one-length c.args.id.0 t h, size-code t, c.code_len.ensures, c.if-code_len.true)),
      omega arith,
      c.requires.price,
    )

pub returns : goal.returns
returns c =
    let t = c.args.term in let h = c.requires.offered in
    let fits = row-fits (row_of c.args.id.0 (at 0 (held t))) (omega (arith, one-height t h, c.height.ensures.height, c.if-height-gt-MOST_HEIGHT.false))
    (omega (arith, one-length c.args.id.0 t h, size-code t, c.code_len.ensures, c.if-code_len.false)) in
    record { answer = fits ∙ ap (λ r. gives (a_row r ∷ [])) (sym c.offer_of-value.ensures); price = omega arith; fits = c.requires.price }
