-- Before the first row is read.
use Rattle.std.proofs.Common.{◌≡◌, ◌∙◌, [], map as each, sym, ap, subst}
use Rattle.std.specs.BTreeSet.{IsEmpty}
use Rattle.calculus.specs.Rows.{row_code}
use Rattle.state_reader.specs.declared.read.RowsRead.{RowsRead}
use Rattle.checkpoint.specs.Kept.{AreInOrder}
use Rattle.state_reader.specs.Reading.{IsInHand, last_code}
use Rattle.checkpoint.proofs.Nothing.{nothing-kept}

pub none-in-hand : (s : RowsRead) → s.rows.items ≡ [] → s.codes.items ≡ [] → IsEmpty s.ids → s.last.now ≡ [] → IsInHand s
none-in-hand s e g f l = record {
  order = subst AreInOrder (sym e) nothing-kept.order;
  codes = ap (each (λ c. c.now)) g ∙ sym (ap (each row_code) e);
  ids = λ x. rw (e, f);
  last = l ∙ ap last_code (sym e);
}
