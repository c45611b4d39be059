use Rattle.std.proofs.Common.{◌≡◌, ◌∙◌, ap, sym, true, arith}
use Rattle.std.specs.Char.{is_ascii_digit}
use Rattle.std.specs.List.{list_all}
use Rattle.command_words.proofs.ReadingNumbers.{all_ascii_digits-list_all, result_ok-parsed, some_bytes, number_of-empty, number_of-long, number_of-other}
use Rattle.command_words.proofs.number.number_of.Goals as goal
use Rattle.command_words.proofs.number.number_of.Goals.{then-is_empty-via-then-is_empty, then-is_empty-via-else-is_empty+then-text-gt20, then-is_empty-via-else-is_empty+else-text-gt20+then-not-are_digits}

pub returns : goal.returns
returns c =
    let text = c.args.text.now in
    let all : list_all is_ascii_digit text ≡ true = ap (list_all is_ascii_digit) (sym c.as_bytes.ensures.value) ∙ (sym c.are_digits.ensures ∙ c.if-not-are_digits.false) in
    c.ok.ensures.value ∙ result_ok-parsed text c.parse.result c.parse.ensures.value.0 (sym (all_ascii_digits-list_all text) ∙ all) (some_bytes text (sym c.is_empty.ensures ∙ c.if-is_empty.false)) (omega arith)

pub returns-then-is_empty : goal.returns-then-is_empty
returns-then-is_empty c =
    let text = c.args.text.now in
    elim c.then-is_empty.branch [
      | then-is_empty-via-then-is_empty w ↦ number_of-empty text (sym c.is_empty.ensures ∙ w.if-is_empty.true)
      | then-is_empty-via-else-is_empty+then-text-gt20 w ↦ number_of-long text w.if-text-gt20.true
      | then-is_empty-via-else-is_empty+else-text-gt20+then-not-are_digits w ↦
          number_of-other text (sym (all_ascii_digits-list_all text) ∙ (ap (list_all is_ascii_digit) (sym w.as_bytes.ensures.value) ∙ (sym w.are_digits.ensures ∙ w.if-not-are_digits.true)))
    ]
