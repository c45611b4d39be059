use Rattle.grammar.proofs.PlaceComputed.{two_bars, open_send, two_numbers, case_of_minus}
use Rattle.grammar.proofs.place_examples.syntax_examples.Goals as goal

pub returns-clause-two_bars : goal.returns-clause-two_bars
returns-clause-two_bars c = two_bars

pub returns-clause-open_send : goal.returns-clause-open_send
returns-clause-open_send c = open_send

pub returns-clause-two_numbers : goal.returns-clause-two_numbers
returns-clause-two_numbers c = two_numbers

pub returns-clause-case_of_minus : goal.returns-clause-case_of_minus
returns-clause-case_of_minus c = case_of_minus
