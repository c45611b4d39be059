use Rattle.grammar.proofs.GrammarComputed.{literal_alone, two_bars, open_send, prefix_of_nothing, case_of_minus, no_case, if_in_if, other_arrow, other_third_arrow, mixed_separators, seventeen_binds, comma_without_name, comma_without_member}
use Rattle.grammar.proofs.grammar_examples.refused_examples.Goals as goal

pub returns-clause-literal_alone : goal.returns-clause-literal_alone
returns-clause-literal_alone c = literal_alone

pub returns-clause-two_bars : goal.returns-clause-two_bars
returns-clause-two_bars c = two_bars

pub returns-clause-open_send : goal.returns-clause-open_send
returns-clause-open_send c = open_send

pub returns-clause-prefix_of_nothing : goal.returns-clause-prefix_of_nothing
returns-clause-prefix_of_nothing c = prefix_of_nothing

pub returns-clause-case_of_minus : goal.returns-clause-case_of_minus
returns-clause-case_of_minus c = case_of_minus

pub returns-clause-no_case : goal.returns-clause-no_case
returns-clause-no_case c = no_case

pub returns-clause-if_in_if : goal.returns-clause-if_in_if
returns-clause-if_in_if c = if_in_if

pub returns-clause-other_arrow : goal.returns-clause-other_arrow
returns-clause-other_arrow c = other_arrow

pub returns-clause-other_third_arrow : goal.returns-clause-other_third_arrow
returns-clause-other_third_arrow c = other_third_arrow

pub returns-clause-mixed_separators : goal.returns-clause-mixed_separators
returns-clause-mixed_separators c = mixed_separators

pub returns-clause-seventeen_binds : goal.returns-clause-seventeen_binds
returns-clause-seventeen_binds c = seventeen_binds

pub returns-clause-comma_without_name : goal.returns-clause-comma_without_name
returns-clause-comma_without_name c = comma_without_name

pub returns-clause-comma_without_member : goal.returns-clause-comma_without_member
returns-clause-comma_without_member c = comma_without_member
