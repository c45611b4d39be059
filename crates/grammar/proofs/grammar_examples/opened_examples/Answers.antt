use Rattle.grammar.proofs.GrammarComputed.{send_is_opened, quoted_send_is_opened, second_sum_is_opened, call_is_opened, second_call_is_opened, second_either_is_opened, second_both_is_opened, any_send_is_opened, prefix_is_opened, quoted_drop_is_opened, inner_block_is_opened, connective_is_opened, one_block_more, operators_are_opened, forms_are_opened, pattern_forms_are_opened}
use Rattle.grammar.proofs.grammar_examples.opened_examples.Goals as goal

pub returns-clause-send_is_opened : goal.returns-clause-send_is_opened
returns-clause-send_is_opened c = send_is_opened

pub returns-clause-quoted_send_is_opened : goal.returns-clause-quoted_send_is_opened
returns-clause-quoted_send_is_opened c = quoted_send_is_opened

pub returns-clause-second_sum_is_opened : goal.returns-clause-second_sum_is_opened
returns-clause-second_sum_is_opened c = second_sum_is_opened

pub returns-clause-call_is_opened : goal.returns-clause-call_is_opened
returns-clause-call_is_opened c = call_is_opened

pub returns-clause-second_call_is_opened : goal.returns-clause-second_call_is_opened
returns-clause-second_call_is_opened c = second_call_is_opened

pub returns-clause-second_either_is_opened : goal.returns-clause-second_either_is_opened
returns-clause-second_either_is_opened c = second_either_is_opened

pub returns-clause-second_both_is_opened : goal.returns-clause-second_both_is_opened
returns-clause-second_both_is_opened c = second_both_is_opened

pub returns-clause-any_send_is_opened : goal.returns-clause-any_send_is_opened
returns-clause-any_send_is_opened c = any_send_is_opened

pub returns-clause-prefix_is_opened : goal.returns-clause-prefix_is_opened
returns-clause-prefix_is_opened c = prefix_is_opened

pub returns-clause-quoted_drop_is_opened : goal.returns-clause-quoted_drop_is_opened
returns-clause-quoted_drop_is_opened c = quoted_drop_is_opened

pub returns-clause-inner_block_is_opened : goal.returns-clause-inner_block_is_opened
returns-clause-inner_block_is_opened c = inner_block_is_opened

pub returns-clause-connective_is_opened : goal.returns-clause-connective_is_opened
returns-clause-connective_is_opened c = connective_is_opened

pub returns-clause-one_block_more : goal.returns-clause-one_block_more
returns-clause-one_block_more c = one_block_more

pub returns-clause-operators_are_opened : goal.returns-clause-operators_are_opened
returns-clause-operators_are_opened c = operators_are_opened

pub returns-clause-forms_are_opened : goal.returns-clause-forms_are_opened
returns-clause-forms_are_opened c = forms_are_opened

pub returns-clause-pattern_forms_are_opened : goal.returns-clause-pattern_forms_are_opened
returns-clause-pattern_forms_are_opened c = pattern_forms_are_opened
