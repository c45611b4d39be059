use Rattle.grammar.proofs.GrammarComputed.{sends_one, leans_left, tightness, minus_of_minus, least_int, call_on_minus_one, empty_map, block, map_of_one, tuple_of_one, par_in_par, drop_of_name, drop_of_quote, if_without_else, contracts, joins_two, binds_rest, case_of_minus_one, same_as_outside, list_pattern, closed_pattern, fixed_name, printed_bytes, printed_name, persistent_join, peek_join, sixteen_binds, two_hundred_blocks}
use Rattle.grammar.proofs.grammar_examples.worked_examples.Goals as goal

pub returns-clause-sends_one : goal.returns-clause-sends_one
returns-clause-sends_one c = sends_one

pub returns-clause-leans_left : goal.returns-clause-leans_left
returns-clause-leans_left c = leans_left

pub returns-clause-tightness : goal.returns-clause-tightness
returns-clause-tightness c = tightness

pub returns-clause-minus_of_minus : goal.returns-clause-minus_of_minus
returns-clause-minus_of_minus c = minus_of_minus

pub returns-clause-least_int : goal.returns-clause-least_int
returns-clause-least_int c = least_int

pub returns-clause-call_on_minus_one : goal.returns-clause-call_on_minus_one
returns-clause-call_on_minus_one c = call_on_minus_one

pub returns-clause-empty_map : goal.returns-clause-empty_map
returns-clause-empty_map c = empty_map

pub returns-clause-block : goal.returns-clause-block
returns-clause-block c = block

pub returns-clause-map_of_one : goal.returns-clause-map_of_one
returns-clause-map_of_one c = map_of_one

pub returns-clause-tuple_of_one : goal.returns-clause-tuple_of_one
returns-clause-tuple_of_one c = tuple_of_one

pub returns-clause-par_in_par : goal.returns-clause-par_in_par
returns-clause-par_in_par c = par_in_par

pub returns-clause-drop_of_name : goal.returns-clause-drop_of_name
returns-clause-drop_of_name c = drop_of_name

pub returns-clause-drop_of_quote : goal.returns-clause-drop_of_quote
returns-clause-drop_of_quote c = drop_of_quote

pub returns-clause-if_without_else : goal.returns-clause-if_without_else
returns-clause-if_without_else c = if_without_else

pub returns-clause-contracts : goal.returns-clause-contracts
returns-clause-contracts c = contracts

pub returns-clause-joins_two : goal.returns-clause-joins_two
returns-clause-joins_two c = joins_two

pub returns-clause-binds_rest : goal.returns-clause-binds_rest
returns-clause-binds_rest c = binds_rest

pub returns-clause-case_of_minus_one : goal.returns-clause-case_of_minus_one
returns-clause-case_of_minus_one c = case_of_minus_one

pub returns-clause-same_as_outside : goal.returns-clause-same_as_outside
returns-clause-same_as_outside c = same_as_outside

pub returns-clause-list_pattern : goal.returns-clause-list_pattern
returns-clause-list_pattern c = list_pattern

pub returns-clause-closed_pattern : goal.returns-clause-closed_pattern
returns-clause-closed_pattern c = closed_pattern

pub returns-clause-fixed_name : goal.returns-clause-fixed_name
returns-clause-fixed_name c = fixed_name

pub returns-clause-printed_bytes : goal.returns-clause-printed_bytes
returns-clause-printed_bytes c = printed_bytes

pub returns-clause-printed_name : goal.returns-clause-printed_name
returns-clause-printed_name c = printed_name

pub returns-clause-persistent_join : goal.returns-clause-persistent_join
returns-clause-persistent_join c = persistent_join

pub returns-clause-peek_join : goal.returns-clause-peek_join
returns-clause-peek_join c = peek_join

pub returns-clause-sixteen_binds : goal.returns-clause-sixteen_binds
returns-clause-sixteen_binds c = sixteen_binds

pub returns-clause-two_hundred_blocks : goal.returns-clause-two_hundred_blocks
returns-clause-two_hundred_blocks c = two_hundred_blocks
