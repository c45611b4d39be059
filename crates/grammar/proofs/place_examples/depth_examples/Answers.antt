use Rattle.grammar.proofs.PlaceComputed.{innermost_block, send_passes, quoted_send_passes, second_sum_passes, prefix_passes, quoted_drop_passes, name_passes, name_stops}
use Rattle.grammar.proofs.place_examples.depth_examples.Goals as goal

pub returns-clause-innermost_block : goal.returns-clause-innermost_block
returns-clause-innermost_block c = innermost_block

pub returns-clause-send_passes : goal.returns-clause-send_passes
returns-clause-send_passes c = send_passes

pub returns-clause-quoted_send_passes : goal.returns-clause-quoted_send_passes
returns-clause-quoted_send_passes c = quoted_send_passes

pub returns-clause-second_sum_passes : goal.returns-clause-second_sum_passes
returns-clause-second_sum_passes c = second_sum_passes

pub returns-clause-prefix_passes : goal.returns-clause-prefix_passes
returns-clause-prefix_passes c = prefix_passes

pub returns-clause-quoted_drop_passes : goal.returns-clause-quoted_drop_passes
returns-clause-quoted_drop_passes c = quoted_drop_passes

pub returns-clause-name_passes : goal.returns-clause-name_passes
returns-clause-name_passes c = name_passes

pub returns-clause-name_stops : goal.returns-clause-name_stops
returns-clause-name_stops c = name_stops
