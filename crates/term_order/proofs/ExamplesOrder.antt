-- Proofs of the examples of the order of processes.
use Rattle.std.proofs.Common.{refl}
use Rattle.calculus.proofs.Opened.{computing}
use Rattle.term_order.specs.Examples.{OrderExamples}

pub order_examples : OrderExamples
unfolding computing
order_examples =
    record {
      false_first = refl;
      signed = refl;
      large_numbers = refl;
      short_text_first = refl;
      texts_by_bytes = refl;
      kinds_by_tags = refl;
      fewer_parts_first = refl;
      nil_first = refl;
      short_list_first = refl;
      first_members = refl;
      sets_are_one = refl;
      keys_first = refl;
      persistence_first = refl;
      channel_first = refl;
      rights_first = refl;
      binds_first = refl;
      patterns_differ = refl;
      kind_first = refl;
      fewer_names_first = refl;
      target_first = refl;
      remainder_last = refl;
    }
