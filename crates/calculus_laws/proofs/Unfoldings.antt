-- Proofs of the examples of unfoldings, with prices and faults.
use Rattle.std.proofs.Common.{List, refl, ap}
use Rattle.std.specs.Prelude.{map as each}
use Rattle.calculus_laws.specs.Unfoldings.{UnfoldingExamples}
use Rattle.calculus.specs.Tree.{Tree}
use Rattle.calculus.specs.Outcome.{Outcome, pure, after}
use Rattle.calculus.specs.Unfolding.{Product, rows_of}
use Rattle.calculus_laws.proofs.ByteLimits.{send-fits, send-too-big, send-not-writable, send-too-deep, body-fits, body-too-big}
use Rattle.calculus.proofs.Opened.{computing}

-- the parts of the rows that work offers
abbrev shown : Outcome (List Product) → Outcome (List Tree)
shown o = after o (λ ts. pure (each (λ r. r.part) (rows_of ts)))

pub unfolding_examples : UnfoldingExamples
unfolding computing
unfolding_examples =
    record {
      nothing = refl;
      list_offers_nothing = refl;
      binds_are_sorted = refl;
      same_under_binders = refl;
      second_case = refl;
      matched_code_runs_twice = refl;
      value_is_unfolded = refl;
      bundles_on_a_channel = refl;
      not_writable = refl;
      no_rights_to_write = refl;
      no_rights_to_read = refl;
      bundle_is_unfolded = refl;
      not_readable = refl;
      same_channel = refl;
      not_readable_before_same_channel = refl;
      same_channel_in_a_bundle = refl;
      deepest_send = refl;
      send_too_deep = refl;
      not_writable_before_too_deep = refl;
      deepest_body = refl;
      body_too_deep = refl;
      longest_send = λ s h. ap shown (send-fits s h);
      send_too_big = send-too-big;
      not_writable_before_too_big = send-not-writable;
      too_deep_before_too_big = send-too-deep;
      longest_body = λ s h. ap shown (body-fits s h);
      body_too_big = body-too-big;
      fault_keeps_the_price_before = refl;
      case_bodies_fault = refl;
      unknown_without_room = refl;
      over_the_cap = refl;
      within_the_cap = refl;
      over_before_the_fault = refl;
    }
