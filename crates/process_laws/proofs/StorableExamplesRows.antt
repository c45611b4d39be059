-- Proofs of the examples of rows that may be stored and of channels that are apart.
use Rattle.std.proofs.Common.{[], ◌∷◌, refl}
use Rattle.std.proofs.lemmas.List.Elements.{All-head, All-tail}
use Rattle.calculus.specs.Rows.{stdout, stdout_ack}
use Rattle.calculus.specs.Storing.{IsStorable}
use Rattle.calculus.proofs.Opened.{computing}
use Rattle.process_laws.specs.Storing.{join_on}
use Rattle.process_laws.proofs.Storing.{storing_examples}
use Rattle.process_laws.specs.StorableExamples.{StorableRowExamples}
use Rattle.process_laws.proofs.StorableStaying.{all-from}

pub storable_row_examples : StorableRowExamples
unfolding computing
storable_row_examples =
    record {
      all_storable = all-from IsStorable (stdout ∷ stdout_ack ∷ join_on 1 2 ∷ []) (storing_examples.prints, (storing_examples.prints_and_answers, (storing_examples.join, tt)));
      all_count = λ h. storing_examples.falling (All-head IsStorable (join_on 2 1) [] (All-tail IsStorable stdout (join_on 2 1 ∷ []) h));
      apart = ((refl, (refl, tt)), ((refl, tt), (tt, tt)));
      last_is_first = λ h. cc h.0.1.0;
    }
