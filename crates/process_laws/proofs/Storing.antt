-- Proofs of the examples of rows that may be stored or not.
use Rattle.std.proofs.Common.{rules, arith, refl}
use Rattle.calculus.specs.Seeds.{message, System}
use Rattle.calculus.proofs.Opened.{hashing}
use Rattle.calculus.proofs.Digests.{digest-fits}
use Rattle.process_laws.specs.Storing.{StoringExamples}

pub storing_examples : StoringExamples
unfolding hashing
storing_examples =
    record {
      datum = record { id = digest-fits (message (System 0)); active = refl; closed = search (rules, arith); low = omega arith; short = omega arith; rising = (tt, tt) };
      join = record { id = digest-fits (message (System 0)); active = refl; closed = search (rules, arith); low = omega arith; short = omega arith; rising = (refl, (tt, tt)) };
      prints = record { id = digest-fits (message (System 2)); active = refl; closed = search (rules, arith, digest-fits); low = omega arith; short = omega arith; rising = (tt, tt) };
      prints_and_answers = record { id = digest-fits (message (System 3)); active = refl; closed = search (rules, arith, digest-fits); low = omega arith; short = omega arith; rising = (tt, tt) };
      falling = λ s. cc s.rising.0;
      one_channel = λ s. cc s.rising.0;
      no_binds = λ s. omega (arith, s.closed.1.0.0.0);
      open_channel = λ s. absurd s.closed.1.0.1.0.1.0.0;
      short_id = λ s. omega (arith, s.id.0);
    }
