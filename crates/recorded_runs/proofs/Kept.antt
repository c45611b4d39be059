-- The log of a deploy is answered by what the deploy left.
use Rattle.std.proofs.Common.{◌≡◌, ◌∙◌, ◌≤◌, ◌⊎◌, inl, inr, ℕ, List, Option, Some, None, refl, ap}
use Rattle.std.specs.Prelude.{cond, leb, ◌&&◌}
use Rattle.std.proofs.lemmas.Bool.{le-leb}
use Rattle.std.proofs.lemmas.Slice.Eq.{bytes_eq-Decides}
use Rattle.sha2.specs.Sha256.{sha256}
use Rattle.sha2.proofs.Facts256.{length-sha256}
use Rattle.calculus.specs.Limits.{most_limit, price_digest}
use Rattle.calculus.specs.Root.{root}
use Rattle.calculus.specs.Rows.{Row}
use Rattle.calculus.specs.Runs.{Verdict, done, exhausted, faulted, verdict}
use Rattle.calculus.specs.Tree.{Tree}
use Rattle.replays.specs.Replays.{Outcome, Refusal, replayed, header_refusal, unless_equal, wrong_limit, outcome_of, output_of, Answers, by_end}
use Rattle.event_log.specs.Laws.{IsHeader}
use Rattle.event_log.proofs.Written.{written_logs_are_read}
use Rattle.state_reader.proofs.Exact.{root-length}
use Rattle.run_inputs.specs.Inputs.{Task}
use Rattle.recorded_runs.specs.Runs.{header_of, deploy_in, printed, ShowsAClash, IsLeftByRun}
use Rattle.recorded_runs.specs.Replaying.{given_in, IsLeftByOutcome}
use Rattle.recorded_runs.specs.Laws.{KeptLogsAreAnswered}

-- equal digests refuse nothing
same-passes : (x : List ℕ) (r : Refusal) (next : Option Refusal) → unless_equal x x r next ≡ next
same-passes x r next = ap (λ b. cond b next (Some r)) ((bytes_eq-Decides x x).1 refl)

-- a limit in range refuses nothing
in-range : (limit most : ℕ) → 1 ≤ limit → limit ≤ most → cond (leb 1 limit && leb limit most) None (Some (wrong_limit limit most)) ≡ None
in-range limit most l m = ap (λ b. cond (b && leb limit most) None (Some (wrong_limit limit most))) (le-leb 1 limit l) ∙ ap (λ b. cond b None (Some (wrong_limit limit most))) (le-leb limit most m)

-- what is printed of a run is what its outcome printed
printed-out : (v : Verdict) (output : List ℕ) → printed v output ≡ output_of v output
printed-out done output = refl
printed-out exhausted output = refl
printed-out (faulted s k) output = refl

right-header : (rows : List Row) (task : Task) (limit : ℕ) (t : Tree) → 1 ≤ limit → limit ≤ most_limit task.prices → header_refusal (given_in rows task t) (header_of rows task limit) ≡ None
right-header rows task limit t l m =
    same-passes (root rows) _ _ ∙ (same-passes (sha256 task.source) _ _ ∙ (same-passes (price_digest task.prices) _ _ ∙ in-range limit (most_limit task.prices) l m))

pub kept_logs_are_answered : KeptLogsAreAnswered
kept_logs_are_answered rows task limit left l m f s =
    record {
      process = s.process;
      spelt = s.spelt;
      read = written_logs_are_read (header_of rows task limit) left.steps header s.readable s.few;
      right = right;
      answer = go s.run;
    }
  where
    header : IsHeader (header_of rows task limit)
    header = record { base = root-length rows; source = length-sha256 task.source; prices = length-sha256 _; limit = f }

    right : header_refusal (given_in rows task s.process) (header_of rows task limit) ≡ None
    right = right-header rows task limit s.process l m

    go : IsLeftByRun (deploy_in rows task limit s.process) left ⊎ ShowsAClash (deploy_in rows task limit s.process) left.steps
        → ((outcome : Outcome) × (Answers (given_in rows task s.process) (header_of rows task limit) left.steps (replayed outcome) × IsLeftByOutcome outcome left)) ⊎ ShowsAClash (deploy_in rows task limit s.process) left.steps
    go (inr c) = inr c
    go (inl r) =
        inl (
          outcome_of (deploy_in rows task limit s.process) r.state,
          (
            by_end right r.run.leads r.run.ends,
            record {
              verdict_is = r.verdict_is;
              cost_is = r.cost_is;
              root_is = r.root_is;
              next_is = r.next_is;
              output_is = r.output_is ∙ printed-out (verdict (deploy_in rows task limit s.process).prices (deploy_in rows task limit s.process).limit r.state) r.state.output;
            },
          ),
        )
