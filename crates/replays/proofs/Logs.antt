-- Each log has an answer.
use Rattle.std.proofs.Common.{◌≡◌, refl, sym, ◌∙◌, List, inl, inr}
use Rattle.std.specs.Prelude.{◌⊎◌, Option, Some, None}
use Rattle.calculus.specs.Form.{IsClosed}
use Rattle.calculus.specs.Log.{Step, Header}
use Rattle.calculus.specs.Steps.{meeting}
use Rattle.calculus.specs.Runs.{State, Verdict, done, exhausted, faulted, verdict, Leads, IsEnd}
use Rattle.replays.specs.Replays.{deploy_under, Given, Refusal, no_run, reducible, Answer, refused, replayed, header_refusal, outcome_of, Answers, by_header, by_step, by_rest, by_end}
use Rattle.replays.proofs.Answering.{one_answer}
use Rattle.process_laws.specs.ClosedRowLaws.{AreClosedRows}
use Rattle.replays.specs.RunLaws.{EachLogIsAnswered}
use Rattle.replays.proofs.Leasts.{none-or-least}
use Rattle.replays.proofs.Lists.{LeadsOrStops, ends}
use Rattle.calculus.specs.Candidates.{IsLeastAllowed}

module _ (g : Given) (h : Header) (ss : List Step) (closed : AreClosedRows g.rows) (is : IsClosed g.process) where
  at-end : (a : State) → header_refusal g h ≡ None → Leads (deploy_under h.limit g) ss a → IsEnd g.prices h.limit a → (x : Answer) × Answers g h ss x
  at-end a e l d = (replayed (outcome_of (deploy_under h.limit g) a), by_end e l d)

  at-state : (a : State) → header_refusal g h ≡ None → Leads (deploy_under h.limit g) ss a → (v : Verdict) → verdict g.prices h.limit a ≡ v → (x : Answer) × Answers g h ss x
  at-state a e l exhausted d = at-end a e l (λ f s. absurd (other (sym d ∙ f)))
    where
      other : exhausted ≡ done → ⊥
      other q = cc
  at-state a e l (faulted i k) d = at-end a e l (λ f s. absurd (other (sym d ∙ f)))
    where
      other : faulted i k ≡ done → ⊥
      other q = cc
  at-state a e l done d = go (none-or-least a.bag a.made)
    where
      go : ((s : Step) → meeting a.bag a.made s ≡ None) ⊎ ((s : Step) × IsLeastAllowed a.bag a.made s) → (x : Answer) × Answers g h ss x
      go (inl n) = at-end a e l (λ f s. n s)
      go (inr k) = (refused (reducible k.0.receiver k.0.data_ids), by_rest e l d k.1)

  answered : (o : Option Refusal) → header_refusal g h ≡ o → (x : Answer) × Answers g h ss x
  answered (Some r) e = (refused r, by_header e)
  answered None e = go (ends (deploy_under h.limit g) closed is ss)
    where
      go : LeadsOrStops (deploy_under h.limit g) closed is ss → (x : Answer) × Answers g h ss x
      go (inl k) = at-state k.0 e k.1 (verdict g.prices h.limit k.0) refl
      go (inr k) = (refused (no_run k.0), by_step e k.1)

pub each_log_is_answered : EachLogIsAnswered
each_log_is_answered g h ss closed is =
    let k = answered g h ss closed is (header_refusal g h) refl in
    (k.0, k.1, λ y b. one_answer g h ss k.0 y k.1 b)
