-- The plan of a deploy, from what was played.
use Rattle.std.proofs.Common.{◌≡◌, ◌≤◌, ◌⊎◌, ℕ, List, length, refl, sym, ◌∙◌, ap, subst, arith}
use Rattle.std.proofs.lemmas.List.{length-map}
use Rattle.sha2.specs.Sha256.{sha256}
use Rattle.calculus.specs.Limits.{price_digest}
use Rattle.calculus.specs.Log.{Header, Step, log_text}
use Rattle.calculus.specs.Root.{root}
use Rattle.calculus.specs.Runs.{Deploy, deploy_of}
use Rattle.event_log.specs.View as logged
use Rattle.event_log.specs.View.{step_of}
use Rattle.event_log.specs.declared.log.LogHeader.{LogHeader}
use Rattle.sources.specs.Sources.{IsSourceOf}
use Rattle.replays.specs.View.{verdict_of}
use Rattle.play_outcome.specs.Bases.{IsQuietBase}
use Rattle.play_outcome.specs.Runs.{IsRunOf}
use Rattle.play_outcome.specs.declared.played.Played.{Played}
use Rattle.run_inputs.specs.Given.{task_of, IsBase}
use Rattle.run_inputs.specs.declared.acceptance.Inputs.{Inputs}
use Rattle.run_inputs.specs.declared.fetch.Base.{Base}
use Rattle.recorded_runs.specs.Runs.{Left, header_of, printed, ShowsAClash, IsLeftBySource}
use Rattle.recorded_runs.proofs.Running.{silent}
use Rattle.recorded_runs.specs.Plan.{IsMade, IsPlan}
use Rattle.recorded_runs.specs.declared.deploys.Plan.{Plan}
use Rattle.recorded_runs.proofs.Deploying.{left_or_clash}

-- a deploy may begin with the rows of a state
pub quiet-base : (b : Base) → IsBase b → (digest : List ℕ) → digest ≡ root b.checkpoint → IsQuietBase b.checkpoint digest
quiet-base b is digest e = record { root_is = e; digests = λ k d l. (is.kept.order.storable k d l).id; ids = is.kept.order.ids; quiet = is.kept.quiet }

-- a header of a log names the root of the state, the digests of the source and the prices, and the limit
pub record IsHeaderOf (i : Inputs) (limit : ℕ) (h : LogHeader) : Type 0 where
  pub base_is : h.base.0 ≡ root i.base.checkpoint
  pub source_is : h.source.0 ≡ sha256 i.source.items
  pub prices_is : h.prices.0 ≡ price_digest i.prices
  pub limit_is : h.limit ≡ limit

same-header : (i : Inputs) (limit : ℕ) (h : LogHeader) → IsHeaderOf i limit h → logged.header_of h ≡ header_of i.base.checkpoint (task_of i) limit
same-header i limit h x =
    let made : List ℕ → List ℕ → List ℕ → ℕ → Header = λ b s p l. record { base = b; source = s; prices = p; limit = l } in
    ap (λ (b : List ℕ). made b h.source.0 h.prices.0 h.limit) x.base_is
    ∙ ap (λ (s : List ℕ). made (root i.base.checkpoint) s h.prices.0 h.limit) x.source_is
    ∙ ap (λ (p : List ℕ). made (root i.base.checkpoint) (sha256 i.source.items) p h.limit) x.prices_is
    ∙ ap (λ (l : ℕ). made (root i.base.checkpoint) (sha256 i.source.items) (price_digest i.prices) l) x.limit_is

-- what was played is a run of this deploy, or digests are shown to clash
abbrev pub Plays : Deploy → Played → Type 0
Plays deploy o = IsRunOf deploy (logged.steps_of o.steps.items) (verdict_of o.verdict) o.cost o.rows.items o.output.items ⊎ ShowsAClash deploy (logged.steps_of o.steps.items)

-- what is made from a state is made from its text
pub made_from : {s t : List ℕ} {h : LogHeader} {o : Played} {p : Plan} → s ≡ t → IsMade s h o p → IsMade t h o p
made_from {s} {t} {h} {o} {p} e m = subst (λ u. IsMade u h o p) e m

-- the bytes that are made of it are a plan
pub is_plan : (i : Inputs) (limit : ℕ) (h : LogHeader) (o : Played) (p : Plan) → IsBase i.base → IsSourceOf i.source.items i.term → IsHeaderOf i limit h
    → Plays (deploy_of i.prices limit i.base.checkpoint i.term (sha256 i.source.items)) o → length o.steps.items ≤ 1048608 → IsMade i.base.text.items h o p → IsPlan limit (task_of i) p
is_plan i limit h o p is spelt x played few m =
    let rows = i.base.checkpoint in
    let steps : List Step = logged.steps_of o.steps.items in
    let count : length steps ≡ length o.steps.items = length-map o.steps.items step_of in
    let left : Left = record { steps = steps; next = p.next.items; output = printed (verdict_of o.verdict) o.output.items; report = record { verdict = o.verdict; cost = o.cost; root = m.digest; steps = length o.steps.items } } in
    let run : IsLeftBySource rows (task_of i) limit left = record {
      state = is;
      process = i.term;
      spelt = spelt;
      run = left_or_clash (deploy_of i.prices limit rows i.term (sha256 i.source.items)) steps o.verdict o.cost o.rows.items o.output.items m.digest p.next.items (length o.steps.items) played m.done
          (λ n. ((m.old n).0 ∙ x.base_is, (m.old n).1 ∙ is.text));
      few = omega (arith, count, few);
      readable = m.readable;
      steps = sym count;
      old = λ n. (m.old n).1;
      silent = silent o.verdict o.output.items;
    } in
    record {
      rows = rows;
      left = left;
      run = run;
      log = m.log ∙ ap (λ (g : Header). log_text g steps) (same-header i limit h x);
      next = refl;
      bytes = m.bytes;
      verdict = m.verdict;
    }
