-- What the entries and the shards of a hub that has ended come to.
use Rattle.std.proofs.Common.{◌≡◌, ◌≢◌, ℕ, cond, List, [], ◌∷◌, ◌++◌, map as each, sym, ap, subst, ◌∙◌, append-nil, All}
use Rattle.std.specs.Prelude.{ltb, Option, IsPermutation}
use Rattle.calculus.proofs.Permutations.{join, moved_so}
use Rattle.calculus.specs.declared.fault.FaultKind.{FaultKind}
use Rattle.calculus.specs.Form.{IsClosed}
use Rattle.calculus.specs.Rows.{Row, channels}
use Rattle.calculus.specs.Storing.{IsStorable}
use Rattle.calculus.specs.Steps.{stored_rows}
use Rattle.calculus.specs.Runs.{Deploy, Work, work_fault, IsRun, Verdict, done, exhausted}
use Rattle.event_log.specs.View.{step_of}
use Rattle.events.specs.Events.{AreFresh}
use Rattle.events.specs.Found.{Among}
use Rattle.events.specs.Entries.{Space, faults_of, first_fault, total_of, verdict_of as entries_verdict, cost_of}
use Rattle.events.specs.Allowed.{ComesTo}
use Rattle.replays.specs.View.{verdict_of}
use Rattle.shard_tables.specs.Hands.{AreShardsOf, IdsDiffer}
use Rattle.hub_scenes.specs.Plays.{entries_of, space_after_all}
use Rattle.play_hub.specs.declared.entry.PlayEntry.{PlayEntry}
use Rattle.play_hub.specs.Endings.{play_of}
use Rattle.play_outcome.specs.declared.tally.Tally.{Tally}
use Rattle.play_outcome.specs.Tallies.{IsTally}
use Rattle.play_outcome.specs.Runs.{EndedPlay, verdict_at, charge_at, IsRunOf}
use Rattle.play_outcome.proofs.Emptying.{emptied}
use Rattle.play_outcome.proofs.Storing.{each-at, ids-differ, have-channels}

module _ (deploy : Deploy) (source : Work) {X : Type 0} (rows : X → List Row) (es : List PlayEntry) (shards : List X) (x : EndedPlay deploy source (play_of es) (each rows shards))
    (cap total : ℕ) (fault : Option FaultKind) (c : deploy.limit ≡ cap) (p : total_of deploy source (entries_of (play_of es)) ≡ total) (f : work_fault source ≡ fault) (t : Tally) (tallied : IsTally fault es t) where
  abbrev space : Space
  space = space_after_all deploy source (play_of es)

  abbrev comes : ComesTo deploy source (entries_of (play_of es)) (space_after_all deploy source (play_of es))
  comes = x.plays.comes

  verdict-is : entries_verdict deploy source (entries_of (play_of es)) ≡ verdict_at cap total (verdict_of t.verdict)
  verdict-is =
      ap (λ n. cond (ltb n (total_of deploy source (entries_of (play_of es)))) exhausted (first_fault 0 (work_fault source ∷ faults_of (entries_of (play_of es))))) c
      ∙ ap (λ n. cond (ltb cap n) exhausted (first_fault 0 (work_fault source ∷ faults_of (entries_of (play_of es))))) p
      ∙ ap (λ g. cond (ltb cap total) exhausted (first_fault 0 (g ∷ faults_of (entries_of (play_of es))))) f
      ∙ ap (λ v. cond (ltb cap total) exhausted v) (sym tallied.verdict)

  cost-is : cost_of deploy source (entries_of (play_of es)) ≡ charge_at cap total
  cost-is =
      ap (λ n. cond (ltb n (total_of deploy source (entries_of (play_of es)))) n (total_of deploy source (entries_of (play_of es)))) c
      ∙ ap (λ n. cond (ltb cap n) cap n) p

  -- the closed shards are projections of what is stored
  projections : AreShardsOf rows space.store shards
  projections k s g = x.plays.shards k (rows s) (each-at rows shards k s g)

  module _ (v : Verdict) (e : v ≡ verdict_at cap total (verdict_of t.verdict)) (charge : ℕ) (d : charge ≡ charge_at cap total) (closed-process : IsClosed deploy.process) (storable : All IsStorable deploy.rows) (left : List Row)
      (gathered : v ≡ done → (store : List Row) → IdsDiffer store → AreShardsOf rows store shards → ((r : Row) → Among r store → channels r.part ≢ []) → IsPermutation left store) where
    stored : v ≡ done → IsPermutation left space.store
    stored q =
        gathered q space.store (ids-differ deploy source (play_of es) (each rows shards) x) projections
        (have-channels deploy source (play_of es) (each rows shards) x closed-process storable)

    nothing-pending : v ≡ done → space.pending ≡ []
    nothing-pending q = emptied deploy source (play_of es) (each rows shards) x (verdict-is ∙ sym e ∙ q)

    pub closes : IsRunOf deploy (each step_of t.steps.items) v charge left t.output.items
    closes = record {
      fresh = subst (AreFresh deploy) (comes.made ∙ sym tallied.steps) comes.fresh;
      state = comes.state;
      run = subst (λ ss. IsRun deploy ss comes.state) (sym tallied.steps) (x.plays.ends x.ended);
      verdict_is = comes.verdict ∙ verdict-is ∙ sym e;
      cost_is = comes.cost ∙ cost-is ∙ sym d;
      output_is = comes.output ∙ sym tallied.output;
      left = λ q. join (stored q) (moved_so (subst (λ l. IsPermutation (stored_rows comes.state.bag) l) (ap (λ l. space.store ++ l) (nothing-pending q) ∙ append-nil space.store) comes.rows));
    }
