-- What is known of a replay whose header is right, and what its workers left.
use Rattle.std.proofs.Common.{◌≡◌, ◌≤◌, ◌^◌, true, List, [], ◌∷◌, length, map, refl, sym, ap, subst, inl, inr}
use Rattle.std.specs.Prelude.{◌⊎◌, All, None, Result, Ok, Err, IsErrAnd}
use Rattle.std.proofs.lemmas.List.Elements.{All-nil, All-cons, All-head, All-tail}
use Rattle.calculus.specs.Form.{IsBytes, IsClosed, IsDigest}
use Rattle.calculus.specs.Log.{Step, Header}
use Rattle.calculus.specs.Rows.{Row}
use Rattle.calculus.specs.Runs.{Deploy, Work}
use Rattle.calculus.specs.Steps.{differ}
use Rattle.calculus.specs.Storing.{IsStorable}
use Rattle.calculus.specs.Tree.{Tree}
use Rattle.replay_hub.specs.Values.{entry_of}
use Rattle.events.specs.Numbers.{IsNumberable}
use Rattle.process_laws.specs.StorableLaws.{AreStorable}
use Rattle.replays.specs.Replays.{Given, header_refusal, deploy_under}
use Rattle.racing_replays.specs.Answering.{SomeClash}
use Rattle.hub_scenes.specs.Closing.{DecideLog}
use Rattle.hub_scenes.specs.Entries.{did_by}
use Rattle.hub_scenes.specs.Spaces.{DidStep, Part}
use Rattle.replays.specs.declared.fault.ReplayFault.{ReplayFault}
use Rattle.replays.specs.declared.fault.ReplayFault.TheVariants.{NoMemory}
use Rattle.replay_answers.specs.Answers.{Clashes, IsAnswered}
use Rattle.replay_answers.specs.Bases.{ids_of}
use Rattle.replay_answers.specs.declared.replayed.Replayed.{Replayed}
use Rattle.replay_answers.proofs.Clashing.{some-clash}
use Rattle.replay_runs.specs.Endings.{HasRaced, IsSound}
use Rattle.replay_runs.specs.declared.ending.Raced.{Raced}
use Rattle.replay_runs.specs.Racing.{IsRaced}

all-digests : (rows : List Row) → AreStorable rows → All (λ r. IsDigest r.id) rows
all-digests [] h = All-nil (λ r. IsDigest r.id)
all-digests (r ∷ rows) h = All-cons (λ q. IsDigest q.id) r rows (All-head IsStorable r rows h).id (all-digests rows (All-tail IsStorable r rows h))

pub sound : (g : Given) (h : Header) (ss : List Step) → header_refusal g h ≡ None → AreStorable g.rows → differ (ids_of g.rows) ≡ true → IsClosed g.process → IsNumberable g.process → length ss ≤ 2 ^ 32 → IsBytes g.source → IsSound g h ss
sound g h ss right storable ids closed numberable few bytes = record {
  right = right;
  storable = storable;
  ids = ids;
  closed = closed;
  fits = record { numberable = numberable; steps_fit = few; ids_fit = all-digests g.rows storable; source_fits = bytes };
}

-- what the entries that workers drew did
abbrev did : Raced → List DidStep
did r = did_by (map (entry_of (λ (q : Row). q) (λ (t : Tree). t)) r.entries.items)

-- what workers left, with a clash as one of the log
pub has-raced : (g : Given) (h : Header) (ss : List Step) (r : Raced) → IsRaced (deploy_under h.limit g) ss r → HasRaced g h ss r
has-raced g h ss r x = record { work = x.work; price = x.price; fault = x.fault; decides = go x.decides }
  where
    go : DecideLog (deploy_under h.limit g) x.work ss (did r) r.shards.items ⊎ SomeClash (deploy_under h.limit g) x.work ss → DecideLog (deploy_under h.limit g) x.work ss (did r) r.shards.items ⊎ Clashes (deploy_under h.limit g) ss
    go (inl d) = inl d
    go (inr c) = inr (some-clash (deploy_under h.limit g) x.work ss x.unfolds c)

-- want of memory says nothing
pub no-memory : (g : Given) (h : Header) (ss : List Step) (r : Result Replayed ReplayFault) → IsErrAnd r (λ e. e ≡ NoMemory) → IsAnswered g h ss r
no-memory g h ss (Ok r) f = absurd f
no-memory g h ss (Err e) f = subst (λ (z : ReplayFault). IsAnswered g h ss (Err z)) (sym f) tt

-- what decides a log, told of the shards themselves
pub plain-shards : (deploy : Deploy) (w : Work) (ss : List Step) (ds : List DidStep) (xs : List Part) → DecideLog deploy w ss ds (map (λ x. x) xs) ⊎ SomeClash deploy w ss → DecideLog deploy w ss ds xs ⊎ SomeClash deploy w ss
plain-shards deploy w ss ds xs h = subst (λ (l : List Part). DecideLog deploy w ss ds l ⊎ SomeClash deploy w ss) (same xs) h
  where
    same : (ys : List Part) → map (λ y. y) ys ≡ ys
    same [] = refl
    same (y ∷ ys) = ap (λ l. y ∷ l) (same ys)
