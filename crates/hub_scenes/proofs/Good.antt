-- What holds of the space of a replay beside the state that events led to.
use Rattle.std.proofs.Common.{◌≡◌, ℕ, List, ◌++◌, length}
use Rattle.std.specs.Prelude.{true, Option, Some, None, count_by, ◌∷◌}
use Rattle.calculus.specs.Log.{Step}
use Rattle.calculus.specs.Rows.{Row, channels}
use Rattle.calculus.specs.Steps.{Bag, standing}
use Rattle.calculus.proofs.Members.{Member}
use Rattle.racing_replays.specs.Counted.{names_id}
use Rattle.hub_scenes.specs.Spaces.{SeenRow, NewRow, IndexTry, DidStep, Space, steps_did}

-- a done step offered a row
pub record OfferedIn (ds : List DidStep) (r : Row) (i : ℕ) : Type 0 where
  pub did : DidStep
  pub there : Member did ds
  pub index : did.index ≡ i
  pub row : Member r did.offers

-- a row is one of the first bag, or was offered by this step
abbrev pub ComesBy : Bag → List DidStep → Row → Option ℕ → Type 0
ComesBy b ds r None = Member r (standing b)
ComesBy b ds r (Some i) = OfferedIn ds r i

pub record Good (b : Bag) (st : Space) : Type 0 where
  pub counts : (q : SeenRow) → Member q (st.store ++ st.built) → q.done ≡ count_by (names_id q.row.id) (steps_did st.done)
  pub origin : (q : SeenRow) → Member q (st.store ++ st.built) → ComesBy b st.done q.row q.from
  pub origins : (a : NewRow) → Member a st.arriving → ComesBy b st.done a.row a.from

-- a try is on a channel of a row that there once was, and its step names the row
pub record GoodTry (b : Bag) (ss : List Step) (st : Space) (t : IndexTry) : Type 0 where
  pub row : Row
  pub from : Option ℕ
  pub comes : ComesBy b st.done row from
  pub channel : Member t.channel (channels row.part)
  pub named : (before : List Step) (s : Step) (after : List Step) → ss ≡ before ++ s ∷ after → length before ≡ t.index → names_id row.id s ≡ true
