-- The scene of a play is lawful.
use Rattle.std.proofs.Common.{◌≡◌, ℕ, List, [], ◌∷◌, ◌++◌, refl, sym, ap, subst, ◌∙◌, inl, inr}
use Rattle.std.proofs.Math.Nat.{min-le_right}
use Rattle.calculus.specs.Rows.{Row}
use Rattle.calculus.specs.Runs.{Deploy, Work}
use Rattle.events.specs.Events.{AreFresh}
use Rattle.events.specs.Found.{Among}
use Rattle.events.proofs.Making.{among}
use Rattle.hub_rule.specs.Counts.{things_of, Each}
use Rattle.hub_rule.specs.Meaning.{Meaning, store_after, taking, Pending, Allowed}
use Rattle.events.specs.Entries.{Space, entries_on, steps_of, price_in}
use Rattle.events.specs.Allowed.{AreAllowed, IdsTell, rows_at_hand}
use Rattle.events.specs.Shards.{changed_rows, Covers}
use Rattle.events.specs.Hands.{HoldShards, rows_of_all, is_in_hand, AreProjections}
use Rattle.events.specs.ShardLaws.{IsShownBy}
use Rattle.events.proofs.ShardHolding.{projections_are_held}
use Rattle.hub_scenes.proofs.Apart.{tell-fewer}
use Rattle.hub_scenes.proofs.Firsts.{first-shown}
use Rattle.events.proofs.Covering.{shown_shards_cover_entries}
use Rattle.events.proofs.Telling.{ids_tell_stored_rows, held_shards_tell_entries, held_shards_tell_exactly}
use Rattle.hub_scenes.specs.Plays.{TouchingEntry, entries_of, most_price, MayBeDrawn, space_after_all, IsPlay}
use Rattle.hub_scenes.specs.PlayScene.{IsShownHere, TellsEntry, Projects, Opens, play_meaning}
use Rattle.hub_scenes.specs.PlayLaws.{PlayIsLawful}
use Rattle.hub_scenes.proofs.Drawing.{plays_are_allowed, untouched, follows}
use Rattle.hub_scenes.proofs.Reaching.{drawn-from, log-plays}
use Rattle.hub_scenes.proofs.Waiting.{all-wait}
use Rattle.hub_scenes.proofs.Owning.{own-entries}

module _ (deploy : Deploy) (source : Work) where
  -- shards that project the space are projections, under fresh digests
  are-projections : (es : List TouchingEntry) (shards : List (ℕ × List Row)) → Each (Projects deploy source es) shards → IsPlay deploy source es → AreFresh deploy (space_after_all deploy source es).made → AreProjections (space_after_all deploy source es).store shards
  are-projections es [] k p f = tt
  are-projections es (s ∷ ss) k p f = (k.0 p f, are-projections es ss k.1 p f)

  -- Entries that might be drawn, after which an operation is pending under fresh digests, with its own entries: what shards in hand tell of one more entry on it is so.
  module _ (es took : List TouchingEntry) (e : TouchingEntry) (shards : List (ℕ × List Row)) (p : IsPlay deploy source es) (each : Each (Projects deploy source es) shards) (tells : TellsEntry deploy shards took e) where
    abbrev space : Space
    space = space_after_all deploy source es

    abbrev o : Row
    o = e.entry.operation

    abbrev rows : List Row
    rows = rows_of_all shards

    allowed : AreAllowed deploy source (entries_of es) space
    allowed = plays_are_allowed deploy source es p

    hold : AreFresh deploy space.made → HoldShards space.store (is_in_hand shards) rows
    hold f = projections_are_held space.store shards (are-projections es shards each p f)

    module _ (pending : AreFresh deploy space.made → Among o space.pending) (own : AreFresh deploy space.made → entries_on o.id (entries_of es) ≡ entries_of took) where
      -- ids tell the rows that the operation may meet in hand
      ids-tell : AreFresh deploy space.made → IdsTell (rows_at_hand rows o)
      ids-tell f = tell-fewer rows space.store o (hold f).stored ((ids_tell_stored_rows deploy source (entries_of es) space allowed f).1 o (pending f))

      shown : AreFresh deploy space.made → IsShownBy deploy rows (steps_of (entries_on o.id (entries_of es))) o e.entry.making
      shown f = go (tells.shown (ids-tell f))
        where
          go : IsShownHere deploy rows (steps_of (entries_of took)) o e.entry.making → IsShownBy deploy rows (steps_of (entries_on o.id (entries_of es))) o e.entry.making
          go (inl k) = subst (λ l. IsShownBy deploy rows (steps_of l) o e.entry.making) (sym (own f)) k
          go (inr k) = first-shown deploy source (entries_of es) space allowed f o (pending f) rows (hold f).stored e.entry.making k

      covered : AreFresh deploy space.made → Covers e.touched (changed_rows space.store o e.entry.making)
      covered f r k m s =
          let ids = (ids_tell_stored_rows deploy source (entries_of es) space allowed f).1 o (pending f) in
          let there = (held_shards_tell_exactly deploy source (entries_of es) space allowed f o (pending f) (is_in_hand shards) rows (hold f) tells.held e.entry.making).0 (shown f) in
          tells.touches k (shown_shards_cover_entries space.store (is_in_hand shards) rows o (hold f) tells.held ids deploy space.made e.entry.making there r k m s)

      pub may-be-drawn : MayBeDrawn deploy space e
      may-be-drawn = record {
        allowed = λ f. held_shards_tell_entries deploy source (entries_of es) space allowed o (pending f) (is_in_hand shards) rows hold tells.held e.entry.making (shown f) f;
        covers = covered;
        cheap = tells.cheap;
      }

  abbrev game : Meaning (List TouchingEntry) TouchingEntry (List Row) Row
  game = play_meaning deploy source

  -- so from the beginning
  told-first : (works : List Row) (log : List (ℕ × TouchingEntry)) (shards : List (ℕ × List Row)) (i : ℕ) (e : TouchingEntry) → Opens deploy source [] works → Allowed game [] works log → Pending game works log i e.entry.operation
      → Each (Projects deploy source (things_of log)) shards → TellsEntry deploy shards (taking game i log) e → MayBeDrawn deploy (space_after_all deploy source (things_of log)) e
  told-first works log shards i e h a pends each tells =
      may-be-drawn (things_of log) (taking game i log) e shards (log-plays deploy source works h log a) each tells
      (λ f. among e.entry.operation (space_after_all deploy source (things_of log)).pending (all-wait deploy source works h log a f i e.entry.operation pends.0 pends.1))
      (λ f. own-entries deploy source works h log a f i e.entry.operation pends.0)

  -- and with the store as the hub has it
  told : (st : List TouchingEntry) (works : List Row) (log : List (ℕ × TouchingEntry)) (shards : List (ℕ × List Row)) (i : ℕ) (e : TouchingEntry) → Opens deploy source st works → Allowed game st works log → Pending game works log i e.entry.operation
      → Each (Projects deploy source (store_after game st (things_of log))) shards → TellsEntry deploy shards (taking game i log) e → MayBeDrawn deploy (space_after_all deploy source (store_after game st (things_of log))) e
  told st works log shards i e h a pends each tells =
      subst (λ s. MayBeDrawn deploy (space_after_all deploy source s) e) (sym same)
      (told-first works log shards i e (refl, h.1, h.2) (subst (λ s. Allowed game s works log) h.0 a) pends (subst (λ s. Each (Projects deploy source s) shards) same each) tells)
    where
      same : store_after game st (things_of log) ≡ things_of log
      same = drawn-from deploy source (things_of log) st ∙ ap (λ s. s ++ things_of log) h.0

pub play_is_lawful : PlayIsLawful
play_is_lawful deploy source = record {
  untouched = λ es e k rows n is. untouched deploy source es e k rows n is;
  projection = λ es e k rows later may hit is to. follows deploy source es e k rows later is to;
  told = λ st works log shards i e h a pends each tells. told deploy source st works log shards i e h a pends each tells;
  cheap = λ e. min-le_right (price_in e.entry.making) most_price;
}
