-- Lists of entries that might be drawn, with one more at their end.
use Rattle.std.proofs.Common.{◌≡◌, ℕ, false, List, [], ◌∷◌, ◌++◌, refl, sym, ap, subst, ◌∙◌}
use Rattle.std.specs.Prelude.{IsPermutation}
use Rattle.calculus.specs.Rows.{Row}
use Rattle.calculus.specs.Runs.{Deploy, Work}
use Rattle.events.specs.Events.{AreFresh}
use Rattle.events.specs.Entries.{Space, first_space, after, after_all}
use Rattle.events.specs.Allowed.{AreAllowedFrom}
use Rattle.events.proofs.Growing.{after-both, fresh_digests_were_fresh}
use Rattle.events.specs.Shards.{rows_in, IsProjection}
use Rattle.events.proofs.ShardFollowing.{untouched_shards_stay, projections_follow}
use Rattle.events.proofs.Telling.{ids_tell_stored_rows}
use Rattle.hub_scenes.specs.Plays.{TouchingEntry, entries_of, MayBeDrawn, AreDrawnFrom, space_after_all, IsPlay}
use Rattle.hub_scenes.specs.PlayScene.{MayBecome, Projects}
use Rattle.hub_scenes.specs.PlayLaws.{PlaysAreAllowed}
use Rattle.hub_scenes.proofs.Apart.{apart-in}

pub entries-both : (es fs : List TouchingEntry) → entries_of (es ++ fs) ≡ entries_of es ++ entries_of fs
entries-both [] fs = refl
entries-both (e ∷ es) fs = ap (λ l. e.entry ∷ l) (entries-both es fs)

drawn-more : (deploy : Deploy) (es : List TouchingEntry) (space : Space) (e : TouchingEntry) → AreDrawnFrom deploy space es → MayBeDrawn deploy (after_all space (entries_of es)) e → AreDrawnFrom deploy space (es ++ e ∷ [])
drawn-more deploy [] space e h m = (m, tt)
drawn-more deploy (f ∷ es) space e h m = (h.0, drawn-more deploy es (after space f.entry) e h.1 m)

drawn-less : (deploy : Deploy) (es : List TouchingEntry) (space : Space) (e : TouchingEntry) → AreDrawnFrom deploy space (es ++ e ∷ []) → AreDrawnFrom deploy space es × MayBeDrawn deploy (after_all space (entries_of es)) e
drawn-less deploy [] space e h = (tt, h.0)
drawn-less deploy (f ∷ es) space e h = let r = drawn-less deploy es (after space f.entry) e h.1 in ((h.0, r.0), r.1)

all-allowed : (deploy : Deploy) (es : List TouchingEntry) (space : Space) → AreDrawnFrom deploy space es → AreAllowedFrom deploy space (entries_of es)
all-allowed deploy [] space h = tt
all-allowed deploy (e ∷ es) space h = (h.0.allowed, all-allowed deploy es (after space e.entry) h.1)

pub plays_are_allowed : PlaysAreAllowed
plays_are_allowed deploy source es h = record { begins = h.begins; allowed = all-allowed deploy es (first_space deploy source) h.drawn; is = refl }

module _ (deploy : Deploy) (source : Work) where
  pub space-more : (es : List TouchingEntry) (e : TouchingEntry) → space_after_all deploy source (es ++ e ∷ []) ≡ after (space_after_all deploy source es) e.entry
  space-more es e = ap (after_all (first_space deploy source)) (entries-both es (e ∷ [])) ∙ after-both (entries_of es) (e.entry ∷ []) (first_space deploy source)

  pub play-more : (es : List TouchingEntry) (e : TouchingEntry) → IsPlay deploy source es → MayBeDrawn deploy (space_after_all deploy source es) e → IsPlay deploy source (es ++ e ∷ [])
  play-more es e h m = record { begins = h.begins; drawn = drawn-more deploy es (first_space deploy source) e h.drawn m }

  -- the entries before the last one of a play, and that one
  module _ (es : List TouchingEntry) (e : TouchingEntry) (h : IsPlay deploy source (es ++ e ∷ [])) where
    pub play-less : IsPlay deploy source es
    play-less = record { begins = h.begins; drawn = (drawn-less deploy es (first_space deploy source) e h.drawn).0 }

    pub last-drawn : MayBeDrawn deploy (space_after_all deploy source es) e
    last-drawn = (drawn-less deploy es (first_space deploy source) e h.drawn).1

  pub fresh-less : (es : List TouchingEntry) (e : TouchingEntry) → AreFresh deploy (space_after_all deploy source (es ++ e ∷ [])).made → AreFresh deploy (space_after_all deploy source es).made
  fresh-less es e f = fresh_digests_were_fresh deploy (space_after_all deploy source es) e.entry (subst (λ s. AreFresh deploy s.made) (space-more es e) f)

  -- an entry changes no shard that it does not touch
  pub untouched : (es : List TouchingEntry) (e : TouchingEntry) (k : ℕ) (rows : List Row) → e.touched k ≡ false → Projects deploy source es k rows → Projects deploy source (es ++ e ∷ []) k rows
  untouched es e k rows n is h f =
      let g = fresh-less es e f in
      let stays : rows_in k (space_after_all deploy source (es ++ e ∷ [])).store ≡ rows_in k (space_after_all deploy source es).store =
      ap (λ s. rows_in k s.store) (space-more es e) ∙ untouched_shards_stay (space_after_all deploy source es) e.entry.operation e.entry.making e.touched k ((last-drawn es e h).covers g) n in
      subst (λ l. IsPermutation l rows) (sym stays) (is (play-less es e h) g)

  -- what it makes of a shard is the projection after it
  pub follows : (es : List TouchingEntry) (e : TouchingEntry) (k : ℕ) (rows later : List Row) → Projects deploy source es k rows → MayBecome k e.entry.operation e.entry.making rows later → Projects deploy source (es ++ e ∷ []) k later
  follows es e k rows later is to h f =
      let p = play-less es e h in
      let g = fresh-less es e f in
      let space = space_after_all deploy source es in
      let a = plays_are_allowed deploy source es p in
      let ids = (ids_tell_stored_rows deploy source (entries_of es) space a g).0 in
      let there = ((last-drawn es e h).allowed g).pending in
      let differs = apart-in deploy source (entries_of es) space a g e.entry.operation there k rows (is p g) in
      subst (λ s. IsProjection s.store k later) (sym (space-more es e)) (projections_follow space e.entry.operation e.entry.making k rows later ids (is p g) (to differs))
