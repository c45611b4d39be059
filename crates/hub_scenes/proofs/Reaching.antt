-- What the log of a hub over the scene of a play leads to.
use Rattle.std.proofs.Common.{◌≡◌, ℕ, zero, suc, List, [], ◌∷◌, ◌++◌, refl, sym, ap, subst, ◌∙◌, arith, inl, inr, append_assoc, append-nil, Some, None}
use Rattle.std.specs.Prelude.{Option, slice_get}
use Rattle.calculus.proofs.Members.{Member}
use Rattle.calculus.specs.Rows.{Row}
use Rattle.calculus.specs.Runs.{Deploy, Work}
use Rattle.events.specs.Events.{AreFresh, first_ids}
use Rattle.events.proofs.Counts.{ids, one_if, AreDistinct, differ-distinct, member-times, same_bytes, times-append}
use Rattle.events.proofs.EventFollowing.{all-distinct}
use Rattle.events.proofs.EventStanding.{ids-times}
use Rattle.hub_rule.specs.Counts.{things_of}
use Rattle.hub_rule.specs.Meaning.{store_after, offered, Allowed}
use Rattle.hub_rule.proofs.Draws.{things_more}
use Rattle.events.specs.Entries.{Space, first_space, Making, space_after, after, after_all, offers_in}
use Rattle.events.specs.Allowed.{core_of}
use Rattle.events.proofs.EntryHolding.{held}
use Rattle.events.proofs.Queued.{allowed_entries_reach, offered_ids_differ}
use Rattle.hub_scenes.specs.Plays.{TouchingEntry, entries_of, MayBeDrawn, space_after_all, IsPlay}
use Rattle.hub_scenes.specs.PlayScene.{Opens, play_meaning}
use Rattle.hub_scenes.proofs.Logs.{along}
use Rattle.hub_scenes.proofs.Drawing.{plays_are_allowed, play-more}

-- what stands at a place is a member
pub get_member : {A : Type 0} (xs : List A) (i : ℕ) (a : A) → slice_get xs i ≡ Some a → Member a xs
get_member [] i a e = cc
get_member (x ∷ xs) zero a e = inl (let q : x ≡ a = cc e in sym q)
get_member (x ∷ xs) (suc i) a e = inr (get_member xs i a e)

-- where no id stands twice, rows at two places have two ids
pub one_index : (xs : List Row) → AreDistinct (ids xs) → (i j : ℕ) (a b : Row) → slice_get xs i ≡ Some a → slice_get xs j ≡ Some b → a.id ≡ b.id → i ≡ j
one_index [] d i j a b e f s = cc
one_index (x ∷ xs) d zero zero a b e f s = refl
one_index (x ∷ xs) d zero (suc j) a b e f s =
    let q : x ≡ a = cc e in
    let same : b.id ≡ x.id = sym (ap (λ r. r.id) q ∙ s) in
    absurd (omega (arith, d b.id, member-times b xs (get_member xs j b f), ap one_if (same_bytes b.id x.id same)))
one_index (x ∷ xs) d (suc i) zero a b e f s =
    let q : x ≡ b = cc f in
    let same : a.id ≡ x.id = s ∙ sym (ap (λ r. r.id) q) in
    absurd (omega (arith, d a.id, member-times a xs (get_member xs i a e), ap one_if (same_bytes a.id x.id same)))
one_index (x ∷ xs) d (suc i) (suc j) a b e f s = ap suc (one_index xs (λ y. omega (arith, d y)) i j a b e f s)

offered-by : (space : Space) (o : Row) (x : Option Making) → (space_after space o x).offered ≡ space.offered ++ offers_in x
offered-by space o None = sym (append-nil space.offered)
offered-by space o (Some a) = refl

module _ (deploy : Deploy) (source : Work) where
  -- the store of the scene is the list of entries
  pub drawn-from : (es st : List TouchingEntry) → store_after (play_meaning deploy source) st es ≡ st ++ es
  drawn-from [] st = sym (append-nil st)
  drawn-from (e ∷ es) st = drawn-from es (st ++ e ∷ []) ∙ append_assoc st (e ∷ []) es

  -- the space after a log
  abbrev pub space : List (ℕ × TouchingEntry) → Space
  space log = space_after_all deploy source (things_of log)

  offered-from : (log : List (ℕ × TouchingEntry)) (s : Space) (ws : List Row) → s.offered ≡ ws → (after_all s (entries_of (things_of log))).offered ≡ offered (play_meaning deploy source) ws log
  offered-from [] s ws e = e
  offered-from (q ∷ log) s ws e =
      offered-from log (after s q.1.entry) (ws ++ offers_in q.1.entry.making) (offered-by s q.1.entry.operation q.1.entry.making ∙ ap (λ l. l ++ offers_in q.1.entry.making) e)

  -- what was offered are all works
  pub offered-now : (works : List Row) → Opens deploy source [] works → (log : List (ℕ × TouchingEntry)) → (space log).offered ≡ offered (play_meaning deploy source) works log
  offered-now works h log = offered-from log (first_space deploy source) works (sym h.2)

  -- the entries of an allowed log might be drawn one after another
  pub log-plays : (works : List Row) → Opens deploy source [] works → (log : List (ℕ × TouchingEntry)) → Allowed (play_meaning deploy source) [] works log → IsPlay deploy source (things_of log)
  log-plays works h log a = along (play_meaning deploy source) [] works (λ l. IsPlay deploy source (things_of l)) log a
      (record { begins = h.1; drawn = tt })
      (λ before later q e b may k. subst (IsPlay deploy source) (sym (things_more (play_meaning deploy source) before q))
      (play-more deploy source (things_of before) q.1 k (subst (λ l. MayBeDrawn deploy (space_after_all deploy source l) q.1) (drawn-from (things_of before) []) may.1)))

  -- no operation is offered twice
  pub offered-once : (es : List TouchingEntry) → IsPlay deploy source es → AreFresh deploy (space_after_all deploy source es).made → AreDistinct (ids (space_after_all deploy source es).offered)
  offered-once es p f x =
      let s = space_after_all deploy source es in
      let d = offered_ids_differ deploy s (allowed_entries_reach deploy source (entries_of es) s (plays_are_allowed deploy source es p) f) f in
      omega (arith, differ-distinct (first_ids deploy.rows ++ ids s.offered) d x, times-append x (first_ids deploy.rows) (ids s.offered))

  -- none is pending twice
  pub pending-once : (es : List TouchingEntry) → IsPlay deploy source es → AreFresh deploy (space_after_all deploy source es).made → AreDistinct (ids (space_after_all deploy source es).pending)
  pending-once es p f x =
      let s = space_after_all deploy source es in
      let h = held deploy source (entries_of es) s (plays_are_allowed deploy source es p) f in
      omega (arith, ids-times x s.store s.pending, h.kept.counts x, all-distinct deploy (core_of s (source ∷ h.bodies)) h.kept f x)
