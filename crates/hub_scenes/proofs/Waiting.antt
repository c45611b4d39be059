-- The operations that are pending are those of works that no entry ended.
use Rattle.std.proofs.Common.{◌≡◌, ℕ, Bool, true, false, ◌&&◌, cond, List, [], ◌∷◌, ◌++◌, refl, sym, ap, subst, ◌∙◌, arith, inl, inr, eqb, eqb-true, eq-eqb, Some, None}
use Rattle.std.specs.Prelude.{◌⊎◌, Option, slice_get}
use Rattle.std.specs.Str.{bytes_eq}
use Rattle.calculus.proofs.Members.{Member, member-left, member-right}
use Rattle.calculus.specs.Rows.{Row}
use Rattle.calculus.specs.Runs.{Deploy, Work}
use Rattle.events.specs.Events.{AreFresh}
use Rattle.events.specs.Found.{without}
use Rattle.events.proofs.Counts.{ids, AreDistinct, bytes_same}
use Rattle.hub_rule.specs.Counts.{one_if, things_of}
use Rattle.hub_rule.specs.Meaning.{Meaning, offered, ended, MayFollow, Allowed}
use Rattle.hub_rule.proofs.Draws.{things_more}
use Rattle.hub_rule.proofs.Offers.{offered_more}
use Rattle.events.specs.Entries.{Space, Making, rows_before, rows_after, space_after, after, offers_in, left_in}
use Rattle.hub_scenes.specs.Plays.{TouchingEntry, ends_work, space_after_all}
use Rattle.hub_scenes.specs.PlayScene.{Opens, play_meaning}
use Rattle.hub_scenes.proofs.Logs.{get_either, ended_snoc, along}
use Rattle.hub_scenes.proofs.Drawing.{space-more, fresh-less}
use Rattle.hub_scenes.proofs.Reaching.{one_index, get_member, space, offered-now, log-plays, offered-once}

-- a row with another id stays, whatever comes between
kept_row : (x : List ℕ) (ps new : List Row) (z : Row) → Member z ps → bytes_eq x z.id ≡ false → Member z (rows_before x ps ++ (new ++ rows_after x ps))
kept_row x [] new z m n = absurd m
kept_row x (r ∷ ps) new z m n = go (kept_row x ps new z) (bytes_eq x r.id) refl m
  where
    go : (Member z ps → bytes_eq x z.id ≡ false → Member z (rows_before x ps ++ (new ++ rows_after x ps))) → (b : Bool) → bytes_eq x r.id ≡ b → Member z (r ∷ ps)
        → Member z (cond b [] (r ∷ rows_before x ps) ++ (new ++ cond b ps (rows_after x ps)))
    go next true d (inl e) = cc (n, d, ap (λ y. bytes_eq x y.id) e)
    go next true d (inr m) = member-right z new ps m
    go next false d (inl e) = inl e
    go next false d (inr m) = inr (next m n)

not-ended : (b c : Bool) → b ≡ true → one_if (b && c) ≡ 0 → c ≡ false
not-ended true true e k = absurd (omega (arith, k))
not-ended true false e k = refl
not-ended false c e k = cc

-- what is left of an operation or offered is pending after the entry
pub new-waits : (s : Space) (o : Row) (x : Option Making) (z : Row) → Member z (left_in o x ++ offers_in x) → Member z (space_after s o x).pending
new-waits s o None z m = absurd m
new-waits s o (Some a) z m = member-right z (rows_before o.id s.pending) _ (member-left z (left_in o (Some a) ++ a.offers) (rows_after o.id s.pending) m)

-- an operation that an entry does not end is pending still
own-left : (o : Row) (x : Option Making) → ends_work o x ≡ false → Member o (left_in o x ++ offers_in x)
own-left o None e = cc
own-left o (Some a) e = member-left o (without a.gone (o ∷ [])) a.offers (subst (λ b. Member o (cond b [] (o ∷ []))) (sym e) (inl refl))

-- another is so too
other-stays : (s : Space) (o : Row) (x : Option Making) (z : Row) → Member z s.pending → bytes_eq o.id z.id ≡ false → Member z (space_after s o x).pending
other-stays s o None z m n = kept_row o.id s.pending [] z m n
other-stays s o (Some a) z m n = kept_row o.id s.pending (left_in o (Some a) ++ a.offers) z m n

module _ (deploy : Deploy) (source : Work) (works : List Row) (h : Opens deploy source [] works) where
  abbrev game : Meaning (List TouchingEntry) TouchingEntry (List Row) Row
  game = play_meaning deploy source

  abbrev now : List (ℕ × TouchingEntry) → Space
  now log = space deploy source log

  pub now-more : (log : List (ℕ × TouchingEntry)) (q : ℕ × TouchingEntry) → now (log ++ q ∷ []) ≡ after (now log) q.1.entry
  now-more log q = ap (space_after_all deploy source) (things_more game log q) ∙ space-more deploy source (things_of log) q.1

  -- digests that are fresh after one more entry were fresh
  pub fresh-then : (log : List (ℕ × TouchingEntry)) (q : ℕ × TouchingEntry) → AreFresh deploy (now (log ++ q ∷ [])).made → AreFresh deploy (now log).made
  fresh-then log q f = fresh-less deploy source (things_of log) q.1 (subst (λ l. AreFresh deploy (space_after_all deploy source l).made) (things_more game log q) f)

  -- no operation is offered twice by a log
  pub offers-differ : (log : List (ℕ × TouchingEntry)) → Allowed game [] works log → AreFresh deploy (now log).made → AreDistinct (ids (offered game works log))
  offers-differ log a f = subst (λ l. AreDistinct (ids l)) (offered-now deploy source works h log) (offered-once deploy source (things_of log) (log-plays deploy source works h log a) f)

  -- each work that no entry ended is pending
  abbrev AllWait : List (ℕ × TouchingEntry) → Type 0
  AllWait log = (i : ℕ) (w : Row) → slice_get (offered game works log) i ≡ Some w → ended game i log ≡ 0 → Member w (now log).pending

  more-wait : (log : List (ℕ × TouchingEntry)) (q : ℕ × TouchingEntry) → Allowed game [] works log → AreFresh deploy (now log).made → MayFollow game [] works log q → AllWait log → AllWait (log ++ q ∷ [])
  more-wait log q a f may all i w e k = subst (λ s. Member w s.pending) (sym (now-more log q)) (go (get_either (offered game works log) (offers_in x) i w (subst (λ l. slice_get l i ≡ Some w) (offered_more game works log q.0 q.1) e)))
    where
      o : Row
      o = q.1.entry.operation

      x : Option Making
      x = q.1.entry.making

      open-then : ended game i log ≡ 0
      open-then = omega (arith, k, ended_snoc game [] works i log q)

      old : slice_get (offered game works log) i ≡ Some w → (b : Bool) → eqb q.0 i ≡ b → Member w (space_after (now log) o x).pending
      old g true d =
          let j : q.0 ≡ i = eqb-true q.0 i d in
          let both : Some w ≡ Some o = sym g ∙ ap (slice_get (offered game works log)) (sym j) ∙ may.0.0 in
          let same : w ≡ o = cc both in
          let ends : ends_work o x ≡ false = not-ended (eqb q.0 i) (ends_work o x) d (omega (arith, k, ended_snoc game [] works i log q)) in
          subst (λ y. Member y (space_after (now log) o x).pending) (sym same) (new-waits (now log) o x o (own-left o x ends))
      old g false d = other-stays (now log) o x w (all i w g open-then) (apart (bytes_eq o.id w.id) refl)
        where
          apart : (b : Bool) → bytes_eq o.id w.id ≡ b → bytes_eq o.id w.id ≡ false
          apart false n = n
          apart true n = cc (d, eq-eqb q.0 i (one_index (offered game works log) (offers-differ log a f) q.0 i o w may.0.0 g (bytes_same o.id w.id n)))

      go : (slice_get (offered game works log) i ≡ Some w) ⊎ ((j : ℕ) × (slice_get (offers_in x) j ≡ Some w)) → Member w (space_after (now log) o x).pending
      go (inl g) = old g (eqb q.0 i) refl
      go (inr g) = new-waits (now log) o x w (member-right w (left_in o x) (offers_in x) (get_member (offers_in x) g.0 w g.1))

  pub all-wait : (log : List (ℕ × TouchingEntry)) → Allowed game [] works log → AreFresh deploy (now log).made → AllWait log
  all-wait log a = along game [] works (λ l. AreFresh deploy (now l).made → AllWait l) log a
      (λ f i w e k. subst (λ l. Member w l) h.2 (get_member works i w e))
      (λ before later q e b may k f. (let g = fresh-then before q f in more-wait before q b g may (k g)))
