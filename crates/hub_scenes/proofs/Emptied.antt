-- Where each work is ended, no operation is pending.
use Rattle.std.proofs.Common.{◌≡◌, ℕ, zero, suc, ◌≤◌, ◌<◌, Bool, true, false, ◌&&◌, cond, List, [], ◌∷◌, ◌++◌, length, refl, sym, ap, subst, ◌∙◌, arith, inl, inr, eqb, eqb-true, length-append, Some, None}
use Rattle.std.specs.Prelude.{◌⊎◌, Option, slice_get}
use Rattle.std.specs.Str.{bytes_eq}
use Rattle.calculus.proofs.Members.{Member, member-split, member-left, member-right}
use Rattle.calculus.specs.Rows.{Row}
use Rattle.calculus.specs.Steps.{is_one_of}
use Rattle.calculus.specs.Runs.{Deploy, Work}
use Rattle.events.specs.Events.{AreFresh}
use Rattle.events.specs.Found.{without}
use Rattle.events.proofs.Counts.{ids, times, one_if as once_if, AreDistinct, member-times, same_bytes}
use Rattle.events.proofs.EventStanding.{ids-times}
use Rattle.hub_rule.specs.Counts.{one_if, things_of}
use Rattle.hub_rule.specs.Meaning.{Meaning, offered, ended, MayFollow, Allowed}
use Rattle.hub_rule.proofs.Offers.{offered_more}
use Rattle.events.specs.Entries.{Space, Making, rows_before, rows_after, space_after, offers_in}
use Rattle.hub_scenes.specs.Plays.{TouchingEntry, ends_work}
use Rattle.hub_scenes.specs.PlayScene.{Opens, play_meaning}
use Rattle.hub_scenes.proofs.Logs.{ended_snoc, still_offered, along}
use Rattle.hub_scenes.proofs.Reaching.{space, log-plays, pending-once}
use Rattle.hub_scenes.proofs.Waiting.{now-more, fresh-then, all-wait}

-- a member stands at some place
place_of : {A : Type 0} (xs : List A) (a : A) → Member a xs → (i : ℕ) × (slice_get xs i ≡ Some a)
place_of [] a m = absurd m
place_of (x ∷ xs) a (inl e) = (zero, ap (λ z. Some z) (sym e))
place_of (x ∷ xs) a (inr m) = let k = place_of xs a m in (suc k.0, k.1)

-- what stands in the second list stands further on in both
get_past : {A : Type 0} (xs ys : List A) (i : ℕ) (a : A) → slice_get ys i ≡ Some a → (j : ℕ) × (slice_get (xs ++ ys) j ≡ Some a) × (length xs ≤ j)
get_past [] ys i a e = (i, e, omega arith)
get_past (x ∷ xs) ys i a e = let k = get_past xs ys i a e in (suc k.0, k.1, omega (arith, k.2))

pub below-length : {A : Type 0} (xs : List A) (i : ℕ) (a : A) → slice_get xs i ≡ Some a → i < length xs
below-length [] i a e = cc
below-length (x ∷ xs) zero a e = omega arith
below-length (x ∷ xs) (suc i) a e = omega (arith, below-length xs i a e)

-- a row that is there once stands between those before it and those after it
parts_of : (o : Row) (ps : List Row) → AreDistinct (ids ps) → Member o ps → ps ≡ rows_before o.id ps ++ o ∷ rows_after o.id ps
parts_of o [] d m = absurd m
parts_of o (r ∷ ps) d m = go (parts_of o ps (λ x. omega (arith, d x))) (bytes_eq o.id r.id) refl m
  where
    go : (Member o ps → ps ≡ rows_before o.id ps ++ o ∷ rows_after o.id ps) → (b : Bool) → bytes_eq o.id r.id ≡ b → Member o (r ∷ ps)
        → r ∷ ps ≡ cond b [] (r ∷ rows_before o.id ps) ++ o ∷ cond b ps (rows_after o.id ps)
    go next true k (inl e) = ap (λ y. y ∷ ps) (sym e)
    go next true k (inr m) = absurd (omega (arith, d o.id, member-times o ps m, ap once_if k))
    go next false k (inl e) = cc (k, same_bytes o.id r.id (ap (λ y. y.id) e))
    go next false k (inr m) = ap (λ l. r ∷ l) (next m)

-- a row that is pending after an entry: the operation that stays, another that was pending, or one that is offered
data Waits (s : Space) (o : Row) (x : Option Making) (z : Row) : Type 0 where
  itself : z ≡ o → ends_work o x ≡ false → Waits s o x z
  another : Member z (rows_before o.id s.pending ++ rows_after o.id s.pending) → Waits s o x z
  new : Member z (offers_in x) → Waits s o x z

waits_by : (s : Space) (o : Row) (x : Option Making) (z : Row) → Member z (space_after s o x).pending → Waits s o x z
waits_by s o None z m = another m
waits_by s o (Some a) z m = outer (member-split z (rows_before o.id s.pending) ((without a.gone (o ∷ []) ++ a.offers) ++ rows_after o.id s.pending) m)
  where
    stays : (b : Bool) → is_one_of o.id a.gone ≡ b → Member z (cond b [] (o ∷ [])) → Waits s o (Some a) z
    stays true d m = absurd m
    stays false d (inl e) = itself e d
    stays false d (inr m) = absurd m

    inner : Member z (without a.gone (o ∷ [])) ⊎ Member z a.offers → Waits s o (Some a) z
    inner (inl m) = stays (is_one_of o.id a.gone) refl m
    inner (inr m) = new m

    middle : Member z (without a.gone (o ∷ []) ++ a.offers) ⊎ Member z (rows_after o.id s.pending) → Waits s o (Some a) z
    middle (inl m) = inner (member-split z (without a.gone (o ∷ [])) a.offers m)
    middle (inr m) = another (member-right z (rows_before o.id s.pending) (rows_after o.id s.pending) m)

    outer : Member z (rows_before o.id s.pending) ⊎ Member z ((without a.gone (o ∷ []) ++ a.offers) ++ rows_after o.id s.pending) → Waits s o (Some a) z
    outer (inl m) = another (member-left z (rows_before o.id s.pending) (rows_after o.id s.pending) m)
    outer (inr m) = middle (member-split z (without a.gone (o ∷ []) ++ a.offers) (rows_after o.id s.pending) m)

-- a row beside the operation was pending and has another id
beside : (o : Row) (ps : List Row) (z : Row) → AreDistinct (ids ps) → ps ≡ rows_before o.id ps ++ o ∷ rows_after o.id ps → Member z (rows_before o.id ps ++ rows_after o.id ps) → Member z ps × (z.id ≡ o.id → ⊥)
beside o ps z d e m = (
  subst (λ l. Member z l) (sym e) (go (member-split z (rows_before o.id ps) (rows_after o.id ps) m)),
  (λ s. omega (
    arith,
    d o.id,
    ap (λ l. times o.id (ids l)) e,
    ids-times o.id (rows_before o.id ps) (o ∷ rows_after o.id ps),
    ids-times o.id (rows_before o.id ps) (rows_after o.id ps),
    ap once_if (same_bytes o.id o.id refl),
    subst (λ x. 1 ≤ times x (ids (rows_before o.id ps ++ rows_after o.id ps))) s (member-times z (rows_before o.id ps ++ rows_after o.id ps) m),
  )),
)
  where
    go : Member z (rows_before o.id ps) ⊎ Member z (rows_after o.id ps) → Member z (rows_before o.id ps ++ o ∷ rows_after o.id ps)
    go (inl k) = member-left z (rows_before o.id ps) (o ∷ rows_after o.id ps) k
    go (inr k) = member-right z (rows_before o.id ps) (o ∷ rows_after o.id ps) (inr k)

not-one : (b c : Bool) → (b ≡ true → ⊥) → one_if (b && c) ≡ 0
not-one true c n = absurd (n refl)
not-one false c n = refl

no-end : (b c : Bool) → c ≡ false → one_if (b && c) ≡ 0
no-end true true e = cc
no-end true false e = refl
no-end false c e = refl

module _ (deploy : Deploy) (source : Work) (works : List Row) (h : Opens deploy source [] works) where
  abbrev game : Meaning (List TouchingEntry) TouchingEntry (List Row) Row
  game = play_meaning deploy source

  abbrev now : List (ℕ × TouchingEntry) → Space
  now log = space deploy source log

  -- a work that was not offered yet is not ended
  unoffered : (log : List (ℕ × TouchingEntry)) → Allowed game [] works log → (i : ℕ) → length (offered game works log) ≤ i → ended game i log ≡ 0
  unoffered log a = along game [] works (λ l. (i : ℕ) → length (offered game works l) ≤ i → ended game i l ≡ 0) log a (λ i le. refl)
      (λ before later q e b may k i le. go before q may k i (omega (arith, le, grown before q)))
    where
      grown : (before : List (ℕ × TouchingEntry)) (q : ℕ × TouchingEntry) → length (offered game works before) ≤ length (offered game works (before ++ q ∷ []))
      grown before q = subst (λ l. length (offered game works before) ≤ length l) (sym (offered_more game works before q.0 q.1)) (omega (arith, length-append (offered game works before) (offers_in q.1.entry.making)))

      go : (before : List (ℕ × TouchingEntry)) (q : ℕ × TouchingEntry) → MayFollow game [] works before q → ((i : ℕ) → length (offered game works before) ≤ i → ended game i before ≡ 0) → (i : ℕ) → length (offered game works before) ≤ i → ended game i (before ++ q ∷ []) ≡ 0
      go before q may k i le =
          ended_snoc game [] works i before q
          ∙ omega (arith, k i le, not-one (eqb q.0 i) (ends_work q.1.entry.operation q.1.entry.making) (λ d. (let s = eqb-true q.0 i d in omega (arith, below-length (offered game works before) q.0 q.1.entry.operation may.0.0, le, s))))

  -- a pending operation is that of a work that no entry ended
  record IsOpen (log : List (ℕ × TouchingEntry)) (z : Row) : Type 0 where
    index : ℕ
    there : slice_get (offered game works log) index ≡ Some z
    still : ended game index log ≡ 0

  open-more : (log : List (ℕ × TouchingEntry)) (q : ℕ × TouchingEntry) → Allowed game [] works log → AreFresh deploy (now log).made → MayFollow game [] works log q → ((z : Row) → Member z (now log).pending → IsOpen log z)
      → (z : Row) → Waits (now log) q.1.entry.operation q.1.entry.making z → IsOpen (log ++ q ∷ []) z
  open-more log q a f may k z (itself same ends) = record {
    index = q.0;
    there = still_offered game [] works log (q ∷ []) q.0 z (may.0.0 ∙ ap (λ x. Some x) (sym same));
    still = ended_snoc game [] works q.0 log q ∙ omega (arith, may.0.1, no-end (eqb q.0 q.0) (ends_work q.1.entry.operation q.1.entry.making) ends);
  }
  open-more log q a f may k z (another m) =
      let o = q.1.entry.operation in
      let w : Member o (now log).pending = all-wait deploy source works h log a f q.0 o may.0.0 may.0.1 in
      let d = pending-once deploy source (things_of log) (log-plays deploy source works h log a) f in
      let b = beside o (now log).pending z d (parts_of o (now log).pending d w) m in
      let i = k z b.0 in
      record {
        index = i.index;
        there = still_offered game [] works log (q ∷ []) i.index z i.there;
        still = ended_snoc game [] works i.index log q ∙ omega (
          arith,
          i.still,
          not-one (eqb q.0 i.index) (ends_work o q.1.entry.making)
              (λ e. b.1 (let both : Some z ≡ Some o = sym i.there ∙ ap (slice_get (offered game works log)) (sym (eqb-true q.0 i.index e)) ∙ may.0.0 in let same : z ≡ o = cc both in ap (λ (x : Row). x.id) same)),
        );
      }
  open-more log q a f may k z (new m) =
      let i = place_of (offers_in q.1.entry.making) z m in
      let j = get_past (offered game works log) (offers_in q.1.entry.making) i.0 z i.1 in
      record {
        index = j.0;
        there = ap (λ l. slice_get l j.0) (offered_more game works log q.0 q.1) ∙ j.1;
        still = ended_snoc game [] works j.0 log q ∙ omega (
          arith,
          unoffered log a j.0 j.2,
          not-one (eqb q.0 j.0) (ends_work q.1.entry.operation q.1.entry.making)
              (λ e. (let s = eqb-true q.0 j.0 e in omega (arith, s, j.2, below-length (offered game works log) q.0 q.1.entry.operation may.0.0))),
        );
      }

  all-open : (log : List (ℕ × TouchingEntry)) → Allowed game [] works log → AreFresh deploy (now log).made → (z : Row) → Member z (now log).pending → IsOpen log z
  all-open log a = along game [] works (λ l. AreFresh deploy (now l).made → (z : Row) → Member z (now l).pending → IsOpen l z) log a
      (λ f z m. (let i = place_of works z (subst (λ l. Member z l) (sym h.2) m) in record { index = i.0; there = i.1; still = refl }))
      (λ before later q e b may k f z m. (let g = fresh-then deploy source works h before q f in
      open-more before q b g may (k g) z (waits_by (now before) q.1.entry.operation q.1.entry.making z (subst (λ s. Member z s.pending) (now-more deploy source works h before q) m))))

  -- where each work is ended, nothing is pending
  pub nothing-waits : (log : List (ℕ × TouchingEntry)) → Allowed game [] works log → AreFresh deploy (now log).made
      → ((i : ℕ) (w : Row) → slice_get (offered game works log) i ≡ Some w → 1 ≤ ended game i log) → (now log).pending ≡ []
  nothing-waits log a f over = go (now log).pending (all-open log a f)
    where
      go : (ps : List Row) → ((z : Row) → Member z ps → IsOpen log z) → ps ≡ []
      go [] k = refl
      go (z ∷ ps) k = absurd (let i = k z (inl refl) in omega (arith, i.still, over i.index z i.there))
