-- What is kept of rows tells whether it is a step's turn.
use Rattle.std.proofs.Common.{◌≡◌, ◌≤◌, ℕ, true, false, List, [], ◌∷◌, length, refl, ap, sym, ◌∙◌, subst, arith, inl, inr}
use Rattle.std.specs.Prelude.{◌⊎◌, ◌↔◌, count_by, Option, Some, None}
use Rattle.calculus.specs.Log.{Step}
use Rattle.calculus.specs.Rows.{Row}
use Rattle.calculus.specs.Steps.{Bag, standing, is_one_of}
use Rattle.calculus.proofs.Members.{Member}
use Rattle.events.proofs.Counts.{ids, times, AreDistinct, member-times, times-one_of, one_of-times}
use Rattle.events.proofs.EventStanding.{ids-times}
use Rattle.racing_replays.specs.Replaying.{DoneStep, done_steps, rows_by, is_done, names, ids_before, is_due, all_done, ids_of}
use Rattle.racing_replays.specs.Laws.{first_bag}
use Rattle.racing_replays.specs.Counted.{names_id}
use Rattle.racing_replays.proofs.Due.{due-parts, due-whole, GivenBy, given-by, by-given, all-at, all-from}
use Rattle.racing_replays.proofs.Ledger.{one-here, one-first, one-next}
use Rattle.racing_replays.proofs.Keeping.{offers, universe}
use Rattle.racing_replays.proofs.Agreeing.{fresh-rows}
use Rattle.racing_replays.proofs.Turns.{uses_are_counted}
use Rattle.replay_space.specs.Kept.{SeenRow, bare, Has, Throughout, ComesFrom, IsSeen, IsFromBelow, IsTheirTurn, SeenTellTurns}

pub has-member : {A : Type 0} (x : A) (xs : List A) → Has x xs → Member x xs
has-member x [] h = absurd h
has-member x (y ∷ ys) (inl e) = inl e
has-member x (y ∷ ys) (inr h) = inr (has-member x ys h)

offered-in : (x : List ℕ) (ds : List DoneStep) (d : DoneStep) → Member d ds → times x (ids (rows_by d)) ≤ times x (ids (offers ds))
offered-in x [] d m = absurd m
offered-in x (e ∷ ds) d (inl s) = omega (arith, ids-times x (rows_by e) (offers ds), ap (λ y. times x (ids (rows_by y))) s)
offered-in x (e ∷ ds) d (inr m) = omega (arith, ids-times x (rows_by e) (offers ds), offered-in x ds d m)

-- where an id is offered once, one done step offers it
one-offerer : (x : List ℕ) (ds : List DoneStep) → times x (ids (offers ds)) ≤ 1 → (d e : DoneStep) → Member d ds → Member e ds → 1 ≤ times x (ids (rows_by d)) → 1 ≤ times x (ids (rows_by e)) → d ≡ e
one-offerer x [] h d e m n i j = absurd m
one-offerer x (y ∷ ds) h d e (inl s) (inl v) i j = s ∙ sym v
one-offerer x (y ∷ ds) h d e (inl s) (inr n) i j = absurd (omega (arith, h, ids-times x (rows_by y) (offers ds), ap (λ z. times x (ids (rows_by z))) s, i, j, offered-in x ds e n))
one-offerer x (y ∷ ds) h d e (inr m) (inl v) i j = absurd (omega (arith, h, ids-times x (rows_by y) (offers ds), ap (λ z. times x (ids (rows_by z))) v, i, j, offered-in x ds d m))
one-offerer x (y ∷ ds) h d e (inr m) (inr n) i j = one-offerer x ds (omega (arith, h, ids-times x (rows_by y) (offers ds))) d e m n i j

module _ (b : Bag) (ds : List DoneStep) (unique : AreDistinct (ids (universe b ds))) where
  given-lower : (z : Row) (from : Option ℕ) (i : ℕ) → ComesFrom b ds z from → IsFromBelow from i → GivenBy b i ds z.id
  given-lower z None i h l = inl (times-one_of z.id (ids (standing b)) (member-times z (standing b) (has-member z (standing b) h)))
  given-lower z (Some j) i o l = inr (o.done, (has-member o.done ds o.there, (omega (arith, l, o.index), times-one_of z.id (ids (rows_by o.done)) (member-times z (rows_by o.done) (has-member z (rows_by o.done) o.row)))))

  lower-given : (z : Row) (from : Option ℕ) (i : ℕ) → ComesFrom b ds z from → GivenBy b i ds z.id → IsFromBelow from i
  lower-given z None i h l = tt
  lower-given z (Some j) i o (inl e) = absurd (omega (
    arith,
    unique z.id,
    ids-times z.id (standing b) (offers ds),
    one_of-times z.id (ids (standing b)) e,
    member-times z (rows_by o.done) (has-member z (rows_by o.done) o.row),
    offered-in z.id ds o.done (has-member o.done ds o.there),
  ))
  lower-given z (Some j) i o (inr d) =
      let same : o.done ≡ d.0 = one-offerer z.id ds (omega (arith, unique z.id, ids-times z.id (standing b) (offers ds))) o.done d.0 (has-member o.done ds o.there) d.1.0
      (member-times z (rows_by o.done) (has-member z (rows_by o.done) o.row)) (one_of-times z.id (ids (rows_by d.0)) d.1.1.1) in
      omega (arith, d.1.1.0, o.index, ap (λ y. y.index) same)

  -- of all rows at once
  all-lower : (xs : List (List ℕ)) (i : ℕ) (qs : List SeenRow) → Throughout (IsSeen b ds) qs → ((x : List ℕ) → is_one_of x (ids_of (bare qs)) ≡ true → GivenBy b i ds x) → Throughout (λ q. IsFromBelow q.from i) qs
  all-lower xs i [] s f = tt
  all-lower xs i (q ∷ qs) s f = (lower-given q.row q.from i s.0.origin (f q.row.id (one-here q.row.id q.row.id (ids_of (bare qs)) refl)), all-lower xs i qs s.1 (λ x h. f x (one-next x q.row.id (ids_of (bare qs)) h)))

  all-given : (i : ℕ) (qs : List SeenRow) → Throughout (IsSeen b ds) qs → Throughout (λ q. IsFromBelow q.from i) qs → (x : List ℕ) → is_one_of x (ids_of (bare qs)) ≡ true → GivenBy b i ds x
  all-given i [] s l x h = absurd (cc)
  all-given i (q ∷ qs) s l x h = go (one-first x q.row.id (ids_of (bare qs)) h) (all-given i qs s.1 l.1 x)
    where
      go : (x ≡ q.row.id) ⊎ (is_one_of x (ids_of (bare qs)) ≡ true) → (is_one_of x (ids_of (bare qs)) ≡ true → GivenBy b i ds x) → GivenBy b i ds x
      go (inl e) next = subst (λ y. GivenBy b i ds y) (sym e) (given-lower q.row q.from i s.0.origin l.0)
      go (inr m) next = next m

  all-next : (before : List Step) (qs : List SeenRow) → Throughout (IsSeen b ds) qs → ((x : List ℕ) → is_one_of x (ids_of (bare qs)) ≡ true → count_by (names_id x) (done_steps ds) ≡ count_by (names_id x) before)
      → Throughout (λ q. q.done ≡ count_by (names_id q.row.id) before) qs
  all-next before [] s f = tt
  all-next before (q ∷ qs) s f = (s.0.count ∙ f q.row.id (one-here q.row.id q.row.id (ids_of (bare qs)) refl), all-next before qs s.1 (λ x h. f x (one-next x q.row.id (ids_of (bare qs)) h)))

  all-counted : (before : List Step) (qs : List SeenRow) → Throughout (IsSeen b ds) qs → Throughout (λ q. q.done ≡ count_by (names_id q.row.id) before) qs
      → (x : List ℕ) → is_one_of x (ids_of (bare qs)) ≡ true → count_by (names_id x) (done_steps ds) ≡ count_by (names_id x) before
  all-counted before [] s n x h = absurd (cc)
  all-counted before (q ∷ qs) s n x h = go (one-first x q.row.id (ids_of (bare qs)) h) (all-counted before qs s.1 n.1 x)
    where
      go : (x ≡ q.row.id) ⊎ (is_one_of x (ids_of (bare qs)) ≡ true) → (is_one_of x (ids_of (bare qs)) ≡ true → count_by (names_id x) (done_steps ds) ≡ count_by (names_id x) before)
          → count_by (names_id x) (done_steps ds) ≡ count_by (names_id x) before
      go (inl e) next = subst (λ y. count_by (names_id y) (done_steps ds) ≡ count_by (names_id y) before) (sym e) (sym s.0.count ∙ n.0)
      go (inr m) next = next m

pub seen_tell_turns : SeenTellTurns
seen_tell_turns deploy w ss r f rs before s after log qs named seen = (there, back)
  where
    b : Bag
    b = first_bag deploy.rows w

    unique : AreDistinct (ids (universe (first_bag deploy.rows w) r.done))
    unique = fresh-rows deploy.rows w r.done f

    turns : (is_done (length before) r.done ≡ false × all_done r.done (names s) 0 before ≡ true) ↔ ((x : List ℕ) → names_id x s ≡ true → count_by (names_id x) (done_steps r.done) ≡ count_by (names_id x) before)
    turns = uses_are_counted deploy w ss r f rs before s after log

    name : (x : List ℕ) → is_one_of x (ids_of (bare qs)) ≡ true → names_id x s ≡ true
    name x h = subst (λ l. is_one_of x l ≡ true) (sym named) h

    named-by : (x : List ℕ) → names_id x s ≡ true → is_one_of x (ids_of (bare qs)) ≡ true
    named-by x h = subst (λ l. is_one_of x l ≡ true) named h

    there : is_due (first_bag deploy.rows w) r.done before s ≡ true → IsTheirTurn before qs
    there e =
        let d = due-parts (first_bag deploy.rows w) r.done before s e in
        record {
          lower = all-lower (first_bag deploy.rows w) r.done unique [] (length before) qs seen (λ x h. given-by (first_bag deploy.rows w) (length before) r.done x (all-at (names s) (ids_before (first_bag deploy.rows w) (length before) r.done) x d.given (name x h)));
          next = all-next (first_bag deploy.rows w) r.done unique before qs seen (λ x h. turns.0 (d.not_done, d.earlier) x (name x h));
        }

    back : IsTheirTurn before qs → is_due (first_bag deploy.rows w) r.done before s ≡ true
    back t =
        let e = turns.1 (λ x h. all-counted (first_bag deploy.rows w) r.done unique before qs seen t.next x (named-by x h)) in
        due-whole (first_bag deploy.rows w) r.done before s (record {
          not_done = e.0;
          given = all-from (names s) (ids_before (first_bag deploy.rows w) (length before) r.done) (λ x h. by-given (first_bag deploy.rows w) (length before) r.done x (all-given (first_bag deploy.rows w) r.done unique (length before) qs seen t.lower x (named-by x h)));
          earlier = e.1;
        })
