-- Rows of which one has the id of a built-in receiver, or none.
use Rattle.std.proofs.Common.{◌≡◌, ◌≤◌, ℕ, ◌+◌, Bool, true, false, ◌||◌, List, [], ◌∷◌, ◌++◌, refl, sym, ap, subst, ◌∙◌, arith, inl}
use Rattle.std.specs.Str.{bytes_eq}
use Rattle.calculus.specs.Form.{IsClosed}
use Rattle.calculus.specs.Log.{Step}
use Rattle.calculus.specs.Rows.{Row, stdout, stdout_ack}
use Rattle.calculus.specs.Runs.{source_seed, Deploy, made_digests}
use Rattle.calculus.specs.Steps.{differ, is_one_of}
use Rattle.calculus.proofs.Opened.{hashing}
use Rattle.events.specs.Events.{first_ids, built_in_ids}
use Rattle.events.proofs.Counts.{ids, one_if, times, bytes_same, same_bytes, differ-distinct, distinct-differ}
use Rattle.events.proofs.EventStanding.{built_ins, ids-times}
use Rattle.events.specs.Premises.{Shares}
use Rattle.process_laws.proofs.Closed.{each_process_unfolds}
use Rattle.racing_replays.specs.Laws.{first_bag, state_of}
use Rattle.racing_replays.specs.Replaying.{first_replay, none_yet, Replay}
use Rattle.replay_answers.specs.Answers.{Clashes}
use Rattle.replay_answers.specs.Bases.{ids_of}
use Rattle.replay_runs.specs.Racing.{any_built_in_id, has_built_in_id}

or-true : (a b : Bool) → b ≡ true → a || b ≡ true
or-true true b e = refl
or-true false b e = e

-- an id that is built in is one of the built-in receivers' ids
built-there : (x : List ℕ) (ys : List (List ℕ)) → bytes_eq x stdout.id || bytes_eq x stdout_ack.id ≡ true → is_one_of x (built_in_ids ++ ys) ≡ true
built-there x ys e = go (bytes_eq x stdout.id) (bytes_eq x stdout_ack.id) (is_one_of x ys) e
  where
    go : (a b c : Bool) → a || b ≡ true → a || (b || c) ≡ true
    go true b c e = refl
    go false true c e = refl
    go false false c e = cc e

-- so it is shown
pub forged-shares : (rows : List Row) (ys : List (List ℕ)) → any_built_in_id rows ≡ true → Shares (ids_of rows) (built_in_ids ++ ys)
forged-shares [] ys e = cc e
forged-shares (r ∷ rows) ys e = go (forged-shares rows ys) (has_built_in_id r) refl e
  where
    self : is_one_of r.id (r.id ∷ ids_of rows) ≡ true
    self = own r.id (ids_of rows)
      where
        own : (x : List ℕ) (xs : List (List ℕ)) → is_one_of x (x ∷ xs) ≡ true
        own x xs = ap (λ b. b || is_one_of x xs) (same_bytes x x refl)

    go : (any_built_in_id rows ≡ true → Shares (ids_of rows) (built_in_ids ++ ys)) → (b : Bool) → has_built_in_id r ≡ b → b || any_built_in_id rows ≡ true → Shares (ids_of (r ∷ rows)) (built_in_ids ++ ys)
    go next true f k = record { digest = r.id; among = self; too = built-there r.id ys f }
    go next false f k = let s = next k in record { digest = s.digest; among = or-true (bytes_eq s.digest r.id) (is_one_of s.digest (ids_of rows)) s.among; too = s.too }

-- which is a clash before the first step
pub forged-clash : (deploy : Deploy) (ss : List Step) → IsClosed deploy.process → any_built_in_id deploy.rows ≡ true → Clashes deploy ss
forged-clash deploy ss c e =
    let u = each_process_unfolds deploy.prices deploy.limit deploy.process (source_seed deploy) c in
    let q : Replay = first_replay (first_bag deploy.rows u.0) in
    record { source = u.0; unfolds = u.1; clash = (q, (none_yet, inl (forged-shares deploy.rows (made_digests (state_of u.0 q)) e))) }

-- the built-in receivers have two ids
two-ids : differ (ids built_ins) ≡ true
unfolding hashing
two-ids = refl

none-has : (x : List ℕ) (rows : List Row) → any_built_in_id rows ≡ false → bytes_eq x stdout.id || bytes_eq x stdout_ack.id ≡ true → times x (ids rows) ≡ 0
none-has x [] e f = refl
none-has x (r ∷ rows) e f = go (none-has x rows) (has_built_in_id r) refl e (bytes_eq x r.id) refl
  where
    turned : bytes_eq x r.id ≡ true → has_built_in_id r ≡ true
    turned k = subst (λ y. bytes_eq y stdout.id || bytes_eq y stdout_ack.id ≡ true) (bytes_same x r.id k) f

    not-both : true ≡ false → ⊥
    not-both e = cc e

    go : (any_built_in_id rows ≡ false → bytes_eq x stdout.id || bytes_eq x stdout_ack.id ≡ true → times x (ids rows) ≡ 0) → (b : Bool) → has_built_in_id r ≡ b → b || any_built_in_id rows ≡ false → (c : Bool) → bytes_eq x r.id ≡ c → one_if c + times x (ids rows) ≡ 0
    go next true g k c h = absurd (not-both k)
    go next false g k true h = absurd (not-both (sym (turned h) ∙ g))
    go next false g k false h = omega (arith, next k f)

-- where no row has a built-in id, their ids and those of the built-in receivers differ
pub all-differ : (rows : List Row) → differ (ids_of rows) ≡ true → any_built_in_id rows ≡ false → differ (first_ids rows) ≡ true
all-differ rows d e = distinct-differ (first_ids rows) (λ x. go x (bytes_eq x stdout.id || bytes_eq x stdout_ack.id) refl)
  where
    whole : (x : List ℕ) → times x (ids (rows ++ built_ins)) ≡ times x (ids rows) + times x (ids built_ins)
    whole x = ids-times x rows built_ins

    none : (x : List ℕ) → bytes_eq x stdout.id || bytes_eq x stdout_ack.id ≡ false → times x (ids built_ins) ≡ 0
    none x f = split (bytes_eq x stdout.id) (bytes_eq x stdout_ack.id) f
      where
        split : (a b : Bool) → a || b ≡ false → one_if a + (one_if b + 0) ≡ 0
        split true b h = cc h
        split false true h = cc h
        split false false h = refl

    go : (x : List ℕ) (b : Bool) → bytes_eq x stdout.id || bytes_eq x stdout_ack.id ≡ b → times x (first_ids rows) ≤ 1
    go x true f = omega (arith, whole x, none-has x rows e f, differ-distinct (ids built_ins) two-ids x)
    go x false f = omega (arith, whole x, none x f, differ-distinct (ids_of rows) d x)
