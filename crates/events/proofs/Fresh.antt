-- Ids under fresh digests.
use Rattle.std.proofs.Common.{◌≡◌, ◌≤◌, ℕ, true, List, [], ◌∷◌, ◌++◌, sym, arith}
use Rattle.std.specs.Prelude.{map as each, flat_map}
use Rattle.calculus.specs.Rows.{Row}
use Rattle.calculus.specs.Unfolding.{rows_of, digest}
use Rattle.calculus.specs.Runs.{Work, work_products}
use Rattle.calculus.specs.Steps.{differ}
use Rattle.calculus.specs.Runs.{made_digests}
use Rattle.events.specs.Events.{first_ids, digests, built_in_names, built_in_digests}
use Rattle.events.specs.EventLaws.{IdsAreOfferedOnce, FreshDigestsAreFresh}
use Rattle.events.proofs.Counts.{ids, times, differ-distinct, distinct-differ, times-append}
use Rattle.events.proofs.EventStanding.{ids-times, rows-times}
use Rattle.events.proofs.EventFollowing.{append_nothing}

-- the rows that these works offer
abbrev offered : List Work → List Row
offered ws = flat_map (λ w. rows_of (work_products w)) ws

offered-times : (x : List ℕ) (ws : List Work) → times x (ids (offered ws)) ≤ times x (digests ws)
offered-times x [] = omega arith
offered-times x (w ∷ ws) = omega (arith, ids-times x (rows_of (work_products w)) (offered ws), times-append x (each digest (work_products w)) (digests ws), rows-times x (work_products w), offered-times x ws)

pub ids_are_offered_once : IdsAreOfferedOnce
ids_are_offered_once deploy ss a l f =
    distinct-differ (first_ids deploy.rows ++ ids (offered a.works)) (λ x. omega (
      arith,
      differ-distinct (first_ids deploy.rows ++ digests a.works) (f ss [] (sym (append_nothing ss)) a l) x,
      times-append x (first_ids deploy.rows) (ids (offered a.works)),
      times-append x (first_ids deploy.rows) (digests a.works),
      offered-times x a.works,
    ))

-- fewer digests, none of which stands oftener, differ where more do
pub fewer-differ : (xs ys : List (List ℕ)) → ((x : List ℕ) → times x xs ≤ times x ys) → differ ys ≡ true → differ xs ≡ true
fewer-differ xs ys h e = distinct-differ xs (λ x. omega (arith, h x, differ-distinct ys e x))

pub fresh_digests_are_fresh : FreshDigestsAreFresh
fresh_digests_are_fresh p cap t source ss f first rest e a l =
    fewer-differ (first_ids [] ++ made_digests a) (built_in_digests ++ made_digests a)
    (λ x. omega (arith, times-append x (first_ids []) (made_digests a), times-append x built_in_digests (made_digests a), times-append x (first_ids []) built_in_names))
    (f first rest e a l)
