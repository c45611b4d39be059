-- Confluence: every replay that can't go on agrees with the walk.
use Rattle.std.proofs.Common.{◌≡◌, ◌≤◌, ℕ, Bool, true, false, ◌&&◌, ◌||◌, List, [], ◌∷◌, ◌++◌, length, map as each, refl, sym, subst, arith, append_assoc}
use Rattle.std.specs.Prelude.{Some, eqb, count_by, IsPermutation}
use Rattle.calculus.specs.Log.{Step}
use Rattle.calculus.specs.Rows.{Row}
use Rattle.calculus.specs.Unfolding.{rows_of, digest}
use Rattle.calculus.specs.Steps.{Bag, Meeting, standing, stored_rows, is_one_of, same_meeting, stays, all_persistent, right_repeat, meeting}
use Rattle.calculus.specs.Runs.{Deploy, Work, work_products}
use Rattle.calculus.proofs.Members.{Member, Every, each-there}
use Rattle.events.specs.Found.{without}
use Rattle.events.specs.Events.{first_ids, digests}
use Rattle.events.proofs.Orders.{member-moved, without-moved}
use Rattle.events.proofs.Counts.{ids, times, AreDistinct, differ-distinct, times-append}
use Rattle.events.proofs.EventStanding.{built_ins, ids-times, standing-times, rows-times, no-more}
use Rattle.events.proofs.Meetings.{meeting_at, MadeBy, made_by, makes}
use Rattle.racing_replays.specs.Replaying.{DoneStep, Replay, done_steps, rows_by}
use Rattle.racing_replays.specs.Laws.{first_bag, IsFresh, FreshWalk, FullReplay, Agree, Confluence}
use Rattle.racing_replays.proofs.Lists.{same-moved, count-same}
use Rattle.racing_replays.proofs.Transfer.{SameRows, same-line, bag-distinct}
use Rattle.racing_replays.proofs.Ledger.{one-flat, flat-one}
use Rattle.racing_replays.proofs.Keeping.{offers, universe, gone, all_gone, Kept}
use Rattle.racing_replays.proofs.Tries.{Walked, walked}
use Rattle.racing_replays.proofs.Confluent.{kept-all, walk-maximal, all-done}
use Rattle.calculus.specs.Exchanges.{Exchanges, nothing, under, neighbours, then}
use Rattle.racing_replays.proofs.InOrder.{order-same}
use Rattle.calculus.proofs.Permutations.{exchanges, unmoved, join, moved_after, moved_before, all_over, moved_so}

offers-exchanged : {ds es : List DoneStep} → Exchanges ds es → IsPermutation (offers ds) (offers es)
offers-exchanged nothing = unmoved []
offers-exchanged (under d h) = moved_after (rows_by d) (offers-exchanged h)
offers-exchanged (neighbours d e zs) =
    subst (λ l. IsPermutation l (rows_by e ++ (rows_by d ++ offers zs))) (append_assoc (rows_by d) (rows_by e) (offers zs))
    (subst (λ l. IsPermutation ((rows_by d ++ rows_by e) ++ offers zs) l) (append_assoc (rows_by e) (rows_by d) (offers zs)) (moved_before (offers zs) (all_over (rows_by d) (rows_by e))))
offers-exchanged (then h k) = join (offers-exchanged h) (offers-exchanged k)

offers-moved : {ds es : List DoneStep} → IsPermutation ds es → IsPermutation (offers ds) (offers es)
offers-moved p = offers-exchanged (exchanges p)

same-truth : (a b : Bool) → (a ≡ true → b ≡ true) → (b ≡ true → a ≡ true) → a ≡ b
same-truth true b f g = sym (f refl)
same-truth false true f g = g refl
same-truth false false f g = refl

-- the same rows leave where the same ids are gone
without-same : (ms ns : List (List ℕ)) (rs : List Row) → ((x : List ℕ) → is_one_of x ms ≡ is_one_of x ns) → without ms rs ≡ without ns rs
without-same ms ns [] f = refl
without-same ms ns (r ∷ rs) f = cc (f r.id, without-same ms ns rs f)

gone-moved : (us : List Row) (x : List ℕ) (ds es : List DoneStep) → IsPermutation ds es → is_one_of x (all_gone us ds) ≡ true → is_one_of x (all_gone us es) ≡ true
gone-moved us x ds es h e = let d = one-flat x (λ y. gone us y.step) ds e in flat-one x (λ y. gone us y.step) es d.0 (member-moved d.0 h d.1.0) d.1.1

-- replays that did the same steps end with the same rows
pub rows-agree : (b : Bag) (ss : List Step) (ds : List DoneStep) (r q : Replay) → Kept b ss ds r → Kept b ss ds q → IsPermutation r.done q.done → IsPermutation (stored_rows r.bag) (stored_rows q.bag)
rows-agree b ss ds r q k l h = subst (λ x. IsPermutation x (stored_rows q.bag)) (sym k.rows) (subst (λ x. IsPermutation (without (all_gone us r.done) (stored_rows b ++ offers r.done)) x) (sym l.rows)
    (subst (λ x. IsPermutation x (without (all_gone us q.done) (stored_rows b ++ offers q.done))) (sym alike) (without-moved (all_gone us q.done) (moved_after (stored_rows b) (offers-moved h)))))
  where
    us : List Row
    us = universe b ds

    alike : without (all_gone (universe b ds) r.done) (stored_rows b ++ offers r.done) ≡ without (all_gone (universe b ds) q.done) (stored_rows b ++ offers r.done)
    alike = without-same _ _ (stored_rows b ++ offers r.done)
        (λ x. same-truth _ _ (gone-moved (universe b ds) x r.done q.done h) (gone-moved (universe b ds) x q.done r.done (moved_so h)))

-- a step that is allowed after the one is allowed after the other
pub allowed-agree : (b : Bag) (ss : List Step) (ds : List DoneStep) → AreDistinct (ids (universe b ds)) → (r q : Replay) → Kept b ss ds r → Kept b ss ds q → IsPermutation r.done q.done
    → (s : Step) (m : Meeting) → meeting r.bag (done_steps r.done) s ≡ Some m → SameRows r q s m
allowed-agree b ss ds fresh r q k l h s m e = record { taken = how.taken; joined = how.joined; is = how.is; allowed = makes q.bag (done_steps q.done) s how.taken how.joined (bag-distinct b ss ds fresh q l) how.differs how.ids there how.joins repeats; line = same-line r.bag q.bag how.taken how.joined m (bag-distinct b ss ds fresh r k) (bag-distinct b ss ds fresh q l) how.joins how.is }
  where
    how : MadeBy (standing r.bag) (done_steps r.done) s m
    how = made_by r.bag (done_steps r.done) s m (bag-distinct b ss ds fresh r k) e

    there : Every (λ z. Member z (standing q.bag)) how.taken
    there = each-there _ _ how.taken (λ z i j. no-more r.bag q.bag z (member-moved z (rows-agree b ss ds r q k l h)) j) how.there

    same-count : count_by (same_meeting s) (done_steps r.done) ≡ count_by (same_meeting s) (done_steps q.done)
    same-count = count-same (same_meeting s) (λ d. d.step) r.done q.done k.single l.single (λ d f n. member-moved d h n) (λ d f n. member-moved d (moved_so h) n)

    was : right_repeat (done_steps r.done) s (meeting_at (standing r.bag) how.taken how.joined) ≡ true
    was = subst (λ x. right_repeat (done_steps r.done) s x ≡ true) how.is how.repeats

    repeats : right_repeat (done_steps q.done) s (meeting_at (standing q.bag) how.taken how.joined) ≡ true
    repeats = subst (λ n. eqb s.repeat n && (eqb s.repeat 0 || (stays how.joined.receiver.kind && all_persistent how.joined.sends)) ≡ true) same-count was

offers-digests : (x : List ℕ) (ds : List DoneStep) → times x (ids (offers ds)) ≤ times x (digests (each (λ d. d.work) ds))
offers-digests x [] = omega arith
offers-digests x (d ∷ ds) = omega (arith, ids-times x (rows_by d) (offers ds), times-append x (each digest (work_products d.work)) (digests (each (λ d. d.work) ds)), rows-times x (work_products d.work), offers-digests x ds)

-- no id stands twice among all rows, under fresh digests
pub fresh-rows : (rows : List Row) (w : Work) (ds : List DoneStep) → IsFresh rows w ds → AreDistinct (ids (universe (first_bag rows w) ds))
fresh-rows rows w ds f x = omega (
  arith,
  differ-distinct (first_ids rows ++ digests (w ∷ each (λ d. d.work) ds)) f x,
  ids-times x (standing (first_bag rows w)) (offers ds),
  standing-times x (first_bag rows w),
  ids-times x rows (rows_of (work_products w)),
  rows-times x (work_products w),
  ids-times x rows built_ins,
  times-append x (first_ids rows) (digests (w ∷ each (λ d. d.work) ds)),
  times-append x (each digest (work_products w)) (digests (each (λ d. d.work) ds)),
  offers-digests x ds,
)

pub walk-tries : (deploy : Deploy) (w : Work) (ss : List Step) (k : Replay) (h : FreshWalk deploy w ss k) → Walked deploy.prices deploy.limit h.walks.0 (first_bag deploy.rows w) ss k ss k
walk-tries deploy w ss k h = walked deploy.prices deploy.limit h.walks.0 (first_bag deploy.rows w) ss k (fresh-rows deploy.rows w k.done h.fresh) h.walks.1

-- a replay that can't go on agrees with the walk
pub full-agrees : (deploy : Deploy) (w : Work) (ss : List Step) (k r : Replay) → FreshWalk deploy w ss k → FullReplay deploy w ss r → Agree ss r k
full-agrees deploy w ss k r h f = record { same_done = same; same_order = order-same r.done k.done same wk.one (length ss); same_rows = rows-agree (first_bag deploy.rows w) ss k.done r k kr wk.kept same }
  where
    d : AreDistinct (ids (universe (first_bag deploy.rows w) k.done))
    d = fresh-rows deploy.rows w k.done h.fresh

    wk : Walked deploy.prices deploy.limit h.walks.0 (first_bag deploy.rows w) ss k ss k
    wk = walk-tries deploy w ss k h

    kr : Kept (first_bag deploy.rows w) ss k.done r
    kr = kept-all deploy.prices deploy.limit h.walks.0 (first_bag deploy.rows w) ss k d wk r f.replays

    same : IsPermutation r.done k.done
    same = same-moved r.done k.done kr.single wk.kept.single kr.sub (all-done deploy.prices deploy.limit h.walks.0 (first_bag deploy.rows w) ss k d wk r kr f.maximal)

pub confluence : Confluence
confluence deploy w ss k h =
    let wk = walk-tries deploy w ss k h in
    (record { replays = wk.replays; maximal = walk-maximal deploy.prices deploy.limit h.walks.0 (first_bag deploy.rows w) ss k (fresh-rows deploy.rows w k.done h.fresh) wk }, (λ r f. full-agrees deploy w ss k r h f))
