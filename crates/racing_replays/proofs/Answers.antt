-- What a log's steps come to in a replay that can't go on.
use Rattle.std.proofs.Common.{◌≡◌, ◌<◌, ℕ, Bool, true, false, List, [], ◌∷◌, refl, ap, sym, ◌∙◌, subst}
use Rattle.std.specs.Prelude.{Some, IsPermutation}
use Rattle.calculus.specs.Runs.{State, Leads, begun, steps_from}
use Rattle.events.proofs.Counts.{ids, AreDistinct}
use Rattle.events.proofs.Orders.{member-moved}
use Rattle.events.proofs.EventFollowing.{append_nothing}
use Rattle.replays.specs.Replays.{StopsAt}
use Rattle.racing_replays.specs.Replaying.{DoneStep, Replay, is_done}
use Rattle.racing_replays.specs.Laws.{first_bag, state_of, Agree, ComesTo, AreAllDone, IsFirstLeft, ReplayMany}
use Rattle.racing_replays.proofs.Ledger.{done-entry, entry-done}
use Rattle.racing_replays.proofs.Keeping.{universe}
use Rattle.racing_replays.proofs.Agreeing.{fresh-rows, full-agrees}
use Rattle.racing_replays.proofs.Coming.{comes-to}
use Rattle.racing_replays.proofs.Legal.{goes-on, Reaches, reach-all, reach-none, stays-left, filled-end}
use Rattle.calculus.proofs.Permutations.{moved_so}

-- what is done in the one order is done in the other
pub done-moved : (i : ℕ) (ds es : List DoneStep) → IsPermutation ds es → is_done i ds ≡ true → is_done i es ≡ true
done-moved i ds es h e = let d = done-entry i ds e in subst (λ n. is_done n es ≡ true) (sym d.1.1) (entry-done d.0 es (member-moved d.0 h d.1.0))

pub left-moved : (i : ℕ) (ds es : List DoneStep) → IsPermutation ds es → is_done i ds ≡ false → is_done i es ≡ false
left-moved i ds es h e = go (is_done i es) refl
  where
    go : (c : Bool) → is_done i es ≡ c → c ≡ false
    go false f = refl
    go true f = absurd (no (done-moved i es ds (moved_so h) f))
      where
        no : is_done i ds ≡ true → ⊥
        no f = cc

pub replay_many : ReplayMany
replay_many deploy w ss k r u h f = (legal, stops)
  where
    d : AreDistinct (ids (universe (first_bag deploy.rows w) k.done))
    d = fresh-rows deploy.rows w k.done h.fresh

    agree : Agree ss r k
    agree = full-agrees deploy w ss k r h f

    begins : Reaches deploy h.walks.0 w ss k d [] ss (begun deploy.rows w)
    begins = reach-none deploy h.walks.0 w ss k d h.walks.1

    legal : (a : State) → Leads deploy ss a → state_of w k ≡ a × AreAllDone ss r × ComesTo deploy w ss r a
    legal a l = (same, λ i less. done-moved i k.done r.done (moved_so agree.same_done) (filled-end deploy h.walks.0 w ss k d ss [] a ends i less), subst (ComesTo deploy w ss r) same (comes-to deploy w ss k r h f))
      where
        g : (room : ℕ) × (steps_from deploy.prices deploy.limit room (begun deploy.rows w) ss ≡ Some a)
        g = goes-on deploy w ss a u l

        ends : Reaches deploy h.walks.0 w ss k d ss [] a
        ends = reach-all deploy h.walks.0 w ss k d g.0 [] ss [] (sym (append_nothing ss)) (begun deploy.rows w) a (subst (λ x. Reaches deploy h.walks.0 w ss k d [] x (begun deploy.rows w)) (sym (append_nothing ss)) begins) g.1

        inside : {x y : Replay} → Some x ≡ Some y → x ≡ y
        inside e = cc e

        same : state_of w k ≡ a
        same = ap (state_of w) (sym (inside ends.goes_on)) ∙ ends.state

    stops : (i : ℕ) → StopsAt deploy ss i → IsFirstLeft i r
    stops i s = record {
      left = left-moved i k.done r.done (moved_so agree.same_done) (subst (λ n. is_done n k.done ≡ false) s.place (stays-left deploy h.walks.0 w ss k d s.before s.step s.after s.state there s.stops));
      least = λ j less. done-moved j k.done r.done (moved_so agree.same_done) (filled-end deploy h.walks.0 w ss k d s.before (s.step ∷ s.after) s.state there j (subst (λ n. j < n) (sym s.place) less));
    }
      where
        g : (room : ℕ) × (steps_from deploy.prices deploy.limit room (begun deploy.rows w) s.before ≡ Some s.state)
        g = goes-on deploy w s.before s.state u s.leads

        there : Reaches deploy h.walks.0 w ss k d s.before (s.step ∷ s.after) s.state
        there = reach-all deploy h.walks.0 w ss k d g.0 [] s.before (s.step ∷ s.after) s.is (begun deploy.rows w) s.state (subst (λ x. Reaches deploy h.walks.0 w ss k d [] x (begun deploy.rows w)) s.is begins) g.1
