-- What holds of a replay all of whose steps are among given ones of fresh digests.
use Rattle.std.proofs.Common.{◌≡◌, ℕ, true, false, List, [], ◌∷◌, length, refl, ap, sym, ◌∙◌, subst, inl, inr}
use Rattle.std.specs.Prelude.{◌⊎◌}
use Rattle.calculus.specs.Outcome.{Prices}
use Rattle.calculus.specs.Log.{Step}
use Rattle.calculus.specs.Steps.{Bag, printed_line}
use Rattle.calculus.proofs.Members.{Member, member-split, member-left, member-right}
use Rattle.events.proofs.Counts.{ids, AreDistinct}
use Rattle.racing_replays.specs.Replaying.{DoneStep, Replay, is_done, Does, Replays, none_yet, one_more}
use Rattle.racing_replays.proofs.Ledger.{entry-done}
use Rattle.racing_replays.proofs.Due.{due-parts}
use Rattle.racing_replays.proofs.Keeping.{universe, Kept}
use Rattle.racing_replays.proofs.Doing.{entry, kept-more}
use Rattle.racing_replays.proofs.Walking.{kept-untried}

module _ (p : Prices) (cap : ℕ) (b : Bag) (ss : List Step) (ds : List DoneStep) (fresh : AreDistinct (ids (universe b ds))) where
  within-does : (r q : Replay) → Kept b ss ds r → Does p cap b ss r q → ((d : DoneStep) → Member d q.done → Member d ds) → Kept b ss ds q
  within-does r q k e sub = subst (Kept b ss ds) (sym e.is) (kept-more b ss ds fresh r k e.before e.step e.after e.log (due-parts b r.done e.before e.step e.due) e.found e.work e.allowed
      (sub (entry (length e.before) e.step e.work (printed_line r.bag e.found)) (subst (λ x. Member (entry (length e.before) e.step e.work (printed_line r.bag e.found)) x.done) (sym e.is) (member-right _ r.done (entry (length e.before) e.step e.work (printed_line r.bag e.found) ∷ []) (inl refl)))))

  pub before-does : (r q : Replay) → Does p cap b ss r q → ((d : DoneStep) → Member d q.done → Member d ds) → (d : DoneStep) → Member d r.done → Member d ds
  before-does r q e sub d m = sub d (subst (λ x. Member d x.done) (sym e.is) (member-left d r.done _ m))

  pub kept-within : (r : Replay) → Replays p cap b ss r → ((d : DoneStep) → Member d r.done → Member d ds) → Kept b ss ds r
  kept-within _ none_yet sub = kept-untried b ss ds
  kept-within q (one_more {r} rs e) sub = within-does r q (kept-within r rs (before-does r q e sub)) e sub

-- no index is done twice
one-does : (p : Prices) (cap : ℕ) (b : Bag) (ss : List Step) (r q : Replay) → Does p cap b ss r q → ((d e : DoneStep) → Member d r.done → Member e r.done → d.index ≡ e.index → d ≡ e)
    → (d e : DoneStep) → Member d q.done → Member e q.done → d.index ≡ e.index → d ≡ e
one-does p cap b ss r q x old d e m n i = go (member-split d r.done (entry (length x.before) x.step x.work (printed_line r.bag x.found) ∷ []) (subst (λ y. Member d y.done) x.is m)) (member-split e r.done (entry (length x.before) x.step x.work (printed_line r.bag x.found) ∷ []) (subst (λ y. Member e y.done) x.is n))
  where
    no : (f : DoneStep) → Member f r.done → f.index ≡ length x.before → ⊥
    no f l j = clash (subst (λ z. is_done z r.done ≡ true) j (entry-done f r.done l))
      where
        clash : is_done (length x.before) r.done ≡ true → ⊥
        clash g = let h : is_done (length x.before) r.done ≡ false = (due-parts b r.done x.before x.step x.due).not_done in cc

    go : Member d r.done ⊎ Member d (entry (length x.before) x.step x.work (printed_line r.bag x.found) ∷ []) → Member e r.done ⊎ Member e (entry (length x.before) x.step x.work (printed_line r.bag x.found) ∷ []) → d ≡ e
    go (inl k) (inl l) = old d e k l i
    go (inl k) (inr (inl l)) = absurd (no d k (i ∙ ap (λ y. y.index) l))
    go (inr (inl k)) (inl l) = absurd (no e l (sym i ∙ ap (λ y. y.index) k))
    go (inr (inl k)) (inr (inl l)) = k ∙ sym l
    go (inl k) (inr (inr l)) = absurd l
    go (inr (inl k)) (inr (inr l)) = absurd l
    go (inr (inr k)) l = absurd k

pub one-index : (p : Prices) (cap : ℕ) (b : Bag) (ss : List Step) (r : Replay) → Replays p cap b ss r → (d e : DoneStep) → Member d r.done → Member e r.done → d.index ≡ e.index → d ≡ e
one-index p cap b ss _ none_yet d e m n i = absurd m
one-index p cap b ss q (one_more {r} rs x) d e m n i = one-does p cap b ss r q x (one-index p cap b ss r rs) d e m n i
