-- A replay does no more steps than its log has.
use Rattle.std.proofs.Common.{◌≡◌, ◌≤◌, ℕ, suc, ◌+◌, true, false, List, [], ◌∷◌, length, map as each, refl, ap, sym, ◌∙◌, subst, arith, inl, inr}
use Rattle.std.specs.Prelude.{◌⊎◌, cond, count_by}
use Rattle.std.proofs.lemmas.List.Sums.{sum_by-cons}
use Rattle.calculus.specs.Outcome.{Prices}
use Rattle.calculus.specs.Log.{Step}
use Rattle.calculus.specs.Steps.{Bag, printed_line}
use Rattle.calculus.proofs.Members.{Member, member-split}
use Rattle.racing_replays.specs.Replaying.{DoneStep, Replay, done_steps, Replays, none_yet, one_more, Does}
use Rattle.racing_replays.proofs.Lists.{AreSingle, single-more}
use Rattle.racing_replays.proofs.Ledger.{entry-done}
use Rattle.racing_replays.proofs.Due.{due-parts}
use Rattle.racing_replays.proofs.Doing.{entry}
use Rattle.racing_replays.proofs.Within.{one-index}
use Rattle.racing_replays.proofs.Counting.{numbered, placed, numbered-at, numbered-tally, each-tally, each-member, each-single, count-in}

all-counted : (us : List Step) → count_by (λ u. true) us ≡ length us
all-counted [] = refl
all-counted (u ∷ us) = omega (arith, sum_by-cons (λ (v : Step). cond true 1 0) u us, all-counted us)

pub made-length : (ds : List DoneStep) → length (done_steps ds) ≡ length ds
made-length [] = refl
made-length (d ∷ ds) = ap suc (made-length ds)

module _ (p : Prices) (cap : ℕ) (b : Bag) (ss : List Step) where
  -- done steps stand in the log, each once
  record AreOnce (ds : List DoneStep) : Type 0 where
    single : AreSingle ds
    there : (d : DoneStep) → Member d ds → Member (placed d) (numbered 0 ss)

  once-more : (r q : Replay) → AreOnce r.done → Does p cap b ss r q → AreOnce q.done
  once-more r q h e = subst (λ y. AreOnce y.done) (sym e.is) (record { single = single-more new r.done h.single not-yet; there = λ d m. both d (member-split d r.done (new ∷ []) m) })
    where
      new : DoneStep
      new = entry (length e.before) e.step e.work (printed_line r.bag e.found)

      plain : 0 + length e.before ≡ length e.before
      plain = omega arith

      not-yet : Member new r.done → ⊥
      not-yet m = let f = (due-parts b r.done e.before e.step e.due).not_done in let t = entry-done new r.done m in no (sym t ∙ f)
        where
          no : true ≡ false → ⊥
          no e = cc e

      both : (d : DoneStep) → Member d r.done ⊎ Member d (new ∷ []) → Member (placed d) (numbered 0 ss)
      both d (inl m) = h.there d m
      both d (inr (inl s)) = subst (λ y. Member (placed y) (numbered 0 ss)) (sym s) (subst (λ n. Member (n, e.step) (numbered 0 ss)) plain (subst (λ us. Member (0 + length e.before, e.step) (numbered 0 us)) (sym e.log) (numbered-at 0 e.before e.step e.after)))
      both d (inr (inr m)) = absurd m

  once : (r : Replay) → Replays p cap b ss r → AreOnce r.done
  once _ none_yet = record { single = tt; there = λ d m. absurd m }
  once q (one_more {r} h e) = once-more r q (once r h) e

  pub few-done : (r : Replay) → Replays p cap b ss r → length r.done ≤ length ss
  few-done r h = omega (
    arith,
    count-in (λ u. true) (each placed r.done) (numbered 0 ss) (each-single placed r.done o.single (λ d e m n f. one-index p cap b ss r h d e m n (ap (λ x. x.0) f)))
        (λ z q m. (let d = each-member placed z r.done m in subst (λ x. Member x (numbered 0 ss)) (sym d.1.1) (o.there d.0 d.1.0))),
    each-tally (λ u. true) r.done,
    numbered-tally (λ u. true) 0 ss,
    all-counted (done_steps r.done),
    all-counted ss,
    made-length r.done,
  )
    where
      o : AreOnce r.done
      o = once r h
