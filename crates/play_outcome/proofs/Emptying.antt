-- A play that is done has nothing pending.
use Rattle.std.proofs.Common.{◌≡◌, ◌≤◌, ◌<◌, ℕ, zero, suc, ◌+◌, Bool, true, false, cond, List, [], ◌∷◌, ◌++◌, refl, sym, ap, ◌∙◌, arith, Some, None}
use Rattle.std.specs.Prelude.{Option, slice_get, is_some, ltb}
use Rattle.std.proofs.lemmas.Bool.Decides.{nat_tests}
use Rattle.calculus.specs.declared.fault.FaultKind.{FaultKind}
use Rattle.calculus.specs.Rows.{Row}
use Rattle.calculus.specs.Runs.{Deploy, Work, work_price, work_fault, done, exhausted}
use Rattle.hub_rule.specs.Stops.{FaultOf}
use Rattle.events.specs.Entries.{Making, price_in, prices_of, faults_in, faults_of, first_fault, total_of, verdict_of}
use Rattle.hub_scenes.specs.Plays.{TouchingEntry, entries_of, capped_price, has_fault, space_after_all}
use Rattle.hub_scenes.specs.PlayScene.{play_meaning}
use Rattle.hub_scenes.specs.PlayLaws.{charges_of, HasEnded, all_done, by_fault, by_limit}
use Rattle.play_outcome.specs.Runs.{EndedPlay}

-- before the first fault, no step's body faults
fault-split : (x : Option Making) (i : ℕ) (fs : List (Option FaultKind)) → first_fault i (faults_in x ++ fs) ≡ done → (has_fault x ≡ false) × ((j : ℕ) × (first_fault j fs ≡ done))
fault-split None i fs e = (refl, (i, e))
fault-split (Some a) i fs e = go a.fault e
  where
    go : (f : Option FaultKind) → first_fault i (f ∷ fs) ≡ done → (is_some f ≡ false) × ((j : ℕ) × (first_fault j fs ≡ done))
    go None d = (refl, (suc i, d))
    go (Some f) d = cc d

no-faults : (es : List TouchingEntry) (i : ℕ) → first_fault i (faults_of (entries_of es)) ≡ done → (k : ℕ) (e : TouchingEntry) → slice_get es k ≡ Some e → has_fault e.entry.making ≡ false
no-faults [] i d k e g = cc
no-faults (x ∷ es) i d zero e g =
    let q : x ≡ e = cc g in
    ap (λ (y : TouchingEntry). has_fault y.entry.making) (sym q) ∙ (fault-split x.entry.making i (faults_of (entries_of es)) d).0
no-faults (x ∷ es) i d (suc k) e g = let r = (fault-split x.entry.making i (faults_of (entries_of es)) d).1 in no-faults es r.0 r.1 k e g

-- a price within the greatest is no more than it was
capped : (x : Option Making) → capped_price x ≤ price_in x
capped x = omega arith

above : (cap n : ℕ) → cap < n → ltb cap n ≡ true
above cap n h = grind (arith, nat_tests)

true-is-not-false : true ≡ false → ⊥
true-is-not-false e = cc e

module _ (deploy : Deploy) (source : Work) where
  charges-less : (es : List TouchingEntry) → charges_of deploy source es ≤ prices_of (entries_of es)
  charges-less [] = omega arith
  charges-less (e ∷ es) = omega (arith, capped e.entry.making, charges-less es)

  -- a fault among the entries is not done
  faulty : (es : List TouchingEntry) → FaultOf (play_meaning deploy source).faults es → verdict_of deploy source (entries_of es) ≡ done → ⊥
  faulty es x d = go (ltb deploy.limit (total_of deploy source (entries_of es))) d
    where
      inner : (f : Option FaultKind) → first_fault 0 (f ∷ faults_of (entries_of es)) ≡ done → ⊥
      inner None k = cc (x.3, no-faults es 1 k x.0 x.1 x.2)
      inner (Some f) k = cc k

      go : (b : Bool) → cond b exhausted (first_fault 0 (work_fault source ∷ faults_of (entries_of es))) ≡ done → ⊥
      go true k = cc k
      go false k = inner (work_fault source) k

  -- nor are entries that cost more than the limit
  costly : (es : List TouchingEntry) → deploy.limit < work_price deploy.limit source + charges_of deploy source es → verdict_of deploy source (entries_of es) ≡ done → ⊥
  costly es over d = go (ltb deploy.limit (total_of deploy source (entries_of es))) refl d
    where
      more : deploy.limit < total_of deploy source (entries_of es)
      more = omega (arith, over, charges-less es)

      go : (b : Bool) → ltb deploy.limit (total_of deploy source (entries_of es)) ≡ b → cond b exhausted (first_fault 0 (work_fault source ∷ faults_of (entries_of es))) ≡ done → ⊥
      go true e k = cc k
      go false e k = true-is-not-false (sym (above deploy.limit (total_of deploy source (entries_of es)) more) ∙ e)

  pub emptied : (es : List TouchingEntry) (closed : List (List Row)) → EndedPlay deploy source es closed → verdict_of deploy source (entries_of es) ≡ done → (space_after_all deploy source es).pending ≡ []
  emptied es closed x d = go x.ended
    where
      go : HasEnded deploy source es x.left x.hands → (space_after_all deploy source es).pending ≡ []
      go (all_done a b) = x.plays.pending a b
      go (by_fault f) = absurd (faulty es f d)
      go (by_limit over) = absurd (costly es over d)
