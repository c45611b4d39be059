-- A log has one answer.
use Rattle.std.proofs.Common.{◌≡◌, ℕ, Bool, true, false, cond, List, [], ◌∷◌, ◌++◌, length, refl, ap, sym, ◌∙◌, subst}
use Rattle.std.specs.Prelude.{Option, Some, None, IsSome}
use Rattle.std.specs.Str.{bytes_eq}
use Rattle.std.proofs.lemmas.Slice.Eq.{bytes_eq-Decides}
use Rattle.calculus.specs.Order.{up_to}
use Rattle.calculus.specs.Log.{Step}
use Rattle.calculus.specs.Steps.{meeting}
use Rattle.calculus.specs.Runs.{Deploy, State, Leads, done, verdict, IsEnd}
use Rattle.calculus.proofs.Ordered.{up_to_both}
use Rattle.calculus.proofs.States.{one_state}
use Rattle.replays.specs.Replays.{Refusal, no_run, reducible, Outcome, refused, replayed, header_refusal, StopsAt, outcome_of, deploy_under, by_header, by_step, by_rest, by_end}
use Rattle.replays.specs.ReplayLaws.{OneAnswer, RunsAreReplayed, RefusedLogsAreNoRuns}
use Rattle.replays.proofs.Prefixes.{passed}
use Rattle.calculus.specs.Candidates.{ids_up_to, IsLeastAllowed}

pub same : (x y : List ℕ) → bytes_eq x y ≡ true → x ≡ y
same x y e = (bytes_eq-Decides x y).0 e

pub equal : (x y : List ℕ) → x ≡ y → bytes_eq x y ≡ true
equal x y e = (bytes_eq-Decides x y).1 e

-- lists of ids that are no greater than one another are equal
both-ways : (xs ys : List (List ℕ)) → ids_up_to xs ys ≡ true → ids_up_to ys xs ≡ true → xs ≡ ys
both-ways [] [] e f = refl
both-ways [] (y ∷ ys) e f = cc
both-ways (x ∷ xs) [] e f = cc
both-ways (x ∷ xs) (y ∷ ys) e f = go (both-ways xs ys) (bytes_eq x y) refl (bytes_eq y x) refl e f
  where
    go : (ids_up_to xs ys ≡ true → ids_up_to ys xs ≡ true → xs ≡ ys) → (b : Bool) → bytes_eq x y ≡ b → (c : Bool) → bytes_eq y x ≡ c → cond b (ids_up_to xs ys) (up_to x y) ≡ true → cond c (ids_up_to ys xs) (up_to y x) ≡ true → x ∷ xs ≡ y ∷ ys
    go next true d true k e f = cc (same x y d, next e f)
    go next true d false k e f = cc (k, equal y x (sym (same x y d)))
    go next false d true k e f = cc (d, equal x y (sym (same y x k)))
    go next false d false k e f = cc (d, equal x y (up_to_both x y e f))

-- how two places in one list stand to one another
pub data Places (vs ws : List Step) (s u : Step) : Type 0 where
  at_one : vs ≡ ws → Places vs ws s u
  first_before : (mid : List Step) → ws ≡ vs ++ s ∷ mid → Places vs ws s u
  first_after : (mid : List Step) → vs ≡ ws ++ u ∷ mid → Places vs ws s u

places : (vs ws : List Step) (s u : Step) (xs ys : List Step) → vs ++ s ∷ xs ≡ ws ++ u ∷ ys → Places vs ws s u
places [] [] s u xs ys e = at_one refl
places [] (w ∷ ws) s u xs ys e = first_before ws (cc e)
places (v ∷ vs) [] s u xs ys e = first_after vs (cc e)
places (v ∷ vs) (w ∷ ws) s u xs ys e = go (places vs ws s u xs ys (cc e)) (cc e)
  where
    go : Places vs ws s u → v ≡ w → Places (v ∷ vs) (w ∷ ws) s u
    go (at_one f) h = at_one (cc (f, h))
    go (first_before mid f) h = first_before mid (cc (f, h))
    go (first_after mid f) h = first_after mid (cc (f, h))

pub is-none : {A : Type 0} (o : Option A) → IsSome o → o ≡ None → ⊥
is-none None h e = cc
is-none (Some x) h e = cc

module _ (deploy : Deploy) (ss : List Step) where
  -- a list that stops is not legal past that place
  stops-there : (i : ℕ) (h : StopsAt deploy ss i) (mid : List Step) (whole : List Step) → whole ≡ h.before ++ h.step ∷ mid → (b : State) → Leads deploy whole b → ⊥
  stops-there i h mid whole e b l =
      let k = passed deploy h.before h.step mid b (subst (λ us. Leads deploy us b) e l) in
      let one : k.state ≡ h.state = one_state deploy h.before k.state h.state k.leads h.leads in
      is-none (meeting h.state.bag h.state.made h.step) (subst (λ a. IsSome (meeting a.bag a.made h.step)) one k.allowed) h.stops

  pub one-stop : (i j : ℕ) → StopsAt deploy ss i → StopsAt deploy ss j → i ≡ j
  one-stop i j h k = go (places h.before k.before h.step k.step h.after k.after (sym h.is ∙ k.is))
    where
      go : Places h.before k.before h.step k.step → i ≡ j
      go (at_one e) = sym h.place ∙ ap length e ∙ k.place
      go (first_before mid e) = absurd (stops-there i h mid k.before e k.state k.leads)
      go (first_after mid e) = absurd (stops-there j k mid h.before e h.state h.leads)

  pub no-stop : (i : ℕ) → StopsAt deploy ss i → (b : State) → Leads deploy ss b → ⊥
  no-stop i h b l = stops-there i h h.after ss h.is b l

  one-least : (a : State) (s u : Step) → IsLeastAllowed a.bag a.made s → IsLeastAllowed a.bag a.made u → reducible s.receiver s.data_ids ≡ reducible u.receiver u.data_ids
  one-least a s u h k = cc (both-ways (s.receiver ∷ s.data_ids) (u.receiver ∷ u.data_ids) (h.least u k.allowed) (k.least s h.allowed))

  not-ended : (a : State) (s : Step) → verdict deploy.prices deploy.limit a ≡ done → IsLeastAllowed a.bag a.made s → IsEnd deploy.prices deploy.limit a → ⊥
  not-ended a s d h e = is-none (meeting a.bag a.made s) h.allowed (e d s)

some-none : (r : Refusal) (o : Option Refusal) → o ≡ Some r → o ≡ None → ⊥
some-none r None e f = cc
some-none r (Some q) e f = cc

-- a log has one answer at most
pub one_answer : OneAnswer
one_answer g h ss x y (by_header {r} e) (by_header {r = q} f) = ap refused (inside (sym e ∙ f))
  where
    inside : Some r ≡ Some q → r ≡ q
    inside e = cc e
one_answer g h ss x y (by_header {r} e) (by_step f k) = absurd (some-none r (header_refusal g h) e f)
one_answer g h ss x y (by_header {r} e) (by_rest f l d k) = absurd (some-none r (header_refusal g h) e f)
one_answer g h ss x y (by_header {r} e) (by_end f l d) = absurd (some-none r (header_refusal g h) e f)
one_answer g h ss x y (by_step f k) (by_header {r} e) = absurd (some-none r (header_refusal g h) e f)
one_answer g h ss x y (by_step {i} f k) (by_step {i = j} e l) = ap (λ n. refused (no_run n)) (one-stop (deploy_under h.limit g) ss i j k l)
one_answer g h ss x y (by_step {i} f k) (by_rest {a} e l d m) = absurd (no-stop (deploy_under h.limit g) ss i k a l)
one_answer g h ss x y (by_step {i} f k) (by_end {a} e l d) = absurd (no-stop (deploy_under h.limit g) ss i k a l)
one_answer g h ss x y (by_rest f l d k) (by_header {r} e) = absurd (some-none r (header_refusal g h) e f)
one_answer g h ss x y (by_rest {a} f l d k) (by_step {i} e m) = absurd (no-stop (deploy_under h.limit g) ss i m a l)
one_answer g h ss x y (by_rest {a} {s} f l d k) (by_rest {a = b} {s = u} e m c n) =
    let one : a ≡ b = one_state (deploy_under h.limit g) ss a b l m in
    ap refused (one-least (deploy_under h.limit g) ss b s u (subst (λ (z : State). IsLeastAllowed z.bag z.made s) one k) n)
one_answer g h ss x y (by_rest {a} {s} f l d k) (by_end {a = b} e m c) =
    let one : b ≡ a = one_state (deploy_under h.limit g) ss b a m l in
    absurd (not-ended (deploy_under h.limit g) ss a s d k (subst (IsEnd g.prices h.limit) one c))
one_answer g h ss x y (by_end f l d) (by_header {r} e) = absurd (some-none r (header_refusal g h) e f)
one_answer g h ss x y (by_end {a} f l d) (by_step {i} e m) = absurd (no-stop (deploy_under h.limit g) ss i m a l)
one_answer g h ss x y (by_end {a = b} f m c) (by_rest {a} {s} e l d k) =
    let one : b ≡ a = one_state (deploy_under h.limit g) ss b a m l in
    absurd (not-ended (deploy_under h.limit g) ss a s d k (subst (IsEnd g.prices h.limit) one c))
one_answer g h ss x y (by_end {a} f l d) (by_end {a = b} e m c) =
    ap (λ z. replayed (outcome_of (deploy_under h.limit g) z)) (one_state (deploy_under h.limit g) ss a b l m)

pub runs_are_replayed : RunsAreReplayed
runs_are_replayed g h ss a e r = by_end e r.leads r.ends

pub refused_logs_are_no_runs : RefusedLogsAreNoRuns
refused_logs_are_no_runs g h ss r a e k n =
    different (outcome_of (deploy_under h.limit g) a) (one_answer g h ss (refused r) (replayed (outcome_of (deploy_under h.limit g) a)) k (runs_are_replayed g h ss a e n))
  where
    different : (o : Outcome) → refused r ≡ replayed o → ⊥
    different o f = cc f
