-- It is a step's turn where its rows were used as often as before it in the log.
use Rattle.std.proofs.Common.{◌≡◌, ◌≤◌, ◌<◌, ℕ, suc, ◌+◌, Bool, true, false, cond, List, [], ◌∷◌, ◌++◌, length, map as each, refl, ap, sym, ◌∙◌, subst, arith, inl, inr, append_assoc, length-append}
use Rattle.std.specs.Prelude.{◌⊎◌, count_by}
use Rattle.std.proofs.lemmas.List.Sums.{sum_by-append, sum_by-cons}
use Rattle.calculus.specs.Log.{Step}
use Rattle.calculus.specs.Steps.{Bag, is_one_of, same_meeting}
use Rattle.calculus.proofs.Members.{Member, member-each}
use Rattle.racing_replays.specs.Replaying.{DoneStep, Replay, done_steps, is_done, names, any_among, all_done}
use Rattle.racing_replays.specs.Laws.{first_bag}
use Rattle.racing_replays.specs.Counted.{names_id, UsesAreCounted, RepeatsAreCounted}
use Rattle.racing_replays.proofs.Lists.{AreSingle}
use Rattle.racing_replays.proofs.Ledger.{one-here, in-common, common-in}
use Rattle.racing_replays.proofs.Due.{Due, due-parts, all_done-at, all_done-from}
use Rattle.racing_replays.proofs.Keeping.{Kept}
use Rattle.racing_replays.proofs.Transfer.{same-share}
use Rattle.racing_replays.proofs.Doing.{earlier-part}
use Rattle.racing_replays.proofs.Walking.{last-split}
use Rattle.racing_replays.proofs.Confluent.{lower}
use Rattle.racing_replays.proofs.Agreeing.{fresh-rows}
use Rattle.racing_replays.proofs.Within.{kept-within, one-index}
use Rattle.racing_replays.proofs.Arriving.{step-there}
use Rattle.racing_replays.proofs.Counting.{Placed, numbered, placed, numbered-at, Stands, numbered-stands, numbered-single, numbered-tally, each-tally, each-member, each-single, count-in}

abbrev both : ℕ → Step → Placed
both n u = (n, u)

pair : (d : DoneStep) (z : Placed) → d.index ≡ z.0 → d.step ≡ z.1 → placed d ≡ z
pair d z e f = ap (λ n. both n d.step) e ∙ ap (λ u. both z.0 u) f

module _ (b : Bag) (ss : List Step) (ds : List DoneStep) (r : Replay) (k : Kept b ss ds r) (one : (d e : DoneStep) → Member d ds → Member e ds → d.index ≡ e.index → d ≡ e) where
  placed-single : AreSingle (each placed r.done)
  placed-single = each-single placed r.done k.single (λ d e m n f. one d e (k.sub d m) (k.sub e n) (ap (λ x. x.0) f))

  -- a done step of lower index is one of the steps before
  low-placed : (before : List Step) (rest : List Step) → ss ≡ before ++ rest → (d : DoneStep) → Member d r.done → d.index < length before → Member (placed d) (numbered 0 before)
  low-placed before rest log d m h =
      let i = k.placed d m in
      let part = earlier-part i.before d.step i.after before rest (sym i.is ∙ log) (omega (arith, i.place, h)) in
      let zero : 0 + length i.before ≡ d.index = omega (arith, i.place) in
      subst (λ n. Member (n, d.step) (numbered 0 before)) zero (subst (λ l. Member (0 + length i.before, d.step) (numbered 0 l)) (sym part.1) (numbered-at 0 i.before d.step part.0))

  -- what is done of these steps is no more than there are, where all that is done is lower
  done-most : (q : Step → Bool) (before rest : List Step) → ss ≡ before ++ rest → ((d : DoneStep) → Member d r.done → q d.step ≡ true → d.index < length before) → count_by q (done_steps r.done) ≤ count_by q before
  done-most q before rest log low = omega (arith, each-tally q r.done, numbered-tally q 0 before, count-in q (each placed r.done) (numbered 0 before) placed-single (λ z h m. go z h (each-member placed z r.done m)))
    where
      go : (z : Placed) → q z.1 ≡ true → (d : DoneStep) × (Member d r.done × z ≡ placed d) → Member z (numbered 0 before)
      go z h d = subst (λ x. Member x (numbered 0 before)) (sym d.1.1) (low-placed before rest log d.0 d.1.0 (low d.0 d.1.0 (ap (λ x. q x.1) (sym d.1.1) ∙ h)))

  -- and no less where each of them is done
  done-least : (q : Step → Bool) (before rest : List Step) → ss ≡ before ++ rest
      → ((mid : List Step) (u : Step) (post : List Step) → before ≡ mid ++ u ∷ post → q u ≡ true → is_done (length mid) r.done ≡ true) → count_by q before ≤ count_by q (done_steps r.done)
  done-least q before rest log all = omega (arith, each-tally q r.done, numbered-tally q 0 before, count-in q (numbered 0 before) (each placed r.done) (numbered-single 0 before) (λ z h m. go z h (numbered-stands 0 before z m)))
    where
      go : (z : Placed) → q z.1 ≡ true → Stands 0 before z → Member z (each placed r.done)
      go z h s =
          let d = step-there b ss ds r k s.mid z.1 (s.rest ++ rest) (log ∙ ap (λ l. l ++ rest) s.is ∙ append_assoc s.mid (z.1 ∷ s.rest) rest) (all s.mid z.1 s.rest s.is h) in
          let i : d.0.index ≡ z.0 = d.1.1.1 ∙ plain s.mid ∙ sym s.place in
          subst (λ x. Member x (each placed r.done)) (pair d.0 z i d.1.1.0) (member-each placed d.0 r.done d.1.0)
        where
          plain : (l : List Step) → length l ≡ 0 + length l
          plain l = omega arith

  one-more-count : (q : Step → Bool) (before : List Step) (s : Step) (rest : List Step) → q s ≡ true → count_by q (before ++ s ∷ rest) ≡ suc (count_by q before + count_by q rest)
  one-more-count q before s rest h = omega (arith, sum_by-append (λ u. cond (q u) 1 0) before (s ∷ rest), sum_by-cons (λ u. cond (q u) 1 0) s rest, ap {B = ℕ} (λ c. cond c 1 0) h)

  module _ (before : List Step) (s : Step) (after : List Step) (log : ss ≡ before ++ s ∷ after) where
    -- the counts are equal where the step is not done and each before it is that counts, if what counts shares an id with it
    counts-equal : (q : Step → Bool) → ((u : Step) → q u ≡ true → any_among (names s) (names u) ≡ true) → is_done (length before) r.done ≡ false
        → ((mid : List Step) (u : Step) (post : List Step) → before ≡ mid ++ u ∷ post → q u ≡ true → is_done (length mid) r.done ≡ true) → count_by q (done_steps r.done) ≡ count_by q before
    counts-equal q share undone all = omega (
      arith,
      done-most q before (s ∷ after) log (λ d m h. lower b ss ds r k before s after log undone d m (share d.step h)),
      done-least q before (s ∷ after) log all,
    )

    module _ (x : List ℕ) (n : names_id x s ≡ true) where
      shares : (u : Step) → names_id x u ≡ true → any_among (names s) (names u) ≡ true
      shares u h = common-in x (names s) (names u) n h

      pub from-turn : is_done (length before) r.done ≡ false → all_done r.done (names s) 0 before ≡ true → count_by (names_id x) (done_steps r.done) ≡ count_by (names_id x) before
      from-turn undone all = counts-equal (names_id x) shares undone (λ mid u post e h. subst (λ m. is_done m r.done ≡ true) (plain mid)
          (all_done-at r.done (names s) 0 mid u post (subst (λ us. all_done r.done (names s) 0 us ≡ true) e all) (shares u h)))
        where
          plain : (l : List Step) → 0 + length l ≡ length l
          plain l = omega arith

      -- the other way
      not-done : count_by (names_id x) (done_steps r.done) ≡ count_by (names_id x) before → (c : Bool) → is_done (length before) r.done ≡ c → c ≡ false
      not-done e false h = refl
      not-done e true h = absurd (omega (arith, e, one-more-count (names_id x) before s [] n, done-least (names_id x) (before ++ s ∷ []) after (log ∙ sym (append_assoc before (s ∷ []) after)) all))
        where
          d : (y : DoneStep) × (Member y r.done × (y.step ≡ s × y.index ≡ length before))
          d = step-there b ss ds r k before s after log h

          all : (mid : List Step) (u : Step) (post : List Step) → before ++ s ∷ [] ≡ mid ++ u ∷ post → names_id x u ≡ true → is_done (length mid) r.done ≡ true
          all mid u post f i = go (last-split before s mid u post f)
            where
              go : ((rest : List Step) × (before ≡ mid ++ u ∷ rest)) ⊎ ((before ≡ mid) × (s ≡ u)) → is_done (length mid) r.done ≡ true
              go (inr g) = subst (λ (l : List Step). is_done (length l) r.done ≡ true) g.0 h
              go (inl g) = k.closed d.0 d.1.0 mid u (g.0 ++ s ∷ after) (log ∙ ap (λ l. l ++ s ∷ after) g.1 ∙ append_assoc mid (u ∷ g.0) (s ∷ after))
                  (omega (arith, d.1.1.1, ap length g.1, length-append mid (u ∷ g.0)))
                  (common-in x (names d.0.step) (names u) (subst (λ y. names_id x y ≡ true) (sym d.1.1.0) n) i)

      lower-done : count_by (names_id x) (done_steps r.done) ≡ count_by (names_id x) before → (mid : List Step) (u : Step) (post : List Step) → before ≡ mid ++ u ∷ post → names_id x u ≡ true → (c : Bool) → is_done (length mid) r.done ≡ c → c ≡ true
      lower-done e mid u post f i true h = refl
      lower-done e mid u post f i false h = absurd (omega (
        arith,
        e,
        ap (count_by (names_id x)) f,
        one-more-count (names_id x) mid u post i,
        done-most (names_id x) mid (u ∷ (post ++ s ∷ after)) log2 (λ d m j. lower b ss ds r k mid u (post ++ s ∷ after) log2 h d m (common-in x (names u) (names d.step) i j)),
      ))
        where
          log2 : ss ≡ mid ++ u ∷ (post ++ s ∷ after)
          log2 = log ∙ ap (λ l. l ++ s ∷ after) f ∙ append_assoc mid (u ∷ post) (s ∷ after)

    pub to-turn : ((x : List ℕ) → names_id x s ≡ true → count_by (names_id x) (done_steps r.done) ≡ count_by (names_id x) before) → is_done (length before) r.done ≡ false × all_done r.done (names s) 0 before ≡ true
    to-turn e = (not-done s.receiver named (e s.receiver named) (is_done (length before) r.done) refl, all_done-from r.done (names s) 0 before (λ mid u post f a. go mid u post f (in-common (names s) (names u) a)))
      where
        named : names_id s.receiver s ≡ true
        named = one-here s.receiver s.receiver s.data_ids refl

        plain : (l : List Step) → length l ≡ 0 + length l
        plain l = omega arith

        go : (mid : List Step) (u : Step) (post : List Step) → before ≡ mid ++ u ∷ post → (x : List ℕ) × (is_one_of x (names s) ≡ true × is_one_of x (names u) ≡ true) → is_done (0 + length mid) r.done ≡ true
        go mid u post f x = subst (λ m. is_done m r.done ≡ true) (plain mid) (lower-done x.0 x.1.0 (e x.0 x.1.0) mid u post f x.1.1 (is_done (length mid) r.done) refl)

    pub repeat-is : Due b r.done before s → count_by (same_meeting s) (done_steps r.done) ≡ count_by (same_meeting s) before
    repeat-is due = counts-equal (same_meeting s) (λ u e. same-share s u e) due.not_done (λ mid u post f h. subst (λ m. is_done m r.done ≡ true) (plain mid)
        (all_done-at r.done (names s) 0 mid u post (subst (λ us. all_done r.done (names s) 0 us ≡ true) f due.earlier) (same-share s u h)))
      where
        plain : (l : List Step) → 0 + length l ≡ length l
        plain l = omega arith

pub uses_are_counted : UsesAreCounted
uses_are_counted deploy w ss r f rs before s after log =
    let kr = kept-within deploy.prices deploy.limit (first_bag deploy.rows w) ss r.done (fresh-rows deploy.rows w r.done f) r rs (λ d m. m) in
    let one = one-index deploy.prices deploy.limit (first_bag deploy.rows w) ss r rs in
    ((λ h x n. from-turn (first_bag deploy.rows w) ss r.done r kr one before s after log x n h.0 h.1), (λ e. to-turn (first_bag deploy.rows w) ss r.done r kr one before s after log e))

pub repeats_are_counted : RepeatsAreCounted
repeats_are_counted deploy w ss r f rs before s after log due =
    let kr = kept-within deploy.prices deploy.limit (first_bag deploy.rows w) ss r.done (fresh-rows deploy.rows w r.done f) r rs (λ d m. m) in
    repeat-is (first_bag deploy.rows w) ss r.done r kr (one-index deploy.prices deploy.limit (first_bag deploy.rows w) ss r rs) before s after log (due-parts (first_bag deploy.rows w) r.done before s due)
