-- Along a legal list, under fresh digests: each step that was made took a row away for good, or its rows are there still.
use Rattle.std.proofs.Common.{◌≡◌, ◌≤◌, ℕ, ◌+◌, Bool, true, false, cond, List, [], ◌∷◌, ◌++◌, refl, ap, sym, ◌∙◌, subst, arith, inl, inr, append_assoc}
use Rattle.std.specs.Prelude.{◌⊎◌, Option, Some, None, option_map, option_and_then}
use Rattle.calculus.proofs.Members.{Member, Every, each-there, every-at, member-split, member-left, member-right}
use Rattle.calculus.specs.Log.{Step}
use Rattle.calculus.specs.Outcome.{capped}
use Rattle.calculus.specs.Rows.{Row}
use Rattle.calculus.specs.Steps.{Meeting, standing, stored_rows, is_one_of, same_meeting, meeting, bag_after}
use Rattle.calculus.specs.Unfolding.{rows_of, unfold_in}
use Rattle.calculus.specs.Runs.{source_seed, Deploy, Work, work_products, State, body_work, moved, steps_from, begun, Leads}
use Rattle.events.specs.Events.{first_ids, AreFresh, digests}
use Rattle.events.specs.Found.{is_lasting, step_of, without, leaving_rows}
use Rattle.events.proofs.Counts.{ids, times, AreDistinct, member-times, times-one_of}
use Rattle.events.proofs.Lookups.{row_with, row_with-there, rows_with, rows_with-there}
use Rattle.events.proofs.Meetings.{Joined, join, MadeBy, made_by}
use Rattle.events.proofs.Lasting.{takes_none, lasts, built-lasts, all-last, leaving-fade, one-leaves}
use Rattle.events.proofs.EventStanding.{built_ins, ids-times, standing-times, from-standing, in-standing, rows-times}
use Rattle.events.proofs.EventFollowing.{append_nothing, bag-left}
use Rattle.events.proofs.Legal.{leads-none, leads-more}
use Rattle.events.proofs.Accounts.{Accounted, accounted, all-next, distinct-at, fresh-at, stored-next}
use Rattle.events.proofs.Spent.{row-of-id, leaving-met, none-left, same-names, count-none}
use Rattle.events.proofs.Making.{Met, met-joins, member}
use Rattle.events.proofs.Keeping.{fresh-first}
use Rattle.row_search.specs.Meetings.{AllAmong}
use Rattle.least_step.specs.Laws.{LegalListsUseNothingUp}

-- a row stays where rows of other ids leave
still-there : (ns : List (List ℕ)) (rs : List Row) (z : Row) → is_one_of z.id ns ≡ false → Member z rs → Member z (without ns rs)
still-there ns [] z h i = absurd i
still-there ns (r ∷ rs) z h (inl e) = go (is_one_of r.id ns) (ap (λ (q : Row). is_one_of q.id ns) (sym e) ∙ h)
  where
    go : (b : Bool) → b ≡ false → Member z (cond b (without ns rs) (r ∷ without ns rs))
    go true g = cc
    go false g = inl e
still-there ns (r ∷ rs) z h (inr i) = go (is_one_of r.id ns) (still-there ns rs z h i)
  where
    go : (b : Bool) → Member z (without ns rs) → Member z (cond b (without ns rs) (r ∷ without ns rs))
    go true k = k
    go false k = inr k

module _ (deploy : Deploy) where
  -- a step took a row away, and its id was made more often than it is at hand
  record Gone (a : State) (u : Step) : Type 0 where
    pub id : List ℕ
    pub named : is_one_of id (u.receiver ∷ u.data_ids) ≡ true
    pub used : times id (ids (stored_rows a.bag)) + times id (ids built_ins) + 1 ≤ times id (first_ids deploy.rows ++ digests a.works)

  -- a step took nothing away, and its rows are there still
  record Lasts (a : State) (u : Step) : Type 0 where
    pub taken : List Row
    pub joined : Joined
    pub names : u.receiver ∷ u.data_ids ≡ ids taken
    pub there : Every (λ r. Member r (standing a.bag)) taken
    pub joins : join taken ≡ Some joined
    pub none : takes_none joined ≡ true

  -- each step that was made is one of these
  abbrev ArePast : State → Type 0
  ArePast a = (u : Step) → Member u a.made → Gone a u ⊎ Lasts a u

  -- one more step
  module _ (a : State) (s : Step) (m : Meeting) (w : Work) (meets : meeting a.bag a.made s ≡ Some m) (d : AreDistinct (first_ids deploy.rows ++ digests a.works)) (k : Accounted deploy a) where
    one : AreDistinct (ids (standing a.bag))
    one = distinct-at deploy a d k

    how : MadeBy (standing a.bag) a.made s m
    how = made_by a.bag a.made s m one meets

    abbrev new : List Row
    new = rows_of (work_products w)

    abbrev going : List Row
    going = leaving_rows how.joined.receiver.kind how.joined.sends how.taken

    abbrev gone : List (List ℕ)
    gone = ids going

    abbrev next : State
    next = moved a s m w

    left : bag_after a.bag m new ≡ record { kept = without gone a.bag.kept; offered = without gone a.bag.offered ++ new }
    left = ap (λ z. bag_after a.bag z new) how.is ∙ bag-left a.bag how.taken how.joined new one

    -- a row that lasts does not leave
    lasting-stays : (z : Row) → Member z (standing a.bag) → lasts z ≡ true → is_one_of z.id gone ≡ false
    lasting-stays z i l = go (is_one_of z.id gone) refl
      where
        go : (b : Bool) → is_one_of z.id gone ≡ b → b ≡ false
        go false h = refl
        go true h =
            let r = row-of-id z.id going h in
            let there : Member r.0 (standing a.bag) = every-at _ how.taken r.0 how.there (leaving-met how.joined.receiver.kind how.joined.sends how.taken r.0 r.1) in
            let same_row : Some z ≡ Some r.0 = sym (row_with-there z (standing a.bag) one i) ∙ ap (λ x. row_with x (standing a.bag)) r.2 ∙ row_with-there r.0 (standing a.bag) one there in
            let fades : lasts r.0 ≡ false = every-at _ going r.0 (leaving-fade how.taken how.joined how.joins) r.1 in
            let same : z ≡ r.0 = cc same_row in
            cc (fades, l, ap lasts same)

    stays-there : (z : Row) → Member z (standing a.bag) → lasts z ≡ true → Member z (standing next.bag)
    stays-there z i l = in-standing next.bag z (go (from-standing a.bag z i))
      where
        still : Member z a.bag.kept ⊎ Member z a.bag.offered → Member z (without gone a.bag.kept ++ (without gone a.bag.offered ++ new))
        still (inl j) = member-left z (without gone a.bag.kept) (without gone a.bag.offered ++ new) (still-there gone a.bag.kept z (lasting-stays z i l) j)
        still (inr j) = member-right z (without gone a.bag.kept) (without gone a.bag.offered ++ new) (member-left z (without gone a.bag.offered) new (still-there gone a.bag.offered z (lasting-stays z i l) j))

        go : Member z (stored_rows a.bag) ⊎ Member z built_ins → Member z (stored_rows next.bag) ⊎ Member z built_ins
        go (inl j) = inl (subst (λ b. Member z (stored_rows b)) (sym left) (still (member-split z a.bag.kept a.bag.offered j)))
        go (inr j) = inr j

    -- what was past is past
    past-still : (u : Step) → Gone a u ⊎ Lasts a u → Gone next u ⊎ Lasts next u
    past-still u (inl g) = inl (record { id = g.id; named = g.named; used = omega (arith, g.used, all-next deploy a w g.id, stored-next a.bag m new g.id, rows-times g.id (work_products w)) })
    past-still u (inr l) = inr (record {
      taken = l.taken;
      joined = l.joined;
      names = l.names;
      there = each-there _ _ l.taken (λ z i j. stays-there z j (every-at _ l.taken z (all-last l.taken l.joined l.joins l.none) i)) l.there;
      joins = l.joins;
      none = l.none;
    })

    -- how often an id is stored after the step
    stored-times : (x : List ℕ) → times x (ids (stored_rows next.bag)) ≡ times x (ids (without gone a.bag.kept)) + times x (ids (without gone a.bag.offered)) + times x (ids new)
    stored-times x = omega (
      arith,
      ap (λ b. times x (ids (stored_rows b))) left,
      ids-times x (without gone a.bag.kept) (without gone a.bag.offered ++ new),
      ids-times x (without gone a.bag.offered) new,
    )

    -- what leaves was stored
    leaving-stored : (r : Row) → Member r going → 1 ≤ times r.id (ids (stored_rows a.bag))
    leaving-stored r i = go (from-standing a.bag r (every-at _ how.taken r how.there (leaving-met how.joined.receiver.kind how.joined.sends how.taken r i)))
      where
        go : Member r (stored_rows a.bag) ⊎ Member r built_ins → 1 ≤ times r.id (ids (stored_rows a.bag))
        go (inl j) = member-times r (stored_rows a.bag) j
        go (inr j) = let fades : lasts r ≡ false = every-at _ going r (leaving-fade how.taken how.joined how.joins) i in cc (fades, built-lasts r j)

    -- the step itself is past
    past-now : Gone next s ⊎ Lasts next s
    past-now = go (takes_none how.joined) refl
      where
        go : (b : Bool) → takes_none how.joined ≡ b → Gone next s ⊎ Lasts next s
        go true h = inr (record {
          taken = how.taken;
          joined = how.joined;
          names = how.ids;
          there = each-there _ _ how.taken (λ z i j. stays-there z j (every-at _ how.taken z (all-last how.taken how.joined how.joins h) i)) how.there;
          joins = how.joins;
          none = h;
        })
        go false h =
            let r = one-leaves how.taken how.joined how.joins h in
            let x : List ℕ = r.0.id in
            let in_taken : Member r.0 how.taken = leaving-met how.joined.receiver.kind how.joined.sends how.taken r.0 r.1 in
            let leaves : is_one_of x gone ≡ true = times-one_of x gone (member-times r.0 going r.1) in
            inl (record {
              id = x;
              named = ap (is_one_of x) how.ids ∙ times-one_of x (ids how.taken) (member-times r.0 how.taken in_taken);
              used = omega (
                arith,
                stored-times x,
                all-next deploy a w x,
                none-left gone a.bag.kept x leaves,
                none-left gone a.bag.offered x leaves,
                rows-times x (work_products w),
                k.counts x,
                leaving-stored r.0 r.1,
              );
            })

    past-step : ArePast a → ArePast next
    past-step h u i = go (member-split u a.made (s ∷ []) i)
      where
        go : Member u a.made ⊎ Member u (s ∷ []) → Gone next u ⊎ Lasts next u
        go (inl j) = past-still u (h u j)
        go (inr (inl e)) = subst (λ x. Gone next x ⊎ Lasts next x) (sym e) past-now
        go (inr (inr j)) = absurd j

  abbrev Continues : ℕ → List Step → List Step → State → Type 0
  Continues room first ss b = (x : State) → AreFresh deploy (first ++ ss) → Leads deploy first x → ArePast x → steps_from deploy.prices deploy.limit room x ss ≡ Some b → ArePast b

  past-steps : (room : ℕ) (before ss : List Step) (a b : State) → AreFresh deploy (before ++ ss) → Leads deploy before a → ArePast a → steps_from deploy.prices deploy.limit room a ss ≡ Some b → ArePast b
  past-steps room before [] a b f l k e = let same : a ≡ b = cc e in subst ArePast same k
  past-steps room before (s ∷ ss) a b f l k e = allowed (λ x g i j h. past-steps room (before ++ s ∷ []) ss x b g i j h) (meeting a.bag a.made s) refl e
    where
      fresh : AreFresh deploy ((before ++ s ∷ []) ++ ss)
      fresh = subst (AreFresh deploy) (sym (append_assoc before (s ∷ []) ss)) f

      works : Continues room (before ++ s ∷ []) ss b → (m : Meeting) → meeting a.bag a.made s ≡ Some m → (o : Option Work) → body_work deploy.prices deploy.limit room s m ≡ o
          → option_and_then (λ x. steps_from deploy.prices deploy.limit room x ss) (option_map (moved a s m) o) ≡ Some b → ArePast b
      works next m d None g e = cc
      works next m d (Some w) g e =
          let there : Leads deploy (before ++ s ∷ []) (moved a s m w) = leads-more deploy before a s m room w l d g in
          next (moved a s m w) fresh there (past-step a s m w d (fresh-at deploy before (s ∷ ss) a f l) (accounted deploy before a (fresh-first deploy before (s ∷ ss) f) l) k) e

      allowed : Continues room (before ++ s ∷ []) ss b → (o : Option Meeting) → meeting a.bag a.made s ≡ o
          → option_and_then (λ x. steps_from deploy.prices deploy.limit room x ss) (option_and_then (λ m. option_map (moved a s m) (body_work deploy.prices deploy.limit room s m)) o) ≡ Some b → ArePast b
      allowed next None d e = cc
      allowed next (Some m) d e = works next m d (body_work deploy.prices deploy.limit room s m) refl e

  -- wherever a legal list leads
  all-past : (ss : List Step) (a : State) → AreFresh deploy ss → Leads deploy ss a → ArePast a
  all-past ss a f l = go (capped deploy.limit (unfold_in deploy.prices l.0 deploy.process (source_seed deploy))) refl l.1
    where
      go : (o : Option Work) → capped deploy.limit (unfold_in deploy.prices l.0 deploy.process (source_seed deploy)) ≡ o → option_and_then (λ x. steps_from deploy.prices deploy.limit l.0 x ss) (option_map (begun deploy.rows) o) ≡ Some a → ArePast a
      go None d e = cc
      go (Some w) d e = past-steps l.0 [] ss (begun deploy.rows w) a f (leads-none deploy w (l.0, d)) (λ u i. absurd i) e

all-members : (zs qs : List Row) → AllAmong zs qs → Every (λ z. Member z qs) zs
all-members [] qs h = tt
all-members (z ∷ zs) qs h = (member z qs h.0, all-members zs qs h.1)

pub legal_lists_use_nothing_up : LegalListsUseNothingUp
legal_lists_use_nothing_up deploy ss a l f r ds h m e t = count-none deploy (step_of a.made r ds) a.made (λ u i. other u i)
  where
    d : AreDistinct (first_ids deploy.rows ++ digests a.works)
    d = fresh-at deploy ss [] a (subst (AreFresh deploy) (sym (append_nothing ss)) f) l

    k : Accounted deploy a
    k = accounted deploy ss a f l

    one : AreDistinct (ids (standing a.bag))
    one = distinct-at deploy a d k

    j : Met (r ∷ ds) m
    j = met-joins (r ∷ ds) m e

    takes : takes_none j.joined ≡ false
    takes = sym (ap is_lasting j.is) ∙ t

    there : Every (λ z. Member z (standing a.bag)) (r ∷ ds)
    there = all-members (r ∷ ds) (standing a.bag) h

    clash : (u : Step) → u.receiver ∷ u.data_ids ≡ ids (r ∷ ds) → Gone deploy a u ⊎ Lasts deploy a u → ⊥
    clash u g (inl p) =
        let q = row-of-id p.id (r ∷ ds) (sym (ap (is_one_of p.id) g) ∙ p.named) in
        let here : 1 ≤ times q.0.id (ids (standing a.bag)) = member-times q.0 (standing a.bag) (every-at _ (r ∷ ds) q.0 there q.1) in
        omega (arith, p.used, here, ap (λ x. times x (ids (standing a.bag))) q.2, standing-times p.id a.bag, d p.id)
    clash u g (inr p) =
        let same_rows : Some (r ∷ ds) ≡ Some p.taken = sym (rows_with-there (r ∷ ds) (standing a.bag) one there) ∙ ap (λ x. rows_with x (standing a.bag)) (sym g ∙ p.names) ∙ rows_with-there p.taken (standing a.bag) one p.there in
        let same : r ∷ ds ≡ p.taken = cc same_rows in
        let joined : Some j.joined ≡ Some p.joined = sym j.joins ∙ ap join same ∙ p.joins in
        let alike : j.joined ≡ p.joined = cc joined in
        cc (takes, p.none, ap takes_none alike)

    other : (u : Step) → Member u a.made → same_meeting (step_of a.made r ds) u ≡ false
    other u i = go (same_meeting (step_of a.made r ds) u) refl
      where
        go : (b : Bool) → same_meeting (step_of a.made r ds) u ≡ b → b ≡ false
        go false g = refl
        go true g = absurd (clash u (sym (same-names (step_of a.made r ds) u g)) (all-past deploy ss a f l u i))
