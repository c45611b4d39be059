-- A step that takes a row away is made once: the row never comes back.
use Rattle.std.proofs.Common.{◌≡◌, ◌≤◌, ℕ, ◌+◌, Bool, true, false, ◌&&◌, ◌||◌, cond, List, [], ◌∷◌, ◌++◌, refl, ap, sym, ◌∙◌, subst, arith, inl, inr}
use Rattle.std.specs.Prelude.{◌⊎◌, Some, count_by, map as each}
use Rattle.std.proofs.lemmas.List.Sums.{sum_by-cons}
use Rattle.std.specs.Str.{bytes_eq}
use Rattle.calculus.proofs.Members.{Member, Every, member-split, member-left, member-right, each-there, every-at}
use Rattle.calculus.specs.declared.plain.Kind.{Kind}
use Rattle.calculus.specs.Log.{Step}
use Rattle.calculus.specs.Rows.{Row}
use Rattle.calculus.specs.Runs.{Deploy, Work, work_products}
use Rattle.calculus.specs.Unfolding.{digest}
use Rattle.calculus.specs.Steps.{Datum, is_one_of, standing, stored_rows, stays, peeks, same_ids, same_meeting}
use Rattle.events.specs.Events.{Core, started, with_operation, Puts, Meets, Events, no_event, one_more, first_ids, AreFresh, digests}
use Rattle.events.specs.EventLaws.{Begins}
use Rattle.events.specs.Found.{without, leaving_rows, leaving_sends}
use Rattle.events.proofs.Counts.{ids, times, one_if, bytes_same, member-times, times-one_of, times-append}
use Rattle.events.proofs.Lookups.{row_with, rows_with, row_with-there, rows_with-there}
use Rattle.events.proofs.Meetings.{Joined, MadeBy, join}
use Rattle.events.proofs.Lasting.{lasts, built-lasts, takes_none, all-last, leaving-fade, one-leaves}
use Rattle.events.proofs.Orders.{member-moved, times-moved}
use Rattle.events.proofs.EventStanding.{built_ins, ids-times, standing-times, from-standing, in-standing, left-times, rows-times, digests-more}
use Rattle.events.proofs.EventFollowing.{Kept, all-distinct, state-distinct, operation-there}
use Rattle.events.proofs.Keeping.{kept-all, fresh-first, put-moved, how, is_after, after_it, ns, new, after_moved}
use Rattle.calculus.proofs.Permutations.{moved_so}

-- an id among those of rows is that of a row
pub row-of-id : (x : List ℕ) (rs : List Row) → is_one_of x (ids rs) ≡ true → (r : Row) × Member r rs × (x ≡ r.id)
row-of-id x [] e = cc
row-of-id x (r ∷ rs) e = go (row-of-id x rs) (bytes_eq x r.id) refl e
  where
    go : (is_one_of x (ids rs) ≡ true → (q : Row) × Member q rs × (x ≡ q.id)) → (b : Bool) → bytes_eq x r.id ≡ b → b || is_one_of x (ids rs) ≡ true → (q : Row) × Member q (r ∷ rs) × (x ≡ q.id)
    go next true d e = (r, inl refl, bytes_same x r.id d)
    go next false d e = let k = next e in (k.0, inr k.1, k.2)

facts-met : (k : Kind) (rs : List Row) (ds : List Datum) (z : Row) → Member z (leaving_sends k rs ds) → Member z rs
facts-met k [] ds z m = m
facts-met k (r ∷ rs) [] z m = absurd m
facts-met k (r ∷ rs) (d ∷ ds) z m = go (facts-met k rs ds z) (peeks k || d.persistent) m
  where
    go : (Member z (leaving_sends k rs ds) → Member z rs) → (b : Bool) → Member z (cond b (leaving_sends k rs ds) (r ∷ leaving_sends k rs ds)) → Member z (r ∷ rs)
    go next true m = inr (next m)
    go next false (inl e) = inl e
    go next false (inr m) = inr (next m)

pub leaving-met : (k : Kind) (ds : List Datum) (rs : List Row) (z : Row) → Member z (leaving_rows k ds rs) → Member z rs
leaving-met k ds [] z m = m
leaving-met k ds (r ∷ rs) z m = go (stays k) m
  where
    go : (b : Bool) → Member z (cond b [] (r ∷ []) ++ leaving_sends k rs ds) → Member z (r ∷ rs)
    go true m = inr (facts-met k rs ds z m)
    go false (inl e) = inl e
    go false (inr m) = inr (facts-met k rs ds z m)

still-there : (ms : List (List ℕ)) (rs : List Row) (z : Row) → is_one_of z.id ms ≡ false → Member z rs → Member z (without ms rs)
still-there ms [] z e m = m
still-there ms (r ∷ rs) z e (inl f) = subst (λ b. Member z (cond b (without ms rs) (r ∷ without ms rs))) (sym (ap (λ q. is_one_of q.id ms) (sym f) ∙ e)) (inl f)
still-there ms (r ∷ rs) z e (inr m) = go (is_one_of r.id ms) (still-there ms rs z e m)
  where
    go : (b : Bool) → Member z (without ms rs) → Member z (cond b (without ms rs) (r ∷ without ms rs))
    go true k = k
    go false k = inr k

pub none-left : (ms : List (List ℕ)) (rs : List Row) (x : List ℕ) → is_one_of x ms ≡ true → times x (ids (without ms rs)) ≡ 0
none-left ms [] x e = refl
none-left ms (r ∷ rs) x e = go (is_one_of r.id ms) refl (none-left ms rs x e)
  where
    other : is_one_of r.id ms ≡ false → (b : Bool) → bytes_eq x r.id ≡ b → times x (ids (without ms rs)) ≡ 0 → one_if b + times x (ids (without ms rs)) ≡ 0
    other d true f h = cc (d, e, bytes_same x r.id f)
    other d false f h = omega (arith, h)

    go : (b : Bool) → is_one_of r.id ms ≡ b → times x (ids (without ms rs)) ≡ 0 → times x (ids (cond b (without ms rs) (r ∷ without ms rs))) ≡ 0
    go true d h = h
    go false d h = other d (bytes_eq x r.id) refl h

left : (a b : Bool) → a && b ≡ true → a ≡ true
left true b h = refl
left false b h = cc

right : (a b : Bool) → a && b ≡ true → b ≡ true
right true b h = h
right false b h = cc

lists : (xs ys : List (List ℕ)) → same_ids xs ys ≡ true → xs ≡ ys
lists [] [] h = refl
lists [] (y ∷ ys) h = cc
lists (x ∷ xs) [] h = cc
lists (x ∷ xs) (y ∷ ys) h = cc (bytes_same x y (left (bytes_eq x y) (same_ids xs ys) h), lists xs ys (right (bytes_eq x y) (same_ids xs ys) h))

-- equal meetings name the same rows
pub same-names : (s u : Step) → same_meeting s u ≡ true → s.receiver ∷ s.data_ids ≡ u.receiver ∷ u.data_ids
same-names s u g = cc (bytes_same s.receiver u.receiver (left (bytes_eq s.receiver u.receiver) (same_ids s.data_ids u.data_ids) g), lists s.data_ids u.data_ids (right (bytes_eq s.receiver u.receiver) (same_ids s.data_ids u.data_ids) g))

module _ (deploy : Deploy) where
  -- a step took a row away, and its id is used up
  pub record Gone (c : Core) (u : Step) : Type 0 where
    pub id : List ℕ
    pub named : is_one_of id (u.receiver ∷ u.data_ids) ≡ true
    pub used : times id (ids (c.store ++ c.pending)) + times id (ids built_ins) + 1 ≤ times id (first_ids deploy.rows ++ digests c.works)

  -- a step took nothing away, and its rows are there still
  pub record Lasts (c : Core) (u : Step) : Type 0 where
    pub taken : List Row
    pub joined : Joined
    pub names : u.receiver ∷ u.data_ids ≡ ids taken
    pub there : Every (λ r. Member r ((c.store ++ c.pending) ++ built_ins)) taken
    pub joins : join taken ≡ Some joined
    pub none : takes_none joined ≡ true

  -- each step that was made is one of these
  abbrev pub ArePast : Core → Type 0
  ArePast c = (u : Step) → Member u c.made → Gone c u ⊎ Lasts c u

  -- the rows of a core stand in the state's bag
  core-there : (c : Core) (k : Kept deploy c) (z : Row) → Member z ((c.store ++ c.pending) ++ built_ins) → Member z (standing k.state.bag)
  core-there c k z m = in-standing k.state.bag z (go (member-split z (c.store ++ c.pending) built_ins m))
    where
      go : Member z (c.store ++ c.pending) ⊎ Member z built_ins → Member z (stored_rows k.state.bag) ⊎ Member z built_ins
      go (inl i) = inl (member-moved z (moved_so k.rows_moved) i)
      go (inr i) = inr i

  -- a put takes no row away
  past-put : (c d : Core) → Puts c d → ArePast c → ArePast d
  past-put c d e h u m = subst (λ x. Gone x u ⊎ Lasts x u) (sym e.is) (go (h u (subst (λ x. Member u x.made) e.is m)))
    where
      there : (z : Row) → Member z ((c.store ++ c.pending) ++ built_ins) → Member z (((c.store ++ e.operation ∷ []) ++ (e.before ++ e.after)) ++ built_ins)
      there z i = split (member-split z (c.store ++ c.pending) built_ins i)
        where
          split : Member z (c.store ++ c.pending) ⊎ Member z built_ins → Member z (((c.store ++ e.operation ∷ []) ++ (e.before ++ e.after)) ++ built_ins)
          split (inl j) = member-left z ((c.store ++ e.operation ∷ []) ++ (e.before ++ e.after)) built_ins (member-moved z (put-moved deploy c d e) j)
          split (inr j) = member-right z ((c.store ++ e.operation ∷ []) ++ (e.before ++ e.after)) built_ins j

      go : Gone c u ⊎ Lasts c u → Gone (record { store = c.store ++ e.operation ∷ []; pending = e.before ++ e.after; made = c.made; works = c.works; output = c.output }) u ⊎ Lasts (record { store = c.store ++ e.operation ∷ []; pending = e.before ++ e.after; made = c.made; works = c.works; output = c.output }) u
      go (inl g) = inl (record { id = g.id; named = g.named; used = omega (arith, g.used, times-moved g.id (put-moved deploy c d e)) })
      go (inr l) = inr (record { taken = l.taken; joined = l.joined; names = l.names; there = each-there _ _ l.taken (λ z i j. there z j) l.there; joins = l.joins; none = l.none })

  module _ (c d : Core) (f : AreFresh deploy c.made) (k : Kept deploy c) (e : Meets deploy.prices deploy.limit c d) where
    abbrev made_by_it : MadeBy (standing (with_operation c.store e.operation)) c.made e.step e.found
    made_by_it = how deploy c d f k e

    abbrev gone_ids : List (List ℕ)
    gone_ids = ns deploy c d f k e

    abbrev next_core : Core
    next_core = after_it deploy c d f k e

    taken-there : (z : Row) → Member z made_by_it.taken → Member z (standing k.state.bag)
    taken-there z m = operation-there deploy c k f e.operation e.before e.after e.pending z (every-at _ made_by_it.taken z made_by_it.there m)

    -- a row that lasts does not leave
    lasting-stays : (z : Row) → Member z (standing k.state.bag) → lasts z ≡ true → is_one_of z.id gone_ids ≡ false
    lasting-stays z m l = go (is_one_of z.id gone_ids) refl
      where
        go : (b : Bool) → is_one_of z.id gone_ids ≡ b → b ≡ false
        go false h = refl
        go true h =
            let r = row-of-id z.id (leaving_rows made_by_it.joined.receiver.kind made_by_it.joined.sends made_by_it.taken) h in
            let there : Member r.0 (standing k.state.bag) = taken-there r.0 (leaving-met made_by_it.joined.receiver.kind made_by_it.joined.sends made_by_it.taken r.0 r.1) in
            let one : Some z ≡ Some r.0 = sym (row_with-there z (standing k.state.bag) (state-distinct deploy c k f) m)
            ∙ ap (λ x. row_with x (standing k.state.bag)) r.2 ∙ row_with-there r.0 (standing k.state.bag) (state-distinct deploy c k f) there in
            let fades : lasts r.0 ≡ false = every-at _ _ r.0 (leaving-fade made_by_it.taken made_by_it.joined made_by_it.joins) r.1 in
            let same : z ≡ r.0 = cc one in
            cc (fades, l, ap lasts same)

    stays-there : (z : Row) → lasts z ≡ true → Member z ((c.store ++ c.pending) ++ built_ins) → Member z ((next_core.store ++ next_core.pending) ++ built_ins)
    stays-there z l m = go (member-split z (c.store ++ c.pending) built_ins m)
      where
        go : Member z (c.store ++ c.pending) ⊎ Member z built_ins → Member z ((next_core.store ++ next_core.pending) ++ built_ins)
        go (inl i) = member-left z (next_core.store ++ next_core.pending) built_ins (member-moved z (after_moved deploy c d f k e)
            (member-left z (without gone_ids (c.store ++ c.pending)) (new deploy c d f k e) (still-there gone_ids (c.store ++ c.pending) z (lasting-stays z (core-there c k z m) l) i)))
        go (inr i) = member-right z (next_core.store ++ next_core.pending) built_ins i

    times-next : (x : List ℕ) → times x (ids (next_core.store ++ next_core.pending)) ≡ times x (ids (without gone_ids (c.store ++ c.pending))) + times x (ids (new deploy c d f k e))
    times-next x = sym (times-moved x (after_moved deploy c d f k e)) ∙ ids-times x (without gone_ids (c.store ++ c.pending)) (new deploy c d f k e)

    all-next : (x : List ℕ) → times x (first_ids deploy.rows ++ digests next_core.works) ≡ times x (first_ids deploy.rows ++ digests c.works) + times x (each digest (work_products e.work))
    all-next x = omega (arith, times-append x (first_ids deploy.rows) (digests c.works), times-append x (first_ids deploy.rows) (digests (c.works ++ e.work ∷ [])), digests-more x c.works e.work)

    -- what was past is past
    past-still : (u : Step) → Gone c u ⊎ Lasts c u → Gone next_core u ⊎ Lasts next_core u
    past-still u (inl g) = inl (record { id = g.id; named = g.named; used = omega (arith, g.used, times-next g.id, all-next g.id, left-times g.id gone_ids (c.store ++ c.pending), rows-times g.id (work_products e.work)) })
    past-still u (inr l) = inr (record {
      taken = l.taken;
      joined = l.joined;
      names = l.names;
      there = each-there _ _ l.taken (λ z i j. stays-there z (every-at _ l.taken z (all-last l.taken l.joined l.joins l.none) i) j) l.there;
      joins = l.joins;
      none = l.none;
    })

    -- the row stands in the core
    in-core : (z : Row) → Member z (standing k.state.bag) → Member z ((c.store ++ c.pending) ++ built_ins)
    in-core z m = go (from-standing k.state.bag z m)
      where
        go : Member z (stored_rows k.state.bag) ⊎ Member z built_ins → Member z ((c.store ++ c.pending) ++ built_ins)
        go (inl i) = member-left z (c.store ++ c.pending) built_ins (member-moved z k.rows_moved i)
        go (inr i) = member-right z (c.store ++ c.pending) built_ins i

    fading-stored : (z : Row) → Member z (standing k.state.bag) → lasts z ≡ false → 1 ≤ times z.id (ids (c.store ++ c.pending))
    fading-stored z m l = go (from-standing k.state.bag z m)
      where
        go : Member z (stored_rows k.state.bag) ⊎ Member z built_ins → 1 ≤ times z.id (ids (c.store ++ c.pending))
        go (inl i) = member-times z (c.store ++ c.pending) (member-moved z k.rows_moved i)
        go (inr i) = absurd (cc (built-lasts z i, l))

    -- the step itself is past
    past-now : Gone next_core e.step ⊎ Lasts next_core e.step
    past-now = go (takes_none made_by_it.joined) refl
      where
        go : (b : Bool) → takes_none made_by_it.joined ≡ b → Gone next_core e.step ⊎ Lasts next_core e.step
        go true h = inr (record {
          taken = made_by_it.taken;
          joined = made_by_it.joined;
          names = made_by_it.ids;
          there = each-there _ _ made_by_it.taken (λ z i j. stays-there z (every-at _ made_by_it.taken z (all-last made_by_it.taken made_by_it.joined made_by_it.joins h) i) (in-core z (taken-there z i))) made_by_it.there;
          joins = made_by_it.joins;
          none = h;
        })
        go false h =
            let r = one-leaves made_by_it.taken made_by_it.joined made_by_it.joins h in
            let m : Member r.0 made_by_it.taken = leaving-met made_by_it.joined.receiver.kind made_by_it.joined.sends made_by_it.taken r.0 r.1 in
            let fades : lasts r.0 ≡ false = every-at _ _ r.0 (leaving-fade made_by_it.taken made_by_it.joined made_by_it.joins) r.1 in
            let leaves : is_one_of r.0.id gone_ids ≡ true = times-one_of r.0.id gone_ids (member-times r.0 _ r.1) in
            inl (record {
              id = r.0.id;
              named = ap (is_one_of r.0.id) made_by_it.ids ∙ times-one_of r.0.id (ids made_by_it.taken) (member-times r.0 made_by_it.taken m);
              used = omega (arith, times-next r.0.id, all-next r.0.id, none-left gone_ids (c.store ++ c.pending) r.0.id leaves, rows-times r.0.id (work_products e.work), k.counts r.0.id, fading-stored r.0 (taken-there r.0 m) fades);
            })

    past-step : ArePast c → ArePast d
    past-step h u m = subst (λ x. Gone x u ⊎ Lasts x u) (sym (is_after deploy c d f k e)) (go (member-split u c.made (e.step ∷ []) (subst (λ x. Member u x.made) (is_after deploy c d f k e) m)))
      where
        go : Member u c.made ⊎ Member u (e.step ∷ []) → Gone next_core u ⊎ Lasts next_core u
        go (inl i) = past-still u (h u i)
        go (inr (inl i)) = subst (λ x. Gone next_core x ⊎ Lasts next_core x) (sym i) past-now
        go (inr (inr i)) = absurd i

  -- after any events each step that was made is past
  pub all-past : (w : Work) (c : Core) → Begins deploy w → Events deploy.prices deploy.limit (started deploy.rows w) c → AreFresh deploy c.made → ArePast c
  all-past w c b no_event f = λ u m. absurd m
  all-past w e b (one_more {d} es (inl put)) f =
      let g : AreFresh deploy d.made = subst (AreFresh deploy) (ap (λ x. x.made) put.is) f in
      past-put d e put (all-past w d b es g)
  all-past w e b (one_more {d} es (inr step)) f =
      let g : AreFresh deploy d.made = fresh-first deploy d.made (step.step ∷ []) (subst (AreFresh deploy) (ap (λ x. x.made) step.is) f) in
      past-step d e g (kept-all deploy w d b es g) step (all-past w d b es g)

  -- a step of rows that are there, which takes one away, was not made before
  once-at-most : (c : Core) (k : Kept deploy c) → AreFresh deploy c.made → ArePast c → (s : Step) (qs : List Row) (q : Joined)
      → s.receiver ∷ s.data_ids ≡ ids qs → Every (λ r. Member r (standing k.state.bag)) qs → join qs ≡ Some q → takes_none q ≡ false
      → (u : Step) → Member u c.made → same_meeting s u ≡ false
  once-at-most c k f h s qs q i there j takes u m = go (same_meeting s u) refl
    where
      clash : u.receiver ∷ u.data_ids ≡ ids qs → Gone c u ⊎ Lasts c u → ⊥
      clash e (inl g) =
          let r = row-of-id g.id qs (sym (ap (is_one_of g.id) e) ∙ g.named) in
          let here : 1 ≤ times r.0.id (ids (standing k.state.bag)) = member-times r.0 (standing k.state.bag) (every-at _ qs r.0 there r.1) in
          omega (arith, g.used, here, ap (λ x. times x (ids (standing k.state.bag))) r.2, standing-times g.id k.state.bag, times-moved g.id k.rows_moved, all-distinct deploy c k f g.id)
      clash e (inr l) =
          let d = state-distinct deploy c k f in
          let one : Some qs ≡ Some l.taken = sym (rows_with-there qs (standing k.state.bag) d there) ∙ ap (λ x. rows_with x (standing k.state.bag)) (sym e ∙ l.names)
          ∙ rows_with-there l.taken (standing k.state.bag) d (each-there _ _ l.taken (λ z n o. core-there c k z o) l.there) in
          let same : qs ≡ l.taken = cc one in
          let joined : Some q ≡ Some l.joined = sym j ∙ ap join same ∙ l.joins in
          let alike : q ≡ l.joined = cc joined in
          cc (takes, l.none, ap takes_none alike)

      go : (b : Bool) → same_meeting s u ≡ b → b ≡ false
      go false g = refl
      go true g = absurd (clash (sym (same-names s u g) ∙ i) (h u m))

  pub count-none : (s : Step) (made : List Step) → ((u : Step) → Member u made → same_meeting s u ≡ false) → count_by (same_meeting s) made ≡ 0
  count-none s [] h = refl
  count-none s (u ∷ made) h = sum_by-cons (λ x. cond (same_meeting s x) 1 0) u made ∙ ap (λ b. cond b 1 0 + count_by (same_meeting s) made) (h u (inl refl)) ∙ ap (λ n. 0 + n) (count-none s made (λ v m. h v (inr m)))

  -- so the number of times that it was made is 0
  pub not-made : (c : Core) (k : Kept deploy c) → AreFresh deploy c.made → ArePast c → (s : Step) (qs : List Row) (q : Joined)
      → s.receiver ∷ s.data_ids ≡ ids qs → Every (λ r. Member r (standing k.state.bag)) qs → join qs ≡ Some q → takes_none q ≡ false → count_by (same_meeting s) c.made ≡ 0
  not-made c k f h s qs q i there j takes = count-none s c.made (once-at-most c k f h s qs q i there j takes)
