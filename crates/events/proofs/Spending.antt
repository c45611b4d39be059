-- What a step spends is gone: no later step names it.
use Rattle.std.proofs.Common.{◌≡◌, ◌≤◌, ℕ, ◌+◌, Bool, true, false, ◌||◌, cond, List, [], ◌∷◌, ◌++◌, refl, ap, sym, ◌∙◌, subst, arith, inl, inr, append_assoc}
use Rattle.std.specs.Prelude.{◌⊎◌, Some, All, option_map}
use Rattle.std.specs.Str.{bytes_eq}
use Rattle.std.proofs.lemmas.List.Elements.{All-nil, All-cons}
use Rattle.calculus.proofs.Members.{Member, Every, member-right, every-at}
use Rattle.calculus.specs.declared.plain.Kind.{Kind}
use Rattle.calculus.specs.Log.{Step}
use Rattle.calculus.specs.Rows.{Row}
use Rattle.calculus.specs.Unfolding.{Product, rows_of}
use Rattle.calculus.specs.Steps.{Datum, Meeting, is_one_of, standing, stored_rows, stays, peeks, meeting, bag_after}
use Rattle.calculus.specs.Runs.{Deploy, Work, work_products, State, body_work, moved, step_from, steps_from, Leads, IsLegal}
use Rattle.calculus.proofs.Candidates.{and_then-inv, map-inv}
use Rattle.events.specs.Events.{first_ids, AreFresh, digests}
use Rattle.events.specs.Found.{without, leaving_rows, leaving_sends}
use Rattle.events.specs.Spending.{spent_data, spent_ids, IsSpentBy}
use Rattle.events.specs.EventLaws.{SpentIdsAreGone, IdsAreSpentOnce}
use Rattle.events.proofs.Counts.{ids, times, one_if, AreDistinct, one_of-times, times-one_of, member-times}
use Rattle.events.proofs.Meetings.{MadeBy, made_by}
use Rattle.events.proofs.Lasting.{lasts, built-lasts, Joins, joins-of, leaving-fade}
use Rattle.events.proofs.EventStanding.{built_ins, ids-times, standing-times, from-standing, rows-times}
use Rattle.events.proofs.EventFollowing.{bag-left}
use Rattle.events.proofs.Keeping.{fresh-first}
use Rattle.events.proofs.Legal.{leads-more, leads-rest}
use Rattle.events.proofs.Spent.{row-of-id, leaving-met, none-left}
use Rattle.events.proofs.Accounts.{stored-next, all-next, distinct-at, Accounted, accounted, fresh-at}

-- the ids that are spent are those of the rows that leave
data-leave : (k : Kind) (rs : List Row) (ds : List Datum) → spent_data k (ids rs) ds ≡ ids (leaving_sends k rs ds)
data-leave k [] ds = refl
data-leave k (r ∷ rs) [] = refl
data-leave k (r ∷ rs) (d ∷ ds) = go (peeks k || d.persistent) (data-leave k rs ds)
  where
    go : (b : Bool) → spent_data k (ids rs) ds ≡ ids (leaving_sends k rs ds) → cond b (spent_data k (ids rs) ds) (r.id ∷ spent_data k (ids rs) ds) ≡ ids (cond b (leaving_sends k rs ds) (r ∷ leaving_sends k rs ds))
    go true e = e
    go false e = ap (λ l. r.id ∷ l) e

all-leave : (k : Kind) (r : Row) (rs : List Row) (ds : List Datum) → cond (stays k) [] (r.id ∷ []) ++ spent_data k (ids rs) ds ≡ ids (leaving_rows k ds (r ∷ rs))
all-leave k r rs ds = go (stays k) (data-leave k rs ds)
  where
    go : (b : Bool) → spent_data k (ids rs) ds ≡ ids (leaving_sends k rs ds) → cond b [] (r.id ∷ []) ++ spent_data k (ids rs) ds ≡ ids (cond b [] (r ∷ []) ++ leaving_sends k rs ds)
    go true e = e
    go false e = ap (λ l. r.id ∷ l) e

-- of a step that rows make
module _ (rows : List Row) (made : List Step) (s : Step) (m : Meeting) (how : MadeBy rows made s m) where
  pub joins : Joins how.taken how.joined
  joins = joins-of how.taken how.joined how.joins

  pub receiver-id : s.receiver ≡ joins.first.id
  receiver-id = let e : s.receiver ∷ s.data_ids ≡ ids (joins.first ∷ joins.others) = how.ids ∙ ap ids joins.is in cc e

  pub data-ids : s.data_ids ≡ ids joins.others
  data-ids = let e : s.receiver ∷ s.data_ids ≡ ids (joins.first ∷ joins.others) = how.ids ∙ ap ids joins.is in cc e

  -- what it spends are the ids of the rows that leave
  pub spent-leave : spent_ids s m ≡ ids (leaving_rows how.joined.receiver.kind how.joined.sends how.taken)
  spent-leave =
      ap (spent_ids s) how.is
      ∙ ap (λ x. cond (stays how.joined.receiver.kind) [] (x ∷ []) ++ spent_data how.joined.receiver.kind s.data_ids how.joined.sends) receiver-id
      ∙ ap (λ xs. cond (stays how.joined.receiver.kind) [] (joins.first.id ∷ []) ++ spent_data how.joined.receiver.kind xs how.joined.sends) data-ids
      ∙ all-leave how.joined.receiver.kind joins.first joins.others how.joined.sends
      ∙ ap (λ l. ids (leaving_rows how.joined.receiver.kind how.joined.sends l)) (sym joins.is)

-- what is spent is named
data-named : (k : Kind) (xs : List (List ℕ)) (ds : List Datum) (x : List ℕ) → times x (spent_data k xs ds) ≤ times x xs
data-named k [] ds x = omega arith
data-named k (y ∷ xs) [] x = omega arith
data-named k (y ∷ xs) (d ∷ ds) x = go (peeks k || d.persistent) (data-named k xs ds x)
  where
    go : (b : Bool) → times x (spent_data k xs ds) ≤ times x xs → times x (cond b (spent_data k xs ds) (y ∷ spent_data k xs ds)) ≤ one_if (bytes_eq x y) + times x xs
    go true h = omega (arith, h)
    go false h = omega (arith, h)

spent-named : (s : Step) (m : Meeting) (x : List ℕ) → is_one_of x (spent_ids s m) ≡ true → is_one_of x (s.receiver ∷ s.data_ids) ≡ true
spent-named s m x e = times-one_of x (s.receiver ∷ s.data_ids) (go (stays m.receiver.kind) (one_of-times x (spent_ids s m) e))
  where
    go : (b : Bool) → 1 ≤ times x (cond b [] (s.receiver ∷ []) ++ spent_data m.receiver.kind s.data_ids m.sends) → 1 ≤ times x (s.receiver ∷ s.data_ids)
    go true h = omega (arith, h, data-named m.receiver.kind s.data_ids m.sends x)
    go false h = omega (arith, h, data-named m.receiver.kind s.data_ids m.sends x)

module _ (deploy : Deploy) where
  -- an id was made more often than it is at hand
  abbrev IsUsed : State → List ℕ → Type 0
  IsUsed a x = times x (ids (stored_rows a.bag)) + times x (ids built_ins) + 1 ≤ times x (first_ids deploy.rows ++ digests a.works)

  -- no digest was made twice
  abbrev AreOnce : State → Type 0
  AreOnce a = AreDistinct (first_ids deploy.rows ++ digests a.works)

  -- what is used stays so
  used-still : (a : State) (s : Step) (m : Meeting) (w : Work) (x : List ℕ) → IsUsed a x → IsUsed (moved a s m w) x
  used-still a s m w x h = omega (arith, h, all-next deploy a w x, stored-next a.bag m (rows_of (work_products w)) x, rows-times x (work_products w))

  -- what is used is named by no step
  used-unnamed : (a : State) (s : Step) (m : Meeting) (x : List ℕ) → Accounted deploy a → AreOnce a → meeting a.bag a.made s ≡ Some m → IsUsed a x → is_one_of x (s.receiver ∷ s.data_ids) ≡ false
  used-unnamed a s m x k d e u = go (is_one_of x (s.receiver ∷ s.data_ids)) refl
    where
      how : MadeBy (standing a.bag) a.made s m
      how = made_by a.bag a.made s m (distinct-at deploy a d k) e

      there : is_one_of x (s.receiver ∷ s.data_ids) ≡ true → 1 ≤ times x (ids (standing a.bag))
      there f =
          let r = row-of-id x how.taken (sym (ap (is_one_of x) how.ids) ∙ f) in
          omega (arith, member-times r.0 (standing a.bag) (every-at _ how.taken r.0 how.there r.1), ap (λ y. times y (ids (standing a.bag))) r.2)

      go : (b : Bool) → is_one_of x (s.receiver ∷ s.data_ids) ≡ b → b ≡ false
      go false f = refl
      go true f = absurd (omega (arith, u, d x, there f, standing-times x a.bag))

  -- what a step spends is used after it
  spent-used : (a : State) (s : Step) (m : Meeting) (w : Work) (x : List ℕ) → Accounted deploy a → AreOnce a → meeting a.bag a.made s ≡ Some m → is_one_of x (spent_ids s m) ≡ true → IsUsed (moved a s m w) x
  spent-used a s m w x k d e f =
      omega (
        arith,
        all-next deploy a w x,
        rows-times x new,
        k.counts x,
        here,
        ap (λ b. times x (ids (stored_rows b))) left,
        ids-times x (without gone a.bag.kept) (without gone a.bag.offered ++ rows_of new),
        ids-times x (without gone a.bag.offered) (rows_of new),
        none-left gone a.bag.kept x leaves,
        none-left gone a.bag.offered x leaves,
      )
    where
      how : MadeBy (standing a.bag) a.made s m
      how = made_by a.bag a.made s m (distinct-at deploy a d k) e

      new : List Product
      new = work_products w

      going : List Row
      going = leaving_rows how.joined.receiver.kind how.joined.sends how.taken

      gone : List (List ℕ)
      gone = ids going

      leaves : is_one_of x gone ≡ true
      leaves = sym (ap (is_one_of x) (spent-leave (standing a.bag) a.made s m how)) ∙ f

      left : bag_after a.bag m (rows_of new) ≡ record { kept = without gone a.bag.kept; offered = without gone a.bag.offered ++ rows_of new }
      left = ap (λ z. bag_after a.bag z (rows_of new)) how.is ∙ bag-left a.bag how.taken how.joined (rows_of new) (distinct-at deploy a d k)

      stored : (r : Row) → Member r going → x ≡ r.id → Member r (stored_rows a.bag) ⊎ Member r built_ins → 1 ≤ times x (ids (stored_rows a.bag))
      stored r i g (inl m) = omega (arith, member-times r (stored_rows a.bag) m, ap (λ y. times y (ids (stored_rows a.bag))) g)
      stored r i g (inr m) = let fades : lasts r ≡ false = every-at _ going r (leaving-fade how.taken how.joined how.joins) i in cc (fades, built-lasts r m)

      here : 1 ≤ times x (ids (stored_rows a.bag))
      here =
          let r = row-of-id x going leaves in
          let there : Member r.0 (standing a.bag) = every-at _ how.taken r.0 how.there (leaving-met how.joined.receiver.kind how.joined.sends how.taken r.0 r.1) in
          stored r.0 r.1 r.2 (from-standing a.bag r.0 there)

  -- how a step leads from one state to the next
  record Next (room : ℕ) (a b : State) (s : Step) : Type 0 where
    pub met : Meeting
    pub allowed : meeting a.bag a.made s ≡ Some met
    pub work : Work
    pub works : body_work deploy.prices deploy.limit room s met ≡ Some work
    pub is : moved a s met work ≡ b

  next-of : (room : ℕ) (a b : State) (s : Step) → step_from deploy.prices deploy.limit room a s ≡ Some b → Next room a b s
  next-of room a b s e =
      let i = and_then-inv (meeting a.bag a.made s) (λ m. option_map (moved a s m) (body_work deploy.prices deploy.limit room s m)) b e in
      let j = map-inv (body_work deploy.prices deploy.limit room s i.0) (moved a s i.0) b i.2 in
      record { met = i.0; allowed = i.1; work = j.0; works = j.1; is = j.2 }

  -- a step does not name this id
  abbrev IsUnnamed : List ℕ → Step → Type 0
  IsUnnamed x u = is_one_of x (u.receiver ∷ u.data_ids) ≡ false

  -- from where an id is used no step names it
  later-unnamed : (room : ℕ) (x : List ℕ) (before after : List Step) (a b : State) → AreFresh deploy (before ++ after) → Leads deploy before a → IsUsed a x → steps_from deploy.prices deploy.limit room a after ≡ Some b → Every (IsUnnamed x) after
  later-unnamed room x before [] a b f l u e = tt
  later-unnamed room x before (s ∷ after) a b f l u e =
      let i = and_then-inv (step_from deploy.prices deploy.limit room a s) (λ c. steps_from deploy.prices deploy.limit room c after) b e in
      let n = next-of room a i.0 s i.1 in
      let k : Accounted deploy a = accounted deploy before a (fresh-first deploy before (s ∷ after) f) l in
      let d : AreOnce a = fresh-at deploy before (s ∷ after) a f l in
      let g : AreFresh deploy ((before ++ s ∷ []) ++ after) = subst (AreFresh deploy) (sym (append_assoc before (s ∷ []) after)) f in
      let there : Leads deploy (before ++ s ∷ []) (moved a s n.met n.work) = leads-more deploy before a s n.met room n.work l n.allowed n.works in
      let rest : steps_from deploy.prices deploy.limit room (moved a s n.met n.work) after ≡ Some b = subst (λ c. steps_from deploy.prices deploy.limit room c after ≡ Some b) (sym n.is) i.2 in
      (used-unnamed a s n.met x k d n.allowed u, later-unnamed room x (before ++ s ∷ []) after (moved a s n.met n.work) b g there (used-still a s n.met n.work x u) rest)

  -- what a step spends is named by none after it
  unnamed-after : (before after : List Step) (s : Step) (x : List ℕ) → IsLegal deploy (before ++ s ∷ after) → AreFresh deploy (before ++ s ∷ after)
      → IsSpentBy deploy before s x → Every (IsUnnamed x) after
  unnamed-after before after s x legal f h =
      let a : State = h.state in
      let r = leads-rest deploy before (s ∷ after) a legal.0 h.leads legal.1 in
      let i = and_then-inv (step_from deploy.prices deploy.limit r.0 a s) (λ c. steps_from deploy.prices deploy.limit r.0 c after) legal.0 r.1 in
      let n = next-of r.0 a i.0 s i.1 in
      let same : n.met ≡ h.met = cc (n.allowed, h.allowed) in
      let spent : is_one_of x (spent_ids s n.met) ≡ true = ap (λ m. is_one_of x (spent_ids s m)) same ∙ h.spent in
      let k : Accounted deploy a = accounted deploy before a (fresh-first deploy before (s ∷ after) f) h.leads in
      let d : AreOnce a = fresh-at deploy before (s ∷ after) a f h.leads in
      let g : AreFresh deploy ((before ++ s ∷ []) ++ after) = subst (AreFresh deploy) (sym (append_assoc before (s ∷ []) after)) f in
      let there : Leads deploy (before ++ s ∷ []) (moved a s n.met n.work) = leads-more deploy before a s n.met r.0 n.work h.leads n.allowed n.works in
      let rest : steps_from deploy.prices deploy.limit r.0 (moved a s n.met n.work) after ≡ Some legal.0 = subst (λ c. steps_from deploy.prices deploy.limit r.0 c after ≡ Some legal.0) (sym n.is) i.2 in
      later-unnamed r.0 x (before ++ s ∷ []) after (moved a s n.met n.work) legal.0 g there (spent-used a s n.met n.work x k d n.allowed spent) rest

all-of : (x : List ℕ) (us : List Step) → Every (λ u. is_one_of x (u.receiver ∷ u.data_ids) ≡ false) us → All (λ u. is_one_of x (u.receiver ∷ u.data_ids) ≡ false) us
all-of x [] h = All-nil (λ u. is_one_of x (u.receiver ∷ u.data_ids) ≡ false)
all-of x (u ∷ us) h = All-cons (λ u. is_one_of x (u.receiver ∷ u.data_ids) ≡ false) u us h.0 (all-of x us h.1)

pub spent_ids_are_gone : SpentIdsAreGone
spent_ids_are_gone deploy before after s x legal f h = all-of x after (unnamed-after deploy before after s x legal f h)

pub ids_are_spent_once : IdsAreSpentOnce
ids_are_spent_once deploy before between after s u x legal f h k =
    let n : is_one_of x (u.receiver ∷ u.data_ids) ≡ false = every-at _ (between ++ u ∷ after) u (unnamed-after deploy before (between ++ u ∷ after) s x legal f h) (member-right u between (u ∷ after) (inl refl)) in
    cc (n, spent-named u k.met x k.spent)
