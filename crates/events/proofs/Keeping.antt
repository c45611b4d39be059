-- Each event keeps what holds.
use Rattle.std.proofs.Common.{◌≡◌, ◌≤◌, ℕ, ◌+◌, Bool, true, false, List, [], ◌∷◌, ◌++◌, refl, ap, sym, ◌∙◌, subst, arith, inl, inr, append_assoc}
use Rattle.std.specs.Prelude.{Some, map as each, IsPermutation}
use Rattle.calculus.proofs.Members.{Member, each-there}
use Rattle.calculus.specs.Log.{Step}
use Rattle.calculus.specs.Rows.{Row}
use Rattle.calculus.specs.Unfolding.{rows_of, digest}
use Rattle.calculus.specs.Steps.{Bag, Meeting, standing, stored_rows, is_one_of, meeting, printed_line, bag_after, right_repeat}
use Rattle.calculus.specs.Runs.{Deploy, Work, work_products, moved, begun, body_work}
use Rattle.events.specs.Events.{Core, started, stored, with_operation, Puts, Meets, Events, no_event, one_more, first_ids, AreFresh, digests}
use Rattle.events.specs.EventLaws.{Begins, EventsAreLegal}
use Rattle.events.proofs.Counts.{ids, times, AreDistinct, member-times, one_of-times, times-append}
use Rattle.events.proofs.Meetings.{Joined, meeting_at, MadeBy, made_by, makes}
use Rattle.events.specs.Found.{without, leaving_rows}
use Rattle.events.proofs.Leaving.{without-append}
use Rattle.events.proofs.Orders.{times-moved, without-moved}
use Rattle.events.proofs.Printing.{line-of}
use Rattle.events.proofs.Legal.{leads-none, leads-more}
use Rattle.events.proofs.Changed.{all-leaving-times, among-times, rest-moved}
use Rattle.events.proofs.EventStanding.{built_ins, ids-times, standing-times, left-times, none-leaves, rows-times, digests-more}
use Rattle.events.proofs.EventFollowing.{Kept, all-distinct, bag-distinct, state-distinct, store-distinct, operation-distinct, operation-there, quiet-put, quiet-step, bag-left}
use Rattle.calculus.proofs.Permutations.{join, moved_after, moved_before, over, unmoved}

module _ (deploy : Deploy) where
  -- before the first event
  pub kept-started : (w : Work) → Begins deploy w → Kept deploy (started deploy.rows w)
  kept-started w b = record {
    state = begun deploy.rows w;
    leads = leads-none deploy w b.unfolds;
    made = refl;
    works = refl;
    output = refl;
    rows_moved = unmoved (deploy.rows ++ rows_of (work_products w));
    counts = λ x. omega (
      arith,
      ids-times x deploy.rows (rows_of (work_products w)),
      rows-times x (work_products w),
      ids-times x deploy.rows built_ins,
      times-append x (first_ids deploy.rows) (digests (w ∷ [])),
      times-append x (each digest (work_products w)) [],
    );
    quiet = b.quiet;
  }

  -- first steps of fresh steps are fresh
  pub fresh-first : (ss us : List Step) → AreFresh deploy (ss ++ us) → AreFresh deploy ss
  fresh-first ss us f first rest e a l = f first (rest ++ us) (ap (λ x. x ++ us) e ∙ append_assoc first rest us) a l

  -- a put changes the order of the rows alone
  pub put-moved : (c d : Core) (e : Puts c d) → IsPermutation (c.store ++ c.pending) ((c.store ++ e.operation ∷ []) ++ (e.before ++ e.after))
  put-moved c d e = join (subst (λ l. IsPermutation (c.store ++ c.pending) (c.store ++ l)) e.pending (unmoved (c.store ++ c.pending))) (join (moved_after c.store (over e.operation e.before e.after)) back)
    where
      back : IsPermutation (c.store ++ (e.operation ∷ (e.before ++ e.after))) ((c.store ++ e.operation ∷ []) ++ (e.before ++ e.after))
      back = subst (λ l. IsPermutation (c.store ++ (e.operation ∷ (e.before ++ e.after))) l) (sym (append_assoc c.store (e.operation ∷ []) (e.before ++ e.after))) (unmoved (c.store ++ (e.operation ∷ (e.before ++ e.after))))

  -- after a put
  pub kept-put : (c d : Core) → AreFresh deploy c.made → Kept deploy c → Puts c d → Kept deploy d
  kept-put c d f k e = subst (Kept deploy) (sym e.is) (record {
    state = k.state;
    leads = k.leads;
    made = k.made;
    works = k.works;
    output = k.output;
    rows_moved = join k.rows_moved (put-moved c d e);
    counts = λ x. omega (arith, k.counts x, sym (times-moved x (put-moved c d e)));
    quiet = quiet-put c.store c.made e.operation k.quiet (store-distinct deploy c k f) (operation-distinct deploy c k f e.operation e.before e.after e.pending)
        (bag-distinct deploy c k f (stored (c.store ++ e.operation ∷ [])) (λ x. omega (arith, ids-times x (c.store ++ e.operation ∷ []) [], ids-times x c.store (e.operation ∷ []), ids-times x c.store c.pending, ap (λ l. times x (ids l)) e.pending, ids-times x e.before (e.operation ∷ e.after)))) e.alone;
  })

  -- after a step
  module _ (c d : Core) (s_fresh : AreFresh deploy c.made) (k : Kept deploy c) (e : Meets deploy.prices deploy.limit c d) where
    small : Bag
    small = with_operation c.store e.operation

    small-distinct : AreDistinct (ids (standing (with_operation c.store e.operation)))
    small-distinct = operation-distinct deploy c k s_fresh e.operation e.before e.after e.pending

    pub how : MadeBy (standing (with_operation c.store e.operation)) c.made e.step e.found
    how = made_by (with_operation c.store e.operation) c.made e.step e.found small-distinct e.allowed

    abbrev qs : List Row
    qs = how.taken

    abbrev q : Joined
    q = how.joined

    abbrev pub ns : List (List ℕ)
    ns = ids (leaving_rows how.joined.receiver.kind how.joined.sends how.taken)

    abbrev pub new : List Row
    new = rows_of (work_products e.work)

    abbrev found : Meeting
    found = meeting_at (standing k.state.bag) how.taken how.joined

    -- the step is allowed in the state
    meets : meeting k.state.bag k.state.made e.step ≡ Some found
    meets = subst (λ ms. meeting k.state.bag ms e.step ≡ Some found) (sym k.made)
        (makes k.state.bag c.made e.step how.taken how.joined (state-distinct deploy c k s_fresh) how.differs how.ids
        (each-there _ _ how.taken (λ z i m. operation-there deploy c k s_fresh e.operation e.before e.after e.pending z m) how.there)
        how.joins (subst (λ x. right_repeat c.made e.step x ≡ true) how.is how.repeats))

    works : body_work deploy.prices deploy.limit e.room e.step found ≡ Some e.work
    works = subst (λ x. body_work deploy.prices deploy.limit e.room e.step x ≡ Some e.work) how.is e.works

    -- what the step prints is told by the rows that meet, so it prints the same in the core and in the state
    pub same_line : printed_line k.state.bag found ≡ printed_line (with_operation c.store e.operation) e.found
    same_line =
        line-of k.state.bag how.taken how.joined (state-distinct deploy c k s_fresh) how.joins
        ∙ sym (ap (printed_line (with_operation c.store e.operation)) how.is ∙ line-of (with_operation c.store e.operation) how.taken how.joined small-distinct how.joins)

    -- the core after the step, in the words of what leaves
    abbrev pub after_it : Core
    after_it = record { store = without ns c.store; pending = e.before ++ ((without ns (e.operation ∷ []) ++ new) ++ e.after); made = c.made ++ e.step ∷ []; works = c.works ++ e.work ∷ []; output = c.output ++ printed_line (with_operation c.store e.operation) e.found }

    pub is_after : d ≡ after_it
    is_after = e.is ∙ ap (λ b. record { store = b.kept; pending = e.before ++ (b.offered ++ e.after); made = c.made ++ e.step ∷ []; works = c.works ++ e.work ∷ []; output = c.output ++ printed_line (with_operation c.store e.operation) e.found })
        (ap (λ m. bag_after (with_operation c.store e.operation) m new) how.is ∙ bag-left (with_operation c.store e.operation) how.taken how.joined new small-distinct)

    -- rows that are pending beside the operation do not take part
    apart : (x : List ℕ) → is_one_of x ns ≡ true → 1 ≤ times x (ids (e.before ++ e.after)) → ⊥
    apart x i h = omega (
      arith,
      among-times x (standing (with_operation c.store e.operation)) how.taken how.there (omega (arith, one_of-times x ns i, all-leaving-times x how.joined how.taken)),
      standing-times x (with_operation c.store e.operation),
      ids-times x c.store (e.operation ∷ []),
      h,
      ids-times x e.before e.after,
      all-distinct deploy c k s_fresh x,
      k.counts x,
      ids-times x c.store c.pending,
      ap (λ l. times x (ids l)) e.pending,
      ids-times x e.before (e.operation ∷ e.after),
    )

    stay : (zs : List Row) → ((z : Row) → Member z zs → 1 ≤ times z.id (ids (e.before ++ e.after))) → without ns zs ≡ zs
    stay zs h = none-leaves ns zs (λ z m. go z (h z m) (is_one_of z.id ns) refl)
      where
        go : (z : Row) → 1 ≤ times z.id (ids (e.before ++ e.after)) → (b : Bool) → is_one_of z.id ns ≡ b → is_one_of z.id ns ≡ false
        go z j true f = absurd (apart z.id f j)
        go z j false f = f

    stay-before : without ns e.before ≡ e.before
    stay-before = stay e.before (λ z m. omega (arith, member-times z e.before m, ids-times z.id e.before e.after))

    stay-after : without ns e.after ≡ e.after
    stay-after = stay e.after (λ z m. omega (arith, member-times z e.after m, ids-times z.id e.before e.after))

    -- the rows of the core after the step
    pub after_moved : IsPermutation (without ns (c.store ++ c.pending) ++ new) (after_it.store ++ after_it.pending)
    after_moved = subst (λ l. IsPermutation (without ns (c.store ++ l) ++ new) (after_it.store ++ after_it.pending)) (sym e.pending) (rest-moved c.store e.before e.after new e.operation ns stay-before stay-after)

    -- the rows of the state after the step
    state_moved : IsPermutation (stored_rows (moved k.state e.step found e.work).bag) (after_it.store ++ after_it.pending)
    state_moved = subst (λ b. IsPermutation (stored_rows b) (after_it.store ++ after_it.pending)) (sym (bag-left k.state.bag how.taken how.joined new (state-distinct deploy c k s_fresh)))
        (join (subst (λ l. IsPermutation (without ns k.state.bag.kept ++ (without ns k.state.bag.offered ++ new)) l) gathered (unmoved (without ns k.state.bag.kept ++ (without ns k.state.bag.offered ++ new))))
        (join (moved_before new (without-moved ns k.rows_moved)) after_moved))
      where
        gathered : without ns k.state.bag.kept ++ (without ns k.state.bag.offered ++ new) ≡ without ns (k.state.bag.kept ++ k.state.bag.offered) ++ new
        gathered = sym (append_assoc (without ns k.state.bag.kept) (without ns k.state.bag.offered) new) ∙ ap (λ l. l ++ new) (sym (without-append ns k.state.bag.kept k.state.bag.offered))

    counted : (x : List ℕ) → times x (ids (after_it.store ++ after_it.pending)) + times x (ids built_ins) ≤ times x (first_ids deploy.rows ++ digests after_it.works)
    counted x = omega (
      arith,
      k.counts x,
      sym (times-moved x (rest-moved c.store e.before e.after new e.operation ns stay-before stay-after)),
      ids-times x (without ns (c.store ++ (e.before ++ e.operation ∷ e.after))) new,
      left-times x ns (c.store ++ (e.before ++ e.operation ∷ e.after)),
      ap (λ l. times x (ids (c.store ++ l))) e.pending,
      rows-times x (work_products e.work),
      times-append x (first_ids deploy.rows) (digests c.works),
      times-append x (first_ids deploy.rows) (digests (c.works ++ e.work ∷ [])),
      digests-more x c.works e.work,
    )

    pub kept-step : Kept deploy d
    kept-step = subst (Kept deploy) (sym is_after) (record {
      state = moved k.state e.step found e.work;
      leads = leads-more deploy c.made k.state e.step found e.room e.work k.leads meets works;
      made = ap (λ ms. ms ++ e.step ∷ []) k.made;
      works = ap (λ ws. ws ++ e.work ∷ []) k.works;
      output = ap (λ out. out ++ printed_line k.state.bag found) k.output ∙ ap (λ l. c.output ++ l) same_line;
      rows_moved = state_moved;
      counts = counted;
      quiet = quiet-step c.store c.made ns e.step k.quiet (store-distinct deploy c k s_fresh)
          (bag-distinct deploy c k s_fresh (stored (without ns c.store)) (λ x. omega (arith, ids-times x (without ns c.store) [], ids-times x c.store c.pending, left-times x ns c.store)));
    })

  -- after any events
  pub kept-all : (w : Work) (c : Core) → Begins deploy w → Events deploy.prices deploy.limit (started deploy.rows w) c → AreFresh deploy c.made → Kept deploy c
  kept-all w c b no_event f = kept-started w b
  kept-all w e b (one_more {d} es (inl put)) f =
      let same : e.made ≡ d.made = ap (λ x. x.made) put.is in
      let g : AreFresh deploy d.made = subst (AreFresh deploy) same f in
      kept-put d e g (kept-all w d b es g) put
  kept-all w e b (one_more {d} es (inr step)) f =
      let same : e.made ≡ d.made ++ step.step ∷ [] = ap (λ x. x.made) step.is in
      let g : AreFresh deploy d.made = fresh-first d.made (step.step ∷ []) (subst (AreFresh deploy) same f) in
      kept-step d e g (kept-all w d b es g) step

-- the steps of events are a legal list
pub events_are_legal : EventsAreLegal
events_are_legal deploy w c b es f =
    let k = kept-all deploy w c b es f in
    record { state = k.state; leads = k.leads; works = k.works; output = k.output; same_rows = k.rows_moved; quiet = k.quiet }
