-- A turn leads from what is left to what is left then.
use Rattle.std.proofs.Common.{◌≡◌, ◌≤◌, ℕ, suc, ◌+◌, List, [], ◌∷◌, ◌++◌, refl, sym, ap, ◌∙◌, subst, arith, append_assoc, append-nil}
use Rattle.calculus.specs.Tree.{par, Tree, node}
use Rattle.calculus.specs.Shape.{leaf, listed}
use Rattle.calculus.specs.Form.{IsClosed}
use Rattle.calculus.specs.Normal.{by_code, ascending}
use Rattle.calculus.specs.Outcome.{Prices, gives, Outcome, pure, charged, after}
use Rattle.calculus.specs.Rows.{Row}
use Rattle.calculus.specs.Seeds.{digest_of, Body}
use Rattle.calculus.specs.Unfolding.{Product, a_row, Unfolder, unfold_part, parts_unfolded, unfold_in}
use Rattle.calculus.proofs.Room.{IsKnown, Refines, charged_more, after_more}
use Rattle.price_table.specs.declared.stop.EvalStop.{EvalStop}
use Rattle.price_table.specs.declared.stop.EvalStop.TheVariants.{Fault, Over, NoMemory}
use Rattle.price_table.specs.Outcomes.{Stopped}
use Rattle.price_table.proofs.Outcomes.{stopped-first, later}
use Rattle.rho_eval.proofs.Forms.{ascending-same}
use Rattle.rho_term.specs.Normal.{IsNormal}
use Rattle.unfold.specs.Progress.{Pending, pending, rows_answer, row_work, left_work, Progress, whole_work, LeadsTo, Advances, StopsWith, Ends, with_part}
use Rattle.unfold.proofs.Working.{itself, by-equal, further, charged-twice, charged-after, after-after, after-alike, pure-after, after-given, both, left-append, parts-left, left-more}

pub leads-itself : (p : Prices) (a : Progress) → LeadsTo p a a
leads-itself p a room = (room, itself (whole_work p room a))

pub leads-further : (p : Prices) (a b c : Progress) → LeadsTo p a b → LeadsTo p b c → LeadsTo p a c
leads-further p a b c h k room =
    let m = k room in
    let n = h m.0 in
    (n.0, further (whole_work p room c) (whole_work p m.0 b) (whole_work p n.0 a) m.1 n.1)

stopped-more : {A : Type 0} (cap n : ℕ) (o u : Outcome A) (e : EvalStop) → Refines o u → Stopped cap n o e → Stopped cap n u e
stopped-more cap n o u (Fault k m) h s = subst (λ w. Stopped cap n w (Fault k m)) (sym (h.1 (subst IsKnown (sym s.0) tt))) s
stopped-more cap n o u Over h s = omega (arith, s, h.0)
stopped-more cap n o u NoMemory h s = s

pub advances-further : (p : Prices) (cap : ℕ) (a b c d : Progress) → Advances p cap a b → b ≡ c → Advances p cap c d → Advances p cap a d
advances-further p cap a b c d h e k = record { leads = leads-further p a b d h.leads (subst (λ x. LeadsTo p x d) (sym e) k.leads); fits = k.fits; ready = k.ready }

pub leads-stops : (p : Prices) (cap : ℕ) (a b : Progress) (e : EvalStop) → LeadsTo p a b → StopsWith p cap b e → StopsWith p cap a e
leads-stops p cap a b e h s =
    let n = h s.0 in
    (n.0, stopped-more cap 0 (whole_work p s.0 b) (whole_work p n.0 a) e n.1 s.1)

-- nothing is left
pub leads-ends : (p : Prices) (cap : ℕ) (a b : Progress) → LeadsTo p a b → b.left ≡ [] → b.price ≤ cap → Ends p cap a b.price b.rows
leads-ends p cap a b h e f =
    let n = h 0 in
    let q = done b.price b.rows b.left e in
    record { room = n.0; work = n.1.1 (subst (λ (o : Outcome (List Row)). IsKnown o.answer) (sym q) tt) ∙ q; fits = f }
  where
    plus-none : (m : ℕ) → m + 0 ≡ m
    plus-none m = omega arith

    done : (m : ℕ) (rs : List Row) (ws : List Pending) → ws ≡ [] → charged m (after (left_work p 0 ws) (λ qs. pure (rs ++ qs))) ≡ record { price = m; answer = gives rs }
    done m rs ws e =
        ap (λ us. charged m (after (left_work p 0 us) (λ qs. pure (rs ++ qs)))) e
        ∙ (ap (charged m) (pure-after [] (λ (qs : List Row). pure (rs ++ qs))) ∙ (ap (λ (us : List Row). charged m (pure us)) (append-nil rs) ∙ ap (λ k. record { price = k; answer = gives rs }) (plus-none m)))

-- a closed process in normal order
pub unfold-left : (p : Prices) (room : ℕ) (t : Tree) (s : List ℕ) → IsClosed t → IsNormal t → row_work (unfold_in p (suc room) t s) ≡ left_work p room (pending t s)
unfolding unfold_in
unfold-left p room (node par ts) s c n = ap (λ us. row_work (parts_unfolded p (unfold_in p room) s 0 us)) (ascending-same ts n.0) ∙ parts-left p room s 0 (listed ts)
unfold-left p room (node _ ts) s c n = absurd c.1

nil-unfolds : (p : Prices) (room : ℕ) (s : List ℕ) → unfold_in p (suc room) (leaf par) s ≡ pure []
unfolding unfold_in ascending by_code
nil-unfolds p room s = refl

-- what is said of a turn at a part w, after `rows` were offered at the price n, where `rest` is left
module _ (p : Prices) (n : ℕ) (rows : List Row) (w : Pending) (rest : List Pending) where
  abbrev pub before : Progress
  before = with_part w (record { price = n; rows = rows; left = rest })

  -- the rows of the part, with this room
  abbrev pub own : ℕ → Outcome (List Row)
  own room = row_work (unfold_part p (unfold_in p room) w.seed w.part)

  abbrev joined : List Row → Outcome (List Row)
  joined rs = pure (rows ++ rs)

  -- the part's rows are those of this process
  abbrev pub IsInside : Outcome Tree → Type 0
  IsInside o = (again : Unfolder) → again (leaf par) (digest_of (Body w.seed)) ≡ pure [] → row_work (unfold_part p again w.seed w.part) ≡ after o (λ u. row_work (again u (digest_of (Body w.seed))))

  -- the part offers this, whatever is unfolded inside others
  abbrev pub IsOffered : Outcome (List Product) → Type 0
  IsOffered o = (again : Unfolder) → unfold_part p again w.seed w.part ≡ o

  pub inner-leads : (o : Outcome Tree) (u : Tree) (m : ℕ) → IsInside o → o.answer ≡ gives u → m ≡ n + o.price → IsClosed u → IsNormal u → LeadsTo p before (record { price = m; rows = rows; left = pending u (digest_of (Body w.seed)) ++ rest })
  inner-leads o u m i e q c k room =
      let s = digest_of (Body w.seed) in
      let x = left_work p room (pending u s) in
      let new = left_work p (suc room) rest in
      let old = left_work p room rest in
      let first : own (suc room) ≡ charged o.price x =
      i (unfold_in p (suc room)) (nil-unfolds p room s) ∙ (after-given o u (λ v. row_work (unfold_in p (suc room) v s)) e ∙ ap (charged o.price) (unfold-left p room u s c k)) in
      let second : after (both (own (suc room)) new) joined ≡ charged o.price (after (both x new) joined) =
      ap (λ y. after (both y new) joined) first
      ∙ (ap (λ y. after y joined) (charged-after o.price x (λ rs. after new (λ qs. pure (rs ++ qs)))) ∙ charged-after o.price (both x new) joined) in
      let third : whole_work p (suc room) before ≡ charged m (after (both x new) joined) =
      ap (charged n) second ∙ (charged-twice n o.price (after (both x new) joined) ∙ ap (λ j. charged j (after (both x new) joined)) (sym q)) in
      let fourth : whole_work p room (record { price = m; rows = rows; left = pending u s ++ rest }) ≡ charged m (after (both x old) joined) =
      ap (λ y. charged m (after y joined)) (left-append p room (pending u s) rest) in
      let more : Refines (charged m (after (both x old) joined)) (charged m (after (both x new) joined)) =
      charged_more m _ _ (after_more (both x old) (both x new) joined joined (after_more x x _ _ (itself x) (λ rs. after_more old new _ _ (left-more p room (suc room) (omega arith) rest) (λ qs. itself (pure (rs ++ qs))))) (λ rs. itself (joined rs))) in
      (suc room, further _ _ _ (by-equal _ _ fourth) (further _ _ _ more (by-equal _ _ (sym third))))

  pub offer-leads : (o : Outcome (List Product)) (r : Row) (m : ℕ) → IsOffered o → o.answer ≡ gives (a_row r ∷ []) → m ≡ n + o.price → LeadsTo p before (record { price = m; rows = rows ++ r ∷ []; left = rest })
  offer-leads o r m i e q room =
      let old = left_work p room rest in
      let first : own room ≡ row_work o = ap row_work (i (unfold_in p room)) in
      let second : both (own room) old ≡ charged o.price (after old (λ qs. pure (r ∷ qs))) =
      ap (λ y. both y old) first ∙ after-given (row_work o) (r ∷ []) (λ rs. after old (λ qs. pure (rs ++ qs))) (ap rows_answer e) in
      let third : after (both (own room) old) joined ≡ charged o.price (after old (λ qs. pure ((rows ++ r ∷ []) ++ qs))) =
      ap (λ y. after y joined) second
      ∙ (charged-after o.price (after old (λ qs. pure (r ∷ qs))) joined
      ∙ ap (charged o.price) (after-after old (λ qs. pure (r ∷ qs)) joined
      ∙ after-alike old (λ qs. after (pure (r ∷ qs)) joined) (λ qs. pure ((rows ++ r ∷ []) ++ qs)) (λ qs. pure-after (r ∷ qs) joined ∙ ap (λ (us : List Row). pure us) (sym (append_assoc rows (r ∷ []) qs))))) in
      let fourth : whole_work p room before ≡ charged m (after old (λ qs. pure ((rows ++ r ∷ []) ++ qs))) =
      ap (charged n) third ∙ (charged-twice n o.price (after old (λ qs. pure ((rows ++ r ∷ []) ++ qs))) ∙ ap (λ j. charged j (after old (λ qs. pure ((rows ++ r ∷ []) ++ qs)))) (sym q)) in
      (room, by-equal _ _ (sym fourth))

  -- the part's work stops
  part-stops : (cap : ℕ) (room : ℕ) (e : EvalStop) → Stopped cap n (own room) e → StopsWith p cap before e
  part-stops cap room e h =
      (room, later cap 0 n n _ (after (both (own room) (left_work p room rest)) joined) e refl (omega arith) (stopped-first cap n (both (own room) (left_work p room rest)) joined e (stopped-first cap n (own room) _ e h)))

  pub inner-stops : (cap : ℕ) (o : Outcome Tree) (e : EvalStop) → IsInside o → Stopped cap n o e → StopsWith p cap before e
  inner-stops cap o e i h =
      let s = digest_of (Body w.seed) in
      part-stops cap 1 e (subst (λ (u : Outcome (List Row)). Stopped cap n u e) (sym (i (unfold_in p 1) (nil-unfolds p 0 s))) (stopped-first cap n o (λ v. row_work (unfold_in p 1 v s)) e h))

  pub offer-stops : (cap : ℕ) (o : Outcome (List Product)) (e : EvalStop) → IsOffered o → Stopped cap n o e → StopsWith p cap before e
  offer-stops cap o e i h = part-stops cap 0 e (subst (λ (u : Outcome (List Product)). Stopped cap n (row_work u) e) (sym (i (unfold_in p 0))) (of-rows e h))
    where
      of-rows : (e : EvalStop) → Stopped cap n o e → Stopped cap n (row_work o) e
      of-rows (Fault k m) h = (ap rows_answer h.0, h.1, h.2)
      of-rows Over h = h
      of-rows NoMemory h = h
