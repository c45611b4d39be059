-- What is built, with no variable open, is good.
use Rattle.std.proofs.Common.{ℕ, zero, suc, ◌+◌, Bool, true, false, cond, ltb, List, [], ◌∷◌, ◌++◌, length, refl, inl, inr, map as each}
use Rattle.calculus.proofs.Members.{Every}
use Rattle.calculus.specs.declared.fault.FaultKind.TheVariants as fault
use Rattle.calculus.specs.declared.plain.Origin.{Origin}
use Rattle.calculus.specs.declared.plain.Origin.TheVariants as origins
use Rattle.calculus.specs.Tree.{Label, row, list, tuple, set, dict, send, receive, bind, new, match, case, bundle, unary, binary, method, Tree, node, Trees, none, also}
use Rattle.calculus.specs.Shape.{held, listed, at}
use Rattle.calculus.specs.Size.{height}
use Rattle.calculus.specs.Code.{code}
use Rattle.calculus.specs.Variables.{binders}
use Rattle.calculus.specs.Outcome.{Prices, Answer, gives, fails, unknown, Outcome, pure, then_do, after, in_order, within_limits}
use Rattle.calculus.specs.Substitution.{put}
use Rattle.calculus.specs.Seeds.{digest_of, Body}
use Rattle.calculus.specs.Values.{value}
use Rattle.calculus.specs.Matching.{Bindings, first_of_all, all_matches}
use Rattle.calculus.specs.Unfolding.{Product, opened, receive_offered, names_made, fresh_names, unfold_within, fitting, cases_tried, unfold_in}
use Rattle.process_laws.proofs.UnfoldingPatterns.{a_pat, IsTidy}
use Rattle.process_laws.proofs.Goodness.{Role, a_term, a_part, a_pair, the_terms, the_cases, a_case, the_binds, a_bind, a_pattern, each_is, part_slots, slots, open_slots, HasAsPart, AreGoodKids, AreGood}
use Rattle.process_laws.proofs.Building.{AreKids, IsBuiltNode, IsLeaf, IsBuilt, built-kids}
use Rattle.process_laws.proofs.Opening.{kids-good, open-good}
use Rattle.process_laws.proofs.Binding.{BindGood, pattern-binds}
use Rattle.process_laws.proofs.Answering.{IsKnownWith}
use Rattle.process_laws.proofs.Valuing.{ComesTo, after-comes, in_order-comes, term-value, IsOperator, operator-value}
use Rattle.process_laws.proofs.Rooms.{IsAnything, IsSure}
use Rattle.process_laws.proofs.Ending.{value-sure, part-known, receive-sure, PartEnds, EndsChanged, EndsUntold, own-standard, own-collections, own-bundles}
use Rattle.process_laws.proofs.Unfolded.{TermEnds, EndsWell, send-ends, known-ends, ends-part, ends-term, IsEndingLeaf, put-built, pending-end}

-- room enough for the next work, whatever the first gives
then-room : {A B : Type 0} (P : A → Type 0) (m : ℕ) (a : Answer A) (f : ℕ → A → Outcome B) → IsKnownWith P a → ((v : A) → P v → (n : ℕ) × IsSure (f n v)) → (n : ℕ) × IsSure (then_do m a (f n))
then-room P m (gives v) f h g = g v h
then-room P m (fails e) f h g = (0, tt)
then-room P m unknown f h g = absurd h

after-room : {A B : Type 0} (P : A → Type 0) (o : Outcome A) (f : ℕ → A → Outcome B) → ComesTo P o → ((v : A) → P v → (n : ℕ) × IsSure (f n v)) → (n : ℕ) × IsSure (after o (f n))
after-room P o f h g = then-room P o.price o.answer f h g

module _ (K : Tree → Type 0) where
  pub tidy-of : (h c : ℕ) (q : Tree) → IsBuilt K h (a_pattern a_pat) c q → IsTidy a_pat q
  tidy-of zero c q x = x
  tidy-of (suc h) c q (inl x) = x
  tidy-of (suc h) c (node l ts) (inr x) = absurd x

  -- a case holds a pattern and a body
  pub case-parts : (h c n : ℕ) (l : Label) (ts : Trees) → AreKids (IsBuilt K h) (slots a_case l) c n ts → IsBuilt K h (a_pattern a_pat) c (at 0 (listed ts)) × IsBuilt K h a_term (c + n) (at 1 (listed ts))
  case-parts h c n case none x = absurd x
  case-parts h c n case (also q none) x = absurd x.1
  case-parts h c n case (also q (also b none)) x = (x.0, x.1.0)
  case-parts h c n case (also q (also b (also r rs))) x = absurd x.1.1
  case-parts h c n _ ts x = absurd x

  -- a bind holds a channel
  bind-channel : (h c n : ℕ) (l : Label) (ts : Trees) → AreKids (IsBuilt K h) (slots a_bind l) c n ts → IsBuilt K h a_term c (at 0 (listed ts))
  bind-channel h c n bind none x = absurd x
  bind-channel h c n bind (also t none) x = absurd x.1
  bind-channel h c n bind (also t (also u us)) x = x.0
  bind-channel h c n _ ts x = absurd x

module _ (p : Prices) where
  pub within-end : (u : Tree) → TermEnds p u → (s : List ℕ) → (n : ℕ) × IsSure (unfold_within (unfold_in p n) s (within_limits u))
  within-end u h s = go (ltb 400 (height u)) (ltb 1048576 (length (code u)))
    where
      go : (a b : Bool) → (n : ℕ) × IsSure (unfold_within (unfold_in p n) s (cond a (fails fault.TooDeep) (cond b (fails fault.TooBig) (gives u))))
      go true b = (0, tt)
      go false true = (0, tt)
      go false false = h s

  name-good : (s : List ℕ) (k : ℕ) (os : List Origin) → AreGood (EndsUntold p) a_term (names_made s k os)
  name-good s k [] = tt
  name-good s k (origins.Plain ∷ os) = ((tt, ((tt, tt), tt)), name-good s (suc k) os)
  name-good s k (origins.Stdout ∷ os) = ((tt, ((tt, ((tt, ((tt, tt), tt)), tt)), tt)), name-good s (suc k) os)
  name-good s k (origins.StdoutAck ∷ os) = ((tt, ((tt, ((tt, ((tt, tt), tt)), tt)), tt)), name-good s (suc k) os)

  -- whatever fits, the work of a case or of the next ones is known
  module _ (h : ℕ) (ih : (r : Role) (t : Tree) → IsBuilt (IsEndingLeaf p) h r 0 t → EndsWell p r t) where
    body-ends : (c : ℕ) (vs : List Tree) (body : Tree) → AreGood (EndsUntold p) a_term vs → IsBuilt (IsEndingLeaf p) h a_term c body → TermEnds p (put vs body)
    body-ends c vs body g x = ends-term p (put vs body) (ih a_term (put vs body) (put-built p h c vs body g x))

    -- the work with this first match, or else the next work
    fitting-end : (c : ℕ) (s : List ℕ) (ms : List Bindings) (body : Tree) (next : ℕ → Outcome (List Product)) → BindGood (EndsUntold p) (own-collections p) ms → IsBuilt (IsEndingLeaf p) h a_term c body → (n : ℕ) × IsSure (next n)
        → (n : ℕ) × IsSure (fitting (unfold_in p n) s (first_of_all ms) body (next n))
    fitting-end c s [] body next b x k = k
    fitting-end c s (vs ∷ ms) body next b x k = within-end (put vs body) (body-ends c vs body b.0 x) s

    cases-end : (cs : Trees) (n : ℕ) → AreKids (IsBuilt (IsEndingLeaf p) h) (each_is a_case) 0 n cs → (v : Tree) → EndsWell p a_term v → (s : List ℕ) → (m : ℕ) × IsSure (cases_tried p (unfold_in p m) s v (listed cs))
    cases-end none n x v g s = (0, tt)
    cases-end (also (node l ts) cs) n x v g s =
        let k = case-parts (IsEndingLeaf p) h 0 (length (binders l ts)) l ts (built-kids (IsEndingLeaf p) h a_case 0 l ts tt x.0) in
        fitting-end (0 + length (binders l ts)) s (all_matches (at 0 (listed ts)) v) (at 1 (listed ts)) (λ m. cases_tried p (unfold_in p m) s v (listed cs))
        (pattern-binds (EndsUntold p) (own-collections p) (at 0 (listed ts)) v (tidy-of (IsEndingLeaf p) h 0 (at 0 (listed ts)) k.0) g) k.1 (cases-end cs n x.1 v g s)

    all-cases : (l : Label) (cs : Trees) → IsBuilt (IsEndingLeaf p) h the_cases 0 (node l cs) → (v : Tree) → EndsWell p a_term v → (s : List ℕ) → (m : ℕ) × IsSure (cases_tried p (unfold_in p m) s v (listed cs))
    all-cases l cs x v g s = from-kids l (built-kids (IsEndingLeaf p) h the_cases 0 l cs tt x)
      where
        from-kids : (k : Label) → AreKids (IsBuilt (IsEndingLeaf p) h) (slots the_cases k) 0 (length (binders k cs)) cs → (m : ℕ) × IsSure (cases_tried p (unfold_in p m) s v (listed cs))
        from-kids row y = cases-end cs 0 y v g s
        from-kids _ y = absurd y

    -- the channels of binds
    channels-sure : (bs : Trees) (n : ℕ) → AreKids (IsBuilt (IsEndingLeaf p) h) (each_is a_bind) 0 n bs → Every (λ o. IsSure {A = Tree} o) (each (λ b. value p (at 0 (held b))) (listed bs))
    channels-sure none n x = tt
    channels-sure (also (node l ts) bs) n x =
        (value-sure (EndsUntold p) p (at 0 (listed ts)) (ih a_term (at 0 (listed ts)) (bind-channel (IsEndingLeaf p) h 0 (length (binders l ts)) l ts (built-kids (IsEndingLeaf p) h a_bind 0 l ts tt x.0))), channels-sure bs n x.1)

    all-channels : (l : Label) (bs : Trees) → IsBuilt (IsEndingLeaf p) h the_binds 0 (node l bs) → Every (λ o. IsSure {A = Tree} o) (each (λ b. value p (at 0 (held b))) (listed bs))
    all-channels l bs x = from-kids l (built-kids (IsEndingLeaf p) h the_binds 0 l bs tt x)
      where
        from-kids : (k : Label) → AreKids (IsBuilt (IsEndingLeaf p) h) (slots the_binds k) 0 (length (binders k bs)) bs → Every (λ o. IsSure {A = Tree} o) (each (λ b. value p (at 0 (held b))) (listed bs))
        from-kids row y = channels-sure bs 0 y
        from-kids _ y = absurd y

    operator-ends : (l : Label) (ts : Trees) → IsOperator l → AreGoodKids (EndsUntold p) (open_slots a_part l) ts → (s : List ℕ) → (n : ℕ) × IsSure (after (value p (node l ts)) (λ v. unfold_in p n v (digest_of (Body s))))
    operator-ends l ts i k s =
        after-room (EndsWell p a_term) (value p (node l ts)) (λ n v. unfold_in p n v (digest_of (Body s))) (operator-value (EndsUntold p) (own-standard p) (own-bundles p) p l ts i k) (λ v g. ends-term p v g (digest_of (Body s)))

    -- a part unfolds
    node-ends : (l : Label) (ts : Trees) → IsBuiltNode (IsBuilt (IsEndingLeaf p) h) a_part 0 (node l ts) → PartEnds p (node l ts)
    node-ends (receive k) none x = absurd x
    node-ends (receive k) (also b none) x = absurd x.1
    node-ends (receive k) (also (node l bs) (also body none)) x = λ s. (
      0,
      after-comes (Every IsAnything) IsAnything (in_order (each (λ b. value p (at 0 (held b))) (listed bs))) (λ vs. receive_offered p s k (each opened vs) (listed bs) body)
          (in_order-comes IsAnything (each (λ b. value p (at 0 (held b))) (listed bs)) (all-channels l bs x.0)) (λ vs y. receive-sure (EndsUntold p) p s k (each opened vs) (listed bs) body),
    )
    node-ends (receive k) (also b (also body (also c cs))) x = absurd x.1.1
    node-ends (new os) none x = absurd x
    node-ends (new os) (also body none) x = λ s.
        let k = body-ends (0 + length (binders (new os) (also body none))) (names_made s 0 os) body (name-good s 0 os) x.0 (digest_of (Body s)) in
        (k.0, after-comes IsAnything IsAnything (unfold_in p k.0 (put (names_made s 0 os) body) (digest_of (Body s))) (λ ts. pure (fresh_names s 0 os ++ ts)) k.1 (λ ts y. tt))
    node-ends (new os) (also body (also c cs)) x = absurd x.1
    node-ends match none x = absurd x
    node-ends match (also t none) x = absurd x.1
    node-ends match (also t (also (node l cs) none)) x = λ s.
        after-room (EndsWell p a_term) (value p t) (λ n v. cases_tried p (unfold_in p n) (digest_of (Body s)) v (listed cs)) (term-value (EndsUntold p) (own-standard p) (own-bundles p) p t (ih a_term t x.0))
        (λ v g. all-cases l cs x.1.0 v g (digest_of (Body s)))
    node-ends match (also t (also c (also d ds))) x = absurd x.1.1
    node-ends (bundle r) none x = absurd x
    node-ends (bundle r) (also t none) x = λ s. ends-term p t (ih a_term t x.0) (digest_of (Body s))
    node-ends (bundle r) (also t (also u us)) x = absurd x.1
    node-ends (send q) none x = absurd x
    node-ends (send q) (also c none) x = absurd x.1
    node-ends (send q) (also c (also (node l xs) none)) x = send-ends p q c l xs (ih a_term c x.0) (ih the_terms (node l xs) x.1.0)
    node-ends (send q) (also c (also y (also z zs))) x = absurd x.1.1
    node-ends (unary o) ts x = operator-ends (unary o) ts tt (kids-good (IsEndingLeaf p) (EndsUntold p) h ih (part_slots (unary o)) 0 ts refl x)
    node-ends (binary o) ts x = operator-ends (binary o) ts tt (kids-good (IsEndingLeaf p) (EndsUntold p) h ih (part_slots (binary o)) 0 ts refl x)
    node-ends (method o) ts x = operator-ends (method o) ts tt (kids-good (IsEndingLeaf p) (EndsUntold p) h ih (part_slots (method o)) 0 ts refl x)
    node-ends list ts x = λ s. (0, known-ends p (value p (node list ts)) (part-known (EndsUntold p) p list ts (kids-good (IsEndingLeaf p) (EndsUntold p) h ih (each_is a_term) 0 ts refl x)))
    node-ends tuple ts x = λ s. (0, known-ends p (value p (node tuple ts)) (part-known (EndsUntold p) p tuple ts (kids-good (IsEndingLeaf p) (EndsUntold p) h ih (each_is a_term) 0 ts refl x)))
    node-ends set ts x = λ s. (0, known-ends p (value p (node set ts)) (part-known (EndsUntold p) p set ts (kids-good (IsEndingLeaf p) (EndsUntold p) h ih (each_is a_term) 0 ts refl x)))
    node-ends dict ts x = λ s. (0, known-ends p (value p (node dict ts)) (part-known (EndsUntold p) p dict ts (kids-good (IsEndingLeaf p) (EndsUntold p) h ih (each_is a_pair) 0 ts refl x)))
    node-ends _ ts x = λ s. (0, tt)

    part-ends : (t : Tree) → IsBuilt (IsEndingLeaf p) (suc h) a_part 0 t → PartEnds p t
    part-ends t (inl x) = ends-part p t x
    part-ends (node l ts) (inr x) = node-ends l ts x

    after-all : (l : Label) (ts : Trees) → IsBuiltNode (IsBuilt (IsEndingLeaf p) h) a_part 0 (node l ts) → EndsChanged p (node l ts)
    after-all l ts x = λ cs. pending-end p (suc h) part-ends cs (also (node l ts) none) (inr x, tt)

    own-part : (l : Label) (ts : Trees) → IsBuiltNode (IsBuilt (IsEndingLeaf p) h) a_part 0 (node l ts) → EndsUntold p (node l ts)
    own-part (receive k) ts x = after-all (receive k) ts x
    own-part (new os) ts x = after-all (new os) ts x
    own-part match ts x = after-all match ts x
    own-part (unary o) ts x = after-all (unary o) ts x
    own-part (binary o) ts x = after-all (binary o) ts x
    own-part (method n) ts x = after-all (method n) ts x
    own-part _ ts x = tt

    of-role : (r : Role) (l : Label) (ts : Trees) → IsBuiltNode (IsBuilt (IsEndingLeaf p) h) r 0 (node l ts) → HasAsPart (EndsUntold p) r (node l ts)
    of-role a_part l ts x = own-part l ts x
    of-role _ l ts x = tt

  leaf-good : (r : Role) (t : Tree) → IsLeaf (IsEndingLeaf p) r t → EndsWell p r t
  leaf-good a_part t x = x
  leaf-good (a_pattern k) (node l ts) x = (tt, tt)
  leaf-good _ t x = absurd x

  -- what is built, with no variable open, is good
  pub built-good : (h : ℕ) (r : Role) (t : Tree) → IsBuilt (IsEndingLeaf p) h r 0 t → EndsWell p r t
  built-good zero r t x = leaf-good r t x
  built-good (suc h) r t (inl x) = leaf-good r t x
  built-good (suc h) r (node l ts) (inr x) = (of-role h (built-good h) r l ts x, open-good (IsEndingLeaf p) (EndsUntold p) h (built-good h) r l ts x)
