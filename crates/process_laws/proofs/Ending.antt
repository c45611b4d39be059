-- Parts that unfold with each seed, whatever changes are made to them.
use Rattle.std.proofs.Common.{ℕ, Bool, true, false, cond, ltb, List, [], ◌∷◌, map as each}
use Rattle.std.specs.Prelude.{⊤}
use Rattle.calculus.proofs.Members.{Every}
use Rattle.calculus.specs.declared.fault.FaultKind.TheVariants as fault
use Rattle.calculus.specs.Tree.{Label, row, bool, int, str, uri, bytes, fresh, var, name_var, list, tuple, set, dict, send, receive, new, match, unary, binary, method, Tree, node, Trees, none, also}
use Rattle.calculus.specs.Shape.{joined_trees, two, many}
use Rattle.calculus.specs.declared.plain.Kind.{Kind}
use Rattle.calculus.specs.Size.{height}
use Rattle.calculus.specs.Outcome.{Prices, Answer, gives, fails, unknown, in_order}
use Rattle.calculus.specs.Substitution.{Change, change}
use Rattle.calculus.specs.Values.{value, values}
use Rattle.calculus.specs.Rows.{Row, row_length}
use Rattle.calculus.specs.Unfolding.{Product, a_row, Channel, row_limits, send_offered, receive_offered, sorted_receive, on_channels, all_readable, has_twins, unfold_part, unfold_in}
use Rattle.process_laws.proofs.Goodness.{Role, a_term, a_part, the_terms, Slots, each_is, these_are, any_kids, no_kids, open_slots, HasAsPart, IsGood, AreGoodKids}
use Rattle.process_laws.proofs.Moving.{IsStable}
use Rattle.process_laws.proofs.Making.{HasStandard, HasCollections, collections}
use Rattle.process_laws.proofs.Answering.{IsKnownWith}
use Rattle.process_laws.proofs.Valuing.{in_order-comes, HasBundles, term-value, part-value, term-values}
use Rattle.process_laws.proofs.Rooms.{IsAnything, IsSure}

-- any tree at all
abbrev pub IsAnyTree : Tree → Type 0
IsAnyTree t = ⊤

module _ (O : Tree → Type 0) where
  of-part : (r : Role) (t : Tree) → HasAsPart IsAnyTree r t
  of-part a_part t = tt
  of-part _ t = tt

  mutual
    -- what is good is good where nothing is asked of parts
    pub weaker : (r : Role) (t : Tree) → IsGood O r t → IsGood IsAnyTree r t
    weaker r (node l ts) h = (of-part r (node l ts), kids-weaker (open_slots r l) ts h.1)

    pub kids-weaker : (s : Slots) (ts : Trees) → AreGoodKids O s ts → AreGoodKids IsAnyTree s ts
    kids-weaker (each_is r) none h = tt
    kids-weaker (each_is r) (also t ts) h = (weaker r t h.0, kids-weaker (each_is r) ts h.1)
    kids-weaker (these_are []) none h = tt
    kids-weaker (these_are []) (also t ts) h = absurd h
    kids-weaker (these_are (r ∷ rs)) none h = absurd h
    kids-weaker (these_are (r ∷ rs)) (also t ts) h = (weaker r t h.0, kids-weaker (these_are rs) ts h.1)
    kids-weaker any_kids ts h = tt
    kids-weaker no_kids ts h = absurd h

standard : HasStandard IsAnyTree
standard l ts i k = tt

bundles : HasBundles IsAnyTree
bundles r t g = tt

any : {A : Type 0} (P : A → Type 0) (a : Answer A) → IsKnownWith P a → IsKnownWith IsAnything a
any P (gives x) h = tt
any P (fails f) h = tt
any P unknown h = absurd h

module _ (O : Tree → Type 0) (p : Prices) where
  pub value-sure : (t : Tree) → IsGood O a_term t → IsSure (value p t)
  value-sure t h = any (IsGood IsAnyTree a_term) (value p t).answer (term-value IsAnyTree standard bundles p t (weaker O a_term t h))

  -- the value of a part whose constituents are good
  pub part-known : (l : Label) (ts : Trees) → AreGoodKids O (open_slots a_part l) ts → IsSure (value p (node l ts))
  part-known l ts h = any (IsGood IsAnyTree a_term) (value p (node l ts)).answer (part-value IsAnyTree standard bundles p (node l ts) (tt, kids-weaker O (open_slots a_part l) ts h))

  pub values-sure : (l : Label) (ts : Trees) → IsGood O the_terms (node l ts) → IsSure (in_order (values p ts))
  values-sure row ts h =
      any (Every (IsGood IsAnyTree a_term)) (in_order (values p ts)).answer (in_order-comes (IsGood IsAnyTree a_term) (values p ts) (term-values IsAnyTree standard bundles p ts (kids-weaker O (each_is a_term) ts h.1)))
  values-sure _ ts h = absurd h.1

  limits-sure : (r : Row) → IsKnownWith IsAnything (row_limits r)
  limits-sure r = go (ltb 400 (height r.part)) (ltb 1048576 (row_length r))
    where
      go : (a b : Bool) → IsKnownWith IsAnything (cond a (fails fault.TooDeep) (cond b (fails fault.TooBig) (gives (a_row r ∷ []))))
      go true b = tt
      go false true = tt
      go false false = tt

  pub chosen-sure : (b : Bool) (x y : Answer (List Product)) → IsKnownWith IsAnything x → IsKnownWith IsAnything y → IsKnownWith IsAnything (cond b x y)
  chosen-sure true x y h k = h
  chosen-sure false x y h k = k

  pub send-sure : (s : List ℕ) (q : Bool) (c : Channel) (xs : List Tree) → IsSure (send_offered p s q c xs)
  send-sure s q c xs =
      let r : Row = record { id = s; part = two (send q) c.name (many row xs) } in
      chosen-sure c.writable (row_limits r) (fails fault.NotWritable) (limits-sure r) tt

  pub receive-sure : (s : List ℕ) (k : Kind) (cs : List Channel) (bs : List Tree) (body : Tree) → IsSure (receive_offered p s k cs bs body)
  receive-sure s k cs bs body =
      let r : Row = record { id = s; part = sorted_receive k (on_channels cs bs) body } in
      chosen-sure (all_readable cs) (cond (has_twins (each (λ c. c.name) cs)) (fails fault.SameChannel) (row_limits r)) (fails fault.NotReadable)
      (chosen-sure (has_twins (each (λ c. c.name) cs)) (fails fault.SameChannel) (row_limits r) tt (limits-sure r)) tt

-- changes that are yet to come, each with the number of variables bound around it
abbrev pub Changes : Type 0
Changes = List (Change × ℕ)

-- each of these parts changed
abbrev pub each_changed : Change → ℕ → Trees → Trees
each_changed F d none = none
each_changed F d (also t ts) = joined_trees (change F d t) (each_changed F d ts)

-- what changes make of parts, the first change first
abbrev pub all_applied : Changes → Trees → Trees
all_applied [] ts = ts
all_applied (c ∷ cs) ts = all_applied cs (each_changed c.0 c.1 ts)

module _ (p : Prices) where
  -- a part unfolds with each seed
  abbrev pub PartEnds : Tree → Type 0
  PartEnds t = (s : List ℕ) → (n : ℕ) × IsSure (unfold_part p (unfold_in p n) s t)

  -- each of these parts does
  abbrev pub PartsEnd : Trees → Type 0
  PartsEnd none = ⊤
  PartsEnd (also t ts) = PartEnds t × PartsEnd ts

  -- and so does what any changes make of it
  abbrev pub EndsChanged : Tree → Type 0
  EndsChanged t = (cs : Changes) → PartsEnd (all_applied cs (also t none))

  -- that is asked of the forms whose unfolding is not told by that of their visible constituents
  abbrev pub EndsUntold : Tree → Type 0
  EndsUntold (node (receive k) ts) = EndsChanged (node (receive k) ts)
  EndsUntold (node (new os) ts) = EndsChanged (node (new os) ts)
  EndsUntold (node match ts) = EndsChanged (node match ts)
  EndsUntold (node (unary o) ts) = EndsChanged (node (unary o) ts)
  EndsUntold (node (binary o) ts) = EndsChanged (node (binary o) ts)
  EndsUntold (node (method n) ts) = EndsChanged (node (method n) ts)
  EndsUntold (node l ts) = ⊤

  pub own-stable : IsStable EndsUntold
  own-stable F d (receive k) ts v o = λ cs. o ((F, d) ∷ cs)
  own-stable F d (new os) ts v o = λ cs. o ((F, d) ∷ cs)
  own-stable F d match ts v o = λ cs. o ((F, d) ∷ cs)
  own-stable F d (unary q) ts v o = λ cs. o ((F, d) ∷ cs)
  own-stable F d (binary q) ts v o = λ cs. o ((F, d) ∷ cs)
  own-stable F d (method n) ts v o = λ cs. o ((F, d) ∷ cs)
  own-stable F d (var i) ts v o = absurd v
  own-stable F d (name_var i) ts v o = absurd v
  own-stable F d l ts v o = tt

  pub own-standard : HasStandard EndsUntold
  own-standard (bool x) ts i k = tt
  own-standard (int x) ts i k = tt
  own-standard (str x) ts i k = tt
  own-standard (uri x) ts i k = tt
  own-standard (bytes x) ts i k = tt
  own-standard (fresh x) ts i k = tt
  own-standard list ts i k = tt
  own-standard tuple ts i k = tt
  own-standard set ts i k = tt
  own-standard dict ts i k = tt
  own-standard _ ts i k = absurd i

  pub own-collections : HasCollections EndsUntold
  own-collections = collections EndsUntold own-standard

  pub own-bundles : HasBundles EndsUntold
  own-bundles r t g = tt
