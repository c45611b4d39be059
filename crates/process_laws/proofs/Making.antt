-- Values that are made of good ones.
use Rattle.std.proofs.Common.{Bool, true, false, cond, List, [], ◌∷◌, map as each}
use Rattle.std.specs.Prelude.{⊤, flat_map}
use Rattle.calculus.proofs.Members.{Every, every-each, every-flat}
use Rattle.calculus.specs.Tree.{Label, bool, int, str, uri, bytes, fresh, list, tuple, set, dict, pair, Tree, node, Trees, none, also, trees}
use Rattle.calculus.specs.Shape.{leaf, many, only, process, held, two}
use Rattle.calculus.specs.Congruence.{congruent}
use Rattle.calculus.specs.Normal.{ascending}
use Rattle.calculus.specs.Operators.{is_among, distinct, key_of, value_of, last_of_key, of_set, of_map, of_list, found}
use Rattle.calculus.specs.Methods.{as_tuple}
use Rattle.process_laws.proofs.Lists.{ascending-every}
use Rattle.process_laws.proofs.Goodness.{a_term, a_part, a_pair, open_slots, IsGood, AreGoodKids, AreGood, trees-good, held-good}

-- the forms of ground values and collections
abbrev pub IsStandard : Label → Type 0
IsStandard (bool x) = ⊤
IsStandard (int x) = ⊤
IsStandard (str x) = ⊤
IsStandard (uri x) = ⊤
IsStandard (bytes x) = ⊤
IsStandard (fresh x) = ⊤
IsStandard list = ⊤
IsStandard tuple = ⊤
IsStandard set = ⊤
IsStandard dict = ⊤
IsStandard _ = ⊥

-- they all have the property
abbrev pub HasStandard : (Tree → Type 0) → Type 0
HasStandard O = (l : Label) (ts : Trees) → IsStandard l → AreGoodKids O (open_slots a_part l) ts → O (node l ts)

-- the forms of lists, sets and maps
abbrev pub IsCollection : Label → Type 0
IsCollection list = ⊤
IsCollection set = ⊤
IsCollection dict = ⊤
IsCollection _ = ⊥

-- those have the property
abbrev pub HasCollections : (Tree → Type 0) → Type 0
HasCollections O = (l : Label) (ts : Trees) → IsCollection l → AreGoodKids O (open_slots a_part l) ts → O (node l ts)

pub collections : (O : Tree → Type 0) → HasStandard O → HasCollections O
collections O f list ts i k = f list ts tt k
collections O f set ts i k = f set ts tt k
collections O f dict ts i k = f dict ts tt k
collections O f _ ts i k = absurd i

-- what is so of each member is so of those that are kept
pub distinct-every : (P : Tree → Type 0) (ts : List Tree) → Every P ts → Every P (distinct ts)
distinct-every P [] h = tt
distinct-every P (t ∷ ts) h =
    elim (is_among t ts) as (λ (b : Bool). Every P (cond b (distinct ts) (t ∷ distinct ts))) [ true ↦ distinct-every P ts h.1 | false ↦ (h.0, distinct-every P ts h.1) ]

pub last-every : (P : Tree → Type 0) (ps : List Tree) → Every P ps → Every P (last_of_key ps)
last-every P [] h = tt
last-every P (p ∷ ps) h =
    elim (is_among (key_of p) (each key_of ps)) as (λ (b : Bool). Every P (cond b (last_of_key ps) (p ∷ last_of_key ps))) [ true ↦ last-every P ps h.1 | false ↦ (h.0, last-every P ps h.1) ]

module _ (O : Tree → Type 0) (collected : HasCollections O) where
  pub process-good : (ts : List Tree) → AreGood O a_part ts → IsGood O a_term (process ts)
  process-good ts h = (tt, trees-good O a_part ts h)

  pub list-good : (ts : List Tree) → AreGood O a_term ts → IsGood O a_term (of_list ts)
  list-good ts h = (tt, ((collected list (trees ts) tt (trees-good O a_term ts h), trees-good O a_term ts h), tt))

  pub members-good : (ts : List Tree) → AreGood O a_term ts → IsGood O a_term (only (many set ts))
  members-good ts h = (tt, ((collected set (trees ts) tt (trees-good O a_term ts h), trees-good O a_term ts h), tt))

  pub pairs-good : (ts : List Tree) → AreGood O a_pair ts → IsGood O a_term (only (many dict ts))
  pairs-good ts h = (tt, ((collected dict (trees ts) tt (trees-good O a_pair ts h), trees-good O a_pair ts h), tt))

module _ (O : Tree → Type 0) (standard : HasStandard O) where
  pub only-good : (t : Tree) → IsGood O a_part t → IsGood O a_term (only t)
  only-good t h = (tt, (h, tt))

  pub bool-good : (b : Bool) → IsGood O a_term (only (leaf (bool b)))
  bool-good b = (tt, ((standard (bool b) none tt tt, tt), tt))

  pub tuple-good : (ts : List Tree) → AreGood O a_term ts → IsGood O a_term (only (many tuple ts))
  tuple-good ts h = (tt, ((standard tuple (trees ts) tt (trees-good O a_term ts h), trees-good O a_term ts h), tt))

  pub set-good : (ts : List Tree) → AreGood O a_term ts → IsGood O a_term (of_set ts)
  set-good ts h = members-good O (collections O standard) (ascending (distinct ts)) (ascending-every (IsGood O a_term) (distinct ts) (distinct-every (IsGood O a_term) ts h))

  pub map-good : (ps : List Tree) → AreGood O a_pair ps → IsGood O a_term (of_map ps)
  map-good ps h = pairs-good O (collections O standard) (ascending (last_of_key ps)) (ascending-every (IsGood O a_pair) (last_of_key ps) (last-every (IsGood O a_pair) ps h))

  pub key-good : (p : Tree) → IsGood O a_pair p → IsGood O a_term (key_of p)
  key-good (node pair none) h = absurd h.1
  key-good (node pair (also t none)) h = absurd h.1.1
  key-good (node pair (also t (also u ts))) h = h.1.0
  key-good (node _ ts) h = absurd h.1

  pub value-good : (p : Tree) → IsGood O a_pair p → IsGood O a_term (value_of p)
  value-good (node pair none) h = absurd h.1
  value-good (node pair (also t none)) h = absurd h.1.1
  value-good (node pair (also t (also u ts))) h = h.1.1.0
  value-good (node _ ts) h = absurd h.1

  pub pair-good : (k v : Tree) → IsGood O a_term k → IsGood O a_term v → IsGood O a_pair (two pair k v)
  pair-good k v h g = (tt, (h, (g, tt)))

  pub keys-good : (ps : List Tree) → AreGood O a_pair ps → AreGood O a_term (each key_of ps)
  keys-good ps h = every-each (IsGood O a_term) (IsGood O a_pair) key_of (λ p k. key-good p k) ps h

  pub found-good : (d k : Tree) (ps : List Tree) → IsGood O a_term d → AreGood O a_pair ps → IsGood O a_term (found d k ps)
  found-good d k [] h g = h
  found-good d k (p ∷ ps) h g =
      elim (congruent k (key_of p)) as (λ (b : Bool). IsGood O a_term (cond b (value_of p) (found d k ps))) [ true ↦ value-good p g.0 | false ↦ found-good d k ps h g.1 ]

  pair-members : (p : Tree) → IsGood O a_pair p → AreGood O a_term (held p)
  pair-members (node pair none) h = tt
  pair-members (node pair (also t none)) h = absurd h.1.1
  pair-members (node pair (also t (also u none))) h = (h.1.0, (h.1.1.0, tt))
  pair-members (node pair (also t (also u (also v vs)))) h = absurd h.1.1.1
  pair-members (node _ ts) h = absurd h.1

  pub as-tuple-good : (p : Tree) → IsGood O a_pair p → IsGood O a_term (as_tuple p)
  as-tuple-good p h = tuple-good (held p) (pair-members p h)

  pub tuples-good : (ps : List Tree) → AreGood O a_pair ps → AreGood O a_term (each as_tuple ps)
  tuples-good ps h = every-each (IsGood O a_term) (IsGood O a_pair) as_tuple (λ p k. as-tuple-good p k) ps h

  -- the parts of good processes, one after another
  pub flat-good : (ts : List Tree) → AreGood O a_term ts → AreGood O a_part (flat_map held ts)
  flat-good ts h = every-flat (IsGood O a_part) (IsGood O a_term) held (λ t k. held-good O t k) ts h
