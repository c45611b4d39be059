-- A walk over the rows of a base and those of the next state.
use Rattle.std.specs.Prelude.{◌≡◌, ◌⊎◌, ◌≤◌, ◌+◌, ℕ, cond, true, false, List, [], ◌∷◌, ◌++◌, map as each, All, Option, Some, None, IfSome, IsSome}
use Rattle.std.specs.Borrow.{Bor}
use Rattle.std.specs.BTreeMap.{BTreeMap, get, is_at}
use Rattle.std.specs.declared.alloc.Global.{Global}
use Rattle.std.specs.declared.vec.Vec.{Vec}
use Rattle.calculus.specs.declared.ids.Digest.{Digest}
use Rattle.calculus.specs.Order.{byte_cmp, IsAscending, IsBelowFirst}
use Rattle.calculus.specs.Root.{key}
use Rattle.calculus.specs.Rows.{Row, row_code}
use Rattle.calculus.specs.Steps.{is_one_of}
use Rattle.next_states.specs.Pairs.{Pair, codes_in, cut_by, held, pair_of, seconds, IsChanged, TellsKey}
use Rattle.next_states.specs.declared.changed.Changed.{Changed}
use Rattle.next_states.specs.declared.left.Left.{Left}
use Rattle.next_states.specs.declared.walk.Coded.{Coded}
use Rattle.next_states.specs.declared.walk.Keyed.{Keyed}
use Rattle.next_states.specs.declared.walk.Walk.{Walk}

-- the pairs that are left of a base
abbrev pub pairs_left : Left → List Pair
pairs_left l = cut_by l.marks.now l.text.now

-- the codes that are gathered of a key, where its group changes
abbrev pub gathered : Changed → List ℕ → Option (Vec (Vec ℕ Global) Global)
gathered c k = get byte_cmp c.groups k

-- the group of a key changes
abbrev pub Has : Changed → List ℕ → Type 0
Has c k = IsSome (gathered c k)

-- of each group that changes the codes of these pairs are gathered
abbrev pub Holds : Changed → List Pair → Type 0
Holds c ps = (k : List ℕ) → IfSome (gathered c k) (λ v. each (λ x. x.items) v.items ≡ codes_in ps k)

-- the row of a row with its code
abbrev pub row_of : Coded → Row
row_of c = c.row.now

-- a row with its code
abbrev pub IsCoded : Coded → Type 0
IsCoded c = c.code.items ≡ row_code c.row.now

-- a code with its key, as a pair
abbrev pub pair_in : Keyed → Pair
pair_in k = (k.key.0, k.code.items)

-- of all pairs of a base and these pairs of the next state, which are done, the same codes stand under each key whose group does not change, but for what is left of the base
pub record Agrees (w : Walk) (all done : List Pair) : Type 0 where
  pub tell : All TellsKey (pairs_left w.left)
  pub bare : Holds w.changed []
  pub same : (k : List ℕ) → Has w.changed k ⊎ (codes_in all k ≡ codes_in done k ++ codes_in (pairs_left w.left) k)

-- of a base and the next state the same codes stand under each key whose group does not change
abbrev pub Covers : Changed → List Pair → List Pair → Type 0
Covers c all next = (k : List ℕ) → Has c k ⊎ (codes_in all k ≡ codes_in next k)

-- a walk stands at this code, which is no greater than those of the pairs to come, and of these there are none where it stands at none
abbrev pub Stands : Option (Bor (List ℕ)) → List Pair → Type 0
Stands None ps = ps ≡ []
Stands (Some c) ps = IsAscending (c.now ∷ seconds ps)

-- of all pairs of a base and those of the next state, of which these are done and these are to come, both in the order of their codes, each group that is found so far changes: a code that is left of the base stands among those done no more often than it should, and one that is to come no less often
pub record Finds (w : Walk) (all done todo : List Pair) : Type 0 where
  pub left : IsAscending (seconds (pairs_left w.left))
  pub next : IsAscending (seconds todo)
  pub few : (k c : List ℕ) → is_one_of c (seconds (pairs_left w.left)) ≡ true → held done k c + held (pairs_left w.left) k c ≤ held all k c
  pub many : (k c : List ℕ) → is_one_of c (seconds todo) ≡ true → held all k c ≤ held done k c + held (pairs_left w.left) k c
  pub found : (k : List ℕ) → Has w.changed k → IsChanged all (done ++ todo) k

-- a row with its code, as a pair, and rows with theirs
abbrev pub coded_pair : Coded → Pair
coded_pair c = pair_of (row_of c)

abbrev pub coded_pairs : List Coded → List Pair
coded_pairs cs = each pair_of (each row_of cs)

-- if memory was never wanting, it was not before, and this is so
abbrev pub Once : Changed → Changed → Type 0 → Type 0
Once old new done = new.failed ≡ false → (old.failed ≡ false) × done

-- what is there under each key but one, and there this
abbrev pub Sets : BTreeMap (List ℕ) (Vec (Vec ℕ Global) Global) → List ℕ → Option (Vec (Vec ℕ Global) Global) → BTreeMap (List ℕ) (Vec (Vec ℕ Global) Global) → Type 0
Sets m d o n = (k : List ℕ) → get byte_cmp n k ≡ cond (is_at (byte_cmp d) k) o (get byte_cmp m k)

-- the group of this key changes too
pub record Adds (old new : Changed) (d : List ℕ) : Type 0 where
  pub here : Has new d
  pub others : (k : List ℕ) → Has old k → Has new k
  pub bare : Holds old [] → Holds new []
  pub only : (k : List ℕ) → Has new k → Has old k ⊎ (k ≡ d)

-- the codes of these pairs are gathered too, and the groups that change are the same
pub record Puts (old new : Changed) (ps : List Pair) : Type 0 where
  pub others : (k : List ℕ) → Has old k → Has new k
  pub only : (k : List ℕ) → Has new k → Has old k
  pub holds : (qs : List Pair) → Holds old qs → Holds new (qs ++ ps)

-- a walk passes rows of the base whose codes are less than this, or any
pub record Passing (code : Option (Bor (List ℕ))) (old new : Walk) : Type 0 where
  pub agrees : (all done : List Pair) → Agrees old all done → Agrees new all done
  pub finds : (all done next : List Pair) → Stands code next → Finds old all done next → Finds new all done next

-- and passes all of them
pub record Passes (code : Option (Bor (List ℕ))) (old new : Walk) : Type 0 where
  pub passing : Passing code old new
  pub all : code ≡ None → pairs_left new.left ≡ []
  pub least : IfSome code (λ c. IsBelowFirst c.now (seconds (pairs_left new.left)))

-- a walk takes this row, whose key is this: what agreed before agrees with the row behind those that are done, and it finds only what changes
pub record Takes (c : Coded) (old new : Walk) (d : Digest) : Type 0 where
  pub agrees : (all done : List Pair) → IsCoded c → Agrees old all done → Agrees new all (done ++ coded_pair c ∷ [])
  pub own : (all done : List Pair) → IsCoded c → Agrees old all done → d.0 ≡ key (row_of c)
  pub finds : (all done next : List Pair) → IsCoded c → Agrees old all done
      → Finds old all done (coded_pair c ∷ next) → Finds new all (done ++ coded_pair c ∷ []) next

-- the same of all these rows, at the start of a walk, whose codes are these with their keys
pub record TakesAll (cs : List Coded) (old new : Walk) (ks : List Keyed) : Type 0 where
  pub pairs : (all : List Pair) → All IsCoded cs → Agrees old all [] → each pair_in ks ≡ coded_pairs cs
  pub agrees : (all : List Pair) → All IsCoded cs → Agrees old all [] → Agrees new all (coded_pairs cs)
  pub finds : (all next : List Pair) → All IsCoded cs → Agrees old all [] → Finds old all [] (coded_pairs cs ++ next) → Finds new all (coded_pairs cs) next
