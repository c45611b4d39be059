-- What a scene means, and the laws that it keeps.
use Rattle.std.specs.Prelude.{◌≡◌, ℕ, ◌+◌, ◌≤◌, ◌^◌, ◌==◌, ◌&&◌, Bool, true, false, List, [], ◌∷◌, ◌++◌, length, slice_get, Some}
use Rattle.hub_rule.specs.Counts.{one_if, count, once_below, things_of, Each, Projected}

-- The meaning of a scene. A store is what all shards together stand for, and an entry is an event that changes it. An entry takes one work that is pending.
pub record Meaning (Store Entry Shard Work : Type 0) : Type 1 where
  -- the shard is the projection of the store to this number
  pub projects : Store → ℕ → Shard → Type 0
  -- a hub may open with the store and these works
  pub opens : Store → List Work → Type 0
  -- the store after an entry
  pub after : Store → Entry → Store
  -- the entry is allowed in the store
  pub allows : Store → Entry → Type 0
  -- the work that the entry takes
  pub takes : Entry → Work
  -- the entry ends the work that it takes
  pub ends : Entry → Bool
  -- the works that the entry offers
  pub offers : Entry → List Work
  -- the entry touches the shard of this number
  pub touched : Entry → ℕ → Bool
  -- what the entry may make of the shard of this number, which it touches
  pub effect : Entry → ℕ → Shard → Shard → Type 0
  -- what an entry costs
  pub price : Entry → ℕ
  -- an entry is a fault
  pub faults : Entry → Bool
  -- these shards, by number and as they stand before the entry, and these earlier entries on its work tell that it is allowed
  pub tells : List (ℕ × Shard) → List Entry → Entry → Type 0

-- the entry stands first where it is one of those wanted
abbrev pub if_wanted : {A : Type 0} → Bool → A → List A → List A
if_wanted true x xs = x ∷ xs
if_wanted false x xs = xs

module _ {Store Entry Shard Work : Type 0} (m : Meaning Store Entry Shard Work) where
  -- the store after these entries
  abbrev pub store_after : Store → List Entry → Store
  store_after st [] = st
  store_after st (e ∷ es) = store_after (m.after st e) es

  -- All works: those opened, and then what each entry offers. The index of a work is its place here. In a log each entry stands with the index of the work that it takes.
  abbrev pub offered : List Work → List (ℕ × Entry) → List Work
  offered works [] = works
  offered works (p ∷ ps) = offered (works ++ m.offers p.1) ps

  -- how often the work i was ended
  abbrev pub ended : ℕ → List (ℕ × Entry) → ℕ
  ended i [] = 0
  ended i (p ∷ ps) = one_if ((p.0 == i) && m.ends p.1) + ended i ps

  -- the entries that took the work i, in order
  abbrev pub taking : ℕ → List (ℕ × Entry) → List Entry
  taking i [] = []
  taking i (p ∷ ps) = if_wanted (p.0 == i) p.1 (taking i ps)

  -- the work w of the index i was opened or offered, and is not ended
  abbrev pub Pending : List Work → List (ℕ × Entry) → ℕ → Work → Type 0
  Pending works log i w = (slice_get (offered works log) i ≡ Some w) × (ended i log ≡ 0)

  -- after these entries an entry may be next: it takes a work that is pending, and the store allows it
  abbrev pub MayFollow : Store → List Work → List (ℕ × Entry) → ℕ × Entry → Type 0
  MayFollow st works log p = Pending works log p.0 (m.takes p.1) × m.allows (store_after st (things_of log)) p.1

  -- each entry may follow those before it
  abbrev pub AllowedAfter : Store → List Work → List (ℕ × Entry) → List (ℕ × Entry) → Type 0
  AllowedAfter st works log [] = Unit {0}
  AllowedAfter st works log (p ∷ ps) = MayFollow st works log p × AllowedAfter st works (log ++ p ∷ []) ps

  -- these entries are an allowed list from the store and these works
  abbrev pub Allowed : Store → List Work → List (ℕ × Entry) → Type 0
  Allowed st works log = AllowedAfter st works [] log

  -- what an entry makes of the shard k, which it touches or not: a shard that it doesn't touch stays
  abbrev pub Passes : Bool → Entry → ℕ → Shard → Shard → Type 0
  Passes true e k x y = m.effect e k x y
  Passes false e k x y = y ≡ x

  -- what these entries, one after another, may make of the shard k
  abbrev pub Follows : List Entry → ℕ → Shard → Shard → Type 0
  Follows [] k x y = y ≡ x
  Follows (e ∷ es) k x y = (z : Shard) × Passes (m.touched e k) e k x z × Follows es k z y

  -- the same of each shard of a list
  abbrev pub AllFollow : List Entry → List (ℕ × Shard) → List (ℕ × Shard) → Type 0
  AllFollow es [] [] = Unit {0}
  AllFollow es [] (q ∷ qs) = ⊥
  AllFollow es (p ∷ ps) [] = ⊥
  AllFollow es (p ∷ ps) (q ∷ qs) = (q.0 ≡ p.0) × Follows es p.0 p.1 q.1 × AllFollow es ps qs

  -- the held shards, as these entries may have made them, and those that took the entry's work tell that it is allowed
  abbrev pub IsTold : List Entry → List (ℕ × Shard) → List Entry → Entry → Type 0
  IsTold since held took e = (before : List (ℕ × Shard)) × AllFollow since held before × m.tells before took e

  -- The laws of a scene. An entry changes no shard that it doesn't touch; the projection of the store after an allowed entry is its effect on each
  -- shard that it touches; after every allowed list from a store and works with which a hub may open, an entry on a pending work is allowed that
  -- projections of the store and the entries which took this work before tell to be; and an entry costs at most 2^56.
  pub record Lawful : Type 0 where
    pub untouched : (st : Store) (e : Entry) (k : ℕ) (x : Shard) → m.touched e k ≡ false → m.projects st k x → m.projects (m.after st e) k x
    pub projection : (st : Store) (e : Entry) (k : ℕ) (x y : Shard) → m.allows st e → m.touched e k ≡ true → m.projects st k x → m.effect e k x y → m.projects (m.after st e) k y
    pub told : (st : Store) (works : List Work) (log : List (ℕ × Entry)) (shards : List (ℕ × Shard)) (i : ℕ) (e : Entry) → m.opens st works → Allowed st works log → Pending works log i (m.takes e)
        → Each (m.projects (store_after st (things_of log))) shards → m.tells shards (taking i log) e → m.allows (store_after st (things_of log)) e
    pub cheap : (e : Entry) → m.price e ≤ 2 ^ 56

  -- these are the works that are pending after the log, each once
  abbrev pub ArePending : List Work → List (ℕ × Entry) → List (ℕ × Work) → Type 0
  ArePending works log ws = Each (λ i w. slice_get (offered works log) i ≡ Some w) ws × ((i : ℕ) → count i ws + ended i log ≡ once_below i (length (offered works log)))

  -- There is a store that the opened shards project, with which and the opened works a hub may open; the entries are an allowed list from these; the closed
  -- shards project the store after them; and what is left and what is in hand is what is then pending.
  pub record Ran (opened : List Shard) (works : List Work) (entries : List Entry) (closed : List Shard) (left : List Work) (hands : List (ℕ × Work)) : Type 0 where
    pub store : Store
    pub log : List (ℕ × Entry)
    pub rests : List (ℕ × Work)
    pub same : things_of log ≡ entries
    pub starts : Projected m.projects store opened × m.opens store works
    pub allowed : Allowed store works log
    pub closes : Projected m.projects (store_after store entries) closed
    pub lies : things_of rests ≡ left
    pub pending : ArePending works log (rests ++ hands)
