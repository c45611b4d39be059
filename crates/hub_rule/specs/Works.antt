-- Works that are pending: on desks and in hand. A work stands with its index, which is its place among all works.
-- Word 520 is the pending word, how many works are pending. Word 8d + 528 is 1 while a seat has the turn of desk d, and else 0. Slot d + 64 holds the works
-- of desk d while nobody has its turn.
use Rattle.std.specs.Prelude.{◌≡◌, ℕ, ◌+◌, ◌*◌, ◌^◌, ◌<◌, ◌≤◌, Bool, true, false, List, [], ◌∷◌, ◌++◌, length, map, slice_index, slice_index_or, Some}
use mathlib.Core.Option.{some}
use mathlib.Core.Option as opt
use lib.ListN.{get_elem?}
use Rattle.hub_rule.specs.declared.view.Pile.{Pile}
use Rattle.hub_rule.specs.declared.slot.Slot.{Slot}
use Rattle.hub_rule.specs.declared.slot.Slot.TheVariants.{Shard, Desk}
use Rattle.hub_rule.specs.Counts.{count, total, once_below, all_of, Each, things_of}
use Rattle.hub_rule.specs.Meaning.{Meaning, offered, ended, taking}

-- a pile, field by field
abbrev pub pile : {E W : Type 0} → List (ℕ × W) → List (ℕ × W) → List (ℕ × W) → List E → ℕ → Bool → List (ℕ × List (ℕ × W)) → ℕ → ℕ → ℕ → Pile E W
pile kept taken offered took counted owes desk empty left fetched =
    record { kept = kept; taken = taken; offered = offered; took = took; counted = counted; owes = owes; desk = desk; empty = empty; left = left; fetched = fetched }

-- no works
abbrev pub bare : {E W : Type 0} → Pile E W
bare = pile [] [] [] [] 0 false [] 0 0 0

-- the works in hand
abbrev pub hand : {E W : Type 0} → Pile E W → List (ℕ × W)
hand p = p.kept ++ (p.taken ++ p.offered)

-- the turn of this desk is held, and P holds of the works that lay there
abbrev pub HoldsDesk : {E W : Type 0} → Pile E W → ℕ → (List W → Type 0) → Type 0
HoldsDesk {W = W} p d P = (ps : List (ℕ × W)) × (p.desk ≡ (d, ps) ∷ []) × P (things_of ps)

-- what these seats have, each with its parts
abbrev pub Piles : Type 0 → Type 0 → Type 0
Piles E W = List (ℕ × Pile E W)

module _ {E X W : Type 0} (words : List ℕ) (homes : List (opt.Option (Slot X W))) (desks : List (List (ℕ × W))) (piles : Piles E W) where
  -- Desks. The turn word of a desk names at most one seat, whose pile names the desk. Where the turn is free, the works are in the desk's slot.
  pub record DeskRule : Type 0 where
    pub many : length desks ≡ 32
    pub turn : (d : ℕ) → d < 32 → slice_index words (d * 8 + 528) ≡ total (λ v. count d v.1.desk) piles
    pub one : (d : ℕ) → d < 32 → total (λ v. count d v.1.desk) piles < 2
    pub home : (d : ℕ) → d < 32 → slice_index words (d * 8 + 528) ≡ 0 → (v : _) × (ps : List (ℕ × W)) × (get_elem? homes (d + 64) ≡ some (some (Desk v))) × (get_elem? desks d ≡ some ps) × (v.items ≡ things_of ps)
    pub held : (id : ℕ) (v : ℕ × Pile E W) → get_elem? piles id ≡ some v → Each (λ d ps. (d < 32) × (get_elem? desks d ≡ some ps)) v.1.desk
    pub idle : (id : ℕ) (v : ℕ × Pile E W) → get_elem? piles id ≡ some v → v.0 ≡ 0 → v.1.desk ≡ []

module _ {Store E X W : Type 0} (m : Meaning Store E X W) (works : List W) (log : List (ℕ × E)) (desks : List (List (ℕ × W))) (piles : Piles E W) where
  -- Works. Each work that was opened or offered is on one desk, in one hand, or ended. What lies on a desk, and what was just offered, no entry took yet;
  -- the entries that took the work in hand are those that its holder drew since.
  pub record WorkRule : Type 0 where
    pub in_hand : (id : ℕ) (v : ℕ × Pile E W) → get_elem? piles id ≡ some v → Each (λ i w. get_elem? (offered m works log) i ≡ some w) (hand v.1)
    pub on_desk : (d : ℕ) (ps : List (ℕ × W)) → get_elem? desks d ≡ some ps → Each (λ i w. get_elem? (offered m works log) i ≡ some w) ps
    pub once : (i : ℕ) → total (count i) desks + total (λ v. count i (hand v.1)) piles + ended m i log ≡ once_below i (length (offered m works log))
    pub took : (id : ℕ) (v : ℕ × Pile E W) → get_elem? piles id ≡ some v → Each (λ i w. taking m i log ≡ v.1.took) v.1.taken
    pub offers : (id : ℕ) (v : ℕ × Pile E W) → get_elem? piles id ≡ some v → Each (λ i w. taking m i log ≡ []) v.1.offered
    pub rests : (d : ℕ) (ps : List (ℕ × W)) → get_elem? desks d ≡ some ps → Each (λ i w. taking m i log ≡ []) ps
    pub fresh : (i : ℕ) → length (offered m works log) ≤ i → taking m i log ≡ []

module _ {E W : Type 0} (opened pending : ℕ) (desks : List (List (ℕ × W))) (piles : Piles E W) where
  -- The pending word counts the works on desks and in hands, but for seats that drew an entry and have not told it yet; such a seat had a work. So where
  -- the word is 0 nothing is pending, and it stays so. A desk has at most 2^58 works, and a seat at most 2^57 + 64 in hand, so the word doesn't wrap.
  pub record PendRule : Type 0 where
    pub sum : pending ≡ total length desks + total (λ v. v.1.counted) piles
    pub settled : (id : ℕ) (v : ℕ × Pile E W) → get_elem? piles id ≡ some v → v.1.owes ≡ false → v.1.counted ≡ length (hand v.1)
    pub owing : (id : ℕ) (v : ℕ × Pile E W) → get_elem? piles id ≡ some v → v.1.owes ≡ true → 0 < v.1.counted
    pub few : (id : ℕ) (v : ℕ × Pile E W) → get_elem? piles id ≡ some v → (length (hand v.1) ≤ v.0 * (2 ^ 52 + 2)) × (v.1.counted ≤ v.0 * (2 ^ 52 + 2))
    pub short : (d : ℕ) (ps : List (ℕ × W)) → get_elem? desks d ≡ some ps → length ps ≤ 2 ^ 58
    pub empty : (id : ℕ) (v : ℕ × Pile E W) → get_elem? piles id ≡ some v → 0 < v.1.empty → pending ≡ 0
    pub idle : (id : ℕ) (v : ℕ × Pile E W) → get_elem? piles id ≡ some v → v.0 ≡ 0 → v.1.left + v.1.fetched ≡ 0
    pub moved : total length desks + total (λ v. v.1.fetched) piles ≡ opened + total (λ v. v.1.left) piles

-- these slots are desks, on which these lists of works lie
abbrev pub AreDesks : {X W : Type 0} → List (List W) → List (Slot X W) → Type 0
AreDesks [] [] = Unit {0}
AreDesks [] (s ∷ ss) = ⊥
AreDesks (l ∷ ls) [] = ⊥
AreDesks (l ∷ ls) (Shard x ∷ ss) = ⊥
AreDesks (l ∷ ls) (Desk v ∷ ss) = (v.items ≡ l) × AreDesks ls ss

-- the slots of these shards, and of so many desks on which all these works lie, one after another
abbrev pub Laid : {X W : Type 0} → ℕ → List X → List W → List (Slot X W) → Type 0
Laid {X = X} {W = W} count shards works slots =
    (lists : List (List W)) × (desks : List (Slot X W)) × (slots ≡ map (λ x. Shard (Some x)) shards ++ desks) × AreDesks lists desks × (length lists ≡ count) × (all_of (λ l. l) lists ≡ works)

-- the works of these lists lie on the desks, whose slots are from 64 on
abbrev pub LiesOn : {X W : Type 0} → List (Slot X W) → List (List W) → Type 0
LiesOn slots lists = (d : ℕ) (ws : List _) → get_elem? lists d ≡ some ws → (v : _) × (get_elem? slots (d + 64) ≡ some (Desk v)) × (v.items ≡ ws)

-- the slots below the first number are empty, those from there to the bound are full
abbrev pub FilledFrom : ℕ → ℕ → List Bool → Type 0
FilledFrom first bound flags = ((j : ℕ) → first ≤ j → j < bound → slice_index_or flags j false ≡ true) × ((j : ℕ) → j < first → slice_index_or flags j false ≡ false)

-- this shard is in the slot of this number
abbrev pub LiesAt : {X W : Type 0} → List (Slot X W) → ℕ → X → Type 0
LiesAt slots k x = get_elem? slots k ≡ some (Shard (Some x))

-- so much room is enough for the works on all 32 desks
abbrev pub DesksFit : {X W : Type 0} → List (Slot X W) → ℕ → Type 0
DesksFit {W = W} slots room = (lists : List (List W)) × (length lists ≡ 32) × LiesOn slots lists × (length (all_of (λ l. l) lists) ≤ room)
