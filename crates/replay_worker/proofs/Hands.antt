-- Shards in hand: their bits, and how an entry changes them.
use Rattle.std.proofs.Common.{◌≡◌, ◌<◌, ◌≤◌, ◌^◌, ℕ, zero, suc, Bool, true, false, ◌&&◌, List, [], ◌∷◌, map, refl, sym, ap, subst, ◌∙◌, arith, inl, inr, eqb, eqb-true, eq-eqb, nat_lt, bit_or, max, Some}
use Rattle.std.specs.Prelude.{Option, is_some}
use Rattle.std.specs.Int.{bit_at}
use Rattle.std.proofs.lemmas.Bool.Decides.{nat_tests}
use Rattle.std.proofs.lemmas.Nat.Bits.{bit_at-lt, bit_at_above, bit_at_or}
use Rattle.calculus.specs.Tree.{Tree}
use Rattle.calculus.specs.Log.{Step}
use Rattle.calculus.specs.Rows.{Row}
use Rattle.calculus.specs.Runs.{Deploy}
use Rattle.hub_rule.specs.Counts.{count, Each}
use Rattle.hub_rule.specs.Meaning.{Meaning, Follows, Passes}
use Rattle.hub_rule.specs.Rule.{Carries}
use Rattle.events.specs.Shards.{stands_in, Covers}
use Rattle.hub_scenes.specs.Spaces.{IndexTry, Part}
use Rattle.hub_scenes.specs.Entries.{Deed, arrives}
use Rattle.hub_scenes.specs.Showing.{IsFirstUse}
use Rattle.hub_scenes.proofs.Carrying.{now_of}
use Rattle.replay_hub.specs.declared.deed.Arrived.{Arrived as Arrival}
use Rattle.replay_hub.specs.declared.deed.Coming.{Coming}
use Rattle.replay_hub.specs.declared.deed.Did.TheVariants.{Arrived}
use Rattle.replay_hub.specs.declared.deed.Entry.{Entry}
use Rattle.replay_hub.specs.Values.{has_bit, new_row_of, try_of, deed_of, values}
use Rattle.replay_hub.specs.Drawing.{IsChangedBy, ShowsEntry}
use Rattle.replay_worker.specs.declared.tables.Arriving.{Arriving}
use Rattle.replay_worker.specs.Looking.{Becomes, AllBecome, IsArriving}

-- a bit that is set
pub bit-of : (n k : ℕ) → has_bit n k ≡ true → bit_at n k ≡ 1
bit-of n k e = eqb-true (bit_at n k) 1 (second (nat_lt k 64) (eqb (bit_at n k) 1) e)
  where
    second : (a b : Bool) → a && b ≡ true → b ≡ true
    second true b e = e
    second false b e = cc e

pub set : (n k : ℕ) → n < 2 ^ 64 → bit_at n k ≡ 1 → has_bit n k ≡ true
set n k fits one = both (nat_lt k 64) (eqb (bit_at n k) 1) low (eq-eqb (bit_at n k) 1 one)
  where
    both : (a b : Bool) → a ≡ true → b ≡ true → a && b ≡ true
    both true b e f = f
    both false b e f = cc e

    low : nat_lt k 64 ≡ true
    low = go (nat_lt k 64) refl
      where
        go : (b : Bool) → nat_lt k 64 ≡ b → nat_lt k 64 ≡ true
        go true d = d
        go false d =
            let above : 64 ≤ k = grind (arith, nat_tests) in
            let none : bit_at n k ≡ 0 = bit_at_above n 64 k fits above in
            absurd (omega (arith, one, none))

pub unset : (n k : ℕ) → bit_at n k ≡ 0 → has_bit n k ≡ false
unset n k none = go (has_bit n k) refl
  where
    go : (b : Bool) → has_bit n k ≡ b → has_bit n k ≡ false
    go false d = d
    go true d = absurd (omega (arith, bit-of n k d, none))

-- a bit stays set with more of them
pub or-bits : (a b k : ℕ) → has_bit a k ≡ true → has_bit (bit_or a b) k ≡ true
or-bits a b k e = both (nat_lt k 64) (eqb (bit_at a k) 1) (eqb (bit_at (bit_or a b) k) 1) e (eq-eqb (bit_at (bit_or a b) k) 1 one)
  where
    both : (x y z : Bool) → x && y ≡ true → z ≡ true → x && z ≡ true
    both true y z d f = f
    both false y z d f = cc d

    top : (x y : ℕ) → x ≡ 1 → y < 2 → max x y ≡ 1
    top x y d h = omega (arith, d, h)

    one : bit_at (bit_or a b) k ≡ 1
    one = bit_at_or a b k ∙ top (bit_at a k) (bit_at b k) (bit-of a k e) (bit_at-lt b k)

-- turns that are held as bits tell
module _ {X : Type 0} (held : List (ℕ × X)) (n : ℕ) (turns : (k : ℕ) → count k held ≡ bit_at n k) where
  pub within : (k : ℕ) → has_bit n k ≡ true → 0 < count k held
  within k e = omega (arith, turns k, bit-of n k e)

  module _ {Store E W : Type 0} (m : Meaning Store E X W) (since : List E) (f : ℕ → Option X) (fits : n < 2 ^ 64) (c : Carries m since held f) where
    -- the bits are those of the shards in hand
    pub hand-bits : (k : ℕ) → has_bit n k ≡ is_some (f k)
    hand-bits k = go (count k held) refl
      where
        go : (j : ℕ) → count k held ≡ j → has_bit n k ≡ is_some (f k)
        go zero z = unset n k (sym (turns k) ∙ z) ∙ sym (ap is_some (c.1 k z))
        go (suc j) z =
            let there = (now_of m f since held c.0).there k (omega (arith, z)) in
            set n k fits (omega (arith, turns k, z, bit_at-lt n k)) ∙ sym (ap is_some there.1)

-- shards in hand that are as they were are carried as they were
pub carries-alike : {Store E X W : Type 0} (m : Meaning Store E X W) (since : List E) (held : List (ℕ × X)) (f g : ℕ → Option X) → ((k : ℕ) → g k ≡ f k) → Carries m since held f → Carries m since held g
carries-alike {X = X} m since held f g e c = (go held c.0, λ k z. e k ∙ c.1 k z)
  where
    go : (ps : List (ℕ × X)) → Each (λ k x. (y : _) × (f k ≡ Some y) × Follows m since k x y) ps → Each (λ k x. (y : _) × (g k ≡ Some y) × Follows m since k x y) ps
    go [] h = tt
    go (p ∷ ps) h = ((h.0.0, e p.0 ∙ h.0.1, h.0.2), go ps h.1)

-- where all shards in hand are touched, nothing is asked of the others
pub all-touched : {S : Type 0} (part : S → Part) (touched : ℕ → Bool) (d : Deed) (old new : ℕ → Option S) → ((k : ℕ) → touched k ≡ is_some (old k)) → AllBecome part (λ k. true) d old new → AllBecome part touched d old new
all-touched {S = S} part touched d old new e a = record { there = there; absent = a.absent }
  where
    there : (k : ℕ) (x : S) → old k ≡ Some x → (y : S) × (new k ≡ Some y) × Becomes part (touched k) d k x y
    there k x o =
        let n = a.there k x o in
        let yes : touched k ≡ true = e k ∙ ap is_some o in
        (n.0, n.1, subst (λ t. Becomes part t d k x n.0) (sym yes) n.2)

-- shards that become what a deed makes of them are changed by its entry
pub changed : {R C S : Type 0} (deploy : Deploy) (ss : List Step) (row : R → Row) (channel : C → Tree) (part : S → Part) (e : Entry R C) (old new : ℕ → Option S)
    → AllBecome part (has_bit e.shards) (deed_of row channel e.did) old new → IsChangedBy deploy ss row channel part e old new
changed {S = S} deploy ss row channel part e old new a = record { here = here; absent = a.absent }
  where
    go : (t : Bool) (k : ℕ) (x y : S) → Becomes part t (deed_of row channel e.did) k x y → Passes (values deploy ss row channel part) t e k x y
    go true k x y b = b
    go false k x y b = b

    here : (k : ℕ) (x : S) → old k ≡ Some x → (y : S) × (new k ≡ Some y) × Passes (values deploy ss row channel part) (has_bit e.shards k) e k x y
    here k x o = let n = a.there k x o in (n.0, n.1, go (has_bit e.shards k) k x n.0 n.2)

-- a shard whose bit is set is in hand
pub hand-has : {Store E X W : Type 0} (m : Meaning Store E X W) (held : List (ℕ × X)) (n : ℕ) → ((k : ℕ) → count k held ≡ bit_at n k) → (since : List E) (f : ℕ → Option X) → Carries m since held f → (k : ℕ) → has_bit n k ≡ true → is_some (f k) ≡ true
hand-has m held n turns since f c k e = ap is_some ((now_of m f since held c.0).there k (within held n turns k e)).1

-- nothing was drawn since
pub since-none : {Store E X W : Type 0} (m : Meaning Store E X W) (since : List E) (held : List (ℕ × X)) (f : ℕ → Option X) → since ≡ [] → Carries m [] held f → Carries m since held f
since-none m since held f e c = subst (λ es. Carries m es held f) (sym e) c

-- what is shown of an arrival
module _ {R C S : Type 0} (deploy : Deploy) (ss : List Step) (row : R → Row) (channel : C → Tree) (part : S → Part) where
  pub arrival-shown : (coming : Coming R) (a : Arrival R C) → a.coming.value ≡ coming → (p : Arriving R C) → a.next.value.items ≡ p.next.value.items → IsArriving ss row channel coming p
      → (since : List (Entry R C)) (held : List (ℕ × S)) (old new : ℕ → Option S) → Carries (values deploy ss row channel part) since held old
      → ((next : List IndexTry) → AllBecome part (has_bit p.shards) (arrives (new_row_of row channel coming) next) old new)
      → (f : ℕ → Option S) × Carries (values deploy ss row channel part) since held f × ShowsEntry deploy ss row channel part f (record { did = Arrived a; shards = p.shards })
      × IsChangedBy deploy ss row channel part (record { did = Arrived a; shards = p.shards }) f new
  arrival-shown coming a seen p same is since held old new c becomes = (old, c, (covers, first), changed deploy ss row channel part (record { did = Arrived a; shards = p.shards }) old new all)
    where
      covers : Covers (has_bit p.shards) (row a.coming.value.row ∷ [])
      covers r k (inl e) st = is.bits k ∙ ap (λ (z : Coming R). stands_in k (row z.row)) (sym seen) ∙ ap (stands_in k) (sym e) ∙ st
      covers r k (inr h) st = absurd h

      first : IsFirstUse ss (row a.coming.value.row) (map (try_of row channel) a.next.value.items)
      first = subst (λ (z : Coming R). IsFirstUse ss (row z.row) (map (try_of row channel) a.next.value.items)) (sym seen) (subst (λ l. IsFirstUse ss (row coming.row) (map (try_of row channel) l)) (sym same) is.first)

      all : AllBecome part (has_bit p.shards) (arrives (new_row_of row channel a.coming.value) (map (try_of row channel) a.next.value.items)) old new
      all = subst (λ (z : Coming R). AllBecome part (has_bit p.shards) (arrives (new_row_of row channel z) (map (try_of row channel) a.next.value.items)) old new) (sym seen) (becomes (map (try_of row channel) a.next.value.items))
