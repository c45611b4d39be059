use Rattle.std.proofs.Common.{◌≡◌, ◌≢◌, ◌<◌, ◌≤◌, ◌+◌, ◌∙◌, ◌∷◌, [], List, Bool, ℕ, true, false, refl, sym, ap, subst, arith, length, length-append, get_or-set_other, ⊎_elim, None, Some, slice_index_or, set, le_refl, not-suc-le-zero}
use Rattle.std.specs.Prelude.{slice_get}
use mathlib.Core.Option.{some, some-injective}
use Rattle.hub_rule.specs.declared.slot.Slot.TheVariants.{Shard}
use mathlib.Core.Logic.{dite}
use native.Mathlib.Decide.{ℕ_discrete}
use lib.ListN.{get_elem?}
use Rattle.std.specs.Mem.Slots.{slots_filled, slots_counts}
use Rattle.hub_rule.proofs.Ends.{get_snoc, flag_down, found_at}
use Rattle.hub_slots.proofs.slots.take_shards.Goals as goal

-- nothing stands in an empty list
none-there : {T : Type 0} (xs : List T) (k : ℕ) (x : T) → xs ≡ [] → slice_get xs k ≡ Some x → ⊥
none-there xs k x e at = let q : None ≡ Some x = subst (λ l. slice_get l k ≡ Some x) e at in cc

-- a list that is not as long as its room has room for one more
has-room : (len long n room : ℕ) → len ≡ long → long ≡ n → n < 64 → 64 ≤ room → len < room
has-room len long n room a b lt fits = omega arith

-- what has a place below another number is below it
in-front : (n len : ℕ) → n < 64 → len ≡ 96 → n < len
in-front n len lt e = omega arith

-- a count from 0 that has reached 64 and not passed it is 64
at-end : (n : ℕ) → 64 ≤ n → n ≤ 64 → n ≡ 64
at-end n low high = omega arith

-- numbers from a number on are those from the next on, and itself
later : (fs gs : List Bool) (n : ℕ) → n < length fs → gs ≡ set fs n false → ((j : ℕ) → n ≤ j → j < 96 → slice_index_or fs j false ≡ true) → (j : ℕ) → n + 1 ≤ j → j < 96 → slice_index_or gs j false ≡ true
later fs gs n lt same there j low high = let ne : j ≢ n = (λ e. omega arith) in ap (λ l. slice_index_or l j false) same ∙ (get_or-set_other fs n j false false ne ∙ there j (omega arith) high)

-- and those below the next are those below a number, and itself
before : (fs gs : List Bool) (n : ℕ) → n < length fs → gs ≡ set fs n false → ((j : ℕ) → j < n → slice_index_or fs j false ≡ false) → (j : ℕ) → j < n + 1 → slice_index_or gs j false ≡ false
before fs gs n lt same gone j low = ap (λ l. slice_index_or l j false) same ∙ dite (ℕ_discrete j n)
    (λ e. flag_down fs n j lt e)
    (λ ne. get_or-set_other fs n j false false ne ∙ gone j (omega arith))

pub loop-number-init : goal.loop-number-init
loop-number-init g c = record {
  items = refl;
  len = c.requires.slots.0;
  there = λ j low high. c.requires.slots.1 j low (subst (λ n. j < n) (sym c.requires.slots.0) high);
  gone = λ j low. absurd (not-suc-le-zero low);
  count = ap length c.requires.room.0;
  room = c.requires.room.1;
  out = λ k x e. absurd (none-there c.args.out.items k x c.requires.room.0 e);
}

pub take-requires : goal.take-requires
take-requires g c =
    let i = c.loop-number.invariant in let n : ℕ = c.loop-number.number in let lt = c.loop-number-test.true in
    (in-front n _ lt i.len, i.there n (le_refl n) (in-front n 96 lt refl))

pub push_reserved-requires : goal.push_reserved-requires
push_reserved-requires g c = let i = c.loop-number.invariant in has-room _ _ c.loop-number.number _ c.loop-number.out.ok.0 i.count c.loop-number-test.true i.room

pub shard_of-requires : goal.shard_of-requires
shard_of-requires g c =
    let i = c.loop-number.invariant in let n : ℕ = c.loop-number.number in
    let h = c.requires.home n c.loop-number-test.true in
    let e = sym (ap (λ l. get_elem? l n) i.items ∙ h.1) ∙ c.take.ensures.value in
    (h.0, sym (some-injective (Shard (Some h.0)) c.take.result e))

pub loop-number-preserved : goal.loop-number-preserved
loop-number-preserved g c =
    let i = c.loop-number.invariant in let n : ℕ = c.loop-number.number in let lt = c.loop-number-test.true in
    let t = c.take.ensures in let p = c.push_reserved.ensures in
    let filled : slots_filled c.take.new.self.slots ≡ _ = t.others.1 in
    let old = slots_filled c.loop-number.closed.slots in
    let wide : n < length old = (let a = slots_counts c.loop-number.closed.slots in omega (arith, a.1, i.len, lt)) in
    record {
      items = t.others.0 ∙ i.items;
      len = t.others.2 ∙ i.len;
      there = later old _ n wide filled i.there;
      gone = before old _ n wide filled i.gone;
      count = let a = ap length p.items in let b = length-append c.loop-number.out.items (c.shard_of.result ∷ []) in let d = i.count in omega arith;
      room = let a = p.capacity in let b = i.room in omega arith;
      out = λ k x e. ⊎_elim (λ s. i.out k x s)
          (λ s. found_at (λ y. Shard (Some y)) _ _ n k _ c.shard_of.result x (sym i.items) (t.value ∙ ap some c.shard_of.ensures) s.0 i.count s.1)
          (get_snoc c.loop-number.out.items c.shard_of.result x k (ap (λ l. slice_get l k) (sym p.items) ∙ e));
    }

pub returns-clause-long : goal.returns-clause-long
returns-clause-long g c = c.loop-number.invariant.count ∙ at-end c.loop-number.number c.loop-number-test.false c.loop-number.auto.number-end

pub returns-clause-items : goal.returns-clause-items
returns-clause-items g c = c.loop-number.invariant.out

pub returns-clause-same : goal.returns-clause-same
returns-clause-same g c = c.loop-number.invariant.items

pub returns-clause-left : goal.returns-clause-left
returns-clause-left g c =
    let i = c.loop-number.invariant in let n : ℕ = c.loop-number.number in
    let e = at-end n c.loop-number-test.false c.loop-number.auto.number-end in
    (i.len, ((λ j low high. i.there j (subst (λ k. k ≤ j) (sym e) low) high), (λ j low. i.gone j (subst (λ k. j < k) (sym e) low))))
