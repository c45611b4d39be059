-- Turns by the set bits of a number.
use Rattle.std.proofs.Common.{◌≡◌, ◌≢◌, ℕ, zero, suc, ◌+◌, ◌-◌, ◌*◌, ◌/◌, ◌%◌, ◌^◌, ◌<◌, ◌≤◌, true, List, [], ◌∷◌, refl, sym, ap, subst, ◌∙◌, arith, ne_eqb, eqb, Option, Some, None, inl, inr, w64}
use Rattle.std.proofs.lemmas.Bool.{cases_eq}
use Rattle.std.proofs.lemmas.Nat.{and_le_l}
use Rattle.std.proofs.lemmas.Nat.Bits.{bit_at_lowest, bit_at-suc, bit_at-zero, bit_at_above, bit_at_clear_same, bit_at_clear_other, bit_at-trailing_zeros}
use Rattle.std.specs.Prelude.{bit_and}
use Rattle.std.specs.Int.{bit_at, bit_not, trailing_zeros}
use native.Mathlib.Nat.{pow-suc}
use mathlib.Core.Logic.{dite}
use native.Mathlib.Decide.{ℕ_discrete, dec_le}
use Rattle.atomic_table.specs.declared.shared.Seat.{Seat}
use Rattle.atomic_table.specs.Table.{rest}
use Rattle.hub_rule.specs.declared.slot.Slot.{Slot}
use Rattle.hub_rule.specs.declared.slot.Slot.TheVariants.{Shard}
use Rattle.hub_rule.specs.declared.view.View.{View}
use Rattle.hub_rule.specs.declared.view.Tally.{Tally}
use Rattle.hub_rule.specs.declared.view.Pile.{Pile}
use Rattle.hub_rule.specs.Counts.{one_if, count}
use Rattle.hub_rule.specs.Meaning.{Meaning, Follows}
use Rattle.hub_rule.specs.Rule.{view, Carries, emptied, below, descends, given_back, since_after}
use Rattle.hub_steps.proofs.Loops.{Taken, Taking, Giving, Returning}
use Rattle.hub_rule.proofs.Turns.{heads}
use Rattle.hub_steps.proofs.Groups.{below_head, below_none, below_on, below_less, taken_more, more_numbers, top_first, first_carried, at_top}

-- the number without the bit k
abbrev pub without : ℕ → ℕ → ℕ
without n k = bit_and n (bit_not w64 (1 * 2 ^ k % 2 ^ 64))

-- without a bit that is set the number is less, and has the other bits
pub less_without : (n k : ℕ) → k < 64 → bit_at n k ≡ 1 → without n k < n
less_without n k low set =
    let gone : bit_at (without n k) k ≡ 0 = bit_at_clear_same w64 n k low in
    elim (cases_eq (without n k) n) [
      | inl same ↦ absurd (let both : bit_at (without n k) k ≡ bit_at n k = ap (λ x. bit_at x k) same in omega arith)
      | inr other ↦ omega (arith, and_le_l n (bit_not w64 (1 * 2 ^ k % 2 ^ 64)))
    ]

-- the least bit that is set
pub least_bit : (n k : ℕ) → k ≡ trailing_zeros w64 n → 0 < n → n < 2 ^ 64 → (k < 64) × (bit_at n k ≡ 1) × ((i : ℕ) → i < k → bit_at n i ≡ 0)
least_bit n k is some fits =
    let P : ℕ → Type 0 = λ j. (j < 64) × (bit_at n j ≡ 1) × ((i : ℕ) → i < j → bit_at n i ≡ 0) in
    subst P (sym is) (bit_at-trailing_zeros w64 n some fits)

-- the greatest bit that is set
pub top_bit : (k n : ℕ) → 2 ^ k ≤ n → n < 2 * 2 ^ k → bit_at n k ≡ 1
top_bit zero n le lt = bit_at_lowest n ∙ (omega arith)
top_bit (suc k) n le lt = bit_at-suc n k ∙ top_bit k (n / 2) (omega (arith, pow-suc 2 k)) (omega (arith, pow-suc 2 k))

pub above_top : (k n j : ℕ) → n < 2 * 2 ^ k → k < j → bit_at n j ≡ 0
above_top k n j lt more = bit_at_above n (suc k) j (omega (arith, pow-suc 2 k)) (omega arith)

module _ {X : Type 0} where
  below_down : (d n : ℕ) (hs : List (ℕ × X)) → below (n + d) hs ≡ true → ((j : ℕ) → n ≤ j → j < n + d → count j hs ≡ 0) → below n hs ≡ true
  below_down zero n hs b z = let e : n + zero ≡ n = omega arith in subst (λ (k : ℕ). below k hs ≡ true) e b
  below_down (suc d) n hs b z =
      let e : n + suc d ≡ (n + d) + 1 = omega arith in
      below_down d n hs (below_less (n + d) hs (subst (λ (k : ℕ). below k hs ≡ true) e b) (z (n + d) (omega arith) (omega arith))) (λ j le lt. z j le (omega arith))

  -- all numbers are below n where none from n on is there
  pub below_last : (n bound : ℕ) (hs : List (ℕ × X)) → below bound hs ≡ true → ((j : ℕ) → n ≤ j → j < bound → count j hs ≡ 0) → below n hs ≡ true
  below_last n bound hs b z = dite (dec_le n bound)
      (λ le. let e : bound ≡ n + (bound - n) = omega arith in below_down (bound - n) n hs (subst (λ (k : ℕ). below k hs ≡ true) e b) (λ j from to. z j from (omega arith)))
      (λ nle. below_on bound n hs (omega arith) b)

  pub nothing_held : (hs : List (ℕ × X)) → below 0 hs ≡ true → hs ≡ []
  nothing_held [] b = refl
  nothing_held (p ∷ ps) b = absurd (let l = (below_head 0 p ps b).0 in omega arith)

module _ {Store E X W : Type 0} (m : Meaning Store E X W) where
  pub taking_first : (p : Seat (Slot X W) (View E X W)) (f : ℕ → Option X) (shards : ℕ) → p.me.0.held ≡ [] → p.me.0.since ≡ [] → p.me.1 ≡ [] → ((k : ℕ) → f k ≡ None) → Taking m p p f shards shards
  taking_first p f shards held since out none = record {
    next = 0;
    low = omega arith;
    taken = record {
      table = refl;
      id = refl;
      view = ap {A = List E} (λ es. view p.me.0.parts p.me.0.entries p.me.0.held es p.me.0.tally p.me.0.pile) since;
      out = out ∙ sym (ap {A = List (ℕ × X)} emptied held);
      below = ap {A = List (ℕ × X)} (λ l. below 0 l) held;
      falls = ap {A = List (ℕ × X)} descends held;
      carries = let P : List (ℕ × X) → Type 0 = λ l. Carries m [] l f in subst P (sym held) (tt, (λ k _. none k));
    };
    numbers = λ k lt. absurd (omega arith);
    done = λ k lt. absurd (omega arith);
    same = λ k from lt. refl;
  }

  -- up to the least bit that is left nothing is to be taken
  pub taking_up : (p q : Seat (Slot X W) (View E X W)) (f : ℕ → Option X) (shards left k : ℕ) → Taking m p q f shards left → k < 64 → bit_at left k ≡ 1 → ((i : ℕ) → i < k → bit_at left i ≡ 0)
      → Taken m p q f k × ((i : ℕ) → i < k → count i q.me.0.held ≡ bit_at shards i) × (bit_at shards k ≡ 1) × ((i : ℕ) → k < i → i < 64 → bit_at left i ≡ bit_at shards i)
  taking_up p q f shards left k t low set least =
      let le : t.next ≤ k = dite (dec_le t.next k) (λ l. l) (λ n. absurd (let z = t.done k (omega arith) in omega arith)) in
      let hs : List (ℕ × X) = q.me.0.held in
      let a = t.taken in (
        record { table = a.table; id = a.id; view = a.view; out = a.out; below = below_on t.next k hs le a.below; falls = a.falls; carries = a.carries },
        (λ i lt. dite (dec_le t.next i)
            (λ from. let z = below_none i hs (below_on t.next i hs from a.below) in let b = t.same i from (omega arith) in let c = least i lt in omega arith)
            (λ nle. t.numbers i (omega arith))),
        sym (t.same k le low) ∙ set,
        (λ i more lt. t.same i (omega arith) lt),
      )

  pub taking_more : (p q r : Seat (Slot X W) (View E X W)) (f f' : ℕ → Option X) (shards left k : ℕ) (x : X) → Taking m p q f shards left → k < 64 → bit_at left k ≡ 1 → ((i : ℕ) → i < k → bit_at left i ≡ 0)
      → r.table_id ≡ q.table_id → r.id ≡ q.id → r.me.0 ≡ view q.me.0.parts q.me.0.entries ((k, x) ∷ q.me.0.held) q.me.0.since q.me.0.tally q.me.0.pile → r.me.1 ≡ (k, Shard None) ∷ q.me.1
      → f' k ≡ Some x → ((j : ℕ) → j ≢ k → f' j ≡ f j) → Taking m p r f' shards (without left k)
  taking_more p q r f f' shards left k x t low set least table id me out here same =
      let u = taking_up p q f shards left k t low set least in
      let gone : bit_at (without left k) k ≡ 0 = bit_at_clear_same w64 left k low in
      let kept : (j : ℕ) → j < 64 → j ≢ k → bit_at (without left k) j ≡ bit_at left j = λ j lt ne. bit_at_clear_other w64 left k low j lt ne in
      record {
        next = k + 1;
        low = omega arith;
        taken = taken_more m p q r f f' k x u.0 table id me out here same;
        numbers = more_numbers (λ j. bit_at shards j) k x q.me.0.held r.me.0.held (ap {A = View E X W} (λ v. v.held) me) u.0.below u.1 u.2;
        done = λ j lt. dite (ℕ_discrete j k)
            (λ e. ap {A = ℕ} (λ i. bit_at (without left k) i) e ∙ gone)
            (λ ne. kept j (omega arith) ne ∙ least j (omega arith));
        same = λ j from lt. kept j lt (λ e. omega arith) ∙ u.3 j (omega arith) lt;
      }

  pub taking_end : (p q : Seat (Slot X W) (View E X W)) (f : ℕ → Option X) (shards left : ℕ) → Taking m p q f shards left → left ≡ 0 → Taken m p q f 64 × ((k : ℕ) → k < 64 → count k q.me.0.held ≡ bit_at shards k)
  taking_end p q f shards left t z =
      let hs : List (ℕ × X) = q.me.0.held in
      let a = t.taken in
      let none : (k : ℕ) → bit_at left k ≡ 0 = λ k. ap (λ (n : ℕ). bit_at n k) z ∙ bit_at-zero k in (
        record { table = a.table; id = a.id; view = a.view; out = a.out; below = below_on t.next 64 hs t.low a.below; falls = a.falls; carries = a.carries },
        (λ k lt. dite (dec_le t.next k)
            (λ from. let c = below_none k hs (below_on t.next k hs from a.below) in let b = t.same k from lt in let d = none k in omega arith)
            (λ nle. t.numbers k (omega arith))),
      )

  pub returning_first : (p : Seat (Slot X W) (View E X W)) (f : ℕ → Option X) (left : ℕ) → (p.me.0.held ≡ [] → p.me.0.since ≡ []) → p.me.1 ≡ emptied p.me.0.held → below 64 p.me.0.held ≡ true → descends p.me.0.held ≡ true
      → Carries m p.me.0.since p.me.0.held f → ((k : ℕ) → k < 64 → bit_at left k ≡ count k p.me.0.held) → Returning m p p f left
  returning_first p f left calm out low falls carries numbers = record {
    next = 64;
    low = omega arith;
    giving = record {
      table = refl;
      id = refl;
      parts = refl;
      entries = refl;
      tally = refl;
      pile = refl;
      since = kept_since p.me.0.held p.me.0.since calm;
      out = out;
      below = low;
      falls = falls;
      carries = carries;
    };
    numbers = numbers;
  }
    where
      kept_since : (hs : List (ℕ × X)) (es : List E) → (hs ≡ [] → es ≡ []) → es ≡ since_after hs es
      kept_since [] es calm = calm refl
      kept_since (h ∷ hs) es calm = refl

  -- the greatest turn that is left is held, and stands first
  pub giving_top : (p q : Seat (Slot X W) (View E X W)) (f : ℕ → Option X) (left k : ℕ) → Returning m p q f left → k < 64 → 2 ^ k ≤ left → left < 2 * 2 ^ k → Giving m p q f (k + 1) × (count k q.me.0.held ≡ 1)
  giving_top p q f left k t low le lt =
      let g = t.giving in let hs : List (ℕ × X) = q.me.0.held in
      let one : count k hs ≡ 1 = sym (t.numbers k low) ∙ top_bit k left le lt in
      let under : below (k + 1) hs ≡ true = below_last (k + 1) t.next hs g.below (λ j from to. let b = t.numbers j (let l = t.low in omega arith) in let z = above_top k left j lt (omega arith) in omega arith) in (
        record { table = g.table; id = g.id; parts = g.parts; entries = g.entries; tally = g.tally; pile = g.pile; since = g.since; out = g.out; below = under; falls = g.falls; carries = g.carries },
        one,
      )

  -- it is in hand
  pub is_carried : (p q : Seat (Slot X W) (View E X W)) (f : ℕ → Option X) (k : ℕ) → Giving m p q f (k + 1) → count k q.me.0.held ≡ 1 → f k ≡ None → ⊥
  is_carried p q f k g one none =
      let t = top_first k q.me.0.held g.below g.falls (omega arith) in
      let Q : List (ℕ × X) → Type 0 = λ l. Carries m q.me.0.since l f in
      let h = (subst Q t.2 g.carries).0.0 in let c : None ≡ Some h.0 = sym none ∙ h.1 in cc

  pub top_held : (p q : Seat (Slot X W) (View E X W)) (f : ℕ → Option X) (k : ℕ) (y : X) → Giving m p q f (k + 1) → f k ≡ Some y
      → (x : X) × (q.me.0.held ≡ (k, x) ∷ rest q.me.0.held) × Follows m q.me.0.since k x y
  top_held p q f k y g is =
      let t = first_carried m f q.me.0.since k y q.me.0.held g.below g.falls is g.carries in (t.0, heads q.me.0.held t.1 (k, t.0) t.2, t.5)

  pub returning_less : (p q r : Seat (Slot X W) (View E X W)) (f f' : ℕ → Option X) (left k : ℕ) (y : X) → Returning m p q f left → k < 64 → 2 ^ k ≤ left → left < 2 * 2 ^ k → f k ≡ Some y
      → r.table_id ≡ q.table_id → r.id ≡ q.id → r.me.0 ≡ given_back q.me.0 → r.me.1 ≡ emptied r.me.0.held → f' k ≡ None → ((j : ℕ) → j ≢ k → f' j ≡ f j) → Returning m p r f' (without left k)
  returning_less p q r f f' left k y t low le lt is table id me out here same =
      let u = giving_top p q f left k t low le lt in
      let h = top_held p q f k y u.0 is in
      let g = at_top m p q r f f' k y u.0 is table id me out here same in
      let held : r.me.0.held ≡ rest q.me.0.held = ap {A = View E X W} (λ v. v.held) me in
      let gone : bit_at (without left k) k ≡ 0 = bit_at_clear_same w64 left k low in
      record {
        next = k;
        low = omega arith;
        giving = g;
        numbers = λ j jt. dite (ℕ_discrete j k)
            (λ e. let c = below_none k r.me.0.held g.below in
            ap {A = ℕ} (λ i. bit_at (without left k) i) e ∙ (gone ∙ (sym c ∙ ap {A = ℕ} (λ i. count i r.me.0.held) (sym e))))
            (λ ne. let a = bit_at_clear_other w64 left k low j jt ne in let b = t.numbers j jt in let c = ap {A = List (ℕ × X)} (count j) h.1 in let d = ap {A = List (ℕ × X)} (count j) held in
            let e : one_if (eqb k j) ≡ 0 = ap one_if (ne_eqb k j (λ s. ne (sym s))) in omega arith);
      }

  pub returning_end : (p q : Seat (Slot X W) (View E X W)) (f : ℕ → Option X) (left : ℕ) → Returning m p q f left → left ≡ 0 → (q.me ≡ (view p.me.0.parts p.me.0.entries [] [] p.me.0.tally p.me.0.pile, [])) × ((k : ℕ) → f k ≡ None)
  returning_end p q f left t z =
      let g = t.giving in
      let none : (k : ℕ) → bit_at left k ≡ 0 = λ k. ap (λ (n : ℕ). bit_at n k) z ∙ bit_at-zero k in
      let held : q.me.0.held ≡ [] = nothing_held q.me.0.held (below_last 0 t.next q.me.0.held g.below (λ j from to. sym (t.numbers j (let l = t.low in omega arith)) ∙ none j)) in
      let since : q.me.0.since ≡ [] = g.since ∙ ap {A = List (ℕ × X)} (λ l. since_after l p.me.0.since) held in
      let out : q.me.1 ≡ [] = g.out ∙ ap {A = List (ℕ × X)} emptied held in
      let V : Type 0 = View E X W in
      let v : q.me.0 ≡ view p.me.0.parts p.me.0.entries [] [] p.me.0.tally p.me.0.pile =
      ap {A = ℕ} (λ n. view n q.me.0.entries q.me.0.held q.me.0.since q.me.0.tally q.me.0.pile) g.parts
      ∙ (ap {A = List (ℕ × E)} (λ l. view p.me.0.parts l q.me.0.held q.me.0.since q.me.0.tally q.me.0.pile) g.entries
      ∙ (ap {A = List (ℕ × X)} (λ l. view p.me.0.parts p.me.0.entries l q.me.0.since q.me.0.tally q.me.0.pile) held
      ∙ (ap {A = List E} (λ l. view p.me.0.parts p.me.0.entries [] l q.me.0.tally q.me.0.pile) since
      ∙ (ap {A = Tally E} (λ t. view p.me.0.parts p.me.0.entries [] [] t q.me.0.pile) g.tally
      ∙ ap {A = Pile E W} (λ t. view p.me.0.parts p.me.0.entries [] [] p.me.0.tally t) g.pile)))) in (
        ap {A = V} (λ u. (u, q.me.1)) v ∙ ap {A = List (ℕ × Slot X W)} (λ l. (view p.me.0.parts p.me.0.entries [] [] p.me.0.tally p.me.0.pile, l)) out,
        (λ k. g.carries.1 k (ap {A = List (ℕ × X)} (count k) held)),
      )
