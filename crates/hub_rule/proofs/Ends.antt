-- The end of a hub.
use Rattle.std.proofs.Common.{◌≡◌, ◌≢◌, ℕ, zero, suc, ◌+◌, ◌-◌, ◌*◌, ◌%◌, ◌^◌, ◌<◌, ◌≤◌, ◌⊎◌, Bool, true, false, List, [], ◌∷◌, ◌++◌, map, length, get_or, refl, sym, ap, subst, ◌∙◌, arith, take, drop, append_assoc, Option, Some, None, length-append, append-nil, ⊎_elim, inl, inr, set, get_or-set_same, max, eqb, eq-eqb, ne_eqb, nat_lt}
use Rattle.std.proofs.lemmas.Bool.Decides.{nat_tests}
use Rattle.std.specs.Prelude.{slice_get, IsSome}
use Rattle.std.specs.List.{All}
use Rattle.hub_rule.specs.declared.slot.Slot.{Slot}
use Rattle.hub_rule.specs.declared.slot.Slot.TheVariants.{Shard, Desk}
use Rattle.hub_rule.specs.declared.view.View.{View}
use Rattle.hub_rule.specs.declared.view.Tally.{Tally}
use Rattle.hub_rule.specs.declared.terms.Terms.{Terms}
use Rattle.hub_rule.specs.Counts.{one_if, once_below, count, total, things_of, Each, all_of, placed}
use mathlib.Core.Option.{some, some-injective, some-ne-none}
use mathlib.Core.Logic.{dite}
use native.Mathlib.Decide.{ℕ_discrete, dec_le}
use Rattle.std.proofs.Math.ListN.{length-set}
use Rattle.atomic_table.proofs.Lists.{set_here, set_else, at_map}
use Rattle.std.proofs.lemmas.List.{length-map}
use lib.ListN.{get_elem?}
use Rattle.atomic_table.specs.Table.{State, Me, Final, Seen}
use Rattle.hub_rule.specs.declared.terms.StopCause.{StopCause}
use Rattle.hub_rule.specs.declared.terms.StopCause.TheVariants.{Fault, NoMemory}
use Rattle.hub_rule.specs.Stops.{cause_at, FaultCause}
use Rattle.hub_rule.specs.Meaning.{Meaning, store_after, offered, Allowed, ArePending}
use Rattle.hub_rule.proofs.Sums.{empty_list, total_two, total_both, total_map, count_more, each_to, each_more, each_cut}
use Rattle.hub_rule.proofs.Offers.{one_at_most, things_both, length_things}
use Rattle.hub_rule.proofs.Piles.{at_piles}
use Rattle.hub_rule.proofs.Deals.{count_parts}
use Rattle.hub_rule.proofs.Counting.{total_short, nothing_left}
use Rattle.hub_rule.proofs.Lookups.{get_some, get_elem}
use Rattle.hub_rule.specs.Rule.{view, cost, emptied, FaultIn, HubRule, share_of, piles_of}
use Rattle.hub_rule.specs.Works.{hand, LiesOn}
use Rattle.hub_rule.specs.declared.view.Pile.{Pile}

module _ {A : Type 0} where
  pub all_tail : (P : A → Type 0) (xs ys : List A) (x : A) → xs ≡ x ∷ ys → All P xs → P x × All P ys
  all_tail P xs ys x e all = let Q : List A → Type 0 = λ l. All P l in let a : All P (x ∷ ys) = subst Q e all in (a 0 x (omega arith), λ k d lt. a (suc k) d (omega arith))

  pub all_of_split : {B : Type 0} (f : A → List B) (xs ys : List A) (x : A) → xs ≡ x ∷ ys → all_of f xs ≡ f x ++ all_of f ys
  all_of_split f xs ys x e = ap {A = List A} (λ l. all_of f l) e

  pub all_of_snoc : {B : Type 0} (f : A → List B) (xs : List A) (x : A) → all_of f (xs ++ x ∷ []) ≡ all_of f xs ++ f x
  all_of_snoc f [] x = append-nil (f x)
  all_of_snoc f (y ∷ ys) x = ap {A = List _} (λ l. f y ++ l) (all_of_snoc f ys x) ∙ sym (append_assoc (f y) (all_of f ys) (f x))

-- no slot is out where no shard is held
pub out_of : {X W : Type 0} (held : List (ℕ × X)) (out : List (ℕ × Slot X W)) → held ≡ [] → out ≡ emptied held → out ≡ []
out_of {X} {W} held out e f = f ∙ ap {A = List (ℕ × X)} emptied e

module _ {A : Type 0} where
  total_none : (f : A → ℕ) (xs : List A) → ((j : ℕ) (u : A) → get_elem? xs j ≡ some u → f u ≡ 0) → total f xs ≡ 0
  total_none f [] all = refl
  total_none f (x ∷ xs) all = let z : f x ≡ 0 = all 0 x refl in let r = total_none f xs (λ j. all (suc j)) in omega arith

  -- where all others have none
  pub total_one : (f : A → ℕ) (xs : List A) (i : ℕ) (v : A) → get_elem? xs i ≡ some v → ((j : ℕ) (u : A) → get_elem? xs j ≡ some u → j ≢ i → f u ≡ 0) → total f xs ≡ f v
  total_one f [] i v at rest = absurd (some-ne-none v (sym at))
  total_one f (x ∷ xs) zero v at rest = let e = ap f (some-injective x v at) in let z = total_none f xs (λ j u bt. rest (suc j) u bt (λ h. omega arith)) in omega arith
  total_one f (x ∷ xs) (suc i) v at rest = let z : f x ≡ 0 = rest 0 x refl (λ h. omega arith) in let r = total_one f xs i v at (λ j u bt ne. rest (suc j) u bt (λ h. ne (omega arith))) in omega arith

pub get_snoc : {A : Type 0} (xs : List A) (x y : A) (k : ℕ) → slice_get (xs ++ x ∷ []) k ≡ Some y → (slice_get xs k ≡ Some y) ⊎ ((k ≡ length xs) × (x ≡ y))
get_snoc [] x y zero e = inr (refl, (let q : Some x ≡ Some y = e in cc))
get_snoc [] x y (suc k) e = absurd (let q : None ≡ Some y = e in cc)
get_snoc (z ∷ xs) x y zero e = inl e
get_snoc (z ∷ xs) x y (suc k) e = ⊎_elim (λ s. inl s) (λ s. inr (ap suc s.0, s.1)) (get_snoc xs x y k e)

-- a flag that was taken down is down, at an equal number
pub flag_down : (l : List Bool) (n j : ℕ) → n < length l → j ≡ n → get_or (set l n false) j false ≡ false
flag_down l n j lt e = let P : ℕ → Type 0 = λ i. get_or (set l n false) i false ≡ false in subst P (sym e) (get_or-set_same l n false false lt)

pub found_at : {A S : Type 0} (f : A → S) (items before : List S) (n k m : ℕ) (a x : A) → items ≡ before → get_elem? before n ≡ some (f a) → k ≡ m → m ≡ n → a ≡ x → get_elem? items k ≡ some (f x)
found_at {A} {S} f items before n k m a x e at ke me ax =
    let P : ℕ → Type 0 = λ i. get_elem? items i ≡ some (f a) in
    let Q : A → Type 0 = λ y. get_elem? items k ≡ some (f y) in
    let there : get_elem? items n ≡ some (f a) = ap {A = List S} (λ l. get_elem? l n) e ∙ at in
    subst Q ax (subst P (sym (ke ∙ me)) there)

-- the item at a place within the list
pub there_at : {A : Type 0} (xs : List A) (k : ℕ) → k < length xs → (x : A) × (get_elem? xs k ≡ some x)
there_at [] k lt = absurd (omega arith)
there_at (x ∷ xs) zero lt = (x, refl)
there_at (x ∷ xs) (suc k) lt = there_at xs k (omega arith)

module _ {A : Type 0} where
  -- one list more
  pub front_more : (ls : List (List A)) (k : ℕ) (l : List A) → get_elem? ls k ≡ some l → all_of (λ x. x) (take (suc k) ls) ≡ all_of (λ x. x) (take k ls) ++ l
  front_more [] k l e = absurd (some-ne-none l (sym e))
  front_more (x ∷ xs) zero l e = append-nil x ∙ some-injective x l e
  front_more (x ∷ xs) (suc k) l e = ap {A = List A} (λ t. x ++ t) (front_more xs k l e) ∙ sym (append_assoc x (all_of (λ y. y) (take k xs)) l)

  pub front_fits : (ls : List (List A)) (k : ℕ) (l : List A) → get_elem? ls k ≡ some l → length (all_of (λ x. x) (take k ls)) + length l ≤ length (all_of (λ x. x) ls)
  front_fits [] k l e = absurd (some-ne-none l (sym e))
  front_fits (x ∷ xs) zero l e = let q = ap {A = List A} length (some-injective x l e) in let a = length-append x (all_of (λ y. y) xs) in omega arith
  front_fits (x ∷ xs) (suc k) l e = let r = front_fits xs k l e in let a = length-append x (all_of (λ y. y) xs) in let b = length-append x (all_of (λ y. y) (take k xs)) in omega arith

  take_none : (k : ℕ) → take {A = List A} k [] ≡ []
  take_none zero = refl
  take_none (suc k) = refl

  pub front_all : (ls : List (List A)) (k : ℕ) → length ls ≡ k → take k ls ≡ ls
  front_all [] k e = take_none k
  front_all (x ∷ xs) zero e = absurd (omega arith)
  front_all (x ∷ xs) (suc k) e = ap (λ t. x ∷ t) (front_all xs k (omega arith))

pub within : {A : Type 0} (xs : List A) (k : ℕ) (x : A) → slice_get xs k ≡ Some x → k < length xs
within [] k x e = absurd (let q : None ≡ Some x = e in cc)
within (y ∷ ys) zero x e = omega arith
within (y ∷ ys) (suc k) x e = let r = within ys k x e in omega arith

each_lists : {A : Type 0} (P : ℕ → A → Type 0) (ls : List (List (ℕ × A))) → ((d : ℕ) (l : List (ℕ × A)) → get_elem? ls d ≡ some l → Each P l) → Each P (all_of (λ l. l) ls)
each_lists P [] h = tt
each_lists P (l ∷ ls) h = each_more P l (all_of (λ x. x) ls) (h 0 l refl) (each_lists P ls (λ d. h (suc d)))

pub record AtEnd {Store E X W : Type 0} (m : Meaning Store E X W) (opened : List X × List W) (terms : Terms) (entries : List (ℕ × E)) (t : Tally E) (p : Pile E W) (words : List ℕ) (slots : List (Slot X W)) : Type 0 where
  pub store : Store
  pub log : List (ℕ × E)
  pub opens : (k : ℕ) (x : X) → slice_get opened.0 k ≡ Some x → m.projects store k x
  pub starts : m.opens store opened.1
  pub legal : Allowed m store opened.1 log
  pub long : length entries ≡ length (things_of log)
  pub numbers : Each (λ n e. slice_get (things_of log) n ≡ Some e) entries
  pub once : (n : ℕ) → count n entries ≡ once_below n (length (things_of log))
  pub home : (k : ℕ) → k < 64 → (x : X) × (get_elem? slots k ≡ some (Shard (Some x))) × m.projects (store_after m store (things_of log)) k x
  pub paid : get_or words 1 0 ≡ terms.spent + (cost m.price t.settled + cost m.price t.fresh)
  pub bounded : terms.spent + cost m.price t.settled ≤ max terms.spent terms.limit
  pub over : 0 < t.over → terms.limit < get_or words 1 0
  pub cause : (get_or words 2 0 ≡ 0) ⊎ ((get_or words 2 0 ≡ 1) ⊎ ((get_or words 2 0 ≡ 2) × FaultIn m.faults (things_of log)))
  pub no_memory : 0 < t.no_memory → get_or words 2 0 ≡ 1
  pub fault : 0 < t.fault → get_or words 2 0 ≡ 2
  pub desks : List (List (ℕ × W))
  pub many : length desks ≡ 32
  pub lies : (d : ℕ) → d < 32 → (v : _) × (ps : List (ℕ × W)) × (get_elem? slots (d + 64) ≡ some (Desk v)) × (get_elem? desks d ≡ some ps) × (v.items ≡ things_of ps)
  pub pends : ArePending m opened.1 log (all_of (λ l. l) desks ++ hand p)
  pub moved : total length desks + p.fetched ≡ length opened.1 + p.left
  pub small : total length desks ≤ 2 ^ 63
  pub empty : 0 < p.empty → (total length desks ≡ 0) × (length (hand p) ≡ 0)

module _ {Store E X W : Type 0} (m : Meaning Store E X W) (opened : List X × List W) (terms : Terms) (id : ℕ) (v : View E X W) (s : State (Slot X W) (View E X W)) (b : HubRule m opened terms s) (at : get_elem? s.views id ≡ some v) (part : v.parts ≡ 32 * terms.seats) where
  -- all others have no part
  none_left : (j : ℕ) (u : View E X W) → get_elem? s.views j ≡ some u → j ≢ id → u.parts ≡ 0
  none_left j u bt ne = let t = total_two (λ (y : View E X W). y.parts) s.views j id u v bt at ne in let p = b.draws.parts in omega arith

  none_else : (j : ℕ) (y : ℕ × Pile E W) → get_elem? (piles_of s.views) j ≡ some y → j ≢ id → y.0 ≡ 0
  none_else j y bt ne =
      let t = total_two (λ (y : ℕ × Pile E W). y.0) (piles_of s.views) j id y (v.parts, v.pile) bt (at_piles s.views id v at) ne in
      let q = total_map (λ (y : ℕ × Pile E W). y.0) (share_of {E = E} {X = X} {W = W}) s.views in let p = b.draws.parts in omega arith

  no_hand : (j : ℕ) (y : ℕ × Pile E W) → get_elem? (piles_of s.views) j ≡ some y → j ≢ id → hand y.1 ≡ []
  no_hand j y bt ne = let z = none_else j y bt ne in let f = b.pending.few j y bt in let r : y.0 * (2 ^ 52 + 2) ≡ 0 = ap {A = ℕ} (λ n. n * (2 ^ 52 + 2)) z in empty_list (hand y.1) (omega arith)

  -- the turns of all desks are free
  free_desk : v.pile.desk ≡ [] → (d : ℕ) → d < 32 → get_or s.words (d * 8 + 528) 0 ≡ 0
  free_desk none d lt =
      b.places.turn d lt ∙ (total_one (λ (y : ℕ × Pile E W). count d y.1.desk) (piles_of s.views) id (v.parts, v.pile) (at_piles s.views id v at)
      (λ j y bt ne. ap {A = List (ℕ × List (ℕ × W))} (count d) (b.places.idle j y bt (none_else j y bt ne))) ∙ ap {A = List (ℕ × List (ℕ × W))} (count d) none)

  -- what lies on desks and what is in hand is what is pending
  pends_at : ArePending m opened.1 b.log (all_of (λ l. l) b.desks ++ hand v.pile)
  pends_at =
      let O : ℕ → W → Type 0 = λ i u. get_elem? (offered m opened.1 b.log) i ≡ some u in
      let S : ℕ → W → Type 0 = λ i u. slice_get (offered m opened.1 b.log) i ≡ Some u in
      let at' = at_piles s.views id v at in (
        each_to O S (λ i u o. get_some (offered m opened.1 b.log) i u o) (all_of (λ l. l) b.desks ++ hand v.pile) (each_more O (all_of (λ l. l) b.desks) (hand v.pile) (each_lists O b.desks b.works.on_desk) (b.works.in_hand id (v.parts, v.pile) at')),
        (λ i. let a = count_more i (all_of (λ l. l) b.desks) (hand v.pile) in let c = count_parts i b.desks in
            let d = total_one (λ (y : ℕ × Pile E W). count i (hand y.1)) (piles_of s.views) id (v.parts, v.pile) at' (λ j y bt ne. ap {A = List (ℕ × W)} (count i) (no_hand j y bt ne)) in
            let e = b.works.once i in omega arith),
      )

  -- what the last state says, where one seat has every part
  pub final : (slots : List (Slot X W)) → v.held ≡ [] → v.pile.desk ≡ [] → ((k : ℕ) (y : Slot X W) → get_elem? s.homes k ≡ some (some y) → get_elem? slots k ≡ some y) → AtEnd m opened terms v.entries v.tally v.pile s.words slots
  final slots free off slot =
      let at' = at_piles s.views id v at in
      let no_mine : (j : ℕ) (u : View E X W) → get_elem? s.views j ≡ some u → j ≢ id → length u.entries ≡ 0 = λ j u bt ne. (let z = none_left j u bt ne in let q = b.draws.small j u bt in let r : u.parts * 2 ^ 53 ≡ 0 = ap {A = ℕ} (λ p. p * 2 ^ 53) z in omega arith) in
      let no_count : (n j : ℕ) (u : View E X W) → get_elem? s.views j ≡ some u → j ≢ id → count n u.entries ≡ 0 = λ n j u bt ne. ap {A = List (ℕ × E)} (count n) (empty_list u.entries (no_mine j u bt ne)) in
      let no_held : (k j : ℕ) (u : View E X W) → get_elem? s.views j ≡ some u → j ≢ id → count k u.held ≡ 0 = λ k j u bt ne. ap {A = List (ℕ × X)} (count k) (b.turns.idle j u bt (none_left j u bt ne)) in
      let none_paid : (j : ℕ) (u : View E X W) → get_elem? s.views j ≡ some u → j ≢ id → cost m.price u.tally.settled + cost m.price u.tally.fresh ≡ 0 = λ j u bt ne. b.charges.idle j u bt (none_left j u bt ne) in
      let fresh_one : total (λ (y : View E X W). cost m.price y.tally.fresh) s.views ≡ cost m.price v.tally.fresh = total_one (λ (y : View E X W). cost m.price y.tally.fresh) s.views id v at (λ j u bt ne. let z = none_paid j u bt ne in omega arith) in
      let paid : get_or s.words 1 0 ≡ terms.spent + (cost m.price v.tally.settled + cost m.price v.tally.fresh) = (let a = total_one (λ (y : View E X W). cost m.price y.tally.settled + cost m.price y.tally.fresh) s.views id v at none_paid in let c = b.charges.paid in omega arith) in
      record {
        store = b.store;
        log = b.log;
        opens = λ k x e. b.opens k x (get_elem opened.0 k x e);
        starts = b.starts;
        legal = b.legal;
        long = sym (total_one (λ (y : View E X W). length y.entries) s.views id v at no_mine) ∙ b.draws.sums;
        numbers = each_to (λ n e. get_elem? (things_of b.log) n ≡ some e) (λ n e. slice_get (things_of b.log) n ≡ Some e) (λ n e h. get_some (things_of b.log) n e h) v.entries (b.draws.numbers id v at);
        once = λ n. sym (total_one (λ (y : View E X W). count n y.entries) s.views id v at (no_count n)) ∙ b.draws.once n;
        home = λ k lt.
            let zero_held : count k v.held ≡ 0 = ap {A = List (ℕ × X)} (count k) free in
            let word = b.turns.turn k lt ∙ (total_one (λ (y : View E X W). count k y.held) s.views id v at (no_held k) ∙ zero_held) in
            let h = b.turns.home k lt word in (h.0, slot k (Shard (Some h.0)) h.1, h.2);
        paid = paid;
        bounded = let a = fresh_one in let c = b.charges.passed in omega arith;
        over = b.charges.over id v at;
        cause = b.stops.cause;
        no_memory = b.stops.no_memory id v at;
        fault = b.stops.fault id v at;
        desks = b.desks;
        many = b.places.many;
        lies = λ d lt. let h = b.places.home d lt (free_desk off d lt) in (h.0, h.1, slot (d + 64) (Desk h.0) h.2, h.3, h.4);
        pends = pends_at;
        moved = let a = total_one (λ (y : ℕ × Pile E W). y.1.fetched) (piles_of s.views) id (v.parts, v.pile) at' (λ j y bt ne. let i = b.pending.idle j y bt (none_else j y bt ne) in omega arith) in let c = total_one (λ (y : ℕ × Pile E W). y.1.left) (piles_of s.views) id (v.parts, v.pile) at' (λ j y bt ne. let i = b.pending.idle j y bt (none_else j y bt ne) in omega arith) in let d = b.pending.moved in omega arith;
        small = let a = total_short (2 ^ 58) b.desks b.pending.short in let c = b.places.many in omega arith;
        empty = λ more. nothing_left (length opened.1) (get_or s.words 520 0) b.desks (piles_of s.views) id v.parts v.pile at' b.pending (b.pending.empty id (v.parts, v.pile) at' more);
      }

pub at_end : {Store E X W : Type 0} (m : Meaning Store E X W) (opened : List X × List W) (terms : Terms) (id n : ℕ) (me : Me (Slot X W) (View E X W)) (all : List (ℕ × E)) (t : Tally E) (p : Pile E W) (words : List ℕ) (slots : List (Slot X W))
    → Final (Seen (HubRule m opened terms) id me.0) words slots → me ≡ (view (32 * n) all [] [] t p, []) → p.desk ≡ [] → n ≡ terms.seats → AtEnd m opened terms all t p words slots
at_end {E = E} {X = X} {W = W} m opened terms id n me all t p words slots f is off count_is =
    let v : View E X W = view (32 * n) all [] [] t p in
    let same : me.0 ≡ v = ap {A = Me (Slot X W) (View E X W)} (λ q. q.0) is in
    let b = f.1.0 in
    let at : get_elem? f.0.views id ≡ some v = f.1.1 ∙ ap {A = View E X W} some same in
    let P : List ℕ → Type 0 = λ ws. AtEnd m opened terms all t p ws slots in
    subst P f.2 (final m opened terms id v f.0 b at (ap {A = ℕ} (λ k. 32 * k) count_is) slots refl off f.4)

pub shown_all : {Store E X W : Type 0} (m : Meaning Store E X W) (opened : List X × List W) (terms : Terms) (all : List (ℕ × E)) (t : Tally E) (p : Pile E W) (words : List ℕ) (slots : List (Slot X W)) (out : List X) (a : AtEnd m opened terms all t p words slots) → length out ≡ 64
    → ((k : ℕ) (x : X) → slice_get out k ≡ Some x → get_elem? slots k ≡ some (Shard (Some x))) → (k : ℕ) (x : X) → slice_get out k ≡ Some x → m.projects (store_after m a.store (things_of a.log)) k x
shown_all {X = X} {W = W} m opened terms all t p words slots out a long items k x e =
    let h = a.home k (let b = within out k x e in omega arith) in
    let here : Slot X W = Shard (Some h.0) in let there : Slot X W = Shard (Some x) in let q : here ≡ there = some-injective (Shard (Some h.0)) (Shard (Some x)) (sym h.1 ∙ items k x e) in
    let same : h.0 ≡ x = cc in
    let P : X → Type 0 = λ y. m.projects (store_after m a.store (things_of a.log)) k y in subst P same h.2

below_is : (n len : ℕ) → n < len → once_below n len ≡ 1
below_is n len lt = let b : nat_lt n len ≡ true = grind (arith, nat_tests) in ap one_if b

above_is : (n len : ℕ) → len ≤ n → once_below n len ≡ 0
above_is n len le = let b : nat_lt n len ≡ false = grind (arith, nat_tests) in ap one_if b

module _ {T : Type 0} where
  pub placed_both : (rows : List (Option T)) (ps qs : List (ℕ × T)) → placed rows (ps ++ qs) ≡ placed (placed rows ps) qs
  placed_both rows [] qs = refl
  placed_both rows (p ∷ ps) qs = placed_both (set rows p.0 (Some p.1)) ps qs

  pub length_placed : (rows : List (Option T)) (ps : List (ℕ × T)) → length (placed rows ps) ≡ length rows
  length_placed rows [] = refl
  length_placed rows (p ∷ ps) = length_placed (set rows p.0 (Some p.1)) ps ∙ length-set rows p.0 (Some p.1)

  -- what stands at a number that doesn't come again stays
  pub placed_stays : (rows : List (Option T)) (ps : List (ℕ × T)) (n : ℕ) → count n ps ≡ 0 → get_elem? (placed rows ps) n ≡ get_elem? rows n
  placed_stays rows [] n z = refl
  placed_stays rows (p ∷ ps) n z =
      let apart : n ≢ p.0 = (λ e. let q : one_if (eqb p.0 n) ≡ 1 = ap one_if (eq-eqb p.0 n (sym e)) in omega arith) in
      placed_stays (set rows p.0 (Some p.1)) ps n (omega arith) ∙ set_else rows p.0 n (Some p.1) apart

  -- each thing stands at its number, where each number comes once at most
  pub placed_each : (rows : List (Option T)) (ps : List (ℕ × T)) → ((n : ℕ) → count n ps ≤ 1) → ((n : ℕ) → length rows ≤ n → count n ps ≡ 0) → Each (λ n x. get_elem? (placed rows ps) n ≡ some (Some x)) ps
  placed_each rows [] once within = tt
  placed_each rows (p ∷ ps) once within =
      let here : one_if (eqb p.0 p.0) ≡ 1 = ap one_if (eq-eqb p.0 p.0 refl) in
      let low : p.0 < length rows = dite (dec_le (length rows) p.0) (λ le. absurd (let w = within p.0 le in omega arith)) (λ nle. omega arith) in
      let alone : count p.0 ps ≡ 0 = (let o = once p.0 in omega arith) in
      let long : length (set rows p.0 (Some p.1)) ≡ length rows = length-set rows p.0 (Some p.1) in (
        placed_stays (set rows p.0 (Some p.1)) ps p.0 alone ∙ set_here rows p.0 (Some p.1) low,
        placed_each (set rows p.0 (Some p.1)) ps (λ n. let o = once n in omega arith) (λ n le. let w = within n (omega arith) in omega arith),
      )

  -- a number that comes is some thing's
  pub thing_at : (P : ℕ → T → Type 0) (ps : List (ℕ × T)) (n : ℕ) → 0 < count n ps → Each P ps → (x : T) × P n x
  thing_at P [] n c h = absurd (omega arith)
  thing_at P ((k, x) ∷ ps) n c h = dite (ℕ_discrete k n)
      (λ e. let Q : ℕ → Type 0 = λ i. P i x in (x, subst Q e h.0))
      (λ ne. let z : one_if (eqb k n) ≡ 0 = ap one_if (ne_eqb k n ne) in thing_at P ps n (omega arith) h.1)

  here_at : (pre rest : List T) (y : T) → slice_get (pre ++ y ∷ rest) (length pre) ≡ Some y
  here_at [] rest y = refl
  here_at (x ∷ xs) rest y = here_at xs rest y

  pub at_split : (pre rest : List T) (y : T) (all : List T) → pre ++ y ∷ rest ≡ all → slice_get all (length pre) ≡ Some y
  at_split pre rest y all e = let P : List T → Type 0 = λ l. slice_get l (length pre) ≡ Some y in subst P e (here_at pre rest y)

  pub get_unmap : (xs : List T) (n : ℕ) (x : T) → get_elem? (map (λ (t : T). Some t) xs) n ≡ some (Some x) → slice_get xs n ≡ Some x
  get_unmap [] n x e = absurd (some-ne-none (Some x) (sym e))
  get_unmap (y ∷ ys) zero x e = some-injective (Some y) (Some x) e
  get_unmap (y ∷ ys) (suc n) x e = get_unmap ys n x e

  pub each_placed : (rows : List (Option T)) (ps : List (ℕ × T)) → ((n : ℕ) → count n ps ≡ once_below n (length rows)) → Each (λ n x. get_elem? (placed rows ps) n ≡ some (Some x)) ps
  each_placed rows ps once = placed_each rows ps (λ n. let a = once n in let b = one_at_most (nat_lt n (length rows)) in omega arith) (λ n le. once n ∙ above_is n (length rows) le)

  pub within_all : (rows : List (Option T)) (ps : List (ℕ × T)) → ((n : ℕ) → count n ps ≡ once_below n (length rows)) → (n : ℕ) → length rows ≤ n → count n ps ≡ 0
  within_all rows ps once n le = once n ∙ above_is n (length rows) le

  pub full_at : (rows : List (Option T)) (ps : List (ℕ × T)) → ((n : ℕ) → count n ps ≡ once_below n (length rows)) → (k : ℕ) → k < length (placed rows ps) → (x : T) × (slice_get (placed rows ps) k ≡ Some (Some x))
  full_at rows ps once k lt =
      let long = length_placed rows ps in
      let one : once_below k (length rows) ≡ 1 = below_is k (length rows) (omega arith) in
      let c = once k in
      let h = thing_at (λ n x. get_elem? (placed rows ps) n ≡ some (Some x)) ps k (omega arith) (each_placed rows ps once) in
      (h.0, get_some (placed rows ps) k (Some h.0) h.1)

same_list : {T : Type 0} (xs ys : List T) → length xs ≡ length ys → ((n : ℕ) → n < length xs → slice_get xs n ≡ slice_get ys n) → xs ≡ ys
same_list [] [] e h = refl
same_list [] (y ∷ ys) e h = absurd (omega arith)
same_list (x ∷ xs) [] e h = absurd (omega arith)
same_list {T} (x ∷ xs) (y ∷ ys) e h =
    let q : Some x ≡ Some y = h 0 (omega arith) in
    let head : x ≡ y = cc in
    let tail : xs ≡ ys = same_list xs ys (omega arith) (λ n lt. h (suc n) (omega arith)) in cc

each_two : {T : Type 0} (P Q : ℕ → T → Type 0) (ps : List (ℕ × T)) → Each P ps → Each Q ps → Each (λ n x. P n x × Q n x) ps
each_two P Q [] h k = tt
each_two P Q (p ∷ ps) h k = ((h.0, k.0), each_two P Q ps h.1 k.1)

-- two lists that agree with the same numbered things, of which each number comes once
pub same_things : {T : Type 0} (xs ys : List T) (all : List (ℕ × T)) → length xs ≡ length all → length all ≡ length ys → ((n : ℕ) → count n all ≡ once_below n (length ys))
    → Each (λ n x. slice_get xs n ≡ Some x) all → Each (λ n x. slice_get ys n ≡ Some x) all → ys ≡ xs
same_things {T} xs ys all lx ly once ex ey = same_list ys xs (omega arith) (λ n lt.
    let c = once n in let o = below_is n (length ys) lt in
    let h = thing_at (λ n x. (slice_get xs n ≡ Some x) × (slice_get ys n ≡ Some x)) all n (omega arith) (each_two (λ n x. slice_get xs n ≡ Some x) (λ n x. slice_get ys n ≡ Some x) all ex ey) in h.1.1 ∙ sym h.1.0)

pub each_of : {A T : Type 0} (P : ℕ → T → Type 0) (f : A → List (ℕ × T)) (xs : List A) → Each P (all_of f xs) → All (λ x. Each P (f x)) xs
each_of P f [] h k d lt = absurd (omega arith)
each_of P f (x ∷ xs) h zero d lt = (each_cut P (f x) (all_of f xs) h).0
each_of P f (x ∷ xs) h (suc k) d lt = each_of P f xs (each_cut P (f x) (all_of f xs) h).1 k d (omega arith)

pub total_all_of : {A B : Type 0} (g : B → ℕ) (f : A → List B) (xs : List A) → total g (all_of f xs) ≡ total (λ x. total g (f x)) xs
total_all_of g f [] = refl
total_all_of g f (x ∷ xs) = total_both g (f x) (all_of f xs) ∙ ap (λ (n : ℕ). total g (f x) + n) (total_all_of g f xs)

pub total_plus : {A : Type 0} (f g : A → ℕ) (xs : List A) → total (λ x. f x + g x) xs ≡ total f xs + total g xs
total_plus f g [] = refl
total_plus f g (x ∷ xs) = let r = total_plus f g xs in omega arith

-- what all charged entries cost
pub charged_total : {A E : Type 0} (price : E → ℕ) (f g : A → List (ℕ × E)) (xs : List A) → cost price (all_of f xs) + cost price (all_of g xs) ≡ total (λ x. cost price (f x ++ g x)) xs
charged_total price f g [] = refl
charged_total price f g (x ∷ xs) =
    let r = charged_total price f g xs in
    let a = total_both (λ p. price p.1) (f x) (all_of f xs) in let c = total_both (λ p. price p.1) (g x) (all_of g xs) in let d = total_both (λ p. price p.1) (f x) (g x) in omega arith

-- a stop for a fault has an entry that is one
pub fault_told : {E : Type 0} (faults : E → Bool) (log : List E) (word : ℕ) (stop : Option StopCause) → stop ≡ cause_at word
    → ((word ≡ 0) ⊎ ((word ≡ 1) ⊎ ((word ≡ 2) × FaultIn faults log))) → FaultCause faults stop log
fault_told faults log word stop is c fault = ⊎_elim
    (λ z. absurd (let q : None ≡ Some Fault = sym (is ∙ ap cause_at z) ∙ fault in cc))
    (λ r. ⊎_elim (λ o. absurd (let q : Some NoMemory ≡ Some Fault = sym (is ∙ ap cause_at o) ∙ fault in cc)) (λ t. (t.1.0, t.1.1, get_some log t.1.0 t.1.1 t.1.2, t.1.3)) r) c

-- where a seat found the hub to stop, there is a cause
pub stop_is : (no_memory fault word : ℕ) (stop : Option StopCause) → stop ≡ cause_at word → (0 < no_memory → word ≡ 1) → (0 < fault → word ≡ 2) → 0 < no_memory + fault → IsSome stop
stop_is no_memory fault word stop is one two more =
    let P : ℕ → Type 0 = λ n. IsSome (cause_at n) in
    subst (λ (o : Option StopCause). IsSome o) (sym is) (dite (dec_le 1 no_memory) (λ le. subst P (sym (one (omega arith))) refl) (λ nle. subst P (sym (two (omega arith))) refl))

-- what follows from a sum follows from each part
pub some_of : {A : Type 0} (f : A → ℕ) (P : Type 0) (xs : List A) → (0 < total f xs → P) → All (λ x. 0 < f x → P) xs
some_of f P [] h k d lt = absurd (omega arith)
some_of f P (x ∷ xs) h zero d lt = λ more. h (omega arith)
some_of f P (x ∷ xs) h (suc k) d lt = some_of f P xs (λ more. h (omega arith)) k d (omega arith)

-- the word that was found
pub word_is : (words : List ℕ) (i n : ℕ) → get_elem? words i ≡ some n → get_or words i 0 ≡ n
word_is [] i n e = absurd (some-ne-none n (sym e))
word_is (w ∷ ws) zero n e = some-injective w n e
word_is (w ∷ ws) (suc i) n e = word_is ws i n e

pub length_all_of : {A T : Type 0} (f : A → List T) (xs : List A) → length (all_of f xs) ≡ total (λ x. length (f x)) xs
length_all_of f [] = refl
length_all_of f (x ∷ xs) = length-append (f x) (all_of f xs) ∙ ap (λ (n : ℕ). length (f x) + n) (length_all_of f xs)

-- the works on all desks, one desk after another
pub things_of_lists : {A : Type 0} (ls : List (List (ℕ × A))) → things_of (all_of (λ l. l) ls) ≡ all_of (λ l. l) (map things_of ls)
things_of_lists [] = refl
things_of_lists {A} (l ∷ ls) = things_both l (all_of (λ x. x) ls) ∙ ap {A = List A} (λ k. things_of l ++ k) (things_of_lists ls)

pub length_lists : {A : Type 0} (ls : List (List (ℕ × A))) → length (all_of (λ l. l) (map things_of ls)) ≡ total length ls
length_lists [] = refl
length_lists (l ∷ ls) = length-append (things_of l) (all_of (λ x. x) (map things_of ls)) ∙ (let a = length_things l in let b = length_lists ls in omega arith)

below_there : {A : Type 0} (xs : List A) (k : ℕ) (x : A) → get_elem? xs k ≡ some x → k < length xs
below_there [] k x e = absurd (some-ne-none x (sym e))
below_there (y ∷ ys) zero x e = omega arith
below_there (y ∷ ys) (suc k) x e = let r = below_there ys k x e in omega arith

-- the works of the desks lie in their slots
pub lies_all : {X W : Type 0} (slots : List (Slot X W)) (desks : List (List (ℕ × W))) → length desks ≡ 32
    → ((d : ℕ) → d < 32 → (v : _) × (ps : List (ℕ × W)) × (get_elem? slots (d + 64) ≡ some (Desk v)) × (get_elem? desks d ≡ some ps) × (v.items ≡ things_of ps)) → LiesOn slots (map things_of desks)
lies_all {X} {W} slots desks many lies d ws at =
    let lt : d < 32 = (let a = below_there (map things_of desks) d ws at in let b = length-map desks (things_of {A = W}) in omega arith) in
    let h = lies d lt in
    let same : things_of h.1 ≡ ws = some-injective (things_of h.1) ws (sym (at_map things_of desks d h.1 h.3) ∙ at) in (h.0, h.2, h.4 ∙ same)

-- the room suffices for what stands on the desks
pub fits_left : (standing taken left start count room : ℕ) → standing + taken ≡ start + left → standing ≤ 2 ^ 63 → count < 2 ^ 64 → count ≤ room → (count + taken) % 2 ^ 64 ≡ (start + left) % 2 ^ 64 → standing ≤ room
fits_left standing taken left start count room sum small low le same = let e : (count + taken) % 2 ^ 64 ≡ (standing + taken) % 2 ^ 64 = same ∙ ap (λ (n : ℕ). n % 2 ^ 64) (sym sum) in let q : count ≡ standing = omega arith in omega arith

-- the works in the slot of a desk
pub desk_found : {X W : Type 0} (slots : List (Slot X W)) (lists : List (List W)) (n : ℕ) (y : Slot X W) → length lists ≡ 32 → LiesOn slots lists → 64 ≤ n → n < 96 → get_elem? slots n ≡ some y
    → (ws : List W) × (get_elem? lists (n - 64) ≡ some ws) × (v : _) × (y ≡ Desk v) × (v.items ≡ ws)
desk_found {X} {W} slots lists n y long lies low high at =
    let t = there_at lists (n - 64) (omega arith) in
    let h = lies (n - 64) t.0 t.1 in
    let place : (n - 64) + 64 ≡ n = omega arith in
    let here : get_elem? slots n ≡ some (Desk h.0) = sym (ap (λ (k : ℕ). get_elem? slots k) place) ∙ h.1 in
    (t.0, t.1, h.0, some-injective y (Desk h.0) (sym at ∙ here), h.2)

total_drop : {A : Type 0} (f : A → ℕ) (xs : List A) (i : ℕ) (d : A) → i < length xs → total f (drop i xs) ≡ f (get_or xs i d) + total f (drop (suc i) xs)
total_drop f [] i d lt = absurd (omega arith)
total_drop f (x ∷ xs) zero d lt = refl
total_drop f (x ∷ xs) (suc i) d lt = total_drop f xs i d (omega arith)

-- one is taken off a sum
pub total_next : {A : Type 0} (xs : List A) (f : A → ℕ) (i n : ℕ) (d : A) → i < length xs → n ≡ suc i → d ≡ get_or xs i d → total f (drop i xs) ≡ f d + total f (drop n xs)
total_next {A} xs f i n d lt next is = total_drop f xs i d lt ∙ (ap {A = A} (λ x. f x + total f (drop (suc i) xs)) (sym is) ∙ ap {A = ℕ} (λ k. f d + total f (drop k xs)) (sym next))

pub total_past : {A : Type 0} (xs : List A) (f : A → ℕ) (i : ℕ) → length xs ≤ i → total f (drop i xs) ≡ 0
total_past [] f zero le = refl
total_past [] f (suc i) le = refl
total_past (x ∷ xs) f zero le = absurd (omega arith)
total_past (x ∷ xs) f (suc i) le = total_past xs f i (omega arith)

-- one seat's count more
pub count_step : (count moved start all_fetched all_left fetched left f l f' l' : ℕ) → (count + all_fetched + l) % 2 ^ 64 ≡ (start + all_left + f) % 2 ^ 64 → f ≡ fetched + f' → l ≡ left + l' → (moved + fetched) % 2 ^ 64 ≡ left % 2 ^ 64
    → ((count + moved) % 2 ^ 64 + all_fetched + l') % 2 ^ 64 ≡ (start + all_left + f') % 2 ^ 64
count_step count moved start all_fetched all_left fetched left f l f' l' same more_f more_l balance = omega arith

pub count_start : (start f l : ℕ) → (start + f + l) % 2 ^ 64 ≡ (start + l + f) % 2 ^ 64
count_start start f l = let e : start + f + l ≡ start + l + f = omega arith in ap (λ (n : ℕ). n % 2 ^ 64) e

pub count_end : (count start all_fetched all_left f l : ℕ) → (count + all_fetched + l) % 2 ^ 64 ≡ (start + all_left + f) % 2 ^ 64 → l ≡ 0 → f ≡ 0 → (count + all_fetched) % 2 ^ 64 ≡ (start + all_left) % 2 ^ 64
count_end count start all_fetched all_left f l same no_l no_f = omega arith
