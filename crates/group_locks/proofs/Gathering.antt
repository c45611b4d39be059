-- All seats are made one.
use Rattle.std.proofs.Common.{◌≡◌, ◌≤◌, ◌<◌, ◌∙◌, ◌+◌, ◌*◌, ◌++◌, ◌∷◌, sym, ap, arith, length, length-append, [], ℕ, List, false, append_assoc, append-nil}
use Rattle.std.specs.declared.vec.Vec.{Vec}
use Rattle.atomic_table.specs.Table.{Me}
use Rattle.hub_rule.specs.Counts.{all_of, total}
use Rattle.hub_rule.specs.Rule.{tally, view, joined, both, heaped, spent}
use Rattle.hub_rule.specs.Works.{pile}
use Rattle.hub_rule.specs.declared.view.Pile.{Pile}
use Rattle.hub_rule.specs.declared.view.View.{View}
use Rattle.hub_rule.specs.declared.view.Tally.{Tally}
use Rattle.hub_rule.specs.declared.slot.Slot.{Slot}
use Rattle.hub_rule.proofs.Sums.{total_more}
use Rattle.hub_rule.proofs.Ends.{all_of_snoc}
use Rattle.group_locks.specs.declared.state.SeatState.{SeatState}
use Rattle.group_locks.specs.Seats.{drawn_by, hand_of, settled_by, fresh_by, over_of, memory_of, faults_of, empty_of, pile_of, gathered, heap_of, view_of_all}

-- two tallies of which each sum is the same
tally_same : {E : Type 0} (a b a' b' : List (ℕ × E)) (c d e c' d' e' : ℕ) → a ≡ a' → b ≡ b' → c ≡ c' → d ≡ d' → e ≡ e' → tally a b [] false 0 c 0 d e ≡ tally a' b' [] false 0 c' 0 d' e'
tally_same {E} a b a' b' c d e c' d' e' p q r s t =
    let F : List (ℕ × E) → Tally E = λ x. tally x b [] false 0 c 0 d e in
    let G : List (ℕ × E) → Tally E = λ x. tally a' x [] false 0 c 0 d e in
    let H : ℕ → Tally E = λ x. tally a' b' [] false 0 x 0 d e in
    let I : ℕ → Tally E = λ x. tally a' b' [] false 0 c' 0 x e in
    let J : ℕ → Tally E = λ x. tally a' b' [] false 0 c' 0 d' x in
    ap F p ∙ (ap G q ∙ (ap H r ∙ (ap I s ∙ ap J t)))

-- two piles of works that were put together
pile_same : {E W : Type 0} (a a' : List (ℕ × W)) (b c d e b' c' d' e' : ℕ) → a ≡ a' → b ≡ b' → c ≡ c' → d ≡ d' → e ≡ e' → ◌≡◌ {A = Pile E W} (pile a [] [] [] b false [] c d e) (pile a' [] [] [] b' false [] c' d' e')
pile_same {E} {W} a a' b c d e b' c' d' e' p q r s t =
    let F : List (ℕ × W) → Pile E W = λ x. pile x [] [] [] b false [] c d e in
    let G : ℕ → Pile E W = λ x. pile a' [] [] [] x false [] c d e in
    let H : ℕ → Pile E W = λ x. pile a' [] [] [] b' false [] x d e in
    let I : ℕ → Pile E W = λ x. pile a' [] [] [] b' false [] c' x e in
    let J : ℕ → Pile E W = λ x. pile a' [] [] [] b' false [] c' d' x in
    ap F p ∙ (ap G q ∙ (ap H r ∙ (ap I s ∙ ap J t)))

-- two seats that have only what others had
me_same : {E X W : Type 0} (k n : ℕ) (all new : List (ℕ × E)) (t u : Tally E) (p q : Pile E W) → k ≡ n → all ≡ new → t ≡ u → p ≡ q
    → ◌≡◌ {A = Me (Slot X W) (View E X W)} (view k all [] [] t p, []) (view n new [] [] u q, [])
me_same {E} {X} {W} k n all new t u p q parts entries tallied piled =
    let F : ℕ → Me (Slot X W) (View E X W) = λ x. (view x all [] [] t p, []) in
    let G : List (ℕ × E) → Me (Slot X W) (View E X W) = λ x. (view n x [] [] t p, []) in
    let H : Tally E → Me (Slot X W) (View E X W) = λ x. (view n new [] [] x p, []) in
    let I : Pile E W → Me (Slot X W) (View E X W) = λ x. (view n new [] [] u x, []) in
    ap F parts ∙ (ap G entries ∙ (ap H tallied ∙ ap I piled))

module _ {A E X W : Type 0} (f : A → SeatState E X W) (before : List A) (x : A) where
  -- a list of one seat more
  more_of : {B : Type 0} (g : SeatState E X W → List B) → all_of (λ s. g (f s)) before ++ g (f x) ≡ all_of (λ s. g (f s)) (before ++ x ∷ [])
  more_of g = sym (all_of_snoc (λ s. g (f s)) before x)

  -- a sum over one seat more
  more_than : (g : SeatState E X W → ℕ) → total (λ s. g (f s)) before + g (f x) ≡ total (λ s. g (f s)) (before ++ x ∷ [])
  more_than g = sym (total_more (λ s. g (f s)) before x)

  tally_more : both (gathered f before) (f x).token.me.0.tally ≡ gathered f (before ++ x ∷ [])
  tally_more =
      tally_same _ _ _ _ _ _ _ _ _ _ (more_of (λ s. settled_by s)) (more_of (λ s. fresh_by s)) (more_than (λ s. over_of s)) (more_than (λ s. memory_of s)) (more_than (λ s. faults_of s))

  pile_more : heaped (heap_of f before) (f x).token.me.0.pile ≡ heap_of f (before ++ x ∷ [])
  pile_more =
      let hands : List (ℕ × W) = all_of (λ s. hand_of (f s)) before in
      let kept : (hands ++ []) ++ hand_of (f x) ≡ all_of (λ s. hand_of (f s)) (before ++ x ∷ []) = ap {A = List (ℕ × W)} (λ l. l ++ hand_of (f x)) (append-nil hands) ∙ more_of (λ s. hand_of s) in
      pile_same _ _ _ _ _ _ _ _ _ _ kept (more_than (λ s. (pile_of s).counted)) (more_than (λ s. empty_of s)) (more_than (λ s. (pile_of s).left)) (more_than (λ s. (pile_of s).fetched))

  parts_more : (part : ℕ) → part ≡ 32 → 32 * length before + part ≡ 32 * length (before ++ x ∷ [])
  parts_more part is = let l = length-append before (x ∷ []) in omega arith

  -- what a seat knows to which these were joined, and then one more
  view_more : (all new : List (ℕ × E)) → (f x).token.me.0.parts ≡ 32 → new ≡ all ++ drawn_by (f x)
      → ◌≡◌ {A = Me (Slot X W) (View E X W)} (joined (view_of_all f before all) (f x).token.me.0, []) (view_of_all f (before ++ x ∷ []) new, [])
  view_more all new part drawn = me_same _ _ _ _ _ _ _ _ (parts_more (f x).token.me.0.parts part) (sym drawn) tally_more pile_more

module _ {A E X W Z : Type 0} (f : A → SeatState E X W) (seats : List A) where
  -- all these seats but those that are left were made one, which is a; these are the lists of their entries
  pub record Gathered (rest : List A) (lists : List (Vec (ℕ × E) Z)) (a : Me (Slot X W) (View E X W)) : Type 0 where
    pub before : List A
    pub split : before ++ rest ≡ seats
    pub all : all_of (λ l. l.items) lists ≡ all_of (λ s. drawn_by (f s)) before
    pub known : a ≡ (view_of_all f before (all_of (λ l. l.items) lists), [])

  -- none was made one with others
  pub gathered_none : (rest : List A) (lists : List (Vec (ℕ × E) Z)) (a : Me (Slot X W) (View E X W)) → rest ≡ seats → lists ≡ [] → a ≡ (spent, []) → Gathered rest lists a
  gathered_none rest lists a all none new =
      let K : List (Vec (ℕ × E) Z) → Me (Slot X W) (View E X W) = λ l. (view_of_all f [] (all_of (λ v. v.items) l), []) in
      record {
        before = [];
        split = all;
        all = ap {A = List (Vec (ℕ × E) Z)} (λ l. all_of (λ v. v.items) l) none;
        known = new ∙ ap K (sym none);
      }

  -- one more is made one with the others
  pub gathered_more : (rest left : List A) (lists more : List (Vec (ℕ × E) Z)) (a b : Me (Slot X W) (View E X W)) (x : A) (v : Vec (ℕ × E) Z) → Gathered rest lists a → rest ≡ x ∷ left → more ≡ lists ++ v ∷ []
      → v.items ≡ drawn_by (f x) → (f x).token.me.0.parts ≡ 32 → b ≡ (joined a.0 (f x).token.me.0, a.1) → Gathered left more b
  gathered_more rest left lists more a b x v h next pushed told part joins =
      let old : List (ℕ × E) = all_of (λ l. l.items) lists in
      let new : List (ℕ × E) = all_of (λ l. l.items) more in
      let drawn : new ≡ old ++ drawn_by (f x) =
      ap {A = List (Vec (ℕ × E) Z)} (λ l. all_of (λ u. u.items) l) pushed ∙ (all_of_snoc (λ u. u.items) lists v ∙ ap {A = List (ℕ × E)} (λ l. old ++ l) told) in
      let J : Me (Slot X W) (View E X W) → Me (Slot X W) (View E X W) = λ k. (joined k.0 (f x).token.me.0, k.1) in
      record {
        before = h.before ++ x ∷ [];
        split = append_assoc h.before (x ∷ []) left ∙ (ap {A = List A} (λ l. h.before ++ l) (sym next) ∙ h.split);
        all = drawn ∙ (ap {A = List (ℕ × E)} (λ l. l ++ drawn_by (f x)) h.all ∙ more_of f h.before x (λ s. drawn_by s));
        known = joins ∙ (ap J h.known ∙ view_more f h.before x old new part drawn);
      }

  -- all were made one
  all_before : (rest : List A) (lists : List (Vec (ℕ × E) Z)) (a : Me (Slot X W) (View E X W)) (h : Gathered rest lists a) → rest ≡ [] → h.before ≡ seats
  all_before rest lists a h none = sym (append-nil h.before) ∙ (ap {A = List A} (λ l. h.before ++ l) (sym none) ∙ h.split)

  pub gathered_lists : (rest : List A) (lists : List (Vec (ℕ × E) Z)) (a : Me (Slot X W) (View E X W)) → Gathered rest lists a → rest ≡ [] → all_of (λ l. l.items) lists ≡ all_of (λ s. drawn_by (f s)) seats
  gathered_lists rest lists a h none = h.all ∙ ap {A = List A} (λ l. all_of (λ s. drawn_by (f s)) l) (all_before rest lists a h none)

  pub gathered_known : (rest : List A) (lists : List (Vec (ℕ × E) Z)) (a : Me (Slot X W) (View E X W)) → Gathered rest lists a → rest ≡ [] → a ≡ (view_of_all f seats (all_of (λ l. l.items) lists), [])
  gathered_known rest lists a h none =
      let K : List A → Me (Slot X W) (View E X W) = λ l. (view_of_all f l (all_of (λ v. v.items) lists), []) in h.known ∙ ap K (all_before rest lists a h none)

module _ {A B : Type 0} where
  -- there is room for one list of each seat at first
  pub room_first : (seats rest : List A) (lists : List B) (room : ℕ) → lists ≡ [] → rest ≡ seats → length seats ≤ room → length lists + length rest ≤ room
  room_first seats rest lists room none all fits = let a = ap {A = List B} length none in let b = ap {A = List A} length all in omega arith

  -- so there is for one more
  pub fits_next : (rest left : List A) (x : A) (lists : List B) (len room : ℕ) → rest ≡ x ∷ left → len ≡ length lists → length lists + length rest ≤ room → len < room
  fits_next rest left x lists len room next is fits = let a = ap {A = List A} length next in omega arith

  -- and for those that are left then
  pub room_next : (rest left : List A) (x : A) (lists more : List B) (y : B) (room now : ℕ) → rest ≡ x ∷ left → more ≡ lists ++ y ∷ [] → now ≡ room → length lists + length rest ≤ room → length more + length left ≤ now
  room_next rest left x lists more y room now next pushed same fits =
      let a = ap {A = List A} length next in let b = ap {A = List B} length pushed in let d = length-append lists (y ∷ []) in omega arith
