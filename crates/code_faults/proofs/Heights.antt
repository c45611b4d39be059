-- Processes in which a part stands under so many forms are higher.
use Rattle.std.proofs.Common.{◌≡◌, ℕ, ◌<◌, ◌≤◌, ◌-◌, cond, List, [], ◌∷◌, ◌++◌, map, length, refl, ap, sym, ◌∙◌, subst, arith, append_assoc, append-nil}
use Rattle.std.specs.Prelude.{Bool, true, false, ⊤, ◌||◌}
use Rattle.calculus.specs.Tree.{Label, par, pattern, method, Tree, node, Trees, none, also}
use Rattle.calculus.specs.Shape.{count, listed, label_of}
use Rattle.calculus.specs.Size.{rise, height, heights}
use Rattle.calculus.specs.Order.{up_to}
use Rattle.calculus.specs.Congruence.{is_bag}
use Rattle.calculus.specs.Code.{code}
use Rattle.calculus.specs.Form.{Sort, term, part, a_bind, a_case, a_rest, pat, name_pat, pat_part, name_part, row_of, pair_of, Kids, all, these, no_form, kids}
use Rattle.calculus.proofs.Formed.{Formed, Holds}
use Rattle.calculus.proofs.FromFits.{formed, fine}
use Rattle.calculus.proofs.Known.{own_bytes}
use Rattle.calculus.proofs.Prefixes.{cut, Splits-length}
use Rattle.calculus.proofs.Tails.{IsFine}
use Rattle.code_faults.specs.Tags.{is_form_tag, is_pat_form_tag}
use Rattle.code_faults.specs.Places.{Slot, a_part, a_pat_part, another, slot_of, begins_form, Item, field, name_length, inner, own_items, fields, spelled, spelling, put, by_code, standing, constituents, items, form, Breaks, deep, within, past}
use Rattle.code_faults.specs.Laws.{DeepBytesAreHigh}
use Rattle.code_faults.proofs.Tags.{first}
use Rattle.code_faults.proofs.BlamedTags.{raises, formed-tag}
use Rattle.code_faults.proofs.Spelling.{spelling-items}

-- a constituent of some sort, which has a tag where a part stands
pub record Kid (slot : Slot) (high : ℕ) (t : Tree) : Type 0 where
  pub sort : Sort
  pub formed : Formed IsFine sort t
  pub tagged : (slot ≡ another → ⊥) → own_bytes sort ≡ 1
  pub low : height t ≤ high

-- each of these is one
Kin : Slot → ℕ → List Tree → Type 0
Kin slot high [] = ⊤
Kin slot high (t ∷ ts) = Kid slot high t × Kin slot high ts

kin-higher : (slot : Slot) (m n : ℕ) (ts : List Tree) → m ≤ n → Kin slot m ts → Kin slot n ts
unfolding Kin
kin-higher slot m n [] l h = tt
kin-higher slot m n (t ∷ ts) l h = (record { sort = h.0.sort; formed = h.0.formed; tagged = h.0.tagged; low = omega (arith, l, h.0.low) }, kin-higher slot m n ts l h.1)

kin-all : (slot : Slot) (s : Sort) (ts : Trees) → ((slot ≡ another → ⊥) → own_bytes s ≡ 1) → Holds IsFine (all s) ts → Kin slot (heights ts) (listed ts)
unfolding Kin
kin-all slot s none o h = tt
kin-all slot s (also t ts) o h = (record { sort = s; formed = h.0; tagged = o; low = omega arith }, kin-higher slot (heights ts) (heights (also t ts)) (listed ts) (omega arith) (kin-all slot s ts o h.1))

kin-these : (ss : List Sort) (ts : Trees) → Holds IsFine (these ss) ts → Kin another (heights ts) (listed ts)
unfolding Kin
kin-these [] none h = tt
kin-these [] (also t ts) h = absurd h
kin-these (s ∷ ss) none h = absurd h
kin-these (s ∷ ss) (also t ts) h = (record { sort = s; formed = h.0; tagged = λ n. absurd (n refl); low = omega arith }, kin-higher another (heights ts) (heights (also t ts)) (listed ts) (omega arith) (kin-these ss ts h.1))

kin-other : (p : Kids) (ts : Trees) → Holds IsFine p ts → Kin another (heights ts) (listed ts)
kin-other (all s) ts h = kin-all another s ts (λ n. absurd (n refl)) h
kin-other (these ss) ts h = kin-these ss ts h
kin-other no_form ts h = absurd h

-- the constituents of a form are such
kin-of : (s : Sort) (l : Label) (ts : Trees) → Holds IsFine (kids s l 0) ts → Kin (slot_of l) (heights ts) (listed ts)
kin-of term par ts h = kin-all a_part part ts (λ n. refl) h
kin-of pat pattern ts h = kin-all a_pat_part pat_part ts (λ n. refl) h
kin-of name_pat pattern ts h = kin-all a_pat_part name_part ts (λ n. refl) h
kin-of part par ts h = absurd h
kin-of a_bind par ts h = absurd h
kin-of a_case par ts h = absurd h
kin-of a_rest par ts h = absurd h
kin-of pat par ts h = absurd h
kin-of name_pat par ts h = absurd h
kin-of pat_part par ts h = absurd h
kin-of name_part par ts h = absurd h
kin-of (row_of s) par ts h = absurd h
kin-of (pair_of s) par ts h = absurd h
kin-of term pattern ts h = absurd h
kin-of part pattern ts h = absurd h
kin-of a_bind pattern ts h = absurd h
kin-of a_case pattern ts h = absurd h
kin-of a_rest pattern ts h = absurd h
kin-of pat_part pattern ts h = absurd h
kin-of name_part pattern ts h = absurd h
kin-of (row_of s) pattern ts h = absurd h
kin-of (pair_of s) pattern ts h = absurd h
kin-of s l ts h = kin-other (kids s l 0) ts h

put-by : (P : List Tree → Type 0) (t u : Tree) (us vs : List Tree) (c : Bool) → P (t ∷ u ∷ us) → P (u ∷ vs) → P (cond c (t ∷ u ∷ us) (u ∷ vs))
put-by P t u us vs true p q = p
put-by P t u us vs false p q = q

kin-put : (slot : Slot) (high : ℕ) (t : Tree) (us : List Tree) → Kid slot high t → Kin slot high us → Kin slot high (put t us)
unfolding put Kin
kin-put slot high t [] g h = (g, tt)
kin-put slot high t (u ∷ us) g h = put-by (Kin slot high) t u us (put t us) (up_to (code t) (code u)) (g, h) (h.0, kin-put slot high t us g h.1)

kin-sorted : (slot : Slot) (high : ℕ) (ts : Trees) → Kin slot high (listed ts) → Kin slot high (by_code ts)
unfolding by_code Kin
kin-sorted slot high none h = tt
kin-sorted slot high (also t ts) h = kin-put slot high t (by_code ts) h.0 (kin-sorted slot high ts h.1)

kin-standing : (slot : Slot) (high : ℕ) (bag : Bool) (ts : Trees) → Kin slot high (listed ts) → Kin slot high (standing bag ts)
kin-standing slot high true ts h = kin-sorted slot high ts h
kin-standing slot high false ts h = h

-- items of at most this height
pub Below : ℕ → List Item → Type 0
Below high [] = ⊤
Below high (field f ∷ is) = Below high is
Below high (name_length n ∷ is) = Below high is
Below high (inner slot least t ∷ is) = Kid slot high t × Below high is

below-fields : (high : ℕ) (fs : List (List ℕ)) (is : List Item) → Below high is → Below high (map field fs ++ is)
unfolding Below
below-fields high [] is h = h
below-fields high (f ∷ fs) is h = below-fields high fs is h

below-own : (high : ℕ) (l : Label) (n : ℕ) (is : List Item) → Below high is → Below high (own_items l n ++ is)
unfolding Below
below-own high (method x) n is h = h
below-own high l n is h = below-fields high (fields l n) is h

below-constituents : (high : ℕ) (slot : Slot) (bag : Bool) (least : List ℕ) (ts : List Tree) → Kin slot high ts → Below high (constituents slot bag least ts)
unfolding Below Kin
below-constituents high slot bag least [] h = tt
below-constituents high slot bag least (t ∷ ts) h = (h.0, below-constituents high slot bag (cond bag (code t) []) ts h.1)

pub below-items : (s : Sort) (t : Tree) → Formed IsFine s t → Below (height t - rise (label_of t)) (items t)
below-items s (node l ts) h =
    let e : height (node l ts) - rise l ≡ heights ts = omega arith in
    subst (λ (n : ℕ). Below n (items (node l ts))) (sym e)
    (below-own (heights ts) l (count ts) (constituents (slot_of l) (is_bag l) [] (standing (is_bag l) ts)) (below-constituents (heights ts) (slot_of l) (is_bag l) [] (standing (is_bag l) ts) (kin-standing (slot_of l) (heights ts) (is_bag l) ts (kin-of s l ts h.1))))

pub kid-first : (high : ℕ) (slot : Slot) (least : List ℕ) (t : Tree) (is : List Item) → Below high (inner slot least t ∷ is) → Kid slot high t
unfolding Below
kid-first high slot least t is b = b.0

pub below-past : (high : ℕ) (i : Item) (is : List Item) → Below high (i ∷ is) → Below high is
unfolding Below
below-past high (field f) is h = h
below-past high (name_length n) is h = h
below-past high (inner slot least t) is h = h.1

-- bytes that begin with the tag of a form
pub form-first : (slot : Slot) (bs : List ℕ) → begins_form slot bs ≡ true → (raises (first bs) ≡ 1) × (slot ≡ another → ⊥) × (0 < length bs)
form-first a_part (k ∷ bs) h = (ap (λ (b : Bool). cond (b || is_pat_form_tag k) 1 0) h, λ e. cc, omega arith)
form-first a_pat_part (k ∷ bs) h = (ap (λ (b : Bool). cond b 1 0) (either (is_form_tag k) (is_pat_form_tag k) h), λ e. cc, omega arith)
  where
    either : (a b : Bool) → b ≡ true → (a || b) ≡ true
    either true b e = refl
    either false b e = e
form-first another (k ∷ bs) h = absurd (cc)
form-first a_part [] h = absurd (cc)
form-first a_pat_part [] h = absurd (cc)
form-first another [] h = absurd (cc)

first-same : (bs x c y : List ℕ) → bs ++ x ≡ c ++ y → 0 < length bs → 0 < length c → first bs ≡ first c
first-same [] x c y e l m = absurd (omega (arith, l))
first-same (a ∷ bs) x [] y e l m = absurd (omega (arith, m))
first-same (a ∷ bs) x (b ∷ c) y e l m = cc

-- where a part stands that has no room, the items are higher than there is room
higher : {after : List ℕ} {room : ℕ} {is : List Item} {before : List ℕ} (high : ℕ) → Breaks (form after) room is before → Below high is → (x y : List ℕ) → before ++ (after ++ x) ≡ spelling is ++ y → room < high
unfolding Below
higher high (deep after slot least t is f) b x y q =
    let w = form-first slot after f in
    let k = b.0 in
    let r = formed-tag k.sort t (k.tagged w.1) k.formed in
    let e : first after ≡ first (code t) = first-same after x (code t) (spelling is ++ y) (q ∙ append_assoc (code t) (spelling is) y) w.2 r.some in
    let one : rise (label_of t) ≡ 1 = r.raised ∙ ap raises (sym r.leads ∙ sym e) ∙ w.0 in
    omega (arith, one, k.low, height-rise t)
  where
    height-rise : (t : Tree) → rise (label_of t) ≤ height t
    height-rise (node l ts) = omega arith
higher {after = after} high (within stop room slot least t is before l n h) b x y q =
    let k = b.0 in
    let r = higher (height t - rise (label_of t)) h (below-items k.sort t k.formed) x (spelling is ++ y) (q ∙ append_assoc (code t) (spelling is) y ∙ ap (λ (z : List ℕ). z ++ (spelling is ++ y)) (sym (spelling-items t))) in
    omega (arith, r, k.low)
higher {after = after} high (past stop room i is before h) b x y q =
    higher high h (below-past high i is b) x y ((cut (spelled i) (spelled i) (before ++ (after ++ x)) (spelling is ++ y) (Splits-length (spelled i) (spelled i) refl) (sym (append_assoc (spelled i) before (after ++ x)) ∙ q ∙ append_assoc (spelled i) (spelling is) y)).1)

pub deep_bytes_are_high : DeepBytesAreHigh
deep_bytes_are_high at bs h t c s x q =
    let e : h.before ++ (h.after ++ x) ≡ code t ++ [] = sym (append_assoc h.before h.after x) ∙ ap (λ (z : List ℕ). z ++ x) (sym h.are) ∙ q ∙ sym (append-nil (code t)) in
    let r = higher (height t - rise (label_of t)) (h.deep t c s (h.after ++ x) [] e) (below-items term t (formed IsFine fine term [] t c)) x [] (e ∙ ap (λ (z : List ℕ). z ++ []) (sym (spelling-items t))) in
    omega (arith, r)
