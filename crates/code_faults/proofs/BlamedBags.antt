-- Constituents that ascend, and a place in the next one, or at its first byte where it falls below the one before it.
use Rattle.std.proofs.Common.{◌≡◌, ℕ, ◌<◌, ◌≤◌, ◌+◌, ◌^◌, List, [], ◌∷◌, ◌++◌, map, length, refl, ap, sym, ◌∙◌, subst, arith, append_assoc, append-nil, length-append}
use Rattle.std.specs.Prelude.{true, false}
use Rattle.std.specs.Ordering.{is_le, nat_cmp, ordering_then}
use Rattle.std.specs.declared.cmp.Ordering.{Ordering}
use Rattle.std.specs.declared.cmp.Ordering.TheVariants.{Less, Equal, Greater}
use Rattle.std.proofs.lemmas.Cmp.{ranked}
use Rattle.calculus.specs.Tree.{Tree, node, par, row, trees}
use Rattle.calculus.specs.Bytes.{be32, joined}
use Rattle.calculus.specs.Shape.{count}
use Rattle.calculus.specs.Order.{byte_cmp, up_to}
use Rattle.calculus.specs.Code.{code, codes}
use Rattle.calculus.specs.Form.{Sort, term, part, Scope, Fits, Hold, all}
use Rattle.calculus.proofs.Prefixes.{none_longer}
use Rattle.calculus.proofs.Splitting.{kids-short}
use Rattle.calculus.proofs.FromFits.{codes_split}
use Rattle.code_faults.specs.declared.fault.ReadFault.{ReadFault}
use Rattle.code_faults.specs.declared.fault.ReadFault.TheVariants as fault
use Rattle.code_faults.specs.Reading.{Reads}
use Rattle.code_faults.specs.Refusing.{IsRight, HasRoom, Denies}
use Rattle.code_faults.specs.Tags.{is_form_tag}
use Rattle.code_faults.specs.Places.{a_part, slot_for, begins_form, Item, field, inner, standing, constituents, Stop, form, bytes_of, IsNoForm, Breaks, falls, deep, Reaches}
use Rattle.code_faults.specs.Blaming.{Blames, BlamesIn, Wrong, InTree, InBag}
use Rattle.code_faults.proofs.Rows.{last_of}
use Rattle.code_faults.proofs.Bags.{Bag}
use Rattle.code_faults.proofs.Going.{map-codes}
use Rattle.code_faults.proofs.Kids.{no_false, count-right}
use Rattle.code_faults.proofs.Denying.{less-left}
use Rattle.code_faults.proofs.Blaming.{number-passed, inside-above, behind, as-same, not-canonical, too-deep, level}
use Rattle.code_faults.proofs.BlamedRows.{codes_of, least_after, least-bag, go, rights-sorted, length-sorted, number-codes}

pub nothing-before : (before after : List ℕ) → length before ≡ 0 → before ++ after ≡ after
nothing-before [] after q = refl
nothing-before (x ∷ before) after q = absurd (omega (arith, q))

-- the first byte is the tag of a form, or that of none
pub tag-form : {tag : ℕ} {now next : List ℕ} → now ≡ tag ∷ next → is_form_tag tag ≡ true → begins_form a_part now ≡ true
tag-form is h = ap (begins_form a_part) is ∙ h

pub tag-no_form : {room tag : ℕ} {now next : List ℕ} → now ≡ tag ∷ next → (room ≡ 0 → is_form_tag tag ≡ false) → IsNoForm room a_part now
tag-no_form is h q = ap (begins_form a_part) is ∙ h q

-- what a bag has at the place of its next member
abbrev Next : Sort → Scope → ℕ → List ℕ → Stop → List ℕ → Type 0
Next s v room last stop before = length last < 2 ^ 32 → HasRoom v before → (high : ℕ) (t : Tree) (is : List Item) → IsRight true s v high t → Blames stop room before (inner (slot_for s) last t ∷ is)

last-le : (cs : List (List ℕ)) → length (last_of cs) ≤ length (joined cs)
last-le [] = omega arith
last-le (c ∷ []) = omega (arith, length-append c [])
last-le (c ∷ d ∷ cs) = omega (arith, last-le (d ∷ cs), length-append c (joined (d ∷ cs)))

module _ {A : Type 0} {f : A → Tree} {s : Sort} {v : Scope} {room low : ℕ} {e : ReadFault} {xs : List A} {start now last : List ℕ} (n : ℕ) (bs : List ℕ) (h : Bag f s v low xs start now last) (is : bs ≡ be32 n ++ start) (m : n < 2 ^ 32) (i : length xs < n) where
  bag-going : Wrong (Next s v room last) e now → Wrong (InBag s v room) e bs
  bag-going r = behind (Next s v room last) (InBag s v room) e (be32 n ++ joined (codes_of f xs)) (number-codes n (codes_of f xs) now is h.row.is)
      (λ stop before k. record {
        no = λ l high ts g.
            let a = append_assoc (be32 n) (joined (codes_of f xs)) before in
            let j : HasRoom v (be32 n ++ (joined (codes_of f xs) ++ before)) = subst (λ (z : List ℕ). HasRoom v z) a l in
            let lowest : last ≡ least_after true [] (codes_of f xs) = h.ends ∙ ap last_of (map-codes f xs) ∙ sym (least-bag (codes_of f xs)) in
            let few : length last < 2 ^ 32 = omega (arith, l.few, ap length lowest, ap length (least-bag (codes_of f xs)), last-le (codes_of f xs), length-append (be32 n ++ joined (codes_of f xs)) before, length-append (be32 n) (joined (codes_of f xs))) in
            subst (λ (z : List ℕ). Blames stop room z (field (be32 (count ts)) ∷ constituents (slot_for s) true [] (standing true ts))) (sym a)
            (number-passed (count ts) (constituents (slot_for s) true [] (standing true ts)) m (count-right ts g)
            (λ w. go (slot_for s) true xs h.row (less-left (be32 n) refl j) [] (standing true ts) (rights-sorted ts g) (omega (arith, length-sorted ts, w, i))
            (λ t ds lower x y u o. subst (λ (z : List ℕ). Blames stop room before (inner (slot_for s) z t ∷ constituents (slot_for s) true (code t) ds)) (lowest ∙ sym x) (k few o high t (constituents (slot_for s) true (code t) ds) u))));
      }) r

  -- a member that does not fall below has the place
  pub bag-blamed : Reaches last now → IsNoForm room (slot_for s) now → Wrong (InTree true s v room) e now → Wrong (InBag s v room) e bs
  bag-blamed up none r = bag-going (as-same (InTree true s v room) (Next s v room last) e
      (λ stop before w k few l high t is g. inside-above last t is (λ q. subst (Reaches last) w up) (λ q. subst (IsNoForm room (slot_for s)) (w ∙ nothing-before before (bytes_of stop) q) none) (k.no l high t g)) r)

  -- a form is too deep where a member stands
  pub bag-deep_blamed : e ≡ fault.TooDeep (length now) → room ≡ 0 → begins_form (slot_for s) now ≡ true → Wrong (InBag s v room) e bs
  bag-deep_blamed p none f = bag-going (subst (λ (z : ReadFault). Wrong (Next s v room last) z now) (sym p) (too-deep (record {
    before = [];
    after = now;
    are = refl;
    place = refl;
    blames = λ few l high t is g. record { wrong = λ x y q. subst (λ (z : ℕ). Breaks (form now) z (inner (slot_for s) last t ∷ is) []) (sym none) (deep now (slot_for s) last t is f) };
  })))

then_if : (o p q : Ordering) → is_le (ordering_then o p) ≡ true → (is_le (ordering_then o q) ≡ true → ⊥) → (o ≡ Equal) × (is_le p ≡ true) × (is_le q ≡ true → ⊥)
then_if Less p q u d = absurd (d refl)
then_if Equal p q u d = (refl, u, d)
then_if Greater p q u d = absurd (cc)

-- bytes that more bytes make longer
record Longer (a d : List ℕ) : Type 0 where
  first : ℕ
  more : List ℕ
  is : a ≡ d ++ first ∷ more

-- what is above some bytes, but not above them with more behind, has them at its front
longer : (a d z : List ℕ) → up_to a (d ++ z) ≡ true → (up_to a d ≡ true → ⊥) → Longer a d
longer [] [] z u k = absurd (k refl)
longer [] (y ∷ d) z u k = absurd (k refl)
longer (x ∷ a) [] z u k = record { first = x; more = a; is = refl }
longer (x ∷ a) (y ∷ d) z u k =
    let s = then_if (nat_cmp x y) (byte_cmp a (d ++ z)) (byte_cmp a d) u k in
    let e : x ≡ y = ranked x y Equal (sym s.0) in
    let r = longer a d z s.1 s.2 in
    record { first = r.first; more = r.more; is = ap (λ (j : ℕ). j ∷ a) e ∙ ap (λ (w : List ℕ). y ∷ w) r.is }

-- the tree that was read last
record Last (s : Sort) (v : Scope) (last : List ℕ) : Type 0 where
  tree : Tree
  fits : Fits s v tree
  is : code tree ≡ last

last-tree : {s : Sort} {v : Scope} (ts : List Tree) → Hold (all s) v [] (trees ts) → (last_of (codes (trees ts)) ≡ [] → ⊥) → Last s v (last_of (codes (trees ts)))
last-tree [] h n = absurd (n refl)
last-tree (t ∷ []) h n = record { tree = t; fits = h.0; is = refl }
last-tree (t ∷ u ∷ ts) h n = last-tree (u ∷ ts) h.1 n

-- no code falls below that of another that agrees with it as far as both go
never-lower : {s : Sort} {v : Scope} {room : ℕ} {t : Tree} {last now next : List ℕ} → Last s v last → length last < 2 ^ 32 → Reads s v room t now next
    → ((d : List ℕ) → now ≡ d ++ next → up_to last d ≡ true → ⊥) → (x : List ℕ) → up_to last (now ++ x) ≡ true → ⊥
never-lower {s = s} {v = v} {t = t} {last = last} {next = next} p k r d x u =
    let w = longer last (code t) (next ++ x) (subst (λ (z : List ℕ). up_to last z ≡ true) (ap (λ (z : List ℕ). z ++ x) r.is ∙ append_assoc (code t) next x) u) (d (code t) r.is) in
    let n : length last ≡ length (code t) + (1 + length w.more) = ap length w.is ∙ length-append (code t) (w.first ∷ w.more) ∙ ap (λ (j : ℕ). length (code t) + j) (omega arith) in
    none_longer (code t) (code p.tree) w.first w.more (codes_split s v v t p.tree r.fits p.fits (omega (arith, k, n)) (subst (λ (z : List ℕ). length z < 2 ^ 32) (sym p.is) k)) (p.is ∙ w.is)

-- bytes that are denied whatever they are no less than fall below, however they go on
denied-falls : {e : ReadFault} (last now : List ℕ) → e ≡ fault.NotCanonical (length now) → ((c : List ℕ) → up_to last c ≡ true → Denies e now c) → (x : List ℕ) → up_to last (now ++ x) ≡ true → ⊥
denied-falls last now p r x u = (subst (λ (z : ReadFault). Denies z now (now ++ x)) p (r (now ++ x) u)).no x [] tt (sym (append-nil (now ++ x)))

module _ {A : Type 0} {f : A → Tree} {s : Sort} {v : Scope} {room low : ℕ} {e : ReadFault} {xs : List A} {start now last : List ℕ} (n : ℕ) (bs : List ℕ) (h : Bag f s v low xs start now last) (is : bs ≡ be32 n ++ start) (m : n < 2 ^ 32) (i : length xs < n) where
  first-byte : e ≡ fault.NotCanonical (length now) → IsNoForm room (slot_for s) now → (length last < 2 ^ 32 → (x : List ℕ) → up_to last (now ++ x) ≡ true → ⊥) → Wrong (InBag s v room) e bs
  first-byte p none k = bag-going n bs h is m i (subst (λ (z : ReadFault). Wrong (Next s v room last) z now) (sym p)
      (not-canonical (record { before = []; after = now; are = refl; place = refl; blames = λ few l high t is g. record { wrong = λ x y q. falls now room (slot_for s) last t is (k few) none } })))

  -- bytes fall below the code before them
  pub bag-low_blamed : e ≡ fault.NotCanonical (length now) → IsNoForm room (slot_for s) now → ((c : List ℕ) → up_to last c ≡ true → Denies e now c) → Wrong (InBag s v room) e bs
  bag-low_blamed p none k = first-byte p none (λ few. denied-falls last now p k)

  -- a code falls below the one before it
  pub bag-lower_blamed : {t : Tree} {next : List ℕ} → e ≡ fault.NotCanonical (length now) → IsNoForm room (slot_for s) now → Reads s v low t now next → ((d : List ℕ) → now ≡ d ++ next → up_to last d ≡ true → ⊥) → Wrong (InBag s v room) e bs
  bag-lower_blamed {t = t} p none g r = first-byte p none (λ few. never-lower the_last few g r)
    where
      lowest : (c : List ℕ) → up_to [] c ≡ true
      lowest [] = refl
      lowest (x ∷ c) = refl

      the_last : Last s v last
      the_last = subst (Last s v) (sym h.ends) (last-tree (map f xs) h.row.fits (λ q. r (code t) g.is (subst (λ (z : List ℕ). up_to z (code t) ≡ true) (sym (h.ends ∙ q)) (lowest (code t)))))

module _ {v : Scope} {room : ℕ} {e : ReadFault} {bs : List ℕ} where
  pub term_blamed : Wrong (InBag part v room) e bs → Wrong (InTree true term v room) e bs
  term_blamed h = behind (InBag part v room) (InTree true term v room) e [] refl (λ stop before k. record { no = there stop before k }) h
    where
      there : (stop : Stop) (before : List ℕ) → InBag part v room stop before → HasRoom v before → (high : ℕ) → (t : Tree) → IsRight true term v high t → BlamesIn stop room before t
      there stop before h l high (node par ts) g = level (node par ts) refl (h.no l high ts (record { fits = g.fits.1; low = omega (arith, g.low); short = kids-short par ts g.short; free = λ q. absurd (no_false q) }))
      there stop before h l high (node row ts) g = absurd g.fits.1
      there stop before h l high (node _ ts) g = absurd g.fits.1
