-- Blamed places in parts, by their tags.
use Rattle.std.proofs.Common.{◌≡◌, ℕ, zero, suc, ◌<◌, ◌+◌, ◌-◌, cond, List, [], ◌∷◌, ◌++◌, length, refl, ap, sym, ◌∙◌, subst, arith, inl, inr, ⊎_elim}
use Rattle.std.specs.Prelude.{Bool, ◌⊎◌, ◌||◌}
use Rattle.calculus.specs.Tree.{Label, par, row, pair, bind, case, pattern, rest, Tree, node}
use Rattle.calculus.specs.Shape.{count, label_of}
use Rattle.calculus.specs.Size.{rise}
use Rattle.calculus.specs.Congruence.{is_bag}
use Rattle.calculus.specs.Code.{code}
use Rattle.calculus.specs.Form.{Sort, Scope, Fits, kids}
use Rattle.calculus.proofs.Heads.{lead}
use Rattle.calculus.proofs.Known.{own_bytes, known}
use Rattle.calculus.proofs.Tails.{IsFine}
use Rattle.calculus.proofs.Formed.{Formed, is_form}
use Rattle.calculus.proofs.FromFits.{formed, fine}
use Rattle.code_faults.specs.Refusing.{IsRight, HasRoom}
use Rattle.code_faults.specs.Tags.{is_form_tag, is_pat_form_tag}
use Rattle.code_faults.specs.Places.{slot_of, Item, field, own_items, spelling, standing, constituents, items, Stop, these, form, nameless, bytes_of, Breaks, differs}
use Rattle.code_faults.specs.Blaming.{BlamesIn, Parts, InTree}
use Rattle.code_faults.proofs.Tags.{first, tag_of, tag-same}
use Rattle.code_faults.proofs.Spelling.{spelling-items}
use Rattle.code_faults.proofs.Blaming.{IsOther, not-other}

-- all but the first of these
abbrev others : List Item → List Item
others [] = []
others (i ∷ is) = is

-- the first field is the tag
record Tagged (t : Tree) : Type 0 where
  more : List Item
  is : items t ≡ field (tag_of t ∷ []) ∷ more

tag-first : (l : Label) (n : ℕ) → length (lead l) ≡ 1 → own_items l n ≡ field (first (lead l) ∷ []) ∷ others (own_items l n)
tag-first par n h = absurd (omega arith)
tag-first row n h = absurd (omega arith)
tag-first pair n h = absurd (omega arith)
tag-first bind n h = absurd (omega arith)
tag-first case n h = absurd (omega arith)
tag-first pattern n h = absurd (omega arith)
tag-first (rest r) n h = absurd (omega arith)
tag-first _ n h = refl

tagged-formed : (s : Sort) (t : Tree) → own_bytes s ≡ 1 → Formed IsFine s t → Tagged t
tagged-formed s (node l ts) o h =
    let f = is_form IsFine (kids s l 0) ts h.1 in
    let cs = constituents (slot_of l) (is_bag l) [] (standing (is_bag l) ts) in
    record { more = others (own_items l (count ts)) ++ cs; is = ap (λ (is : List Item). is ++ cs) (tag-first l (count ts) ((known s l 0 f).1 ∙ o)) }

tagged : (s : Sort) (v : Scope) (t : Tree) → own_bytes s ≡ 1 → Fits s v t → Tagged t
tagged s v t o h = tagged-formed s t o (formed IsFine fine s v t h)

heads : (n m : ℕ) (xs ys : List ℕ) → n ∷ xs ≡ m ∷ ys → (n ≡ m) × (xs ≡ ys)
heads n m xs ys e = (cc, cc)

-- whether a tag is that of a form
abbrev pub raises : ℕ → ℕ
raises k = cond (is_form_tag k || is_pat_form_tag k) 1 0

label-raises : (l : Label) → length (lead l) ≡ 1 → rise l ≡ raises (first (lead l))
label-raises par h = absurd (omega arith)
label-raises row h = absurd (omega arith)
label-raises pair h = absurd (omega arith)
label-raises bind h = absurd (omega arith)
label-raises case h = absurd (omega arith)
label-raises pattern h = absurd (omega arith)
label-raises (rest r) h = absurd (omega arith)
label-raises _ h = refl

-- a part begins with its tag, which tells whether it is a form
pub record IsTagged (t : Tree) : Type 0 where
  pub leads : first (code t) ≡ tag_of t
  pub raised : rise (label_of t) ≡ raises (tag_of t)
  pub some : 0 < length (code t)

pub formed-tag : (s : Sort) (t : Tree) → own_bytes s ≡ 1 → Formed IsFine s t → IsTagged t
formed-tag s (node l ts) o h =
    let w = (tagged-formed s (node l ts) o h).is in
    let e : code (node l ts) ≡ spelling (field (tag_of (node l ts) ∷ []) ∷ (tagged-formed s (node l ts) o h).more) = sym (spelling-items (node l ts)) ∙ ap spelling w in
    record {
      leads = ap first e;
      raised = label-raises l ((known s l 0 (is_form IsFine (kids s l 0) ts h.1)).1 ∙ o);
      some = omega (arith, ap length e);
    }

pub tag-raises : (s : Sort) (v : Scope) (t : Tree) → own_bytes s ≡ 1 → Fits s v t → rise (label_of t) ≡ raises (tag_of t)
tag-raises s v t o h = (formed-tag s t o (formed IsFine fine s v t h)).raised

module _ {b : Bool} {s : Sort} {v : Scope} {room : ℕ} (o : own_bytes s ≡ 1) where
  -- behind a tag only trees of this tag matter
  pub by-tag_blamed : (k : ℕ) (stop : Stop) (before : List ℕ) → (HasRoom v (k ∷ before) → (high : ℕ) → (t : Tree) → IsRight b s v high t → tag_of t ≡ k → BlamesIn stop room (k ∷ before) t) → InTree b s v room stop (k ∷ before)
  by-tag_blamed k stop before f = record {
    no = λ l high t g. record { wrong = λ x y q. (f l high t g (tag-same s v t k (before ++ x) y o g.fits (q ∙ ap (λ (z : List ℕ). z ++ y) (spelling-items t)))).wrong x y q };
  }

  -- another tag
  pub other-tag : (k : ℕ) (after : List ℕ) (high : ℕ) (t : Tree) → IsRight b s v high t → (k ≡ tag_of t → ⊥) → BlamesIn (these (k ∷ after)) room [] t
  other-tag k after high t g n =
      let w = tagged s v t o g.fits in
      record {
        wrong = λ x y q. record {
          fits = λ p. absurd (omega arith);
          breaks = subst (λ (is : List Item). Breaks (these (k ∷ after)) (room - rise (label_of t)) is []) (sym w.is) (differs (k ∷ after) (room - rise (label_of t)) (tag_of t ∷ []) w.more (λ a c e. n ((heads k (tag_of t) (after ++ a) c e).0)));
        };
      }

  -- no right part has this tag
  pub tag-blamed : (k at : ℕ) (bs : List ℕ) → at ≡ length bs + 1 → ((high : ℕ) → (t : Tree) → IsRight b s v high t → k ≡ tag_of t → ⊥) → Parts (λ after before. InTree b s v room (these after) before) at (k ∷ bs)
  tag-blamed k at bs p n = record { before = []; after = k ∷ bs; are = refl; place = omega (arith, p); blames = record { no = λ l high t g. other-tag k bs high t g (n high t g) } }

  -- nothing but other bytes stops a reader at the tag of a part
  pub first-shallow : (stop : Stop) (high : ℕ) (t : Tree) → IsOther stop → IsRight b s v high t → BlamesIn stop room [] t → ⊥
  first-shallow stop high t n g h =
      let w = tagged s v t o g.fits in
      not-other {is = w.more} n (record { wrong = λ x y q. subst (λ (is : List Item). Breaks stop (room - rise (label_of t)) is []) w.is ((h.wrong x y (q ∙ ap (λ (is : List Item). spelling is ++ y) (sym w.is))).breaks) }) (omega arith)

one-or-not : (a k : ℕ) → (a ≡ k) ⊎ (a ≡ k → ⊥)
one-or-not zero zero = inl refl
one-or-not zero (suc k) = inr (λ q. omega (arith, q))
one-or-not (suc a) zero = inr (λ q. omega (arith, q))
one-or-not (suc a) (suc k) = ⊎_elim (λ (p : a ≡ k). inl (ap suc p)) (λ (n : a ≡ k → ⊥). inr (λ q. n (omega (arith, q)))) (one-or-not a k)

-- a place at a tag or behind it: only trees of this tag matter
pub either-tag : {b : Bool} {s : Sort} {v : Scope} {room : ℕ} (o : own_bytes s ≡ 1) (k : ℕ) (bs : List ℕ) (stop : Stop) (before : List ℕ) → k ∷ bs ≡ before ++ bytes_of stop
    → (IsOther stop → before ≡ [] → ⊥)
    → (HasRoom v before → (high : ℕ) → (t : Tree) → IsRight b s v high t → tag_of t ≡ k → BlamesIn stop room before t) → InTree b s v room stop before
either-tag o k bs (form after) [] e d f = absurd (d (λ b q. cc) refl)
either-tag o k bs (nameless after) [] e d f = absurd (d (λ b q. cc) refl)
either-tag {b = b} {s = s} {v = v} {room = room} o k bs (these after) [] e d f = record {
  no = λ l high t g. ⊎_elim (λ (p : k ≡ tag_of t). f l high t g (sym p)) (λ (n : k ≡ tag_of t → ⊥). subst (λ (z : List ℕ). BlamesIn (these z) room [] t) e (other-tag o k bs high t g n)) (one-or-not k (tag_of t));
}
either-tag {b = b} {s = s} {v = v} {room = room} o k bs stop (j ∷ before) e d f =
    let p = heads k j bs (before ++ bytes_of stop) e in
    by-tag_blamed o j stop before (λ l high t g w. f l high t g (w ∙ sym p.0))

-- the first byte of a part's code is its tag
pub first-tag : (s : Sort) (v : Scope) (t : Tree) → own_bytes s ≡ 1 → Fits s v t → first (code t) ≡ tag_of t
first-tag s v t o h = (formed-tag s t o (formed IsFine fine s v t h)).leads
