-- Parts of a pattern that were read one after another, and a place in the next one.
use Rattle.std.proofs.Common.{◌≡◌, ℕ, ◌<◌, ◌≤◌, ◌+◌, ◌^◌, cond, List, [], ◌∷◌, ◌++◌, map, length, refl, ap, sym, ◌∙◌, subst, arith, append_assoc, length-append}
use Rattle.std.specs.Prelude.{Bool, true, false}
use Rattle.calculus.specs.Tree.{par, pattern, Tree, node}
use Rattle.calculus.specs.Bytes.{be32, joined}
use Rattle.calculus.specs.Shape.{count, listed}
use Rattle.calculus.specs.Code.{code, codes}
use Rattle.calculus.specs.Form.{pat, pat_part, Scope, wides}
use Rattle.calculus.proofs.Splitting.{length-codes}
use Rattle.calculus.proofs.ListCodes.{length-map}
use Rattle.code_faults.specs.declared.fault.ReadFault.{ReadFault}
use Rattle.code_faults.specs.declared.fault.ReadFault.TheVariants as fault
use Rattle.code_faults.specs.Wide.{is_wide_tag}
use Rattle.code_faults.specs.Refusing.{IsRight, HasRoom}
use Rattle.code_faults.specs.Tags.{is_pat_form_tag}
use Rattle.code_faults.specs.Places.{a_pat_part, begins_form, Item, field, inner, constituents, Stop, these, form, bytes_of, IsNoForm, Breaks, deep}
use Rattle.code_faults.specs.Blaming.{Blames, BlamesIn, Wrong, InTree, InNumber}
use Rattle.code_faults.proofs.Rows.{Row}
use Rattle.code_faults.proofs.Denying.{less-left}
use Rattle.code_faults.proofs.Kids.{count-right, count-listed}
use Rattle.code_faults.proofs.PatGoing.{wide_code, wide_codes, wides-codes, wides-le, wides-append, wides-read, narrow-are}
use Rattle.code_faults.proofs.Spelling.{standing-codes}
use Rattle.code_faults.proofs.Blaming.{reaches-lowest, first-blamed, number-passed, inside-above, behind, as-same, not-canonical, too-deep, level}
use Rattle.code_faults.proofs.BlamedRows.{codes_of, no-least, go, rights-listed, number-codes}
use Rattle.code_faults.proofs.BlamedBags.{nothing-before}
use Rattle.code_faults.proofs.BlamedTags.{other-tag, first-tag}

module _ {b : Bool} {v : Scope} {room : ℕ} {e : ReadFault} {bs : List ℕ} where
  pub pat-number_wrong : Wrong (InNumber 0 9) e bs → Wrong (InTree b pat v room) e bs
  pat-number_wrong h = behind (InNumber 0 9) (InTree b pat v room) e [] refl (λ stop before j. record { no = λ l high t g. there stop before j high t g }) h
    where
      there : (stop : Stop) (before : List ℕ) → InNumber 0 9 stop before → (high : ℕ) → (t : Tree) → IsRight b pat v high t → BlamesIn stop room before t
      there stop before j high (node pattern ts) g = level (node pattern ts) refl (first-blamed (field (be32 (count ts)) ∷ []) (constituents a_pat_part false [] (listed ts)) (j.no room (count ts) (omega arith) (omega (arith, count-listed ts, g.fits.0.0, g.fits.0.1)) (count-right ts (narrow-are ts g))))
      there stop before j high (node par ts) g = absurd g.fits.1
      there stop before j high (node _ ts) g = absurd g.fits.1

-- the first byte is the tag of a form, or that of none
pub pat-tag_form : {tag : ℕ} {now next : List ℕ} → now ≡ tag ∷ next → is_pat_form_tag tag ≡ true → begins_form a_pat_part now ≡ true
pat-tag_form is h = ap (begins_form a_pat_part) is ∙ h

pub pat-tag_no_form : {room tag : ℕ} {now next : List ℕ} → now ≡ tag ∷ next → (room ≡ 0 → is_pat_form_tag tag ≡ false) → IsNoForm room a_pat_part now
pat-tag_no_form is h q = ap (begins_form a_pat_part) is ∙ h q

-- what a pattern has at the place of its next part, where so many parts stand before it, of which so many are wide
abbrev Next : Bool → Scope → ℕ → ℕ → ℕ → Stop → List ℕ → Type 0
Next b v room n wide stop before = HasRoom v before → (high : ℕ) (t : Tree) (is : List Item) → IsRight b pat_part v high t → wide + wide_code (code t) ≤ 1 → n + 1 ≤ 8 + (wide + wide_code (code t)) → Blames stop room before (inner a_pat_part [] t ∷ is)

module _ {A : Type 0} {f : A → Tree} {b : Bool} {v : Scope} {room low : ℕ} {e : ReadFault} {xs : List A} {start now : List ℕ} (bs : List ℕ) (n : ℕ) (h : Row f pat_part v low xs start now) (is : bs ≡ be32 n ++ start) (m : n < 2 ^ 32) (i : length xs < n) where
  pat-going : Wrong (Next b v room (length xs) (wides (map f xs))) e now → Wrong (InTree b pat v room) e bs
  pat-going r = behind (Next b v room (length xs) (wides (map f xs))) (InTree b pat v room) e (be32 n ++ joined (codes_of f xs)) (number-codes n (codes_of f xs) now is h.is)
      (λ stop before j. record { no = λ l high t g. there stop before j l high t g }) r
    where
      there : (stop : Stop) (before : List ℕ) → Next b v room (length xs) (wides (map f xs)) stop before → HasRoom v ((be32 n ++ joined (codes_of f xs)) ++ before) → (high : ℕ) → (t : Tree) → IsRight b pat v high t → BlamesIn stop room ((be32 n ++ joined (codes_of f xs)) ++ before) t
      there stop before j l high (node pattern ts) g =
          let r = narrow-are ts g in
          let a = append_assoc (be32 n) (joined (codes_of f xs)) before in
          let o : HasRoom v (be32 n ++ (joined (codes_of f xs) ++ before)) = subst (λ (z : List ℕ). HasRoom v z) a l in
          level (node pattern ts) refl (subst (λ (z : List ℕ). Blames stop room z (field (be32 (count ts)) ∷ constituents a_pat_part false [] (listed ts))) (sym a)
          (number-passed (count ts) (constituents a_pat_part false [] (listed ts)) m (count-right ts r)
          (λ w. go a_pat_part false xs h (less-left (be32 n) refl o) [] (listed ts) (rights-listed ts r) (omega (arith, count-listed ts, w, i))
          (λ t ds lower x u p k.
          let cs = codes_of f xs in
          let c : codes ts ≡ cs ++ code t ∷ map code ds = sym (standing-codes false ts) ∙ u in
          let s : wides (listed ts) ≡ wide_codes cs + (wide_code (code t) + wide_codes (map code ds)) = wides-codes v ts r.fits ∙ ap wide_codes c ∙ wides-append cs (code t ∷ map code ds) in
          let d : count ts ≡ length cs + (1 + length (map code ds)) = sym (length-codes ts) ∙ ap length c ∙ length-append cs (code t ∷ map code ds) ∙ ap (λ (z : ℕ). length cs + z) (omega arith) in
          let q : length cs ≡ length xs = length-map (λ y. code (f y)) xs in
          let none : lower ≡ [] = x ∙ no-least cs in
          subst (λ (z : List ℕ). Blames stop room before (inner a_pat_part z t ∷ constituents a_pat_part false [] ds)) (sym none)
          (j k high t (constituents a_pat_part false [] ds) p (omega (arith, s, g.fits.0.0, wides-read h)) (omega (arith, s, d, q, g.fits.0.1, wides-read h, wides-le (map code ds), count-listed ts)))))))
      there stop before j l high (node par ts) g = absurd g.fits.1
      there stop before j l high (node _ ts) g = absurd g.fits.1

  pub pat_wrong : IsNoForm room a_pat_part now → Wrong (InTree b pat_part v room) e now → Wrong (InTree b pat v room) e bs
  pat_wrong none r = pat-going (as-same (InTree b pat_part v room) (Next b v room (length xs) (wides (map f xs))) e
      (λ stop before w j l high t is g p q. inside-above [] t is (λ z. reaches-lowest (before ++ bytes_of stop)) (λ z. subst (IsNoForm room a_pat_part) (w ∙ nothing-before before (bytes_of stop) z) none) (j.no l high t g)) r)

  -- a form is too deep where a part stands
  pub pat-deep_wrong : e ≡ fault.TooDeep (length now) → room ≡ 0 → begins_form a_pat_part now ≡ true → Wrong (InTree b pat v room) e bs
  pat-deep_wrong p none k = pat-going (subst (λ (z : ReadFault). Wrong (Next b v room (length xs) (wides (map f xs))) z now) (sym p) (too-deep (record {
    before = [];
    after = now;
    are = refl;
    place = refl;
    blames = λ l high t is g x y. record { wrong = λ a c q. subst (λ (z : ℕ). Breaks (form now) z (inner a_pat_part [] t ∷ is) []) (sym none) (deep now a_pat_part [] t is k) };
  })))

  -- too many parts are wide, or too many are not
  pub wide_wrong : {next : List ℕ} {tag at : ℕ} → e ≡ fault.NotCanonical at → at ≡ length now → now ≡ tag ∷ next → IsNoForm room a_pat_part now
      → (wides (map f xs) + cond (is_wide_tag tag) 1 0 ≤ 1 → length xs + 1 ≤ 8 + (wides (map f xs) + cond (is_wide_tag tag) 1 0) → ⊥) → Wrong (InTree b pat v room) e bs
  wide_wrong {next = next} {tag = tag} w p read none k = pat-going (subst (λ (z : ReadFault). Wrong (Next b v room (length xs) (wides (map f xs))) z now) (sym w) (not-canonical (record {
    before = [];
    after = now;
    are = refl;
    place = p;
    blames = λ l high t is g x y. inside-above [] t is (λ z. reaches-lowest now) (λ z. none) (subst (λ (z : List ℕ). BlamesIn (these z) room [] t) (sym read) (other-tag refl tag next high t g (λ u.
        let r : cond (is_wide_tag tag) 1 0 ≡ wide_code (code t) = ap (λ (z : ℕ). cond (is_wide_tag z) 1 0) (u ∙ sym (first-tag pat_part v t refl g.fits)) in
        k (omega (arith, x, r)) (omega (arith, y, r)))));
  })))
