-- Refused parts of patterns, form by form: what the bytes after the tag have to be denied.
use Rattle.std.proofs.Common.{◌≡◌, ℕ, ◌≤◌, ◌+◌, List, [], ◌∷◌, ◌++◌, length, refl, ap, sym, ◌∙◌, subst, arith}
use Rattle.std.specs.Prelude.{Bool, true, false}
use Rattle.calculus.specs.Tree.{list, set, dict, tuple, send, bundle, rest, same, both, either, not_this, list_pattern, set_pattern, map_pattern, Tree, node, Trees, none, also}
use Rattle.calculus.specs.Kinds.{rights_number, rest_number}
use Rattle.calculus.specs.declared.plain.Rights.{Rights}
use Rattle.calculus.specs.declared.plain.TermRest.{TermRest}
use Rattle.calculus.specs.declared.plain.TermRest.TheVariants as rests
use Rattle.calculus.specs.Shape.{listed, at, held, leaf}
use Rattle.calculus.specs.Code.{byte_of, code}
use Rattle.calculus.specs.Form.{term, pat, name_pat, pat_part, a_rest, row_of, pair_of, Scope}
use Rattle.calculus.specs.Variables.{bound}
use Rattle.calculus.proofs.Splitting.{kids-short}
use Rattle.code_faults.specs.declared.fault.ReadFault.{ReadFault}
use Rattle.code_faults.specs.Refusing.{Denies, IsRight, AreRight, HasRoom, Refuses, RefusesRow}
use Rattle.code_faults.proofs.Denying.{tag-next}
use Rattle.code_faults.proofs.Kids.{no_false, one, two, count-right}
use Rattle.code_faults.proofs.Tags.{by-tag, Of, after-tag}

-- a remainder
pub record Rest (b : Bool) (x : Tree) : Type 0 where
  pub kind : TermRest
  pub is : x ≡ leaf (rest kind)
  pub free : b ≡ false → kind ≡ rests.Var → ⊥

no_variable : (q : TermRest) → bound (leaf (rest q)) ≡ [] → q ≡ rests.Var → ⊥
no_variable rests.Var e f = cc
no_variable rests.No e f = cc
no_variable rests.Wild e f = cc

pub rest-of : {b : Bool} {v : Scope} {room : ℕ} (x : Tree) → IsRight b a_rest v room x → Rest b x
rest-of (node (rest q) none) g = record { kind = q; is = refl; free = λ p f. no_variable q (g.free p) f }
rest-of (node (rest q) (also t ts)) g = absurd g.fits.1
rest-of (node _ ts) g = absurd g.fits.1

module _ {b : Bool} {v : Scope} {room : ℕ} {e : ReadFault} (bs : List ℕ) where
  pub list_pattern-refused : ((r : Tree) (q : TermRest) → HasRoom v bs → IsRight b (row_of pat) v room r → (b ≡ false → q ≡ rests.Var → ⊥) → Denies e bs (code r ++ (rest_number q ∷ []))) → Refuses b pat_part v (room + 1) e (0x20 ∷ bs)
  list_pattern-refused f = by-tag 0x20 bs refl (λ l t. go t l)
    where
      go : (t : Tree) → Of b pat_part v (room + 1) e bs 0x20 t
      go (node list_pattern ts) l g w =
          let p = two b (row_of pat) a_rest v [] room ts g.fits.1 (omega (arith, g.low)) (kids-short list_pattern ts g.short) g.free in
          let x = rest-of p.second p.other in
          let is : ts ≡ also p.first (also (leaf (rest x.kind)) none) = p.is ∙ ap (λ (u : Tree). also p.first (also u none)) x.is in
          subst (λ (us : Trees). Denies e (0x20 ∷ bs) (code (node list_pattern us))) (sym is) (tag-next 0x20 _ (f p.first x.kind (after-tag 0x20 l) p.one x.free))
      go (node list ts) l g w = absurd g.fits.1
      go (node _ ts) l g w = absurd (omega arith)

  pub tuple_pattern-refused : RefusesRow b pat v room 1 0xFFFFFFFF e bs → Refuses b pat_part v (room + 1) e (0x21 ∷ bs)
  tuple_pattern-refused h = by-tag 0x21 bs refl (λ l t. go t l)
    where
      go : (t : Tree) → Of b pat_part v (room + 1) e bs 0x21 t
      go (node tuple ts) l g w =
          let r : AreRight b pat v room ts = record { fits = g.fits.1; low = omega (arith, g.low); short = kids-short tuple ts g.short; free = g.free } in
          tag-next 0x21 _ (h.no (after-tag 0x21 l) ts r g.fits.0 (omega (arith, count-right ts r)))
      go (node _ ts) l g w = absurd (omega arith)

  pub set_pattern-refused : ((r : Tree) (q : TermRest) → HasRoom v bs → IsRight b (row_of pat) v room r → length (held r) ≤ 8 → (b ≡ false → q ≡ rests.Var → ⊥) → Denies e bs (code r ++ (rest_number q ∷ []))) → Refuses b pat_part v (room + 1) e (0x22 ∷ bs)
  set_pattern-refused f = by-tag 0x22 bs refl (λ l t. go t l)
    where
      go : (t : Tree) → Of b pat_part v (room + 1) e bs 0x22 t
      go (node set_pattern ts) l g w =
          let p = two b (row_of pat) a_rest v [] room ts g.fits.1 (omega (arith, g.low)) (kids-short set_pattern ts g.short) g.free in
          let x = rest-of p.second p.other in
          let is : ts ≡ also p.first (also (leaf (rest x.kind)) none) = p.is ∙ ap (λ (u : Tree). also p.first (also u none)) x.is in
          let few : length (held p.first) ≤ 8 = subst (λ (us : Trees). length (held (at 0 (listed us))) ≤ 8) p.is g.fits.0 in
          subst (λ (us : Trees). Denies e (0x22 ∷ bs) (code (node set_pattern us))) (sym is) (tag-next 0x22 _ (f p.first x.kind (after-tag 0x22 l) p.one few x.free))
      go (node set ts) l g w = absurd g.fits.1
      go (node _ ts) l g w = absurd (omega arith)

  pub map_pattern-refused : ((r : Tree) (q : TermRest) → HasRoom v bs → IsRight b (row_of (pair_of pat)) v room r → length (held r) ≤ 8 → (b ≡ false → q ≡ rests.Var → ⊥) → Denies e bs (code r ++ (rest_number q ∷ []))) → Refuses b pat_part v (room + 1) e (0x23 ∷ bs)
  map_pattern-refused f = by-tag 0x23 bs refl (λ l t. go t l)
    where
      go : (t : Tree) → Of b pat_part v (room + 1) e bs 0x23 t
      go (node map_pattern ts) l g w =
          let p = two b (row_of (pair_of pat)) a_rest v [] room ts g.fits.1 (omega (arith, g.low)) (kids-short map_pattern ts g.short) g.free in
          let x = rest-of p.second p.other in
          let is : ts ≡ also p.first (also (leaf (rest x.kind)) none) = p.is ∙ ap (λ (u : Tree). also p.first (also u none)) x.is in
          let few : length (held p.first) ≤ 8 = subst (λ (us : Trees). length (held (at 0 (listed us))) ≤ 8) p.is g.fits.0 in
          subst (λ (us : Trees). Denies e (0x23 ∷ bs) (code (node map_pattern us))) (sym is) (tag-next 0x23 _ (f p.first x.kind (after-tag 0x23 l) p.one few x.free))
      go (node dict ts) l g w = absurd g.fits.1
      go (node _ ts) l g w = absurd (omega arith)

  pub send_pattern-refused : ((q : Bool) (a r : Tree) → HasRoom v bs → IsRight b name_pat v room a → IsRight b (row_of pat) v room r → Denies e bs (byte_of q ∷ (code a ++ (code r ++ [])))) → Refuses b pat_part v (room + 1) e (0x30 ∷ bs)
  send_pattern-refused f = by-tag 0x30 bs refl (λ l t. go t l)
    where
      go : (t : Tree) → Of b pat_part v (room + 1) e bs 0x30 t
      go (node (send q) ts) l g w =
          let p = two b name_pat (row_of pat) v [] room ts g.fits.1 (omega (arith, g.low)) (kids-short (send q) ts g.short) g.free in
          subst (λ (us : Trees). Denies e (0x30 ∷ bs) (code (node (send q) us))) (sym p.is) (tag-next 0x30 _ (f q p.first p.second (after-tag 0x30 l) p.one p.other))
      go (node _ ts) l g w = absurd (omega arith)

  pub bundle_pattern-refused : ((r : Rights) (a : Tree) → HasRoom v bs → IsRight false pat v room a → Denies e bs (rights_number r ∷ (code a ++ []))) → Refuses b pat_part v (room + 1) e (0x34 ∷ bs)
  bundle_pattern-refused f = by-tag 0x34 bs refl (λ l t. go t l)
    where
      go : (t : Tree) → Of b pat_part v (room + 1) e bs 0x34 t
      go (node (bundle r) ts) l g w =
          let p = one false pat v [] room ts g.fits.1 (omega (arith, g.low)) (kids-short (bundle r) ts g.short) (λ q. g.fits.0) in
          subst (λ (us : Trees). Denies e (0x34 ∷ bs) (code (node (bundle r) us))) (sym p.is) (tag-next 0x34 _ (f r p.first (after-tag 0x34 l) p.one))
      go (node _ ts) l g w = absurd (omega arith)

  pub same-refused : ((a : Tree) → HasRoom v bs → IsRight true term v room a → Denies e bs (code a ++ [])) → Refuses b pat_part v (room + 1) e (0x53 ∷ bs)
  same-refused f = by-tag 0x53 bs refl (λ l t. go t l)
    where
      go : (t : Tree) → Of b pat_part v (room + 1) e bs 0x53 t
      go (node same ts) l g w =
          let p = one true term v [] room ts g.fits.1 (omega (arith, g.low)) (kids-short same ts g.short) (λ q. absurd (no_false q)) in
          subst (λ (us : Trees). Denies e (0x53 ∷ bs) (code (node same us))) (sym p.is) (tag-next 0x53 _ (f p.first (after-tag 0x53 l) p.one))
      go (node _ ts) l g w = absurd (omega arith)

  pub both-refused : ((a c : Tree) → HasRoom v bs → IsRight b pat v room a → IsRight b pat v room c → Denies e bs (code a ++ (code c ++ []))) → Refuses b pat_part v (room + 1) e (0x54 ∷ bs)
  both-refused f = by-tag 0x54 bs refl (λ l t. go t l)
    where
      go : (t : Tree) → Of b pat_part v (room + 1) e bs 0x54 t
      go (node both ts) l g w =
          let p = two b pat pat v [] room ts g.fits.1 (omega (arith, g.low)) (kids-short both ts g.short) g.free in
          subst (λ (us : Trees). Denies e (0x54 ∷ bs) (code (node both us))) (sym p.is) (tag-next 0x54 _ (f p.first p.second (after-tag 0x54 l) p.one p.other))
      go (node _ ts) l g w = absurd (omega arith)

  pub either-refused : ((a c : Tree) → HasRoom v bs → IsRight false pat v room a → IsRight false pat v room c → Denies e bs (code a ++ (code c ++ []))) → Refuses b pat_part v (room + 1) e (0x55 ∷ bs)
  either-refused f = by-tag 0x55 bs refl (λ l t. go t l)
    where
      go : (t : Tree) → Of b pat_part v (room + 1) e bs 0x55 t
      go (node either ts) l g w =
          let p = two false pat pat v [] room ts g.fits.1 (omega (arith, g.low)) (kids-short either ts g.short) (λ q. g.fits.0) in
          subst (λ (us : Trees). Denies e (0x55 ∷ bs) (code (node either us))) (sym p.is) (tag-next 0x55 _ (f p.first p.second (after-tag 0x55 l) p.one p.other))
      go (node _ ts) l g w = absurd (omega arith)

  pub not_this-refused : ((a : Tree) → HasRoom v bs → IsRight false pat v room a → Denies e bs (code a ++ [])) → Refuses b pat_part v (room + 1) e (0x56 ∷ bs)
  not_this-refused f = by-tag 0x56 bs refl (λ l t. go t l)
    where
      go : (t : Tree) → Of b pat_part v (room + 1) e bs 0x56 t
      go (node not_this ts) l g w =
          let p = one false pat v [] room ts g.fits.1 (omega (arith, g.low)) (kids-short not_this ts g.short) (λ q. g.fits.0) in
          subst (λ (us : Trees). Denies e (0x56 ∷ bs) (code (node not_this us))) (sym p.is) (tag-next 0x56 _ (f p.first (after-tag 0x56 l) p.one))
      go (node _ ts) l g w = absurd (omega arith)
