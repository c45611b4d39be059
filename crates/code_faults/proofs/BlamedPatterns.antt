-- Blamed places in parts of patterns, form by form.
use Rattle.std.proofs.Common.{◌≡◌, ℕ, ◌≤◌, List, [], ◌∷◌, length, ap, sym, ◌∙◌, subst, arith}
use Rattle.std.specs.Prelude.{Bool, true, false}
use Rattle.calculus.specs.Tree.{list, set, dict, tuple, send, bundle, rest, same, both, either, not_this, list_pattern, set_pattern, map_pattern, Tree, node, Trees, none, also}
use Rattle.calculus.specs.Kinds.{rights_number}
use Rattle.calculus.specs.declared.plain.Rights.{Rights}
use Rattle.calculus.specs.declared.plain.TermRest.{TermRest}
use Rattle.calculus.specs.declared.plain.TermRest.TheVariants as rests
use Rattle.calculus.specs.Shape.{listed, at, held, leaf}
use Rattle.calculus.specs.Code.{byte_of}
use Rattle.calculus.specs.Form.{term, pat, name_pat, pat_part, a_rest, row_of, pair_of, Scope}
use Rattle.calculus.proofs.Splitting.{kids-short}
use Rattle.code_faults.specs.Refusing.{IsRight, AreRight, HasRoom}
use Rattle.code_faults.specs.Places.{another, field, inner, items, Stop}
use Rattle.code_faults.specs.Blaming.{Blames, InRow}
use Rattle.code_faults.proofs.Kids.{no_false, one, two, count-right}
use Rattle.code_faults.proofs.Tags.{after-tag}
use Rattle.code_faults.proofs.PatRefusals.{rest-of}
use Rattle.code_faults.proofs.Blaming.{tag-passed}
use Rattle.code_faults.proofs.BlamedForms.{At}

module _ {b : Bool} {v : Scope} {room : ℕ} {stop : Stop} {before : List ℕ} where
  pub list_pattern-at : ((high : ℕ) (r : Tree) (q : TermRest) → HasRoom v before → IsRight b (row_of pat) v high r → (b ≡ false → q ≡ rests.Var → ⊥) → Blames stop room before (inner another [] r ∷ inner another [] (leaf (rest q)) ∷ [])) → At b pat_part v room stop before 0x20
  list_pattern-at f l high (node list_pattern ts) g w =
      let p = two b (row_of pat) a_rest v [] high ts g.fits.1 (omega (arith, g.low)) (kids-short list_pattern ts g.short) g.free in
      let x = rest-of p.second p.other in
      let is : ts ≡ also p.first (also (leaf (rest x.kind)) none) = p.is ∙ ap (λ (u : Tree). also p.first (also u none)) x.is in
      subst (λ (us : Trees). Blames stop room (0x20 ∷ before) (items (node list_pattern us))) (sym is) (tag-passed 0x20 _ (f high p.first x.kind (after-tag 0x20 l) p.one x.free))
  list_pattern-at f l high (node list ts) g w = absurd g.fits.1
  list_pattern-at f l high (node _ ts) g w = absurd (omega arith)

  pub tuple_pattern-at : InRow b pat v room 1 0xFFFFFFFF stop before → At b pat_part v room stop before 0x21
  tuple_pattern-at h l high (node tuple ts) g w =
      let r : AreRight b pat v high ts = record { fits = g.fits.1; low = omega (arith, g.low); short = kids-short tuple ts g.short; free = g.free } in
      tag-passed 0x21 _ (h.no (after-tag 0x21 l) high ts r g.fits.0 (omega (arith, count-right ts r)))
  tuple_pattern-at h l high (node _ ts) g w = absurd (omega arith)

  pub set_pattern-at : ((high : ℕ) (r : Tree) (q : TermRest) → HasRoom v before → IsRight b (row_of pat) v high r → length (held r) ≤ 8 → (b ≡ false → q ≡ rests.Var → ⊥) → Blames stop room before (inner another [] r ∷ inner another [] (leaf (rest q)) ∷ [])) → At b pat_part v room stop before 0x22
  set_pattern-at f l high (node set_pattern ts) g w =
      let p = two b (row_of pat) a_rest v [] high ts g.fits.1 (omega (arith, g.low)) (kids-short set_pattern ts g.short) g.free in
      let x = rest-of p.second p.other in
      let is : ts ≡ also p.first (also (leaf (rest x.kind)) none) = p.is ∙ ap (λ (u : Tree). also p.first (also u none)) x.is in
      let few : length (held p.first) ≤ 8 = subst (λ (us : Trees). length (held (at 0 (listed us))) ≤ 8) p.is g.fits.0 in
      subst (λ (us : Trees). Blames stop room (0x22 ∷ before) (items (node set_pattern us))) (sym is) (tag-passed 0x22 _ (f high p.first x.kind (after-tag 0x22 l) p.one few x.free))
  set_pattern-at f l high (node set ts) g w = absurd g.fits.1
  set_pattern-at f l high (node _ ts) g w = absurd (omega arith)

  pub map_pattern-at : ((high : ℕ) (r : Tree) (q : TermRest) → HasRoom v before → IsRight b (row_of (pair_of pat)) v high r → length (held r) ≤ 8 → (b ≡ false → q ≡ rests.Var → ⊥) → Blames stop room before (inner another [] r ∷ inner another [] (leaf (rest q)) ∷ [])) → At b pat_part v room stop before 0x23
  map_pattern-at f l high (node map_pattern ts) g w =
      let p = two b (row_of (pair_of pat)) a_rest v [] high ts g.fits.1 (omega (arith, g.low)) (kids-short map_pattern ts g.short) g.free in
      let x = rest-of p.second p.other in
      let is : ts ≡ also p.first (also (leaf (rest x.kind)) none) = p.is ∙ ap (λ (u : Tree). also p.first (also u none)) x.is in
      let few : length (held p.first) ≤ 8 = subst (λ (us : Trees). length (held (at 0 (listed us))) ≤ 8) p.is g.fits.0 in
      subst (λ (us : Trees). Blames stop room (0x23 ∷ before) (items (node map_pattern us))) (sym is) (tag-passed 0x23 _ (f high p.first x.kind (after-tag 0x23 l) p.one few x.free))
  map_pattern-at f l high (node dict ts) g w = absurd g.fits.1
  map_pattern-at f l high (node _ ts) g w = absurd (omega arith)

  pub send_pattern-at : ((high : ℕ) (q : Bool) (a r : Tree) → HasRoom v before → IsRight b name_pat v high a → IsRight b (row_of pat) v high r → Blames stop room before (field (byte_of q ∷ []) ∷ inner another [] a ∷ inner another [] r ∷ [])) → At b pat_part v room stop before 0x30
  send_pattern-at f l high (node (send q) ts) g w =
      let p = two b name_pat (row_of pat) v [] high ts g.fits.1 (omega (arith, g.low)) (kids-short (send q) ts g.short) g.free in
      subst (λ (us : Trees). Blames stop room (0x30 ∷ before) (items (node (send q) us))) (sym p.is) (tag-passed 0x30 _ (f high q p.first p.second (after-tag 0x30 l) p.one p.other))
  send_pattern-at f l high (node _ ts) g w = absurd (omega arith)

  pub bundle_pattern-at : ((high : ℕ) (r : Rights) (a : Tree) → HasRoom v before → IsRight false pat v high a → Blames stop room before (field (rights_number r ∷ []) ∷ inner another [] a ∷ [])) → At b pat_part v room stop before 0x34
  bundle_pattern-at f l high (node (bundle r) ts) g w =
      let p = one false pat v [] high ts g.fits.1 (omega (arith, g.low)) (kids-short (bundle r) ts g.short) (λ q. g.fits.0) in
      subst (λ (us : Trees). Blames stop room (0x34 ∷ before) (items (node (bundle r) us))) (sym p.is) (tag-passed 0x34 _ (f high r p.first (after-tag 0x34 l) p.one))
  bundle_pattern-at f l high (node _ ts) g w = absurd (omega arith)

  pub same-at : ((high : ℕ) (a : Tree) → HasRoom v before → IsRight true term v high a → Blames stop room before (inner another [] a ∷ [])) → At b pat_part v room stop before 0x53
  same-at f l high (node same ts) g w =
      let p = one true term v [] high ts g.fits.1 (omega (arith, g.low)) (kids-short same ts g.short) (λ q. absurd (no_false q)) in
      subst (λ (us : Trees). Blames stop room (0x53 ∷ before) (items (node same us))) (sym p.is) (tag-passed 0x53 _ (f high p.first (after-tag 0x53 l) p.one))
  same-at f l high (node _ ts) g w = absurd (omega arith)

  pub both-at : ((high : ℕ) (a c : Tree) → HasRoom v before → IsRight b pat v high a → IsRight b pat v high c → Blames stop room before (inner another [] a ∷ inner another [] c ∷ [])) → At b pat_part v room stop before 0x54
  both-at f l high (node both ts) g w =
      let p = two b pat pat v [] high ts g.fits.1 (omega (arith, g.low)) (kids-short both ts g.short) g.free in
      subst (λ (us : Trees). Blames stop room (0x54 ∷ before) (items (node both us))) (sym p.is) (tag-passed 0x54 _ (f high p.first p.second (after-tag 0x54 l) p.one p.other))
  both-at f l high (node _ ts) g w = absurd (omega arith)

  pub either-at : ((high : ℕ) (a c : Tree) → HasRoom v before → IsRight false pat v high a → IsRight false pat v high c → Blames stop room before (inner another [] a ∷ inner another [] c ∷ [])) → At b pat_part v room stop before 0x55
  either-at f l high (node either ts) g w =
      let p = two false pat pat v [] high ts g.fits.1 (omega (arith, g.low)) (kids-short either ts g.short) (λ q. g.fits.0) in
      subst (λ (us : Trees). Blames stop room (0x55 ∷ before) (items (node either us))) (sym p.is) (tag-passed 0x55 _ (f high p.first p.second (after-tag 0x55 l) p.one p.other))
  either-at f l high (node _ ts) g w = absurd (omega arith)

  pub not_this-at : ((high : ℕ) (a : Tree) → HasRoom v before → IsRight false pat v high a → Blames stop room before (inner another [] a ∷ [])) → At b pat_part v room stop before 0x56
  not_this-at f l high (node not_this ts) g w =
      let p = one false pat v [] high ts g.fits.1 (omega (arith, g.low)) (kids-short not_this ts g.short) (λ q. g.fits.0) in
      subst (λ (us : Trees). Blames stop room (0x56 ∷ before) (items (node not_this us))) (sym p.is) (tag-passed 0x56 _ (f high p.first (after-tag 0x56 l) p.one))
  not_this-at f l high (node _ ts) g w = absurd (omega arith)
