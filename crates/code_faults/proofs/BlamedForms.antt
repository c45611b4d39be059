-- Blamed places in parts of processes, form by form.
use Rattle.std.proofs.Common.{◌≡◌, ℕ, ◌<◌, ◌≤◌, ◌+◌, ◌^◌, List, [], ◌∷◌, ◌++◌, map, length, refl, ap, sym, ◌∙◌, subst, arith, reverse, append-nil, length-append}
use Rattle.std.specs.Prelude.{Bool, true}
use Rattle.calculus.specs.Tree.{list, tuple, set, dict, send, receive, new, match, bundle, unary, binary, method, list_pattern, set_pattern, map_pattern, Tree, node, Trees}
use Rattle.calculus.specs.Kinds.{kind_number, rights_number, unary_op_number, binary_op_number, origin_number}
use Rattle.calculus.specs.declared.plain.Kind.{Kind}
use Rattle.calculus.specs.declared.plain.Rights.{Rights}
use Rattle.calculus.specs.declared.plain.UnaryOp.{UnaryOp}
use Rattle.calculus.specs.declared.plain.BinaryOp.{BinaryOp}
use Rattle.calculus.specs.declared.plain.Origin.{Origin}
use Rattle.calculus.specs.Bytes.{be32}
use Rattle.calculus.specs.Shape.{listed, at, held}
use Rattle.calculus.specs.Code.{byte_of}
use Rattle.calculus.specs.Form.{Sort, term, part, a_bind, a_case, row_of, pair_of, Scope}
use Rattle.calculus.specs.Variables.{Sense, a_name, bound, bound_all}
use Rattle.calculus.proofs.Splitting.{kids-short}
use Rattle.calculus.proofs.Formed.{length-code}
use Rattle.calculus.proofs.Tails.{length-text}
use Rattle.calculus.proofs.Known.{own_bytes}
use Rattle.code_faults.specs.declared.fault.ReadFault.{ReadFault}
use Rattle.code_faults.specs.declared.sort.TextKind.TheVariants as kind
use Rattle.code_faults.specs.Texts.{HasForm}
use Rattle.code_faults.specs.Refusing.{IsRight, AreRight, HasRoom}
use Rattle.code_faults.specs.Places.{another, Item, field, name_length, inner, items, Stop}
use Rattle.code_faults.specs.Blaming.{Blames, Wrong, InTree, InRow, InBag}
use Rattle.calculus.proofs.ListCodes.{length-map}
use Rattle.code_faults.proofs.Kids.{no_false, one, two, count-right}
use Rattle.code_faults.proofs.Forms.{no_variables}
use Rattle.code_faults.proofs.Tags.{tag_of, after-tag}
use Rattle.code_faults.proofs.Blaming.{tag-passed, behind, raised, level}
use Rattle.code_faults.proofs.BlamedTags.{by-tag_blamed, raises, tag-raises}

-- origins, each a field
pub origin-items : (ps : List Origin) → map (λ (o : Origin). field (origin_number o ∷ [])) ps ≡ map field (map (λ (o : Origin). origin_number o ∷ []) ps)
origin-items [] = refl
origin-items (o ∷ ps) = ap (λ (is : List Item). field (origin_number o ∷ []) ∷ is) (origin-items ps)

-- the place in a form of this tag, behind the tag
abbrev pub At : Bool → Sort → Scope → ℕ → Stop → List ℕ → ℕ → Type 0
At b s v room stop before k = HasRoom v (k ∷ before) → (high : ℕ) → (t : Tree) → IsRight b s v high t → tag_of t ≡ k → Blames stop room (k ∷ before) (items t)

-- a fault behind the tag of a form and more bytes
pub under : {b : Bool} {s : Sort} {v : Scope} {room : ℕ} {e : ReadFault} {bs next : List ℕ} (P : Stop → List ℕ → Type 0) (k : ℕ) (a : List ℕ) → own_bytes s ≡ 1 → raises k ≡ 1 → bs ≡ a ++ next
    → ((stop : Stop) (before : List ℕ) → P stop before → At b s v room stop (a ++ before) k) → Wrong P e next → Wrong (InTree b s v (room + 1)) e (k ∷ bs)
under {b = b} {s = s} {v = v} {room = room} {e = e} P k a o r is f h =
    behind P (InTree b s v (room + 1)) e (k ∷ a) (ap (λ (z : List ℕ). k ∷ z) is)
    (λ stop before j. by-tag_blamed o k stop (a ++ before) (λ l high t g w. raised t (tag-raises s v t o g.fits ∙ ap raises w ∙ r) (f stop before j l high t g w))) h

-- and behind that of a leaf
pub under-leaf : {b : Bool} {s : Sort} {v : Scope} {room : ℕ} {e : ReadFault} {bs next : List ℕ} (P : Stop → List ℕ → Type 0) (k : ℕ) (a : List ℕ) → own_bytes s ≡ 1 → raises k ≡ 0 → bs ≡ a ++ next
    → ((stop : Stop) (before : List ℕ) → P stop before → At b s v room stop (a ++ before) k) → Wrong P e next → Wrong (InTree b s v room) e (k ∷ bs)
under-leaf {b = b} {s = s} {v = v} {room = room} {e = e} P k a o r is f h =
    behind P (InTree b s v room) e (k ∷ a) (ap (λ (z : List ℕ). k ∷ z) is)
    (λ stop before j. by-tag_blamed o k stop (a ++ before) (λ l high t g w. level t (tag-raises s v t o g.fits ∙ ap raises w ∙ r) (f stop before j l high t g w))) h

module _ {v : Scope} {room : ℕ} {stop : Stop} {before : List ℕ} where
  pub list-at : InRow true term v room 0 0xFFFFFFFF stop before → At true part v room stop before 0x20
  list-at h l high (node list ts) g w =
      let r : AreRight true term v high ts = record { fits = g.fits.1; low = omega (arith, g.low); short = kids-short list ts g.short; free = λ q. absurd (no_false q) } in
      tag-passed 0x20 _ (h.no (after-tag 0x20 l) high ts r (omega arith) (omega (arith, count-right ts r)))
  list-at h l high (node list_pattern ts) g w = absurd g.fits.1
  list-at h l high (node _ ts) g w = absurd (omega arith)

  pub tuple-at : InRow true term v room 1 0xFFFFFFFF stop before → At true part v room stop before 0x21
  tuple-at h l high (node tuple ts) g w =
      let r : AreRight true term v high ts = record { fits = g.fits.1; low = omega (arith, g.low); short = kids-short tuple ts g.short; free = λ q. absurd (no_false q) } in
      tag-passed 0x21 _ (h.no (after-tag 0x21 l) high ts r g.fits.0 (omega (arith, count-right ts r)))
  tuple-at h l high (node _ ts) g w = absurd (omega arith)

  pub set-at : InBag term v room stop before → At true part v room stop before 0x22
  set-at h l high (node set ts) g w =
      let r : AreRight true term v high ts = record { fits = g.fits.1; low = omega (arith, g.low); short = kids-short set ts g.short; free = λ q. absurd (no_false q) } in
      tag-passed 0x22 _ (h.no (after-tag 0x22 l) high ts r)
  set-at h l high (node set_pattern ts) g w = absurd g.fits.1
  set-at h l high (node _ ts) g w = absurd (omega arith)

  pub map-at : InBag (pair_of term) v room stop before → At true part v room stop before 0x23
  map-at h l high (node dict ts) g w =
      let r : AreRight true (pair_of term) v high ts = record { fits = g.fits.1; low = omega (arith, g.low); short = kids-short dict ts g.short; free = λ q. absurd (no_false q) } in
      tag-passed 0x23 _ (h.no (after-tag 0x23 l) high ts r)
  map-at h l high (node map_pattern ts) g w = absurd g.fits.1
  map-at h l high (node _ ts) g w = absurd (omega arith)

  pub send-at : ((high : ℕ) (q : Bool) (a r : Tree) → HasRoom v before → IsRight true term v high a → IsRight true (row_of term) v high r → Blames stop room before (field (byte_of q ∷ []) ∷ inner another [] a ∷ inner another [] r ∷ [])) → At true part v room stop before 0x30
  send-at k l high (node (send q) ts) g w =
      let p = two true term (row_of term) v [] high ts g.fits.1 (omega (arith, g.low)) (kids-short (send q) ts g.short) g.free in
      subst (λ (us : Trees). Blames stop room (0x30 ∷ before) (items (node (send q) us))) (sym p.is) (tag-passed 0x30 _ (k high q p.first p.second (after-tag 0x30 l) p.one p.other))
  send-at k l high (node _ ts) g w = absurd (omega arith)

  pub receive-at : ((high : ℕ) (k : Kind) (r body : Tree) → HasRoom v before → IsRight true (row_of a_bind) v high r → IsRight true term (reverse (bound r) ++ v) high body → 1 ≤ length (held r) → length (held r) ≤ 16
      → Blames stop room before (field (kind_number k ∷ []) ∷ inner another [] r ∷ inner another [] body ∷ [])) → At true part v room stop before 0x31
  receive-at f l high (node (receive k) ts) g w =
      let p = two true (row_of a_bind) term v (reverse (bound_all ts)) high ts g.fits.1 (omega (arith, g.low)) (kids-short (receive k) ts g.short) (λ q. absurd (no_false q)) in
      let n : bound_all ts ≡ bound p.first = ap bound_all p.is ∙ ap (λ (vs : List Sense). bound p.first ++ (vs ++ [])) (no_variables (reverse (bound_all ts) ++ v) p.second p.other.fits) ∙ append-nil (bound p.first) in
      let body : IsRight true term (reverse (bound p.first) ++ v) high p.second = subst (λ (vs : List Sense). IsRight true term (reverse vs ++ v) high p.second) n p.other in
      let some : 1 ≤ length (held p.first) = subst (λ (us : Trees). 1 ≤ length (held (at 0 (listed us)))) p.is g.fits.0.0 in
      let few : length (held p.first) ≤ 16 = subst (λ (us : Trees). length (held (at 0 (listed us))) ≤ 16) p.is g.fits.0.1 in
      subst (λ (us : Trees). Blames stop room (0x31 ∷ before) (items (node (receive k) us))) (sym p.is) (tag-passed 0x31 _ (f high k p.first p.second (after-tag 0x31 l) p.one body some few))
  receive-at f l high (node _ ts) g w = absurd (omega arith)

  pub new-at : ((high : ℕ) (os : List Origin) (body : Tree) → HasRoom v before → 1 ≤ length os → length os < 2 ^ 32 → IsRight true term (reverse (map (λ (o : Origin). a_name) os) ++ v) high body
      → Blames stop room before ((field (be32 (length os)) ∷ map (λ o. field (origin_number o ∷ [])) os) ++ inner another [] body ∷ [])) → At true part v room stop before 0x32
  new-at f l high (node (new os) ts) g w =
      let p = one true term v (reverse (map (λ (o : Origin). a_name) os)) high ts g.fits.1 (omega (arith, g.low)) (kids-short (new os) ts g.short) (λ q. absurd (no_false q)) in
      let few : length os < 2 ^ 32 = omega (arith, g.short, length-code (new os) ts, length-append (be32 (length os)) (map origin_number os), length-map origin_number os) in
      subst (λ (us : Trees). Blames stop room (0x32 ∷ before) (items (node (new os) us))) (sym p.is)
      (subst (λ (is : List Item). Blames stop room (0x32 ∷ before) (field (0x32 ∷ []) ∷ field (be32 (length os)) ∷ (is ++ inner another [] p.first ∷ []))) (origin-items os)
      (tag-passed 0x32 _ (f high os p.first (after-tag 0x32 l) g.fits.0 few p.one)))
  new-at f l high (node _ ts) g w = absurd (omega arith)

  pub match-at : ((high : ℕ) (a r : Tree) → HasRoom v before → IsRight true term v high a → IsRight true (row_of a_case) v high r → 1 ≤ length (held r) → Blames stop room before (inner another [] a ∷ inner another [] r ∷ [])) → At true part v room stop before 0x33
  match-at f l high (node match ts) g w =
      let p = two true term (row_of a_case) v [] high ts g.fits.1 (omega (arith, g.low)) (kids-short match ts g.short) (λ q. absurd (no_false q)) in
      let some : 1 ≤ length (held p.second) = subst (λ (us : Trees). 1 ≤ length (held (at 1 (listed us)))) p.is g.fits.0 in
      subst (λ (us : Trees). Blames stop room (0x33 ∷ before) (items (node match us))) (sym p.is) (tag-passed 0x33 _ (f high p.first p.second (after-tag 0x33 l) p.one p.other some))
  match-at f l high (node _ ts) g w = absurd (omega arith)

  pub bundle-at : ((high : ℕ) (r : Rights) (a : Tree) → HasRoom v before → IsRight true term v high a → Blames stop room before (field (rights_number r ∷ []) ∷ inner another [] a ∷ [])) → At true part v room stop before 0x34
  bundle-at f l high (node (bundle r) ts) g w =
      let p = one true term v [] high ts g.fits.1 (omega (arith, g.low)) (kids-short (bundle r) ts g.short) (λ q. absurd (no_false q)) in
      subst (λ (us : Trees). Blames stop room (0x34 ∷ before) (items (node (bundle r) us))) (sym p.is) (tag-passed 0x34 _ (f high r p.first (after-tag 0x34 l) p.one))
  bundle-at f l high (node _ ts) g w = absurd (omega arith)

  pub unary-at : ((high : ℕ) (o : UnaryOp) (a : Tree) → HasRoom v before → IsRight true term v high a → Blames stop room before (field (unary_op_number o ∷ []) ∷ inner another [] a ∷ [])) → At true part v room stop before 0x40
  unary-at f l high (node (unary o) ts) g w =
      let p = one true term v [] high ts g.fits.1 (omega (arith, g.low)) (kids-short (unary o) ts g.short) (λ q. absurd (no_false q)) in
      subst (λ (us : Trees). Blames stop room (0x40 ∷ before) (items (node (unary o) us))) (sym p.is) (tag-passed 0x40 _ (f high o p.first (after-tag 0x40 l) p.one))
  unary-at f l high (node _ ts) g w = absurd (omega arith)

  pub binary-at : ((high : ℕ) (o : BinaryOp) (a c : Tree) → HasRoom v before → IsRight true term v high a → IsRight true term v high c → Blames stop room before (field (binary_op_number o ∷ []) ∷ inner another [] a ∷ inner another [] c ∷ [])) → At true part v room stop before 0x41
  binary-at f l high (node (binary o) ts) g w =
      let p = two true term term v [] high ts g.fits.1 (omega (arith, g.low)) (kids-short (binary o) ts g.short) (λ q. absurd (no_false q)) in
      subst (λ (us : Trees). Blames stop room (0x41 ∷ before) (items (node (binary o) us))) (sym p.is) (tag-passed 0x41 _ (f high o p.first p.second (after-tag 0x41 l) p.one p.other))
  binary-at f l high (node _ ts) g w = absurd (omega arith)

  pub method-at : ((high : ℕ) (n : List ℕ) (a r : Tree) → HasRoom v before → HasForm kind.Word n → length n < 2 ^ 32 → IsRight true term v high a → IsRight true (row_of term) v high r
      → Blames stop room before (name_length (length n) ∷ field n ∷ inner another [] a ∷ inner another [] r ∷ [])) → At true part v room stop before 0x42
  method-at f l high (node (method n) ts) g w =
      let p = two true term (row_of term) v [] high ts g.fits.1 (omega (arith, g.low)) (kids-short (method n) ts g.short) (λ q. absurd (no_false q)) in
      let few : length n < 2 ^ 32 = omega (arith, g.short, length-code (method n) ts, length-text n) in
      subst (λ (us : Trees). Blames stop room (0x42 ∷ before) (items (node (method n) us))) (sym p.is) (tag-passed 0x42 _ (f high n p.first p.second (after-tag 0x42 l) g.fits.0 few p.one p.other))
  method-at f l high (node _ ts) g w = absurd (omega arith)
