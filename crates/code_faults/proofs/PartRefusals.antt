-- Refused parts of processes, form by form: what the bytes after the tag have to be denied.
use Rattle.std.proofs.Common.{◌≡◌, ℕ, ◌<◌, ◌≤◌, ◌+◌, ◌^◌, List, [], ◌∷◌, ◌++◌, map, length, refl, ap, sym, ◌∙◌, subst, arith, reverse, append-nil, length-append}
use Rattle.std.specs.Prelude.{Bool, true}
use Rattle.calculus.specs.Tree.{list, tuple, set, dict, send, receive, new, match, bundle, unary, binary, method, list_pattern, set_pattern, map_pattern, Tree, node, Trees}
use Rattle.calculus.specs.Kinds.{kind_number, rights_number, unary_op_number, binary_op_number, origin_number}
use Rattle.calculus.specs.declared.plain.Kind.{Kind}
use Rattle.calculus.specs.declared.plain.Rights.{Rights}
use Rattle.calculus.specs.declared.plain.UnaryOp.{UnaryOp}
use Rattle.calculus.specs.declared.plain.BinaryOp.{BinaryOp}
use Rattle.calculus.specs.declared.plain.Origin.{Origin}
use Rattle.calculus.specs.Bytes.{be32}
use Rattle.calculus.specs.Shape.{listed, at, held}
use Rattle.calculus.specs.Code.{byte_of, text, code}
use Rattle.calculus.specs.Form.{term, part, a_bind, a_case, row_of, pair_of, Scope}
use Rattle.calculus.specs.Variables.{Sense, a_name, bound, bound_all}
use Rattle.calculus.proofs.Splitting.{kids-short}
use Rattle.calculus.proofs.Formed.{length-code}
use Rattle.calculus.proofs.Tails.{length-text}
use Rattle.code_faults.specs.declared.sort.TextKind.TheVariants as kind
use Rattle.code_faults.specs.Texts.{HasForm}
use Rattle.code_faults.specs.declared.fault.ReadFault.{ReadFault}
use Rattle.code_faults.specs.Refusing.{Denies, IsRight, AreRight, HasRoom, Refuses, RefusesRow, RefusesBag}
use Rattle.code_faults.proofs.Denying.{tag-next}
use Rattle.code_faults.proofs.Kids.{no_false, one, two, count-right}
use Rattle.calculus.proofs.ListCodes.{length-map}
use Rattle.code_faults.proofs.Forms.{no_variables}
use Rattle.code_faults.proofs.Tags.{by-tag, Of, after-tag}

module _ {v : Scope} {room : ℕ} {e : ReadFault} (bs : List ℕ) where
  pub list-refused : RefusesRow true term v room 0 0xFFFFFFFF e bs → Refuses true part v (room + 1) e (0x20 ∷ bs)
  list-refused h = by-tag 0x20 bs refl (λ l t. go t l)
    where
      go : (t : Tree) → Of true part v (room + 1) e bs 0x20 t
      go (node list ts) l g w =
          let r : AreRight true term v room ts = record { fits = g.fits.1; low = omega (arith, g.low); short = kids-short list ts g.short; free = λ q. absurd (no_false q) } in
          tag-next 0x20 _ (h.no (after-tag 0x20 l) ts r (omega arith) (omega (arith, count-right ts r)))
      go (node list_pattern ts) l g w = absurd g.fits.1
      go (node _ ts) l g w = absurd (omega arith)

  pub tuple-refused : RefusesRow true term v room 1 0xFFFFFFFF e bs → Refuses true part v (room + 1) e (0x21 ∷ bs)
  tuple-refused h = by-tag 0x21 bs refl (λ l t. go t l)
    where
      go : (t : Tree) → Of true part v (room + 1) e bs 0x21 t
      go (node tuple ts) l g w =
          let r : AreRight true term v room ts = record { fits = g.fits.1; low = omega (arith, g.low); short = kids-short tuple ts g.short; free = λ q. absurd (no_false q) } in
          tag-next 0x21 _ (h.no (after-tag 0x21 l) ts r g.fits.0 (omega (arith, count-right ts r)))
      go (node _ ts) l g w = absurd (omega arith)

  pub set-refused : RefusesBag term v room e bs → Refuses true part v (room + 1) e (0x22 ∷ bs)
  set-refused h = by-tag 0x22 bs refl (λ l t. go t l)
    where
      go : (t : Tree) → Of true part v (room + 1) e bs 0x22 t
      go (node set ts) l g w =
          let r : AreRight true term v room ts = record { fits = g.fits.1; low = omega (arith, g.low); short = kids-short set ts g.short; free = λ q. absurd (no_false q) } in
          tag-next 0x22 _ (h.no (after-tag 0x22 l) ts r)
      go (node set_pattern ts) l g w = absurd g.fits.1
      go (node _ ts) l g w = absurd (omega arith)

  pub map-refused : RefusesBag (pair_of term) v room e bs → Refuses true part v (room + 1) e (0x23 ∷ bs)
  map-refused h = by-tag 0x23 bs refl (λ l t. go t l)
    where
      go : (t : Tree) → Of true part v (room + 1) e bs 0x23 t
      go (node dict ts) l g w =
          let r : AreRight true (pair_of term) v room ts = record { fits = g.fits.1; low = omega (arith, g.low); short = kids-short dict ts g.short; free = λ q. absurd (no_false q) } in
          tag-next 0x23 _ (h.no (after-tag 0x23 l) ts r)
      go (node map_pattern ts) l g w = absurd g.fits.1
      go (node _ ts) l g w = absurd (omega arith)

  pub send-refused : ((q : Bool) (a r : Tree) → HasRoom v bs → IsRight true term v room a → IsRight true (row_of term) v room r → Denies e bs (byte_of q ∷ (code a ++ (code r ++ [])))) → Refuses true part v (room + 1) e (0x30 ∷ bs)
  send-refused k = by-tag 0x30 bs refl (λ l t. go t l)
    where
      go : (t : Tree) → Of true part v (room + 1) e bs 0x30 t
      go (node (send q) ts) l g w =
          let p = two true term (row_of term) v [] room ts g.fits.1 (omega (arith, g.low)) (kids-short (send q) ts g.short) g.free in
          subst (λ (us : Trees). Denies e (0x30 ∷ bs) (code (node (send q) us))) (sym p.is) (tag-next 0x30 _ (k q p.first p.second (after-tag 0x30 l) p.one p.other))
      go (node _ ts) l g w = absurd (omega arith)

  pub receive-refused : ((k : Kind) (r body : Tree) → HasRoom v bs → IsRight true (row_of a_bind) v room r → IsRight true term (reverse (bound r) ++ v) room body → 1 ≤ length (held r) → length (held r) ≤ 16
      → Denies e bs (kind_number k ∷ (code r ++ (code body ++ [])))) → Refuses true part v (room + 1) e (0x31 ∷ bs)
  receive-refused f = by-tag 0x31 bs refl (λ l t. go t l)
    where
      go : (t : Tree) → Of true part v (room + 1) e bs 0x31 t
      go (node (receive k) ts) l g w =
          let p = two true (row_of a_bind) term v (reverse (bound_all ts)) room ts g.fits.1 (omega (arith, g.low)) (kids-short (receive k) ts g.short) (λ q. absurd (no_false q)) in
          let n : bound_all ts ≡ bound p.first = ap bound_all p.is ∙ ap (λ (vs : List Sense). bound p.first ++ (vs ++ [])) (no_variables (reverse (bound_all ts) ++ v) p.second p.other.fits) ∙ append-nil (bound p.first) in
          let body : IsRight true term (reverse (bound p.first) ++ v) room p.second = subst (λ (vs : List Sense). IsRight true term (reverse vs ++ v) room p.second) n p.other in
          let some : 1 ≤ length (held p.first) = subst (λ (us : Trees). 1 ≤ length (held (at 0 (listed us)))) p.is g.fits.0.0 in
          let few : length (held p.first) ≤ 16 = subst (λ (us : Trees). length (held (at 0 (listed us))) ≤ 16) p.is g.fits.0.1 in
          subst (λ (us : Trees). Denies e (0x31 ∷ bs) (code (node (receive k) us))) (sym p.is) (tag-next 0x31 _ (f k p.first p.second (after-tag 0x31 l) p.one body some few))
      go (node _ ts) l g w = absurd (omega arith)

  pub new-refused : ((os : List Origin) (body : Tree) → HasRoom v bs → 1 ≤ length os → length os < 2 ^ 32 → IsRight true term (reverse (map (λ (o : Origin). a_name) os) ++ v) room body
      → Denies e bs ((be32 (length os) ++ map origin_number os) ++ (code body ++ []))) → Refuses true part v (room + 1) e (0x32 ∷ bs)
  new-refused f = by-tag 0x32 bs refl (λ l t. go t l)
    where
      go : (t : Tree) → Of true part v (room + 1) e bs 0x32 t
      go (node (new os) ts) l g w =
          let p = one true term v (reverse (map (λ (o : Origin). a_name) os)) room ts g.fits.1 (omega (arith, g.low)) (kids-short (new os) ts g.short) (λ q. absurd (no_false q)) in
          let few : length os < 2 ^ 32 = omega (arith, g.short, length-code (new os) ts, length-append (be32 (length os)) (map origin_number os), length-map origin_number os) in
          subst (λ (us : Trees). Denies e (0x32 ∷ bs) (code (node (new os) us))) (sym p.is) (tag-next 0x32 _ (f os p.first (after-tag 0x32 l) g.fits.0 few p.one))
      go (node _ ts) l g w = absurd (omega arith)

  pub match-refused : ((a r : Tree) → HasRoom v bs → IsRight true term v room a → IsRight true (row_of a_case) v room r → 1 ≤ length (held r) → Denies e bs (code a ++ (code r ++ []))) → Refuses true part v (room + 1) e (0x33 ∷ bs)
  match-refused f = by-tag 0x33 bs refl (λ l t. go t l)
    where
      go : (t : Tree) → Of true part v (room + 1) e bs 0x33 t
      go (node match ts) l g w =
          let p = two true term (row_of a_case) v [] room ts g.fits.1 (omega (arith, g.low)) (kids-short match ts g.short) (λ q. absurd (no_false q)) in
          let some : 1 ≤ length (held p.second) = subst (λ (us : Trees). 1 ≤ length (held (at 1 (listed us)))) p.is g.fits.0 in
          subst (λ (us : Trees). Denies e (0x33 ∷ bs) (code (node match us))) (sym p.is) (tag-next 0x33 _ (f p.first p.second (after-tag 0x33 l) p.one p.other some))
      go (node _ ts) l g w = absurd (omega arith)

  pub bundle-refused : ((r : Rights) (a : Tree) → HasRoom v bs → IsRight true term v room a → Denies e bs (rights_number r ∷ (code a ++ []))) → Refuses true part v (room + 1) e (0x34 ∷ bs)
  bundle-refused f = by-tag 0x34 bs refl (λ l t. go t l)
    where
      go : (t : Tree) → Of true part v (room + 1) e bs 0x34 t
      go (node (bundle r) ts) l g w =
          let p = one true term v [] room ts g.fits.1 (omega (arith, g.low)) (kids-short (bundle r) ts g.short) (λ q. absurd (no_false q)) in
          subst (λ (us : Trees). Denies e (0x34 ∷ bs) (code (node (bundle r) us))) (sym p.is) (tag-next 0x34 _ (f r p.first (after-tag 0x34 l) p.one))
      go (node _ ts) l g w = absurd (omega arith)

  pub unary-refused : ((o : UnaryOp) (a : Tree) → HasRoom v bs → IsRight true term v room a → Denies e bs (unary_op_number o ∷ (code a ++ []))) → Refuses true part v (room + 1) e (0x40 ∷ bs)
  unary-refused f = by-tag 0x40 bs refl (λ l t. go t l)
    where
      go : (t : Tree) → Of true part v (room + 1) e bs 0x40 t
      go (node (unary o) ts) l g w =
          let p = one true term v [] room ts g.fits.1 (omega (arith, g.low)) (kids-short (unary o) ts g.short) (λ q. absurd (no_false q)) in
          subst (λ (us : Trees). Denies e (0x40 ∷ bs) (code (node (unary o) us))) (sym p.is) (tag-next 0x40 _ (f o p.first (after-tag 0x40 l) p.one))
      go (node _ ts) l g w = absurd (omega arith)

  pub binary-refused : ((o : BinaryOp) (a c : Tree) → HasRoom v bs → IsRight true term v room a → IsRight true term v room c → Denies e bs (binary_op_number o ∷ (code a ++ (code c ++ [])))) → Refuses true part v (room + 1) e (0x41 ∷ bs)
  binary-refused f = by-tag 0x41 bs refl (λ l t. go t l)
    where
      go : (t : Tree) → Of true part v (room + 1) e bs 0x41 t
      go (node (binary o) ts) l g w =
          let p = two true term term v [] room ts g.fits.1 (omega (arith, g.low)) (kids-short (binary o) ts g.short) (λ q. absurd (no_false q)) in
          subst (λ (us : Trees). Denies e (0x41 ∷ bs) (code (node (binary o) us))) (sym p.is) (tag-next 0x41 _ (f o p.first p.second (after-tag 0x41 l) p.one p.other))
      go (node _ ts) l g w = absurd (omega arith)

  pub method-refused : ((n : List ℕ) (a r : Tree) → HasRoom v bs → HasForm kind.Word n → length n < 2 ^ 32 → IsRight true term v room a → IsRight true (row_of term) v room r → Denies e bs (text n ++ (code a ++ (code r ++ [])))) → Refuses true part v (room + 1) e (0x42 ∷ bs)
  method-refused f = by-tag 0x42 bs refl (λ l t. go t l)
    where
      go : (t : Tree) → Of true part v (room + 1) e bs 0x42 t
      go (node (method n) ts) l g w =
          let p = two true term (row_of term) v [] room ts g.fits.1 (omega (arith, g.low)) (kids-short (method n) ts g.short) (λ q. absurd (no_false q)) in
          let few : length n < 2 ^ 32 = omega (arith, g.short, length-code (method n) ts, length-text n) in
          subst (λ (us : Trees). Denies e (0x42 ∷ bs) (code (node (method n) us))) (sym p.is) (tag-next 0x42 _ (f n p.first p.second (after-tag 0x42 l) g.fits.0 few p.one p.other))
      go (node _ ts) l g w = absurd (omega arith)
