-- Forms of processes that are cut: at each of their fields.
use Rattle.std.proofs.Common.{◌≡◌, ℕ, ◌≤◌, ◌+◌, List, [], ◌∷◌, ◌++◌, map, length, refl, ap, sym, ◌∙◌, subst, arith, append-nil, inl, inr}
use Rattle.std.specs.Prelude.{Bool, true, false, reverse}
use Rattle.calculus.specs.Tree.{bool, par, row, list, tuple, set, dict, send, receive, new, match, bundle, unary, binary, method, fresh, var, name_var, Tree, node, Trees, none, also, trees}
use Rattle.calculus.specs.Kinds.{kind_number, rights_number, unary_op_number, binary_op_number, origin_number}
use Rattle.calculus.specs.declared.plain.Kind.{Kind}
use Rattle.calculus.specs.declared.plain.Kind.TheVariants as kinds
use Rattle.calculus.specs.declared.plain.Rights.{Rights}
use Rattle.calculus.specs.declared.plain.Rights.TheVariants as rights
use Rattle.calculus.specs.declared.plain.UnaryOp.{UnaryOp}
use Rattle.calculus.specs.declared.plain.UnaryOp.TheVariants as unary_ops
use Rattle.calculus.specs.declared.plain.BinaryOp.{BinaryOp}
use Rattle.calculus.specs.declared.plain.BinaryOp.TheVariants as binary_ops
use Rattle.calculus.specs.declared.plain.Origin.{Origin}
use Rattle.calculus.specs.Size.{height}
use Rattle.calculus.specs.Bytes.{be32, joined}
use Rattle.calculus.specs.Order.{sorted}
use Rattle.calculus.specs.Shape.{count, listed, leaf, one, two, many}
use Rattle.calculus.specs.Code.{byte_of, text, code, codes}
use Rattle.calculus.specs.Form.{Sort, term, part, a_bind, a_case, row_of, pair_of, Scope, Fits, IsDigest}
use Rattle.calculus.specs.Variables.{Sense, a_process, a_name, bound, bound_all}
use Rattle.calculus.proofs.ListCodes.{sorted-ascending}
use Rattle.code_faults.specs.declared.sort.TextKind.TheVariants as kind
use Rattle.code_faults.specs.Texts.{HasForm}
use Rattle.code_faults.specs.Reading.{Reads}
use Rattle.code_faults.specs.Beginning.{Cuts, Begun, BegunRow, BegunBag, BegunOrigins, BegunText, BegunVariable}
use Rattle.code_faults.proofs.Forms.{listed-trees, no_variables}
use Rattle.code_faults.proofs.Begins.{first-cut, next-cut, byte-cut, read-cut, none-cut, some-bind, some-case}

pub true-false : true ≡ false → ⊥
true-false e = cc

pub count-held : (ts : Trees) → length (listed ts) ≡ count ts
count-held none = refl
count-held (also t ts) = omega (arith, count-held ts)

-- a form of a process whose code, after its tag, is cut
pub tagged : {v : Scope} {room : ℕ} {bs after : List ℕ} (t : Tree) (tag : ℕ) (rest : List ℕ) → Fits part v t → height t ≤ room → code t ≡ tag ∷ rest → Cuts bs rest after → Begun true part v room (tag ∷ bs) after
tagged {bs = bs} {after = after} t tag rest f l e c = record { tree = t; fits = f; low = l; free = λ q. absurd (true-false q); cut = subst (λ (z : List ℕ). Cuts (tag ∷ bs) z after) (sym e) (byte-cut tag refl c) }

-- bytes are a word that is no key
abbrev Named : List ℕ → Type 0
Named s = HasForm kind.Word s

abbrev sorted-code : Trees → List ℕ
sorted-code ts = be32 (count ts) ++ joined (sorted (codes ts))

module _ {v : Scope} {room : ℕ} {bs after : List ℕ} where
  bag-cut : (h : BegunBag part v room bs after) → Cuts bs (sorted-code h.trees) after
  bag-cut h = subst (λ (cs : List (List ℕ)). Cuts bs (be32 (count h.trees) ++ joined cs) after) (sym (sorted-ascending (codes h.trees) h.up)) h.cut

  pub term-begun : BegunBag part v room bs after → Begun true term v room bs after
  term-begun h = record { tree = node par h.trees; fits = (tt, h.fits); low = omega (arith, h.low); free = λ q. absurd (true-false q); cut = bag-cut h }

  pub list-begun : {least most : ℕ} → BegunRow true term v room least most bs after → Begun true part v (room + 1) (0x20 ∷ bs) after
  list-begun h = tagged (node list h.trees) 0x20 _ (tt, h.fits) (omega (arith, h.low)) refl h.cut

  pub tuple-begun : {most : ℕ} → BegunRow true term v room 1 most bs after → Begun true part v (room + 1) (0x21 ∷ bs) after
  tuple-begun h = tagged (node tuple h.trees) 0x21 _ (h.enough, h.fits) (omega (arith, h.low)) refl h.cut

  pub set-begun : BegunBag term v room bs after → Begun true part v (room + 1) (0x22 ∷ bs) after
  set-begun h = tagged (node set h.trees) 0x22 (sorted-code h.trees) (tt, h.fits) (omega (arith, h.low)) refl
      (subst (λ (cs : List (List ℕ)). Cuts bs (be32 (count h.trees) ++ joined cs) after) (sym (sorted-ascending (codes h.trees) h.up)) h.cut)

  pub map-begun : BegunBag (pair_of term) v room bs after → Begun true part v (room + 1) (0x23 ∷ bs) after
  map-begun h = tagged (node dict h.trees) 0x23 (sorted-code h.trees) (tt, h.fits) (omega (arith, h.low)) refl
      (subst (λ (cs : List (List ℕ)). Cuts bs (be32 (count h.trees) ++ joined cs) after) (sym (sorted-ascending (codes h.trees) h.up)) h.cut)

  pub send-channel_begun : {next : List ℕ} (q : Bool) → bs ≡ byte_of q ∷ next → Begun true term v room next after → Begun true part v (room + 1) (0x30 ∷ bs) after
  send-channel_begun q is g = tagged (two (send q) g.tree (node row none)) 0x30 _ (tt, (g.fits, ((tt, tt), tt))) (omega (arith, g.low)) refl (byte-cut (byte_of q) is (first-cut _ g.cut))

  pub send-args_begun : {least most : ℕ} {next last : List ℕ} {u : Tree} (q : Bool) → bs ≡ byte_of q ∷ next → Reads term v room u next last → BegunRow true term v room least most last after → Begun true part v (room + 1) (0x30 ∷ bs) after
  send-args_begun {u = u} q is c h = tagged (two (send q) u (node row h.trees)) 0x30 _ (tt, (c.fits, ((tt, h.fits), tt))) (omega (arith, c.low, h.low)) refl (byte-cut (byte_of q) is (read-cut c (first-cut [] h.cut)))

  pub receive-binds_begun : {next : List ℕ} (k : Kind) → bs ≡ kind_number k ∷ next → BegunRow true a_bind v room 1 16 next after → Begun true part v (room + 1) (0x31 ∷ bs) after
  receive-binds_begun k is h = tagged (two (receive k) (node row h.trees) (node par none)) 0x31 _
      ((omega (arith, count-held h.trees, h.enough), omega (arith, count-held h.trees, h.few)), ((tt, h.fits), ((tt, tt), tt))) (omega (arith, h.low)) refl (byte-cut (kind_number k) is (first-cut _ h.cut))

  pub receive-body_begun : {w : Scope} {next last : List ℕ} (ts : List Tree) (k : Kind) → bs ≡ kind_number k ∷ next → Reads (row_of a_bind) v room (many row ts) next last
      → w ≡ reverse (bound (many row ts)) ++ v → 1 ≤ length ts → length ts ≤ 16 → Begun true term w room last after → Begun true part v (room + 1) (0x31 ∷ bs) after
  receive-body_begun {w = w} ts k is c p l m g =
      let n : bound_all (also (many row ts) (also g.tree none)) ≡ bound (many row ts) = rw (no_variables w g.tree g.fits, append-nil (bound_all (trees ts))) in
      let inner : w ≡ reverse (bound_all (also (many row ts) (also g.tree none))) ++ v = p ∙ ap (λ (vs : List Sense). reverse vs ++ v) (sym n) in
      tagged (two (receive k) (many row ts) g.tree) 0x31 _ ((rw (listed-trees ts) l, rw (listed-trees ts) m), (c.fits, (subst (λ (x : Scope). Fits term x g.tree) inner g.fits, tt)))
      (omega (arith, c.low, g.low)) refl (byte-cut (kind_number k) is (read-cut c (first-cut [] g.cut)))

  pub new-body_begun : {w : Scope} {next : List ℕ} (os : List Origin) → bs ≡ (be32 (length os) ++ map origin_number os) ++ next → w ≡ reverse (map (λ (o : Origin). a_name) os) ++ v → 1 ≤ length os
      → Begun true term w room next after → Begun true part v (room + 1) (0x32 ∷ bs) after
  new-body_begun os is p l g = tagged (one (new os) g.tree) 0x32 _ (l, (subst (λ (x : Scope). Fits term x g.tree) p g.fits, tt)) (omega (arith, g.low)) refl (next-cut (be32 (length os) ++ map origin_number os) is (first-cut [] g.cut))

  pub match-target_begun : Begun true term v room bs after → Begun true part v (room + 1) (0x33 ∷ bs) after
  match-target_begun g = let k = some-case v in
      tagged (two match g.tree (node row (also k.tree none))) 0x33 _ (omega arith, (g.fits, ((tt, (k.fits, tt)), tt))) (omega (arith, g.low, k.low)) refl (first-cut _ g.cut)

  pub match-cases_begun : {most : ℕ} {next : List ℕ} {u : Tree} → Reads term v room u bs next → BegunRow true a_case v room 1 most next after → Begun true part v (room + 1) (0x33 ∷ bs) after
  match-cases_begun {u = u} c h = tagged (two match u (node row h.trees)) 0x33 _ (omega (arith, count-held h.trees, h.enough), (c.fits, ((tt, h.fits), tt))) (omega (arith, c.low, h.low)) refl (read-cut c (first-cut [] h.cut))

  pub bundle-body_begun : {next : List ℕ} (r : Rights) → bs ≡ rights_number r ∷ next → Begun true term v room next after → Begun true part v (room + 1) (0x34 ∷ bs) after
  bundle-body_begun r is g = tagged (one (bundle r) g.tree) 0x34 _ (tt, (g.fits, tt)) (omega (arith, g.low)) refl (byte-cut (rights_number r) is (first-cut [] g.cut))

  pub unary-arg_begun : {next : List ℕ} (o : UnaryOp) → bs ≡ unary_op_number o ∷ next → Begun true term v room next after → Begun true part v (room + 1) (0x40 ∷ bs) after
  unary-arg_begun o is g = tagged (one (unary o) g.tree) 0x40 _ (tt, (g.fits, tt)) (omega (arith, g.low)) refl (byte-cut (unary_op_number o) is (first-cut [] g.cut))

  pub binary-left_begun : {next : List ℕ} (o : BinaryOp) → bs ≡ binary_op_number o ∷ next → Begun true term v room next after → Begun true part v (room + 1) (0x41 ∷ bs) after
  binary-left_begun o is g = tagged (two (binary o) g.tree (node par none)) 0x41 _ (tt, (g.fits, ((tt, tt), tt))) (omega (arith, g.low)) refl (byte-cut (binary_op_number o) is (first-cut _ g.cut))

  pub binary-right_begun : {next last : List ℕ} {u : Tree} (o : BinaryOp) → bs ≡ binary_op_number o ∷ next → Reads term v room u next last → Begun true term v room last after → Begun true part v (room + 1) (0x41 ∷ bs) after
  binary-right_begun {u = u} o is c g = tagged (two (binary o) u g.tree) 0x41 _ (tt, (c.fits, (g.fits, tt))) (omega (arith, c.low, g.low)) refl (byte-cut (binary_op_number o) is (read-cut c (first-cut [] g.cut)))

  pub method-target_begun : {next : List ℕ} (s : List ℕ) → Named s → bs ≡ text s ++ next → Begun true term v room next after → Begun true part v (room + 1) (0x42 ∷ bs) after
  method-target_begun s f is g = tagged (two (method s) g.tree (node row none)) 0x42 _ (f, (g.fits, ((tt, tt), tt))) (omega (arith, g.low)) refl (next-cut (text s) is (first-cut _ g.cut))

  pub method-args_begun : {least most : ℕ} {next last : List ℕ} {u : Tree} (s : List ℕ) → Named s → bs ≡ text s ++ next → Reads term v room u next last → BegunRow true term v room least most last after → Begun true part v (room + 1) (0x42 ∷ bs) after
  method-args_begun {u = u} s f is c h = tagged (two (method s) u (node row h.trees)) 0x42 _ (f, (c.fits, ((tt, h.fits), tt))) (omega (arith, c.low, h.low)) refl (next-cut (text s) is (read-cut c (first-cut [] h.cut)))

module _ {v : Scope} {bs after : List ℕ} (room : ℕ) where
  pub new-origins_begun : BegunOrigins bs after → Begun true part v (room + 1) (0x32 ∷ bs) after
  new-origins_begun h = tagged (one (new h.origins) (node par none)) 0x32 _ (h.some, ((tt, tt), tt)) (omega arith) refl (first-cut _ h.cut)

  pub method-name_begun : BegunText kind.Word bs after → Begun true part v (room + 1) (0x42 ∷ bs) after
  method-name_begun h = tagged (two (method h.content) (node par none) (node row none)) 0x42 _ (h.form, ((tt, tt), ((tt, tt), tt))) (omega arith) refl (first-cut _ h.cut)

-- nothing of the first field after a tag is there
module _ {v : Scope} {bs : List ℕ} (room : ℕ) where
  pub send-flag_begun : Begun true part v (room + 1) (0x30 ∷ bs) bs
  send-flag_begun = tagged (two (send false) (node par none) (node row none)) 0x30 _ (tt, ((tt, tt), ((tt, tt), tt))) (omega arith) refl (none-cut _ (omega arith))

  pub receive-kind_begun : Begun true part v (room + 1) (0x31 ∷ bs) bs
  receive-kind_begun = let k = some-bind v in
      tagged (two (receive kinds.Linear) (node row (also k.tree none)) (node par none)) 0x31 _ ((omega arith, omega arith), ((tt, (k.fits, tt)), ((tt, tt), tt))) (omega (arith, k.low)) refl (none-cut _ (omega arith))

  pub bundle-rights_begun : Begun true part v (room + 1) (0x34 ∷ bs) bs
  bundle-rights_begun = tagged (one (bundle rights.Neither) (node par none)) 0x34 _ (tt, ((tt, tt), tt)) (omega arith) refl (none-cut _ (omega arith))

  pub unary-op_begun : Begun true part v (room + 1) (0x40 ∷ bs) bs
  unary-op_begun = tagged (one (unary unary_ops.Not) (node par none)) 0x40 _ (tt, ((tt, tt), tt)) (omega arith) refl (none-cut _ (omega arith))

  pub binary-op_begun : Begun true part v (room + 1) (0x41 ∷ bs) bs
  binary-op_begun = tagged (two (binary binary_ops.Or) (node par none) (node par none)) 0x41 _ (tt, ((tt, tt), ((tt, tt), tt))) (omega arith) refl (none-cut _ (omega arith))

-- a leaf is cut
pub fresh-begun : {v : Scope} {room : ℕ} {bs after : List ℕ} (x : List ℕ) → IsDigest x → Cuts bs x after → Begun true part v room (0x15 ∷ bs) after
fresh-begun x f c = tagged (leaf (fresh x)) 0x15 _ (f, tt) (omega arith) refl (first-cut [] c)

pub at-tag_begun : {b : Bool} {s : Sort} {v : Scope} {room : ℕ} {bs after : List ℕ} (tag k : ℕ) → tag ≡ k → Begun b s v room (k ∷ bs) after → Begun b s v room (tag ∷ bs) after
at-tag_begun {b = b} {s = s} {v = v} {room = room} {bs = bs} {after = after} tag k p h = subst (λ (x : ℕ). Begun b s v room (x ∷ bs) after) (sym p) h

no-part : {v : Scope} {room : ℕ} (bs : List ℕ) → Begun true part v room bs bs
no-part bs = record { tree = leaf (bool true); fits = (tt, tt); low = omega arith; free = λ q. absurd (true-false q); cut = none-cut _ (omega arith) }

pub var-begun : {v : Scope} {room : ℕ} {bs after : List ℕ} (tag : ℕ) → tag ≡ 0x16 → BegunVariable v a_process tag bs after → Begun true part v room (tag ∷ bs) after
var-begun {v = v} {room = room} {after = after} tag p (inl e) = subst (λ (z : List ℕ). Begun true part v room z after) e (no-part after)
var-begun tag p (inr h) = at-tag_begun tag 0x16 p (tagged (leaf (var h.index)) 0x16 _ (h.has, tt) (omega arith) refl (first-cut [] h.cut))

pub name_var-begun : {v : Scope} {room : ℕ} {bs after : List ℕ} (tag : ℕ) → tag ≡ 0x17 → BegunVariable v a_name tag bs after → Begun true part v room (tag ∷ bs) after
name_var-begun {v = v} {room = room} {after = after} tag p (inl e) = subst (λ (z : List ℕ). Begun true part v room z after) e (no-part after)
name_var-begun tag p (inr h) = at-tag_begun tag 0x17 p (tagged (leaf (name_var h.index)) 0x17 _ (h.has, tt) (omega arith) refl (first-cut [] h.cut))
