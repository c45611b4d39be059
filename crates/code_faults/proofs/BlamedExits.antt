-- Where a form of a process is refused, the place that is blamed: at each of its fields.
use Rattle.std.proofs.Common.{◌≡◌, ℕ, ◌<◌, ◌≤◌, ◌+◌, ◌-◌, ◌^◌, List, [], ◌∷◌, ◌++◌, map, length, refl, ap, sym, ◌∙◌, subst, arith, reverse, append_assoc, length-append}
use Rattle.std.specs.Prelude.{Bool, true}
use Rattle.std.proofs.lemmas.List.{length-reverse}
use Rattle.calculus.specs.Tree.{Tree}
use Rattle.calculus.specs.Kinds.{kind_number, rights_number, unary_op_number, binary_op_number, origin_number}
use Rattle.calculus.specs.declared.plain.UnaryOp.{UnaryOp}
use Rattle.calculus.specs.declared.plain.UnaryOp.TheVariants as unary_ops
use Rattle.calculus.specs.declared.plain.BinaryOp.{BinaryOp}
use Rattle.calculus.specs.declared.plain.BinaryOp.TheVariants as binary_ops
use Rattle.calculus.specs.declared.plain.Origin.{Origin}
use Rattle.calculus.specs.Bytes.{be32}
use Rattle.calculus.specs.Code.{byte_of, text, code}
use Rattle.calculus.specs.Form.{Sort, term, part, a_bind, a_case, row_of, pair_of, Scope}
use Rattle.calculus.specs.Variables.{Sense, a_name, bound}
use Rattle.calculus.proofs.Prefixes.{Splits-length}
use Rattle.calculus.proofs.ListCodes.{length-map}
use Rattle.code_faults.specs.declared.fault.ReadFault.{ReadFault}
use Rattle.code_faults.specs.declared.sort.TextKind.TheVariants as kind
use Rattle.code_faults.specs.Reading.{Reads}
use Rattle.code_faults.specs.Refusing.{HasRoom}
use Rattle.code_faults.specs.Places.{another, Item, field, name_length, inner, Stop}
use Rattle.code_faults.specs.Blaming.{Blames, Wrong, InTree, InRow, InBag, InByte, InText, InOrigins}
use Rattle.code_faults.proofs.Denying.{less-left}
use Rattle.code_faults.proofs.Kids.{held-few}
use Rattle.code_faults.proofs.Exits.{byte-le, kind-le, rights-le}
use Rattle.code_faults.proofs.CaseRefusals.{same-scope, bound-room}
use Rattle.code_faults.proofs.Blaming.{first-blamed, next-blamed, byte-passed, number-passed, length-passed, read-passed, inner-blamed, reread}
use Rattle.code_faults.proofs.BlamedRows.{inner-row}
use Rattle.code_faults.proofs.BlamedForms.{under, list-at, tuple-at, set-at, map-at, send-at, receive-at, new-at, match-at, bundle-at, unary-at, binary-at, method-at}

unary-le : (x : UnaryOp) → unary_op_number x ≤ 1
unary-le unary_ops.Not = omega arith
unary-le unary_ops.Neg = omega arith

binary-le : (x : BinaryOp) → binary_op_number x ≤ 14
binary-le binary_ops.Or = omega arith
binary-le binary_ops.And = omega arith
binary-le binary_ops.Eq = omega arith
binary-le binary_ops.Ne = omega arith
binary-le binary_ops.Lt = omega arith
binary-le binary_ops.Le = omega arith
binary-le binary_ops.Gt = omega arith
binary-le binary_ops.Ge = omega arith
binary-le binary_ops.Add = omega arith
binary-le binary_ops.Sub = omega arith
binary-le binary_ops.Append = omega arith
binary-le binary_ops.Minus = omega arith
binary-le binary_ops.Mul = omega arith
binary-le binary_ops.Div = omega arith
binary-le binary_ops.Rem = omega arith

-- what bytes leave room for, those behind them do
pub behind-room : {v : Scope} {before : List ℕ} (a : List ℕ) → HasRoom v (a ++ before) → HasRoom v before
behind-room a l = less-left a refl l

pub at-tag_wrong : {b : Bool} {s : Sort} {v : Scope} {room : ℕ} {e : ReadFault} {bs : List ℕ} (tag k : ℕ) → tag ≡ k → Wrong (InTree b s v room) e (k ∷ bs) → Wrong (InTree b s v room) e (tag ∷ bs)
at-tag_wrong {b = b} {s = s} {v = v} {room = room} {e = e} {bs = bs} tag k p h = subst (λ (x : ℕ). Wrong (InTree b s v room) e (x ∷ bs)) (sym p) h

-- the same where the room is told in another way
pub at-form_wrong : {b : Bool} {s : Sort} {v : Scope} {m n : ℕ} {e : ReadFault} {bs : List ℕ} (tag k : ℕ) → tag ≡ k → Wrong (InTree b s v m) e (k ∷ bs) → m ≡ n → Wrong (InTree b s v n) e (tag ∷ bs)
at-form_wrong {b = b} {s = s} {v = v} {e = e} {bs = bs} tag k p h q = at-tag_wrong tag k p (subst (λ (r : ℕ). Wrong (InTree b s v r) e (k ∷ bs)) q h)

-- and where any room will do
pub at-leaf_wrong : {b : Bool} {s : Sort} {v : Scope} {n : ℕ} {e : ReadFault} {bs : List ℕ} (tag k : ℕ) → tag ≡ k → ((r : ℕ) → Wrong (InTree b s v (r + 1)) e (k ∷ bs)) → 1 ≤ n → Wrong (InTree b s v n) e (tag ∷ bs)
at-leaf_wrong {n = n} tag k p h l = at-form_wrong tag k p (h (n - 1)) (omega (arith, l))

-- a byte that is there, and then a constituent
pub two-parts : {n : ℕ} {s : Sort} {v : Scope} {room : ℕ} {u : Tree} {bs next last : List ℕ} → bs ≡ n ∷ next → Reads s v room u next last → bs ≡ (n ∷ code u) ++ last
two-parts {n = n} p c = p ∙ ap (λ (z : List ℕ). n ∷ z) c.is

module _ {v : Scope} {room : ℕ} {e : ReadFault} {bs : List ℕ} where
  pub list_wrong : Wrong (InRow true term v room 0 0xFFFFFFFF) e bs → Wrong (InTree true part v (room + 1)) e (0x20 ∷ bs)
  list_wrong h = under (InRow true term v room 0 0xFFFFFFFF) 0x20 [] refl refl refl (λ stop before k. list-at k) h

  pub tuple_wrong : Wrong (InRow true term v room 1 0xFFFFFFFF) e bs → Wrong (InTree true part v (room + 1)) e (0x21 ∷ bs)
  tuple_wrong h = under (InRow true term v room 1 0xFFFFFFFF) 0x21 [] refl refl refl (λ stop before k. tuple-at k) h

  pub set_wrong : Wrong (InBag term v room) e bs → Wrong (InTree true part v (room + 1)) e (0x22 ∷ bs)
  set_wrong h = under (InBag term v room) 0x22 [] refl refl refl (λ stop before k. set-at k) h

  pub map_wrong : Wrong (InBag (pair_of term) v room) e bs → Wrong (InTree true part v (room + 1)) e (0x23 ∷ bs)
  map_wrong h = under (InBag (pair_of term) v room) 0x23 [] refl refl refl (λ stop before k. map-at k) h

  pub send-channel_wrong : {n : ℕ} {next : List ℕ} → bs ≡ n ∷ next → Wrong (InTree true term v room) e next → Wrong (InTree true part v (room + 1)) e (0x30 ∷ bs)
  send-channel_wrong {n = n} is h = under (InTree true term v room) 0x30 (n ∷ []) refl refl is
      (λ stop before j. send-at (λ high q a r l g k. byte-passed _ _ (λ z. inner-blamed a _ j (behind-room (n ∷ []) l) g))) h

  pub send-args_wrong : {low : ℕ} {n : ℕ} {next last : List ℕ} {u : Tree} → bs ≡ n ∷ next → Reads term v low u next last → Wrong (InRow true term v room 0 0xFFFFFFFF) e last → Wrong (InTree true part v (room + 1)) e (0x30 ∷ bs)
  send-args_wrong {n = n} {u = u} is c h = under (InRow true term v room 0 0xFFFFFFFF) 0x30 (n ∷ code u) refl refl (two-parts is c)
      (λ stop before j. send-at (λ high q a r l g k.
      let m = behind-room (n ∷ []) l in
      byte-passed _ _ (λ z. read-passed [] a _ c m g (λ y. inner-row r [] j (behind-room (code u) m) k (omega arith) (held-few r k))))) h

  pub receive-binds_wrong : {n : ℕ} {next : List ℕ} → bs ≡ n ∷ next → Wrong (InRow true a_bind v room 1 16) e next → Wrong (InTree true part v (room + 1)) e (0x31 ∷ bs)
  receive-binds_wrong {n = n} is h = under (InRow true a_bind v room 1 16) 0x31 (n ∷ []) refl refl is
      (λ stop before j. receive-at (λ high k r body l g f some few. byte-passed _ _ (λ z. inner-row r _ j (behind-room (n ∷ []) l) g some few))) h

  pub receive-body_wrong : {low : ℕ} {n : ℕ} {w : Scope} {next last : List ℕ} {u : Tree} → bs ≡ n ∷ next → Reads (row_of a_bind) v low u next last → w ≡ reverse (bound u) ++ v → Wrong (InTree true term w room) e last → Wrong (InTree true part v (room + 1)) e (0x31 ∷ bs)
  receive-body_wrong {n = n} {w = w} {u = u} is c p h = under (InTree true term w room) 0x31 (n ∷ code u) refl refl (two-parts is c)
      (λ stop before j. receive-at (λ high k r body l g f some few.
      let m = behind-room (n ∷ []) l in
      let c2 = reread before c in
      byte-passed _ _ (λ z. read-passed [] r _ c m g (λ y.
      let o = same-scope r c2 m g y p in
      inner-blamed body [] (subst (λ (x : Scope). InTree true term x room stop before) o j) (subst (λ (x : Scope). HasRoom x before) o (bound-room c2 m p)) f)))) h

  pub match-target_wrong : Wrong (InTree true term v room) e bs → Wrong (InTree true part v (room + 1)) e (0x33 ∷ bs)
  match-target_wrong h = under (InTree true term v room) 0x33 [] refl refl refl (λ stop before j. match-at (λ high a r l g k some. inner-blamed a _ j l g)) h

  pub match-cases_wrong : {low : ℕ} {next : List ℕ} {u : Tree} → Reads term v low u bs next → Wrong (InRow true a_case v room 1 0xFFFFFFFF) e next → Wrong (InTree true part v (room + 1)) e (0x33 ∷ bs)
  match-cases_wrong {u = u} c h = under (InRow true a_case v room 1 0xFFFFFFFF) 0x33 (code u) refl refl c.is
      (λ stop before j. match-at (λ high a r l g k some. read-passed [] a _ c l g (λ y. inner-row r [] j (behind-room (code u) l) k some (held-few r k)))) h

  pub bundle-body_wrong : {n : ℕ} {next : List ℕ} → bs ≡ n ∷ next → Wrong (InTree true term v room) e next → Wrong (InTree true part v (room + 1)) e (0x34 ∷ bs)
  bundle-body_wrong {n = n} is h = under (InTree true term v room) 0x34 (n ∷ []) refl refl is
      (λ stop before j. bundle-at (λ high r a l g. byte-passed _ _ (λ z. inner-blamed a [] j (behind-room (n ∷ []) l) g))) h

  pub unary-arg_wrong : {n : ℕ} {next : List ℕ} → bs ≡ n ∷ next → Wrong (InTree true term v room) e next → Wrong (InTree true part v (room + 1)) e (0x40 ∷ bs)
  unary-arg_wrong {n = n} is h = under (InTree true term v room) 0x40 (n ∷ []) refl refl is
      (λ stop before j. unary-at (λ high o a l g. byte-passed _ _ (λ z. inner-blamed a [] j (behind-room (n ∷ []) l) g))) h

  pub binary-left_wrong : {n : ℕ} {next : List ℕ} → bs ≡ n ∷ next → Wrong (InTree true term v room) e next → Wrong (InTree true part v (room + 1)) e (0x41 ∷ bs)
  binary-left_wrong {n = n} is h = under (InTree true term v room) 0x41 (n ∷ []) refl refl is
      (λ stop before j. binary-at (λ high o a c l g k. byte-passed _ _ (λ z. inner-blamed a _ j (behind-room (n ∷ []) l) g))) h

  pub binary-right_wrong : {low : ℕ} {n : ℕ} {next last : List ℕ} {u : Tree} → bs ≡ n ∷ next → Reads term v low u next last → Wrong (InTree true term v room) e last → Wrong (InTree true part v (room + 1)) e (0x41 ∷ bs)
  binary-right_wrong {n = n} {u = u} is r h = under (InTree true term v room) 0x41 (n ∷ code u) refl refl (two-parts is r)
      (λ stop before j. binary-at (λ high o a c l g k.
      let m = behind-room (n ∷ []) l in
      byte-passed _ _ (λ z. read-passed [] a _ r m g (λ y. inner-blamed c [] j (behind-room (code u) m) k)))) h

module _ {v : Scope} (room : ℕ) {e : ReadFault} {bs : List ℕ} where
  pub send-flag_wrong : Wrong (InByte 1) e bs → Wrong (InTree true part v (room + 1)) e (0x30 ∷ bs)
  send-flag_wrong h = under (InByte 1) 0x30 [] refl refl refl (λ stop before j. send-at (λ high q a r l g k. first-blamed (field (byte_of q ∷ []) ∷ []) (inner another [] a ∷ inner another [] r ∷ []) (j _ (byte_of q) (byte-le q)))) h

  pub receive-kind_wrong : Wrong (InByte 2) e bs → Wrong (InTree true part v (room + 1)) e (0x31 ∷ bs)
  receive-kind_wrong h = under (InByte 2) 0x31 [] refl refl refl (λ stop before j. receive-at (λ high k r body l g f some few. first-blamed (field (kind_number k ∷ []) ∷ []) (inner another [] r ∷ inner another [] body ∷ []) (j _ (kind_number k) (kind-le k)))) h

  pub bundle-rights_wrong : Wrong (InByte 3) e bs → Wrong (InTree true part v (room + 1)) e (0x34 ∷ bs)
  bundle-rights_wrong h = under (InByte 3) 0x34 [] refl refl refl (λ stop before j. bundle-at (λ high r a l g. first-blamed (field (rights_number r ∷ []) ∷ []) (inner another [] a ∷ []) (j _ (rights_number r) (rights-le r)))) h

  pub unary-op_wrong : Wrong (InByte 1) e bs → Wrong (InTree true part v (room + 1)) e (0x40 ∷ bs)
  unary-op_wrong h = under (InByte 1) 0x40 [] refl refl refl (λ stop before j. unary-at (λ high o a l g. first-blamed (field (unary_op_number o ∷ []) ∷ []) (inner another [] a ∷ []) (j _ (unary_op_number o) (unary-le o)))) h

  pub binary-op_wrong : Wrong (InByte 14) e bs → Wrong (InTree true part v (room + 1)) e (0x41 ∷ bs)
  binary-op_wrong h = under (InByte 14) 0x41 [] refl refl refl (λ stop before j. binary-at (λ high o a c l g k. first-blamed (field (binary_op_number o ∷ []) ∷ []) (inner another [] a ∷ inner another [] c ∷ []) (j _ (binary_op_number o) (binary-le o)))) h

  pub new-origins_wrong : Wrong InOrigins e bs → Wrong (InTree true part v (room + 1)) e (0x32 ∷ bs)
  new-origins_wrong h = under InOrigins 0x32 [] refl refl refl (λ stop before j. new-at (λ high os body l some few g. first-blamed (field (be32 (length os)) ∷ map (λ (o : Origin). field (origin_number o ∷ [])) os) (inner another [] body ∷ []) (j.no _ os some few))) h

  pub method-name_wrong : Wrong (InText kind.Word) e bs → Wrong (InTree true part v (room + 1)) e (0x42 ∷ bs)
  method-name_wrong h = under (InText kind.Word) 0x42 [] refl refl refl (λ stop before j. method-at (λ high n a r l f few g k. first-blamed (name_length (length n) ∷ field n ∷ []) (inner another [] a ∷ inner another [] r ∷ []) (j _ n f few))) h

-- a name that was read, and then the place
name-passed : {v : Scope} {stop : Stop} {room : ℕ} {before : List ℕ} (s n : List ℕ) (is : List Item) → HasRoom v (text s ++ before) → length n < 2 ^ 32 → (HasRoom v before → Blames stop room before is) → Blames stop room (text s ++ before) (name_length (length n) ∷ field n ∷ is)
name-passed {stop = stop} {room = room} {before = before} s n is l few k =
    let e = append_assoc (be32 (length s)) s before in
    let small : length s < 2 ^ 32 = omega (arith, l.few, length-append (text s) before, length-append (be32 (length s)) s) in
    subst (λ (z : List ℕ). Blames stop room z (name_length (length n) ∷ field n ∷ is)) (sym e)
    (length-passed (length n) (field n ∷ is) small few (λ w. next-blamed (field n) is (Splits-length s n w) (λ q. k (behind-room (text s) l))))

module _ {v : Scope} {room : ℕ} {e : ReadFault} {bs : List ℕ} where
  pub method-target_wrong : (s : List ℕ) {next : List ℕ} → bs ≡ text s ++ next → Wrong (InTree true term v room) e next → Wrong (InTree true part v (room + 1)) e (0x42 ∷ bs)
  method-target_wrong s is h = under (InTree true term v room) 0x42 (text s) refl refl is
      (λ stop before j. method-at (λ high n a r l f few g k. name-passed s n _ l few (λ m. inner-blamed a _ j m g))) h

  pub method-args_wrong : {low : ℕ} (s : List ℕ) {next last : List ℕ} {u : Tree} → bs ≡ text s ++ next → Reads term v low u next last → Wrong (InRow true term v room 0 0xFFFFFFFF) e last → Wrong (InTree true part v (room + 1)) e (0x42 ∷ bs)
  method-args_wrong s {last = last} {u = u} is c h = under (InRow true term v room 0 0xFFFFFFFF) 0x42 (text s ++ code u) refl refl (is ∙ ap (λ (z : List ℕ). text s ++ z) c.is ∙ sym (append_assoc (text s) (code u) last))
      (λ stop before j. method-at (λ high n a r l f few g k.
      let b = append_assoc (text s) (code u) before in
      subst (λ (z : List ℕ). Blames stop room z (name_length (length n) ∷ field n ∷ inner another [] a ∷ inner another [] r ∷ [])) (sym b)
      (name-passed s n _ (subst (λ (z : List ℕ). HasRoom v z) b l) few (λ m. read-passed [] a _ c m g (λ y. inner-row r [] j (behind-room (code u) m) k (omega arith) (held-few r k)))))) h

-- the same names for as many origins
names-same : (os ps : List Origin) → length os ≡ length ps → map (λ (o : Origin). a_name) os ≡ map (λ (o : Origin). a_name) ps
names-same [] [] e = refl
names-same [] (p ∷ ps) e = absurd (omega arith)
names-same (o ∷ os) [] e = absurd (omega arith)
names-same (o ∷ os) (p ∷ ps) e = ap (λ (vs : List Sense). a_name ∷ vs) (names-same os ps (omega arith))

-- as many origins that were read
origins-passed : {stop : Stop} {room : ℕ} {before : List ℕ} (ps os : List Origin) (is : List Item) → length ps ≡ length os → Blames stop room before is → Blames stop room (map origin_number ps ++ before) (map (λ (o : Origin). field (origin_number o ∷ [])) os ++ is)
origins-passed [] [] is e h = h
origins-passed [] (o ∷ os) is e h = absurd (omega arith)
origins-passed (p ∷ ps) [] is e h = absurd (omega arith)
origins-passed (p ∷ ps) (o ∷ os) is e h = byte-passed (origin_number o) _ (λ w. origins-passed ps os is (omega arith) h)

module _ {v w : Scope} {room : ℕ} {e : ReadFault} {bs next : List ℕ} where
  pub new-body_wrong : (ps : List Origin) → bs ≡ (be32 (length ps) ++ map origin_number ps) ++ next → w ≡ reverse (map (λ (o : Origin). a_name) ps) ++ v → Wrong (InTree true term w room) e next → Wrong (InTree true part v (room + 1)) e (0x32 ∷ bs)
  new-body_wrong ps is p h = under (InTree true term w room) 0x32 (be32 (length ps) ++ map origin_number ps) refl refl is (λ stop before j. new-at (λ high os body l some few g.
      let b = append_assoc (be32 (length ps)) (map origin_number ps) before in
      let m : HasRoom v (be32 (length ps) ++ (map origin_number ps ++ before)) = subst (λ (z : List ℕ). HasRoom v z) b l in
      let k : HasRoom v (map origin_number ps ++ before) = behind-room (be32 (length ps)) m in
      let small : length ps + length v + length before < 2 ^ 32 = omega (arith, k.few, length-append (map origin_number ps) before, length-map origin_number ps) in
      let c : length w ≡ length ps + length v = omega (arith, ap length p, length-append (reverse (map (λ (o : Origin). a_name) ps)) v, length-reverse (map (λ (o : Origin). a_name) ps), length-map (λ (o : Origin). a_name) ps) in
      let left : HasRoom w before = record { few = omega (arith, small, c) } in
      subst (λ (z : List ℕ). Blames stop room z (field (be32 (length os)) ∷ (map (λ (o : Origin). field (origin_number o ∷ [])) os ++ inner another [] body ∷ []))) (sym b)
      (number-passed (length os) _ (omega (arith, small)) few (λ n.
      let o : w ≡ reverse (map (λ (o : Origin). a_name) os) ++ v = p ∙ ap (λ (vs : List Sense). reverse vs ++ v) (names-same ps os n) in
      origins-passed ps os (inner another [] body ∷ []) n (inner-blamed body [] (subst (λ (x : Scope). InTree true term x room stop before) o j) (subst (λ (x : Scope). HasRoom x before) o left) g))))) h
