-- Where a form of a process is refused: at each of its fields.
use Rattle.std.proofs.Common.{◌≡◌, ℕ, ◌<◌, ◌≤◌, ◌+◌, ◌^◌, List, [], ◌∷◌, ◌++◌, map, length, refl, ap, sym, ◌∙◌, subst, arith, reverse, length-append}
use Rattle.std.specs.Prelude.{Bool, true, false}
use Rattle.std.proofs.lemmas.List.{length-reverse}
use Rattle.calculus.specs.Tree.{Tree}
use Rattle.calculus.specs.Kinds.{kind_number, rights_number, unary_op_number, binary_op_number, origin_number}
use Rattle.calculus.specs.declared.plain.Kind.{Kind}
use Rattle.calculus.specs.declared.plain.Kind.TheVariants as kinds
use Rattle.calculus.specs.declared.plain.Rights.{Rights}
use Rattle.calculus.specs.declared.plain.Rights.TheVariants as rights
use Rattle.calculus.specs.declared.plain.UnaryOp.{UnaryOp}
use Rattle.calculus.specs.declared.plain.UnaryOp.TheVariants as unary_ops
use Rattle.calculus.specs.declared.plain.BinaryOp.{BinaryOp}
use Rattle.calculus.specs.declared.plain.BinaryOp.TheVariants as binary_ops
use Rattle.calculus.specs.declared.plain.Origin.{Origin}
use Rattle.calculus.specs.Bytes.{be32}
use Rattle.calculus.specs.Code.{byte_of, text}
use Rattle.calculus.specs.CodeLaws.{Splits}
use Rattle.calculus.specs.Form.{Sort, term, part, a_bind, a_case, row_of, Scope}
use Rattle.calculus.specs.Variables.{Sense, a_name, bound}
use Rattle.calculus.proofs.Prefixes.{Splits-append, Splits-length}
use Rattle.calculus.proofs.Tails.{Splits-be32, one-be32, length-be32, length-text}
use Rattle.code_faults.specs.declared.fault.ReadFault.{ReadFault}
use Rattle.code_faults.specs.declared.sort.TextKind.TheVariants as kind
use Rattle.code_faults.specs.Texts.{HasForm}
use Rattle.code_faults.specs.Reading.{Reads}
use Rattle.code_faults.specs.Refusing.{Denies, HasRoom, Refuses, RefusesRow, RefusesByte, RefusesOrigins}
use Rattle.calculus.proofs.ListCodes.{length-map}
use Rattle.code_faults.proofs.Denying.{first-denied, next-denied, byte-next, read-next, refused, less-left, left-less}
use Rattle.code_faults.proofs.Kids.{row-refused, held-few}
use Rattle.code_faults.proofs.PartRefusals.{send-refused, receive-refused, new-refused, match-refused, bundle-refused, unary-refused, binary-refused, method-refused}
use Rattle.code_faults.proofs.CaseRefusals.{same-scope, bound-room}

pub at-tag : {b : Bool} {s : Sort} {v : Scope} {room : ℕ} {e : ReadFault} {bs : List ℕ} (tag k : ℕ) → tag ≡ k → Refuses b s v room e (k ∷ bs) → Refuses b s v room e (tag ∷ bs)
at-tag {b = b} {s = s} {v = v} {room = room} {e = e} {bs = bs} tag k p h = subst (λ (x : ℕ). Refuses b s v room e (x ∷ bs)) (sym p) h

pub byte-le : (x : Bool) → byte_of x ≤ 1
byte-le true = omega arith
byte-le false = omega arith

pub kind-le : (x : Kind) → kind_number x ≤ 2
kind-le kinds.Linear = omega arith
kind-le kinds.Persistent = omega arith
kind-le kinds.Peek = omega arith

pub rights-le : (x : Rights) → rights_number x ≤ 3
rights-le rights.Neither = omega arith
rights-le rights.Write = omega arith
rights-le rights.Read = omega arith
rights-le rights.Both = omega arith

unary-le : (x : UnaryOp) → unary_op_number x ≤ 1
unary-le unary_ops.Not = omega arith
unary-le unary_ops.Neg = omega arith

binary-le : (x : BinaryOp) → binary_op_number x ≤ 14
binary-le binary_ops.Or = omega arith
binary-le binary_ops.And = omega arith
binary-le binary_ops.Eq = omega arith
binary-le binary_ops.Ne = omega arith
binary-le binary_ops.Lt = omega arith
binary-le binary_ops.Le = omega arith
binary-le binary_ops.Gt = omega arith
binary-le binary_ops.Ge = omega arith
binary-le binary_ops.Add = omega arith
binary-le binary_ops.Sub = omega arith
binary-le binary_ops.Append = omega arith
binary-le binary_ops.Minus = omega arith
binary-le binary_ops.Mul = omega arith
binary-le binary_ops.Div = omega arith
binary-le binary_ops.Rem = omega arith

pub after-byte : {v : Scope} {n : ℕ} {bs next : List ℕ} → bs ≡ n ∷ next → HasRoom v bs → HasRoom v next
after-byte {n = n} is l = less-left (n ∷ []) is l

counted-split : (m n : ℕ) (xs ys : List ℕ) → m < 2 ^ 32 → n < 2 ^ 32 → length xs ≡ m → length ys ≡ n → Splits (be32 m ++ xs) (be32 n ++ ys)
counted-split m n xs ys h k p q = Splits-append (be32 m) (be32 n) xs ys (Splits-be32 m n) (λ e. Splits-length xs ys (p ∙ one-be32 m n h k e ∙ sym q))

texts-split : {v : Scope} {bs : List ℕ} (s n next : List ℕ) → bs ≡ text s ++ next → HasRoom v bs → length n < 2 ^ 32 → Splits (text s) (text n)
texts-split s n next is l few = counted-split (length s) (length n) s n (omega (arith, l.few, ap length is, length-append (text s) next, length-text s)) few refl refl

names-same : (os ps : List Origin) → length os ≡ length ps → map (λ (o : Origin). a_name) os ≡ map (λ (o : Origin). a_name) ps
names-same [] [] e = refl
names-same [] (p ∷ ps) e = absurd (omega arith)
names-same (o ∷ os) [] e = absurd (omega arith)
names-same (o ∷ os) (p ∷ ps) e = ap (λ (vs : List Sense). a_name ∷ vs) (names-same os ps (omega arith))

-- as many bytes after a number
spelled : List Origin → List ℕ
spelled os = be32 (length os) ++ map origin_number os

spelled-length : (os : List Origin) → length (spelled os) ≡ 4 + length os
unfolding spelled
spelled-length os = omega (arith, length-append (be32 (length os)) (map origin_number os), length-be32 (length os), length-map origin_number os)

pub new-body : {v w : Scope} {room : ℕ} {e : ReadFault} {bs next : List ℕ} (ps : List Origin) → bs ≡ (be32 (length ps) ++ map origin_number ps) ++ next
    → w ≡ reverse (map (λ (o : Origin). a_name) ps) ++ v → Refuses true term w room e next → Refuses true part v (room + 1) e (0x32 ∷ bs)
unfolding spelled
new-body {v = v} {w = w} {room = room} {e = e} {bs = bs} {next = next} ps is p h = new-refused bs (λ os body l some few g.
    let small : 4 + length ps + length next ≡ length bs = omega (arith, ap length is, length-append (spelled ps) next, spelled-length ps) in
    let s = counted-split (length ps) (length os) (map origin_number ps) (map origin_number os) (omega (arith, l.few, small)) few (length-map origin_number ps) (length-map origin_number os) in
    next-denied _ is s (λ y.
    let n : length ps ≡ length os = omega (arith, ap length y, spelled-length ps, spelled-length os) in
    let o : w ≡ reverse (map (λ (o : Origin). a_name) os) ++ v = p ∙ ap (λ (vs : List Sense). reverse vs ++ v) (names-same ps os n) in
    let c : length w ≡ length ps + length v = omega (arith, ap length p, length-append (reverse (map (λ (o : Origin). a_name) ps)) v, length-reverse (map (λ (o : Origin). a_name) ps), length-map (λ (o : Origin). a_name) ps) in
    let room_left : HasRoom w next = record { few = omega (arith, l.few, small, c) } in
    refused body [] (subst (λ (x : Scope). Refuses true term x room e next) o h) (subst (λ (x : Scope). HasRoom x next) o room_left) g))

module _ {v : Scope} {room : ℕ} {e : ReadFault} {bs : List ℕ} where
  pub send-channel : {n : ℕ} {next : List ℕ} → bs ≡ n ∷ next → Refuses true term v room e next → Refuses true part v (room + 1) e (0x30 ∷ bs)
  send-channel is h = send-refused bs (λ q a r l g k. byte-next _ _ is (λ z. refused a _ h (after-byte is l) g))

  pub send-args : {n : ℕ} {next last : List ℕ} {u : Tree} → bs ≡ n ∷ next → Reads term v room u next last → RefusesRow true term v room 0 0xFFFFFFFF e last → Refuses true part v (room + 1) e (0x30 ∷ bs)
  send-args is c h = send-refused bs (λ q a r l g k.
      let m = after-byte is l in
      byte-next _ _ is (λ z. read-next a _ c m g (λ y. row-refused r [] h (left-less c m) k (omega arith) (held-few r k))))

  pub receive-binds : {n : ℕ} {next : List ℕ} → bs ≡ n ∷ next → RefusesRow true a_bind v room 1 16 e next → Refuses true part v (room + 1) e (0x31 ∷ bs)
  receive-binds is h = receive-refused bs (λ k r body l g f some few. byte-next _ _ is (λ z. row-refused r _ h (after-byte is l) g some few))

  pub receive-body : {n : ℕ} {w : Scope} {next last : List ℕ} {u : Tree} → bs ≡ n ∷ next → Reads (row_of a_bind) v room u next last → w ≡ reverse (bound u) ++ v → Refuses true term w room e last → Refuses true part v (room + 1) e (0x31 ∷ bs)
  receive-body {last = last} is c p h = receive-refused bs (λ k r body l g f some few.
      let m = after-byte is l in
      byte-next _ _ is (λ z. read-next r _ c m g (λ y.
      let o = same-scope r c m g y p in
      refused body [] (subst (λ (x : Scope). Refuses true term x room e last) o h) (subst (λ (x : Scope). HasRoom x last) o (bound-room c m p)) f)))

  pub match-target : Refuses true term v room e bs → Refuses true part v (room + 1) e (0x33 ∷ bs)
  match-target h = match-refused bs (λ a r l g k some. refused a _ h l g)

  pub match-cases : {next : List ℕ} {u : Tree} → Reads term v room u bs next → RefusesRow true a_case v room 1 0xFFFFFFFF e next → Refuses true part v (room + 1) e (0x33 ∷ bs)
  match-cases c h = match-refused bs (λ a r l g k some. read-next a _ c l g (λ y. row-refused r [] h (left-less c l) k some (held-few r k)))

  pub bundle-body : {n : ℕ} {next : List ℕ} → bs ≡ n ∷ next → Refuses true term v room e next → Refuses true part v (room + 1) e (0x34 ∷ bs)
  bundle-body is h = bundle-refused bs (λ r a l g. byte-next _ _ is (λ z. refused a [] h (after-byte is l) g))

  pub unary-arg : {n : ℕ} {next : List ℕ} → bs ≡ n ∷ next → Refuses true term v room e next → Refuses true part v (room + 1) e (0x40 ∷ bs)
  unary-arg is h = unary-refused bs (λ o a l g. byte-next _ _ is (λ z. refused a [] h (after-byte is l) g))

  pub binary-left : {n : ℕ} {next : List ℕ} → bs ≡ n ∷ next → Refuses true term v room e next → Refuses true part v (room + 1) e (0x41 ∷ bs)
  binary-left is h = binary-refused bs (λ o a c l g k. byte-next _ _ is (λ z. refused a _ h (after-byte is l) g))

  pub binary-right : {n : ℕ} {next last : List ℕ} {u : Tree} → bs ≡ n ∷ next → Reads term v room u next last → Refuses true term v room e last → Refuses true part v (room + 1) e (0x41 ∷ bs)
  binary-right is r h = binary-refused bs (λ o a c l g k.
      let m = after-byte is l in
      byte-next _ _ is (λ z. read-next a _ r m g (λ y. refused c [] h (left-less r m) k)))

  pub method-target : (s : List ℕ) {next : List ℕ} → bs ≡ text s ++ next → Refuses true term v room e next → Refuses true part v (room + 1) e (0x42 ∷ bs)
  method-target s {next = next} is h = method-refused bs (λ n a r l f few g k.
      next-denied _ is (texts-split s n next is l few) (λ z. refused a _ h (less-left (text s) is l) g))

  pub method-args : (s : List ℕ) {next last : List ℕ} {u : Tree} → bs ≡ text s ++ next → Reads term v room u next last → RefusesRow true term v room 0 0xFFFFFFFF e last → Refuses true part v (room + 1) e (0x42 ∷ bs)
  method-args s {next = next} is c h = method-refused bs (λ n a r l f few g k.
      let m = less-left (text s) is l in
      next-denied _ is (texts-split s n next is l few) (λ z. read-next a _ c m g (λ y. row-refused r [] h (left-less c m) k (omega arith) (held-few r k))))

module _ {v : Scope} (room : ℕ) {e : ReadFault} {bs : List ℕ} where
  pub send-flag : RefusesByte 1 e bs → Refuses true part v (room + 1) e (0x30 ∷ bs)
  send-flag h = send-refused bs (λ q a r l g k. first-denied _ (h (byte_of q) (byte-le q)))

  pub receive-kind : RefusesByte 2 e bs → Refuses true part v (room + 1) e (0x31 ∷ bs)
  receive-kind h = receive-refused bs (λ k r body l g f some few. first-denied _ (h (kind_number k) (kind-le k)))

  pub new-origins : RefusesOrigins e bs → Refuses true part v (room + 1) e (0x32 ∷ bs)
  new-origins h = new-refused bs (λ os body l some few g. first-denied _ (h.no os some few))

  pub bundle-rights : RefusesByte 3 e bs → Refuses true part v (room + 1) e (0x34 ∷ bs)
  bundle-rights h = bundle-refused bs (λ r a l g. first-denied _ (h (rights_number r) (rights-le r)))

  pub unary-op : RefusesByte 1 e bs → Refuses true part v (room + 1) e (0x40 ∷ bs)
  unary-op h = unary-refused bs (λ o a l g. first-denied _ (h (unary_op_number o) (unary-le o)))

  pub binary-op : RefusesByte 14 e bs → Refuses true part v (room + 1) e (0x41 ∷ bs)
  binary-op h = binary-refused bs (λ o a c l g k. first-denied _ (h (binary_op_number o) (binary-le o)))

  pub method-name : ((x : List ℕ) → HasForm kind.Word x → length x < 2 ^ 32 → Denies e bs (text x)) → Refuses true part v (room + 1) e (0x42 ∷ bs)
  method-name h = method-refused bs (λ n a r l f few g k. first-denied _ (h n f few))
