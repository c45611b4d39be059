-- Refused leaves, and parts that are refused by their tags alone.
use Rattle.std.proofs.Common.{◌≡◌, ℕ, ◌<◌, ◌≤◌, ◌+◌, ◌^◌, List, [], ◌∷◌, ◌++◌, length, refl, ap, sym, subst, arith, length-append, append-nil}
use Rattle.std.specs.Prelude.{true, false, nat_abs, ◌+ℤ◌, pos}
use Rattle.calculus.specs.Tree.{Label, bool, int, str, uri, bytes, fresh, var, name_var, list, tuple, set, dict, send, receive, new, match, bundle, unary, binary, method, Tree, node, none, also}
use Rattle.calculus.specs.Bytes.{be32, be64}
use Rattle.calculus.specs.Shape.{leaf}
use Rattle.calculus.specs.Code.{text, code}
use Rattle.calculus.specs.CodeLaws.{IsShort}
use Rattle.calculus.specs.Variables.{a_process, a_name}
use Rattle.calculus.specs.Form.{part, Scope, HasVariable, IsPlain}
use Rattle.calculus.proofs.Tails.{length-text, length-be32}
use Rattle.calculus.proofs.Ranges.{in_scope}
use Rattle.code_faults.specs.declared.fault.ReadFault.{ReadFault}
use Rattle.code_faults.specs.declared.fault.ReadFault.TheVariants.{Short}
use Rattle.code_faults.specs.declared.sort.TextKind.TheVariants as kind
use Rattle.code_faults.specs.Texts.{HasForm}
use Rattle.code_faults.specs.Refusing.{IsGround, Denies, Refuses, RefusesByte, RefusesGround, RefusesNumber}
use Rattle.code_faults.specs.Tags.{is_form_tag}
use Rattle.code_faults.proofs.Denying.{first-denied, byte-denied, number-next, tag-next}
use Rattle.code_faults.proofs.Kids.{no_false}
use Rattle.code_faults.proofs.Tags.{by-tag, Of}

-- bytes that are too few
pub short-denied : (at : ℕ) (bs c : List ℕ) → length bs < length c → Denies (Short at) bs c
short-denied at bs c h = record { no = λ x y m q. omega (arith, ap length q, ap length m, length-append bs x, length-append c y) }

another : {e : ReadFault} {bs : List ℕ} (n m : ℕ) (d : List ℕ) → (n ≡ m → ⊥) → Denies e (n ∷ bs) (m ∷ d)
another n m d h = byte-denied m d refl h

pub ground-bool : {e : ReadFault} {bs : List ℕ} → RefusesByte 1 e bs → RefusesGround e (0x10 ∷ bs)
ground-bool {e = e} {bs = bs} h = record { no = go }
  where
    go : (l : Label) → IsGround l → IsPlain part [] l none → IsShort (leaf l) → Denies e (0x10 ∷ bs) (code (leaf l))
    go (bool true) g p a = tag-next 0x10 (1 ∷ []) (h 1 (omega arith))
    go (bool false) g p a = tag-next 0x10 (0 ∷ []) (h 0 (omega arith))
    go (int x) g p a = another _ _ _ (λ q. omega arith)
    go (str x) g p a = another _ _ _ (λ q. omega arith)
    go (uri x) g p a = another _ _ _ (λ q. omega arith)
    go (bytes x) g p a = another _ _ _ (λ q. omega arith)
    go _ g p a = absurd g

pub ground-int : {e : ReadFault} {bs : List ℕ} → ((n : ℕ) → Denies e bs (be64 n)) → RefusesGround e (0x11 ∷ bs)
ground-int {e = e} {bs = bs} h = record { no = go }
  where
    go : (l : Label) → IsGround l → IsPlain part [] l none → IsShort (leaf l) → Denies e (0x11 ∷ bs) (code (leaf l))
    go (int x) g p a = tag-next 0x11 _ (first-denied [] (h (nat_abs (x +ℤ pos (2 ^ 63)))))
    go (bool x) g p a = another _ _ _ (λ q. omega arith)
    go (str x) g p a = another _ _ _ (λ q. omega arith)
    go (uri x) g p a = another _ _ _ (λ q. omega arith)
    go (bytes x) g p a = another _ _ _ (λ q. omega arith)
    go _ g p a = absurd g

few-bytes : (l : Label) (s : List ℕ) → length (code (leaf l)) ≡ 1 + length (text s) → IsShort (leaf l) → length s < 2 ^ 32
few-bytes l s e a = omega (arith, a, e, length-text s)

pub ground-str : {e : ReadFault} {bs : List ℕ} → ((s : List ℕ) → HasForm kind.Str s → length s < 2 ^ 32 → Denies e bs (text s)) → RefusesGround e (0x12 ∷ bs)
ground-str {e = e} {bs = bs} h = record { no = go }
  where
    go : (l : Label) → IsGround l → IsPlain part [] l none → IsShort (leaf l) → Denies e (0x12 ∷ bs) (code (leaf l))
    go (str x) g p a = tag-next 0x12 _ (first-denied [] (h x p.0 (few-bytes (str x) x (omega (arith, length-append (0x12 ∷ text x) [])) a)))
    go (bool x) g p a = another _ _ _ (λ q. omega arith)
    go (int x) g p a = another _ _ _ (λ q. omega arith)
    go (uri x) g p a = another _ _ _ (λ q. omega arith)
    go (bytes x) g p a = another _ _ _ (λ q. omega arith)
    go _ g p a = absurd g

pub ground-uri : {e : ReadFault} {bs : List ℕ} → ((s : List ℕ) → HasForm kind.Uri s → length s < 2 ^ 32 → Denies e bs (text s)) → RefusesGround e (0x13 ∷ bs)
ground-uri {e = e} {bs = bs} h = record { no = go }
  where
    go : (l : Label) → IsGround l → IsPlain part [] l none → IsShort (leaf l) → Denies e (0x13 ∷ bs) (code (leaf l))
    go (uri x) g p a = tag-next 0x13 _ (first-denied [] (h x (p.0, p.1.1) (few-bytes (uri x) x (omega (arith, length-append (0x13 ∷ text x) [])) a)))
    go (bool x) g p a = another _ _ _ (λ q. omega arith)
    go (int x) g p a = another _ _ _ (λ q. omega arith)
    go (str x) g p a = another _ _ _ (λ q. omega arith)
    go (bytes x) g p a = another _ _ _ (λ q. omega arith)
    go _ g p a = absurd g

pub ground-bytes : {e : ReadFault} {bs : List ℕ} → ((s : List ℕ) → length s < 2 ^ 32 → Denies e bs (text s)) → RefusesGround e (0x14 ∷ bs)
ground-bytes {e = e} {bs = bs} h = record { no = go }
  where
    go : (l : Label) → IsGround l → IsPlain part [] l none → IsShort (leaf l) → Denies e (0x14 ∷ bs) (code (leaf l))
    go (bytes x) g p a = tag-next 0x14 _ (first-denied [] (h x (few-bytes (bytes x) x (omega (arith, length-append (0x14 ∷ text x) [])) a)))
    go (bool x) g p a = another _ _ _ (λ q. omega arith)
    go (int x) g p a = another _ _ _ (λ q. omega arith)
    go (str x) g p a = another _ _ _ (λ q. omega arith)
    go (uri x) g p a = another _ _ _ (λ q. omega arith)
    go _ g p a = absurd g

pub ground-none : {e : ReadFault} {bs : List ℕ} (k : ℕ) → (k ≡ 0x10 → ⊥) → (k ≡ 0x11 → ⊥) → (k ≡ 0x12 → ⊥) → (k ≡ 0x13 → ⊥) → (k ≡ 0x14 → ⊥) → RefusesGround e (k ∷ bs)
ground-none {e = e} {bs = bs} k q r s t u = record { no = go }
  where
    go : (l : Label) → IsGround l → IsPlain part [] l none → IsShort (leaf l) → Denies e (k ∷ bs) (code (leaf l))
    go (bool x) g p a = another _ _ _ q
    go (int x) g p a = another _ _ _ r
    go (str x) g p a = another _ _ _ s
    go (uri x) g p a = another _ _ _ t
    go (bytes x) g p a = another _ _ _ u
    go _ g p a = absurd g

-- a leaf of a process: it has no constituents
module _ {v : Scope} {room : ℕ} {e : ReadFault} (bs : List ℕ) where
  pub fresh-refused : ((x : List ℕ) → length x ≡ 32 → Denies e bs x) → Refuses true part v room e (0x15 ∷ bs)
  fresh-refused f = by-tag 0x15 bs refl (λ l t. go t l)
    where
      go : (t : Tree) → Of true part v room e bs 0x15 t
      go (node (fresh x) none) l g w = tag-next 0x15 _ (first-denied [] (f x g.fits.0.0))
      go (node (fresh x) (also t ts)) l g w = absurd g.fits.1
      go (node _ ts) l g w = absurd (omega arith)

  pub var-refused : ((i : ℕ) → i < 2 ^ 32 → HasVariable v i a_process → Denies e bs (be32 i)) → Refuses true part v room e (0x16 ∷ bs)
  var-refused f = by-tag 0x16 bs refl (λ l t. go t l)
    where
      go : (t : Tree) → Of true part v room e bs 0x16 t
      go (node (var i) none) l g w = tag-next 0x16 _ (first-denied [] (f i (omega (arith, l.few, in_scope v i a_process g.fits.0)) g.fits.0))
      go (node (var i) (also t ts)) l g w = absurd g.fits.1
      go (node _ ts) l g w = absurd (omega arith)

  pub name_var-refused : ((i : ℕ) → i < 2 ^ 32 → HasVariable v i a_name → Denies e bs (be32 i)) → Refuses true part v room e (0x17 ∷ bs)
  name_var-refused f = by-tag 0x17 bs refl (λ l t. go t l)
    where
      go : (t : Tree) → Of true part v room e bs 0x17 t
      go (node (name_var i) none) l g w = tag-next 0x17 _ (first-denied [] (f i (omega (arith, l.few, in_scope v i a_name g.fits.0)) g.fits.0))
      go (node (name_var i) (also t ts)) l g w = absurd g.fits.1
      go (node _ ts) l g w = absurd (omega arith)

  pub ground-refused : (k : ℕ) → (k ≡ 0x15 → ⊥) → (k ≡ 0x16 → ⊥) → (k ≡ 0x17 → ⊥) → is_form_tag k ≡ false → RefusesGround e (k ∷ bs) → Refuses true part v room e (k ∷ bs)
  ground-refused k p q r n h = by-tag k bs refl (λ l t. go t l)
    where
      go : (t : Tree) → Of true part v room e bs k t
      go (node (bool x) none) l g w = h.no (bool x) tt g.fits.0 g.short
      go (node (int x) none) l g w = h.no (int x) tt g.fits.0 g.short
      go (node (str x) none) l g w = h.no (str x) tt g.fits.0 g.short
      go (node (uri x) none) l g w = h.no (uri x) tt g.fits.0 g.short
      go (node (bytes x) none) l g w = h.no (bytes x) tt g.fits.0 g.short
      go (node (bool x) (also t ts)) l g w = absurd g.fits.1
      go (node (int x) (also t ts)) l g w = absurd g.fits.1
      go (node (str x) (also t ts)) l g w = absurd g.fits.1
      go (node (uri x) (also t ts)) l g w = absurd g.fits.1
      go (node (bytes x) (also t ts)) l g w = absurd g.fits.1
      go (node (fresh x) ts) l g w = absurd (p (sym w))
      go (node (var x) ts) l g w = absurd (q (sym w))
      go (node (name_var x) ts) l g w = absurd (r (sym w))
      go (node list ts) l g w = absurd (no_false (subst (λ (z : ℕ). is_form_tag z ≡ false) (sym w) n))
      go (node tuple ts) l g w = absurd (no_false (subst (λ (z : ℕ). is_form_tag z ≡ false) (sym w) n))
      go (node set ts) l g w = absurd (no_false (subst (λ (z : ℕ). is_form_tag z ≡ false) (sym w) n))
      go (node dict ts) l g w = absurd (no_false (subst (λ (z : ℕ). is_form_tag z ≡ false) (sym w) n))
      go (node (send x) ts) l g w = absurd (no_false (subst (λ (z : ℕ). is_form_tag z ≡ false) (sym w) n))
      go (node (receive x) ts) l g w = absurd (no_false (subst (λ (z : ℕ). is_form_tag z ≡ false) (sym w) n))
      go (node (new x) ts) l g w = absurd (no_false (subst (λ (z : ℕ). is_form_tag z ≡ false) (sym w) n))
      go (node match ts) l g w = absurd (no_false (subst (λ (z : ℕ). is_form_tag z ≡ false) (sym w) n))
      go (node (bundle x) ts) l g w = absurd (no_false (subst (λ (z : ℕ). is_form_tag z ≡ false) (sym w) n))
      go (node (unary x) ts) l g w = absurd (no_false (subst (λ (z : ℕ). is_form_tag z ≡ false) (sym w) n))
      go (node (binary x) ts) l g w = absurd (no_false (subst (λ (z : ℕ). is_form_tag z ≡ false) (sym w) n))
      go (node (method x) ts) l g w = absurd (no_false (subst (λ (z : ℕ). is_form_tag z ≡ false) (sym w) n))
      go (node _ ts) l g w = absurd g.fits.1

  -- a form has no room
  pub deep-refused : (k : ℕ) → is_form_tag k ≡ true → room ≡ 0 → Refuses true part v room e (k ∷ bs)
  deep-refused k n r = by-tag k bs refl (λ l t. go t l)
    where
      go : (t : Tree) → Of true part v room e bs k t
      go (node (bool x) ts) l g w = absurd (no_false (sym (subst (λ (z : ℕ). is_form_tag z ≡ true) (sym w) n)))
      go (node (int x) ts) l g w = absurd (no_false (sym (subst (λ (z : ℕ). is_form_tag z ≡ true) (sym w) n)))
      go (node (str x) ts) l g w = absurd (no_false (sym (subst (λ (z : ℕ). is_form_tag z ≡ true) (sym w) n)))
      go (node (uri x) ts) l g w = absurd (no_false (sym (subst (λ (z : ℕ). is_form_tag z ≡ true) (sym w) n)))
      go (node (bytes x) ts) l g w = absurd (no_false (sym (subst (λ (z : ℕ). is_form_tag z ≡ true) (sym w) n)))
      go (node (fresh x) ts) l g w = absurd (no_false (sym (subst (λ (z : ℕ). is_form_tag z ≡ true) (sym w) n)))
      go (node (var x) ts) l g w = absurd (no_false (sym (subst (λ (z : ℕ). is_form_tag z ≡ true) (sym w) n)))
      go (node (name_var x) ts) l g w = absurd (no_false (sym (subst (λ (z : ℕ). is_form_tag z ≡ true) (sym w) n)))
      go (node list ts) l g w = absurd (omega (arith, g.low, r))
      go (node tuple ts) l g w = absurd (omega (arith, g.low, r))
      go (node set ts) l g w = absurd (omega (arith, g.low, r))
      go (node dict ts) l g w = absurd (omega (arith, g.low, r))
      go (node (send x) ts) l g w = absurd (omega (arith, g.low, r))
      go (node (receive x) ts) l g w = absurd (omega (arith, g.low, r))
      go (node (new x) ts) l g w = absurd (omega (arith, g.low, r))
      go (node match ts) l g w = absurd (omega (arith, g.low, r))
      go (node (bundle x) ts) l g w = absurd (omega (arith, g.low, r))
      go (node (unary x) ts) l g w = absurd (omega (arith, g.low, r))
      go (node (binary x) ts) l g w = absurd (omega (arith, g.low, r))
      go (node (method x) ts) l g w = absurd (omega (arith, g.low, r))
      go (node _ ts) l g w = absurd g.fits.1

-- another number stands there
pub number-others : {e : ReadFault} {bs : List ℕ} {least most : ℕ} (n : ℕ) (next : List ℕ) → bs ≡ be32 n ++ next → n < 2 ^ 32 → ((m : ℕ) → least ≤ m → m ≤ most → n ≡ m → ⊥) → RefusesNumber least most e bs
number-others {e = e} {bs = bs} n next is h k = record { no = λ m p q r. subst (λ (z : List ℕ). Denies e bs z) (append-nil (be32 m)) (number-next m [] is h r (λ w. absurd (k m p q w))) }

pub number-short : {least most : ℕ} (at : ℕ) (bs : List ℕ) → length bs < 4 → RefusesNumber least most (Short at) bs
number-short at bs h = record { no = λ m p q r. short-denied at bs (be32 m) (omega (arith, length-be32 m)) }

pub ground-at : {e : ReadFault} {bs : List ℕ} {tag k : ℕ} → tag ≡ k → RefusesGround e (k ∷ bs) → RefusesGround e (tag ∷ bs)
ground-at {e = e} {bs = bs} p h = subst (λ (x : ℕ). RefusesGround e (x ∷ bs)) (sym p) h
