-- Where a form of a pattern, a case or a bind is refused: at each of its fields.
use Rattle.std.proofs.Common.{◌≡◌, ℕ, ◌≤◌, ◌+◌, List, [], ◌∷◌, ◌++◌, refl, sym, ◌∙◌, subst, arith, reverse, append-nil}
use Rattle.std.specs.Prelude.{Bool, true, false}
use Rattle.calculus.specs.Tree.{bool, int, str, uri, bytes, simple, some_process, any, receive, new, match, tuple, send, bundle, same, both, either, not_this, list_pattern, set_pattern, map_pattern, Tree, node, none, also}
use Rattle.calculus.specs.Kinds.{rights_number, simple_number}
use Rattle.calculus.specs.declared.plain.Simple.{Simple}
use Rattle.calculus.specs.declared.plain.Simple.TheVariants as simples
use Rattle.calculus.specs.Code.{byte_of, code}
use Rattle.calculus.specs.Form.{term, part, a_bind, a_case, pat, name_pat, pat_part, row_of, pair_of, Scope, Fits}
use Rattle.calculus.specs.Variables.{bound}
use Rattle.code_faults.specs.declared.fault.ReadFault.{ReadFault}
use Rattle.code_faults.specs.Reading.{Reads}
use Rattle.code_faults.specs.Refusing.{Denies, IsRight, HasRoom, Refuses, RefusesRow, RefusesByte, RefusesRest, RefusesGround}
use Rattle.code_faults.specs.Tags.{is_pat_form_tag}
use Rattle.code_faults.proofs.Denying.{first-denied, byte-next, read-next, refused, left-less, tag-next, read-short}
use Rattle.code_faults.proofs.Kids.{no_false, row-refused, held-few}
use Rattle.code_faults.proofs.Tags.{by-tag, Of}
use Rattle.code_faults.proofs.Exits.{byte-le, rights-le, after-byte}
use Rattle.code_faults.proofs.PatRefusals.{list_pattern-refused, set_pattern-refused, map_pattern-refused, send_pattern-refused, bundle_pattern-refused, same-refused, both-refused, either-refused, not_this-refused}
use Rattle.code_faults.proofs.CaseRefusals.{case-refused, bind-refused, same-scope, bound-room}
use Rattle.code_faults.proofs.BoundCodes.{bound-code}

simple-le : (x : Simple) → simple_number x ≤ 4
simple-le simples.Bool = omega arith
simple-le simples.Int = omega arith
simple-le simples.Str = omega arith
simple-le simples.Uri = omega arith
simple-le simples.Bytes = omega arith

module _ {b : Bool} {v : Scope} {room : ℕ} {e : ReadFault} {bs : List ℕ} where
  pub list-members : RefusesRow b pat v room 0 0xFFFFFFFF e bs → Refuses b pat_part v (room + 1) e (0x20 ∷ bs)
  list-members h = list_pattern-refused bs (λ r q l g f. row-refused r _ h l g (omega arith) (held-few r g))

  pub list-rest : {u : Tree} {next : List ℕ} → Reads (row_of pat) v room u bs next → RefusesRest b e next → Refuses b pat_part v (room + 1) e (0x20 ∷ bs)
  list-rest c h = list_pattern-refused bs (λ r q l g f. read-next r _ c l g (λ z. h.no q f))

  pub set-members : RefusesRow b pat v room 0 8 e bs → Refuses b pat_part v (room + 1) e (0x22 ∷ bs)
  set-members h = set_pattern-refused bs (λ r q l g m f. row-refused r _ h l g (omega arith) m)

  pub set-rest : {u : Tree} {next : List ℕ} → Reads (row_of pat) v room u bs next → RefusesRest b e next → Refuses b pat_part v (room + 1) e (0x22 ∷ bs)
  set-rest c h = set_pattern-refused bs (λ r q l g m f. read-next r _ c l g (λ z. h.no q f))

  pub map-pairs : RefusesRow b (pair_of pat) v room 0 8 e bs → Refuses b pat_part v (room + 1) e (0x23 ∷ bs)
  map-pairs h = map_pattern-refused bs (λ r q l g m f. row-refused r _ h l g (omega arith) m)

  pub map-rest : {u : Tree} {next : List ℕ} → Reads (row_of (pair_of pat)) v room u bs next → RefusesRest b e next → Refuses b pat_part v (room + 1) e (0x23 ∷ bs)
  map-rest c h = map_pattern-refused bs (λ r q l g m f. read-next r _ c l g (λ z. h.no q f))

  pub pat_send-channel : {n : ℕ} {next : List ℕ} → bs ≡ n ∷ next → Refuses b name_pat v room e next → Refuses b pat_part v (room + 1) e (0x30 ∷ bs)
  pat_send-channel is h = send_pattern-refused bs (λ q a r l g k. byte-next _ _ is (λ z. refused a _ h (after-byte is l) g))

  pub pat_send-args : {n : ℕ} {next last : List ℕ} {u : Tree} → bs ≡ n ∷ next → Reads name_pat v room u next last → RefusesRow b pat v room 0 0xFFFFFFFF e last → Refuses b pat_part v (room + 1) e (0x30 ∷ bs)
  pat_send-args is c h = send_pattern-refused bs (λ q a r l g k.
      let m = after-byte is l in
      byte-next _ _ is (λ z. read-next a _ c m g (λ y. row-refused r [] h (left-less c m) k (omega arith) (held-few r k))))

  pub pat_bundle-body : {n : ℕ} {next : List ℕ} → bs ≡ n ∷ next → Refuses false pat v room e next → Refuses b pat_part v (room + 1) e (0x34 ∷ bs)
  pat_bundle-body is h = bundle_pattern-refused bs (λ r a l g. byte-next _ _ is (λ z. refused a [] h (after-byte is l) g))

  pub same-body : Refuses true term v room e bs → Refuses b pat_part v (room + 1) e (0x53 ∷ bs)
  same-body h = same-refused bs (λ a l g. refused a [] h l g)

  pub both-left : Refuses b pat v room e bs → Refuses b pat_part v (room + 1) e (0x54 ∷ bs)
  both-left h = both-refused bs (λ a c l g k. refused a _ h l g)

  pub both-right : {u : Tree} {next : List ℕ} → Reads pat v room u bs next → Refuses b pat v room e next → Refuses b pat_part v (room + 1) e (0x54 ∷ bs)
  both-right r h = both-refused bs (λ a c l g k. read-next a _ r l g (λ z. refused c [] h (left-less r l) k))

  pub either-left : Refuses false pat v room e bs → Refuses b pat_part v (room + 1) e (0x55 ∷ bs)
  either-left h = either-refused bs (λ a c l g k. refused a _ h l g)

  pub either-right : {u : Tree} {next : List ℕ} → Reads pat v room u bs next → Refuses false pat v room e next → Refuses b pat_part v (room + 1) e (0x55 ∷ bs)
  either-right r h = either-refused bs (λ a c l g k. read-next a _ r l g (λ z. refused c [] h (left-less r l) k))

  pub not-body : Refuses false pat v room e bs → Refuses b pat_part v (room + 1) e (0x56 ∷ bs)
  not-body h = not_this-refused bs (λ a l g. refused a [] h l g)

module _ {b : Bool} {v : Scope} (room : ℕ) {e : ReadFault} {bs : List ℕ} where
  pub pat_send-flag : RefusesByte 1 e bs → Refuses b pat_part v (room + 1) e (0x30 ∷ bs)
  pat_send-flag h = send_pattern-refused bs (λ q a r l g k. first-denied _ (h (byte_of q) (byte-le q)))

  pub pat_bundle-rights : RefusesByte 3 e bs → Refuses b pat_part v (room + 1) e (0x34 ∷ bs)
  pat_bundle-rights h = bundle_pattern-refused bs (λ r a l g. first-denied _ (h (rights_number r) (rights-le r)))

closed : {b : Bool} {v : Scope} {room : ℕ} {t : Tree} → IsRight b pat_part v room t → Fits part [] t → IsRight true part [] room t
closed g f = record { fits = f; low = g.low; short = g.short; free = λ q. absurd (no_false q) }

-- parts of any height
module _ {b : Bool} {v : Scope} {room : ℕ} {e : ReadFault} (bs : List ℕ) where
  -- a variable where none may be bound
  pub variable-refused : b ≡ false → Refuses b pat_part v room e (0x50 ∷ bs)
  variable-refused f = by-tag 0x50 bs refl (λ l t. go t l)
    where
      go : (t : Tree) → Of b pat_part v room e bs 0x50 t
      go (node some_process ts) l g w = absurd (cc (g.free f))
      go (node _ ts) l g w = absurd (omega arith)

  pub simple-refused : RefusesByte 4 e bs → Refuses b pat_part v room e (0x57 ∷ bs)
  simple-refused h = by-tag 0x57 bs refl (λ l t. go t l)
    where
      go : (t : Tree) → Of b pat_part v room e bs 0x57 t
      go (node (simple k) none) l g w = tag-next 0x57 _ (h (simple_number k) (simple-le k))
      go (node (simple k) (also t ts)) l g w = absurd g.fits.1
      go (node _ ts) l g w = absurd (omega arith)

  -- a closed form, which stands in no scope
  pub closed-refused : (k : ℕ) → 0x31 ≤ k → k ≤ 0x33 → Refuses true part [] room e (k ∷ bs) → Refuses b pat_part v room e (k ∷ bs)
  closed-refused k p q h = by-tag k bs refl (λ l t. go t l)
    where
      go : (t : Tree) → Of b pat_part v room e bs k t
      go (node (receive x) ts) l g w = h.no (record { few = omega (arith, l.few) }) (node (receive x) ts) (closed g g.fits)
      go (node (new x) ts) l g w = h.no (record { few = omega (arith, l.few) }) (node (new x) ts) (closed g g.fits)
      go (node match ts) l g w = h.no (record { few = omega (arith, l.few) }) (node match ts) (closed g g.fits)
      go (node _ ts) l g w = absurd (omega arith)

  pub plain-refused : (k : ℕ) → (k ≡ 0x50 → ⊥) → (k ≡ 0x52 → ⊥) → (k ≡ 0x57 → ⊥) → is_pat_form_tag k ≡ false → RefusesGround e (k ∷ bs) → Refuses b pat_part v room e (k ∷ bs)
  plain-refused k p q r n h = by-tag k bs refl (λ l t. go t l)
    where
      go : (t : Tree) → Of b pat_part v room e bs k t
      go (node (bool x) none) l g w = h.no (bool x) tt g.fits.0 g.short
      go (node (int x) none) l g w = h.no (int x) tt g.fits.0 g.short
      go (node (str x) none) l g w = h.no (str x) tt g.fits.0 g.short
      go (node (uri x) none) l g w = h.no (uri x) tt g.fits.0 g.short
      go (node (bytes x) none) l g w = h.no (bytes x) tt g.fits.0 g.short
      go (node (bool x) (also t ts)) l g w = absurd g.fits.1
      go (node (int x) (also t ts)) l g w = absurd g.fits.1
      go (node (str x) (also t ts)) l g w = absurd g.fits.1
      go (node (uri x) (also t ts)) l g w = absurd g.fits.1
      go (node (bytes x) (also t ts)) l g w = absurd g.fits.1
      go (node some_process ts) l g w = absurd (p (sym w))
      go (node any ts) l g w = absurd (q (sym w))
      go (node (simple x) ts) l g w = absurd (r (sym w))
      go (node same ts) l g w = absurd (no_false (subst (λ (z : ℕ). is_pat_form_tag z ≡ false) (sym w) n))
      go (node both ts) l g w = absurd (no_false (subst (λ (z : ℕ). is_pat_form_tag z ≡ false) (sym w) n))
      go (node either ts) l g w = absurd (no_false (subst (λ (z : ℕ). is_pat_form_tag z ≡ false) (sym w) n))
      go (node not_this ts) l g w = absurd (no_false (subst (λ (z : ℕ). is_pat_form_tag z ≡ false) (sym w) n))
      go (node list_pattern ts) l g w = absurd (no_false (subst (λ (z : ℕ). is_pat_form_tag z ≡ false) (sym w) n))
      go (node tuple ts) l g w = absurd (no_false (subst (λ (z : ℕ). is_pat_form_tag z ≡ false) (sym w) n))
      go (node set_pattern ts) l g w = absurd (no_false (subst (λ (z : ℕ). is_pat_form_tag z ≡ false) (sym w) n))
      go (node map_pattern ts) l g w = absurd (no_false (subst (λ (z : ℕ). is_pat_form_tag z ≡ false) (sym w) n))
      go (node (send x) ts) l g w = absurd (no_false (subst (λ (z : ℕ). is_pat_form_tag z ≡ false) (sym w) n))
      go (node (bundle x) ts) l g w = absurd (no_false (subst (λ (z : ℕ). is_pat_form_tag z ≡ false) (sym w) n))
      go (node (receive x) ts) l g w = absurd (no_false (subst (λ (z : ℕ). is_pat_form_tag z ≡ false) (sym w) n))
      go (node (new x) ts) l g w = absurd (no_false (subst (λ (z : ℕ). is_pat_form_tag z ≡ false) (sym w) n))
      go (node match ts) l g w = absurd (no_false (subst (λ (z : ℕ). is_pat_form_tag z ≡ false) (sym w) n))
      go (node _ ts) l g w = absurd g.fits.1

  -- a form has no room
  pub deep_pattern-refused : (k : ℕ) → is_pat_form_tag k ≡ true → room ≡ 0 → Refuses b pat_part v room e (k ∷ bs)
  deep_pattern-refused k n r = by-tag k bs refl (λ l t. go t l)
    where
      go : (t : Tree) → Of b pat_part v room e bs k t
      go (node (bool x) ts) l g w = absurd (no_false (sym (subst (λ (z : ℕ). is_pat_form_tag z ≡ true) (sym w) n)))
      go (node (int x) ts) l g w = absurd (no_false (sym (subst (λ (z : ℕ). is_pat_form_tag z ≡ true) (sym w) n)))
      go (node (str x) ts) l g w = absurd (no_false (sym (subst (λ (z : ℕ). is_pat_form_tag z ≡ true) (sym w) n)))
      go (node (uri x) ts) l g w = absurd (no_false (sym (subst (λ (z : ℕ). is_pat_form_tag z ≡ true) (sym w) n)))
      go (node (bytes x) ts) l g w = absurd (no_false (sym (subst (λ (z : ℕ). is_pat_form_tag z ≡ true) (sym w) n)))
      go (node any ts) l g w = absurd (no_false (sym (subst (λ (z : ℕ). is_pat_form_tag z ≡ true) (sym w) n)))
      go (node some_process ts) l g w = absurd (no_false (sym (subst (λ (z : ℕ). is_pat_form_tag z ≡ true) (sym w) n)))
      go (node (simple x) ts) l g w = absurd (no_false (sym (subst (λ (z : ℕ). is_pat_form_tag z ≡ true) (sym w) n)))
      go (node same ts) l g w = absurd (omega (arith, g.low, r))
      go (node both ts) l g w = absurd (omega (arith, g.low, r))
      go (node either ts) l g w = absurd (omega (arith, g.low, r))
      go (node not_this ts) l g w = absurd (omega (arith, g.low, r))
      go (node list_pattern ts) l g w = absurd (omega (arith, g.low, r))
      go (node tuple ts) l g w = absurd (omega (arith, g.low, r))
      go (node set_pattern ts) l g w = absurd (omega (arith, g.low, r))
      go (node map_pattern ts) l g w = absurd (omega (arith, g.low, r))
      go (node (send x) ts) l g w = absurd (omega (arith, g.low, r))
      go (node (bundle x) ts) l g w = absurd (omega (arith, g.low, r))
      go (node (receive x) ts) l g w = absurd (omega (arith, g.low, r))
      go (node (new x) ts) l g w = absurd (omega (arith, g.low, r))
      go (node match ts) l g w = absurd (omega (arith, g.low, r))
      go (node _ ts) l g w = absurd g.fits.1

module _ {v : Scope} {room : ℕ} {e : ReadFault} {bs : List ℕ} where
  pub case-pattern : Refuses true pat v room e bs → Refuses true a_case v room e bs
  case-pattern h = case-refused bs (λ t body l g k. refused t _ h l g)

  pub case-body : {w : Scope} {u : Tree} {next : List ℕ} → Reads pat v room u bs next → w ≡ reverse (bound u) ++ v → Refuses true term w room e next → Refuses true a_case v room e bs
  case-body {next = next} c p h = case-refused bs (λ t body l g k. read-next t _ c l g (λ y.
      let o = same-scope t c l g y p in
      refused body [] (subst (λ (x : Scope). Refuses true term x room e next) o h) (subst (λ (x : Scope). HasRoom x next) o (bound-room c l p)) k))

  pub bind-channel : Refuses true term v room e bs → Refuses true a_bind v room e bs
  bind-channel h = bind-refused bs (λ c r q l g k. refused c _ h l g)

  pub bind-patterns : {u : Tree} {next : List ℕ} → Reads term v room u bs next → RefusesRow true name_pat v room 0 0xFFFFFFFF e next → Refuses true a_bind v room e bs
  bind-patterns a h = bind-refused bs (λ c r q l g k. read-next c _ a l g (λ y. row-refused r _ h (left-less a l) k (omega arith) (held-few r k)))

  pub bind-rest : {u t : Tree} {next last : List ℕ} → Reads term v room u bs next → Reads (row_of name_pat) v room t next last → RefusesRest true e last → Refuses true a_bind v room e bs
  bind-rest a d h = bind-refused bs (λ c r q l g k. read-next c _ a l g (λ y. read-next r _ d (left-less a l) k (λ z. h.no q (λ f. absurd (no_false f)))))

  -- a pattern was read that binds variables, and none may be bound
  pub bound-refused : {u : Tree} {next : List ℕ} → Reads pat v room u bs next → (bound u ≡ [] → ⊥) → Refuses false pat v room e bs
  bound-refused {u = u} c n = record {
    no = λ l t g. subst (λ (z : List ℕ). Denies e bs z) (append-nil (code t)) (read-next t [] c l g
        (λ y. absurd (n (bound-code pat v v u t c.fits g.fits (read-short c l) g.short y ∙ g.free refl))));
  }
