-- Blamed places in parts that are leaves, and parts that are blamed at their tags.
use Rattle.std.proofs.Common.{◌≡◌, ℕ, ◌<◌, ◌≤◌, ◌+◌, ◌^◌, List, [], ◌∷◌, ◌++◌, length, refl, ap, sym, ◌∙◌, subst, arith, ⊎_elim}
use Rattle.std.specs.Prelude.{Bool, true, false, ◌⊎◌}
use Rattle.calculus.specs.Tree.{bool, int, str, uri, bytes, fresh, var, name_var, list, tuple, set, dict, send, receive, new, match, bundle, unary, binary, method, any, some_process, simple, same, both, either, not_this, list_pattern, set_pattern, map_pattern, Tree, node, none, also}
use Rattle.calculus.specs.Kinds.{simple_number}
use Rattle.calculus.specs.declared.plain.Simple.{Simple}
use Rattle.calculus.specs.declared.plain.Simple.TheVariants as simples
use Rattle.calculus.specs.Shape.{leaf}
use Rattle.calculus.specs.Bytes.{be32}
use Rattle.calculus.specs.Variables.{Sense, a_process, a_name}
use Rattle.calculus.specs.Form.{Sort, part, pat_part, Scope, Fits, HasVariable}
use Rattle.calculus.proofs.Ranges.{in_scope}
use Rattle.code_faults.specs.declared.fault.ReadFault.{ReadFault}
use Rattle.code_faults.specs.declared.fault.ReadFault.TheVariants as fault
use Rattle.code_faults.specs.Refusing.{IsRight, HasRoom}
use Rattle.code_faults.specs.Tags.{is_form_tag, is_pat_form_tag}
use Rattle.code_faults.specs.Places.{Stop, these}
use Rattle.code_faults.specs.Blaming.{BlamesIn, Parts, Wrong, WrongVariable, IsIndex, IsTag, InTree, InByte, InGround}
use Rattle.code_faults.specs.declared.sort.Sense.{Sense as Read}
use Rattle.code_faults.specs.Scopes.{scope_of}
use Rattle.code_faults.proofs.Kids.{no_false}
use Rattle.code_faults.proofs.Tags.{tag_of}
use Rattle.code_faults.proofs.Blaming.{tag-passed, field-differs, as-same, not-canonical, level, IsOther, not-other}
use Rattle.code_faults.proofs.BlamedTags.{by-tag_blamed, tag-blamed, either-tag, first-shallow, raises, tag-raises}
use Rattle.code_faults.proofs.BlamedForms.{At, under-leaf}

simple-le : (x : Simple) → simple_number x ≤ 4
simple-le simples.Bool = omega arith
simple-le simples.Int = omega arith
simple-le simples.Str = omega arith
simple-le simples.Uri = omega arith
simple-le simples.Bytes = omega arith

pub room_wrong : {b : Bool} {s : Sort} {v : Scope} {e : ReadFault} {bs : List ℕ} (m n : ℕ) → m ≡ n → Wrong (InTree b s v m) e bs → Wrong (InTree b s v n) e bs
room_wrong {b = b} {s = s} {v = v} {e = e} {bs = bs} m n p h = subst (λ (k : ℕ). Wrong (InTree b s v k) e bs) p h

pub wrong-unscoped : {b : Bool} {s : Sort} {room : ℕ} {e : ReadFault} {bs : List ℕ} {xs : List Read} → xs ≡ [] → Wrong (InTree b s (scope_of xs) room) e bs → Wrong (InTree b s [] room) e bs
wrong-unscoped {b = b} {s = s} {room = room} {e = e} {bs = bs} p h = subst (λ (ys : List Read). Wrong (InTree b s (scope_of ys) room) e bs) p h

pub bytes_wrong : {P : Stop → List ℕ → Type 0} {e : ReadFault} {bs cs : List ℕ} → bs ≡ cs → Wrong P e cs → Wrong P e bs
bytes_wrong {P = P} {e = e} p h = subst (λ (z : List ℕ). Wrong P e z) (sym p) h

-- a variable: a tag, and its index
module _ {v : Scope} {room : ℕ} (sense : Sense) (k : ℕ) (leafy : raises k ≡ 0) (only : (after : List ℕ) → ((i : ℕ) → i < 2 ^ 32 → HasVariable v i sense → (x y : List ℕ) → after ++ x ≡ be32 i ++ y → ⊥) → At true part v room (these after) [] k)
    (has : ((i : ℕ) → HasVariable v i sense → ⊥) → (high : ℕ) → (t : Tree) → IsRight true part v high t → k ≡ tag_of t → ⊥) where
  variable-parts : {at : ℕ} {bs : List ℕ} → IsIndex v sense bs at ⊎ IsTag v sense bs at → Parts (λ after before. InTree true part v room (these after) before) at (k ∷ bs)
  variable-parts {at = at} {bs = bs} h = ⊎_elim
      (λ (i : IsIndex v sense bs at). record { before = k ∷ []; after = bs; are = refl; place = i.place; blames = by-tag_blamed refl k (these bs) [] (λ l high t g w. level t (tag-raises part v t refl g.fits ∙ ap raises w ∙ leafy) (only bs i.differs l high t g w)) })
      (λ (i : IsTag v sense bs at). tag-blamed refl k at bs i.place (has i.none)) h

  variable-wrong : {e : ReadFault} {bs : List ℕ} → WrongVariable v sense e bs → Wrong (InTree true part v room) e (k ∷ bs)
  variable-wrong {e = fault.Short at} h = record { holds = tt }
  variable-wrong {e = fault.NotCanonical at} h = record { holds = variable-parts h.holds }
  variable-wrong {e = fault.TooDeep at} h = absurd h.holds
  variable-wrong {e = fault.Unnamed at} h = absurd h.holds
  variable-wrong {e = fault.NoMemory} h = record { holds = tt }

module _ {v : Scope} {room : ℕ} {e : ReadFault} {bs : List ℕ} where
  pub var_wrong : WrongVariable v a_process e bs → Wrong (InTree true part v room) e (0x16 ∷ bs)
  var_wrong h = variable-wrong a_process 0x16 refl only has h
    where
      only : (after : List ℕ) → ((i : ℕ) → i < 2 ^ 32 → HasVariable v i a_process → (x y : List ℕ) → after ++ x ≡ be32 i ++ y → ⊥) → At true part v room (these after) [] 0x16
      only after d l high (node (var i) none) g w = tag-passed 0x16 _ (field-differs (be32 i) [] (d i (omega (arith, l.few, in_scope v i a_process g.fits.0)) g.fits.0))
      only after d l high (node (var i) (also t ts)) g w = absurd g.fits.1
      only after d l high (node _ ts) g w = absurd (omega arith)

      has : ((i : ℕ) → HasVariable v i a_process → ⊥) → (high : ℕ) → (t : Tree) → IsRight true part v high t → 0x16 ≡ tag_of t → ⊥
      has n high (node (var i) ts) g w = n i g.fits.0
      has n high (node _ ts) g w = omega arith

  pub name_var_wrong : WrongVariable v a_name e bs → Wrong (InTree true part v room) e (0x17 ∷ bs)
  name_var_wrong h = variable-wrong a_name 0x17 refl only has h
    where
      only : (after : List ℕ) → ((i : ℕ) → i < 2 ^ 32 → HasVariable v i a_name → (x y : List ℕ) → after ++ x ≡ be32 i ++ y → ⊥) → At true part v room (these after) [] 0x17
      only after d l high (node (name_var i) none) g w = tag-passed 0x17 _ (field-differs (be32 i) [] (d i (omega (arith, l.few, in_scope v i a_name g.fits.0)) g.fits.0))
      only after d l high (node (name_var i) (also t ts)) g w = absurd g.fits.1
      only after d l high (node _ ts) g w = absurd (omega arith)

      has : ((i : ℕ) → HasVariable v i a_name → ⊥) → (high : ℕ) → (t : Tree) → IsRight true part v high t → 0x17 ≡ tag_of t → ⊥
      has n high (node (name_var i) ts) g w = n i g.fits.0
      has n high (node _ ts) g w = omega arith

-- nothing but other bytes stops a reader at the tag of a plain value
no-ground : {stop : Stop} → IsOther stop → InGround stop [] → ⊥
no-ground n j = not-other n (j.no 0 (bool true) tt tt (omega arith)) (omega arith)

module _ {v : Scope} {room : ℕ} {e : ReadFault} {bs : List ℕ} where
  pub ground_wrong : (k : ℕ) → (k ≡ 0x15 → ⊥) → (k ≡ 0x16 → ⊥) → (k ≡ 0x17 → ⊥) → is_form_tag k ≡ false → Wrong InGround e (k ∷ bs) → Wrong (InTree true part v room) e (k ∷ bs)
  ground_wrong k p q r n h = as-same InGround (InTree true part v room) e (λ stop before w j. either-tag refl k bs stop before w (λ n at. no-ground n (subst (InGround stop) at j)) (λ l high t g u. go stop before j high t g u)) h
    where
      go : (stop : Stop) (before : List ℕ) → InGround stop before → (high : ℕ) → (t : Tree) → IsRight true part v high t → tag_of t ≡ k → BlamesIn stop room before t
      go stop before j high (node (bool x) none) g w = level (leaf (bool x)) refl (j.no room (bool x) tt g.fits.0 g.short)
      go stop before j high (node (int x) none) g w = level (leaf (int x)) refl (j.no room (int x) tt g.fits.0 g.short)
      go stop before j high (node (str x) none) g w = level (leaf (str x)) refl (j.no room (str x) tt g.fits.0 g.short)
      go stop before j high (node (uri x) none) g w = level (leaf (uri x)) refl (j.no room (uri x) tt g.fits.0 g.short)
      go stop before j high (node (bytes x) none) g w = level (leaf (bytes x)) refl (j.no room (bytes x) tt g.fits.0 g.short)
      go stop before j high (node (bool x) (also t ts)) g w = absurd g.fits.1
      go stop before j high (node (int x) (also t ts)) g w = absurd g.fits.1
      go stop before j high (node (str x) (also t ts)) g w = absurd g.fits.1
      go stop before j high (node (uri x) (also t ts)) g w = absurd g.fits.1
      go stop before j high (node (bytes x) (also t ts)) g w = absurd g.fits.1
      go stop before j high (node (fresh x) ts) g w = absurd (p (sym w))
      go stop before j high (node (var x) ts) g w = absurd (q (sym w))
      go stop before j high (node (name_var x) ts) g w = absurd (r (sym w))
      go stop before j high (node list ts) g w = absurd (no_false (subst (λ (z : ℕ). is_form_tag z ≡ false) (sym w) n))
      go stop before j high (node tuple ts) g w = absurd (no_false (subst (λ (z : ℕ). is_form_tag z ≡ false) (sym w) n))
      go stop before j high (node set ts) g w = absurd (no_false (subst (λ (z : ℕ). is_form_tag z ≡ false) (sym w) n))
      go stop before j high (node dict ts) g w = absurd (no_false (subst (λ (z : ℕ). is_form_tag z ≡ false) (sym w) n))
      go stop before j high (node (send x) ts) g w = absurd (no_false (subst (λ (z : ℕ). is_form_tag z ≡ false) (sym w) n))
      go stop before j high (node (receive x) ts) g w = absurd (no_false (subst (λ (z : ℕ). is_form_tag z ≡ false) (sym w) n))
      go stop before j high (node (new x) ts) g w = absurd (no_false (subst (λ (z : ℕ). is_form_tag z ≡ false) (sym w) n))
      go stop before j high (node match ts) g w = absurd (no_false (subst (λ (z : ℕ). is_form_tag z ≡ false) (sym w) n))
      go stop before j high (node (bundle x) ts) g w = absurd (no_false (subst (λ (z : ℕ). is_form_tag z ≡ false) (sym w) n))
      go stop before j high (node (unary x) ts) g w = absurd (no_false (subst (λ (z : ℕ). is_form_tag z ≡ false) (sym w) n))
      go stop before j high (node (binary x) ts) g w = absurd (no_false (subst (λ (z : ℕ). is_form_tag z ≡ false) (sym w) n))
      go stop before j high (node (method x) ts) g w = absurd (no_false (subst (λ (z : ℕ). is_form_tag z ≡ false) (sym w) n))
      go stop before j high (node _ ts) g w = absurd g.fits.1

module _ {b : Bool} {v : Scope} {room : ℕ} {e : ReadFault} {bs : List ℕ} where
  pub plain_wrong : (k : ℕ) → (k ≡ 0x50 → ⊥) → (k ≡ 0x52 → ⊥) → (k ≡ 0x57 → ⊥) → is_pat_form_tag k ≡ false → Wrong InGround e (k ∷ bs) → Wrong (InTree b pat_part v room) e (k ∷ bs)
  plain_wrong k p q r n h = as-same InGround (InTree b pat_part v room) e (λ stop before w j. either-tag refl k bs stop before w (λ n at. no-ground n (subst (InGround stop) at j)) (λ l high t g u. go stop before j high t g u)) h
    where
      go : (stop : Stop) (before : List ℕ) → InGround stop before → (high : ℕ) → (t : Tree) → IsRight b pat_part v high t → tag_of t ≡ k → BlamesIn stop room before t
      go stop before j high (node (bool x) none) g w = level (leaf (bool x)) refl (j.no room (bool x) tt g.fits.0 g.short)
      go stop before j high (node (int x) none) g w = level (leaf (int x)) refl (j.no room (int x) tt g.fits.0 g.short)
      go stop before j high (node (str x) none) g w = level (leaf (str x)) refl (j.no room (str x) tt g.fits.0 g.short)
      go stop before j high (node (uri x) none) g w = level (leaf (uri x)) refl (j.no room (uri x) tt g.fits.0 g.short)
      go stop before j high (node (bytes x) none) g w = level (leaf (bytes x)) refl (j.no room (bytes x) tt g.fits.0 g.short)
      go stop before j high (node (bool x) (also t ts)) g w = absurd g.fits.1
      go stop before j high (node (int x) (also t ts)) g w = absurd g.fits.1
      go stop before j high (node (str x) (also t ts)) g w = absurd g.fits.1
      go stop before j high (node (uri x) (also t ts)) g w = absurd g.fits.1
      go stop before j high (node (bytes x) (also t ts)) g w = absurd g.fits.1
      go stop before j high (node some_process ts) g w = absurd (p (sym w))
      go stop before j high (node any ts) g w = absurd (q (sym w))
      go stop before j high (node (simple x) ts) g w = absurd (r (sym w))
      go stop before j high (node same ts) g w = absurd (no_false (subst (λ (z : ℕ). is_pat_form_tag z ≡ false) (sym w) n))
      go stop before j high (node both ts) g w = absurd (no_false (subst (λ (z : ℕ). is_pat_form_tag z ≡ false) (sym w) n))
      go stop before j high (node either ts) g w = absurd (no_false (subst (λ (z : ℕ). is_pat_form_tag z ≡ false) (sym w) n))
      go stop before j high (node not_this ts) g w = absurd (no_false (subst (λ (z : ℕ). is_pat_form_tag z ≡ false) (sym w) n))
      go stop before j high (node list_pattern ts) g w = absurd (no_false (subst (λ (z : ℕ). is_pat_form_tag z ≡ false) (sym w) n))
      go stop before j high (node tuple ts) g w = absurd (no_false (subst (λ (z : ℕ). is_pat_form_tag z ≡ false) (sym w) n))
      go stop before j high (node set_pattern ts) g w = absurd (no_false (subst (λ (z : ℕ). is_pat_form_tag z ≡ false) (sym w) n))
      go stop before j high (node map_pattern ts) g w = absurd (no_false (subst (λ (z : ℕ). is_pat_form_tag z ≡ false) (sym w) n))
      go stop before j high (node (send x) ts) g w = absurd (no_false (subst (λ (z : ℕ). is_pat_form_tag z ≡ false) (sym w) n))
      go stop before j high (node (bundle x) ts) g w = absurd (no_false (subst (λ (z : ℕ). is_pat_form_tag z ≡ false) (sym w) n))
      go stop before j high (node (receive x) ts) g w = absurd (no_false (subst (λ (z : ℕ). is_pat_form_tag z ≡ false) (sym w) n))
      go stop before j high (node (new x) ts) g w = absurd (no_false (subst (λ (z : ℕ). is_pat_form_tag z ≡ false) (sym w) n))
      go stop before j high (node match ts) g w = absurd (no_false (subst (λ (z : ℕ). is_pat_form_tag z ≡ false) (sym w) n))
      go stop before j high (node _ ts) g w = absurd g.fits.1

module _ {b : Bool} {v : Scope} {room : ℕ} {bs : List ℕ} where
  -- a variable where none may be bound
  pub unbound_wrong : (at : ℕ) → at ≡ length bs + 1 → b ≡ false → Wrong (InTree b pat_part v room) (fault.NotCanonical at) (0x50 ∷ bs)
  unbound_wrong at p f = not-canonical (tag-blamed refl 0x50 at bs p go)
    where
      go : (high : ℕ) → (t : Tree) → IsRight b pat_part v high t → 0x50 ≡ tag_of t → ⊥
      go high (node some_process ts) g w = cc (g.free f)
      go high (node _ ts) g w = omega arith

module _ {b : Bool} {v : Scope} {room : ℕ} {e : ReadFault} {bs : List ℕ} where
  pub simple_wrong : Wrong (InByte 4) e bs → Wrong (InTree b pat_part v room) e (0x57 ∷ bs)
  simple_wrong h = under-leaf (InByte 4) 0x57 [] refl refl refl go h
    where
      go : (stop : Stop) (before : List ℕ) → InByte 4 stop before → At b pat_part v room stop before 0x57
      go stop before j l high (node (simple k) none) g w = tag-passed 0x57 _ (j room (simple_number k) (simple-le k))
      go stop before j l high (node (simple k) (also t ts)) g w = absurd g.fits.1
      go stop before j l high (node _ ts) g w = absurd (omega arith)

  -- a closed form, which stands in no scope
  pub closed_wrong : (k : ℕ) → 0x31 ≤ k → k ≤ 0x33 → Wrong (InTree true part [] room) e (k ∷ bs) → Wrong (InTree b pat_part v room) e (k ∷ bs)
  closed_wrong k p q h = as-same (InTree true part [] room) (InTree b pat_part v room) e (λ stop before w j. either-tag refl k bs stop before w
      (λ n at. no-part n (subst (InTree true part [] room stop) at j)) (λ l high t. go stop before j high t l)) h
    where
      closed : {high : ℕ} {t : Tree} → IsRight b pat_part v high t → Fits part [] t → IsRight true part [] high t
      closed g f = record { fits = f; low = g.low; short = g.short; free = λ x. absurd (no_false x) }

      no-part : {stop : Stop} → IsOther stop → InTree true part [] room stop [] → ⊥
      no-part {stop = stop} n j =
          let g : IsRight true part [] 0 (leaf (bool true)) = record { fits = (tt, tt); low = omega arith; short = omega arith; free = λ x. absurd (no_false x) } in
          first-shallow {s = part} refl stop 0 (leaf (bool true)) n g (j.no (record { few = omega arith }) 0 (leaf (bool true)) g)

      go : (stop : Stop) (before : List ℕ) → InTree true part [] room stop before → (high : ℕ) → (t : Tree) → HasRoom v before → IsRight b pat_part v high t → tag_of t ≡ k → BlamesIn stop room before t
      go stop before j high (node (receive x) ts) l g w = j.no (record { few = omega (arith, l.few) }) high (node (receive x) ts) (closed g g.fits)
      go stop before j high (node (new x) ts) l g w = j.no (record { few = omega (arith, l.few) }) high (node (new x) ts) (closed g g.fits)
      go stop before j high (node match ts) l g w = j.no (record { few = omega (arith, l.few) }) high (node match ts) (closed g g.fits)
      go stop before j high (node _ ts) l g w = absurd (omega arith)
