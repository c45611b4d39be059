-- What codes are made of, and where bytes go wrong in one.
use Rattle.std.specs.Prelude.{◌≡◌, ℕ, ◌<◌, ◌≤◌, ◌-◌, ◌^◌, Bool, true, false, cond, List, [], ◌∷◌, ◌++◌, pos, ◌+ℤ◌, nat_abs, length, map as each, if◌then◌else◌}
use Rattle.calculus.specs.Bytes.{be32, be64}
use Rattle.calculus.specs.Shape.{count, listed, label_of}
use Rattle.calculus.specs.Size.{rise}
use Rattle.calculus.specs.Order.{up_to}
use Rattle.calculus.specs.Congruence.{is_bag}
use Rattle.calculus.specs.Kinds.{simple_number, kind_number, rights_number, unary_op_number, binary_op_number, rest_number, origin_number}
use Rattle.calculus.specs.Tree.{Label, par, row, bool, int, str, uri, bytes, fresh, var, name_var, list, tuple, set, dict, pair, send, receive, bind, new, match, case, bundle, unary, binary, method, pattern, rest, any, some_process, some_name, simple, same, both, either, not_this, list_pattern, set_pattern, map_pattern, Tree, node, Trees, none, also}
use Rattle.calculus.specs.Code.{byte_of, code}
use Rattle.calculus.specs.Form.{Sort, part, pat_part}
use Rattle.code_faults.specs.Tags.{is_form_tag, is_pat_form_tag}

-- the length of a text, and its content
abbrev pub text_fields : List ℕ → List (List ℕ)
text_fields s = be32 (length s) ∷ s ∷ []

-- the fields that stand before the codes of a form's constituents, of which there are n
abbrev pub fields : Label → ℕ → List (List ℕ)
fields par n = be32 n ∷ []
fields row n = be32 n ∷ []
fields (bool x) n = (0x10 ∷ []) ∷ (byte_of x ∷ []) ∷ []
fields (int x) n = (0x11 ∷ []) ∷ be64 (nat_abs (x +ℤ pos (2 ^ 63))) ∷ []
fields (str x) n = (0x12 ∷ []) ∷ text_fields x
fields (uri x) n = (0x13 ∷ []) ∷ text_fields x
fields (bytes x) n = (0x14 ∷ []) ∷ text_fields x
fields (fresh x) n = (0x15 ∷ []) ∷ x ∷ []
fields (var x) n = (0x16 ∷ []) ∷ be32 x ∷ []
fields (name_var x) n = (0x17 ∷ []) ∷ be32 x ∷ []
fields list n = (0x20 ∷ []) ∷ be32 n ∷ []
fields tuple n = (0x21 ∷ []) ∷ be32 n ∷ []
fields set n = (0x22 ∷ []) ∷ be32 n ∷ []
fields dict n = (0x23 ∷ []) ∷ be32 n ∷ []
fields pair n = []
fields (send x) n = (0x30 ∷ []) ∷ (byte_of x ∷ []) ∷ []
fields (receive x) n = (0x31 ∷ []) ∷ (kind_number x ∷ []) ∷ []
fields bind n = []
fields (new x) n = (0x32 ∷ []) ∷ be32 (length x) ∷ each (λ o. origin_number o ∷ []) x
fields match n = (0x33 ∷ []) ∷ []
fields case n = []
fields (bundle x) n = (0x34 ∷ []) ∷ (rights_number x ∷ []) ∷ []
fields (unary x) n = (0x40 ∷ []) ∷ (unary_op_number x ∷ []) ∷ []
fields (binary x) n = (0x41 ∷ []) ∷ (binary_op_number x ∷ []) ∷ []
fields (method x) n = (0x42 ∷ []) ∷ text_fields x
fields pattern n = be32 n ∷ []
fields (rest x) n = (rest_number x ∷ []) ∷ []
fields any n = (0x52 ∷ []) ∷ []
fields some_process n = (0x50 ∷ []) ∷ []
fields some_name n = (0x51 ∷ []) ∷ []
fields (simple x) n = (0x57 ∷ []) ∷ (simple_number x ∷ []) ∷ []
fields same n = (0x53 ∷ []) ∷ []
fields both n = (0x54 ∷ []) ∷ []
fields either n = (0x55 ∷ []) ∷ []
fields not_this n = (0x56 ∷ []) ∷ []
fields list_pattern n = (0x20 ∷ []) ∷ []
fields set_pattern n = (0x22 ∷ []) ∷ []
fields map_pattern n = (0x23 ∷ []) ∷ []

-- what stands in a place of a code: a part of a process, a part of a pattern, or what is neither
pub data Slot : Type 0 where
  a_part : Slot
  a_pat_part : Slot
  another : Slot

-- what the constituents of a form are
abbrev pub slot_of : Label → Slot
slot_of par = a_part
slot_of pattern = a_pat_part
slot_of _ = another

-- the same, by their sort
abbrev pub slot_for : Sort → Slot
slot_for part = a_part
slot_for pat_part = a_pat_part
slot_for _ = another

-- whether bytes begin with the tag of a form that may stand there
abbrev pub begins_form : Slot → List ℕ → Bool
begins_form slot [] = false
begins_form a_part (tag ∷ bs) = is_form_tag tag
begins_form a_pat_part (tag ∷ bs) = is_pat_form_tag tag
begins_form another (tag ∷ bs) = false

-- what a code is made of: a field, the length of a method's name, or a constituent whose code is no less than these bytes
pub data Item : Type 0 where
  field : List ℕ → Item
  name_length : ℕ → Item
  inner : Slot → List ℕ → Tree → Item

-- the bytes of it
abbrev pub spelled : Item → List ℕ
spelled (field f) = f
spelled (name_length n) = be32 n
spelled (inner slot least t) = code t

-- the bytes of these, one after another
abbrev pub spelling : List Item → List ℕ
spelling [] = []
spelling (i ∷ is) = spelled i ++ spelling is

-- a tree among others, before the first whose code is not less
unfoldable pub put : Tree → List Tree → List Tree
put t [] = t ∷ []
put t (u ∷ us) = if up_to (code t) (code u) then t ∷ u ∷ us else u ∷ put t us

-- these trees, ascending in their codes
unfoldable pub by_code : Trees → List Tree
by_code none = []
by_code (also t ts) = put t (by_code ts)

-- constituents as their codes stand in the code of a form: ascending where they have no order, and else as written
abbrev pub standing : Bool → Trees → List Tree
standing true ts = by_code ts
standing false ts = listed ts

-- constituents after these bytes: where they have no order, each is no less than the one before it
abbrev pub constituents : Slot → Bool → List ℕ → List Tree → List Item
constituents slot bag least [] = []
constituents slot bag least (t ∷ ts) = inner slot least t ∷ constituents slot bag (cond bag (code t) []) ts

-- what stands before the codes of a form's constituents
abbrev pub own_items : Label → ℕ → List Item
own_items (method x) n = field (0x42 ∷ []) ∷ name_length (length x) ∷ field x ∷ []
own_items l n = each field (fields l n)

-- what the code of a tree is made of
abbrev pub items : Tree → List Item
items (node l ts) = own_items l (count ts) ++ constituents (slot_of l) (is_bag l) [] (standing (is_bag l) ts)

-- what stops a reader at a place: these bytes, which no code has there, the tag of a form that is too deep there, and what follows it, or a length of 0 for a method's name, and what follows it
pub data Stop : Type 0 where
  these : List ℕ → Stop
  form : List ℕ → Stop
  nameless : List ℕ → Stop

-- the bytes from there on
abbrev pub bytes_of : Stop → List ℕ
bytes_of (these bs) = bs
bytes_of (form bs) = bs
bytes_of (nameless bs) = bs

-- with more bytes behind them, these are no less than those
pub record Reaches (least bs : List ℕ) : Type 0 where
  pub more : List ℕ
  pub up : up_to least (bs ++ more) ≡ true

-- where no more forms have room, bytes do not begin with the tag of one that may stand in this place
abbrev pub IsNoForm : ℕ → Slot → List ℕ → Type 0
IsNoForm room slot bs = room ≡ 0 → begins_form slot bs ≡ false

-- where a place lies in a constituent, its form has room
pub record Lies (room : ℕ) (least : List ℕ) (t : Tree) (before after : List ℕ) : Type 0 where
  pub reaches : 0 < length before → Reaches least (before ++ after)
  pub fits : 0 < length before → rise (label_of t) ≤ room

-- A reader that has read the bytes before a place in a code made of these stops there, where so many forms have room in one another. Bytes stop it that are not the field there, or that fall below the least that the constituent there may be, however they go on. A form stops it where a part stands and no form has room, and a length of 0 where that of a method's name stands: these are no wrong bytes. Of what falls below, the outermost is meant, and of two causes in one place the form.
pub data Breaks : Stop → ℕ → List Item → List ℕ → Type 0 where
  differs : (after : List ℕ) (room : ℕ) (f : List ℕ) (is : List Item) → ((x y : List ℕ) → after ++ x ≡ f ++ y → ⊥) → Breaks (these after) room (field f ∷ is) []
  misses : (after : List ℕ) (room : ℕ) (n : ℕ) (is : List Item) → ((x y : List ℕ) → after ++ x ≡ be32 n ++ y → ⊥) → ((others : List ℕ) → after ≡ be32 0 ++ others → ⊥) → Breaks (these after) room (name_length n ∷ is) []
  unnamed : (after others : List ℕ) (room : ℕ) (n : ℕ) (is : List Item) → after ≡ be32 0 ++ others → ((x y : List ℕ) → after ++ x ≡ be32 n ++ y → ⊥) → Breaks (nameless after) room (name_length n ∷ is) []
  falls : (after : List ℕ) (room : ℕ) (slot : Slot) (least : List ℕ) (t : Tree) (is : List Item) → ((x : List ℕ) → up_to least (after ++ x) ≡ true → ⊥) → IsNoForm room slot after → Breaks (these after) room (inner slot least t ∷ is) []
  deep : (after : List ℕ) (slot : Slot) (least : List ℕ) (t : Tree) (is : List Item) → begins_form slot after ≡ true → Breaks (form after) 0 (inner slot least t ∷ is) []
  within : (stop : Stop) (room : ℕ) (slot : Slot) (least : List ℕ) (t : Tree) (is : List Item) (before : List ℕ) → Lies room least t before (bytes_of stop) → (length before ≡ 0 → IsNoForm room slot (bytes_of stop)) → Breaks stop (room - rise (label_of t)) (items t) before → Breaks stop room (inner slot least t ∷ is) before
  past : (stop : Stop) (room : ℕ) (i : Item) (is : List Item) (before : List ℕ) → Breaks stop room is before → Breaks stop room (i ∷ is) (spelled i ++ before)
