-- Why no tag of a part can be read.
use Rattle.std.specs.Prelude.{◌≡◌, ℕ, ◌<◌, ◌≤◌, ◌+◌, Bool, true, false, cond, List, ◌∷◌, length}
use Rattle.calculus.specs.Order.{up_to}
use Rattle.code_faults.specs.declared.fault.ReadFault.{ReadFault}
use Rattle.code_faults.specs.declared.fault.ReadFault.TheVariants as fault
use Rattle.code_faults.specs.Beginning.{IsAt}
use Rattle.code_faults.specs.Refusing.{Denies}
use Rattle.code_faults.specs.Blaming.{TellsNone}
use Rattle.code_faults.specs.Tags.{is_form_tag, is_pat_form_tag}
use Rattle.code_faults.specs.Wide.{is_wide_tag}

-- no byte is left
pub record IsEnd (bs : List ℕ) (e : ReadFault) : Type 0 where
  pub tells : TellsNone e
  pub refuses : (c : List ℕ) → 0 < length c → Denies e bs c
  pub place : IsAt e bs

-- a form stands there, and has no room
pub record HasNoRoom (is_form : ℕ → Bool) (room : ℕ) (bs : List ℕ) (e : ReadFault) : Type 0 where
  pub tag : ℕ
  pub next : List ℕ
  pub is : bs ≡ tag ∷ next
  pub form : is_form tag ≡ true
  pub none : room ≡ 0
  pub place : e ≡ fault.TooDeep (length bs)

-- a part stands there whose code falls below the one before it
pub record IsBelow (last : List ℕ) (room : ℕ) (bs : List ℕ) (e : ReadFault) : Type 0 where
  pub tag : ℕ
  pub next : List ℕ
  pub is : bs ≡ tag ∷ next
  pub fits : room ≡ 0 → is_form_tag tag ≡ false
  pub place : e ≡ fault.NotCanonical (length bs)
  pub refuses : (c : List ℕ) → up_to last c ≡ true → Denies e bs c

-- a part of a pattern stands there, after i parts of which so many are wide, and one too many is wide or not
pub record IsTooWide (wide i room : ℕ) (bs : List ℕ) (e : ReadFault) : Type 0 where
  pub tag : ℕ
  pub next : List ℕ
  pub is : bs ≡ tag ∷ next
  pub fits : room ≡ 0 → is_pat_form_tag tag ≡ false
  pub place : e ≡ fault.NotCanonical (length bs)
  pub many : wide + cond (is_wide_tag tag) 1 0 ≤ 1 → i + 1 ≤ 8 + (wide + cond (is_wide_tag tag) 1 0) → ⊥
