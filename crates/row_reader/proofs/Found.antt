-- What a fault says of bytes.
use Rattle.std.proofs.Common.{◌≡◌, ℕ, ◌<◌, ◌^◌, List, [], ◌++◌, length, refl, ◌∙◌, append-nil}
use Rattle.std.specs.Prelude.{Err, Result}
use Rattle.calculus.specs.Rows.{Row, row_code}
use Rattle.code_faults.specs.declared.fault.ReadFault.{ReadFault}
use Rattle.code_faults.specs.declared.fault.ReadFault.TheVariants as fault
use Rattle.row_reader.specs.declared.front.RowFault.{RowFault}
use Rattle.row_reader.specs.declared.front.RowFault.TheVariants as found
use Rattle.row_reader.specs.RowCodes.{fault_of, IsRow, RefusesRows, WhereCut}

pub err-same : {T E : Type 0} {x y : E} → ◌≡◌ {A = Result T E} (Err x) (Err y) → x ≡ y
err-same q = cc

module _ {f : RowFault} where
  pub cut-found : (e : ReadFault) {X : Type 0} → f ≡ fault_of e → f ≡ found.Cut → WhereCut e X → X
  cut-found (fault.Short at) p q h = h
  cut-found (fault.NotCanonical at) p q h = absurd (cc)
  cut-found (fault.TooDeep at) p q h = absurd (cc)
  cut-found (fault.Unnamed at) p q h = absurd (cc)
  cut-found fault.NoMemory p q h = absurd (cc)

  pub whole-found : (e : ReadFault) {bs : List ℕ} → f ≡ fault_of e → f ≡ found.Cut → RefusesRows e bs → length bs < 2 ^ 32 → (r : Row) (y : List ℕ) → IsRow r → length (row_code r) < 2 ^ 32 → bs ≡ row_code r ++ y → ⊥
  whole-found (fault.Short at) {bs = bs} p q h few r y k s e = (h.no few r k s).no [] y refl (append-nil bs ∙ e)
  whole-found (fault.NotCanonical at) p q h few r y k s e = absurd (cc)
  whole-found (fault.TooDeep at) p q h few r y k s e = absurd (cc)
  whole-found (fault.Unnamed at) p q h few r y k s e = absurd (cc)
  whole-found fault.NoMemory p q h few r y k s e = absurd (cc)

  pub wrong-found : (e : ReadFault) {bs : List ℕ} → f ≡ fault_of e → f ≡ found.Wrong → RefusesRows e bs → length bs < 2 ^ 32 → (r : Row) (x y : List ℕ) → IsRow r → length (row_code r) < 2 ^ 32 → bs ++ x ≡ row_code r ++ y → ⊥
  wrong-found (fault.Short at) p q h few r x y k s e = absurd (cc)
  wrong-found (fault.NotCanonical at) p q h few r x y k s e = (h.no few r k s).no x y tt e
  wrong-found (fault.TooDeep at) p q h few r x y k s e = (h.no few r k s).no x y tt e
  wrong-found (fault.Unnamed at) p q h few r x y k s e = (h.no few r k s).no x y tt e
  wrong-found fault.NoMemory p q h few r x y k s e = absurd (cc)
