-- Texts and variables that are wrong: what is blamed of them.
use Rattle.std.proofs.Common.{◌≡◌, ◌<◌, ℕ, List, ◌∷◌, [], ◌++◌, length, refl, ◌∙◌, arith, inl, inr}
use Rattle.std.specs.Prelude.{◌⊎◌}
use Rattle.std.proofs.lemmas.Str.{IsUtf8-nil}
use Rattle.calculus.specs.Bytes.{be32}
use Rattle.calculus.specs.Form.{Scope, HasVariable}
use Rattle.calculus.specs.Variables.{Sense}
use Rattle.calculus.proofs.Tails.{length-be32}
use Rattle.code_faults.specs.declared.fault.ReadFault.{ReadFault}
use Rattle.code_faults.specs.declared.fault.ReadFault.TheVariants as fault
use Rattle.code_faults.specs.declared.sort.TextKind.{TextKind}
use Rattle.code_faults.specs.declared.sort.TextKind.TheVariants as kind
use Rattle.code_faults.specs.Texts.{HasForm}
use Rattle.code_faults.specs.Beginning.{Goes, BegunText, BegunVariable, IsInScope}
use Rattle.code_faults.proofs.Begins.{none-cut}
use Rattle.code_faults.proofs.BegunMore.{text-none_begun, length-none_begun}
use Rattle.code_faults.proofs.Places.{goes-at, goes-unnamed}

-- a text of this length that has not the form of its kind is blamed behind its length, or at it, where a name has no bytes
pub ill-formed : {at place : ℕ} {e : ReadFault} (k : TextKind) (n : ℕ) (bs next taken left : List ℕ) → bs ≡ be32 n ++ next → next ≡ taken ++ left → length taken ≡ n → (HasForm k taken → ⊥)
    → ((n ≡ 0) × (e ≡ fault.Unnamed place)) ⊎ ((0 < n) × (e ≡ fault.NotCanonical at)) → place ≡ length bs → at ≡ length next → Goes e (BegunText k bs)
ill-formed k n bs next taken left is p l f (inr h) w q = goes-at _ (text-none_begun k n is (omega (arith, h.0))) h.1 q
ill-formed kind.Str n bs next [] left is p l f (inl h) w q = absurd (f IsUtf8-nil)
ill-formed kind.Uri n bs next [] left is p l f (inl h) w q = absurd (f (IsUtf8-nil, λ c. omega (arith, c.1)))
ill-formed kind.Word n bs next [] left is p l f (inl h) w q = goes-unnamed bs (length-none_begun kind.Word) h.1 w
ill-formed k n bs next (t ∷ taken) left is p l f (inl h) w q = absurd (omega (arith, l, h.0))

-- a variable that is not in scope: its index is blamed where some is, else its tag
pub blamed-begun : {place at tagged_at : ℕ} {e : ReadFault} {v : Scope} {sense : Sense} {bs : List ℕ} (tag : ℕ) → tagged_at ≡ length (tag ∷ bs) → place ≡ length bs
    → e ≡ fault.NotCanonical at → ((at ≡ place) × IsInScope v sense) ⊎ ((at ≡ tagged_at) × ((i : ℕ) → HasVariable v i sense → ⊥)) → Goes e (BegunVariable v sense tag bs)
blamed-begun tag p q h (inl w) = goes-at _ (inr (record { index = w.1.index; has = w.1.has; cut = none-cut (be32 w.1.index) (omega (arith, length-be32 w.1.index)) })) h (w.0 ∙ q)
blamed-begun tag p q h (inr w) = goes-at _ (inl refl) h (w.0 ∙ p)
