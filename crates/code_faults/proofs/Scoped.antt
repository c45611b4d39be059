-- Scopes with no variables, and those in which some were found.
use Rattle.std.proofs.Common.{◌≡◌, ℕ, List, [], ◌++◌, length, ap, sym, ◌∙◌, subst}
use Rattle.std.specs.Prelude.{Bool, false, ◌==◌}
use Rattle.calculus.specs.Form.{Sort}
use Rattle.calculus.specs.Tree.{Tree}
use Rattle.calculus.specs.Variables.{Sense}
use Rattle.calculus.proofs.ListCodes.{length-map}
use Rattle.code_faults.specs.declared.sort.Sense.{Sense as Read}
use Rattle.code_faults.specs.declared.fault.ReadFault.{ReadFault}
use Rattle.code_faults.specs.Scopes.{sense_of, senses_of, scope_of}
use Rattle.code_faults.specs.Reading.{Reads}
use Rattle.code_faults.specs.Refusing.{Refuses}
use Rattle.code_faults.proofs.Kids.{no_false}

pub refuses-unscoped : {b : Bool} {s : Sort} {room : ℕ} {e : ReadFault} {bs : List ℕ} {xs : List Read} → xs ≡ [] → Refuses b s (scope_of xs) room e bs → Refuses b s [] room e bs
refuses-unscoped {b = b} {s = s} {room = room} {e = e} {bs = bs} p h = subst (λ (ys : List Read). Refuses b s (scope_of ys) room e bs) p h

pub reads-unscoped : {s : Sort} {room : ℕ} {t : Tree} {bs next : List ℕ} {xs : List Read} → xs ≡ [] → Reads s (scope_of xs) room t bs next → Reads s [] room t bs next
reads-unscoped {s = s} {room = room} {t = t} {bs = bs} {next = next} p h = subst (λ (ys : List Read). Reads s (scope_of ys) room t bs next) p h

-- where nothing was bound, nothing was found
pub found-none : {xs : List Read} (ys : List Read) {vs : List Sense} → xs ≡ [] → senses_of ys ≡ senses_of xs ++ vs → vs ≡ [] → length ys ≡ 0
found-none ys {vs = vs} p q t = sym (length-map sense_of ys) ∙ ap length (q ∙ ap (λ (zs : List Read). senses_of zs ++ vs) p ∙ t)

-- a length that is tested
pub not-empty : (n : ℕ) (e : Bool) → e ≡ (n == 0) → e ≡ false → n ≡ 0 → ⊥
not-empty n e p q r = no_false (sym (p ∙ ap (λ (k : ℕ). k == 0) r) ∙ q)
