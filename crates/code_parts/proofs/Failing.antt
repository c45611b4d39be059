-- What a fault that is passed on says of the bytes.
use Rattle.std.proofs.Common.{◌≡◌, ℕ, List, ◌∷◌, sym, subst}
use Rattle.std.specs.Prelude.{Bool, true, Result, Ok, Err}
use Rattle.std.specs.Result.{IsErrAnd}
use Rattle.calculus.specs.Tree.{Tree}
use Rattle.calculus.specs.Variables.{Sense}
use Rattle.calculus.specs.Form.{Sort, Scope}
use Rattle.code_faults.specs.declared.fault.ReadFault.{ReadFault}
use Rattle.code_parts.specs.Outcomes.{Comes, Fails, ReadsPart, ReadsPatPart}

pub failed : {T : Type 0} (P : T → Type 0) (Q : ReadFault → Type 0) (r : Result T ReadFault) (e : ReadFault) → IsErrAnd r (λ y. y ≡ e) → Q e → Comes r P Q
failed P Q (Ok x) e h q = absurd h
failed P Q (Err y) e h q = subst Q (sym h) q

pub passed : {T : Type 0} (P R : T → Type 0) (Q S : ReadFault → Type 0) (r : Result T ReadFault) → Comes r P Q → ((x : T) → P x → R x) → ((e : ReadFault) → Q e → S e) → Comes r R S
passed P R Q S (Ok x) h f g = f x h
passed P R Q S (Err e) h f g = g e h

-- the tag of a part is this one
pub tag-fails : {b : Bool} {s : Sort} {v : Scope} {room : ℕ} {e : ReadFault} {bs : List ℕ} (tag k : ℕ) → tag ≡ k → Fails b s v room (k ∷ bs) e → Fails b s v room (tag ∷ bs) e
tag-fails {b = b} {s = s} {v = v} {room = room} {e = e} {bs = bs} tag k p h = subst (λ (x : ℕ). Fails b s v room (x ∷ bs) e) (sym p) h

-- the room is told in another way
pub part-at-room : {T : Type 0} (r : Result T ReadFault) (f : T → Tree) (s : Sort) (v : Scope) (m n : ℕ) (bs left : List ℕ) → m ≡ n
    → Comes r (λ p. ReadsPart s v m bs left (f p)) (Fails true s v m bs) → Comes r (λ p. ReadsPart s v n bs left (f p)) (Fails true s v n bs)
part-at-room r f s v m n bs left e h = subst (λ (k : ℕ). Comes r (λ p. ReadsPart s v k bs left (f p)) (Fails true s v k bs)) e h

pub pat_part-at-room : {T : Type 0} (r : Result T ReadFault) (f : T → Tree) (b : Bool) (s : Sort) (v : Scope) (m n : ℕ) (before after : List Sense) (bs left : List ℕ) → m ≡ n
    → Comes r (λ p. ReadsPatPart b s v m before after bs left (f p)) (Fails b s v m bs) → Comes r (λ p. ReadsPatPart b s v n before after bs left (f p)) (Fails b s v n bs)
pat_part-at-room r f b s v m n before after bs left e h = subst (λ (k : ℕ). Comes r (λ p. ReadsPatPart b s v k before after bs left (f p)) (Fails b s v k bs)) e h
