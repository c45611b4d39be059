-- What was read and added, and why something was not.
use Rattle.std.proofs.Common.{◌≡◌, ℕ, List, [], ◌++◌, ap, sym, ◌∙◌, subst, ⊎_elim}
use Rattle.std.specs.Prelude.{Result, Ok, Err, Bool, IfErr, IfOk, IsOkAnd, ◌⊎◌}
use Rattle.std.specs.Result.{IsErrAnd}
use Rattle.calculus.specs.Tree.{Tree}
use Rattle.calculus.specs.Form.{Sort, Scope, pair_of}
use Rattle.calculus.specs.Variables.{Sense, bound}
use Rattle.rho_term.specs.Parts.{pair_tree}
use Rattle.code_faults.specs.declared.fault.ReadFault.{ReadFault}
use Rattle.code_faults.specs.declared.fault.ReadFault.TheVariants.{NoMemory}
use Rattle.code_faults.specs.Reading.{Reads}
use Rattle.code_faults.proofs.BegunPats.{free-two}
use Rattle.code_faults.proofs.Parts.{pair-form}
use Rattle.code_parts.specs.Outcomes.{Comes, Fails, FailsRow, FailsBag}
use Rattle.code_parts.proofs.LeafForms.{bound-two}
use Rattle.code_parts.proofs.RowFailures.{memory-fails, memory-row-fails, memory-bag-fails}

-- a thing that was read, and what holds since it was added
pub record Kept (T : Type 0) (P K : T → Type 0) : Type 0 where
  pub value : T
  pub read : P value
  pub kept : K value

pub kept : {T : Type 0} (P K : T → Type 0) (Q : ReadFault → Type 0) (r : Result T ReadFault) → Comes r P Q → IsOkAnd r K → Kept T P K
kept P K Q (Ok x) h k = record { value = x; read = h; kept = k }
kept P K Q (Err e) h k = absurd k

-- what was read comes to what it was read for
pub came : {T : Type 0} (P : T → Type 0) (Q : ReadFault → Type 0) (x : T) (r : Result T ReadFault) → Comes r P Q → r ≡ Ok x → P x
came {T = T} P Q x r h e = subst (λ (y : Result T ReadFault). Comes y P Q) e h

-- what was not read fails for the fault that was told
pub went : {T : Type 0} (P : T → Type 0) (Q : ReadFault → Type 0) (e : ReadFault) (r : Result T ReadFault) → Comes r P Q → r ≡ Err e → Q e
went {T = T} P Q e r h k = subst (λ (y : Result T ReadFault). Comes y P Q) k h

-- memory was wanted, or it was not read
either-fault : {T : Type 0} (S : ReadFault → Type 0) (r : Result T ReadFault) (e : ReadFault) → (e ≡ NoMemory) ⊎ (r ≡ Err e) → S NoMemory → (r ≡ Err e → S e) → S e
either-fault S r e k s f = ⊎_elim (λ (m : e ≡ NoMemory). subst S (sym m) s) f k

module _ {T : Type 0} (P : T → Type 0) (Q : ReadFault → Type 0) {b : Bool} {s : Sort} {v : Scope} {room : ℕ} {bs : List ℕ} (r : Result T ReadFault) (e : ReadFault) where
  pub unkept : Comes r P Q → (e ≡ NoMemory) ⊎ (r ≡ Err e) → (Q e → Fails b s v room bs e) → Fails b s v room bs e
  unkept h k f = either-fault (λ (x : ReadFault). Fails b s v room bs x) r e k memory-fails (λ m. f (went P Q e r h m))

  pub unkept-row : {least most : ℕ} → Comes r P Q → (e ≡ NoMemory) ⊎ (r ≡ Err e) → (Q e → FailsRow b s v room least most bs e) → FailsRow b s v room least most bs e
  unkept-row {least = least} {most = most} h k f = either-fault (λ (x : ReadFault). FailsRow b s v room least most bs x) r e k memory-row-fails (λ m. f (went P Q e r h m))

-- or something else was wrong after it was read
module _ {T : Type 0} (P L : T → Type 0) (Q S : ReadFault → Type 0) (r : Result T ReadFault) (e : ReadFault) where
  after : Comes r P Q → (r ≡ Err e) ⊎ IsOkAnd r L → (Q e → S e) → ((x : T) → P x → L x → S e) → S e
  after h k f g = ⊎_elim (λ (m : r ≡ Err e). f (went P Q e r h m)) (λ (m : IsOkAnd r L). let w : Kept T P L = kept P L Q r h m in g w.value w.read w.kept) k

  after-all : Comes r P Q → (e ≡ NoMemory) ⊎ ((r ≡ Err e) ⊎ IsOkAnd r L) → S NoMemory → (Q e → S e) → ((x : T) → P x → L x → S e) → S e
  after-all h k s f g = ⊎_elim (λ (m : e ≡ NoMemory). subst S (sym m) s) (λ (m : (r ≡ Err e) ⊎ IsOkAnd r L). after h m f g) k

module _ {T : Type 0} (P L : T → Type 0) (Q : ReadFault → Type 0) {b : Bool} {s : Sort} {v : Scope} {room : ℕ} {bs : List ℕ} (r : Result T ReadFault) (e : ReadFault) where
  pub unread : Comes r P Q → (r ≡ Err e) ⊎ IsOkAnd r L → (Q e → Fails b s v room bs e) → ((x : T) → P x → L x → Fails b s v room bs e) → Fails b s v room bs e
  unread h k f g = after P L Q (λ (x : ReadFault). Fails b s v room bs x) r e h k f g

  pub unread-row : {least most : ℕ} → Comes r P Q → (r ≡ Err e) ⊎ IsOkAnd r L → (Q e → FailsRow b s v room least most bs e) → ((x : T) → P x → L x → FailsRow b s v room least most bs e)
      → FailsRow b s v room least most bs e
  unread-row {least = least} {most = most} h k f g = after P L Q (λ (x : ReadFault). FailsRow b s v room least most bs x) r e h k f g

module _ {T : Type 0} (P L : T → Type 0) (Q : ReadFault → Type 0) {s : Sort} {v : Scope} {room : ℕ} {bs : List ℕ} (r : Result T ReadFault) (e : ReadFault) where
  pub unkept-bag : Comes r P Q → (e ≡ NoMemory) ⊎ ((r ≡ Err e) ⊎ IsOkAnd r L) → (Q e → FailsBag s v room bs e) → ((x : T) → P x → L x → FailsBag s v room bs e) → FailsBag s v room bs e
  unkept-bag h k f g = after-all P L Q (λ (x : ReadFault). FailsBag s v room bs x) r e h k memory-bag-fails f g

-- a fault that is passed on, where nothing is said of what was read
pub told : {T : Type 0} (Q : ReadFault → Type 0) (r : Result T ReadFault) (e : ReadFault) → IsErrAnd r (λ y. y ≡ e) → Q e → IfErr r Q
told Q (Ok x) e h q = absurd h
told Q (Err y) e h q = subst Q (sym h) q

pub no-value : {T : Type 0} (P : T → Type 0) (r : Result T ReadFault) (e : ReadFault) → IsErrAnd r (λ y. y ≡ e) → IfOk r P
no-value P (Ok x) e h = absurd h
no-value P (Err y) e h = tt

-- a pair whose first is this one
pub pair-read : {s : Sort} {v : Scope} {room : ℕ} {a : Tree} {x y z : List ℕ} (p : Tree × Tree) → p.0 ≡ a → Reads s v room a x y → Reads s v room p.1 y z → Reads (pair_of s) v room (pair_tree p) x z
pair-read {s = s} {v = v} {room = room} {a = a} {x = x} {y = y} p e h g = pair-form (subst (λ (t : Tree). Reads s v room t x y) (sym e) h) g

pub pair-free : {a : Tree} (p : Tree × Tree) → p.0 ≡ a → bound a ≡ [] → bound p.1 ≡ [] → bound (pair_tree p) ≡ []
pair-free p e h g = free-two p.0 p.1 (ap bound e ∙ h) g

pub pair-found : (f : List Sense) {g h : List Sense} {a : Tree} (p : Tree × Tree) → p.0 ≡ a → g ≡ f ++ bound a → h ≡ g ++ bound p.1 → h ≡ f ++ bound (pair_tree p)
pair-found f p e k q = bound-two f (bound p.0) (bound p.1) (k ∙ ap (λ (t : Tree). f ++ bound t) (sym e)) q
