-- Where a production can stop so that what was read of it can't be finished within the free height.
use Rattle.std.proofs.Common.{◌≡◌, ℕ, List, [], ◌∷◌, Bool, true, ◌⊎◌, inl, inr}
use Rattle.std.specs.Prelude.{⊤}
use Rattle.tokens.specs.Token.{Notation}
use Rattle.grammar.specs.declared.dialect.Dialect.{Dialect}
use Rattle.grammar.specs.declared.fault.Fault.{Fault}
use Rattle.grammar.specs.declared.fault.Fault.TheVariants.{NoMemory}
use Rattle.grammar.specs.Descent.{fault, Runs}
use Rattle.grammar.specs.Rules.{Sort, Rule, done, sign, opens, next, opens_next, holds, integer, at, under, last}
use Rattle.grammar.specs.Terminals.{Holding, a_fresh_name, Terminal, text, mark}
use Rattle.grammar.specs.Values.{Spelt}
use Rattle.grammar.proofs.Finish.{Fin}
use Rattle.grammar.proofs.Texts.{Grows}

-- a text of the rule, of some height, begins with each terminal that passes the test
abbrev pub Led : Notation → Dialect → (Terminal → Bool) → Rule → Type 0
Led n d test r = (t : Terminal) → test t ≡ true → (most : ℕ) × Grows n d r most (t ∷ [])

-- it stops at its first terminal, or what is left can be finished
abbrev pub Loose : Notation → Dialect → Rule → Type 0
Loose n d (done v) = ⊤
Loose n d (sign m r) = Fin r
Loose n d (opens m h r) = Fin r
Loose n d (next test r) = Loose n d r
Loose n d (opens_next test r) = Loose n d r × Led n d test r
Loose n d (holds k f) = (w : List ℕ) → Fin (f w)
Loose n d (integer most f) = (i : ℕ) → Fin (f i)
Loose n d (at s f) = (a : Spelt) → Fin (f a)
Loose n d (under s f) = (a : Spelt) → Fin (f a)
Loose n d (last s) = ⊤

-- a fresh name that begins a form alone: where there is no room, it stops behind it, whatever follows
pub record Named (n : Notation) (d : Dialect) (f : List ℕ → Rule) (w : List ℕ) : Type 0 where
  pub more : Grows n d (holds a_fresh_name f) 1 (text a_fresh_name w ∷ [])
  pub once : (ts us : List Terminal) (e : Fault) → (e ≡ NoMemory → ⊥) → Runs d 0 (f w) ts (fault e us) → us ≡ ts
  pub fails : (zs : List Terminal) → (e : Fault) × (e ≡ NoMemory → ⊥) × Runs d 0 (f w) zs (fault e zs)

-- such a name, or what a text of the sort that opens no form begins with
abbrev pub Resumes : Notation → Dialect → Sort → Holding → (List ℕ → Rule) → List ℕ → Type 0
Resumes n d s a_fresh_name f w = Named n d f w
Resumes n d s k f w = Grows n d (last s) 0 (text k w ∷ [])

-- the same of a production of the sort, or it stops behind such a terminal
abbrev pub Shape : Notation → Dialect → Sort → Rule → Type 0
Shape n d s (sign m r) = Fin r ⊎ (Grows n d (last s) 0 (mark m ∷ []) × Loose n d r)
Shape n d s (holds k f) = (w : List ℕ) → Fin (f w) ⊎ (Resumes n d s k f w × Loose n d (f w))
Shape n d s (done v) = ⊤
Shape n d s (opens m h r) = Fin r
Shape n d s (next test r) = Loose n d r
Shape n d s (opens_next test r) = Loose n d r × Led n d test r
Shape n d s (integer most f) = (i : ℕ) → Fin (f i)
Shape n d s (at q f) = (a : Spelt) → Fin (f a)
Shape n d s (under q f) = (a : Spelt) → Fin (f a)
Shape n d s (last q) = ⊤

-- where a form is opened, it can be finished
abbrev pub Going : Notation → Dialect → Rule → Type 0
Going n d (done v) = ⊤
Going n d (sign m r) = Going n d r
Going n d (opens m h r) = Fin r
Going n d (next test r) = Going n d r
Going n d (opens_next test r) = Going n d r × Led n d test r
Going n d (holds k f) = (w : List ℕ) → Going n d (f w)
Going n d (integer most f) = (i : ℕ) → Going n d (f i)
Going n d (at s f) = (a : Spelt) → Fin (f a)
Going n d (under s f) = (a : Spelt) → Fin (f a)
Going n d (last s) = ⊤

pub loose_of_fin : (n : Notation) (d : Dialect) (r : Rule) → Fin r → Loose n d r
loose_of_fin n d (done v) h = tt
loose_of_fin n d (sign m r) h = h
loose_of_fin n d (opens m b r) h = absurd h
loose_of_fin n d (next test r) h = absurd h
loose_of_fin n d (opens_next test r) h = absurd h
loose_of_fin n d (holds k f) h = h.1
loose_of_fin n d (integer most f) h = h
loose_of_fin n d (at s f) h = h.1
loose_of_fin n d (under s f) h = h.1
loose_of_fin n d (last s) h = tt

pub going_of_fin : (n : Notation) (d : Dialect) (r : Rule) → Fin r → Going n d r
going_of_fin n d (done v) h = tt
going_of_fin n d (sign m r) h = going_of_fin n d r h
going_of_fin n d (opens m b r) h = absurd h
going_of_fin n d (next test r) h = absurd h
going_of_fin n d (opens_next test r) h = absurd h
going_of_fin n d (holds k f) h = λ w. going_of_fin n d (f w) (h.1 w)
going_of_fin n d (integer most f) h = λ i. going_of_fin n d (f i) (h i)
going_of_fin n d (at s f) h = h.1
going_of_fin n d (under s f) h = h.1
going_of_fin n d (last s) h = tt

going_of_loose : (n : Notation) (d : Dialect) (r : Rule) → Loose n d r → Going n d r
going_of_loose n d (done v) h = tt
going_of_loose n d (sign m r) h = going_of_fin n d r h
going_of_loose n d (opens m b r) h = h
going_of_loose n d (next test r) h = going_of_loose n d r h
going_of_loose n d (opens_next test r) h = (going_of_loose n d r h.0, h.1)
going_of_loose n d (holds k f) h = λ w. going_of_fin n d (f w) (h w)
going_of_loose n d (integer most f) h = λ i. going_of_fin n d (f i) (h i)
going_of_loose n d (at s f) h = h
going_of_loose n d (under s f) h = h
going_of_loose n d (last s) h = tt

either : (n : Notation) (d : Dialect) (r : Rule) (A : Type 0) → Fin r ⊎ (A × Loose n d r) → Going n d r
either n d r A (inl h) = going_of_fin n d r h
either n d r A (inr h) = going_of_loose n d r h.1

pub going_of_shape : (n : Notation) (d : Dialect) (s : Sort) (r : Rule) → Shape n d s r → Going n d r
going_of_shape n d s (done v) h = tt
going_of_shape n d s (sign m r) h = either n d r _ h
going_of_shape n d s (opens m b r) h = h
going_of_shape n d s (next test r) h = going_of_loose n d r h
going_of_shape n d s (opens_next test r) h = (going_of_loose n d r h.0, h.1)
going_of_shape n d s (holds k f) h = λ w. either n d (f w) _ (h w)
going_of_shape n d s (integer most f) h = λ i. going_of_fin n d (f i) (h i)
going_of_shape n d s (at q f) h = h
going_of_shape n d s (under q f) h = h
going_of_shape n d s (last q) h = tt
