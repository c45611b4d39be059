-- What a fault rules out.
use Rattle.std.proofs.Common.{◌≡◌, ℕ, ◌<◌, ◌≤◌, max, List, [], ◌∷◌, ◌++◌, Bool, true, false, ◌⊎◌, inl, inr, subst, sym, refl, ◌∙◌, arith}
use Rattle.std.specs.Prelude.{⊤}
use Rattle.calculus.specs.Written.{Written}
use Rattle.grammar.specs.declared.dialect.Dialect.{Dialect}
use Rattle.grammar.specs.declared.fault.Fault.{Fault}
use Rattle.grammar.specs.declared.fault.Fault.TheVariants.{Syntax, TooDeep, NoMemory}
use Rattle.grammar.specs.declared.mark.Mark.TheVariants as marks
use Rattle.grammar.specs.Descent.{Outcome, read, fault, IsSure, shows, Stuck, Full, Runs, runs_done, runs_sign, no_sign, runs_opens, no_opens, runs_next, no_next, runs_opens_next, no_opens_next, runs_text, no_text, runs_integer, no_integer, runs_at, no_at, runs_under, no_under, runs_last, no_memory}
use Rattle.grammar.specs.Rules.{Par, Rule, last}
use Rattle.grammar.specs.Spells.{Reads}
use Rattle.grammar.specs.Terminals.{Terminal, mark, sees}
use Rattle.grammar.specs.Values.{Spelt, spelt, processes}
use Rattle.grammar.proofs.Agree.{same}
use Rattle.grammar.proofs.Wider.{Fits, wider, complete}
use Rattle.grammar.proofs.Local.{Local}
use Rattle.grammar.proofs.Looks.{Some}

-- the terminals are a text of this process and height
abbrev pub IsText : Dialect → List Terminal → Written → ℕ → Type 0
IsText d ts p h = Reads d (last (Par processes)) ts (spelt p h) (mark marks.End ∷ [])

-- what descent comes to on a text that begins so
agrees : (d : Dialect) (free : ℕ) (ts : List Terminal) (out : Outcome) (p : Written) (h : ℕ) → Runs d free (last (Par processes)) ts out → Fits out → IsSure out → IsText d ts p h
    → read (spelt p h) (mark marks.End ∷ []) ≡ out
agrees d free ts out p h k f s t = same (complete d ts p h (max free h) t (omega arith)) (wider k f (max free h) (omega arith)) tt s

-- each text on which descent meets a fault is higher than the bound
pub higher : (d : Dialect) (free : ℕ) (ts us : List Terminal) (e : Fault) → (e ≡ NoMemory → ⊥) → Runs d free (last (Par processes)) ts (fault e us)
    → (p : Written) (h : ℕ) → IsText d ts p h → free < h
higher d free ts us e w r p h k =
    let not_within : h ≤ free → ⊥ = λ b.
    (let g : read (spelt p h) (mark marks.End ∷ []) ≡ fault e us = same (complete d ts p h free k b) r tt w in absurd (cc (g))) in
    omega (arith, not_within)

-- where there is a fault of syntax, no text of any height does
pub no_syntax : (d : Dialect) (free : ℕ) (ts us : List Terminal) (x : Terminal) (l : Local d free (last (Par processes)) ts (fault Syntax (x ∷ us)))
    → (after : List Terminal) (p : Written) (h : ℕ) → IsText d (l.pre ++ (x ∷ after)) p h → ⊥
no_syntax d free ts us x l after p h k =
    let e = agrees d free (l.pre ++ (x ∷ after)) (fault Syntax (x ∷ after)) p h (l.moves (x ∷ after) refl) (λ e. absurd (cc (e))) (λ e. absurd (cc (e))) k in absurd (cc (e))

-- nor does one behind a whole Par, but for the end
pub no_more : (d : Dialect) (free : ℕ) (ts us : List Terminal) (v : Spelt) (x : Terminal) (l : Local d free (last (Par processes)) ts (read v (x ∷ us))) → (x ≡ mark marks.End → ⊥)
    → (after : List Terminal) (p : Written) (h : ℕ) → IsText d (l.pre ++ (x ∷ after)) p h → ⊥
no_more d free ts us v x l not_end after p h k =
    let e = agrees d free (l.pre ++ (x ∷ after)) (read v (x ∷ after)) p h (l.moves (x ∷ after) refl) tt tt k in not_end (cc (e))

-- nor does one behind the end
pub no_second : (d : Dialect) (free : ℕ) (ts us : List Terminal) (v : Spelt) (x : Terminal) (l : Local d free (last (Par processes)) ts (read v (mark marks.End ∷ us)))
    → (after : List Terminal) (p : Written) (h : ℕ) → IsText d (l.pre ++ (mark marks.End ∷ x ∷ after)) p h → ⊥
no_second d free ts us v x l after p h k =
    let e = agrees d free (l.pre ++ (mark marks.End ∷ x ∷ after)) (read v (mark marks.End ∷ x ∷ after)) p h (l.moves (mark marks.End ∷ x ∷ after) refl) tt tt k in absurd (cc (e))

-- where there is no room, a terminal is next
abbrev pub HasNext : Outcome → Type 0
HasNext (read v us) = ⊤
HasNext (fault e us) = e ≡ TooDeep → Some us

stuck_next : (b : Bool) (ts us : List Terminal) (e : Fault) → Stuck b ts e us → HasNext (fault e us)
stuck_next b ts us e n h = absurd (let x : Syntax ≡ TooDeep = sym n.is ∙ h in cc (x))

full_next : (f : List Terminal → Bool) → f [] ≡ false → (ts us : List Terminal) → f ts ≡ true → us ≡ ts → Some us
full_next f z [] us y g = absurd (let x : true ≡ false = sym y ∙ z in cc (x))
full_next f z (x ∷ ts) us y g = subst Some (sym g) tt

room_next : (f : List Terminal → Bool) → f [] ≡ false → (h free : ℕ) (ts us : List Terminal) (e : Fault) → Stuck (f ts) ts e us ⊎ Full (f ts) h free ts e us → HasNext (fault e us)
room_next f z h free ts us e (inl n) = stuck_next (f ts) ts us e n
room_next f z h free ts us e (inr n) = λ g. full_next f z ts us n.yes n.same

pub has_next : {d : Dialect} {free : ℕ} {r : Rule} {ts : List Terminal} {out : Outcome} → Runs d free r ts out → HasNext out
has_next runs_done = tt
has_next (runs_sign t k) = has_next k
has_next (no_sign {ts = ts} {us = us} {e = e} t) = stuck_next _ ts us e t
has_next (runs_opens t k) = has_next k
has_next (no_opens {free = free} {m = m} {h = i} {ts = ts} {us = us} {e = e} t) = room_next (sees m) refl i free ts us e t
has_next (runs_next t k) = has_next k
has_next (no_next {ts = ts} {us = us} {e = e} t) = stuck_next _ ts us e t
has_next (runs_opens_next t z k) = has_next k
has_next (no_opens_next {free = free} {test = test} {ts = ts} {us = us} {e = e} t) = room_next (shows test) refl 0 free ts us e t
has_next (runs_text t k) = has_next k
has_next (no_text {ts = ts} {us = us} {e = e} t) = stuck_next _ ts us e t
has_next (runs_integer t k) = has_next k
has_next (no_integer {ts = ts} {us = us} {e = e} t) = stuck_next _ ts us e t
has_next (runs_at g k) = has_next k
has_next (no_at g) = has_next g
has_next (runs_under g k) = has_next k
has_next (no_under g) = has_next g
has_next (runs_last g) = has_next g
has_next no_memory = λ e. absurd (cc (e))
