-- Parts without constituents, patterns, and what they bind.
use Rattle.std.specs.Prelude.{Bool, true}
use Rattle.std.proofs.Common.{◌≡◌, ℕ, ◌+◌, ◌≤◌, ◌<◌, List, [], ◌∷◌, ◌++◌, refl, ap, sym, ◌∙◌, subst, arith, append_assoc, append-nil}
use Rattle.std.proofs.lemmas.List.{map-append}
use Rattle.calculus.specs.Bytes.{be32}
use Rattle.calculus.specs.Kinds.{rest_number, rights_number, simple_number}
use Rattle.calculus.specs.declared.plain.Ground.{Ground}
use Rattle.calculus.specs.declared.plain.Ground.TheVariants as ground
use Rattle.calculus.specs.declared.plain.Rights.{Rights}
use Rattle.calculus.specs.declared.plain.Simple.{Simple}
use Rattle.calculus.specs.declared.plain.TermRest.{TermRest}
use Rattle.calculus.specs.Tree.{bool, int, str, uri, bytes, fresh, var, name_var, list, tuple, set, dict, send, receive, new, match, bundle, unary, binary, method, row, rest, any, some_process, simple, either, not_this, list_pattern, Tree, node, none}
use Rattle.calculus.specs.Shape.{leaf, one, two, many}
use Rattle.calculus.specs.Code.{code}
use Rattle.calculus.specs.Meaning.{ground_label}
use Rattle.calculus.specs.Form.{Scope, Sort, part, name_pat, pat, pat_part, row_of, HasVariable, IsDigest, IsPlain}
use Rattle.calculus.specs.Variables.{Sense, a_process, a_name, bound}
use Rattle.rho_term.specs.Normal.{IsOrdered}
use Rattle.rho_term.specs.Parts.{ground_tree, pat_tree}
use Rattle.rho_term.specs.declared.term.PatPart.TheVariants.{NameVar}
use Rattle.code_faults.specs.Reading.{Reads}
use Rattle.code_faults.specs.Scopes.{sense_of, senses_of}
use Rattle.code_faults.specs.declared.sort.Sense.{Sense as Read}
use Rattle.code_faults.specs.declared.sort.Sense.TheVariants.{Name}
use Rattle.code_faults.proofs.BegunPats.{free-two}
use Rattle.code_faults.proofs.Forms.{two-codes}
use Rattle.code_faults.proofs.Kids.{no_false}
use Rattle.code_faults.proofs.Names.{name-variable, to_name_pat}
use Rattle.code_parts.specs.Outcomes.{ReadsPat}
use Rattle.code_parts.proofs.Formed.{one-code, tagged}

-- a pattern of processes is one of the names that they are
pub name-read : {v : Scope} {room : ℕ} {t : Tree} {a c : List ℕ} → Reads pat v room t a c → Reads name_pat v room t a c
name-read {v = v} {t = t} h = record { is = h.is; fits = to_name_pat v t h.fits; low = h.low }

pub fresh-read : {v : Scope} {room : ℕ} {a c : List ℕ} (d : List ℕ) (tag : ℕ) → tag ≡ 0x15 → a ≡ d ++ c → IsDigest d → Reads part v room (leaf (fresh d)) (tag ∷ a) c
fresh-read {c = c} d tag e f h = record { is = tagged tag 0x15 e (one-code d c f); fits = (h, tt); low = omega arith }

pub var-read : {v : Scope} {room : ℕ} {a c : List ℕ} (i tag : ℕ) → tag ≡ 0x16 → a ≡ be32 i ++ c → HasVariable v i a_process → Reads part v room (leaf (var i)) (tag ∷ a) c
var-read {c = c} i tag e f h = record { is = tagged tag 0x16 e (one-code (be32 i) c f); fits = (h, tt); low = omega arith }

pub name_var-read : {v : Scope} {room : ℕ} {a c : List ℕ} (i tag : ℕ) → tag ≡ 0x17 → a ≡ be32 i ++ c → HasVariable v i a_name → Reads part v room (leaf (name_var i)) (tag ∷ a) c
name_var-read {c = c} i tag e f h = record { is = tagged tag 0x17 e (one-code (be32 i) c f); fits = (h, tt); low = omega arith }

pub ground-read : {v : Scope} {room : ℕ} {a c : List ℕ} (g : Ground) → a ≡ code (ground_tree g) ++ c → ((s : Sort) (w : Scope) → IsPlain s w (ground_label g) none) → Reads part v room (ground_tree g) a c
ground-read {v = v} (ground.Bool x) e h = record { is = e; fits = (h part v, tt); low = omega arith }
ground-read {v = v} (ground.Int x) e h = record { is = e; fits = (h part v, tt); low = omega arith }
ground-read {v = v} (ground.Str x) e h = record { is = e; fits = (h part v, tt); low = omega arith }
ground-read {v = v} (ground.Uri x) e h = record { is = e; fits = (h part v, tt); low = omega arith }
ground-read {v = v} (ground.Bytes x) e h = record { is = e; fits = (h part v, tt); low = omega arith }

pub plain-read : {v : Scope} {room : ℕ} {a c : List ℕ} (g : Ground) → a ≡ code (ground_tree g) ++ c → ((s : Sort) (w : Scope) → IsPlain s w (ground_label g) none) → Reads pat_part v room (ground_tree g) a c
plain-read {v = v} (ground.Bool x) e h = record { is = e; fits = (h pat_part v, tt); low = omega arith }
plain-read {v = v} (ground.Int x) e h = record { is = e; fits = (h pat_part v, tt); low = omega arith }
plain-read {v = v} (ground.Str x) e h = record { is = e; fits = (h pat_part v, tt); low = omega arith }
plain-read {v = v} (ground.Uri x) e h = record { is = e; fits = (h pat_part v, tt); low = omega arith }
plain-read {v = v} (ground.Bytes x) e h = record { is = e; fits = (h pat_part v, tt); low = omega arith }

pub ground-unbound : (g : Ground) → bound (ground_tree g) ≡ []
ground-unbound (ground.Bool x) = refl
ground-unbound (ground.Int x) = refl
ground-unbound (ground.Str x) = refl
ground-unbound (ground.Uri x) = refl
ground-unbound (ground.Bytes x) = refl

pub ground-ordered : (g : Ground) → IsOrdered (ground_tree g)
ground-ordered (ground.Bool x) = tt
ground-ordered (ground.Int x) = tt
ground-ordered (ground.Str x) = tt
ground-ordered (ground.Uri x) = tt
ground-ordered (ground.Bytes x) = tt

pub variable-read : {v : Scope} {room : ℕ} {a : List ℕ} (tag : ℕ) → tag ≡ 0x50 → Reads pat_part v room (leaf some_process) (tag ∷ a) a
variable-read {a = a} tag e = record { is = ap (λ (x : ℕ). x ∷ a) e; fits = (tt, tt); low = omega arith }

pub wild-read : {v : Scope} {room : ℕ} {a : List ℕ} (tag : ℕ) → tag ≡ 0x52 → Reads pat_part v room (leaf any) (tag ∷ a) a
wild-read {a = a} tag e = record { is = ap (λ (x : ℕ). x ∷ a) e; fits = (tt, tt); low = omega arith }

pub simple-read : {v : Scope} {room : ℕ} {a c : List ℕ} (k : Simple) (tag : ℕ) → tag ≡ 0x57 → a ≡ simple_number k ∷ c → Reads pat_part v room (leaf (simple k)) (tag ∷ a) c
simple-read k tag e f = record { is = tagged tag 0x57 e f; fits = (tt, tt); low = omega arith }

abbrev first : List ℕ → ℕ
first [] = 0
first (x ∷ xs) = x

below : (j : ℕ) {k : ℕ} → k ≡ j → j < 0x31 → 0x31 ≤ k → ⊥
below j e l p = omega arith

above : (j : ℕ) {k : ℕ} → k ≡ j → 0x33 < j → k ≤ 0x33 → ⊥
above j e l p = omega arith

-- a closed form in a pattern stands in no scope, and binds nothing
pub closed-read : {v : Scope} {room k : ℕ} {b c : List ℕ} (t : Tree) → 0x31 ≤ k → k ≤ 0x33 → Reads part [] room t (k ∷ b) c → Reads pat_part v room t (k ∷ b) c × (bound t ≡ [])
closed-read (node (receive x) ts) p q h = (record { is = h.is; fits = h.fits; low = h.low }, refl)
closed-read (node (new x) ts) p q h = (record { is = h.is; fits = h.fits; low = h.low }, refl)
closed-read (node match ts) p q h = (record { is = h.is; fits = h.fits; low = h.low }, refl)
closed-read (node list ts) p q h = absurd (below 0x20 (ap first h.is) (omega arith) p)
closed-read (node tuple ts) p q h = absurd (below 0x21 (ap first h.is) (omega arith) p)
closed-read (node set ts) p q h = absurd (below 0x22 (ap first h.is) (omega arith) p)
closed-read (node dict ts) p q h = absurd (below 0x23 (ap first h.is) (omega arith) p)
closed-read (node (bool x) ts) p q h = absurd (below 0x10 (ap first h.is) (omega arith) p)
closed-read (node (int x) ts) p q h = absurd (below 0x11 (ap first h.is) (omega arith) p)
closed-read (node (str x) ts) p q h = absurd (below 0x12 (ap first h.is) (omega arith) p)
closed-read (node (uri x) ts) p q h = absurd (below 0x13 (ap first h.is) (omega arith) p)
closed-read (node (bytes x) ts) p q h = absurd (below 0x14 (ap first h.is) (omega arith) p)
closed-read (node (fresh x) ts) p q h = absurd (below 0x15 (ap first h.is) (omega arith) p)
closed-read (node (var x) ts) p q h = absurd (below 0x16 (ap first h.is) (omega arith) p)
closed-read (node (name_var x) ts) p q h = absurd (below 0x17 (ap first h.is) (omega arith) p)
closed-read (node (send x) ts) p q h = absurd (below 0x30 (ap first h.is) (omega arith) p)
closed-read (node (bundle x) ts) p q h = absurd (above 0x34 (ap first h.is) (omega arith) q)
closed-read (node (unary x) ts) p q h = absurd (above 0x40 (ap first h.is) (omega arith) q)
closed-read (node (binary x) ts) p q h = absurd (above 0x41 (ap first h.is) (omega arith) q)
closed-read (node (method x) ts) p q h = absurd (above 0x42 (ap first h.is) (omega arith) q)
closed-read (node _ ts) p q h = absurd h.fits.1

pub list_pattern-form : {v : Scope} {room : ℕ} (ts : List Tree) {a c d : List ℕ} (r : TermRest) (tag : ℕ) → tag ≡ 0x20 → Reads (row_of pat) v room (many row ts) a c → c ≡ rest_number r ∷ d → Reads pat_part v (room + 1) (two list_pattern (many row ts) (leaf (rest r))) (tag ∷ a) d
list_pattern-form ts {d = d} r tag e h f = record {
  is = tagged tag 0x20 e (h.is ∙ two-codes (code (many row ts)) (rest_number r ∷ []) d f);
  fits = (tt, (h.fits, ((tt, tt), tt)));
  low = omega (arith, h.low);
}

pub one-free : {x : List Sense} → x ≡ [] → x ++ [] ≡ []
one-free e = ap (λ (zs : List Sense). zs ++ []) e

pub pat_bundle-form : {v : Scope} {room : ℕ} {t : Tree} {a b c : List ℕ} (r : Rights) (tag : ℕ) → tag ≡ 0x34 → a ≡ rights_number r ∷ b → Reads pat v room t b c → bound t ≡ [] → Reads pat_part v (room + 1) (one (bundle r) t) (tag ∷ a) c
pat_bundle-form {t = t} {c = c} r tag e f h n = record {
  is = tagged tag 0x34 e (f ∙ ap (λ (zs : List ℕ). rights_number r ∷ zs) (one-code (code t) c h.is));
  fits = (one-free n, (h.fits, tt));
  low = omega (arith, h.low);
}

pub either-form : {v : Scope} {room : ℕ} {t u : Tree} {a c d : List ℕ} (tag : ℕ) → tag ≡ 0x55 → Reads pat v room t a c → Reads pat v room u c d → bound t ≡ [] → bound u ≡ [] → Reads pat_part v (room + 1) (two either t u) (tag ∷ a) d
either-form {t = t} {u = u} {d = d} tag e h g n m = record {
  is = tagged tag 0x55 e (h.is ∙ two-codes (code t) (code u) d g.is);
  fits = (free-two t u n m, (h.fits, (g.fits, tt)));
  low = omega (arith, h.low, g.low);
}

pub not-form : {v : Scope} {room : ℕ} {t : Tree} {a c : List ℕ} (tag : ℕ) → tag ≡ 0x56 → Reads pat v room t a c → bound t ≡ [] → Reads pat_part v (room + 1) (one not_this t) (tag ∷ a) c
not-form {t = t} {c = c} tag e h n = record { is = tagged tag 0x56 e (one-code (code t) c h.is); fits = (one-free n, (h.fits, tt)); low = omega (arith, h.low) }

-- what two constituents bind, one after the other
pub bound-two : {g h : List Sense} (f x y : List Sense) → g ≡ f ++ x → h ≡ g ++ y → h ≡ f ++ (x ++ (y ++ []))
bound-two f x y e k = k ∙ ap (λ (zs : List Sense). zs ++ y) e ∙ append_assoc f x y ∙ ap (λ (zs : List Sense). f ++ (x ++ zs)) (sym (append-nil y))

-- what binds nothing leaves what was bound
pub bound-free : (f x : List Sense) → x ≡ [] → f ≡ f ++ x
bound-free f x e = sym (append-nil f) ∙ ap (λ (zs : List Sense). f ++ zs) (sym e)

pub senses-push : (xs : List Read) {ys : List Read} (x : Read) → ys ≡ xs ++ x ∷ [] → senses_of ys ≡ senses_of xs ++ sense_of x ∷ []
senses-push xs x e = ap senses_of e ∙ map-append sense_of xs (x ∷ [])

-- a name variable alone was read, and added
pub name-found : {b : Bool} {v : Scope} {room : ℕ} {a c d : List ℕ} {t : Tree} (f g : List Read) → b ≡ true → a ≡ 0 ∷ 0 ∷ 0 ∷ 1 ∷ 0x51 ∷ d → c ≡ d → t ≡ pat_tree (NameVar ∷ []) → g ≡ f ++ Name ∷ []
    → ReadsPat b name_pat v room (senses_of f) (senses_of g) a c t
name-found {b = b} {v = v} {room = room} {a = a} {c = c} f g y e k q h = subst (λ (u : Tree). ReadsPat b name_pat v room (senses_of f) (senses_of g) a c u) (sym q) (record {
  reads = name-variable v room a c (e ∙ ap (λ (z : List ℕ). 0 ∷ 0 ∷ 0 ∷ 1 ∷ 0x51 ∷ z) (sym k));
  found = senses-push f Name h;
  free = λ z. absurd (no_false (sym y ∙ z));
})
