-- Refused cases and binds, and the scopes of what they hold.
use Rattle.std.proofs.Common.{◌≡◌, ℕ, List, [], ◌∷◌, ◌++◌, length, ap, sym, ◌∙◌, subst, arith, reverse, append-nil, length-append}
use Rattle.std.specs.Prelude.{Bool, true}
use Rattle.std.proofs.lemmas.List.{length-reverse}
use Rattle.calculus.specs.Tree.{par, bind, case, rest, Tree, node, Trees, none, also}
use Rattle.calculus.specs.Kinds.{rest_number}
use Rattle.calculus.specs.declared.plain.TermRest.{TermRest}
use Rattle.calculus.specs.Shape.{leaf}
use Rattle.calculus.specs.Code.{code}
use Rattle.calculus.specs.Form.{term, a_bind, a_case, a_rest, pat, name_pat, row_of, Sort, Scope}
use Rattle.calculus.specs.Variables.{Sense, bound, bound_all}
use Rattle.calculus.proofs.Binding.{bound-le}
use Rattle.calculus.proofs.Splitting.{kids-short}
use Rattle.code_faults.specs.declared.fault.ReadFault.{ReadFault}
use Rattle.code_faults.specs.Reading.{Reads}
use Rattle.code_faults.specs.Refusing.{Denies, IsRight, HasRoom, Refuses}
use Rattle.code_faults.proofs.Denying.{read-short}
use Rattle.code_faults.proofs.Kids.{no_false, two, three}
use Rattle.code_faults.proofs.PatRefusals.{rest-of}
use Rattle.code_faults.proofs.Forms.{no_variables}
use Rattle.code_faults.proofs.BoundCodes.{bound-code}

module _ {v : Scope} {room : ℕ} {e : ReadFault} (bs : List ℕ) where
  pub case-refused : ((t body : Tree) → HasRoom v bs → IsRight true pat v room t → IsRight true term (reverse (bound t) ++ v) room body → Denies e bs (code t ++ (code body ++ []))) → Refuses true a_case v room e bs
  case-refused f = record { no = go }
    where
      go : HasRoom v bs → (t : Tree) → IsRight true a_case v room t → Denies e bs (code t)
      go l (node case ts) g =
          let p = two true pat term v (reverse (bound_all ts)) room ts g.fits.1 (omega (arith, g.low)) (kids-short case ts g.short) (λ q. absurd (no_false q)) in
          let n : bound_all ts ≡ bound p.first = ap bound_all p.is ∙ ap (λ (vs : List Sense). bound p.first ++ (vs ++ [])) (no_variables (reverse (bound_all ts) ++ v) p.second p.other.fits) ∙ append-nil (bound p.first) in
          let body : IsRight true term (reverse (bound p.first) ++ v) room p.second = subst (λ (vs : List Sense). IsRight true term (reverse vs ++ v) room p.second) n p.other in
          subst (λ (us : Trees). Denies e bs (code (node case us))) (sym p.is) (f p.first p.second l p.one body)
      go l (node par ts) g = absurd g.fits.1
      go l (node _ ts) g = absurd g.fits.1

  pub bind-refused : ((c r : Tree) (q : TermRest) → HasRoom v bs → IsRight true term v room c → IsRight true (row_of name_pat) v room r → Denies e bs (code c ++ (code r ++ (rest_number q ∷ [])))) → Refuses true a_bind v room e bs
  bind-refused f = record { no = go }
    where
      go : HasRoom v bs → (t : Tree) → IsRight true a_bind v room t → Denies e bs (code t)
      go l (node bind ts) g =
          let p = three term (row_of name_pat) a_rest v room ts g.fits.1 (omega (arith, g.low)) (kids-short bind ts g.short) in
          let x = rest-of p.third p.last in
          let is : ts ≡ also p.first (also p.second (also (leaf (rest x.kind)) none)) = p.is ∙ ap (λ (u : Tree). also p.first (also p.second (also u none))) x.is in
          subst (λ (us : Trees). Denies e bs (code (node bind us))) (sym is) (f p.first p.second x.kind l p.one p.other)
      go l (node par ts) g = absurd g.fits.1
      go l (node _ ts) g = absurd g.fits.1

-- the scope of what was read, and of what should have been
pub same-scope : {s : Sort} {b : Bool} {v w : Scope} {room more : ℕ} {u : Tree} {bs next : List ℕ} (t : Tree) → Reads s v more u bs next → HasRoom v bs → IsRight b s v room t → code u ≡ code t
    → w ≡ reverse (bound u) ++ v → w ≡ reverse (bound t) ++ v
same-scope {s = s} {v = v} {u = u} t h l g e p = p ∙ ap (λ (vs : List Sense). reverse vs ++ v) (bound-code s v v u t h.fits g.fits (read-short h l) g.short e)

-- what was read has room for what it binds
pub bound-room : {s : Sort} {v w : Scope} {more : ℕ} {u : Tree} {bs next : List ℕ} → Reads s v more u bs next → HasRoom v bs → w ≡ reverse (bound u) ++ v → HasRoom w next
bound-room {v = v} {u = u} {next = next} h l p = record { few = omega (arith, l.few, ap length p, length-append (reverse (bound u)) v, length-reverse (bound u), bound-le u, ap length h.is, length-append (code u) next) }
