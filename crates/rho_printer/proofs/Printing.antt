-- What a page has when a process has been printed on it.
use Rattle.std.proofs.Common.{◌≡◌, ℕ, List, [], ◌++◌, false, ap, ◌∙◌, Result, Ok, Err, IfOk}
use Rattle.std.specs.declared.alloc.AllocError.{AllocError}
use Rattle.std.specs.declared.alloc.Global.{Global}
use Rattle.std.specs.declared.vec.Vec.{Vec}
use Rattle.calculus.specs.Tree.{Tree}
use Rattle.calculus.specs.Form.{term, IsClosed}
use Rattle.calculus.specs.Printed.{printed_text}
use Rattle.calculus.proofs.FromFits.{formed, fine}
use Rattle.calculus.proofs.Tails.{IsFine}
use Rattle.printed_leaves.specs.declared.page.Page.{Page}
use Rattle.printed_leaves.specs.Texts.{text_of, Wrote, Writes}

-- an empty page on which a closed process has been printed
pub printed : (t : Tree) (empty full : Page) (res : Result (Vec ℕ Global) AllocError) → (empty.failed ≡ false) × (empty.bytes.items ≡ []) → Wrote empty full (Writes term t 0)
    → IfOk res (λ v. (full.failed ≡ false) × (v ≡ full.bytes)) → IfOk res (λ v. IsClosed t → v.items ≡ printed_text t)
unfolding printed_text
printed t empty full (Ok v) e w p = λ h.
    ap (λ (u : Vec ℕ Global). u.items) p.1 ∙ (w p.0).1 (formed IsFine fine term [] t h) 0 ∙ ap (λ (xs : List ℕ). xs ++ text_of term t 0 0) e.1
printed t empty full (Err x) e w p = tt
