use Rattle.std.proofs.Common.{List, ℕ, sym, subst}
use Rattle.run_inspects.specs.Inspects.{AreGiven}
use Rattle.run_status.proofs.Handing.{handed}
use Rattle.run_inspects.proofs.Refusing.{fault_refuses}
use Rattle.run_inspects.proofs.fetch.fetch_state.Goals as goal

pub returns-in_err-read_base-clause-cause : goal.returns-in_err-read_base-clause-cause
returns-in_err-read_base-clause-cause g c =
    let told = g.S.Shelf.files c.args.shelf.now in
    let name = c.args.name.now in
    handed _ _ _ c.from_residual-in_err-read_base.ensures.1 (λ s k.
    fault_refuses told name _ _ c.as_slice.result.now c.in_err-read_base.field-0.0 s
    (subst (λ (bytes : List ℕ). AreGiven told name bytes) (sym c.as_slice.ensures.value) c.in_ok-text.ensures.given) c.in_err-read_base.ensures.refused k)
