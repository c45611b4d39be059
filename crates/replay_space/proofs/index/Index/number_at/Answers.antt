use Rattle.std.proofs.Common.{◌≡◌, sym, ap, ◌∙◌, List, ℕ}
use Rattle.std.specs.Prelude.{Some, slice_get}
use Rattle.std.proofs.lemmas.Option.{slice_get-get_or}
use Rattle.std.proofs.lemmas.Slice.Eq.{bytes_eq-Decides}
use Rattle.replay_space.proofs.index.Index.number_at.Goals as goal

pub returns : goal.returns
returns c =
    let known = c.in_ok-known.known.now in
    let same : known ≡ c.args.id.now.0 = (bytes_eq-Decides known c.args.id.now.0).0 (sym c.is_id.ensures ∙ c.if-not-is_id.false) in
    ap (λ (l : List (List ℕ)). slice_get l c.in_ok-number.field-0.now) (sym c.deref.ensures.value) ∙ slice_get-get_or c.deref.result.now c.in_ok-number.field-0.now known c.in_ok-known.ensures.lookup.3.0 ∙ ap Some (sym c.in_ok-known.ensures.lookup.1 ∙ same)
