-- What an allowed step shows: that its ids are digests where those of the rows at hand are, and that its repeat number counts the steps equal to it.
use Rattle.std.proofs.Common.{◌≡◌, ℕ, List, [], ◌∷◌, sym, subst, inl, inr}
use Rattle.std.specs.Prelude.{map as each, Some, count_by}
use Rattle.std.proofs.lemmas.Bool.{eqb-true}
use Rattle.calculus.proofs.Members.{Member, Every}
use Rattle.calculus.specs.Form.{IsDigest}
use Rattle.calculus.specs.Log.{Step}
use Rattle.calculus.specs.Rows.{Row}
use Rattle.calculus.specs.Steps.{Bag, standing, PlacedRow, Meeting, row_choices, differ, meet_rows, meeting, same_meeting, right_repeat}
use Rattle.calculus.proofs.Candidates.{and_then-inv, IsChoice, row_choices-hold, first-meets, only_true, and-first}

-- each of these rows has a digest as its id
abbrev pub HaveDigests : List Row → Type 0
HaveDigests rs = Every (λ r. IsDigest r.id) rs

member-digest : (r : Row) (rs : List Row) → Member r rs → HaveDigests rs → IsDigest r.id
member-digest r [] m h = absurd m
member-digest r (q ∷ rs) (inl e) h = subst (λ (z : Row). IsDigest z.id) (sym e) h.0
member-digest r (q ∷ rs) (inr m) h = member-digest r rs m h.1

held-digests : (rs : List Row) (hs : List PlacedRow) → HaveDigests rs → Every (λ h. Member h.1 rs) hs → Every IsDigest (each (λ h. h.1.id) hs)
held-digests rs [] h k = tt
held-digests rs (g ∷ hs) h k = (member-digest g.1 rs k.0 h, held-digests rs hs h k.1)

-- what an allowed step shows
pub record Shown (made : List Step) (s : Step) : Type 0 where
  pub ids : Every IsDigest (s.receiver ∷ s.data_ids)
  pub repeats : s.repeat ≡ count_by (same_meeting s) made

pub shown : (b : Bag) (made : List Step) (s : Step) (m : Meeting) → HaveDigests (standing b) → meeting b made s ≡ Some m → Shown made s
unfolding meeting
shown b made s m h e =
    let xs : List (List ℕ) = s.receiver ∷ s.data_ids in
    let f = only_true (differ s.data_ids) _ m e in
    let c = first-meets made s (IsChoice (standing b) xs) (row_choices (standing b) xs) m (row_choices-hold (standing b) xs) f.1 in
    let i = and_then-inv (meet_rows c.0) _ m c.2 in
    let r = only_true (right_repeat made s i.0) (Some i.0) m i.2 in
    record { ids = subst (Every IsDigest) (sym c.1.0) (held-digests (standing b) c.0 h c.1.1); repeats = eqb-true s.repeat (count_by (same_meeting s) made) (and-first _ _ r.0) }
