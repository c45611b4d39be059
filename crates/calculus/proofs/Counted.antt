-- Forms with any number of constituents: their heads show how many there are.
use Rattle.std.proofs.Common.{◌≡◌, ℕ, Bool, true, false, refl}
use Rattle.std.specs.Prelude.{⊤}
use Rattle.std.proofs.lemmas.Bool.{false≢true}
use Rattle.calculus.specs.Tree.{Label, par, row, list, tuple, set, dict, pattern}
use Rattle.calculus.specs.Bytes.{be32}
use Rattle.calculus.specs.Congruence.{is_bag}
use Rattle.calculus.specs.Form.{Sort, term, part, a_bind, a_case, a_rest, pat, name_pat, pat_part, name_part, row_of, pair_of, Kids, all, these, kids}
use Rattle.calculus.proofs.Heads.{tail, blank}

-- the forms with any number of constituents of one sort
abbrev pub counted : Label → Bool
counted par = true
counted row = true
counted list = true
counted tuple = true
counted set = true
counted dict = true
counted pattern = true
counted _ = false

pub counted-blank : (l : Label) → counted (blank l) ≡ counted l
counted-blank par = refl
counted-blank _ = refl

pub counted-tail : (l : Label) (n : ℕ) → counted l ≡ true → tail l n ≡ be32 n
counted-tail par n h = refl
counted-tail row n h = refl
counted-tail list n h = refl
counted-tail tuple n h = refl
counted-tail set n h = refl
counted-tail dict n h = refl
counted-tail pattern n h = refl
counted-tail _ n h = absurd (false≢true h)

-- a form whose head does not show the number of its constituents holds sorts in turn
abbrev pub Fixed : Bool → Kids → Type 0
Fixed true p = ⊤
Fixed false (all s) = ⊥
Fixed false _ = ⊤

pub fixed : (l : Label) (s : Sort) (n : ℕ) → Fixed (counted l) (kids s l n)
fixed par s n = tt
fixed row s n = tt
fixed list s n = tt
fixed tuple s n = tt
fixed set s n = tt
fixed dict s n = tt
fixed pattern s n = tt
fixed _ term n = tt
fixed _ part n = tt
fixed _ a_bind n = tt
fixed _ a_case n = tt
fixed _ a_rest n = tt
fixed _ pat n = tt
fixed _ name_pat n = tt
fixed _ pat_part n = tt
fixed _ name_part n = tt
fixed _ (row_of s) n = tt
fixed _ (pair_of s) n = tt

-- a bag holds any number of one sort
abbrev pub Loose : Bool → Kids → Type 0
Loose false p = ⊤
Loose true (these ss) = ⊥
Loose true _ = ⊤

loose_par : (s : Sort) (n : ℕ) → Loose true (kids s par n)
loose_par term n = tt
loose_par _ n = tt

loose_set : (s : Sort) (n : ℕ) → Loose true (kids s set n)
loose_set term n = tt
loose_set _ n = tt

loose_dict : (s : Sort) (n : ℕ) → Loose true (kids s dict n)
loose_dict term n = tt
loose_dict _ n = tt

pub loose : (l : Label) (s : Sort) (n : ℕ) → Loose (is_bag l) (kids s l n)
loose par s n = loose_par s n
loose set s n = loose_set s n
loose dict s n = loose_dict s n
loose _ s n = tt
