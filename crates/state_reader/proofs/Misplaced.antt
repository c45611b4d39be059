-- Faults at the place of a row.
use Rattle.std.proofs.Common.{◌≡◌, ℕ}
use Rattle.std.specs.Prelude.{Result, Ok, Err, IfErr}
use Rattle.input_faults.specs.declared.state_fault.StateFault.{StateFault}
use Rattle.input_faults.specs.declared.state_fault.StateFault.TheVariants as fault
use Rattle.state_reader.specs.Reading.{IsMisplaced, IsOfRows}

module _ {A : Type 0} (at : ℕ) where
  pub misplaced-of-rows : (r : Result A StateFault) → IfErr r (IsMisplaced at) → IfErr r IsOfRows
  misplaced-of-rows (Ok x) h = tt
  misplaced-of-rows (Err (fault.Short n)) h = tt
  misplaced-of-rows (Err (fault.NotCanonical n)) h = tt
  misplaced-of-rows (Err (fault.WrongRoot s f)) h = absurd h
  misplaced-of-rows (Err (fault.Reducible c t)) h = absurd h
  misplaced-of-rows (Err fault.NoMemory) h = tt

  pub misplaced-short : (r : Result A StateFault) (n : ℕ) → IfErr r (IsMisplaced at) → r ≡ Err (fault.Short n) → ⊥
  misplaced-short (Ok x) n h e = cc
  misplaced-short (Err (fault.Short m)) n h e = h
  misplaced-short (Err (fault.NotCanonical m)) n h e = cc
  misplaced-short (Err (fault.WrongRoot s f)) n h e = h
  misplaced-short (Err (fault.Reducible c t)) n h e = h
  misplaced-short (Err fault.NoMemory) n h e = cc

  pub misplaced-place : (r : Result A StateFault) (n : ℕ) → IfErr r (IsMisplaced at) → r ≡ Err (fault.NotCanonical n) → n ≡ at
  misplaced-place (Ok x) n h e = cc
  misplaced-place (Err (fault.Short m)) n h e = absurd h
  misplaced-place (Err (fault.NotCanonical m)) n h e = cc
  misplaced-place (Err (fault.WrongRoot s f)) n h e = absurd h
  misplaced-place (Err (fault.Reducible c t)) n h e = absurd h
  misplaced-place (Err fault.NoMemory) n h e = cc

  pub misplaced-wrong : {Q : Type 0} (r : Result A StateFault) (n : ℕ) → IfErr r (λ e. e ≡ fault.NotCanonical at → Q) → IfErr r (IsMisplaced at) → r ≡ Err (fault.NotCanonical n) → Q
  misplaced-wrong (Ok x) n q h e = absurd (cc)
  misplaced-wrong (Err (fault.Short m)) n q h e = absurd h
  misplaced-wrong (Err (fault.NotCanonical m)) n q h e = q (cc)
  misplaced-wrong (Err (fault.WrongRoot s f)) n q h e = absurd h
  misplaced-wrong (Err (fault.Reducible c t)) n q h e = absurd h
  misplaced-wrong (Err fault.NoMemory) n q h e = absurd (cc)

-- one fault tells the other, whatever stood in its place
pub one-fault : {A : Type 0} (e f : StateFault) → (let r : Result A StateFault = Err e in r) ≡ Err f → e ≡ f
one-fault e f h = cc h
