-- Why a file is refused, from what each call found.
use Rattle.std.proofs.Common.{◌≡◌, ◌≢◌, ℕ, List, Option, sym, subst}
use Rattle.rho_outside.specs.FileMap.{FileMap}
use Rattle.input_faults.specs.declared.state_fault.StateFault.{StateFault}
use Rattle.input_faults.specs.declared.state_fault.StateFault.TheVariants as fault
use Rattle.state_reader.specs.Refused.{IsRefused}
use Rattle.run_status.specs.declared.status.Status.{Status}
use Rattle.run_status.specs.declared.status.Status.TheVariants as status
use Rattle.run_status.specs.Statuses.{StateStatusOf}
use Rattle.run_inspects.specs.Inspects.{AreGiven, RefusedFor, InspectEnds}

module _ (told : Option FileMap) (name : List ℕ) (before now : ℕ) where
  -- bytes that are refused with a fault that is not want of memory
  refused : (bytes : List ℕ) (f : StateFault) (s : Status) → AreGiven told name bytes → f ≢ fault.NoMemory → IsRefused bytes f → s ≡ status.State f → RefusedFor told name before now s
  refused bytes f s g n h e = subst (RefusedFor told name before now) (sym e) (bytes, (g, (n, h)))

  -- bytes of the file that are refused are why the file is
  pub fault_refuses : (bytes : List ℕ) (f : StateFault) (s : Status) → AreGiven told name bytes → IsRefused bytes f → StateStatusOf f s → RefusedFor told name before now s
  fault_refuses bytes fault.NoMemory s g h e = subst (RefusedFor told name before now) (sym e) tt
  fault_refuses bytes (fault.Short at) s g h e = refused bytes (fault.Short at) s g (λ x. cc) h e
  fault_refuses bytes (fault.NotCanonical at) s g h e = refused bytes (fault.NotCanonical at) s g (λ x. cc) h e
  fault_refuses bytes (fault.WrongRoot stored found) s g h e = refused bytes (fault.WrongRoot stored found) s g (λ x. cc) h e
  fault_refuses bytes (fault.Reducible cont taken) s g h e = refused bytes (fault.Reducible cont taken) s g (λ x. cc) h e

  -- a refusal has its cause
  pub refusal_ends : (s : Status) → RefusedFor told name before now s → InspectEnds told name before now s
  refusal_ends (status.ReadFault i) h = h
  refusal_ends (status.TooLarge i n m) h = h
  refusal_ends (status.State f) h = h
  refusal_ends status.NoMemory h = h
  refusal_ends s h = absurd h
