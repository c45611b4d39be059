-- What the told file of a state holds is said, from the cause of the end.
use Rattle.std.proofs.Common.{◌≡◌, ℕ, ◌<◌, ◌≤◌, ◌⊎◌, inl, inr, List, length, Option, Some, None, IfSome, refl, subst, arith}
use Rattle.std.specs.Option.{IsSomeAnd}
use Rattle.rho_outside.specs.Causes.{Rose}
use Rattle.rho_outside.specs.FileMap.{FileMap, Gives, GivesAtLeast, Lacks}
use Rattle.input_faults.specs.declared.state_fault.StateFault.{StateFault}
use Rattle.run_inputs.specs.Bases.{HasOwnIds, IsNoState, IsState}
use Rattle.run_inputs.proofs.OneState.{states_are_not_refused}
use Rattle.run_status.specs.declared.status.Status.{Status}
use Rattle.run_status.specs.declared.status.Status.TheVariants.{Done, NoMemory, ReadFault, State, TooLarge, WriteFault}
use Rattle.run_inspects.specs.Inspects.{most, InspectEnds, SaysMissing, SaysNoState, SaysTooLarge}

-- told files that lack a name give it no bytes
no_bytes : (told : Option FileMap) (name read : List ℕ) → Lacks told name → Gives told name read → ⊥
no_bytes None name read l g = l
no_bytes (Some files) name read l g = cc

-- and not so many bytes either
no_size : (told : Option FileMap) (name : List ℕ) (n : ℕ) → Lacks told name → GivesAtLeast told name n → ⊥
no_size None name n l g = l
no_size (Some files) name n l g = let P = λ (o : Option (List ℕ)). IsSomeAnd o (λ bytes. n ≤ length bytes) in subst P l g

-- the bytes of a name that is told are those that are given for it
same_bytes : (told : Option FileMap) (name read : List ℕ) (files : FileMap) (bytes : List ℕ) → told ≡ Some files → files name ≡ Some bytes → Gives told name read → read ≡ bytes
same_bytes told name read files bytes e h g =
    let there : files name ≡ Some read = subst (λ (t : Option FileMap). IfSome t (λ f. f name ≡ Some read)) e g in
    cc

-- and they are as many as are told
no_more : (told : Option FileMap) (name : List ℕ) (n : ℕ) (files : FileMap) (bytes : List ℕ) → told ≡ Some files → files name ≡ Some bytes → GivesAtLeast told name n → n ≤ length bytes
no_more told name n files bytes e h g =
    let there : IsSomeAnd (files name) (λ b. n ≤ length b) = subst (λ (t : Option FileMap). IfSome t (λ f. IsSomeAnd (f name) (λ b. n ≤ length b))) e g in
    subst (λ (o : Option (List ℕ)). IsSomeAnd o (λ b. n ≤ length b)) h there

-- a name that is told is not lacked
not_lacked : (told : Option FileMap) (name : List ℕ) (files : FileMap) (bytes : List ℕ) → told ≡ Some files → files name ≡ Some bytes → Lacks told name → ⊥
not_lacked told name files bytes e h l =
    let there : files name ≡ None = subst (λ (t : Option FileMap). IsSomeAnd t (λ f. f name ≡ None)) e l in
    cc

module _ (told : Option FileMap) (name : List ℕ) (before now : ℕ) where
  -- a file that is missing
  pub says_missing : (s : Status) → InspectEnds told name before now s → Lacks told name → SaysMissing s
  says_missing Done w l = absurd (no_bytes told name _ l w.1.0.1.0.gives)
  says_missing WriteFault w l = absurd (no_bytes told name _ l w.1.0.1.0.gives)
  says_missing (ReadFault i) h l = h.0
  says_missing (TooLarge i seen max) h l = absurd (no_size told name seen l h.1.1.1)
  says_missing (State f) h l = absurd (no_bytes told name _ l h.1.0.gives)
  says_missing NoMemory h l = tt
  says_missing s h l = absurd h

  module _ (calm : ¬ (Rose before now)) (files : FileMap) (bytes : List ℕ) (e : told ≡ Some files) (there : files name ≡ Some bytes) where
    -- no fetch failed
    read : Rose before now ⊎ Lacks told name → ⊥
    read (inl r) = calm r
    read (inr l) = not_lacked told name files bytes e there l

    -- bytes that are given for the name are no more than these
    as_long : (given : List ℕ) → Gives told name given → length given ≤ most → length bytes ≤ most
    as_long given g few = subst (λ (x : List ℕ). length x ≤ most) (same_bytes told name given files bytes e there g) few

    -- a file that is too large
    pub says_too_large : (s : Status) → InspectEnds told name before now s → most < length bytes → SaysTooLarge s
    says_too_large Done w m = absurd (omega (arith, m, as_long _ w.1.0.1.0.gives w.1.0.1.0.within))
    says_too_large WriteFault w m = absurd (omega (arith, m, as_long _ w.1.0.1.0.gives w.1.0.1.0.within))
    says_too_large (ReadFault i) h m = absurd (read h.1)
    says_too_large (TooLarge i seen max) h m = h.0
    says_too_large (State f) h m = absurd (omega (arith, m, as_long _ h.1.0.gives h.1.0.within))
    says_too_large NoMemory h m = tt
    says_too_large s h m = absurd h

    module _ (few : length bytes ≤ most) (own : HasOwnIds bytes) where
      -- a state has no fault
      no_fault : (f : StateFault) → IsState bytes → IsNoState bytes f → ⊥
      no_fault f s n = states_are_not_refused bytes (omega (arith, few)) s own f n

      -- a size above the limit is not told
      not_larger : (seen : ℕ) → most < seen → GivesAtLeast told name seen → ⊥
      not_larger seen m g = omega (arith, m, few, no_more told name seen files bytes e there g)

      -- bytes that are no state
      pub says_no_state : (s : Status) → InspectEnds told name before now s → (f : StateFault) → IsNoState bytes f → SaysNoState bytes s
      says_no_state Done w f n = absurd (no_fault f (subst IsState (same_bytes told name _ files bytes e there w.1.0.1.0.gives) (w.0, w.1.0.1.1)) n)
      says_no_state WriteFault w f n = absurd (no_fault f (subst IsState (same_bytes told name _ files bytes e there w.1.0.1.0.gives) (w.0, w.1.0.1.1)) n)
      says_no_state (ReadFault i) h f n = absurd (read h.1)
      says_no_state (TooLarge i seen max) h f n = absurd (not_larger seen h.1.1.0 h.1.1.1)
      says_no_state (State g) h f n = subst (λ (x : List ℕ). IsNoState x g) (same_bytes told name _ files bytes e there h.1.0.gives) h.1.1
      says_no_state NoMemory h f n = tt
      says_no_state s h f n = absurd h

      -- a state
      pub is_shown : (s : Status) (puts puts_now : ℕ) → InspectEnds told name before now s → (s ≡ WriteFault → Rose puts puts_now) → ¬ (Rose puts puts_now) → IsState bytes → (s ≡ Done) ⊎ (s ≡ NoMemory)
      is_shown Done p q w c k st = inl refl
      is_shown WriteFault p q w c k st = absurd (k (c refl))
      is_shown (ReadFault i) p q h c k st = absurd (read h.1)
      is_shown (TooLarge i seen max) p q h c k st = absurd (not_larger seen h.1.1.0 h.1.1.1)
      is_shown (State f) p q h c k st = absurd (no_fault f st (subst (λ (x : List ℕ). IsNoState x f) (same_bytes told name _ files bytes e there h.1.0.gives) h.1.1))
      is_shown NoMemory p q h c k st = inr refl
      is_shown s p q h c k st = absurd h
