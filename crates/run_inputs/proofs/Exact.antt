-- A deploy ends as its inputs tell: each refusal is the one that they have.
use Rattle.std.proofs.Common.{◌≡◌, ◌≤◌, ◌∙◌, ℕ, Bool, true, false, nat_le, if◌then◌else◌, List, length, Result, Ok, Err, Option, Some, None, ◌⊎◌, inl, inr, refl, sym, ap, subst, arith}
use Rattle.std.specs.Result.{IsOkAnd, IfOk, IsOk}
use Rattle.std.proofs.lemmas.Bool.{leb-true}
use Rattle.calculus.specs.Outcome.{Prices as PriceTable}
use Rattle.calculus.specs.Tree.{Tree}
use Rattle.rho_outside.specs.Causes.{Rose}
use Rattle.rho_outside.specs.FileMap.{FileMap, Lacks}
use Rattle.input_faults.specs.declared.source_fault.SourceFault.{SourceFault}
use Rattle.input_faults.specs.declared.state_fault.StateFault.{StateFault}
use Rattle.sources.specs.Sources.{IsSourceOf}
use Rattle.sources.proofs.Answering.{one_refusal, not_both}
use Rattle.run_inputs.specs.Bases.{IsState, HasOwnIds, IsNoState}
use Rattle.run_inputs.proofs.OneState.{states_are_not_refused}
use Rattle.command_words.specs.Commands.{RunRequest}
use Rattle.run_inputs.specs.Inputs.{Refusal, missing, too_large, bad_prices, bad_limit, Task, name_of, size_limit, within, given, beside, task_with, priced, accepted_state, accepted_prices, accepted_limit, accepted}
use Rattle.run_inputs.specs.Runnable.{IsRunnable, HasProcess, HasState, MayHaveState, OwnsIds}
use Rattle.run_inputs.specs.Refused.{IsPriceFault, IsFaultOf, Reaches, IsRefusal, Says, SaysNoState, SaysOf, IsFree}
use Rattle.run_inputs.specs.Ended.{DeployEnds}
use Rattle.run_inputs.proofs.Refusing.{bind-err, bind-ok}
use Rattle.run_status.specs.Endings.{HasEnded}
use Rattle.run_status.specs.declared.status.Input.{Input}
use Rattle.run_status.specs.declared.status.Input.TheVariants.{State, Prices, Source, Log}
use Rattle.run_status.specs.declared.status.Status.{Status}
use Rattle.run_status.specs.declared.status.Status.TheVariants as status

-- what is accepted, where it has this
pub ok_of : {A E : Type 0} (P : A → Type 0) (r : Result A E) → IsOkAnd r P → (x : A) × ((r ≡ Ok x) × P x)
ok_of P (Ok x) h = (x, (refl, h))
ok_of P (Err e) h = absurd h

-- a result that is accepted has a value
pub ok_value : {A E : Type 0} (r : Result A E) → IsOk r → (x : A) × (r ≡ Ok x)
ok_value (Ok x) h = (x, refl)
ok_value (Err e) h = absurd cc

-- what holds of each value that is accepted holds if one is
pub if_ok : {A E : Type 0} (P : A → Type 0) (r : Result A E) → ((x : A) → r ≡ Ok x → P x) → IfOk r P
if_ok P (Ok x) h = h x refl
if_ok P (Err e) h = tt

-- one result is not accepted and refused
pub ok_err : {A E : Type 0} (r : Result A E) (x : A) (e : E) → r ≡ Ok x → r ≡ Err e → ⊥
ok_err r x e h k = cc

-- and refused for one cause
pub same_err : {A E : Type 0} (r : Result A E) (x y : E) → r ≡ Err x → r ≡ Err y → x ≡ y
same_err r x y h k = cc

pub same_ok : {A E : Type 0} (r : Result A E) (x y : A) → r ≡ Ok x → r ≡ Ok y → x ≡ y
same_ok r x y h k = cc

-- what holds of an accepted value holds of the value that is accepted
pub ok_holds : {A E : Type 0} (P : A → Type 0) (r : Result A E) (x : A) → r ≡ Ok x → IsOkAnd r P → P x
ok_holds P r x h k = let Q = λ (s : Result _ _). IsOkAnd s P in subst Q h k

-- a file that is not there is refused as missing
pub given_missing : (names : RunRequest) (files : FileMap) (input : Input) → files (name_of names input) ≡ None → given names files input ≡ Err (missing input)
given_missing names files input e = ap (within input (size_limit input)) e

-- a file that is accepted is within its size
within-few : (input : Input) (max : ℕ) (o : Option (List ℕ)) (bytes : List ℕ) → within input max o ≡ Ok bytes → length bytes ≤ max
within-few input max None bytes e = absurd (cc)
within-few input max (Some found) bytes e = on (nat_le (length found) max) refl e
  where
    choice : Bool → Result (List ℕ) Refusal
    choice b = if b then Ok found else Err (too_large input)

    on : (b : Bool) → nat_le (length found) max ≡ b → choice b ≡ Ok bytes → length bytes ≤ max
    on true k h = let same : found ≡ bytes = cc in omega (arith, leb-true (length found) max k, ap length same)
    on false k h = absurd (cc)

-- where the state is one, and no row of it has the id of a built-in receiver, it is not none
pub not_none : (names : RunRequest) (files : FileMap) (state : List ℕ) → accepted_state names files ≡ Ok state → OwnsIds names files → MayHaveState names files → (f : StateFault) → IsNoState state f → ⊥
not_none names files state e own h f n =
    let few = within-few State 268435456 (files (name_of names State)) state e in
    let is = subst (λ (r : Result (List ℕ) Refusal). IfOk r IsState) e h in
    states_are_not_refused state (omega (arith, few)) is (subst (λ (r : Result (List ℕ) Refusal). IfOk r HasOwnIds) e own) f n

pub may_have : (names : RunRequest) (files : FileMap) → HasState names files → MayHaveState names files
may_have names files h = let k = ok_of IsState (accepted_state names files) h in subst (λ (r : Result (List ℕ) Refusal). IfOk r IsState) (sym k.1.0) k.1.1

-- a source that spells a process is refused for nothing
pub run_free : (source : List ℕ) (t : Tree) → IsSourceOf source t → IsFree source
run_free source t a = λ r h. not_both source t r a h

-- a fault of a source says what stands against it
pub fault_says : (source : List ℕ) (f : SourceFault) → IsFaultOf f source → SaysOf source (status.Source f)
fault_says source f c = λ q x. c.1.0 ∙ ap Some (one_refusal source c.0 q c.1.1 x)

-- a fault of a price text is said
pub price_says : (f : _) (q r : Refusal) → IsPriceFault f q → q ≡ r → Says r (status.Prices f)
price_says f (bad_prices p) r h e = subst (λ (x : Refusal). Says x (status.Prices f)) e h
price_says f (missing i) r h e = absurd h
price_says f (too_large i) r h e = absurd h
price_says f (bad_limit m) r h e = absurd h

module _ (told : Option FileMap) (names : RunRequest) (limit before now : ℕ) (files : FileMap) (e : told ≡ Some files) (own : OwnsIds names files) where
  -- an input that a deploy could not read is missing, where no fetch failed
  missing-read : (input : Input) → Reaches told names limit input → ¬ (Rose before now) → Rose before now ⊎ Lacks told (name_of names input) → accepted names limit files ≡ Err (missing input)
  missing-read input h n (inl r) = absurd (n r)
  missing-read input h n (inr l) = go input h (given_missing names files input (subst (λ (t : Option FileMap). Lacks t (name_of names input)) e l))
    where
      prices-gone : (i : Input) → accepted_prices names files ≡ Err (missing i) → accepted names limit files ≡ Err (missing i)
      prices-gone i g = bind-err (accepted_limit names limit files) _ (missing i) (bind-err (accepted_prices names files) _ (missing i) g)

      go : (i : Input) → Reaches told names limit i → given names files i ≡ Err (missing i) → accepted names limit files ≡ Err (missing i)
      go State k g = prices-gone State (bind-err (accepted_state names files) _ (missing State) g)
      go Prices k g =
          let s = ok_of IsState (accepted_state names files) (k files e) in
          prices-gone Prices (bind-ok (accepted_state names files) _ s.0 s.1.0 ∙ ap (λ (r : Result PriceTable Refusal). beside s.0 r) (bind-err (given names files Prices) priced (missing Prices) g))
      go Source k g =
          let p = ok_value (accepted_limit names limit files) (k files e).1 in
          bind-ok (accepted_limit names limit files) _ p.0 p.1 ∙ ap (task_with p.0) g
      go Log k g = absurd k

  -- what refuses the files of a deploy is said
  pub deploy_exact : (s : Status) → DeployEnds told names limit before now s → (r : Refusal) → IsRefusal names limit files r → ¬ (Rose before now) → Says r s
  deploy_exact (status.ReadFault i) h r k n = subst (λ (x : Refusal). Says x (status.ReadFault i)) (same_err (accepted names limit files) (missing i) r (missing-read i h.1 n h.0) k.1) refl
  deploy_exact (status.TooLarge i seen max) h r k n = subst (λ (x : Refusal). Says x (status.TooLarge i seen max)) (same_err (accepted names limit files) (too_large i) r (h.1.1.1 files e).1 k.1) refl
  deploy_exact (status.State f) h r k n = let s = ok_of (λ (b : List ℕ). IsNoState b f) (accepted_state names files) (h files e) in absurd (not_none names files s.0 s.1.0 own k.0 f s.1.1)
  deploy_exact (status.Prices f) h r k n = let q = h files e in price_says f q.0 r q.1.0 (same_err (accepted names limit files) q.0 r q.1.1.1 k.1)
  deploy_exact (status.Limit m most) h r k n = subst (λ (x : Refusal). Says x (status.Limit m most)) (same_err (accepted names limit files) (bad_limit most) r (h.1 files e).1 k.1) refl
  deploy_exact (status.Source f) h r k n = let t = ok_of (λ (t : Task). IsFaultOf f t.source) (accepted names limit files) (h files e).1 in absurd (ok_err (accepted names limit files) t.0 r t.1.0 k.1)
  deploy_exact status.NoMemory h r k n = tt
  deploy_exact status.Done h r k n = let t = ok_of IsRunnable (accepted names limit files) (h files e).1 in absurd (ok_err (accepted names limit files) t.0 r t.1.0 k.1)
  deploy_exact status.Exhausted h r k n = let t = ok_of IsRunnable (accepted names limit files) (h files e).1 in absurd (ok_err (accepted names limit files) t.0 r t.1.0 k.1)
  deploy_exact status.Faulted h r k n = let t = ok_of IsRunnable (accepted names limit files) (h files e).1 in absurd (ok_err (accepted names limit files) t.0 r t.1.0 k.1)
  deploy_exact status.WriteFault h r k n = let t = ok_of IsRunnable (accepted names limit files) (h files e).1 in absurd (ok_err (accepted names limit files) t.0 r t.1.0 k.1)
  deploy_exact (status.Usage u) h r k n = absurd h
  deploy_exact (status.Log f) h r k n = absurd h
  deploy_exact (status.Replay f) h r k n = absurd h

  -- a state that is none is said to be none
  pub deploy_state_exact : (s : Status) → DeployEnds told names limit before now s → (state : List ℕ) → accepted_state names files ≡ Ok state → ¬ (Rose before now) → (g : StateFault) → IsNoState state g → SaysNoState s
  deploy_state_exact (status.ReadFault i) h state a n g other = absurd (go i h.1 h.0)
    where
      go : (i : Input) → Reaches told names limit i → Rose before now ⊎ Lacks told (name_of names i) → ⊥
      go i k (inl r) = n r
      go State k (inr l) = ok_err (accepted_state names files) state (missing State) a (given_missing names files State (subst (λ (t : Option FileMap). Lacks t (name_of names State)) e l))
      go Prices k (inr l) = not_none names files state a own (may_have names files (k files e)) g other
      go Source k (inr l) = not_none names files state a own (may_have names files (k files e).0) g other
      go Log k (inr l) = k
  deploy_state_exact (status.TooLarge i seen max) h state a n g other = absurd (not_none names files state a own (h.1.1.1 files e).0 g other)
  deploy_state_exact (status.State f) h state a n g other = tt
  deploy_state_exact (status.Prices f) h state a n g other = absurd (not_none names files state a own (h files e).1.1.0 g other)
  deploy_state_exact (status.Limit m most) h state a n g other = absurd (not_none names files state a own (h.1 files e).0 g other)
  deploy_state_exact (status.Source f) h state a n g other = absurd (not_none names files state a own (may_have names files (h files e).0) g other)
  deploy_state_exact status.NoMemory h state a n g other = tt
  deploy_state_exact status.Done h state a n g other = absurd (not_none names files state a own (may_have names files (h files e).0) g other)
  deploy_state_exact status.Exhausted h state a n g other = absurd (not_none names files state a own (may_have names files (h files e).0) g other)
  deploy_state_exact status.Faulted h state a n g other = absurd (not_none names files state a own (may_have names files (h files e).0) g other)
  deploy_state_exact status.WriteFault h state a n g other = absurd (not_none names files state a own (may_have names files (h files e).0) g other)
  deploy_state_exact (status.Usage u) h state a n g other = absurd h
  deploy_state_exact (status.Log f) h state a n g other = absurd h
  deploy_state_exact (status.Replay f) h state a n g other = absurd h

  module _ (task : Task) (a : accepted names limit files ≡ Ok task) (n : ¬ (Rose before now)) (has : HasState names files) where
    no-refusal : (r : Refusal) → accepted names limit files ≡ Err r → ⊥
    no-refusal r k = ok_err (accepted names limit files) task r a k

    free : IsOkAnd (accepted names limit files) IsRunnable → IsFree task.source
    free h = let p = ok_holds IsRunnable (accepted names limit files) task a h in run_free task.source p.1.0 p.1.1

    -- where all is there and the state is one, a refusal is one of the source
    pub deploy_source_exact : (s : Status) → DeployEnds told names limit before now s → SaysOf task.source s
    deploy_source_exact (status.ReadFault i) h = absurd (no-refusal (missing i) (missing-read i h.1 n h.0))
    deploy_source_exact (status.TooLarge i seen max) h = absurd (no-refusal (too_large i) (h.1.1.1 files e).1)
    deploy_source_exact (status.State f) h = let s = ok_of (λ (b : List ℕ). IsNoState b f) (accepted_state names files) (h files e) in absurd (not_none names files s.0 s.1.0 own (may_have names files has) f s.1.1)
    deploy_source_exact (status.Prices f) h = let q = h files e in absurd (no-refusal q.0 q.1.1.1)
    deploy_source_exact (status.Limit m most) h = absurd (no-refusal (bad_limit most) (h.1 files e).1)
    deploy_source_exact (status.Source f) h = fault_says task.source f (ok_holds (λ (t : Task). IsFaultOf f t.source) (accepted names limit files) task a (h files e).1)
    deploy_source_exact status.NoMemory h = λ r x. tt
    deploy_source_exact status.Done h = λ r x. absurd (free (h files e).1 r x)
    deploy_source_exact status.Exhausted h = λ r x. absurd (free (h files e).1 r x)
    deploy_source_exact status.Faulted h = λ r x. absurd (free (h files e).1 r x)
    deploy_source_exact status.WriteFault h = λ r x. absurd (free (h files e).1 r x)
    deploy_source_exact (status.Usage u) h = absurd h
    deploy_source_exact (status.Log f) h = absurd h
    deploy_source_exact (status.Replay f) h = absurd h

    -- and where the source spells a process and nothing else failed, the run ended or memory is wanted
    pub deploy_complete : (s : Status) (A B : Type 0) → DeployEnds told names limit before now s → HasProcess task → (s ≡ status.WriteFault → A ⊎ B) → ¬ A → ¬ B → HasEnded s
    deploy_complete (status.ReadFault i) A B h u w x y = absurd (no-refusal (missing i) (missing-read i h.1 n h.0))
    deploy_complete (status.TooLarge i seen max) A B h u w x y = absurd (no-refusal (too_large i) (h.1.1.1 files e).1)
    deploy_complete (status.State f) A B h u w x y = let s = ok_of (λ (b : List ℕ). IsNoState b f) (accepted_state names files) (h files e) in absurd (not_none names files s.0 s.1.0 own (may_have names files has) f s.1.1)
    deploy_complete (status.Prices f) A B h u w x y = let q = h files e in absurd (no-refusal q.0 q.1.1.1)
    deploy_complete (status.Limit m most) A B h u w x y = absurd (no-refusal (bad_limit most) (h.1 files e).1)
    deploy_complete (status.Source f) A B h u w x y =
        let c = ok_holds (λ (t : Task). IsFaultOf f t.source) (accepted names limit files) task a (h files e).1 in
        absurd (run_free task.source u.0 u.1 c.0 c.1.1)
    deploy_complete status.NoMemory A B h u w x y = tt
    deploy_complete status.Done A B h u w x y = tt
    deploy_complete status.Exhausted A B h u w x y = tt
    deploy_complete status.Faulted A B h u w x y = tt
    deploy_complete status.WriteFault A B h u w x y = neither (w refl)
      where
        neither : A ⊎ B → ⊥
        neither (inl p) = x p
        neither (inr q) = y q
    deploy_complete (status.Usage u) A B h p w x y = absurd h
    deploy_complete (status.Log f) A B h u w x y = absurd h
    deploy_complete (status.Replay f) A B h u w x y = absurd h
