-- A replay ends as its inputs tell: each refusal is the one that they have.
use Rattle.std.proofs.Common.{◌≡◌, ◌∙◌, ℕ, List, Result, Ok, Err, Option, Some, ◌⊎◌, inl, inr, refl, sym, ap, subst}
use Rattle.std.specs.Result.{IsOkAnd, IsOk}
use Rattle.calculus.specs.Outcome.{Prices as PriceTable}
use Rattle.rho_outside.specs.Causes.{Rose}
use Rattle.rho_outside.specs.FileMap.{FileMap, Lacks}
use Rattle.event_log.specs.Reading.{log_of}
use Rattle.input_faults.specs.declared.source_fault.SourceFault.{SourceFault}
use Rattle.input_faults.specs.declared.state_fault.StateFault.{StateFault}
use Rattle.sources.specs.Sources.{IsSourceOf}
use Rattle.event_log.specs.declared.fault.LogFault.{LogFault}
use Rattle.command_words.specs.Commands.{RunRequest}
use Rattle.run_inputs.specs.Inputs.{Refusal, missing, too_large, Task, name_of, given, beside, task_with, priced, accepted_state, accepted_prices, accepted_source, accepted_log}
use Rattle.run_inputs.specs.Bases.{IsState, IsNoState}
use Rattle.run_inputs.specs.Runnable.{IsRunnable, HasState, OwnsIds}
use Rattle.run_inputs.specs.Refused.{IsFaultOf, Says, SaysNoState, SaysOf}
use Rattle.run_inputs.specs.Replaying.{ReplayReaches, IsReplayRefusal, IsLogFault, SaysLog}
use Rattle.run_inputs.specs.Ended.{IsReplayable, ReplayEnds}
use Rattle.run_inputs.proofs.Refusing.{bind-err, bind-ok, none-yet}
use Rattle.run_inputs.proofs.Exact.{ok_of, ok_value, ok_err, same_err, same_ok, ok_holds, given_missing, not_none, may_have, run_free, fault_says, price_says}
use Rattle.run_status.specs.declared.status.Input.{Input}
use Rattle.run_status.specs.declared.status.Input.TheVariants.{State, Prices, Source, Log}
use Rattle.run_status.specs.declared.status.Status.{Status}
use Rattle.run_status.specs.declared.status.Status.TheVariants as status

-- equal values stand in equal results
inside : {A : Type 0} (x y : A) → (let r : Result A Refusal = Ok x in r) ≡ Ok y → x ≡ y
inside x y e = cc e

-- a source is accepted before its log
source-run : (names : RunRequest) (files : FileMap) (inputs : Task × List ℕ) → accepted_log names files ≡ Ok inputs → accepted_source names files ≡ Ok inputs.0
source-run names files inputs a = go (accepted_source names files) refl
  where
    bare : (task : Task) (r : Result (List ℕ) Refusal) → beside task r ≡ Ok inputs → task ≡ inputs.0
    bare task (Ok log) h = ap (λ (p : Task × List ℕ). p.0) (inside (task, log) inputs h)
    bare task (Err r) h = absurd cc

    go : (r : Result Task Refusal) → accepted_source names files ≡ r → accepted_source names files ≡ Ok inputs.0
    go (Ok task) h = h ∙ ap Ok (bare task (given names files Log) (sym (bind-ok (accepted_source names files) (λ (t : Task). beside t (given names files Log)) task h) ∙ a))
    go (Err r) h = absurd (ok_err (accepted_log names files) inputs r a (bind-err (accepted_source names files) (λ (t : Task). beside t (given names files Log)) r h))

-- a source that is refused so is one that does not run, and its bytes were had
source-not-run : (source : List ℕ) (f : SourceFault) (task : Task) → task.source ≡ source → IsFaultOf f source → IsRunnable task → ⊥
source-not-run source f task e c run = run_free source run.1.0 (subst (λ (bytes : List ℕ). IsSourceOf bytes run.1.0) e run.1.1) c.0 c.1.1

-- where the files are accepted so is each refusal none
replay-none : (names : RunRequest) (files : FileMap) (inputs : Task × List ℕ) → accepted_log names files ≡ Ok inputs → (r : Refusal) → IsReplayRefusal names files r → ⊥
replay-none names files inputs a r k = go k.1
  where
    go : (accepted_source names files ≡ Err r) ⊎ (IsOkAnd (accepted_source names files) IsRunnable × (accepted_log names files ≡ Err r)) → ⊥
    go (inl x) = ok_err (accepted_source names files) inputs.0 r (source-run names files inputs a) x
    go (inr x) = ok_err (accepted_log names files) inputs r a x.1

-- two refusals of a replay are one
same-refusal : (names : RunRequest) (files : FileMap) (q r : Refusal) → IsReplayRefusal names files q → IsReplayRefusal names files r → q ≡ r
same-refusal names files q r h k = go h.1 k.1
  where
    Two : Refusal → Type 0
    Two x = (accepted_source names files ≡ Err x) ⊎ (IsOkAnd (accepted_source names files) IsRunnable × (accepted_log names files ≡ Err x))

    go : Two q → Two r → q ≡ r
    go (inl x) (inl y) = same_err (accepted_source names files) q r x y
    go (inl x) (inr y) = let s = ok_of IsRunnable (accepted_source names files) y.0 in absurd (ok_err (accepted_source names files) s.0 q s.1.0 x)
    go (inr x) (inl y) = let s = ok_of IsRunnable (accepted_source names files) x.0 in absurd (ok_err (accepted_source names files) s.0 r s.1.0 y)
    go (inr x) (inr y) = same_err (accepted_log names files) q r x.1 y.1

module _ (More : Status → Task × List ℕ → Type 0) (told : Option FileMap) (names : RunRequest) (before now : ℕ) (files : FileMap) (e : told ≡ Some files) (own : OwnsIds names files) where
  -- an input that a replay could not read is missing, where no fetch failed
  replay-missing : (input : Input) → ReplayReaches told names input → ¬ (Rose before now) → Rose before now ⊎ Lacks told (name_of names input) → IsReplayRefusal names files (missing input)
  replay-missing input h n (inl r) = absurd (n r)
  replay-missing input h n (inr l) = go input h (given_missing names files input (subst (λ (t : Option FileMap). Lacks t (name_of names input)) e l))
    where
      prices-gone : (i : Input) → accepted_prices names files ≡ Err (missing i) → accepted_source names files ≡ Err (missing i)
      prices-gone i g = bind-err (accepted_prices names files) _ (missing i) g

      go : (i : Input) → ReplayReaches told names i → given names files i ≡ Err (missing i) → IsReplayRefusal names files (missing i)
      go State k g = (none-yet names files (missing State) g, inl (prices-gone State (bind-err (accepted_state names files) _ (missing State) g)))
      go Prices k g =
          let s = ok_of IsState (accepted_state names files) (k files e) in (
            may_have names files (k files e),
            inl (prices-gone Prices (bind-ok (accepted_state names files) _ s.0 s.1.0 ∙ ap (λ (r : Result PriceTable Refusal). beside s.0 r) (bind-err (given names files Prices) priced (missing Prices) g))),
          )
      go Source k g =
          let p = ok_value (accepted_prices names files) (k files e).1 in
          (may_have names files (k files e).0, inl (bind-ok (accepted_prices names files) _ p.0 p.1 ∙ ap (task_with p.0) g))
      go Log k g =
          let t = ok_of IsRunnable (accepted_source names files) (k files e).1 in (
            may_have names files (k files e).0,
            inr ((k files e).1, bind-ok (accepted_source names files) _ t.0 t.1.0 ∙ ap (beside t.0) g),
          )

  source-refused : (f : SourceFault) → IsOkAnd (accepted_source names files) (λ task. IsFaultOf f task.source) → (r : Refusal) → IsReplayRefusal names files r → ⊥
  source-refused f h r k = go k.1
    where
      t : (x : Task) × ((accepted_source names files ≡ Ok x) × IsFaultOf f x.source)
      t = ok_of (λ (task : Task). IsFaultOf f task.source) (accepted_source names files) h

      go : (accepted_source names files ≡ Err r) ⊎ (IsOkAnd (accepted_source names files) IsRunnable × (accepted_log names files ≡ Err r)) → ⊥
      go (inl x) = ok_err (accepted_source names files) t.0 r t.1.0 x
      go (inr x) = source-not-run t.0.source f t.0 refl t.1.1 (ok_holds IsRunnable (accepted_source names files) t.0 t.1.0 x.0)

  accepted-inputs : (P : Task × List ℕ → Type 0) → HasState names files × IsOkAnd (accepted_log names files) (IsReplayable P) → (r : Refusal) → IsReplayRefusal names files r → ⊥
  accepted-inputs P h r k = let x = ok_of (IsReplayable P) (accepted_log names files) h.1 in replay-none names files x.0 x.1.0 r k

  -- what refuses the files of a replay is said
  pub replay_exact : (s : Status) → ReplayEnds More told names before now s → (r : Refusal) → IsReplayRefusal names files r → ¬ (Rose before now) → Says r s
  replay_exact (status.ReadFault i) h r k n = subst (λ (x : Refusal). Says x (status.ReadFault i)) (same-refusal names files (missing i) r (replay-missing i h.1 n h.0) k) refl
  replay_exact (status.TooLarge i seen max) h r k n = subst (λ (x : Refusal). Says x (status.TooLarge i seen max)) (same-refusal names files (too_large i) r (h.1.1.1 files e) k) refl
  replay_exact (status.State f) h r k n = let s = ok_of (λ (b : List ℕ). IsNoState b f) (accepted_state names files) (h files e) in absurd (not_none names files s.0 s.1.0 own k.0 f s.1.1)
  replay_exact (status.Prices f) h r k n = let q = h files e in price_says f q.0 r q.1.0 (same-refusal names files q.0 r q.1.1 k)
  replay_exact (status.Source f) h r k n = absurd (source-refused f (h files e).1 r k)
  replay_exact (status.Log f) h r k n = let t = ok_of (IsLogFault f) (accepted_log names files) (h files e).1 in absurd (replay-none names files t.0 t.1.0 r k)
  replay_exact status.NoMemory h r k n = tt
  replay_exact status.Done h r k n = absurd (accepted-inputs (More status.Done) (h files e) r k)
  replay_exact status.Exhausted h r k n = absurd (accepted-inputs (More status.Exhausted) (h files e) r k)
  replay_exact status.Faulted h r k n = absurd (accepted-inputs (More status.Faulted) (h files e) r k)
  replay_exact status.WriteFault h r k n = absurd (accepted-inputs (More status.WriteFault) (h files e) r k)
  replay_exact (status.Replay f) h r k n = absurd (accepted-inputs (More (status.Replay f)) (h files e) r k)
  replay_exact (status.Usage u) h r k n = absurd h
  replay_exact (status.Limit m most) h r k n = absurd h

  -- a state that is none is said to be none
  pub replay_state_exact : (s : Status) → ReplayEnds More told names before now s → (state : List ℕ) → accepted_state names files ≡ Ok state → ¬ (Rose before now) → (g : StateFault) → IsNoState state g → SaysNoState s
  replay_state_exact (status.ReadFault i) h state a n g other = absurd (go i h.1 h.0)
    where
      go : (i : Input) → ReplayReaches told names i → Rose before now ⊎ Lacks told (name_of names i) → ⊥
      go i k (inl r) = n r
      go State k (inr l) = ok_err (accepted_state names files) state (missing State) a (given_missing names files State (subst (λ (t : Option FileMap). Lacks t (name_of names State)) e l))
      go Prices k (inr l) = not_none names files state a own (may_have names files (k files e)) g other
      go Source k (inr l) = not_none names files state a own (may_have names files (k files e).0) g other
      go Log k (inr l) = not_none names files state a own (may_have names files (k files e).0) g other
  replay_state_exact (status.TooLarge i seen max) h state a n g other = absurd (not_none names files state a own (h.1.1.1 files e).0 g other)
  replay_state_exact (status.State f) h state a n g other = tt
  replay_state_exact (status.Prices f) h state a n g other = absurd (not_none names files state a own (h files e).1.1.0 g other)
  replay_state_exact (status.Source f) h state a n g other = absurd (not_none names files state a own (may_have names files (h files e).0) g other)
  replay_state_exact (status.Log f) h state a n g other = absurd (not_none names files state a own (may_have names files (h files e).0) g other)
  replay_state_exact status.NoMemory h state a n g other = tt
  replay_state_exact status.Done h state a n g other = absurd (not_none names files state a own (may_have names files (h files e).0) g other)
  replay_state_exact status.Exhausted h state a n g other = absurd (not_none names files state a own (may_have names files (h files e).0) g other)
  replay_state_exact status.Faulted h state a n g other = absurd (not_none names files state a own (may_have names files (h files e).0) g other)
  replay_state_exact status.WriteFault h state a n g other = absurd (not_none names files state a own (may_have names files (h files e).0) g other)
  replay_state_exact (status.Replay f) h state a n g other = absurd (not_none names files state a own (may_have names files (h files e).0) g other)
  replay_state_exact (status.Usage u) h state a n g other = absurd h
  replay_state_exact (status.Limit m most) h state a n g other = absurd h

  module _ (inputs : Task × List ℕ) (a : accepted_log names files ≡ Ok inputs) (n : ¬ (Rose before now)) (has : HasState names files) where
    no-replay-refusal : (r : Refusal) → IsReplayRefusal names files r → ⊥
    no-replay-refusal r k = replay-none names files inputs a r k

    log-fault : (f : LogFault) → IsOkAnd (accepted_log names files) (IsLogFault f) → IsLogFault f inputs
    log-fault f h = ok_holds (IsLogFault f) (accepted_log names files) inputs a h

    known : (P : Task × List ℕ → Type 0) → HasState names files × IsOkAnd (accepted_log names files) (IsReplayable P) → IsReplayable P inputs
    known P h = ok_holds (IsReplayable P) (accepted_log names files) inputs a h.1

    no-state : (g : StateFault) → IsOkAnd (accepted_state names files) (λ b. IsNoState b g) → ⊥
    no-state g h = let s = ok_of (λ (b : List ℕ). IsNoState b g) (accepted_state names files) h in not_none names files s.0 s.1.0 own (may_have names files has) g s.1.1

    not-refused : (f : SourceFault) → IsOkAnd (accepted_source names files) (λ task. IsFaultOf f task.source) → IsRunnable inputs.0 → ⊥
    not-refused f h run = source-not-run inputs.0.source f inputs.0 refl (ok_holds (λ (t : Task). IsFaultOf f t.source) (accepted_source names files) inputs.0 (source-run names files inputs a) h) run

    log-unlike : (f : LogFault) → IsOk (log_of inputs.1) → log_of inputs.1 ≡ Err f → ⊥
    log-unlike f h k = let x = ok_value (log_of inputs.1) h in ok_err (log_of inputs.1) x.0 f x.1 k

    -- where all is there, and the state and the source run, a log that is none is said to be none
    pub replay_log_exact : (s : Status) → ReplayEnds More told names before now s → IsRunnable inputs.0 → (f : LogFault) → log_of inputs.1 ≡ Err f → SaysLog f s
    replay_log_exact (status.ReadFault i) h run f k = absurd (no-replay-refusal (missing i) (replay-missing i h.1 n h.0))
    replay_log_exact (status.TooLarge i seen max) h run f k = absurd (no-replay-refusal (too_large i) (h.1.1.1 files e))
    replay_log_exact (status.State g) h run f k = absurd (no-state g (h files e))
    replay_log_exact (status.Prices p) h run f k = let q = h files e in absurd (no-replay-refusal q.0 q.1.1)
    replay_log_exact (status.Source g) h run f k = absurd (not-refused g (h files e).1 run)
    replay_log_exact (status.Log g) h run f k = same_err (log_of inputs.1) g f (log-fault g (h files e).1).1 k
    replay_log_exact status.NoMemory h run f k = tt
    replay_log_exact status.Done h run f k = absurd (log-unlike f (known (More status.Done) (h files e)).read k)
    replay_log_exact status.Exhausted h run f k = absurd (log-unlike f (known (More status.Exhausted) (h files e)).read k)
    replay_log_exact status.Faulted h run f k = absurd (log-unlike f (known (More status.Faulted) (h files e)).read k)
    replay_log_exact status.WriteFault h run f k = absurd (log-unlike f (known (More status.WriteFault) (h files e)).read k)
    replay_log_exact (status.Replay g) h run f k = absurd (log-unlike f (known (More (status.Replay g)) (h files e)).read k)
    replay_log_exact (status.Usage u) h run f k = absurd h
    replay_log_exact (status.Limit m most) h run f k = absurd h

    -- where the log is read besides, all that is known of the end holds, or memory is wanted
    pub replay_known : (s : Status) → ReplayEnds More told names before now s → IsRunnable inputs.0 → IsOk (log_of inputs.1) → (s ≡ status.NoMemory) ⊎ More s inputs
    replay_known (status.ReadFault i) h run k = absurd (no-replay-refusal (missing i) (replay-missing i h.1 n h.0))
    replay_known (status.TooLarge i seen max) h run k = absurd (no-replay-refusal (too_large i) (h.1.1.1 files e))
    replay_known (status.State g) h run k = absurd (no-state g (h files e))
    replay_known (status.Prices p) h run k = let q = h files e in absurd (no-replay-refusal q.0 q.1.1)
    replay_known (status.Source g) h run k = absurd (not-refused g (h files e).1 run)
    replay_known (status.Log g) h run k = absurd (log-unlike g k (log-fault g (h files e).1).1)
    replay_known status.NoMemory h run k = inl refl
    replay_known status.Done h run k = inr (known (More status.Done) (h files e)).more
    replay_known status.Exhausted h run k = inr (known (More status.Exhausted) (h files e)).more
    replay_known status.Faulted h run k = inr (known (More status.Faulted) (h files e)).more
    replay_known status.WriteFault h run k = inr (known (More status.WriteFault) (h files e)).more
    replay_known (status.Replay g) h run k = inr (known (More (status.Replay g)) (h files e)).more
    replay_known (status.Usage u) h run k = absurd h
    replay_known (status.Limit m most) h run k = absurd h

  module _ (task : Task) (a : accepted_source names files ≡ Ok task) (n : ¬ (Rose before now)) (has : HasState names files) where
    free-source : IsRunnable task → (s : Status) → SaysOf task.source s
    free-source run s = λ r x. absurd (run_free task.source run.1.0 run.1.1 r x)

    -- a refusal of a later file stands behind a source that runs
    after-source : (r : Refusal) → IsReplayRefusal names files r → (s : Status) → SaysOf task.source s
    after-source r k s = go k.1
      where
        go : (accepted_source names files ≡ Err r) ⊎ (IsOkAnd (accepted_source names files) IsRunnable × (accepted_log names files ≡ Err r)) → SaysOf task.source s
        go (inl x) = absurd (ok_err (accepted_source names files) task r a x)
        go (inr x) = free-source (ok_holds IsRunnable (accepted_source names files) task a x.0) s

    same-task : (inputs : Task × List ℕ) → accepted_log names files ≡ Ok inputs → IsRunnable inputs.0 → IsRunnable task
    same-task inputs b run = subst (λ (t : Task). IsRunnable t) (same_ok (accepted_source names files) inputs.0 task (source-run names files inputs b) a) run

    with-log : (P : Task × List ℕ → Type 0) → HasState names files × IsOkAnd (accepted_log names files) (IsReplayable P) → (s : Status) → SaysOf task.source s
    with-log P h s = let x = ok_of (IsReplayable P) (accepted_log names files) h.1 in free-source (same-task x.0 x.1.0 x.1.1.run) s

    -- where all before is there, and the state is one, what stands against the source is said
    pub replay_source_exact : (s : Status) → ReplayEnds More told names before now s → SaysOf task.source s
    replay_source_exact (status.ReadFault i) h = after-source (missing i) (replay-missing i h.1 n h.0) (status.ReadFault i)
    replay_source_exact (status.TooLarge i seen max) h = after-source (too_large i) (h.1.1.1 files e) (status.TooLarge i seen max)
    replay_source_exact (status.State f) h = let s = ok_of (λ (b : List ℕ). IsNoState b f) (accepted_state names files) (h files e) in absurd (not_none names files s.0 s.1.0 own (may_have names files has) f s.1.1)
    replay_source_exact (status.Prices p) h = let q = h files e in after-source q.0 q.1.1 (status.Prices p)
    replay_source_exact (status.Source f) h = fault_says task.source f (ok_holds (λ (t : Task). IsFaultOf f t.source) (accepted_source names files) task a (h files e).1)
    replay_source_exact (status.Log g) h = let x = ok_of (IsLogFault g) (accepted_log names files) (h files e).1 in free-source (same-task x.0 x.1.0 x.1.1.0) (status.Log g)
    replay_source_exact status.NoMemory h = λ r x. tt
    replay_source_exact status.Done h = with-log (More status.Done) (h files e) status.Done
    replay_source_exact status.Exhausted h = with-log (More status.Exhausted) (h files e) status.Exhausted
    replay_source_exact status.Faulted h = with-log (More status.Faulted) (h files e) status.Faulted
    replay_source_exact status.WriteFault h = with-log (More status.WriteFault) (h files e) status.WriteFault
    replay_source_exact (status.Replay f) h = with-log (More (status.Replay f)) (h files e) (status.Replay f)
    replay_source_exact (status.Usage u) h = absurd h
    replay_source_exact (status.Limit m most) h = absurd h
