-- The text of rows that allow no step is refused for want of memory alone.
use Rattle.std.proofs.Common.{◌≡◌, ℕ, ◌<◌, ◌^◌, true, false, List, length, refl, subst}
use Rattle.std.specs.Prelude.{IsSome}
use Rattle.calculus.specs.Root.{root}
use Rattle.calculus.specs.Rows.{Row}
use Rattle.events.specs.Events.{stored}
use Rattle.input_faults.specs.declared.state_fault.StateFault.TheVariants as fault
use Rattle.state_reader.specs.Files.{IsReducible}
use Rattle.state_reader.specs.Laws.{IsTextOf, StatesAreRead}
use Rattle.state_reader.proofs.Exact.{text-laid}
use Rattle.state_reader.proofs.LeastSteps.{ids-differ}
use Rattle.state_reader.proofs.OneFault.{laid-early, laid-same, laid-wrong, right-root}
use Rattle.state_reader.proofs.Meetings.{quiet-moved}

apart : false ≡ true → ⊥
apart e = cc

not-reducible : (bs : List ℕ) (rows : List Row) → IsTextOf bs rows → length bs < 2 ^ 32 → (cont : List ℕ) (taken : List (List ℕ)) → IsReducible bs cont taken → ⊥
not-reducible bs rows t few cont taken r =
    let c = (laid-same bs few (root rows) (root r.rows) rows r.rows (text-laid bs rows t.is t.order few) (text-laid bs r.rows r.is r.order few)).1 in
    let s = r.step (ids-differ rows r.rows t.order r.order c t.ids) in
    apart (subst IsSome (quiet-moved rows r.rows t.order.storable r.order.storable c t.quiet s.0) s.1.allowed)

pub states_are_read : StatesAreRead
states_are_read bs rows t few (fault.Short at) h = absurd (laid-early bs few (text-laid bs rows t.is t.order few) h.1)
states_are_read bs rows t few (fault.NotCanonical at) h = absurd (laid-wrong bs few (text-laid bs rows t.is t.order few) (h few))
states_are_read bs rows t few (fault.WrongRoot stored found) h = absurd (right-root bs few stored.0 found.0 rows (text-laid bs rows t.is t.order few) h)
states_are_read bs rows t few (fault.Reducible cont taken) h = absurd (not-reducible bs rows t few cont.0 _ h)
states_are_read bs rows t few fault.NoMemory h = refl
