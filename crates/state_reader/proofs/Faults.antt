-- The same bytes have one fault.
use Rattle.std.proofs.Common.{ℕ, ◌<◌, ◌^◌, List, length, sym, ◌∙◌}
use Rattle.calculus.specs.Root.{root}
use Rattle.input_faults.specs.declared.state_fault.StateFault.TheVariants as fault
use Rattle.state_reader.specs.Files.{IsReducible}
use Rattle.state_reader.specs.Laws.{OneFault}
use Rattle.state_reader.proofs.Exact.{text-laid}
use Rattle.state_reader.proofs.LeastSteps.{step-once}
use Rattle.state_reader.proofs.OneFault.{AreLaid, early-wrong, wrong-once, laid-early, laid-wrong, other-once, right-root}

reduced : (bs : List ℕ) → length bs < 2 ^ 32 → {c : List ℕ} {xs : List (List ℕ)} → (r : IsReducible bs c xs) → AreLaid bs (root r.rows) r.rows
reduced bs few r = text-laid bs r.rows r.is r.order few

pub one_fault : OneFault
one_fault bs few fault.NoMemory fault.NoMemory h k = tt
one_fault bs few fault.NoMemory (fault.Short j) h k = tt
one_fault bs few fault.NoMemory (fault.NotCanonical j) h k = tt
one_fault bs few fault.NoMemory (fault.WrongRoot s f) h k = tt
one_fault bs few fault.NoMemory (fault.Reducible d ys) h k = tt
one_fault bs few (fault.Short i) fault.NoMemory h k = tt
one_fault bs few (fault.Short i) (fault.Short j) h k = h.0 ∙ sym k.0
one_fault bs few (fault.Short i) (fault.NotCanonical j) h k = early-wrong bs few h.1 (k few)
one_fault bs few (fault.Short i) (fault.WrongRoot s f) h k = laid-early bs few k.begins h.1
one_fault bs few (fault.Short i) (fault.Reducible d ys) h k = laid-early bs few (reduced bs few k) h.1
one_fault bs few (fault.NotCanonical i) fault.NoMemory h k = tt
one_fault bs few (fault.NotCanonical i) (fault.Short j) h k = early-wrong bs few k.1 (h few)
one_fault bs few (fault.NotCanonical i) (fault.NotCanonical j) h k = wrong-once bs few (h few) (k few)
one_fault bs few (fault.NotCanonical i) (fault.WrongRoot s f) h k = laid-wrong bs few k.begins (h few)
one_fault bs few (fault.NotCanonical i) (fault.Reducible d ys) h k = laid-wrong bs few (reduced bs few k) (h few)
one_fault bs few (fault.WrongRoot stored found) fault.NoMemory h k = tt
one_fault bs few (fault.WrongRoot stored found) (fault.Short j) h k = laid-early bs few h.begins k.1
one_fault bs few (fault.WrongRoot stored found) (fault.NotCanonical j) h k = laid-wrong bs few h.begins (k few)
one_fault bs few (fault.WrongRoot stored found) (fault.WrongRoot s f) h k = other-once bs few stored.0 found.0 s.0 f.0 h k
one_fault bs few (fault.WrongRoot stored found) (fault.Reducible d ys) h k = right-root bs few stored.0 found.0 k.rows (reduced bs few k) h
one_fault bs few (fault.Reducible c xs) fault.NoMemory h k = tt
one_fault bs few (fault.Reducible c xs) (fault.Short j) h k = laid-early bs few (reduced bs few h) k.1
one_fault bs few (fault.Reducible c xs) (fault.NotCanonical j) h k = laid-wrong bs few (reduced bs few h) (k few)
one_fault bs few (fault.Reducible c xs) (fault.WrongRoot s f) h k = right-root bs few s.0 f.0 h.rows (reduced bs few h) k
one_fault bs few (fault.Reducible c xs) (fault.Reducible d ys) h k = λ u. step-once bs u.rows few u.is u.order u.ids c.0 d.0 _ _ h k
