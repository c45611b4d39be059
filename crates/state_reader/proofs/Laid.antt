-- Bytes that are laid out as a state.
use Rattle.std.proofs.Common.{◌≡◌, ℕ, ◌<◌, ◌≤◌, ◌^◌, true, List, [], ◌++◌, length, map as each, refl, ap, sym, ◌∙◌, subst, arith, append-nil, length-append}
use Rattle.std.specs.Prelude.{IfOk, IsPermutation, MatchOption, None, Ok, Err, Option, Result, Some}
use Rattle.std.proofs.lemmas.List.Sorted.{IsPermutation-refl}
use Rattle.std.specs.declared.alloc.AllocError.{AllocError}
use Rattle.calculus.specs.Bytes.{be64, joined}
use Rattle.calculus.specs.Root.{root}
use Rattle.calculus.specs.Rows.{Row, row_code}
use Rattle.calculus.specs.Steps.{differ}
use Rattle.events.specs.Events.{first_ids, stored}
use Rattle.events.specs.States.{state_text}
use Rattle.least_step.specs.Least.{AllowsNone, HasRows, IsLeast, NothingIsUsedUp}
use Rattle.least_step.specs.declared.least.LeastStep.{LeastStep}
use Rattle.calculus.proofs.ListCodes.{length-map}
use Rattle.input_faults.specs.declared.state_fault.StateFault.{StateFault}
use Rattle.input_faults.specs.declared.state_fault.StateFault.TheVariants as fault
use Rattle.state_reader.specs.Files.{Begins, EndsEarly, heading, IsLeastOf, IsWrongAt}
use Rattle.state_reader.specs.Reading.{IsOfRows}
use Rattle.state_reader.specs.Refused.{IsRefused}
use Rattle.checkpoint.specs.Kept.{AreInOrder}
use Rattle.events.specs.Quiet.{AllowNoStep}
use Rattle.checkpoint.proofs.Ordering.{text-of-order}

-- the header, rows, and what is left
pub laid : (bs stored left last : List ℕ) (number : ℕ) (rows : List Row) → bs ≡ heading ++ (stored ++ (be64 number ++ left)) → left ≡ joined (each row_code rows) ++ last
    → length stored ≡ 32 → number < 2 ^ 64 → length rows ≤ number → AreInOrder rows → Begins bs stored number rows last
laid bs stored left last number rows e f l s n o = record {
  is = e ∙ ap (λ (z : List ℕ). heading ++ (stored ++ (be64 number ++ z))) f;
  long = l;
  small = s;
  few = n;
  order = o;
}

-- nothing is left behind rows as many as told
pub laid-whole : (bs stored : List ℕ) (number : ℕ) (rows : List Row) {last : List ℕ} → Begins bs stored number rows last → length rows ≡ number → last ≡ [] → Begins bs stored (length rows) rows []
laid-whole bs stored number rows {last = last} b n e = subst (λ (m : ℕ). Begins bs stored m rows []) (sym n) (subst (λ (z : List ℕ). Begins bs stored number rows z) e b)

-- the text of the rows, where the root is theirs
pub laid-text : (bs told : List ℕ) (rows : List Row) → Begins bs told (length rows) rows [] → told ≡ root rows → bs ≡ state_text rows
laid-text bs told rows b e =
    b.is ∙ ap (λ (z : List ℕ). heading ++ (told ++ (be64 (length rows) ++ z))) (append-nil (joined (each row_code rows)))
    ∙ ap (λ (z : List ℕ). heading ++ (z ++ (be64 (length rows) ++ joined (each row_code rows)))) e
    ∙ ap (λ (n : ℕ). heading ++ (root rows ++ (be64 n ++ joined (each row_code rows)))) (sym (length-map row_code rows))
    ∙ text-of-order rows b.order

has-rows : (rows : List Row) → HasRows (stored rows) rows
has-rows rows = subst (λ (rs : List Row). IsPermutation rs rows) (sym (append-nil rows)) (IsPermutation-refl rows)

nothing-used : (rows : List Row) → NothingIsUsedUp (stored rows) []
nothing-used rows r ds all m e f = refl

least-of : (rows : List Row) (s : LeastStep) → IsLeast (stored rows) [] s → IsLeastOf rows s.cont.0 (each (λ d. d.0) s.taken.items)
least-of rows s h = (_, h, refl, refl)

-- the least step among rows
pub least-found : (rows : List Row) (r : Result (Option LeastStep) AllocError)
    → (HasRows (stored rows) rows → differ (first_ids rows) ≡ true → NothingIsUsedUp (stored rows) [] → IfOk r (λ o. MatchOption o (AllowsNone (stored rows) []) (IsLeast (stored rows) [])))
    → differ (first_ids rows) ≡ true → IfOk r (λ o. MatchOption o (AllowNoStep rows) (λ s. IsLeastOf rows s.cont.0 (each (λ d. d.0) s.taken.items)))
least-found rows r f d = on r (f (has-rows rows) d (nothing-used rows))
  where
    on : (r : Result (Option LeastStep) AllocError) → IfOk r (λ o. MatchOption o (AllowsNone (stored rows) []) (IsLeast (stored rows) []))
        → IfOk r (λ o. MatchOption o (AllowNoStep rows) (λ s. IsLeastOf rows s.cont.0 (each (λ d. d.0) s.taken.items)))
    on (Ok None) h = h
    on (Ok (Some s)) h = least-of rows s h
    on (Err e) h = tt

-- what follows a header is no more than all
pub left-within : (bs told left : List ℕ) (number : ℕ) → bs ≡ heading ++ (told ++ (be64 number ++ left)) → length left ≤ length bs
left-within bs told left number e = omega (arith, ap length e, length-append heading (told ++ (be64 number ++ left)), length-append told (be64 number ++ left), length-append (be64 number) left)

-- why the rows of a text are not read
pub order-refused : {A : Type 0} (bs : List ℕ) (f : StateFault) → IsOfRows f
    → ((at : ℕ) → ◌≡◌ {A = Result A StateFault} (Err f) (Err (fault.Short at)) → (at ≡ length bs) × EndsEarly bs)
    → ((at : ℕ) → ◌≡◌ {A = Result A StateFault} (Err f) (Err (fault.NotCanonical at)) → length bs < 2 ^ 32 → IsWrongAt at bs) → IsRefused bs f
order-refused bs (fault.Short at) h p q = p at refl
order-refused bs (fault.NotCanonical at) h p q = q at refl
order-refused bs (fault.WrongRoot stored found) h p q = absurd h
order-refused bs (fault.Reducible cont taken) h p q = absurd h
order-refused bs fault.NoMemory h p q = tt

-- the least step that was found
pub least-some : (rows rs : List Row) (o : Option LeastStep) (s : LeastStep) → rs ≡ rows → o ≡ Some s
    → (differ (first_ids rs) ≡ true → MatchOption o (AllowNoStep rs) (λ t. IsLeastOf rs t.cont.0 (each (λ d. d.0) t.taken.items)))
    → differ (first_ids rows) ≡ true → IsLeastOf rows s.cont.0 (each (λ d. d.0) s.taken.items)
least-some rows rs o s e p f d =
    subst (λ (x : Option LeastStep). MatchOption x (AllowNoStep rows) (λ t. IsLeastOf rows t.cont.0 (each (λ d. d.0) t.taken.items))) p
    (subst (λ (qs : List Row). MatchOption o (AllowNoStep qs) (λ t. IsLeastOf qs t.cont.0 (each (λ d. d.0) t.taken.items))) e (f (subst (λ (qs : List Row). differ (first_ids qs) ≡ true) (sym e) d)))

-- and where there is none
pub least-none : (rows rs : List Row) (o : Option LeastStep) → rs ≡ rows → o ≡ None
    → (differ (first_ids rs) ≡ true → MatchOption o (AllowNoStep rs) (λ t. IsLeastOf rs t.cont.0 (each (λ d. d.0) t.taken.items)))
    → differ (first_ids rows) ≡ true → AllowNoStep rows
least-none rows rs o e p f d =
    subst (λ (x : Option LeastStep). MatchOption x (AllowNoStep rows) (λ t. IsLeastOf rows t.cont.0 (each (λ d. d.0) t.taken.items))) p
    (subst (λ (qs : List Row). MatchOption o (AllowNoStep qs) (λ t. IsLeastOf qs t.cont.0 (each (λ d. d.0) t.taken.items))) e (f (subst (λ (qs : List Row). differ (first_ids qs) ≡ true) (sym e) d)))
