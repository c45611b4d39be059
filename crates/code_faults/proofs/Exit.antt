-- What an error that is passed on says.
use Rattle.std.proofs.Common.{◌≡◌, sym, subst}
use Rattle.std.specs.Prelude.{Result, Ok, Err, IfErr}
use Rattle.std.specs.Result.{IsErrAnd}
use Rattle.code_faults.specs.declared.fault.ReadFault.{ReadFault}

pub exit : {T : Type 0} (Q : ReadFault → Type 0) (r : Result T ReadFault) (e : ReadFault) → IsErrAnd r (λ y. y ≡ e) → Q e → IfErr r Q
exit Q (Ok x) e h q = absurd h
exit Q (Err y) e h q = subst Q (sym h) q

pub exit-map : {T : Type 0} (P Q : ReadFault → Type 0) (r : Result T ReadFault) → ((e : ReadFault) → P e → Q e) → IfErr r P → IfErr r Q
exit-map P Q (Ok x) f h = tt
exit-map P Q (Err e) f h = f e h

pub exit-on : {T : Type 0} (P Q : ReadFault → Type 0) (r : Result T ReadFault) → IfErr r P → ((e : ReadFault) → P e → Q e) → IfErr r Q
exit-on P Q r h f = exit-map P Q r f h
