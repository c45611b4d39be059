use Rattle.std.proofs.Common.{arith, ◌∷◌}
use Rattle.code_faults.proofs.Exit.{exit}
use Rattle.code_faults.proofs.LeafRefusals.{ground-at, ground-str, ground-uri}
use Rattle.code_faults.proofs.Blaming.{none-told, not-canonical}
use Rattle.code_faults.proofs.BlamedLeaves.{wrong-at, bool-wrong, str-wrong, uri-wrong, bytes-wrong, ground-wrong}
use Rattle.code_faults.proofs.BegunLeaves.{bool-begun, int-cut, str-begun, uri-begun, bytes-begun}
use Rattle.code_faults.proofs.BegunMore.{ground-cut, ground-none_begun}
use Rattle.code_faults.proofs.Places.{goes-on, goes-here}
use Rattle.code_fields.proofs.reader.Reader.ground.Goals as goal

pub returns-in_err-text-in-18-clause-refuses : goal.returns-in_err-text-in-18-clause-refuses
returns-in_err-text-in-18-clause-refuses c = exit _ _ _ c.from_residual-in_err-text-in-18.ensures.1 (ground-at c.in-18.is (ground-str c.in_err-text-in-18.ensures.refuses))

pub returns-in_err-text-in-19-clause-refuses : goal.returns-in_err-text-in-19-clause-refuses
returns-in_err-text-in-19-clause-refuses c = exit _ _ _ c.from_residual-in_err-text-in-19.ensures.1 (ground-at c.in-19.is (ground-uri c.in_err-text-in-19.ensures.refuses))

pub returns-in_err-text-in-18-clause-wrong : goal.returns-in_err-text-in-18-clause-wrong
returns-in_err-text-in-18-clause-wrong c = exit _ _ _ c.from_residual-in_err-text-in-18.ensures.1 (wrong-at c.in-18.is (str-wrong c.in_err-text-in-18.ensures.wrong))

pub returns-in_err-text-in-19-clause-wrong : goal.returns-in_err-text-in-19-clause-wrong
returns-in_err-text-in-19-clause-wrong c = exit _ _ _ c.from_residual-in_err-text-in-19.ensures.1 (wrong-at c.in-19.is (uri-wrong c.in_err-text-in-19.ensures.wrong))

pub returns-in_err-boolean-in-16-clause-wrong : goal.returns-in_err-boolean-in-16-clause-wrong
returns-in_err-boolean-in-16-clause-wrong c = exit _ _ _ c.from_residual.ensures.1 (wrong-at c.in-16.is (bool-wrong c.in_err-boolean-in-16.ensures.wrong))

pub returns-in_err-int-in-17-clause-wrong : goal.returns-in_err-int-in-17-clause-wrong
returns-in_err-int-in-17-clause-wrong c = exit _ _ _ c.from_residual-in_err-int-in-17.ensures.1 (none-told _ c.in_err-int-in-17.ensures.tells)

pub returns-in_err-bytes-in-20-clause-wrong : goal.returns-in_err-bytes-in-20-clause-wrong
returns-in_err-bytes-in-20-clause-wrong c = exit _ _ _ c.from_residual-in_err-bytes-in-20.ensures.1 (wrong-at c.in-20.is (bytes-wrong c.in_err-bytes-in-20.ensures.wrong))

pub returns-in_default-clause-wrong : goal.returns-in_default-clause-wrong
returns-in_default-clause-wrong c = not-canonical (ground-wrong c.args.tag (omega arith) (λ q. omega (arith, q)) (λ q. omega (arith, q)) (λ q. omega (arith, q)) (λ q. omega (arith, q)) (λ q. omega (arith, q)))

pub returns-in_err-boolean-in-16-clause-begun : goal.returns-in_err-boolean-in-16-clause-begun
returns-in_err-boolean-in-16-clause-begun c = exit _ _ _ c.from_residual.ensures.1 (λ s. goes-here _ (ground-cut c.in-16.is bool-begun) c.in_err-boolean-in-16.ensures.place)

pub returns-in_err-int-in-17-clause-begun : goal.returns-in_err-int-in-17-clause-begun
returns-in_err-int-in-17-clause-begun c = exit _ _ _ c.from_residual-in_err-int-in-17.ensures.1 (λ s. goes-here _ (ground-cut c.in-17.is (int-cut c.in_err-int-in-17.ensures.left c.in_err-int-in-17.ensures.ends)) c.in_err-int-in-17.ensures.place)

pub returns-in_err-text-in-18-clause-begun : goal.returns-in_err-text-in-18-clause-begun
returns-in_err-text-in-18-clause-begun c = exit _ _ _ c.from_residual-in_err-text-in-18.ensures.1 (λ s. goes-on (c.in_err-text-in-18.ensures.begun s) (λ z g. ground-cut c.in-18.is (str-begun g)))

pub returns-in_err-text-in-19-clause-begun : goal.returns-in_err-text-in-19-clause-begun
returns-in_err-text-in-19-clause-begun c = exit _ _ _ c.from_residual-in_err-text-in-19.ensures.1 (λ s. goes-on (c.in_err-text-in-19.ensures.begun s) (λ z g. ground-cut c.in-19.is (uri-begun g)))

pub returns-in_err-bytes-in-20-clause-begun : goal.returns-in_err-bytes-in-20-clause-begun
returns-in_err-bytes-in-20-clause-begun c = exit _ _ _ c.from_residual-in_err-bytes-in-20.ensures.1 (λ s. goes-on (c.in_err-bytes-in-20.ensures.begun s) (λ z g. ground-cut c.in-20.is (bytes-begun g)))

pub returns-in_default-clause-begun : goal.returns-in_default-clause-begun
returns-in_default-clause-begun c = λ s. record { after = c.args.tag ∷ c.args.self.now.input.now; place = omega arith; begun = ground-none_begun }
