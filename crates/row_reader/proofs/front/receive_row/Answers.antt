use Rattle.std.proofs.Common.{map, sym, subst}
use Rattle.calculus.specs.Order.{IsAscending}
use Rattle.rho_term.specs.Parts.{bind_tree}
use Rattle.calculus.proofs.ListCodes.{length-map}
use Rattle.code_faults.proofs.Exit.{exit}
use Rattle.row_reader.proofs.Joins.{cut-where, cut-here, cut-on, join-codes}
use Rattle.row_reader.proofs.JoinRows.{id-refused, kind-refused, binds-refused, body-refused, id-cut, kind-cut, binds-cut, body-cut, receive-read}
use Rattle.code_faults.proofs.Scoped.{reads-unscoped}
use Rattle.row_reader.proofs.SentRows.{join-unscoped, begun-join_unscoped, join-scope}
use Rattle.row_reader.proofs.front.receive_row.Goals as goal

pub returns-clause-reads : goal.returns-clause-reads
returns-clause-reads c = receive-read c.in_ok-id.id.0 c.in_ok-kind.kind (map bind_tree c.in_ok-binds.binds.items) c.in_ok-id.ensures.digest c.in_ok-id.ensures.is c.in_ok-kind.ensures.is (reads-unscoped c.new-scope.ensures.items c.in_ok-binds.ensures.reads)
    (rw (length-map bind_tree c.in_ok-binds.binds.items) c.in_ok-binds.ensures.some) (rw (length-map bind_tree c.in_ok-binds.binds.items) c.in_ok-binds.ensures.few)
    (subst IsAscending (sym (join-codes c.in_ok-binds.binds.items)) c.in_ok-binds.ensures.ascending) (join-scope _ _ _ c.new-found.ensures.items c.in_ok-binds.ensures.bound) c.in_ok-body.ensures.reads

pub returns-in_err-id-clause-refuses : goal.returns-in_err-id-clause-refuses
returns-in_err-id-clause-refuses c = exit _ _ _ c.from_residual.ensures.1 (id-refused c.in_err-id.ensures.refuses)

pub returns-in_err-kind-clause-refuses : goal.returns-in_err-kind-clause-refuses
returns-in_err-kind-clause-refuses c = exit _ _ _ c.from_residual-in_err-kind.ensures.1 (kind-refused c.in_ok-id.id.0 c.in_ok-id.ensures.digest.0 c.in_ok-id.ensures.is c.in_err-kind.ensures.refuses)

pub returns-in_err-binds-clause-refuses : goal.returns-in_err-binds-clause-refuses
returns-in_err-binds-clause-refuses c = exit _ _ _ c.from_residual-in_err-binds.ensures.1
    (binds-refused c.in_ok-id.id.0 c.in_ok-id.ensures.digest.0 c.in_ok-id.ensures.is c.in_ok-kind.ensures.is (join-unscoped c.new-scope.ensures.items c.in_err-binds.ensures.refuses))

pub returns-in_err-body-clause-refuses : goal.returns-in_err-body-clause-refuses
returns-in_err-body-clause-refuses c = exit _ _ _ c.from_residual-in_err-body.ensures.1
    (body-refused c.in_ok-id.id.0 c.in_ok-id.ensures.digest.0 c.in_ok-id.ensures.is c.in_ok-kind.ensures.is (reads-unscoped c.new-scope.ensures.items c.in_ok-binds.ensures.reads)
    (join-scope _ _ _ c.new-found.ensures.items c.in_ok-binds.ensures.bound) c.in_err-body.ensures.refuses)

pub returns-in_err-id-clause-begun : goal.returns-in_err-id-clause-begun
returns-in_err-id-clause-begun c = exit _ _ _ c.from_residual.ensures.1 (cut-where _ c.in_err-id.ensures.begun (λ g. id-cut g))

pub returns-in_err-kind-clause-begun : goal.returns-in_err-kind-clause-begun
returns-in_err-kind-clause-begun c = exit _ _ _ c.from_residual-in_err-kind.ensures.1 (cut-here _ c.in_err-kind.ensures.place (λ z. kind-cut c.in_ok-id.id.0 c.in_ok-id.ensures.digest c.in_ok-id.ensures.is z))

pub returns-in_err-binds-clause-begun : goal.returns-in_err-binds-clause-begun
returns-in_err-binds-clause-begun c = exit _ _ _ c.from_residual-in_err-binds.ensures.1
    (cut-on _ c.in_err-binds.ensures.begun (λ g. binds-cut c.in_ok-id.id.0 c.in_ok-kind.kind c.in_ok-id.ensures.digest c.in_ok-id.ensures.is c.in_ok-kind.ensures.is (begun-join_unscoped c.new-scope.ensures.items g)))

pub returns-in_err-body-clause-begun : goal.returns-in_err-body-clause-begun
returns-in_err-body-clause-begun c = exit _ _ _ c.from_residual-in_err-body.ensures.1
    (cut-where _ c.in_err-body.ensures.begun (λ g. body-cut c.in_ok-id.id.0 c.in_ok-kind.kind (map bind_tree c.in_ok-binds.binds.items) c.in_ok-id.ensures.digest c.in_ok-id.ensures.is c.in_ok-kind.ensures.is
    (reads-unscoped c.new-scope.ensures.items c.in_ok-binds.ensures.reads)
    (rw (length-map bind_tree c.in_ok-binds.binds.items) c.in_ok-binds.ensures.some) (rw (length-map bind_tree c.in_ok-binds.binds.items) c.in_ok-binds.ensures.few)
    (subst IsAscending (sym (join-codes c.in_ok-binds.binds.items)) c.in_ok-binds.ensures.ascending) (join-scope _ _ _ c.new-found.ensures.items c.in_ok-binds.ensures.bound) g))
