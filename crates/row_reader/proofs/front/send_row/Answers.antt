use Rattle.code_faults.proofs.BegunMore.{begun-unscoped}
use Rattle.code_faults.proofs.Exit.{exit}
use Rattle.row_reader.proofs.Joins.{cut-where, cut-here}
use Rattle.code_faults.proofs.Scoped.{reads-unscoped, refuses-unscoped}
use Rattle.row_reader.proofs.SentRows.{row-unscoped, begun-row_unscoped, id-refused, channel-refused, flag-refused, args-refused, id-cut, channel-cut, flag-cut, args-cut, send-read}
use Rattle.row_reader.proofs.front.send_row.Goals as goal

pub returns-clause-reads : goal.returns-clause-reads
returns-clause-reads c = send-read c.in_ok-id.id.0 c.in_ok-persistent.persistent c.in_ok-id.ensures.digest c.in_ok-id.ensures.is (reads-unscoped c.new-scope.ensures.items c.in_ok-channel.ensures.reads) c.in_ok-persistent.ensures.is
    (reads-unscoped c.new-scope.ensures.items c.in_ok-args.ensures.reads)

pub returns-in_err-id-clause-refuses : goal.returns-in_err-id-clause-refuses
returns-in_err-id-clause-refuses c = exit _ _ _ c.from_residual.ensures.1 (id-refused c.in_err-id.ensures.refuses)

pub returns-in_err-channel-clause-refuses : goal.returns-in_err-channel-clause-refuses
returns-in_err-channel-clause-refuses c = exit _ _ _ c.from_residual-in_err-channel.ensures.1 (channel-refused c.in_ok-id.id.0 c.in_ok-id.ensures.digest.0 c.in_ok-id.ensures.is (refuses-unscoped c.new-scope.ensures.items c.in_err-channel.ensures.refuses))

pub returns-in_err-persistent-clause-refuses : goal.returns-in_err-persistent-clause-refuses
returns-in_err-persistent-clause-refuses c = exit _ _ _ c.from_residual-in_err-persistent.ensures.1
    (flag-refused c.in_ok-id.id.0 c.in_ok-id.ensures.digest.0 c.in_ok-id.ensures.is (reads-unscoped c.new-scope.ensures.items c.in_ok-channel.ensures.reads) c.in_err-persistent.ensures.refuses)

pub returns-in_err-args-clause-refuses : goal.returns-in_err-args-clause-refuses
returns-in_err-args-clause-refuses c = exit _ _ _ c.from_residual-in_err-args.ensures.1
    (args-refused c.in_ok-id.id.0 c.in_ok-id.ensures.digest.0 c.in_ok-id.ensures.is (reads-unscoped c.new-scope.ensures.items c.in_ok-channel.ensures.reads) c.in_ok-persistent.ensures.is
    (row-unscoped c.new-scope.ensures.items c.in_err-args.ensures.refuses))

pub returns-in_err-id-clause-begun : goal.returns-in_err-id-clause-begun
returns-in_err-id-clause-begun c = exit _ _ _ c.from_residual.ensures.1 (cut-where _ c.in_err-id.ensures.begun (λ g. id-cut g))

pub returns-in_err-channel-clause-begun : goal.returns-in_err-channel-clause-begun
returns-in_err-channel-clause-begun c = exit _ _ _ c.from_residual-in_err-channel.ensures.1
    (cut-where _ c.in_err-channel.ensures.begun (λ g. channel-cut c.in_ok-id.id.0 c.in_ok-id.ensures.digest c.in_ok-id.ensures.is (begun-unscoped c.new-scope.ensures.items g)))

pub returns-in_err-persistent-clause-begun : goal.returns-in_err-persistent-clause-begun
returns-in_err-persistent-clause-begun c = exit _ _ _ c.from_residual-in_err-persistent.ensures.1
    (cut-here _ c.in_err-persistent.ensures.place (λ z. flag-cut c.in_ok-id.id.0 c.in_ok-id.ensures.digest c.in_ok-id.ensures.is (reads-unscoped c.new-scope.ensures.items c.in_ok-channel.ensures.reads) z))

pub returns-in_err-args-clause-begun : goal.returns-in_err-args-clause-begun
returns-in_err-args-clause-begun c = exit _ _ _ c.from_residual-in_err-args.ensures.1
    (cut-where _ c.in_err-args.ensures.begun (λ g. args-cut c.in_ok-id.id.0 c.in_ok-persistent.persistent c.in_ok-id.ensures.digest c.in_ok-id.ensures.is (reads-unscoped c.new-scope.ensures.items c.in_ok-channel.ensures.reads)
    c.in_ok-persistent.ensures.is (begun-row_unscoped c.new-scope.ensures.items g)))
