use Rattle.std.proofs.Common.{List, All, sym, subst, take}
use Rattle.std.proofs.lemmas.List.{take_all}
use Rattle.std.proofs.lemmas.Result.{IfOk-weaker}
use Rattle.calculus.specs.Rows.{Row}
use Rattle.calculus.specs.Storing.{IsStorable}
use Rattle.replay_store.specs.Stores.{AreOpened}
use Rattle.replay_store.proofs.Opened.{all-more, all-opened, all-there, if-both, take-more}
use Rattle.replay_store.proofs.opening.open_shards.Goals as goal

pub bring_in-requires : goal.bring_in-requires
bring_in-requires c = record { all = all-there (take c.loop-row.row-index c.args.rows.now) c.loop-row.held c.loop-row.invariant.opened }

pub loop-row-preserved : goal.loop-row-preserved
loop-row-preserved c =
    let rows = c.args.rows.now in
    let i = c.loop-row.row-index in
    let r = c.row-item.result in
    let before = c.loop-row.invariant in
    record {
      opened = subst (λ (l : List Row). AreOpened l c.bring_in.new.held) (sym (take-more rows i r c.loop-row-test.true c.row-item.is)) (c.in_ok-bring_in.ensures.opened (take i rows) before.opened);
      storable = all-more IsStorable rows i r c.loop-row-test.true c.row-item.is before.storable c.bring_in.ensures.storable;
    }

pub take_shards-requires : goal.take_shards-requires
take_shards-requires c = record { all = all-there (take c.loop-row.row-index c.args.rows.now) c.loop-row.held c.loop-row.invariant.opened }

pub returns-clause-opened : goal.returns-clause-opened
returns-clause-opened c =
    let rows = c.args.rows.now in
    let all = subst (λ (l : List Row). AreOpened l c.loop-row.held) (take_all c.loop-row.row-index rows c.loop-row-test.false) c.loop-row.invariant.opened in
    if-both c.take_shards.result _ _ _ (λ v n e. all-opened rows c.loop-row.held v.items n all e) c.take_shards.ensures.count c.take_shards.ensures.each

pub returns-clause-storable : goal.returns-clause-storable
returns-clause-storable c =
    IfOk-weaker c.take_shards.result _ _ (λ v n. subst (All IsStorable) (take_all c.loop-row.row-index c.args.rows.now c.loop-row-test.false) c.loop-row.invariant.storable) c.take_shards.ensures.count
