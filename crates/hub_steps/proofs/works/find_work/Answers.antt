use Rattle.std.proofs.Common.{◌∙◌, refl, ap, arith}
use Rattle.hub_rule.specs.Works.{hand}
use Rattle.hub_steps.proofs.Waits.{waits_first, waits_on, waits_same, found_end, found_nothing, found_work}
use Rattle.hub_steps.proofs.works.find_work.Goals as goal

pub loop-init : goal.loop-init
loop-init g c = record { table = refl; id = refl; waits = waits_first _ }

pub may_go-requires-clause-table : goal.may_go-requires-clause-table
may_go-requires-clause-table g c κs within = (c.loop.invariant.table ∙ c.requires.table.0, c.requires.table.1)

pub may_go-requires-clause-limit : goal.may_go-requires-clause-limit
may_go-requires-clause-limit g c κs within = c.requires.terms.0

pub look_round-requires-clause-table : goal.look_round-requires-clause-table
look_round-requires-clause-table g c κs within = (c.may_go.ensures.same.0 ∙ (c.loop.invariant.table ∙ c.requires.table.0), c.requires.table.1)

pub look_round-requires-clause-first : goal.look_round-requires-clause-first
look_round-requires-clause-first g c κs within =
    let w = c.loop.invariant.waits.me in let m = c.may_go.ensures.view in let d = c.requires.desk in
    (d.0, ap (λ x. x.0.pile.desk) m ∙ (ap (λ x. x.0.pile.desk) w ∙ d.1), (let p = ap (λ x. x.0.parts) m in let q = ap (λ x. x.0.parts) w in let r = d.2 in omega arith), ap (λ x. x.0.pile.owes) m ∙ (ap (λ x. x.0.pile.owes) w ∙ d.3))

pub look_round-requires-clause-desks : goal.look_round-requires-clause-desks
look_round-requires-clause-desks g c κs within = (c.requires.terms.1, c.requires.terms.2)

pub look_round-requires-clause-idle : goal.look_round-requires-clause-idle
look_round-requires-clause-idle g c κs within = ap (λ x. hand x.0.pile) c.may_go.ensures.view ∙ (ap (λ x. hand x.0.pile) c.loop.invariant.waits.me ∙ c.requires.idle)

pub loop-preserved : goal.loop-preserved
loop-preserved g c =
    let i = c.loop.invariant in let m = c.may_go.ensures in let d = c.in_default.ensures in let r = c.read_pending.ensures in let z = c.sleep_for_bell.ensures.same in
    let yes = c.if-not-may_go.false in
    let w = (waits_on _ _ _ i.waits m.view m.charged.0 m.charged.1 m.fresh m.clear (m.stays yes).0 (m.stays yes).1 (m.go yes).1 (m.go yes).2).0 in
    record {
      table = z.0 ∙ (r.same.0 ∙ (d.same.0 ∙ (m.same.0 ∙ i.table)));
      id = z.1 ∙ (r.same.1 ∙ (d.same.1 ∙ (m.same.1 ∙ i.id)));
      waits = waits_same _ _ _ (waits_same _ _ _ (waits_same _ _ _ w d.none) (r.some (let y = c.if-read_pending-eq0.false in omega arith))) z.2;
    }

pub returns-then-not-may_go-clause-same : goal.returns-then-not-may_go-clause-same
returns-then-not-may_go-clause-same g c = let i = c.loop.invariant in let m = c.may_go.ensures in (m.same.0 ∙ i.table, m.same.1 ∙ i.id)

pub returns-then-not-may_go-clause-looked : goal.returns-then-not-may_go-clause-looked
returns-then-not-may_go-clause-looked g c =
    let i = c.loop.invariant in let m = c.may_go.ensures in
    found_end _ _ _ i.waits m.view m.charged.0 m.charged.1 m.fresh m.clear (m.cause c.if-not-may_go.true)

pub returns-then-read_pending-eq0-clause-same : goal.returns-then-read_pending-eq0-clause-same
returns-then-read_pending-eq0-clause-same g c =
    let i = c.loop.invariant in let m = c.may_go.ensures in let d = c.in_default.ensures in let r = c.read_pending.ensures in
    (r.same.0 ∙ (d.same.0 ∙ (m.same.0 ∙ i.table)), r.same.1 ∙ (d.same.1 ∙ (m.same.1 ∙ i.id)))

pub returns-then-read_pending-eq0-clause-looked : goal.returns-then-read_pending-eq0-clause-looked
returns-then-read_pending-eq0-clause-looked g c =
    let i = c.loop.invariant in let m = c.may_go.ensures in let d = c.in_default.ensures in let r = c.read_pending.ensures in
    let yes = c.if-not-may_go.false in
    let w = (waits_on _ _ _ i.waits m.view m.charged.0 m.charged.1 m.fresh m.clear (m.stays yes).0 (m.stays yes).1 (m.go yes).1 (m.go yes).2).0 in
    found_nothing _ _ _ (waits_same _ _ _ w d.none) (r.none c.if-read_pending-eq0.true)

pub returns-in-Some-look_round-clause-same : goal.returns-in-Some-look_round-clause-same
returns-in-Some-look_round-clause-same g c =
    let i = c.loop.invariant in let m = c.may_go.ensures in let k = c.in-Some-look_round.ensures in
    (k.same.0 ∙ (m.same.0 ∙ i.table), k.same.1 ∙ (m.same.1 ∙ i.id))

pub returns-in-Some-look_round-clause-looked : goal.returns-in-Some-look_round-clause-looked
returns-in-Some-look_round-clause-looked g c =
    let i = c.loop.invariant in let m = c.may_go.ensures in let k = c.in-Some-look_round.ensures.some in
    let yes = c.if-not-may_go.false in
    let w = waits_on _ _ _ i.waits m.view m.charged.0 m.charged.1 m.fresh m.clear (m.stays yes).0 (m.stays yes).1 (m.go yes).1 (m.go yes).2 in
    found_work _ _ _ k.0 c.in-Some-look_round.work w.0 ((m.go yes).0, w.1, w.2) k.1
