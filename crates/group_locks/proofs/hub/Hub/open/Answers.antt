use Rattle.std.proofs.Common.{◌≡◌, ◌∙◌, sym, ap, subst, refl, List, length}
use mathlib.Core.Option.{some}
use Rattle.std.proofs.lemmas.List.{length-map}
use Rattle.atomic_table.specs.Table.{opening}
use Rattle.hub_rule.specs.Rule.{HubRule, newcomer}
use Rattle.hub_rule.proofs.Opens.{opens, slots_long, first_words, spent_word, count_word, other_words}
use Rattle.group_locks.proofs.hub.Hub.open.Goals as goal

pub slots_of-requires : goal.slots_of-requires
slots_of-requires g c = c.requires.few.0

pub new-requires : goal.new-requires
new-requires g c =
    let m = g.S.Scene.meaning in
    let X : Type 0 = g.row.S-Shard.Denot in let W : Type 0 = g.row.S-Work.Denot in
    let h = c.requires.opens in
    let shards : c.of.result.value.items ≡ c.args.shards.items = ap (λ v. v.items) c.of.ensures in
    let works : c.of-2.result.value.items ≡ c.args.work.items = ap (λ v. v.items) c.of-2.ensures in
    let P : List X → List W → Type 0 = λ xs ws. HubRule m (xs, ws) c.args.terms (opening (first_words c.args.terms.spent c.len-count.result) c.in_ok-slots.slots.items (newcomer c.args.terms.seats)) in
    subst (λ xs. P xs c.of-2.result.value.items) (sym shards) (subst (P c.args.shards.items) (sym works)
    (opens m (c.args.shards.items, c.args.work.items) c.args.terms (first_words c.args.terms.spent c.len-count.result) c.in_ok-slots.slots.items h.0 c.requires.few.1 c.requires.low c.requires.long c.requires.short h.1 h.2 refl (other_words c.args.terms.spent c.len-count.result) (spent_word c.args.terms.spent c.len-count.result) (count_word c.args.terms.spent c.len-count.result ∙ (c.len-count.ensures ∙ c.args.work.ok.0)) c.in_ok-slots.ensures))

pub invariant_of-result-clause-dealt : goal.invariant_of-result-clause-dealt
invariant_of-result-clause-dealt g c =
    c.len-count.ensures ∙ (c.args.work.ok.0 ∙ sym (ap (λ q. length q.works.value.items) c.in-Ok.ensures.ok.5 ∙ ap (λ v. length v.items) c.of-2.ensures))

pub invariant_of-result-clause-long : goal.invariant_of-result-clause-long
invariant_of-result-clause-long g c =
    let slots = c.in_ok-slots.slots.items in
    c.in-Ok.ensures.ok.1 ∙ (sym (length-map slots some) ∙ slots_long c.args.shards.items c.args.work.items slots c.requires.long c.in_ok-slots.ensures)

pub invariant_of-result-clause-few : goal.invariant_of-result-clause-few
invariant_of-result-clause-few g c = c.requires.few

pub invariant_of-result-clause-agreed : goal.invariant_of-result-clause-agreed
invariant_of-result-clause-agreed g c = sym (ap (λ q. q.terms) c.in-Ok.ensures.ok.5)

pub returns-in-Ok : goal.returns-in-Ok
returns-in-Ok g c = let o = c.in-Ok.ensures.ok in record {
  token = (o.2, o.4);
  key = (ap (λ q. q.shards.value.items) o.5 ∙ ap (λ v. v.items) c.of.ensures, ap (λ q. q.works.value.items) o.5 ∙ ap (λ v. v.items) c.of-2.ensures, ap (λ q. q.terms) o.5);
}

pub returns-in-Err : goal.returns-in-Err
returns-in-Err g c = record { token = tt; key = tt }
