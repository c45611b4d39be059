use Rattle.std.proofs.Common.{◌≡◌, ℕ, ◌-◌, ◌<◌, List, [], ◌∷◌, sym, ◌∙◌, ap, subst, Vec, Global}
use Rattle.std.specs.List.{AllByRecursion}
use Rattle.events.specs.Found.{without}
use Rattle.shard_counts.specs.Counts.{added}
use Rattle.shard_counts.specs.Keyed.{count_of}
use Rattle.row_table.specs.declared.table.Filed.{Filed}
use Rattle.row_table.specs.Tables.{rows_in, total, IsFiled}
use Rattle.row_table.proofs.Changing.{others-filed, rows-removed}
use Rattle.row_table.proofs.Filing.{under-ids}
use Rattle.row_table.proofs.Totals.{taken, total-removed}
use Rattle.row_table.proofs.table.RowTable.take_one.Goals as goal

pub invariant_of-self : goal.invariant_of-self
invariant_of-self c =
    let i = c.self.inside in
    let t = c.self.invariant in
    let es = i.rows.entries in
    let x = c.args.id.now.0 in
    let f = c.in-Some.filed in
    let sends = c.remove_ids.new.groups.entries in
    let counted-after : (k : Vec ℕ Global) (s : ℕ) → s < 64 → count_of c.remove-in-Some.new.self k.items s ≡ total c.remove.new.self.entries k.items s = λ k s lt.
    taken _ _ _ _ (t.counted k s lt) (total-removed es x f k.items s (sym c.remove.ensures.value ∙ c.in-Some.is)) _
    (c.remove-in-Some.ensures k s lt ∙ ap (λ (qs : List (Vec ℕ Global)). count_of i.shards k.items s - added qs f.counted k.items s) c.as_slice.ensures.value) ∙ ap (λ (fs : List (List ℕ × Filed)). total fs k.items s) (sym c.remove.ensures.entries) in
    record {
      ordered = c.remove.ensures.ordered;
      filed = subst (AllByRecursion (IsFiled sends i.receivers.entries)) (sym c.remove.ensures.entries) (others-filed i.sends.entries i.receivers.entries sends i.receivers.entries x es t.ordered t.filed c.remove_ids.ensures (λ k y n h. h));
      counted = counted-after;
    }

pub invariant_of-self-else-is_send : goal.invariant_of-self-else-is_send
invariant_of-self-else-is_send c =
    let i = c.self.inside in
    let t = c.self.invariant in
    let es = i.rows.entries in
    let x = c.args.id.now.0 in
    let f = c.in-Some.filed in
    let receivers = c.remove_ids-else-is_send.new.groups.entries in
    let counted-after : (k : Vec ℕ Global) (s : ℕ) → s < 64 → count_of c.remove-in-Some.new.self k.items s ≡ total c.remove.new.self.entries k.items s = λ k s lt.
    taken _ _ _ _ (t.counted k s lt) (total-removed es x f k.items s (sym c.remove.ensures.value ∙ c.in-Some.is)) _
    (c.remove-in-Some.ensures k s lt ∙ ap (λ (qs : List (Vec ℕ Global)). count_of i.shards k.items s - added qs f.counted k.items s) c.as_slice.ensures.value) ∙ ap (λ (fs : List (List ℕ × Filed)). total fs k.items s) (sym c.remove.ensures.entries) in
    record {
      ordered = c.remove.ensures.ordered;
      filed = subst (AllByRecursion (IsFiled i.sends.entries receivers)) (sym c.remove.ensures.entries) (others-filed i.sends.entries i.receivers.entries i.sends.entries receivers c.args.id.now.0 i.rows.entries t.ordered t.filed (λ k y n h. h) c.remove_ids-else-is_send.ensures);
      counted = counted-after;
    }

pub returns-then-is_send : goal.returns-then-is_send
returns-then-is_send c =
    let i = c.self.inside in
    let t = c.self.invariant in
    ap rows_in c.remove.ensures.entries ∙ rows-removed c.args.id.now.0 i.rows.entries t.ordered (under-ids i.sends.entries i.receivers.entries i.rows.entries t.filed) ∙ ap (without (c.args.id.now.0 ∷ [])) c.self.view_is

pub returns-in-Some : goal.returns-in-Some
returns-in-Some c =
    let i = c.self.inside in
    let t = c.self.invariant in
    ap rows_in c.remove.ensures.entries ∙ rows-removed c.args.id.now.0 i.rows.entries t.ordered (under-ids i.sends.entries i.receivers.entries i.rows.entries t.filed) ∙ ap (without (c.args.id.now.0 ∷ [])) c.self.view_is

pub returns : goal.returns
returns c =
    let i = c.self.inside in
    let t = c.self.invariant in
    ap rows_in c.remove.ensures.entries ∙ rows-removed c.args.id.now.0 i.rows.entries t.ordered (under-ids i.sends.entries i.receivers.entries i.rows.entries t.filed) ∙ ap (without (c.args.id.now.0 ∷ [])) c.self.view_is
