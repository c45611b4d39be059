use Rattle.std.proofs.Common.{◌≡◌, ℕ, List, [], ◌∷◌, cond, map, sym, ◌∙◌, ap, subst, Vec, Global}
use Rattle.std.specs.Prelude.{None, IsPermutation}
use Rattle.std.specs.List.{AllByRecursion}
use Rattle.std.specs.List.Sorted.{IsStrictlySortedBy}
use Rattle.std.specs.Map.{keys_of}
use Rattle.calculus.specs.Rows.{Row}
use Rattle.calculus.specs.Steps.{is_one_of}
use Rattle.events.specs.Found.{without}
use Rattle.row_search.specs.Rows.{row_with}
use Rattle.row_search.specs.Rows.{IsIn}
use Rattle.row_table.specs.Groups.{is_send, HasId}
use Rattle.row_table.specs.Tables.{rows_in, total, IsFiled}
use Rattle.row_table.specs.declared.table.Filed.{Filed}
use Rattle.row_table.proofs.Totals.{gained, total-put}
use Rattle.row_table.proofs.Changing.{by_id, all-put, all-still-filed, new-filed, not-found, rows-back, rows-put}
use Rattle.row_table.proofs.Filing.{under-ids}
use Rattle.row_table.proofs.table.RowTable.add.Goals as goal

pub invariant_of-self : goal.invariant_of-self
invariant_of-self c =
    let i = c.self.inside in
    let t = c.self.invariant in
    record {
      ordered = t.ordered;
      filed = all-still-filed i.sends.entries i.receivers.entries c.file_id.new.sends.entries c.file_id.new.receivers.entries i.rows.entries t.filed c.file_id.ensures.sends c.file_id.ensures.receivers;
      counted = t.counted;
    }

pub invariant_of-self-in_err-file_row : goal.invariant_of-self-in_err-file_row
invariant_of-self-in_err-file_row c =
    let i = c.self.inside in
    let t = c.self.invariant in
    let sends = c.file_id.new.sends.entries in
    let receivers = c.file_id.new.receivers.entries in
    let e = sym c.in_err-file_row.ensures.same in
    record {
      ordered = subst (λ (fs : List (List ℕ × Filed)). IsStrictlySortedBy by_id (keys_of fs)) e t.ordered;
      filed = subst (AllByRecursion (IsFiled sends receivers)) e (all-still-filed i.sends.entries i.receivers.entries sends receivers i.rows.entries t.filed c.file_id.ensures.sends c.file_id.ensures.receivers);
      counted = λ k s lt. c.in_err-file_row.ensures.failed k s lt ∙ t.counted k s lt ∙ ap (λ (fs : List (List ℕ × Filed)). total fs k.items s) e;
    }

pub invariant_of-self-2 : goal.invariant_of-self-2
invariant_of-self-2 c =
    let i = c.self.inside in
    let t = c.self.invariant in
    let es = i.rows.entries in
    let sends = c.file_id.new.sends.entries in
    let receivers = c.file_id.new.receivers.entries in
    let x = c.id-id.result.0 in
    let f : Filed = record { row = c.args.row; keys = c.in_ok-keys.keys; counted = c.in_ok-counted.counted } in
    let e = sym c.in_ok-file_row.ensures.rows in
    let there : (k : Vec ℕ Global) → IsIn k f.keys.items → HasId (cond (is_send f.row) sends receivers) k.items x =
    λ k m. subst (λ b. HasId (cond b sends receivers) k.items x) c.is_send-send.ensures.is (c.in_ok-file_id.ensures.there k (subst (λ (l : List (Vec ℕ Global)). IsIn k l) (sym c.as_slice.ensures.value) m)) in
    let new = not-found c.args.row.id (rows_in es) (subst (λ (rs : List Row). row_with c.args.row.id rs ≡ None) (sym c.self.view_is) c.requires) in
    let absent = ap (λ (z : List ℕ). is_one_of z (map (λ (r : Row). r.id) (rows_in es))) c.id-id.ensures ∙ new in
    record {
      ordered = c.in_ok-file_row.ensures.ordered;
      filed = subst (AllByRecursion (IsFiled sends receivers)) e
          (all-put (IsFiled sends receivers) es x f (all-still-filed i.sends.entries i.receivers.entries sends receivers es t.filed c.file_id.ensures.sends c.file_id.ensures.receivers)
          (new-filed sends receivers x f c.id-id.ensures c.is_send-send.ensures.storable c.in_ok-keys.ensures there c.in_ok-counted.ensures));
      counted = λ k s lt. gained _ _ _ _ (t.counted k s lt) (total-put es x f k.items s (under-ids i.sends.entries i.receivers.entries es t.filed) absent) _ (c.in_ok-file_row.ensures.counted k s lt)
          ∙ ap (λ (fs : List (List ℕ × Filed)). total fs k.items s) e;
    }

pub returns-clause-added : goal.returns-clause-added
returns-clause-added c =
    let i = c.self.inside in
    let t = c.self.invariant in
    let es = i.rows.entries in
    let x = c.id-id.result.0 in
    let f : Filed = record { row = c.args.row; keys = c.in_ok-keys.keys; counted = c.in_ok-counted.counted } in
    let new = not-found c.args.row.id (rows_in es) (subst (λ (rs : List Row). row_with c.args.row.id rs ≡ None) (sym c.self.view_is) c.requires) in
    let put = rows-put es x f (under-ids i.sends.entries i.receivers.entries es t.filed) (ap (λ (z : List ℕ). is_one_of z (map (λ (r : Row). r.id) (rows_in es))) c.id-id.ensures ∙ new) in
    subst (λ (rs : List Row). IsPermutation (rows_in c.file_row.new.rows.entries) (c.args.row ∷ rs)) c.self.view_is (subst (λ (fs : List (List ℕ × Filed)). IsPermutation (rows_in fs) (c.args.row ∷ rows_in es)) (sym c.in_ok-file_row.ensures.rows) put)

pub returns-clause-others : goal.returns-clause-others
returns-clause-others c =
    let i = c.self.inside in
    let t = c.self.invariant in
    let es = i.rows.entries in
    let x = c.id-id.result.0 in
    let f : Filed = record { row = c.args.row; keys = c.in_ok-keys.keys; counted = c.in_ok-counted.counted } in
    let new = not-found c.args.row.id (rows_in es) (subst (λ (rs : List Row). row_with c.args.row.id rs ≡ None) (sym c.self.view_is) c.requires) in
    let back = rows-back es x f (under-ids i.sends.entries i.receivers.entries es t.filed) c.id-id.ensures (ap (λ (z : List ℕ). is_one_of z (map (λ (r : Row). r.id) (rows_in es))) c.id-id.ensures ∙ new) in
    ap (λ (z : List ℕ). without (z ∷ []) (rows_in c.file_row.new.rows.entries)) (sym c.id-id.ensures)
    ∙ ap (λ (fs : List (List ℕ × Filed)). without (x ∷ []) (rows_in fs)) c.in_ok-file_row.ensures.rows ∙ back ∙ c.self.view_is
