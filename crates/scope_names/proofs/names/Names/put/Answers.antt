use Rattle.std.proofs.Common.{◌≡◌, ◌<◌, ◌+◌, ◌^◌, ◌++◌, ◌∷◌, [], length, ap, sym, ◌∙◌, arith, subst}
use Rattle.std.specs.Prelude.{unwrap_or, Some, cond, string_bytes}
use Rattle.std.specs.Str.{bytes_eq}
use Rattle.std.specs.BTreeMap.{get_by_text}
use Rattle.std.proofs.lemmas.Map.Text.{btree_map_updates_text}
use Rattle.scope_names.specs.Places.{IsIndexed}
use Rattle.scope_names.proofs.Places.{put-indexed}
use Rattle.scope_names.proofs.names.Names.put.Goals as goal

pub invariant_of-self-2 : goal.invariant_of-self-2
invariant_of-self-2 c =
    let bs = c.self.inside.bound.items in
    let k : string_bytes c.in_ok-key.key ≡ string_bytes c.args.name = c.in_ok-key.ensures.cases in
    let few : length bs + 1 < 2 ^ 32 = omega arith in
    let o : c.in-Ok.before ≡ get_by_text c.self.inside.last (string_bytes c.in_ok-key.key) = c.in-Ok.ensures.old in
    let e : c.unwrap_or-before.result ≡ unwrap_or (get_by_text c.self.inside.last (string_bytes c.args.name)) 0 = c.unwrap_or-before.ensures ∙ ap (λ x. unwrap_or x 0) (o ∙ ap (get_by_text c.self.inside.last) k) in
    let g = btree_map_updates_text (string_bytes c.in_ok-key.key) c.self.inside.last c.insert.new.self _ c.in-Ok.ensures.updates in
    let p : c.push_reserved.new.self.items ≡ bs ++ record { name = c.args.name; before = c.unwrap_or-before.result } ∷ [] = c.push_reserved.ensures.items ∙ ap (λ z. z ++ record { name = c.args.name; before = c.unwrap_or-before.result } ∷ []) c.in_ok-reserve.ensures.items in
    let l : c.len-2.result ≡ length bs = omega (arith, c.len-2.ensures, ap length c.in_ok-reserve.ensures.items) in
    let m = c.self.inside.last in
    subst (λ z. IsIndexed z c.insert.new.self) (sym p) (put-indexed bs (record { name = c.args.name; before = c.unwrap_or-before.result }) m c.insert.new.self c.self.invariant few e (λ x. g x
    ∙ ap (λ y. cond (bytes_eq y x) (Some (c.len-2.result + 1)) (get_by_text m x)) k
    ∙ ap (λ j. cond (bytes_eq (string_bytes c.args.name) x) (Some (j + 1)) (get_by_text m x)) l))
