use Rattle.std.proofs.Common.{◌≡◌, ◌∙◌, ◌<◌, ℕ, Option, Some, sym, ap, subst, arith, length, List}
use Rattle.std.proofs.lemmas.List.{length-map}
use Rattle.std.specs.Prelude.{slice_get}
use mathlib.Core.Option.{some}
use lib.ListN.{get_elem?}
use Rattle.hub_rule.specs.Counts.{placed, all_of}
use Rattle.hub_rule.proofs.Sums.{each_to}
use Rattle.hub_rule.proofs.Ends.{full_at, length_placed, each_placed, get_unmap, within_all}
use Rattle.hub_slots.proofs.order.in_order.Goals as goal

pub place_lists-requires : goal.place_lists-requires
place_lists-requires g c = within_all c.args.places.items (all_of (λ l. l.items) c.args.lists.items) c.requires.once

pub unwrap_all-requires-clause-full : goal.unwrap_all-requires-clause-full
unwrap_all-requires-clause-full g c =
    let T : Type 0 = g.row.T.Denot in
    let P : List (Option T) → Type 0 = λ l. (k : ℕ) → k < length l → (x : T) × (slice_get l k ≡ Some (Some x)) in
    subst P (sym c.place_lists.ensures) (full_at c.args.places.items (all_of (λ l. l.items) c.args.lists.items) c.requires.once)

pub unwrap_all-requires-clause-room : goal.unwrap_all-requires-clause-room
unwrap_all-requires-clause-room g c = let a = length_placed c.args.places.items (all_of (λ l. l.items) c.args.lists.items) in let b = ap length c.place_lists.ensures in let r = c.requires.room in (r.0, omega arith)

pub returns : goal.returns
returns g c =
    let T : Type 0 = g.row.T.Denot in
    let out : List T = c.unwrap_all.result.items in
    let is = c.unwrap_all.ensures ∙ c.place_lists.ensures in
    let long = length_placed c.args.places.items (all_of (λ l. l.items) c.args.lists.items) in (
      sym (length-map out (λ (x : T). Some x)) ∙ (ap length is ∙ long),
      each_to (λ n x. get_elem? (placed c.args.places.items (all_of (λ l. l.items) c.args.lists.items)) n ≡ some (Some x)) (λ n x. slice_get out n ≡ Some x)
          (λ n x h. get_unmap out n x (ap {A = List (Option T)} (λ l. get_elem? l n) is ∙ h)) (all_of (λ l. l.items) c.args.lists.items) (each_placed c.args.places.items (all_of (λ l. l.items) c.args.lists.items) c.requires.once),
    )
