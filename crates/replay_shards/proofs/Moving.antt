-- Rows that are moved out of a map.
use Rattle.std.proofs.Common.{◌≡◌, ℕ, List, [], ◌∷◌, ◌++◌, map as each, sym, ap, ◌∙◌, append_assoc, append-nil, Vec, Global}
use Rattle.std.specs.Prelude.{Option, None}
use Rattle.std.specs.Iterator.{Yields}
use Rattle.std.specs.Map.Iter.{TakesFirst}
use Rattle.std.proofs.lemmas.Map.Iter.{iter_end}
use Rattle.std.proofs.lemmas.List.{map-id, map-append}
use Rattle.hub_scenes.specs.Spaces.{SeenRow, bare}
use Rattle.calculus.specs.Rows.{Row}
use Rattle.replay_space.specs.declared.seen.Seen.{Seen}
use Rattle.replay_rows.specs.Filing.{Filed}
use Rattle.replay_rows.specs.Rows.{filed_rows, seen_row}

-- all entries came where no more comes
pub all-came : (all xs s t u : List (Filed (Seen Row))) (r : Option (Filed (Seen Row))) → s ≡ all → Yields (TakesFirst (λ e. e)) s xs t → r ≡ None → TakesFirst (λ e. e) t r u → xs ≡ all
all-came all xs s t u r e y n f =
    let whole = (iter_end (λ e. e) all xs s t u r e y n f).0 in
    sym (map-id xs) ∙ whole

filed-more : (es : List (Filed (Seen Row))) (x : List ℕ) (v : Vec (Seen Row) Global) → filed_rows (es ++ (x, v) ∷ []) ≡ filed_rows es ++ each seen_row v.items
filed-more [] x v = append-nil (each seen_row v.items)
filed-more (e ∷ es) x v = ap (λ l. each seen_row e.1.items ++ l) (filed-more es x v) ∙ sym (append_assoc (each seen_row e.1.items) (filed_rows es) (each seen_row v.items))

pub bare-more : (es : List (Filed (Seen Row))) (x : List ℕ) (v : Vec (Seen Row) Global) → bare (filed_rows es) ++ bare (each seen_row v.items) ≡ bare (filed_rows (es ++ (x, v) ∷ []))
bare-more es x v = sym (ap bare (filed-more es x v) ∙ map-append (λ (q : SeenRow). q.row) (filed_rows es) (each seen_row v.items))
