-- Sends of binds on different channels are different rows.
use Rattle.std.proofs.Common.{◌≡◌, Bool, true, false, not, ◌&&◌, List, [], ◌∷◌, map as each, refl, sym, ap, ◌∙◌}
use Rattle.std.specs.Prelude.{◌||◌, Some}
use Rattle.std.specs.Str.{bytes_eq}
use Rattle.calculus.specs.Congruence.{congruent}
use Rattle.calculus.specs.Matching.{Bindings}
use Rattle.calculus.specs.Rows.{Row}
use Rattle.calculus.specs.Steps.{Datum, as_datum, bindings_of, is_one_of, differ}
use Rattle.calculus.proofs.Counting.{bytes_equal}
use Rattle.events.specs.Found.{Among}
use Rattle.rho_term.specs.declared.term.TermBind.{TermBind}
use Rattle.rho_term.specs.Parts.{bind_tree}
use Rattle.process_laws.specs.StorableLaws.{IsApart, AreApart}
use Rattle.row_search.specs.Choices.{Choice, AreChosen, takes}
use Rattle.row_search.specs.Meetings.{rows_with}
use Rattle.found_rows.specs.AtHand.{IdsTell}
use Rattle.row_search.proofs.Known.{bind_channels}
use Rattle.row_search.proofs.Taking.{and_then, on_channel}
use Rattle.row_search.proofs.Apart.{both, no-both}
use Rattle.row_search.proofs.Sound.{chosen_rows, all-among}

-- two binds that take one row are on one channel
one_channel : (a b : TermBind) (r : Row) (xs ys : Bindings) → takes a r ≡ Some xs → takes b r ≡ Some ys → congruent a.channel b.channel ≡ true
one_channel a b r xs ys e f =
    let p = and_then (bindings_of (bind_tree a)) (as_datum r.part) xs e in
    let q = and_then (bindings_of (bind_tree b)) (as_datum r.part) ys f in
    let same : q.0 ≡ p.0 = cc in
    both a.channel b.channel p.0.channel (on_channel a p.0 xs p.2) (ap (λ (d : Datum). congruent b.channel d.channel) (sym same) ∙ on_channel b q.0 ys q.2)

module _ (rs : List Row) (o : Row) (t : IdsTell (rows_with rs o)) where
  alone_in : (a : TermBind) (r : Row) (xs : Bindings) → takes a r ≡ Some xs → Among r (rows_with rs o) → (bs : List TermBind) (cs : List Choice) → IsApart a.channel (bind_channels bs) → AreChosen rs o bs cs
      → is_one_of r.id (each (λ d. d.id) (chosen_rows cs)) ≡ false
  alone_in a r xs e k [] [] h g = refl
  alone_in a r xs e k [] (c ∷ cs) h g = absurd g
  alone_in a r xs e k (b ∷ bs) [] h g = absurd g
  alone_in a r xs e k (b ∷ bs) (c ∷ cs) h g = go (alone_in a r xs e k bs cs h.1 g.1) (bytes_eq r.id c.0.id) refl
    where
      go : is_one_of r.id (each (λ d. d.id) (chosen_rows cs)) ≡ false → (v : Bool) → bytes_eq r.id c.0.id ≡ v → v || is_one_of r.id (each (λ d. d.id) (chosen_rows cs)) ≡ false
      go next true i =
          let same : r ≡ c.0 = t r c.0 k (all-among rs o (b ∷ bs) (c ∷ cs) g).0 (bytes_equal r.id c.0.id i) in
          absurd (no-both (congruent a.channel b.channel) (one_channel a b c.0 xs c.1 (ap (takes a) (sym same) ∙ e) g.0.1) h.0)
      go next false i = next

  pub differs : (bs : List TermBind) (cs : List Choice) → AreApart (bind_channels bs) → AreChosen rs o bs cs → differ (each (λ d. d.id) (chosen_rows cs)) ≡ true
  differs [] [] h g = refl
  differs [] (c ∷ cs) h g = absurd g
  differs (b ∷ bs) [] h g = absurd g
  differs (b ∷ bs) (c ∷ cs) h g =
      ap (λ v. not v && differ (each (λ d. d.id) (chosen_rows cs)))
      (alone_in b c.0 c.1 g.0.1 (all-among rs o (b ∷ bs) (c ∷ cs) g).0 bs cs h.0 g.1) ∙ differs bs cs h.1 g.1
