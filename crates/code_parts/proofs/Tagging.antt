-- What a tag that cannot be read says of the process or the pattern.
use Rattle.std.proofs.Common.{◌≡◌, ℕ, ◌<◌, ◌≤◌, ◌^◌, List, [], ◌++◌, length, map, refl, sym, subst, ⊎_elim, arith}
use Rattle.std.specs.Prelude.{Bool, true, false, ◌⊎◌}
use Rattle.calculus.specs.Bytes.{be32}
use Rattle.calculus.specs.Tree.{Tree, trees}
use Rattle.calculus.specs.Form.{Scope, part, pat, pat_part, term, wides}
use Rattle.calculus.specs.Variables.{bound_all}
use Rattle.code_faults.specs.declared.fault.ReadFault.{ReadFault}
use Rattle.code_faults.specs.declared.fault.ReadFault.TheVariants.{TooDeep}
use Rattle.code_faults.specs.Beginning.{IsAt}
use Rattle.code_faults.specs.Tags.{is_form_tag, is_pat_form_tag}
use Rattle.code_faults.proofs.Rows.{Row}
use Rattle.code_faults.proofs.Bags.{Bag}
use Rattle.code_faults.proofs.Going.{bag-refused}
use Rattle.code_faults.proofs.LeafRefusals.{deep-refused}
use Rattle.code_faults.proofs.PatGoing.{pat-refused}
use Rattle.code_faults.proofs.NameRefusals.{refuses-at, none-left, wide-refused, term-refused}
use Rattle.code_faults.proofs.PatExits.{deep_pattern-refused}
use Rattle.code_faults.proofs.Blaming.{none-told}
use Rattle.code_faults.proofs.BlamedBags.{bag-deep_blamed, tag-no_form, tag-form, term_blamed}
use Rattle.code_faults.proofs.BlamedPats.{pat-deep_wrong, pat-tag_no_form, pat-tag_form, wide_wrong}
use Rattle.code_faults.proofs.Begins.{a_part}
use Rattle.code_faults.proofs.BegunForms.{term-begun}
use Rattle.code_faults.proofs.BegunParts.{pat-tag_begun}
use Rattle.code_faults.proofs.BegunMore.{bag-none_begun}
use Rattle.code_faults.proofs.Places.{goes-here, goes-at}
use Rattle.code_parts.specs.Outcomes.{Fails}
use Rattle.code_parts.specs.Tagging.{IsEnd, HasNoRoom, IsBelow, IsTooWide}
use Rattle.code_parts.proofs.Counting.{nine-fit}
use Rattle.code_parts.proofs.RowFailures.{term-fails, bag-order-fails}

at-deep : {e : ReadFault} (now : List ℕ) → e ≡ TooDeep (length now) → IsAt e now
at-deep now p = subst (λ (x : ReadFault). IsAt x now) (sym p) refl

module _ {A : Type 0} {f : A → Tree} {v : Scope} {room : ℕ} {e : ReadFault} {xs : List A} {start now last bs : List ℕ} (n : ℕ)
    (h : Bag f part v room xs start now last) (is : bs ≡ be32 n ++ start) (m : n < 2 ^ 32) (i : length xs < n) where
  part-end : IsEnd now e → Fails true term v room bs e
  part-end g = record {
    wrong = none-told _ g.tells;
    refuses = term-refused (bag-refused n bs h is m i (none-left g.refuses));
    begun = λ s. goes-here now (term-begun (bag-none_begun n (a_part _) h is i)) g.place;
  }

  part-deep : HasNoRoom is_form_tag room now e → Fails true term v room bs e
  part-deep g = record {
    wrong = term_blamed (bag-deep_blamed n bs h is m i g.place g.none (tag-form g.is g.form));
    refuses = term-refused (bag-refused n bs h is m i (refuses-at g.is (deep-refused _ g.tag g.form g.none)));
    begun = λ s. goes-here now (term-begun (bag-none_begun n (a_part _) h is i)) (at-deep now g.place);
  }

  part-below : IsBelow last room now e → Fails true term v room bs e
  part-below g = term-fails (bag-order-fails n h is m i (tag-no_form g.is g.fits) (a_part _) g.place g.refuses)

  -- of a process
  pub part_tag-fails : IsEnd now e ⊎ (HasNoRoom is_form_tag room now e ⊎ IsBelow last room now e) → Fails true term v room bs e
  part_tag-fails g = ⊎_elim part-end (λ (k : HasNoRoom is_form_tag room now e ⊎ IsBelow last room now e). ⊎_elim part-deep part-below k) g

module _ {A : Type 0} {f : A → Tree} {b : Bool} {v : Scope} {room : ℕ} {e : ReadFault} {xs : List A} {start now bs : List ℕ} (n w i : ℕ)
    (h : Row f pat_part v room xs start now) (q : b ≡ false → bound_all (trees (map f xs)) ≡ []) (is : bs ≡ be32 n ++ start) (top : n ≤ 9)
    (c : length xs ≡ i) (l : length xs < n) (p : wides (map f xs) ≡ w) (o : w ≤ 1) where
  pat-end : IsEnd now e → Fails b pat v room bs e
  pat-end g = record {
    wrong = none-told _ g.tells;
    refuses = pat-refused bs n h is (nine-fit top) l (none-left g.refuses);
    begun = λ s. goes-here now (pat-tag_begun n w h q is l top p o) g.place;
  }

  pat-deep : HasNoRoom is_pat_form_tag room now e → Fails b pat v room bs e
  pat-deep g = record {
    wrong = pat-deep_wrong bs n h is (nine-fit top) l g.place g.none (pat-tag_form g.is g.form);
    refuses = pat-refused bs n h is (nine-fit top) l (refuses-at g.is (deep_pattern-refused _ g.tag g.form g.none));
    begun = λ s. goes-here now (pat-tag_begun n w h q is l top p o) (at-deep now g.place);
  }

  pat-wide : IsTooWide w i room now e → Fails b pat v room bs e
  pat-wide g = record {
    wrong = wide_wrong bs n h is (nine-fit top) l g.place refl g.is (pat-tag_no_form g.is g.fits) (λ x y. g.many (omega (arith, x, p)) (omega (arith, y, p, c)));
    refuses = wide-refused bs n h is (nine-fit top) l g.is (λ x y. g.many (omega (arith, x, p)) (omega (arith, y, p, c)));
    begun = λ s. goes-at now (pat-tag_begun n w h q is l top p o) g.place refl;
  }

  -- of a pattern
  pub pat_tag-fails : IsEnd now e ⊎ (HasNoRoom is_pat_form_tag room now e ⊎ IsTooWide w i room now e) → Fails b pat v room bs e
  pat_tag-fails g = ⊎_elim pat-end (λ (k : HasNoRoom is_pat_form_tag room now e ⊎ IsTooWide w i room now e). ⊎_elim pat-deep pat-wide k) g
