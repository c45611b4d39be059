-- Proofs of the examples of places.
use Rattle.std.proofs.Common.{◌≡◌, ℕ, List, [], ◌∷◌, refl, arith}
use Rattle.std.specs.Prelude.{true, codes}
use Rattle.calculus.specs.Bytes.{be32}
use Rattle.calculus.specs.Tree.{bool, str}
use Rattle.calculus.specs.Shape.{leaf}
use Rattle.calculus.specs.Examples.{word, yes}
use Rattle.calculus.specs.Code.{code}
use Rattle.calculus.proofs.Opened.{computing}
use Rattle.code_faults.specs.Places.{a_part, field, inner, put, by_code, differs, falls, within, past}
use Rattle.code_faults.specs.ExamplesPlaces.{two_parts, twins, two_sets, OthersStand, PlaceExamples}
use Rattle.code_faults.proofs.Refuting.{ascend-items, one-place}

second_part : OthersStand two_parts (codes "000000021001") (codes "1000")
unfolding computing put by_code
second_part = past _ _ (field (be32 2)) _ _ (past _ _ (inner a_part [] (leaf (bool true))) _ [] (falls _ _ a_part (code (leaf (bool true))) (leaf (bool true)) [] (λ x h. cc h) (λ q. absurd (omega arith))))

outermost : OthersStand two_sets (codes "000000022200000002000000011001000000011001") (codes "2200000002000000011001000000011000")
unfolding computing put by_code
outermost = past _ _ (field (be32 2)) _ _ (past _ _ (inner a_part [] twins) _ [] (falls _ _ a_part (code twins) twins [] (λ x h. cc h) (λ q. absurd (omega arith))))

flag : OthersStand yes (codes "0000000110") (codes "02")
unfolding computing put by_code
flag = past _ _ (field (be32 1)) _ _ (within _ _ a_part [] (leaf (bool true)) [] _ (record { reaches = λ q. record { more = []; up = refl }; fits = λ q. omega arith }) (λ z q. absurd (omega arith)) (past _ _ (field (0x10 ∷ [])) _ [] (differs _ _ (1 ∷ []) [] (λ x y h. cc h))))

cut_number : OthersStand yes [] (codes "000001")
unfolding computing put by_code
cut_number = differs _ _ (be32 1) _ (λ x y h. cc h)

heads : (n m : ℕ) (xs ys : List ℕ) → n ∷ xs ≡ m ∷ ys → n ≡ m
heads n m xs ys e = cc

text : OthersStand (word (codes "a")) (codes "000000011200000001") (codes "FF")
unfolding computing put by_code
text = past _ _ (field (be32 1)) _ _ (within _ _ a_part [] (leaf (str (codes "a"))) [] _ (record { reaches = λ q. record { more = []; up = refl }; fits = λ q. omega arith }) (λ z q. absurd (omega arith)) (past _ _ (field (0x12 ∷ [])) _ _ (past _ _ (field (be32 1)) _ [] (differs _ _ (codes "a") [] (λ x y h. omega (arith, heads 255 97 x y h))))))

pub place_examples : PlaceExamples
place_examples =
    record {
      second_part = second_part;
      not_the_byte_in_it = λ h. one-place second_part h (ascend-items two_parts) refl (omega arith);
      not_the_first_part = λ h. one-place h second_part (ascend-items two_parts) refl (omega arith);
      outermost = outermost;
      not_the_member = λ h. one-place outermost h (ascend-items two_sets) refl (omega arith);
      flag = flag;
      not_its_tag = λ h. one-place h flag (ascend-items yes) refl (omega arith);
      cut_number = cut_number;
      not_a_byte_in_it = λ h. one-place cut_number h (ascend-items yes) refl (omega arith);
      text = text;
    }
