-- Rows in the order of their codes.
use Rattle.std.proofs.Common.{◌≡◌, ℕ, List, ◌∷◌, ◌++◌, length, map as each, ap, sym, ◌∙◌, append_assoc}
use Rattle.calculus.specs.Bytes.{be64, joined}
use Rattle.calculus.specs.Order.{sorted}
use Rattle.calculus.specs.Root.{root}
use Rattle.calculus.specs.Rows.{Row, row_code}
use Rattle.calculus.proofs.Sorting.{length-sorted}
use Rattle.calculus.proofs.ListCodes.{sorted-ascending, length-map}
use Rattle.events.specs.States.{state_text}
use Rattle.checkpoint.specs.Kept.{AreKept, AreInOrder}
use Rattle.checkpoint.specs.Texts.{head_with, text_with}

-- the text of so many rows of this root and these codes
abbrev text_from : List ℕ → ℕ → List (List ℕ) → List ℕ
text_from d n cs = 82 ∷ 72 ∷ 79 ∷ 83 ∷ 84 ∷ 65 ∷ 84 ∷ 69 ∷ 1 ∷ (d ++ (be64 n ++ joined cs))

-- the text of rows in the order of a state has their codes as they stand
pub text-of-order : (rows : List Row) → AreInOrder rows → text_with (root rows) (each row_code rows) ≡ state_text rows
text-of-order rows h =
    ap (λ n. text_from (root rows) n (each row_code rows)) (length-map row_code rows) ∙ ap (text_from (root rows) (length rows)) (sym (sorted-ascending (each row_code rows) h.ascending))

pub text-in-order : (rows : List Row) → AreKept rows → text_with (root rows) (each row_code rows) ≡ state_text rows
text-in-order rows h = text-of-order rows h.order

-- the text of rows in any order, from their codes as these ascend
pub text-of-sorted : (rows : List Row) (cs : List (List ℕ)) → cs ≡ sorted (each row_code rows) → text_with (root rows) cs ≡ state_text rows
text-of-sorted rows cs e =
    ap (text_with (root rows)) e ∙ ap (λ n. text_from (root rows) n (sorted (each row_code rows))) (length-sorted (each row_code rows) ∙ length-map row_code rows)

-- what stands before the codes, and these
pub head-text : (d : List ℕ) (n : ℕ) (cs : List (List ℕ)) → n ≡ length cs → head_with d n ++ joined cs ≡ text_with d cs
head-text d n cs e = ap (λ z. 82 ∷ 72 ∷ 79 ∷ 83 ∷ 84 ∷ 65 ∷ 84 ∷ 69 ∷ 1 ∷ z) (append_assoc d (be64 n) (joined cs)) ∙ ap (λ m. text_from d m cs) e
