-- Made inputs are short.
use Rattle.std.proofs.Common.{◌≡◌, ℕ, ◌+◌, ◌%◌, ◌<◌, ◌≤◌, ◌^◌, List, ◌++◌, length, refl, arith, length-append}
use Rattle.std.specs.Prelude.{codes, decimal, if◌then◌else◌, nat_lt, Bool, true, false}
use Rattle.std.proofs.lemmas.Fmt.{length-decimal-le}
use Rattle.made_input.specs.MadeInput.{channel, count_channel, step_channel, sum_channel, start_text, body_text, receive_text, lane_text, number_of, lane_of, made_text}
use Rattle.made_input.specs.Laws.{MadeInputsAreShort}

-- two texts of at most so many bytes
both : (xs ys : List ℕ) (m n : ℕ) → length xs ≤ m → length ys ≤ n → length (xs ++ ys) ≤ m + n
both xs ys m n h k = omega (arith, length-append xs ys, h, k)

-- a text of so many bytes, and one after it
after : (xs ys : List ℕ) (m n : ℕ) → length xs ≡ m → length ys ≤ n → length (xs ++ ys) ≤ m + n
after xs ys m n h k = omega (arith, length-append xs ys, h, k)

short-decimal : (n : ℕ) → n < 2 ^ 32 → length (decimal n) ≤ 10
short-decimal n h = length-decimal-le 10 n (omega arith) (omega (arith, h)) (omega (arith, h))

short-channel : (word : List ℕ) (lane : ℕ) → length word ≤ 3 → lane < 2 ^ 32 → length (channel word lane) ≤ 20
short-channel word lane h k =
    after (codes "@[\"") (word ++ (codes "\", " ++ (decimal lane ++ codes "]"))) 3 17 refl
    (both word (codes "\", " ++ (decimal lane ++ codes "]")) 3 14 h
    (after (codes "\", ") (decimal lane ++ codes "]") 3 11 refl
    (both (decimal lane) (codes "]") 10 1 (short-decimal lane k) (omega arith))))

module _ (lane : ℕ) (small : lane < 2 ^ 32) where
  count : length (count_channel lane) ≤ 20
  count = short-channel (codes "t") lane (omega arith) small

  step : length (step_channel lane) ≤ 20
  step = short-channel (codes "v") lane (omega arith) small

  sum : length (sum_channel lane) ≤ 20
  sum = short-channel (codes "sum") lane (omega arith) small

  short-start : (number : ℕ) → number < 2 ^ 32 → length (start_text lane number) ≤ 63
  short-start number k =
      both (count_channel lane) (codes "!(" ++ (decimal number ++ (codes ", 0) | " ++ (step_channel lane ++ codes "!(1)")))) 20 43 count
      (after (codes "!(") (decimal number ++ (codes ", 0) | " ++ (step_channel lane ++ codes "!(1)"))) 2 41 refl
      (both (decimal number) (codes ", 0) | " ++ (step_channel lane ++ codes "!(1)")) 10 31 (short-decimal number k)
      (after (codes ", 0) | ") (step_channel lane ++ codes "!(1)") 7 24 refl
      (both (step_channel lane) (codes "!(1)") 20 4 step (omega arith)))))

  short-body : length (body_text lane) ≤ 115
  short-body =
      after (codes "if (k > 0) { ") (count_channel lane ++ (codes "!(k - 1, s + v) | " ++ (step_channel lane ++ (codes "!(v + 1) } else { " ++ (sum_channel lane ++ codes "!(s) }"))))) 13 102 refl
      (both (count_channel lane) (codes "!(k - 1, s + v) | " ++ (step_channel lane ++ (codes "!(v + 1) } else { " ++ (sum_channel lane ++ codes "!(s) }")))) 20 82 count
      (after (codes "!(k - 1, s + v) | ") (step_channel lane ++ (codes "!(v + 1) } else { " ++ (sum_channel lane ++ codes "!(s) }"))) 18 64 refl
      (both (step_channel lane) (codes "!(v + 1) } else { " ++ (sum_channel lane ++ codes "!(s) }")) 20 44 step
      (after (codes "!(v + 1) } else { ") (sum_channel lane ++ codes "!(s) }") 18 26 refl
      (both (sum_channel lane) (codes "!(s) }") 20 6 sum (omega arith))))))

  short-receive : length (receive_text lane) ≤ 184
  short-receive =
      after (codes "for (@k, @s <= ") (count_channel lane ++ (codes "; @v <= " ++ (step_channel lane ++ (codes ") { " ++ (body_text lane ++ codes " }"))))) 15 169 refl
      (both (count_channel lane) (codes "; @v <= " ++ (step_channel lane ++ (codes ") { " ++ (body_text lane ++ codes " }")))) 20 149 count
      (after (codes "; @v <= ") (step_channel lane ++ (codes ") { " ++ (body_text lane ++ codes " }"))) 8 141 refl
      (both (step_channel lane) (codes ") { " ++ (body_text lane ++ codes " }")) 20 121 step
      (after (codes ") { ") (body_text lane ++ codes " }") 4 117 refl
      (both (body_text lane) (codes " }") 115 2 short-body (omega arith))))))

  short-lane : (number : ℕ) → number < 2 ^ 32 → length (lane_text lane number) ≤ 250
  short-lane number k =
      both (start_text lane number) (codes " | " ++ receive_text lane) 63 187 (short-start number k)
      (after (codes " | ") (receive_text lane) 3 184 refl short-receive)

one-more : (b : Bool) → (if b then 1 else 0) ≤ 1
one-more true = omega arith
one-more false = omega arith

pub small-number : (lane steps : ℕ) → steps < 2 ^ 32 → number_of lane steps < 2 ^ 32
small-number lane steps h = omega (arith, h, one-more (nat_lt lane (steps % 4)))

short-lane-of : (steps lane : ℕ) → lane < 2 ^ 32 → steps < 2 ^ 32 → length (lane_of steps lane) ≤ 250
short-lane-of steps lane k h = short-lane lane k (number_of lane steps) (small-number lane steps h)

short-made : (steps : ℕ) → steps < 2 ^ 32 → length (made_text steps) ≤ 1010
short-made steps h =
    both (lane_of steps 0) (codes " |\n" ++ (lane_of steps 1 ++ (codes " |\n" ++ (lane_of steps 2 ++ (codes " |\n" ++ (lane_of steps 3 ++ codes "\n")))))) 250 760 (short-lane-of steps 0 (omega arith) h)
    (after (codes " |\n") (lane_of steps 1 ++ (codes " |\n" ++ (lane_of steps 2 ++ (codes " |\n" ++ (lane_of steps 3 ++ codes "\n"))))) 3 757 refl
    (both (lane_of steps 1) (codes " |\n" ++ (lane_of steps 2 ++ (codes " |\n" ++ (lane_of steps 3 ++ codes "\n")))) 250 507 (short-lane-of steps 1 (omega arith) h)
    (after (codes " |\n") (lane_of steps 2 ++ (codes " |\n" ++ (lane_of steps 3 ++ codes "\n"))) 3 504 refl
    (both (lane_of steps 2) (codes " |\n" ++ (lane_of steps 3 ++ codes "\n")) 250 254 (short-lane-of steps 2 (omega arith) h)
    (after (codes " |\n") (lane_of steps 3 ++ codes "\n") 3 251 refl
    (both (lane_of steps 3) (codes "\n") 250 1 (short-lane-of steps 3 (omega arith) h) (omega arith)))))))

pub made_inputs_are_short : MadeInputsAreShort
made_inputs_are_short steps h = omega (arith, short-made steps h)
