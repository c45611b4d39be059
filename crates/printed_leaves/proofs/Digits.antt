-- Hexadecimal digits as the port writes them.
use Rattle.std.proofs.Common.{◌≡◌, ℕ, zero, suc, ◌+◌, ◌/◌, ◌%◌, ◌<◌, List, [], ◌∷◌, ◌++◌, length, get_or, refl, sym, ap, ◌∙◌, arith, slice_index}
use Rattle.hex.specs.Hex.{lower_digits, encode_with, encode_lower}
use Rattle.calculus.specs.Texts.{hex_digit, to_hex}

digit_same : (n : ℕ) → n < 16 → hex_digit n ≡ slice_index lower_digits n
digit_same zero h = refl
digit_same (suc zero) h = refl
digit_same (suc (suc zero)) h = refl
digit_same (suc (suc (suc zero))) h = refl
digit_same (suc (suc (suc (suc zero)))) h = refl
digit_same (suc (suc (suc (suc (suc zero))))) h = refl
digit_same (suc (suc (suc (suc (suc (suc zero)))))) h = refl
digit_same (suc (suc (suc (suc (suc (suc (suc zero))))))) h = refl
digit_same (suc (suc (suc (suc (suc (suc (suc (suc zero)))))))) h = refl
digit_same (suc (suc (suc (suc (suc (suc (suc (suc (suc zero))))))))) h = refl
digit_same (suc (suc (suc (suc (suc (suc (suc (suc (suc (suc zero)))))))))) h = refl
digit_same (suc (suc (suc (suc (suc (suc (suc (suc (suc (suc (suc zero))))))))))) h = refl
digit_same (suc (suc (suc (suc (suc (suc (suc (suc (suc (suc (suc (suc zero)))))))))))) h = refl
digit_same (suc (suc (suc (suc (suc (suc (suc (suc (suc (suc (suc (suc (suc zero))))))))))))) h = refl
digit_same (suc (suc (suc (suc (suc (suc (suc (suc (suc (suc (suc (suc (suc (suc zero)))))))))))))) h = refl
digit_same (suc (suc (suc (suc (suc (suc (suc (suc (suc (suc (suc (suc (suc (suc (suc zero))))))))))))))) h = refl
digit_same (suc (suc (suc (suc (suc (suc (suc (suc (suc (suc (suc (suc (suc (suc (suc (suc n)))))))))))))))) h = absurd (omega arith)

-- lower case digits of bytes
pub encoded : (bs : List ℕ) → ((i : ℕ) → get_or bs i 0 < 256) → to_hex bs ≡ encode_lower bs
unfolding encode_with
encoded [] h = refl
encoded (b ∷ bs) h =
    let l : b < 256 = h 0 in
    let high = digit_same (b / 16) (omega arith) in
    let low = digit_same (b % 16) (omega arith) in
    let more = encoded bs (λ i. h (suc i)) in
    cc
