-- Words, keys and signs are ASCII.
use Rattle.std.proofs.Common.{◌≡◌, ◌<◌, ℕ, Bool, true, List, length, take, refl, arith}
use Rattle.std.specs.List.{list_all, prefix_len}
use Rattle.std.specs.Str.{IsAscii}
use Rattle.std.specs.Prelude.{nat_lt}
use Rattle.std.proofs.lemmas.Bool.{cases_lt, ltb-true}
use Rattle.std.proofs.lemmas.Bool.Decides.{nat_tests}
use Rattle.std.proofs.lemmas.List.{get_or_past}
use Rattle.std.proofs.lemmas.List.Sums.{AllPass-from_list_all}
use Rattle.std.proofs.Math.Logic.{⊎_elim}
use Rattle.tokens.specs.Bytes.{is_word_byte}
use Rattle.tokens.specs.Tables.{keys, signs, is_among}
use Rattle.rho_lexer.proofs.Heads.{among_passes}
use Rattle.rho_lexer.proofs.Steps.{run_passes}

-- where each byte passes a test that only ASCII passes
pub ascii_by : (p : ℕ → Bool) → ((b : ℕ) → p b ≡ true → b < 128) → (xs : List ℕ) → list_all p xs ≡ true → IsAscii xs
ascii_by p small xs h i = ⊎_elim
    (λ l. small _ (AllPass-from_list_all p xs h i 0 l))
    (λ l. let past = get_or_past xs i 0 l in omega arith)
    (cases_lt i (length xs))

abbrev is_ascii_text : List ℕ → Bool
is_ascii_text row = list_all (λ b. nat_lt b 128) row

keys_are_ascii : list_all is_ascii_text keys ≡ true
unfolding keys
keys_are_ascii = refl

signs_are_ascii : list_all is_ascii_text signs ≡ true
unfolding signs
signs_are_ascii = refl

pub key_is_ascii : (xs : List ℕ) → is_among keys xs ≡ true → IsAscii xs
key_is_ascii xs h = ascii_by _ (λ b. ltb-true b 128) xs (among_passes is_ascii_text keys xs keys_are_ascii h)

pub sign_is_ascii : (xs : List ℕ) → is_among signs xs ≡ true → IsAscii xs
sign_is_ascii xs h = ascii_by _ (λ b. ltb-true b 128) xs (among_passes is_ascii_text signs xs signs_are_ascii h)

word_byte_small : (b : ℕ) → is_word_byte b ≡ true → b < 128
word_byte_small b e = grind (arith, nat_tests, e)

pub word_is_ascii : (text : List ℕ) (n : ℕ) → n ≡ prefix_len is_word_byte text → IsAscii (take n text)
word_is_ascii text n e = ascii_by is_word_byte word_byte_small (take n text) (run_passes is_word_byte text n (omega arith))
