-- Proofs of the examples of printed texts that spell processes.
use Rattle.std.proofs.Common.{◌≡◌, ◌<◌, ℕ, zero, suc, Bool, true, not, List, [], ◌∷◌, eqb, ltb, get_or, refl, subst, rules, arith}
use Rattle.std.specs.Prelude.{codes, Contains, IsUtf8}
use Rattle.std.specs.List.{list_all}
use Rattle.std.specs.Str.{IsAscii, bytes_eq}
use Rattle.std.proofs.lemmas.Bool.{ltb-true}
use Rattle.std.proofs.lemmas.Int.{ints}
use Rattle.std.proofs.lemmas.List.Sums.{AllPass-from_list_all}
use Rattle.std.proofs.lemmas.Str.{IsUtf8-from_ascii}
use Rattle.calculus.specs.Examples.{zeros}
use Rattle.calculus.specs.Form.{IsBytes, IsClosed, keys}
use Rattle.calculus.proofs.Opened.{computing}
use Rattle.printed_spelling.specs.TextExamples.{SpellingExamples, operators, values, patterns, cases}

-- three bytes of ASCII
ascii : (a b c : ℕ) → a < 128 → b < 128 → c < 128 → IsAscii (a ∷ b ∷ c ∷ [])
ascii a b c h j k zero = h
ascii a b c h j k (suc zero) = j
ascii a b c h j k (suc (suc zero)) = k
ascii a b c h j k (suc (suc (suc i))) = omega arith

small : (a b c : ℕ) → a < 256 → b < 256 → c < 256 → IsBytes (a ∷ b ∷ c ∷ [])
small a b c h j k zero d l = h
small a b c h j k (suc zero) d l = j
small a b c h j k (suc (suc zero)) d l = k
small a b c h j k (suc (suc (suc i))) d l = omega (arith, l)

two_small : IsBytes (1 ∷ 255 ∷ [])
two_small zero d l = omega arith
two_small (suc zero) d l = omega arith
two_small (suc (suc i)) d l = omega (arith, l)

-- what fails a test that all members pass is no member
no_member : {A : Type 0} (p : A → Bool) (xs : List A) (x : A) → list_all p xs ≡ true → (p x ≡ true → ⊥) → Contains xs x → ⊥
no_member p xs x h f c = f (subst (λ y. p y ≡ true) c.2 (AllPass-from_list_all p xs h c.0 x c.1))

no_foo : Contains keys (codes "foo") → ⊥
no_foo = no_member (λ k. not (bytes_eq k (codes "foo"))) keys (codes "foo") refl (λ e. absurd (cc (e)))

no_quote : Contains (codes "a:b") 0x60 → ⊥
no_quote = no_member (λ b. not (eqb b 0x60)) (codes "a:b") 0x60 refl (λ e. absurd (cc (e)))

zeros_small : IsBytes zeros
zeros_small k d l = AllPass-below zeros refl k d l
  where
    AllPass-below : (xs : List ℕ) → list_all (λ b. ltb b 256) xs ≡ true → IsBytes xs
    AllPass-below xs h k d l = ltb-true (get_or xs k d) 256 (AllPass-from_list_all (λ b. ltb b 256) xs h k d l)

uri_is : IsUtf8 (codes "a:b")
uri_is = IsUtf8-from_ascii (codes "a:b") (ascii 97 58 98 (omega arith) (omega arith) (omega arith))

uri_small : IsBytes (codes "a:b")
uri_small = small 97 58 98 (omega arith) (omega arith) (omega arith)

text_is : IsUtf8 (codes "a\"b")
text_is = IsUtf8-from_ascii (codes "a\"b") (ascii 97 34 98 (omega arith) (omega arith) (omega arith))

text_small : IsBytes (codes "a\"b")
text_small = small 97 34 98 (omega arith) (omega arith) (omega arith)

operators_closed : IsClosed operators
operators_closed = search (rules, arith, ints, no_foo)

values_closed : IsClosed values
values_closed = search (rules, arith, ints, zeros_small, two_small, uri_is, uri_small, no_quote, text_is, text_small)

patterns_closed : IsClosed patterns
patterns_closed = search (rules, arith, ints)

cases_closed : IsClosed cases
cases_closed = search (rules, arith, ints)

pub spelling_examples : SpellingExamples
unfolding computing
spelling_examples =
    record {
      operators_are = (operators_closed, omega arith, refl);
      values_are = (values_closed, omega arith, refl);
      patterns_are = (patterns_closed, omega arith, refl);
      cases_are = (cases_closed, omega arith, refl);
    }
