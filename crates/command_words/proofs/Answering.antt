-- What is answered for words, by what is answered for clap's matches.
use Rattle.std.proofs.Common.{◌≡◌, ◌∙◌, ◌⊎◌, inl, inr, Option, Result, ap, subst, sym, cond, true, false, List, Some, None, Ok, Err, IsErrAnd, refl}
use Rattle.command_words.specs.Answers.{Answers, GivesAs, answer_of, request_of}
use Rattle.command_words.specs.Arguments.{Text}
use Rattle.command_words.specs.Clap.{has_matches, matched}
use Rattle.command_words.specs.Commands.{Given, Refusal, Request, asked}
use Rattle.command_words.specs.Plain.{Line, given_by, is_plain, words_of}
use Rattle.command_words.specs.declared.argument.Argument.{Argument}
use Rattle.command_words.specs.declared.command.Command.{Command}
use Rattle.command_words.specs.declared.usage.Usage.{Usage}
use Rattle.command_words.specs.declared.usage.Usage.TheVariants.{BadWords, NoMemory}
use Rattle.command_words.proofs.PlainWords.{plain_has_matches, plain_is_matched}

-- what is given alike is asked alike
asked_alike : (g h : Given) → ((a : Argument) → g a ≡ h a) → asked g ≡ asked h
asked_alike g h same = ap asked (λ i a. same a i)

-- the answer of words that clap has matches for
answer_there : (words : List Text) (g : Given) → has_matches words ≡ true → ((a : Argument) → g a ≡ matched words a) → Some (asked g) ≡ answer_of words
answer_there words g there same = ap Some (asked_alike g (matched words) same) ∙ sym (ap (λ b. cond b (Some (asked (matched words))) None) there)

-- what clap's matches ask for is the answer
pub asked_is_answer : (words : List Text) (g : Given) (r : Result Command Usage) → has_matches words ≡ true → ((a : Argument) → g a ≡ matched words a)
    → GivesAs request_of r (asked g) → Answers r (answer_of words)
asked_is_answer words g r there same gives = subst (Answers r) (answer_there words g there same) gives

-- where clap has none, the answer is so, unless memory ran out
refused_is : (words : List Text) (u : Usage) → (u ≡ NoMemory) ⊎ ((u ≡ BadWords) × (has_matches words ≡ false)) → Answers (Err u) (answer_of words)
refused_is words u told = elim told [
  | inl memory ↦ subst (λ (x : Usage). Answers (Err x) (answer_of words)) (sym memory) (no_memory (answer_of words))
  | inr bad ↦ subst (Answers (Err u)) (sym (ap (λ b. cond b (Some (asked (matched words))) None) bad.1)) (inl (ap (λ (x : Usage). Err x) bad.0))
]
  where
    no_memory : (said : Option (Result Request Refusal)) → Answers (Err NoMemory) said
    no_memory None = inr refl
    no_memory (Some x) = tt

pub refused_is_answer : (words : List Text) (r : Result Command Usage) (u : Usage) → IsErrAnd r (λ y. y ≡ u) → (u ≡ NoMemory) ⊎ ((u ≡ BadWords) × (has_matches words ≡ false))
    → Answers r (answer_of words)
refused_is_answer words (Ok c) u is told = absurd is
refused_is_answer words (Err y) u is told = subst (λ (x : Usage). Answers (Err x) (answer_of words)) (sym is) (refused_is words u told)

-- plain words are answered as they say
pub plain_is_answered : (r : Result Command Usage) (words : List Text) → Answers r (answer_of words) → (line : Line) → is_plain line ≡ true → words ≡ words_of line
    → GivesAs request_of r (asked (given_by line))
plain_is_answered r words answers line plain are =
    let there = answer_there (words_of line) (given_by line) (plain_has_matches line plain) (λ a. sym (plain_is_matched line plain a)) in
    subst (Answers r) (ap answer_of are ∙ sym there) answers
