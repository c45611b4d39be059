-- Strings and Uris: what may stand between their marks, and where one goes wrong.
use Rattle.std.specs.Prelude.{ℕ, ◌+◌, Bool, true, false, ◌&&◌, ◌||◌, not, ◌==◌, if◌then◌else◌, List, [], ◌∷◌, drop, is_some, Option, Some, None}
use Rattle.std.specs.Option.{option_map, option_and_then}
use Rattle.std.specs.List.{list_any}
use Rattle.std.specs.Str.{is_utf8}
use Rattle.std.specs.Str.Lossy.{utf8_valid_len}
use Rattle.tokens.specs.Bytes.{line_feed, quote, back_quote, backslash}
use Rattle.tokens.specs.Fronts.{longest_front}
use Rattle.tokens.specs.Token.{Refusal, bad_byte, open_string, refusal}

-- what a backslash and this byte stand for
abbrev pub escaped : ℕ → Option ℕ
escaped b =
    if b == quote || b == backslash then Some b
    else (if b == 110 then Some line_feed else (if b == 116 then Some 9 else None))

-- these bytes with one more before them
abbrev pub with_first : ℕ → Option (List ℕ) → Option (List ℕ)
with_first b bytes = option_map (λ bs. b ∷ bs) bytes

-- the bytes as below, by whether a backslash stands before them
unfoldable pub unescaped_after : Bool → List ℕ → Option (List ℕ)
unescaped_after false [] = Some []
unescaped_after true [] = None
unescaped_after false (b ∷ bs) =
    if b == quote then None
    else (if b == backslash then unescaped_after true bs else with_first b (unescaped_after false bs))
unescaped_after true (b ∷ bs) =
    option_and_then (λ c. with_first c (unescaped_after false bs)) (escaped b)

-- the bytes with each escape replaced by what it stands for, where no quote and no backslash stands
-- outside an escape
abbrev pub unescaped : List ℕ → Option (List ℕ)
unescaped bytes = unescaped_after false bytes

-- what the bytes mean between the marks of a string: characters other than the quote and the
-- backslash, and escapes
unfoldable pub string_contents : List ℕ → Option (List ℕ)
string_contents bytes = if is_utf8 bytes then unescaped bytes else None

-- what the bytes mean between the marks of a Uri: characters other than the back quote
unfoldable pub uri_contents : List ℕ → Option (List ℕ)
uri_contents bytes =
    if is_utf8 bytes && not (list_any (λ b. b == back_quote) bytes) then Some bytes else None

-- the bytes before a mark that is the last of them
unfoldable pub before_mark : ℕ → List ℕ → Option (List ℕ)
before_mark mark [] = None
before_mark mark (b ∷ []) = if b == mark then Some [] else None
before_mark mark (b ∷ c ∷ bs) = with_first b (before_mark mark (c ∷ bs))

-- the bytes between a mark that is the first of them and one that is the last
abbrev pub between_marks : ℕ → List ℕ → Option (List ℕ)
between_marks mark [] = None
between_marks mark (b ∷ bs) = if b == mark then before_mark mark bs else None

-- whether a well-formed character begins the bytes
abbrev pub begins_character : List ℕ → Bool
begins_character bytes = not (utf8_valid_len bytes == 0)

-- where a string goes wrong at the backslash at this place, by what stands behind it: the text ends,
-- or no character begins there, or one that makes no escape does; its mark is at `start`
abbrev pub after_backslash : ℕ → ℕ → List ℕ → Refusal
after_backslash start place [] = refusal open_string start
after_backslash start place (b ∷ bs) =
    refusal bad_byte (if begins_character (b ∷ bs) then place else place + 1)

-- where a string or Uri goes wrong, by what stands at the first place from which it doesn't go on:
-- the text ends, or a backslash makes no escape, or no character begins there
abbrev pub unfinished : ℕ → ℕ → List ℕ → Refusal
unfinished start place [] = refusal open_string start
unfinished start place (b ∷ bs) =
    if b == backslash then after_backslash start place bs else refusal bad_byte place

-- where a string or Uri whose mark is at `start`, before these bytes, goes wrong: after its longest
-- front that means something
abbrev pub quoted_refusal : (List ℕ → Option (List ℕ)) → ℕ → List ℕ → Refusal
quoted_refusal contents start bytes =
    let n = longest_front (λ front. is_some (contents front)) bytes in
    unfinished start (start + 1 + n) (drop n bytes)
