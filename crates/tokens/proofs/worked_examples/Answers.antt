use Rattle.tokens.proofs.Examples.{sends_one, bad_byte_alone, open_at_the_end, bad_escape, open_comment, short_comment, too_large, greatest, lone_backslash, two_backslashes, backslash_before_bad_byte, cut_character, uri_holds, key_then_sign, key_apart_from_sign, number_then_word, prefixes, printed_bytes, source_has_no_bytes, printed_name}
use Rattle.tokens.proofs.worked_examples.Goals as goal

pub returns-clause-sends_one : goal.returns-clause-sends_one
returns-clause-sends_one c = sends_one

pub returns-clause-bad_byte_alone : goal.returns-clause-bad_byte_alone
returns-clause-bad_byte_alone c = bad_byte_alone

pub returns-clause-open_at_the_end : goal.returns-clause-open_at_the_end
returns-clause-open_at_the_end c = open_at_the_end

pub returns-clause-bad_escape : goal.returns-clause-bad_escape
returns-clause-bad_escape c = bad_escape

pub returns-clause-open_comment : goal.returns-clause-open_comment
returns-clause-open_comment c = open_comment

pub returns-clause-short_comment : goal.returns-clause-short_comment
returns-clause-short_comment c = short_comment

pub returns-clause-too_large : goal.returns-clause-too_large
returns-clause-too_large c = too_large

pub returns-clause-greatest : goal.returns-clause-greatest
returns-clause-greatest c = greatest

pub returns-clause-lone_backslash : goal.returns-clause-lone_backslash
returns-clause-lone_backslash c = lone_backslash

pub returns-clause-two_backslashes : goal.returns-clause-two_backslashes
returns-clause-two_backslashes c = two_backslashes

pub returns-clause-backslash_before_bad_byte : goal.returns-clause-backslash_before_bad_byte
returns-clause-backslash_before_bad_byte c = backslash_before_bad_byte

pub returns-clause-cut_character : goal.returns-clause-cut_character
returns-clause-cut_character c = cut_character

pub returns-clause-uri_holds : goal.returns-clause-uri_holds
returns-clause-uri_holds c = uri_holds

pub returns-clause-key_then_sign : goal.returns-clause-key_then_sign
returns-clause-key_then_sign c = key_then_sign

pub returns-clause-key_apart_from_sign : goal.returns-clause-key_apart_from_sign
returns-clause-key_apart_from_sign c = key_apart_from_sign

pub returns-clause-number_then_word : goal.returns-clause-number_then_word
returns-clause-number_then_word c = number_then_word

pub returns-clause-prefixes : goal.returns-clause-prefixes
returns-clause-prefixes c = prefixes

pub returns-clause-printed_bytes : goal.returns-clause-printed_bytes
returns-clause-printed_bytes c = printed_bytes

pub returns-clause-source_has_no_bytes : goal.returns-clause-source_has_no_bytes
returns-clause-source_has_no_bytes c = source_has_no_bytes

pub returns-clause-printed_name : goal.returns-clause-printed_name
returns-clause-printed_name c = printed_name
