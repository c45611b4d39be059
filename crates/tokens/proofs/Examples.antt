-- The worked examples, by computation.
use Rattle.std.proofs.Common.{refl}
use lib.Utf8.{encode}
use Rattle.std.specs.Str.{is_utf8, chars}
use Rattle.std.specs.Str.Lossy.{utf8_valid_len}
use Rattle.tokens.specs.Examples.{SendsOne, BadByteAlone, OpenAtTheEnd, BadEscape, OpenComment, ShortComment, TooLarge, Greatest, LoneBackslash, TwoBackslashes, BackslashBeforeBadByte, CutCharacter, UriHolds, KeyThenSign, KeyApartFromSign, NumberThenWord, Prefixes, PrintedBytes, SourceHasNoBytes, PrintedName}
use Rattle.tokens.specs.Fronts.{longest_front, place_of}
use Rattle.tokens.specs.Quoted.{unescaped_after, string_contents, uri_contents, before_mark}
use Rattle.tokens.specs.Reading.{step, token_step, at_end, over_gap, over_token, refused}
use Rattle.tokens.specs.Spelling.{token_of}
use Rattle.tokens.specs.Tables.{keys, signs}

pub sends_one : SendsOne
unfolding step token_step token_of keys signs longest_front place_of string_contents uri_contents unescaped_after before_mark is_utf8 chars utf8_valid_len encode
sends_one = over_token refl (over_token refl (over_token refl (over_token refl (over_token refl (at_end refl) refl) refl) refl) refl) refl

pub bad_byte_alone : BadByteAlone
unfolding step token_step token_of keys signs longest_front place_of string_contents uri_contents unescaped_after before_mark is_utf8 chars utf8_valid_len encode
bad_byte_alone = over_token refl (over_gap refl (refused refl)) refl

pub open_at_the_end : OpenAtTheEnd
unfolding step token_step token_of keys signs longest_front place_of string_contents uri_contents unescaped_after before_mark is_utf8 chars utf8_valid_len encode
open_at_the_end = refused refl

pub bad_escape : BadEscape
unfolding step token_step token_of keys signs longest_front place_of string_contents uri_contents unescaped_after before_mark is_utf8 chars utf8_valid_len encode
bad_escape = refused refl

pub open_comment : OpenComment
unfolding step token_step token_of keys signs longest_front place_of string_contents uri_contents unescaped_after before_mark is_utf8 chars utf8_valid_len encode
open_comment = over_token refl (over_gap refl (refused refl)) refl

pub short_comment : ShortComment
unfolding step token_step token_of keys signs longest_front place_of string_contents uri_contents unescaped_after before_mark is_utf8 chars utf8_valid_len encode
short_comment = refused refl

pub too_large : TooLarge
unfolding step token_step token_of keys signs longest_front place_of string_contents uri_contents unescaped_after before_mark is_utf8 chars utf8_valid_len encode
too_large = refused refl

pub greatest : Greatest
unfolding step token_step token_of keys signs longest_front place_of string_contents uri_contents unescaped_after before_mark is_utf8 chars utf8_valid_len encode
greatest = over_token refl (at_end refl) refl

pub lone_backslash : LoneBackslash
unfolding step token_step token_of keys signs longest_front place_of string_contents uri_contents unescaped_after before_mark is_utf8 chars utf8_valid_len encode
lone_backslash = refused refl

pub two_backslashes : TwoBackslashes
unfolding step token_step token_of keys signs longest_front place_of string_contents uri_contents unescaped_after before_mark is_utf8 chars utf8_valid_len encode
two_backslashes = over_token refl (at_end refl) refl

pub backslash_before_bad_byte : BackslashBeforeBadByte
unfolding step token_step token_of keys signs longest_front place_of string_contents uri_contents unescaped_after before_mark is_utf8 chars utf8_valid_len encode
backslash_before_bad_byte = refused refl

pub cut_character : CutCharacter
unfolding step token_step token_of keys signs longest_front place_of string_contents uri_contents unescaped_after before_mark is_utf8 chars utf8_valid_len encode
cut_character = refused refl

pub uri_holds : UriHolds
unfolding step token_step token_of keys signs longest_front place_of string_contents uri_contents unescaped_after before_mark is_utf8 chars utf8_valid_len encode
uri_holds = over_token refl (at_end refl) refl

pub key_then_sign : KeyThenSign
unfolding step token_step token_of keys signs longest_front place_of string_contents uri_contents unescaped_after before_mark is_utf8 chars utf8_valid_len encode
key_then_sign = over_token refl (over_token refl (at_end refl) refl) refl

pub key_apart_from_sign : KeyApartFromSign
unfolding step token_step token_of keys signs longest_front place_of string_contents uri_contents unescaped_after before_mark is_utf8 chars utf8_valid_len encode
key_apart_from_sign = over_token refl (over_gap refl (over_token refl (at_end refl) refl)) refl

pub number_then_word : NumberThenWord
unfolding step token_step token_of keys signs longest_front place_of string_contents uri_contents unescaped_after before_mark is_utf8 chars utf8_valid_len encode
number_then_word = over_token refl (over_token refl (at_end refl) refl) refl

pub prefixes : Prefixes
unfolding step token_step token_of keys signs longest_front place_of string_contents uri_contents unescaped_after before_mark is_utf8 chars utf8_valid_len encode
prefixes = over_token refl (over_token refl (over_token refl (over_token refl (over_gap refl (over_token refl (over_gap refl (at_end refl)) refl)) refl) refl) refl) refl

pub printed_bytes : PrintedBytes
unfolding step token_step token_of keys signs longest_front place_of string_contents uri_contents unescaped_after before_mark is_utf8 chars utf8_valid_len encode
printed_bytes = over_token refl (at_end refl) refl

pub source_has_no_bytes : SourceHasNoBytes
unfolding step token_step token_of keys signs longest_front place_of string_contents uri_contents unescaped_after before_mark is_utf8 chars utf8_valid_len encode
source_has_no_bytes = refused refl

pub printed_name : PrintedName
unfolding step token_step token_of keys signs longest_front place_of string_contents uri_contents unescaped_after before_mark is_utf8 chars utf8_valid_len encode
printed_name = over_token refl (at_end refl) refl
