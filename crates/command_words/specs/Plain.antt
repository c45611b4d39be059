-- Plain words: a verb, perhaps a file, and then options, each with its value.
use Rattle.std.specs.Prelude.{◌==◌, ◌&&◌, not, Bool, true, false, List, [], ◌∷◌, find, Option, Some, None, option_map}
use Rattle.std.specs.List.{list_all, list_any}
use Rattle.std.specs.Option.{option_map_or}
use Rattle.std.specs.Str.{bytes_eq}
use Rattle.command_words.specs.Arguments.{Text, id_of, name_of}
use Rattle.command_words.specs.Commands.{Given}
use Rattle.command_words.specs.declared.argument.Argument.{Argument}
use Rattle.command_words.specs.declared.argument.Argument.TheVariants as argument

-- an option and its value
abbrev pub Setting : Type 0
Setting = Argument × Text

-- a verb, perhaps a file, and options with their values
pub record Line : Type 0 where
  pub verb : Text
  pub file : Option Text
  pub settings : List Setting

-- the words of options with their values: an option's word, and then its value
abbrev pub setting_words : List Setting → List Text
setting_words [] = []
setting_words (s ∷ rest) = name_of s.0 ∷ s.1 ∷ setting_words rest

-- the words of a line with a file or none, after the verb
abbrev pub words_after_verb : Option Text → List Setting → List Text
words_after_verb None settings = setting_words settings
words_after_verb (Some file) settings = file ∷ setting_words settings

-- the words of a line
abbrev pub words_of : Line → List Text
words_of line = line.verb ∷ words_after_verb line.file line.settings

-- whether an argument is an option
abbrev pub is_option : Argument → Bool
is_option argument.Verb = false
is_option argument.File = false
is_option _ = true

-- whether a text begins with `-` (45)
abbrev pub begins_with_hyphen : Text → Bool
begins_with_hyphen [] = false
begins_with_hyphen (b ∷ rest) = b == 45

-- whether two arguments are the same
abbrev pub is_same : Argument → Argument → Bool
is_same a b = bytes_eq (id_of a) (id_of b)

-- whether no option stands twice
abbrev pub are_different : List Setting → Bool
are_different [] = true
are_different (s ∷ rest) = not (list_any (λ t. is_same s.0 t.0) rest) && are_different rest

-- whether an option with its value is plain: the value does not begin with `-`
abbrev pub is_plain_setting : Setting → Bool
is_plain_setting s = is_option s.0 && not (begins_with_hyphen s.1)

-- whether a line is plain: no option stands twice, and the verb, the file and the values do not begin with `-`
abbrev pub is_plain : Line → Bool
is_plain line = not (begins_with_hyphen line.verb) && (option_map_or (λ file. not (begins_with_hyphen file)) line.file true
    && (list_all is_plain_setting line.settings && are_different line.settings))

-- the value of an option
abbrev pub value_of : List Setting → Argument → Option Text
value_of settings a = option_map (λ s. s.1) (find (λ s. is_same s.0 a) settings)

-- what a line gives for each argument
abbrev pub given_by : Line → Given
given_by line argument.Verb = Some line.verb
given_by line argument.File = line.file
given_by line a = value_of line.settings a
