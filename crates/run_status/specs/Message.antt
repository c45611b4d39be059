-- The exit status and the message of a status.
use Rattle.std.specs.Prelude.{ℕ, List, [], ◌++◌, codes, decimal, string_bytes}
use Rattle.std.specs.List.{join_by}
use Rattle.std.specs.Fmt.{signed_decimal}
use Rattle.hex.specs.Hex.{encode_lower}
use Rattle.calculus.specs.declared.ids.Digest.{Digest}
use Rattle.command_words.specs.declared.usage.Usage.{Usage}
use Rattle.command_words.specs.declared.usage.Usage.TheVariants as usage
use Rattle.event_log.specs.declared.fault.LogFault.{LogFault}
use Rattle.event_log.specs.declared.fault.LogFault.TheVariants as logged
use Rattle.input_faults.specs.declared.parse_fault.ParseFault.{ParseFault}
use Rattle.input_faults.specs.declared.parse_fault.ParseFault.TheVariants as grammatical
use Rattle.input_faults.specs.declared.source_fault.SourceFault.{SourceFault}
use Rattle.input_faults.specs.declared.source_fault.SourceFault.TheVariants as source
use Rattle.input_faults.specs.declared.state_fault.StateFault.{StateFault}
use Rattle.input_faults.specs.declared.state_fault.StateFault.TheVariants as stated
use Rattle.replays.specs.declared.fault.ReplayFault.{ReplayFault}
use Rattle.replays.specs.declared.fault.ReplayFault.TheVariants as replayed
use Rattle.phlo_meter.specs.declared.fault.PriceFault.{PriceFault}
use Rattle.phlo_meter.specs.declared.fault.PriceFault.TheVariants as faults
use Rattle.rho_lexer.specs.declared.token.LexFault.{LexFault}
use Rattle.rho_lexer.specs.declared.token.LexFault.TheVariants as lexical
use Rattle.input_faults.specs.declared.fault.ScopeFault.{ScopeFault}
use Rattle.input_faults.specs.declared.fault.ScopeFault.TheVariants as scopes
use Rattle.run_status.specs.declared.status.Input.{Input}
use Rattle.run_status.specs.declared.status.Input.TheVariants as input
use Rattle.run_status.specs.declared.status.Status.{Status}
use Rattle.run_status.specs.declared.status.Status.TheVariants as status

-- the number with which the program ends
abbrev pub code_of : Status → ℕ
code_of status.Done = 0
code_of (status.Usage u) = 2
code_of (status.ReadFault i) = 3
code_of status.WriteFault = 4
code_of (status.State f) = 5
code_of (status.Source f) = 6
code_of (status.Prices f) = 7
code_of (status.Limit n m) = 7
code_of (status.Log f) = 8
code_of (status.Replay f) = 9
code_of status.Exhausted = 10
code_of status.Faulted = 11
code_of status.NoMemory = 12
code_of (status.TooLarge i n m) = 13

-- how an input is named in messages
abbrev pub input_name : Input → List ℕ
input_name input.State = codes "state"
input_name input.Prices = codes "prices"
input_name input.Source = codes "source"
input_name input.Log = codes "log"

-- the name and the field of what the words are refused for
abbrev pub usage_text : Usage → List ℕ
usage_text usage.BadWords = codes "BadWords"
usage_text (usage.UnknownVerb name) = codes "UnknownVerb verb=" ++ string_bytes name
usage_text (usage.Missing what) = codes "Missing what=" ++ string_bytes what
usage_text (usage.Surplus what) = codes "Surplus what=" ++ string_bytes what
usage_text (usage.BadNumber what) = codes "BadNumber what=" ++ string_bytes what
usage_text usage.SameFile = codes "SameFile"
usage_text usage.NoMemory = codes "NoMemory"

-- the name and the fields of a fault of the lexer
abbrev pub lex_text : LexFault → List ℕ
lex_text (lexical.BadByte at) = codes "BadByte at=" ++ decimal at
lex_text (lexical.OpenString at) = codes "OpenString at=" ++ decimal at
lex_text (lexical.OpenComment at) = codes "OpenComment at=" ++ decimal at
lex_text (lexical.LiteralTooLarge at) = codes "LiteralTooLarge at=" ++ decimal at
lex_text lexical.NoMemory = codes "NoMemory"

-- the same of a fault of the parser
abbrev pub parse_text : ParseFault → List ℕ
parse_text (grammatical.Syntax at) = codes "Syntax at=" ++ decimal at
parse_text (grammatical.TooDeep at) = codes "TooDeep at=" ++ decimal at
parse_text grammatical.NoMemory = codes "NoMemory"

-- the same of a broken rule of scope
abbrev pub scope_text : ScopeFault → List ℕ
scope_text (scopes.Unbound name) = codes "Unbound name=" ++ string_bytes name
scope_text (scopes.WantsName name) = codes "WantsName name=" ++ string_bytes name
scope_text (scopes.WantsProcess name) = codes "WantsProcess name=" ++ string_bytes name
scope_text (scopes.Repeated name) = codes "Repeated name=" ++ string_bytes name
scope_text scopes.PatternBinder = codes "PatternBinder"
scope_text scopes.PatternWide = codes "PatternWide"
scope_text (scopes.UnderNegation name) = codes "UnderNegation name=" ++ string_bytes name
scope_text (scopes.UnknownUri uri) = codes "UnknownUri uri=" ++ string_bytes uri
scope_text scopes.NoMemory = codes "NoMemory"

-- the same of what a source is refused for
abbrev pub source_text : SourceFault → List ℕ
source_text (source.Lex fault) = lex_text fault
source_text (source.Parse fault) = parse_text fault
source_text (source.Scope fault) = scope_text fault

-- the same of what a price text is refused for
abbrev pub price_text : PriceFault → List ℕ
price_text faults.NotToml = codes "NotToml"
price_text (faults.MissingKey key) = codes "MissingKey key=" ++ string_bytes key
price_text (faults.NotInteger key) = codes "NotInteger key=" ++ string_bytes key
price_text (faults.OutOfRange key value) = codes "OutOfRange key=" ++ (string_bytes key ++ (codes " value=" ++ signed_decimal value))
price_text (faults.UnknownKey key) = codes "UnknownKey key=" ++ string_bytes key
price_text faults.NoMemory = codes "NoMemory"

-- the same of what the bytes of a log are refused for
abbrev pub log_text : LogFault → List ℕ
log_text (logged.Short at) = codes "Short at=" ++ decimal at
log_text (logged.Bad at) = codes "Bad at=" ++ decimal at
log_text (logged.Version found) = codes "Version found=" ++ decimal found
log_text (logged.TooLong entries) = codes "TooLong entries=" ++ decimal entries
log_text logged.NoMemory = codes "NoMemory"

-- a digest in lower-case hexadecimal
abbrev pub digest_text : Digest → List ℕ
digest_text d = encode_lower d.0

-- digests in lower-case hexadecimal, with a comma between each two
abbrev pub digests_text : List Digest → List ℕ
digests_text ds = join_by digest_text (codes ",") ds

-- the same of a step that is still allowed: the id of its receiver, and those of its data
abbrev pub step_text : Digest → List Digest → List ℕ
step_text cont taken = codes "Reducible cont=" ++ (digest_text cont ++ (codes " taken=" ++ digests_text taken))

-- the same of what the bytes of a state are refused for
abbrev pub state_text : StateFault → List ℕ
state_text (stated.Short at) = codes "Short at=" ++ decimal at
state_text (stated.NotCanonical at) = codes "NotCanonical at=" ++ decimal at
state_text (stated.WrongRoot stored found) = codes "WrongRoot stored=" ++ (digest_text stored ++ (codes " found=" ++ digest_text found))
state_text (stated.Reducible cont taken) = step_text cont taken.items
state_text stated.NoMemory = codes "NoMemory"

-- the same of what a log is refused for as that of a run
abbrev pub replay_text : ReplayFault → List ℕ
replay_text (replayed.WrongBase log state) = codes "WrongBase log=" ++ (digest_text log ++ (codes " state=" ++ digest_text state))
replay_text (replayed.WrongSource log given) = codes "WrongSource log=" ++ (digest_text log ++ (codes " given=" ++ digest_text given))
replay_text (replayed.WrongPrices log given) = codes "WrongPrices log=" ++ (digest_text log ++ (codes " given=" ++ digest_text given))
replay_text (replayed.WrongLimit log most) = codes "WrongLimit log=" ++ (decimal log ++ (codes " most=" ++ decimal most))
replay_text (replayed.NoRun step) = codes "NoRun step=" ++ decimal step
replay_text (replayed.Reducible cont taken) = step_text cont taken.items
replay_text replayed.NoMemory = codes "NoMemory"

-- the line that is written for a status, without its end: the group, the name and each field
abbrev pub message_of : Status → List ℕ
message_of status.Done = []
message_of (status.Usage u) = codes "rho: usage: " ++ usage_text u
message_of (status.ReadFault i) = codes "rho: read: ReadFault input=" ++ input_name i
message_of status.WriteFault = codes "rho: write: WriteFault"
message_of (status.State f) = codes "rho: state: " ++ state_text f
message_of (status.Source f) = codes "rho: source: " ++ source_text f
message_of (status.Prices f) = codes "rho: prices: " ++ price_text f
message_of (status.Limit n m) = codes "rho: prices: Limit limit=" ++ (decimal n ++ (codes " most=" ++ decimal m))
message_of (status.Log f) = codes "rho: log: " ++ log_text f
message_of (status.Replay f) = codes "rho: replay: " ++ replay_text f
message_of status.Exhausted = []
message_of status.Faulted = []
message_of status.NoMemory = codes "rho: memory: NoMemory"
message_of (status.TooLarge i n m) = codes "rho: size: TooLarge input=" ++ (input_name i ++ (codes " seen=" ++ (decimal n ++ (codes " max=" ++ decimal m))))
